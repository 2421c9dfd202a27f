-- What each word of the command line does to the settings said so far.
use Rattle.std.proofs.Common.{◌≡◌, ◌≢◌, ◌↔◌, ℕ, ◌<◌, ◌^◌, ◌&&◌, true, false, List, [], ◌∷◌, map, Option, None, Some, Result, Ok, Err, refl, sym, ap, ◌∙◌, arith}
use Rattle.std.specs.Prelude.{codes, String, string_bytes, length, nat_lt, unwrap_or, IsSome, if◌then◌else◌}
use Rattle.std.specs.Char.{is_ascii_digit}
use Rattle.std.specs.List.{list_all}
use Rattle.std.specs.Result.{OkIff}
use Rattle.std.proofs.lemmas.Bool.Decides.{Decides-ltb}
use Rattle.std.specs.Str.Parse.{digits_value, ParsesUnsigned}
use Rattle.std.proofs.lemmas.Str.Parse.{IsNumeralModel, numerals_by_value, tells_all_ascii_digits, parse_digits}
use Rattle.std.specs.Option.{is_some, option_map, option_and_then, option_or}
use Rattle.std.specs.Str.{bytes_eq, all_ascii_digits}
use Rattle.std.proofs.lemmas.Bool.{false_from_ne_true, false≢true}
use Rattle.std.proofs.lemmas.Slice.Eq.{bytes_eq-Decides}
use Rattle.html5cli.specs.Settings.{SettingsOf, state_said, cut_said, flag_said, value_said, said_after, with_exact_errors, with_byte_order_mark, with_foreign, with_state, with_last, with_cut, with_table}
use Rattle.html5table.specs.Listed.{listed}
use Rattle.markup5ever.specs.NamedReferences.{NamedReference}

-- an answer that is there just where a list has the form
pub some_from : {X Y : Type 0} {x : X} {r : Option X} (o : Option Y) → IsSome r ↔ IsSome o → r ≡ Some x → IsSome o
some_from o same e = same.0 (ap is_some e)

pub none_from : {X Y : Type 0} {r : Option X} (o : Option Y) → IsSome r ↔ IsSome o → r ≡ None → o ≡ None
none_from None same e = refl
none_from (Some y) same e = absurd (false≢true (sym (ap is_some e) ∙ same.1 refl))

option_or-none : {X : Type 0} (o : Option X) → option_or o None ≡ o
option_or-none None = refl
option_or-none (Some x) = refl

-- a word that stands alone
pub said_after-flag : (s t : SettingsOf) (w : List ℕ) (W : List (List ℕ)) → flag_said s w ≡ Some t → ((v : List ℕ) → value_said s w v ≡ None)
    → said_after s (w ∷ W) ≡ said_after t W
unfolding said_after
said_after-flag s t w [] flag no_value = rw flag refl
said_after-flag s t w (v ∷ W) flag no_value = rw (flag, no_value v) (option_or-none (said_after t (v ∷ W)))

-- a word that wants a value, and has none after it
pub said_after-no_value : (s : SettingsOf) (w : List ℕ) → flag_said s w ≡ None → said_after s (w ∷ []) ≡ None
unfolding said_after
said_after-no_value s w no_flag = rw no_flag refl

-- a word with its value
pub said_after-value : (s : SettingsOf) (w v : List ℕ) (W : List (List ℕ)) → flag_said s w ≡ None
    → said_after s (w ∷ v ∷ W) ≡ option_and_then (λ t. said_after t W) (value_said s w v)
unfolding said_after
said_after-value s w v W no_flag = rw no_flag refl

differs : (w p : List ℕ) → w ≢ p → bytes_eq w p ≡ false
differs w p n = false_from_ne_true (bytes_eq w p) (λ e. n ((bytes_eq-Decides w p).0 e))

-- a word that is not among those that stand alone or have a value
pub record IsUnknown (w : List ℕ) : Type 0 where
  pub no_exact : w ≢ codes "--exact"
  pub no_keep_bom : w ≢ codes "--keep-bom"
  pub no_foreign : w ≢ codes "--foreign"
  pub no_state : w ≢ codes "--state"
  pub no_last : w ≢ codes "--last"
  pub no_cut : w ≢ codes "--cut"
  pub no_table : w ≢ codes "--table"

flag_said-unknown : (s : SettingsOf) (w : List ℕ) → IsUnknown w → flag_said s w ≡ None
unfolding flag_said
flag_said-unknown s w unknown = rw (differs w (codes "--exact") unknown.no_exact, differs w (codes "--keep-bom") unknown.no_keep_bom, differs w (codes "--foreign") unknown.no_foreign) refl

value_said-unknown : (s : SettingsOf) (w v : List ℕ) → IsUnknown w → value_said s w v ≡ None
unfolding value_said
value_said-unknown s w v unknown =
    rw (differs w (codes "--state") unknown.no_state, differs w (codes "--last") unknown.no_last, differs w (codes "--cut") unknown.no_cut, differs w (codes "--table") unknown.no_table) refl

pub said_after-unknown : (s : SettingsOf) (w : List ℕ) (W : List (List ℕ)) → IsUnknown w → said_after s (w ∷ W) ≡ None
said_after-unknown s w [] unknown = said_after-no_value s w (flag_said-unknown s w unknown)
said_after-unknown s w (v ∷ W) unknown =
    said_after-value s w v W (flag_said-unknown s w unknown) ∙ ap (λ o. option_and_then (λ t. said_after t W) o) (value_said-unknown s w v unknown)

-- a list that has the form says its entries
pub some-entries : (o : Option (List NamedReference)) → IsSome o → o ≡ Some (unwrap_or o [])
some-entries None form = absurd (false≢true form)
some-entries (Some entries) form = refl

-- what each word says
pub exact_said : (s : SettingsOf) → (flag_said s (codes "--exact") ≡ Some (with_exact_errors s)) × ((v : List ℕ) → value_said s (codes "--exact") v ≡ None)
unfolding flag_said value_said
exact_said s = (refl, λ v. refl)

pub keep_bom_said : (s : SettingsOf) → (flag_said s (codes "--keep-bom") ≡ Some (with_byte_order_mark s)) × ((v : List ℕ) → value_said s (codes "--keep-bom") v ≡ None)
unfolding flag_said value_said
keep_bom_said s = (refl, λ v. refl)

pub foreign_said : (s : SettingsOf) → (flag_said s (codes "--foreign") ≡ Some (with_foreign s)) × ((v : List ℕ) → value_said s (codes "--foreign") v ≡ None)
unfolding flag_said value_said
foreign_said s = (refl, λ v. refl)

pub state_word : (s : SettingsOf) → (flag_said s (codes "--state") ≡ None) × ((v : List ℕ) → value_said s (codes "--state") v ≡ option_map (with_state s) (state_said v))
unfolding flag_said value_said
state_word s = (refl, λ v. refl)

pub last_word : (s : SettingsOf) → (flag_said s (codes "--last") ≡ None) × ((v : List ℕ) → value_said s (codes "--last") v ≡ Some (with_last s v))
unfolding flag_said value_said
last_word s = (refl, λ v. refl)

pub cut_word : (s : SettingsOf) → (flag_said s (codes "--cut") ≡ None) × ((v : List ℕ) → value_said s (codes "--cut") v ≡ option_map (with_cut s) (cut_said v))
unfolding flag_said value_said
cut_word s = (refl, λ v. refl)

pub table_word : (s : SettingsOf) → (flag_said s (codes "--table") ≡ None) × ((v : List ℕ) → value_said s (codes "--table") v ≡ option_map (with_table s) (listed v))
unfolding flag_said value_said
table_word s = (refl, λ v. refl)

-- the same in a loop over texts, where `all` is what the words say
module _ {Z : Type 0} (s : SettingsOf) (texts rest : List (String Z)) (word : String Z) (all : Option SettingsOf) (h : said_after s (map string_bytes texts) ≡ all) (e : texts ≡ word ∷ rest) where
  first : (w : List ℕ) → string_bytes word ≡ w → said_after s (w ∷ map string_bytes rest) ≡ all
  first w f = sym (ap (λ l. said_after s (map string_bytes l)) e ∙ ap (λ q. said_after s (q ∷ map string_bytes rest)) f) ∙ h

  pub read-flag : (w : List ℕ) (t : SettingsOf) → string_bytes word ≡ w → (flag_said s w ≡ Some t) × ((v : List ℕ) → value_said s w v ≡ None)
      → said_after t (map string_bytes rest) ≡ all
  read-flag w t f said = sym (said_after-flag s t w (map string_bytes rest) said.0 said.1) ∙ first w f

  pub read-unknown : IsUnknown (string_bytes word) → None ≡ all
  read-unknown unknown = sym (said_after-unknown s (string_bytes word) (map string_bytes rest) unknown) ∙ first (string_bytes word) refl

  pub read-no_value : (w : List ℕ) → string_bytes word ≡ w → flag_said s w ≡ None → rest ≡ [] → None ≡ all
  read-no_value w f no_flag none = sym (ap (λ l. said_after s (w ∷ map string_bytes l)) none ∙ said_after-no_value s w no_flag) ∙ first w f

  module _ (later : List (String Z)) (value : String Z) (n : rest ≡ value ∷ later) (w : List ℕ) (f : string_bytes word ≡ w) (no_flag : flag_said s w ≡ None) where
    value_first : option_and_then (λ t. said_after t (map string_bytes later)) (value_said s w (string_bytes value)) ≡ all
    value_first = sym (ap (λ l. said_after s (w ∷ map string_bytes l)) n ∙ said_after-value s w (string_bytes value) (map string_bytes later) no_flag) ∙ first w f

    pub read-value : (t : SettingsOf) → value_said s w (string_bytes value) ≡ Some t → said_after t (map string_bytes later) ≡ all
    read-value t said = sym (ap (λ o. option_and_then (λ t. said_after t (map string_bytes later)) o) said) ∙ value_first

    pub read-bad_value : value_said s w (string_bytes value) ≡ None → None ≡ all
    read-bad_value said = sym (ap (λ o. option_and_then (λ t. said_after t (map string_bytes later)) o) said) ∙ value_first

-- after the last word
module _ {Z : Type 0} (s : SettingsOf) (texts : List (String Z)) (all : Option SettingsOf) (h : said_after s (map string_bytes texts) ≡ all) (e : texts ≡ []) where
  pub read-end : Some s ≡ all
  unfolding said_after
  read-end = sym (ap (λ l. said_after s (map string_bytes l)) e) ∙ h

own : IsNumeralModel (λ ds. all_ascii_digits ds ≡ true) (digits_value 10)
own = numerals_by_value _ tells_all_ascii_digits

pub list_all-digits : (bs : List ℕ) → list_all is_ascii_digit bs ≡ all_ascii_digits bs
list_all-digits [] = refl
list_all-digits (b ∷ bs) = ap (λ r. is_ascii_digit b && r) (list_all-digits bs)

pub cut_said-no_digits : (bs : List ℕ) → all_ascii_digits bs ≡ false → cut_said bs ≡ None
unfolding cut_said
cut_said-no_digits bs e = rw e refl

-- the cut that a parsed number means
abbrev pub parsed_cut : {E : Type 0} → Result ℕ E → Option ℕ
parsed_cut (Ok cut) = if nat_lt 0 cut then Some cut else None
parsed_cut (Err e) = None

cut_said-okiff : {E : Type 0} (bs : List ℕ) (r : Result ℕ E) → all_ascii_digits bs ≡ true → OkIff r ((0 < length bs) × (digits_value 10 bs < 2 ^ 32)) (digits_value 10 bs) → cut_said bs ≡ parsed_cut r
unfolding cut_said
cut_said-okiff bs (Ok cut) all h = rw (all, (Decides-ltb (digits_value 10 bs) (2 ^ 32)).1 h.0.1, h.1) refl
cut_said-okiff [] (Err e) all h = refl
cut_said-okiff (b ∷ bs) (Err e) all h =
    rw (all, false_from_ne_true (nat_lt (digits_value 10 (b ∷ bs)) (2 ^ 32)) (λ t. h (omega arith, (Decides-ltb (digits_value 10 (b ∷ bs)) (2 ^ 32)).0 t))) refl

pub cut_said-parsed : {E : Type 0} (bs : List ℕ) (r : Result ℕ E) → all_ascii_digits bs ≡ true → ParsesUnsigned 32 10 bs r → cut_said bs ≡ parsed_cut r
cut_said-parsed bs r all h = cut_said-okiff bs r all (parse_digits own 32 bs r h all)

pub parsed_cut-positive : {E : Type 0} (r : Result ℕ E) (cut : ℕ) → r ≡ Ok cut → 0 < cut → parsed_cut r ≡ Some cut
parsed_cut-positive r cut e h = ap parsed_cut e ∙ rw ((Decides-ltb 0 cut).1 h) refl
