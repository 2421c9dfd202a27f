-- Characters that are held while they may begin a keyword: the held text of a word, and when none comes.
use Rattle.std.proofs.Common.{◌≡◌, ℕ, ◌+◌, ◌≤◌, ◌<◌, zero, suc, Bool, true, false, List, [], ◌∷◌, ◌++◌, take, length, length-append, refl, ap, sym, ◌∙◌, arith, subst}
use Rattle.std.specs.Prelude.{◌==◌, ◌&&◌, not, cond, map, nat_eq, nat_le, nat_lt, count_by, if◌then◌else◌}
use Rattle.std.specs.Char.{to_ascii_lowercase}
use Rattle.std.specs.Cmp.Lexicographic.{pointwise, same_text, bytes_decides}
use Rattle.std.specs.List.{list_all}
use Rattle.std.specs.Str.{bytes_eq}
use Rattle.std.proofs.Math.Bool.{and-false}
use Rattle.std.proofs.lemmas.Bool.{false≢true, eqb-true, ne_eqb, leb-true, lt-ltb, and_parts, not-true, false_from_ne_true}
use Rattle.std.proofs.lemmas.List.{append_assoc, append-nil, take_at}
use Rattle.std.proofs.lemmas.List.Sums.{sum_by-append}
use lib.Utf8.{encode}
use Rattle.html5ever_interface.specs.Sink.{stepped, on_line}
use Rattle.html5ever_interface.specs.Token.{Told, Reply}
use Rattle.html5reading.specs.Characters.{null, line_feed, greater_than, is_between, shown, value_bytes, lower_case, is_bad_character}
use Rattle.html5reading.specs.NormalisedText.{line_after}
use Rattle.html5grammar.specs.Comment.{begins_with}
use Rattle.html5grammar.specs.Spelled.{spell_silent}
use Rattle.html5reading.specs.Reading.Here.{Tells}
use Rattle.html5reading.specs.Slice.{Late, run_while, after_while, tokens_of_late}
use Rattle.html5reading.specs.Start.{Input, Open, Rules}
use Rattle.html5grammar.specs.RawText.{next_is}
use Rattle.html5reading.proofs.GoodCharacters.{good_between}
use Rattle.html5reading.proofs.InputLemmas.{line_after-past}
use Rattle.html5grammar.proofs.Leading.{Leads}
use Rattle.html5reading.specs.Machine.{step_at, brought_at}
use Rattle.html5grammar.proofs.Comment.Text.{bytes_of}
use Rattle.html5reading.proofs.Traces.{trace_brought, trace, with_messages, trace_here}

-- ---- held characters are their own bytes, no line breaks and no errors

abbrev pub is_good : ℕ → Bool
is_good c = not (is_bad_character c) && not (c == null)

pub record IsPlain (text : List ℕ) : Type 0 where
  pub bytes : bytes_of text ≡ text
  pub lines : count_by (λ c. c == line_feed) text ≡ 0
  -- none is an error by itself
  pub good : list_all is_good text ≡ true

abbrev pub IsPlainCharacter : ℕ → Type 0
IsPlainCharacter c = (value_bytes c ≡ c ∷ []) × ((c == line_feed) ≡ false) × (is_good c ≡ true)

plain-byte : (c : ℕ) → c < 128 → (c == null) ≡ false → value_bytes c ≡ c ∷ []
unfolding value_bytes shown encode
plain-byte c small other = rw (other, lt-ltb c 128 small) refl

-- texts that are a prefix of a word, by what is compared of each character
module _ (compared : ℕ → ℕ) (is_kind : ℕ → Bool) (plain : (c : ℕ) → is_kind (compared c) ≡ true → IsPlainCharacter c) where
  pub plain-beginning : (text word : List ℕ) (n : ℕ) → list_all is_kind word ≡ true → pointwise nat_eq (map compared text) (take n word) ≡ true → IsPlain text
  plain-beginning [] word n kind h = record { bytes = refl; lines = refl; good = refl }
  plain-beginning (c ∷ text) word zero kind h = absurd (false≢true h)
  plain-beginning (c ∷ text) [] (suc n) kind h = absurd (false≢true h)
  plain-beginning (c ∷ text) (y ∷ word) (suc n) kind h =
      let p = and_parts (nat_eq (compared c) y) (pointwise nat_eq (map compared text) (take n word)) h in
      let q = and_parts (is_kind y) (list_all is_kind word) kind in
      let here = plain c (ap is_kind (eqb-true (compared c) y p.0) ∙ q.0) in
      let rest : IsPlain text = plain-beginning text word n q.1 p.1 in
      record { bytes = rw (here.0, rest.bytes) refl; lines = rw (here.1, rest.lines) refl; good = rw (here.2, rest.good) refl }

lower-range : (c : ℕ) (small capital : Bool) → is_between 97 122 (cond small c (cond capital (c + 32) c)) ≡ true → (65 ≤ c) × (c ≤ 122)
lower-range c true capital h =
    let p = and_parts (nat_le 97 c) (nat_le c 122) h in
    (omega (arith, leb-true 97 c p.0), leb-true c 122 p.1)
lower-range c false true h =
    let p = and_parts (nat_le 97 (c + 32)) (nat_le (c + 32) 122) h in
    (omega (arith, leb-true 97 (c + 32) p.0), omega (arith, leb-true (c + 32) 122 p.1))
lower-range c false false h =
    let p = and_parts (nat_le 97 c) (nat_le c 122) h in
    (omega (arith, leb-true 97 c p.0), leb-true c 122 p.1)

pub plain-between : (c : ℕ) → 65 ≤ c → c ≤ 122 → IsPlainCharacter c
plain-between c low high =
    let other : (c == null) ≡ false = ne_eqb c null (λ e. omega (arith, e, low)) in (
      plain-byte c (omega (arith, high)) other,
      ne_eqb c line_feed (λ e. omega (arith, e, low)),
      rw (good_between c (omega (arith, low)) (omega (arith, high)), other) refl,
    )

plain-letter : (c : ℕ) → is_between 97 122 (to_ascii_lowercase c) ≡ true → IsPlainCharacter c
plain-letter c h =
    let range = lower-range c (nat_lt c 65) (nat_lt c 91) h in
    plain-between c range.0 range.1

-- a prefix of a word of letters, in any case
pub plain-word : (text word : List ℕ) → list_all (is_between 97 122) word ≡ true → begins_with (lower_case text) word ≡ true → IsPlain text
plain-word text word letters h = plain-beginning to_ascii_lowercase (is_between 97 122) plain-letter text word (length (lower_case text)) letters h

pub line-plain : (input : Input) (before held : List ℕ) → IsPlain held → line_after input (before ++ held) ≡ line_after input before
unfolding line_after
line-plain input before held plain =
    rw (sum_by-append (λ (c : ℕ). cond (c == line_feed) 1 0) before held, plain.lines) (omega arith)

-- ---- prefixes of words

pub begins-word : (word rest : List ℕ) → begins_with word (word ++ rest) ≡ true
begins-word word rest = ap (pointwise nat_eq word) (take_at word rest (length word) refl) ∙ (bytes_decides word word).1 refl

-- a prefix is not the whole
pub no_whole : (front : List ℕ) (c : ℕ) (rest : List ℕ) → bytes_eq front (front ++ c ∷ rest) ≡ false
no_whole front c rest =
    let more : length (c ∷ rest) ≡ 1 + length rest = omega arith in
    false_from_ne_true (bytes_eq front (front ++ c ∷ rest)) (λ h.
    let e : length front ≡ length (front ++ c ∷ rest) = ap length (same_text front (front ++ c ∷ rest) (sym h)) in
    omega (arith, e, length-append front (c ∷ rest), more))

-- a word with which a text doesn't begin is not one of its prefixes
pub no_beginning : (word content front rest : List ℕ) → begins_with word content ≡ false → content ≡ front ++ rest → bytes_eq front word ≡ false
no_beginning word content front rest h split =
    false_from_ne_true (bytes_eq front word) (λ e. false≢true (sym h
    ∙ ap (begins_with word) (split ∙ ap (λ l. l ++ rest) (same_text front word (sym e))) ∙ begins-word word rest))

-- no word without this character begins with a text that has it last
pub none_with : (text word : List ℕ) (x n : ℕ) → list_all (λ y. not (x == y)) word ≡ true → pointwise nat_eq (text ++ x ∷ []) (take n word) ≡ false
none_with [] word x zero h = refl
none_with [] [] x (suc n) h = refl
none_with [] (y ∷ word) x (suc n) h =
    let p = and_parts (not (x == y)) (list_all (λ z. not (x == z)) word) h in rw (not-true (x == y) p.0) refl
none_with (z ∷ text) word x zero h = refl
none_with (z ∷ text) [] x (suc n) h = refl
none_with (z ∷ text) (y ∷ word) x (suc n) h =
    let p = and_parts (not (x == y)) (list_all (λ z. not (x == z)) word) h in
    ap (λ t. nat_eq z y && t) (none_with text word x n p.1) ∙ and-false (nat_eq z y)

-- ---- the held text, by a test of prefixes

pub while-parts : (begins : List ℕ → Bool) (before text : List ℕ) → run_while begins before text ++ after_while begins before text ≡ text
unfolding run_while after_while
while-parts begins before [] = refl
while-parts begins before (c ∷ text) =
    let past : List ℕ = before ++ c ∷ [] in
    elim (begins past) as (λ b. (if b then c ∷ run_while begins past text else []) ++ (if b then after_while begins past text else c ∷ text) ≡ c ∷ text) [
      | true ↦ ap (λ l. c ∷ l) (while-parts begins past text)
      | false ↦ refl
    ]

pub begins-while : (begins : List ℕ → Bool) (before text : List ℕ) → begins before ≡ true → begins (before ++ run_while begins before text) ≡ true
unfolding run_while
begins-while begins before [] h = ap begins (append-nil before) ∙ h
begins-while begins before (c ∷ text) h =
    let past : List ℕ = before ++ c ∷ [] in
    elim (begins past) as (λ b. begins past ≡ b → begins (before ++ (if b then c ∷ run_while begins past text else [])) ≡ true) [
      | true ↦ λ e. ap begins (sym (append_assoc before (c ∷ []) (run_while begins past text))) ∙ begins-while begins past text e
      | false ↦ λ e. ap begins (append-nil before) ∙ h
    ] refl

-- the character after the held text decides, be it a `>`, with which nothing begins
pub decides-while : (begins : List ℕ → Bool) → ((text : List ℕ) → begins (text ++ greater_than ∷ []) ≡ false) → (before text : List ℕ)
    → next_is (λ d. not (begins ((before ++ run_while begins before text) ++ d ∷ []))) (after_while begins before text ++ greater_than ∷ []) ≡ true
unfolding run_while after_while
decides-while begins none before [] = ap not (none (before ++ []))
decides-while begins none before (c ∷ text) =
    let past : List ℕ = before ++ c ∷ [] in
    elim (begins past) as (λ b. begins past ≡ b
    → next_is (λ d. not (begins ((before ++ (if b then c ∷ run_while begins past text else [])) ++ d ∷ []))) ((if b then after_while begins past text else c ∷ text) ++ greater_than ∷ []) ≡ true) [
      | true ↦ λ e.
          subst (λ l. next_is (λ d. not (begins (l ++ d ∷ []))) (after_while begins past text ++ greater_than ∷ []) ≡ true)
          (append_assoc before (c ∷ []) (run_while begins past text)) (decides-while begins none past text)
      | false ↦ λ e. ap not (ap (λ l. begins (l ++ c ∷ [])) (append-nil before) ∙ e)
    ] refl

-- ---- the machine holds them

module _ (rules : Rules) (undecided : List ℕ → Open) where
  -- a character is held
  abbrev pub IsHeld : List ℕ → ℕ → Type 0
  IsHeld held c = (foreign : Bool) → brought_at rules foreign (undecided held) c ≡ record { settled = []; here = Tells [] (undecided (held ++ c ∷ [])) }

  -- characters that are held one after another tell nothing, and stay undecided
  pub leads-while : (begins : List ℕ → Bool) (content : List ℕ)
      → ((held : List ℕ) (c : ℕ) (later : List ℕ) → content ≡ held ++ c ∷ later → begins (held ++ c ∷ []) ≡ true → IsHeld held c)
      → (before text : List ℕ) → content ≡ before ++ text
      → Leads rules (undecided before) (spell_silent (run_while begins before text)) (undecided (before ++ run_while begins before text))
  unfolding Leads run_while
  leads-while begins content holds before [] split = ap undecided (sym (append-nil before))
  leads-while begins content holds before (c ∷ text) split =
      let past : List ℕ = before ++ c ∷ [] in
      let more : List ℕ = run_while begins past text in
      elim (begins past) as (λ b. begins past ≡ b → Leads rules (undecided before) (spell_silent (if b then c ∷ more else [])) (undecided (before ++ (if b then c ∷ more else [])))) [
        | true ↦ λ e. (
          undecided past,
          holds before c text split e,
          subst (λ l. Leads rules (undecided past) (spell_silent more) (undecided l)) (append_assoc before (c ∷ []) more)
              (leads-while begins content holds past text (split ∙ sym (append_assoc before (c ∷ []) text))),
        )
        | false ↦ λ e. ap undecided (sym (append-nil before))
      ] refl

  -- a whole word, in any case, at whose last character another place is reached
  pub leads-word : (word : List ℕ) (later : Open)
      → ((held : List ℕ) (c d : ℕ) (rest : List ℕ) → lower_case ((held ++ c ∷ []) ++ d ∷ rest) ≡ word → IsHeld held c)
      → ((held : List ℕ) (c : ℕ) → lower_case (held ++ c ∷ []) ≡ word → (foreign : Bool) → brought_at rules foreign (undecided held) c ≡ record { settled = []; here = Tells [] later })
      → (held : List ℕ) (c : ℕ) (rest : List ℕ) → lower_case (held ++ c ∷ rest) ≡ word
      → Leads rules (undecided held) (spell_silent (c ∷ rest)) later
  unfolding Leads
  leads-word word later holds ends held c [] e = (later, ends held c e, refl)
  leads-word word later holds ends held c (d ∷ rest) e =
      let past : lower_case ((held ++ c ∷ []) ++ d ∷ rest) ≡ word = ap lower_case (append_assoc held (c ∷ []) (d ∷ rest)) ∙ e in
      (undecided (held ++ c ∷ []), holds held c d rest past, leads-word word later holds ends (held ++ c ∷ []) d rest past)

-- all of these are held, by the sink's answer
module _ (rules : Rules) (undecided : List ℕ → Open) (foreign : Bool) where
  abbrev pub IsHeldBy : List ℕ → ℕ → Type 0
  IsHeldBy held c = brought_at rules foreign (undecided held) c ≡ record { settled = []; here = Tells [] (undecided (held ++ c ∷ [])) }

  unfoldable pub AreHeld : List ℕ → List ℕ → Type 0
  AreHeld held [] = Unit {0}
  AreHeld held (c ∷ run) = IsHeldBy held c × AreHeld (held ++ c ∷ []) run

  -- characters that are held one after another, by the sink's answer
  pub held-while : (begins : List ℕ → Bool) (content : List ℕ)
      → ((held : List ℕ) (c : ℕ) (later : List ℕ) → content ≡ held ++ c ∷ later → begins (held ++ c ∷ []) ≡ true → IsHeldBy held c)
      → (before text : List ℕ) → content ≡ before ++ text → AreHeld before (run_while begins before text)
  unfolding AreHeld run_while
  held-while begins content holds before [] split = tt
  held-while begins content holds before (c ∷ text) split =
      let past : List ℕ = before ++ c ∷ [] in
      elim (begins past) as (λ b. begins past ≡ b → AreHeld before (if b then c ∷ run_while begins past text else [])) [
        | true ↦ λ e. (holds before c text split e, held-while begins content holds past text (split ∙ sym (append_assoc before (c ∷ []) text)))
        | false ↦ λ e. tt
      ] refl

-- what is sent where a character decides. Then it is read where something else is open.

module _ {S H : Type 0} (step : S → Told → ℕ → S) (reply : S → Told → ℕ → Reply H) (foreign : S → Bool) (rules : Rules) where
  pub trace-settles : (s : S) (line : ℕ) (last : List ℕ) (undecided afterwards : Open) (late : List Late) (c : ℕ) (text : List ℕ)
      → brought_at rules (foreign s) undecided c ≡ record { settled = late; here = step_at rules.exact afterwards c }
      → ((other : Bool) → brought_at rules other afterwards c ≡ record { settled = []; here = step_at rules.exact afterwards c })
      → trace step reply foreign rules s line last undecided (c ∷ text)
      ≡ with_messages (on_line line (tokens_of_late late)) (trace step reply foreign rules (stepped step s (on_line line (tokens_of_late late))) line last afterwards (c ∷ text))
  unfolding trace trace_brought stepped
  trace-settles s line last undecided afterwards late c text e f = rw (e, f (foreign (stepped step s (on_line line (tokens_of_late late))))) refl

  -- held characters tell nothing
  pub trace-held : (undecided : List ℕ → Open) (input : Input) (before : List ℕ) (s : S) (last held run text : List ℕ)
      → AreHeld rules undecided (foreign s) held run → list_all is_good run ≡ true
      → trace step reply foreign rules s (line_after input before) last (undecided held) (run ++ text)
      ≡ trace step reply foreign rules s (line_after input (before ++ run)) last (undecided (held ++ run)) text
  unfolding AreHeld trace trace_brought trace_here stepped
  trace-held undecided input before s last held [] text holds good = rw (append-nil before, append-nil held) refl
  trace-held undecided input before s last held (c ∷ run) text holds good =
      let p = and_parts (is_good c) (list_all is_good run) good in
      let q = and_parts (not (is_bad_character c)) (not (c == null)) p.0 in
      rw (holds.0, ← line_after-past input before c, not-true (is_bad_character c) q.0, and-false rules.exact)
      (trace-held undecided input (before ++ c ∷ []) s last (held ++ c ∷ []) run text holds.1 p.1
      ∙ ap (λ b. trace step reply foreign rules s (line_after input b) last (undecided ((held ++ c ∷ []) ++ run)) text) (append_assoc before (c ∷ []) run)
      ∙ ap (λ b. trace step reply foreign rules s (line_after input (before ++ c ∷ run)) last (undecided b) text) (append_assoc held (c ∷ []) run))
