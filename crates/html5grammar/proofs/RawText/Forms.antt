-- Each text after a `<` in raw text goes on as one of the items of raw text, or as one that it ends.
use Rattle.std.proofs.Common.{◌≡◌, ℕ, Bool, true, false, List, [], ◌∷◌, ◌++◌, Option, None, Some, refl, ap, sym, ◌∙◌, arith}
use Rattle.std.specs.Prelude.{◌==◌, ◌||◌, ◌&&◌, not, flat_map, length, nat_eq, if◌then◌else◌}
use Rattle.std.specs.List.{list_all}
use Rattle.std.specs.Str.{bytes_eq}
use Rattle.std.proofs.Math.Bool.{and-false}
use Rattle.std.proofs.lemmas.Bool.{eqb-true, false≢true, and_parts, not-true, ne_eqb}
use Rattle.std.proofs.lemmas.List.{append_assoc, append-nil}
use Rattle.html5ever_interface.specs.declared.interface.token.TagKind.TheVariants.{EndTag}
use Rattle.markup5ever.proofs.NameOrder.{bytes_eq-same}
use Rattle.html5reading.specs.Characters.{exclamation_mark, hyphen, solidus, less_than, greater_than, is_letter}
use Rattle.html5grammar.specs.Tag.{Part, WrittenTag, part_text, place_after_parts, is_attribute_name, written, OpenAttribute, can_follow, is_written, is_open_written, open_written}
use Rattle.html5reading.specs.RawText.{lower, ends_name, kind_of, ends_raw_text}
use Rattle.html5reading.specs.Slice.{run_of, after_run}
use Rattle.html5reading.specs.Start.{Dashes, Raw}
use Rattle.html5reading.specs.Start.Place.{InName}
use Rattle.html5reading.specs.Start.Raw.{Rcdata, Rawtext, ScriptData, Escaped, DoubleEscaped}
use Rattle.html5reading.specs.Tag.{in_tag_name}
use Rattle.html5grammar.specs.RawText.{RawItem, text_after_less_than, item_text, next_is, begins_dashes, begins_name_and_end, is_double_escaped, can_stand}
use Rattle.html5grammar.specs.RawText.RawItem.{Character, LessThan, Letters, Mark, Switch}
use Rattle.html5reading.proofs.Letters.{letter-in_tag_name}
use Rattle.html5grammar.proofs.RawText.Reading.{ends-no_name}
use Rattle.html5grammar.specs.Items.{is_raw_text, is_text_at_once, is_text_later, stands_before, ends_raw}
use Rattle.html5grammar.proofs.Split.{nil≢cons}
use Rattle.html5grammar.proofs.Tag.Forms.{Parts, parts-from, Ending}
use Rattle.html5grammar.proofs.Tag.Forms.Ending.{Closed, CutOff, CutWithin}

-- how a `<` with T after it goes on
pub data RawForm (raw : Raw) (name T : List ℕ) : Type 0 where
  -- a mark or a switch, and F
  AtOnce : (item : RawItem) (F : List ℕ) → is_text_at_once item ≡ true → can_stand name raw item [] ≡ true → less_than ∷ T ≡ item_text raw item ++ F → RawForm raw name T
  -- `<`, or `</` and letters, and c after it, which is text, and F
  Later : (item : RawItem) (c : ℕ) (F : List ℕ) → is_text_later item ≡ true → stands_before name raw item (c ∷ F) ≡ true → is_raw_text raw c ≡ true
      → less_than ∷ T ≡ (item_text raw item ++ c ∷ []) ++ F → RawForm raw name T
  -- the same before a `<`, or before the `&` of a reference
  BeforeMarkup : (item : RawItem) (c : ℕ) (F : List ℕ) → is_text_later item ≡ true → stands_before name raw item (c ∷ F) ≡ true → is_raw_text raw c ≡ false
      → less_than ∷ T ≡ item_text raw item ++ c ∷ F → RawForm raw name T
  -- the end tag, and F
  RawEnd : (tag : WrittenTag) (F : List ℕ) → ends_raw name raw tag ≡ true → is_written tag ≡ true → less_than ∷ T ≡ written tag ++ F → RawForm raw name T
  -- `<`, or `</` and letters, and the end of the text
  OpenItem : (item : RawItem) → is_text_later item ≡ true → can_stand name raw item [] ≡ true → less_than ∷ T ≡ item_text raw item → RawForm raw name T
  -- in escaped script data letters, and the end of the text
  OpenLetters : (dashes : Dashes) (first : ℕ) (letters : List ℕ) → raw ≡ Escaped dashes → list_all is_letter (first ∷ letters) ≡ true → T ≡ first ∷ letters → RawForm raw name T
  -- the end tag without its `>`
  OpenEnd : (tag : WrittenTag) (last : Option OpenAttribute) → ends_raw name raw tag ≡ true → nat_eq (length tag.parts) 0 ≡ false → is_open_written tag last ≡ true
      → less_than ∷ T ≡ open_written tag last → RawForm raw name T

-- an item that begins with `<`
pub item-begins : (raw : Raw) (item : RawItem) → (is_text_at_once item || is_text_later item) ≡ true → item_text raw item ≡ less_than ∷ text_after_less_than (kind_of raw) item
item-begins raw (Character c) h = absurd (false≢true h)
item-begins raw LessThan h = refl
item-begins raw (Letters letters) h = refl
item-begins raw Mark h = refl
item-begins raw (Switch letters c) h = refl

not-none : {A : Type 0} → (x : A) (xs : List A) → nat_eq (length (x ∷ xs)) 0 ≡ false
not-none x xs = ne_eqb (length (x ∷ xs)) 0 (λ e. omega (arith, e))

-- ---- a run of letters

all-run : (text : List ℕ) → list_all is_letter (run_of is_letter text) ≡ true
unfolding run_of
all-run [] = refl
all-run (c ∷ text) = at (is_letter c) refl (all-run text)
  where
    at : (b : Bool) → is_letter c ≡ b → list_all is_letter (run_of is_letter text) ≡ true → list_all is_letter (if b then c ∷ run_of is_letter text else []) ≡ true
    at true h all = rw (h, all) refl
    at false h all = refl

parts-run : (text : List ℕ) → text ≡ run_of is_letter text ++ after_run is_letter text
unfolding run_of after_run
parts-run [] = refl
parts-run (c ∷ text) = at (is_letter c) (parts-run text)
  where
    at : (b : Bool) → text ≡ run_of is_letter text ++ after_run is_letter text
        → c ∷ text ≡ (if b then c ∷ run_of is_letter text else []) ++ (if b then after_run is_letter text else c ∷ text)
    at true e = ap (λ l. c ∷ l) e
    at false e = refl

ends-run : (text : List ℕ) → next_is is_letter (after_run is_letter text) ≡ false
unfolding after_run
ends-run [] = refl
ends-run (c ∷ text) = at (is_letter c) refl (ends-run text)
  where
    at : (b : Bool) → is_letter c ≡ b → next_is is_letter (after_run is_letter text) ≡ false → next_is is_letter (if b then after_run is_letter text else c ∷ text) ≡ false
    at true h e = e
    at false h e = h

-- a text and its first character, which is of a kind
record Next (is_kind : ℕ → Bool) (text : List ℕ) : Type 0 where
  c : ℕ
  more : List ℕ
  parts : text ≡ c ∷ more
  kind : is_kind c ≡ true

next : (is_kind : ℕ → Bool) (text : List ℕ) → next_is is_kind text ≡ true → Next is_kind text
next is_kind [] h = absurd (false≢true h)
next is_kind (c ∷ text) h = record { c = c; more = text; parts = refl; kind = h }

-- the letters of a name, and a character that ends it
name-parts : (text : List ℕ) (n : Next ends_name (after_run is_letter text)) → text ≡ (run_of is_letter text ++ n.c ∷ []) ++ n.more
name-parts text n =
    let run : List ℕ = run_of is_letter text in
    parts-run text ∙ ap (λ l. run ++ l) n.parts ∙ sym (append_assoc run (n.c ∷ []) n.more)

-- ---- `<` that begins no markup

form-later : (raw : Raw) (name : List ℕ) (item : RawItem) (c : ℕ) (F T : List ℕ) → is_text_later item ≡ true → stands_before name raw item (c ∷ F) ≡ true
    → less_than ∷ T ≡ item_text raw item ++ c ∷ F → RawForm raw name T
form-later raw name item c F T later stands e = at (is_raw_text raw c) refl
  where
    at : (b : Bool) → is_raw_text raw c ≡ b → RawForm raw name T
    at true h = Later item c F later stands h (e ∙ sym (append_assoc (item_text raw item) (c ∷ []) F))
    at false h = BeforeMarkup item c F later stands h e

-- ---- the end tag

letters-in_name : (letters : List ℕ) → list_all is_letter letters ≡ true → list_all in_tag_name letters ≡ true
letters-in_name [] h = refl
letters-in_name (c ∷ letters) h =
    let p = and_parts (is_letter c) (list_all is_letter letters) h in
    rw (letter-in_tag_name c p.0, letters-in_name letters p.1) refl

-- what is known of letters that are the name
record IsName (name letters : List ℕ) (c : ℕ) : Type 0 where
  filled : nat_eq (length name) 0 ≡ false
  ends : ends_name c ≡ true
  same : bytes_eq (lower letters) name ≡ true

is-name : (name letters : List ℕ) (c : ℕ) → ends_raw_text name letters c ≡ true → IsName name letters c
unfolding ends_raw_text
is-name name letters c h =
    let p = and_parts (not (nat_eq (length name) 0)) _ h in
    let q = and_parts (ends_name c) (bytes_eq (lower letters) name) p.1 in
    record { filled = not-true (nat_eq (length name) 0) p.0; ends = q.0; same = q.1 }

abbrev end_tag : ℕ → List ℕ → List Part → WrittenTag
end_tag first rest parts = record { kind = EndTag; first = first; rest = rest; parts = parts }

whole-end : (first : ℕ) (rest : List ℕ) (parts : List Part) (Z : List ℕ)
    → less_than ∷ solidus ∷ first ∷ rest ++ (flat_map part_text parts ++ greater_than ∷ Z) ≡ written (end_tag first rest parts) ++ Z
unfolding written
whole-end first rest parts Z =
    let flat : List ℕ = flat_map part_text parts in
    ap (λ l. less_than ∷ solidus ∷ first ∷ l) (sym (append_assoc rest flat (greater_than ∷ Z)) ∙ sym (append_assoc (rest ++ flat) (greater_than ∷ []) Z))

-- after the name something stands
some-cut : (c : ℕ) (F : List ℕ) (parts : List Part) (tail : List ℕ) → c ∷ F ≡ flat_map part_text parts ++ tail → tail ≡ [] → nat_eq (length parts) 0 ≡ false
some-cut c F [] tail e none = absurd (nil≢cons (sym none ∙ sym e))
some-cut c F (part ∷ parts) tail e none = not-none part parts

some-within : (parts : List Part) (first : ℕ) (rest : List ℕ) → is_attribute_name (place_after_parts InName parts) first rest ≡ true → nat_eq (length parts) 0 ≡ false
unfolding place_after_parts
some-within [] first rest h = absurd (false≢true h)
some-within (part ∷ parts) first rest h = not-none part parts

-- by how the parts end
form-ending : (raw : Raw) (name : List ℕ) (first : ℕ) (rest : List ℕ) (c : ℕ) (F : List ℕ) (parts : List Part) (tail T : List ℕ) → ends_raw name raw (end_tag first rest parts) ≡ true
    → list_all is_letter (first ∷ rest) ≡ true → can_follow InName parts ≡ true → c ∷ F ≡ flat_map part_text parts ++ tail → Ending (place_after_parts InName parts) tail
    → T ≡ solidus ∷ first ∷ rest ++ c ∷ F → RawForm raw name T
unfolding is_written is_open_written open_written
form-ending raw name first rest c F parts tail T ends letters follow parts_are (Closed Z closed) e =
    let p = and_parts (is_letter first) (list_all is_letter rest) letters in
    RawEnd (end_tag first rest parts) Z ends (rw (p.0, letters-in_name rest p.1, follow) refl)
    (ap (λ l. less_than ∷ l) e ∙ ap (λ l. less_than ∷ solidus ∷ first ∷ rest ++ l) (parts_are ∙ ap (λ l. flat_map part_text parts ++ l) closed) ∙ whole-end first rest parts Z)
form-ending raw name first rest c F parts tail T ends letters follow parts_are (CutOff stops none) e =
    let p = and_parts (is_letter first) (list_all is_letter rest) letters in
    OpenEnd (end_tag first rest parts) None ends (some-cut c F parts tail parts_are none) (rw (p.0, letters-in_name rest p.1, follow, stops) refl)
    (ap (λ l. less_than ∷ l) e ∙ ap (λ l. less_than ∷ solidus ∷ first ∷ rest ++ l) (parts_are ∙ ap (λ l. flat_map part_text parts ++ l) none))
form-ending raw name first rest c F parts tail T ends letters follow parts_are (CutWithin start more value named cut tail_is) e =
    let p = and_parts (is_letter first) (list_all is_letter rest) letters in
    let last : OpenAttribute = record { first = start; name = more; space = cut.space; afterwards = cut.afterwards; kind = cut.kind; run = cut.run } in
    OpenEnd (end_tag first rest parts) (Some last) ends (some-within parts start more named) (rw (p.0, letters-in_name rest p.1, follow, named, cut.space_white, cut.after_white, cut.is_open) refl)
    (ap (λ l. less_than ∷ l) e ∙ ap (λ l. less_than ∷ solidus ∷ first ∷ rest ++ l) (parts_are ∙ ap (λ l. flat_map part_text parts ++ l) (tail_is ∙ ap (λ l. start ∷ more ++ l) cut.parts)))

-- letters that are the name, and what ends it
form-end : (raw : Raw) (name letters : List ℕ) (c : ℕ) (F T : List ℕ) → is_double_escaped (kind_of raw) ≡ false → list_all is_letter letters ≡ true → IsName name letters c
    → T ≡ solidus ∷ letters ++ c ∷ F → RawForm raw name T
form-end raw [] letters c F T single all n e = absurd (false≢true (sym n.filled))
form-end raw (d ∷ name) [] c F T single all n e = absurd (nil≢cons (bytes_eq-same (lower []) (d ∷ name) n.same))
form-end raw (d ∷ name) (first ∷ rest) c F T single all n e =
    let p : Parts InName (c ∷ F) = parts-from c F (ends-no_name c n.ends) in
    form-ending raw (d ∷ name) first rest c F p.list p.tail T (rw (single, (and_parts (is_letter first) (list_all is_letter rest) all).1, n.same) refl) all p.follow p.parts p.ending e

-- after `</` when no switch stands
form-letters : (raw : Raw) (name letters rest T : List ℕ) → is_double_escaped (kind_of raw) ≡ false → list_all is_letter letters ≡ true → next_is is_letter rest ≡ false
    → T ≡ solidus ∷ letters ++ rest → RawForm raw name T
form-letters raw name letters [] T single all ends e =
    OpenItem (Letters letters) refl (rw (single, all) refl) (ap (λ l. less_than ∷ l) e ∙ ap (λ l. less_than ∷ solidus ∷ l) (append-nil letters))
form-letters raw name letters (c ∷ F) T single all ends e = at (ends_raw_text name letters c) refl
  where
    at : (b : Bool) → ends_raw_text name letters c ≡ b → RawForm raw name T
    at true h = form-end raw name letters c F T single all (is-name name letters c h) e
    at false h = form-later raw name (Letters letters) c F T refl (rw (single, all, ends, h) refl) (ap (λ l. less_than ∷ l) e)

form-solidus : (raw : Raw) (name T : List ℕ) (c : ℕ) → is_double_escaped (kind_of raw) ≡ false → (c == solidus) ≡ true → RawForm raw name (c ∷ T)
form-solidus raw name T c single h =
    form-letters raw name (run_of is_letter T) (after_run is_letter T) (c ∷ T) single (all-run T) (ends-run T)
    (ap (λ d. d ∷ T) (eqb-true c solidus h) ∙ ap (λ l. solidus ∷ l) (parts-run T))

-- ---- by the raw text

form-rcdata : (name : List ℕ) (c : ℕ) (T : List ℕ) (b : Bool) → (c == solidus) ≡ b → RawForm Rcdata name (c ∷ T)
unfolding kind_of
form-rcdata name c T true h = form-solidus Rcdata name T c refl h
form-rcdata name c T false h = form-later Rcdata name LessThan c T (c ∷ T) refl (rw h refl) refl

form-rawtext : (name : List ℕ) (c : ℕ) (T : List ℕ) (b : Bool) → (c == solidus) ≡ b → RawForm Rawtext name (c ∷ T)
unfolding kind_of
form-rawtext name c T true h = form-solidus Rawtext name T c refl h
form-rawtext name c T false h = form-later Rawtext name LessThan c T (c ∷ T) refl (rw h refl) refl

-- two dashes, and the text after them
dashes-parts : (T : List ℕ) → begins_dashes T ≡ true → (F : List ℕ) × (T ≡ hyphen ∷ hyphen ∷ F)
dashes-parts [] h = absurd (false≢true h)
dashes-parts (c ∷ []) h = absurd (false≢true (sym (and-false (c == hyphen)) ∙ h))
dashes-parts (c ∷ d ∷ F) h =
    let p = and_parts (c == hyphen) (d == hyphen) h in
    (F, ap (λ x. x ∷ d ∷ F) (eqb-true c hyphen p.0) ∙ ap (λ x. hyphen ∷ x ∷ F) (eqb-true d hyphen p.1))

form-script : (name : List ℕ) (c : ℕ) (T : List ℕ) (b m : Bool) → (c == solidus) ≡ b → ((c == exclamation_mark) && begins_dashes T) ≡ m → RawForm ScriptData name (c ∷ T)
unfolding kind_of
form-script name c T true m h g = form-solidus ScriptData name T c refl h
form-script name c T false true h g =
    let p = and_parts (c == exclamation_mark) (begins_dashes T) g in
    let d = dashes-parts T p.1 in
    AtOnce Mark d.0 refl refl (ap (λ x. less_than ∷ x ∷ T) (eqb-true c exclamation_mark p.0) ∙ ap (λ l. less_than ∷ exclamation_mark ∷ l) d.1)
form-script name c T false false h g = form-later ScriptData name LessThan c T (c ∷ T) refl (rw (h, g) refl) refl

-- letters and what ends them switch
switches : (dashes : Dashes) (name : List ℕ) (c : ℕ) (letters : List ℕ) (d : ℕ) → list_all is_letter (c ∷ letters) ≡ true → ends_name d ≡ true
    → can_stand name (Escaped dashes) (Switch (c ∷ letters) d) [] ≡ true
unfolding kind_of
switches dashes name c letters d all ends = rw (not-none c letters, all, ends) refl

double-switches : (dashes : Dashes) (name letters : List ℕ) (d : ℕ) → list_all is_letter letters ≡ true → ends_name d ≡ true
    → can_stand name (DoubleEscaped dashes) (Switch letters d) [] ≡ true
unfolding kind_of
double-switches dashes name letters d all ends = rw (all, ends) refl

-- in escaped script data `<` and letters switch, or end the text within them, or are text
form-escaped : (dashes : Dashes) (name : List ℕ) (c : ℕ) (T : List ℕ) (b m l : Bool) → (c == solidus) ≡ b → (is_letter c && begins_name_and_end T) ≡ m → (is_letter c && list_all is_letter T) ≡ l
    → RawForm (Escaped dashes) name (c ∷ T)
unfolding kind_of
form-escaped dashes name c T true m l h g f = form-solidus (Escaped dashes) name T c refl h
form-escaped dashes name c T false true l h g f =
    let p = and_parts (is_letter c) (begins_name_and_end T) g in
    let n : Next ends_name (after_run is_letter T) = next ends_name (after_run is_letter T) p.1 in
    AtOnce (Switch (c ∷ run_of is_letter T) n.c) n.more refl (switches dashes name c (run_of is_letter T) n.c (rw (p.0, all-run T) refl) n.kind) (ap (λ l. less_than ∷ c ∷ l) (name-parts T n))
form-escaped dashes name c T false false true h g f = OpenLetters dashes c T refl f refl
form-escaped dashes name c T false false false h g f = form-later (Escaped dashes) name LessThan c T (c ∷ T) refl (rw (h, g, f) refl) refl

form-double : (dashes : Dashes) (name : List ℕ) (c : ℕ) (T : List ℕ) (m : Bool) → ((c == solidus) && begins_name_and_end T) ≡ m → RawForm (DoubleEscaped dashes) name (c ∷ T)
unfolding kind_of
form-double dashes name c T true g =
    let p = and_parts (c == solidus) (begins_name_and_end T) g in
    let n : Next ends_name (after_run is_letter T) = next ends_name (after_run is_letter T) p.1 in
    AtOnce (Switch (run_of is_letter T) n.c) n.more refl (double-switches dashes name (run_of is_letter T) n.c (all-run T) n.kind) (ap (λ x. less_than ∷ x ∷ T) (eqb-true c solidus p.0) ∙ ap (λ l. less_than ∷ solidus ∷ l) (name-parts T n))
form-double dashes name c T false g = form-later (DoubleEscaped dashes) name LessThan c T (c ∷ T) refl (rw g refl) refl

pub raw-form : (raw : Raw) (name T : List ℕ) → RawForm raw name T
raw-form raw name [] = OpenItem LessThan refl refl refl
raw-form Rcdata name (c ∷ T) = form-rcdata name c T (c == solidus) refl
raw-form Rawtext name (c ∷ T) = form-rawtext name c T (c == solidus) refl
raw-form ScriptData name (c ∷ T) = form-script name c T (c == solidus) ((c == exclamation_mark) && begins_dashes T) refl refl
raw-form (Escaped dashes) name (c ∷ T) = form-escaped dashes name c T (c == solidus) (is_letter c && begins_name_and_end T) (is_letter c && list_all is_letter T) refl refl refl
raw-form (DoubleEscaped dashes) name (c ∷ T) = form-double dashes name c T ((c == solidus) && begins_name_and_end T) refl
