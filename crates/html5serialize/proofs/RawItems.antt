-- Raw text without the end tag of its element is items of the grammar, and tells its characters.
use Rattle.std.proofs.Common.{◌≡◌, ℕ, ◌<◌, Bool, true, false, length, arith, List, [], ◌∷◌, ◌++◌, refl, ap, sym, ◌∙◌, subst}
use Rattle.std.specs.Prelude.{◌==◌, ◌&&◌, ◌||◌, not, nat_eq, codes, encode_utf8, if◌then◌else◌}
use Rattle.std.specs.List.{list_all, starts_with}
use Rattle.std.specs.Char.{to_ascii_lowercase}
use Rattle.std.specs.Str.{bytes_eq}
use Rattle.std.proofs.lemmas.Bool.{and_parts, not-true, false≢true, eqb-true, false_from_ne_true}
use Rattle.std.proofs.Math.Bool.{and-false}
use Rattle.std.proofs.lemmas.Bool.Decides.{nat_tests}
use Rattle.std.proofs.lemmas.List.Folds.{list_all-append}
use Rattle.std.proofs.lemmas.Str.{encode_ascii}
use Rattle.std.proofs.lemmas.List.{append_assoc, append-nil, map-append}
use Rattle.html5ever_interface.specs.Token.{Told}
use Rattle.html5ever_interface.specs.Token.Told.{Text}
use Rattle.html5reading.specs.Characters.{null, less_than, greater_than, solidus, hyphen, exclamation_mark, is_letter, is_white_space, name_bytes, shown}
use Rattle.html5reading.specs.RawText.{texts, lower, raw_character, raw_after, kind_of, dashes_after, is_two, switched, told_at_less_than, told_after_less_than, ends_name, ends_raw_text, is_rcdata}
use Rattle.html5reading.specs.Slice.{after_run}
use Rattle.html5reading.specs.Start.{Dashes, Raw, raw_of}
use Rattle.html5reading.specs.Start.Dashes.{NoDash, TwoDashes}
use Rattle.html5reading.specs.Start.Raw.{Rawtext, ScriptData, Escaped}
use Rattle.html5grammar.specs.RawText.{RawItem, raw_after_item, item_text, items_text, is_alone_before, is_double_escaped, begins_dashes, begins_name_and_end, can_stand, can_follow, carried, carried_to, carried_after, spell_item, spell_items, spell_text, raw_after_items}
use Rattle.html5grammar.specs.RawText.RawItem.{Character, LessThan, Letters, Mark, Switch}
use Rattle.html5grammar.specs.Spelled.{Spelled, spell_silent}
use Rattle.html5grammar.specs.Comment.{occurs}
use Rattle.html5grammar.proofs.Tag.Values.{both-none}
use Rattle.html5write.specs.Pieces as pieces
use Rattle.html5serialize.specs.RawTexts.{begins_end, begins_name, has_end, has_start, may_hide}
use Rattle.html5serialize.proofs.Errors.{proper_tokens, proper_cells, proper_tokens-append, cells-append, cells-errors, tell-silent}

-- ---- where raw text stands

-- in a `style`, in a script, and there after `<!--` with the dashes directly before
pub data Where : Type 0 where
  InStyle : Where
  InScript : Where
  InEscape : Dashes → Where

abbrev pub raw_at : Where → Raw
raw_at InStyle = Rawtext
raw_at InScript = ScriptData
raw_at (InEscape dashes) = Escaped dashes

-- after a character
abbrev pub after : Where → ℕ → Where
after InStyle c = InStyle
after InScript c = InScript
after (InEscape dashes) c = if (c == greater_than) && is_two dashes then InScript else InEscape (dashes_after dashes c)

after-character : (w : Where) (c : ℕ) → raw_after (raw_at w) c ≡ raw_at (after w c)
unfolding raw_after
after-character InStyle c = refl
after-character InScript c = refl
after-character (InEscape d) c =
    elim ((c == greater_than) && is_two d) as (λ b. (if b then ScriptData else Escaped (dashes_after d c)) ≡ raw_at (if b then InScript else InEscape (dashes_after d c))) [
      | true ↦ refl
      | false ↦ refl
    ]

-- after `<` or letters
abbrev pub settled : Where → Where
settled InStyle = InStyle
settled InScript = InScript
settled (InEscape dashes) = InEscape NoDash

after-settled : (w : Where) → raw_of (kind_of (raw_at w)) ≡ raw_at (settled w)
unfolding kind_of
after-settled InStyle = refl
after-settled InScript = refl
after-settled (InEscape d) = refl

single-at : (w : Where) → is_double_escaped (kind_of (raw_at w)) ≡ false
unfolding kind_of
single-at InStyle = refl
single-at InScript = refl
single-at (InEscape d) = refl

no-references : (w : Where) → is_rcdata (raw_at w) ≡ false
no-references InStyle = refl
no-references InScript = refl
no-references (InEscape d) = refl

less-alone : (w : Where) (rest : List ℕ) → is_alone_before (kind_of (raw_at w)) (less_than ∷ rest) ≡ true
unfolding kind_of is_letter
less-alone InStyle rest = refl
less-alone InScript rest = refl
less-alone (InEscape d) rest = refl

-- ---- an end tag that stands nowhere

-- what does not stand in a text does not stand in its rest
has_end-rest : (name front rest : List ℕ) → has_end name (front ++ rest) ≡ false → has_end name rest ≡ false
unfolding has_end
has_end-rest name [] rest h = h
has_end-rest name (c ∷ front) rest h = has_end-rest name front rest ((both-none (begins_end name (c ∷ front ++ rest)) (has_end name (front ++ rest)) h).1)

letter-bytes : (c : ℕ) → is_letter c ≡ true → name_bytes c ≡ to_ascii_lowercase c ∷ []
unfolding name_bytes shown is_letter
letter-bytes c h =
    let other : (c == null) ≡ false = grind (arith, nat_tests) in
    let low : to_ascii_lowercase c < 128 = grind (arith, nat_tests) in
    rw other (encode_ascii (to_ascii_lowercase c) low)

-- letters that are the name, in lower case, before a character that ends it, begin the name
begins-letters : (name letters : List ℕ) (c : ℕ) (X : List ℕ) → list_all is_letter letters ≡ true → bytes_eq (lower letters) name ≡ true → ends_name c ≡ true
    → begins_name name (letters ++ (c ∷ X)) ≡ true
unfolding begins_name
begins-letters [] [] c X all same ends = ends
begins-letters (n ∷ name) [] c X all same ends = absurd (false≢true same)
begins-letters [] (l ∷ letters) c X all same ends =
    let p = and_parts (is_letter l) (list_all is_letter letters) all in
    absurd (false≢true (ap (λ b. bytes_eq (b ++ lower letters) []) (sym (letter-bytes l p.0)) ∙ same))
begins-letters (n ∷ name) (l ∷ letters) c X all same ends =
    let p = and_parts (is_letter l) (list_all is_letter letters) all in
    let q = and_parts (to_ascii_lowercase l == n) (bytes_eq (lower letters) name) (ap (λ b. bytes_eq (b ++ lower letters) (n ∷ name)) (sym (letter-bytes l p.0)) ∙ same) in
    rw (q.0) (begins-letters name letters c X p.1 q.1 ends)

-- so they don't, when no end tag stands
ends-none : (name letters : List ℕ) (c : ℕ) (X : List ℕ) → list_all is_letter letters ≡ true → has_end name ((codes "</" ++ letters) ++ (c ∷ X)) ≡ false → ends_raw_text name letters c ≡ false
unfolding has_end ends_raw_text
ends-none name letters c X all h =
    let none : begins_name name (letters ++ (c ∷ X)) ≡ false = (both-none (begins_name name (letters ++ (c ∷ X))) _ h).0 in
    false_from_ne_true (ends_raw_text name letters c) (λ e.
    let p = and_parts (not (nat_eq (length name) 0)) (ends_name c && bytes_eq (lower letters) name) e in
    let q = and_parts (ends_name c) (bytes_eq (lower letters) name) p.1 in
    false≢true (sym none ∙ begins-letters name letters c X all q.1 q.0))

-- ---- what an item tells

pub proper-texts : (run : List ℕ) → proper_tokens (texts run) ≡ texts run
proper-texts [] = refl
proper-texts (c ∷ run) = ap (λ l. Text (encode_utf8 c) ∷ l) (proper-texts run)

pub texts-append : (xs ys : List ℕ) → texts (xs ++ ys) ≡ texts xs ++ texts ys
texts-append xs ys = map-append (λ c. Text (encode_utf8 c)) xs ys

text-cells : (run : List ℕ) → proper_cells (spell_text run) ≡ texts run
text-cells [] = refl
text-cells (c ∷ run) = ap (λ l. Text (encode_utf8 c) ∷ l) (text-cells run)

carried-text : (before : List Told) (c : ℕ) (run : List ℕ) → proper_cells (carried_to before (spell_text (c ∷ run))) ≡ proper_tokens before ++ texts (c ∷ run)
carried-text before c run =
    ap (λ l. l ++ proper_cells (spell_text run)) (proper_tokens-append before (texts (c ∷ [])))
    ∙ append_assoc (proper_tokens before) (texts (c ∷ [])) (proper_cells (spell_text run))
    ∙ ap (λ l. proper_tokens before ++ (Text (encode_utf8 c) ∷ l)) (text-cells run)

-- at its own characters, and what is carried to the next: together its text
pub record TellsText (exact : Bool) (w : Where) (item : RawItem) (text : List ℕ) : Type 0 where
  pub own : List Told
  pub at : (before : List Told) → proper_cells (carried_to before (spell_item exact (raw_at w) item)) ≡ proper_tokens before ++ own
  pub whole : own ++ proper_tokens (carried (raw_at w) item) ≡ texts text

tells-character : (exact : Bool) (w : Where) (c : ℕ) → (c == null) ≡ false → TellsText exact w (Character c) (c ∷ [])
unfolding raw_character
tells-character exact w c h = record {
  own = texts (c ∷ []);
  at = λ before.
      append-nil (proper_tokens (before ++ raw_character exact (raw_at w) c))
      ∙ proper_tokens-append before (raw_character exact (raw_at w) c)
      ∙ ap (λ l. proper_tokens before ++ l) (let is : proper_tokens (raw_character exact (raw_at w) c) ≡ texts (c ∷ []) = rw h refl in is);
  whole = refl;
}

-- only in double-escaped script data `<` is sent at once
held-less : (w : Where) → told_at_less_than (kind_of (raw_at w)) ≡ []
unfolding kind_of
held-less InStyle = refl
held-less InScript = refl
held-less (InEscape d) = refl

sent-less : (w : Where) → told_after_less_than (kind_of (raw_at w)) ≡ texts (codes "<")
unfolding kind_of
sent-less InStyle = refl
sent-less InScript = refl
sent-less (InEscape d) = refl

tells-less : (exact : Bool) (w : Where) → TellsText exact w LessThan (codes "<")
tells-less exact w = record {
  own = [];
  at = λ before.
      append-nil (proper_tokens (before ++ told_at_less_than (kind_of (raw_at w))))
      ∙ proper_tokens-append before (told_at_less_than (kind_of (raw_at w)))
      ∙ ap (λ l. proper_tokens before ++ proper_tokens l) (held-less w);
  whole = ap proper_tokens (sent-less w);
}

tells-letters : (exact : Bool) (w : Where) (letters : List ℕ) → TellsText exact w (Letters letters) (codes "</" ++ letters)
tells-letters exact w letters = record {
  own = [];
  at = λ before.
      ap (λ l. proper_tokens (before ++ told_at_less_than (kind_of (raw_at w))) ++ l) (cells-errors (spell_silent (solidus ∷ letters)) (tell-silent (solidus ∷ letters)))
      ∙ append-nil (proper_tokens (before ++ told_at_less_than (kind_of (raw_at w))))
      ∙ proper_tokens-append before (told_at_less_than (kind_of (raw_at w)))
      ∙ ap (λ l. proper_tokens before ++ proper_tokens l) (held-less w);
  whole = proper-texts (less_than ∷ solidus ∷ letters);
}

tells-mark : (exact : Bool) → TellsText exact InScript Mark (codes "<!--")
unfolding kind_of
tells-mark exact = record {
  own = texts (codes "<!--");
  at = λ before. ap (λ l. proper_tokens l ++ texts (codes "<!--")) (append-nil before);
  whole = refl;
}

tells-switch : (exact : Bool) (dashes : Dashes) (first : ℕ) (more : List ℕ) (c : ℕ) → TellsText exact (InEscape dashes) (Switch (first ∷ more) c) (less_than ∷ first ∷ (more ++ c ∷ []))
unfolding kind_of
tells-switch exact dashes first more c = record {
  own = texts (less_than ∷ first ∷ (more ++ c ∷ []));
  at = λ before.
      ap (λ l. proper_tokens l ++ proper_cells (carried_to (texts (codes "<")) (spell_text (first ∷ (more ++ c ∷ []))))) (append-nil before)
      ∙ ap (λ l. proper_tokens before ++ l) (carried-text (texts (codes "<")) first (more ++ c ∷ []));
  whole = append-nil (texts (less_than ∷ first ∷ (more ++ c ∷ [])));
}

-- ---- `<!--` and `<script`

-- two dashes after `<!` would be a mark
dashes-before : (X rest : List ℕ) → begins_dashes (X ++ less_than ∷ rest) ≡ begins_dashes X
dashes-before [] rest = refl
dashes-before (a ∷ []) rest = refl
dashes-before (a ∷ b ∷ X) rest = refl

-- a letter, and another character, in front of what may end letters
name-letter : (c : ℕ) (X : List ℕ) → is_letter c ≡ true → begins_name_and_end (c ∷ X) ≡ begins_name_and_end X
unfolding after_run
name-letter c X e = rw e refl

name-other : (c : ℕ) (X : List ℕ) → is_letter c ≡ false → begins_name_and_end (c ∷ X) ≡ ends_name c
unfolding after_run
name-other c X e = rw e refl

-- no letters before the `<` of the end tag are ended by it
name-before : (X rest : List ℕ) → begins_name_and_end (X ++ less_than ∷ rest) ≡ begins_name_and_end X
unfolding after_run is_letter ends_name is_white_space
name-before [] rest = refl
name-before (a ∷ X) rest =
    (elim (is_letter a) as (λ b. is_letter a ≡ b → begins_name_and_end (a ∷ (X ++ less_than ∷ rest)) ≡ begins_name_and_end (a ∷ X)) [
      | true ↦ λ e. name-letter a (X ++ less_than ∷ rest) e ∙ name-before X rest ∙ sym (name-letter a X e)
      | false ↦ λ e. name-other a (X ++ less_than ∷ rest) e ∙ sym (name-other a X e)
    ]) refl

-- what else must not stand in the text
abbrev pub allows : Where → List ℕ → Bool
allows InStyle T = true
allows InScript T = not (may_hide T)
allows (InEscape dashes) T = not (has_start (codes "script") T)

start-rest : (c : ℕ) (X : List ℕ) → has_start (codes "script") (c ∷ X) ≡ false → has_start (codes "script") X ≡ false
unfolding has_start
start-rest c X h = (both-none ((c == less_than) && begins_name (codes "script") X) (has_start (codes "script") X) h).1

both-later : (a b d e : Bool) → b ≡ true → e ≡ true → ((a || b) && (d || e)) ≡ true
both-later true b true e f g = refl
both-later true b false e f g = g
both-later false b true e f g = rw f refl
both-later false b false e f g = rw (f, g) refl

hide-rest : (c : ℕ) (X : List ℕ) → may_hide (c ∷ X) ≡ false → may_hide X ≡ false
unfolding has_start occurs
hide-rest c X h =
    false_from_ne_true (may_hide X) (λ e.
    let p = and_parts (occurs (codes "<!--") X) (has_start (codes "script") X) e in
    false≢true (sym h ∙ both-later (starts_with nat_eq (c ∷ X) (codes "<!--")) (occurs (codes "<!--") X) ((c == less_than) && begins_name (codes "script") X) (has_start (codes "script") X) p.0 p.1))

allows-rest : (w : Where) (c : ℕ) (X : List ℕ) → allows w (c ∷ X) ≡ true → allows w X ≡ true
allows-rest InStyle c X h = refl
allows-rest InScript c X h = rw (hide-rest c X (not-true (may_hide (c ∷ X)) h)) refl
allows-rest (InEscape d) c X h = rw (start-rest c X (not-true (has_start (codes "script") (c ∷ X)) h)) refl

-- without `<script` nothing is hidden
allows-any : (w : Where) (X : List ℕ) → has_start (codes "script") X ≡ false → allows w X ≡ true
allows-any InStyle X h = refl
allows-any InScript X h = rw (h, and-false (occurs (codes "<!--") X)) refl
allows-any (InEscape d) X h = rw h refl

allows-after : (w : Where) (c : ℕ) (X : List ℕ) → allows w (c ∷ X) ≡ true → allows (after w c) X ≡ true
allows-after InStyle c X h = refl
allows-after InScript c X h = allows-rest InScript c X h
allows-after (InEscape d) c X h = allows-any (after (InEscape d) c) X (start-rest c X (not-true (has_start (codes "script") (c ∷ X)) h))

allows-settled : (w : Where) (X : List ℕ) → allows w X ≡ true → allows (settled w) X ≡ true
allows-settled InStyle X h = h
allows-settled InScript X h = h
allows-settled (InEscape d) X h = h

-- ---- what was read of an item

pub data Pending : Type 0 where
  Outside : Pending
  -- `<`
  AfterLess : Pending
  -- `</` and letters
  InLetters : List ℕ → Pending
  -- the `<!` of a mark
  InMark : Pending
  -- `<` and letters, one at least
  InSwitch : ℕ → List ℕ → Pending

abbrev pub pending_text : Pending → List ℕ
pending_text Outside = []
pending_text AfterLess = codes "<"
pending_text (InLetters letters) = codes "</" ++ letters
pending_text InMark = codes "<!"
pending_text (InSwitch first more) = less_than ∷ first ∷ more

-- what is known of it, before X
abbrev pub IsPending : Where → Pending → List ℕ → Type 0
IsPending w Outside X = Unit {0}
IsPending w AfterLess X = Unit {0}
IsPending w (InLetters letters) X = list_all is_letter letters ≡ true
IsPending InScript InMark X = begins_dashes X ≡ true
IsPending w InMark X = false ≡ true
IsPending (InEscape dashes) (InSwitch first more) X = (list_all is_letter (first ∷ more) ≡ true) × (begins_name_and_end X ≡ true)
IsPending w (InSwitch first more) X = false ≡ true

-- ---- a text in items, before one that begins with `<`

module _ (exact : Bool) (name rest : List ℕ) where
  abbrev pub later : List ℕ
  later = less_than ∷ rest

  pub record Back (w : Where) (T : List ℕ) : Type 0 where
    pub items : List RawItem
    pub text : (L : List ℕ) → items_text (raw_at w) items L ≡ T ++ L
    pub follows : can_follow name (raw_at w) items later ≡ true
    pub single : is_double_escaped (kind_of (raw_after_items (raw_at w) items)) ≡ false
    pub told : (before : List Told) (here : Spelled) (more : List Spelled)
        → proper_cells (spell_items exact (raw_at w) before items ++ carried_to (carried_after (raw_at w) before items) (here ∷ more)) ≡ proper_tokens before ++ (texts T ++ proper_cells (here ∷ more))

  nothing : (w : Where) → Back w []
  unfolding items_text can_follow spell_items carried_after raw_after_items
  nothing w = record {
    items = [];
    text = λ L. refl;
    follows = refl;
    single = single-at w;
    told = λ before here more.
        ap (λ l. l ++ proper_cells more) (proper_tokens-append before here.told) ∙ append_assoc (proper_tokens before) (proper_tokens here.told) (proper_cells more);
  }

  -- one item more in front
  joined : (w v : Where) (item : RawItem) (t T : List ℕ) → raw_after_item (raw_at w) item ≡ raw_at v → item_text (raw_at w) item ≡ t → can_stand name (raw_at w) item (T ++ later) ≡ true
      → TellsText exact w item t → Back v T → Back w (t ++ T)
  unfolding items_text can_follow spell_items carried_after raw_after_items
  joined w v item t T same text stands tells back =
      let is : items_text (raw_after_item (raw_at w) item) back.items later ≡ T ++ later = ap (λ r. items_text r back.items later) same ∙ back.text later in
      record {
        items = item ∷ back.items;
        text = λ L.
            ap (λ r. item_text (raw_at w) item ++ items_text r back.items L) same
            ∙ ap (λ l. item_text (raw_at w) item ++ l) (back.text L)
            ∙ ap (λ l. l ++ (T ++ L)) text
            ∙ sym (append_assoc t T L);
        follows = rw (ap (can_stand name (raw_at w) item) is ∙ stands) (ap (λ r. can_follow name r back.items later) same ∙ back.follows);
        single = ap (λ r. is_double_escaped (kind_of (raw_after_items r back.items))) same ∙ back.single;
        told = λ before here more.
            let first : List Spelled = carried_to before (spell_item exact (raw_at w) item) in
            let onward : List Told = carried (raw_at w) item in
            let rest : Raw → List Spelled = λ r. spell_items exact r onward back.items ++ carried_to (carried_after r onward back.items) (here ∷ more) in
            let M : List Told = proper_cells (here ∷ more) in
            ap proper_cells (append_assoc first (spell_items exact (raw_after_item (raw_at w) item) onward back.items) (carried_to (carried_after (raw_after_item (raw_at w) item) onward back.items) (here ∷ more)))
            ∙ cells-append first (rest (raw_after_item (raw_at w) item))
            ∙ ap (λ r. proper_cells first ++ proper_cells (rest r)) same
            ∙ ap (λ l. l ++ proper_cells (rest (raw_at v))) (tells.at before)
            ∙ ap (λ l. (proper_tokens before ++ tells.own) ++ l) (back.told onward here more)
            ∙ append_assoc (proper_tokens before) tells.own (proper_tokens onward ++ (texts T ++ M))
            ∙ ap (λ l. proper_tokens before ++ l)
            (sym (append_assoc tells.own (proper_tokens onward) (texts T ++ M))
            ∙ ap (λ l. l ++ (texts T ++ M)) tells.whole
            ∙ sym (append_assoc (texts t) (texts T) M)
            ∙ ap (λ l. l ++ M) (sym (texts-append t T)));
      }

  -- what is known of a text
  pub record Fits (w : Where) (T : List ℕ) : Type 0 where
    pub no_end : has_end name T ≡ false
    pub allow : allows w T ≡ true
    pub no_null : pieces.has_no_null T ≡ true

  fits-next : (w : Where) (c : ℕ) (X : List ℕ) → Fits w (c ∷ X) → Fits (after w c) X
  fits-next w c X fits = record {
    no_end = has_end-rest name (c ∷ []) X fits.no_end;
    allow = allows-after w c X fits.allow;
    no_null = (and_parts (not (c == null)) (pieces.has_no_null X) fits.no_null).1;
  }

  fits-rest : (w : Where) (front X : List ℕ) → Fits w (front ++ X) → Fits w X
  fits-rest w [] X fits = fits
  fits-rest w (c ∷ front) X fits =
      fits-rest w front X (record {
        no_end = has_end-rest name (c ∷ []) (front ++ X) fits.no_end;
        allow = allows-rest w c (front ++ X) fits.allow;
        no_null = (and_parts (not (c == null)) (pieces.has_no_null (front ++ X)) fits.no_null).1;
      })

  fits-settled : (w : Where) (X : List ℕ) → Fits w X → Fits (settled w) X
  fits-settled w X fits = record { no_end = fits.no_end; allow = allows-settled w X fits.allow; no_null = fits.no_null }

  less-none : (letters : List ℕ) → ends_raw_text name letters less_than ≡ false
  unfolding ends_raw_text ends_name is_white_space
  less-none letters = and-false (not (nat_eq (length name) 0))

  letters-more : (letters : List ℕ) (c : ℕ) → list_all is_letter letters ≡ true → is_letter c ≡ true → list_all is_letter (letters ++ c ∷ []) ≡ true
  letters-more letters c h e = list_all-append is_letter letters (c ∷ []) ∙ rw (h, e) refl

  outside : (w : Where) (c : ℕ) (X : List ℕ) → Fits w (c ∷ X) → (Fits w (less_than ∷ X) → Back w (less_than ∷ X)) → (Fits (after w c) X → Back (after w c) X) → Back w (c ∷ X)
  outside w c X fits less other =
      (elim (c == less_than) as (λ b. (c == less_than) ≡ b → Back w (c ∷ X)) [
        | true ↦ λ e. subst (λ d. Back w (d ∷ X)) (sym (eqb-true c less_than e)) (less (subst (λ d. Fits w (d ∷ X)) (eqb-true c less_than e) fits))
        | false ↦ λ e.
            joined w (after w c) (Character c) (c ∷ []) X (after-character w c) refl (rw (e, no-references w) refl)
            (tells-character exact w c (not-true (c == null) (and_parts (not (c == null)) (pieces.has_no_null X) fits.no_null).0)) (other (fits-next w c X fits))
      ]) refl

  -- a `<` that begins nothing
  alone : (w : Where) (c : ℕ) (X : List ℕ) → is_alone_before (kind_of (raw_at w)) (c ∷ (X ++ later)) ≡ true → Back (settled w) (c ∷ X) → Back w (less_than ∷ c ∷ X)
  alone w c X h next = joined w (settled w) LessThan (codes "<") (c ∷ X) (after-settled w) refl h (tells-less exact w) next

  choose : (w : Where) (c : ℕ) (X : List ℕ) → (c == solidus) ≡ false → Fits w (less_than ∷ c ∷ X) → Back (settled w) (c ∷ X)
      → (Fits w (codes "<!" ++ X) → IsPending w InMark X → Back w (codes "<!" ++ X))
      → (Fits w (less_than ∷ c ∷ X) → IsPending w (InSwitch c []) X → Back w (less_than ∷ c ∷ X))
      → Back w (less_than ∷ c ∷ X)
  unfolding kind_of
  choose InStyle c X e fits next mark switch = alone InStyle c X (rw e refl) next
  choose InScript c X e fits next mark switch =
      (elim ((c == exclamation_mark) && begins_dashes X) as (λ b. ((c == exclamation_mark) && begins_dashes X) ≡ b → Back InScript (less_than ∷ c ∷ X)) [
        | true ↦ λ h.
            let p = and_parts (c == exclamation_mark) (begins_dashes X) h in
            let is : c ≡ exclamation_mark = eqb-true c exclamation_mark p.0 in
            subst (λ d. Back InScript (less_than ∷ d ∷ X)) (sym is) (mark (subst (λ d. Fits InScript (less_than ∷ d ∷ X)) is fits) p.1)
        | false ↦ λ h. alone InScript c X (rw (e, dashes-before X rest, h) refl) next
      ]) refl
  choose (InEscape d) c X e fits next mark switch =
      (elim (is_letter c && begins_name_and_end X) as (λ b. (is_letter c && begins_name_and_end X) ≡ b → Back (InEscape d) (less_than ∷ c ∷ X)) [
        | true ↦ λ h.
            let p = and_parts (is_letter c) (begins_name_and_end X) h in
            switch fits (rw (p.0) refl, p.1)
        | false ↦ λ h. alone (InEscape d) c X (rw (e, name-before X rest, h) refl) next
      ]) refl

  -- letters that are not `script` switch to nothing
  not-script : (d : Dashes) (first : ℕ) (more : List ℕ) (c : ℕ) (X : List ℕ) → list_all is_letter (first ∷ more) ≡ true → ends_name c ≡ true → Fits (InEscape d) ((less_than ∷ first ∷ more) ++ (c ∷ X))
      → bytes_eq (lower (first ∷ more)) (codes "script") ≡ false
  unfolding has_start
  not-script d first more c X all ends fits =
      let none : begins_name (codes "script") ((first ∷ more) ++ (c ∷ X)) ≡ false =
      (both-none (begins_name (codes "script") ((first ∷ more) ++ (c ∷ X))) (has_start (codes "script") ((first ∷ more) ++ (c ∷ X))) (not-true _ fits.allow)).0 in
      false_from_ne_true (bytes_eq (lower (first ∷ more)) (codes "script")) (λ e. false≢true (sym none ∙ begins-letters (codes "script") (first ∷ more) c X all e ends))

  switch-steady : (d : Dashes) (letters : List ℕ) (c : ℕ) → bytes_eq (lower letters) (codes "script") ≡ false → raw_after_item (raw_at (InEscape d)) (Switch letters c) ≡ raw_at (InEscape NoDash)
  unfolding kind_of switched
  switch-steady d letters c h = rw h refl

  fits-mark : (a b : ℕ) (X : List ℕ) → a ≡ hyphen → b ≡ hyphen → Fits InScript (codes "<!" ++ (a ∷ b ∷ X)) → Fits (InEscape TwoDashes) X
  unfolding occurs
  fits-mark a b X ea eb fits =
      let whole : Fits InScript (codes "<!--" ++ X) = subst (λ y. Fits InScript (codes "<!-" ++ (y ∷ X))) eb (subst (λ y. Fits InScript (codes "<!" ++ (y ∷ b ∷ X))) ea fits) in
      let none : has_start (codes "script") (codes "<!--" ++ X) ≡ false = not-true (has_start (codes "script") (codes "<!--" ++ X)) whole.allow in
      let free : Fits (InEscape TwoDashes) (codes "<!--" ++ X) = record { no_end = whole.no_end; allow = rw none refl; no_null = whole.no_null } in
      fits-rest (InEscape TwoDashes) (codes "<!--") X free

  pub back : (w : Where) (p : Pending) (X : List ℕ) → Fits w (pending_text p ++ X) → IsPending w p X → Back w (pending_text p ++ X)
  unfolding is_letter after_run kind_of
  back w Outside [] fits is = nothing w
  back w AfterLess [] fits is = joined w (settled w) LessThan (codes "<") [] (after-settled w) refl (less-alone w rest) (tells-less exact w) (nothing (settled w))
  back w (InLetters l) [] fits is =
      joined w (settled w) (Letters l) (codes "</" ++ l) [] (after-settled w) refl (rw (single-at w, is, less-none l) refl) (tells-letters exact w l) (nothing (settled w))
  back InStyle InMark X fits is = absurd (false≢true is)
  back (InEscape d) InMark X fits is = absurd (false≢true is)
  back InScript InMark [] fits is = absurd (false≢true is)
  back InScript InMark (a ∷ []) fits is = absurd (false≢true (sym (and-false (a == hyphen)) ∙ is))
  back InScript InMark (a ∷ b ∷ X) fits is =
      let p = and_parts (a == hyphen) (b == hyphen) is in
      let ea : a ≡ hyphen = eqb-true a hyphen p.0 in
      let eb : b ≡ hyphen = eqb-true b hyphen p.1 in
      let whole : Back InScript (codes "<!--" ++ X) =
      joined InScript (InEscape TwoDashes) Mark (codes "<!--") X refl refl refl (tells-mark exact) (back (InEscape TwoDashes) Outside X (fits-mark a b X ea eb fits) tt) in
      subst (λ y. Back InScript (codes "<!" ++ (y ∷ b ∷ X))) (sym ea) (subst (λ y. Back InScript (codes "<!-" ++ (y ∷ X))) (sym eb) whole)
  back InStyle (InSwitch f m) X fits is = absurd (false≢true is)
  back InScript (InSwitch f m) X fits is = absurd (false≢true is)
  back (InEscape d) (InSwitch f m) [] fits is = absurd (false≢true is.1)
  back (InEscape d) (InSwitch f m) (c ∷ X) fits is =
      (elim (is_letter c) as (λ b. is_letter c ≡ b → Back (InEscape d) ((less_than ∷ f ∷ m) ++ (c ∷ X))) [
        | true ↦ λ e.
            let assoc : (m ++ c ∷ []) ++ X ≡ m ++ (c ∷ X) = append_assoc m (c ∷ []) X in
            let on : begins_name_and_end X ≡ true = sym (name-letter c X e) ∙ is.1 in
            subst (λ t. Back (InEscape d) (less_than ∷ f ∷ t)) assoc
            (back (InEscape d) (InSwitch f (m ++ c ∷ [])) X (subst (λ t. Fits (InEscape d) (less_than ∷ f ∷ t)) (sym assoc) fits) (letters-more (f ∷ m) c is.0 e, on))
        | false ↦ λ e.
            let assoc : (m ++ c ∷ []) ++ X ≡ m ++ (c ∷ X) = append_assoc m (c ∷ []) X in
            let ends : ends_name c ≡ true = sym (name-other c X e) ∙ is.1 in
            let some : nat_eq (length (f ∷ m)) 0 ≡ false = grind (arith, nat_tests) in
            subst (λ t. Back (InEscape d) (less_than ∷ f ∷ t)) assoc
            (joined (InEscape d) (InEscape NoDash) (Switch (f ∷ m) c) (less_than ∷ f ∷ (m ++ c ∷ [])) X (switch-steady d (f ∷ m) c (not-script d f m c X is.0 ends fits)) refl
            (rw (some, is.0, ends) refl) (tells-switch exact d f m c)
            (back (InEscape NoDash) Outside X (fits-settled (InEscape d) X (fits-rest (InEscape d) (c ∷ []) X (fits-rest (InEscape d) (less_than ∷ f ∷ m) (c ∷ X) fits))) tt))
      ]) refl
  back w Outside (c ∷ X) fits is = outside w c X fits (λ f. back w AfterLess X f tt) (λ f. back (after w c) Outside X f tt)
  back w AfterLess (c ∷ X) fits is =
      let next : Back (settled w) (c ∷ X) =
      outside (settled w) c X (fits-settled w (c ∷ X) (fits-rest w (codes "<") (c ∷ X) fits)) (λ f. back (settled w) AfterLess X f tt) (λ f. back (after (settled w) c) Outside X f tt) in
      (elim (c == solidus) as (λ b. (c == solidus) ≡ b → Back w (less_than ∷ c ∷ X)) [
        | true ↦ λ e.
            let it : c ≡ solidus = eqb-true c solidus e in
            subst (λ d. Back w (less_than ∷ d ∷ X)) (sym it) (back w (InLetters []) X (subst (λ d. Fits w (less_than ∷ d ∷ X)) it fits) refl)
        | false ↦ λ e. choose w c X e fits next (λ f m. back w InMark X f m) (λ f s. back w (InSwitch c []) X f s)
      ]) refl
  back w (InLetters l) (c ∷ X) fits is =
      let next : Back (settled w) (c ∷ X) =
      outside (settled w) c X (fits-settled w (c ∷ X) (fits-rest w (codes "</" ++ l) (c ∷ X) fits)) (λ f. back (settled w) AfterLess X f tt) (λ f. back (after (settled w) c) Outside X f tt) in
      (elim (is_letter c) as (λ b. is_letter c ≡ b → Back w ((codes "</" ++ l) ++ (c ∷ X))) [
        | true ↦ λ e.
            let assoc : (l ++ c ∷ []) ++ X ≡ l ++ (c ∷ X) = append_assoc l (c ∷ []) X in
            subst (λ t. Back w (codes "</" ++ t)) assoc (back w (InLetters (l ++ c ∷ [])) X (subst (λ t. Fits w (codes "</" ++ t)) (sym assoc) fits) (letters-more l c is e))
        | false ↦ λ e.
            joined w (settled w) (Letters l) (codes "</" ++ l) (c ∷ X) (after-settled w) refl (rw (single-at w, is, e, ends-none name l c X is fits.no_end) refl) (tells-letters exact w l) next
      ]) refl
