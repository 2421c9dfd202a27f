-- How the machine goes through raw text that is written as it was emitted, from wherever it stands in it.
use Rattle.std.proofs.Common.{◌≡◌, ℕ, Bool, true, false, List, [], ◌∷◌, ◌++◌, refl, ap, sym, ◌∙◌, subst}
use Rattle.std.specs.Prelude.{◌==◌, not, length, nat_eq, codes, encode_utf8}
use Rattle.std.specs.List.{list_all}
use Rattle.std.proofs.Math.Bool.{and-false}
use Rattle.std.proofs.lemmas.Bool.{and_parts, eqb-true, false≢true, not-true}
use Rattle.std.proofs.lemmas.List.{append_assoc, append-nil, map-append}
use Rattle.html5ever_interface.specs.Token.{Told}
use Rattle.html5ever_interface.specs.Token.Told.{Text}
use Rattle.html5ever_interface.specs.declared.states.RawKind.{RawKind}
use Rattle.html5ever_interface.specs.declared.states.RawKind.TheVariants as raw_kind
use Rattle.html5ever_interface.specs.declared.states.ScriptEscapeKind.TheVariants as escape_kind
use Rattle.html5reading.specs.Characters.{null, replacement_character, less_than, solidus, is_letter, is_white_space, shown}
use Rattle.html5reading.specs.Machine.{step_at, raw_less_than_step, raw_place_step, switch_step}
use Rattle.html5reading.specs.RawText.{texts, ends_name, ends_raw_text, kind_of, is_rcdata, dashes_after, raw_after, raw_character, told_at_less_than, told_after_less_than, begins_mark, begins_switch}
use Rattle.html5reading.specs.Slice.{after_run}
use Rattle.html5reading.specs.Start.{Dashes, Raw, Open}
use Rattle.html5reading.specs.Start.Dashes.{NoDash}
use Rattle.html5reading.specs.Start.Open.{InRaw}
use Rattle.html5reading.specs.Start.Raw.{Rcdata, Rawtext, ScriptData, Escaped, DoubleEscaped}
use Rattle.html5reading.specs.Start.RawPlace.{AfterLessThan, InEndName, AfterMark, AfterMarkAndDash, InSwitch}
use Rattle.html5reading.proofs.Letters.{letter-no_solidus}
use Rattle.html5grammar.specs.Items.{is_raw_text}
use Rattle.html5grammar.specs.RawText.{RawItem, raw_after_item, item_text, switch_text, is_double_escaped, can_stand, carried, carried_to, spell_item, spell_text}
use Rattle.html5grammar.specs.RawText.RawItem.{Character, LessThan, Letters, Mark, Switch}
use Rattle.html5grammar.specs.Spelled.{Spelled, spell_silent}
use Rattle.html5grammar.proofs.Goes.{characters, characters-append, characters-spell, Goes, Goes-append}
use Rattle.html5grammar.proofs.RawText.Reading.{characters-item}
use Rattle.html5grammar.proofs.RawText.Steps.{Standing, opened_at, raw_at, carried_at, fits, ReadsItem, reads_item, reads_less_than}
use Rattle.html5grammar.proofs.RawText.Steps.Standing.{Free, Within}
use Rattle.html5serialize.proofs.Errors.{proper_tokens, proper_cells, proper_tokens-append, cells-append, cells-errors, tell-silent}

-- ---- texts except for errors

pub proper-texts : (run : List ℕ) → proper_tokens (texts run) ≡ texts run
proper-texts [] = refl
proper-texts (c ∷ run) = ap (λ l. Text (encode_utf8 c) ∷ l) (proper-texts run)

pub proper-spell : (run : List ℕ) → proper_cells (spell_text run) ≡ texts run
proper-spell [] = refl
proper-spell (c ∷ run) = ap (λ l. Text (encode_utf8 c) ∷ l) (proper-spell run)

pub texts-append : (a b : List ℕ) → texts (a ++ b) ≡ texts a ++ texts b
texts-append a b = map-append (λ (c : ℕ). Text (encode_utf8 c)) a b

pub proper-carried_at : (standing : Standing) → proper_tokens (carried_at standing) ≡ carried_at standing
proper-carried_at (Free raw) = refl
proper-carried_at (Within (AfterLessThan raw_kind.Rcdata)) = refl
proper-carried_at (Within (AfterLessThan raw_kind.Rawtext)) = refl
proper-carried_at (Within (AfterLessThan raw_kind.ScriptData)) = refl
proper-carried_at (Within (AfterLessThan (raw_kind.ScriptDataEscaped escape_kind.Escaped))) = refl
proper-carried_at (Within (AfterLessThan (raw_kind.ScriptDataEscaped escape_kind.DoubleEscaped))) = refl
proper-carried_at (Within (InEndName kind letters)) = proper-texts (less_than ∷ solidus ∷ letters)
proper-carried_at (Within AfterMark) = refl
proper-carried_at (Within AfterMarkAndDash) = refl
proper-carried_at (Within (InSwitch kind letters)) = refl

-- ---- what an item tells, where its rest is carried on

-- a `<` is emitted at once or later
at_once-or_later : (kind : RawKind) → proper_tokens (told_at_less_than kind) ++ told_after_less_than kind ≡ texts (less_than ∷ [])
at_once-or_later raw_kind.Rcdata = refl
at_once-or_later raw_kind.Rawtext = refl
at_once-or_later raw_kind.ScriptData = refl
at_once-or_later (raw_kind.ScriptDataEscaped escape_kind.Escaped) = refl
at_once-or_later (raw_kind.ScriptDataEscaped escape_kind.DoubleEscaped) = refl

proper-after_less_than : (kind : RawKind) → proper_tokens (told_after_less_than kind) ≡ told_after_less_than kind
proper-after_less_than raw_kind.Rcdata = refl
proper-after_less_than raw_kind.Rawtext = refl
proper-after_less_than raw_kind.ScriptData = refl
proper-after_less_than (raw_kind.ScriptDataEscaped escape_kind.Escaped) = refl
proper-after_less_than (raw_kind.ScriptDataEscaped escape_kind.DoubleEscaped) = refl

pub later-single : (kind : RawKind) → is_double_escaped kind ≡ false → told_at_less_than kind ≡ []
later-single raw_kind.Rcdata h = refl
later-single raw_kind.Rawtext h = refl
later-single raw_kind.ScriptData h = refl
later-single (raw_kind.ScriptDataEscaped escape_kind.Escaped) h = refl
later-single (raw_kind.ScriptDataEscaped escape_kind.DoubleEscaped) h = absurd (false≢true (sym h))

-- what is emitted first, before more
first-told : (before told more : List Told) → proper_tokens before ≡ before → proper_tokens (before ++ told) ++ more ≡ before ++ (proper_tokens told ++ more)
first-told before told more e =
    ap (λ l. l ++ more) (proper_tokens-append before told ∙ ap (λ l. l ++ proper_tokens told) e) ∙ append_assoc before (proper_tokens told) more

-- a text after a `<`
after-told : (kind : RawKind) (x : ℕ) (run : List ℕ) → proper_cells (carried_to (told_after_less_than kind) (spell_text (x ∷ run))) ≡ told_after_less_than kind ++ texts (x ∷ run)
after-told kind x run =
    ap (λ l. proper_tokens (told_after_less_than kind ++ texts (x ∷ [])) ++ l) (proper-spell run)
    ∙ first-told (told_after_less_than kind) (texts (x ∷ [])) (texts run) (proper-after_less_than kind)

-- `<` and that
mark-told : (kind : RawKind) (before : List Told) (x : ℕ) (run : List ℕ) → proper_tokens before ≡ before
    → proper_tokens (before ++ told_at_less_than kind) ++ proper_cells (carried_to (told_after_less_than kind) (spell_text (x ∷ run))) ≡ before ++ texts (less_than ∷ x ∷ run)
mark-told kind before x run e =
    ap (λ l. proper_tokens (before ++ told_at_less_than kind) ++ l) (after-told kind x run)
    ∙ first-told before (told_at_less_than kind) (told_after_less_than kind ++ texts (x ∷ run)) e
    ∙ ap (λ l. before ++ l)
    (sym (append_assoc (proper_tokens (told_at_less_than kind)) (told_after_less_than kind) (texts (x ∷ run))) ∙ ap (λ l. l ++ texts (x ∷ run)) (at_once-or_later kind))

-- the text of a switch has a character
record HasFirst (text : List ℕ) : Type 0 where
  first : ℕ
  rest : List ℕ
  is : text ≡ first ∷ rest

first-letters : (letters : List ℕ) (c : ℕ) → HasFirst (letters ++ c ∷ [])
first-letters [] c = record { first = c; rest = []; is = refl }
first-letters (d ∷ letters) c = record { first = d; rest = letters ++ c ∷ []; is = refl }

first-switch : (kind : RawKind) (letters : List ℕ) (c : ℕ) → HasFirst (switch_text kind letters c)
first-switch raw_kind.Rcdata letters c = first-letters letters c
first-switch raw_kind.Rawtext letters c = first-letters letters c
first-switch raw_kind.ScriptData letters c = first-letters letters c
first-switch (raw_kind.ScriptDataEscaped escape_kind.Escaped) letters c = first-letters letters c
first-switch (raw_kind.ScriptDataEscaped escape_kind.DoubleEscaped) letters c = record { first = solidus; rest = letters ++ c ∷ []; is = refl }

-- an item that is emitted as it stands: it is not a NUL
abbrev pub is_told : RawItem → Bool
is_told (Character c) = not (c == null)
is_told item = true

pub item-told : (exact : Bool) (name : List ℕ) (raw : Raw) (item : RawItem) (text : List ℕ) (before : List Told) → can_stand name raw item text ≡ true → is_told item ≡ true
    → proper_tokens before ≡ before
    → proper_cells (carried_to before (spell_item exact raw item)) ++ carried raw item ≡ before ++ texts (item_text raw item)
unfolding raw_character
item-told exact name raw (Character c) text before can shown e =
    append-nil (proper_tokens (before ++ raw_character exact raw c) ++ [])
    ∙ rw (not-true (c == null) shown)
    (first-told before (texts (c ∷ [])) [] e)
item-told exact name raw LessThan text before can shown e =
    ap (λ l. l ++ told_after_less_than (kind_of raw)) (append-nil (proper_tokens (before ++ told_at_less_than (kind_of raw))))
    ∙ first-told before (told_at_less_than (kind_of raw)) (told_after_less_than (kind_of raw)) e
    ∙ ap (λ l. before ++ l) (at_once-or_later (kind_of raw))
item-told exact name raw (Letters letters) text before can shown e =
    let p = and_parts (not (is_double_escaped (kind_of raw))) _ can in
    let later : List Told = texts (less_than ∷ solidus ∷ letters) in
    ap (λ l. (proper_tokens (before ++ l) ++ proper_cells (spell_silent (solidus ∷ letters))) ++ later) (later-single (kind_of raw) (not-true (is_double_escaped (kind_of raw)) p.0))
    ∙ ap (λ l. (proper_tokens (before ++ []) ++ l) ++ later) (cells-errors (spell_silent (solidus ∷ letters)) (tell-silent (solidus ∷ letters)))
    ∙ ap (λ l. l ++ later) (append-nil (proper_tokens (before ++ [])))
    ∙ first-told before [] later e
item-told exact name raw Mark text before can shown e =
    append-nil (proper_tokens (before ++ told_at_less_than (kind_of raw)) ++ proper_cells (carried_to (told_after_less_than (kind_of raw)) (spell_text (codes "!--"))))
    ∙ mark-told (kind_of raw) before 0x21 (codes "--") e
item-told exact name raw (Switch letters c) text before can shown e =
    let kind : RawKind = kind_of raw in
    let begun : HasFirst (switch_text kind letters c) = first-switch kind letters c in
    append-nil (proper_tokens (before ++ told_at_less_than kind) ++ proper_cells (carried_to (told_after_less_than kind) (spell_text (switch_text kind letters c))))
    ∙ ap (λ run. proper_tokens (before ++ told_at_less_than kind) ++ proper_cells (carried_to (told_after_less_than kind) (spell_text run))) begun.is
    ∙ mark-told kind before begun.first begun.rest e
    ∙ ap (λ run. before ++ texts (less_than ∷ run)) (sym begun.is)

pub carried-none : (cells : List Spelled) → carried_to [] cells ≡ cells
carried-none [] = refl
carried-none (here ∷ more) = refl

characters-carried : (before : List Told) (cells : List Spelled) → characters (carried_to before cells) ≡ characters cells
characters-carried before [] = refl
characters-carried before (here ∷ more) = refl

-- ---- a character as it is shown: NUL as U+FFFD, which is read alike

pub shown-alike : (Q : ℕ → Type 0) (c : ℕ) → (Q null → Q replacement_character) → Q c → Q (shown c)
unfolding shown
shown-alike Q c f q = at (c == null) refl
  where
    at : (b : Bool) → (c == null) ≡ b → Q (shown c)
    at true e = subst Q (sym (rw e refl)) (f (subst Q (eqb-true c null e) q))
    at false e = subst Q (sym (rw e refl)) q

pub shown-no_null : (c : ℕ) → (shown c == null) ≡ false
unfolding shown
shown-no_null c = at (c == null) refl
  where
    at : (b : Bool) → (c == null) ≡ b → (shown c == null) ≡ false
    at true e = rw e refl
    at false e = rw (e, e) refl

-- except for errors a character tells itself as it is shown
pub proper-character : (exact : Bool) (raw : Raw) (c : ℕ) → proper_tokens (raw_character exact raw c) ≡ texts (shown c ∷ [])
unfolding raw_character shown
proper-character exact raw c = at (c == null) refl
  where
    at : (b : Bool) → (c == null) ≡ b → proper_tokens (raw_character exact raw c) ≡ texts (shown c ∷ [])
    at true e = rw e refl
    at false e = rw e refl

fits-replaced : (name : List ℕ) (standing : Standing) (text : List ℕ) → fits name standing (replacement_character ∷ text) ≡ true
unfolding is_letter ends_name is_white_space ends_raw_text after_run
fits-replaced name (Free raw) text = refl
fits-replaced name (Within (AfterLessThan raw_kind.Rcdata)) text = refl
fits-replaced name (Within (AfterLessThan raw_kind.Rawtext)) text = refl
fits-replaced name (Within (AfterLessThan raw_kind.ScriptData)) text = refl
fits-replaced name (Within (AfterLessThan (raw_kind.ScriptDataEscaped escape_kind.Escaped))) text = refl
fits-replaced name (Within (AfterLessThan (raw_kind.ScriptDataEscaped escape_kind.DoubleEscaped))) text = refl
fits-replaced name (Within (InEndName kind letters)) text = rw (and-false (not (nat_eq (length name) 0))) refl
fits-replaced name (Within AfterMark) text = refl
fits-replaced name (Within AfterMarkAndDash) text = refl
fits-replaced name (Within (InSwitch kind letters)) text = refl

after-replaced : (raw : Raw) → raw_after raw replacement_character ≡ raw_after raw null
unfolding raw_after dashes_after
after-replaced Rcdata = refl
after-replaced Rawtext = refl
after-replaced ScriptData = refl
after-replaced (Escaped dashes) = refl
after-replaced (DoubleEscaped dashes) = refl

after-shown : (raw : Raw) (c : ℕ) → raw_after raw (shown c) ≡ raw_after raw c
after-shown raw c = shown-alike (λ d. raw_after raw d ≡ raw_after raw c) c (λ e. after-replaced raw ∙ e) refl

stands-shown : (raw : Raw) (c : ℕ) → is_raw_text raw c ≡ true → is_raw_text raw (shown c) ≡ true
stands-shown raw c h = shown-alike (λ d. is_raw_text raw d ≡ true) c (λ e. rw (and-false (is_rcdata raw)) refl) h

-- ---- walks

-- the machine goes through a text from one place to another, and tells it, with what is carried to it, except for what is carried
-- on
pub record Walks (exact : Bool) (opened : Open) (before : List Told) (text : List ℕ) (later : Open) (after : List Told) : Type 0 where
  pub cells : List Spelled
  pub goes : Goes exact opened cells later
  pub is_text : characters cells ≡ text
  pub told : proper_cells cells ++ after ≡ before ++ texts text

walks-both : (exact : Bool) (a b c : Open) (x y z : List Told) (P Q : List ℕ) → Walks exact a x P b y → Walks exact b y Q c z → Walks exact a x (P ++ Q) c z
walks-both exact a b c x y z P Q one two = record {
  cells = one.cells ++ two.cells;
  goes = Goes-append exact a b c one.cells two.cells one.goes two.goes;
  is_text = characters-append one.cells two.cells ∙ rw (one.is_text, two.is_text) refl;
  told =
      ap (λ l. l ++ z) (cells-append one.cells two.cells)
      ∙ append_assoc (proper_cells one.cells) (proper_cells two.cells) z
      ∙ ap (λ l. proper_cells one.cells ++ l) two.told
      ∙ sym (append_assoc (proper_cells one.cells) y (texts Q))
      ∙ ap (λ l. l ++ texts Q) one.told
      ∙ append_assoc x (texts P) (texts Q)
      ∙ ap (λ l. x ++ l) (sym (texts-append P Q));
}

module _ (exact : Bool) (name : List ℕ) where
  -- the machine goes through a text that stands before `rest`, to where this raw text is
  pub record Walked (standing : Standing) (raw : Raw) (text rest : List ℕ) : Type 0 where
    pub next : Standing
    pub walks : Walks exact (opened_at name standing) (carried_at standing) text (opened_at name next) (carried_at next)
    pub raw_is : raw_at next ≡ raw
    pub fits_after : fits name next rest ≡ true

  pub item-walked : (standing : Standing) (item : RawItem) (rest : List ℕ) → can_stand name (raw_at standing) item rest ≡ true → is_told item ≡ true
      → fits name standing (item_text (raw_at standing) item ++ rest) ≡ true
      → Walked standing (raw_after_item (raw_at standing) item) (item_text (raw_at standing) item) rest
  item-walked standing item rest can told f =
      let raw : Raw = raw_at standing in
      let r : ReadsItem exact name standing item rest = reads_item exact name standing item rest can f in
      record {
        next = r.next;
        walks = record {
          cells = carried_to (carried_at standing) (spell_item exact raw item);
          goes = r.goes;
          is_text = characters-carried (carried_at standing) (spell_item exact raw item) ∙ characters-item exact raw item;
          told =
              ap (λ l. proper_cells (carried_to (carried_at standing) (spell_item exact raw item)) ++ l) r.carried_is
              ∙ item-told exact name raw item rest (carried_at standing) can told (proper-carried_at standing);
        };
        raw_is = r.raw_is;
        fits_after = r.fits_after;
      }

  -- a character, as it is shown
  pub character-walked : (standing : Standing) (c : ℕ) (rest : List ℕ) → is_raw_text (raw_at standing) c ≡ true → fits name standing (c ∷ rest) ≡ true
      → Walked standing (raw_after (raw_at standing) c) (shown c ∷ []) rest
  character-walked standing c rest h f =
      subst (λ raw. Walked standing raw (shown c ∷ []) rest) (after-shown (raw_at standing) c)
      (item-walked standing (Character (shown c)) rest (stands-shown (raw_at standing) c h) (ap not (shown-no_null c))
      (shown-alike (λ d. fits name standing (d ∷ rest) ≡ true) c (λ e. fits-replaced name standing rest) f))

  -- an item, and then such a character
  pub both-walked : (standing : Standing) (item : RawItem) (c : ℕ) (rest : List ℕ) → can_stand name (raw_at standing) item (c ∷ rest) ≡ true → is_told item ≡ true
      → is_raw_text (raw_after_item (raw_at standing) item) c ≡ true → fits name standing (item_text (raw_at standing) item ++ c ∷ rest) ≡ true
      → Walked standing (raw_after (raw_after_item (raw_at standing) item) c) (item_text (raw_at standing) item ++ shown c ∷ []) rest
  both-walked standing item c rest can told h f =
      let one : Walked standing (raw_after_item (raw_at standing) item) (item_text (raw_at standing) item) (c ∷ rest) = item-walked standing item (c ∷ rest) can told f in
      let two : Walked one.next (raw_after (raw_at one.next) c) (shown c ∷ []) rest = character-walked one.next c rest (ap (λ raw. is_raw_text raw c) one.raw_is ∙ h) one.fits_after in
      record {
        next = two.next;
        walks =
            walks-both exact (opened_at name standing) (opened_at name one.next) (opened_at name two.next) (carried_at standing) (carried_at one.next) (carried_at two.next)
            (item_text (raw_at standing) item) (shown c ∷ []) one.walks two.walks;
        raw_is = two.raw_is ∙ ap (λ raw. raw_after raw c) one.raw_is;
        fits_after = two.fits_after;
      }

  -- ---- `<` and letters at the end, which may be those of a switch

  goes-letters : (before letters : List ℕ) → list_all is_letter letters ≡ true
      → Goes exact (InRaw (InSwitch escape_kind.Escaped before) name) (spell_text letters) (InRaw (InSwitch escape_kind.Escaped (before ++ letters)) name)
  unfolding Goes step_at raw_place_step switch_step
  goes-letters before [] all = ap (λ l. InRaw (InSwitch escape_kind.Escaped l) name) (sym (append-nil before))
  goes-letters before (c ∷ letters) all =
      let p = and_parts (is_letter c) (list_all is_letter letters) all in (
        InRaw (InSwitch escape_kind.Escaped (before ++ c ∷ [])) name,
        rw p.0 refl,
        subst (λ l. Goes exact (InRaw (InSwitch escape_kind.Escaped (before ++ c ∷ [])) name) (spell_text letters) (InRaw (InSwitch escape_kind.Escaped l) name)) (append_assoc before (c ∷ []) letters)
            (goes-letters (before ++ c ∷ []) letters p.1),
      )

  pub switch-walked : (standing : Standing) (dashes : Dashes) (first : ℕ) (letters : List ℕ) → raw_at standing ≡ Escaped dashes → list_all is_letter (first ∷ letters) ≡ true
      → Walked standing (Escaped NoDash) (less_than ∷ first ∷ letters) []
  unfolding Goes step_at raw_place_step raw_less_than_step begins_mark begins_switch kind_of after_run
  switch-walked standing dashes first letters raw all =
      let p = and_parts (is_letter first) (list_all is_letter letters) all in
      let kind : kind_of (raw_at standing) ≡ raw_kind.ScriptDataEscaped escape_kind.Escaped = ap kind_of raw in
      let opened : Open = InRaw (AfterLessThan (raw_kind.ScriptDataEscaped escape_kind.Escaped)) name in
      let after_it : Open = InRaw (InSwitch escape_kind.Escaped (first ∷ letters)) name in
      record {
        next = Within (InSwitch escape_kind.Escaped (first ∷ letters));
        walks = record {
          cells = record { character = less_than; told = carried_at standing ++ [] } ∷ record { character = first; told = texts (less_than ∷ first ∷ []) } ∷ spell_text letters;
          goes = (
            opened,
            reads_less_than exact name standing ∙ rw kind refl,
            (InRaw (InSwitch escape_kind.Escaped (first ∷ [])) name, rw (letter-no_solidus first p.0, p.0) refl, goes-letters (first ∷ []) letters p.1),
          );
          is_text = ap (λ l. less_than ∷ first ∷ l) (characters-spell (λ c. texts (c ∷ [])) letters);
          told =
              append-nil (proper_tokens (carried_at standing ++ []) ++ (texts (less_than ∷ first ∷ []) ++ proper_cells (spell_text letters)))
              ∙ first-told (carried_at standing) [] (texts (less_than ∷ first ∷ []) ++ proper_cells (spell_text letters)) (proper-carried_at standing)
              ∙ ap (λ l. carried_at standing ++ (texts (less_than ∷ first ∷ []) ++ l)) (proper-spell letters);
        };
        raw_is = refl;
        fits_after = refl;
      }
