-- Each text is composed of items.
use Rattle.std.proofs.Common.{◌≡◌, ◌<◌, ℕ, zero, suc, Bool, true, false, List, [], ◌∷◌, ◌++◌, take, drop, length, length-append, refl, ap, sym, ◌∙◌, subst, arith}
use Rattle.std.specs.Prelude.{◌==◌, not, codes}
use Rattle.std.proofs.lemmas.Bool.{false≢true, eqb-true, eq-eqb}
use Rattle.std.proofs.lemmas.List.{append_assoc, take-append-drop}
use Rattle.std.specs.Option.{is_none}
use Rattle.html5ever_interface.specs.Sink.{Means, Message, stepped}
use Rattle.html5ever_interface.specs.Token.{TagOf, Reply}
use Rattle.html5grammar.specs.Anywhere.{start_beyond, last_reply}
use Rattle.html5reading.specs.Characters.{less_than, greater_than, ampersand, exclamation_mark, solidus, question_mark, is_letter, lower_case}
use Rattle.html5reading.specs.NormalisedText.{normalised, input_after}
use Rattle.html5grammar.specs.Comment as one_comment
use Rattle.html5grammar.specs.Comment.{can_open, before_greater_than, begins_with, is_written, occurs}
use Rattle.html5grammar.specs.Comment.WrittenComment.{Proper, Bogus}
use Rattle.html5grammar.specs.Comment.Opening.{Solidus, ExclamationMark}
use Rattle.html5reading.specs.Comment.{in_bogus_comment}
use Rattle.html5reading.specs.Start.{Start, Mode, Raw, Open, Rules, nothing_open}
use Rattle.html5reading.proofs.ReadingLemmas.{between-mode}
use Rattle.html5reading.specs.Start.Mode.{Data, Plain, RawText, Cdata}
use Rattle.html5reading.specs.Start.Open.{Between, LessThan}
use Rattle.html5grammar.specs.Reference.{has_references}
use Rattle.html5grammar.specs.Items.{is_text, is_lone_before, Item, Unfinished, Items, Composed, ToldItems, FinishedItems, is_text_at_once, is_text_later}
use Rattle.html5grammar.specs.Items.Item.{OneTag, OneCharacter, OneLone, OneLoneBefore, OneEmptyEnd, OneComment, OneInstruction, OneReferenceIn, OneDoctype, OneRawCharacter, OneCdata, OneRawMark, OneRawLessThan, OneRawLessThanBefore, OneRawEnd}
use Rattle.html5grammar.specs.Items.Unfinished.{OpenLessThan, OpenSolidus, OpenTag, OpenReference, OpenInstruction, OpenBogus, OpenKeyword, OpenBogusDeclaration, OpenDoctype, OpenComment, OpenCdata, OpenRaw, OpenSwitch, OpenRawEnd}
use Rattle.html5grammar.specs.Items.Items.{Nothing, Then, Last}
use Rattle.html5grammar.specs.Tag.{deciding_in, found_in, can_follow, needs_stop, WrittenTag, Part, opening, written, part_text, place_after_parts}
use Rattle.html5ever_interface.specs.Token.Reply.{KeepOn, ReadPlainText, ReadRawData, RunScript, SwitchEncoding}
use Rattle.html5ever_interface.specs.declared.interface.token.TagKind.{TagKind}
use Rattle.html5ever_interface.specs.declared.interface.token.TagKind.TheVariants.{StartTag, EndTag}
use Rattle.std.specs.Prelude.{flat_map, None, Some}
use Rattle.std.specs.List.{list_all}
use Rattle.html5grammar.specs.Spelled.{spelled_messages}
use Rattle.html5reading.specs.Reading.{open_after_reply, last_after}
use Rattle.html5reading.specs.Tag.{in_tag_name}
use Rattle.html5reading.specs.Start.Place.{InName}
use Rattle.html5grammar.specs.Tag as one_tag
use Rattle.html5grammar.proofs.Tag.Forms.{TagRest, tag-rest, Parts, Ending}
use Rattle.html5grammar.proofs.Tag.Forms.Ending.{Closed, CutOff, CutWithin}
use Rattle.html5grammar.specs.Doctype as one_doctype
use Rattle.html5grammar.specs.Doctype.{IsDoctypeText}
use Rattle.html5grammar.specs.Instruction as one_instruction
use Rattle.html5reading.specs.Instruction.{in_instruction}
use Rattle.html5grammar.specs.Declarations.{may_begin}
use Rattle.html5reading.specs.Doctype.{in_skipped_rest}
use Rattle.html5grammar.proofs.Doctype.Forms.{each-doctype}
use Rattle.std.specs.Cmp.Lexicographic.{same_text}
use Rattle.std.specs.Str.{bytes_eq}
use Rattle.std.specs.Char.{to_ascii_lowercase}
use Rattle.html5reading.specs.RawText.{is_rcdata, raw_after, kind_of}
use Rattle.html5reading.specs.Start.Raw.{Rcdata, Rawtext, ScriptData, Escaped, DoubleEscaped}
use Rattle.html5grammar.specs.Cdata as one_cdata
use Rattle.html5grammar.specs.Cdata.{WrittenCdata, IsCdataText}
use Rattle.html5grammar.proofs.HeldWords.{begins-word}
use Rattle.html5grammar.proofs.Cdata.Forms.{each-cdata}
use Rattle.std.proofs.lemmas.Bool.{and_parts, false_from_ne_true}
use Rattle.std.proofs.lemmas.List.{append-nil}
use Rattle.std.specs.Prelude.{◌||◌, ◌&&◌, if◌then◌else◌}
use Rattle.html5grammar.specs.RawText.{RawItem, raw_after_item, text_after_less_than}
use Rattle.html5grammar.specs.RawText.RawItem.{Character, LessThan, Letters, Mark, Switch}
use Rattle.html5grammar.proofs.RawText.Forms.{RawForm, raw-form, item-begins}
use Rattle.html5grammar.proofs.RawText.Forms.RawForm.{AtOnce, Later, BeforeMarkup, RawEnd, OpenItem, OpenLetters, OpenEnd}
use Rattle.html5reading.specs.Reading.{all_messages, state_after}
use Rattle.markup5ever.specs.NamedReferences.{IsTable}
use Rattle.html5grammar.proofs.Soundness.{tells-items, reading-items}
use Rattle.html5grammar.proofs.Split.{Split, split, nil≢cons, cons_first, cons_rest}
use Rattle.html5grammar.proofs.Comment.Forms.{Afterwards, afterwards, begins-parts}
use Rattle.html5grammar.proofs.Comment.Forms.Afterwards.{Ends, Open as Endless}

begins-longer : (word front later : List ℕ) → begins_with word front ≡ true → begins_with word (front ++ later) ≡ true
begins-longer word front later h =
    ap (begins_with word) (ap (λ l. l ++ later) (begins-parts word front h) ∙ append_assoc word (drop (length word) front) later) ∙ begins-word word (drop (length word) front ++ later)

none-before : (word front later : List ℕ) → begins_with word (front ++ later) ≡ false → begins_with word front ≡ false
none-before word front later h = false_from_ne_true (begins_with word front) (λ g. false≢true (sym h ∙ begins-longer word front later g))

none-both : (f a b : Bool) → (b ≡ true → a ≡ true) → (f && a) ≡ false → (f && b) ≡ false
none-both false a b g h = refl
none-both true a true g h = sym (g refl) ∙ h
none-both true a false g h = refl

all-dropped : (k : ℕ) (text : List ℕ) → list_all in_bogus_comment text ≡ true → list_all in_bogus_comment (drop k text) ≡ true
all-dropped zero text h = h
all-dropped (suc k) [] h = refl
all-dropped (suc k) (d ∷ text) h = all-dropped k text (and_parts (in_bogus_comment d) (list_all in_bogus_comment text) h).1

skipped-all : (text : List ℕ) → list_all in_bogus_comment text ≡ true → list_all in_skipped_rest text ≡ true
unfolding in_bogus_comment in_skipped_rest
skipped-all text h = h

take-mapped : (k : ℕ) (text : List ℕ) → take k (lower_case text) ≡ lower_case (take k text)
take-mapped zero text = refl
take-mapped (suc k) [] = refl
take-mapped (suc k) (c ∷ text) = ap (λ l. to_ascii_lowercase c ∷ l) (take-mapped k text)

doctype-word : (content : List ℕ) → begins_with (codes "doctype") (lower_case content) ≡ true → bytes_eq (lower_case (take 7 content)) (codes "doctype") ≡ true
doctype-word content h =
    ap (λ l. bytes_eq l (codes "doctype")) (sym (take-mapped 7 content) ∙ sym (same_text (codes "doctype") (take 7 (lower_case content)) (sym h)))

-- the first `]]>` of a text
data FirstEnd (T : List ℕ) : Type 0 where
  FirstEnds : (text later : List ℕ) → occurs (codes "]]>") text ≡ false → T ≡ text ++ (codes "]]>" ++ later) → FirstEnd T
  NoneEnds : occurs (codes "]]>") T ≡ false → FirstEnd T

begins-later : (front later : List ℕ) → begins_with (codes "]]>") front ≡ true → begins_with (codes "]]>") (front ++ later) ≡ true
begins-later front later h =
    let word : List ℕ = codes "]]>" in
    ap (begins_with word) (ap (λ l. l ++ later) (begins-parts word front h) ∙ append_assoc word (drop 3 front) later) ∙ begins-word word (drop 3 front ++ later)

-- a text has a first `]]>`, or none
first_end : (T : List ℕ) → FirstEnd T
unfolding occurs
first_end [] = NoneEnds refl
first_end (c ∷ T) = at (begins_with (codes "]]>") (c ∷ T)) refl (first_end T)
  where
    at : (b : Bool) → begins_with (codes "]]>") (c ∷ T) ≡ b → FirstEnd T → FirstEnd (c ∷ T)
    at true e w = FirstEnds [] (drop 3 (c ∷ T)) refl (begins-parts (codes "]]>") (c ∷ T) e)
    at false e (NoneEnds none) = NoneEnds (rw (e, none) refl)
    at false e (FirstEnds text later none parts) =
        let other : begins_with (codes "]]>") (c ∷ text) ≡ false =
        false_from_ne_true (begins_with (codes "]]>") (c ∷ text)) (λ h. false≢true (sym e ∙ ap (λ l. begins_with (codes "]]>") (c ∷ l)) parts ∙ begins-later (c ∷ text) (codes "]]>" ++ later) h)) in
        FirstEnds (c ∷ text) later (rw (other, none) refl) (ap (λ l. c ∷ l) parts)

cdata-written : (answer : Bool) (cdata : WrittenCdata) → cdata.has_opening ≡ false → one_cdata.is_written false cdata ≡ true → one_cdata.is_written answer cdata ≡ true
unfolding one_cdata.is_written
cdata-written answer cdata e h = rw e (and_parts (not cdata.has_opening || false) _ h).1

cdata-first : (text : List ℕ) → (a : ℕ) × (A : List ℕ) × (text ++ codes "]]>" ≡ a ∷ A)
cdata-first [] = (_, _, refl)
cdata-first (c ∷ text) = (_, _, refl)

-- the first `>` of a text
data UpTo_end (T : List ℕ) : Type 0 where
  End : (content later : List ℕ) → list_all in_bogus_comment content ≡ true → T ≡ content ++ greater_than ∷ later → UpTo_end T
  NoEnd : list_all in_bogus_comment T ≡ true → UpTo_end T

-- the content is the text, or stands before a `>`
data UpTo (T content : List ℕ) : Type 0 where
  Whole : T ≡ content → UpTo T content
  Before : (later : List ℕ) → T ≡ content ++ greater_than ∷ later → UpTo T content

up_to : (T : List ℕ) → UpTo_end T
unfolding in_bogus_comment
up_to [] = NoEnd refl
up_to (c ∷ T) = at (c == greater_than) refl (up_to T)
  where
    at : (g : Bool) → (c == greater_than) ≡ g → UpTo_end T → UpTo_end (c ∷ T)
    at true e w = End [] T refl (ap (λ d. d ∷ T) (eqb-true c greater_than e))
    at false e (End content later all parts) = End (c ∷ content) later (rw (e, all) refl) (ap (λ l. c ∷ l) parts)
    at false e (NoEnd all) = NoEnd (rw (e, all) refl)

opens-solidus : (c : ℕ) (T : List ℕ) → is_letter c ≡ false → (c == greater_than) ≡ false → (content : List ℕ) → UpTo (c ∷ T) content → (can_open false Solidus content ≡ true) × ((answer : Bool) → can_open answer Solidus content ≡ true)
opens-solidus c T no_letter no_end [] (Whole e) = absurd (nil≢cons (sym e))
opens-solidus c T no_letter no_end [] (Before later e) = absurd (false≢true (sym no_end ∙ eq-eqb c greater_than (cons_first e)))
opens-solidus c T no_letter no_end (d ∷ content) (Whole e) = let h : not (is_letter d) ≡ true = ap (λ x. not (is_letter x)) (sym (cons_first e)) ∙ ap not no_letter in (h, λ answer. h)
opens-solidus c T no_letter no_end (d ∷ content) (Before later e) = let h : not (is_letter d) ≡ true = ap (λ x. not (is_letter x)) (sym (cons_first e)) ∙ ap not no_letter in (h, λ answer. h)

later-item : (item : RawItem) → is_text_later item ≡ true → (is_text_at_once item || is_text_later item) ≡ true
later-item (Character c) h = h
later-item LessThan h = h
later-item (Letters letters) h = h
later-item Mark h = refl
later-item (Switch letters c) h = refl

same-pushed : (A B : List ℕ) (c : ℕ) → A ++ c ∷ [] ≡ B ++ c ∷ [] → A ≡ B
same-pushed [] [] c e = refl
same-pushed [] (b ∷ []) c e = absurd (nil≢cons (cons_rest e))
same-pushed [] (b ∷ d ∷ B) c e = absurd (nil≢cons (cons_rest e))
same-pushed (a ∷ []) [] c e = absurd (nil≢cons (sym (cons_rest e)))
same-pushed (a ∷ d ∷ A) [] c e = absurd (nil≢cons (sym (cons_rest e)))
same-pushed (a ∷ A) (b ∷ B) c e = ap (λ l. a ∷ l) (same-pushed A B c (cons_rest e)) ∙ ap (λ d. d ∷ B) (cons_first e)

module _ {X S H : Type 0} (means : Means X S H) (rules : Rules) where
  -- what comes first in a text
  pub data Next (K : Start) (s : S) (text : List ℕ) : Type 0 where
    NoText : normalised K.input text ≡ [] → Next K s text
    One : (Y Z : List ℕ) (M : List Message) (later : Start) → text ≡ Y ++ Z → Item means rules Z K s Y M later → nothing_open later.opened ≡ true
        → length (normalised later.input Z) < length (normalised K.input text) → Next K s text
    Cut : (M E : List Message) → Unfinished means rules K s text M E → Next K s text

  abbrev HasNext : Type 0
  HasNext = (K : Start) (s : S) (X : List ℕ) → nothing_open K.opened ≡ true → Next K s X

  composed-next : (K : Start) (s : S) (X : List ℕ) → nothing_open K.opened ≡ true
      → ((later : Start) (t : S) (Z : List ℕ) → nothing_open later.opened ≡ true → length (normalised later.input Z) < length (normalised K.input X) → Composed means rules later t Z)
      → Next K s X → Composed means rules K s X
  composed-next K s X clean further (NoText none) =
      let m = between-mode K.opened clean in
      record { tells = []; ends = _; items = Nothing K s X m.0 m.1 none }
  composed-next K s X clean further (One Y Z M later parts one goes_on less) =
      let rest : Composed means rules later (stepped means.step s M) Z = further later (stepped means.step s M) Z goes_on less in
      record { tells = M ++ rest.tells; ends = rest.ends; items = subst (λ T. Items means rules K s T (M ++ rest.tells) rest.ends) (sym parts) (Then K s Y Z M rest.tells rest.ends later one rest.items) }
  composed-next K s X clean further (Cut M E one) = record { tells = M; ends = E; items = Last K s X M E one }

  composed-within : HasNext → (n : ℕ) (K : Start) (s : S) (X : List ℕ) → nothing_open K.opened ≡ true → length (normalised K.input X) < n → Composed means rules K s X
  composed-within next zero K s X clean less = absurd (omega (arith, less))
  composed-within next (suc n) K s X clean less =
      composed-next K s X clean
      (λ later t Z goes_on fewer. composed-within next n later t Z goes_on (omega (arith, less, fewer)))
      (next K s X clean)

  pub composed : HasNext → (K : Start) (s : S) (X : List ℕ) → nothing_open K.opened ≡ true → Composed means rules K s X
  composed next K s X clean = composed-within next (suc (length (normalised K.input X))) K s X clean (omega arith)

  -- ---- what comes first, by the first characters

  shorter : (n : ℕ) (a : ℕ) (A B : List ℕ) → length B < length (a ∷ A ++ B)
  shorter n a A B = omega (arith, length-append (a ∷ A) B)

  -- an item that begins the normalised text
  next-item : (K : Start) (s : S) (X : List ℕ) (a : ℕ) (A B : List ℕ) (M : List Message) (opened : Open) (last : List ℕ) → normalised K.input X ≡ a ∷ A ++ B → nothing_open opened ≡ true
      → ((Y Z : List ℕ) → normalised K.input Y ≡ a ∷ A → normalised (input_after K.input Y) Z ≡ B → Item means rules Z K s Y M (start_beyond K Y opened last))
      → Next K s X
  next-item K s X a A B M opened last e clean item =
      let w : Split K.input X (a ∷ A) B = split K.input X (a ∷ A) B e in
      One w.Y w.Z M (start_beyond K w.Y opened last) w.parts (item w.Y w.Z w.front w.rest) clean
      (subst (λ n. n < length (normalised K.input X)) (sym (ap length w.rest)) (subst (λ n. length B < n) (sym (ap length e)) (shorter 0 a A B)))

  next-character : (K : Start) (s : S) (X : List ℕ) (mode : Mode) (c : ℕ) (T : List ℕ) → is_text mode c ≡ true → K.opened ≡ Between mode → normalised K.input X ≡ c ∷ T → Next K s X
  next-character K s X mode c T h starts e =
      next-item K s X c [] T _ (Between mode) K.last_start_tag e refl (λ Y Z front rest. OneCharacter mode c (record { starts = starts; is_text = h; text = front }))

  next-lone : (K : Start) (s : S) (X : List ℕ) (c : ℕ) (T : List ℕ) → is_lone_before c ≡ true → (t : Bool) → is_text Data c ≡ t → K.opened ≡ Between Data → normalised K.input X ≡ less_than ∷ c ∷ T → Next K s X
  next-lone K s X c T lone true h starts e =
      next-item K s X less_than (c ∷ []) T _ (Between Data) K.last_start_tag e refl (λ Y Z front rest. OneLone c (record { starts = starts; is_lone = lone; is_text = h; text = front }))
  next-lone K s X c T lone false h starts e =
      next-item K s X less_than [] (c ∷ T) _ (Between Data) K.last_start_tag e refl (λ Y Z front rest. OneLoneBefore c T (record { starts = starts; is_lone = lone; is_markup = h; text = front; next = rest }))

  next-reference : (K : Start) (s : S) (X : List ℕ) (mode : Mode) (F : List ℕ) (t : Bool) → is_none (deciding_in rules.references F) ≡ t → has_references mode ≡ true → K.opened ≡ Between mode
      → normalised K.input X ≡ ampersand ∷ F → Next K s X
  next-reference K s X mode F true h has starts e = Cut _ _ (OpenReference mode F (record { starts = starts; has = has; undecided = h; text = e }))
  next-reference K s X mode F false h has starts e =
      let n : ℕ = (found_in rules false F).taken in
      next-item K s X ampersand (take n F) (drop n F) _ (Between mode) K.last_start_tag (e ∙ ap (λ l. ampersand ∷ l) (sym (take-append-drop n F))) refl
      (λ Y Z front rest. OneReferenceIn mode F (record { starts = starts; has = has; decided = h; text = front; next = rest }))

  -- a section that is open
  next-cdata : (K : Start) (s : S) (X T : List ℕ) → K.opened ≡ Between Cdata → normalised K.input X ≡ T → FirstEnd T → Next K s X
  next-cdata K s X [] starts e first = NoText e
  next-cdata K s X (a ∷ T) starts e (NoneEnds none) =
      let w : IsCdataText false false (a ∷ T) = each-cdata false false (a ∷ T) none in
      Cut _ _ (OpenCdata w.cdata (record {
        starts = starts ∙ ap (λ b. if b then Between Data else Between Cdata) (sym w.opens);
        is_cdata = cdata-written (means.foreign s) w.cdata w.opens w.is_cdata;
        text = e ∙ sym (append-nil (a ∷ T)) ∙ sym w.is_text;
      }) w.ends)
  next-cdata K s X (a ∷ T) starts e (FirstEnds text later none parts) =
      let w : IsCdataText false true text = each-cdata false true text none in
      let q = cdata-first text in
      let whole : normalised K.input X ≡ q.0 ∷ q.1 ++ later =
      e ∙ parts ∙ sym (append_assoc text (codes "]]>") later) ∙ ap (λ l. l ++ later) q.2 in
      next-item K s X q.0 q.1 later _ (Between Data) K.last_start_tag whole refl
      (λ Y Z front rest. OneCdata w.cdata (record {
        starts = starts ∙ ap (λ b. if b then Between Data else Between Cdata) (sym w.opens);
        is_cdata = cdata-written (means.foreign s) w.cdata w.opens w.is_cdata;
        text = front ∙ sym q.2 ∙ sym w.is_text;
      }) w.ends)

  -- a section that begins here
  next-opened_cdata : (K : Start) (s : S) (X T : List ℕ) → means.foreign s ≡ true → K.opened ≡ Between Data → normalised K.input X ≡ codes "<![CDATA[" ++ T → FirstEnd T → Next K s X
  next-opened_cdata K s X T answer starts e (NoneEnds none) =
      let w : IsCdataText true false T = each-cdata true false T none in
      Cut _ _ (OpenCdata w.cdata (record {
        starts = starts ∙ ap (λ b. if b then Between Data else Between Cdata) (sym w.opens);
        is_cdata = ap (λ b. one_cdata.is_written b w.cdata) answer ∙ w.is_cdata;
        text = e ∙ ap (λ l. codes "<![CDATA[" ++ l) (sym (append-nil T)) ∙ sym w.is_text;
      }) w.ends)
  next-opened_cdata K s X T answer starts e (FirstEnds text later none parts) =
      let w : IsCdataText true true text = each-cdata true true text none in
      let whole : normalised K.input X ≡ less_than ∷ (codes "![CDATA[" ++ (text ++ codes "]]>")) ++ later =
      e ∙ ap (λ l. codes "<![CDATA[" ++ l) (parts ∙ sym (append_assoc text (codes "]]>") later)) in
      next-item K s X less_than (codes "![CDATA[" ++ (text ++ codes "]]>")) later _ (Between Data) K.last_start_tag whole refl
      (λ Y Z front rest. OneCdata w.cdata (record {
        starts = starts ∙ ap (λ b. if b then Between Data else Between Cdata) (sym w.opens);
        is_cdata = ap (λ b. one_cdata.is_written b w.cdata) answer ∙ w.is_cdata;
        text = front ∙ sym w.is_text;
      }) w.ends)

  -- a doctype, and a bogus comment after `<!`
  next-ended : (K : Start) (s : S) (X content later : List ℕ) → begins_with (codes "--") content ≡ false → (means.foreign s && begins_with (codes "[CDATA[") content) ≡ false → list_all in_bogus_comment content ≡ true
      → (d : Bool) → begins_with (codes "doctype") (lower_case content) ≡ d → K.opened ≡ Between Data → normalised K.input X ≡ codes "<!" ++ ((content ++ greater_than ∷ []) ++ later) → Next K s X
  unfolding one_comment.written is_written
  next-ended K s X content later no_dashes no_cdata all true d starts e =
      let word : List ℕ = take 7 content in
      let rest : List ℕ = drop 7 content in
      let w : IsDoctypeText word rest = each-doctype word rest (doctype-word content d) (skipped-all rest (all-dropped 7 content all)) in
      let parts : word ++ (rest ++ greater_than ∷ []) ≡ content ++ greater_than ∷ [] = sym (append_assoc word rest (greater_than ∷ [])) ∙ ap (λ l. l ++ greater_than ∷ []) (take-append-drop 7 content) in
      next-item K s X less_than (exclamation_mark ∷ content ++ greater_than ∷ []) later _ (Between Data) K.last_start_tag e refl
      (λ Y Z front after_it. OneDoctype w.doctype (record { starts = starts; is_doctype = w.is_doctype; text = front ∙ ap (λ l. codes "<!" ++ l) (sym parts) ∙ sym w.is_text }))
  next-ended K s X content later no_dashes no_cdata all false d starts e =
      next-item K s X less_than (exclamation_mark ∷ content ++ greater_than ∷ []) later _ (Between Data) K.last_start_tag e refl
      (λ Y Z front after_it. OneComment (Bogus ExclamationMark content) (record { starts = starts; is_comment = rw (no_dashes, d, no_cdata, all) refl; text = front }))

  -- a bogus comment after `</`
  next-bogus : (K : Start) (s : S) (X T : List ℕ) → ((content : List ℕ) → UpTo T content → (can_open false Solidus content ≡ true) × ((answer : Bool) → can_open answer Solidus content ≡ true))
      → K.opened ≡ Between Data → normalised K.input X ≡ codes "</" ++ T → UpTo_end T → Next K s X
  unfolding one_comment.written is_written
  next-bogus K s X T opens starts e (NoEnd all) =
      Cut _ _ (OpenBogus T (record { starts = starts; opens = (opens T (Whole refl)).0; within = all; text = e }))
  next-bogus K s X T opens starts e (End content later all parts) =
      let W : List ℕ = content ++ greater_than ∷ [] in
      let whole : normalised K.input X ≡ less_than ∷ (solidus ∷ W) ++ later =
      e ∙ ap (λ l. codes "</" ++ l) (parts ∙ sym (append_assoc content (greater_than ∷ []) later)) in
      next-item K s X less_than (solidus ∷ W) later _ (Between Data) K.last_start_tag whole refl
      (λ Y Z text rest. OneComment (Bogus Solidus content) (record {
        starts = starts;
        is_comment = rw ((opens content (Before later parts)).1 (means.foreign s), all) refl;
        text = text;
      }))

  -- after `<?`
  next-instruction : (K : Start) (s : S) (X T : List ℕ) → K.opened ≡ Between Data → normalised K.input X ≡ codes "<?" ++ T → UpTo_end T → Next K s X
  unfolding one_instruction.written one_instruction.is_written in_bogus_comment in_instruction
  next-instruction K s X T starts e (NoEnd all) =
      Cut _ _ (OpenInstruction (record { content = T; is_ended = false }) (record {
        starts = starts;
        is_instruction = all;
        text = e ∙ ap (λ l. codes "<?" ++ l) (sym (append-nil T));
      }) refl)
  next-instruction K s X T starts e (End content later all parts) =
      let W : List ℕ = content ++ greater_than ∷ [] in
      let whole : normalised K.input X ≡ less_than ∷ (question_mark ∷ W) ++ later =
      e ∙ ap (λ l. codes "<?" ++ l) (parts ∙ sym (append_assoc content (greater_than ∷ []) later)) in
      next-item K s X less_than (question_mark ∷ W) later _ (Between Data) K.last_start_tag whole refl
      (λ Y Z text rest. OneInstruction (record { content = content; is_ended = true }) (record { starts = starts; is_instruction = all; text = text }) refl)

  -- `<!` and no `>`: a doctype, a keyword that is not decided, or a bogus comment
  next-open_doctype : (K : Start) (s : S) (X T : List ℕ) → begins_with (codes "doctype") (lower_case T) ≡ true → list_all in_bogus_comment T ≡ true
      → K.opened ≡ Between Data → normalised K.input X ≡ codes "<!" ++ T → Next K s X
  unfolding one_doctype.written
  next-open_doctype K s X T d all starts e =
      let word : List ℕ = take 7 T in
      let rest : List ℕ = drop 7 T in
      let w : IsDoctypeText word rest = each-doctype word rest (doctype-word T d) (skipped-all rest (all-dropped 7 T all)) in
      let front : List ℕ = one_doctype.opening w.doctype.word w.doctype.space in
      let content : List ℕ = one_doctype.content_text w.doctype.content in
      let text : (front ++ content) ++ greater_than ∷ [] ≡ (codes "<!" ++ T) ++ greater_than ∷ [] =
      append_assoc front content (greater_than ∷ []) ∙ w.is_text
      ∙ ap (λ l. codes "<!" ++ l) (sym (append_assoc word rest (greater_than ∷ [])) ∙ ap (λ l. l ++ greater_than ∷ []) (take-append-drop 7 T)) in
      Cut _ _ (OpenDoctype w.doctype (record { starts = starts; is_doctype = w.is_doctype; text = e ∙ sym (same-pushed (front ++ content) (codes "<!" ++ T) greater_than text) }))

  next-open_declaration : (K : Start) (s : S) (X T : List ℕ) → begins_with (codes "--") T ≡ false → (means.foreign s && begins_with (codes "[CDATA[") T) ≡ false → list_all in_bogus_comment T ≡ true
      → (d m : Bool) → begins_with (codes "doctype") (lower_case T) ≡ d → may_begin (means.foreign s) T ≡ m
      → K.opened ≡ Between Data → normalised K.input X ≡ codes "<!" ++ T → Next K s X
  next-open_declaration K s X T no_dashes no_cdata all true m d e starts text = next-open_doctype K s X T d all starts text
  next-open_declaration K s X T no_dashes no_cdata all false true d e starts text =
      Cut _ _ (OpenKeyword T (record { starts = starts; opens = rw (no_dashes, d, no_cdata) refl; undecided = e; text = text }))
  next-open_declaration K s X T no_dashes no_cdata all false false d e starts text =
      Cut _ _ (OpenBogusDeclaration T (record { starts = starts; opens = rw (no_dashes, d, no_cdata) refl; decided = e; within = all; text = text }))

  -- after `<!--`
  next-comment : (K : Start) (s : S) (X T : List ℕ) → K.opened ≡ Between Data → normalised K.input X ≡ codes "<!--" ++ T → Afterwards T → Next K s X
  unfolding one_comment.written is_written
  next-comment K s X T starts e (Endless h) = Cut _ _ (OpenComment T (record { starts = starts; is_content = h; text = e }))
  next-comment K s X T starts e (Ends content ending later h parts) =
      let front : List ℕ = content ++ before_greater_than ending in
      let whole : normalised K.input X ≡ one_comment.written (Proper content ending) ++ later =
      e ∙ ap (λ l. codes "<!--" ++ l) (parts ∙ sym (append_assoc front (greater_than ∷ []) later)) in
      next-item K s X less_than (codes "!--" ++ (front ++ greater_than ∷ [])) later _ (Between Data) K.last_start_tag whole refl
      (λ Y Z text rest. OneComment (Proper content ending) (record { starts = starts; is_comment = h; text = text }))

  nothing_open-reply : (last : List ℕ) (r : Reply H) → nothing_open (open_after_reply last r) ≡ true
  nothing_open-reply last KeepOn = refl
  nothing_open-reply last ReadPlainText = refl
  nothing_open-reply last (ReadRawData kind) = refl
  nothing_open-reply last (RunScript handle) = refl
  nothing_open-reply last (SwitchEncoding bytes) = refl

  written-first : (kind : TagKind) (c : ℕ) (rest : List ℕ) (parts : List Part) → (A : List ℕ) × (written (record { kind = kind; first = c; rest = rest; parts = parts }) ≡ less_than ∷ A)
  unfolding written
  written-first StartTag c rest parts = (_, refl)
  written-first EndTag c rest parts = (_, refl)

  whole-tag : (kind : TagKind) (c : ℕ) (rest : List ℕ) (parts : List Part) (Z : List ℕ)
      → opening kind ++ (c ∷ rest ++ (flat_map part_text parts ++ greater_than ∷ Z)) ≡ written (record { kind = kind; first = c; rest = rest; parts = parts }) ++ Z
  unfolding written
  whole-tag kind c rest parts Z =
      let flat : List ℕ = flat_map part_text parts in
      ap (λ l. opening kind ++ c ∷ l) (sym (append_assoc rest flat (greater_than ∷ Z)))
      ∙ sym (append_assoc (opening kind) (c ∷ rest ++ flat) (greater_than ∷ Z))
      ∙ sym (append_assoc (opening kind ++ (c ∷ rest ++ flat)) (greater_than ∷ []) Z)

  -- `<` in raw text
  next-raw_form : (K : Start) (s : S) (X : List ℕ) (raw : Raw) (name T : List ℕ) → RawForm raw name T → K.opened ≡ Between (RawText raw name) → normalised K.input X ≡ less_than ∷ T → Next K s X
  next-raw_form K s X raw name T (AtOnce item F at_once can parts) starts e =
      let first = item-begins raw item (rw at_once refl) in
      next-item K s X less_than (text_after_less_than (kind_of raw) item) F _ (Between (RawText (raw_after_item raw item) name)) K.last_start_tag
      (e ∙ parts ∙ ap (λ l. l ++ F) first) refl
      (λ Y Z front rest. OneRawMark raw name item (record { starts = starts; at_once = at_once; stands = can; text = front ∙ sym first }))
  next-raw_form K s X raw name T (Later item c F later stands is_text parts) starts e =
      let first = item-begins raw item (later-item item later) in
      next-item K s X less_than (text_after_less_than (kind_of raw) item ++ c ∷ []) F _ (Between (RawText (raw_after (raw_after_item raw item) c) name)) K.last_start_tag
      (e ∙ parts ∙ ap (λ l. (l ++ c ∷ []) ++ F) first) refl
      (λ Y Z front rest. OneRawLessThan raw name item c F (record { starts = starts; later = later; stands = stands; is_text = is_text; text = front ∙ ap (λ l. l ++ c ∷ []) (sym first); next = rest }))
  next-raw_form K s X raw name T (BeforeMarkup item c F later stands markup parts) starts e =
      let first = item-begins raw item (later-item item later) in
      next-item K s X less_than (text_after_less_than (kind_of raw) item) (c ∷ F) _ (Between (RawText (raw_after_item raw item) name)) K.last_start_tag
      (e ∙ parts ∙ ap (λ l. l ++ c ∷ F) first) refl
      (λ Y Z front rest. OneRawLessThanBefore raw name item c F (record { starts = starts; later = later; stands = stands; is_markup = markup; text = front ∙ sym first; next = rest }))
  next-raw_form K s X raw name T (RawEnd tag F ends is_tag parts) starts e =
      let w = written-first tag.kind tag.first tag.rest tag.parts in
      let M : List Message = spelled_messages rules.exact K.input [] (one_tag.spelled rules tag) in
      let last : List ℕ = last_after K.last_start_tag (one_tag.tag_told rules tag) in
      next-item K s X less_than w.0 F M (open_after_reply last (last_reply means.step means.reply s M)) last
      (e ∙ parts ∙ ap (λ l. l ++ F) w.1) (nothing_open-reply last (last_reply means.step means.reply s M))
      (λ Y Z front rest. OneRawEnd raw name tag (record { starts = starts; ends = ends; is_tag = is_tag; text = front ∙ sym w.1 }))
  next-raw_form K s X raw name T (OpenItem item later can parts) starts e =
      Cut _ _ (OpenRaw raw name item (record { starts = starts; later = later; stands = can; text = e ∙ parts }))
  next-raw_form K s X raw name T (OpenLetters dashes first letters is_escaped all parts) starts e =
      Cut _ _ (OpenSwitch dashes name first letters (record {
        starts = starts ∙ ap (λ r. Between (RawText r name)) is_escaped;
        are_letters = all;
        text = e ∙ ap (λ l. less_than ∷ l) parts;
      }))
  next-raw_form K s X raw name T (OpenEnd tag last ends has_parts is_open parts) starts e =
      Cut _ _ (OpenRawEnd raw name tag last (record { starts = starts; ends = ends; has_parts = has_parts; is_open = is_open; text = e ∙ parts }))

  -- a tag is the next item, whatever the text after it
  next-tag_by : (K : Start) (s : S) (X : List ℕ) (kind : TagKind) (c : ℕ) (rest : List ℕ) (parts : List Part) (tail : List ℕ) → is_letter c ≡ true → list_all in_tag_name rest ≡ true → can_follow InName parts ≡ true
      → Ending (place_after_parts InName parts) tail → K.opened ≡ Between Data → normalised K.input X ≡ opening kind ++ (c ∷ rest ++ (flat_map part_text parts ++ tail)) → Next K s X
  unfolding one_tag.is_written one_tag.is_open_written one_tag.open_written
  next-tag_by K s X kind c rest parts tail letter all follow (CutOff stops none) starts text =
      let tag : WrittenTag = record { kind = kind; first = c; rest = rest; parts = parts } in
      let whole : normalised K.input X ≡ one_tag.open_written tag None = text ∙ ap (λ l. opening kind ++ (c ∷ rest ++ (flat_map part_text parts ++ l))) none in
      Cut _ _ (OpenTag tag None (record { starts = starts; is_open = rw (letter, all, follow, stops) refl; text = whole }))
  next-tag_by K s X kind c rest parts tail letter all follow (CutWithin first name value named cut tail_is) starts text =
      let tag : WrittenTag = record { kind = kind; first = c; rest = rest; parts = parts } in
      let last : one_tag.OpenAttribute = record { first = first; name = name; space = cut.space; afterwards = cut.afterwards; kind = cut.kind; run = cut.run } in
      let whole : normalised K.input X ≡ one_tag.open_written tag (Some last) =
      text ∙ ap (λ l. opening kind ++ (c ∷ rest ++ (flat_map part_text parts ++ l))) (tail_is ∙ ap (λ l. first ∷ name ++ l) cut.parts) in
      Cut _ _ (OpenTag tag (Some last) (record { starts = starts; is_open = rw (letter, all, follow, named, cut.space_white, cut.after_white, cut.is_open) refl; text = whole }))
  next-tag_by K s X kind c rest parts tail letter all follow (Closed Z closed) starts text =
      let tag : WrittenTag = record { kind = kind; first = c; rest = rest; parts = parts } in
      let w = written-first kind c rest parts in
      let M : List Message = spelled_messages rules.exact K.input [] (one_tag.spelled rules tag) in
      let told : TagOf = one_tag.tag_told rules tag in
      let name : List ℕ = last_after K.last_start_tag told in
      let is_tag : one_tag.is_written tag ≡ true = rw (letter, all, follow) refl in
      next-item K s X less_than w.0 Z M (open_after_reply name (last_reply means.step means.reply s M)) name
      (text ∙ ap (λ l. opening kind ++ (c ∷ rest ++ (flat_map part_text parts ++ l))) closed ∙ whole-tag kind c rest parts Z ∙ ap (λ l. l ++ Z) w.1)
      (nothing_open-reply name (last_reply means.step means.reply s M))
      (λ Y Z front rest. OneTag tag (record { starts = starts; is_tag = is_tag; text = front ∙ sym w.1 }))

  next-tag : (K : Start) (s : S) (X : List ℕ) (kind : TagKind) (c : ℕ) (T : List ℕ) → is_letter c ≡ true → K.opened ≡ Between Data → normalised K.input X ≡ opening kind ++ c ∷ T → Next K s X
  next-tag K s X kind c T letter starts e =
      let t : TagRest T = tag-rest T in
      let p : Parts InName t.later = t.more in
      next-tag_by K s X kind c t.rest p.list p.tail letter t.all p.follow p.ending starts
      (e ∙ ap (λ l. opening kind ++ c ∷ l) (t.parts ∙ ap (λ l. t.rest ++ l) p.parts))

  -- after `<!` without dashes stands a doctype, a section or a bogus comment, each maybe unfinished
  next-after_mark : (K : Start) (s : S) (X T : List ℕ) → begins_with (codes "--") T ≡ false → (t : Bool) → (means.foreign s && begins_with (codes "[CDATA[") T) ≡ t → K.opened ≡ Between Data → normalised K.input X ≡ less_than ∷ exclamation_mark ∷ T → UpTo_end T → Next K s X
  next-after_mark K s X T no_dashes true h starts e w =
      let p = and_parts (means.foreign s) (begins_with (codes "[CDATA[") T) h in
      let later : List ℕ = drop 7 T in
      next-opened_cdata K s X later p.0 starts (e ∙ ap (λ l. codes "<!" ++ l) (begins-parts (codes "[CDATA[") T p.1)) (first_end later)
  next-after_mark K s X T no_dashes false h starts e (NoEnd all) = next-open_declaration K s X T no_dashes h all (begins_with (codes "doctype") (lower_case T)) (may_begin (means.foreign s) T) refl refl starts e
  next-after_mark K s X T no_dashes false h starts e (End content later all parts) =
      let other : begins_with (codes "--") content ≡ false = none-before (codes "--") content (greater_than ∷ later) (ap (begins_with (codes "--")) (sym parts) ∙ no_dashes) in
      let no_cdata : (means.foreign s && begins_with (codes "[CDATA[") content) ≡ false =
      none-both (means.foreign s) (begins_with (codes "[CDATA[") T) (begins_with (codes "[CDATA[") content) (λ g. ap (begins_with (codes "[CDATA[")) parts ∙ begins-longer (codes "[CDATA[") content (greater_than ∷ later) g) h in
      next-ended K s X content later other no_cdata all (begins_with (codes "doctype") (lower_case content)) refl starts
      (e ∙ ap (λ l. codes "<!" ++ l) (parts ∙ sym (append_assoc content (greater_than ∷ []) later)))

  next-declaration : (K : Start) (s : S) (X T : List ℕ) (t : Bool) → begins_with (codes "--") T ≡ t → K.opened ≡ Between Data → normalised K.input X ≡ less_than ∷ exclamation_mark ∷ T → Next K s X
  next-declaration K s X T true h starts e =
      let later : List ℕ = drop 2 T in
      next-comment K s X later starts (e ∙ ap (λ l. less_than ∷ exclamation_mark ∷ l) (begins-parts (codes "--") T h)) (afterwards later)
  next-declaration K s X T false h starts e = next-after_mark K s X T h (means.foreign s && begins_with (codes "[CDATA[") T) refl starts e (up_to T)

  next-solidus : (K : Start) (s : S) (X T : List ℕ) → K.opened ≡ Between Data → normalised K.input X ≡ less_than ∷ solidus ∷ T → Next K s X
  next-solidus K s X [] starts e = Cut _ _ (OpenSolidus starts e)
  next-solidus K s X (c ∷ T) starts e = at (is_letter c) (c == greater_than) refl refl
    where
      at : (l g : Bool) → is_letter c ≡ l → (c == greater_than) ≡ g → Next K s X
      at true g h i = next-tag K s X EndTag c T h starts e
      at false true h i =
          next-item K s X less_than (codes "/>") T _ (Between Data) K.last_start_tag (e ∙ ap (λ d. less_than ∷ solidus ∷ d ∷ T) (eqb-true c greater_than i)) refl
          (λ Y Z front rest. OneEmptyEnd (record { starts = starts; text = front }))
      at false false h i = next-bogus K s X (c ∷ T) (opens-solidus c T h i) starts e (up_to (c ∷ T))

  next-less_than : (K : Start) (s : S) (X T : List ℕ) → K.opened ≡ Between Data → normalised K.input X ≡ less_than ∷ T → Next K s X
  next-less_than K s X [] starts e = Cut _ _ (OpenLessThan starts e)
  next-less_than K s X (c ∷ T) starts e = at (is_letter c) (c == solidus) (c == exclamation_mark) (c == question_mark) refl refl refl refl
    where
      at : (l d x q : Bool) → is_letter c ≡ l → (c == solidus) ≡ d → (c == exclamation_mark) ≡ x → (c == question_mark) ≡ q → Next K s X
      at true d x q h i j k = next-tag K s X StartTag c T h starts e
      at false true x q h i j k = next-solidus K s X T starts (e ∙ ap (λ b. less_than ∷ b ∷ T) (eqb-true c solidus i))
      at false false true q h i j k = next-declaration K s X T (begins_with (codes "--") T) refl starts (e ∙ ap (λ b. less_than ∷ b ∷ T) (eqb-true c exclamation_mark j))
      at false false false true h i j k = next-instruction K s X T starts (e ∙ ap (λ b. less_than ∷ b ∷ T) (eqb-true c question_mark k)) (up_to T)
      at false false false false h i j k = next-lone K s X c T (rw (h, i, j, k) refl) (is_text Data c) refl starts e

  next-data : (K : Start) (s : S) (X T : List ℕ) → K.opened ≡ Between Data → normalised K.input X ≡ T → Next K s X
  next-data K s X [] starts e = NoText e
  next-data K s X (c ∷ T) starts e = at (c == less_than) (c == ampersand) refl refl
    where
      at : (l a : Bool) → (c == less_than) ≡ l → (c == ampersand) ≡ a → Next K s X
      at true a h i = next-less_than K s X T starts (e ∙ ap (λ b. b ∷ T) (eqb-true c less_than h))
      at false true h i = next-reference K s X Data T (is_none (deciding_in rules.references T)) refl refl starts (e ∙ ap (λ b. b ∷ T) (eqb-true c ampersand i))
      at false false h i = next-character K s X Data c T (rw (h, i) refl) starts e

  next-plain : (K : Start) (s : S) (X T : List ℕ) → K.opened ≡ Between Plain → normalised K.input X ≡ T → Next K s X
  next-plain K s X [] starts e = NoText e
  next-plain K s X (c ∷ T) starts e = next-character K s X Plain c T refl starts e

  next-raw : (K : Start) (s : S) (X : List ℕ) (raw : Raw) (name T : List ℕ) → K.opened ≡ Between (RawText raw name) → normalised K.input X ≡ T → Next K s X
  next-raw K s X raw name [] starts e = NoText e
  next-raw K s X raw name (c ∷ T) starts e = at (c == less_than) (is_rcdata raw && (c == ampersand)) refl refl
    where
      reference-mode : (r : Raw) → is_rcdata r ≡ true → has_references (RawText r name) ≡ true
      reference-mode Rcdata h = refl
      reference-mode Rawtext h = absurd (false≢true h)
      reference-mode ScriptData h = absurd (false≢true h)
      reference-mode (Escaped dashes) h = absurd (false≢true h)
      reference-mode (DoubleEscaped dashes) h = absurd (false≢true h)

      at : (l a : Bool) → (c == less_than) ≡ l → (is_rcdata raw && (c == ampersand)) ≡ a → Next K s X
      at true a h i = next-raw_form K s X raw name T (raw-form raw name T) starts (e ∙ ap (λ b. b ∷ T) (eqb-true c less_than h))
      at false true h i =
          let p = and_parts (is_rcdata raw) (c == ampersand) i in
          next-reference K s X (RawText raw name) T (is_none (deciding_in rules.references T)) refl (reference-mode raw p.0) starts (e ∙ ap (λ b. b ∷ T) (eqb-true c ampersand p.1))
      at false false h i =
          next-item K s X c [] T _ (Between (RawText (raw_after raw c) name)) K.last_start_tag e refl
          (λ Y Z front rest. OneRawCharacter raw name c (record { starts = starts; is_text = rw (h, i) refl; text = front }))

  next-mode : (K : Start) (s : S) (X : List ℕ) (mode : Mode) → K.opened ≡ Between mode → Next K s X
  next-mode K s X Data starts = next-data K s X (normalised K.input X) starts refl
  next-mode K s X Plain starts = next-plain K s X (normalised K.input X) starts refl
  next-mode K s X (RawText raw name) starts = next-raw K s X raw name (normalised K.input X) starts refl
  next-mode K s X Cdata starts = next-cdata K s X (normalised K.input X) starts refl (first_end (normalised K.input X))

  pub all-composed : (K : Start) (s : S) (X : List ℕ) → nothing_open K.opened ≡ true → Composed means rules K s X
  all-composed = composed (λ K s X clean. let m = between-mode K.opened clean in next-mode K s X m.0 m.1)

  -- ---- what contracts promise

  pub told-items : (K : Start) (s : S) (X : List ℕ) (t : S) → IsTable rules.references → nothing_open K.opened ≡ true → t ≡ state_after means rules K s X → ToldItems means rules K s X t
  told-items K s X t table clean e =
      let c : Composed means rules K s X = all-composed K s X clean in
      record {
        tells = c.tells;
        ends = c.ends;
        items = c.items;
        state = e ∙ ap (stepped means.step s) (tells-items means rules K s X c.tells c.ends table c.items).told;
      }

  pub finished-items : (K : Start) (s : S) (X : List ℕ) (t : S) → IsTable rules.references → nothing_open K.opened ≡ true
      → t ≡ means.finish (stepped means.step s (all_messages means rules K s X)) → FinishedItems means rules K s X t
  finished-items K s X t table clean e =
      let c : Composed means rules K s X = all-composed K s X clean in
      record {
        tells = c.tells;
        ends = c.ends;
        items = c.items;
        state = e ∙ ap (λ M. means.finish (stepped means.step s M)) (reading-items means rules K s X c.tells c.ends table c.items);
      }
