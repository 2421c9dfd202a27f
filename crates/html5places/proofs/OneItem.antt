-- That markup is one item of the grammar, or an unfinished one.
use Rattle.std.proofs.Common.{◌≡◌, ◌≤◌, ◌⊎◌, inl, inr, ℕ, Bool, true, false, List, [], ◌∷◌, ◌++◌, length, refl, ap, sym, ◌∙◌, subst, arith}
use Rattle.std.specs.Prelude.{◌==◌, ◌&&◌, ◌||◌, not, codes, flat_map, Option, None, Some, if◌then◌else◌}
use Rattle.std.specs.List.{list_all}
use Rattle.std.proofs.lemmas.Bool.{and_parts, false≢true, not-true}
use Rattle.std.proofs.lemmas.List.{append-nil, append_assoc, length-map}
use Rattle.html5ever_interface.specs.Sink.{Message, on_line}
use Rattle.html5ever_interface.specs.Token.{Told, DoctypeOf}
use Rattle.html5ever_interface.specs.declared.states.State.{State}
use Rattle.html5ever_interface.specs.declared.states.State.TheVariants as state
use Rattle.html5reading.specs.ErrorText.{end_error_in}
use Rattle.html5grammar.specs.Declarations.{after_name_end, doctype_end, keyword_at_end, keyword_error_at_end, open_doctype_at_end}
use Rattle.html5grammar.specs.Doctype.Content.{NoName, Named}
use Rattle.html5reading.specs.Start.Dashes.{NoDash}
use Rattle.html5ever_interface.specs.Token.Told.{Comment, End, Text}
use Rattle.html5ever_interface.specs.declared.interface.token.TagKind.{TagKind}
use Rattle.html5ever_interface.specs.declared.interface.token.TagKind.TheVariants.{StartTag, EndTag}
use Rattle.html5ever_interface.specs.declared.states.RawKind.{RawKind}
use Rattle.html5ever_interface.specs.declared.states.RawKind.TheVariants as raw_kind
use Rattle.html5ever_interface.specs.declared.states.ScriptEscapeKind.TheVariants as escape_kind
use Rattle.html5feed.specs.Beginning.{is_after_less_than}
use Rattle.html5grammar.specs.Anywhere.{TellsByItself, start_beyond}
use Rattle.html5grammar.specs.Cdata as one_cdata
use Rattle.html5grammar.specs.Comment as one_comment
use Rattle.html5grammar.specs.Comment.Opening.{Solidus, ExclamationMark}
use Rattle.html5grammar.specs.Comment.WrittenComment.{Proper, Bogus}
use Rattle.html5grammar.specs.Doctype as one_doctype
use Rattle.html5grammar.specs.Doctype.{told_after_name}
use Rattle.html5grammar.specs.Instruction as one_instruction
use Rattle.html5grammar.specs.Items.{IsEmptyEnd, spell_empty_end, Item, Items, Unfinished, IsRawLessThan, IsRawLessThanBefore, IsRawMark, is_lone_before, is_raw_text, is_text, is_text_later, end_line, open_comment_at_end, stands_before}
use Rattle.html5grammar.specs.Items.Item.{OneTag, OneCharacter, OneLone, OneLoneBefore, OneEmptyEnd, OneComment, OneInstruction, OneReferenceIn, OneDoctype, OneRawCharacter, OneCdata, OneRawMark, OneRawLessThan, OneRawLessThanBefore, OneRawEnd}
use Rattle.html5grammar.specs.Items.Unfinished.{OpenLessThan, OpenSolidus, OpenTag, OpenReference, OpenInstruction, OpenBogus, OpenKeyword, OpenBogusDeclaration, OpenDoctype, OpenComment, OpenCdata, OpenRaw, OpenSwitch, OpenRawEnd}
use Rattle.html5grammar.specs.Items.Items.{Nothing, Then, Last}
use Rattle.html5grammar.specs.RawText.{RawItem, carried, raw_after_item, can_stand, can_switch, is_alone_before, is_double_escaped, item_text, spell_item, switch_text}
use Rattle.html5grammar.specs.RawText.RawItem.{Character, LessThan, Letters, Mark, Switch}
use Rattle.html5grammar.specs.Spelled.{Spelled, spelled_messages}
use Rattle.html5grammar.specs.Tag as one_tag
use Rattle.html5grammar.proofs.ByItself.{trace-by_itself}
use Rattle.html5grammar.proofs.Comment.Reading.{reads_comment}
use Rattle.html5grammar.proofs.Doctype.Reading.{reads_doctype}
use Rattle.html5grammar.proofs.Instruction.Reading as instructions
use Rattle.html5grammar.proofs.Tag.Parts.{tag-by_itself}
use Rattle.html5places.proofs.RawEnds.{raw_end-by_itself}
use Rattle.html5grammar.proofs.Completeness.{all-composed}
use Rattle.html5grammar.proofs.Goes.{Goes, characters-two}
use Rattle.html5grammar.proofs.Leading.{Leads, Leads-append, leads-goes, trace-text}
use Rattle.html5grammar.proofs.RawText.Reading.{characters-item}
use Rattle.html5grammar.proofs.RawText.Steps.{goes-end_letters, reads_anew, reads_less_than}
use Rattle.html5grammar.proofs.RawText.Steps.Standing.{Free, Within}
use Rattle.html5grammar.proofs.Soundness.{item-tells, tells-items}
use Rattle.html5grammar.proofs.Split.{Split, cons_first, cons_rest, kept-one, nil≢cons, one_of, split}
use Rattle.html5grammar.proofs.Telling.{TellsAll}
use Rattle.html5reading.specs.Characters.{ampersand, exclamation_mark, greater_than, is_letter, less_than, name_bytes, solidus, value_bytes}
use Rattle.html5reading.specs.EndOfInput.{raw_end_error, tokens_at_end}
use Rattle.html5reading.specs.Machine.{brought_at, data_step, less_than_step, solidus_step, raw_place_step, raw_step, step_at}
use Rattle.html5reading.specs.NormalisedText.{drops_first, input_after, line_after, normalised, with_line_feeds, without_dropped_first}
use Rattle.html5reading.specs.RawText.{ends_raw_text, is_rcdata, kind_of, raw_after, raw_character, texts, told_at_less_than}
use Rattle.html5reading.specs.Reading.{messages_so_far, start_after}
use Rattle.html5reading.specs.Reading.Here.{Tells}
use Rattle.html5reading.specs.Start.{Mode, Open, Raw, Rules, Start, nothing_open, raw_of}
use Rattle.html5reading.specs.Start.Raw.{Rcdata, Rawtext, ScriptData, Escaped, DoubleEscaped}
use Rattle.html5reading.specs.Start.Mode.{Data, Plain, RawText, Cdata}
use Rattle.html5reading.specs.Start.RawPlace.{AfterLessThan, InEndName}
use Rattle.html5reading.specs.Start.Stand.{InText}
use Rattle.html5reading.specs.Start.Open.{Between, InInstruction, InRaw, InReference, LessThanSolidus}
use Rattle.html5reading.specs.Start.{Open.LessThan as opened_less_than}
use Rattle.html5reading.proofs.InputLemmas.{normalised-append}
use Rattle.html5reading.proofs.ReadingLemmas.{after-last, after-nil, after-one, after-opened, told-nil}
use Rattle.html5reading.proofs.Traces.{Trace, brought-tells, trace}
use Rattle.markup5ever.specs.NamedReferences.{IsTable}
use Rattle.html5places.specs.Markup.{in_markup, mode_at_less_than, start_at_less_than}
use Rattle.html5places.specs.Placed.{standard}
use Rattle.html5places.proofs.MarkupSteps.{after_less_than_in, is_inside}
use Rattle.html5places.proofs.MarkupCharacters.{Ready, led, less_than-leads, normalised-less_than, outside_reply, ready-after}
use Rattle.html5places.proofs.MarkupPlaces.{after-cons}
use Rattle.html5places.proofs.Spanning.{IsLong, Spans, data-second, inside-at, long, longer, opened_by, raw-second}

-- ---- what is open at the start of an item

module _ (rules : Rules) (table : IsTable rules.references) (P : Start) (closed : Bool) (X : List ℕ) (spans : Spans rules P closed X) where
  -- the text is one item, before any text, and tells and leads as that does
  pub record WholeItem : Type 0 where
    pub is_closed : closed ≡ true
    pub item : (rest : List ℕ) → Item standard rules rest P tt X (messages_so_far standard rules P tt X) (start_after standard rules P tt X)

  -- the text is an unfinished item
  pub record CutItem : Type 0 where
    pub tells : List Message
    pub ends : List Message
    pub item : Unfinished standard rules P tt X tells ends
    pub at_end : on_line (line_after (input_after P.input X) []) (tokens_at_end rules (start_after standard rules P tt X).opened) ≡ ends

  -- ---- its first characters as they are read

  first_ready : drops_first (input_after P.input (less_than ∷ [])) spans.second ≡ false
  first_ready = let ready : Ready (led rules P less_than).input = ready-after rules P in rw (ready.no_mark, ready.no_return) refl

  abbrev second : ℕ
  second = one_of spans.second

  abbrev after_second : List ℕ
  after_second = normalised (input_after (input_after P.input (less_than ∷ [])) (spans.second ∷ [])) spans.more

  read-second : normalised (input_after P.input (less_than ∷ [])) (spans.second ∷ []) ≡ second ∷ []
  read-second = kept-one (input_after P.input (less_than ∷ [])) spans.second first_ready

  read-all : normalised P.input X ≡ less_than ∷ second ∷ after_second
  read-all =
      ap (normalised P.input) spans.parts
      ∙ normalised-append P.input (less_than ∷ []) (spans.second ∷ spans.more)
      ∙ ap (λ l. l ++ normalised (input_after P.input (less_than ∷ [])) (spans.second ∷ spans.more)) (normalised-less_than rules P.input)
      ∙ ap (λ l. less_than ∷ l)
      (normalised-append (input_after P.input (less_than ∷ [])) (spans.second ∷ []) spans.more ∙ ap (λ l. l ++ after_second) read-second)

  read-parts : (Y Z : List ℕ) → X ≡ Y ++ Z → normalised P.input Y ++ normalised (input_after P.input Y) Z ≡ less_than ∷ second ∷ after_second
  read-parts Y Z e = sym (normalised-append P.input Y Z) ∙ ap (normalised P.input) (sym e) ∙ read-all

  -- what the first character opened, and what the second goes on with

  opened-first : (mode : Mode) → P.opened ≡ Between mode → (led rules P less_than).opened ≡ after_less_than_in mode
  opened-first mode starts =
      let same : start_at_less_than P ≡ P =
      ap (λ (o : Open). record P { opened = o }) (ap (λ (o : Open). Between (mode_at_less_than o)) starts ∙ sym starts) in
      ap (λ (Q : Start). (led rules Q less_than).opened) (sym same)
      ∙ ap (λ (Q : Start). Q.opened) (less_than-leads rules P)
      ∙ ap (λ (o : Open). after_less_than_in (mode_at_less_than o)) starts

  abbrev second_line : ℕ
  second_line = (input_after (input_after P.input (less_than ∷ [])) (spans.second ∷ [])).line

  second-within : (o : Open) → (led rules P less_than).opened ≡ o
      → in_markup (opened_by rules second_line (led rules P less_than).last_start_tag second (brought_at rules false o second).here) ≡ true
  second-within o e =
      let Q : Start = led rules P less_than in
      ap (λ x. in_markup (opened_by rules second_line Q.last_start_tag second (brought_at rules false x second).here)) (sym e)
      ∙ ap (λ (R : Start). in_markup R.opened) (sym (after-one standard.step standard.reply standard.foreign rules Q tt spans.second second read-second))
      ∙ ap (λ (R : Start). in_markup R.opened) (sym (after-cons rules P less_than (spans.second ∷ [])))
      ∙ spans.first_within

  no-plain : P.opened ≡ Between Plain → ⊥
  no-plain starts = false≢true (sym (ap is_after_less_than (opened-first Plain starts)) ∙ spans.begins)

  no-cdata : P.opened ≡ Between Cdata → ⊥
  no-cdata starts = false≢true (sym (ap is_after_less_than (opened-first Cdata starts)) ∙ spans.begins)

  data-lone : P.opened ≡ Between Data → is_lone_before second ≡ false
  unfolding brought_at step_at
  data-lone starts = data-second rules second_line (led rules P less_than).last_start_tag second (second-within opened_less_than (opened-first Data starts))

  raw-solidus : (raw : Raw) (name : List ℕ) → P.opened ≡ Between (RawText raw name) → (second ≡ solidus) × (is_double_escaped (kind_of raw) ≡ false)
  unfolding brought_at step_at raw_place_step
  raw-solidus raw name starts =
      raw-second rules second_line (led rules P less_than).last_start_tag second (kind_of raw) name
      (second-within (InRaw (AfterLessThan (kind_of raw)) name) (opened-first (RawText raw name) starts))

  -- ---- an item that doesn't depend on the text after it

  on_line-length : (line : ℕ) (tokens : List Told) → length (on_line line tokens) ≡ length tokens
  on_line-length line tokens = length-map tokens (λ (token : Told). record { token = token; line = line })

  -- read alone it tells its messages
  alone-tells : (Y : List ℕ) (M : List Message) (later : Start) → Item standard rules [] P tt Y M later → messages_so_far standard rules P tt Y ≡ M
  alone-tells Y M later item =
      let ends : List Message = on_line (line_after (input_after later.input []) []) (tokens_at_end rules (start_after standard rules later tt []).opened) in
      let nothing : TellsAll standard rules later tt [] [] ends = record { told = told-nil standard.step standard.reply standard.foreign rules later tt; at_end = refl } in
      let all : TellsAll standard rules P tt (Y ++ []) (M ++ []) ends = item-tells standard rules [] P tt Y M later table item [] ends nothing in
      ap (messages_so_far standard rules P tt) (sym (append-nil Y)) ∙ all.told ∙ append-nil M

  -- and leads on
  alone-leads : (Y : List ℕ) (M : List Message) (later : Start) → TellsByItself standard rules P tt Y M later → start_after standard rules P tt Y ≡ later
  alone-leads Y M later by_itself =
      ap (start_after standard rules P tt) (sym (append-nil Y))
      ∙ (by_itself []).leads P tt [] (after-nil standard.step standard.reply standard.foreign rules P tt) refl
      ∙ after-nil standard.step standard.reply standard.foreign rules later tt

  -- when no markup is open after it, it is the whole of the text, which is closed
  alone : (Y Z : List ℕ) (M : List Message) (later : Start) → X ≡ Y ++ Z → (Y ≡ [] → ⊥) → ((rest : List ℕ) → Item standard rules rest P tt Y M later)
      → start_after standard rules P tt Y ≡ later → is_inside later.opened ≡ false → WholeItem
  alone [] Z M later e some item leads outside = absurd (some refl)
  alone (y ∷ Y) (z ∷ Z) M later e some item leads outside =
      absurd (false≢true
      (sym (ap (λ (Q : Start). is_inside Q.opened) leads ∙ outside)
      ∙ inside-at rules P closed X spans y Y (z ∷ Z) e (λ none. absurd (nil≢cons (sym none)))))
  alone (y ∷ Y) [] M later e some item leads outside = by closed refl
    where
      by : (b : Bool) → closed ≡ b → WholeItem
      by false is_open =
          absurd (false≢true
          (sym (ap (λ (Q : Start). is_inside Q.opened) leads ∙ outside) ∙ inside-at rules P closed X spans y Y [] e (λ none. is_open)))
      by true is_closed =
          let same : X ≡ y ∷ Y = e ∙ append-nil (y ∷ Y) in
          record {
            is_closed = is_closed;
            item = λ rest.
                subst (λ l. Item standard rules rest P tt l (messages_so_far standard rules P tt l) (start_after standard rules P tt l)) (sym same)
                (subst (λ N. Item standard rules rest P tt (y ∷ Y) N (start_after standard rules P tt (y ∷ Y))) (sym (alone-tells (y ∷ Y) M later (item [])))
                (subst (λ Q. Item standard rules rest P tt (y ∷ Y) M Q) (sym leads) (item rest)));
          }

  -- an item that tells and leads by itself
  alone-by_itself : (Y Z : List ℕ) (M : List Message) (later : Start) → X ≡ Y ++ Z → (Y ≡ [] → ⊥) → ((rest : List ℕ) → Item standard rules rest P tt Y M later)
      → TellsByItself standard rules P tt Y M later → is_inside later.opened ≡ false → WholeItem
  alone-by_itself Y Z M later e some item by_itself outside = alone Y Z M later e some item (alone-leads Y M later by_itself) outside

  some-text : (Y : List ℕ) (a : ℕ) (A : List ℕ) → normalised P.input Y ≡ a ∷ A → Y ≡ [] → ⊥
  unfolding normalised without_dropped_first with_line_feeds
  some-text [] a A e none = nil≢cons e
  some-text (y ∷ Y) a A e none = nil≢cons (sym none)

  -- the first character of an item, and its second
  first-is : (Y Z : List ℕ) (a : ℕ) (A : List ℕ) → X ≡ Y ++ Z → normalised P.input Y ≡ a ∷ A → a ≡ less_than
  first-is Y Z a A e text = cons_first (sym (ap (λ l. l ++ normalised (input_after P.input Y) Z) text) ∙ read-parts Y Z e)

  second-is : (Y Z : List ℕ) (a b : ℕ) (A : List ℕ) → X ≡ Y ++ Z → normalised P.input Y ≡ a ∷ b ∷ A → b ≡ second
  second-is Y Z a b A e text = cons_first (cons_rest (sym (ap (λ l. l ++ normalised (input_after P.input Y) Z) text) ∙ read-parts Y Z e))

  next-is : (Y Z : List ℕ) (a b : ℕ) (A : List ℕ) → X ≡ Y ++ Z → normalised P.input Y ≡ a ∷ [] → normalised (input_after P.input Y) Z ≡ b ∷ A → b ≡ second
  next-is Y Z a b A e text next =
      cons_first (cons_rest (sym (ap (λ l. l ++ normalised (input_after P.input Y) Z) text ∙ ap (λ l. a ∷ l) next) ∙ read-parts Y Z e))

  -- ---- raw text

  same-rcdata : (raw : Raw) → is_rcdata (raw_of (kind_of raw)) ≡ is_rcdata raw
  unfolding kind_of
  same-rcdata Rcdata = refl
  same-rcdata Rawtext = refl
  same-rcdata ScriptData = refl
  same-rcdata (Escaped dashes) = refl
  same-rcdata (DoubleEscaped dashes) = refl

  alone-solidus : (kind : RawKind) (F : List ℕ) → is_double_escaped kind ≡ false → is_alone_before kind (solidus ∷ F) ≡ false
  alone-solidus raw_kind.Rcdata F h = refl
  alone-solidus raw_kind.Rawtext F h = refl
  alone-solidus raw_kind.ScriptData F h = refl
  alone-solidus (raw_kind.ScriptDataEscaped escape_kind.Escaped) F h = refl
  alone-solidus (raw_kind.ScriptDataEscaped escape_kind.DoubleEscaped) F h = absurd (false≢true (sym h))

  -- no `<` stands alone there
  no-lone_raw : (raw : Raw) (name : List ℕ) (c : ℕ) (F : List ℕ) → P.opened ≡ Between (RawText raw name) → c ≡ second → stands_before name raw LessThan (c ∷ F) ≡ true → ⊥
  no-lone_raw raw name c F starts same stands =
      let w = raw-solidus raw name starts in
      let p = and_parts (is_alone_before (kind_of raw) (c ∷ F)) _ stands in
      false≢true (sym (alone-solidus (kind_of raw) F w.1) ∙ ap (λ d. is_alone_before (kind_of raw) (d ∷ F)) (sym (same ∙ w.0)) ∙ p.0)

  -- nor a switch
  no-switch : (raw : Raw) (name : List ℕ) (kind : RawKind) (letters : List ℕ) (c : ℕ) → kind_of raw ≡ kind → P.opened ≡ Between (RawText raw name)
      → can_switch kind letters ≡ true → list_all is_letter letters ≡ true → ((b : ℕ) (A : List ℕ) → switch_text kind letters c ≡ b ∷ A → b ≡ second) → ⊥
  unfolding is_letter
  no-switch raw name raw_kind.Rcdata letters c same starts can all next = false≢true can
  no-switch raw name raw_kind.Rawtext letters c same starts can all next = false≢true can
  no-switch raw name raw_kind.ScriptData letters c same starts can all next = false≢true can
  no-switch raw name (raw_kind.ScriptDataEscaped escape_kind.DoubleEscaped) letters c same starts can all next =
      false≢true (sym (ap is_double_escaped (sym same) ∙ (raw-solidus raw name starts).1))
  no-switch raw name (raw_kind.ScriptDataEscaped escape_kind.Escaped) [] c same starts can all next = false≢true can
  no-switch raw name (raw_kind.ScriptDataEscaped escape_kind.Escaped) (d ∷ letters) c same starts can all next =
      let p = and_parts (is_letter d) (list_all is_letter letters) all in
      false≢true (ap is_letter (sym (next d (letters ++ c ∷ []) refl ∙ (raw-solidus raw name starts).0)) ∙ p.0)

  -- what a character of raw text opens, after what is carried
  pub record RawStep (raw : Raw) (name : List ℕ) (before : List Told) (c : ℕ) : Type 0 where
    pub told : List Told
    pub later : Open
    pub is : raw_step rules.exact raw name before c ≡ Tells told later
    pub no_markup : in_markup later ≡ false
    pub text : is_raw_text raw c ≡ true → later ≡ Between (RawText (raw_after raw c) name)
    pub markup : is_raw_text raw c ≡ false → nothing_open later ≡ false

  raw-tells : (raw : Raw) (name : List ℕ) (before : List Told) (c : ℕ) → RawStep raw name before c
  unfolding raw_step
  raw-tells raw name before c = at (c == less_than) (is_rcdata raw && (c == ampersand)) refl refl
    where
      at : (a b : Bool) → (c == less_than) ≡ a → (is_rcdata raw && (c == ampersand)) ≡ b → RawStep raw name before c
      at true b e f = record {
        told = before ++ told_at_less_than (kind_of raw);
        later = InRaw (AfterLessThan (kind_of raw)) name;
        is = rw e refl;
        no_markup = refl;
        text = λ h. absurd (false≢true (sym (rw e refl) ∙ h));
        markup = λ h. refl;
      }
      at false true e f = record {
        told = before;
        later = InReference (InText (RawText raw name)) [];
        is = rw (e, f) refl;
        no_markup = refl;
        text = λ h. absurd (false≢true (sym (rw (e, f) refl) ∙ h));
        markup = λ h. refl;
      }
      at false false e f = record {
        told = before ++ raw_character rules.exact raw c;
        later = Between (RawText (raw_after raw c) name);
        is = rw (e, f) refl;
        no_markup = refl;
        text = λ h. refl;
        markup = λ h. absurd (false≢true (sym h ∙ rw (e, f) refl));
      }

  -- `</` and letters that begin no end tag, and the character after them
  letters-lead : (W : List ℕ) (raw : Raw) (name letters : List ℕ) (c : ℕ) (F : List ℕ) → P.opened ≡ Between (RawText raw name) → can_stand name raw (Letters letters) (c ∷ F) ≡ true
      → normalised P.input W ≡ item_text raw (Letters letters) ++ c ∷ []
      → (step : RawStep (raw_of (kind_of raw)) name (texts (less_than ∷ solidus ∷ letters)) c) × (start_after standard rules P tt W ≡ start_beyond P W step.later P.last_start_tag)
  unfolding Leads Goes
  letters-lead W raw name letters c F starts stands text =
      let kind : RawKind = kind_of raw in
      let p = and_parts (not (is_double_escaped kind)) _ stands in
      let q = and_parts (list_all is_letter letters) _ p.1 in
      let r = and_parts (not (is_letter c)) (not (ends_raw_text name letters c)) q.1 in
      let step : RawStep (raw_of kind) name (texts (less_than ∷ solidus ∷ letters)) c = raw-tells (raw_of kind) name (texts (less_than ∷ solidus ∷ letters)) c in
      let anew : step_at rules.exact (InRaw (InEndName kind letters) name) c ≡ Tells step.told step.later =
      reads_anew rules.exact name (Within (InEndName kind letters)) c (rw (not-true (is_letter c) r.0, not-true (ends_raw_text name letters c) r.1) refl) ∙ step.is in
      let goes : Goes rules.exact (Between (RawText raw name)) (spell_item rules.exact raw (Letters letters)) (InRaw (InEndName kind letters) name) =
      (InRaw (AfterLessThan kind) name, reads_less_than rules.exact name (Free raw), goes-end_letters rules.exact name kind (λ d. []) letters (λ d g. refl) (not-true (is_double_escaped kind) p.0) q.0) in
      let cell : Spelled = record { character = c; told = step.told } in
      let cells : List Spelled = spell_item rules.exact raw (Letters letters) ++ cell ∷ [] in
      let leads : Leads rules (Between (RawText raw name)) cells step.later =
      Leads-append rules (Between (RawText raw name)) (InRaw (InEndName kind letters) name) step.later (spell_item rules.exact raw (Letters letters)) (cell ∷ [])
      (leads-goes rules (Between (RawText raw name)) (InRaw (InEndName kind letters) name) (spell_item rules.exact raw (Letters letters)) refl goes)
      (step.later, λ foreign. brought-tells rules foreign (InRaw (InEndName kind letters) name) c (Tells step.told step.later) refl anew, refl) in
      let traced : trace standard.step standard.reply standard.foreign rules tt (line_after P.input []) P.last_start_tag P.opened (normalised P.input W)
      ≡ record { messages = spelled_messages rules.exact P.input [] cells; opened = step.later; last_start_tag = P.last_start_tag } =
      ap (λ o. trace standard.step standard.reply standard.foreign rules tt (line_after P.input []) P.last_start_tag o (normalised P.input W)) starts
      ∙ ap (trace standard.step standard.reply standard.foreign rules tt (line_after P.input []) P.last_start_tag (Between (RawText raw name))) text
      ∙ trace-text standard.step standard.reply standard.foreign rules P.input [] tt P.last_start_tag (Between (RawText raw name)) step.later cells (item_text raw (Letters letters) ++ c ∷ [])
      (characters-two (spell_item rules.exact raw (Letters letters)) (cell ∷ []) (item_text raw (Letters letters)) (c ∷ []) (characters-item rules.exact raw (Letters letters)) refl)
      leads in (
        step,
        ap (λ o. start_beyond P W o (start_after standard rules P tt W).last_start_tag) (after-opened standard.step standard.reply standard.foreign rules P tt W ∙ ap (λ (t : Trace). t.opened) traced)
            ∙ ap (start_beyond P W step.later) (after-last standard.step standard.reply standard.foreign rules P tt W ∙ ap (λ (t : Trace). t.last_start_tag) traced),
      )

  -- at each part of the text with two characters or more that is not the whole of a closed one more than a `<` is open
  within-at : (y d : ℕ) (Y Z : List ℕ) → X ≡ (y ∷ d ∷ Y) ++ Z → (Z ≡ [] → closed ≡ false) → in_markup (start_after standard rules P tt (y ∷ d ∷ Y)).opened ≡ true
  within-at y d Y Z e some =
      let whole : less_than ∷ spans.second ∷ spans.more ≡ y ∷ d ∷ Y ++ Z = sym spans.parts ∙ e in
      subst (λ x. in_markup (start_after standard rules P tt (x ∷ d ∷ Y)).opened ≡ true) (cons_first whole)
      (subst (λ x. in_markup (start_after standard rules P tt (less_than ∷ x ∷ Y)).opened ≡ true) (cons_first (cons_rest whole))
      (spans.within Y Z (cons_rest (cons_rest whole)) some))

  -- such letters before a `<` or a reference are not in markup
  no-letters : (W Z : List ℕ) (raw : Raw) (name letters : List ℕ) (c : ℕ) (F : List ℕ) → X ≡ W ++ Z → P.opened ≡ Between (RawText raw name)
      → can_stand name raw (Letters letters) (c ∷ F) ≡ true → is_raw_text raw c ≡ false → normalised P.input W ≡ item_text raw (Letters letters) ++ c ∷ [] → ⊥
  no-letters [] Z raw name letters c F e starts stands markup text = some-text [] _ _ text refl
  no-letters (y ∷ []) Z raw name letters c F e starts stands markup text =
      let first : less_than ≡ y = cons_first (sym spans.parts ∙ e) in
      let one : less_than ∷ [] ≡ less_than ∷ (solidus ∷ letters) ++ c ∷ [] =
      sym (normalised-less_than rules P.input) ∙ ap (λ x. normalised P.input (x ∷ [])) first ∙ text in
      nil≢cons (cons_rest one)
  no-letters (y ∷ d ∷ W) Z raw name letters c F e starts stands markup text =
      let w = letters-lead (y ∷ d ∷ W) raw name letters c F starts stands text in
      by closed Z refl e w.0 (ap (λ (Q : Start). Q.opened) w.1)
    where
      raw-markup : is_raw_text (raw_of (kind_of raw)) c ≡ false
      raw-markup = ap (λ b. not (c == less_than) && not (b && (c == ampersand))) (same-rcdata raw) ∙ markup

      by : (b : Bool) (Z : List ℕ) → closed ≡ b → X ≡ (y ∷ d ∷ W) ++ Z → (step : RawStep (raw_of (kind_of raw)) name (texts (less_than ∷ solidus ∷ letters)) c)
          → (start_after standard rules P tt (y ∷ d ∷ W)).opened ≡ step.later → ⊥
      by true [] is_closed f step leads =
          false≢true
          (sym (ap nothing_open leads ∙ step.markup raw-markup)
          ∙ ap (λ l. nothing_open (start_after standard rules P tt l).opened) (sym (append-nil (y ∷ d ∷ W)) ∙ sym f)
          ∙ spans.closes is_closed)
      by false [] is_open f step leads = false≢true (sym (ap in_markup leads ∙ step.no_markup) ∙ within-at y d W [] f (λ none. is_open))
      by b (z ∷ Z) is f step leads =
          false≢true (sym (ap in_markup leads ∙ step.no_markup) ∙ within-at y d W (z ∷ Z) f (λ none. absurd (nil≢cons (sym none))))

  -- ---- the first item of the text: a case for each form

  tag-some : (Y : List ℕ) (tag : one_tag.WrittenTag) → normalised P.input Y ≡ one_tag.written tag → Y ≡ [] → ⊥
  unfolding one_tag.written
  tag-some Y tag text = by tag.kind text
    where
      by : (kind : TagKind) → normalised P.input Y ≡ (one_tag.opening kind ++ (tag.first ∷ tag.rest ++ flat_map one_tag.part_text tag.parts)) ++ greater_than ∷ [] → Y ≡ [] → ⊥
      by StartTag e = some-text Y _ _ e
      by EndTag e = some-text Y _ _ e

  comment-some : (Y : List ℕ) (comment : one_comment.WrittenComment) → normalised P.input Y ≡ one_comment.written comment → Y ≡ [] → ⊥
  unfolding one_comment.written
  comment-some Y (Proper content ending) text = some-text Y _ _ text
  comment-some Y (Bogus Solidus content) text = some-text Y _ _ text
  comment-some Y (Bogus ExclamationMark content) text = some-text Y _ _ text

  doctype-some : (Y : List ℕ) (doctype : one_doctype.WrittenDoctype) → normalised P.input Y ≡ one_doctype.written doctype → Y ≡ [] → ⊥
  unfolding one_doctype.written
  doctype-some Y doctype text = some-text Y _ _ text

  instruction-some : (Y : List ℕ) (instruction : one_instruction.WrittenInstruction) → normalised P.input Y ≡ one_instruction.written instruction → Y ≡ [] → ⊥
  unfolding one_instruction.written
  instruction-some Y instruction text = some-text Y _ _ text

  no-section : (cdata : one_cdata.WrittenCdata) → P.opened ≡ (if cdata.has_opening then Between Data else Between Cdata) → one_cdata.is_written false cdata ≡ true → ⊥
  unfolding one_cdata.is_written
  no-section cdata starts h = by cdata.has_opening starts (and_parts (not cdata.has_opening || false) _ h).0
    where
      by : (b : Bool) → P.opened ≡ (if b then Between Data else Between Cdata) → (not b || false) ≡ true → ⊥
      by true starts h = false≢true h
      by false starts h = no-cdata starts

  no-raw_character : (raw : Raw) (c : ℕ) → is_raw_text raw c ≡ true → c ≡ less_than → ⊥
  no-raw_character raw c h e = false≢true (ap (is_raw_text raw) (sym e) ∙ h)

  no-mark : (Y Z : List ℕ) (raw : Raw) (name : List ℕ) (item : RawItem) → X ≡ Y ++ Z → IsRawMark P Y raw name item → ⊥
  no-mark Y Z raw name (Character c) e one = false≢true one.at_once
  no-mark Y Z raw name LessThan e one = false≢true one.at_once
  no-mark Y Z raw name (Letters letters) e one = false≢true one.at_once
  no-mark Y Z raw name Mark e one =
      let is : exclamation_mark ≡ solidus = second-is Y Z less_than exclamation_mark (codes "--") e one.text ∙ (raw-solidus raw name one.starts).0 in
      omega (arith, is)
  no-mark Y Z raw name (Switch letters c) e one =
      let p = and_parts (can_switch (kind_of raw) letters) _ one.stands in
      let q = and_parts (list_all is_letter letters) _ p.1 in
      no-switch raw name (kind_of raw) letters c refl one.starts p.0 q.0
      (λ b A same. second-is Y Z less_than b A e (one.text ∙ ap (λ l. less_than ∷ l) same))

  raw-less_than : (Y Z : List ℕ) (raw : Raw) (name : List ℕ) (item : RawItem) (c : ℕ) (F : List ℕ) → X ≡ Y ++ Z → IsRawLessThan P Y Z raw name item c F → WholeItem
  raw-less_than Y Z raw name (Character d) c F e one = absurd (false≢true one.later)
  raw-less_than Y Z raw name Mark c F e one = absurd (false≢true one.later)
  raw-less_than Y Z raw name (Switch letters d) c F e one = absurd (false≢true one.later)
  raw-less_than Y Z raw name LessThan c F e one =
      absurd (no-lone_raw raw name c F one.starts (second-is Y Z less_than c [] e one.text) one.stands)
  raw-less_than Y Z raw name (Letters letters) c F e one =
      let p = and_parts (can_stand name raw (Letters letters) (c ∷ F)) _ one.stands in
      let w = letters-lead Y raw name letters c F one.starts p.0 one.text in
      let text : is_raw_text (raw_of (kind_of raw)) c ≡ true = ap (λ b. not (c == less_than) && not (b && (c == ampersand))) (same-rcdata raw) ∙ one.is_text in
      alone Y Z _ _ e (some-text Y _ _ one.text)
      (λ rest. OneRawLessThan raw name (Letters letters) c (normalised (input_after P.input Y) rest) (record {
        starts = one.starts;
        later = one.later;
        stands = one.stands;
        is_text = one.is_text;
        text = one.text;
        next = refl;
      }))
      (w.1 ∙ ap (λ o. start_beyond P Y o P.last_start_tag) (w.0.text text))
      refl

  no-raw_before : (Y Z : List ℕ) (raw : Raw) (name : List ℕ) (item : RawItem) (c : ℕ) (F : List ℕ) → X ≡ Y ++ Z → IsRawLessThanBefore P Y Z raw name item c F → ⊥
  no-raw_before Y Z raw name (Character d) c F e one = false≢true one.later
  no-raw_before Y Z raw name Mark c F e one = false≢true one.later
  no-raw_before Y Z raw name (Switch letters d) c F e one = false≢true one.later
  no-raw_before Y Z raw name LessThan c F e one = no-lone_raw raw name c F one.starts (next-is Y Z less_than c F e one.text one.next) one.stands
  no-raw_before Y Z raw name (Letters letters) c F e one =
      let p = and_parts (can_stand name raw (Letters letters) (c ∷ F)) _ one.stands in
      let s : Split (input_after P.input Y) Z (c ∷ []) F = split (input_after P.input Y) Z (c ∷ []) F one.next in
      no-letters (Y ++ s.Y) s.Z raw name letters c F
      (e ∙ ap (λ l. Y ++ l) s.parts ∙ sym (append_assoc Y s.Y s.Z))
      one.starts p.0 one.is_markup
      (normalised-append P.input Y s.Y ∙ ap (λ l. l ++ normalised (input_after P.input Y) s.Y) one.text ∙ ap (λ l. item_text raw (Letters letters) ++ l) s.front)

  no-character : (mode : Mode) (c : ℕ) → P.opened ≡ Between mode → is_text mode c ≡ true → c ≡ less_than → ⊥
  no-character Data c starts h e = false≢true (ap (is_text Data) (sym e) ∙ h)
  no-character Plain c starts h e = no-plain starts
  no-character (RawText raw name) c starts h e = false≢true h
  no-character Cdata c starts h e = false≢true h

  no-lone : (c : ℕ) → P.opened ≡ Between Data → is_lone_before c ≡ true → c ≡ second → ⊥
  no-lone c starts h same = false≢true (sym (data-lone starts) ∙ ap is_lone_before (sym same) ∙ h)

  -- `</>`, which tells no markup
  empty_end-by_itself : (Y : List ℕ) → IsEmptyEnd P Y
      → TellsByItself standard rules P tt Y (spelled_messages rules.exact P.input [] (spell_empty_end rules.exact)) (start_beyond P Y (Between Data) P.last_start_tag)
  unfolding Leads brought_at step_at data_step less_than_step solidus_step is_letter
  empty_end-by_itself Y one =
      let cells : List Spelled = spell_empty_end rules.exact in
      let leads : Leads rules (Between Data) cells (Between Data) = (opened_less_than, λ foreign. refl, (LessThanSolidus, λ foreign. refl, (Between Data, λ foreign. refl, refl))) in
      trace-by_itself standard rules P tt Y (spelled_messages rules.exact P.input [] cells) (Between Data) P.last_start_tag
      (ap (λ o. trace standard.step standard.reply standard.foreign rules tt (line_after P.input []) P.last_start_tag o (normalised P.input Y)) one.starts
      ∙ ap (trace standard.step standard.reply standard.foreign rules tt (line_after P.input []) P.last_start_tag (Between Data)) one.text
      ∙ trace-text standard.step standard.reply standard.foreign rules P.input [] tt P.last_start_tag (Between Data) (Between Data) cells (codes "</>") refl leads)

  instruction-by_itself : (Y : List ℕ) (instruction : one_instruction.WrittenInstruction) → one_instruction.IsInstruction P Y instruction → instruction.is_ended ≡ true
      → TellsByItself standard rules P tt Y (one_instruction.messages_of rules.exact P.input instruction) (start_beyond P Y (Between Data) P.last_start_tag)
  instruction-by_itself Y instruction one ended =
      let M : List Message = one_instruction.messages_of rules.exact P.input instruction in
      trace-by_itself standard rules P tt Y M (Between Data) P.last_start_tag
      (instructions.reads standard.step standard.reply standard.foreign rules P tt Y instruction one
      ∙ ap (λ b. record { messages = M; opened = if b then Between Data else InInstruction (flat_map value_bytes instruction.content); last_start_tag = P.last_start_tag }) ended)

  one-item : (Y Z : List ℕ) (M : List Message) (later : Start) → X ≡ Y ++ Z → Item standard rules Z P tt Y M later → WholeItem
  one-item Y Z M later e (OneCharacter mode c one) = absurd (no-character mode c one.starts one.is_text (first-is Y Z c [] e one.text))
  one-item Y Z M later e (OneLone c one) = absurd (no-lone c one.starts one.is_lone (second-is Y Z less_than c [] e one.text))
  one-item Y Z M later e (OneLoneBefore c rest one) = absurd (no-lone c one.starts one.is_lone (next-is Y Z less_than c rest e one.text one.next))
  one-item Y Z M later e (OneEmptyEnd one) = alone-by_itself Y Z _ _ e (some-text Y _ _ one.text) (λ rest. OneEmptyEnd one) (empty_end-by_itself Y one) refl
  one-item Y Z M later e (OneTag tag one) =
      alone-by_itself Y Z _ _ e (tag-some Y tag one.text) (λ rest. OneTag tag one) (tag-by_itself standard rules P tt Y tag table one) (outside_reply rules _ _)
  one-item Y Z M later e (OneComment comment one) =
      alone-by_itself Y Z _ _ e (comment-some Y comment one.text) (λ rest. OneComment comment one)
      (trace-by_itself standard rules P tt Y _ (Between Data) P.last_start_tag (reads_comment standard.step standard.reply standard.foreign rules P tt Y comment one)) refl
  one-item Y Z M later e (OneDoctype doctype one) =
      alone-by_itself Y Z _ _ e (doctype-some Y doctype one.text) (λ rest. OneDoctype doctype one)
      (trace-by_itself standard rules P tt Y _ (Between Data) P.last_start_tag (reads_doctype standard.step standard.reply standard.foreign rules P tt Y doctype one)) refl
  one-item Y Z M later e (OneInstruction instruction one ended) =
      alone-by_itself Y Z _ _ e (instruction-some Y instruction one.text) (λ rest. OneInstruction instruction one ended) (instruction-by_itself Y instruction one ended) refl
  one-item Y Z M later e (OneCdata cdata one ended) = absurd (no-section cdata one.starts one.is_cdata)
  one-item Y Z M later e (OneReferenceIn mode F one) =
      let is : ampersand ≡ less_than = first-is Y Z ampersand _ e one.text in
      absurd (omega (arith, is))
  one-item Y Z M later e (OneRawCharacter raw name c one) = absurd (no-raw_character raw c one.is_text (first-is Y Z c [] e one.text))
  one-item Y Z M later e (OneRawMark raw name item one) = absurd (no-mark Y Z raw name item e one)
  one-item Y Z M later e (OneRawLessThan raw name item c F one) = raw-less_than Y Z raw name item c F e one
  one-item Y Z M later e (OneRawLessThanBefore raw name item c F one) = absurd (no-raw_before Y Z raw name item c F e one)
  one-item Y Z M later e (OneRawEnd raw name tag one) =
      alone-by_itself Y Z _ _ e (tag-some Y tag one.text) (λ rest. OneRawEnd raw name tag one) (raw_end-by_itself standard rules P tt Y raw name tag table one) (outside_reply rules _ _)

  -- ---- what the end tells of an unfinished item: more than itself

  long-line : (line : ℕ) (tokens : List Told) → IsLong tokens → 2 ≤ length (on_line line tokens)
  unfolding IsLong
  long-line line tokens h = let same = on_line-length line tokens in omega (arith, h, same)

  long-tag : (tag : one_tag.WrittenTag) (last : Option one_tag.OpenAttribute) → IsLong (one_tag.open_tag_at_end rules tag last)
  long-tag tag None = long _ _ _
  long-tag tag (Some a) = longer (one_tag.errors_at_end rules 0 a.run) _ (long _ _ _)

  long-raw : (raw : Raw) (item : RawItem) → is_text_later item ≡ true
      → IsLong ((carried raw item ++ raw_end_error rules.exact (raw_after_item raw item)) ++ End ∷ [])
  unfolding kind_of raw_end_error
  long-raw raw (Character c) h = absurd (false≢true h)
  long-raw raw Mark h = absurd (false≢true h)
  long-raw raw (Switch letters c) h = absurd (false≢true h)
  long-raw raw (Letters letters) h = long _ _ _
  long-raw Rcdata LessThan h = long _ _ _
  long-raw Rawtext LessThan h = long _ _ _
  long-raw ScriptData LessThan h = long _ _ _
  long-raw (Escaped dashes) LessThan h = long _ _ _
  long-raw (DoubleEscaped dashes) LessThan h = long _ _ _

  long-switch : IsLong (raw_end_error rules.exact (DoubleEscaped NoDash) ++ End ∷ [])
  unfolding raw_end_error
  long-switch = long _ _ _

  long-doctype_end : (named : Option State) (d : DoctypeOf) → IsLong (doctype_end rules.exact named d)
  long-doctype_end None d = long _ _ _
  long-doctype_end (Some named) d = long _ _ _

  long-doctype : (space : List ℕ) (content : one_doctype.Content) → IsLong (open_doctype_at_end rules.exact space content)
  long-doctype space NoName = long _ _ _
  long-doctype space (Named first rest later afterwards) =
      let d : DoctypeOf = told_after_name (flat_map name_bytes (first ∷ rest)) afterwards in
      longer (keyword_error_at_end rules.exact afterwards) (doctype_end rules.exact (after_name_end later afterwards) d) (long-doctype_end (after_name_end later afterwards) d)

  abbrev end_of_text : ℕ
  end_of_text = end_line P.input X

  abbrev told_comment : List ℕ → List Told
  told_comment content = Comment (flat_map value_bytes content) ∷ End ∷ []

  cut-long : (M E : List Message) → Unfinished standard rules P tt X M E → 2 ≤ length E
  cut-long M E (OpenLessThan starts text) =
      long-line end_of_text (end_error_in rules.exact state.TagOpen ∷ Text (codes "<") ∷ End ∷ []) (long _ _ _)
  cut-long M E (OpenSolidus starts text) =
      long-line end_of_text (end_error_in rules.exact state.EndTagOpen ∷ Text (codes "<") ∷ Text (codes "/") ∷ End ∷ []) (long _ _ _)
  cut-long M E (OpenTag tag last one) = long-line end_of_text (one_tag.open_tag_at_end rules tag last) (long-tag tag last)
  cut-long M E (OpenRaw raw name item one) =
      long-line end_of_text ((carried raw item ++ raw_end_error rules.exact (raw_after_item raw item)) ++ End ∷ []) (long-raw raw item one.later)
  cut-long M E (OpenSwitch dashes name first letters one) =
      long-line end_of_text (raw_end_error rules.exact (DoubleEscaped NoDash) ++ End ∷ []) long-switch
  cut-long M E (OpenRawEnd raw name tag last one) = long-line end_of_text (one_tag.open_tag_at_end rules tag last) (long-tag tag last)
  cut-long M E (OpenReference mode F one) =
      let is : ampersand ≡ less_than = first-is X [] ampersand F (sym (append-nil X)) one.text in
      absurd (omega (arith, is))
  cut-long M E (OpenInstruction instruction one unended) =
      long-line end_of_text (one_instruction.told_at_end rules.exact false instruction.content) (long _ _ _)
  cut-long M E (OpenBogus content one) = long-line end_of_text (told_comment content) (long _ _ _)
  cut-long M E (OpenKeyword held one) = long-line end_of_text (keyword_at_end rules.exact held) (long _ _ _)
  cut-long M E (OpenBogusDeclaration content one) = long-line end_of_text (told_comment content) (long _ _ _)
  cut-long M E (OpenDoctype doctype one) =
      long-line end_of_text (open_doctype_at_end rules.exact doctype.space doctype.content) (long-doctype doctype.space doctype.content)
  cut-long M E (OpenCdata cdata one unended) = absurd (no-section cdata one.starts one.is_cdata)
  cut-long M E (OpenComment content one) = long-line end_of_text (open_comment_at_end rules.exact content) (long _ _ _)

-- ---- the text is an item

module _ (rules : Rules) (table : IsTable rules.references) (closed : Bool) where
  first-item : (K : Start) (s : Unit {0}) (X : List ℕ) (M E : List Message) (spans : Spans rules K closed X) → Items standard rules K s X M E
      → WholeItem rules table K closed X spans ⊎ CutItem rules table K closed X spans
  first-item _ _ _ _ _ spans (Nothing K s X mode starts none) = absurd (nil≢cons (sym none ∙ read-all rules table K closed X spans))
  first-item _ _ _ _ _ spans (Then K s Y Z M N E later one rest) = inl (one-item rules table K closed (Y ++ Z) spans Y Z M later refl one)
  first-item _ _ _ _ _ spans (Last K s X M E one) =
      inr (record { tells = M; ends = E; item = one; at_end = (tells-items standard rules K s X M E table (Last K s X M E one)).at_end })

  -- read from a start with nothing open
  pub is-item : (K : Start) (X : List ℕ) (spans : Spans rules K closed X) → nothing_open K.opened ≡ true
      → WholeItem rules table K closed X spans ⊎ CutItem rules table K closed X spans
  is-item K X spans clean =
      let c = all-composed standard rules K tt X clean in
      first-item K tt X c.tells c.ends spans c.items

module _ (rules : Rules) (table : IsTable rules.references) (K : Start) (X : List ℕ) (clean : nothing_open K.opened ≡ true) where
  -- a closed text is a whole one
  pub closed-item : (spans : Spans rules K true X) → WholeItem rules table K true X spans
  closed-item spans = by (is-item rules table true K X spans clean)
    where
      by : WholeItem rules table K true X spans ⊎ CutItem rules table K true X spans → WholeItem rules table K true X spans
      by (inl whole) = whole
      by (inr cut) =
          let two : 2 ≤ length cut.ends = cut-long rules table K true X spans cut.tells cut.ends cut.item in
          let line : ℕ = line_after (input_after K.input X) [] in
          let one : length cut.ends ≡ 1 = ap length (sym cut.at_end) ∙ ap (λ tokens. length (on_line line tokens)) (spans.ends refl) in
          absurd (omega (arith, two, one))

  -- and an open text an unfinished one
  pub open-item : (spans : Spans rules K false X) → CutItem rules table K false X spans
  open-item spans = by (is-item rules table false K X spans clean)
    where
      by : WholeItem rules table K false X spans ⊎ CutItem rules table K false X spans → CutItem rules table K false X spans
      by (inl whole) = absurd (false≢true whole.is_closed)
      by (inr cut) = cut
