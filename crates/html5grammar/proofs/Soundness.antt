-- A text that is composed of items tells what they tell.
use Rattle.std.proofs.Common.{◌≡◌, ℕ, Bool, true, false, List, [], ◌∷◌, ◌++◌, refl, ap, sym, ◌∙◌, subst}
use Rattle.std.specs.Prelude.{◌==◌, ◌&&◌, ◌||◌, not, codes, drop, encode_utf8, None, if◌then◌else◌}
use Rattle.std.specs.Option.{is_none}
use Rattle.std.proofs.lemmas.Bool.{eqb-true, and_parts, not-true, false≢true}
use Rattle.std.proofs.lemmas.List.{append-nil}
use Rattle.html5ever_interface.specs.Sink.{Means, Message, stepped, on_line}
use Rattle.html5ever_interface.specs.Token.{Told}
use Rattle.html5ever_interface.specs.Token.Told.{Text, Null}
use Rattle.html5ever_interface.specs.declared.states.State.TheVariants as state
use Rattle.markup5ever.specs.NamedReferences.{IsTable}
use Rattle.html5grammar.specs.Anywhere.{TellsBefore, TellsByItself, start_beyond, last_reply}
use Rattle.html5reading.specs.Characters.{null, less_than, greater_than, ampersand, exclamation_mark, solidus, question_mark, is_letter, is_bad_character, line_feed, value_bytes}
use Rattle.html5reading.specs.Cdata.{open_cdata}
use Rattle.html5reading.specs.EndOfInput.{tokens_at_end, late_at_end_of, open_at_end_of, told_at_end_of}
use Rattle.html5reading.specs.ErrorText.{error_in, bad_character_error}
use Rattle.html5reading.specs.NormalisedText.{normalised, line_after, input_after}
use Rattle.html5grammar.specs.Cdata as one_cdata
use Rattle.html5grammar.specs.Comment as one_comment
use Rattle.html5grammar.specs.Doctype as one_doctype
use Rattle.html5grammar.specs.Spelled.{Spelled, spelled_messages, spell, spell_silent}
use Rattle.html5reading.specs.Reading.{told, messages, all_messages, last_after, open_after_reply}
use Rattle.html5reading.specs.Reading.Here.{Tells}
use Rattle.html5reading.specs.Start.{Raw, Start, Mode, Open, Rules}
use Rattle.html5reading.specs.Start.Mode.{Data, Plain, RawText, Cdata}
use Rattle.html5reading.specs.Start.Open.{Between, LessThan, LessThanSolidus, InDeclaration, InComment, InBogusComment, InInstruction, InReference}
use Rattle.html5reading.specs.Start.Stand.{InText}
use Rattle.html5reading.specs.RawText.{is_rcdata, raw_after, raw_character, texts}
use Rattle.html5grammar.specs.Instruction as one_instruction
use Rattle.html5grammar.proofs.Instruction.Reading as instructions
use Rattle.html5grammar.proofs.Declarations.{tells-open_keyword, tells-open_bogus_declaration}
use Rattle.html5grammar.proofs.Doctype.Open.{tells-open_doctype}
use Rattle.html5grammar.proofs.RawText.Items.{tells-raw_mark, tells-raw_less_than, tells-raw_less_than_before, tells-raw_end, tells-open_raw, tells-open_switch, tells-open_raw_end}
use Rattle.html5grammar.proofs.ByItself.{trace-by_itself, trace-before}
use Rattle.html5grammar.proofs.HeldWords.{is_good, while-parts}
use Rattle.html5grammar.proofs.Comment.Reading.{spelled-nothing, reads_comment, characters-content, characters-odd}
use Rattle.std.specs.List.{list_all}
use Rattle.std.proofs.Math.Bool.{and-false}
use Rattle.html5grammar.proofs.Tag.Parts.{tag-by_itself}
use Rattle.html5grammar.proofs.Tag.Open.{Leaves, leaves-open_tag}
use Rattle.html5grammar.specs.Tag.{held_in, deciding_in, found_in, tag_told, spelled, open_written, spell_open_tag, open_tag_at_end}
use Rattle.html5grammar.proofs.Leading.{Leads, Leads-append, leads-goes, trace-leads, trace-text}
use Rattle.html5reading.specs.Machine.{raw_step, bogus_comment_step, told_first, brought_at, step_at, data_step, less_than_step, solidus_step, declaration_step}
use Rattle.html5grammar.proofs.Cdata.Reading.{reads, tokens-cdata}
use Rattle.html5grammar.proofs.Doctype.Reading.{reads_doctype}
use Rattle.html5grammar.proofs.Telling.{TellsAll, TellsWith, tells-before_with, tells-trace}
use Rattle.html5reading.proofs.InputLemmas.{line_past, line_after-past, line_after-last, normalised-append, input_after-line_none, line_after-lines_past}
use Rattle.html5grammar.proofs.Comment.Steps.{goes-bogus, goes-content, runs_on-content}
use Rattle.html5grammar.proofs.Comment.Text.{bytes_of}
use Rattle.html5reading.specs.Comment.{begins_keyword, in_bogus_comment}
use Rattle.html5grammar.specs.Comment.{can_open, spell_odd, spell_content, is_content}
use Rattle.html5grammar.specs.Comment.Opening.{Solidus}
use Rattle.html5grammar.proofs.Goes.{Goes, characters, characters-spell, characters-two}
use Rattle.html5reading.specs.Slice.{silent, after_while}
use Rattle.html5reading.specs.Reference.{Found, reference, is_undecided, first_or, told_of}
use Rattle.html5reading.proofs.ReadingLemmas.{reading-events, messages-at_end}
use Rattle.html5reading.proofs.Traces.{trace, trace_brought, trace_here, with_messages, brought-tells, messages-append}
use Rattle.html5grammar.specs.Items.{IsRawCharacter, IsLone, IsLoneBefore, is_text, is_lone_before, is_lone_in, is_data_text, is_text_alone, text_told, lone_told, told_before, spell_lone, spell_data, spell_text_run, spell_empty_end, spell_open_bogus, spell_open_comment, Item, Unfinished, Items, IsTextRun, nothing_at_end, reference_at_end, text_run_messages}
use Rattle.html5grammar.specs.Items.Item.{OneCharacter, OneLone, OneLoneBefore, OneEmptyEnd, OneTag, OneComment, OneDoctype, OneInstruction, OneCdata, OneReferenceIn, OneRawCharacter, OneRawMark, OneRawLessThan, OneRawLessThanBefore, OneRawEnd}
use Rattle.html5grammar.specs.Items.Unfinished.{OpenLessThan, OpenSolidus, OpenTag, OpenRaw, OpenSwitch, OpenRawEnd, OpenReference, OpenInstruction, OpenBogus, OpenKeyword, OpenBogusDeclaration, OpenDoctype, OpenCdata, OpenComment}
use Rattle.html5grammar.proofs.Reference.Anywhere.{reference-before_all, trace-open_reference, is-line, tokens-late}
use Rattle.html5grammar.specs.Items.Items.{Nothing, Then, Last}

-- ---- the machine at characters of text

data-character : (exact : Bool) (before : List Told) (c : ℕ) → is_text Data c ≡ true
    → data_step exact before c ≡ Tells (before ++ text_told exact Data c) (Between Data)
unfolding data_step
data-character exact before c h =
    let p = and_parts (not (c == less_than)) (not (c == ampersand)) h in
    rw (not-true (c == less_than) p.0, not-true (c == ampersand) p.1)
    (elim (c == null) as (λ b. (if b then Tells (before ++ error_in exact state.Data c ∷ Null ∷ []) (Between Data) else Tells (before ++ Text (encode_utf8 c) ∷ []) (Between Data))
    ≡ Tells (before ++ (if b then error_in exact state.Data c ∷ Null ∷ [] else Text (encode_utf8 c) ∷ [])) (Between Data)) [ true ↦ refl | false ↦ refl ])

module _ (rules : Rules) where
  leads-character : (mode : Mode) (c : ℕ) → is_text mode c ≡ true
      → Leads rules (Between mode) (record { character = c; told = text_told rules.exact mode c } ∷ []) (Between mode)
  unfolding Leads brought_at step_at
  leads-character Data c h = (Between Data, λ foreign. rw (data-character rules.exact [] c h) refl, refl)
  leads-character Plain c h = (Between Plain, λ foreign. refl, refl)
  leads-character (RawText raw name) c h = absurd (false≢true h)
  leads-character Cdata c h = absurd (false≢true h)

  leads-raw_character : (K : Start) (Y : List ℕ) (raw : Raw) (name : List ℕ) (c : ℕ) → IsRawCharacter K Y raw name c
      → Leads rules (Between (RawText raw name)) (record { character = c; told = raw_character rules.exact raw c } ∷ []) (Between (RawText (raw_after raw c) name))
  unfolding Leads brought_at step_at raw_step
  leads-raw_character K Y raw name c one =
      let p = and_parts (not (c == less_than)) (not (is_rcdata raw && (c == ampersand))) one.is_text in
      (Between (RawText (raw_after raw c) name), λ foreign. rw (not-true (c == less_than) p.0, not-true (is_rcdata raw && (c == ampersand)) p.1) refl, refl)

  leads-lone : (K : Start) (Y : List ℕ) (c : ℕ) → IsLone K Y c → Leads rules (Between Data) (spell_lone rules.exact c) (Between Data)
  unfolding Leads brought_at step_at data_step less_than_step
  leads-lone K Y c one =
      let p = and_parts (not (is_letter c)) _ one.is_lone in
      let q = and_parts (not (c == solidus)) _ p.1 in
      let r = and_parts (not (c == exclamation_mark)) (not (c == question_mark)) q.1 in (
        LessThan,
        λ foreign. refl,
        (Between Data, λ foreign. rw (not-true (is_letter c) p.0, not-true (c == solidus) q.0, not-true (c == exclamation_mark) r.0, not-true (c == question_mark) r.1) (rw (data-character rules.exact (error_in rules.exact state.TagOpen c ∷ Text (codes "<") ∷ []) c one.is_text) refl), refl),
      )

  leads-less_than : Leads rules (Between Data) (spell_silent (codes "<")) LessThan
  unfolding Leads brought_at step_at data_step
  leads-less_than = (LessThan, λ foreign. refl, refl)

  leads-empty_end : Leads rules (Between Data) (spell_empty_end rules.exact) (Between Data)
  unfolding Leads brought_at step_at data_step less_than_step solidus_step is_letter
  leads-empty_end = (LessThan, λ foreign. refl, (LessThanSolidus, λ foreign. refl, (Between Data, λ foreign. refl, refl)))

good-silent : list_all is_good (codes "</") ≡ true
unfolding is_bad_character
good-silent = refl

good-less_than : list_all is_good (codes "<") ≡ true
unfolding is_bad_character
good-less_than = refl

first_none : (text : List ℕ) → is_none (first_or text None) ≡ true → text ≡ []
first_none [] h = refl
first_none (c ∷ text) h = absurd (false≢true h)

-- what is open in a text of Data, by whether a `<` stands directly before
abbrev opened_after_less_than : Bool → Open
opened_after_less_than true = LessThan
opened_after_less_than false = Between Data

-- ---- items

module _ {X S H : Type 0} (means : Means X S H) (rules : Rules) where
  leads-item : (K : Start) (s : S) (Y : List ℕ) (opened later : Open) (cells : List Spelled) (text : List ℕ) → K.opened ≡ opened → normalised K.input Y ≡ text → characters cells ≡ text
      → Leads rules opened cells later
      → TellsByItself means rules K s Y (spelled_messages rules.exact K.input [] cells) (start_beyond K Y later K.last_start_tag)
  leads-item K s Y opened later cells text starts e f leads =
      trace-by_itself means rules K s Y (spelled_messages rules.exact K.input [] cells) later K.last_start_tag
      (rw (starts, e) (trace-text means.step means.reply means.foreign rules K.input [] s K.last_start_tag opened later cells text f leads))

  -- what `<` tells where c begins something after it
  lone-step : (c : ℕ) → is_lone_before c ≡ true → is_text Data c ≡ false → step_at rules.exact LessThan c ≡ told_first (error_in rules.exact state.TagOpen c ∷ Text (codes "<") ∷ []) (step_at rules.exact (Between Data) c)
  unfolding step_at less_than_step data_step
  lone-step c lone markup =
      let p = and_parts (not (is_letter c)) _ lone in
      let q = and_parts (not (c == solidus)) _ p.1 in
      let r = and_parts (not (c == exclamation_mark)) (not (c == question_mark)) q.1 in
      rw (not-true (is_letter c) p.0, not-true (c == solidus) q.0, not-true (c == exclamation_mark) r.0, not-true (c == question_mark) r.1) (at (c == less_than) (c == ampersand) markup)
    where
      at : (a b : Bool) → (not a && not b) ≡ false
          → (if a then Tells (error_in rules.exact state.TagOpen c ∷ Text (codes "<") ∷ []) LessThan
          else if b then Tells (error_in rules.exact state.TagOpen c ∷ Text (codes "<") ∷ []) (InReference (InText Data) [])
          else if c == null then Tells ((error_in rules.exact state.TagOpen c ∷ Text (codes "<") ∷ []) ++ error_in rules.exact state.Data c ∷ Null ∷ []) (Between Data)
          else Tells ((error_in rules.exact state.TagOpen c ∷ Text (codes "<") ∷ []) ++ Text (encode_utf8 c) ∷ []) (Between Data))
          ≡ told_first (error_in rules.exact state.TagOpen c ∷ Text (codes "<") ∷ [])
          (if a then Tells [] LessThan else if b then Tells [] (InReference (InText Data) []) else if c == null then Tells (error_in rules.exact state.Data c ∷ Null ∷ []) (Between Data) else Tells (Text (encode_utf8 c) ∷ []) (Between Data))
      at true b e = refl
      at false true e = refl
      at false false e = absurd (false≢true (sym e))

  -- which is read as after the text `<`
  trace-lone_at : (s : S) (line : ℕ) (last : List ℕ) (c : ℕ) (rest : List ℕ) (later : Open) (E : List Told) → bad_character_error rules.exact c ≡ [] → line_past line c ≡ line
      → step_at rules.exact LessThan c ≡ Tells E later → step_at rules.exact (Between Data) c ≡ Tells [] later
      → trace means.step means.reply means.foreign rules s line last LessThan (c ∷ rest)
      ≡ with_messages (on_line line E) (trace means.step means.reply means.foreign rules (stepped means.step s (on_line line E)) line last (Between Data) (c ∷ rest))
  unfolding trace trace_brought trace_here stepped
  trace-lone_at s line last c rest later E good same e f =
      rw (brought-tells rules (means.foreign s) LessThan c _ refl e, brought-tells rules (means.foreign (stepped means.step s (on_line line E))) (Between Data) c _ refl f, good, same) refl

  markup-opens : (c : ℕ) → is_text Data c ≡ false → (later : Open) × (step_at rules.exact (Between Data) c ≡ Tells [] later) × (bad_character_error rules.exact c ≡ []) × ((c == line_feed) ≡ false)
  unfolding step_at data_step is_bad_character
  markup-opens c h = at (c == less_than) (c == ampersand) refl refl h
    where
      at : (a b : Bool) → (c == less_than) ≡ a → (c == ampersand) ≡ b → (not a && not b) ≡ false
          → (later : Open) × (step_at rules.exact (Between Data) c ≡ Tells [] later) × (bad_character_error rules.exact c ≡ []) × ((c == line_feed) ≡ false)
      at true b e f g = subst (λ d. (later : Open) × (step_at rules.exact (Between Data) d ≡ Tells [] later) × (bad_character_error rules.exact d ≡ []) × ((d == line_feed) ≡ false)) (sym (eqb-true c less_than e)) (LessThan, refl, rw (and-false rules.exact) refl, refl)
      at false true e f g = subst (λ d. (later : Open) × (step_at rules.exact (Between Data) d ≡ Tells [] later) × (bad_character_error rules.exact d ≡ []) × ((d == line_feed) ≡ false)) (sym (eqb-true c ampersand f)) (InReference (InText Data) [], refl, rw (and-false rules.exact) refl, refl)
      at false false e f g = absurd (false≢true (sym g))

  -- a `<` before markup tells its error and itself
  lone-before : (Z : List ℕ) (K : Start) (s : S) (Y : List ℕ) (c : ℕ) (rest : List ℕ) → IsLoneBefore K Y Z c rest
      → TellsBefore means rules Z K s Y (on_line (line_after K.input (less_than ∷ [])) (error_in rules.exact state.TagOpen c ∷ Text (codes "<") ∷ [])) (start_beyond K Y (Between Data) K.last_start_tag)
  unfolding line_past stepped
  lone-before Z K s Y c rest one =
      let E : List Told = error_in rules.exact state.TagOpen c ∷ Text (codes "<") ∷ [] in
      let line : ℕ = line_after K.input (less_than ∷ []) in
      let opens = markup-opens c one.is_markup in
      let same : line_past line c ≡ line = rw opens.3 (line_after-last K.input (less_than ∷ [])) in
      let afterwards : line_after (input_after K.input Y) [] ≡ line =
      input_after-line_none K.input Y ∙ sym (line_after-lines_past K.input [] (normalised K.input Y)) ∙ ap (line_after K.input) one.text in
      trace-before means rules Z K s Y (on_line line E) (Between Data)
      (rw (one.starts, normalised-append K.input Y Z, one.text, one.next)
      (trace-leads means.step means.reply means.foreign rules K.input [] s K.last_start_tag (Between Data) LessThan (spell_silent (codes "<")) (c ∷ rest) (leads-less_than rules)
      ∙ ap (λ M. with_messages M (trace means.step means.reply means.foreign rules (stepped means.step s M) line K.last_start_tag LessThan (c ∷ rest))) (spelled-nothing rules.exact K.input silent (λ c g. refl) [] (codes "<") good-less_than)
      ∙ trace-lone_at s line K.last_start_tag c rest opens.0 E opens.2 same (lone-step c one.is_lone one.is_markup ∙ rw opens.1 refl) opens.1
      ∙ rw (← afterwards) refl))

  -- each item tells its messages before the text after it: a case for each form
  pub item-tells : (Z : List ℕ) (K : Start) (s : S) (Y : List ℕ) (M : List Message) (later : Start) → IsTable rules.references
      → Item means rules Z K s Y M later → TellsWith means rules Z K s Y M later
  item-tells Z K s Y M later table (OneCharacter mode c one) =
      let N : List Message = spelled_messages rules.exact K.input [] (record { character = c; told = text_told rules.exact mode c } ∷ []) in
      tells-before_with means rules Z K s Y N (Between mode) K.last_start_tag
      (leads-item K s Y (Between mode) (Between mode) _ (c ∷ []) one.starts one.text refl (leads-character rules mode c one.is_text) Z)
  item-tells Z K s Y M later table (OneLone c one) =
      let N : List Message = spelled_messages rules.exact K.input [] (spell_lone rules.exact c) in
      tells-before_with means rules Z K s Y N (Between Data) K.last_start_tag
      (leads-item K s Y (Between Data) (Between Data) (spell_lone rules.exact c) (less_than ∷ c ∷ []) one.starts one.text refl (leads-lone rules K Y c one) Z)
  item-tells Z K s Y M later table (OneLoneBefore c rest one) =
      tells-before_with means rules Z K s Y _ (Between Data) K.last_start_tag (lone-before Z K s Y c rest one)
  item-tells Z K s Y M later table (OneEmptyEnd one) =
      let N : List Message = spelled_messages rules.exact K.input [] (spell_empty_end rules.exact) in
      tells-before_with means rules Z K s Y N (Between Data) K.last_start_tag
      (leads-item K s Y (Between Data) (Between Data) (spell_empty_end rules.exact) (codes "</>") one.starts one.text refl (leads-empty_end rules) Z)
  item-tells Z K s Y M later table (OneTag tag one) =
      let N : List Message = spelled_messages rules.exact K.input [] (spelled rules tag) in
      let last : List ℕ = last_after K.last_start_tag (tag_told rules tag) in
      tells-before_with means rules Z K s Y N (open_after_reply last (last_reply means.step means.reply s N)) last (tag-by_itself means rules K s Y tag table one Z)
  item-tells Z K s Y M later table (OneComment comment one) =
      let N : List Message = one_comment.messages_of rules.exact K.input comment in
      tells-before_with means rules Z K s Y N (Between Data) K.last_start_tag
      (trace-by_itself means rules K s Y N (Between Data) K.last_start_tag
      (reads_comment means.step means.reply means.foreign rules K s Y comment one) Z)
  item-tells Z K s Y M later table (OneDoctype doctype one) =
      let N : List Message = one_doctype.messages_of rules.exact K.input doctype.word doctype.space doctype.content in
      tells-before_with means rules Z K s Y N (Between Data) K.last_start_tag
      (trace-by_itself means rules K s Y N (Between Data) K.last_start_tag
      (reads_doctype means.step means.reply means.foreign rules K s Y doctype one) Z)
  item-tells Z K s Y M later table (OneInstruction instruction one ended) =
      let N : List Message = one_instruction.messages_of rules.exact K.input instruction in
      tells-before_with means rules Z K s Y N (Between Data) K.last_start_tag
      (trace-by_itself means rules K s Y N (Between Data) K.last_start_tag
      (instructions.reads means.step means.reply means.foreign rules K s Y instruction one
      ∙ ap (λ b. record { messages = N; opened = if b then Between Data else InInstruction (bytes_of instruction.content); last_start_tag = K.last_start_tag }) ended) Z)
  item-tells Z K s Y M later table (OneCdata cdata one ended) =
      let N : List Message = spelled_messages rules.exact K.input (one_cdata.opening_text cdata.has_opening) (one_cdata.spell_cdata cdata) in
      tells-before_with means rules Z K s Y N (Between Data) K.last_start_tag
      (trace-by_itself means rules K s Y N (Between Data) K.last_start_tag
      (reads means.step means.reply means.foreign rules K s Y cdata one
      ∙ ap (λ b. record { messages = N; opened = if b then Between Data else open_cdata cdata.last; last_start_tag = K.last_start_tag }) ended) Z)
  item-tells Z K s Y M later table (OneReferenceIn mode F one) =
      tells-before_with means rules Z K s Y _ (Between mode) K.last_start_tag (reference-before_all means rules Z K s Y mode F table one)
  item-tells Z K s Y M later table (OneRawCharacter raw name c one) =
      let N : List Message = spelled_messages rules.exact K.input [] (record { character = c; told = raw_character rules.exact raw c } ∷ []) in
      tells-before_with means rules Z K s Y N (Between (RawText (raw_after raw c) name)) K.last_start_tag
      (leads-item K s Y (Between (RawText raw name)) (Between (RawText (raw_after raw c) name)) _ (c ∷ []) one.starts one.text refl (leads-raw_character rules K Y raw name c one) Z)
  item-tells Z K s Y M later table (OneRawMark raw name item one) = tells-raw_mark means rules Z K s Y raw name item one
  item-tells Z K s Y M later table (OneRawLessThan raw name item c F one) = tells-raw_less_than means rules Z K s Y raw name item c F one
  item-tells Z K s Y M later table (OneRawLessThanBefore raw name item c F one) = tells-raw_less_than_before means rules Z K s Y raw name item c F one
  item-tells Z K s Y M later table (OneRawEnd raw name tag one) = tells-raw_end means rules Z K s Y raw name tag table one

  -- ---- unfinished items

  -- a comment without its end tells its errors, and stays open
  leads-open_comment : (content : List ℕ) → is_content content ≡ true → Leads rules (Between Data) (spell_open_comment rules.exact content) (InComment (bytes_of content))
  unfolding Leads brought_at step_at data_step less_than_step declaration_step begins_keyword is_letter
  leads-open_comment content h = (
    LessThan,
    λ foreign. refl,
    (
      InDeclaration [],
      λ foreign. refl,
      (
        InDeclaration (codes "-"),
        λ foreign. refl,
        (
          InComment [],
          λ foreign. refl,
          leads-goes rules (InComment []) (InComment (bytes_of content)) (spell_content rules.exact [] content) refl
              (goes-content rules.exact [] content (runs_on-content content h)),
        ),
      ),
    ),
  )

  -- a bogus comment whose first character is an error
  goes-open_bogus : (content : List ℕ) → can_open false Solidus content ≡ true → list_all in_bogus_comment content ≡ true
      → Goes rules.exact (Between Data) (spell_open_bogus rules.exact content) (InBogusComment (bytes_of content))
  unfolding Goes step_at data_step less_than_step solidus_step is_letter in_bogus_comment bogus_comment_step
  goes-open_bogus [] opens within = absurd (false≢true opens)
  goes-open_bogus (c ∷ content) opens within =
      let p = and_parts (not (c == greater_than)) (list_all in_bogus_comment content) within in (
        LessThan,
        refl,
        (
          LessThanSolidus,
          refl,
          (
            InBogusComment (bytes_of (c ∷ [])),
            rw (not-true (is_letter c) opens, not-true (c == greater_than) p.0, append-nil (value_bytes c)) refl,
            goes-bogus rules.exact (c ∷ []) content p.1,
          ),
        ),
      )

  nothing-end : (mode : Mode) → tokens_at_end rules (Between mode) ≡ nothing_at_end rules.exact mode
  unfolding late_at_end_of open_at_end_of told_at_end_of
  nothing-end Data = refl
  nothing-end Plain = refl
  nothing-end (RawText raw name) = refl
  nothing-end Cdata = refl

  -- the held text of an undecided reference is all of the text
  found-open : (F : List ℕ) → is_none (deciding_in rules.references F) ≡ true → found_in rules false F ≡ reference rules false F None
  found-open F undecided =
      let none : after_while (is_undecided rules.references) [] F ≡ [] = first_none (after_while (is_undecided rules.references) [] F) undecided in
      let whole : held_in rules.references F ≡ F =
      sym (append-nil (held_in rules.references F)) ∙ ap (λ l. held_in rules.references F ++ l) (sym none) ∙ while-parts (is_undecided rules.references) [] F in
      ap (λ l. reference rules false l (deciding_in rules.references F)) whole ∙ ap (λ l. reference rules false F (first_or l None)) none

  reference-end : (mode : Mode) (F : List ℕ) → is_none (deciding_in rules.references F) ≡ true → tokens_at_end rules (InReference (InText mode) F) ≡ reference_at_end rules mode F
  unfolding late_at_end_of open_at_end_of told_at_end_of
  reference-end mode F undecided =
      let found : Found = reference rules false F None in
      ap (λ l. l ++ told_at_end_of rules.exact (Between mode)) (tokens-late (InText mode) found F)
      ∙ ap (λ l. (told_of (InText mode) found ++ texts (drop found.taken F)) ++ l) (nothing-end mode)
      ∙ ap (λ (f : Found). (told_of (InText mode) f ++ texts (drop f.taken F)) ++ nothing_at_end rules.exact mode) (sym (found-open F undecided))

  -- each unfinished item tells its messages, and its end the rest: a case for each form
  tells-unfinished : (K : Start) (s : S) (X : List ℕ) (M E : List Message) → IsTable rules.references → Unfinished means rules K s X M E → TellsAll means rules K s X M E
  unfolding late_at_end_of open_at_end_of told_at_end_of Leads brought_at step_at data_step less_than_step is_letter
  tells-unfinished K s X M E table (OpenLessThan starts text) =
      tells-trace means rules K s X [] LessThan K.last_start_tag
      (rw (starts, text)
      (trace-text means.step means.reply means.foreign rules K.input [] s K.last_start_tag (Between Data) LessThan (spell_silent (codes "<")) (codes "<") refl (LessThan, λ foreign. refl, refl)
      ∙ ap (λ M. record { messages = M; opened = LessThan; last_start_tag = K.last_start_tag }) (spelled-nothing rules.exact K.input silent (λ c g. refl) [] (codes "<") good-less_than)))
  tells-unfinished K s X M E table (OpenSolidus starts text) =
      tells-trace means rules K s X [] LessThanSolidus K.last_start_tag
      (rw (starts, text)
      (trace-text means.step means.reply means.foreign rules K.input [] s K.last_start_tag (Between Data) LessThanSolidus (spell_silent (codes "</")) (codes "</") refl
      (LessThan, λ foreign. refl, (LessThanSolidus, λ foreign. refl, refl))
      ∙ ap (λ M. record { messages = M; opened = LessThanSolidus; last_start_tag = K.last_start_tag }) (spelled-nothing rules.exact K.input silent (λ c g. refl) [] (codes "</") good-silent)))
  tells-unfinished K s X M E table (OpenTag tag last one) =
      let l : Leaves means rules (Between Data) (open_written tag last) (spell_open_tag rules tag last) (open_tag_at_end rules tag last) =
      leaves-open_tag means rules tag last table.plain one.is_open in
      let told : List Message = spelled_messages rules.exact K.input [] (spell_open_tag rules tag last) in
      subst (λ tokens. TellsAll means rules K s X told (on_line (line_after (input_after K.input X) []) tokens)) l.at_end
      (tells-trace means rules K s X told l.later K.last_start_tag (rw (one.starts, one.text) (l.is K.input [] s K.last_start_tag)))
  tells-unfinished K s X M E table (OpenRaw raw name item one) = tells-open_raw means rules K s X raw name item one
  tells-unfinished K s X M E table (OpenSwitch dashes name first letters one) = tells-open_switch means rules K s X dashes name first letters one
  tells-unfinished K s X M E table (OpenRawEnd raw name tag last one) = tells-open_raw_end means rules K s X raw name tag last table one
  tells-unfinished K s X M E table (OpenReference mode F one) =
      subst (λ tokens. TellsAll means rules K s X [] (on_line (line_after (input_after K.input X) []) tokens)) (reference-end mode F one.undecided)
      (tells-trace means rules K s X [] (InReference (InText mode) F) K.last_start_tag
      (rw (one.starts, one.text)
      (trace-open_reference means rules mode s (line_after K.input []) K.last_start_tag F one.has
      (λ c h. ap (λ n. line_past n c) (sym (line_after-past K.input [] ampersand)) ∙ is-line means rules K.input (ampersand ∷ []) c h ∙ line_after-past K.input [] ampersand)
      table.plain one.undecided)))
  tells-unfinished K s X M E table (OpenInstruction instruction one unended) =
      let N : List Message = one_instruction.messages_of rules.exact K.input instruction in
      tells-trace means rules K s X N (InInstruction (bytes_of instruction.content)) K.last_start_tag
      (instructions.reads means.step means.reply means.foreign rules K s X instruction one
      ∙ ap (λ b. record { messages = N; opened = if b then Between Data else InInstruction (bytes_of instruction.content); last_start_tag = K.last_start_tag }) unended)
  tells-unfinished K s X M E table (OpenBogus content one) =
      let N : List Message = spelled_messages rules.exact K.input [] (spell_open_bogus rules.exact content) in
      tells-trace means rules K s X N (InBogusComment (bytes_of content)) K.last_start_tag
      (rw (one.starts, one.text)
      (trace-text means.step means.reply means.foreign rules K.input [] s K.last_start_tag (Between Data) (InBogusComment (bytes_of content)) (spell_open_bogus rules.exact content) (codes "</" ++ content)
      (characters-two (spell_silent (codes "</")) (spell_odd rules.exact content) (codes "</") content (characters-spell silent (codes "</")) (characters-odd rules.exact content))
      (leads-goes rules (Between Data) (InBogusComment (bytes_of content)) (spell_open_bogus rules.exact content) refl (goes-open_bogus content one.opens one.within))))
  tells-unfinished K s X M E table (OpenKeyword held one) = tells-open_keyword means rules K s X held one
  tells-unfinished K s X M E table (OpenBogusDeclaration content one) = tells-open_bogus_declaration means rules K s X content one
  tells-unfinished K s X M E table (OpenDoctype doctype one) = tells-open_doctype means rules K s X doctype one
  tells-unfinished K s X M E table (OpenCdata cdata one unended) =
      let N : List Message = spelled_messages rules.exact K.input (one_cdata.opening_text cdata.has_opening) (one_cdata.spell_cdata cdata) in
      subst (λ tokens. TellsAll means rules K s X N (on_line (line_after (input_after K.input X) []) tokens)) (tokens-cdata rules cdata.last)
      (tells-trace means rules K s X N (open_cdata cdata.last) K.last_start_tag
      (reads means.step means.reply means.foreign rules K s X cdata one
      ∙ ap (λ b. record { messages = N; opened = if b then Between Data else open_cdata cdata.last; last_start_tag = K.last_start_tag }) unended))
  tells-unfinished K s X M E table (OpenComment content one) =
      tells-trace means rules K s X (spelled_messages rules.exact K.input [] (spell_open_comment rules.exact content)) (InComment (bytes_of content)) K.last_start_tag
      (rw (one.starts, one.text)
      (trace-text means.step means.reply means.foreign rules K.input [] s K.last_start_tag (Between Data) (InComment (bytes_of content)) (spell_open_comment rules.exact content) (codes "<!--" ++ content)
      (characters-two (spell_silent (codes "<!--")) (spell_content rules.exact [] content) (codes "<!--") content (characters-spell silent (codes "<!--")) (characters-content rules.exact [] content))
      (leads-open_comment content one.is_content)))

  pub tells-items : (K : Start) (s : S) (X : List ℕ) (M E : List Message) → IsTable rules.references → Items means rules K s X M E → TellsAll means rules K s X M E
  unfolding trace
  tells-items _ _ _ _ _ table (Nothing K s X mode starts none) =
      subst (λ tokens. TellsAll means rules K s X [] (on_line (line_after (input_after K.input X) []) tokens)) (nothing-end mode)
      (tells-trace means rules K s X [] (Between mode) K.last_start_tag (rw (starts, none) refl))
  tells-items _ _ _ _ _ table (Then K s Y Z M N E later one rest) =
      item-tells Z K s Y M later table one N E (tells-items later (stepped means.step s M) Z N E table rest)
  tells-items _ _ _ _ _ table (Last K s X M E one) = tells-unfinished K s X M E table one

  -- so the reading of the whole tells these messages
  pub reading-all : (K : Start) (s : S) (X : List ℕ) (M E : List Message) → TellsAll means rules K s X M E → all_messages means rules K s X ≡ M ++ E
  reading-all K s X M E all =
      let line : line_after (input_after K.input X) [] ≡ line_after K.input (normalised K.input X) =
      input_after-line_none K.input X ∙ sym (line_after-lines_past K.input [] (normalised K.input X)) in
      ap messages (reading-events means.step means.reply means.foreign rules K s X)
      ∙ messages-append (told means.step means.reply means.foreign rules K s X) _
      ∙ rw (all.told, messages-at_end means.step means.reply means.foreign rules K s X, ← line) (ap (λ l. M ++ l) all.at_end)

  pub reading-items : (K : Start) (s : S) (X : List ℕ) (M E : List Message) → IsTable rules.references → Items means rules K s X M E
      → all_messages means rules K s X ≡ M ++ E
  reading-items K s X M E table items = reading-all K s X M E (tells-items K s X M E table items)

  pub reading-unfinished : (K : Start) (s : S) (X : List ℕ) (M E : List Message) → IsTable rules.references → Unfinished means rules K s X M E
      → all_messages means rules K s X ≡ M ++ E
  reading-unfinished K s X M E table one = reading-all K s X M E (tells-unfinished K s X M E table one)

  -- ---- a run of text

  leads-none : (mode : Mode) → Leads rules (Between mode) [] (Between mode)
  unfolding Leads
  leads-none mode = refl

  leads-run : (mode : Mode) (run : List ℕ) → list_all (is_text mode) run ≡ true
      → Leads rules (Between mode) (spell (text_told rules.exact mode) run) (Between mode)
  leads-run mode [] all = leads-none mode
  leads-run mode (c ∷ run) all =
      let p = and_parts (is_text mode c) (list_all (is_text mode) run) all in
      Leads-append rules (Between mode) (Between mode) (Between mode) (record { character = c; told = text_told rules.exact mode c } ∷ []) (spell (text_told rules.exact mode) run)
      (leads-character rules mode c p.0) (leads-run mode run p.1)

  -- a character of a text of Data, after the tokens that are told first
  data-at : (before : List Told) (c : ℕ) (l : Bool) → (c == less_than) ≡ l → not (c == ampersand) ≡ true
      → data_step rules.exact before c ≡ Tells (before ++ (if l then [] else text_told rules.exact Data c)) (opened_after_less_than l)
  unfolding data_step
  data-at before c true h a = rw (h, append-nil before) refl
  data-at before c false h a = data-character rules.exact before c (rw (h, not-true (c == ampersand) a) refl)

  -- the same where `<` stands directly before
  brought-data : (after : Bool) (foreign : Bool) (c : ℕ) (l : Bool) → (c == less_than) ≡ l → not (c == ampersand) ≡ true → (after ≡ true → is_lone_before c ≡ true)
      → brought_at rules foreign (opened_after_less_than after) c
      ≡ record { settled = []; here = Tells (told_before rules.exact after c ++ (if l then [] else text_told rules.exact Data c)) (opened_after_less_than l) }
  unfolding brought_at step_at less_than_step
  brought-data false foreign c l h a lone = rw (data-at [] c l h a) refl
  brought-data true foreign c l h a lone =
      let p = and_parts (not (is_letter c)) _ (lone refl) in
      let q = and_parts (not (c == solidus)) _ p.1 in
      let r = and_parts (not (c == exclamation_mark)) (not (c == question_mark)) q.1 in
      rw (not-true (is_letter c) p.0, not-true (c == solidus) q.0, not-true (c == exclamation_mark) r.0, not-true (c == question_mark) r.1)
      (rw (data-at (lone_told rules.exact c) c l h a) refl)

  leads-data : (after : Bool) (run : List ℕ) → is_data_text run ≡ true → (after ≡ true → is_lone_in run ≡ true)
      → Leads rules (opened_after_less_than after) (spell_data rules.exact after run) (Between Data)
  unfolding Leads is_data_text spell_data
  leads-data true [] all lone = absurd (false≢true (lone refl))
  leads-data false [] all lone = refl
  leads-data after (c ∷ run) all lone =
      let p = and_parts (not (c == ampersand)) _ all in
      let q = and_parts (not (c == less_than) || is_lone_in run) (is_data_text run) p.1 in (
        opened_after_less_than (c == less_than),
        λ foreign. brought-data after foreign c (c == less_than) refl p.0 lone,
        leads-data (c == less_than) run q.1 (λ is. ap (λ b. not b || is_lone_in run) (sym is) ∙ q.0),
      )

  characters-data : (after : Bool) (run : List ℕ) → characters (spell_data rules.exact after run) ≡ run
  unfolding spell_data
  characters-data after [] = refl
  characters-data after (c ∷ run) = ap (λ l. c ∷ l) (characters-data (c == less_than) run)

  -- what a run of text spells
  leads-text_run : (mode : Mode) (run : List ℕ) → is_text_alone mode run ≡ true → Leads rules (Between mode) (spell_text_run rules.exact mode run) (Between mode)
  leads-text_run Data run all = leads-data false run all (λ h. absurd (false≢true h))
  leads-text_run Plain run all = leads-run Plain run all
  leads-text_run (RawText raw name) run all = leads-run (RawText raw name) run all
  leads-text_run Cdata run all = leads-run Cdata run all

  characters-text_run : (mode : Mode) (run : List ℕ) → characters (spell_text_run rules.exact mode run) ≡ run
  characters-text_run Data run = characters-data false run
  characters-text_run Plain run = characters-spell (text_told rules.exact Plain) run
  characters-text_run (RawText raw name) run = characters-spell (text_told rules.exact (RawText raw name)) run
  characters-text_run Cdata run = characters-spell (text_told rules.exact Cdata) run

  -- a run of text tells its characters
  pub reading-run : (K : Start) (s : S) (X : List ℕ) (mode : Mode) (run : List ℕ) → IsTextRun K X mode run
      → all_messages means rules K s X ≡ text_run_messages rules.exact K.input X mode run
  reading-run K s X mode run one =
      let cells : List Spelled = spell_text_run rules.exact mode run in
      let M : List Message = spelled_messages rules.exact K.input [] cells in
      reading-all K s X M (on_line (line_after (input_after K.input X) []) (nothing_at_end rules.exact mode))
      (subst (λ tokens. TellsAll means rules K s X M (on_line (line_after (input_after K.input X) []) tokens)) (nothing-end mode)
      (tells-trace means rules K s X M (Between mode) K.last_start_tag
      (rw (one.starts, one.text)
      (trace-text means.step means.reply means.foreign rules K.input [] s K.last_start_tag (Between mode) (Between mode) cells run
      (characters-text_run mode run) (leads-text_run mode run one.is_text)))))
