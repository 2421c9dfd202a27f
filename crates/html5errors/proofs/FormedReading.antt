-- The errors that a text tells are of the three forms, where errors are not exact.
use Rattle.std.proofs.Common.{◌≡◌, ℕ, Bool, true, false, ◌&&◌, List, [], ◌∷◌, ◌++◌, sym, ap, ◌∙◌, subst, None, Some}
use Rattle.std.proofs.lemmas.List.Elements.{All-nil, All-cons, All-append}
use Rattle.std.specs.Prelude.{All, codes, if◌then◌else◌}
use Rattle.std.specs.Str.{bytes_eq}
use Rattle.html5ever_interface.specs.Sink.{Message, on_line}
use Rattle.html5ever_interface.specs.Token.{Told, Reply, TagOf, DoctypeOf}
use Rattle.html5ever_interface.specs.Token.Told.{End, Tag}
use Rattle.html5ever_interface.specs.declared.states.DoctypeIdKind.TheVariants.{Public, System}
use Rattle.html5reading.specs.Characters.{less_than, solidus, lower_case}
use Rattle.html5reading.specs.Comment.{comment_state, begins_keyword, begins_cdata, cdata_keyword, declaration_error}
use Rattle.html5reading.specs.Doctype.{is_keyword, begins_doctype_keyword, keyword_error, with_quirks}
use Rattle.html5reading.specs.EndOfInput.{doctype_state_at, state_at, late_at_end_of, open_at_end_of, told_at_end_of, told_at_raw_end, told_at_doctype_end, raw_end_error, tokens_at_end}
use Rattle.html5reading.specs.ErrorText.{bad_character_error}
use Rattle.html5reading.specs.NormalisedText.{normalised, line_after}
use Rattle.html5reading.specs.RawText.{texts}
use Rattle.html5reading.specs.Reading.{Here, Brought, reading, told, messages, after}
use Rattle.html5reading.specs.Reading.Here.{Tells, TellsTag}
use Rattle.html5reading.specs.Reference.{Found, in_value, reference, is_undecided, ends_number, late_tokens, opened_after}
use Rattle.html5reading.specs.Slice.{tokens_of_late}
use Rattle.html5reading.specs.Start.{Raw, RawPlace, Stand, Open, Rules, Start, raw_of}
use Rattle.html5reading.specs.Start.Raw.{Rcdata, Rawtext, ScriptData, Escaped, DoubleEscaped}
use Rattle.html5reading.specs.Start.Mode.{Data, Plain, RawText, Cdata}
use Rattle.html5reading.specs.Start.RawPlace.{AfterLessThan, InEndName, AfterMark, AfterMarkAndDash, InSwitch}
use Rattle.html5reading.specs.Start.DoctypePlace.{Skipped}
use Rattle.html5reading.specs.Start.Open.{Between, LessThan, LessThanSolidus, InTag, InRaw, InDeclaration, InComment, InBogusComment, InInstruction, InDoctype, InDoctypeKeyword, InCdata, InReference}
use Rattle.html5reading.proofs.InputLemmas.{line_past}
use Rattle.html5reading.specs.Machine.{step_at, brought_at, reference_step, declaration_step, declaration_answer_step, doctype_keyword_step}
use Rattle.html5reading.proofs.ReadingLemmas.{reading-events, messages-at_end, told-trace}
use Rattle.html5reading.proofs.Traces.{Trace, trace, trace_here, trace_brought, messages-append}
use Rattle.html5reading.specs.RawText.{raw_state}
use Rattle.html5ever_interface.specs.declared.states.State.TheVariants as state
use Rattle.html5errors.specs.Forms.{IsFormed}
use Rattle.html5errors.proofs.Formed.{AllFormed, end-form, formed-append, formed-late_tokens, formed-nil, formed-one, formed-texts, saw-form}
use Rattle.html5errors.proofs.FormedSteps.{FormedHere, formed-bogus_comment, formed-skipped, formed-step_at, formed-told_after}

-- ---- what a character brings

abbrev FormedBrought : Bool → Brought Open → Type 0
FormedBrought exact next = AllFormed exact (tokens_of_late next.settled) × FormedHere exact next.here

brought-if : (exact test : Bool) (p q : Brought Open) → FormedBrought exact p → FormedBrought exact q → FormedBrought exact (if test then p else q)
brought-if exact true p q f g = f
brought-if exact false p q f g = g

formed-keyword_error : (exact : Bool) (held : List ℕ) → AllFormed exact (tokens_of_late (keyword_error exact held))
unfolding keyword_error AllFormed
formed-keyword_error exact [] = tt
formed-keyword_error exact (c ∷ held) = (saw-form exact state.AfterDoctypeName _, tt)

formed-declaration_error : (exact : Bool) (held : List ℕ) → AllFormed exact (tokens_of_late (declaration_error exact held))
unfolding AllFormed
formed-declaration_error exact held = (saw-form exact state.MarkupDeclarationOpen _, tt)

module _ (rules : Rules) (plain : rules.exact ≡ false) where
  formed-bad : (c : ℕ) → AllFormed rules.exact (bad_character_error rules.exact c)
  unfolding AllFormed
  formed-bad c = rw plain tt

  formed-reference : (stand : Stand) (held : List ℕ) (c : ℕ) → FormedBrought rules.exact (reference_step rules stand held c)
  unfolding reference_step FormedHere
  formed-reference stand held c =
      let found : Found = reference rules (in_value stand) held (Some c) in
      let late : AllFormed rules.exact (tokens_of_late (late_tokens stand found held)) = formed-late_tokens rules plain stand held (Some c) in
      brought-if rules.exact (is_undecided rules.references (held ++ c ∷ [])) _ _ (formed-nil rules.exact, formed-nil rules.exact)
      (brought-if rules.exact (ends_number held c) _ _ (late, formed-nil rules.exact)
      (late, formed-step_at rules.exact c (opened_after stand found held)))

  formed-answer : (foreign : Bool) (held : List ℕ) (c : ℕ) → FormedBrought rules.exact (declaration_answer_step rules.exact foreign held c)
  unfolding declaration_answer_step FormedHere
  formed-answer foreign held c =
      brought-if rules.exact (foreign && bytes_eq (held ++ c ∷ []) cdata_keyword) _ _ (formed-nil rules.exact, formed-nil rules.exact)
      (brought-if rules.exact (foreign && begins_cdata (held ++ c ∷ [])) _ _ (formed-nil rules.exact, formed-nil rules.exact)
      (formed-declaration_error rules.exact held, formed-bogus_comment rules.exact c held [] (formed-nil rules.exact)))

  formed-declaration : (foreign : Bool) (held : List ℕ) (c : ℕ) → FormedBrought rules.exact (declaration_step rules.exact foreign held c)
  unfolding declaration_step FormedHere
  formed-declaration foreign held c =
      brought-if rules.exact (bytes_eq (held ++ c ∷ []) (codes "--")) _ _ (formed-nil rules.exact, formed-nil rules.exact)
      (brought-if rules.exact (bytes_eq (lower_case (held ++ c ∷ [])) (codes "doctype")) _ _ (formed-nil rules.exact, formed-nil rules.exact)
      (brought-if rules.exact (begins_keyword (held ++ c ∷ [])) _ _ (formed-nil rules.exact, formed-nil rules.exact) (formed-answer foreign held c)))

  formed-doctype_keyword : (held : List ℕ) (d : DoctypeOf) (c : ℕ) → FormedBrought rules.exact (doctype_keyword_step rules.exact held d c)
  unfolding doctype_keyword_step FormedHere
  formed-doctype_keyword held d c =
      brought-if rules.exact (is_keyword Public (held ++ c ∷ [])) _ _ (formed-nil rules.exact, formed-nil rules.exact)
      (brought-if rules.exact (is_keyword System (held ++ c ∷ [])) _ _ (formed-nil rules.exact, formed-nil rules.exact)
      (brought-if rules.exact (begins_doctype_keyword (held ++ c ∷ [])) _ _ (formed-nil rules.exact, formed-nil rules.exact)
      (formed-keyword_error rules.exact held, formed-skipped rules.exact c [] (with_quirks d) (formed-nil rules.exact))))

  formed-decided : (opened : Open) (c : ℕ) → FormedBrought rules.exact (record { settled = []; here = step_at rules.exact opened c })
  formed-decided opened c = (formed-nil rules.exact, formed-step_at rules.exact c opened)

  formed-brought : (foreign : Bool) (opened : Open) (c : ℕ) → FormedBrought rules.exact (brought_at rules foreign opened c)
  unfolding brought_at
  formed-brought foreign (Between mode) c = formed-decided (Between mode) c
  formed-brought foreign LessThan c = formed-decided LessThan c
  formed-brought foreign LessThanSolidus c = formed-decided LessThanSolidus c
  formed-brought foreign (InTag place tag) c = formed-decided (InTag place tag) c
  formed-brought foreign (InRaw place name) c = formed-decided (InRaw place name) c
  formed-brought foreign (InDeclaration held) c = formed-declaration foreign held c
  formed-brought foreign (InComment before) c = formed-decided (InComment before) c
  formed-brought foreign (InBogusComment before) c = formed-decided (InBogusComment before) c
  formed-brought foreign (InInstruction before) c = formed-decided (InInstruction before) c
  formed-brought foreign (InDoctype place d) c = formed-decided (InDoctype place d) c
  formed-brought foreign (InDoctypeKeyword held d) c = formed-doctype_keyword held d c
  formed-brought foreign (InCdata held) c = formed-decided (InCdata held) c
  formed-brought foreign (InReference stand held) c = formed-reference stand held c

-- ---- the end

module _ (exact : Bool) where
  formed-end : AllFormed exact (End ∷ [])
  unfolding AllFormed
  formed-end = (tt, tt)

  formed-raw_error : (raw : Raw) → AllFormed exact (raw_end_error exact raw)
  unfolding raw_end_error AllFormed
  formed-raw_error Rcdata = tt
  formed-raw_error Rawtext = tt
  formed-raw_error ScriptData = tt
  formed-raw_error (Escaped dashes) = (end-form exact (raw_state (Escaped dashes)), tt)
  formed-raw_error (DoubleEscaped dashes) = (end-form exact (raw_state (DoubleEscaped dashes)), tt)

  formed-raw_end : (place : RawPlace) → AllFormed exact (told_at_raw_end exact place)
  unfolding told_at_raw_end
  formed-raw_end (AfterLessThan kind) = formed-append exact _ _ (formed-told_after exact 0 kind) (formed-raw_error (raw_of kind))
  formed-raw_end (InEndName kind letters) =
      formed-append exact (texts (less_than ∷ solidus ∷ letters)) _ (formed-texts exact (less_than ∷ solidus ∷ letters)) (formed-raw_error (raw_of kind))
  formed-raw_end AfterMark = formed-nil exact
  formed-raw_end AfterMarkAndDash = formed-nil exact
  formed-raw_end (InSwitch kind letters) = formed-raw_error _

  formed-told_at_end : (opened : Open) → AllFormed exact (told_at_end_of exact opened)
  unfolding told_at_end_of told_at_doctype_end AllFormed
  formed-told_at_end (Between Data) = formed-end
  formed-told_at_end (Between Plain) = formed-end
  formed-told_at_end (Between Cdata) = (end-form exact state.CdataSection, (tt, tt))
  formed-told_at_end (Between (RawText raw name)) = formed-append exact _ _ (formed-raw_error raw) formed-end
  formed-told_at_end LessThan = (end-form exact state.TagOpen, (tt, (tt, tt)))
  formed-told_at_end LessThanSolidus = (end-form exact state.EndTagOpen, (tt, (tt, (tt, tt))))
  formed-told_at_end (InTag place tag) = (end-form exact (state_at place), (tt, tt))
  formed-told_at_end (InRaw place name) = formed-append exact _ _ (formed-raw_end place) formed-end
  formed-told_at_end (InDeclaration held) = tt
  formed-told_at_end (InComment text) = (end-form exact (comment_state state.CommentEnd text), (tt, (tt, tt)))
  formed-told_at_end (InBogusComment text) = (tt, (tt, tt))
  formed-told_at_end (InInstruction text) = (end-form exact state.ProcessingInstruction, (tt, (tt, tt)))
  formed-told_at_end (InDoctype Skipped d) = (tt, (tt, tt))
  formed-told_at_end (InDoctype place d) = (end-form exact (doctype_state_at place), (tt, (tt, tt)))
  formed-told_at_end (InDoctypeKeyword held d) = tt
  formed-told_at_end (InCdata held) = formed-append exact (texts held) _ (formed-texts exact held) (end-form exact state.CdataSection, (tt, tt))
  formed-told_at_end (InReference stand held) = tt

module _ (rules : Rules) (plain : rules.exact ≡ false) where
  formed-late_at_end : (opened : Open) → AllFormed rules.exact (tokens_of_late (late_at_end_of rules opened))
  unfolding late_at_end_of
  formed-late_at_end (InReference stand held) = formed-late_tokens rules plain stand held None
  formed-late_at_end (InDeclaration held) = formed-declaration_error rules.exact held
  formed-late_at_end (InDoctypeKeyword held d) = formed-keyword_error rules.exact held
  formed-late_at_end other = formed-nil rules.exact

  formed-at_end : (opened : Open) → AllFormed rules.exact (tokens_at_end rules opened)
  formed-at_end opened =
      formed-append rules.exact _ _ (formed-late_at_end opened) (formed-told_at_end rules.exact (open_at_end_of rules opened))

-- ---- a text

abbrev AllFormedMessages : Bool → List Message → Type 0
AllFormedMessages exact M = All (λ m. IsFormed exact m.token) M

formed-on_line : (exact : Bool) (line : ℕ) (tokens : List Told) → AllFormed exact tokens → AllFormedMessages exact (on_line line tokens)
unfolding AllFormed
formed-on_line exact line [] f = All-nil (λ (m : Message). IsFormed exact m.token)
formed-on_line exact line (t ∷ tokens) f =
    All-cons (λ (m : Message). IsFormed exact m.token) (record { token = t; line = line }) (on_line line tokens) f.0 (formed-on_line exact line tokens f.1)

formed-with : (exact : Bool) (M N : List Message) → AllFormedMessages exact M → AllFormedMessages exact N → AllFormedMessages exact (M ++ N)
formed-with exact M N first rest = All-append (λ (m : Message). IsFormed exact m.token) M N first rest

module _ {S H : Type 0} (step : S → Told → ℕ → S) (reply : S → Told → ℕ → Reply H) (foreign : S → Bool) (rules : Rules) (plain : rules.exact ≡ false) where
  formed-tag_last : (tokens : List Told) (tag : TagOf) → AllFormed rules.exact tokens → AllFormed rules.exact (tokens ++ Tag tag ∷ [])
  formed-tag_last tokens tag f = formed-append rules.exact tokens (Tag tag ∷ []) f (formed-one rules.exact (Tag tag) tt)

  formed-trace_here : (rest : S → List ℕ → Open → Trace) → ((t : S) (name : List ℕ) (later : Open) → AllFormedMessages rules.exact (rest t name later).messages)
      → (s : S) (line : ℕ) (last : List ℕ) (c : ℕ) (here : Here Open) → FormedHere rules.exact here
      → AllFormedMessages rules.exact (trace_here step reply foreign rules rest s line last c here).messages
  unfolding trace_here FormedHere
  formed-trace_here rest formed s line last c (Tells tokens later) here =
      formed-with rules.exact _ _
      (formed-on_line rules.exact line (bad_character_error rules.exact c ++ tokens) (formed-append rules.exact _ _ (formed-bad rules plain c) here)) (formed _ _ later)
  formed-trace_here rest formed s line last c (TellsTag tokens tag) here =
      formed-with rules.exact _ _
      (formed-on_line rules.exact line ((bad_character_error rules.exact c ++ tokens) ++ Tag tag ∷ [])
      (formed-tag_last (bad_character_error rules.exact c ++ tokens) tag (formed-append rules.exact _ _ (formed-bad rules plain c) here)))
      (formed _ _ _)

  formed-trace_brought : (rest : S → List ℕ → Open → Trace) → ((t : S) (name : List ℕ) (later : Open) → AllFormedMessages rules.exact (rest t name later).messages)
      → (s : S) (line : ℕ) (last : List ℕ) (c : ℕ) (next : Brought Open) → FormedBrought rules.exact next
      → AllFormedMessages rules.exact (trace_brought step reply foreign rules rest s line last c next).messages
  unfolding trace_brought
  formed-trace_brought rest formed s line last c next brought =
      formed-with rules.exact _ _ (formed-on_line rules.exact line (tokens_of_late next.settled) brought.0) (formed-trace_here rest formed _ _ last c next.here brought.1)

  formed-trace : (s : S) (line : ℕ) (last : List ℕ) (opened : Open) (text : List ℕ)
      → AllFormedMessages rules.exact (trace step reply foreign rules s line last opened text).messages
  unfolding trace
  formed-trace s line last opened [] = All-nil (λ (m : Message). IsFormed rules.exact m.token)
  formed-trace s line last opened (c ∷ text) =
      formed-trace_brought (λ t name later. trace step reply foreign rules t (line_past line c) name later text)
      (λ t name later. formed-trace t (line_past line c) name later text)
      s line last c (brought_at rules (foreign s) opened c) (formed-brought rules plain (foreign s) opened c)

  -- each error of a reading is of the three forms: the statement of `errors_have_forms`
  pub formed-reading : (K : Start) (s : S) (X : List ℕ) → All (λ m. IsFormed false m.token) (messages (reading step reply foreign rules K s X))
  formed-reading K s X =
      let whole : Trace = trace step reply foreign rules s (line_after K.input []) K.last_start_tag K.opened (normalised K.input X) in
      let line : ℕ = line_after K.input (normalised K.input X) in
      let opened : Open = (after step reply foreign rules K s X).opened in
      let all : messages (reading step reply foreign rules K s X) ≡ whole.messages ++ on_line line (tokens_at_end rules opened) =
      ap messages (reading-events step reply foreign rules K s X)
      ∙ messages-append (told step reply foreign rules K s X) _
      ∙ ap (λ N. messages (told step reply foreign rules K s X) ++ N) (messages-at_end step reply foreign rules K s X)
      ∙ ap (λ N. N ++ on_line line (tokens_at_end rules opened)) (told-trace step reply foreign rules K s X) in
      subst (λ exact. AllFormedMessages exact (messages (reading step reply foreign rules K s X))) plain
      (subst (AllFormedMessages rules.exact) (sym all)
      (All-append (λ (m : Message). IsFormed rules.exact m.token) whole.messages _
      (formed-trace s _ K.last_start_tag K.opened (normalised K.input X)) (formed-on_line rules.exact line _ (formed-at_end rules plain opened))))
