-- What a reading tells is lawful, where it starts with nothing open.
use Rattle.std.proofs.Common.{◌≡◌, ℕ, Bool, true, false, ◌&&◌, List, [], ◌∷◌, ◌++◌, refl, sym, ap, ◌∙◌, subst, None, Some}
use Rattle.std.proofs.lemmas.List.Elements.{All-nil, All-cons, All-append}
use Rattle.std.specs.Prelude.{All, codes, if◌then◌else◌}
use Rattle.std.specs.Str.{bytes_eq}
use Rattle.html5ever_interface.specs.Sink.{Message, on_line}
use Rattle.html5ever_interface.specs.Token.{Told, Reply, TagOf, DoctypeOf}
use Rattle.html5ever_interface.specs.Token.Told.{End, Tag}
use Rattle.html5ever_interface.specs.Token.Reply.{KeepOn, ReadPlainText, ReadRawData, RunScript, SwitchEncoding}
use Rattle.html5ever_interface.specs.declared.states.DoctypeIdKind.TheVariants.{Public, System}
use Rattle.html5reading.specs.Characters.{less_than, solidus, lower_case}
use Rattle.html5reading.specs.Comment.{begins_keyword, begins_cdata, cdata_keyword, declaration_error}
use Rattle.html5reading.specs.Doctype.{is_keyword, begins_doctype_keyword, keyword_error, with_quirks}
use Rattle.html5reading.specs.EndOfInput.{late_at_end_of, open_at_end_of, told_at_end_of, told_at_raw_end, told_at_doctype_end, raw_end_error, tokens_at_end}
use Rattle.html5reading.specs.ErrorText.{bad_character_error}
use Rattle.html5reading.specs.Lawful.{has_no_null, IsLawful, IsLawfulTag}
use Rattle.html5reading.specs.NormalisedText.{normalised, line_after}
use Rattle.html5reading.specs.RawText.{texts}
use Rattle.html5reading.proofs.ReadingLemmas.{between-mode}
use Rattle.html5reading.specs.Reading.{Here, Brought, reading, told, messages, after, open_after_reply}
use Rattle.html5reading.specs.Reading.Here.{Tells, TellsTag}
use Rattle.html5reading.specs.Reference.{Found, in_value, reference, is_undecided, ends_number, late_tokens, opened_in, opened_after}
use Rattle.html5reading.specs.Slice.{tokens_of_late}
use Rattle.html5reading.specs.Start.{Raw, RawPlace, Stand, Open, Rules, Start, raw_of, nothing_open}
use Rattle.html5reading.specs.Start.Stand.{InText, InAttribute}
use Rattle.html5reading.specs.Start.Raw.{Rcdata, Rawtext, ScriptData, Escaped, DoubleEscaped}
use Rattle.html5reading.specs.Start.Mode.{Data, Plain, RawText, Cdata}
use Rattle.html5reading.specs.Start.RawPlace.{AfterLessThan, InEndName, AfterMark, AfterMarkAndDash, InSwitch}
use Rattle.html5reading.specs.Start.DoctypePlace.{Skipped}
use Rattle.html5reading.specs.Start.Open.{Between, LessThan, LessThanSolidus, InTag, InRaw, InDeclaration, InComment, InBogusComment, InInstruction, InDoctype, InDoctypeKeyword, InCdata, InReference}
use Rattle.html5reading.proofs.InputLemmas.{line_past}
use Rattle.html5reading.proofs.LawfulReferences.{AllLawful, lawful-append, lawful-texts, no_null-undecided, lawful-late_tokens}
use Rattle.html5reading.proofs.LawfulSteps.{IsFitStand, IsFit, LawfulHere, lawful-bad, lawful-nil, lawful-told_after, lawful-letters, lawful-step_at, lawful-skipped, lawful-bogus_comment}
use Rattle.html5reading.proofs.LawfulTags.{fit-value, lawful-empty, lawful-quirks}
use Rattle.html5reading.specs.Machine.{brought_at, reference_step, declaration_step, declaration_answer_step, doctype_keyword_step}
use Rattle.html5reading.proofs.ReadingLemmas.{reading-events, messages-at_end, told-trace, after-opened}
use Rattle.html5reading.proofs.Traces.{Trace, trace, trace_here, trace_brought, with_messages, messages-append}
use Rattle.markup5ever.specs.NamedReferences.{IsTable}

-- ---- what a character brings

abbrev LawfulBrought : Brought Open → Type 0
LawfulBrought next = AllLawful (tokens_of_late next.settled) × LawfulHere next.here

lawful-brought_if : (test : Bool) (p q : Brought Open) → (test ≡ true → LawfulBrought p) → (test ≡ false → LawfulBrought q) → LawfulBrought (if test then p else q)
lawful-brought_if true p q f g = f refl
lawful-brought_if false p q f g = g refl

fit-after : (stand : Stand) (characters : List ℕ) → IsFitStand stand → IsFit (opened_in stand characters)
unfolding IsFit
fit-after (InText mode) characters fit = tt
fit-after (InAttribute kind tag) characters fit = fit-value tag characters fit

lawful-keyword_error : (exact : Bool) (held : List ℕ) → AllLawful (tokens_of_late (keyword_error exact held))
unfolding keyword_error AllLawful
lawful-keyword_error exact [] = tt
lawful-keyword_error exact (c ∷ held) = (tt, tt)

lawful-declaration_error : (exact : Bool) (held : List ℕ) → AllLawful (tokens_of_late (declaration_error exact held))
unfolding AllLawful
lawful-declaration_error exact held = (tt, tt)

module _ (rules : Rules) (table : IsTable rules.references) where
  lawful-reference : (stand : Stand) (held : List ℕ) (c : ℕ) → IsFitStand stand → has_no_null held ≡ true → LawfulBrought (reference_step rules stand held c)
  unfolding reference_step LawfulHere IsFit AllLawful
  lawful-reference stand held c fit no_null =
      let found : Found = reference rules (in_value stand) held (Some c) in
      let late : AllLawful (tokens_of_late (late_tokens stand found held)) = lawful-late_tokens rules stand held (Some c) table no_null in
      let afterwards : IsFit (opened_after stand found held) = fit-after stand _ fit in
      lawful-brought_if (is_undecided rules.references (held ++ c ∷ [])) _ _
      (λ undecided. (tt, (tt, (fit, no_null-undecided rules.references (held ++ c ∷ []) table.plain undecided))))
      (λ decided. lawful-brought_if (ends_number held c) _ _ (λ ends. (late, (tt, afterwards)))
      (λ goes_on. (late, lawful-step_at rules.exact c (opened_after stand found held) afterwards)))

  lawful-answer : (foreign : Bool) (held : List ℕ) (c : ℕ) → LawfulBrought (declaration_answer_step rules.exact foreign held c)
  unfolding declaration_answer_step LawfulHere IsFit AllLawful
  lawful-answer foreign held c =
      lawful-brought_if (foreign && bytes_eq (held ++ c ∷ []) cdata_keyword) _ _ (λ e. (tt, (tt, tt)))
      (λ e. lawful-brought_if (foreign && begins_cdata (held ++ c ∷ [])) _ _ (λ f. (tt, (tt, tt)))
      (λ f. (lawful-declaration_error rules.exact held, lawful-bogus_comment rules.exact c held [] tt)))

  lawful-declaration : (foreign : Bool) (held : List ℕ) (c : ℕ) → LawfulBrought (declaration_step rules.exact foreign held c)
  unfolding declaration_step LawfulHere IsFit AllLawful
  lawful-declaration foreign held c =
      lawful-brought_if (bytes_eq (held ++ c ∷ []) (codes "--")) _ _ (λ e. (tt, (tt, tt)))
      (λ e. lawful-brought_if (bytes_eq (lower_case (held ++ c ∷ [])) (codes "doctype")) _ _ (λ f. (tt, (tt, lawful-empty)))
      (λ f. lawful-brought_if (begins_keyword (held ++ c ∷ [])) _ _ (λ g. (tt, (tt, tt))) (λ g. lawful-answer foreign held c)))

  lawful-doctype_keyword : (held : List ℕ) (d : DoctypeOf) (c : ℕ) → IsFit (InDoctypeKeyword held d) → LawfulBrought (doctype_keyword_step rules.exact held d c)
  unfolding doctype_keyword_step LawfulHere IsFit AllLawful
  lawful-doctype_keyword held d c lawful =
      lawful-brought_if (is_keyword Public (held ++ c ∷ [])) _ _ (λ e. (tt, (tt, lawful)))
      (λ e. lawful-brought_if (is_keyword System (held ++ c ∷ [])) _ _ (λ f. (tt, (tt, lawful)))
      (λ f. lawful-brought_if (begins_doctype_keyword (held ++ c ∷ [])) _ _ (λ g. (tt, (tt, lawful)))
      (λ g. (lawful-keyword_error rules.exact held, lawful-skipped rules.exact c [] (with_quirks d) (lawful-quirks d lawful) tt))))

  -- what a character brings is lawful, and leaves open what is fit for lawful tokens
  lawful-brought : (foreign : Bool) (opened : Open) (c : ℕ) → IsFit opened → LawfulBrought (brought_at rules foreign opened c)
  unfolding brought_at IsFit
  lawful-brought foreign (Between mode) c fit = (lawful-nil, lawful-step_at rules.exact c (Between mode) fit)
  lawful-brought foreign LessThan c fit = (lawful-nil, lawful-step_at rules.exact c LessThan fit)
  lawful-brought foreign LessThanSolidus c fit = (lawful-nil, lawful-step_at rules.exact c LessThanSolidus fit)
  lawful-brought foreign (InTag place tag) c fit = (lawful-nil, lawful-step_at rules.exact c (InTag place tag) fit)
  lawful-brought foreign (InRaw place name) c fit = (lawful-nil, lawful-step_at rules.exact c (InRaw place name) fit)
  lawful-brought foreign (InDeclaration held) c fit = lawful-declaration foreign held c
  lawful-brought foreign (InComment before) c fit = (lawful-nil, lawful-step_at rules.exact c (InComment before) fit)
  lawful-brought foreign (InBogusComment before) c fit = (lawful-nil, lawful-step_at rules.exact c (InBogusComment before) fit)
  lawful-brought foreign (InInstruction before) c fit = (lawful-nil, lawful-step_at rules.exact c (InInstruction before) fit)
  lawful-brought foreign (InDoctype place d) c fit = (lawful-nil, lawful-step_at rules.exact c (InDoctype place d) fit)
  lawful-brought foreign (InDoctypeKeyword held d) c fit = lawful-doctype_keyword held d c fit
  lawful-brought foreign (InCdata held) c fit = (lawful-nil, lawful-step_at rules.exact c (InCdata held) fit)
  lawful-brought foreign (InReference stand held) c fit = lawful-reference stand held c fit.0 fit.1

-- ---- the end

lawful-end : AllLawful (End ∷ [])
unfolding AllLawful
lawful-end = (tt, tt)

lawful-raw_error : (exact : Bool) (raw : Raw) → AllLawful (raw_end_error exact raw)
unfolding raw_end_error AllLawful
lawful-raw_error exact Rcdata = tt
lawful-raw_error exact Rawtext = tt
lawful-raw_error exact ScriptData = tt
lawful-raw_error exact (Escaped dashes) = (tt, tt)
lawful-raw_error exact (DoubleEscaped dashes) = (tt, tt)

lawful-raw_end : (exact : Bool) (place : RawPlace) (name : List ℕ) → IsFit (InRaw place name) → AllLawful (told_at_raw_end exact place)
unfolding told_at_raw_end IsFit AllLawful
lawful-raw_end exact (AfterLessThan kind) name fit = lawful-append _ _ (lawful-told_after kind) (lawful-raw_error exact (raw_of kind))
lawful-raw_end exact (InEndName kind letters) name fit =
    lawful-append (texts (less_than ∷ solidus ∷ letters)) _ (lawful-letters letters fit) (lawful-raw_error exact (raw_of kind))
lawful-raw_end exact AfterMark name fit = tt
lawful-raw_end exact AfterMarkAndDash name fit = tt
lawful-raw_end exact (InSwitch kind letters) name fit = lawful-raw_error exact _

no_null-less_than : has_no_null (codes "<") ≡ true
unfolding has_no_null
no_null-less_than = refl

no_null-solidus : has_no_null (codes "/") ≡ true
unfolding has_no_null
no_null-solidus = refl

-- what the end tells is lawful
lawful-told_at_end : (exact : Bool) (opened : Open) → IsFit opened → AllLawful (told_at_end_of exact opened)
unfolding told_at_end_of told_at_doctype_end IsFit AllLawful
lawful-told_at_end exact (Between Data) fit = lawful-end
lawful-told_at_end exact (Between Plain) fit = lawful-end
lawful-told_at_end exact (Between Cdata) fit = (tt, (tt, tt))
lawful-told_at_end exact (Between (RawText raw name)) fit = lawful-append _ _ (lawful-raw_error exact raw) lawful-end
lawful-told_at_end exact LessThan fit = (tt, (no_null-less_than, (tt, tt)))
lawful-told_at_end exact LessThanSolidus fit = (tt, (no_null-less_than, (no_null-solidus, (tt, tt))))
lawful-told_at_end exact (InTag place tag) fit = (tt, (tt, tt))
lawful-told_at_end exact (InRaw place name) fit = lawful-append _ _ (lawful-raw_end exact place name fit) lawful-end
lawful-told_at_end exact (InDeclaration held) fit = tt
lawful-told_at_end exact (InComment text) fit = (tt, (tt, (tt, tt)))
lawful-told_at_end exact (InBogusComment text) fit = (tt, (tt, tt))
lawful-told_at_end exact (InInstruction text) fit = (tt, (tt, (tt, tt)))
lawful-told_at_end exact (InDoctype Skipped d) fit = (fit, (tt, tt))
lawful-told_at_end exact (InDoctype place d) fit = (tt, (lawful-quirks d fit, (tt, tt)))
lawful-told_at_end exact (InDoctypeKeyword held d) fit = tt
lawful-told_at_end exact (InCdata held) fit = lawful-append (texts held) _ (lawful-texts held fit) (tt, (tt, tt))
lawful-told_at_end exact (InReference stand held) fit = tt

module _ (rules : Rules) (table : IsTable rules.references) where
  lawful-late_at_end : (opened : Open) → IsFit opened → AllLawful (tokens_of_late (late_at_end_of rules opened))
  unfolding late_at_end_of IsFit
  lawful-late_at_end (InReference stand held) fit = lawful-late_tokens rules stand held None table fit.1
  lawful-late_at_end (InDeclaration held) fit = lawful-declaration_error rules.exact held
  lawful-late_at_end (InDoctypeKeyword held d) fit = lawful-keyword_error rules.exact held
  lawful-late_at_end other fit = lawful-nil

  fit-at_end : (opened : Open) → IsFit opened → IsFit (open_at_end_of rules opened)
  unfolding open_at_end_of IsFit
  fit-at_end (InReference stand held) fit = fit-after stand _ fit.0
  fit-at_end (InDeclaration held) fit = tt
  fit-at_end (InDoctypeKeyword held d) fit = lawful-quirks d fit
  fit-at_end other fit = fit

  lawful-at_end : (opened : Open) → IsFit opened → AllLawful (tokens_at_end rules opened)
  lawful-at_end opened fit =
      lawful-append _ _ (lawful-late_at_end opened fit) (lawful-told_at_end rules.exact (open_at_end_of rules opened) (fit-at_end opened fit))

-- ---- a text

abbrev AllLawfulMessages : List Message → Type 0
AllLawfulMessages M = All (λ m. IsLawful m.token) M

lawful-on_line : (line : ℕ) (tokens : List Told) → AllLawful tokens → AllLawfulMessages (on_line line tokens)
unfolding AllLawful
lawful-on_line line [] lawful = All-nil (λ (m : Message). IsLawful m.token)
lawful-on_line line (t ∷ tokens) lawful =
    All-cons (λ (m : Message). IsLawful m.token) (record { token = t; line = line }) (on_line line tokens) lawful.0 (lawful-on_line line tokens lawful.1)

record LawfulTrace (t : Trace) : Type 0 where
  messages : AllLawfulMessages t.messages
  opened : IsFit t.opened

lawful-with : (M : List Message) (t : Trace) → AllLawfulMessages M → LawfulTrace t → LawfulTrace (with_messages M t)
lawful-with M t first rest = record {
  messages = All-append (λ (m : Message). IsLawful m.token) M t.messages first rest.messages;
  opened = rest.opened;
}

fit-reply : {H : Type 0} → (last : List ℕ) (r : Reply H) → IsFit (open_after_reply last r)
unfolding IsFit
fit-reply last KeepOn = tt
fit-reply last ReadPlainText = tt
fit-reply last (ReadRawData kind) = tt
fit-reply last (RunScript handle) = tt
fit-reply last (SwitchEncoding bytes) = tt

fit-nothing_open : (opened : Open) → nothing_open opened ≡ true → IsFit opened
unfolding IsFit
fit-nothing_open opened h = let clean = between-mode opened h in subst IsFit (sym clean.1) tt

module _ {S H : Type 0} (step : S → Told → ℕ → S) (reply : S → Told → ℕ → Reply H) (foreign : S → Bool) (rules : Rules) where
  lawful-tag_last : (tokens : List Told) (tag : TagOf) → AllLawful tokens → IsLawfulTag tag → AllLawful (tokens ++ Tag tag ∷ [])
  unfolding AllLawful
  lawful-tag_last tokens tag f g = lawful-append tokens (Tag tag ∷ []) f (g, tt)

  lawful-trace_here : (rest : S → List ℕ → Open → Trace) → ((t : S) (name : List ℕ) (later : Open) → IsFit later → LawfulTrace (rest t name later))
      → (s : S) (line : ℕ) (last : List ℕ) (c : ℕ) (here : Here Open) → LawfulHere here → LawfulTrace (trace_here step reply foreign rules rest s line last c here)
  unfolding trace_here LawfulHere
  lawful-trace_here rest lawful s line last c (Tells tokens later) here =
      lawful-with _ _ (lawful-on_line line (bad_character_error rules.exact c ++ tokens) (lawful-append _ _ (lawful-bad rules.exact c) here.0)) (lawful _ _ later here.1)
  lawful-trace_here rest lawful s line last c (TellsTag tokens tag) here =
      lawful-with _ _
      (lawful-on_line line ((bad_character_error rules.exact c ++ tokens) ++ Tag tag ∷ []) (lawful-tag_last (bad_character_error rules.exact c ++ tokens) tag (lawful-append _ _ (lawful-bad rules.exact c) here.0) here.1))
      (lawful _ _ _ (fit-reply _ _))

  lawful-trace_brought : (rest : S → List ℕ → Open → Trace) → ((t : S) (name : List ℕ) (later : Open) → IsFit later → LawfulTrace (rest t name later))
      → (s : S) (line : ℕ) (last : List ℕ) (c : ℕ) (next : Brought Open) → LawfulBrought next → LawfulTrace (trace_brought step reply foreign rules rest s line last c next)
  unfolding trace_brought
  lawful-trace_brought rest lawful s line last c next brought =
      lawful-with _ _ (lawful-on_line line (tokens_of_late next.settled) brought.0) (lawful-trace_here rest lawful _ _ last c next.here brought.1)

  lawful-trace : IsTable rules.references → (s : S) (line : ℕ) (last : List ℕ) (opened : Open) (text : List ℕ) → IsFit opened
      → LawfulTrace (trace step reply foreign rules s line last opened text)
  unfolding trace
  lawful-trace table s line last opened [] fit = record { messages = All-nil (λ (m : Message). IsLawful m.token); opened = fit }
  lawful-trace table s line last opened (c ∷ text) fit =
      lawful-trace_brought (λ t name later. trace step reply foreign rules t (line_past line c) name later text)
      (λ t name later fit. lawful-trace table t (line_past line c) name later text fit)
      s line last c (brought_at rules (foreign s) opened c) (lawful-brought rules table (foreign s) opened c fit)

  -- each token of a reading is lawful: the statement of `lawful_tokens`
  pub lawful-reading : (K : Start) (s : S) (X : List ℕ) → IsTable rules.references → nothing_open K.opened ≡ true
      → All (λ m. IsLawful m.token) (messages (reading step reply foreign rules K s X))
  lawful-reading K s X table clean =
      let whole : Trace = trace step reply foreign rules s (line_after K.input []) K.last_start_tag K.opened (normalised K.input X) in
      let lawful : LawfulTrace whole = lawful-trace table s _ K.last_start_tag K.opened (normalised K.input X) (fit-nothing_open K.opened clean) in
      let line : ℕ = line_after K.input (normalised K.input X) in
      let opened : Open = (after step reply foreign rules K s X).opened in
      let fit : IsFit opened = subst IsFit (sym (after-opened step reply foreign rules K s X)) lawful.opened in
      let all : messages (reading step reply foreign rules K s X) ≡ whole.messages ++ on_line line (tokens_at_end rules opened) =
      ap messages (reading-events step reply foreign rules K s X)
      ∙ messages-append (told step reply foreign rules K s X) _
      ∙ ap (λ N. messages (told step reply foreign rules K s X) ++ N) (messages-at_end step reply foreign rules K s X)
      ∙ ap (λ N. N ++ on_line line (tokens_at_end rules opened)) (told-trace step reply foreign rules K s X) in
      subst AllLawfulMessages (sym all)
      (All-append (λ (m : Message). IsLawful m.token) whole.messages _ lawful.messages (lawful-on_line line _ (lawful-at_end rules table opened fit)))
