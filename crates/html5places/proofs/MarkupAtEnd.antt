-- What the end of input tells of markup: the token that it cuts off.
use Rattle.std.proofs.Common.{◌≡◌, ◌⊎◌, inl, inr, Bool, true, false, List, [], ◌∷◌, ◌++◌, refl, ap, sym, ◌∙◌}
use Rattle.std.specs.Prelude.{None}
use Rattle.std.proofs.lemmas.List.{append_assoc}
use Rattle.html5ever_interface.specs.Token.{Told, DoctypeOf}
use Rattle.html5ever_interface.specs.Token.Told.{End, Doctype}
use Rattle.html5reading.specs.Characters.{solidus, less_than}
use Rattle.html5reading.specs.EndOfInput.{late_at_end_of, open_at_end_of, told_at_end_of, told_at_raw_end, told_at_doctype_end, raw_end_error, tokens_at_end}
use Rattle.html5reading.specs.RawText.{texts}
use Rattle.html5reading.specs.Start.{Raw, RawPlace, DoctypePlace, Open, Rules, raw_of}
use Rattle.html5reading.specs.Start.Stand.{InText, InAttribute}
use Rattle.html5reading.specs.Start.Raw.{Rcdata, Rawtext, ScriptData, Escaped, DoubleEscaped}
use Rattle.html5reading.specs.Start.Mode.{Data, Plain, RawText, Cdata}
use Rattle.html5reading.specs.Start.RawPlace.{AfterLessThan, InEndName, AfterMark, AfterMarkAndDash, InSwitch}
use Rattle.html5reading.specs.Start.DoctypePlace.{Skipped}
use Rattle.html5reading.specs.Start.Open.{Between, LessThan, LessThanSolidus, InTag, InRaw, InDeclaration, InComment, InBogusComment, InInstruction, InDoctype, InDoctypeKeyword, InCdata, InReference}
use Rattle.html5places.specs.Markup.{ends_run, in_markup}
use Rattle.html5places.proofs.KeepsRun.{KeepsRun, keeps-none, keeps-one, keeps-append, keeps-texts, keeps-told_after, keeps-late_tokens, keeps-keyword_error}

-- no markup, and the end
pub record TextAtEnd (tokens : List Told) : Type 0 where
  pub texts : List Told
  pub parts : tokens ≡ texts ++ End ∷ []
  pub keeps : KeepsRun texts

-- a token that may be markup, where some is open, and the end
pub record MarkupAtEnd (within : Bool) (tokens : List Told) : Type 0 where
  pub was_within : within ≡ true
  pub errors : List Told
  pub token : Told
  pub parts : tokens ≡ errors ++ token ∷ End ∷ []
  pub keeps : KeepsRun errors

abbrev pub EndTells : Bool → List Told → Type 0
EndTells within tokens = TextAtEnd tokens ⊎ MarkupAtEnd within tokens

text_ends : (within : Bool) (texts : List Told) → KeepsRun texts → EndTells within (texts ++ End ∷ [])
text_ends within texts keeps = inl (record { texts = texts; parts = refl; keeps = keeps })

markup_ends : (errors : List Told) (token : Told) → KeepsRun errors → EndTells true (errors ++ token ∷ End ∷ [])
markup_ends errors token keeps = inr (record { was_within = refl; errors = errors; token = token; parts = refl; keeps = keeps })

-- after more that ends no run
late_ends : (within : Bool) (ts us : List Told) → KeepsRun ts → EndTells within us → EndTells within (ts ++ us)
late_ends within ts us keeps (inl text) = inl (record {
  texts = ts ++ text.texts;
  parts = ap (λ l. ts ++ l) text.parts ∙ sym (append_assoc ts text.texts (End ∷ []));
  keeps = keeps-append ts text.texts keeps text.keeps;
})
late_ends within ts us keeps (inr markup) = inr (record {
  was_within = markup.was_within;
  errors = ts ++ markup.errors;
  token = markup.token;
  parts = ap (λ l. ts ++ l) markup.parts ∙ sym (append_assoc ts markup.errors (markup.token ∷ End ∷ []));
  keeps = keeps-append ts markup.errors keeps markup.keeps;
})

keeps-raw_error : (exact : Bool) (raw : Raw) → KeepsRun (raw_end_error exact raw)
unfolding raw_end_error
keeps-raw_error exact Rcdata = keeps-none
keeps-raw_error exact Rawtext = keeps-none
keeps-raw_error exact ScriptData = keeps-none
keeps-raw_error exact (Escaped dashes) = keeps-one _ refl
keeps-raw_error exact (DoubleEscaped dashes) = keeps-one _ refl

keeps-raw_end : (exact : Bool) (place : RawPlace) → KeepsRun (told_at_raw_end exact place)
unfolding told_at_raw_end
keeps-raw_end exact (AfterLessThan kind) = keeps-append _ _ (keeps-told_after kind) (keeps-raw_error exact (raw_of kind))
keeps-raw_end exact (InEndName kind letters) =
    keeps-append (texts (less_than ∷ solidus ∷ letters)) _ (keeps-texts (less_than ∷ solidus ∷ letters)) (keeps-raw_error exact (raw_of kind))
keeps-raw_end exact AfterMark = keeps-none
keeps-raw_end exact AfterMarkAndDash = keeps-none
keeps-raw_end exact (InSwitch kind letters) = keeps-raw_error exact _

one_error : (t : Told) (us : List Told) → ends_run t ≡ false → (within : Bool) → EndTells within us → EndTells within (t ∷ us)
one_error t us plain within rest = late_ends within (t ∷ []) us (keeps-one t plain) rest

doctype_ends : (exact : Bool) (place : DoctypePlace) (d : DoctypeOf) → EndTells true (told_at_doctype_end exact place d ++ End ∷ [])
unfolding told_at_doctype_end
doctype_ends exact Skipped d = markup_ends [] (Doctype d) keeps-none
doctype_ends exact place d = one_error _ _ refl true (markup_ends [] _ keeps-none)

-- what is decided where the end comes
abbrev is_decided : Open → Type 0
is_decided (InDeclaration held) = ⊥
is_decided (InDoctypeKeyword held d) = ⊥
is_decided (InReference stand held) = ⊥
is_decided other = Unit {0}

told-ends : (exact : Bool) (opened : Open) → is_decided opened → EndTells (in_markup opened) (told_at_end_of exact opened)
unfolding told_at_end_of
told-ends exact (Between Data) h = text_ends false [] keeps-none
told-ends exact (Between Plain) h = text_ends false [] keeps-none
told-ends exact (Between Cdata) h = one_error _ _ refl false (text_ends false [] keeps-none)
told-ends exact (Between (RawText raw name)) h = text_ends false _ (keeps-raw_error exact raw)
told-ends exact LessThan h = one_error _ _ refl false (one_error _ _ refl false (text_ends false [] keeps-none))
told-ends exact LessThanSolidus h = one_error _ _ refl true (one_error _ _ refl true (one_error _ _ refl true (text_ends true [] keeps-none)))
told-ends exact (InTag place tag) h = one_error _ _ refl true (text_ends true [] keeps-none)
told-ends exact (InRaw place name) h = text_ends _ _ (keeps-raw_end exact place)
told-ends exact (InDeclaration held) h = absurd h
told-ends exact (InComment text) h = one_error _ _ refl true (markup_ends [] _ keeps-none)
told-ends exact (InBogusComment text) h = markup_ends [] _ keeps-none
told-ends exact (InInstruction text) h = one_error _ _ refl true (markup_ends [] _ keeps-none)
told-ends exact (InDoctype place d) h = doctype_ends exact place d
told-ends exact (InDoctypeKeyword held d) h = absurd h
told-ends exact (InCdata held) h = late_ends false (texts held) _ (keeps-texts held) (one_error _ _ refl false (text_ends false [] keeps-none))
told-ends exact (InReference stand held) h = absurd h

-- all that the end tells
pub at_end : (rules : Rules) (opened : Open) → EndTells (in_markup opened) (tokens_at_end rules opened)
unfolding late_at_end_of open_at_end_of
at_end rules (InReference (InText mode) held) = late_ends false _ _ (keeps-late_tokens rules (InText mode) held None) (told-ends rules.exact (Between mode) tt)
at_end rules (InReference (InAttribute kind tag) held) = late_ends true _ _ (keeps-late_tokens rules (InAttribute kind tag) held None) (told-ends rules.exact (InTag _ _) tt)
at_end rules (InDeclaration held) = late_ends true _ _ (keeps-one _ refl) (told-ends rules.exact (InBogusComment held) tt)
at_end rules (InDoctypeKeyword held d) = late_ends true _ _ (keeps-keyword_error rules.exact held) (told-ends rules.exact (InDoctype Skipped _) tt)
at_end rules (Between mode) = told-ends rules.exact (Between mode) tt
at_end rules LessThan = told-ends rules.exact LessThan tt
at_end rules LessThanSolidus = told-ends rules.exact LessThanSolidus tt
at_end rules (InTag place tag) = told-ends rules.exact (InTag place tag) tt
at_end rules (InRaw place name) = told-ends rules.exact (InRaw place name) tt
at_end rules (InComment text) = told-ends rules.exact (InComment text) tt
at_end rules (InBogusComment text) = told-ends rules.exact (InBogusComment text) tt
at_end rules (InInstruction text) = told-ends rules.exact (InInstruction text) tt
at_end rules (InDoctype place d) = told-ends rules.exact (InDoctype place d) tt
at_end rules (InCdata held) = told-ends rules.exact (InCdata held) tt
