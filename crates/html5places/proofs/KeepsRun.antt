-- That most tokens end no run of text: errors and texts.
use Rattle.std.proofs.Common.{◌≡◌, ℕ, Bool, true, false, List, [], ◌∷◌, ◌++◌, refl}
use Rattle.std.specs.Prelude.{◌&&◌, ◌==◌, codes, encode_utf8, map, drop, length, Option, None, Some, if◌then◌else◌}
use Rattle.html5ever_interface.specs.Token.{Told, DoctypeOf}
use Rattle.html5ever_interface.specs.Token.Told.{Text}
use Rattle.html5ever_interface.specs.declared.states.DoctypeIdKind.TheVariants.{Public, System}
use Rattle.html5ever_interface.specs.declared.states.RawKind.{RawKind}
use Rattle.html5ever_interface.specs.declared.states.RawKind.TheVariants as raw_kind
use Rattle.html5ever_interface.specs.declared.states.ScriptEscapeKind.TheVariants as escape_kind
use Rattle.html5reading.specs.Characters.{number_sign, is_bad_character, lower_case}
use Rattle.html5reading.specs.ErrorText.{where_true, bad_character_error}
use Rattle.html5reading.specs.Reading.{Brought}
use Rattle.html5reading.specs.Reference.{Found, in_value, reference, number_reference, named_reference, no_name, unended_number, has_digits, longest_name, is_ended, goes_on, first_or, is_undecided, ends_number, text_in, told_of, characters_in, held_text, late_tokens}
use Rattle.html5reading.specs.Slice.{Late, tokens_of_late}
use Rattle.html5reading.specs.Start.Stand.{InText, InAttribute}
use Rattle.markup5ever.specs.NamedReferences.{NamedReference}
use Rattle.html5reading.specs.Start.{OpenTag, Stand, Open, Rules}
use Rattle.html5reading.specs.Start.Open.{Between, LessThan, LessThanSolidus, InTag, InRaw, InDeclaration, InComment, InBogusComment, InInstruction, InDoctype, InDoctypeKeyword, InReference, InCdata}
use Rattle.std.specs.Str.{bytes_eq}
use Rattle.html5reading.specs.Comment.{begins_keyword, cdata_keyword, begins_cdata}
use Rattle.html5reading.specs.Doctype.{is_keyword, begins_doctype_keyword, keyword_error}
use Rattle.html5reading.specs.RawText.{told_at_less_than, told_after_less_than}
use Rattle.html5reading.specs.Tag.{duplicate_error, end_tag_errors}
use Rattle.html5reading.specs.Machine.{declaration_step, doctype_keyword_step, reference_step, brought_at, declaration_answer_step}
use Rattle.html5places.specs.Markup.{ends_run}

-- none of these tokens ends a run of text
unfoldable pub KeepsRun : List Told → Type 0
KeepsRun [] = Unit {0}
KeepsRun (t ∷ ts) = (ends_run t ≡ false) × KeepsRun ts

pub keeps-none : KeepsRun []
unfolding KeepsRun
keeps-none = tt

pub keeps-one : (t : Told) → ends_run t ≡ false → KeepsRun (t ∷ [])
unfolding KeepsRun
keeps-one t e = (e, tt)

pub keeps-two : (t u : Told) → ends_run t ≡ false → ends_run u ≡ false → KeepsRun (t ∷ u ∷ [])
unfolding KeepsRun
keeps-two t u e f = (e, (f, tt))

pub keeps-append : (ts us : List Told) → KeepsRun ts → KeepsRun us → KeepsRun (ts ++ us)
unfolding KeepsRun
keeps-append [] us f g = g
keeps-append (t ∷ ts) us f g = (f.0, keeps-append ts us f.1 g)

pub keeps-where : (holds : Bool) (error : Told) → ends_run error ≡ false → KeepsRun (where_true holds error)
unfolding KeepsRun
keeps-where true error h = (h, tt)
keeps-where false error h = tt

pub keeps-texts : (characters : List ℕ) → KeepsRun (map (λ (c : ℕ). Text (encode_utf8 c)) characters)
unfolding KeepsRun
keeps-texts [] = tt
keeps-texts (c ∷ characters) = (refl, keeps-texts characters)

pub keeps-bad : (exact : Bool) (c : ℕ) → KeepsRun (bad_character_error exact c)
keeps-bad exact c = keeps-where (exact && is_bad_character c) _ refl

pub keeps-told_after : (kind : RawKind) → KeepsRun (told_after_less_than kind)
keeps-told_after raw_kind.Rcdata = keeps-one _ refl
keeps-told_after raw_kind.Rawtext = keeps-one _ refl
keeps-told_after raw_kind.ScriptData = keeps-one _ refl
keeps-told_after (raw_kind.ScriptDataEscaped escape_kind.Escaped) = keeps-one _ refl
keeps-told_after (raw_kind.ScriptDataEscaped escape_kind.DoubleEscaped) = keeps-none

pub keeps-less_than : (kind : RawKind) → KeepsRun (told_at_less_than kind)
keeps-less_than raw_kind.Rcdata = keeps-none
keeps-less_than raw_kind.Rawtext = keeps-none
keeps-less_than raw_kind.ScriptData = keeps-none
keeps-less_than (raw_kind.ScriptDataEscaped escape_kind.Escaped) = keeps-none
keeps-less_than (raw_kind.ScriptDataEscaped escape_kind.DoubleEscaped) = keeps-one _ refl

pub keeps-duplicate : (tag : OpenTag) → KeepsRun (duplicate_error tag)
unfolding duplicate_error
keeps-duplicate tag = keeps-where _ _ refl

pub keeps-end_tag : (tag : OpenTag) (self_closing : Bool) → KeepsRun (end_tag_errors tag self_closing)
unfolding end_tag_errors
keeps-end_tag tag self_closing = keeps-append _ _ (keeps-where _ _ refl) (keeps-where _ _ refl)

-- what is decided late is text, or an error

keeps-found : (test : Bool) (p q : Found) → KeepsRun p.errors → KeepsRun q.errors → KeepsRun (if test then p else q).errors
keeps-found true p q f g = f
keeps-found false p q f g = g

keeps-unended : (next : Option ℕ) → KeepsRun (unended_number next)
unfolding unended_number KeepsRun
keeps-unended None = (refl, tt)
keeps-unended (Some c) = keeps-where _ _ refl

keeps-number : (exact : Bool) (text : List ℕ) (next : Option ℕ) → KeepsRun (number_reference exact text next).errors
unfolding number_reference KeepsRun
keeps-number exact text next =
    keeps-found (has_digits text) _ _ (keeps-append _ _ (keeps-unended next) (keeps-where _ _ refl)) (refl, tt)

keeps-no_name : (exact : Bool) (held : List ℕ) (next : Option ℕ) → KeepsRun (no_name exact held next).errors
unfolding no_name KeepsRun
keeps-no_name exact [] next = tt
keeps-no_name exact (c ∷ held) None = tt
keeps-no_name exact (c ∷ held) (Some d) = keeps-where _ _ refl

keeps-named : (exact in_value : Bool) (held : List ℕ) (next : Option ℕ) (entry : Option NamedReference) → KeepsRun (named_reference exact in_value held next entry).errors
unfolding named_reference KeepsRun
keeps-named exact in_value held next None = keeps-no_name exact held next
keeps-named exact in_value held next (Some entry) =
    keeps-found (is_ended entry.name) _ _ tt (keeps-found (in_value && goes_on (first_or (drop (length entry.name) held) next)) _ _ tt (refl, tt))

keeps-reference : (rules : Rules) (in_value : Bool) (held : List ℕ) (next : Option ℕ) → KeepsRun (reference rules in_value held next).errors
unfolding reference KeepsRun
keeps-reference rules in_value [] next = tt
keeps-reference rules in_value (c ∷ held) next =
    keeps-found (c == number_sign) _ _ (keeps-number rules.exact held next)
    (keeps-named rules.exact in_value (c ∷ held) next (longest_name rules.references (c ∷ held)))

keeps-text_in : (stand : Stand) (characters : List ℕ) → KeepsRun (text_in stand characters)
unfolding KeepsRun
keeps-text_in (InText mode) characters = keeps-texts characters
keeps-text_in (InAttribute kind tag) characters = tt

keeps-late_append : (l m : List Late) → KeepsRun (tokens_of_late l) → KeepsRun (tokens_of_late m) → KeepsRun (tokens_of_late (l ++ m))
unfolding KeepsRun
keeps-late_append [] m f g = g
keeps-late_append (x ∷ l) m f g = (f.0, keeps-late_append l m f.1 g)

keeps-late_map : (back : ℕ) (is_at is_held : Bool) (tokens : List Told) → KeepsRun tokens
    → KeepsRun (tokens_of_late (map (λ token. record { token = token; back = back; is_at = is_at; is_held = is_held }) tokens))
unfolding KeepsRun
keeps-late_map back is_at is_held [] f = tt
keeps-late_map back is_at is_held (t ∷ tokens) f = (f.0, keeps-late_map back is_at is_held tokens f.1)

keeps-held_text : (stand : Stand) (held : List ℕ) → KeepsRun (tokens_of_late (held_text stand held))
unfolding held_text KeepsRun
keeps-held_text stand [] = tt
keeps-held_text stand (c ∷ held) =
    keeps-late_append _ _ (keeps-late_map _ _ _ (text_in stand (c ∷ [])) (keeps-text_in stand (c ∷ []))) (keeps-held_text stand held)

pub keeps-late_tokens : (rules : Rules) (stand : Stand) (held : List ℕ) (next : Option ℕ)
    → KeepsRun (tokens_of_late (late_tokens stand (reference rules (in_value stand) held next) held))
keeps-late_tokens rules stand held next =
    let found : Found = reference rules (in_value stand) held next in
    keeps-late_append _ _
    (keeps-late_map _ _ _ (told_of stand found) (keeps-append _ _ (keeps-reference rules (in_value stand) held next) (keeps-text_in stand (characters_in found))))
    (keeps-held_text stand (drop found.taken held))

keeps-brought : (test : Bool) (p q : Brought Open) → KeepsRun (tokens_of_late p.settled) → KeepsRun (tokens_of_late q.settled)
    → KeepsRun (tokens_of_late (if test then p else q).settled)
keeps-brought true p q f g = f
keeps-brought false p q f g = g

keeps-answer : (exact foreign : Bool) (held : List ℕ) (c : ℕ) → KeepsRun (tokens_of_late (declaration_answer_step exact foreign held c).settled)
unfolding declaration_answer_step KeepsRun
keeps-answer exact foreign held c =
    keeps-brought (foreign && bytes_eq (held ++ c ∷ []) cdata_keyword) _ _ tt
    (keeps-brought (foreign && begins_cdata (held ++ c ∷ [])) _ _ tt (refl, tt))

keeps-declaration : (exact foreign : Bool) (held : List ℕ) (c : ℕ) → KeepsRun (tokens_of_late (declaration_step exact foreign held c).settled)
unfolding declaration_step KeepsRun
keeps-declaration exact foreign held c =
    keeps-brought (bytes_eq (held ++ c ∷ []) (codes "--")) _ _ tt
    (keeps-brought (bytes_eq (lower_case (held ++ c ∷ [])) (codes "doctype")) _ _ tt
    (keeps-brought (begins_keyword (held ++ c ∷ [])) _ _ tt (keeps-answer exact foreign held c)))

pub keeps-keyword_error : (exact : Bool) (held : List ℕ) → KeepsRun (tokens_of_late (keyword_error exact held))
unfolding keyword_error KeepsRun
keeps-keyword_error exact [] = tt
keeps-keyword_error exact (c ∷ held) = (refl, tt)

keeps-doctype_keyword : (exact : Bool) (held : List ℕ) (d : DoctypeOf) (c : ℕ) → KeepsRun (tokens_of_late (doctype_keyword_step exact held d c).settled)
unfolding doctype_keyword_step KeepsRun
keeps-doctype_keyword exact held d c =
    keeps-brought (is_keyword Public (held ++ c ∷ [])) _ _ tt
    (keeps-brought (is_keyword System (held ++ c ∷ [])) _ _ tt
    (keeps-brought (begins_doctype_keyword (held ++ c ∷ [])) _ _ tt (keeps-keyword_error exact held)))

-- what a character settles of a reference or a keyword ends no run
pub keeps-settled : (rules : Rules) (foreign : Bool) (opened : Open) (c : ℕ) → KeepsRun (tokens_of_late (brought_at rules foreign opened c).settled)
unfolding brought_at reference_step KeepsRun
keeps-settled rules foreign (Between mode) c = tt
keeps-settled rules foreign LessThan c = tt
keeps-settled rules foreign LessThanSolidus c = tt
keeps-settled rules foreign (InTag place tag) c = tt
keeps-settled rules foreign (InRaw place name) c = tt
keeps-settled rules foreign (InDeclaration held) c = keeps-declaration rules.exact foreign held c
keeps-settled rules foreign (InComment before) c = tt
keeps-settled rules foreign (InBogusComment before) c = tt
keeps-settled rules foreign (InInstruction before) c = tt
keeps-settled rules foreign (InDoctype place d) c = tt
keeps-settled rules foreign (InDoctypeKeyword held d) c = keeps-doctype_keyword rules.exact held d c
keeps-settled rules foreign (InCdata held) c = tt
keeps-settled rules foreign (InReference stand held) c =
    keeps-brought (is_undecided rules.references (held ++ c ∷ [])) _ _ tt
    (keeps-brought (ends_number held c) _ _ (keeps-late_tokens rules stand held (Some c)) (keeps-late_tokens rules stand held (Some c)))
