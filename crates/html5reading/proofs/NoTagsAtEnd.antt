-- The end of input tells no tag, also where it cuts one off.
use Rattle.std.proofs.Common.{◌≡◌, Bool, List, [], ◌∷◌, ◌++◌, refl, ap, ◌∙◌, ℕ, false}
use Rattle.std.specs.Prelude.{None, All}
use Rattle.std.proofs.lemmas.List.Elements.{All-nil, All-cons}
use Rattle.html5ever_interface.specs.Sink.{Message, on_line}
use Rattle.html5ever_interface.specs.Token.{Told, Reply, is_tag}
use Rattle.html5ever_interface.specs.Token.Told.{End}
use Rattle.html5reading.specs.Characters.{solidus, less_than}
use Rattle.html5reading.specs.EndOfInput.{late_at_end_of, open_at_end_of, told_at_end_of, told_at_raw_end, told_at_doctype_end, raw_end_error, tokens_at_end}
use Rattle.html5reading.specs.Lawful.{TellsNoTagAfter}
use Rattle.html5reading.specs.NormalisedText.{normalised, line_after}
use Rattle.html5reading.specs.RawText.{texts}
use Rattle.html5reading.specs.Reading.{reading, told, messages, after}
use Rattle.html5reading.specs.Slice.{tokens_of_late}
use Rattle.html5reading.specs.Start.{Raw, RawPlace, Open, Rules, Start, raw_of}
use Rattle.html5reading.specs.Start.Raw.{Rcdata, Rawtext, ScriptData, Escaped, DoubleEscaped}
use Rattle.html5reading.specs.Start.Mode.{Data, Plain, RawText, Cdata}
use Rattle.html5reading.specs.Start.RawPlace.{AfterLessThan, InEndName, AfterMark, AfterMarkAndDash, InSwitch}
use Rattle.html5reading.specs.Start.DoctypePlace.{Skipped}
use Rattle.html5reading.specs.Start.Open.{Between, LessThan, LessThanSolidus, InTag, InRaw, InDeclaration, InComment, InBogusComment, InInstruction, InDoctype, InDoctypeKeyword, InCdata, InReference}
use Rattle.html5reading.proofs.NoTags.{NoTags, no_tags-append, no_tags-texts, no_tags-told_after, no_tags-late_tokens, no_tags-keyword_error}
use Rattle.html5reading.proofs.ReadingLemmas.{reading-events, messages-at_end}
use Rattle.html5reading.proofs.Traces.{messages-append}

no_tags-end : NoTags (End ∷ [])
unfolding NoTags
no_tags-end = (refl, tt)

no_tags-raw_error : (exact : Bool) (raw : Raw) → NoTags (raw_end_error exact raw)
unfolding raw_end_error NoTags
no_tags-raw_error exact Rcdata = tt
no_tags-raw_error exact Rawtext = tt
no_tags-raw_error exact ScriptData = tt
no_tags-raw_error exact (Escaped dashes) = (refl, tt)
no_tags-raw_error exact (DoubleEscaped dashes) = (refl, tt)

no_tags-raw_end : (exact : Bool) (place : RawPlace) → NoTags (told_at_raw_end exact place)
unfolding told_at_raw_end NoTags
no_tags-raw_end exact (AfterLessThan kind) = no_tags-append _ _ (no_tags-told_after kind) (no_tags-raw_error exact (raw_of kind))
no_tags-raw_end exact (InEndName kind letters) =
    no_tags-append (texts (less_than ∷ solidus ∷ letters)) _ (no_tags-texts (less_than ∷ solidus ∷ letters)) (no_tags-raw_error exact (raw_of kind))
no_tags-raw_end exact AfterMark = tt
no_tags-raw_end exact AfterMarkAndDash = tt
no_tags-raw_end exact (InSwitch kind letters) = no_tags-raw_error exact _

-- what the end tells has no tag
no_tags-told_at_end : (exact : Bool) (opened : Open) → NoTags (told_at_end_of exact opened)
unfolding told_at_end_of told_at_doctype_end NoTags
no_tags-told_at_end exact (Between Data) = no_tags-end
no_tags-told_at_end exact (Between Plain) = no_tags-end
no_tags-told_at_end exact (Between Cdata) = (refl, (refl, tt))
no_tags-told_at_end exact (Between (RawText raw name)) = no_tags-append _ _ (no_tags-raw_error exact raw) no_tags-end
no_tags-told_at_end exact LessThan = (refl, (refl, (refl, tt)))
no_tags-told_at_end exact LessThanSolidus = (refl, (refl, (refl, (refl, tt))))
no_tags-told_at_end exact (InTag place tag) = (refl, (refl, tt))
no_tags-told_at_end exact (InRaw place name) = no_tags-append _ _ (no_tags-raw_end exact place) no_tags-end
no_tags-told_at_end exact (InDeclaration held) = tt
no_tags-told_at_end exact (InComment text) = (refl, (refl, (refl, tt)))
no_tags-told_at_end exact (InBogusComment text) = (refl, (refl, tt))
no_tags-told_at_end exact (InInstruction text) = (refl, (refl, (refl, tt)))
no_tags-told_at_end exact (InDoctype Skipped d) = (refl, (refl, tt))
no_tags-told_at_end exact (InDoctype place d) = (refl, (refl, (refl, tt)))
no_tags-told_at_end exact (InDoctypeKeyword held d) = tt
no_tags-told_at_end exact (InCdata held) = no_tags-append (texts held) _ (no_tags-texts held) (refl, (refl, tt))
no_tags-told_at_end exact (InReference stand held) = tt

no_tags-late_at_end : (rules : Rules) (opened : Open) → NoTags (tokens_of_late (late_at_end_of rules opened))
unfolding late_at_end_of NoTags
no_tags-late_at_end rules (InReference stand held) = no_tags-late_tokens rules stand held None
no_tags-late_at_end rules (InDeclaration held) = (refl, tt)
no_tags-late_at_end rules (InDoctypeKeyword held d) = no_tags-keyword_error rules.exact held
no_tags-late_at_end rules other = tt

no_tags-at_end : (rules : Rules) (opened : Open) → NoTags (tokens_at_end rules opened)
no_tags-at_end rules opened =
    no_tags-append _ _ (no_tags-late_at_end rules opened) (no_tags-told_at_end rules.exact (open_at_end_of rules opened))

no_tags-on_line : (line : ℕ) (tokens : List Told) → NoTags tokens → All (λ m. is_tag m.token ≡ false) (on_line line tokens)
unfolding NoTags
no_tags-on_line line [] none = All-nil (λ (m : Message). is_tag m.token ≡ false)
no_tags-on_line line (t ∷ tokens) none =
    All-cons (λ (m : Message). is_tag m.token ≡ false) (record { token = t; line = line }) (on_line line tokens) none.0 (no_tags-on_line line tokens none.1)

module _ {S H : Type 0} (step : S → Told → ℕ → S) (reply : S → Told → ℕ → Reply H) (foreign : S → Bool) (rules : Rules) where
  -- what the end decides and tells has no tag: the statement of `tags_cut_off`
  pub cut_off_tags : (K : Start) (s : S) (X : List ℕ)
      → TellsNoTagAfter (messages (told step reply foreign rules K s X)) (messages (reading step reply foreign rules K s X))
  cut_off_tags K s X =
      let opened : Open = (after step reply foreign rules K s X).opened in
      let line : ℕ = line_after K.input (normalised K.input X) in (
        on_line line (tokens_at_end rules opened),
        ap messages (reading-events step reply foreign rules K s X)
            ∙ messages-append (told step reply foreign rules K s X) _
            ∙ ap (λ N. messages (told step reply foreign rules K s X) ++ N) (messages-at_end step reply foreign rules K s X),
        no_tags-on_line line _ (no_tags-at_end rules opened),
      )
