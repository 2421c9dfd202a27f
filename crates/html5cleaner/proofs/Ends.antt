-- The messages of a page end with the end.
use Rattle.std.proofs.Common.{◌≡◌, ℕ, Bool, List, [], ◌∷◌, ◌++◌, refl, ap, sym, ◌∙◌, append_assoc}
use Rattle.std.proofs.lemmas.List.{map-append}
use Rattle.html5ever_interface.specs.Sink.{Message, on_line}
use Rattle.html5ever_interface.specs.Token.{Told, Reply}
use Rattle.html5ever_interface.specs.Token.Told.{End}
use Rattle.html5reading.specs.EndOfInput.{late_at_end_of, open_at_end_of, raw_end_error, told_at_doctype_end, told_at_end_of, told_at_raw_end, tokens_at_end}
use Rattle.html5reading.specs.NormalisedText.{normalised, line_after}
use Rattle.html5reading.specs.RawText.{texts}
use Rattle.html5reading.specs.Reading.{after, messages, reading, told}
use Rattle.html5reading.specs.Reference.{opened_in}
use Rattle.html5reading.specs.Slice.{tokens_of_late}
use Rattle.html5reading.specs.Start.{Open, Rules, Stand, Start}
use Rattle.html5reading.specs.Start.Mode.{Data, Plain, RawText, Cdata}
use Rattle.html5reading.specs.Start.Stand.{InText, InAttribute}
use Rattle.html5reading.specs.Start.Open.{Between, LessThan, LessThanSolidus, InTag, InRaw, InDeclaration, InComment, InBogusComment, InInstruction, InDoctype, InDoctypeKeyword, InCdata, InReference}
use Rattle.html5reading.proofs.ReadingLemmas.{reading-events, messages-at_end}
use Rattle.html5reading.proofs.Traces.{messages-append}

-- the last token is the end
abbrev pub EndsWithEnd : List Told → Type 0
EndsWithEnd tokens = (before : List Told) × (tokens ≡ before ++ End ∷ [])

ends-after : (first : List Told) (tokens : List Told) → EndsWithEnd tokens → EndsWithEnd (first ++ tokens)
ends-after first tokens ends = (first ++ ends.0, ap (λ l. first ++ l) ends.1 ∙ sym (append_assoc first ends.0 (End ∷ [])))

ends-alone : EndsWithEnd (End ∷ [])
ends-alone = ([], refl)

ends-second : (token : Told) (tokens : List Told) → EndsWithEnd tokens → EndsWithEnd (token ∷ tokens)
ends-second token tokens ends = (token ∷ ends.0, ap (λ l. token ∷ l) ends.1)

ends-stand : (exact : Bool) (stand : Stand) (held : List ℕ) → EndsWithEnd (told_at_end_of exact (opened_in stand held))
unfolding told_at_end_of
ends-stand exact (InText Data) held = ends-alone
ends-stand exact (InText Plain) held = ends-alone
ends-stand exact (InText Cdata) held = ends-second _ (End ∷ []) ends-alone
ends-stand exact (InText (RawText raw name)) held = ends-after (raw_end_error exact raw) (End ∷ []) ends-alone
ends-stand exact (InAttribute kind tag) held = ends-second _ (End ∷ []) ends-alone

ends-open : (rules : Rules) (opened : Open) → EndsWithEnd (told_at_end_of rules.exact (open_at_end_of rules opened))
unfolding told_at_end_of open_at_end_of
ends-open rules (Between Data) = ends-alone
ends-open rules (Between Plain) = ends-alone
ends-open rules (Between Cdata) = ends-second _ (End ∷ []) ends-alone
ends-open rules (Between (RawText raw name)) = ends-after (raw_end_error rules.exact raw) (End ∷ []) ends-alone
ends-open rules LessThan = ends-second _ _ (ends-second _ (End ∷ []) ends-alone)
ends-open rules LessThanSolidus = ends-second _ _ (ends-second _ _ (ends-second _ (End ∷ []) ends-alone))
ends-open rules (InTag place tag) = ends-second _ (End ∷ []) ends-alone
ends-open rules (InRaw place name) = ends-after (told_at_raw_end rules.exact place) (End ∷ []) ends-alone
ends-open rules (InDeclaration held) = ends-second _ (End ∷ []) ends-alone
ends-open rules (InComment text) = ends-second _ _ (ends-second _ (End ∷ []) ends-alone)
ends-open rules (InBogusComment text) = ends-second _ (End ∷ []) ends-alone
ends-open rules (InInstruction text) = ends-second _ _ (ends-second _ (End ∷ []) ends-alone)
ends-open rules (InDoctype place d) = ends-after (told_at_doctype_end rules.exact place d) (End ∷ []) ends-alone
ends-open rules (InDoctypeKeyword held d) = ends-after (told_at_doctype_end rules.exact _ _) (End ∷ []) ends-alone
ends-open rules (InCdata held) = ends-after (texts held) _ (ends-second _ (End ∷ []) ends-alone)
ends-open rules (InReference stand held) = ends-stand rules.exact stand _

ends-tokens : (rules : Rules) (opened : Open) → EndsWithEnd (tokens_at_end rules opened)
ends-tokens rules opened = ends-after (tokens_of_late (late_at_end_of rules opened)) _ (ends-open rules opened)

-- the messages of a whole reading: its last is the end
pub record LastIsEnd (M : List Message) : Type 0 where
  pub before : List Message
  pub line : ℕ
  pub is : M ≡ before ++ record { token = End; line = line } ∷ []

module _ {S H : Type 0} (step : S → Told → ℕ → S) (reply : S → Told → ℕ → Reply H) (foreign : S → Bool) (rules : Rules) where
  pub last-is_end : (K : Start) (s : S) (X : List ℕ) → LastIsEnd (messages (reading step reply foreign rules K s X))
  last-is_end K s X =
      let opened : Open = (after step reply foreign rules K s X).opened in
      let line : ℕ = line_after K.input (normalised K.input X) in
      let ends : EndsWithEnd (tokens_at_end rules opened) = ends-tokens rules opened in
      let message : Told → Message = λ token. record { token = token; line = line } in
      let first : List Message = messages (told step reply foreign rules K s X) in
      record {
        before = first ++ on_line line ends.0;
        line = line;
        is =
            ap messages (reading-events step reply foreign rules K s X)
            ∙ messages-append (told step reply foreign rules K s X) _
            ∙ ap (λ N. first ++ N) (messages-at_end step reply foreign rules K s X ∙ ap (on_line line) ends.1 ∙ map-append message ends.0 (End ∷ []))
            ∙ sym (append_assoc first (on_line line ends.0) (message End ∷ []));
      }
