-- An output that is written piece by piece: what was written and what is left of it make the output of the whole reading.
use Rattle.std.proofs.Common.{◌≡◌, ℕ, ◌<◌, Bool, true, false, List, [], ◌∷◌, ◌++◌, length, refl, ap, sym, ◌∙◌, arith}
use Rattle.std.proofs.lemmas.List.{append-nil, append_assoc, length-append}
use Rattle.html5ever_interface.proofs.Steppings.{stepped-append}
use Rattle.html5ever_interface.specs.Sink.{Message, stepped, on_line}
use Rattle.html5ever_interface.specs.Token.{Told}
use Rattle.html5ever_interface.specs.Token.Told.{End}
use Rattle.html5reading.specs.EndOfInput.{tokens_at_end}
use Rattle.html5reading.specs.NormalisedText.{normalised, without_dropped_first, with_line_feeds, line_after, input_after}
use Rattle.html5reading.specs.Reading.{all_messages, end_events, messages, messages_so_far, read, start_after, state_after, told}
use Rattle.html5reading.specs.Start.{Input, Start, Rules}
use Rattle.html5reading.proofs.InputLemmas.{input_after-line_none, line_after-lines_past}
use Rattle.html5reading.proofs.ReadingLemmas.{after-append, after-nil, messages-at_end, reading-events, told-append, told-nil}
use Rattle.html5reading.proofs.Traces.{messages-append}
use Rattle.html5feed.proofs.Pauses.{state_beyond-append}
use Rattle.html5ever.specs.Tokenizer.{state_at_end}
use Rattle.token_printer.specs.Output.{Output, added_by, output_step, output_reply, output_foreign}
use Rattle.token_printer.specs.Printed.{printed_line, line_with_number}
use Rattle.html5cli.specs.Printing.{printer_means, after_bytes}
use Rattle.html5cli.proofs.PrintedOutput.{end-is_last}
use Rattle.html5cli.proofs.SameReadings.{told-same, start-same}

-- ---- what messages add to an output

step-after : (front : List ℕ) (p : Output) (token : Told) (line : ℕ) → output_step (after_bytes front p) token line ≡ after_bytes front (output_step p token line)
unfolding output_step
step-after front p token line = ap (λ l. record (output_step p token line) { lines = l }) (append_assoc front p.lines (added_by p.in_text token line))

stepped-after : (front : List ℕ) (p : Output) (M : List Message) → stepped output_step (after_bytes front p) M ≡ after_bytes front (stepped output_step p M)
unfolding stepped
stepped-after front p [] = refl
stepped-after front p (m ∷ M) = ap (λ q. stepped output_step q M) (step-after front p m.token m.line) ∙ stepped-after front (output_step p m.token m.line) M

-- lines that go on after others
pub record GoesOn (lines before : List ℕ) : Type 0 where
  pub more : List ℕ
  pub parts : lines ≡ before ++ more

step-goes_on : (p : Output) (token : Told) (line : ℕ) → (output_step p token line).lines ≡ p.lines ++ added_by p.in_text token line
unfolding output_step
step-goes_on p token line = refl

stepped-goes_on : (p : Output) (M : List Message) → GoesOn (stepped output_step p M).lines p.lines
unfolding stepped
stepped-goes_on p [] = record { more = []; parts = sym (append-nil p.lines) }
stepped-goes_on p (m ∷ M) =
    let rest = stepped-goes_on (output_step p m.token m.line) M in
    record {
      more = added_by p.in_text m.token m.line ++ rest.more;
      parts = rest.parts ∙ ap (λ l. l ++ rest.more) (step-goes_on p m.token m.line) ∙ append_assoc p.lines (added_by p.in_text m.token m.line) rest.more;
    }

-- lines that are more than others
pub record IsLonger (lines before : List ℕ) : Type 0 where
  pub more : List ℕ
  pub some : 0 < length more
  pub parts : lines ≡ before ++ more

end-adds : (in_text : Bool) (line : ℕ) → 0 < length (added_by in_text End line)
unfolding added_by printed_line line_with_number
end-adds true line = omega arith
end-adds false line = omega arith

stepped-longer : (p : Output) (M : List Message) (line : ℕ) → IsLonger (stepped output_step p (M ++ record { token = End; line = line } ∷ [])).lines p.lines
unfolding stepped
stepped-longer p M line =
    let q = stepped output_step p M in
    let rest = stepped-goes_on p M in
    let added = added_by q.in_text End line in
    record {
      more = rest.more ++ added;
      some = omega (arith, end-adds q.in_text line, length-append rest.more added);
      parts = ap (λ (r : Output). r.lines) (stepped-append output_step p M (record { token = End; line = line } ∷ []))
          ∙ step-goes_on q End line ∙ ap (λ l. l ++ added) rest.parts ∙ append_assoc p.lines rest.more added;
    }

-- ---- the end of a text, read anew

nothing-normalised : (I : Input) → normalised I [] ≡ []
unfolding normalised without_dropped_first with_line_feeds
nothing-normalised I = refl

end-line : (I : Input) (X : List ℕ) → line_after (input_after I X) (normalised (input_after I X) []) ≡ line_after I (normalised I X)
end-line I X = ap (line_after (input_after I X)) (nothing-normalised (input_after I X)) ∙ input_after-line_none I X ∙ sym (line_after-lines_past I [] (normalised I X))

module _ (R : Rules) (K : Start) where
  -- a reading is what the text decides, and what the end tells then
  whole-parts : (p : Output) (X : List ℕ)
      → all_messages printer_means R K p X
      ≡ messages_so_far printer_means R K p X ++ on_line (line_after K.input (normalised K.input X)) (tokens_at_end R (start_after printer_means R K p X).opened)
  whole-parts p X =
      ap (λ E. messages E) (reading-events output_step output_reply output_foreign R K p X)
      ∙ messages-append (told output_step output_reply output_foreign R K p X) (end_events output_step output_reply output_foreign R K (read output_step output_reply output_foreign R K p X).opened (normalised K.input X))
      ∙ ap (λ M. messages_so_far printer_means R K p X ++ M) (messages-at_end output_step output_reply output_foreign R K p X)

  whole-nothing : (p : Output)
      → all_messages printer_means R K p [] ≡ on_line (line_after K.input (normalised K.input [])) (tokens_at_end R K.opened)
  whole-nothing p =
      whole-parts p []
      ∙ ap (λ M. M ++ on_line (line_after K.input (normalised K.input [])) (tokens_at_end R (start_after printer_means R K p []).opened)) (told-nil output_step output_reply output_foreign R K p)
      ∙ ap (λ (P : Start). on_line (line_after K.input (normalised K.input [])) (tokens_at_end R P.opened)) (after-nil output_step output_reply output_foreign R K p)

-- ---- an output of which a front was written

module _ (R : Rules) (K : Start) (p : Output) (text : List ℕ) where
  -- the start after the text
  abbrev begins : Start
  begins = start_after printer_means R K p text

  module _ (front : List ℕ) (q : Output) (is_told : after_bytes front q ≡ state_after printer_means R K p text) where
    pub further-output : (piece : List ℕ) → after_bytes front (state_after printer_means R begins q piece) ≡ state_after printer_means R K p (text ++ piece)
    further-output piece =
        sym (
        state_beyond-append printer_means R K p text piece
        ∙ ap (λ s. state_after printer_means R begins s piece) (sym is_told)
        ∙ ap (λ M. stepped output_step (after_bytes front q) M) (told-same R begins (after_bytes front q) q piece refl)
        ∙ stepped-after front q (messages_so_far printer_means R begins q piece)
        )

    pub further-start : (piece : List ℕ) → start_after printer_means R begins q piece ≡ start_after printer_means R K p (text ++ piece)
    further-start piece =
        sym (
        after-append output_step output_reply output_foreign R K p text piece
        ∙ ap (λ s. start_after printer_means R begins s piece) (sym is_told)
        ∙ start-same R begins (after_bytes front q) q piece refl
        )

    -- what is left is ended as the whole is
    pub ended-output : after_bytes front (state_at_end printer_means R begins q []) ≡ state_at_end printer_means R K p text
    ended-output =
        let E : List Message = on_line (line_after K.input (normalised K.input text)) (tokens_at_end R begins.opened) in
        let ends : all_messages printer_means R begins q [] ≡ E = whole-nothing R begins q ∙ ap (λ line. on_line line (tokens_at_end R begins.opened)) (end-line K.input text) in
        ap (λ M. after_bytes front (stepped output_step q M)) ends
        ∙ sym (stepped-after front q E)
        ∙ ap (λ s. stepped output_step s E) is_told
        ∙ sym (ap (stepped output_step p) (whole-parts R K p text) ∙ stepped-append output_step p (messages_so_far printer_means R K p text) E)

  -- after the whole reading of a text there is more on the output than what a prefix of the text decides
  pub decided-short : (rest : List ℕ) → IsLonger (state_at_end printer_means R K p (text ++ rest)).lines (state_after printer_means R K p text).lines
  decided-short rest =
      let s : Output = state_after printer_means R K p text in
      let front : List Message = messages_so_far printer_means R K p text in
      let beyond : List Message = messages_so_far printer_means R begins s rest in
      let ends = end-is_last R K p (text ++ rest) in
      let end : List Message = record { token = End; line = ends.line } ∷ [] in
      let parts : all_messages printer_means R K p (text ++ rest) ≡ front ++ ((beyond ++ ends.late) ++ end) =
      ends.parts
      ∙ ap (λ M. M ++ (ends.late ++ end)) (told-append output_step output_reply output_foreign R K p text rest)
      ∙ append_assoc front beyond (ends.late ++ end)
      ∙ ap (λ M. front ++ M) (sym (append_assoc beyond ends.late end)) in
      let longer = stepped-longer s (beyond ++ ends.late) ends.line in
      record {
        more = longer.more;
        some = longer.some;
        parts = ap (λ M. (stepped output_step p M).lines) parts
            ∙ ap (λ (r : Output). r.lines) (stepped-append output_step p front ((beyond ++ ends.late) ++ end))
            ∙ longer.parts;
      }
