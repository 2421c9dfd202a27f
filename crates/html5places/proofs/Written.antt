-- That each token of markup stands where its item is written.
use Rattle.std.proofs.Common.{◌≡◌, ℕ, false, true, List, [], ◌∷◌, ◌++◌, refl, ap, sym, ◌∙◌, subst}
use Rattle.std.specs.Prelude.{All}
use Rattle.std.proofs.lemmas.List.{append_assoc}
use Rattle.html5ever_interface.specs.Sink.{Message, on_line}
use Rattle.html5grammar.specs.Items.{Item, Unfinished}
use Rattle.html5reading.specs.Characters.{less_than}
use Rattle.html5reading.specs.EndOfInput.{tokens_at_end}
use Rattle.html5reading.specs.NormalisedText.{line_after}
use Rattle.html5reading.specs.Reading.{messages_so_far, start_after}
use Rattle.html5reading.specs.Start.{Rules, Start, nothing_open}
use Rattle.html5reading.proofs.ReadingLemmas.{told-append}
use Rattle.markup5ever.specs.NamedReferences.{IsTable}
use Rattle.html5places.specs.Marks.{Placed, no_marks}
use Rattle.html5places.specs.Placed.{at_first_byte, placed_by, placed_tokens, standard}
use Rattle.html5places.specs.Written.{IsWritten, Stands, start_of_item}
use Rattle.html5places.specs.Written.IsItemOrEnd.{CutOff, Whole}
use Rattle.html5places.proofs.MarkupCharacters.{led, tells}
use Rattle.html5places.proofs.MarkupPlaces.{OpenItem, at, at-more, begins-first}
use Rattle.html5places.proofs.OneItem.{CutItem, WholeItem, closed-item, open-item}
use Rattle.html5places.proofs.Spanning.{Spans, item-ends, item-leads, open-within, spans-closed, spans-open}
use Rattle.html5places.proofs.Standing.{ByCharacter, ByEnd, StandsBy, all-stand, all-stand_by}

module _ (rules : Rules) (table : IsTable rules.references) (K : Start) where
  -- what a character tells of an item that it ends
  item-tells_last : (front more : List ℕ) (c : ℕ) (P : Start) (M : List Message) (m : Message) → OpenItem rules K front more P → tells rules P c ≡ M ++ m ∷ []
      → messages_so_far standard rules (start_of_item rules K front) tt ((less_than ∷ more) ++ c ∷ [])
      ≡ (messages_so_far standard rules (start_of_item rules K front) tt (less_than ∷ more) ++ M) ++ m ∷ []
  item-tells_last front more c P M m opens told =
      let S : Start = start_of_item rules K front in
      let N : List Message = messages_so_far standard rules S tt (less_than ∷ more) in
      told-append standard.step standard.reply standard.foreign rules S tt (less_than ∷ more) (c ∷ [])
      ∙ ap (λ (Q : Start). N ++ tells rules Q c) (item-leads rules K front more P opens)
      ∙ ap (λ l. N ++ l) told
      ∙ sym (append_assoc N M (m ∷ []))

  by_character : ByCharacter rules K [] (IsWritten rules K)
  by_character front more c rest P M m opens within there closes ends told markup =
      let S : Start = start_of_item rules K front in
      let item : List ℕ = (less_than ∷ more) ++ c ∷ [] in
      let spans : Spans rules S true item = spans-closed rules K front more c P opens within closes ends in
      let whole : WholeItem rules table S true item spans = closed-item rules table S item refl spans in
      let leads : start_after standard rules S tt item ≡ start_after standard rules K tt (front ++ item) =
      item-ends rules K front more c P opens
      ∙ ap (λ (Q : Start). led rules Q c) there
      ∙ sym (at-more rules K (front ++ less_than ∷ more) c)
      ∙ ap (at rules K) (append_assoc front (less_than ∷ more) (c ∷ [])) in
      record {
        more = more ++ c ∷ [];
        begins = refl;
        leads = leads;
        within = open-within rules S true item spans;
        is_item = Whole rest (record {
          first = messages_so_far standard rules S tt (less_than ∷ more) ++ M;
          is_item =
              subst (λ (N : List Message). Item standard rules rest S tt item N (start_after standard rules K tt (front ++ item))) (item-tells_last front more c P M m opens told)
              (subst (λ (Q : Start). Item standard rules rest S tt item (messages_so_far standard rules S tt item) Q) leads (whole.item rest));
          closed = ap (λ (Q : Start). nothing_open Q.opened) (sym leads ∙ item-ends rules K front more c P opens) ∙ closes;
        });
      }

  by_end : ByEnd rules K [] (IsWritten rules K)
  by_end front more P errors token opens within there told markup =
      let S : Start = start_of_item rules K front in
      let item : List ℕ = less_than ∷ more in
      let spans : Spans rules S false item = spans-open rules K front more P opens within in
      let cut : CutItem rules table S false item spans = open-item rules table S item refl spans in
      let here : start_after standard rules S tt item ≡ P = item-leads rules K front more P opens in
      record {
        more = more;
        begins = refl;
        leads = here ∙ there;
        within = open-within rules S false item spans;
        is_item = CutOff (record {
          tells = cut.tells;
          first = errors;
          is_item =
              subst (λ (E : List Message). Unfinished standard rules S tt item cut.tells E)
              (sym cut.at_end
              ∙ ap (λ (Q : Start). on_line (line_after Q.input []) (tokens_at_end rules Q.opened)) here
              ∙ ap (on_line (line_after P.input [])) told)
              cut.item;
        });
      }

  stands : (whole : List ℕ) (p : Placed) → StandsBy rules K [] (IsWritten rules K) whole p → Stands rules K whole p
  stands whole p by = record { stands = by.stands; written = by.written }

  pub all-stand_written : (text : List ℕ) → nothing_open K.opened ≡ true → All (Stands rules K text) (placed_tokens rules K text)
  all-stand_written text clean k d lt = stands text _ (all-stand rules K (IsWritten rules K) by_character by_end clean text k d lt)

  -- those of a piece, in the text so far
  pub piece-written : (before text : List ℕ) → nothing_open K.opened ≡ true
      → All (Stands rules K (before ++ text)) (placed_by rules (at_first_byte K) before text)
  piece-written before text clean k d lt =
      stands (before ++ text) _ (all-stand_by rules K [] (IsWritten rules K) by_character by_end no_marks (begins-first K clean) before text k d lt)
