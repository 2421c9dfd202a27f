-- The machine inside one CDATA section.
use Rattle.std.proofs.Common.{◌≡◌, ℕ, Bool, true, false, List, [], ◌∷◌, ◌++◌, refl, ap, sym, ◌∙◌}
use Rattle.std.specs.Prelude.{◌==◌, ◌||◌, ◌&&◌, if◌then◌else◌, not, codes}
use Rattle.std.specs.List.{list_all}
use Rattle.std.proofs.lemmas.Bool.{false≢true, eqb-true, and_parts, not-true, false_from_ne_true}
use Rattle.std.proofs.lemmas.List.{append_assoc, append-nil}
use Rattle.html5reading.specs.Characters.{null, greater_than}
use Rattle.html5reading.specs.Cdata.{open_cdata, ends_cdata}
use Rattle.html5reading.specs.Comment.{ends_in, without_last}
use Rattle.html5reading.specs.RawText.{texts}
use Rattle.html5grammar.specs.Cdata.{WrittenCdata, is_piece, is_written, spell_null, spell_pieces, spell_end, spell_cdata, open_after_cdata}
use Rattle.html5grammar.specs.Comment.{occurs}
use Rattle.html5grammar.specs.Spelled.{spell_silent}
use Rattle.html5reading.specs.Reading.Here.{Tells}
use Rattle.html5reading.specs.Start.Mode.{Data, Cdata}
use Rattle.html5reading.specs.Start.Open.{Between, InCdata}
use Rattle.html5reading.specs.Machine.{step_at, cdata_step}
use Rattle.html5grammar.proofs.Comment.Steps.{occurs-append}
use Rattle.html5reading.proofs.TextEnds.{ends_in-front, ends_in-append, without_last-append}
use Rattle.html5grammar.proofs.Goes.{Goes, Goes-append, Goes-one}

open_cdata-push : (held : List ℕ) (b : ℕ) → InCdata (held ++ b ∷ []) ≡ open_cdata (held ++ b ∷ [])
open_cdata-push [] b = refl
open_cdata-push (a ∷ held) b = refl

-- no `>` of a piece ends the section
ends-none : (piece before rest : List ℕ) → occurs (codes "]]>") piece ≡ false → piece ≡ before ++ greater_than ∷ rest → ends_cdata before ≡ false
unfolding ends_cdata
ends-none piece before rest none split =
    false_from_ne_true (ends_in before (codes "]]")) (λ e. false≢true (sym none
    ∙ ap (occurs (codes "]]>")) (split ∙ ap (λ l. l ++ greater_than ∷ rest) (ends_in-front before (codes "]]") e)
    ∙ append_assoc (without_last 2 before) (codes "]]") (greater_than ∷ rest))
    ∙ occurs-append (codes "]]>") (without_last 2 before) 0x5D (0x5D ∷ greater_than ∷ rest) refl))

module _ (exact : Bool) where
  step-open : (held : List ℕ) (c : ℕ) → step_at exact (open_cdata held) c ≡ cdata_step held c
  unfolding step_at
  step-open [] c = refl
  step-open (b ∷ held) c = refl

  -- a character of a piece is held
  step-held : (piece before : List ℕ) (c : ℕ) (rest : List ℕ) → (c == null) ≡ false → occurs (codes "]]>") piece ≡ false → piece ≡ before ++ c ∷ rest
      → step_at exact (open_cdata before) c ≡ Tells [] (open_cdata (before ++ c ∷ []))
  unfolding cdata_step
  step-held piece before c rest other none split =
      let goes_on : (t : Bool) → (c == greater_than) ≡ t → (t && ends_cdata before) ≡ false =
      λ t. elim t as (λ b. (c == greater_than) ≡ b → (b && ends_cdata before) ≡ false) [
        | true ↦ λ e. ends-none piece before rest none (split ∙ ap (λ d. before ++ d ∷ rest) (eqb-true c greater_than e))
        | false ↦ λ e. refl
      ] in
      step-open before c ∙ rw (goes_on (c == greater_than) refl, other) (ap (λ opened. Tells [] opened) (open_cdata-push before c))

  goes-held : (piece before rest : List ℕ) → list_all (λ c. not (c == null)) rest ≡ true → occurs (codes "]]>") piece ≡ false → piece ≡ before ++ rest
      → Goes exact (open_cdata before) (spell_silent rest) (open_cdata piece)
  unfolding Goes
  goes-held piece before [] all none split = ap open_cdata (sym (split ∙ append-nil before))
  goes-held piece before (c ∷ rest) all none split =
      let p = and_parts (not (c == null)) (list_all (λ d. not (d == null)) rest) all in (
        open_cdata (before ++ c ∷ []),
        step-held piece before c rest (not-true (c == null) p.0) none split,
        goes-held piece (before ++ c ∷ []) rest p.1 none (split ∙ sym (append_assoc before (c ∷ []) rest)),
      )

  goes-piece : (piece : List ℕ) → is_piece piece ≡ true → Goes exact (Between Cdata) (spell_silent piece) (open_cdata piece)
  unfolding is_piece
  goes-piece piece h =
      let p = and_parts (list_all (λ c. not (c == null)) piece) (not (occurs (codes "]]>") piece)) h in
      goes-held piece [] piece p.0 (not-true (occurs (codes "]]>") piece) p.1) refl

  goes-null : (piece : List ℕ) → Goes exact (open_cdata piece) (spell_null piece) (Between Cdata)
  unfolding cdata_step
  goes-null piece = Goes-one exact (open_cdata piece) (Between Cdata) null _ (step-open piece null)

  pub goes-pieces : (pieces : List (List ℕ)) → list_all is_piece pieces ≡ true → Goes exact (Between Cdata) (spell_pieces pieces) (Between Cdata)
  unfolding spell_pieces Goes
  goes-pieces [] h = refl
  goes-pieces (piece ∷ pieces) h =
      let p = and_parts (is_piece piece) (list_all is_piece pieces) h in
      Goes-append exact (Between Cdata) (Between Cdata) (Between Cdata) (spell_silent piece ++ spell_null piece) (spell_pieces pieces)
      (Goes-append exact (Between Cdata) (open_cdata piece) (Between Cdata) (spell_silent piece) (spell_null piece) (goes-piece piece p.0) (goes-null piece))
      (goes-pieces pieces p.1)

  -- `]]>` tells the text without its brackets
  step-bracket : (held : List ℕ) → step_at exact (open_cdata held) 0x5D ≡ Tells [] (open_cdata (held ++ 0x5D ∷ []))
  unfolding cdata_step
  step-bracket held = step-open held 0x5D ∙ ap (λ opened. Tells [] opened) (open_cdata-push held 0x5D)

  step-end : (held : List ℕ) → step_at exact (open_cdata (held ++ codes "]]")) greater_than ≡ Tells (texts held) (Between Data)
  unfolding cdata_step ends_cdata
  step-end held =
      step-open (held ++ codes "]]") greater_than
      ∙ rw (ends_in-append held (codes "]]")) (ap (λ l. Tells (texts l) (Between Data)) (without_last-append held (codes "]]")))

  goes-brackets : (held : List ℕ) → Goes exact (open_cdata held) (spell_silent (codes "]]")) (open_cdata (held ++ codes "]]"))
  unfolding Goes
  goes-brackets held = (
    open_cdata (held ++ codes "]"),
    step-bracket held,
    (open_cdata ((held ++ codes "]") ++ codes "]"), step-bracket (held ++ codes "]"), ap open_cdata (append_assoc held (codes "]") (codes "]"))),
  )

  goes-end : (last : List ℕ) (is_ended : Bool)
      → Goes exact (open_cdata last) (spell_end is_ended last) (if is_ended then Between Data else open_cdata last)
  unfolding Goes
  goes-end last true =
      Goes-append exact (open_cdata last) (open_cdata (last ++ codes "]]")) (Between Data) (spell_silent (codes "]]")) (record { character = greater_than; told = texts last } ∷ [])
      (goes-brackets last)
      (Goes-one exact (open_cdata (last ++ codes "]]")) (Between Data) greater_than (texts last) (step-end last))
  goes-end last false = refl

  -- the whole section after its opening
  pub goes-cdata : (foreign : Bool) (cdata : WrittenCdata) → is_written foreign cdata ≡ true
      → Goes exact (Between Cdata) (spell_cdata cdata) (open_after_cdata cdata)
  unfolding is_written
  goes-cdata foreign cdata h =
      let p = and_parts (not cdata.has_opening || foreign) (list_all is_piece cdata.pieces && is_piece cdata.last) h in
      let q = and_parts (list_all is_piece cdata.pieces) (is_piece cdata.last) p.1 in
      Goes-append exact (Between Cdata) (Between Cdata) (open_after_cdata cdata) (spell_pieces cdata.pieces) (spell_silent cdata.last ++ spell_end cdata.is_ended cdata.last)
      (goes-pieces cdata.pieces q.0)
      (Goes-append exact (Between Cdata) (open_cdata cdata.last) (open_after_cdata cdata) (spell_silent cdata.last) (spell_end cdata.is_ended cdata.last)
      (goes-piece cdata.last q.1) (goes-end cdata.last cdata.is_ended))
