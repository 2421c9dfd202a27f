-- What an intake takes by the decoder of a page.
use Rattle.std.proofs.Common.{◌≡◌, ℕ, Bool, true, false, List, [], Option, None, Some, refl, sym, ap, ◌∙◌}
use Rattle.std.specs.Str.{IsUtf8}
use Rattle.html5session.specs.Intake.{IntakeOf, IsUnbegunBy, TakesPiece, gains}
use Rattle.html5session.specs.Intake.Piece.{Bytes, TheEnd}
use Rattle.html5session.specs.Intake.TakesBytes.{InPage}
use Rattle.html5session.specs.Intake.TakesRest.{NoRest, Rest}
use Rattle.html5sniffing.specs.PageDecoding.{GoesOn, PageDecoding, anew, text_with}
use Rattle.markup5ever.specs.NamedReferences.{NamedReference}

-- where a page is decoded no fault is to be said
pub silent_in : (fault : Bool) (page : Option PageDecoding) (d : PageDecoding) → (fault ≡ true → page ≡ None) → page ≡ Some d → fault ≡ false
silent_in false page d never is = refl
silent_in true page d never is = absurd (none_some page d (never refl) is) where
  none_some : (page : Option PageDecoding) (d : PageDecoding) → page ≡ None → page ≡ Some d → ⊥
  none_some page d none some = absurd (cc (none, some))

-- when no byte was taken no fault is to be reported
pub silent_before : (fault : Bool) (page : Option PageDecoding) (i : IntakeOf) → i.fault ≡ fault → (fault ≡ true → page ≡ None) → IsUnbegunBy page i → fault ≡ false
silent_before fault None i is never unbegun = sym is ∙ unbegun.no_fault
silent_before fault (Some d) i is never unbegun = silent_in fault (Some d) d never refl

-- an intake `s` that is seen as `t`

pub takes_page : (references : List NamedReference) (s t new : IntakeOf) (d e : PageDecoding) (bytes text : List ℕ) → s ≡ t → s.page ≡ Some d
    → s.fault ≡ false → GoesOn references d e bytes text → IsUtf8 text → new ≡ gains (record s { page = Some e }) text
    → TakesPiece references t new (Bytes bytes)
takes_page references s t new d e bytes text same was silent goes utf8 is = record {
  text = text;
  takes = InPage d e (sym (ap (λ (i : IntakeOf). i.page) same) ∙ was) (sym (ap (λ (i : IntakeOf). i.fault) same) ∙ silent) goes utf8
      (is ∙ ap (λ (i : IntakeOf). record (gains i text) { page = Some e }) same);
}

pub takes_rest : (references : List NamedReference) (s t new : IntakeOf) (d e : PageDecoding) (text : List ℕ) → s ≡ t → s.page ≡ Some d
    → s.fault ≡ false → text ≡ text_with references d [] → e ≡ anew references d → IsUtf8 text → new ≡ gains (record s { page = Some e }) text
    → TakesPiece references t new TheEnd
takes_rest references s t new d e text same was silent rest ends utf8 is = record {
  text = text;
  takes = Rest d (sym (ap (λ (i : IntakeOf). i.page) same) ∙ was) (sym (ap (λ (i : IntakeOf). i.fault) same) ∙ silent) rest utf8
      (is ∙ ap (λ (p : PageDecoding). gains (record s { page = Some p }) text) ends
      ∙ ap (λ (i : IntakeOf). record (gains i text) { page = Some (anew references d) }) same);
}

pub takes_none : (references : List NamedReference) (i : IntakeOf) → i.page ≡ None → TakesPiece references i i TheEnd
takes_none references i utf8 = record { text = []; takes = NoRest utf8 refl refl }
