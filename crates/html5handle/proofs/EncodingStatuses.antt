-- What a call that sets the encoding did, by the status that it answers.
use Rattle.std.proofs.Common.{◌≡◌, ℕ, true, false, List, Option, None, Some, refl, inl, inr, arith}
use Rattle.html5handle.proofs.Going.{over_is}
use Rattle.html5handle.specs.Encodings.{EncodingSays, decoding, said_by}
use Rattle.html5encodings.specs.declared.encoding.Encoding.{Encoding}
use Rattle.html5session.specs.Intake.{IsUnbegun}
use Rattle.html5session.specs.Session.{SessionOf, is_over}

-- a label that says something and says nothing
says_both : (said : Option Encoding) (by : Option (Option Encoding)) → by ≡ Some said → by ≡ None → ⊥
says_both said by some none = absurd (cc (some, none))

module _ {X : Type 0} (old new : SessionOf X) (label : List ℕ) where
  pub says-over : is_over old ≡ true → new ≡ old → EncodingSays old new label 7
  says-over was same = record {
    done = λ e. absurd (omega (arith, e));
    refused = λ _. same;
    over = (λ _. was, λ _. refl);
    begun = (λ e. absurd (omega (arith, e)), λ is. absurd (over_is (is_over old) is.0 was));
    bad_option = (λ e. absurd (omega (arith, e)), λ is. absurd (over_is (is_over old) is.0 was));
    only = inr (inl refl);
  }

  pub says-begun : is_over old ≡ false → ¬ (IsUnbegun old.intake) → new ≡ old → EncodingSays old new label 15
  says-begun going begun same = record {
    done = λ e. absurd (omega (arith, e));
    refused = λ _. same;
    over = (λ e. absurd (omega (arith, e)), λ was. absurd (over_is (is_over old) going was));
    begun = (λ _. (going, begun), λ _. refl);
    bad_option = (λ e. absurd (omega (arith, e)), λ is. absurd (begun is.1));
    only = inr (inr (inr refl));
  }

  pub says-bad_option : is_over old ≡ false → IsUnbegun old.intake → said_by label ≡ None → new ≡ old → EncodingSays old new label 9
  says-bad_option going unbegun none same = record {
    done = λ e. absurd (omega (arith, e));
    refused = λ _. same;
    over = (λ e. absurd (omega (arith, e)), λ was. absurd (over_is (is_over old) going was));
    begun = (λ e. absurd (omega (arith, e)), λ is. absurd (is.1 unbegun));
    bad_option = (λ _. (going, unbegun, none), λ _. refl);
    only = inr (inr (inl refl));
  }

  pub says-done : (said : Option Encoding) → is_over old ≡ false → IsUnbegun old.intake → said_by label ≡ Some said → new ≡ decoding old said
      → EncodingSays old new label 0
  says-done said going unbegun by is = record {
    done = λ _. (said, by, is);
    refused = λ other. absurd (other refl);
    over = (λ e. absurd (omega (arith, e)), λ was. absurd (over_is (is_over old) going was));
    begun = (λ e. absurd (omega (arith, e)), λ is. absurd (is.1 unbegun));
    bad_option = (λ e. absurd (omega (arith, e)), λ is. absurd (says_both said (said_by label) by is.2));
    only = inl refl;
  }
