-- What saying a line leaves.
use Rattle.std.proofs.Common.{◌≡◌, ℕ, List, [], length, Option, None, Some, Result, Ok, Err, sym, ap, ◌∙◌, subst, arith}
use Rattle.std.specs.Prelude.{IfSome, OnOk, OnErr}
use Rattle.std.specs.Io.KnownBytes.{Appends}
use Rattle.std.proofs.lemmas.List.{append-nil, take_all}
use Rattle.devices.specs.Device.{AppendsBeginning}
use Rattle.html5programs.specs.Messages.{SaysLine, message}

appends-none : (known : Option (List ℕ)) → Appends known known []
appends-none None = tt
appends-none (Some xs) = sym (append-nil xs)

module _ {E : Type 0} (contents : E → Option (List ℕ)) (program what : List ℕ) where
  -- if there was no memory for the line, nothing was said
  pub says-nothing : (target : E) (why : Option (List ℕ)) → IfSome why (λ why. SaysLine contents target target (message program what why))
  says-nothing target None = tt
  says-nothing target (Some why) = (0, omega arith, appends-none (contents target))

  -- where it was written, or a prefix of it was
  says-written : {A B : Type 0} (before after : E) (line : List ℕ) (r : Result A B)
      → OnOk r (Appends (contents before) (contents after) line) → OnErr r (AppendsBeginning (contents before) (contents after) line)
      → SaysLine contents before after line
  says-written before after line (Ok x) all part =
      (length line, omega arith, subst (Appends (contents before) (contents after)) (sym (take_all (length line) line (omega arith))) all)
  says-written before after line (Err e) all part = (part.0, omega (arith, part.1), part.2)

  pub says-line : {A B : Type 0} (before after : E) (line bytes : List ℕ) (r : Result A B) (why : Option (List ℕ)) → bytes ≡ line
      → OnOk r (Appends (contents before) (contents after) bytes) → OnErr r (AppendsBeginning (contents before) (contents after) bytes)
      → IfSome why (λ why. line ≡ message program what why) → IfSome why (λ why. SaysLine contents before after (message program what why))
  says-line before after line bytes r None same all part is = tt
  says-line before after line bytes r (Some why) same all part is =
      subst (SaysLine contents before after) (same ∙ is) (says-written before after bytes r all part)

-- the line of a reason that was written
pub reason-line : (program what line text : List ℕ) (why : Option (List ℕ)) → IfSome why (λ bytes. text ≡ bytes) → line ≡ message program what text
    → IfSome why (λ why. line ≡ message program what why)
reason-line program what line text None said is = tt
reason-line program what line text (Some why) said is = is ∙ ap (message program what) said
