-- When a call found what it was made on over, by what it answered.
use Rattle.std.proofs.Common.{◌≡◌, ◌↔◌, Bool, true, false, Result, Ok, Err, refl, sym, ap, ◌∙◌}
use Rattle.std.proofs.lemmas.Bool.{false≢true}
use Rattle.html5handle.specs.Slots.{is_past}

is_false : (b : Bool) → ¬ (b ≡ true) → b ≡ false
is_false true is_not = absurd (is_not refl)
is_false false is_not = refl

ok_is_no_error : {A E : Type 0} (x : A) (e : E) → ◌≡◌ {A = Result A E} (Ok x) (Err e) → ⊥
ok_is_no_error x e same = cc

same_error : {A E : Type 0} (e f : E) → ◌≡◌ {A = Result A E} (Err e) (Err f) → e ≡ f
same_error e f same = cc

pub over_is : (was : Bool) → was ≡ false → ¬ (was ≡ true)
over_is was going over = false≢true (sym going ∙ over)

-- a call that was answered did not find it so
pub answered_going : {A E : Type 0} (result : Result A E) (x : A) (over : E) (was : Bool) → result ≡ Ok x
    → ((result ≡ Err over) ↔ (was ≡ true)) → was ≡ false
answered_going result x over was is when = is_false was (λ so. ok_is_no_error x over (sym is ∙ when.1 so))

-- the error of a call is this one just where it was so
pub refused_over : {A E : Type 0} (result : Result A E) (error over : E) (was : Bool) → result ≡ Err error
    → ((result ≡ Err over) ↔ (was ≡ true)) → (error ≡ over) ↔ (was ≡ true)
refused_over result error over was is when = (λ same. when.0 (is ∙ ap Err same), λ so. same_error error over (sym is ∙ when.1 so))

pub refused_going : {E : Type 0} (error over : E) (was : Bool) → ((error ≡ over) ↔ (was ≡ true)) → ¬ (error ≡ over) → was ≡ false
refused_going error over was when other = is_false was (λ so. other (when.1 so))

-- ---- the limit

pub not_past : (over fits : Bool) → is_past over fits ≡ false → over ≡ false → fits ≡ true
not_past true fits within going = absurd cc
not_past false true within going = refl
not_past false false within going = absurd cc

pub past : (over fits : Bool) → is_past over fits ≡ true → (over ≡ false) × (fits ≡ false)
past true fits is = absurd cc
past false true is = absurd cc
past false false is = (refl, refl)
