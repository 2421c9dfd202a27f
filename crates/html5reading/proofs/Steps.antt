-- Steps that are another one with more sent first: a character that is reconsumed.
use Rattle.std.proofs.Common.{◌≡◌, ℕ, Bool, true, false, List, [], ◌∷◌, refl, ap, sym}
use Rattle.std.specs.Prelude.{◌==◌, ◌&&◌, ◌||◌, if◌then◌else◌}
use Rattle.std.proofs.lemmas.List.{append-nil}
use Rattle.html5ever_interface.specs.Token.{Told, DoctypeOf}
use Rattle.html5ever_interface.specs.declared.states.DoctypeIdKind.{DoctypeIdKind}
use Rattle.html5ever_interface.specs.declared.states.State.{State}
use Rattle.html5ever_interface.specs.declared.states.State.TheVariants as state
use Rattle.html5reading.specs.Characters.{null, quotation_mark, ampersand, apostrophe, solidus, less_than, greater_than, is_white_space}
use Rattle.html5reading.specs.ErrorText.{error_in, where_true}
use Rattle.html5reading.specs.Reading.{Here}
use Rattle.html5reading.specs.Reading.Here.{Tells, TellsTag}
use Rattle.html5reading.specs.Start.{Raw, OpenTag, Open}
use Rattle.html5reading.specs.Start.Place.{BeforeAttribute, AfterQuotedValue, AfterSolidus}
use Rattle.html5reading.specs.RawText.{is_rcdata}
use Rattle.html5reading.specs.Tag.{place_error, first_error}
use Rattle.html5reading.specs.Machine.{told_first, part_step, data_step, raw_step, bogus_comment_step, skipped_step, wanted_name_step, wanted_identifier_step}

told_first-if : (before : List Told) (test : Bool) (p q p2 q2 : Here Open) → p2 ≡ told_first before p → q2 ≡ told_first before q
    → (if test then p2 else q2) ≡ told_first before (if test then p else q)
told_first-if before true p q p2 q2 e f = e
told_first-if before false p q p2 q2 e f = f

Tells-nil : (before : List Told) (later : Open) → Tells before later ≡ told_first before (Tells [] later)
Tells-nil before later = ap (λ told. Tells told later) (sym (append-nil before))

pub data_step-before : (exact : Bool) (before : List Told) (c : ℕ) → data_step exact before c ≡ told_first before (data_step exact [] c)
unfolding data_step
data_step-before exact before c =
    told_first-if before (c == less_than) _ _ _ _ (Tells-nil before _)
    (told_first-if before (c == ampersand) _ _ _ _ (Tells-nil before _)
    (told_first-if before (c == null) _ _ _ _ refl refl))

pub raw_step-before : (exact : Bool) (raw : Raw) (name : List ℕ) (before : List Told) (c : ℕ) → raw_step exact raw name before c ≡ told_first before (raw_step exact raw name [] c)
unfolding raw_step
raw_step-before exact raw name before c =
    told_first-if before (c == less_than) _ _ _ _ refl (told_first-if before (is_rcdata raw && (c == ampersand)) _ _ _ _ (Tells-nil before _) refl)

pub bogus_comment_step-before : (exact : Bool) (before : List ℕ) (first : List Told) (c : ℕ)
    → bogus_comment_step exact before first c ≡ told_first first (bogus_comment_step exact before [] c)
unfolding bogus_comment_step
bogus_comment_step-before exact before first c = told_first-if first (c == greater_than) _ _ _ _ refl refl

pub skipped_step-before : (exact : Bool) (errors : List Told) (d : DoctypeOf) (c : ℕ) → skipped_step exact errors d c ≡ told_first errors (skipped_step exact [] d c)
unfolding skipped_step
skipped_step-before exact errors d c = told_first-if errors (c == greater_than) _ _ _ _ refl refl

pub wanted_name_step-before : (exact : Bool) (errors : List Told) (d : DoctypeOf) (c : ℕ) → wanted_name_step exact errors d c ≡ told_first errors (wanted_name_step exact [] d c)
unfolding wanted_name_step
wanted_name_step-before exact errors d c = told_first-if errors (c == greater_than) _ _ _ _ refl refl

told_first-none : (h : Here Open) → told_first [] h ≡ h
told_first-none (Tells told later) = refl
told_first-none (TellsTag told tag) = refl

wanted-direct : (p q : Bool) (error : Told) (x y : Open) (z : Here Open)
    → (if p then Tells (where_true true error) x else if q then Tells (where_true true error) y else z)
    ≡ told_first (where_true (p || q) error) (if p then Tells (where_true false error) x else if q then Tells (where_true false error) y else z)
wanted-direct true q error x y z = refl
wanted-direct false true error x y z = refl
wanted-direct false false error x y z = sym (told_first-none z)

-- when no white space stands before an identifier its quote is an error too
pub wanted_identifier_step-direct : (exact : Bool) (named : State) (kind : DoctypeIdKind) (d : DoctypeOf) (c : ℕ)
    → wanted_identifier_step exact true named kind d c
    ≡ told_first (where_true ((c == quotation_mark) || (c == apostrophe)) (error_in exact named c)) (wanted_identifier_step exact false named kind d c)
unfolding wanted_identifier_step
wanted_identifier_step-direct exact named kind d c = wanted-direct (c == quotation_mark) (c == apostrophe) (error_in exact named c) _ _ _

-- after `/` or a quoted value another part is read as before an attribute, after the error of the place
pub part-after_solidus : (exact : Bool) (tag : OpenTag) (c : ℕ) → (c == greater_than) ≡ false
    → part_step exact AfterSolidus tag c ≡ told_first (error_in exact state.SelfClosingStartTag c ∷ []) (part_step exact BeforeAttribute tag c)
unfolding part_step place_error first_error
part-after_solidus exact tag c h =
    let error : List Told = error_in exact state.SelfClosingStartTag c ∷ [] in
    rw h (told_first-if error (is_white_space c) _ _ _ _ refl (told_first-if error (c == solidus) _ _ _ _ refl refl))

pub part-after_quoted : (exact : Bool) (tag : OpenTag) (c : ℕ) → (c == greater_than) ≡ false → (c == solidus) ≡ false → is_white_space c ≡ false
    → part_step exact AfterQuotedValue tag c ≡ told_first (error_in exact state.AfterAttributeValueQuoted c ∷ []) (part_step exact BeforeAttribute tag c)
unfolding part_step place_error first_error
part-after_quoted exact tag c h solid white = rw (h, solid, white) refl
