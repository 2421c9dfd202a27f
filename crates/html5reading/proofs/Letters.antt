-- Kinds of characters: a letter is not of another kind.
use Rattle.std.proofs.Common.{◌≡◌, ℕ, Bool, true, false, refl, ap, sym, ◌∙◌}
use Rattle.std.specs.Prelude.{◌==◌}
use Rattle.std.proofs.lemmas.Bool.{eqb-true, false_from_ne_true, false≢true}
use Rattle.html5reading.specs.Characters.{tab, line_feed, form_feed, space, solidus, greater_than, is_letter, is_white_space, null}
use Rattle.html5reading.specs.Tag.{in_tag_name}

-- a character of a kind is not of another
pub is_not : (is_kind : ℕ → Bool) (c d : ℕ) → is_kind d ≡ false → is_kind c ≡ true → (c == d) ≡ false
is_not is_kind c d other member =
    false_from_ne_true (c == d) (λ e. false≢true (sym other ∙ sym (ap is_kind (eqb-true c d e)) ∙ member))

pub letter-in_tag_name : (c : ℕ) → is_letter c ≡ true → in_tag_name c ≡ true
unfolding in_tag_name is_white_space is_letter
letter-in_tag_name c h =
    rw (is_not is_letter c tab refl h, is_not is_letter c line_feed refl h, is_not is_letter c form_feed refl h, is_not is_letter c space refl h, is_not is_letter c solidus refl h, is_not is_letter c greater_than refl h) refl

pub letter-no_null : (c : ℕ) → is_letter c ≡ true → (c == null) ≡ false
unfolding is_letter
letter-no_null c h = is_not is_letter c null refl h

pub letter-no_solidus : (c : ℕ) → is_letter c ≡ true → (c == solidus) ≡ false
unfolding is_letter
letter-no_solidus c h = is_not is_letter c solidus refl h
