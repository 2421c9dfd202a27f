-- The first letter of a name, where it tells nothing.
use Rattle.std.proofs.Common.{◌≡◌, ◌≢◌, ℕ, true, false, [], ◌∷◌, refl, sym, ◌∙◌}
use Rattle.std.specs.Prelude.{◌&&◌}
use Rattle.std.proofs.lemmas.Bool.{false≢true, eq-eqb}
use Rattle.html5ever_interface.specs.declared.interface.token.TagKind.TheVariants.{StartTag, EndTag}
use Rattle.html5reading.specs.Characters.{null, tab, line_feed, form_feed, carriage_return, space, quotation_mark, apostrophe, solidus, less_than, equals_sign, greater_than, is_letter, is_white_space}
use Rattle.html5reading.specs.Machine.{step_at, less_than_step, solidus_step, tag_name_step, tag_step, part_step}
use Rattle.html5reading.specs.Start.{OpenTag, begun}
use Rattle.html5reading.specs.Start.Open.{LessThan, LessThanSolidus, InTag}
use Rattle.html5reading.specs.Start.Place.{InName, BeforeAttribute, InAttributeName}
use Rattle.html5reading.specs.Tag.{has_last, repeats_attribute, with_name, with_last_attribute, with_last_name, place_error, first_error, duplicate_error, is_odd_at_name, is_odd_in_name}
use Rattle.html5reading.proofs.Letters.{is_not, letter-in_tag_name, letter-no_null}
use Rattle.html5fast_path.specs.Quiet.{IsQuiet}

letter-is_not : (c d : ℕ) → is_letter d ≡ false → is_letter c ≡ true → c ≢ d
letter-is_not c d other letter = λ e. false≢true (sym (is_not is_letter c d other letter) ∙ eq-eqb c d e)

letter-no_line_feed : (c : ℕ) → is_letter c ≡ true → c ≢ line_feed
unfolding is_letter
letter-no_line_feed c letter = letter-is_not c line_feed refl letter

letter-no_carriage_return : (c : ℕ) → is_letter c ≡ true → c ≢ carriage_return
unfolding is_letter
letter-no_carriage_return c letter = letter-is_not c carriage_return refl letter

pub quiet-start_tag : (c : ℕ) → is_letter c ≡ true → IsQuiet LessThan (InTag InName (with_name (begun StartTag) (c ∷ []))) c
unfolding step_at less_than_step tag_name_step
quiet-start_tag c letter = record {
  decided = refl;
  steps = rw (letter, letter-in_tag_name c letter, letter-no_null c letter) refl;
  no_line_feed = letter-no_line_feed c letter;
  no_carriage_return = letter-no_carriage_return c letter;
}

pub quiet-end_tag : (c : ℕ) → is_letter c ≡ true → IsQuiet LessThanSolidus (InTag InName (with_name (begun EndTag) (c ∷ []))) c
unfolding step_at solidus_step tag_name_step
quiet-end_tag c letter = record {
  decided = refl;
  steps = rw (letter, letter-in_tag_name c letter, letter-no_null c letter) refl;
  no_line_feed = letter-no_line_feed c letter;
  no_carriage_return = letter-no_carriage_return c letter;
}

-- where the attribute before it repeats no name
pub quiet-attribute : (tag : OpenTag) (c : ℕ) → is_letter c ≡ true → (has_last tag && repeats_attribute tag) ≡ false
    → IsQuiet (InTag BeforeAttribute tag) (InTag InAttributeName (with_last_name (with_last_attribute tag) (c ∷ []))) c
unfolding step_at tag_step part_step place_error first_error duplicate_error is_odd_at_name is_odd_in_name is_white_space is_letter
quiet-attribute tag c letter once = record {
  decided = refl;
  steps =
      rw (
        is_not is_letter c greater_than refl letter,
        is_not is_letter c tab refl letter,
        is_not is_letter c line_feed refl letter,
        is_not is_letter c form_feed refl letter,
        is_not is_letter c space refl letter,
        is_not is_letter c solidus refl letter,
        is_not is_letter c null refl letter,
        is_not is_letter c quotation_mark refl letter,
        is_not is_letter c apostrophe refl letter,
        is_not is_letter c less_than refl letter,
        is_not is_letter c equals_sign refl letter,
        once,
      )
      refl;
  no_line_feed = letter-no_line_feed c letter;
  no_carriage_return = letter-no_carriage_return c letter;
}
