-- The opening of a value in double quotes.
use Rattle.std.proofs.Common.{ℕ, List, refl}
use Rattle.std.specs.Str.{IsUtf8}
use Rattle.html5ever_interface.specs.declared.states.AttrValueKind.TheVariants.{DoubleQuoted}
use Rattle.html5reading.specs.Characters.{equals_sign, quotation_mark, is_white_space}
use Rattle.html5reading.specs.Machine.{step_at, tag_step, attribute_name_step, before_value_step}
use Rattle.html5reading.specs.Start.{OpenTag}
use Rattle.html5reading.specs.Start.Open.{InTag}
use Rattle.html5reading.specs.Start.Place.{InAttributeName, BeforeValue, InValue}
use Rattle.html5reading.specs.Tag.{in_attribute_name}
use Rattle.html5fast_path.specs.Quiet.{BeginsValue, IsQuiet, ReadsFront}
use Rattle.html5fast_path.proofs.Beginnings.{front-append, front-one}

quiet-equals : (tag : OpenTag) → IsQuiet (InTag InAttributeName tag) (InTag BeforeValue tag) equals_sign
unfolding step_at tag_step attribute_name_step in_attribute_name is_white_space
quiet-equals tag = record { decided = refl; steps = refl; no_line_feed = λ e. absurd cc; no_carriage_return = λ e. absurd cc }

quiet-quotation_mark : (tag : OpenTag) → IsQuiet (InTag BeforeValue tag) (InTag (InValue DoubleQuoted) tag) quotation_mark
unfolding step_at tag_step before_value_step is_white_space
quiet-quotation_mark tag = record { decided = refl; steps = refl; no_line_feed = λ e. absurd cc; no_carriage_return = λ e. absurd cc }

pub reads-opening : (text : List ℕ) (tag : OpenTag) → IsUtf8 text → BeginsValue text → ReadsFront text 2 (InTag InAttributeName tag) (InTag (InValue DoubleQuoted) tag)
reads-opening text tag utf8 begins =
    front-append text 1 1 (InTag InAttributeName tag) (InTag BeforeValue tag) (InTag (InValue DoubleQuoted) tag) utf8
    (front-one text equals_sign (InTag InAttributeName tag) (InTag BeforeValue tag) begins.equals (quiet-equals tag))
    (front-one _ quotation_mark (InTag BeforeValue tag) (InTag (InValue DoubleQuoted) tag) begins.quotes (quiet-quotation_mark tag))
