use Rattle.std.proofs.Common.{nat_eq, ◌∙◌, ap, sym}
use Rattle.std.specs.Str.{IsUtf8, chars}
use Rattle.std.specs.Str.Iter.{chars_rest}
use Rattle.std.proofs.lemmas.List.{nil_from_length}
use Rattle.std.proofs.lemmas.Str.{IsUtf8-past_char, chars-nil, chars_past_char}
use Rattle.html5places.proofs.Walking.{walk-more, walk-none}
use Rattle.html5places.specs.Positions.{past_characters}
use Rattle.html5reading.specs.NormalisedText.{with_line_feeds}
use Rattle.html5places.proofs.positions.position_after.Goals as goal

pub loop-c-preserved : goal.loop-c-preserved
loop-c-preserved c =
    let here = c.loop-c in
    let before = chars_rest here.c-iterator in
    let after = chars_rest c.next.new.self in
    let first = c.in-Some.ensures.steps.0 in
    let utf8 : IsUtf8 before = here.invariant.2 in
    let split = chars_past_char before after c.in-Some.c utf8 first in (
      tt,
      tt,
      IsUtf8-past_char before after c.in-Some.c utf8 first,
      ap (λ p. past_characters p (with_line_feeds (nat_eq c.in-Some.c 13) (chars after))) c.walked-position.ensures
          ∙ walk-more here.position here.after_cr c.in-Some.c (chars after)
          ∙ ap (λ t. past_characters here.position (with_line_feeds here.after_cr t)) (sym split) ∙ here.invariant.3,
    )

pub returns : goal.returns
returns c =
    let here = c.loop-c in
    let none = nil_from_length (chars_rest here.c-iterator) c.in-None.ensures.steps.0.0 in
    sym (walk-none here.position here.after_cr)
    ∙ ap (λ t. past_characters here.position (with_line_feeds here.after_cr t)) (sym (ap chars none ∙ chars-nil)) ∙ here.invariant.3
