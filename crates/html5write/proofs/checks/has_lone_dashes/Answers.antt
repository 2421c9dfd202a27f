use Rattle.std.proofs.Common.{◌≡◌, false, true, Bool, sym, ap, ◌∙◌, subst}
use Rattle.std.specs.Prelude.{◌&&◌, ◌==◌}
use Rattle.std.specs.Str.{IsUtf8, chars}
use Rattle.std.specs.Str.Iter.{chars_rest}
use Rattle.std.proofs.Math.Bool.{and-false}
use Rattle.std.proofs.lemmas.Bool.{eq-eqb, ne_eqb}
use Rattle.std.proofs.lemmas.List.{nil_from_length}
use Rattle.std.proofs.lemmas.Str.{chars_past_char, IsUtf8-past_char, chars-nil}
use Rattle.html5reading.specs.Characters.{hyphen}
use Rattle.html5write.specs.Pieces.{has_lone_dashes}
use Rattle.html5write.proofs.LoneDashes.{lone_from, lone-next, lone-double, lone-end}
use Rattle.html5write.proofs.checks.has_lone_dashes.Goals as goal
use Rattle.html5write.proofs.checks.has_lone_dashes.Goals.{else-after_dash-via-then-after_dash+else-c-eq45, else-after_dash-via-else-after_dash}

pub loop-c-init : goal.loop-c-init
loop-c-init c =
    let all : chars_rest c.into_iter-c-iterator.result ≡ c.args.text.now = ap chars_rest c.into_iter-c-iterator.ensures.into_iter_gives ∙ c.chars-c-items.ensures.rest in
    (tt, tt, subst IsUtf8 (sym all) c.utf8.text, ap (λ bytes. has_lone_dashes (chars bytes)) (sym all))

pub loop-c-preserved : goal.loop-c-preserved
loop-c-preserved c =
    let before = chars_rest c.loop-c.c-iterator in
    let after = chars_rest c.next.new.self in
    let utf8 : IsUtf8 before = c.loop-c.invariant.2 in
    let dash : Bool = c.loop-c.after_dash in
    let first = c.in-Some.ensures.steps.0 in
    let not_double : (dash && (c.in-Some.c == hyphen)) ≡ false =
    elim c.else-after_dash.branch [
      | else-after_dash-via-then-after_dash+else-c-eq45 w ↦ ap (λ b. dash && b) (ne_eqb c.in-Some.c hyphen w.if-c-eq45.false) ∙ and-false dash
      | else-after_dash-via-else-after_dash w ↦ ap (λ b. b && (c.in-Some.c == hyphen)) w.if-after_dash.false
    ] in (
      tt,
      tt,
      IsUtf8-past_char before after c.in-Some.c utf8 first,
      c.loop-c.invariant.3 ∙ ap (lone_from dash) (chars_past_char before after c.in-Some.c utf8 first) ∙ lone-next dash c.in-Some.c (chars after) not_double,
    )

pub returns-then-c-eq45 : goal.returns-then-c-eq45
returns-then-c-eq45 c =
    let before = chars_rest c.loop-c.c-iterator in
    let after = chars_rest c.next.new.self in
    sym (c.loop-c.invariant.3
    ∙ ap (λ b. lone_from b (chars before)) c.if-after_dash.true
    ∙ ap (lone_from true) (chars_past_char before after c.in-Some.c c.loop-c.invariant.2 c.in-Some.ensures.steps.0)
    ∙ lone-double c.in-Some.c (chars after) (eq-eqb c.in-Some.c hyphen c.if-c-eq45.true))

pub returns : goal.returns
returns c =
    let before = chars_rest c.loop-c.c-iterator in
    sym (c.loop-c.invariant.3
    ∙ ap (lone_from c.loop-c.after_dash) (ap chars (nil_from_length before c.in-None.ensures.steps.0.0) ∙ chars-nil)
    ∙ lone-end c.loop-c.after_dash)
