use Rattle.std.proofs.Common.{◌≡◌, ◌∙◌, ap, sym, subst}
use Rattle.std.specs.Str.{IsUtf8, chars}
use Rattle.std.specs.Str.Iter.{chars_rest}
use Rattle.std.proofs.lemmas.List.{nil_from_length}
use Rattle.std.proofs.lemmas.Str.{IsUtf8-past_char, chars-nil, chars_past_char}
use Rattle.html5places.proofs.TextLoop.{read-all, read-more, read-none, read-stopped}
use Rattle.html5places.proofs.reading.read_text.Goals as goal

pub loop-c-init : goal.loop-c-init
loop-c-init g c =
    let all : chars_rest c.into_iter-c-iterator.result ≡ c.args.text.now = ap chars_rest c.into_iter-c-iterator.ensures.into_iter_gives ∙ c.chars-c-items.ensures.rest in
    (tt, tt, subst IsUtf8 (sym all) c.utf8.text, read-none g.H.PlacedHandler.step c.args.tokenizer.now (g.H.PlacedHandler.state c.args.handler.now) c.args.text.now _ c.requires.nothing_kept all, c.requires.going_on, c.requires.not_failed, c.requires.nothing_waits)

pub loop-c-preserved : goal.loop-c-preserved
loop-c-preserved g c =
    let before = chars_rest c.loop-c.c-iterator in
    let after = chars_rest c.next.new.self in
    let first = c.in-Some.ensures.steps.0 in
    let utf8 : IsUtf8 before = c.loop-c.invariant.2 in (
      tt,
      tt,
      IsUtf8-past_char before after c.in-Some.c utf8 first,
      read-more g.H.PlacedHandler.step c.args.tokenizer.now c.loop-c.tokenizer c.read_character.new.tokenizer
          (g.H.PlacedHandler.state c.args.handler.now) (g.H.PlacedHandler.state c.loop-c.handler) (g.H.PlacedHandler.state c.read_character.new.handler)
          c.args.text.now before after c.in-Some.c c.loop-c.invariant.3 (chars_past_char before after c.in-Some.c utf8 first) first
          c.in-Ok.ensures.reads c.in-Ok.ensures.rules c.in-Ok.ensures.nothing_kept,
      c.in-Ok.ensures.going_on,
      c.in-Ok.ensures.not_failed,
      c.in-Ok.ensures.nothing_waits,
    )

pub returns-in-Err-clause-stops : goal.returns-in-Err-clause-stops
returns-in-Err-clause-stops g c =
    let before = chars_rest c.loop-c.c-iterator in
    let after = chars_rest c.next.new.self in
    let utf8 : IsUtf8 before = c.loop-c.invariant.2 in
    read-stopped g.H.PlacedHandler.step c.args.tokenizer.now c.loop-c.tokenizer
    (g.H.PlacedHandler.state c.args.handler.now) (g.H.PlacedHandler.state c.loop-c.handler) (g.H.PlacedHandler.state c.read_character.new.handler)
    c.args.text.now before after c.in-Some.c c.loop-c.invariant.3 (chars_past_char before after c.in-Some.c utf8 c.in-Some.ensures.steps.0) c.in-Err.ensures.stops

pub returns-clause-reads : goal.returns-clause-reads
returns-clause-reads g c =
    let none = nil_from_length (chars_rest c.loop-c.c-iterator) c.in-None.ensures.steps.0.0 in
    read-all g.H.PlacedHandler.step c.args.tokenizer.now c.loop-c.tokenizer (g.H.PlacedHandler.state c.args.handler.now) (g.H.PlacedHandler.state c.loop-c.handler)
    c.args.text.now (chars_rest c.loop-c.c-iterator) c.loop-c.invariant.3 (ap chars none ∙ chars-nil)
