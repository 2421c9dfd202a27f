use Rattle.std.proofs.Common.{◌≡◌, ◌+◌, ◌∙◌, [], ◌∷◌, true, false, ap, sym, subst, rules}
use Rattle.std.specs.Str.{IsUtf8}
use Rattle.std.specs.Str.Iter.{chars_rest}
use Rattle.std.proofs.lemmas.List.{nil_from_length}
use Rattle.std.proofs.lemmas.Str.{IsUtf8-past_char, chars_past_char}
use Rattle.html5places.specs.Readers.{TellsToken, reading_of}
use Rattle.html5places.proofs.TextLoop.{HasReadQuietly, HasReadToToken, quietly-more, quietly-none, read-stopped, to_end, to_token}
use Rattle.html5places.proofs.reading.read_to_token.Goals as goal

pub loop-c-init : goal.loop-c-init
loop-c-init g c =
    let all : chars_rest c.into_iter-c-iterator.result ≡ c.args.text.now = ap chars_rest c.into_iter-c-iterator.ensures.into_iter_gives ∙ c.chars-c-items.ensures.rest in
    (tt, tt, subst IsUtf8 (sym all) c.utf8.text, quietly-none g.H.PlacedHandler.step c.args.tokenizer.now (g.H.PlacedHandler.state c.args.handler.now) c.args.text.now _ c.requires.nothing_kept all, c.requires.going_on, c.requires.not_failed, c.requires.nothing_waits)

pub loop-c-preserved : goal.loop-c-preserved
loop-c-preserved g c =
    let before = chars_rest c.loop-c.c-iterator in
    let after = chars_rest c.next.new.self in
    let first = c.in-Some.ensures.steps.0 in
    let utf8 : IsUtf8 before = c.loop-c.invariant.2 in
    let none : TellsToken (reading_of c.loop-c.tokenizer) (c.in-Some.c ∷ []) false =
    subst (TellsToken (reading_of c.loop-c.tokenizer) (c.in-Some.c ∷ [])) c.in-Ok-false.field-0-test c.in-Ok-false.ensures.token in (
      tt,
      tt,
      IsUtf8-past_char before after c.in-Some.c utf8 first,
      subst (HasReadQuietly g.H.PlacedHandler.step c.args.tokenizer.now c.read_character.new.tokenizer
          (g.H.PlacedHandler.state c.args.handler.now) (g.H.PlacedHandler.state c.read_character.new.handler) c.args.text.now after)
          (ap (λ n. c.loop-c.count + n) (sym c.len_utf8-count.ensures.value))
          (quietly-more g.H.PlacedHandler.step c.args.tokenizer.now c.loop-c.tokenizer c.read_character.new.tokenizer
          (g.H.PlacedHandler.state c.args.handler.now) (g.H.PlacedHandler.state c.loop-c.handler) (g.H.PlacedHandler.state c.read_character.new.handler)
          c.args.text.now before after c.loop-c.count c.in-Some.c c.loop-c.invariant.3 (chars_past_char before after c.in-Some.c utf8 first) first
          c.in-Ok-false.ensures.reads c.in-Ok-false.ensures.rules c.in-Ok-false.ensures.nothing_kept none),
      c.in-Ok-false.ensures.going_on,
      c.in-Ok-false.ensures.not_failed,
      c.in-Ok-false.ensures.nothing_waits,
    )

pub returns-in-Err-clause-stops : goal.returns-in-Err-clause-stops
returns-in-Err-clause-stops g c =
    let before = chars_rest c.loop-c.c-iterator in
    let after = chars_rest c.next.new.self in
    let utf8 : IsUtf8 before = c.loop-c.invariant.2 in
    read-stopped g.H.PlacedHandler.step c.args.tokenizer.now c.loop-c.tokenizer
    (g.H.PlacedHandler.state c.args.handler.now) (g.H.PlacedHandler.state c.loop-c.handler) (g.H.PlacedHandler.state c.read_character.new.handler)
    c.args.text.now before after c.in-Some.c c.loop-c.invariant.3.has (chars_past_char before after c.in-Some.c utf8 c.in-Some.ensures.steps.0) c.in-Err.ensures.stops

-- up to the character that told a token
pub returns-in-Ok-true : goal.returns-in-Ok-true
returns-in-Ok-true g c =
    let before = chars_rest c.loop-c.c-iterator in
    let after = chars_rest c.next.new.self in
    let first = c.in-Some.ensures.steps.0 in
    let utf8 : IsUtf8 before = c.loop-c.invariant.2 in
    let some : TellsToken (reading_of c.loop-c.tokenizer) (c.in-Some.c ∷ []) true =
    subst (TellsToken (reading_of c.loop-c.tokenizer) (c.in-Some.c ∷ [])) c.in-Ok-true.field-0-test c.in-Ok-true.ensures.token in
    let read : HasReadToToken g.H.PlacedHandler.step c.args.tokenizer.now c.read_character.new.tokenizer
    (g.H.PlacedHandler.state c.args.handler.now) (g.H.PlacedHandler.state c.read_character.new.handler) c.args.text.now
    (c.loop-c.count + c.len_utf8-count.result) =
    subst (HasReadToToken g.H.PlacedHandler.step c.args.tokenizer.now c.read_character.new.tokenizer
    (g.H.PlacedHandler.state c.args.handler.now) (g.H.PlacedHandler.state c.read_character.new.handler) c.args.text.now)
    (ap (λ n. c.loop-c.count + n) (sym c.len_utf8-count.ensures.value))
    (to_token g.H.PlacedHandler.step c.args.tokenizer.now c.loop-c.tokenizer c.read_character.new.tokenizer
    (g.H.PlacedHandler.state c.args.handler.now) (g.H.PlacedHandler.state c.loop-c.handler) (g.H.PlacedHandler.state c.read_character.new.handler)
    c.args.text.now before after c.loop-c.count c.in-Some.c c.utf8.text (IsUtf8-past_char before after c.in-Some.c utf8 first) c.loop-c.invariant.3
    (chars_past_char before after c.in-Some.c utf8 first) first
    c.in-Ok-true.ensures.reads c.in-Ok-true.ensures.rules c.in-Ok-true.ensures.nothing_kept some) in
    record {
      reads = read.reads;
      within = read.within;
      boundary = read.boundary;
      no_token_before = read.no_token_before;
      token_last = read.token_last;
      stops = search rules;
      errors = search rules;
      going_on = c.in-Ok-true.ensures.going_on;
      not_failed = c.in-Ok-true.ensures.not_failed;
      nothing_kept = c.in-Ok-true.ensures.nothing_kept;
      nothing_waits = c.in-Ok-true.ensures.nothing_waits;
      rules = c.in-Ok-true.ensures.rules ∙ c.loop-c.invariant.3.has.rules;
    }

-- up to the end of the text
pub returns-clause-reads : goal.returns-clause-reads
returns-clause-reads g c =
    (to_end g.H.PlacedHandler.step c.args.tokenizer.now c.loop-c.tokenizer (g.H.PlacedHandler.state c.args.handler.now) (g.H.PlacedHandler.state c.loop-c.handler)
    c.args.text.now (chars_rest c.loop-c.c-iterator) c.loop-c.count c.utf8.text c.loop-c.invariant.2 c.loop-c.invariant.3
    (nil_from_length (chars_rest c.loop-c.c-iterator) c.in-None.ensures.steps.0.0)).reads

pub returns-clause-no_token_before : goal.returns-clause-no_token_before
returns-clause-no_token_before g c =
    (to_end g.H.PlacedHandler.step c.args.tokenizer.now c.loop-c.tokenizer (g.H.PlacedHandler.state c.args.handler.now) (g.H.PlacedHandler.state c.loop-c.handler)
    c.args.text.now (chars_rest c.loop-c.c-iterator) c.loop-c.count c.utf8.text c.loop-c.invariant.2 c.loop-c.invariant.3
    (nil_from_length (chars_rest c.loop-c.c-iterator) c.in-None.ensures.steps.0.0)).no_token_before
