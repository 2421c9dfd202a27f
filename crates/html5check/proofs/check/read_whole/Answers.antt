use Rattle.std.proofs.Common.{◌≡◌, ◌++◌, ◌<◌, ◌^◌, ◌∙◌, ap, arith, length, rules, string_bytes, subst, vec_len}
use Rattle.std.proofs.lemmas.List.{length-append}
use Rattle.std.proofs.lemmas.Str.{IsUtf8-string_bytes}
use Rattle.std.specs.Io.KnownBytes.{Consumes}
use Rattle.html5check.proofs.WholePages.{all-consumed, reads-more, stops-more}
use Rattle.html5check.proofs.check.read_whole.Goals as goal

pub returns-in_err-read_piece-clause-stops : goal.returns-in_err-read_piece-clause-stops
returns-in_err-read_piece-clause-stops g c =
    let stops = stops-more _ _ _ _ c.loop-text.invariant.consumed c.in_err-read_piece.ensures.stops in
    search rules

pub loop-text-smaller : goal.loop-text-smaller
loop-text-smaller g c =
    let text = string_bytes c.loop-text.text in
    let held = c.loop-text.decoder.held in
    let grown = ap length c.in_ok-read_piece.ensures.grows.grown ∙ length-append (text ++ held) c.in_ok-read_piece.ensures.grows.bytes in
    let after = length-append (string_bytes c.read_piece.new.text) c.read_piece.new.decoder.held in
    let before = length-append text held in
    let new_len : vec_len c.read_piece.new.text.bytes ≡ length (string_bytes c.read_piece.new.text) = search rules in
    let bound : vec_len c.read_piece.new.text.bytes < 2 ^ 64 = search rules in
    let more : 0 < length c.in_ok-read_piece.ensures.grows.bytes = search rules in
    omega (arith, grown, after, before, new_len, bound, more, c.in_ok-read_piece.ensures.few)

pub returns-in-Ok-clause-whole : goal.returns-in-Ok-clause-whole
returns-in-Ok-clause-whole g c = record {
  consumed = subst (Consumes _ _) (all-consumed _ _ (search rules)) (reads-more _ _ _ _ _ _ c.loop-text.invariant.consumed c.in_ok-read_piece.ensures.grows);
  at_end = c.in_ok-read_piece.ensures.end (search rules);
  utf8 = IsUtf8-string_bytes c.read_piece.new.text;
}
