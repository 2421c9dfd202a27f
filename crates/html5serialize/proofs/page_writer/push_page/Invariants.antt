use Rattle.std.proofs.Common.{◌≡◌, ◌++◌, map, drop, string_bytes}
use Rattle.std.specs.Prelude.{encode_utf8_all}
use Rattle.html5ever_interface.specs.Token.{told_by}
use Rattle.html5serialize.specs.Page.{page_text, page_text_from}
use Rattle.html5serialize.proofs.page_writer.push_page.Given as goal

-- The writer reads the page as it was emitted. What was appended, and what the tokens that are left make from the place that
-- was reached, are the page.
abbrev pub invariant-loop-token : goal.invariant-loop-token
invariant-loop-token g l =
    (l.page.options ≡ l.fn.options)
    × (string_bytes l.out ++ encode_utf8_all (page_text_from l.fn.options l.page.place (map told_by (drop l.token-index l.tokens)))
    ≡ string_bytes l.initial.out ++ encode_utf8_all (page_text l.fn.options (map told_by l.tokens)))
