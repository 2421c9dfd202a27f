-- the search gives up where it stands at the end of all words
use Rattle.std.proofs.Common.{codes, sym, ap, ◌∙◌}
use Rattle.std.proofs.lemmas.Bool.{true≢false}
use Rattle.html5programs.specs.Words.{has_option}
use Rattle.html5programs.proofs.running.filter_by_words.Goals as goal

pub returns-clause-settings : goal.returns-clause-settings
returns-clause-settings g c =
    λ asks done. absurd (true≢false (sym asks.settings ∙ ap (has_option (codes "--print-policy")) (sym c.in-Ok.ensures) ∙ sym c.has-3.ensures ∙ c.if-has-3.false))

pub returns-then-has-3-clause-encoding : goal.returns-then-has-3-clause-encoding
returns-then-has-3-clause-encoding g c =
    λ names. absurd (true≢false (sym c.if-has-3.true ∙ c.has-3.ensures ∙ ap (has_option (codes "--print-policy")) c.in-Ok.ensures ∙ names.no_text.no_settings))

pub returns-then-has-3-clause-no_settings : goal.returns-then-has-3-clause-no_settings
returns-then-has-3-clause-no_settings g c =
    λ names. absurd (true≢false (sym c.if-has-3.true ∙ c.has-3.ensures ∙ ap (has_option (codes "--print-policy")) c.in-Ok.ensures ∙ names.no_text.no_settings))
