use Rattle.std.proofs.Common.{List, [], ap, ◌∙◌, map}
use Rattle.std.specs.Str.{chars}
use Rattle.html5check.proofs.SeenTokens.{all-seen}
use Rattle.html5check.specs.Seen.{seen_by, with_seen}
use Rattle.html5ever.specs.Tokenizer.{rules_of}
use Rattle.html5ever_interface.specs.Options.{OptionsOf, default_options, options_of}
use Rattle.html5places.specs.Marks.{Placed}
use Rattle.html5places.specs.Placed.{handed_on, placed_tokens}
use Rattle.html5reading.specs.Start.{start_of}
use Rattle.html5check.proofs.seen.read_seen.Goals as goal

pub returns : goal.returns
returns c =
    let placed : OptionsOf → List Placed = λ options. placed_tokens (rules_of options c.args.references.now) (start_of options) (chars c.args.text.now) in
    c.in_ok-read_places.ensures.placed
    ∙ ap (λ tokens. handed_on with_seen (map seen_by tokens) (placed (options_of c.default.result))) c.new.ensures.items
    ∙ ap (λ options. handed_on with_seen [] (placed options)) c.default.ensures
    ∙ all-seen [] (placed default_options)
