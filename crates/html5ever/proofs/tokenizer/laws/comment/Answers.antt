use Rattle.html5ever.proofs.ByItems.{holds-unfinished}
use Rattle.html5grammar.specs.Items.Unfinished.{OpenComment, OpenBogus, OpenBogusDeclaration}
use Rattle.std.proofs.Common.{true}
use Rattle.std.specs.Str.{chars}
use Rattle.std.specs.String.{string_bytes}
use Rattle.html5ever_interface.specs.Collected.{Collecting}
use Rattle.html5ever_interface.specs.Options.{options_of}
use Rattle.html5grammar.proofs.Comment.Collected.{collects-comment}
use Rattle.html5grammar.specs.Comment.{IsComment, comment_messages}
use Rattle.html5reading.specs.Start.{start_of}
use Rattle.html5ever.specs.Collecting.{collected_of}
use Rattle.html5ever.specs.Tokenizer.{rules_of}
use Rattle.html5ever.proofs.Wholes.{holds-one}
use Rattle.html5ever.proofs.tokenizer.laws.comment.Goals as goal

pub returns-clause-comment : goal.returns-clause-comment
returns-clause-comment g c =
    holds-one c.collect.result (λ comment. IsComment (start_of (options_of c.args.opts)) c.args.foreign (chars (string_bytes c.args.text)) comment)
    (λ (sink : Collecting). sink.collected) (collected_of (options_of c.args.opts) c.args.references.now c.args.foreign (chars (string_bytes c.args.text)))
    (λ comment. record { messages = comment_messages c.args.opts.exact_errors (start_of (options_of c.args.opts)).input comment; finished = true; foreign = c.args.foreign })
    c.collect.ensures.reads.holds
    (λ comment one. collects-comment (Unit {0}) (rules_of (options_of c.args.opts) c.args.references.now) (start_of (options_of c.args.opts)) c.args.foreign (chars (string_bytes c.args.text)) comment one)

pub returns-clause-open : goal.returns-clause-open
returns-clause-open g c =
    holds-unfinished c.collect.result (options_of c.args.opts) c.args.references.now c.args.foreign (chars (string_bytes c.args.text)) _ _ _ c.table_laws.ensures c.collect.ensures.reads.holds OpenComment

pub returns-clause-open_bogus : goal.returns-clause-open_bogus
returns-clause-open_bogus g c =
    holds-unfinished c.collect.result (options_of c.args.opts) c.args.references.now c.args.foreign (chars (string_bytes c.args.text)) _ _ _ c.table_laws.ensures c.collect.ensures.reads.holds OpenBogus

pub returns-clause-open_declaration : goal.returns-clause-open_declaration
returns-clause-open_declaration g c =
    holds-unfinished c.collect.result (options_of c.args.opts) c.args.references.now c.args.foreign (chars (string_bytes c.args.text)) _ _ _ c.table_laws.ensures c.collect.ensures.reads.holds OpenBogusDeclaration
