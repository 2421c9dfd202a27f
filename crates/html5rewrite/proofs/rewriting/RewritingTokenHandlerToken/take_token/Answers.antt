use Rattle.std.proofs.Common.{◌≡◌, false, arith, sym}
use Rattle.std.specs.Prelude.{◌==◌}
use Rattle.std.proofs.lemmas.Bool.Decides.{nat_tests}
use Rattle.html5ever_interface.specs.Token.{told_by}
use Rattle.html5elements.specs.Hidden.{hidden_of}
use Rattle.html5rewrite.specs.Rewriter.{opens}
use Rattle.html5rewrite.specs.Writing.{Written}
use Rattle.html5rewrite.proofs.Steps.{passed-steps}
use Rattle.html5rewrite.proofs.rewriting.RewritingTokenHandlerToken.take_token.Goals as goal

pub returns-then-self-ne0-clause-steps : goal.returns-then-self-ne0-clause-steps
returns-then-self-ne0-clause-steps g c =
    let s : Written = record { rewriter = g.H.TagRewriter.means c.self.inside.rewriter; bytes = g.O.Output.bytes c.self.inside.output; hidden = hidden_of c.self.inside.hidden } in
    let within : (c.self.inside.hidden.depth == 0) ≡ false = grind (arith, nat_tests) in
    rw (sym c.self.view_is) (passed-steps c.pass_hidden.result s (hidden_of c.pass_hidden.new.hidden) c.args.run.now (told_by c.args.token) c.args._line_number within
    (c.pass_hidden.ensures.ok (opens s.rewriter)))
