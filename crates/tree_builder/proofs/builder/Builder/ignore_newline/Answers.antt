use Rattle.std.specs.Prelude.{ℕ, List, ◌∷◌, Option, MatchOption}
use Rattle.std.specs.Borrow.{Bor}
use Rattle.std.proofs.Common.{◌≡◌, ◌≢◌, ap, arith, subst, sym, ◌∙◌}
use Rattle.std.proofs.lemmas.Str.Pattern.{strip_prefix_char}
use Rattle.tree_builder.proofs.TextRuns.{begins-otherwise, newline-ignored}
use Rattle.tree_builder.proofs.builder.Builder.ignore_newline.Goals as goal

pub returns-in_default-clause-kept : goal.returns-in_default-clause-kept
returns-in_default-clause-kept g c =
    let text = c.args.text.now in
    begins-otherwise text c.args.self.now.parser.ignores_newline
    (subst (λ (r : Option (Bor (List ℕ))). MatchOption r ((rest : List ℕ) → text ≢ 10 ∷ rest) (λ x. text ≡ 10 ∷ x.now)) c.in_default.is
    (strip_prefix_char 10 text c.strip_prefix.result c.strip_prefix.ensures.cases (omega arith)))

pub returns-clause-parser : goal.returns-clause-parser
returns-clause-parser g c =
    let text = c.args.text.now in
    newline-ignored text c.in-Some.rest.now c.args.self.now c.begin_token.new.self (ap (λ b. b.parser.ignores_newline) (sym c.self.view_is) ∙ c.if-not-self.false)
    (subst (λ (r : Option (Bor (List ℕ))). MatchOption r ((rest : List ℕ) → text ≢ 10 ∷ rest) (λ x. text ≡ 10 ∷ x.now)) c.in-Some.is
    (strip_prefix_char 10 text c.strip_prefix.result c.strip_prefix.ensures.cases (omega arith)))
    c.begin_token.ensures
