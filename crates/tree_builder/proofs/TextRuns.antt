-- A text is taken run by run, without a newline that is ignored.
use Rattle.std.specs.Prelude.{ℕ, Bool, true, false, List, [], ◌∷◌, ◌++◌, map, if◌then◌else◌}
use Rattle.std.proofs.Common.{◌≡◌, ◌≢◌, refl, ap, sym, ne_eqb, ◌∙◌}
use Rattle.tree_construction.specs.Construction.{enough, is_ignored_newline, process, run, step}
use Rattle.tree_construction.specs.Parser.{Parser}
use Rattle.tree_construction.specs.Tokens.Token.{Character}
use Rattle.tree_builder.specs.Built.{Built, on_parser}
use Rattle.tree_builder.specs.Characters.{fresh}

abbrev taken : List ℕ → Parser → Parser
taken text = run (map (λ c. Character c) text)

run-append : (a b : List ℕ) (p : Parser) → taken (a ++ b) p ≡ taken b (taken a p)
unfolding run
run-append [] b p = refl
run-append (c ∷ a) b p = run-append a b (step (Character c) p)

-- a text of which a run was taken
pub rest-taken : {Q : Type 0} (text front rest : List ℕ) (was now : Built Q) → front ++ rest ≡ text → now ≡ on_parser (taken front) was
    → on_parser (taken rest) now ≡ on_parser (taken text) was
rest-taken text front rest was now whole e =
    ap (on_parser (taken rest)) e
    ∙ ap (λ q. record was { parser = q }) (sym (run-append front rest was.parser) ∙ ap (λ t. taken t was.parser) whole)

-- a text of which nothing is left
pub none-taken : {Q : Type 0} (text : List ℕ) (b : Built Q) → text ≡ [] → on_parser (taken text) b ≡ b
unfolding run
none-taken text b none = ap (λ t. on_parser (taken t) b) none

-- the first character of a run is that of its text
pub kept-front : (text front rest : List ℕ) (b : Bool) → front ++ rest ≡ text
    → ((c : ℕ) (more : List ℕ) → text ≡ c ∷ more → is_ignored_newline b (Character c) ≡ false)
    → (c : ℕ) (more : List ℕ) → front ≡ c ∷ more → is_ignored_newline b (Character c) ≡ false
kept-front text front rest b whole kept c more e = kept c (more ++ rest) (sym whole ∙ ap (λ t. t ++ rest) e)

pub none-ignored : (b : Bool) (c : ℕ) → b ≡ false → is_ignored_newline b (Character c) ≡ false
none-ignored b c none = ap (λ i. is_ignored_newline i (Character c)) none

-- a newline that is ignored
pub newline-ignored : {Q : Type 0} (text rest : List ℕ) (was now : Built Q) → was.parser.ignores_newline ≡ true → text ≡ 10 ∷ rest
    → now ≡ on_parser fresh was → on_parser (taken rest) now ≡ on_parser (taken text) was
unfolding run step
newline-ignored text rest was now ignores whole e =
    let p : Parser = was.parser in
    let skipped : (if is_ignored_newline p.ignores_newline (Character 10) then fresh p else process (enough p) (Character 10) (fresh p)) ≡ fresh p =
    ap (λ b. if is_ignored_newline b (Character 10) then fresh p else process (enough p) (Character 10) (fresh p)) ignores in
    ap (on_parser (taken rest)) e
    ∙ ap (λ q. record was { parser = q }) (sym (ap (taken rest) skipped) ∙ ap (λ t. taken t p) (sym whole))

-- a text that begins with no newline
pub begins-otherwise : (text : List ℕ) (b : Bool) → ((rest : List ℕ) → text ≢ 10 ∷ rest) → (c : ℕ) (more : List ℕ) → text ≡ c ∷ more
    → is_ignored_newline b (Character c) ≡ false
begins-otherwise text true none c more e = ne_eqb c 10 (λ same. none more (e ∙ ap (λ d. d ∷ more) same))
begins-otherwise text false none c more e = refl
