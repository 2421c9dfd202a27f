-- Turns of the outer loop of the adoption agency algorithm.
use Rattle.std.proofs.Common.{◌≡◌, ℕ, suc, ◌+◌, ◌<◌, Bool, true, false, List, [], ◌∷◌, Option, Some, None, length, drop, refl, sym, ◌∙◌, arith, add-one, subst}
use Rattle.std.specs.Prelude.{◌==◌}
use Rattle.tree_construction.specs.declared.mistakes.Mistake.TheVariants.{FormattingNotInScope}
use Rattle.tree_construction.specs.Adoption.{adopted_by, deeper, furthest_block, opened_inside, turn}
use Rattle.tree_construction.specs.Formatting.{Listed}
use Rattle.tree_construction.specs.Names.{is_special}
use Rattle.tree_construction.specs.Page.{Open, current_passes, has_number, has_open}
use Rattle.tree_construction.specs.Parser.{Parser, expects_current, in_scope, mistaken}

pub record IsAround (n : ℕ) (opened : List Open) (d : ℕ) : Type 0 where
  pub stands : d < length opened
  pub around : has_open (has_number n) (drop (d + 1) opened) ≡ true

record Around (n : ℕ) (opened : List Open) (d : ℕ) : Type 0 where
  stands : d < length opened
  around : has_open (has_number n) (drop (suc d) opened) ≡ true

deeper-around : (n : ℕ) (x : Open) (xs : List Open) (special : Bool) (r : Option ℕ) (d : ℕ) → deeper special r ≡ Some d → has_open (has_number n) xs ≡ true
    → ((k : ℕ) → r ≡ Some k → Around n xs k) → Around n (x ∷ xs) d
deeper-around n x xs special (Some k) d e h again =
    let r = again k refl in
    let s = r.stands in
    let same : suc k ≡ d = cc in
    subst (λ m. Around n (x ∷ xs) m) same (record { stands = omega (arith, s); around = r.around })
deeper-around n x xs true None d e h again =
    let same : 0 ≡ d = cc in
    subst (λ m. Around n (x ∷ xs) m) same (record { stands = omega arith; around = h })
deeper-around n x xs false None d e h again = cc

around-by : (n : ℕ) (x : Open) (xs : List Open) (d : ℕ) (b : Bool) → (x.node == n) ≡ b → furthest_block (opened_inside n (x ∷ xs)) ≡ Some d
    → has_open (has_number n) (x ∷ xs) ≡ true
    → ((k : ℕ) → furthest_block (opened_inside n xs) ≡ Some k → has_open (has_number n) xs ≡ true → Around n xs k) → Around n (x ∷ xs) d
unfolding has_open opened_inside furthest_block
around-by n x xs d true t e h again =
    let none : furthest_block (opened_inside n (x ∷ xs)) ≡ None = rw t refl in
    let f : None ≡ Some d = sym none ∙ e in
    cc
around-by n x xs d false t e h again =
    let has : has_open (has_number n) xs ≡ true = sym (rw t refl) ∙ h in
    let is : furthest_block (opened_inside n (x ∷ xs)) ≡ deeper (is_special x.kind) (furthest_block (opened_inside n xs)) = rw t refl in
    deeper-around n x xs (is_special x.kind) (furthest_block (opened_inside n xs)) d (sym is ∙ e) has (λ k r. again k r has)

around-suc : (n : ℕ) (opened : List Open) (d : ℕ) → furthest_block (opened_inside n opened) ≡ Some d → has_open (has_number n) opened ≡ true → Around n opened d
unfolding has_open opened_inside furthest_block
around-suc n [] d e h = cc
around-suc n (x ∷ xs) d e h = around-by n x xs d (x.node == n) refl e h (λ k. around-suc n xs k)

pub is-around : (n : ℕ) (opened : List Open) (d : ℕ) → furthest_block (opened_inside n opened) ≡ Some d → has_open (has_number n) opened ≡ true → IsAround n opened d
is-around n opened d e h =
    let r = around-suc n opened d e h in
    record { stands = r.stands; around = rw (add-one d) r.around }

-- a parse error leaves the stack as it is
expects-by : (test : Open → Bool) (p : Parser) (b : Bool) → current_passes test p.page.opened ≡ b → (expects_current test p).page.opened ≡ p.page.opened
expects-by test p true e = rw e refl
expects-by test p false e = rw e refl

pub expects-opened : (test : Open → Bool) (p : Parser) → (expects_current test p).page.opened ≡ p.page.opened
expects-opened test p = expects-by test p (current_passes test p.page.opened) refl

-- ---- one turn, where the formatting element is open

pub out-of-scope : (again : Parser → Parser) (name : List ℕ) (f : Listed) (p : Parser) → has_open (has_number f.node) p.page.opened ≡ true
    → in_scope (has_number f.node) p ≡ false → turn again name (Some f) p ≡ mistaken FormattingNotInScope p
out-of-scope again name f p opened scope = rw (opened, scope) refl

pub adopts-by : (again : Parser → Parser) (name : List ℕ) (f : Listed) (p : Parser) (block : Option ℕ) → has_open (has_number f.node) p.page.opened ≡ true
    → in_scope (has_number f.node) p ≡ true → furthest_block (opened_inside f.node p.page.opened) ≡ block
    → turn again name (Some f) p ≡ adopted_by again f block (expects_current (has_number f.node) p)
adopts-by again name f p block opened scope is = rw (opened, scope, is) refl
