-- What is written of a page is nested, and at its end nothing is open.
use Rattle.std.proofs.Common.{◌≡◌, ℕ, true, false, List, [], ◌∷◌, refl, ap, ◌∙◌, subst}
use Rattle.std.specs.Prelude.{Bool, ◌++◌, if◌then◌else◌}
use Rattle.std.specs.Str.{chars}
use Rattle.html5ever_interface.specs.Options.{default_options}
use Rattle.html5ever_interface.specs.Sink.{Message, stepped}
use Rattle.html5ever_interface.specs.Token.{Told}
use Rattle.html5ever_interface.specs.Token.Told.{End}
use Rattle.html5ever_interface.proofs.Steppings.{stepped-append}
use Rattle.html5reading.specs.Start.{Rules, start_of}
use Rattle.html5sinks.specs.Runs.{Running, runs_step}
use Rattle.html5stream.proofs.Handed.{kept-handed, kept-stepped}
use Rattle.html5stream.specs.Pages.{runs_handed, runs_means, runs_page, runs_start}
use Rattle.markup5ever.specs.NamedReferences.{NamedReference}
use Rattle.html5policy.specs.Policy.{PolicyOf}
use Rattle.html5write.specs.Pieces.{Piece}
use Rattle.html5cleaner.specs.Balance.{is_end, is_nested, open_by, written_by}
use Rattle.html5cleaner.specs.Shape.{Shape, shape_by_balance, shape_of}
use Rattle.html5cleaner.specs.Shape.Shape.{Balanced, Tree}
use Rattle.html5tree.specs.Normal.{IsReady}
use Rattle.html5tree.proofs.Normalising.{none-ready}
use Rattle.html5cleaner.specs.Clean.{Cleaned, at_start, clean_step, kept_where}
use Rattle.html5cleaner.proofs.Balancing.{AllGo, go-append, nested-is, written-goes}
use Rattle.html5cleaner.proofs.Ends.{LastIsEnd, last-is_end}
use Rattle.html5cleaner.proofs.Printing.{policy-handed}
use Rattle.html5cleaner.proofs.ShapeRuns.{shaped-closed}
use Rattle.html5cleaner.proofs.TreePages.{written-fits}
use Rattle.html5cleaner.proofs.WrittenRuns.{none-open}

-- the elements open in a tree are right for the normaliser
abbrev pub IsReadyFor : Shape → List (List ℕ) → Type 0
IsReadyFor (Tree limit) opened = IsReady limit opened
IsReadyFor other opened = Unit {0}

-- a handler's output leaves its open elements open
abbrev pub GoesOn : Cleaned → Type 0
GoesOn c = AllGo (shape_of c.policy) [] c.pieces c.opened × IsReadyFor (shape_of c.policy) c.opened

ready-flat : (balance : Bool) (opened : List (List ℕ)) → IsReadyFor (shape_by_balance balance) opened
ready-flat true opened = tt
ready-flat false opened = tt

goes-shaped : (policy : PolicyOf) (tree ends : Bool) (before : List Piece) (opened : List (List ℕ)) (kept : List Piece)
    → AllGo (if tree then Tree policy.depth else shape_by_balance policy.balance) [] before opened
    → IsReadyFor (if tree then Tree policy.depth else shape_by_balance policy.balance) opened
    → AllGo (if tree then Tree policy.depth else shape_by_balance policy.balance) []
    (before ++ written_by (if tree then Tree policy.depth else shape_by_balance policy.balance) ends opened kept)
    (open_by (if tree then Tree policy.depth else shape_by_balance policy.balance) ends opened kept)
    × IsReadyFor (if tree then Tree policy.depth else shape_by_balance policy.balance) (open_by (if tree then Tree policy.depth else shape_by_balance policy.balance) ends opened kept)
goes-shaped policy true ends before opened kept goes ready =
    let more = written-fits policy.depth ends opened kept ready in
    (go-append (Tree policy.depth) [] opened (open_by (Tree policy.depth) ends opened kept) before (written_by (Tree policy.depth) ends opened kept) goes more.0, more.1)
goes-shaped policy false ends before opened kept goes ready =
    let shape : Shape = shape_by_balance policy.balance in (
      go-append shape [] opened (open_by shape ends opened kept) before (written_by shape ends opened kept) goes (written-goes policy.balance ends opened kept),
      ready-flat policy.balance (open_by shape ends opened kept),
    )

pub goes-step : (c : Cleaned) (run : List ℕ) (told : Told) (line : ℕ) → GoesOn c → GoesOn (clean_step c run told line)
goes-step c run told line goes =
    goes-shaped c.policy c.policy.tree (is_end told) c.pieces c.opened (kept_where c.policy c.hidden.depth run told) goes.0 goes.1

start-ready : (policy : PolicyOf) (tree : Bool) → IsReadyFor (if tree then Tree policy.depth else shape_by_balance policy.balance) []
start-ready policy true = none-ready policy.depth
start-ready policy false = ready-flat policy.balance []

pub goes-start : (policy : PolicyOf) → GoesOn (at_start policy)
goes-start policy = (refl, start-ready policy policy.tree)

goes-by_its_policy : (policy : PolicyOf) (M : List Message) → GoesOn (runs_handed clean_step (at_start policy) M)
goes-by_its_policy policy M = kept-handed clean_step GoesOn goes-step (at_start policy) M (goes-start policy)

pub goes-handed : (policy : PolicyOf) (M : List Message)
    → AllGo (shape_of policy) [] (runs_handed clean_step (at_start policy) M).pieces (runs_handed clean_step (at_start policy) M).opened
goes-handed policy M =
    subst (λ (p : PolicyOf). AllGo (shape_of p) [] (runs_handed clean_step (at_start policy) M).pieces (runs_handed clean_step (at_start policy) M).opened) (policy-handed policy M)
    (goes-by_its_policy policy M).0

-- the shape of a policy without the rule `tree`, and with it
pub shape-flat : (policy : PolicyOf) → policy.tree ≡ false → shape_of policy ≡ shape_by_balance policy.balance
shape-flat policy is = ap (λ b. if b then Tree policy.depth else shape_by_balance policy.balance) is

pub shape-tree : (policy : PolicyOf) → policy.tree ≡ true → shape_of policy ≡ Tree policy.depth
shape-tree policy is = ap (λ b. if b then Tree policy.depth else shape_by_balance policy.balance) is

-- without the rule nothing is open
pub none-handed : (policy : PolicyOf) (M : List Message) → policy.tree ≡ false → policy.balance ≡ false → (runs_handed clean_step (at_start policy) M).opened ≡ []
none-handed policy M flat is =
    let c : Cleaned = runs_handed clean_step (at_start policy) M in
    none-open policy.balance c.opened c.pieces is (subst (λ shape. AllGo shape [] c.pieces c.opened) (shape-flat policy flat) (goes-handed policy M))

-- ---- the end of a page

closed-at_end : (r : Running Cleaned) (line : ℕ) → GoesOn r.joined.handler → (runs_step clean_step r End line).joined.handler.opened ≡ []
closed-at_end r line goes =
    let c : Cleaned = r.joined.handler in
    shaped-closed (shape_of c.policy) c.opened c.pieces (kept_where c.policy c.hidden.depth r.joined.run End) goes.0

closed-after : (policy : PolicyOf) (M : List Message) → LastIsEnd M → (runs_handed clean_step (at_start policy) M).opened ≡ []
unfolding runs_handed stepped
closed-after policy M last =
    let start = runs_start (at_start policy) in
    ap (λ N. (stepped (runs_step clean_step) start N).joined.handler.opened) last.is
    ∙ ap (λ (r : Running Cleaned). r.joined.handler.opened) (stepped-append (runs_step clean_step) start last.before (record { token = End; line = last.line } ∷ []))
    ∙ closed-at_end (stepped (runs_step clean_step) start last.before) last.line (kept-stepped clean_step GoesOn goes-step start last.before (goes-start policy))

-- after a whole page nothing is open
pub closed-page : (policy : PolicyOf) (references : List NamedReference) (bytes : List ℕ) → (runs_handed clean_step (at_start policy) (runs_page clean_step references (at_start policy) bytes)).opened ≡ []
unfolding runs_page
closed-page policy references bytes =
    let rules : Rules = record { exact = false; references = references } in
    let means = runs_means {X = Running Cleaned} (λ t. t) clean_step in
    closed-after policy (runs_page clean_step references (at_start policy) bytes)
    (last-is_end means.step means.reply means.foreign rules (start_of default_options) (runs_start (at_start policy)) (chars bytes))

-- a page of a balancing policy is nested
pub nested-page : (policy : PolicyOf) (references : List NamedReference) (bytes : List ℕ) → policy.tree ≡ false → policy.balance ≡ true
    → is_nested [] (runs_handed clean_step (at_start policy) (runs_page clean_step references (at_start policy) bytes)).pieces ≡ true
nested-page policy references bytes flat is =
    let c : Cleaned = runs_handed clean_step (at_start policy) (runs_page clean_step references (at_start policy) bytes) in
    nested-is [] c.pieces
    (subst (λ (o : List (List ℕ)). AllGo Balanced [] c.pieces o) (closed-page policy references bytes)
    (subst (λ shape. AllGo shape [] c.pieces c.opened) (shape-flat policy flat ∙ ap shape_by_balance is) (goes-handed policy (runs_page clean_step references (at_start policy) bytes))))

-- a page of a policy with the rule `tree` fits
pub fitting-page : (policy : PolicyOf) (references : List NamedReference) (bytes : List ℕ) → policy.tree ≡ true
    → AllGo (Tree policy.depth) [] (runs_handed clean_step (at_start policy) (runs_page clean_step references (at_start policy) bytes)).pieces []
fitting-page policy references bytes is =
    let c : Cleaned = runs_handed clean_step (at_start policy) (runs_page clean_step references (at_start policy) bytes) in
    subst (λ (o : List (List ℕ)). AllGo (Tree policy.depth) [] c.pieces o) (closed-page policy references bytes)
    (subst (λ shape. AllGo shape [] c.pieces c.opened) (shape-tree policy is) (goes-handed policy (runs_page clean_step references (at_start policy) bytes)))
