-- What tree construction builds of items that fit is their nesting.
use Rattle.std.proofs.Common.{◌≡◌, ℕ, Bool, true, false, List, [], refl, ap, ◌∙◌}
use Rattle.std.proofs.lemmas.Bool.{and_parts}
use Rattle.html5tree.specs.Construction.{run, tree_in, tree_of}
use Rattle.html5tree.specs.Document.{tree_built}
use Rattle.html5tree.specs.Fitting.{all_fit, all_open_after, each_fits, none_open}
use Rattle.html5tree.specs.Items.{Item, keeps_newlines, read_items, whole_texts}
use Rattle.html5tree.specs.Lockstep.{form_of, nest_all, parser}
use Rattle.html5tree.specs.Page.{start_page}
use Rattle.html5tree.specs.Parser.{start_parser}
use Rattle.html5tree.specs.Tables.{mode_of}
use Rattle.html5tree.specs.Tree.{Path, empty_path, nested, nesting}
use Rattle.html5tree.proofs.Steps.{in-step, start-good, names-after-all}
use Rattle.html5tree.proofs.Documents.{shown-start, shows-each, shows-whole, closed-path}
use Rattle.html5tree.proofs.Texts.{nested-whole, nested-newlines, keeps-whole, fits-whole, fits-newlines, open-whole, open-newlines}

pub fits-read : (fresh : Bool) (items : List Item) (stack : List (List ℕ)) → each_fits stack items ≡ true → each_fits stack (read_items fresh items) ≡ true
fits-read fresh items stack h = fits-newlines fresh (whole_texts items) stack (fits-whole items stack h)

open-read : (fresh : Bool) (items : List Item) (stack : List (List ℕ)) → all_open_after stack (read_items fresh items) ≡ all_open_after stack items
open-read fresh items stack = open-newlines fresh (whole_texts items) stack ∙ open-whole items stack

pub nested-read : (fresh : Bool) (items : List Item) (path : Path) → keeps_newlines fresh items ≡ true → nested path (read_items fresh items) ≡ nested path items
nested-read fresh items path h = nested-newlines fresh (whole_texts items) path (keeps-whole fresh items h) ∙ nested-whole items path

pub start-form : start_parser ≡ parser start_page []
unfolding mode_of form_of
start-form = refl

pub tree-of-read : (items : List Item) → all_fit [] items ≡ true → tree_of items ≡ nesting (read_items false items)
tree-of-read items h =
    let read : List Item = read_items false items in
    let p = and_parts (each_fits [] items) (none_open (all_open_after [] items)) h in
    let f : each_fits [] read ≡ true = fits-read false items [] p.0 in
    let shown = shows-each read start_page empty_path shown-start f in
    ap (λ q. tree_in (run q read)) start-form
    ∙ (ap (λ q. tree_built q.page.edits) (in-step start_page [] read start-good f).is
    ∙ (shows-whole (nest_all start_page read) (nested empty_path read) shown
    ∙ closed-path (nest_all start_page read) (nested empty_path read) shown
    (ap none_open (names-after-all read start_page ∙ open-read false items []) ∙ p.1)))

pub tree-of-nested : (items : List Item) → all_fit [] items ≡ true → keeps_newlines false items ≡ true → tree_of items ≡ nesting items
tree-of-nested items h k = tree-of-read items h ∙ ap (λ path. path.inner) (nested-read false items empty_path k)
