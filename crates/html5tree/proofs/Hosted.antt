-- Items that fit in a host: the parser stays in step with nesting there, and is back afterwards.
use Rattle.std.proofs.Common.{◌≡◌, Bool, true, List, [], refl, ap, sym, ◌∙◌, subst}
use Rattle.html5tree.specs.Construction.{parsed, run, tree_in}
use Rattle.html5tree.specs.Fitting.{each_fits}
use Rattle.html5tree.specs.Hosts.{IsBack, IsHost, put_at}
use Rattle.html5tree.specs.Items.{Item, balanced, keeps_newlines, read_items, whole_texts}
use Rattle.html5tree.specs.Lockstep.{IsInStep, form_of, nest_all}
use Rattle.html5tree.specs.Page.{names}
use Rattle.html5tree.specs.Parser.{Parser, start_parser}
use Rattle.html5tree.specs.Tables.{mode_of}
use Rattle.html5tree.specs.Tree.{Path, empty_path, nested, nesting, whole}
use Rattle.html5tree.proofs.Steps.{in-step, start-good, returns-to}
use Rattle.html5tree.proofs.Documents.{shown-start, shows-each, shows-whole}
use Rattle.html5tree.proofs.Texts.{balanced-whole, balanced-newlines}
use Rattle.html5tree.proofs.Built.{fits-read, nested-read, start-form}
use Rattle.html5tree.proofs.InPlace.{in-place}

pub first-host : IsHost start_parser empty_path
first-host = record { follows = start-form; good = start-good; shown = shown-start }

balanced-read : (fresh : Bool) (items : List Item) → balanced 0 items ≡ true → balanced 0 (read_items fresh items) ≡ true
balanced-read fresh items h = balanced-newlines fresh (whole_texts items) 0 ∙ balanced-whole items 0 ∙ h

-- the parser after the items, in the form in which hosts are
locked-host : (fresh : Bool) (p : Parser) (path : Path) (items : List Item) → IsHost p path → each_fits (names p.page.opened) items ≡ true
    → IsInStep (parsed fresh p items) (nest_all p.page (read_items fresh items))
locked-host fresh p path items host h =
    subst (λ q. IsInStep (run q (read_items fresh items)) (nest_all p.page (read_items fresh items))) (sym host.follows)
    (in-step p.page p.formatting (read_items fresh items) host.good (fits-read fresh items (names p.page.opened) h))

pub host-after : (fresh : Bool) (p : Parser) (path : Path) (items : List Item) → IsHost p path → each_fits (names p.page.opened) items ≡ true
    → IsHost (parsed fresh p items) (nested path (read_items fresh items))
host-after fresh p path items host h =
    let k = locked-host fresh p path items host h in
    let read : List Item = read_items fresh items in
    subst (λ q. IsHost q (nested path read)) (sym k.is)
    (record { follows = refl; good = k.good; shown = shows-each read p.page path host.shown (fits-read fresh items (names p.page.opened) h) })

pub host-back : (fresh : Bool) (p : Parser) (path : Path) (items : List Item) → IsHost p path → each_fits (names p.page.opened) items ≡ true
    → balanced 0 items ≡ true → IsBack p (parsed fresh p items)
host-back fresh p path items host h b =
    let k = locked-host fresh p path items host h in
    let read : List Item = read_items fresh items in
    let same : (nest_all p.page read).opened ≡ p.page.opened = returns-to read p.page [] p.page.opened refl (balanced-read fresh items b) in
    record {
      opened = ap (λ q. q.page.opened) k.is ∙ same;
      mode = ap (λ q. q.mode) k.is ∙ (ap (λ o. mode_of (names o)) same ∙ sym (ap (λ q. q.mode) host.follows));
      form = ap (λ q. q.form) k.is ∙ (ap form_of same ∙ sym (ap (λ q. q.form) host.follows));
      fostering = ap (λ q. q.fostering) k.is ∙ sym (ap (λ q. q.fostering) host.follows);
    }

pub host-tree : (fresh : Bool) (p : Parser) (path : Path) (items : List Item) → IsHost p path → each_fits (names p.page.opened) items ≡ true
    → balanced 0 items ≡ true → keeps_newlines fresh items ≡ true → tree_in (parsed fresh p items) ≡ whole (put_at path (nesting items))
host-tree fresh p path items host h b k =
    let after = host-after fresh p path items host h in
    shows-whole (parsed fresh p items).page (nested path (read_items fresh items)) after.shown
    ∙ ap whole (nested-read fresh items path k ∙ in-place items path b)

-- the same, where a newline may be ignored
pub host-read : (fresh : Bool) (p : Parser) (path : Path) (items : List Item) → IsHost p path → each_fits (names p.page.opened) items ≡ true
    → balanced 0 items ≡ true → tree_in (parsed fresh p items) ≡ whole (put_at path (nesting (read_items fresh items)))
host-read fresh p path items host h b =
    let after = host-after fresh p path items host h in
    shows-whole (parsed fresh p items).page (nested path (read_items fresh items)) after.shown
    ∙ ap whole (in-place (read_items fresh items) path (balanced-read fresh items b))
