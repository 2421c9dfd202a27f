use Rattle.std.proofs.Common.{◌≡◌, ◌+◌, ◌∷◌, true, false, arith, drop, length, refl, sym, ◌∙◌}
use Rattle.tree_construction.specs.ForeignContent.{has_lower_case}
use Rattle.tree_construction.specs.Names.{is_html}
use Rattle.tree_construction.specs.Page.{Open}
use Rattle.tree_names.specs.ElementNames.{name_bytes}
use Rattle.tree_lists.specs.Opened.{open_of}
use Rattle.tree_builder.proofs.Foreign.{end-first, end-inside}
use Rattle.tree_builder.proofs.builder.Builder.foreign_end_at.Goals as goal

pub returns-then-depth-count : goal.returns-then-depth-count
returns-then-depth-count g c in_html p =
    let opened = c.args.self.now.parser.page.opened in
    let d = c.args.depth in
    let e : Open = open_of g.S.Handle.NodeHandle.node c.at-element.result.now in
    let here : drop d opened ≡ e ∷ drop (d + 1) opened = rw (← c.self.view_is) c.at-element.ensures in
    let last : d + 1 ≡ length opened = omega arith in
    end-first in_html (name_bytes c.args.name.now) opened d e p here last

pub returns-then-has_lower_case : goal.returns-then-has_lower_case
returns-then-has_lower_case g c in_html p =
    let name = name_bytes c.args.name.now in
    let opened = c.args.self.now.parser.page.opened in
    let d = c.args.depth in
    let e : Open = open_of g.S.Handle.NodeHandle.node c.at-element.result.now in
    let outer : Open = open_of g.S.Handle.NodeHandle.node c.at-outer.result.now in
    let here : drop d opened ≡ e ∷ drop (d + 1) opened = rw (← c.self.view_is) c.at-element.ensures in
    let next : drop (d + 1) opened ≡ outer ∷ drop (d + 1 + 1) opened = rw (← c.self.view_is) c.at-outer.ensures in
    let lower : has_lower_case name e ≡ true = sym c.has_lower_case.ensures ∙ c.if-has_lower_case.true in
    end-inside in_html name opened d e outer p here next ∙ rw lower refl

pub returns-then-is_html : goal.returns-then-is_html
returns-then-is_html g c in_html p =
    let name = name_bytes c.args.name.now in
    let opened = c.args.self.now.parser.page.opened in
    let d = c.args.depth in
    let e : Open = open_of g.S.Handle.NodeHandle.node c.at-element.result.now in
    let outer : Open = open_of g.S.Handle.NodeHandle.node c.at-outer.result.now in
    let here : drop d opened ≡ e ∷ drop (d + 1) opened = rw (← c.self.view_is) c.at-element.ensures in
    let next : drop (d + 1) opened ≡ outer ∷ drop (d + 1 + 1) opened = rw (← c.self.view_is) c.at-outer.ensures in
    let lower : has_lower_case name e ≡ false = sym c.has_lower_case.ensures ∙ c.if-has_lower_case.false in
    let html : is_html outer.kind ≡ true = sym c.is_html.ensures ∙ c.if-is_html.true in
    end-inside in_html name opened d e outer p here next ∙ rw (lower, html) refl

pub returns : goal.returns
returns g c in_html p =
    let name = name_bytes c.args.name.now in
    let opened = c.args.self.now.parser.page.opened in
    let d = c.args.depth in
    let e : Open = open_of g.S.Handle.NodeHandle.node c.at-element.result.now in
    let outer : Open = open_of g.S.Handle.NodeHandle.node c.at-outer.result.now in
    let here : drop d opened ≡ e ∷ drop (d + 1) opened = rw (← c.self.view_is) c.at-element.ensures in
    let next : drop (d + 1) opened ≡ outer ∷ drop (d + 1 + 1) opened = rw (← c.self.view_is) c.at-outer.ensures in
    let lower : has_lower_case name e ≡ false = sym c.has_lower_case.ensures ∙ c.if-has_lower_case.false in
    let html : is_html outer.kind ≡ false = sym c.is_html.ensures ∙ c.if-is_html.false in
    end-inside in_html name opened d e outer p here next ∙ rw (lower, html) refl
