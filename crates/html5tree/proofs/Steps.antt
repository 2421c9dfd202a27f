-- Each item that fits keeps the parser in step with nesting.
use Rattle.std.proofs.Common.{◌≡◌, ℕ, suc, Bool, true, false, List, [], ◌∷◌, ◌++◌, length, refl, ap, sym, ◌∙◌, arith, subst, ◌⊎◌, inl, inr}
use Rattle.std.specs.Prelude.{◌&&◌, ◌||◌, not, if◌then◌else◌, None}
use Rattle.std.specs.Str.{bytes_eq}
use Rattle.std.specs.List.{list_all}
use Rattle.std.proofs.lemmas.Slice.Eq.{bytes_eq-Decides}
use Rattle.std.proofs.lemmas.Bool.{false≢true, not-true, and_parts, or_parts}
use Rattle.html5tree.specs.Adoption.{adoption_agency, ended_by, furthest_block, outer_loop}
use Rattle.html5tree.specs.Construction.{by_mode, process, run, step}
use Rattle.html5tree.specs.Fitting.{all_open_after, bounds_item, bounds_paragraph, can_open, each_fits, fits, fits_flow, fits_in, holds, holds_parts, is_implied_before_text, is_space, open_after, without_top}
use Rattle.html5tree.specs.InBody.{end_tag, in_body, start_tag, without_implied, without_paragraph}
use Rattle.html5tree.specs.Items.{Attribute, Item, balanced}
use Rattle.html5tree.specs.Items.Item.{EndTag, StartTag, Text}
use Rattle.html5tree.specs.Lockstep.{AreNumbered, ArePlaced, IsInOrder, IsInStep, IsWithin, can_hold, form_of, nest, nest_all, parser, placed}
use Rattle.html5tree.specs.Lockstep.IsWithin.{Done, Keep, Mark, Skip}
use Rattle.html5tree.specs.declared.kinds.Kind.{Kind}
use Rattle.html5tree.specs.Names.{ends_item_search, has_marker, is_anchor, is_button, is_description, is_form, is_formatting, is_heading, is_implied, is_list_item, is_no_break, is_paragraph, is_part, is_ruby, is_ruby_container, is_table, is_void, kind_of, named, no_kind, of_kind}
use Rattle.html5tree.specs.declared.kinds.Kind.TheVariants.{Anchor, Block, Button, Caption, Cell, Column, ColumnGroup, Description, Dialog, Division, Form, Formatting, Heading, ListBlock, ListItem, NoBreak, Ordinary, Paragraph, Preformatted, Ruby, RubyBase, RubyContainer, RubyText, Rule, Search, Table, TableBody, TableRow, Unknown, Void}
use Rattle.html5tree.specs.Page.{Edit, Element, Page, inserted, made, names, popped, rest_of, start_page, texted}
use Rattle.html5tree.specs.Parser.{Entry, Mode, Parser, cleared, has_entry, has_node, implied_ended, inside, is_bounded, last_named, outside, popped_until, pushed, without_entry, without_node}
use Rattle.html5tree.specs.Parser.Entry.{Marker}
use Rattle.html5tree.specs.Parser.Mode.{InBody, InCaption, InCell, InColumnGroup, InRow, InTable, InTableBody}
use Rattle.html5tree.specs.Scopes.{ends_button_scope, ends_scope, kind_on_top, near, top_is, top_of_kind}
use Rattle.html5tree.specs.Tables.{Again, back_to, caption_end, cell_end, mode_at, mode_of}
use Rattle.html5tree.proofs.Lists.{itself, no-node, none-within, nothing-lost, pushes, none-named, fewer-near, drops, clears, no-form}

bytes-itself : (a : List ℕ) → bytes_eq a a ≡ true
bytes-itself a = (bytes_eq-Decides a a).1 refl

-- ---- kinds in flow that change neither the mode nor the form element pointer

record IsPlain (k : Kind) : Type 0 where
  mode : (m : Mode) → mode_at k m ≡ m
  free : has_marker k ≡ false
  form : is_form k ≡ false
  opens : can_open k ≡ true

-- ---- start tags in flow

opens : (k : Kind) (page : Page) (l : List Entry) (name : List ℕ) (attributes : List Attribute) → kind_of name ≡ k → IsPlain k
    → can_hold (kind_on_top (names page.opened)) k ≡ true → IsInOrder l page
    → IsInStep (record (parser page l) { page = inserted page name attributes }) (inserted page name attributes)
unfolding AreNumbered ArePlaced form_of mode_of
opens k page l name attributes is plain h g = record {
  formatting = l;
  is = rw (is, plain.mode (mode_of (names page.opened)), plain.form) refl;
  good = record {
    within = Skip _ (ap has_marker is ∙ plain.free) g.within;
    numbered = (omega arith, g.numbered);
    placed = (record { in_parent = rw is h; opens = rw is plain.opens; one_form = λ f. absurd (false≢true (sym plain.form ∙ ap is_form (sym is) ∙ f)) }, g.placed);
  };
}

formats : (k : Kind) (page : Page) (l : List Entry) (name : List ℕ) (attributes : List Attribute) → kind_of name ≡ k → IsPlain k → is_formatting k ≡ true
    → can_hold (kind_on_top (names page.opened)) k ≡ true → IsInOrder l page
    → IsInStep (record (parser page l) { page = inserted page name attributes; formatting = pushed (made page name attributes) l }) (inserted page name attributes)
unfolding AreNumbered ArePlaced form_of mode_of
formats k page l name attributes is plain f h g = record {
  formatting = pushed (made page name attributes) l;
  is = rw (is, plain.mode (mode_of (names page.opened)), plain.form) refl;
  good = record {
    within = pushes _ l page.opened (ap is_formatting is ∙ f) (ap has_marker is ∙ plain.free) g.within;
    numbered = (omega arith, g.numbered);
    placed = (record { in_parent = rw is h; opens = rw is plain.opens; one_form = λ f. absurd (false≢true (sym plain.form ∙ ap is_form (sym is) ∙ f)) }, g.placed);
  };
}

later-next : (next : ℕ) (s : List Element) → AreNumbered next s → AreNumbered (suc next) s
unfolding AreNumbered
later-next next [] n = tt
later-next next (e ∷ s) n = (omega (arith, n.0), n.1)

-- an element that has no end tag
voids-in : (mode : Mode) (page : Page) (l : List Entry) (name : List ℕ) (attributes : List Attribute) → mode ≡ mode_of (names page.opened) → IsInOrder l page
    → IsInStep (record { page = popped (inserted page name attributes); formatting = l; mode = mode; form = form_of page.opened; fostering = false }) (popped (inserted page name attributes))
voids-in mode page l name attributes same g = record {
  formatting = l;
  is = rw same refl;
  good = record { within = g.within; numbered = later-next page.next page.opened g.numbered; placed = g.placed };
}

voids : (page : Page) (l : List Entry) (name : List ℕ) (attributes : List Attribute) → IsInOrder l page
    → IsInStep (record (parser page l) { page = popped (inserted page name attributes) }) (popped (inserted page name attributes))
voids page l name attributes g = voids-in (mode_of (names page.opened)) page l name attributes refl g

more-p : (k : Kind) → bounds_paragraph k ≡ true → ends_button_scope k ≡ true
more-p Caption h = refl
more-p Cell h = refl
more-p Button h = refl
more-p other h = absurd (false≢true h)

more-marked : (k : Kind) → has_marker k ≡ true → ends_scope k ≡ true
more-marked Caption h = refl
more-marked Cell h = refl
more-marked other h = absurd (false≢true h)

more-stops : (k : Kind) → bounds_item k ≡ true → ends_item_search k ≡ true
more-stops Search h = absurd (false≢true h)
more-stops other h = h

no-paragraph : (page : Page) → not (near (of_kind is_paragraph) bounds_paragraph (names page.opened)) ≡ true → without_paragraph page ≡ page
no-paragraph page h = rw (fewer-near (of_kind is_paragraph) bounds_paragraph ends_button_scope more-p (names page.opened) (not-true _ h)) refl

blocks : (k : Kind) (page : Page) (l : List Entry) (name : List ℕ) (attributes : List Attribute) → kind_of name ≡ k → IsPlain k
    → can_hold (kind_on_top (names page.opened)) k ≡ true → IsInOrder l page → not (near (of_kind is_paragraph) bounds_paragraph (names page.opened)) ≡ true
    → IsInStep (record (parser page l) { page = inserted (without_paragraph page) name attributes }) (inserted page name attributes)
blocks k page l name attributes is plain h g p = rw (no-paragraph page p) (opens k page l name attributes is plain h g)

plain_kind : {k : Kind} → ((m : Mode) → mode_at k m ≡ m) → has_marker k ≡ false → is_form k ≡ false → can_open k ≡ true → IsPlain k
plain_kind m a b d = record { mode = m; free = a; form = b; opens = d }

abbrev page_at : ℕ → List Element → List Edit → Page
page_at next opened edits = record { next = next; opened = opened; edits = edits }

-- implied end tags that a ruby part does not generate
no-implied : (but goes : Kind → Bool) → ((k : Kind) → goes k ≡ false → (is_implied k && not (but k)) ≡ false) → (next : ℕ) (s : List Element) (edits : List Edit)
    → (near (of_kind is_ruby) has_marker (names s) && top_of_kind goes (names s)) ≡ false
    → without_implied but (page_at next s edits) ≡ page_at next s edits
unfolding implied_ended near
no-implied but goes same next [] edits h = refl
no-implied but goes same next (e ∷ s) edits h = at (near (of_kind is_ruby) has_marker (names (e ∷ s))) (near (of_kind is_ruby) ends_scope (names (e ∷ s))) (fewer-near (of_kind is_ruby) has_marker ends_scope more-marked (names (e ∷ s))) (goes (kind_of e.name)) (is_implied (kind_of e.name) && not (but (kind_of e.name))) (same (kind_of e.name)) h
  where
    at : (a b : Bool) → (a ≡ false → b ≡ false) → (i j : Bool) → (i ≡ false → j ≡ false) → (a && i) ≡ false
        → (if b then page_at next (if j then implied_ended (of_kind but) s else e ∷ s) edits else page_at next (e ∷ s) edits) ≡ page_at next (e ∷ s) edits
    at a false f i j t h = refl
    at false true f i j t h = absurd (false≢true (sym (f refl)))
    at true true f i true t h = absurd (false≢true (sym (t h)))
    at true true f i false t h = refl

all-but-container : (k : Kind) → is_implied_before_text k ≡ false → (is_implied k && not (is_ruby_container k)) ≡ false
all-but-container RubyContainer h = refl
all-but-container other h = h

all-implied : (k : Kind) → is_implied k ≡ false → (is_implied k && not (no_kind k)) ≡ false
all-implied k h = rw h refl

starts : (k : Kind) (page : Page) (l : List Entry) (name : List ℕ) (attributes : List Attribute) → kind_of name ≡ k → can_hold (kind_on_top (names page.opened)) k ≡ true
    → IsInOrder l page → is_part k ≡ false → fits_flow k (names page.opened) ≡ true
    → IsInStep (start_tag k (parser page l) name attributes) (placed (is_void k) page name attributes)
unfolding AreNumbered ArePlaced form_of mode_of
starts Unknown page l name attributes is h g part f = absurd (false≢true f)
starts Caption page l name attributes is h g part f = absurd (false≢true (sym part))
starts ColumnGroup page l name attributes is h g part f = absurd (false≢true (sym part))
starts Column page l name attributes is h g part f = absurd (false≢true (sym part))
starts TableBody page l name attributes is h g part f = absurd (false≢true (sym part))
starts TableRow page l name attributes is h g part f = absurd (false≢true (sym part))
starts Cell page l name attributes is h g part f = absurd (false≢true (sym part))
starts Ordinary page l name attributes is h g part f = rw (nothing-lost (parser page l) l page.opened g.within) (opens Ordinary page l name attributes is (plain_kind (λ m. refl) refl refl refl) h g)
starts Ruby page l name attributes is h g part f = rw (nothing-lost (parser page l) l page.opened g.within) (opens Ruby page l name attributes is (plain_kind (λ m. refl) refl refl refl) h g)
starts Formatting page l name attributes is h g part f = rw (nothing-lost (parser page l) l page.opened g.within) (formats Formatting page l name attributes is (plain_kind (λ m. refl) refl refl refl) refl h g)
starts Anchor page l name attributes is h g part f =
    rw (none-named (of_kind is_anchor) l page.opened g.within (not-true _ f))
    (rw (nothing-lost (parser page l) l page.opened g.within) (formats Anchor page l name attributes is (plain_kind (λ m. refl) refl refl refl) refl h g))
starts NoBreak page l name attributes is h g part f =
    rw (nothing-lost (parser page l) l page.opened g.within)
    (rw (fewer-near (of_kind is_no_break) has_marker ends_scope more-marked (names page.opened) (not-true _ f)) (formats NoBreak page l name attributes is (plain_kind (λ m. refl) refl refl refl) refl h g))
starts Heading page l name attributes is h g part f =
    let p = and_parts (not (near (of_kind is_paragraph) bounds_paragraph (names page.opened))) (not (top_is (of_kind is_heading) (names page.opened))) f in
    rw (no-paragraph page p.0) (rw (not-true (top_is (of_kind is_heading) (names page.opened)) p.1) (opens Heading page l name attributes is (plain_kind (λ m. refl) refl refl refl) h g))
starts ListItem page l name attributes is h g part f =
    let p = and_parts (not (near (of_kind is_paragraph) bounds_paragraph (names page.opened))) (not (near (of_kind is_list_item) bounds_item (names page.opened))) f in
    rw (fewer-near (of_kind is_list_item) bounds_item ends_item_search more-stops (names page.opened) (not-true _ p.1))
    (rw (no-paragraph page p.0) (opens ListItem page l name attributes is (plain_kind (λ m. refl) refl refl refl) h g))
starts Description page l name attributes is h g part f =
    let p = and_parts (not (near (of_kind is_paragraph) bounds_paragraph (names page.opened))) (not (near (of_kind is_description) bounds_item (names page.opened))) f in
    rw (fewer-near (of_kind is_description) bounds_item ends_item_search more-stops (names page.opened) (not-true _ p.1))
    (rw (no-paragraph page p.0) (opens Description page l name attributes is (plain_kind (λ m. refl) refl refl refl) h g))
starts Button page l name attributes is h g part f =
    rw (fewer-near (of_kind is_button) has_marker ends_scope more-marked (names page.opened) (not-true _ f))
    (rw (nothing-lost (parser page l) l page.opened g.within) (opens Button page l name attributes is (plain_kind (λ m. refl) refl refl refl) h g))
starts Form page l name attributes is h g part f =
    let p = and_parts (not (near (of_kind is_paragraph) bounds_paragraph (names page.opened))) (not (near (of_kind is_form) no_kind (names page.opened))) f in
    let none : form_of page.opened ≡ None = no-form page.opened (not-true _ p.1) in
    rw (none, no-paragraph page p.0) (record {
      formatting = l;
      is = rw is refl;
      good = record {
        within = Skip _ (ap has_marker is) g.within;
        numbered = (omega arith, g.numbered);
        placed = (record { in_parent = rw is h; opens = rw is refl; one_form = λ x. none }, g.placed);
      };
    })
starts Table page l name attributes is h g part f =
    rw (no-paragraph page f) (record {
      formatting = l;
      is = rw is refl;
      good = record {
        within = Skip _ (ap has_marker is) g.within;
        numbered = (omega arith, g.numbered);
        placed = (record { in_parent = rw is h; opens = rw is refl; one_form = λ x. absurd (false≢true (ap is_form (sym is) ∙ x)) }, g.placed);
      };
    })
starts Void page l name attributes is h g part f = rw (nothing-lost (parser page l) l page.opened g.within) (voids page l name attributes g)
starts Rule page l name attributes is h g part f = rw (no-paragraph page f) (voids page l name attributes g)
starts RubyBase page l name attributes is h g part f =
    rw (no-implied no_kind is_implied all-implied page.next page.opened page.edits (not-true _ f)) (opens RubyBase page l name attributes is (plain_kind (λ m. refl) refl refl refl) h g)
starts RubyContainer page l name attributes is h g part f =
    rw (no-implied no_kind is_implied all-implied page.next page.opened page.edits (not-true _ f)) (opens RubyContainer page l name attributes is (plain_kind (λ m. refl) refl refl refl) h g)
starts RubyText page l name attributes is h g part f =
    rw (no-implied is_ruby_container is_implied_before_text all-but-container page.next page.opened page.edits (not-true _ f)) (opens RubyText page l name attributes is (plain_kind (λ m. refl) refl refl refl) h g)
starts Paragraph page l name attributes is h g part f = blocks Paragraph page l name attributes is (plain_kind (λ m. refl) refl refl refl) h g f
starts Division page l name attributes is h g part f = blocks Division page l name attributes is (plain_kind (λ m. refl) refl refl refl) h g f
starts Search page l name attributes is h g part f = blocks Search page l name attributes is (plain_kind (λ m. refl) refl refl refl) h g f
starts Dialog page l name attributes is h g part f = blocks Dialog page l name attributes is (plain_kind (λ m. refl) refl refl refl) h g f
starts ListBlock page l name attributes is h g part f = blocks ListBlock page l name attributes is (plain_kind (λ m. refl) refl refl refl) h g f
starts Block page l name attributes is h g part f = blocks Block page l name attributes is (plain_kind (λ m. refl) refl refl refl) h g f
starts Preformatted page l name attributes is h g part f = blocks Preformatted page l name attributes is (plain_kind (λ m. refl) refl refl refl) h g f

-- ---- in flow the mode is one of three

data IsFlowMode : Mode → Type 0 where
  InFlow : IsFlowMode InBody
  CaptionFlow : IsFlowMode InCaption
  CellFlow : IsFlowMode InCell

flow-step : (k : Kind) (mode : Mode) → is_part k ≡ false → holds_parts k ≡ false → IsFlowMode mode → mode_at k mode ≡ mode
flow-step Table mode part holder f = absurd (false≢true (sym holder))
flow-step Caption mode part holder f = absurd (false≢true (sym part))
flow-step ColumnGroup mode part holder f = absurd (false≢true (sym part))
flow-step Column mode part holder f = absurd (false≢true (sym part))
flow-step TableBody mode part holder f = absurd (false≢true (sym part))
flow-step TableRow mode part holder f = absurd (false≢true (sym part))
flow-step Cell mode part holder f = absurd (false≢true (sym part))
flow-step other mode part holder f = refl

flow-mode : (s : List Element) → ArePlaced s → holds_parts (kind_on_top (names s)) ≡ false → IsFlowMode (mode_of (names s))
unfolding ArePlaced mode_of
flow-mode [] p h = InFlow
flow-mode (e ∷ s) p h = at (kind_of e.name) (kind_on_top (names s)) p.0.opens h p.0.in_parent (flow-mode s p.1)
  where
    at : (k top : Kind) → can_open k ≡ true → holds_parts k ≡ false → can_hold top k ≡ true → (holds_parts top ≡ false → IsFlowMode (mode_of (names s))) → IsFlowMode (mode_at k (mode_of (names s)))
    at Caption top o h inside again = CaptionFlow
    at Cell top o h inside again = CellFlow
    at Table top o h inside again = absurd (false≢true (sym h))
    at ColumnGroup top o h inside again = absurd (false≢true (sym h))
    at TableBody top o h inside again = absurd (false≢true (sym h))
    at TableRow top o h inside again = absurd (false≢true (sym h))
    at Column top o h inside again = absurd (false≢true o)
    at other Table o h inside again = absurd (false≢true inside)
    at other TableBody o h inside again = absurd (false≢true inside)
    at other TableRow o h inside again = absurd (false≢true inside)
    at other ColumnGroup o h inside again = absurd (false≢true inside)
    at other top o h inside again = again refl

-- a part's parent
abbrev mode_for : Kind → Mode
mode_for Cell = InRow
mode_for TableRow = InTableBody
mode_for Column = InColumnGroup
mode_for other = InTable

parent-mode : (k top : Kind) (mode : Mode) → is_part k ≡ true → can_hold top k ≡ true → mode_at top mode ≡ mode_for k
parent-mode Caption Table mode part h = refl
parent-mode Caption top mode part h = absurd (false≢true h)
parent-mode ColumnGroup Table mode part h = refl
parent-mode ColumnGroup top mode part h = absurd (false≢true h)
parent-mode TableBody Table mode part h = refl
parent-mode TableBody top mode part h = absurd (false≢true h)
parent-mode TableRow TableBody mode part h = refl
parent-mode TableRow top mode part h = absurd (false≢true h)
parent-mode Cell TableRow mode part h = refl
parent-mode Cell top mode part h = absurd (false≢true h)
parent-mode Column ColumnGroup mode part h = refl
parent-mode Column top mode part h = absurd (false≢true h)
parent-mode other top mode part h = absurd (false≢true part)

part-mode : (k : Kind) (s : List Element) → is_part k ≡ true → can_hold (kind_on_top (names s)) k ≡ true → mode_of (names s) ≡ mode_for k
unfolding mode_of
part-mode k [] part h = absurd (false≢true (rw part at h))
part-mode k (e ∷ s) part h = parent-mode k (kind_of e.name) (mode_of (names s)) part h

flow-start : (mode : Mode) → IsFlowMode mode → (again : Again) (m : Parser) (name : List ℕ) (attributes : List Attribute) → is_part (kind_of name) ≡ false
    → by_mode mode again m (StartTag name attributes) ≡ in_body m (StartTag name attributes)
flow-start mode InFlow again m name attributes part = refl
flow-start mode CaptionFlow again m name attributes part = rw part refl
flow-start mode CellFlow again m name attributes part = rw part refl

flow-text : (mode : Mode) → IsFlowMode mode → (again : Again) (m : Parser) (text : List ℕ) → by_mode mode again m (Text text) ≡ in_body m (Text text)
flow-text mode InFlow again m text = refl
flow-text mode CaptionFlow again m text = refl
flow-text mode CellFlow again m text = refl

caption-ends : (k : Kind) (again : Again) (m : Parser) (name : List ℕ) → is_part k ≡ false → is_table k ≡ false → caption_end again k m name ≡ in_body m (EndTag name)
caption-ends Caption again m name part table = absurd (false≢true (sym part))
caption-ends ColumnGroup again m name part table = absurd (false≢true (sym part))
caption-ends Column again m name part table = absurd (false≢true (sym part))
caption-ends TableBody again m name part table = absurd (false≢true (sym part))
caption-ends TableRow again m name part table = absurd (false≢true (sym part))
caption-ends Cell again m name part table = absurd (false≢true (sym part))
caption-ends Table again m name part table = absurd (false≢true (sym table))
caption-ends other again m name part table = refl

cell-ends : (k : Kind) (again : Again) (m : Parser) (name : List ℕ) → is_part k ≡ false → is_table k ≡ false → cell_end again k m name ≡ in_body m (EndTag name)
cell-ends Caption again m name part table = absurd (false≢true (sym part))
cell-ends ColumnGroup again m name part table = absurd (false≢true (sym part))
cell-ends Column again m name part table = absurd (false≢true (sym part))
cell-ends TableBody again m name part table = absurd (false≢true (sym part))
cell-ends TableRow again m name part table = absurd (false≢true (sym part))
cell-ends Cell again m name part table = absurd (false≢true (sym part))
cell-ends Table again m name part table = absurd (false≢true (sym table))
cell-ends other again m name part table = refl

flow-end : (mode : Mode) → IsFlowMode mode → (again : Again) (m : Parser) (name : List ℕ) → is_part (kind_of name) ≡ false → is_table (kind_of name) ≡ false
    → by_mode mode again m (EndTag name) ≡ in_body m (EndTag name)
flow-end mode InFlow again m name part table = refl
flow-end mode CaptionFlow again m name part table = caption-ends (kind_of name) again m name part table
flow-end mode CellFlow again m name part table = cell-ends (kind_of name) again m name part table

-- ---- end tags

later-numbered : (next : ℕ) (e : Element) (s : List Element) → AreNumbered next (e ∷ s) → AreNumbered next s
unfolding AreNumbered
later-numbered next e [] n = n.1
later-numbered next e (d ∷ s) n = (omega (arith, n.0, n.1.0), n.1.1)

shuts : (next : ℕ) (e : Element) (s : List Element) (edits : List Edit) (l later : List Entry) (mode : Mode) → mode ≡ mode_of (names s) → is_form (kind_of e.name) ≡ false → IsWithin later s
    → IsInOrder l (page_at next (e ∷ s) edits)
    → IsInStep (record { page = page_at next s edits; formatting = later; mode = mode; form = form_of (e ∷ s); fostering = false }) (page_at next s edits)
unfolding form_of ArePlaced
shuts next e s edits l later mode same no_form w g = record {
  formatting = later;
  is = rw (same, no_form) refl;
  good = record { within = w; numbered = later-numbered next e s g.numbered; placed = g.placed.1 };
}

closes : (k : Kind) (next : ℕ) (e : Element) (s : List Element) (edits : List Edit) (l later : List Entry) → kind_of e.name ≡ k → IsPlain k → IsWithin later s → IsInOrder l (page_at next (e ∷ s) edits)
    → IsInStep (record (parser (page_at next (e ∷ s) edits) l) { page = page_at next s edits; formatting = later }) (page_at next s edits)
unfolding mode_of
closes k next e s edits l later is plain w g =
    shuts next e s edits l later (mode_of (names (e ∷ s))) (ap (λ x. mode_at x (mode_of (names s))) is ∙ plain.mode (mode_of (names s))) (ap is_form is ∙ plain.form) w g

-- the same when no entry goes with it
ordinary : (k : Kind) (next : ℕ) (e : Element) (s : List Element) (edits : List Edit) (l : List Entry) → kind_of e.name ≡ k → IsPlain k → is_formatting k ≡ false → IsInOrder l (page_at next (e ∷ s) edits)
    → IsInStep (record (parser (page_at next (e ∷ s) edits) l) { page = page_at next s edits }) (page_at next s edits)
ordinary k next e s edits l is plain other g = closes k next e s edits l l is plain (drops e l s (ap is_formatting is ∙ other) (ap has_marker is ∙ plain.free) g.within) g

adopts : (k : Kind) (next : ℕ) (e : Element) (s : List Element) (edits : List Edit) (l : List Entry) → IsWithin l (e ∷ s) → kind_of e.name ≡ k → IsPlain k → IsInOrder l (page_at next (e ∷ s) edits)
    → IsInStep (adoption_agency (parser (page_at next (e ∷ s) edits) l) e.name) (page_at next s edits)
unfolding has_node has_entry outer_loop last_named is_bounded inside furthest_block outside without_entry AreNumbered
adopts k next e s edits l (Mark d f w) is plain g = absurd (false≢true (sym (ap has_marker is ∙ plain.free) ∙ f))
adopts k next e s edits l (Skip d f w) is plain g =
    rw (bytes-itself d.name) (rw (none-within d.node l _ w (no-node d.node d.node _ g.numbered.1 (omega arith))) (closes k next d _ edits l l is plain w g))
adopts k next e s edits (x ∷ l) (Keep d f h w) is plain g =
    rw (bytes-itself d.name, itself d.node) (rw (itself d.node) (closes k next d _ edits (x ∷ l) l is plain w g))

ends-form : (next : ℕ) (e : Element) (s : List Element) (edits : List Edit) (l : List Entry) → kind_of e.name ≡ Form → IsInOrder l (page_at next (e ∷ s) edits)
    → IsInStep (end_tag Form (parser (page_at next (e ∷ s) edits) l) e.name) (page_at next s edits)
unfolding form_of has_node inside is_bounded without_node ArePlaced implied_ended mode_of
ends-form next e s edits l is g =
    let w : IsWithin l s = drops e l s (ap is_formatting is) (ap has_marker is) g.within in
    let none : form_of s ≡ None = g.placed.0.one_form (ap is_form is) in
    simp (is, itself e.node) (record {
      formatting = l;
      is = rw none refl;
      good = record { within = w; numbered = later-numbered next e s g.numbered; placed = g.placed.1 };
    })

ends : (k : Kind) (next : ℕ) (e : Element) (s : List Element) (edits : List Edit) (l : List Entry) → kind_of e.name ≡ k → can_open k ≡ true → is_part k ≡ false → is_table k ≡ false
    → IsInOrder l (page_at next (e ∷ s) edits)
    → IsInStep (end_tag k (parser (page_at next (e ∷ s) edits) l) e.name) (page_at next s edits)
unfolding near ended_by implied_ended outside popped_until
ends Caption next e s edits l is opens part table g = absurd (false≢true (sym part))
ends ColumnGroup next e s edits l is opens part table g = absurd (false≢true (sym part))
ends Column next e s edits l is opens part table g = absurd (false≢true (sym part))
ends TableBody next e s edits l is opens part table g = absurd (false≢true (sym part))
ends TableRow next e s edits l is opens part table g = absurd (false≢true (sym part))
ends Cell next e s edits l is opens part table g = absurd (false≢true (sym part))
ends Table next e s edits l is opens part table g = absurd (false≢true (sym table))
ends Unknown next e s edits l is opens part table g = absurd (false≢true opens)
ends Void next e s edits l is opens part table g = absurd (false≢true opens)
ends Rule next e s edits l is opens part table g = absurd (false≢true opens)
ends Formatting next e s edits l is opens part table g = adopts Formatting next e s edits l g.within is (plain_kind (λ m. refl) refl refl refl) g
ends Anchor next e s edits l is opens part table g = adopts Anchor next e s edits l g.within is (plain_kind (λ m. refl) refl refl refl) g
ends NoBreak next e s edits l is opens part table g = adopts NoBreak next e s edits l g.within is (plain_kind (λ m. refl) refl refl refl) g
ends Ordinary next e s edits l is opens part table g = simp (bytes-itself e.name, is, itself e.node) (ordinary Ordinary next e s edits l is (plain_kind (λ m. refl) refl refl refl) refl g)
ends Ruby next e s edits l is opens part table g = simp (bytes-itself e.name, is, itself e.node) (ordinary Ruby next e s edits l is (plain_kind (λ m. refl) refl refl refl) refl g)
ends RubyBase next e s edits l is opens part table g = simp (bytes-itself e.name, is, itself e.node) (ordinary RubyBase next e s edits l is (plain_kind (λ m. refl) refl refl refl) refl g)
ends RubyContainer next e s edits l is opens part table g = simp (bytes-itself e.name, is, itself e.node) (ordinary RubyContainer next e s edits l is (plain_kind (λ m. refl) refl refl refl) refl g)
ends RubyText next e s edits l is opens part table g = simp (bytes-itself e.name, is, itself e.node) (ordinary RubyText next e s edits l is (plain_kind (λ m. refl) refl refl refl) refl g)
ends Paragraph next e s edits l is opens part table g = simp is (ordinary Paragraph next e s edits l is (plain_kind (λ m. refl) refl refl refl) refl g)
ends ListItem next e s edits l is opens part table g = simp is (ordinary ListItem next e s edits l is (plain_kind (λ m. refl) refl refl refl) refl g)
ends Heading next e s edits l is opens part table g = simp is (ordinary Heading next e s edits l is (plain_kind (λ m. refl) refl refl refl) refl g)
ends Description next e s edits l is opens part table g = simp (bytes-itself e.name, is) (ordinary Description next e s edits l is (plain_kind (λ m. refl) refl refl refl) refl g)
ends Division next e s edits l is opens part table g = simp (bytes-itself e.name, is) (ordinary Division next e s edits l is (plain_kind (λ m. refl) refl refl refl) refl g)
ends Search next e s edits l is opens part table g = simp (bytes-itself e.name, is) (ordinary Search next e s edits l is (plain_kind (λ m. refl) refl refl refl) refl g)
ends Dialog next e s edits l is opens part table g = simp (bytes-itself e.name, is) (ordinary Dialog next e s edits l is (plain_kind (λ m. refl) refl refl refl) refl g)
ends ListBlock next e s edits l is opens part table g = simp (bytes-itself e.name, is) (ordinary ListBlock next e s edits l is (plain_kind (λ m. refl) refl refl refl) refl g)
ends Block next e s edits l is opens part table g = simp (bytes-itself e.name, is) (ordinary Block next e s edits l is (plain_kind (λ m. refl) refl refl refl) refl g)
ends Preformatted next e s edits l is opens part table g = simp (bytes-itself e.name, is) (ordinary Preformatted next e s edits l is (plain_kind (λ m. refl) refl refl refl) refl g)
ends Button next e s edits l is opens part table g = simp (bytes-itself e.name, is) (ordinary Button next e s edits l is (plain_kind (λ m. refl) refl refl refl) refl g)
ends Form next e s edits l is opens part table g = ends-form next e s edits l is g

-- ---- parts of tables and tables

abbrev own_mode : Kind → Mode
own_mode k = mode_at k InBody

fresh-part : (k : Kind) (page : Page) (l later : List Entry) (name : List ℕ) (attributes : List Attribute) → kind_of name ≡ k → can_hold (kind_on_top (names page.opened)) k ≡ true
    → is_form k ≡ false → can_open k ≡ true → mode_at k (mode_of (names page.opened)) ≡ own_mode k → IsWithin later (made page name attributes ∷ page.opened) → IsInOrder l page
    → IsInStep (record { page = inserted page name attributes; formatting = later; mode = own_mode k; form = form_of page.opened; fostering = false }) (inserted page name attributes)
unfolding AreNumbered ArePlaced form_of mode_of
fresh-part k page l later name attributes is h no_form o mode w g = record {
  formatting = later;
  is = rw (is, mode, no_form) refl;
  good = record {
    within = w;
    numbered = (omega arith, g.numbered);
    placed = (record { in_parent = rw is h; opens = rw is o; one_form = λ f. absurd (false≢true (sym no_form ∙ ap is_form (sym is) ∙ f)) }, g.placed);
  };
}

plain-part : (k : Kind) (page : Page) (l : List Entry) (name : List ℕ) (attributes : List Attribute) → kind_of name ≡ k → can_hold (kind_on_top (names page.opened)) k ≡ true
    → is_form k ≡ false → can_open k ≡ true → mode_at k (mode_of (names page.opened)) ≡ own_mode k → has_marker k ≡ false → IsInOrder l page
    → IsInStep (record { page = inserted page name attributes; formatting = l; mode = own_mode k; form = form_of page.opened; fostering = false }) (inserted page name attributes)
plain-part k page l name attributes is h no_form o mode free g = fresh-part k page l l name attributes is h no_form o mode (Skip _ (ap has_marker is ∙ free) g.within) g

marked-part : (k : Kind) (page : Page) (l : List Entry) (name : List ℕ) (attributes : List Attribute) → kind_of name ≡ k → can_hold (kind_on_top (names page.opened)) k ≡ true
    → is_form k ≡ false → can_open k ≡ true → mode_at k (mode_of (names page.opened)) ≡ own_mode k → has_marker k ≡ true → IsInOrder l page
    → IsInStep (record { page = inserted page name attributes; formatting = Marker ∷ l; mode = own_mode k; form = form_of page.opened; fostering = false }) (inserted page name attributes)
marked-part k page l name attributes is h no_form o mode mark g = fresh-part k page l (Marker ∷ l) name attributes is h no_form o mode (Mark _ (ap has_marker is ∙ mark) g.within) g

-- a part where it can stand, and the mode that it sets
part-starts : (top k : Kind) (next : ℕ) (e : Element) (s : List Element) (edits : List Edit) (l : List Entry) (name : List ℕ) (attributes : List Attribute) (again : Again) → kind_of e.name ≡ top → kind_of name ≡ k
    → holds top k ≡ true → IsInOrder l (page_at next (e ∷ s) edits)
    → IsInStep (by_mode (mode_of (names (e ∷ s))) again (parser (page_at next (e ∷ s) edits) l) (StartTag name attributes)) (placed (is_void k) (page_at next (e ∷ s) edits) name attributes)
unfolding mode_of back_to
part-starts Table Caption next e s edits l name attributes again at_top is h g = simp (at_top, is) (marked-part Caption (page_at next (e ∷ s) edits) l name attributes is (rw at_top refl) refl refl refl refl g)
part-starts Table ColumnGroup next e s edits l name attributes again at_top is h g = simp (at_top, is) (plain-part ColumnGroup (page_at next (e ∷ s) edits) l name attributes is (rw at_top refl) refl refl refl refl g)
part-starts Table TableBody next e s edits l name attributes again at_top is h g = simp (at_top, is) (plain-part TableBody (page_at next (e ∷ s) edits) l name attributes is (rw at_top refl) refl refl refl refl g)
part-starts ColumnGroup Column next e s edits l name attributes again at_top is h g = simp (at_top, is) (voids-in InColumnGroup (page_at next (e ∷ s) edits) l name attributes (rw at_top refl) g)
part-starts TableBody TableRow next e s edits l name attributes again at_top is h g = simp (at_top, is) (plain-part TableRow (page_at next (e ∷ s) edits) l name attributes is (rw at_top refl) refl refl refl refl g)
part-starts TableRow Cell next e s edits l name attributes again at_top is h g = simp (at_top, is) (marked-part Cell (page_at next (e ∷ s) edits) l name attributes is (rw at_top refl) refl refl refl refl g)
part-starts top k next e s edits l name attributes again at_top is h g = absurd (false≢true h)

-- the end of a part or a table
part-ends : (k : Kind) (next : ℕ) (e : Element) (s : List Element) (edits : List Edit) (l : List Entry) (again : Again) → kind_of e.name ≡ k → can_open k ≡ true → (is_part k || is_table k) ≡ true
    → IsInOrder l (page_at next (e ∷ s) edits)
    → IsInStep (by_mode (mode_of (names (e ∷ s))) again (parser (page_at next (e ∷ s) edits) l) (EndTag e.name)) (page_at next s edits)
unfolding mode_of near back_to popped_until implied_ended ArePlaced
part-ends Table next e s edits l again is o part g = simp is (shuts next e s edits l l (mode_of (names s)) refl (ap is_form is) (drops e l s (ap is_formatting is) (ap has_marker is) g.within) g)
part-ends Caption next e s edits l again is o part g = simp is (shuts next e s edits l (cleared l) InTable (sym (part-mode Caption s refl (subst (λ x. can_hold (kind_on_top (names s)) x ≡ true) is g.placed.0.in_parent))) (ap is_form is) (clears e l s (ap has_marker is) g.within) g)
part-ends ColumnGroup next e s edits l again is o part g = simp is (shuts next e s edits l l InTable (sym (part-mode ColumnGroup s refl (subst (λ x. can_hold (kind_on_top (names s)) x ≡ true) is g.placed.0.in_parent))) (ap is_form is) (drops e l s (ap is_formatting is) (ap has_marker is) g.within) g)
part-ends TableBody next e s edits l again is o part g = simp (is, bytes-itself e.name) (shuts next e s edits l l InTable (sym (part-mode TableBody s refl (subst (λ x. can_hold (kind_on_top (names s)) x ≡ true) is g.placed.0.in_parent))) (ap is_form is) (drops e l s (ap is_formatting is) (ap has_marker is) g.within) g)
part-ends TableRow next e s edits l again is o part g = simp is (shuts next e s edits l l InTableBody (sym (part-mode TableRow s refl (subst (λ x. can_hold (kind_on_top (names s)) x ≡ true) is g.placed.0.in_parent))) (ap is_form is) (drops e l s (ap is_formatting is) (ap has_marker is) g.within) g)
part-ends Cell next e s edits l again is o part g = simp (is, bytes-itself e.name) (shuts next e s edits l (cleared l) InRow (sym (part-mode Cell s refl (subst (λ x. can_hold (kind_on_top (names s)) x ≡ true) is g.placed.0.in_parent))) (ap is_form is) (clears e l s (ap has_marker is) g.within) g)
part-ends Column next e s edits l again is o part g = absurd (false≢true o)
part-ends other next e s edits l again is o part g = absurd (false≢true part)

-- ---- an item, and all

same-texts : (page : Page) (l : List Entry) (text : List ℕ) → IsInOrder l page → IsInStep (record (parser page l) { page = texted page text }) (texted page text)
same-texts page l text g = record { formatting = l; is = refl; good = record { within = g.within; numbered = g.numbered; placed = g.placed } }

texts-in : (k : Kind) (next : ℕ) (e : Element) (s : List Element) (edits : List Edit) (l : List Entry) (text : List ℕ) (again : Again) → kind_of e.name ≡ k → holds_parts k ≡ true → list_all is_space text ≡ true
    → IsInOrder l (page_at next (e ∷ s) edits)
    → by_mode (mode_of (names (e ∷ s))) again (parser (page_at next (e ∷ s) edits) l) (Text text) ≡ record (parser (page_at next (e ∷ s) edits) l) { page = texted (page_at next (e ∷ s) edits) text }
unfolding mode_of
texts-in Table next e s edits l text again is h space g = simp (is, space) refl
texts-in ColumnGroup next e s edits l text again is h space g = simp (is, space) refl
texts-in TableBody next e s edits l text again is h space g = simp (is, space) refl
texts-in TableRow next e s edits l text again is h space g = simp (is, space) refl
texts-in other next e s edits l text again is h space g = absurd (false≢true h)

part-cases : (b : Bool) → (b ≡ true) ⊎ (b ≡ false)
part-cases true = inl refl
part-cases false = inr refl

-- on a stack whose top holds parts, and on the others
text-in-flow : (next : ℕ) (s : List Element) (edits : List Edit) (l : List Entry) (text : List ℕ) (again : Again) → holds_parts (kind_on_top (names s)) ≡ false
    → IsInOrder l (page_at next s edits) → IsInStep (by_mode (mode_of (names s)) again (parser (page_at next s edits) l) (Text text)) (texted (page_at next s edits) text)
text-in-flow next s edits l text again flow g =
    rw (flow-text (mode_of (names s)) (flow-mode s g.placed flow) again (parser (page_at next s edits) l) text)
    (rw (nothing-lost (parser (page_at next s edits) l) l s g.within) (same-texts (page_at next s edits) l text g))

step-text : (next : ℕ) (s : List Element) (edits : List Edit) (l : List Entry) (text : List ℕ) (again : Again) → (if holds_parts (kind_on_top (names s)) then list_all is_space text else true) ≡ true
    → IsInOrder l (page_at next s edits) → IsInStep (by_mode (mode_of (names s)) again (parser (page_at next s edits) l) (Text text)) (texted (page_at next s edits) text)
step-text next [] edits l text again h g = text-in-flow next [] edits l text again refl g
step-text next (e ∷ s) edits l text again h g = at (part-cases (holds_parts (kind_of e.name)))
  where
    at : (holds_parts (kind_of e.name) ≡ true) ⊎ (holds_parts (kind_of e.name) ≡ false) → IsInStep (by_mode (mode_of (names (e ∷ s))) again (parser (page_at next (e ∷ s) edits) l) (Text text)) (texted (page_at next (e ∷ s) edits) text)
    at (inl holder) = rw (texts-in (kind_of e.name) next e s edits l text again refl holder (rw holder at h) g) (same-texts (page_at next (e ∷ s) edits) l text g)
    at (inr flow) = text-in-flow next (e ∷ s) edits l text again flow g

start-in-flow : (next : ℕ) (s : List Element) (edits : List Edit) (l : List Entry) (name : List ℕ) (attributes : List Attribute) (again : Again) → holds_parts (kind_on_top (names s)) ≡ false
    → (not (is_part (kind_of name)) && fits_flow (kind_of name) (names s)) ≡ true → IsInOrder l (page_at next s edits)
    → IsInStep (by_mode (mode_of (names s)) again (parser (page_at next s edits) l) (StartTag name attributes)) (placed (is_void (kind_of name)) (page_at next s edits) name attributes)
start-in-flow next s edits l name attributes again flow h g =
    let p = and_parts (not (is_part (kind_of name))) (fits_flow (kind_of name) (names s)) h in
    let part : is_part (kind_of name) ≡ false = not-true (is_part (kind_of name)) p.0 in
    rw (flow-start (mode_of (names s)) (flow-mode s g.placed flow) again (parser (page_at next s edits) l) name attributes part)
    (starts (kind_of name) (page_at next s edits) l name attributes refl (rw flow p.0) g part p.1)

step-start : (next : ℕ) (s : List Element) (edits : List Edit) (l : List Entry) (name : List ℕ) (attributes : List Attribute) (again : Again) → fits_in (kind_on_top (names s)) (kind_of name) (names s) ≡ true
    → IsInOrder l (page_at next s edits)
    → IsInStep (by_mode (mode_of (names s)) again (parser (page_at next s edits) l) (StartTag name attributes)) (placed (is_void (kind_of name)) (page_at next s edits) name attributes)
step-start next [] edits l name attributes again h g = start-in-flow next [] edits l name attributes again refl h g
step-start next (e ∷ s) edits l name attributes again h g = at (part-cases (holds_parts (kind_of e.name)))
  where
    at : (holds_parts (kind_of e.name) ≡ true) ⊎ (holds_parts (kind_of e.name) ≡ false)
        → IsInStep (by_mode (mode_of (names (e ∷ s))) again (parser (page_at next (e ∷ s) edits) l) (StartTag name attributes)) (placed (is_void (kind_of name)) (page_at next (e ∷ s) edits) name attributes)
    at (inl holder) = part-starts (kind_of e.name) (kind_of name) next e s edits l name attributes again refl refl (rw holder at h) g
    at (inr flow) = start-in-flow next (e ∷ s) edits l name attributes again flow (rw flow at h) g

no-holder : (k : Kind) → is_part k ≡ false → is_table k ≡ false → holds_parts k ≡ false
no-holder Table part table = absurd (false≢true (sym table))
no-holder ColumnGroup part table = absurd (false≢true (sym part))
no-holder TableBody part table = absurd (false≢true (sym part))
no-holder TableRow part table = absurd (false≢true (sym part))
no-holder other part table = refl

end-at : (next : ℕ) (e : Element) (s : List Element) (edits : List Edit) (l : List Entry) (again : Again) → can_open (kind_of e.name) ≡ true → IsInOrder l (page_at next (e ∷ s) edits)
    → (is_part (kind_of e.name) || is_table (kind_of e.name) ≡ true) ⊎ (is_part (kind_of e.name) || is_table (kind_of e.name) ≡ false)
    → IsInStep (by_mode (mode_of (names (e ∷ s))) again (parser (page_at next (e ∷ s) edits) l) (EndTag e.name)) (page_at next s edits)
end-at next e s edits l again o g (inl part) = part-ends (kind_of e.name) next e s edits l again refl o part g
end-at next e s edits l again o g (inr neither) =
    let p = or_parts (is_part (kind_of e.name)) (is_table (kind_of e.name)) neither in
    rw (flow-end (mode_of (names (e ∷ s))) (flow-mode (e ∷ s) g.placed (no-holder (kind_of e.name) p.0 p.1)) again (parser (page_at next (e ∷ s) edits) l) e.name p.0 p.1)
    (ends (kind_of e.name) next e s edits l refl o p.0 p.1 g)

step-end : (next : ℕ) (s : List Element) (edits : List Edit) (l : List Entry) (name : List ℕ) (again : Again) → can_open (kind_of name) ≡ true → top_is (named name) (names s) ≡ true
    → IsInOrder l (page_at next s edits) → IsInStep (by_mode (mode_of (names s)) again (parser (page_at next s edits) l) (EndTag name)) (popped (page_at next s edits))
step-end next [] edits l name again o h g = absurd (false≢true h)
step-end next (e ∷ s) edits l name again o h g =
    let same : e.name ≡ name = (bytes_eq-Decides e.name name).0 h in
    subst (λ x. IsInStep (by_mode (mode_of (names (e ∷ s))) again (parser (page_at next (e ∷ s) edits) l) (EndTag x)) (page_at next s edits)) same
    (end-at next e s edits l again (rw same o) g (part-cases (is_part (kind_of e.name) || is_table (kind_of e.name))))

steps : (page : Page) (l : List Entry) (item : Item) → IsInOrder l page → fits (names page.opened) item ≡ true → IsInStep (step (parser page l) item) (nest page item)
unfolding process nest fits
steps page l (StartTag name attributes) g h = step-start page.next page.opened page.edits l name attributes _ h g
steps page l (EndTag name) g h =
    let p = and_parts (can_open (kind_of name)) (top_is (named name) (names page.opened)) h in
    step-end page.next page.opened page.edits l name _ p.0 p.1 g
steps page l (Text text) g h = step-text page.next page.opened page.edits l text _ h g

pub names-after : (page : Page) (item : Item) → names (nest page item).opened ≡ open_after (names page.opened) item
unfolding nest open_after
names-after page (StartTag name attributes) = at (is_void (kind_of name))
  where
    at : (b : Bool) → names (placed b page name attributes).opened ≡ (if b then names page.opened else name ∷ names page.opened)
    at true = refl
    at false = refl
names-after page (EndTag name) = at page.opened
  where
    at : (s : List Element) → names (rest_of s) ≡ without_top (names s)
    at [] = refl
    at (e ∷ s) = refl
names-after page (Text text) = refl

keeps-step : (items : List Item) (m : Parser) (page : Page) → IsInStep m page → each_fits (names page.opened) items ≡ true → IsInStep (run m items) (nest_all page items)
unfolding run nest_all each_fits
keeps-step [] m page k h = k
keeps-step (item ∷ items) m page k h =
    let p = and_parts (fits (names page.opened) item) (each_fits (open_after (names page.opened) item) items) h in
    keeps-step items (step m item) (nest page item)
    (subst (λ x. IsInStep (step x item) (nest page item)) (sym k.is) (steps page k.formatting item k.good p.0))
    (ap (λ stack. each_fits stack items) (names-after page item) ∙ p.1)

pub names-after-all : (items : List Item) (page : Page) → names (nest_all page items).opened ≡ all_open_after (names page.opened) items
unfolding nest_all all_open_after
names-after-all [] page = refl
names-after-all (item ∷ items) page =
    names-after-all items (nest page item) ∙ ap (λ stack. all_open_after stack items) (names-after page item)

pub start-good : IsInOrder [] start_page
unfolding AreNumbered ArePlaced
start-good = record { within = Done; numbered = tt; placed = tt }

pub in-step : (page : Page) (l : List Entry) (items : List Item) → IsInOrder l page → each_fits (names page.opened) items ≡ true
    → IsInStep (run (parser page l) items) (nest_all page items)
in-step page l items g h = keeps-step items (parser page l) page (record { formatting = l; is = refl; good = g }) h

-- ---- in a host

pub returns-to : (items : List Item) (page : Page) (inner base : List Element) → page.opened ≡ inner ++ base → balanced (length inner) items ≡ true → (nest_all page items).opened ≡ base
unfolding nest_all nest balanced
returns-to [] page [] base is h = is
returns-to [] page (e ∷ inner) base is h = absurd (false≢true h)
returns-to (StartTag name attributes ∷ items) page inner base is h = at (is_void (kind_of name)) h (returns-to items (placed true page name attributes) inner base is) (returns-to items (placed false page name attributes) (made page name attributes ∷ inner) base (ap (λ o. made page name attributes ∷ o) is))
  where
    at : (b : Bool) → balanced (if b then length inner else suc (length inner)) items ≡ true
        → (balanced (length inner) items ≡ true → (nest_all (placed true page name attributes) items).opened ≡ base)
        → (balanced (suc (length inner)) items ≡ true → (nest_all (placed false page name attributes) items).opened ≡ base)
        → (nest_all (placed b page name attributes) items).opened ≡ base
    at true h one other = one h
    at false h one other = other h
returns-to (EndTag name ∷ items) page [] base is h = absurd (false≢true h)
returns-to (EndTag name ∷ items) page (e ∷ inner) base is h = returns-to items (popped page) inner base (ap rest_of is) h
returns-to (Text text ∷ items) page inner base is h = returns-to items (texted page text) inner base is h
