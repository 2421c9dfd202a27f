-- Hosts in which each fragment fits that fits by itself.
use Rattle.std.proofs.Common.{◌≡◌, ℕ, suc, Bool, true, false, List, [], ◌∷◌, ◌++◌, length, refl, ap, sym, ◌∙◌}
use Rattle.std.specs.Prelude.{◌&&◌, not, if◌then◌else◌}
use Rattle.std.specs.List.{list_all}
use Rattle.std.proofs.lemmas.Bool.{false≢true, not-true, and_parts, and_from}
use Rattle.html5tree.specs.Fitting.{all_fit, all_open_after, bounds_item, bounds_paragraph, can_open, each_fits, fits, fits_flow, fits_in, holds, holds_parts, is_implied_before_text, no_paragraph, none_implied, none_near, none_open, open_after}
use Rattle.html5tree.specs.Hosts.{allows, allows_item, closes_paragraph, is_flow_host, is_neutral, suits}
use Rattle.html5tree.specs.Items.{Item, balanced}
use Rattle.html5tree.specs.Items.Item.{EndTag, StartTag, Text}
use Rattle.html5tree.specs.declared.kinds.Kind.{Kind}
use Rattle.html5tree.specs.Names.{has_marker, is_anchor, is_button, is_description, is_form, is_heading, is_implied, is_list_item, is_no_break, is_paragraph, is_part, is_ruby, is_void, kind_of, no_kind, of_kind}
use Rattle.html5tree.specs.declared.kinds.Kind.TheVariants.{Anchor, Block, Button, Caption, Cell, Column, ColumnGroup, Description, Dialog, Division, Form, Formatting, Heading, ListBlock, ListItem, NoBreak, Ordinary, Paragraph, Preformatted, Ruby, RubyBase, RubyContainer, RubyText, Search, TableBody, TableRow, Unknown, Void}
use Rattle.html5tree.specs.Scopes.{kind_on_top, near, top_of_kind}

-- ---- what is near in a stack above another

near-above : (test : List ℕ → Bool) (ends : Kind → Bool) (inner stack : List (List ℕ)) → near test ends stack ≡ false → near test ends inner ≡ false
    → near test ends (inner ++ stack) ≡ false
unfolding near
near-above test ends [] stack below h = below
near-above test ends (name ∷ inner) stack below h = at (test name) (ends (kind_of name)) h (near-above test ends inner stack below)
  where
    at : (b c : Bool) → (if b then true else if c then false else near test ends inner) ≡ false → (near test ends inner ≡ false → near test ends (inner ++ stack) ≡ false)
        → (if b then true else if c then false else near test ends (inner ++ stack)) ≡ false
    at true c h again = absurd (false≢true (sym h))
    at false true h again = refl
    at false false h again = again h

near-past : (test ends : Kind → Bool) (name : List ℕ) (stack : List (List ℕ)) → test (kind_of name) ≡ false → near (of_kind test) ends stack ≡ false
    → near (of_kind test) ends (name ∷ stack) ≡ false
unfolding near
near-past test ends name stack other h = rw other (at (ends (kind_of name)))
  where
    at : (b : Bool) → (if b then false else near (of_kind test) ends stack) ≡ false
    at true = refl
    at false = h

not-from : (b : Bool) → b ≡ false → not b ≡ true
not-from b h = rw h refl

none-above : (test ends : Kind → Bool) (inner stack : List (List ℕ)) → near (of_kind test) ends stack ≡ false → none_near test ends inner ≡ true
    → none_near test ends (inner ++ stack) ≡ true
none-above test ends inner stack below h =
    not-from (near (of_kind test) ends (inner ++ stack)) (near-above (of_kind test) ends inner stack below (not-true (near (of_kind test) ends inner) h))

-- ---- the parts of a flow host

record IsCalm (stack : List (List ℕ)) : Type 0 where
  holder : holds_parts (kind_on_top stack) ≡ false
  heading : top_of_kind is_heading stack ≡ false
  paragraph : near (of_kind is_paragraph) bounds_paragraph stack ≡ false
  anchor : near (of_kind is_anchor) has_marker stack ≡ false
  no_break : near (of_kind is_no_break) has_marker stack ≡ false
  button : near (of_kind is_button) has_marker stack ≡ false
  list_item : near (of_kind is_list_item) bounds_item stack ≡ false
  description : near (of_kind is_description) bounds_item stack ≡ false
  ruby : near (of_kind is_ruby) has_marker stack ≡ false
  form : near (of_kind is_form) no_kind stack ≡ false

calm : (stack : List (List ℕ)) → is_flow_host stack ≡ true → IsCalm stack
unfolding is_flow_host
calm stack h =
    let p1 = and_parts (not (holds_parts (kind_on_top stack))) _ h in
    let p2 = and_parts (not (top_of_kind is_heading stack)) _ p1.1 in
    let p3 = and_parts (not (near (of_kind is_paragraph) bounds_paragraph stack)) _ p2.1 in
    let p4 = and_parts (not (near (of_kind is_anchor) has_marker stack)) _ p3.1 in
    let p5 = and_parts (not (near (of_kind is_no_break) has_marker stack)) _ p4.1 in
    let p6 = and_parts (not (near (of_kind is_button) has_marker stack)) _ p5.1 in
    let p7 = and_parts (not (near (of_kind is_list_item) bounds_item stack)) _ p6.1 in
    let p8 = and_parts (not (near (of_kind is_description) bounds_item stack)) _ p7.1 in
    let p9 = and_parts (not (near (of_kind is_ruby) has_marker stack)) _ p8.1 in
    record {
      holder = not-true _ p1.0;
      heading = not-true _ p2.0;
      paragraph = not-true _ p3.0;
      anchor = not-true _ p4.0;
      no_break = not-true _ p5.0;
      button = not-true _ p6.0;
      list_item = not-true _ p7.0;
      description = not-true _ p8.0;
      ruby = not-true _ p9.0;
      form = not-true _ p9.1;
    }

host-of : (stack : List (List ℕ)) → IsCalm stack → is_flow_host stack ≡ true
unfolding is_flow_host
host-of stack c = rw (c.holder, c.heading, c.paragraph, c.anchor, c.no_break, c.button, c.list_item, c.description, c.ruby, c.form) refl

-- ---- items above a host

implied-above : (test : Kind → Bool) (inner stack : List (List ℕ)) → near (of_kind is_ruby) has_marker stack ≡ false → none_implied test inner ≡ true
    → none_implied test (inner ++ stack) ≡ true
implied-above test [] stack none h = rw none refl
implied-above test (name ∷ inner) stack none h =
    at (near (of_kind is_ruby) has_marker (name ∷ inner)) (near (of_kind is_ruby) has_marker (name ∷ inner ++ stack)) (test (kind_of name))
    (near-above (of_kind is_ruby) has_marker (name ∷ inner) stack none) h
  where
    at : (a b i : Bool) → (a ≡ false → b ≡ false) → not (a && i) ≡ true → not (b && i) ≡ true
    at true true i f h = h
    at true false i f h = refl
    at false b i f h = rw (f refl) refl

heading-above : (inner stack : List (List ℕ)) → not (top_of_kind is_heading stack) ≡ true → not (top_of_kind is_heading inner) ≡ true
    → not (top_of_kind is_heading (inner ++ stack)) ≡ true
heading-above [] stack none h = none
heading-above (name ∷ inner) stack none h = h

nothing-above : (test ends : Kind → Bool) (inner stack : List (List ℕ)) → none_near test ends stack ≡ true → none_near test ends inner ≡ true
    → none_near test ends (inner ++ stack) ≡ true
nothing-above test ends inner stack none h = none-above test ends inner stack (not-true (near (of_kind test) ends stack) none) h

paragraph-above : (inner stack : List (List ℕ)) → no_paragraph stack ≡ true → no_paragraph inner ≡ true → no_paragraph (inner ++ stack) ≡ true
paragraph-above inner stack none h = nothing-above is_paragraph bounds_paragraph inner stack none h

both-above : (a b c d : Bool) → (a ≡ true → c ≡ true) → (b ≡ true → d ≡ true) → (a && b) ≡ true → (c && d) ≡ true
both-above a b c d f g h = let p = and_parts a b h in and_from c d (f p.0) (g p.1)

flow-above : (k : Kind) (inner stack : List (List ℕ)) → is_part k ≡ false → allows stack k ≡ true → fits_flow k inner ≡ true → fits_flow k (inner ++ stack) ≡ true
flow-above Unknown inner stack part a h = absurd (false≢true h)
flow-above Caption inner stack part a h = absurd (false≢true (sym part))
flow-above ColumnGroup inner stack part a h = absurd (false≢true (sym part))
flow-above Column inner stack part a h = absurd (false≢true (sym part))
flow-above TableBody inner stack part a h = absurd (false≢true (sym part))
flow-above TableRow inner stack part a h = absurd (false≢true (sym part))
flow-above Cell inner stack part a h = absurd (false≢true (sym part))
flow-above Ordinary inner stack part a h = refl
flow-above Ruby inner stack part a h = refl
flow-above Formatting inner stack part a h = refl
flow-above Void inner stack part a h = refl
flow-above Anchor inner stack part a h = nothing-above is_anchor has_marker inner stack a h
flow-above NoBreak inner stack part a h = nothing-above is_no_break has_marker inner stack a h
flow-above Button inner stack part a h = nothing-above is_button has_marker inner stack a h
flow-above Heading inner stack part a h =
    let p = and_parts (no_paragraph stack) (not (top_of_kind is_heading stack)) a in
    both-above (no_paragraph inner) (not (top_of_kind is_heading inner)) (no_paragraph (inner ++ stack)) (not (top_of_kind is_heading (inner ++ stack)))
    (paragraph-above inner stack p.0) (heading-above inner stack p.1) h
flow-above ListItem inner stack part a h =
    let p = and_parts (no_paragraph stack) (none_near is_list_item bounds_item stack) a in
    both-above (no_paragraph inner) (none_near is_list_item bounds_item inner) (no_paragraph (inner ++ stack)) (none_near is_list_item bounds_item (inner ++ stack))
    (paragraph-above inner stack p.0) (nothing-above is_list_item bounds_item inner stack p.1) h
flow-above Description inner stack part a h =
    let p = and_parts (no_paragraph stack) (none_near is_description bounds_item stack) a in
    both-above (no_paragraph inner) (none_near is_description bounds_item inner) (no_paragraph (inner ++ stack)) (none_near is_description bounds_item (inner ++ stack))
    (paragraph-above inner stack p.0) (nothing-above is_description bounds_item inner stack p.1) h
flow-above Form inner stack part a h =
    let p = and_parts (no_paragraph stack) (none_near is_form no_kind stack) a in
    both-above (no_paragraph inner) (none_near is_form no_kind inner) (no_paragraph (inner ++ stack)) (none_near is_form no_kind (inner ++ stack))
    (paragraph-above inner stack p.0) (nothing-above is_form no_kind inner stack p.1) h
flow-above RubyBase inner stack part a h = implied-above is_implied inner stack (not-true _ a) h
flow-above RubyContainer inner stack part a h = implied-above is_implied inner stack (not-true _ a) h
flow-above RubyText inner stack part a h = implied-above is_implied_before_text inner stack (not-true _ a) h
flow-above other inner stack part a h = paragraph-above inner stack a h

-- an element in flow
apart-above : (k : Kind) (inner stack : List (List ℕ)) → allows stack k ≡ true → (not (is_part k) && fits_flow k inner) ≡ true
    → (not (is_part k) && fits_flow k (inner ++ stack)) ≡ true
apart-above k inner stack a h =
    let p = and_parts (not (is_part k)) (fits_flow k inner) h in
    and_from (not (is_part k)) (fits_flow k (inner ++ stack)) p.0 (flow-above k inner stack (not-true (is_part k) p.0) a p.1)

start-above : (k : Kind) (inner stack : List (List ℕ)) → holds_parts (kind_on_top stack) ≡ false → allows stack k ≡ true
    → fits_in (kind_on_top inner) k inner ≡ true → fits_in (kind_on_top (inner ++ stack)) k (inner ++ stack) ≡ true
start-above k [] stack holder a h = rw holder (apart-above k [] stack a h)
start-above k (name ∷ inner) stack holder a h = at (holds_parts (kind_of name)) h
  where
    at : (b : Bool) → (if b then holds (kind_of name) k else not (is_part k) && fits_flow k (name ∷ inner)) ≡ true
        → (if b then holds (kind_of name) k else not (is_part k) && fits_flow k (name ∷ inner ++ stack)) ≡ true
    at true h = h
    at false h = apart-above k (name ∷ inner) stack a h

item-above : (item : Item) (inner stack : List (List ℕ)) → holds_parts (kind_on_top stack) ≡ false → allows_item stack item ≡ true
    → fits inner item ≡ true → fits (inner ++ stack) item ≡ true
unfolding fits
item-above (StartTag name attributes) inner stack holder a h = start-above (kind_of name) inner stack holder a h
item-above (EndTag name) [] stack holder a h = absurd (false≢true (and_parts (can_open (kind_of name)) false h).1)
item-above (EndTag name) (inner_name ∷ inner) stack holder a h = h
item-above (Text text) [] stack holder a h = rw holder refl
item-above (Text text) (name ∷ inner) stack holder a h = h

open-above : (item : Item) (inner stack : List (List ℕ)) → fits inner item ≡ true → open_after (inner ++ stack) item ≡ open_after inner item ++ stack
unfolding fits open_after
open-above (StartTag name attributes) inner stack h = at (is_void (kind_of name))
  where
    at : (b : Bool) → (if b then inner ++ stack else name ∷ inner ++ stack) ≡ (if b then inner else name ∷ inner) ++ stack
    at true = refl
    at false = refl
open-above (EndTag name) [] stack h = absurd (false≢true (and_parts (can_open (kind_of name)) false h).1)
open-above (EndTag name) (inner_name ∷ inner) stack h = refl
open-above (Text text) inner stack h = refl

each-above : (items : List Item) (inner stack : List (List ℕ)) → holds_parts (kind_on_top stack) ≡ false → list_all (allows_item stack) items ≡ true
    → each_fits inner items ≡ true → each_fits (inner ++ stack) items ≡ true
unfolding each_fits
each-above [] inner stack holder a h = refl
each-above (item ∷ items) inner stack holder a h =
    let p = and_parts (fits inner item) (each_fits (open_after inner item) items) h in
    let q = and_parts (allows_item stack item) (list_all (allows_item stack) items) a in
    and_from (fits (inner ++ stack) item) (each_fits (open_after (inner ++ stack) item) items) (item-above item inner stack holder q.0 p.0)
    (ap (λ o. each_fits o items) (open-above item inner stack p.0) ∙ each-above items (open_after inner item) stack holder q.1 p.1)

pub fits-above : (inner stack : List (List ℕ)) (items : List Item) → suits stack items ≡ true → each_fits inner items ≡ true
    → each_fits (inner ++ stack) items ≡ true
unfolding suits
fits-above inner stack items s h =
    let p = and_parts (not (holds_parts (kind_on_top stack))) (list_all (allows_item stack) items) s in
    each-above items inner stack (not-true _ p.0) p.1 h

pub fragment-above : (stack : List (List ℕ)) (items : List Item) → suits stack items ≡ true → all_fit [] items ≡ true → each_fits stack items ≡ true
fragment-above stack items s h = fits-above [] stack items s (and_parts (each_fits [] items) (none_open (all_open_after [] items)) h).0

-- ---- a flow host suits all items

calm-allows : (k : Kind) (stack : List (List ℕ)) → IsCalm stack → allows stack k ≡ true
calm-allows Unknown stack c = refl
calm-allows Caption stack c = refl
calm-allows ColumnGroup stack c = refl
calm-allows Column stack c = refl
calm-allows TableBody stack c = refl
calm-allows TableRow stack c = refl
calm-allows Cell stack c = refl
calm-allows Ordinary stack c = refl
calm-allows Ruby stack c = refl
calm-allows Formatting stack c = refl
calm-allows Void stack c = refl
calm-allows Anchor stack c = rw c.anchor refl
calm-allows NoBreak stack c = rw c.no_break refl
calm-allows Button stack c = rw c.button refl
calm-allows Heading stack c = rw (c.paragraph, c.heading) refl
calm-allows ListItem stack c = rw (c.paragraph, c.list_item) refl
calm-allows Description stack c = rw (c.paragraph, c.description) refl
calm-allows Form stack c = rw (c.paragraph, c.form) refl
calm-allows RubyBase stack c = rw c.ruby refl
calm-allows RubyContainer stack c = rw c.ruby refl
calm-allows RubyText stack c = rw c.ruby refl
calm-allows other stack c = rw c.paragraph refl

calm-allows-item : (item : Item) (stack : List (List ℕ)) → IsCalm stack → allows_item stack item ≡ true
calm-allows-item (StartTag name attributes) stack c = calm-allows (kind_of name) stack c
calm-allows-item (EndTag name) stack c = refl
calm-allows-item (Text text) stack c = refl

calm-allows-all : (items : List Item) (stack : List (List ℕ)) → IsCalm stack → list_all (allows_item stack) items ≡ true
calm-allows-all [] stack c = refl
calm-allows-all (item ∷ items) stack c =
    and_from (allows_item stack item) (list_all (allows_item stack) items) (calm-allows-item item stack c) (calm-allows-all items stack c)

pub flow-suits : (stack : List (List ℕ)) (items : List Item) → is_flow_host stack ≡ true → suits stack items ≡ true
unfolding suits
flow-suits stack items host =
    let c = calm stack host in
    and_from (not (holds_parts (kind_on_top stack))) (list_all (allows_item stack) items) (not-from (holds_parts (kind_on_top stack)) c.holder)
    (calm-allows-all items stack c)

-- ---- balance

balanced-of : (items : List Item) (stack : List (List ℕ)) → each_fits stack items ≡ true → none_open (all_open_after stack items) ≡ true
    → balanced (length stack) items ≡ true
unfolding each_fits all_open_after fits open_after balanced
balanced-of [] [] h o = refl
balanced-of [] (name ∷ stack) h o = absurd (false≢true o)
balanced-of (StartTag name attributes ∷ items) stack h o =
    at (is_void (kind_of name)) (and_parts (fits stack (StartTag name attributes)) (each_fits (open_after stack (StartTag name attributes)) items) h).1 o
    (balanced-of items stack) (balanced-of items (name ∷ stack))
  where
    at : (b : Bool) → each_fits (if b then stack else name ∷ stack) items ≡ true → none_open (all_open_after (if b then stack else name ∷ stack) items) ≡ true
        → (each_fits stack items ≡ true → none_open (all_open_after stack items) ≡ true → balanced (length stack) items ≡ true)
        → (each_fits (name ∷ stack) items ≡ true → none_open (all_open_after (name ∷ stack) items) ≡ true → balanced (suc (length stack)) items ≡ true)
        → balanced (if b then length stack else suc (length stack)) items ≡ true
    at true h o one other = one h o
    at false h o one other = other h o
balanced-of (EndTag name ∷ items) [] h o =
    absurd (false≢true (and_parts (can_open (kind_of name)) false (and_parts (fits [] (EndTag name)) (each_fits [] items) h).0).1)
balanced-of (EndTag name ∷ items) (top ∷ stack) h o = balanced-of items stack (and_parts (fits (top ∷ stack) (EndTag name)) (each_fits stack items) h).1 o
balanced-of (Text text ∷ items) stack h o = balanced-of items stack (and_parts (fits stack (Text text)) (each_fits stack items) h).1 o

pub fragment-balanced : (items : List Item) → all_fit [] items ≡ true → balanced 0 items ≡ true
fragment-balanced items h =
    let p = and_parts (each_fits [] items) (none_open (all_open_after [] items)) h in
    balanced-of items [] p.0 p.1

-- ---- which hosts are flow hosts

pub none-open-host : is_flow_host [] ≡ true
unfolding is_flow_host near
none-open-host = refl

cell-calm : (k : Kind) (name : List ℕ) (stack : List (List ℕ)) → kind_of name ≡ k → has_marker k ≡ true → near (of_kind is_form) no_kind stack ≡ false
    → IsCalm (name ∷ stack)
unfolding near
cell-calm Caption name stack is h none = record {
  holder = rw is refl;
  heading = rw is refl;
  paragraph = rw is refl;
  anchor = rw is refl;
  no_break = rw is refl;
  button = rw is refl;
  list_item = rw is refl;
  description = rw is refl;
  ruby = rw is refl;
  form = rw is none;
}
cell-calm Cell name stack is h none = record {
  holder = rw is refl;
  heading = rw is refl;
  paragraph = rw is refl;
  anchor = rw is refl;
  no_break = rw is refl;
  button = rw is refl;
  list_item = rw is refl;
  description = rw is refl;
  ruby = rw is refl;
  form = rw is none;
}
cell-calm other name stack is h none = absurd (false≢true h)

pub cell-host : (name : List ℕ) (stack : List (List ℕ)) → has_marker (kind_of name) ≡ true → none_near is_form no_kind stack ≡ true
    → is_flow_host (name ∷ stack) ≡ true
cell-host name stack h none = host-of (name ∷ stack) (cell-calm (kind_of name) name stack refl h (not-true _ none))

record IsNeutral (k : Kind) : Type 0 where
  holder : holds_parts k ≡ false
  heading : is_heading k ≡ false
  paragraph : is_paragraph k ≡ false
  anchor : is_anchor k ≡ false
  no_break : is_no_break k ≡ false
  button : is_button k ≡ false
  list_item : is_list_item k ≡ false
  description : is_description k ≡ false
  ruby : is_ruby k ≡ false
  form : is_form k ≡ false

neutral_of : {k : Kind} → holds_parts k ≡ false → is_heading k ≡ false → is_paragraph k ≡ false → is_anchor k ≡ false → is_no_break k ≡ false → is_button k ≡ false
    → is_list_item k ≡ false → is_description k ≡ false → is_ruby k ≡ false → is_form k ≡ false → IsNeutral k
neutral_of a b c d e f g h i j =
    record { holder = a; heading = b; paragraph = c; anchor = d; no_break = e; button = f; list_item = g; description = h; ruby = i; form = j }

neutral : (k : Kind) → is_neutral k ≡ true → IsNeutral k
neutral Ordinary h = neutral_of refl refl refl refl refl refl refl refl refl refl
neutral Formatting h = neutral_of refl refl refl refl refl refl refl refl refl refl
neutral Division h = neutral_of refl refl refl refl refl refl refl refl refl refl
neutral Search h = neutral_of refl refl refl refl refl refl refl refl refl refl
neutral Dialog h = neutral_of refl refl refl refl refl refl refl refl refl refl
neutral ListBlock h = neutral_of refl refl refl refl refl refl refl refl refl refl
neutral Block h = neutral_of refl refl refl refl refl refl refl refl refl refl
neutral Preformatted h = neutral_of refl refl refl refl refl refl refl refl refl refl
neutral other h = absurd (false≢true h)

pub neutral-host : (name : List ℕ) (stack : List (List ℕ)) → is_neutral (kind_of name) ≡ true → is_flow_host stack ≡ true
    → is_flow_host (name ∷ stack) ≡ true
neutral-host name stack h host =
    let n = neutral (kind_of name) h in
    let c = calm stack host in
    host-of (name ∷ stack) (record {
      holder = n.holder;
      heading = n.heading;
      paragraph = near-past is_paragraph bounds_paragraph name stack n.paragraph c.paragraph;
      anchor = near-past is_anchor has_marker name stack n.anchor c.anchor;
      no_break = near-past is_no_break has_marker name stack n.no_break c.no_break;
      button = near-past is_button has_marker name stack n.button c.button;
      list_item = near-past is_list_item bounds_item name stack n.list_item c.list_item;
      description = near-past is_description bounds_item name stack n.description c.description;
      ruby = near-past is_ruby has_marker name stack n.ruby c.ruby;
      form = near-past is_form no_kind name stack n.form c.form;
    })

-- ---- a `p`, an `a` and a `li` in a flow host

paragraph-allows : (k : Kind) (name : List ℕ) (stack : List (List ℕ)) → kind_of name ≡ Paragraph → IsCalm stack → allows (name ∷ stack) k ≡ not (closes_paragraph k)
unfolding near
paragraph-allows Unknown name stack is c = refl
paragraph-allows Caption name stack is c = refl
paragraph-allows ColumnGroup name stack is c = refl
paragraph-allows Column name stack is c = refl
paragraph-allows TableBody name stack is c = refl
paragraph-allows TableRow name stack is c = refl
paragraph-allows Cell name stack is c = refl
paragraph-allows Ordinary name stack is c = refl
paragraph-allows Ruby name stack is c = refl
paragraph-allows Formatting name stack is c = refl
paragraph-allows Void name stack is c = refl
paragraph-allows Anchor name stack is c = rw (is, c.anchor) refl
paragraph-allows NoBreak name stack is c = rw (is, c.no_break) refl
paragraph-allows Button name stack is c = rw (is, c.button) refl
paragraph-allows Heading name stack is c = rw is refl
paragraph-allows ListItem name stack is c = rw is refl
paragraph-allows Description name stack is c = rw is refl
paragraph-allows Form name stack is c = rw is refl
paragraph-allows RubyBase name stack is c = rw (is, c.ruby) refl
paragraph-allows RubyContainer name stack is c = rw (is, c.ruby) refl
paragraph-allows RubyText name stack is c = rw (is, c.ruby) refl
paragraph-allows other name stack is c = rw is refl

anchor-allows : (k : Kind) (name : List ℕ) (stack : List (List ℕ)) → kind_of name ≡ Anchor → IsCalm stack → allows (name ∷ stack) k ≡ not (is_anchor k)
unfolding near
anchor-allows Unknown name stack is c = refl
anchor-allows Caption name stack is c = refl
anchor-allows ColumnGroup name stack is c = refl
anchor-allows Column name stack is c = refl
anchor-allows TableBody name stack is c = refl
anchor-allows TableRow name stack is c = refl
anchor-allows Cell name stack is c = refl
anchor-allows Ordinary name stack is c = refl
anchor-allows Ruby name stack is c = refl
anchor-allows Formatting name stack is c = refl
anchor-allows Void name stack is c = refl
anchor-allows Anchor name stack is c = rw is refl
anchor-allows NoBreak name stack is c = rw (is, c.no_break) refl
anchor-allows Button name stack is c = rw (is, c.button) refl
anchor-allows Heading name stack is c = rw (is, c.paragraph) refl
anchor-allows ListItem name stack is c = rw (is, c.paragraph, c.list_item) refl
anchor-allows Description name stack is c = rw (is, c.paragraph, c.description) refl
anchor-allows Form name stack is c = rw (is, c.paragraph, c.form) refl
anchor-allows RubyBase name stack is c = rw (is, c.ruby) refl
anchor-allows RubyContainer name stack is c = rw (is, c.ruby) refl
anchor-allows RubyText name stack is c = rw (is, c.ruby) refl
anchor-allows other name stack is c = rw (is, c.paragraph) refl

item-allows : (k : Kind) (name : List ℕ) (stack : List (List ℕ)) → kind_of name ≡ ListItem → IsCalm stack → allows (name ∷ stack) k ≡ not (is_list_item k)
unfolding near
item-allows Unknown name stack is c = refl
item-allows Caption name stack is c = refl
item-allows ColumnGroup name stack is c = refl
item-allows Column name stack is c = refl
item-allows TableBody name stack is c = refl
item-allows TableRow name stack is c = refl
item-allows Cell name stack is c = refl
item-allows Ordinary name stack is c = refl
item-allows Ruby name stack is c = refl
item-allows Formatting name stack is c = refl
item-allows Void name stack is c = refl
item-allows Anchor name stack is c = rw (is, c.anchor) refl
item-allows NoBreak name stack is c = rw (is, c.no_break) refl
item-allows Button name stack is c = rw (is, c.button) refl
item-allows Heading name stack is c = rw (is, c.paragraph) refl
item-allows ListItem name stack is c = rw (is, c.paragraph) refl
item-allows Description name stack is c = rw (is, c.paragraph) refl
item-allows Form name stack is c = rw (is, c.paragraph, c.form) refl
item-allows RubyBase name stack is c = rw (is, c.ruby) refl
item-allows RubyContainer name stack is c = rw (is, c.ruby) refl
item-allows RubyText name stack is c = rw (is, c.ruby) refl
item-allows other name stack is c = rw (is, c.paragraph) refl

pub paragraph-host : (k : Kind) (name : List ℕ) (stack : List (List ℕ)) → kind_of name ≡ Paragraph → is_flow_host stack ≡ true
    → allows (name ∷ stack) k ≡ not (closes_paragraph k)
paragraph-host k name stack is host = paragraph-allows k name stack is (calm stack host)

pub anchor-host : (k : Kind) (name : List ℕ) (stack : List (List ℕ)) → kind_of name ≡ Anchor → is_flow_host stack ≡ true
    → allows (name ∷ stack) k ≡ not (is_anchor k)
anchor-host k name stack is host = anchor-allows k name stack is (calm stack host)

pub item-host : (k : Kind) (name : List ℕ) (stack : List (List ℕ)) → kind_of name ≡ ListItem → is_flow_host stack ≡ true
    → allows (name ∷ stack) k ≡ not (is_list_item k)
item-host k name stack is host = item-allows k name stack is (calm stack host)
