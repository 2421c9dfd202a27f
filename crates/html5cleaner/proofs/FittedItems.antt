-- What holds of items and of the open elements holds of what the normaliser writes, where it holds of what that can write.
use Rattle.std.proofs.Common.{◌≡◌, ℕ, zero, suc, Bool, true, false, List, [], ◌∷◌, ◌++◌, drop, length, take, refl, ap, sym, ◌∙◌, subst}
use Rattle.std.specs.Prelude.{◌&&◌, codes, filter, not, nat_le, nat_lt, if◌then◌else◌}
use Rattle.std.specs.List.{list_all}
use Rattle.std.specs.Str.{bytes_eq}
use Rattle.markup5ever.proofs.NameOrder.{bytes_eq-same}
use Rattle.html5tree.specs.Fitting.{holds_parts, is_space, open_after}
use Rattle.html5tree.specs.Items.{Attribute, Item, text_before}
use Rattle.html5tree.specs.Items.Item.{EndTag, StartTag, Text}
use Rattle.html5tree.specs.Names.{is_form, is_part, is_table, is_void, kind_of, named, no_kind, of_kind}
use Rattle.html5tree.specs.Normal.{Plan, after_written, bounds_end, cell_plan, cell_text_plan, closing, count_inside, dropped, end_plan, end_tags, fitted, flow_closes, flow_plan, inside_context, is_context, is_ended, kept, limited, lone_end_plan, moved, open_after_fitted, opened, paragraph_closes, parents, parents_in, part_plan, plan_of, stack_after, start_plan, start_tags, table_plan, text_plan, written, written_first, written_last}
use Rattle.html5tree.specs.Scopes.{kind_on_top, near}
use Rattle.html5tree.specs.Tables.{after_space, leading_space}
use Rattle.html5tree.specs.declared.kinds.Kind.{Kind}
use Rattle.html5tree.specs.declared.kinds.Kind.TheVariants.{Cell, Column, Form, Paragraph, Table, TableBody, TableRow, Unknown, Void}
use Rattle.html5tree.specs.declared.plans.Written.{Written}
use Rattle.html5tree.specs.declared.plans.Written.TheVariants.{EmptyParagraph, Itself, LineBreak, Nothing, Parted, WhiteSpace}
use Rattle.html5cleaner.specs.Shape.{all_fitted, open_after_all}

abbrev pub AllOf : {X : Type 0} → (X → Type 0) → List X → Type 0
AllOf P [] = Unit {0}
AllOf P (x ∷ xs) = P x × AllOf P xs

pub all-append : {X : Type 0} (P : X → Type 0) (xs ys : List X) → AllOf P xs → AllOf P ys → AllOf P (xs ++ ys)
all-append P [] ys f g = g
all-append P (x ∷ xs) ys f g = (f.0, all-append P xs ys f.1 g)

all-taken : {X : Type 0} (P : X → Type 0) (n : ℕ) (xs : List X) → AllOf P xs → AllOf P (take n xs)
all-taken P zero xs f = tt
all-taken P (suc n) [] f = tt
all-taken P (suc n) (x ∷ xs) f = (f.0, all-taken P n xs f.1)

all-left : {X : Type 0} (P : X → Type 0) (n : ℕ) (xs : List X) → AllOf P xs → AllOf P (drop n xs)
all-left P zero xs f = f
all-left P (suc n) [] f = tt
all-left P (suc n) (x ∷ xs) f = all-left P n xs f.1

-- it holds of both tags of an element
abbrev pub OfElement : (Item → Type 0) → List ℕ → Type 0
OfElement P name = P (StartTag name []) × P (EndTag name)

-- it holds of what the normaliser can write where it holds of what it was handed
pub record IsClosed (P : Item → Type 0) : Type 0 where
  pub front : (text : List ℕ) → P (Text text) → P (Text (leading_space text))
  pub rest : (text : List ℕ) → P (Text text) → P (Text (after_space text))
  pub space : (text : List ℕ) → P (Text text) → P (Text (filter is_space text))
  pub group : OfElement P (codes "colgroup")
  pub body : OfElement P (codes "tbody")
  pub row : OfElement P (codes "tr")
  pub cell : OfElement P (codes "td")
  pub opens : (name : List ℕ) (attributes : List Attribute) → P (StartTag name attributes) → is_void (kind_of name) ≡ false → P (EndTag name)
  pub paragraph : (name : List ℕ) → kind_of name ≡ Paragraph → P (EndTag name) → OfElement P (codes "p")
  pub break : P (EndTag (codes "br")) → P (StartTag (codes "br") [])

-- the item is written, or nothing
abbrev IsItself : Written → Type 0
IsItself Itself = Unit {0}
IsItself Nothing = Unit {0}
IsItself other = ⊥

module _ (P : Item → Type 0) (closed : IsClosed P) where
  -- it holds of the end tags of these
  abbrev pub OfNames : List (List ℕ) → Type 0
  OfNames names = AllOf (λ name. P (EndTag name)) names

  abbrev OfParents : List (List ℕ) → Type 0
  OfParents names = AllOf (OfElement P) names

  of-end_tags : (names : List (List ℕ)) → OfNames names → AllOf P (end_tags names)
  of-end_tags [] f = tt
  of-end_tags (name ∷ names) f = (f.0, of-end_tags names f.1)

  of-start_tags : (names : List (List ℕ)) → OfParents names → AllOf P (start_tags names)
  of-start_tags [] f = tt
  of-start_tags (name ∷ names) f = (f.0.0, of-start_tags names f.1)

  of-opened : (names stack : List (List ℕ)) → OfParents names → OfNames stack → OfNames (opened names stack)
  unfolding opened
  of-opened [] stack f g = g
  of-opened (name ∷ names) stack f g = of-opened names (name ∷ stack) f.1 (f.0.1, g)

  -- ---- the implied parents

  of-parents : (top part : Kind) → OfParents (parents top part)
  of-parents Table Column = (closed.group, tt)
  of-parents Table TableRow = (closed.body, tt)
  of-parents Table Cell = (closed.body, (closed.row, tt))
  of-parents TableBody Cell = (closed.row, tt)
  of-parents top part = tt

  -- the item is written, or nothing, and parents are opened of which it holds
  abbrev IsPlain : Plan → Type 0
  IsPlain plan = OfParents plan.opens × IsItself plan.writes

  plain-part : (part : Kind) (stack : List (List ℕ)) → IsPlain (part_plan part stack)
  plain-part part stack = at (near (of_kind (is_context part)) no_kind stack)
    where
      at : (b : Bool) → IsPlain (if b then kept (inside_context part stack) (parents_in stack part) else dropped)
      at true = (of-parents (kind_on_top (drop (inside_context part stack) stack)) part, tt)
      at false = (tt, tt)

  plain-cell : (stack : List (List ℕ)) → IsPlain (cell_plan stack)
  plain-cell stack = (
    all-append (OfElement P) (parents_in stack Cell) (codes "td" ∷ []) (of-parents (kind_on_top (drop (inside_context Cell stack) stack)) Cell) (closed.cell, tt),
    tt,
  )

  plain-table : (kind : Kind) (stack : List (List ℕ)) → IsPlain (table_plan kind stack)
  plain-table Unknown stack = (tt, tt)
  plain-table Form stack = (tt, tt)
  plain-table Table stack = (tt, tt)
  plain-table kind stack = plain-cell stack

  plain-form : (b : Bool) (stack : List (List ℕ)) → IsPlain (if b then dropped else kept (paragraph_closes stack) [])
  plain-form true stack = (tt, tt)
  plain-form false stack = (tt, tt)

  plain-flow : (kind : Kind) (stack : List (List ℕ)) → IsPlain (flow_plan kind stack)
  plain-flow Unknown stack = (tt, tt)
  plain-flow Form stack = plain-form (near (of_kind is_form) no_kind stack) stack
  plain-flow kind stack = (tt, tt)

  plain-start : (kind : Kind) (stack : List (List ℕ)) → IsPlain (start_plan kind stack)
  plain-start kind stack = at (is_part kind) (holds_parts (kind_on_top stack))
    where
      at : (part holds : Bool) → IsPlain (if part then part_plan kind stack else if holds then table_plan kind stack else flow_plan kind stack)
      at true holds = plain-part kind stack
      at false true = plain-table kind stack
      at false false = plain-flow kind stack

  -- ---- what is written by a plan

  of-written : (first last : List Item) (closes : ℕ) (opens stack : List (List ℕ)) → AllOf P first → OfNames stack → OfParents opens → AllOf P last
      → AllOf P (first ++ (end_tags (take closes stack) ++ (start_tags opens ++ last)))
  of-written first last closes opens stack f s o l =
      all-append P first (end_tags (take closes stack) ++ (start_tags opens ++ last)) f
      (all-append P (end_tags (take closes stack)) (start_tags opens ++ last)
      (of-end_tags (take closes stack) (all-taken (λ name. P (EndTag name)) closes stack s))
      (all-append P (start_tags opens) last (of-start_tags opens o) l))

  of-moved : (closes : ℕ) (opens stack : List (List ℕ)) → OfNames stack → OfParents opens → OfNames (opened opens (drop closes stack))
  of-moved closes opens stack s o = of-opened opens (drop closes stack) o (all-left (λ name. P (EndTag name)) closes stack s)

  -- the output for an item, and the elements open after it
  abbrev Writes : List (List ℕ) → Item → Plan → Type 0
  Writes stack item plan = AllOf P (written plan stack item) × OfNames (stack_after plan stack item)

  writes-nothing : (stack : List (List ℕ)) (item : Item) (closes : ℕ) (opens : List (List ℕ)) → OfNames stack → OfParents opens
      → Writes stack item (record { closes = closes; opens = opens; writes = Nothing })
  writes-nothing stack item closes opens s o = (of-written [] [] closes opens stack tt s o tt, of-moved closes opens stack s o)

  writes-dropped : (stack : List (List ℕ)) (item : Item) → OfNames stack → Writes stack item dropped
  writes-dropped stack item s = writes-nothing stack item 0 [] s tt

  limited-writes : (limit : ℕ) (stack : List (List ℕ)) (item : Item) (plan : Plan) → OfNames stack → Writes stack item plan → Writes stack item (limited limit stack item plan)
  limited-writes limit stack item plan s w = at (nat_le (length (stack_after plan stack item)) limit)
    where
      at : (b : Bool) → Writes stack item (if b then plan else dropped)
      at true = w
      at false = writes-dropped stack item s

  -- ---- a start tag

  of-own : (void : Bool) (stack : List (List ℕ)) (name : List ℕ) (attributes : List Attribute) → is_void (kind_of name) ≡ void → P (StartTag name attributes) → OfNames stack
      → OfNames (if void then stack else name ∷ stack)
  of-own true stack name attributes is p s = s
  of-own false stack name attributes is p s = (closed.opens name attributes p is, s)

  start-written : (stack : List (List ℕ)) (name : List ℕ) (attributes : List Attribute) (closes : ℕ) (opens : List (List ℕ)) (writes : Written)
      → OfNames stack → P (StartTag name attributes) → OfParents opens → IsItself writes
      → Writes stack (StartTag name attributes) (record { closes = closes; opens = opens; writes = writes })
  unfolding open_after
  start-written stack name attributes closes opens Itself s p o i = (
    of-written [] (StartTag name attributes ∷ []) closes opens stack tt s o (p, tt),
    of-own (is_void (kind_of name)) (opened opens (drop closes stack)) name attributes refl p (of-moved closes opens stack s o),
  )
  start-written stack name attributes closes opens Nothing s p o i = writes-nothing stack (StartTag name attributes) closes opens s o
  start-written stack name attributes closes opens Parted s p o i = absurd i
  start-written stack name attributes closes opens WhiteSpace s p o i = absurd i
  start-written stack name attributes closes opens EmptyParagraph s p o i = absurd i
  start-written stack name attributes closes opens LineBreak s p o i = absurd i

  start-writes : (limit : ℕ) (stack : List (List ℕ)) (name : List ℕ) (attributes : List Attribute) → OfNames stack → P (StartTag name attributes)
      → Writes stack (StartTag name attributes) (limited limit stack (StartTag name attributes) (start_plan (kind_of name) stack))
  start-writes limit stack name attributes s p =
      let plan : Plan = start_plan (kind_of name) stack in
      let plain = plain-start (kind_of name) stack in
      limited-writes limit stack (StartTag name attributes) plan s (start-written stack name attributes plan.closes plan.opens plan.writes s p plain.0 plain.1)

  -- ---- an end tag

  break-writes : (limit : ℕ) (stack : List (List ℕ)) (name : List ℕ) → OfNames stack → P (StartTag (codes "br") [])
      → Writes stack (EndTag name) (limited limit stack (EndTag name) (record (start_plan Void stack) { writes = LineBreak }))
  break-writes limit stack name s p =
      let plan : Plan = start_plan Void stack in
      let o = (plain-start Void stack).0 in
      limited-writes limit stack (EndTag name) (record plan { writes = LineBreak }) s (
        of-written [] (StartTag (codes "br") [] ∷ []) plan.closes plan.opens stack tt s o (p, tt),
        of-moved plan.closes plan.opens stack s o,
      )

  empty-where : (stack : List (List ℕ)) (name : List ℕ) (b : Bool) → OfNames stack → OfElement P (codes "p")
      → Writes stack (EndTag name) (if b then record dropped { writes = EmptyParagraph } else dropped)
  empty-where stack name true s p =
      (of-written [] (StartTag (codes "p") [] ∷ EndTag (codes "p") ∷ []) 0 [] stack tt s tt (p.0, (p.1, tt)), of-moved 0 [] stack s tt)
  empty-where stack name false s p = writes-dropped stack (EndTag name) s

  lone-writes : (limit : ℕ) (kind : Kind) (stack : List (List ℕ)) (name : List ℕ) → (kind ≡ Paragraph → OfElement P (codes "p")) → OfNames stack
      → Writes stack (EndTag name) (lone_end_plan limit kind stack)
  lone-writes limit Paragraph stack name p s = empty-where stack name (not (holds_parts (kind_on_top stack)) && nat_lt (length stack) limit) s (p refl)
  lone-writes limit kind stack name p s = writes-dropped stack (EndTag name) s

  end-by : (limit : ℕ) (stack : List (List ℕ)) (name : List ℕ) (breaks near_one : Bool) → named (codes "br") name ≡ breaks → OfNames stack → P (EndTag name)
      → Writes stack (EndTag name) (if breaks then limited limit stack (EndTag name) (record (start_plan Void stack) { writes = LineBreak })
      else if near_one then closing (suc (count_inside (is_ended (kind_of name) name) stack)) else lone_end_plan limit (kind_of name) stack)
  end-by limit stack name true near_one is s p = break-writes limit stack name s (closed.break (subst (λ n. P (EndTag n)) (bytes_eq-same name (codes "br") is) p))
  end-by limit stack name false true is s p = writes-nothing stack (EndTag name) (suc (count_inside (is_ended (kind_of name) name) stack)) [] s tt
  end-by limit stack name false false is s p = lone-writes limit (kind_of name) stack name (λ kind. closed.paragraph name kind p) s

  end-writes : (limit : ℕ) (stack : List (List ℕ)) (name : List ℕ) → OfNames stack → P (EndTag name) → Writes stack (EndTag name) (end_plan limit (kind_of name) stack name)
  end-writes limit stack name s p =
      end-by limit stack name (named (codes "br") name) (near (is_ended (kind_of name) name) (bounds_end (kind_of name)) stack) refl s p

  -- ---- a text

  of-text : (text : List ℕ) → P (Text text) → AllOf P (text_before text [])
  of-text [] p = tt
  of-text (c ∷ text) p = (p, tt)

  cell-text : (limit : ℕ) (stack : List (List ℕ)) (text : List ℕ) (fits : Bool) → OfNames stack → P (Text text)
      → Writes stack (Text text) (if fits then record (cell_plan stack) { writes = Parted } else record dropped { writes = WhiteSpace })
  cell-text limit stack text true s p =
      let plan : Plan = cell_plan stack in
      let o = (plain-cell stack).0 in (
        of-written (text_before (leading_space text) []) (Text (after_space text) ∷ []) plan.closes plan.opens stack (of-text (leading_space text) (closed.front text p)) s o
            (closed.rest text p, tt),
        of-moved plan.closes plan.opens stack s o,
      )
  cell-text limit stack text false s p = (of-written [] (Text (filter is_space text) ∷ []) 0 [] stack tt s tt (closed.space text p, tt), of-moved 0 [] stack s tt)

  text-by : (limit : ℕ) (stack : List (List ℕ)) (text : List ℕ) (celled : Bool) → OfNames stack → P (Text text)
      → Writes stack (Text text) (if celled then cell_text_plan limit stack (cell_plan stack) else kept 0 [])
  unfolding open_after
  text-by limit stack text true s p = cell-text limit stack text (nat_le (length (moved (cell_plan stack) stack)) limit) s p
  text-by limit stack text false s p = (of-written [] (Text text ∷ []) 0 [] stack tt s tt (p, tt), of-moved 0 [] stack s tt)

  -- ---- an item, and all

  of-item : (limit : ℕ) (stack : List (List ℕ)) (item : Item) → OfNames stack → P item → Writes stack item (plan_of limit stack item)
  unfolding plan_of
  of-item limit stack (StartTag name attributes) s p = start-writes limit stack name attributes s p
  of-item limit stack (EndTag name) s p = end-writes limit stack name s p
  of-item limit stack (Text text) s p = text-by limit stack text (holds_parts (kind_on_top stack) && not (list_all is_space text)) s p

  pub of-all : (limit : ℕ) (stack : List (List ℕ)) (items : List Item) → OfNames stack → AllOf P items
      → AllOf P (all_fitted limit stack items) × OfNames (open_after_all limit stack items)
  unfolding all_fitted open_after_all
  of-all limit stack [] s p = (tt, s)
  of-all limit stack (item ∷ items) s p =
      let here = of-item limit stack item s p.0 in
      let later = of-all limit (open_after_fitted limit stack item) items here.1 p.1 in
      (all-append P (fitted limit stack item) (all_fitted limit (open_after_fitted limit stack item) items) here.0 later.0, later.1)
