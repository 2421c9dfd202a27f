-- What calls of a nested writer answer.
use Rattle.std.proofs.Common.{◌≡◌, ℕ, List, [], ◌∷◌, ◌++◌, Result, Ok, Err, ◌<◌, suc, drop, length, arith, take, refl, ap, sym, subst, ◌∙◌, append-nil, append_assoc}
use Rattle.std.specs.Prelude.{OnErr, OnOk}
use Rattle.html5tree.specs.Items.{Item}
use Rattle.html5tree.specs.Fitting.{all_open_after}
use Rattle.html5tree.specs.Items.Item.{EndTag}
use Rattle.html5tree.specs.Nested.{Nested, nested_after, nothing_nested}
use Rattle.html5tree.specs.Normal.{Plan, end_tags, fitted, normal, normal_above, open_after_fitted, plan_of, written}
use Rattle.html5write.specs.Pieces.{Piece}
use Rattle.html5write.specs.declared.error.WriteError.{WriteError}
use Rattle.html5nested.specs.Adding.{Adds, AddsFitted, IsPassed}
use Rattle.html5nested.specs.NestedPages.{IsFinished, IsMadeOf, NestedPage, Nests, nothing_written}
use Rattle.html5nested.specs.PageItems.{has_no_comment, items_of}
use Rattle.html5nested.proofs.Added.{adds-nothing, adds-page}

-- nothing was handed in
pub made-none : (limit : ℕ) → IsMadeOf (nothing_written limit) []
unfolding items_of has_no_comment
made-none limit = record { made = λ more. refl; no_comment = refl }

pub made-new : (pieces : List Piece) (nested : Nested) (limit : ℕ) → pieces ≡ [] → nested ≡ nothing_nested limit
    → IsMadeOf (record { pieces = pieces; opened = nested.opened; limit = nested.limit }) []
made-new pieces nested limit none same =
    subst (λ (n : Nested). IsMadeOf (record { pieces = pieces; opened = n.opened; limit = n.limit }) []) (sym same)
    (subst (λ (p : List Piece). IsMadeOf (record { pieces = p; opened = []; limit = limit }) []) (sym none) (made-none limit))

-- one more item
pub made-more : (before after : NestedPage) (item : Item) → Adds before.pieces after.pieces (fitted before.limit before.opened item)
    → after.opened ≡ open_after_fitted before.limit before.opened item → after.limit ≡ before.limit
    → (items : List Item) → IsMadeOf before items → IsMadeOf after (items ++ item ∷ [])
unfolding normal_above
made-more before after item adds opens limits items made = record {
  made = λ more.
      ap (λ l. items_of after.pieces ++ normal_above l after.opened more) limits
      ∙ (ap (λ s. items_of after.pieces ++ normal_above before.limit s more) opens
      ∙ (ap (λ l. l ++ normal_above before.limit (open_after_fitted before.limit before.opened item) more) adds.items
      ∙ (append_assoc (items_of before.pieces) (fitted before.limit before.opened item) (normal_above before.limit (open_after_fitted before.limit before.opened item) more)
      ∙ (made.made (item ∷ more)
      ∙ (ap (normal before.limit) (sym (append_assoc items (item ∷ []) more))
      ∙ ap (λ l. normal l ((items ++ item ∷ []) ++ more)) (sym limits))))));
  no_comment = adds.no_comment made.no_comment;
}

-- the end tags of the open elements
pub made-all : (before : NestedPage) (page : List Piece) (items : List Item) → Adds before.pieces page (end_tags before.opened) → IsMadeOf before items
    → IsFinished before.limit page items
unfolding normal_above
made-all before page items adds made = record {
  made = adds.items ∙ (made.made [] ∙ ap (normal before.limit) (append-nil items));
  no_comment = adds.no_comment made.no_comment;
}

pub nests-ok : (before after : NestedPage) (item : Item) → Adds before.pieces after.pieces (fitted before.limit before.opened item)
    → after.opened ≡ open_after_fitted before.limit before.opened item → after.limit ≡ before.limit → Nests (Ok tt) before after item
nests-ok before after item adds opens limits =
    record { added = adds; opened = opens; limit = limits; made = made-more before after item adds opens limits; unchanged = tt }

pub nests-error : (error : WriteError) (before after : NestedPage) (item : Item) → after ≡ before → Nests (Err error) before after item
nests-error error before after item same =
    record { added = tt; opened = tt; limit = ap (λ (p : NestedPage). p.limit) same; made = tt; unchanged = same }

-- the end tags of the open elements
pub ends-open : (old new : List (List ℕ)) (name : List ℕ) → old ≡ name ∷ drop 1 old → new ≡ drop 1 old → end_tags old ≡ EndTag name ∷ end_tags new
ends-open old new name is rest = ap end_tags is ∙ ap (λ l. EndTag name ∷ end_tags l) (sym rest)

pub none-open : (opened : List (List ℕ)) → opened ≡ [] → end_tags opened ≡ []
none-open opened none = ap end_tags none

pub fewer-open : (old new : List (List ℕ)) (name : List ℕ) → old ≡ name ∷ drop 1 old → new ≡ drop 1 old → length new < length old
fewer-open [] new name is rest = cc
fewer-open (first ∷ old) new name is rest = subst (λ n. n < suc (length old)) (sym (ap length rest)) (omega arith)

-- a tag of another name
pub passed-unknown : (nested : Nested) (item : Item) → fitted nested.limit nested.opened item ≡ []
    → all_open_after nested.opened (fitted nested.limit nested.opened item) ≡ open_after_fitted nested.limit nested.opened item → IsPassed nested item
unfolding all_open_after
passed-unknown nested item none after = record { nothing = none; opened = sym after ∙ ap (all_open_after nested.opened) none }

pub adds-passed : (page : List Piece) (nested : Nested) (item : Item) → IsPassed nested item → AddsFitted page page nested nested item
adds-passed page nested item passed =
    record { added = subst (λ l. Adds page page l) (sym passed.nothing) (adds-nothing page); opened = sym passed.opened; limit = refl }

-- what follows from a plan
pub adds-planned : (result : Result (Unit {0}) WriteError) (before after : List Piece) (item : Item) (plan : Plan) (was now : Nested)
    → plan ≡ plan_of was.limit was.opened item → now ≡ nested_after was item → (closed : List (List ℕ)) → closed ≡ now.closed
    → OnOk result ((stack : List (List ℕ)) → closed ≡ take plan.closes stack → Adds before after (written plan stack item))
    → OnOk result (AddsFitted before after was now item)
adds-planned (Ok u) before after item plan was now planned follows closed names adds = record {
  added = subst (λ q. Adds before after (written q was.opened item)) planned
      (adds was.opened (names ∙ (ap (λ (n : Nested). n.closed) follows ∙ ap (λ (q : Plan). take q.closes was.opened) (sym planned))));
  opened = ap (λ (n : Nested). n.opened) follows;
  limit = ap (λ (n : Nested). n.limit) follows;
}
adds-planned (Err error) before after item plan was now planned follows closed names adds = tt

-- an item that was written to a part of the page
pub nests-put : (before after : NestedPage) (item : Item) (was now : Nested) (none part : List Piece) → was.opened ≡ before.opened → was.limit ≡ before.limit
    → none ≡ [] → AddsFitted none part was now item → after.pieces ≡ before.pieces ++ part → after.opened ≡ now.opened → after.limit ≡ now.limit
    → Nests (Ok tt) before after item
nests-put before after item was now none part opens limits empty adds page opened limit =
    nests-ok before after item
    (adds-page before.pieces part after.pieces (fitted before.limit before.opened item)
    (subst (λ l. Adds l part (fitted before.limit before.opened item)) empty
    (subst (λ l. Adds none part l) (ap (λ l. fitted l was.opened item) limits ∙ ap (λ s. fitted before.limit s item) opens) adds.added))
    page)
    (opened ∙ (adds.opened ∙ (ap (λ l. open_after_fitted l was.opened item) limits ∙ ap (λ s. open_after_fitted before.limit s item) opens)))
    (limit ∙ (adds.limit ∙ limits))
