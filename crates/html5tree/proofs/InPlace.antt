-- Items that leave open what was open put their nesting at the end of the innermost open element.
use Rattle.std.proofs.Common.{◌≡◌, ℕ, suc, Bool, true, false, List, [], ◌∷◌, length, refl, ap, ◌∙◌}
use Rattle.std.specs.Prelude.{if◌then◌else◌}
use Rattle.std.proofs.lemmas.Bool.{false≢true}
use Rattle.html5tree.specs.Document.{children}
use Rattle.html5tree.specs.Hosts.{followed_by, put_at}
use Rattle.html5tree.specs.Items.{Attribute, Item, balanced}
use Rattle.html5tree.specs.Items.Item.{EndTag, StartTag, Text}
use Rattle.html5tree.specs.Names.{is_void, kind_of}
use Rattle.html5tree.specs.Tree.{Level, Path, Tree, empty_path, nested, nested_one, nesting, path_closed, path_opened, path_placed, with_text}
use Rattle.html5tree.specs.Tree.Tree.{Characters, Element, Nothing}
use Rattle.html5tree.proofs.Texts.{text-none, text-twice}

-- a text after two trees
text-followed : (tree t : Tree) (text : List ℕ) → with_text (followed_by tree t) text ≡ followed_by tree (with_text t text)
unfolding followed_by
text-followed tree Nothing [] = text-none tree
text-followed tree Nothing (c ∷ text) = refl
text-followed tree (Element before name attributes children) [] = refl
text-followed tree (Element before name attributes children) (c ∷ text) = refl
text-followed tree (Characters Nothing start) text = text-twice tree start text
text-followed tree (Characters (Element before name attributes children) start) text = refl
text-followed tree (Characters (Characters before more) start) text = refl

-- a path inside another
levels_in : Tree → List Level → List Level → List Level
levels_in tree base [] = base
levels_in tree base (level ∷ []) = record { before = followed_by tree level.before; name = level.name; attributes = level.attributes } ∷ base
levels_in tree base (level ∷ levels) = level ∷ levels_in tree base levels

inner_in : Tree → Tree → List Level → Tree
inner_in tree inner [] = followed_by tree inner
inner_in tree inner (level ∷ levels) = inner

abbrev path_in : Path → Path → Path
path_in path part = record { inner = inner_in path.inner part.inner part.levels; levels = levels_in path.inner path.levels part.levels }

opened-in : (path part : Path) (name : List ℕ) (attributes : List Attribute) → path_opened (path_in path part) name attributes ≡ path_in path (path_opened part name attributes)
unfolding levels_in inner_in
opened-in path part name attributes = at part.levels
  where
    at : (levels : List Level) → path_opened (path_in path (record { inner = part.inner; levels = levels })) name attributes
        ≡ path_in path (path_opened (record { inner = part.inner; levels = levels }) name attributes)
    at [] = refl
    at (level ∷ levels) = refl

closed-in : (path : Path) (inner : Tree) (level : Level) (levels : List Level)
    → path_closed (path_in path (record { inner = inner; levels = level ∷ levels })) ≡ path_in path (path_closed (record { inner = inner; levels = level ∷ levels }))
unfolding levels_in inner_in followed_by
closed-in path inner level [] = refl
closed-in path inner level (next ∷ levels) = refl

placed-in : (b : Bool) (path part : Path) (name : List ℕ) (attributes : List Attribute) → path_placed b (path_in path part) name attributes ≡ path_in path (path_placed b part name attributes)
placed-in true path part name attributes =
    ap path_closed (opened-in path part name attributes)
    ∙ closed-in path Nothing (record { before = part.inner; name = name; attributes = attributes }) part.levels
placed-in false path part name attributes = opened-in path part name attributes

text-in : (path part : Path) (text : List ℕ) → nested_one (path_in path part) (Text text) ≡ path_in path (nested_one part (Text text))
unfolding levels_in inner_in nested_one
text-in path part text = at part.levels
  where
    at : (levels : List Level) → nested_one (path_in path (record { inner = part.inner; levels = levels })) (Text text)
        ≡ path_in path (nested_one (record { inner = part.inner; levels = levels }) (Text text))
    at [] = ap (λ t. record { inner = t; levels = path.levels }) (text-followed path.inner part.inner text)
    at (level ∷ levels) = refl

placed-length : (b : Bool) (part : Path) (name : List ℕ) (attributes : List Attribute)
    → length (path_placed b part name attributes).levels ≡ (if b then length part.levels else suc (length part.levels))
placed-length true part name attributes = refl
placed-length false part name attributes = refl

abbrev part_at : Tree → List Level → Path
part_at inner levels = record { inner = inner; levels = levels }

nested-in : (items : List Item) (path : Path) (inner : Tree) (levels : List Level) → balanced (length levels) items ≡ true
    → nested (path_in path (part_at inner levels)) items ≡ path_in path (nested (part_at inner levels) items)
unfolding nested nested_one balanced
nested-in [] path inner levels h = refl
nested-in (StartTag name attributes ∷ items) path inner levels h =
    let later : Path = path_placed (is_void (kind_of name)) (part_at inner levels) name attributes in
    ap (λ x. nested x items) (placed-in (is_void (kind_of name)) path (part_at inner levels) name attributes)
    ∙ nested-in items path later.inner later.levels (ap (λ n. balanced n items) (placed-length (is_void (kind_of name)) (part_at inner levels) name attributes) ∙ h)
nested-in (Text text ∷ items) path inner levels h =
    ap (λ x. nested x items) (text-in path (part_at inner levels) text) ∙ nested-in items path (with_text inner text) levels h
nested-in (EndTag name ∷ items) path inner [] h = absurd (false≢true h)
nested-in (EndTag name ∷ items) path inner (level ∷ levels) h =
    ap (λ x. nested x items) (closed-in path inner level levels)
    ∙ nested-in items path (Element level.before level.name level.attributes inner) levels h

-- and that leaves no level open
nested-levels : (items : List Item) (inner : Tree) (levels : List Level) → balanced (length levels) items ≡ true → (nested (part_at inner levels) items).levels ≡ []
unfolding nested nested_one balanced
nested-levels [] inner [] h = refl
nested-levels [] inner (level ∷ levels) h = absurd (false≢true h)
nested-levels (StartTag name attributes ∷ items) inner levels h =
    let later : Path = path_placed (is_void (kind_of name)) (part_at inner levels) name attributes in
    nested-levels items later.inner later.levels (ap (λ n. balanced n items) (placed-length (is_void (kind_of name)) (part_at inner levels) name attributes) ∙ h)
nested-levels (Text text ∷ items) inner levels h = nested-levels items (with_text inner text) levels h
nested-levels (EndTag name ∷ items) inner [] h = absurd (false≢true h)
nested-levels (EndTag name ∷ items) inner (level ∷ levels) h = nested-levels items (Element level.before level.name level.attributes inner) levels h

put-in-place : (path part : Path) → part.levels ≡ [] → path_in path part ≡ put_at path part.inner
unfolding levels_in inner_in
put-in-place path part none = ap (λ levels. record { inner = inner_in path.inner part.inner levels; levels = levels_in path.inner path.levels levels }) none

start-in-place : (path : Path) → path ≡ path_in path empty_path
unfolding levels_in inner_in followed_by
start-in-place path = refl

pub in-place : (items : List Item) (path : Path) → balanced 0 items ≡ true → nested path items ≡ put_at path (nesting items)
in-place items path h =
    ap (λ x. nested x items) (start-in-place path)
    ∙ (nested-in items path Nothing [] h ∙ put-in-place path (nested empty_path items) (nested-levels items Nothing [] h))
