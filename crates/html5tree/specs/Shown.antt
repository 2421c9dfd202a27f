-- When the document of a page is the tree of a path: its open elements stand one in another at the end of the document. Vocabulary of the
-- proofs, and what the law of hosts asks of a host's document.
use Rattle.std.specs.Prelude.{◌≡◌, ℕ, ◌<◌, List, [], ◌∷◌, ⊤}
use Rattle.html5tree.specs.Items.{Attribute}
use Rattle.html5tree.specs.Page.{Element, Page}
use Rattle.html5tree.specs.Tree.{Level, Path}
use Rattle.html5tree.specs.Document.{Nodes, root, built, bare}
use Rattle.html5tree.specs.Document.Nodes.{None, Element as NodesElement, Characters}

-- an open element of the document: the nodes before it, its number, its name and its attributes
pub record Held : Type 0 where
  pub before : Nodes
  pub node : ℕ
  pub name : List ℕ
  pub attributes : List Attribute

unfoldable pub elements : List Held → List Element
elements [] = []
elements (h ∷ hs) = record { node = h.node; name = h.name; attributes = h.attributes } ∷ elements hs

abbrev pub level_of : Held → Level
level_of h = record { before = bare h.before; name = h.name; attributes = h.attributes }

unfoldable pub levels : List Held → List Level
levels [] = []
levels (h ∷ hs) = level_of h ∷ levels hs

-- the document, from the content of the innermost open element
unfoldable pub filled : Nodes → List Held → Nodes
filled inner [] = root inner
filled inner (h ∷ hs) = filled (NodesElement h.before h.node h.name h.attributes inner) hs

-- all numbers are below k
unfoldable pub AreBelow : ℕ → Nodes → Type 0
AreBelow k None = ⊤
AreBelow k (NodesElement before n name attributes inner) = (n < k) × (AreBelow k before × AreBelow k inner)
AreBelow k (Characters before text) = AreBelow k before

-- inner elements were made later than outer ones and than the nodes before these
unfoldable pub AreOrdered : ℕ → List Held → Type 0
AreOrdered next [] = ⊤
AreOrdered next (h ∷ hs) = ((h.node < next) × (0 < h.node)) × (AreBelow h.node h.before × AreOrdered h.node hs)

pub record Shows (page : Page) (path : Path) : Type 0 where
  pub inner : Nodes
  pub held : List Held
  pub builds : built page.edits ≡ filled inner held
  pub opened : page.opened ≡ elements held
  pub is : path ≡ record { inner = bare inner; levels = levels held }
  pub ordered : AreOrdered page.next held
  pub below : AreBelow page.next inner
  pub some : 0 < page.next
