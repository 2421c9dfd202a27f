-- What a policy keeps of a page, by names: the bytes of their UTF-8.
use Rattle.std.specs.Prelude.{ℕ, Bool, false, List, [], ◌∷◌, ◌++◌, ◌==◌, not, ◌||◌, ◌&&◌, chars, codes, encode_utf8_all, length}
use Rattle.std.specs.List.{list_any}
use Rattle.std.specs.Str.{bytes_eq}
use Rattle.html5policy.specs.Addresses.{is_safe_address}
use Rattle.html5policy.specs.Names.{always_hides, is_address, is_one_of}

-- an attribute that is kept in an element of that name
pub record OwnAttribute : Type 0 where
  pub element : List ℕ
  pub attribute : List ℕ

pub record PolicyOf : Type 0 where
  -- the elements that are kept, and the attributes of each
  pub elements : List (List ℕ)
  pub own : List OwnAttribute
  -- the attributes that are kept in each element
  pub everywhere : List (List ℕ)
  -- the schemes of addresses
  pub schemes : List (List ℕ)
  -- further elements that are dropped with their content
  pub hidden : List (List ℕ)
  -- the value of `rel` that links get: words with a space between two. None get any where it is empty
  pub rel : List ℕ
  -- whether each end tag closes the innermost open element, and the end of a page those that are still open
  pub balance : Bool
  -- whether a page is made to fit, so that a browser builds it with the same nesting; and how many elements may be
  -- open then
  pub tree : Bool
  pub depth : ℕ

-- a policy that keeps text alone
abbrev pub nothing_kept : PolicyOf
nothing_kept = record {
  elements = [];
  own = [];
  everywhere = [];
  schemes = [];
  hidden = [];
  rel = [];
  balance = false;
  tree = false;
  depth = 256;
}

-- ---- elements

-- the elements that a browser makes in a table where they are left out: a policy with the rule `tree` keeps them
unfoldable pub implied_elements : List (List ℕ)
implied_elements = codes "colgroup" ∷ codes "tbody" ∷ codes "tr" ∷ codes "td" ∷ []

-- whether an element of this name is kept
unfoldable pub is_allowed : PolicyOf → List ℕ → Bool
is_allowed policy name = is_one_of policy.elements name

-- whether an element of this name is dropped with its content
unfoldable pub hides : PolicyOf → List ℕ → Bool
hides policy name = always_hides name || is_one_of policy.hidden name

-- ---- attributes

abbrev pub is_own_of : List ℕ → List ℕ → OwnAttribute → Bool
is_own_of element attribute own = bytes_eq own.attribute attribute && bytes_eq own.element element

-- whether an attribute of this name is kept in elements of that name, though not in each
unfoldable pub is_own : List OwnAttribute → List ℕ → List ℕ → Bool
is_own attributes element attribute = list_any (is_own_of element attribute) attributes

-- whether an attribute of this name is kept in elements of that name
abbrev pub is_named : PolicyOf → List ℕ → List ℕ → Bool
is_named policy element attribute = is_one_of policy.everywhere attribute || is_own policy.own element attribute

-- whether links get a `rel`
abbrev pub writes_rel : PolicyOf → Bool
writes_rel policy = not (length policy.rel == 0)

-- whether it is the `rel` of a link, for which the policy has a value of its own
abbrev pub is_rel_of_link : PolicyOf → List ℕ → List ℕ → Bool
is_rel_of_link policy element attribute = writes_rel policy && (bytes_eq element (codes "a") && bytes_eq attribute (codes "rel"))

-- whether an attribute of this name and value is kept in an element of that name
unfoldable pub is_kept : PolicyOf → List ℕ → List ℕ → List ℕ → Bool
is_kept policy element attribute value =
    is_named policy element attribute
    && (not (is_rel_of_link policy element attribute) && (not (is_address attribute) || is_safe_address policy.schemes value))

-- whether an attribute of this name is kept in elements of that name, but not with this address
abbrev pub refuses_address : PolicyOf → List ℕ → List ℕ → List ℕ → Bool
refuses_address policy element attribute address = is_named policy element attribute && not (is_safe_address policy.schemes address)

-- ---- links

-- a value of `rel` with one word more
unfoldable pub with_word : List ℕ → List ℕ → List ℕ
with_word [] word = word
with_word (byte ∷ rel) word = (byte ∷ rel) ++ 0x20 ∷ word

-- the value that links get, by its characters
abbrev pub rel_text : PolicyOf → List ℕ
rel_text policy = encode_utf8_all (chars policy.rel)

-- whether it is the `rel` that such a policy writes into links
abbrev pub is_own_rel : PolicyOf → List ℕ → List ℕ → List ℕ → Bool
is_own_rel policy element attribute value = is_rel_of_link policy element attribute && bytes_eq value (rel_text policy)

-- whether an attribute of this name and value stands in an element of that name of a cleaned page
abbrev pub is_written : PolicyOf → List ℕ → List ℕ → List ℕ → Bool
is_written policy element attribute value = is_kept policy element attribute value || is_own_rel policy element attribute value
