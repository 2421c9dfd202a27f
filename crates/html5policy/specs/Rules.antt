-- Rules, of which a policy is made: what each says, and which no policy takes.
use Rattle.std.specs.Prelude.{◌≡◌, ℕ, Bool, true, List, [], ◌∷◌, ◌++◌, ◌==◌, ◌||◌, nat_lt, Option, None, Some, Result, Ok, Err, not, ◌&&◌, chars, if◌then◌else◌}
use Rattle.std.specs.List.{list_all, list_any}
use Rattle.html5write.specs.Pieces.{is_tag_name, is_attribute_name}
use Rattle.html5policy.specs.Names.{acts_on_page, always_hides, has_place, is_never_kept, is_one_of, is_rel_byte, is_rel_word, is_scheme, runs_address}
use Rattle.html5policy.specs.Policy.{OwnAttribute, PolicyOf, implied_elements, with_word}
use Rattle.html5policy.specs.declared.error.RuleError.{RuleError}
use Rattle.html5policy.specs.declared.error.RuleError.TheVariants.{ActsOnPage, AllowedAndHidden, AttributeName, Depth as DepthError, ElementName, HidesContent, NeverKept, NoPlace, RelWord, RunsAddress, SchemeName}

pub data RuleOf : Type 0 where
  -- an element is kept
  Element : List ℕ → RuleOf
  -- an attribute is kept in an element: its element, and its name
  Attribute : List ℕ → List ℕ → RuleOf
  -- an attribute is kept in each element
  Everywhere : List ℕ → RuleOf
  -- addresses of a scheme are kept
  Scheme : List ℕ → RuleOf
  -- an element is dropped with its content
  Hidden : List ℕ → RuleOf
  -- a word stands in the `rel` of links
  Rel : List ℕ → RuleOf
  -- each end tag closes the innermost open element, and the end of a page those that are still open
  Balance : RuleOf
  -- a page is made to fit, so that a browser builds it with the same nesting
  Tree : RuleOf
  -- how many elements may be open then
  Depth : ℕ → RuleOf

-- ---- what is wrong with a rule

abbrev pub attribute_fault : List ℕ → Option RuleError
attribute_fault name =
    if not (is_attribute_name (chars name)) then Some AttributeName
    else if is_never_kept name then Some NeverKept
    else None

-- an element that is kept, where these are hidden; by the rule `tree` it has a place in the tree
abbrev pub element_fault : Bool → List (List ℕ) → List ℕ → Option RuleError
element_fault tree hidden name =
    if not (is_tag_name (chars name)) then Some ElementName
    else if always_hides name then Some HidesContent
    else if acts_on_page name then Some ActsOnPage
    else if is_one_of hidden name then Some AllowedAndHidden
    else if tree && not (has_place name) then Some NoPlace
    else None

abbrev pub scheme_fault : List ℕ → Option RuleError
scheme_fault scheme = if not (is_scheme scheme) then Some SchemeName else if runs_address scheme then Some RunsAddress else None

-- an element that is hidden, where these are kept
abbrev pub hidden_fault : List (List ℕ) → List ℕ → Option RuleError
hidden_fault elements name =
    if not (is_tag_name (chars name)) then Some ElementName
    else if is_one_of elements name then Some AllowedAndHidden
    else None

-- the rule `tree`, where these are kept and those are hidden
abbrev pub tree_fault : List (List ℕ) → List (List ℕ) → Option RuleError
tree_fault elements hidden =
    if not (list_all has_place elements) then Some NoPlace
    else if list_any (is_one_of hidden) implied_elements then Some AllowedAndHidden
    else None

abbrev pub depth_fault : ℕ → Option RuleError
depth_fault depth = if (depth == 0) || nat_lt 4096 depth then Some DepthError else None

-- a word of `rel`
abbrev pub rel_fault : List ℕ → Option RuleError
rel_fault word = if not (is_rel_word word) then Some RelWord else None

-- by the rules that a policy has
unfoldable pub fault_of : PolicyOf → RuleOf → Option RuleError
fault_of policy (Element name) = element_fault policy.tree policy.hidden name
fault_of policy (Attribute element name) = attribute_fault name
fault_of policy (Everywhere name) = attribute_fault name
fault_of policy (Scheme scheme) = scheme_fault scheme
fault_of policy (Hidden name) = hidden_fault policy.elements name
fault_of policy (Rel word) = rel_fault word
fault_of policy Balance = None
fault_of policy Tree = tree_fault policy.elements policy.hidden
fault_of policy (Depth depth) = depth_fault depth

-- ---- a policy with one rule more

unfoldable pub with_rule : PolicyOf → RuleOf → PolicyOf
with_rule policy (Element name) = record policy { elements = policy.elements ++ name ∷ [] }
with_rule policy (Attribute element name) = record policy { own = policy.own ++ record { element = element; attribute = name } ∷ [] }
with_rule policy (Everywhere name) = record policy { everywhere = policy.everywhere ++ name ∷ [] }
with_rule policy (Scheme scheme) = record policy { schemes = policy.schemes ++ scheme ∷ [] }
with_rule policy (Hidden name) = record policy { hidden = policy.hidden ++ name ∷ [] }
with_rule policy (Rel word) = record policy { rel = with_word policy.rel word }
with_rule policy Balance = record policy { balance = true }
with_rule policy Tree = record policy { elements = policy.elements ++ implied_elements; tree = true }
with_rule policy (Depth depth) = record policy { depth = depth }

abbrev pub added_unless : PolicyOf → RuleOf → Option RuleError → Result PolicyOf RuleError
added_unless policy rule None = Ok (with_rule policy rule)
added_unless policy rule (Some fault) = Err fault

-- the policy with this rule, or what is wrong with the rule
unfoldable pub rule_added : PolicyOf → RuleOf → Result PolicyOf RuleError
rule_added policy rule = added_unless policy rule (fault_of policy rule)

-- ---- what holds of each policy

-- an element that may be kept, where these are hidden
abbrev pub may_keep : List (List ℕ) → List ℕ → Bool
may_keep hidden name = is_tag_name (chars name) && (not (always_hides name) && (not (acts_on_page name) && not (is_one_of hidden name)))

-- an attribute that may be kept
abbrev pub may_keep_attribute : List ℕ → Bool
may_keep_attribute name = is_attribute_name (chars name) && not (is_never_kept name)

abbrev pub may_keep_own : OwnAttribute → Bool
may_keep_own own = may_keep_attribute own.attribute

-- a scheme whose addresses may be kept
abbrev pub may_keep_scheme : List ℕ → Bool
may_keep_scheme scheme = is_scheme scheme && not (runs_address scheme)

-- a byte that may stand in the value of `rel`
abbrev pub may_stand_in_rel : ℕ → Bool
may_stand_in_rel byte = is_rel_byte byte || (byte == 0x20)

-- an element that may be hidden
abbrev pub may_hide : List ℕ → Bool
may_hide name = is_tag_name (chars name)

-- each name may be where it is
pub record IsSound (policy : PolicyOf) : Type 0 where
  pub elements : list_all (may_keep policy.hidden) policy.elements ≡ true
  pub own : list_all may_keep_own policy.own ≡ true
  pub everywhere : list_all may_keep_attribute policy.everywhere ≡ true
  pub schemes : list_all may_keep_scheme policy.schemes ≡ true
  pub hidden : list_all may_hide policy.hidden ≡ true
  pub rel : list_all may_stand_in_rel policy.rel ≡ true
  -- by the rule `tree` each element has a place in the tree, and those that a browser makes are kept
  pub places : policy.tree ≡ true → list_all has_place policy.elements ≡ true
  pub implied : policy.tree ≡ true → list_all (is_one_of policy.elements) implied_elements ≡ true
