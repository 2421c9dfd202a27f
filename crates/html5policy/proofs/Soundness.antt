-- A rule with which nothing is wrong keeps a policy sound.
use Rattle.std.proofs.Common.{◌≡◌, ℕ, Bool, true, false, List, [], ◌∷◌, ◌++◌, None, Some, refl, sym, ap, ◌∙◌}
use Rattle.std.specs.Prelude.{◌||◌, ◌&&◌, ◌==◌, codes, not, if◌then◌else◌}
use Rattle.std.specs.List.{list_all, list_any}
use Rattle.std.specs.Str.{bytes_eq, chars}
use Rattle.std.proofs.lemmas.Bool.{false≢true}
use Rattle.std.proofs.lemmas.List.Folds.{list_all-append, list_any-append}
use Rattle.html5reading.specs.Characters.{is_white_space}
use Rattle.html5tree.specs.Names.{all_names, is_among, kind_in, kind_of}
use Rattle.html5write.specs.Pieces.{is_tag_name, is_attribute_name, is_name_character}
use Rattle.markup5ever.proofs.NameOrder.{bytes_eq-itself, bytes_eq-same}
use Rattle.html5policy.specs.Names.{acts_on_page, always_hides, has_place, is_never_kept, is_one_of, is_rel_byte, is_rel_word, is_scheme, runs_address}
use Rattle.html5policy.specs.Policy.{PolicyOf, implied_elements, is_allowed, nothing_kept, with_word}
use Rattle.html5policy.specs.Rules.{IsSound, RuleOf, attribute_fault, element_fault, fault_of, hidden_fault, may_hide, may_keep, may_keep_attribute, may_keep_own, may_keep_scheme, may_stand_in_rel, rel_fault, scheme_fault, tree_fault, with_rule}
use Rattle.html5policy.specs.Rules.RuleOf.{Element, Attribute, Everywhere, Scheme, Hidden, Rel, Balance, Tree, Depth}
use Rattle.html5policy.specs.declared.error.RuleError.{RuleError}
use Rattle.html5policy.specs.declared.error.RuleError.TheVariants.{ActsOnPage, AllowedAndHidden, AttributeName, ElementName, HidesContent, NeverKept, NoPlace, RelWord, RunsAddress, SchemeName}
use Rattle.html5policy.proofs.Searches.{and-left, and-right, holds-one_of}

-- ---- no fault

element-passes : (name hides acts hidden other : Bool)
    → (if not name then Some ElementName else if hides then Some HidesContent else if acts then Some ActsOnPage else if hidden then Some AllowedAndHidden else if other then Some NoPlace else None) ≡ None
    → (name && (not hides && (not acts && not hidden))) ≡ true
element-passes true false false false other e = refl
element-passes true false false true other e = absurd cc
element-passes true false true hidden other e = absurd cc
element-passes true true acts hidden other e = absurd cc
element-passes false hides acts hidden other e = absurd cc

-- by the rule `tree` it has a place
place-passes : (name hides acts hidden place : Bool)
    → (if not name then Some ElementName else if hides then Some HidesContent else if acts then Some ActsOnPage else if hidden then Some AllowedAndHidden else if true && not place then Some NoPlace else None) ≡ None
    → place ≡ true
place-passes true false false false true e = refl
place-passes true false false false false e = absurd cc
place-passes true false false true place e = absurd cc
place-passes true false true hidden place e = absurd cc
place-passes true true acts hidden place e = absurd cc
place-passes false hides acts hidden place e = absurd cc

two-pass : (first second : RuleError) (name other : Bool) → (if not name then Some first else if other then Some second else None) ≡ None → (name && not other) ≡ true
two-pass first second true false e = refl
two-pass first second true true e = absurd cc
two-pass first second false other e = absurd cc

element-may : (tree : Bool) (hidden : List (List ℕ)) (name : List ℕ) → element_fault tree hidden name ≡ None → may_keep hidden name ≡ true
element-may tree hidden name none =
    element-passes (is_tag_name (chars name)) (always_hides name) (acts_on_page name) (is_one_of hidden name) (tree && not (has_place name)) none

element-place : (tree : Bool) (hidden : List (List ℕ)) (name : List ℕ) → element_fault tree hidden name ≡ None → tree ≡ true → has_place name ≡ true
element-place true hidden name none is = place-passes (is_tag_name (chars name)) (always_hides name) (acts_on_page name) (is_one_of hidden name) (has_place name) none
element-place false hidden name none is = absurd (false≢true is)

attribute-may : (name : List ℕ) → attribute_fault name ≡ None → may_keep_attribute name ≡ true
attribute-may name none = two-pass AttributeName NeverKept (is_attribute_name (chars name)) (is_never_kept name) none

scheme-may : (scheme : List ℕ) → scheme_fault scheme ≡ None → may_keep_scheme scheme ≡ true
scheme-may scheme none = two-pass SchemeName RunsAddress (is_scheme scheme) (runs_address scheme) none

hidden-may : (elements : List (List ℕ)) (name : List ℕ) → hidden_fault elements name ≡ None → (may_hide name && not (is_one_of elements name)) ≡ true
hidden-may elements name none = two-pass ElementName AllowedAndHidden (is_tag_name (chars name)) (is_one_of elements name) none

-- ---- one more

pub all-more : {X : Type 0} (p : X → Bool) (xs : List X) (x : X) → list_all p xs ≡ true → p x ≡ true → list_all p (xs ++ x ∷ []) ≡ true
all-more p xs x before here = list_all-append p xs (x ∷ []) ∙ rw (before, here) refl

not-true : (b : Bool) → not b ≡ true → b ≡ false
not-true true e = absurd (false≢true e)
not-true false e = refl

-- two names are the same in either order
other-same : (a b : List ℕ) (same : Bool) → bytes_eq b a ≡ same → bytes_eq a b ≡ false → same ≡ false
other-same a b true is differs = absurd (false≢true (sym differs ∙ ap (bytes_eq a) (bytes_eq-same b a is) ∙ bytes_eq-itself a))
other-same a b false is differs = refl

or-false-left : (a b : Bool) → (a || b) ≡ false → a ≡ false
or-false-left true b none = none
or-false-left false b none = refl

or-false-right : (a b : Bool) → (a || b) ≡ false → b ≡ false
or-false-right true b none = absurd (false≢true (sym none))
or-false-right false b none = none

-- one more hidden name, which is another
one_of-more : (hidden : List (List ℕ)) (name element : List ℕ) → bytes_eq element name ≡ false → is_one_of (hidden ++ name ∷ []) element ≡ is_one_of hidden element
unfolding is_one_of
one_of-more hidden name element differs =
    list_any-append (λ other. bytes_eq other element) hidden (name ∷ [])
    ∙ ap (λ b. is_one_of hidden element || (b || false)) (other-same element name (bytes_eq name element) refl differs)
    ∙ or-nothing (is_one_of hidden element)
  where
    or-nothing : (b : Bool) → (b || false) ≡ b
    or-nothing true = refl
    or-nothing false = refl

hidden-more : (hidden : List (List ℕ)) (name : List ℕ) (elements : List (List ℕ)) → list_all (may_keep hidden) elements ≡ true → list_any (λ other. bytes_eq other name) elements ≡ false
    → list_all (may_keep (hidden ++ name ∷ [])) elements ≡ true
hidden-more hidden name [] all none = refl
hidden-more hidden name (element ∷ elements) all none =
    let here : is_one_of (hidden ++ name ∷ []) element ≡ is_one_of hidden element =
    one_of-more hidden name element (or-false-left (bytes_eq element name) (list_any (λ other. bytes_eq other name) elements) none) in
    let later = hidden-more hidden name elements (and-right (may_keep hidden element) (list_all (may_keep hidden) elements) all)
    (or-false-right (bytes_eq element name) (list_any (λ other. bytes_eq other name) elements) none) in
    ap (λ b. (is_tag_name (chars element) && (not (always_hides element) && (not (acts_on_page element) && not b))) && list_all (may_keep (hidden ++ name ∷ [])) elements) here
    ∙ ap (λ b. may_keep hidden element && b) later
    ∙ ap (λ b. b && true) (and-left (may_keep hidden element) (list_all (may_keep hidden) elements) all)

one_of-any : (names : List (List ℕ)) (name : List ℕ) → is_one_of names name ≡ false → list_any (λ other. bytes_eq other name) names ≡ false
unfolding is_one_of
one_of-any names name none = none

-- ---- the rule `tree`

all-both : {X : Type 0} (p : X → Bool) (xs ys : List X) → list_all p xs ≡ true → list_all p ys ≡ true → list_all p (xs ++ ys) ≡ true
all-both p xs ys first second = list_all-append p xs ys ∙ rw (first, second) refl

pub weaker-all : {X : Type 0} (p q : X → Bool) → ((x : X) → p x ≡ true → q x ≡ true) → (xs : List X) → list_all p xs ≡ true → list_all q xs ≡ true
weaker-all p q weaker [] all = refl
weaker-all p q weaker (x ∷ xs) all =
    rw (weaker x (and-left (p x) (list_all p xs) all), weaker-all p q weaker xs (and-right (p x) (list_all p xs) all)) refl

or-first : (a b : Bool) → a ≡ true → (a || b) ≡ true
or-first true b is = refl
or-first false b is = absurd (false≢true is)

or-second : (a b : Bool) → b ≡ true → (a || b) ≡ true
or-second true b is = refl
or-second false b is = is

-- a name that is kept is kept with others, too
one_of-first : (names more : List (List ℕ)) (name : List ℕ) → is_one_of names name ≡ true → is_one_of (names ++ more) name ≡ true
unfolding is_one_of
one_of-first names more name one =
    list_any-append (λ other. bytes_eq other name) names more ∙ or-first (is_one_of names name) (is_one_of more name) one

one_of-second : (names more : List (List ℕ)) (name : List ℕ) → is_one_of more name ≡ true → is_one_of (names ++ more) name ≡ true
unfolding is_one_of
one_of-second names more name one =
    list_any-append (λ other. bytes_eq other name) names more ∙ or-second (is_one_of names name) (is_one_of more name) one

implied-more : (names more : List (List ℕ)) → list_all (is_one_of names) implied_elements ≡ true → list_all (is_one_of (names ++ more)) implied_elements ≡ true
implied-more names more all = weaker-all (is_one_of names) (is_one_of (names ++ more)) (one_of-first names more) implied_elements all

implied-among : list_all (is_one_of implied_elements) implied_elements ≡ true
unfolding is_one_of implied_elements
implied-among = refl

implied-kept : (names : List (List ℕ)) → list_all (is_one_of (names ++ implied_elements)) implied_elements ≡ true
implied-kept names =
    weaker-all (is_one_of implied_elements) (is_one_of (names ++ implied_elements)) (one_of-second names implied_elements) implied_elements implied-among

places-implied : list_all has_place implied_elements ≡ true
unfolding has_place implied_elements kind_of kind_in all_names is_among
places-implied = refl

tree-passes : (places hides : Bool) → (if not places then Some NoPlace else if hides then Some AllowedAndHidden else None) ≡ None → (places && not hides) ≡ true
tree-passes places hides none = two-pass NoPlace AllowedAndHidden places hides none

tree-may : (elements hidden : List (List ℕ)) → tree_fault elements hidden ≡ None
    → (list_all has_place elements && not (list_any (is_one_of hidden) implied_elements)) ≡ true
tree-may elements hidden none = tree-passes (list_all has_place elements) (list_any (is_one_of hidden) implied_elements) none

-- except for what is hidden, each of them may be kept
may_keep-shown : (hidden : List (List ℕ)) (name : List ℕ) → may_keep [] name ≡ true → is_one_of hidden name ≡ false → may_keep hidden name ≡ true
unfolding is_one_of
may_keep-shown hidden name may shown =
    ap (λ b. is_tag_name (chars name) && (not (always_hides name) && (not (acts_on_page name) && not b))) shown ∙ may

all-shown : (hidden names : List (List ℕ)) → list_all (may_keep []) names ≡ true → list_any (is_one_of hidden) names ≡ false → list_all (may_keep hidden) names ≡ true
all-shown hidden [] may none = refl
all-shown hidden (name ∷ names) may none =
    rw (
      may_keep-shown hidden name (and-left (may_keep [] name) (list_all (may_keep []) names) may) (or-false-left (is_one_of hidden name) (list_any (is_one_of hidden) names) none),
      all-shown hidden names (and-right (may_keep [] name) (list_all (may_keep []) names) may) (or-false-right (is_one_of hidden name) (list_any (is_one_of hidden) names) none),
    ) refl

may_keep-implied : list_all (may_keep []) implied_elements ≡ true
unfolding implied_elements is_one_of acts_on_page always_hides is_tag_name is_name_character is_white_space chars
may_keep-implied = refl

-- ---- words of `rel`

one-passes : (word : Bool) → (if not word then Some RelWord else None) ≡ None → word ≡ true
one-passes true none = refl
one-passes false none = absurd cc

byte-stands : (byte : ℕ) → is_rel_byte byte ≡ true → may_stand_in_rel byte ≡ true
byte-stands byte is = or-first (is_rel_byte byte) (byte == 0x20) is

word-stands : (word : List ℕ) → is_rel_word word ≡ true → list_all may_stand_in_rel word ≡ true
unfolding is_rel_word
word-stands [] is = absurd (false≢true is)
word-stands (byte ∷ word) is = weaker-all is_rel_byte may_stand_in_rel byte-stands (byte ∷ word) is

rel-may : (word : List ℕ) → rel_fault word ≡ None → list_all may_stand_in_rel word ≡ true
rel-may word none = word-stands word (one-passes (is_rel_word word) none)

rel-more : (rel word : List ℕ) → list_all may_stand_in_rel rel ≡ true → list_all may_stand_in_rel word ≡ true → list_all may_stand_in_rel (with_word rel word) ≡ true
unfolding with_word
rel-more [] word before here = here
rel-more (byte ∷ rel) word before here =
    all-both may_stand_in_rel (byte ∷ rel) (0x20 ∷ word) before (rw here refl)

-- ---- a policy with a rule more

pub sound-with_rule : (policy : PolicyOf) (rule : RuleOf) → IsSound policy → fault_of policy rule ≡ None → IsSound (with_rule policy rule)
unfolding fault_of with_rule
sound-with_rule policy (Element name) sound none = record {
  elements = all-more (may_keep policy.hidden) policy.elements name sound.elements (element-may policy.tree policy.hidden name none);
  own = sound.own;
  everywhere = sound.everywhere;
  schemes = sound.schemes;
  hidden = sound.hidden;
  rel = sound.rel;
  places = λ tree. all-more has_place policy.elements name (sound.places tree) (element-place policy.tree policy.hidden name none tree);
  implied = λ tree. implied-more policy.elements (name ∷ []) (sound.implied tree);
}
sound-with_rule policy (Attribute element name) sound none = record {
  elements = sound.elements;
  own = all-more may_keep_own policy.own (record { element = element; attribute = name }) sound.own (attribute-may name none);
  everywhere = sound.everywhere;
  schemes = sound.schemes;
  hidden = sound.hidden;
  rel = sound.rel;
  places = sound.places;
  implied = sound.implied;
}
sound-with_rule policy (Everywhere name) sound none = record {
  elements = sound.elements;
  own = sound.own;
  everywhere = all-more may_keep_attribute policy.everywhere name sound.everywhere (attribute-may name none);
  schemes = sound.schemes;
  hidden = sound.hidden;
  rel = sound.rel;
  places = sound.places;
  implied = sound.implied;
}
sound-with_rule policy (Scheme scheme) sound none = record {
  elements = sound.elements;
  own = sound.own;
  everywhere = sound.everywhere;
  schemes = all-more may_keep_scheme policy.schemes scheme sound.schemes (scheme-may scheme none);
  hidden = sound.hidden;
  rel = sound.rel;
  places = sound.places;
  implied = sound.implied;
}
sound-with_rule policy (Hidden name) sound none =
    let may = hidden-may policy.elements name none in
    record {
      elements = hidden-more policy.hidden name policy.elements sound.elements
          (one_of-any policy.elements name (not-true (is_one_of policy.elements name) (and-right (may_hide name) (not (is_one_of policy.elements name)) may)));
      own = sound.own;
      everywhere = sound.everywhere;
      schemes = sound.schemes;
      hidden = all-more may_hide policy.hidden name sound.hidden (and-left (may_hide name) (not (is_one_of policy.elements name)) may);
      rel = sound.rel;
      places = sound.places;
      implied = sound.implied;
    }
sound-with_rule policy (Rel word) sound none = record {
  elements = sound.elements;
  own = sound.own;
  everywhere = sound.everywhere;
  schemes = sound.schemes;
  hidden = sound.hidden;
  rel = rel-more policy.rel word sound.rel (rel-may word none);
  places = sound.places;
  implied = sound.implied;
}
sound-with_rule policy Balance sound none = record {
  elements = sound.elements;
  own = sound.own;
  everywhere = sound.everywhere;
  schemes = sound.schemes;
  hidden = sound.hidden;
  rel = sound.rel;
  places = sound.places;
  implied = sound.implied;
}
sound-with_rule policy Tree sound none =
    let may = tree-may policy.elements policy.hidden none in
    let shown = not-true (list_any (is_one_of policy.hidden) implied_elements) (and-right (list_all has_place policy.elements) (not (list_any (is_one_of policy.hidden) implied_elements)) may) in
    record {
      elements = all-both (may_keep policy.hidden) policy.elements implied_elements sound.elements (all-shown policy.hidden implied_elements may_keep-implied shown);
      own = sound.own;
      everywhere = sound.everywhere;
      schemes = sound.schemes;
      hidden = sound.hidden;
      rel = sound.rel;
      places = λ tree. all-both has_place policy.elements implied_elements
          (and-left (list_all has_place policy.elements) (not (list_any (is_one_of policy.hidden) implied_elements)) may) places-implied;
      implied = λ tree. implied-kept policy.elements;
    }
sound-with_rule policy (Depth depth) sound none = record {
  elements = sound.elements;
  own = sound.own;
  everywhere = sound.everywhere;
  schemes = sound.schemes;
  hidden = sound.hidden;
  rel = sound.rel;
  places = sound.places;
  implied = sound.implied;
}

pub sound-nothing : IsSound nothing_kept
sound-nothing = record { elements = refl; own = refl; everywhere = refl; schemes = refl; hidden = refl; rel = refl; places = λ tree. absurd (false≢true tree); implied = λ tree. absurd (false≢true tree) }

-- ---- consequences

pub allowed-may_keep : (policy : PolicyOf) (name : List ℕ) → IsSound policy → is_allowed policy name ≡ true → may_keep policy.hidden name ≡ true
unfolding is_allowed
allowed-may_keep policy name sound allowed = holds-one_of (may_keep policy.hidden) policy.elements name sound.elements allowed

-- an allowed element doesn't hide its content
pub allowed-shows : (policy : PolicyOf) (name : List ℕ) → IsSound policy → is_allowed policy name ≡ true → always_hides name ≡ false
allowed-shows policy name sound allowed =
    not-true (always_hides name) (and-left (not (always_hides name)) (not (acts_on_page name) && not (is_one_of policy.hidden name))
    (and-right (is_tag_name (chars name)) (not (always_hides name) && (not (acts_on_page name) && not (is_one_of policy.hidden name))) (allowed-may_keep policy name sound allowed)))

pub listed-scheme : (policy : PolicyOf) (scheme : List ℕ) → IsSound policy → is_one_of policy.schemes scheme ≡ true → may_keep_scheme scheme ≡ true
listed-scheme policy scheme sound listed = holds-one_of may_keep_scheme policy.schemes scheme sound.schemes listed

pub listed-runs_nothing : (policy : PolicyOf) (scheme : List ℕ) → IsSound policy → is_one_of policy.schemes scheme ≡ true → runs_address scheme ≡ false
listed-runs_nothing policy scheme sound listed =
    not-true (runs_address scheme) (and-right (is_scheme scheme) (not (runs_address scheme)) (listed-scheme policy scheme sound listed))

-- by the rule `tree` an element that is kept has a place, and those that a browser makes are kept
pub allowed-has_place : (policy : PolicyOf) (name : List ℕ) → IsSound policy → policy.tree ≡ true → is_allowed policy name ≡ true → has_place name ≡ true
unfolding is_allowed
allowed-has_place policy name sound tree allowed = holds-one_of has_place policy.elements name (sound.places tree) allowed

pub implied-allowed : (policy : PolicyOf) (name : List ℕ) → IsSound policy → policy.tree ≡ true → is_one_of implied_elements name ≡ true → is_allowed policy name ≡ true
unfolding is_allowed
implied-allowed policy name sound tree one = holds-one_of (is_one_of policy.elements) implied_elements name (sound.implied tree) one
