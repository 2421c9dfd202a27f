-- Whole texts, and texts without their newlines: what they change of what fits, of nesting and of balance.
use Rattle.std.proofs.Common.{◌≡◌, ℕ, suc, zero, Bool, true, false, List, [], ◌∷◌, ◌++◌, refl, ap, sym, ◌∙◌, append-nil, append_assoc}
use Rattle.std.specs.Prelude.{not, if◌then◌else◌}
use Rattle.std.specs.List.{list_all}
use Rattle.std.proofs.lemmas.List.Folds.{list_all-append}
use Rattle.std.proofs.lemmas.Bool.{not-true, and_parts, and_from}
use Rattle.html5tree.specs.Document.{children}
use Rattle.html5tree.specs.Fitting.{all_open_after, each_fits, fits, holds_parts, is_space, open_after}
use Rattle.html5tree.specs.Items.{Item, balanced, begins_with_newline, in_front, is_empty_text, is_newline, keeps_newlines, opens_preformatted, text_before, whole_texts, without_newline, without_newlines}
use Rattle.html5tree.specs.Items.Item.{EndTag, StartTag, Text}
use Rattle.html5tree.specs.Names.{is_void, kind_of}
use Rattle.html5tree.specs.Scopes.{kind_on_top}
use Rattle.html5tree.specs.Tree.{Path, Tree, nested, nested_one, with_text}
use Rattle.html5tree.specs.Tree.Tree.{Characters, Element, Nothing}

-- ---- a text after another

pub text-none : (t : Tree) → with_text t [] ≡ t
text-none Nothing = refl
text-none (Element before name attributes children) = refl
text-none (Characters before text) = ap (Characters before) (append-nil text)

pub text-twice : (t : Tree) (a b : List ℕ) → with_text (with_text t a) b ≡ with_text t (a ++ b)
text-twice Nothing [] b = refl
text-twice Nothing (c ∷ a) b = refl
text-twice (Element before name attributes children) [] b = refl
text-twice (Element before name attributes children) (c ∷ a) b = refl
text-twice (Characters before text) a b = ap (Characters before) (append_assoc text a b)

in-text : (path : Path) (a b : Tree) → a ≡ b → record path { inner = a } ≡ record path { inner = b }
in-text path a b same = ap (λ t. record path { inner = t }) same

-- ---- nesting

nested-front : (text : List ℕ) (items : List Item) (path : Path) → nested path (in_front text items) ≡ nested (nested_one path (Text text)) items
unfolding in_front nested nested_one
nested-front [] items path = ap (λ x. nested x items) (in-text path path.inner (with_text path.inner []) (sym (text-none path.inner)))
nested-front (c ∷ text) [] path = refl
nested-front (c ∷ text) (Text more ∷ items) path =
    ap (λ x. nested x items) (in-text path (with_text path.inner (c ∷ text ++ more)) (with_text (with_text path.inner (c ∷ text)) more)
    (sym (text-twice path.inner (c ∷ text) more)))
nested-front (c ∷ text) (StartTag name attributes ∷ items) path = refl
nested-front (c ∷ text) (EndTag name ∷ items) path = refl

pub nested-whole : (items : List Item) (path : Path) → nested path (whole_texts items) ≡ nested path items
unfolding whole_texts nested
nested-whole [] path = refl
nested-whole (Text text ∷ items) path = nested-front text (whole_texts items) path ∙ nested-whole items (nested_one path (Text text))
nested-whole (StartTag name attributes ∷ items) path = nested-whole items (nested_one path (StartTag name attributes))
nested-whole (EndTag name ∷ items) path = nested-whole items (nested_one path (EndTag name))

pub nested-newlines : (fresh : Bool) (items : List Item) (path : Path) → keeps_newlines fresh items ≡ true
    → nested path (without_newlines fresh items) ≡ nested path items
unfolding without_newlines nested nested_one keeps_newlines
nested-newlines fresh [] path h = refl
nested-newlines true (Text [] ∷ items) path h =
    nested-newlines true items path h ∙ ap (λ x. nested x items) (in-text path path.inner (with_text path.inner []) (sym (text-none path.inner)))
nested-newlines true (Text (c ∷ text) ∷ items) path h =
    let p = and_parts (not (is_newline c)) (keeps_newlines false items) h in
    rw (not-true (is_newline c) p.0) (nested-newlines false items (nested_one path (Text (c ∷ text))) p.1)
nested-newlines false (Text text ∷ items) path h = nested-newlines false items (nested_one path (Text text)) h
nested-newlines true (StartTag name attributes ∷ items) path h = nested-newlines (opens_preformatted (StartTag name attributes)) items (nested_one path (StartTag name attributes)) h
nested-newlines false (StartTag name attributes ∷ items) path h = nested-newlines (opens_preformatted (StartTag name attributes)) items (nested_one path (StartTag name attributes)) h
nested-newlines true (EndTag name ∷ items) path h = nested-newlines false items (nested_one path (EndTag name)) h
nested-newlines false (EndTag name ∷ items) path h = nested-newlines false items (nested_one path (EndTag name)) h

keeps-front : (fresh : Bool) (text : List ℕ) (items : List Item) → keeps_newlines fresh (Text text ∷ items) ≡ true
    → keeps_newlines fresh (in_front text items) ≡ true
unfolding in_front keeps_newlines
keeps-front true [] items h = h
keeps-front false [] items h = h
keeps-front true (c ∷ text) [] h = h
keeps-front false (c ∷ text) [] h = h
keeps-front true (c ∷ text) (Text more ∷ items) h = h
keeps-front false (c ∷ text) (Text more ∷ items) h = h
keeps-front true (c ∷ text) (StartTag name attributes ∷ items) h = h
keeps-front false (c ∷ text) (StartTag name attributes ∷ items) h = h
keeps-front true (c ∷ text) (EndTag name ∷ items) h = h
keeps-front false (c ∷ text) (EndTag name ∷ items) h = h

pub keeps-whole : (fresh : Bool) (items : List Item) → keeps_newlines fresh items ≡ true → keeps_newlines fresh (whole_texts items) ≡ true
unfolding whole_texts keeps_newlines
keeps-whole fresh [] h = refl
keeps-whole true (Text text ∷ items) h =
    let p = and_parts (not (begins_with_newline text)) (keeps_newlines (is_empty_text text) items) h in
    keeps-front true text (whole_texts items) (and_from (not (begins_with_newline text)) (keeps_newlines (is_empty_text text) (whole_texts items)) p.0 (keeps-whole (is_empty_text text) items p.1))
keeps-whole false (Text text ∷ items) h = keeps-front false text (whole_texts items) (keeps-whole false items h)
keeps-whole true (StartTag name attributes ∷ items) h = keeps-whole (opens_preformatted (StartTag name attributes)) items h
keeps-whole false (StartTag name attributes ∷ items) h = keeps-whole (opens_preformatted (StartTag name attributes)) items h
keeps-whole true (EndTag name ∷ items) h = keeps-whole false items h
keeps-whole false (EndTag name ∷ items) h = keeps-whole false items h

-- ---- what fits

fits-both : (stack : List (List ℕ)) (a b : List ℕ) → fits stack (Text a) ≡ true → fits stack (Text b) ≡ true → fits stack (Text (a ++ b)) ≡ true
unfolding fits
fits-both stack a b f g = at (holds_parts (kind_on_top stack)) f g
  where
    at : (holder : Bool) → (if holder then list_all is_space a else true) ≡ true → (if holder then list_all is_space b else true) ≡ true
        → (if holder then list_all is_space (a ++ b) else true) ≡ true
    at true f g = list_all-append is_space a b ∙ and_from (list_all is_space a) (list_all is_space b) f g
    at false f g = refl

fits-less : (stack : List (List ℕ)) (c : ℕ) (text : List ℕ) → fits stack (Text (c ∷ text)) ≡ true → fits stack (Text text) ≡ true
unfolding fits
fits-less stack c text f = at (holds_parts (kind_on_top stack)) f
  where
    at : (holder : Bool) → (if holder then list_all is_space (c ∷ text) else true) ≡ true → (if holder then list_all is_space text else true) ≡ true
    at true f = (and_parts (is_space c) (list_all is_space text) f).1
    at false f = refl

fits-front : (text : List ℕ) (items : List Item) (stack : List (List ℕ)) → fits stack (Text text) ≡ true → each_fits stack items ≡ true
    → each_fits stack (in_front text items) ≡ true
unfolding in_front each_fits open_after
fits-front [] items stack f h = h
fits-front (c ∷ text) [] stack f h = and_from (fits stack (Text (c ∷ text))) true f refl
fits-front (c ∷ text) (Text more ∷ items) stack f h =
    let p = and_parts (fits stack (Text more)) (each_fits stack items) h in
    and_from (fits stack (Text (c ∷ text ++ more))) (each_fits stack items) (fits-both stack (c ∷ text) more f p.0) p.1
fits-front (c ∷ text) (StartTag name attributes ∷ items) stack f h =
    and_from (fits stack (Text (c ∷ text))) (each_fits stack (StartTag name attributes ∷ items)) f h
fits-front (c ∷ text) (EndTag name ∷ items) stack f h = and_from (fits stack (Text (c ∷ text))) (each_fits stack (EndTag name ∷ items)) f h

pub fits-whole : (items : List Item) (stack : List (List ℕ)) → each_fits stack items ≡ true → each_fits stack (whole_texts items) ≡ true
unfolding whole_texts each_fits open_after
fits-whole [] stack h = refl
fits-whole (Text text ∷ items) stack h =
    let p = and_parts (fits stack (Text text)) (each_fits stack items) h in
    fits-front text (whole_texts items) stack p.0 (fits-whole items stack p.1)
fits-whole (StartTag name attributes ∷ items) stack h =
    let p = and_parts (fits stack (StartTag name attributes)) (each_fits (open_after stack (StartTag name attributes)) items) h in
    and_from (fits stack (StartTag name attributes)) (each_fits (open_after stack (StartTag name attributes)) (whole_texts items)) p.0
    (fits-whole items (open_after stack (StartTag name attributes)) p.1)
fits-whole (EndTag name ∷ items) stack h =
    let p = and_parts (fits stack (EndTag name)) (each_fits (open_after stack (EndTag name)) items) h in
    and_from (fits stack (EndTag name)) (each_fits (open_after stack (EndTag name)) (whole_texts items)) p.0
    (fits-whole items (open_after stack (EndTag name)) p.1)

fits-before : (text : List ℕ) (items : List Item) (stack : List (List ℕ)) → fits stack (Text text) ≡ true → each_fits stack items ≡ true
    → each_fits stack (text_before text items) ≡ true
unfolding each_fits open_after
fits-before [] items stack f h = h
fits-before (c ∷ text) items stack f h = and_from (fits stack (Text (c ∷ text))) (each_fits stack items) f h

fits-cut : (text : List ℕ) (stack : List (List ℕ)) → fits stack (Text text) ≡ true → fits stack (Text (without_newline text)) ≡ true
fits-cut [] stack f = f
fits-cut (c ∷ text) stack f = at (is_newline c)
  where
    at : (b : Bool) → fits stack (Text (if b then text else c ∷ text)) ≡ true
    at true = fits-less stack c text f
    at false = f

pub fits-newlines : (fresh : Bool) (items : List Item) (stack : List (List ℕ)) → each_fits stack items ≡ true
    → each_fits stack (without_newlines fresh items) ≡ true
unfolding without_newlines each_fits open_after
fits-newlines fresh [] stack h = refl
fits-newlines true (Text text ∷ items) stack h =
    let p = and_parts (fits stack (Text text)) (each_fits stack items) h in
    fits-before (without_newline text) (without_newlines (is_empty_text text) items) stack (fits-cut text stack p.0) (fits-newlines (is_empty_text text) items stack p.1)
fits-newlines false (Text text ∷ items) stack h =
    let p = and_parts (fits stack (Text text)) (each_fits stack items) h in
    and_from (fits stack (Text text)) (each_fits stack (without_newlines false items)) p.0 (fits-newlines false items stack p.1)
fits-newlines true (StartTag name attributes ∷ items) stack h =
    let p = and_parts (fits stack (StartTag name attributes)) (each_fits (open_after stack (StartTag name attributes)) items) h in
    and_from (fits stack (StartTag name attributes)) (each_fits (open_after stack (StartTag name attributes)) (without_newlines (opens_preformatted (StartTag name attributes)) items)) p.0
    (fits-newlines (opens_preformatted (StartTag name attributes)) items (open_after stack (StartTag name attributes)) p.1)
fits-newlines false (StartTag name attributes ∷ items) stack h =
    let p = and_parts (fits stack (StartTag name attributes)) (each_fits (open_after stack (StartTag name attributes)) items) h in
    and_from (fits stack (StartTag name attributes)) (each_fits (open_after stack (StartTag name attributes)) (without_newlines (opens_preformatted (StartTag name attributes)) items)) p.0
    (fits-newlines (opens_preformatted (StartTag name attributes)) items (open_after stack (StartTag name attributes)) p.1)
fits-newlines true (EndTag name ∷ items) stack h =
    let p = and_parts (fits stack (EndTag name)) (each_fits (open_after stack (EndTag name)) items) h in
    and_from (fits stack (EndTag name)) (each_fits (open_after stack (EndTag name)) (without_newlines false items)) p.0
    (fits-newlines false items (open_after stack (EndTag name)) p.1)
fits-newlines false (EndTag name ∷ items) stack h =
    let p = and_parts (fits stack (EndTag name)) (each_fits (open_after stack (EndTag name)) items) h in
    and_from (fits stack (EndTag name)) (each_fits (open_after stack (EndTag name)) (without_newlines false items)) p.0
    (fits-newlines false items (open_after stack (EndTag name)) p.1)

-- ---- the elements open after them, and balance

open-front : (text : List ℕ) (items : List Item) (stack : List (List ℕ)) → all_open_after stack (in_front text items) ≡ all_open_after stack items
unfolding in_front all_open_after open_after
open-front [] items stack = refl
open-front (c ∷ text) [] stack = refl
open-front (c ∷ text) (Text more ∷ items) stack = refl
open-front (c ∷ text) (StartTag name attributes ∷ items) stack = refl
open-front (c ∷ text) (EndTag name ∷ items) stack = refl

pub open-whole : (items : List Item) (stack : List (List ℕ)) → all_open_after stack (whole_texts items) ≡ all_open_after stack items
unfolding whole_texts all_open_after open_after
open-whole [] stack = refl
open-whole (Text text ∷ items) stack = open-front text (whole_texts items) stack ∙ open-whole items stack
open-whole (StartTag name attributes ∷ items) stack = open-whole items (open_after stack (StartTag name attributes))
open-whole (EndTag name ∷ items) stack = open-whole items (open_after stack (EndTag name))

open-before : (text : List ℕ) (items : List Item) (stack : List (List ℕ)) → all_open_after stack (text_before text items) ≡ all_open_after stack items
unfolding all_open_after open_after
open-before [] items stack = refl
open-before (c ∷ text) items stack = refl

pub open-newlines : (fresh : Bool) (items : List Item) (stack : List (List ℕ)) → all_open_after stack (without_newlines fresh items) ≡ all_open_after stack items
unfolding without_newlines all_open_after open_after
open-newlines fresh [] stack = refl
open-newlines true (Text text ∷ items) stack =
    open-before (without_newline text) (without_newlines (is_empty_text text) items) stack ∙ open-newlines (is_empty_text text) items stack
open-newlines false (Text text ∷ items) stack = open-newlines false items stack
open-newlines true (StartTag name attributes ∷ items) stack = open-newlines (opens_preformatted (StartTag name attributes)) items (open_after stack (StartTag name attributes))
open-newlines false (StartTag name attributes ∷ items) stack = open-newlines (opens_preformatted (StartTag name attributes)) items (open_after stack (StartTag name attributes))
open-newlines true (EndTag name ∷ items) stack = open-newlines false items (open_after stack (EndTag name))
open-newlines false (EndTag name ∷ items) stack = open-newlines false items (open_after stack (EndTag name))

balanced-front : (text : List ℕ) (items : List Item) (n : ℕ) → balanced n (in_front text items) ≡ balanced n items
unfolding in_front balanced
balanced-front [] items n = refl
balanced-front (c ∷ text) [] n = refl
balanced-front (c ∷ text) (Text more ∷ items) n = refl
balanced-front (c ∷ text) (StartTag name attributes ∷ items) n = refl
balanced-front (c ∷ text) (EndTag name ∷ items) n = refl

pub balanced-whole : (items : List Item) (n : ℕ) → balanced n (whole_texts items) ≡ balanced n items
unfolding whole_texts balanced
balanced-whole [] n = refl
balanced-whole (Text text ∷ items) n = balanced-front text (whole_texts items) n ∙ balanced-whole items n
balanced-whole (StartTag name attributes ∷ items) n = balanced-whole items (if is_void (kind_of name) then n else suc n)
balanced-whole (EndTag name ∷ items) zero = refl
balanced-whole (EndTag name ∷ items) (suc n) = balanced-whole items n

balanced-before : (text : List ℕ) (items : List Item) (n : ℕ) → balanced n (text_before text items) ≡ balanced n items
unfolding balanced
balanced-before [] items n = refl
balanced-before (c ∷ text) items n = refl

pub balanced-newlines : (fresh : Bool) (items : List Item) (n : ℕ) → balanced n (without_newlines fresh items) ≡ balanced n items
unfolding without_newlines balanced
balanced-newlines fresh [] n = refl
balanced-newlines true (Text text ∷ items) n =
    balanced-before (without_newline text) (without_newlines (is_empty_text text) items) n ∙ balanced-newlines (is_empty_text text) items n
balanced-newlines false (Text text ∷ items) n = balanced-newlines false items n
balanced-newlines true (StartTag name attributes ∷ items) n = balanced-newlines (opens_preformatted (StartTag name attributes)) items (if is_void (kind_of name) then n else suc n)
balanced-newlines false (StartTag name attributes ∷ items) n = balanced-newlines (opens_preformatted (StartTag name attributes)) items (if is_void (kind_of name) then n else suc n)
balanced-newlines true (EndTag name ∷ items) zero = refl
balanced-newlines false (EndTag name ∷ items) zero = refl
balanced-newlines true (EndTag name ∷ items) (suc n) = balanced-newlines false items n
balanced-newlines false (EndTag name ∷ items) (suc n) = balanced-newlines false items n
