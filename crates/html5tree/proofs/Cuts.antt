-- How a text is cut into pieces changes nothing of what the normaliser makes, once pieces that stand together are one text.
use Rattle.std.proofs.Common.{◌≡◌, ℕ, Bool, true, false, List, [], ◌∷◌, ◌++◌, length, take, refl, ap, sym, ◌∙◌, append-nil, append_assoc}
use Rattle.std.specs.Prelude.{codes, filter, not, ◌&&◌, nat_le, if◌then◌else◌}
use Rattle.std.specs.List.{list_all}
use Rattle.std.proofs.lemmas.List.Folds.{list_all-append}
use Rattle.std.proofs.lemmas.List.Elements.{filter-append}
use Rattle.std.proofs.lemmas.Bool.{false≢true, and_parts}
use Rattle.html5tree.specs.Fitting.{holds_parts, is_space, open_after}
use Rattle.html5tree.specs.Items.{Item, in_front, text_before, whole_texts}
use Rattle.html5tree.specs.Items.Item.{EndTag, StartTag, Text}
use Rattle.html5tree.specs.declared.kinds.Kind.TheVariants.{Cell}
use Rattle.html5tree.specs.Normal.{IsReady, cell_plan, end_tags, fitted, inside_context, moved, normal, normal_above, open_after_fitted, opened, parents_in, plan_of, start_tags, written}
use Rattle.html5tree.specs.Scopes.{kind_on_top}
use Rattle.html5tree.specs.Tables.{after_space, leading_space}
use Rattle.html5tree.proofs.Normalising.{none-ready, parted, ready-after}
use Rattle.html5tree.proofs.RightPlans.{PlansCell, Stack, kind-td, plans-cell}

-- ---- whole texts

front-twice : (a b : List ℕ) (items : List Item) → in_front a (in_front b items) ≡ in_front (a ++ b) items
unfolding in_front
front-twice a [] items = ap (λ x. in_front x items) (sym (append-nil a))
front-twice [] (c ∷ b) items = refl
front-twice (d ∷ a) (c ∷ b) [] = refl
front-twice (d ∷ a) (c ∷ b) (Text more ∷ items) = ap (λ x. Text x ∷ items) (sym (append_assoc (d ∷ a) (c ∷ b) more))
front-twice (d ∷ a) (c ∷ b) (StartTag name attributes ∷ items) = refl
front-twice (d ∷ a) (c ∷ b) (EndTag name ∷ items) = refl

whole-text : (text : List ℕ) (items : List Item) → whole_texts (Text text ∷ items) ≡ in_front text (whole_texts items)
unfolding whole_texts
whole-text text items = refl

whole-append : (before items more : List Item) → whole_texts items ≡ whole_texts more → whole_texts (before ++ items) ≡ whole_texts (before ++ more)
unfolding whole_texts
whole-append [] items more e = e
whole-append (Text text ∷ before) items more e = ap (in_front text) (whole-append before items more e)
whole-append (StartTag name attributes ∷ before) items more e = ap (λ x. StartTag name attributes ∷ x) (whole-append before items more e)
whole-append (EndTag name ∷ before) items more e = ap (λ x. EndTag name ∷ x) (whole-append before items more e)

whole-before : (text : List ℕ) (items : List Item) → whole_texts (text_before text [] ++ items) ≡ in_front text (whole_texts items)
unfolding whole_texts in_front
whole-before [] items = refl
whole-before (c ∷ text) items = refl

-- two texts side by side are read as one
whole-twice : (a b : List ℕ) (items : List Item) → whole_texts (Text a ∷ Text b ∷ items) ≡ whole_texts (Text (a ++ b) ∷ items)
whole-twice a b items =
    whole-text a (Text b ∷ items) ∙ (ap (in_front a) (whole-text b items)
    ∙ (front-twice a b (whole_texts items) ∙ sym (whole-text (a ++ b) items)))

-- ---- the white space at the front of two texts

leading-all : (a b : List ℕ) → list_all is_space a ≡ true → leading_space (a ++ b) ≡ a ++ leading_space b
unfolding leading_space
leading-all [] b h = refl
leading-all (c ∷ a) b h =
    let p = and_parts (is_space c) (list_all is_space a) h in rw p.0 (ap (λ x. c ∷ x) (leading-all a b p.1))

after-all : (a b : List ℕ) → list_all is_space a ≡ true → after_space (a ++ b) ≡ after_space b
unfolding after_space
after-all [] b h = refl
after-all (c ∷ a) b h = let p = and_parts (is_space c) (list_all is_space a) h in rw p.0 (after-all a b p.1)

leading-some : (a b : List ℕ) → list_all is_space a ≡ false → leading_space (a ++ b) ≡ leading_space a
unfolding leading_space
leading-some [] b h = absurd (false≢true (sym h))
leading-some (c ∷ a) b h = at (is_space c) h (leading-some a b)
  where
    at : (t : Bool) → (t && list_all is_space a) ≡ false → (list_all is_space a ≡ false → leading_space (a ++ b) ≡ leading_space a)
        → (if t then c ∷ leading_space (a ++ b) else []) ≡ (if t then c ∷ leading_space a else [])
    at true h again = ap (λ x. c ∷ x) (again h)
    at false h again = refl

after-some : (a b : List ℕ) → list_all is_space a ≡ false → after_space (a ++ b) ≡ after_space a ++ b
unfolding after_space
after-some [] b h = absurd (false≢true (sym h))
after-some (c ∷ a) b h = at (is_space c) h (after-some a b)
  where
    at : (t : Bool) → (t && list_all is_space a) ≡ false → (list_all is_space a ≡ false → after_space (a ++ b) ≡ after_space a ++ b)
        → (if t then after_space (a ++ b) else c ∷ a ++ b) ≡ (if t then after_space a else c ∷ a) ++ b
    at true h again = again h
    at false h again = refl

filter-all : (a : List ℕ) → list_all is_space a ≡ true → filter is_space a ≡ a
filter-all [] h = refl
filter-all (c ∷ a) h = let p = and_parts (is_space c) (list_all is_space a) h in rw p.0 (ap (λ x. c ∷ x) (filter-all a p.1))

-- ---- what is written for a text

record Makes (limit : ℕ) (s : Stack) (text : List ℕ) (items : List Item) (after : Stack) : Type 0 where
  items_are : fitted limit s (Text text) ≡ items
  after_is : open_after_fitted limit s (Text text) ≡ after

kept-text : (limit : ℕ) (s : Stack) (text : List ℕ) → (holds_parts (kind_on_top s) && not (list_all is_space text)) ≡ false
    → Makes limit s text (Text text ∷ []) s
unfolding plan_of opened open_after
kept-text limit s text h = record { items_are = rw h refl; after_is = rw h refl }

celled-text : (limit : ℕ) (s : Stack) (text : List ℕ) → holds_parts (kind_on_top s) ≡ true → list_all is_space text ≡ false
    → nat_le (length (moved (cell_plan s) s)) limit ≡ true → Makes limit s text (written (parted (cell_plan s)) s (Text text)) (moved (cell_plan s) s)
unfolding plan_of
celled-text limit s text h e l = record { items_are = rw (h, e, l) refl; after_is = rw (h, e, l) refl }

deep-text : (limit : ℕ) (s : Stack) (text : List ℕ) → holds_parts (kind_on_top s) ≡ true → list_all is_space text ≡ false
    → nat_le (length (moved (cell_plan s) s)) limit ≡ false → Makes limit s text (Text (filter is_space text) ∷ []) s
unfolding plan_of opened
deep-text limit s text h e l = record { items_are = rw (h, e, l) refl; after_is = rw (h, e, l) refl }

-- ---- two texts

record JoinsTexts (limit : ℕ) (s : Stack) (a b : List ℕ) : Type 0 where
  after : open_after_fitted limit (open_after_fitted limit s (Text a)) (Text b) ≡ open_after_fitted limit s (Text (a ++ b))
  reads : (rest : List Item) → whole_texts (fitted limit s (Text a) ++ (fitted limit (open_after_fitted limit s (Text a)) (Text b) ++ rest))
      ≡ whole_texts (fitted limit s (Text (a ++ b)) ++ rest)

joins : (limit : ℕ) (s t u : Stack) (a b : List ℕ) (first second both : List Item) → Makes limit s a first t → Makes limit t b second u
    → Makes limit s (a ++ b) both u → ((rest : List Item) → whole_texts (first ++ (second ++ rest)) ≡ whole_texts (both ++ rest)) → JoinsTexts limit s a b
joins limit s t u a b first second both m n o same =
    record {
      after = rw m.after_is (n.after_is ∙ sym o.after_is);
      reads = λ rest. rw (m.items_are, m.after_is, n.items_are, o.items_are) (same rest);
    }

-- the tags of a cell, and a text in it
abbrev celled : Stack → List ℕ → List Item
celled s text =
    end_tags (take (inside_context Cell s) s) ++ (start_tags (parents_in s Cell ++ codes "td" ∷ []) ++ Text text ∷ [])

whole-parted : (s : Stack) (text rest_text : List ℕ) (rest : List Item)
    → whole_texts ((text_before text [] ++ celled s rest_text) ++ rest) ≡ in_front text (whole_texts (celled s rest_text ++ rest))
whole-parted s text rest_text rest =
    ap whole_texts (append_assoc (text_before text []) (celled s rest_text) rest) ∙ whole-before text (celled s rest_text ++ rest)

whole-celled : (s : Stack) (a b : List ℕ) (rest : List Item) → whole_texts (celled s a ++ (Text b ∷ rest)) ≡ whole_texts (celled s (a ++ b) ++ rest)
whole-celled s a b rest =
    let ends : List Item = end_tags (take (inside_context Cell s) s) in
    let starts : List Item = start_tags (parents_in s Cell ++ codes "td" ∷ []) in
    ap whole_texts (append_assoc ends (starts ++ Text a ∷ []) (Text b ∷ rest) ∙ ap (λ x. ends ++ x) (append_assoc starts (Text a ∷ []) (Text b ∷ rest)))
    ∙ (whole-append ends (starts ++ Text a ∷ Text b ∷ rest) (starts ++ Text (a ++ b) ∷ rest)
    (whole-append starts (Text a ∷ Text b ∷ rest) (Text (a ++ b) ∷ rest) (whole-twice a b rest))
    ∙ sym (ap whole_texts (append_assoc ends (starts ++ Text (a ++ b) ∷ []) rest ∙ ap (λ x. ends ++ x) (append_assoc starts (Text (a ++ b) ∷ []) rest))))

in-cell-flow : (s : Stack) → PlansCell s → holds_parts (kind_on_top (moved (cell_plan s) s)) ≡ false
in-cell-flow s c = rw c.is (rw kind-td refl)

two-texts : (limit : ℕ) (s : Stack) (a b : List ℕ) → IsReady limit s → JoinsTexts limit s a b
two-texts limit s a b ready =
    at (holds_parts (kind_on_top s)) (list_all is_space a) (list_all is_space b) (nat_le (length (moved (cell_plan s) s)) limit) refl refl refl refl
  where
    all : (c d : Bool) → list_all is_space a ≡ c → list_all is_space b ≡ d → list_all is_space (a ++ b) ≡ (c && d)
    all c d e f = list_all-append is_space a b ∙ rw (e, f) refl

    at : (h c d l : Bool) → holds_parts (kind_on_top s) ≡ h → list_all is_space a ≡ c → list_all is_space b ≡ d
        → nat_le (length (moved (cell_plan s) s)) limit ≡ l → JoinsTexts limit s a b
    at false c d l holder e f g =
        joins limit s s s a b (Text a ∷ []) (Text b ∷ []) (Text (a ++ b) ∷ []) (kept-text limit s a (rw holder refl)) (kept-text limit s b (rw holder refl))
        (kept-text limit s (a ++ b) (rw holder refl)) (λ rest. whole-twice a b rest)
    at true true true l holder e f g =
        joins limit s s s a b (Text a ∷ []) (Text b ∷ []) (Text (a ++ b) ∷ []) (kept-text limit s a (rw (holder, e) refl)) (kept-text limit s b (rw (holder, f) refl))
        (kept-text limit s (a ++ b) (rw (holder, all true true e f) refl)) (λ rest. whole-twice a b rest)
    at true true false true holder e f g =
        joins limit s s (moved (cell_plan s) s) a b (Text a ∷ []) (written (parted (cell_plan s)) s (Text b)) (written (parted (cell_plan s)) s (Text (a ++ b)))
        (kept-text limit s a (rw (holder, e) refl)) (celled-text limit s b holder f g) (celled-text limit s (a ++ b) holder (all true false e f) g)
        (λ rest. whole-text a ((text_before (leading_space b) [] ++ celled s (after_space b)) ++ rest)
        ∙ (ap (in_front a) (whole-parted s (leading_space b) (after_space b) rest)
        ∙ (front-twice a (leading_space b) (whole_texts (celled s (after_space b) ++ rest))
        ∙ (rw (← (leading-all a b e), ← (after-all a b e)) (sym (whole-parted s (leading_space (a ++ b)) (after_space (a ++ b)) rest))))))
    at true true false false holder e f g =
        joins limit s s s a b (Text a ∷ []) (Text (filter is_space b) ∷ []) (Text (filter is_space (a ++ b)) ∷ []) (kept-text limit s a (rw (holder, e) refl))
        (deep-text limit s b holder f g) (deep-text limit s (a ++ b) holder (all true false e f) g)
        (λ rest. rw (filter-append is_space a b, filter-all a e) (whole-twice a (filter is_space b) rest))
    at true false d true holder e f g =
        let t : Stack = moved (cell_plan s) s in
        joins limit s t t a b (written (parted (cell_plan s)) s (Text a)) (Text b ∷ []) (written (parted (cell_plan s)) s (Text (a ++ b)))
        (celled-text limit s a holder e g) (kept-text limit t b (rw (in-cell-flow s (plans-cell s ready.stand holder)) refl))
        (celled-text limit s (a ++ b) holder (all false d e f) g)
        (λ rest. whole-parted s (leading_space a) (after_space a) (Text b ∷ rest)
        ∙ (ap (in_front (leading_space a)) (whole-celled s (after_space a) b rest)
        ∙ (rw (← (leading-some a b e), ← (after-some a b e)) (sym (whole-parted s (leading_space (a ++ b)) (after_space (a ++ b)) rest)))))
    at true false true false holder e f g =
        joins limit s s s a b (Text (filter is_space a) ∷ []) (Text b ∷ []) (Text (filter is_space (a ++ b)) ∷ []) (deep-text limit s a holder e g)
        (kept-text limit s b (rw (holder, f) refl)) (deep-text limit s (a ++ b) holder (all false true e f) g)
        (λ rest. rw (filter-append is_space a b, filter-all b f) (whole-twice (filter is_space a) b rest))
    at true false false false holder e f g =
        joins limit s s s a b (Text (filter is_space a) ∷ []) (Text (filter is_space b) ∷ []) (Text (filter is_space (a ++ b)) ∷ []) (deep-text limit s a holder e g)
        (deep-text limit s b holder f g) (deep-text limit s (a ++ b) holder (all false false e f) g)
        (λ rest. rw (filter-append is_space a b) (whole-twice (filter is_space a) (filter is_space b) rest))

-- ---- all items

no-text : (limit : ℕ) (s : Stack) → Makes limit s [] (Text [] ∷ []) s
no-text limit s = kept-text limit s [] (at (holds_parts (kind_on_top s)))
  where
    at : (b : Bool) → (b && false) ≡ false
    at true = refl
    at false = refl

-- a text before whole texts
whole-in-front : (limit : ℕ) (s : Stack) (text : List ℕ) (items : List Item) → IsReady limit s
    → whole_texts (fitted limit s (Text text) ++ normal_above limit (open_after_fitted limit s (Text text)) items) ≡ whole_texts (normal_above limit s (in_front text items))
unfolding in_front normal_above whole_texts
whole-in-front limit s [] items ready =
    let m = no-text limit s in
    rw (m.items_are, m.after_is) refl
whole-in-front limit s (c ∷ text) [] ready = refl
whole-in-front limit s (c ∷ text) (StartTag name attributes ∷ items) ready = refl
whole-in-front limit s (c ∷ text) (EndTag name ∷ items) ready = refl
whole-in-front limit s (c ∷ text) (Text more ∷ items) ready =
    let j = two-texts limit s (c ∷ text) more ready in
    rw j.after (j.reads (normal_above limit (open_after_fitted limit s (Text (c ∷ text ++ more))) items))

whole-all : (limit : ℕ) (items : List Item) (s : Stack) → IsReady limit s
    → whole_texts (normal_above limit s items) ≡ whole_texts (normal_above limit s (whole_texts items))
unfolding normal_above whole_texts
whole-all limit [] s ready = refl
whole-all limit (StartTag name attributes ∷ items) s ready =
    let t : Stack = open_after_fitted limit s (StartTag name attributes) in
    whole-append (fitted limit s (StartTag name attributes)) (normal_above limit t items) (normal_above limit t (whole_texts items))
    (whole-all limit items t (ready-after limit s (StartTag name attributes) ready))
whole-all limit (EndTag name ∷ items) s ready =
    let t : Stack = open_after_fitted limit s (EndTag name) in
    whole-append (fitted limit s (EndTag name)) (normal_above limit t items) (normal_above limit t (whole_texts items))
    (whole-all limit items t (ready-after limit s (EndTag name) ready))
whole-all limit (Text text ∷ items) s ready =
    let t : Stack = open_after_fitted limit s (Text text) in
    whole-append (fitted limit s (Text text)) (normal_above limit t items) (normal_above limit t (whole_texts items))
    (whole-all limit items t (ready-after limit s (Text text) ready))
    ∙ whole-in-front limit s text (whole_texts items) ready

pub normal-whole : (limit : ℕ) (items : List Item) → whole_texts (normal limit items) ≡ whole_texts (normal limit (whole_texts items))
normal-whole limit items = whole-all limit items [] (none-ready limit)

pub normal-cut : (limit : ℕ) (items others : List Item) → whole_texts items ≡ whole_texts others → whole_texts (normal limit items) ≡ whole_texts (normal limit others)
normal-cut limit items others same =
    normal-whole limit items ∙ (ap (λ x. whole_texts (normal limit x)) same ∙ sym (normal-whole limit others))
