-- The head and form element pointers name elements of these names: the steps that set them. PointingSteps goes on with all others.
use Rattle.std.proofs.Common.{◌≡◌, ℕ, Bool, true, false, List, [], ◌∷◌, ◌++◌, refl, ap, sym, ◌∙◌}
use Rattle.std.specs.Prelude.{suc, ◌&&◌, not, Option, Some, None, codes, if◌then◌else◌}
use Rattle.std.proofs.lemmas.List.{append_assoc}
use Rattle.markup5ever.specs.Names.{AttributeOf}
use Rattle.tree_construction.specs.declared.kinds.Kind.{Kind}
use Rattle.tree_construction.specs.declared.kinds.Kind.TheVariants.{Form, Head}
use Rattle.tree_construction.specs.declared.kinds.Namespace.TheVariants.{Html}
use Rattle.tree_construction.specs.Adjusting.{adjusted_attributes}
use Rattle.tree_construction.specs.Adoption.{adopted}
use Rattle.tree_construction.specs.BeforeBody.{insert_head}
use Rattle.tree_construction.specs.Construction.{empty_parser, fragment_form, start, start_by}
use Rattle.tree_construction.specs.Formatting.{Listed}
use Rattle.tree_construction.specs.InBody.{end_form_of, insert_form}
use Rattle.tree_construction.specs.Names.{ends_button_scope, ends_scope, is_implied, is_paragraph, is_template, namespace_of}
use Rattle.tree_construction.specs.Page.{Edit, Open, Page, Place, comment_put, current_passes, edited, has_in_scope, has_kind, has_number, left, made, popped, popped_until, popped_while, removed_from_stack}
use Rattle.tree_construction.specs.Page.Edit.{MakeContents, MakeElement, ParseError, Put}
use Rattle.tree_construction.specs.declared.mistakes.Mistake.TheVariants.{UnclosedElements, UnexpectedToken}
use Rattle.tree_construction.specs.Parser.{Context, Options, Parser, associated_with, expects_current, inserted, mistaken, on_page, place_of, takes_form, without_paragraph}
use Rattle.tree_construction.specs.Tables.{form_in_table}
use Rattle.tree_construction.specs.Tokens.{StartTagOf}
use Rattle.tree_laws.specs.Laws.{Extends}
use Rattle.tree_laws.specs.Pointers.{IsElement, IsForm, IsFormElement, IsHead}
use Rattle.tree_laws.specs.Pointers.IsFormElement.{AroundContext, Made}
use Rattle.tree_laws.proofs.Growing.{extends-itself, grows-adopted, grows-comment_put, grows-edited, grows-left, grows-made, grows-removed_from_stack}
use Rattle.tree_laws.proofs.GrowingSteps.{grows-associated_with, grows-inserted, grows-popped, grows-popped_until, grows-popped_while}

-- ---- what is kept

pub record PartPoints (edits : List Edit) (head form : Option ℕ) : Type 0 where
  pub of_head : IsHead edits head
  pub of_form : IsForm edits form

abbrev pub Points : Parser → Type 0
Points p = PartPoints p.page.edits p.head p.form

-- more edits make no element less
element-after : (before after : List Edit) (n : ℕ) (name : List ℕ) → Extends before after → IsElement before n name → IsElement after n name
element-after before after n name more h = record {
  after = more.added ++ h.after;
  before = h.before;
  attributes = h.attributes;
  is = more.is ∙ ap (λ es. more.added ++ es) h.is ∙ sym (append_assoc more.added h.after (MakeElement n Html name h.attributes ∷ h.before));
}

head-after : (before after : List Edit) (head : Option ℕ) → Extends before after → IsHead before head → IsHead after head
head-after before after None more h = tt
head-after before after (Some n) more h = element-after before after n (codes "head") more h

form-element-after : (before after : List Edit) (n : ℕ) → Extends before after → IsFormElement before n → IsFormElement after n
form-element-after before after _ more AroundContext = AroundContext
form-element-after before after _ more (Made n h) = Made n (element-after before after n (codes "form") more h)

form-after : (before after : List Edit) (form : Option ℕ) → Extends before after → IsForm before form → IsForm after form
form-after before after None more h = tt
form-after before after (Some n) more h = form-element-after before after n more h

points-after : (before after : List Edit) (head form : Option ℕ) → Extends before after → PartPoints before head form → PartPoints after head form
points-after before after head form more h =
    record { of_head = head-after before after head more h.of_head; of_form = form-after before after form more h.of_form }

head-html : namespace_of Head ≡ Html
unfolding namespace_of
head-html = refl

form-html : namespace_of Form ≡ Html
unfolding namespace_of
form-html = refl

-- ---- pages

module _ (first : List Edit) where
  pub points-if-parser : (test : Bool) (p q : Parser) → Points p → Points q → Points (if test then p else q)
  points-if-parser true p q g h = g
  points-if-parser false p q g h = h

  pub points-if-page : (test : Bool) (p q : Page) → Extends first p.edits → Extends first q.edits → Extends first (if test then p else q).edits
  points-if-page true p q g h = g
  points-if-page false p q g h = h

  pub points-on_page : (change : Page → Page) → ((first : List Edit) (page : Page) → Extends first page.edits → Extends first (change page).edits)
      → (p : Parser) → Points p → Points (on_page change p)
  points-on_page change keeps p h =
      points-after p.page.edits (change p.page).edits p.head p.form (keeps p.page.edits p.page (extends-itself p.page.edits)) h

  pub points-edited : (edit : Edit) (page : Page) → Extends first page.edits → Extends first (edited edit page).edits
  points-edited edit page h = grows-edited first edit page h

  pub points-left : (e : Open) (es : List Open) (page : Page) → Extends first page.edits → Extends first (left e es page).edits
  points-left e es page h = grows-left first e es page h

  pub points-removed_from_stack : (n : ℕ) (page : Page) → Extends first page.edits → Extends first (removed_from_stack n page).edits
  points-removed_from_stack n page h = grows-removed_from_stack first n page h

  pub points-comment_put : (place : Place) (text : List ℕ) (page : Page) → Extends first page.edits → Extends first (comment_put place text page).edits
  points-comment_put place text page h = grows-comment_put first place text page h

  pub points-made : (kind : Kind) (name : List ℕ) (attributes : List AttributeOf) (page : Page) → Extends first page.edits
      → Extends first (made kind name attributes page).edits
  points-made kind name attributes page h = grows-made first kind name attributes page h

  -- ---- the adoption agency

  pub points-adopted : (p : Parser) (f : Listed) (d : ℕ) → Points p → Points (adopted p f d)
  unfolding adopted
  points-adopted p f d h =
      points-after p.page.edits (adopted p f d).page.edits p.head p.form (grows-adopted p.page.edits p f d (extends-itself p.page.edits)) h

  -- ---- the steps that set a pointer

  -- an element that is inserted was made
  element-inserted : (kind : Kind) (name : List ℕ) (attributes : List AttributeOf) (p : Parser) → is_template kind ≡ false → namespace_of kind ≡ Html
      → IsElement (inserted kind name attributes p).page.edits p.page.next name
  element-inserted kind name attributes p plain html =
      let n : ℕ = p.page.next in
      let place : Place = place_of 0 p in
      let takes : Bool = takes_form p kind attributes in
      let page : Page = made kind name attributes p.page in
      let begun : IsElement page.edits n name = record {
        after = [];
        before = p.page.edits;
        attributes = adjusted_attributes (namespace_of kind) attributes;
        is = ap (λ test. if test then MakeContents n (suc n) ∷ MakeElement n (namespace_of kind) name (adjusted_attributes (namespace_of kind) attributes) ∷ p.page.edits
            else MakeElement n (namespace_of kind) name (adjusted_attributes (namespace_of kind) attributes) ∷ p.page.edits) plain
            ∙ ap (λ namespace. MakeElement n namespace name (adjusted_attributes (namespace_of kind) attributes) ∷ p.page.edits) html;
      } in
      let later : Page = associated_with p.form takes n place page in
      let more : Extends page.edits (Put place n ∷ later.edits) =
      grows-edited page.edits (Put place n) later (grows-associated_with page.edits p.form takes n place page (extends-itself page.edits)) in
      element-after page.edits (Put place n ∷ later.edits) n name more begun

  inserted-points : (kind : Kind) (name : List ℕ) (attributes : List AttributeOf) (p : Parser) → Points p → Points (inserted kind name attributes p)
  inserted-points kind name attributes p h =
      points-after p.page.edits (inserted kind name attributes p).page.edits p.head p.form
      (grows-inserted p.page.edits kind name attributes p (extends-itself p.page.edits)) h

  pub points-insert_head : (tag : StartTagOf) (p : Parser) → Points p → Points (insert_head tag p)
  points-insert_head tag p h =
      let later : Points (inserted Head (codes "head") tag.attributes p) = inserted-points Head (codes "head") tag.attributes p h in
      record { of_head = element-inserted Head (codes "head") tag.attributes p refl head-html; of_form = later.of_form }

  points-expected : (test : Open → Bool) (p : Parser) → Points p → Points (expects_current test p)
  points-expected test p h =
      points-if-parser (current_passes test p.page.opened) p (mistaken UnclosedElements p) h
      (points-on_page (edited (ParseError UnclosedElements)) (λ first. grows-edited first (ParseError UnclosedElements)) p h)

  points-without_paragraph : (p : Parser) → Points p → Points (without_paragraph p)
  points-without_paragraph p h =
      let but : Open → Bool = λ e. is_implied e.kind && not (has_kind is_paragraph e) in
      let later : Parser = on_page (popped_while but) p in
      let expected : Parser = expects_current (has_kind is_paragraph) later in
      points-if-parser (has_in_scope ends_button_scope (has_kind is_paragraph) p.page.opened) (on_page (popped_until (has_kind is_paragraph)) expected) p
      (points-on_page (popped_until (has_kind is_paragraph)) (λ first. grows-popped_until first (has_kind is_paragraph)) expected
      (points-expected (has_kind is_paragraph) later (points-on_page (popped_while but) (λ first. grows-popped_while first but) p h))) h

  pub points-insert_form : (tag : StartTagOf) (p : Parser) → Points p → Points (insert_form tag p)
  points-insert_form tag p h =
      let ready : Parser = without_paragraph p in
      let kept : Points ready = points-without_paragraph p h in
      let later : Points (inserted Form (codes "form") tag.attributes ready) = inserted-points Form (codes "form") tag.attributes ready kept in
      record { of_head = later.of_head; of_form = Made ready.page.next (element-inserted Form (codes "form") tag.attributes ready refl form-html) }

  pub points-form_in_table : (form : Option ℕ) (tag : StartTagOf) (p : Parser) → Points p → Points (form_in_table form tag p)
  points-form_in_table (Some n) tag p h = h
  points-form_in_table None tag p h =
      let put : Parser = inserted Form (codes "form") tag.attributes p in
      let later : Points put = inserted-points Form (codes "form") tag.attributes p h in
      points-on_page popped (λ first. grows-popped first) (record put { form = Some p.page.next })
      (record { of_head = later.of_head; of_form = Made p.page.next (element-inserted Form (codes "form") tag.attributes p refl form-html) })

  pub points-end_form_of : (form : Option ℕ) (p : Parser) → Points p → Points (end_form_of form p)
  points-end_form_of None p h = points-on_page (edited (ParseError UnexpectedToken)) (λ first. grows-edited first (ParseError UnexpectedToken)) p h
  points-end_form_of (Some n) p h =
      let without : Parser = record p { form = None } in
      let kept : Points without = record { of_head = h.of_head; of_form = tt } in
      let later : Parser = on_page (popped_while (has_kind is_implied)) without in
      let expected : Parser = expects_current (has_number n) later in
      let good : Points expected =
      points-expected (has_number n) later (points-on_page (popped_while (has_kind is_implied)) (λ first. grows-popped_while first (has_kind is_implied)) without kept) in
      points-if-parser (has_in_scope ends_scope (has_number n) p.page.opened) (on_page (removed_from_stack n) expected) (mistaken UnexpectedToken without)
      (points-on_page (removed_from_stack n) (λ first. grows-removed_from_stack first n) expected good)
      (points-on_page (edited (ParseError UnexpectedToken)) (λ first. grows-edited first (ParseError UnexpectedToken)) without kept)

-- ---- the start

pub points-start : (options : Options) → Points (start options)
unfolding start
points-start options = started options.context
  where
    of-context : (edits : List Edit) (has : Bool) → IsForm edits (fragment_form has)
    of-context edits true = AroundContext
    of-context edits false = tt

    started : (context : Option Context) → Points (start_by context (empty_parser options))
    started None = record { of_head = tt; of_form = tt }
    started (Some context) = record { of_head = tt; of_form = of-context _ context.in_form }
