-- Each text after the first letter of a tag's name is the rest of a tag as source text, and more, or one without its end.
use Rattle.std.proofs.Common.{◌≡◌, ◌⊎◌, inl, inr, ℕ, Bool, true, false, List, [], ◌∷◌, ◌++◌, refl, ap, sym, ◌∙◌, subst}
use Rattle.std.specs.Prelude.{◌==◌, flat_map}
use Rattle.std.specs.List.{list_all}
use Rattle.std.proofs.lemmas.Bool.{false≢true, eqb-true}
use Rattle.std.proofs.lemmas.List.{append_assoc, append-nil}
use Rattle.html5ever_interface.specs.declared.states.AttrValueKind.{AttrValueKind}
use Rattle.html5ever_interface.specs.declared.states.AttrValueKind.TheVariants.{Unquoted, SingleQuoted, DoubleQuoted}
use Rattle.html5reading.specs.Characters.{quotation_mark, apostrophe, solidus, equals_sign, greater_than, is_white_space}
use Rattle.html5grammar.specs.Tag.{Value, Part, value_text, part_text, place_after, place_after_value, place_after_parts, takes_blank, takes_solidus, takes_attribute, is_attribute_name, begins_attribute, is_in_value, is_value, is_open_value, open_quote, needs_stop, can_stand, can_follow}
use Rattle.html5grammar.specs.Tag.Part.{Blank, Solidus, Name, Attribute}
use Rattle.html5grammar.specs.Tag.Value.{InDoubleQuotes, InSingleQuotes, Bare}
use Rattle.html5reading.specs.Start.{Place}
use Rattle.html5reading.specs.Start.Place.{InName, BeforeAttribute, InAttributeName, AfterAttributeName, BeforeValue, InValue, AfterQuotedValue, AfterSolidus}
use Rattle.html5reading.specs.Tag.{in_tag_name, in_attribute_name, quote_of}

-- a value that the text ends, after an attribute's name
pub record OpenValue (text : List ℕ) : Type 0 where
  pub space : List ℕ
  pub afterwards : List ℕ
  pub kind : AttrValueKind
  pub run : List ℕ
  pub space_white : list_all is_white_space space ≡ true
  pub after_white : list_all is_white_space afterwards ≡ true
  pub is_open : is_open_value kind run ≡ true
  pub parts : text ≡ space ++ (equals_sign ∷ afterwards ++ (open_quote kind ++ run))

-- how parts end: with `>`, with the text, or within a value in quotes
pub data Ending (place : Place) (text : List ℕ) : Type 0 where
  Closed : (Z : List ℕ) → text ≡ greater_than ∷ Z → Ending place text
  CutOff : needs_stop place ≡ false → text ≡ [] → Ending place text
  CutWithin : (first : ℕ) (rest later : List ℕ) → is_attribute_name place first rest ≡ true → OpenValue later → text ≡ first ∷ rest ++ later → Ending place text

-- parts from a place on, and how they end
pub record Parts (place : Place) (text : List ℕ) : Type 0 where
  pub list : List Part
  pub tail : List ℕ
  pub follow : can_follow place list ≡ true
  pub parts : text ≡ flat_map part_text list ++ tail
  pub ending : Ending (place_after_parts place list) tail

-- an attribute's value, from the white space after its name on
pub data Assigned (text : List ℕ) : Type 0 where
  Given : (space afterwards : List ℕ) (value : Value) (later : List ℕ) → list_all is_white_space space ≡ true → list_all is_white_space afterwards ≡ true → is_value value ≡ true
      → text ≡ (space ++ (equals_sign ∷ afterwards ++ value_text value)) ++ later → Parts (place_after_value value) later → Assigned text
  Open : OpenValue text → Assigned text

-- the same from the `=` on, after it
pub data ValueRest (text : List ℕ) : Type 0 where
  GivenRest : (afterwards : List ℕ) (value : Value) (later : List ℕ) → list_all is_white_space afterwards ≡ true → is_value value ≡ true
      → text ≡ (afterwards ++ value_text value) ++ later → Parts (place_after_value value) later → ValueRest text
  OpenRest : (afterwards : List ℕ) (kind : AttrValueKind) (run : List ℕ) → list_all is_white_space afterwards ≡ true → is_open_value kind run ≡ true
      → text ≡ afterwards ++ (open_quote kind ++ run) → ValueRest text

pub data QuotedRest (kind : AttrValueKind) (text : List ℕ) : Type 0 where
  Quoted : (run later : List ℕ) → list_all (is_in_value kind) run ≡ true → text ≡ run ++ quote_of kind ∷ later → Parts AfterQuotedValue later → QuotedRest kind text
  Unquoted_end : list_all (is_in_value kind) text ≡ true → QuotedRest kind text

pub record BareRest (text : List ℕ) : Type 0 where
  pub run : List ℕ
  pub later : List ℕ
  pub all : list_all (is_in_value Unquoted) run ≡ true
  pub parts : text ≡ run ++ later
  pub more : Parts (InValue Unquoted) later ⊎ (later ≡ [])

pub record NameRest (text : List ℕ) : Type 0 where
  pub rest : List ℕ
  pub later : List ℕ
  pub all : list_all in_attribute_name rest ≡ true
  pub parts : text ≡ rest ++ later
  pub more : Parts InAttributeName later ⊎ Assigned later

-- a place between parts
abbrev pub is_between : Place → Bool
is_between BeforeAttribute = true
is_between AfterQuotedValue = true
is_between AfterSolidus = true
is_between place = false

pub record All (text : List ℕ) : Type 0 where
  pub at : (place : Place) → is_between place ≡ true → Parts place text
  pub name : NameRest text
  pub space : Parts AfterAttributeName text ⊎ Assigned text
  pub value : ValueRest text
  pub double : QuotedRest DoubleQuoted text
  pub single : QuotedRest SingleQuoted text
  pub bare : BareRest text

-- ---- building

parts-end : (place : Place) (text : List ℕ) → Ending place text → Parts place text
unfolding can_follow place_after_parts
parts-end place text ending = record { list = []; tail = text; follow = refl; parts = refl; ending = ending }

parts-cons : (place : Place) (part : Part) (text : List ℕ) → can_stand place part ≡ true → Parts (place_after place part) text → Parts place (part_text part ++ text)
unfolding can_follow place_after_parts
parts-cons place part text h p = record {
  list = part ∷ p.list;
  tail = p.tail;
  follow = rw (h, p.follow) refl;
  parts = ap (λ l. part_text part ++ l) p.parts ∙ sym (append_assoc (part_text part) (flat_map part_text p.list) p.tail);
  ending = p.ending;
}

-- an attribute, from the first character of its name on
attribute-named : (place : Place) (first : ℕ) (text : List ℕ) → takes_attribute place first ≡ true → begins_attribute first ≡ true → NameRest text → Parts place (first ∷ text)
attribute-named place first text takes begins n = by n.more
  where
    named : is_attribute_name place first n.rest ≡ true
    named = rw (takes, begins, n.all) refl

    by : Parts InAttributeName n.later ⊎ Assigned n.later → Parts place (first ∷ text)
    by (inl p) = subst (λ l. Parts place (first ∷ l)) (sym n.parts) (parts-cons place (Name first n.rest) n.later named p)
    by (inr (Given space afterwards value later h g f e p)) =
        subst (λ l. Parts place (first ∷ l)) (sym (n.parts ∙ ap (λ l. n.rest ++ l) e ∙ sym (append_assoc n.rest (space ++ (equals_sign ∷ afterwards ++ value_text value)) later)))
        (parts-cons place (Attribute first n.rest space afterwards value) later (rw (named, h, g, f) refl) p)
    by (inr (Open o)) = parts-end place (first ∷ text) (CutWithin first n.rest n.later named o (ap (λ l. first ∷ l) n.parts))

-- white space before what may follow an attribute's name
assigned-space : (c : ℕ) (text : List ℕ) → is_white_space c ≡ true → Assigned text → Assigned (c ∷ text)
assigned-space c text h (Given space afterwards value later g f e parts p) = Given (c ∷ space) afterwards value later (rw (h, g) refl) f e (ap (λ l. c ∷ l) parts) p
assigned-space c text h (Open o) = Open (record {
  space = c ∷ o.space;
  afterwards = o.afterwards;
  kind = o.kind;
  run = o.run;
  space_white = rw (h, o.space_white) refl;
  after_white = o.after_white;
  is_open = o.is_open;
  parts = ap (λ l. c ∷ l) o.parts;
})

assigned-equals : (text : List ℕ) → ValueRest text → Assigned (equals_sign ∷ text)
assigned-equals text (GivenRest afterwards value later h g parts p) = Given [] afterwards value later refl h g (ap (λ l. equals_sign ∷ l) parts) p
assigned-equals text (OpenRest afterwards kind run h g parts) = Open (record { space = []; afterwards = afterwards; kind = kind; run = run; space_white = refl; after_white = h; is_open = g; parts = ap (λ l. equals_sign ∷ l) parts })

value-space : (c : ℕ) (text : List ℕ) → is_white_space c ≡ true → ValueRest text → ValueRest (c ∷ text)
value-space c text h (GivenRest afterwards value later g f parts p) = GivenRest (c ∷ afterwards) value later (rw (h, g) refl) f (ap (λ l. c ∷ l) parts) p
value-space c text h (OpenRest afterwards kind run g f parts) = OpenRest (c ∷ afterwards) kind run (rw (h, g) refl) f (ap (λ l. c ∷ l) parts)

value-double : (text : List ℕ) → QuotedRest DoubleQuoted text → ValueRest (quotation_mark ∷ text)
value-double text (Quoted run later h parts p) = GivenRest [] (InDoubleQuotes run) later refl h (ap (λ l. quotation_mark ∷ l) (parts ∙ sym (append_assoc run (quotation_mark ∷ []) later))) p
value-double text (Unquoted_end h) = OpenRest [] DoubleQuoted text refl h refl

value-single : (text : List ℕ) → QuotedRest SingleQuoted text → ValueRest (apostrophe ∷ text)
value-single text (Quoted run later h parts p) = GivenRest [] (InSingleQuotes run) later refl h (ap (λ l. apostrophe ∷ l) (parts ∙ sym (append_assoc run (apostrophe ∷ []) later))) p
value-single text (Unquoted_end h) = OpenRest [] SingleQuoted text refl h refl

quoted-end : (kind : AttrValueKind) (text : List ℕ) → Parts AfterQuotedValue text → QuotedRest kind (quote_of kind ∷ text)
quoted-end kind text p = Quoted [] text refl refl p

quoted-more : (kind : AttrValueKind) (c : ℕ) (text : List ℕ) → is_in_value kind c ≡ true → QuotedRest kind text → QuotedRest kind (c ∷ text)
quoted-more kind c text h (Quoted run later g parts p) = Quoted (c ∷ run) later (rw (h, g) refl) (ap (λ l. c ∷ l) parts) p
quoted-more kind c text h (Unquoted_end g) = Unquoted_end (rw (h, g) refl)

name-more : (c : ℕ) (text : List ℕ) → in_attribute_name c ≡ true → NameRest text → NameRest (c ∷ text)
name-more c text h n = record { rest = c ∷ n.rest; later = n.later; all = rw (h, n.all) refl; parts = ap (λ l. c ∷ l) n.parts; more = n.more }

name-ends : (text : List ℕ) → Parts InAttributeName text ⊎ Assigned text → NameRest text
name-ends text more = record { rest = []; later = text; all = refl; parts = refl; more = more }

bare-more : (c : ℕ) (text : List ℕ) → is_in_value Unquoted c ≡ true → BareRest text → BareRest (c ∷ text)
bare-more c text h b = record { run = c ∷ b.run; later = b.later; all = rw (h, b.all) refl; parts = ap (λ l. c ∷ l) b.parts; more = b.more }

bare-ends : (text : List ℕ) → Parts (InValue Unquoted) text ⊎ (text ≡ []) → BareRest text
bare-ends text p = record { run = []; later = text; all = refl; parts = refl; more = p }

-- ---- no character

between-stops : (place : Place) → is_between place ≡ true → needs_stop place ≡ false
between-stops BeforeAttribute h = refl
between-stops AfterQuotedValue h = refl
between-stops AfterSolidus h = refl
between-stops InName h = absurd (false≢true h)
between-stops InAttributeName h = absurd (false≢true h)
between-stops AfterAttributeName h = absurd (false≢true h)
between-stops BeforeValue h = absurd (false≢true h)
between-stops (InValue kind) h = absurd (false≢true h)

-- the empty text has a form for each place in a tag
all-nil : All []
unfolding can_follow place_after_parts
all-nil = record {
  at = λ place h. parts-end place [] (CutOff (between-stops place h) refl);
  name = name-ends [] (inl (parts-end InAttributeName [] (CutOff refl refl)));
  space = inl (parts-end AfterAttributeName [] (CutOff refl refl));
  value = GivenRest [] (Bare []) [] refl refl refl (parts-end BeforeValue [] (CutOff refl refl));
  double = Unquoted_end refl;
  single = Unquoted_end refl;
  bare = bare-ends [] (inr refl);
}

-- ---- a character in front

between-takes : (place : Place) (c : ℕ) → is_between place ≡ true → takes_attribute place c ≡ true
between-takes BeforeAttribute c h = refl
between-takes AfterQuotedValue c h = refl
between-takes AfterSolidus c h = refl
between-takes InName c h = absurd (false≢true h)
between-takes InAttributeName c h = absurd (false≢true h)
between-takes AfterAttributeName c h = absurd (false≢true h)
between-takes BeforeValue c h = absurd (false≢true h)
between-takes (InValue kind) c h = absurd (false≢true h)

between-solidus : (place : Place) → is_between place ≡ true → takes_solidus place ≡ true
between-solidus BeforeAttribute h = refl
between-solidus AfterQuotedValue h = refl
between-solidus AfterSolidus h = refl
between-solidus InName h = absurd (false≢true h)
between-solidus InAttributeName h = absurd (false≢true h)
between-solidus AfterAttributeName h = absurd (false≢true h)
between-solidus BeforeValue h = absurd (false≢true h)
between-solidus (InValue kind) h = absurd (false≢true h)

between-blank : (place : Place) (c : ℕ) (text : List ℕ) → is_between place ≡ true → is_white_space c ≡ true → Parts BeforeAttribute text → Parts place (c ∷ text)
between-blank BeforeAttribute c text h white p = parts-cons BeforeAttribute (Blank c) text white p
between-blank AfterQuotedValue c text h white p = parts-cons AfterQuotedValue (Blank c) text white p
between-blank AfterSolidus c text h white p = parts-cons AfterSolidus (Blank c) text white p
between-blank InName c text h white p = absurd (false≢true h)
between-blank InAttributeName c text h white p = absurd (false≢true h)
between-blank AfterAttributeName c text h white p = absurd (false≢true h)
between-blank BeforeValue c text h white p = absurd (false≢true h)
between-blank (InValue kind) c text h white p = absurd (false≢true h)

closed-at : (place : Place) (c : ℕ) (text : List ℕ) → (c == greater_than) ≡ true → Parts place (c ∷ text)
closed-at place c text h = parts-end place (c ∷ text) (Closed text (ap (λ d. d ∷ text) (eqb-true c greater_than h)))

solidus-at : (place : Place) (c : ℕ) (text : List ℕ) → (c == solidus) ≡ true → takes_solidus place ≡ true → Parts AfterSolidus text → Parts place (c ∷ text)
solidus-at place c text h takes p = subst (λ d. Parts place (d ∷ text)) (sym (eqb-true c solidus h)) (parts-cons place Solidus text takes p)

at-cons : (place : Place) (c : ℕ) (text : List ℕ) (g w s : Bool) → (c == greater_than) ≡ g → is_white_space c ≡ w → (c == solidus) ≡ s → is_between place ≡ true → All text → Parts place (c ∷ text)
unfolding begins_attribute
at-cons place c text true w s e f h between all = closed-at place c text e
at-cons place c text false true s e f h between all = between-blank place c text between f (all.at BeforeAttribute refl)
at-cons place c text false false true e f h between all = solidus-at place c text h (between-solidus place between) (all.at AfterSolidus refl)
at-cons place c text false false false e f h between all = attribute-named place c text (between-takes place c between) (rw (e, f, h) refl) all.name

blank-more : (place : Place) (c : ℕ) (text : List ℕ) → takes_blank place ≡ true → is_white_space c ≡ true → place_after place (Blank c) ≡ AfterAttributeName → Parts AfterAttributeName text ⊎ Assigned text
    → Parts place (c ∷ text) ⊎ Assigned (c ∷ text)
blank-more place c text takes white e (inl p) = inl (parts-cons place (Blank c) text (rw (takes, white) refl) (subst (λ q. Parts q text) (sym e) p))
blank-more place c text takes white e (inr a) = inr (assigned-space c text white a)

equals-at : (c : ℕ) (text : List ℕ) → (c == equals_sign) ≡ true → ValueRest text → Assigned (c ∷ text)
equals-at c text h v = subst (λ d. Assigned (d ∷ text)) (sym (eqb-true c equals_sign h)) (assigned-equals text v)

name-cons : (c : ℕ) (text : List ℕ) (g w s q : Bool) → (c == greater_than) ≡ g → is_white_space c ≡ w → (c == solidus) ≡ s → (c == equals_sign) ≡ q → All text → NameRest (c ∷ text)
unfolding in_attribute_name
name-cons c text true w s q e f h i all = name-ends (c ∷ text) (inl (closed-at InAttributeName c text e))
name-cons c text false true s q e f h i all = name-ends (c ∷ text) (blank-more InAttributeName c text refl f refl all.space)
name-cons c text false false true q e f h i all = name-ends (c ∷ text) (inl (solidus-at InAttributeName c text h refl (all.at AfterSolidus refl)))
name-cons c text false false false true e f h i all = name-ends (c ∷ text) (inr (equals-at c text i all.value))
name-cons c text false false false false e f h i all = name-more c text (rw (e, f, h, i) refl) all.name

space-cons : (c : ℕ) (text : List ℕ) (g w s q : Bool) → (c == greater_than) ≡ g → is_white_space c ≡ w → (c == solidus) ≡ s → (c == equals_sign) ≡ q → All text → Parts AfterAttributeName (c ∷ text) ⊎ Assigned (c ∷ text)
unfolding begins_attribute
space-cons c text true w s q e f h i all = inl (closed-at AfterAttributeName c text e)
space-cons c text false true s q e f h i all = blank-more AfterAttributeName c text refl f refl all.space
space-cons c text false false true q e f h i all = inl (solidus-at AfterAttributeName c text h refl (all.at AfterSolidus refl))
space-cons c text false false false true e f h i all = inr (equals-at c text i all.value)
space-cons c text false false false false e f h i all = inl (attribute-named AfterAttributeName c text (rw i refl) (rw (e, f, h) refl) all.name)

value-bare : (c : ℕ) (text : List ℕ) → (c == quotation_mark) ≡ false → (c == apostrophe) ≡ false → is_in_value Unquoted c ≡ true → BareRest text → ValueRest (c ∷ text)
value-bare c text no_double no_single h b = by b.more
  where
    is_bare : is_value (Bare (c ∷ b.run)) ≡ true
    is_bare = rw (no_double, no_single, h, b.all) refl

    by : Parts (InValue Unquoted) b.later ⊎ (b.later ≡ []) → ValueRest (c ∷ text)
    by (inl p) = GivenRest [] (Bare (c ∷ b.run)) b.later refl is_bare (ap (λ l. c ∷ l) b.parts) p
    by (inr none) = OpenRest [] Unquoted (c ∷ b.run) refl is_bare (ap (λ l. c ∷ l) (b.parts ∙ ap (λ l. b.run ++ l) none ∙ append-nil b.run))

value-cons : (c : ℕ) (text : List ℕ) (g w d a : Bool) → (c == greater_than) ≡ g → is_white_space c ≡ w → (c == quotation_mark) ≡ d → (c == apostrophe) ≡ a → All text → ValueRest (c ∷ text)
unfolding is_in_value
value-cons c text true w d a e f h i all = GivenRest [] (Bare []) (c ∷ text) refl refl refl (closed-at BeforeValue c text e)
value-cons c text false true d a e f h i all = value-space c text f all.value
value-cons c text false false true a e f h i all = subst (λ x. ValueRest (x ∷ text)) (sym (eqb-true c quotation_mark h)) (value-double text all.double)
value-cons c text false false false true e f h i all = subst (λ x. ValueRest (x ∷ text)) (sym (eqb-true c apostrophe i)) (value-single text all.single)
value-cons c text false false false false e f h i all = value-bare c text h i (rw (f, e) refl) all.bare

double-cons : (c : ℕ) (text : List ℕ) (d : Bool) → (c == quotation_mark) ≡ d → All text → QuotedRest DoubleQuoted (c ∷ text)
unfolding is_in_value
double-cons c text true h all = subst (λ x. QuotedRest DoubleQuoted (x ∷ text)) (sym (eqb-true c quotation_mark h)) (quoted-end DoubleQuoted text (all.at AfterQuotedValue refl))
double-cons c text false h all = quoted-more DoubleQuoted c text (rw h refl) all.double

single-cons : (c : ℕ) (text : List ℕ) (d : Bool) → (c == apostrophe) ≡ d → All text → QuotedRest SingleQuoted (c ∷ text)
unfolding is_in_value
single-cons c text true h all = subst (λ x. QuotedRest SingleQuoted (x ∷ text)) (sym (eqb-true c apostrophe h)) (quoted-end SingleQuoted text (all.at AfterQuotedValue refl))
single-cons c text false h all = quoted-more SingleQuoted c text (rw h refl) all.single

bare-cons : (c : ℕ) (text : List ℕ) (g w : Bool) → (c == greater_than) ≡ g → is_white_space c ≡ w → All text → BareRest (c ∷ text)
unfolding is_in_value
bare-cons c text true w e f all = bare-ends (c ∷ text) (inl (closed-at (InValue Unquoted) c text e))
bare-cons c text false true e f all = bare-ends (c ∷ text) (inl (parts-cons (InValue Unquoted) (Blank c) text f (all.at BeforeAttribute refl)))
bare-cons c text false false e f all = bare-more c text (rw (f, e) refl) all.bare

-- each text has a form for each place in a tag
pub all-forms : (text : List ℕ) → All text
all-forms [] = all-nil
all-forms (c ∷ text) =
    let all : All text = all-forms text in
    record {
      at = λ place h. at-cons place c text (c == greater_than) (is_white_space c) (c == solidus) refl refl refl h all;
      name = name-cons c text (c == greater_than) (is_white_space c) (c == solidus) (c == equals_sign) refl refl refl refl all;
      space = space-cons c text (c == greater_than) (is_white_space c) (c == solidus) (c == equals_sign) refl refl refl refl all;
      value = value-cons c text (c == greater_than) (is_white_space c) (c == quotation_mark) (c == apostrophe) refl refl refl refl all;
      double = double-cons c text (c == quotation_mark) refl all;
      single = single-cons c text (c == apostrophe) refl all;
      bare = bare-cons c text (c == greater_than) (is_white_space c) refl refl all;
    }

-- ---- after the first letter of a tag's name

pub record TagRest (text : List ℕ) : Type 0 where
  pub rest : List ℕ
  pub later : List ℕ
  pub all : list_all in_tag_name rest ≡ true
  pub parts : text ≡ rest ++ later
  pub more : Parts InName later

tag-ends : (text : List ℕ) → Parts InName text → TagRest text
tag-ends text p = record { rest = []; later = text; all = refl; parts = refl; more = p }

-- from what ends the name on
parts-by : (c : ℕ) (text : List ℕ) (g w s : Bool) → (c == greater_than) ≡ g → is_white_space c ≡ w → (c == solidus) ≡ s → in_tag_name c ≡ false → Parts InName (c ∷ text)
unfolding in_tag_name
parts-by c text true w s e f h ends = closed-at InName c text e
parts-by c text false true s e f h ends = parts-cons InName (Blank c) text f ((all-forms text).at BeforeAttribute refl)
parts-by c text false false true e f h ends = solidus-at InName c text h refl ((all-forms text).at AfterSolidus refl)
parts-by c text false false false e f h ends = absurd (false≢true (sym ends ∙ rw (e, f, h) refl))

pub parts-from : (c : ℕ) (text : List ℕ) → in_tag_name c ≡ false → Parts InName (c ∷ text)
parts-from c text = parts-by c text (c == greater_than) (is_white_space c) (c == solidus) refl refl refl

tag-cons : (c : ℕ) (text : List ℕ) (b : Bool) → in_tag_name c ≡ b → TagRest text → TagRest (c ∷ text)
tag-cons c text true h t = record { rest = c ∷ t.rest; later = t.later; all = rw (h, t.all) refl; parts = ap (λ l. c ∷ l) t.parts; more = t.more }
tag-cons c text false h t = tag-ends (c ∷ text) (parts-from c text h)

pub tag-rest : (text : List ℕ) → TagRest text
tag-rest [] = tag-ends [] (parts-end InName [] (CutOff refl refl))
tag-rest (c ∷ text) = tag-cons c text (in_tag_name c) refl (tag-rest text)
