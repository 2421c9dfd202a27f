-- "Attribute name state": the names of a tag's attributes, as a set.
use Rattle.std.specs.Prelude.{◌≡◌, ℕ, Bool, true, false, List, [], ◌||◌, String}
use Rattle.std.specs.BTreeSet.{BTreeSet, contains_text}
use Rattle.std.specs.Str.{bytes_eq}
use Rattle.html5ever_interface.specs.Token.{TagOf, Told}
use Rattle.html5ever_interface.specs.Token.Told.{Tag}
use Rattle.html5ever_interface.specs.declared.interface.token.TagKind.TheVariants.{StartTag}
use Rattle.html5reading.specs.Tag.{has_attribute}
use Rattle.markup5ever.specs.Names.{AttributeOf}

-- the set has just the names of the attributes
abbrev pub HasNames : {Z : Type 0} → BTreeSet (String Z) → List AttributeOf → Type 0
HasNames names attributes = (name : List ℕ) → contains_text names name ≡ has_attribute attributes name

-- the set has just the names of the attributes, and one more
abbrev pub HasNamesAnd : {Z : Type 0} → BTreeSet (String Z) → List AttributeOf → List ℕ → Type 0
HasNamesAnd names attributes last = (name : List ℕ) → contains_text names name ≡ (bytes_eq last name || has_attribute attributes name)

-- where it is kept, the set has just the names of the attributes
abbrev pub Indexes : {Z : Type 0} → Bool → BTreeSet (String Z) → List AttributeOf → Type 0
Indexes is_indexed names attributes = is_indexed ≡ true → HasNames names attributes

-- a name was added to the set
abbrev pub AddsName : {Z : Type 0} → BTreeSet (String Z) → BTreeSet (String Z) → List ℕ → Type 0
AddsName old new added = (name : List ℕ) → contains_text new name ≡ (bytes_eq added name || contains_text old name)

-- the tag that is sent. Of what is no tag this says nothing.
abbrev pub tag_told : Told → TagOf
tag_told (Tag tag) = tag
tag_told other = record { kind = StartTag; name = []; self_closing = false; attributes = []; had_duplicate_attributes = false }
