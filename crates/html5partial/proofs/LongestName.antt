-- The longest name of a table with which a text begins: how it goes on with one more character of the text.
use Rattle.std.proofs.Common.{◌≡◌, ℕ, ◌+◌, ◌-◌, ◌<◌, ◌≤◌, false, List, [], ◌∷◌, ◌++◌, take, get_or, length, add-one, subst, Option, None, Some, sym, ap, ◌∙◌, arith, suc}
use Rattle.std.specs.List.{slice_range}
use Rattle.std.proofs.lemmas.List.{take_all, take_more}
use Rattle.html5reading.specs.Reference.{longest_name}
use Rattle.html5partial.specs.CharRef.{IsNamed}
use Rattle.html5partial.specs.declared.char_ref.Named.{Named}
use Rattle.markup5ever.specs.NamedReferences.{NamedReference, IsTable, begins_name, characters_of_name}
use Rattle.html5reading.proofs.TableNames.{longest-found, longest-push, longest-cut, longest-nil}

-- ---- what is found up to a place

pub upto : (text : List ℕ) (len : ℕ) → slice_range text 0 len ≡ take len text
upto text len = let same : len - 0 ≡ len = omega arith in ap (λ n. take n text) same

pub named-found : (references : List NamedReference) (text name : List ℕ) (len first : ℕ) (second : Option ℕ) → name ≡ slice_range text 0 (len + 1) → len < length text
    → Some (first, second) ≡ characters_of_name references name → IsNamed text (Some (record { len = len + 1; first = first; second = second })) (longest_name references (take (len + 1) text))
named-found references text name len first second is within e =
    let cut : name ≡ take (len + 1) text = is ∙ upto text (len + 1) in
    let found = longest-found references (take (len + 1) text) first second (ap (characters_of_name references) (sym cut) ∙ sym e) in
    rw found.is (omega arith, found.name_is, sym found.first_is, sym found.second_is)

-- a text that is a name
pub named-all : (references : List NamedReference) (text : List ℕ) (first : ℕ) (second : Option ℕ) → Some (first, second) ≡ characters_of_name references text
    → IsNamed text (Some (record { len = length text; first = first; second = second })) (longest_name references text)
named-all references text first second e =
    let found = longest-found references text first second (sym e) in
    rw found.is (omega arith, found.name_is ∙ sym (take_all (length text) text (omega arith)), sym found.first_is, sym found.second_is)

pub named-push : (references : List NamedReference) (text name : List ℕ) (len : ℕ) (found : Option Named) → name ≡ slice_range text 0 (len + 1) → len < length text
    → None ≡ characters_of_name references name → IsNamed text found (longest_name references (take len text)) → IsNamed text found (longest_name references (take (len + 1) text))
named-push references text name len found is within e named =
    let parts : take (len + 1) text ≡ take len text ++ get_or text len 0 ∷ [] = take_more text len 0 within in
    let none : characters_of_name references (take len text ++ get_or text len 0 ∷ []) ≡ None = ap (characters_of_name references) (sym parts ∙ sym (upto text (len + 1)) ∙ sym is) ∙ sym e in
    rw (parts, longest-push references (take len text) (get_or text len 0) none) named

pub named-cut : (references : List NamedReference) (text name : List ℕ) (len : ℕ) (found : Option Named) → name ≡ slice_range text 0 (len + 1) → len < length text
    → begins_name references name ≡ false → IsNamed text found (longest_name references (take len text)) → IsNamed text found (longest_name references text)
named-cut references text name len found is within none named =
    let cut : begins_name references (take (suc len) text) ≡ false = ap (begins_name references) (ap (λ n. take n text) (sym (add-one len)) ∙ sym (upto text (len + 1)) ∙ sym is) ∙ none in
    rw (longest-cut references text len within cut) named

pub named-whole : (references : List NamedReference) (text : List ℕ) (len : ℕ) (found : Option Named) → length text ≤ len
    → IsNamed text found (longest_name references (take len text)) → IsNamed text found (longest_name references text)
named-whole references text len found past named = subst (λ t. IsNamed text found (longest_name references t)) (take_all len text past) named

pub named-none : (references : List NamedReference) (text : List ℕ) → IsTable references → IsNamed text None (longest_name references [])
named-none references text table = rw (longest-nil references table.plain) tt
