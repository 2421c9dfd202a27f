-- Names that are read at once from their first letter on.
use Rattle.std.proofs.Common.{◌≡◌, ℕ, true, false, List, [], ◌∷◌, Some, refl, sym, ap, ◌∙◌, subst, take}
use Rattle.std.specs.Prelude.{◌&&◌, ◌↔◌, All, Contains}
use Rattle.std.specs.Str.{chars}
use Rattle.std.proofs.lemmas.List.Elements.{All-tail, All-weaker}
use Rattle.html5ever_interface.specs.declared.interface.token.TagKind.{TagKind}
use Rattle.html5ever_interface.specs.declared.interface.token.TagKind.TheVariants.{StartTag, EndTag}
use Rattle.html5reading.specs.Characters.{is_letter}
use Rattle.html5reading.specs.Start.{Open, OpenTag, begun, nothing_open}
use Rattle.html5reading.specs.Start.Open.{InTag}
use Rattle.html5reading.specs.Start.Place.{InName, InAttributeName, BeforeAttribute}
use Rattle.html5reading.specs.Tag.{has_last, repeats_attribute, with_name, with_last_attribute, with_last_name}
use Rattle.html5partial.specs.Runs.{other_run_ends, run_ends, opened_after_run}
use Rattle.html5partial.proofs.RunSteps.{opened_after_run-cons}
use Rattle.markup5ever.specs.SmallCharSet.{IsMember}
use Rattle.html5fast_path.specs.Quiet.{IsNameIn, IsQuiet, ReadsFront, ReadsQuietly, opening_of}
use Rattle.html5fast_path.proofs.FirstLetters.{quiet-start_tag, quiet-end_tag, quiet-attribute}
use Rattle.html5fast_path.proofs.Runs.{reads-ordinary}

quiet-letter : (kind : TagKind) (c : ℕ) → is_letter c ≡ true → IsQuiet (opening_of kind) (InTag InName (with_name (begun kind) (c ∷ []))) c
quiet-letter StartTag c letter = quiet-start_tag c letter
quiet-letter EndTag c letter = quiet-end_tag c letter

-- a first character that leads to a place where runs are read, and a run after it
reads-first-and-run : (opened begins next : Open) (others : List ℕ) (c : ℕ) (rest : List ℕ)
    → other_run_ends (opened_after_run begins (c ∷ [])) ≡ Some others → nothing_open (opened_after_run begins (c ∷ [])) ≡ false
    → IsQuiet opened (opened_after_run begins (c ∷ [])) c → All (λ d. ¬ Contains (run_ends others) d) (c ∷ rest)
    → opened_after_run begins (c ∷ rest) ≡ next → ReadsQuietly opened (c ∷ rest) next
unfolding ReadsQuietly
reads-first-and-run opened begins next others c rest has within quiet all is = (
  opened_after_run begins (c ∷ []),
  (
    quiet,
    subst (ReadsQuietly (opened_after_run begins (c ∷ [])) rest) (sym (opened_after_run-cons begins c rest) ∙ is)
        (reads-ordinary (opened_after_run begins (c ∷ [])) others rest has within (All-tail (λ d. ¬ Contains (run_ends others) d) c rest all)),
  ),
)

-- none of a name ends a run
ordinary : (set : ℕ) (others text : List ℕ) (len : ℕ) → ((c : ℕ) → IsMember set c ↔ Contains (run_ends others) c) → IsNameIn set text len
    → All (λ c. ¬ Contains (run_ends others) c) (chars (take len text))
ordinary set others text len same name =
    All-weaker (λ c. ¬ IsMember set c) (λ c. ¬ Contains (run_ends others) c) (λ c out. λ contained. out ((same c).1 contained)) (chars (take len text)) name.outside.outside

front-of_name : (set : ℕ) (text : List ℕ) (len : ℕ) (opened later : Open) → IsNameIn set text len → ReadsQuietly opened (chars (take len text)) later
    → ReadsFront text len opened later
front-of_name set text len opened later name quiet =
    record { within = name.outside.within; rest_utf8 = name.outside.rest_utf8; quiet = quiet }

-- the name of a tag, by a set of what ends a tag's name
pub reads-tag_name : (kind : TagKind) (set : ℕ) (others text : List ℕ) (len : ℕ) (opened later : Open)
    → other_run_ends (InTag InName (begun kind)) ≡ Some others → ((c : ℕ) → IsMember set c ↔ Contains (run_ends others) c)
    → IsNameIn set text len → opened ≡ opening_of kind → later ≡ InTag InName (with_name (begun kind) (chars (take len text)))
    → ReadsFront text len opened later
reads-tag_name kind set others text len opened later has same name starts ends =
    let run : List ℕ = chars (take len text) in
    let letter : IsQuiet opened (InTag InName (with_name (begun kind) (name.first ∷ []))) name.first = rw starts (quiet-letter kind name.first name.letter) in
    let all : All (λ c. ¬ Contains (run_ends others) c) (name.first ∷ name.rest) = subst (All (λ c. ¬ Contains (run_ends others) c)) name.parts (ordinary set others text len same name) in
    front-of_name set text len opened later name
    (subst (λ r. ReadsQuietly opened r later) (sym name.parts)
    (reads-first-and-run opened (InTag InName (begun kind)) later others name.first name.rest has refl letter all
    (ap (λ r. InTag InName (with_name (begun kind) r)) (sym name.parts) ∙ sym ends)))

-- the name of an attribute, by a set of what ends an attribute's name, where the attribute before it repeats no name
pub reads-attribute_name : (tag : OpenTag) (set : ℕ) (others text : List ℕ) (len : ℕ) (opened later : Open)
    → other_run_ends (InTag InAttributeName tag) ≡ Some others → ((c : ℕ) → IsMember set c ↔ Contains (run_ends others) c)
    → IsNameIn set text len → (has_last tag && repeats_attribute tag) ≡ false → opened ≡ InTag BeforeAttribute tag
    → later ≡ InTag InAttributeName (with_last_name (with_last_attribute tag) (chars (take len text))) → ReadsFront text len opened later
reads-attribute_name tag set others text len opened later has same name once starts ends =
    let run : List ℕ = chars (take len text) in
    let letter : IsQuiet opened (InTag InAttributeName (with_last_name (with_last_attribute tag) (name.first ∷ []))) name.first = rw starts (quiet-attribute tag name.first name.letter once) in
    let all : All (λ c. ¬ Contains (run_ends others) c) (name.first ∷ name.rest) = subst (All (λ c. ¬ Contains (run_ends others) c)) name.parts (ordinary set others text len same name) in
    front-of_name set text len opened later name
    (subst (λ r. ReadsQuietly opened r later) (sym name.parts)
    (reads-first-and-run opened (InTag InAttributeName (with_last_attribute tag)) later others name.first name.rest has refl letter all
    (ap (λ r. InTag InAttributeName (with_last_name (with_last_attribute tag) r)) (sym name.parts) ∙ sym ends)))
