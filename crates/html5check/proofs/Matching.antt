-- A tag that lacks its other is found exactly where tags don't match.
use Rattle.std.proofs.Common.{◌≡◌, ℕ, Bool, true, false, List, [], ◌∷◌, ◌++◌, Option, None, Some, drop, length, take, refl, sym, ap, ◌∙◌}
use Rattle.std.specs.Prelude.{◌-◌, ◌==◌, ◌&&◌, ◌||◌, not, if◌then◌else◌}
use Rattle.std.specs.List.{flat_map, list_all}
use Rattle.std.proofs.Math.Bool.{and_assoc}
use Rattle.std.proofs.lemmas.List.Folds.{list_all-append}
use Rattle.std.proofs.Math.Seq.{take-length}
use Rattle.html5check.specs.Checking.{Checking, at_foreign_tag, at_html_tag, at_id, at_tag, checked, checked_all, checked_told, closed_at, duplicate, found_by, left_open, nothing_checked, opened_at, stray_fault, unclosed, with_id_of, with_open}
use Rattle.html5check.specs.Elements.{has_optional_end, is_document_part, is_integration_point}
use Rattle.html5check.specs.Faults.{Finding, attribute_finding, attribute_findings, coded_finding, element_findings, error_finding, meant_finding, plain_finding, self_closing_findings, start_tag_findings}
use Rattle.html5check.specs.Ids.{id_of, is_taken}
use Rattle.html5check.specs.Matching.{all_match, has_other, lacks_other, matches, may_stay_open, tag_matches}
use Rattle.html5check.specs.Opened.{Open, closed_by, ended_before, holds_foreign}
use Rattle.html5check.specs.Seen.{Seen}
use Rattle.html5check.specs.declared.finding.Fault.{Fault}
use Rattle.html5check.specs.declared.finding.Fault.TheVariants.{EndTagOfVoidElement, EndTagWithoutStart, MisspelledAttribute, MisspelledElement, SelfClosingElement, UnclosedElement}
use Rattle.html5elements.specs.Elements.{is_foreign, is_void}
use Rattle.html5errors.specs.Messages.{code_of_message}
use Rattle.html5errors.specs.declared.codes.ErrorCode.{ErrorCode}
use Rattle.html5ever_interface.specs.Token.{TagOf, Told}
use Rattle.html5ever_interface.specs.Token.Told.{Comment, Doctype, End, Error, Instruction, Null, Tag, Text}
use Rattle.html5ever_interface.specs.declared.interface.token.TagKind.{TagKind}
use Rattle.html5ever_interface.specs.declared.interface.token.TagKind.TheVariants.{EndTag, StartTag}
use Rattle.html5names.specs.Attributes.{meant_attribute}
use Rattle.html5names.specs.Elements.{meant_element}
use Rattle.markup5ever.specs.Names.{AttributeOf}

abbrev Whole : List Finding → Bool
Whole findings = list_all has_other findings

whole-append : (a b : List Finding) → Whole (a ++ b) ≡ Whole a && Whole b
whole-append a b = list_all-append has_other a b

-- what is added has its other
whole-more : (a b : List Finding) → Whole b ≡ true → Whole (a ++ b) ≡ Whole a && true
whole-more a b more = whole-append a b ∙ ap (λ x. Whole a && x) more

and-true : (b : Bool) → b && true ≡ b
and-true true = refl
and-true false = refl

-- ---- start tags

whole-meant : (seen : Seen) (fault : Fault) (name : List ℕ) (meant : Option (List ℕ)) → lacks_other fault ≡ false → Whole (meant_finding seen fault name meant) ≡ true
whole-meant seen fault name None has = refl
whole-meant seen fault name (Some meant) has = ap (λ b. not b && true) has

whole-attributes : (seen : Seen) (attributes : List AttributeOf) → Whole (attribute_findings seen attributes) ≡ true
whole-attributes seen [] = refl
whole-attributes seen (a ∷ attributes) =
    whole-append (attribute_finding seen a) (attribute_findings seen attributes)
    ∙ (λ i. whole-meant seen MisspelledAttribute a.name.local (meant_attribute a.name.local) refl i && whole-attributes seen attributes i)

whole-self_closing : (seen : Seen) (tag : TagOf) → Whole (self_closing_findings seen tag) ≡ true
whole-self_closing seen tag = at (tag.self_closing && not (is_void tag.name))
  where
    at : (b : Bool) → Whole (if b then plain_finding seen SelfClosingElement tag.name ∷ [] else []) ≡ true
    at true = refl
    at false = refl

whole-start : (seen : Seen) (tag : TagOf) → Whole (start_tag_findings seen tag) ≡ true
whole-start seen tag =
    whole-append (element_findings seen tag.name) (attribute_findings seen tag.attributes ++ self_closing_findings seen tag)
    ∙ (λ i. whole-meant seen MisspelledElement tag.name (meant_element tag.name) refl i
    && (whole-append (attribute_findings seen tag.attributes) (self_closing_findings seen tag)
    ∙ (λ j. whole-attributes seen tag.attributes j && whole-self_closing seen tag j)) i)

-- ---- what a token adds

-- what was found has its other as before, and where b is
abbrev Adds : Checking → Checking → Bool → Type 0
Adds s t b = Whole t.found ≡ (Whole s.found && b)

adds-same : (s : Checking) → Adds s s true
adds-same s = sym (and-true (Whole s.found))

adds-if : (s t u : Checking) (test b : Bool) → Adds s t b → Adds s u b → Adds s (if test then t else u) b
adds-if s t u true b first second = first
adds-if s t u false b first second = second

whole-duplicate : (seen : Seen) (id : List ℕ) (b : Bool) → Whole (duplicate seen id b) ≡ true
whole-duplicate seen id true = refl
whole-duplicate seen id false = refl

adds-id : (s : Checking) (seen : Seen) (id : Option (List ℕ)) → Adds s (with_id_of s seen id) true
adds-id s seen None = adds-same s
adds-id s seen (Some id) = whole-more s.found (duplicate seen id (is_taken id s.ids)) (whole-duplicate seen id (is_taken id s.ids))

adds-foreign : (s : Checking) (seen : Seen) (tag : TagOf) → Adds s (at_foreign_tag s seen tag) true
adds-foreign s seen tag =
    adds-if s s (with_open s seen tag.name (not (is_integration_point tag.name))) tag.self_closing true (adds-same s) (adds-same s)

adds-html : (s : Checking) (seen : Seen) (tag : TagOf) → Adds s (at_html_tag s seen tag) true
adds-html s seen tag =
    let ended : Checking = record s { opened = drop (ended_before s.opened tag.name) s.opened; found = s.found ++ start_tag_findings seen tag } in
    let more = whole-more s.found (start_tag_findings seen tag) (whole-start seen tag) in
    adds-if s ended (with_open ended seen tag.name false) (is_void tag.name) true more more

adds-start : (s : Checking) (seen : Seen) (tag : TagOf) → Adds s (opened_at s seen tag) true
adds-start s seen tag =
    adds-if s s _ (is_document_part tag.name) true (adds-same s)
    (adds-if s (at_foreign_tag s seen tag) (at_html_tag s seen tag) (holds_foreign s.opened || is_foreign tag.name) true (adds-foreign s seen tag) (adds-html s seen tag))

adds-with_id : (s : Checking) (seen : Seen) (tag : TagOf) → Adds s (opened_at (at_id s seen tag) seen tag) true
adds-with_id s seen tag = adds-start (at_id s seen tag) seen tag ∙ and-true (Whole (at_id s seen tag).found) ∙ adds-id s seen (id_of tag)

whole-unclosed : (opened : List Open) → Whole (flat_map unclosed opened) ≡ may_stay_open opened
whole-unclosed [] = refl
whole-unclosed (element ∷ opened) =
    whole-append (unclosed element) (flat_map unclosed opened) ∙ (λ i. at (has_optional_end element.name) i && whole-unclosed opened i)
  where
    at : (b : Bool) → Whole (if b then [] else (record { begin = element.begin; end = element.end; fault = UnclosedElement; subject = element.name; meant = None } ∷ [])) ≡ b
    at true = refl
    at false = refl

adds-left_open : (count : ℕ) (s : Checking) → Adds s (left_open count s) (may_stay_open (take count s.opened))
adds-left_open count s = whole-append s.found (flat_map unclosed (take count s.opened)) ∙ ap (λ b. Whole s.found && b) (whole-unclosed (take count s.opened))

stray-lacks : (b : Bool) → lacks_other (if b then EndTagOfVoidElement else EndTagWithoutStart) ≡ true
stray-lacks true = refl
stray-lacks false = refl

adds-closed : (s : Checking) (seen : Seen) (name : List ℕ) (count : ℕ)
    → Adds s (closed_at s seen name count) (not (count == 0) && may_stay_open (take (count - 1) s.opened))
adds-closed s seen name count = at (count == 0)
  where
    at : (b : Bool) → Adds s (if b then record s { found = s.found ++ plain_finding seen (stray_fault name) name ∷ [] } else (record (left_open (count - 1) s) { opened = drop count s.opened }))
        (not b && may_stay_open (take (count - 1) s.opened))
    at true =
        whole-append s.found (plain_finding seen (stray_fault name) name ∷ [])
        ∙ ap (λ b. Whole s.found && (not b && true)) (stray-lacks (is_void name))
    at false = adds-left_open (count - 1) s

adds-end : (s : Checking) (seen : Seen) (name : List ℕ) (b : Bool) → is_document_part name ≡ b
    → Adds s (if b then s else (closed_at s seen name (closed_by s.opened name)))
    (b || (not (closed_by s.opened name == 0) && may_stay_open (take (closed_by s.opened name - 1) s.opened)))
adds-end s seen name true is = adds-same s
adds-end s seen name false is = adds-closed s seen name (closed_by s.opened name)

adds-tag : (kind : TagKind) (s : Checking) (seen : Seen) (tag : TagOf) → Adds s (at_tag kind s seen tag) (tag_matches kind s tag)
adds-tag StartTag s seen tag = adds-with_id s seen tag
adds-tag EndTag s seen tag = adds-end s seen tag.name (is_document_part tag.name) refl

whole-error : (seen : Seen) (message : List ℕ) (code : Option ErrorCode) → Whole (coded_finding seen message code ∷ []) ≡ true
whole-error seen message None = refl
whole-error seen message (Some code) = refl

adds : (told : Told) (s : Checking) (seen : Seen) → Adds s (checked_told told s seen) (matches told s)
adds (Error message) s seen = whole-more s.found (error_finding seen message ∷ []) (whole-error seen message (code_of_message message))
adds (Tag tag) s seen = adds-tag tag.kind s seen tag
adds End s seen = adds-left_open (length s.opened) s ∙ ap (λ o. Whole s.found && may_stay_open o) (take-length s.opened)
adds (Text text) s seen = adds-same s
adds Null s seen = adds-same s
adds (Comment text) s seen = adds-same s
adds (Instruction content) s seen = adds-same s
adds (Doctype doctype) s seen = adds-same s

-- ---- all tokens

adds-all : (s : Checking) (tokens : List Seen) → Adds s (checked_all s tokens) (all_match s tokens)
unfolding checked_all all_match
adds-all s [] = adds-same s
adds-all s (seen ∷ more) =
    adds-all (checked s seen) more
    ∙ ap (λ b. b && all_match (checked s seen) more) (adds seen.token s seen)
    ∙ and_assoc (Whole s.found) (matches seen.token s) (all_match (checked s seen) more)

pub found-match : (tokens : List Seen) → list_all has_other (found_by tokens) ≡ all_match nothing_checked tokens
found-match tokens = adds-all nothing_checked tokens
