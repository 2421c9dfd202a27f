-- What is found stands at the tokens that show it.
use Rattle.std.proofs.Common.{◌≡◌, ℕ, Bool, true, false, List, [], ◌∷◌, ◌++◌, Option, None, Some, drop, length, take, refl, sym, ap, subst, ◌∙◌, append-nil, append_assoc}
use Rattle.std.specs.Prelude.{All, Any, Contains, ◌-◌, ◌==◌, ◌&&◌, ◌||◌, not, if◌then◌else◌}
use Rattle.std.specs.List.{flat_map}
use Rattle.std.specs.Str.{bytes_eq, chars}
use Rattle.std.proofs.lemmas.List.Concat.{flat_map-cons}
use Rattle.std.proofs.lemmas.List.Elements.{All-append, All-cons, All-contains, All-contains_itself, All-drop, All-head, All-map, All-nil, All-same, All-tail, All-take, All-weaker, Contains-append_left, Contains-append_right, Contains-push}
use Rattle.std.proofs.lemmas.List.Folds.{Any-from_list_any}
use Rattle.std.proofs.lemmas.Map.Views.{All-insert_key}
use Rattle.std.specs.Cmp.Lexicographic.{slice_cmp}
use Rattle.std.specs.Ordering.{nat_cmp}
use Rattle.markup5ever.proofs.NameOrder.{bytes_eq-same}
use Rattle.html5check.proofs.Orders.{All-in_order}
use Rattle.html5check.specs.Checking.{Checking, at_foreign_tag, at_html_tag, at_id, at_tag, checked, checked_all, checked_told, closed_at, duplicate, findings_in, found_by, left_open, nothing_checked, opened_at, stray_fault, unclosed, with_id_of, with_open}
use Rattle.html5check.specs.Elements.{has_optional_end, is_document_part, is_integration_point}
use Rattle.html5check.specs.Faults.{Finding, attribute_finding, attribute_findings, coded_finding, element_findings, meant_finding, plain_finding, self_closing_findings, start_tag_findings}
use Rattle.html5check.specs.Ids.{id_of, is_taken}
use Rattle.html5check.specs.Opened.{Open, closed_by, ended_before, holds_foreign}
use Rattle.html5check.specs.Places.{HasId, Shows, StandsAtToken, StandsInText}
use Rattle.html5check.specs.Places.Shows.{ErrorWithCode, ErrorWithoutCode, LeftOpen, SecondId, SelfClosing, EndTagOfVoid, StrayEndTag, WrongAttribute, WrongElement}
use Rattle.html5check.specs.Seen.{Seen, seen_in, seen_of}
use Rattle.html5check.specs.declared.finding.Fault.{Fault}
use Rattle.html5check.specs.declared.finding.Fault.TheVariants.{DuplicateId, EndTagOfVoidElement, EndTagWithoutStart, MisspelledAttribute, MisspelledElement, Parse, SelfClosingElement, UnclosedElement, Uncoded}
use Rattle.html5elements.specs.Elements.{is_foreign, is_void}
use Rattle.html5errors.specs.Messages.{code_of_message}
use Rattle.html5errors.specs.declared.codes.ErrorCode.{ErrorCode}
use Rattle.html5ever.specs.Tokenizer.{rules_of}
use Rattle.html5ever_interface.specs.Options.{default_options}
use Rattle.html5ever_interface.specs.Token.{TagOf, Told}
use Rattle.html5ever_interface.specs.Token.Told.{Comment, Doctype, End, Error, Instruction, Null, Tag, Text}
use Rattle.html5ever_interface.specs.declared.interface.token.TagKind.{TagKind}
use Rattle.html5ever_interface.specs.declared.interface.token.TagKind.TheVariants.{EndTag, StartTag}
use Rattle.html5names.specs.Attributes.{meant_attribute}
use Rattle.html5names.specs.Elements.{meant_element}
use Rattle.html5places.proofs.Standing.{all-between}
use Rattle.html5places.specs.Marks.{Placed}
use Rattle.html5places.specs.Placed.{placed_tokens}
use Rattle.html5places.specs.Written.{StandsBetween, place_after}
use Rattle.html5reading.specs.Start.{start_of}
use Rattle.markup5ever.specs.Names.{AttributeOf}
use Rattle.markup5ever.specs.NamedReferences.{NamedReference}

All-flat_map : {X Y : Type 0} (P : X → Type 0) (Q : Y → Type 0) (f : X → List Y) → ((x : X) → P x → All Q (f x)) → (xs : List X) → All P xs
    → All Q (flat_map f xs)
All-flat_map P Q f each [] h = All-nil Q
All-flat_map P Q f each (x ∷ xs) h =
    All-same Q _ (f x ++ flat_map f xs) (flat_map-cons f x xs)
    (All-append Q (f x) (flat_map f xs) (each x (All-head P x xs h)) (All-flat_map P Q f each xs (All-tail P x xs h)))

-- a start tag with this id is among these
abbrev IsKnown : List Seen → List ℕ → Type 0
IsKnown known id = Any (HasId id) known

known-kept : (before : List Seen) (seen : Seen) (id : List ℕ) → IsKnown before id → IsKnown (before ++ seen ∷ []) id
known-kept before seen id (k, other, lt, is, has) =
    let kept : Contains (before ++ seen ∷ []) other = Contains-append_left before (seen ∷ []) other (k, lt, is) in
    (kept.0, other, kept.1, kept.2, has)

known-taken : (known : List Seen) (id : List ℕ) (ids : List (List ℕ)) → All (IsKnown known) ids → is_taken id ids ≡ true → IsKnown known id
known-taken known id ids all taken =
    let (k, other, lt, is, same) = Any-from_list_any (λ other. bytes_eq id other) ids taken in
    subst (IsKnown known) (sym (bytes_eq-same id other same)) (All-contains (IsKnown known) ids other all (k, lt, is))

module _ (tokens : List Seen) where
  abbrev AtFinding : Finding → Type 0
  AtFinding finding = StandsAtToken tokens finding

  -- an element is open at its start tag
  abbrev AtOpen : Open → Type 0
  AtOpen e =
      (before : List Seen) × (seen : Seen) × (after : List Seen) × (tag : TagOf) × (tokens ≡ before ++ seen ∷ after)
      × (e.begin ≡ seen.begin) × (e.end ≡ seen.end) × (seen.token ≡ Tag tag) × (tag.kind ≡ StartTag) × (e.name ≡ tag.name)

  -- the findings, the open elements, and the ids that elements have
  abbrev Holds : List Seen → Checking → Type 0
  Holds known s = All AtFinding s.found × All AtOpen s.opened × All (IsKnown known) s.ids

  holds-if : (known : List Seen) (test : Bool) (s t : Checking) → Holds known s → Holds known t → Holds known (if test then s else t)
  holds-if known true s t first second = first
  holds-if known false s t first second = second

  all-if : (test : Bool) (fs gs : List Finding) → (test ≡ true → All AtFinding fs) → (test ≡ false → All AtFinding gs) → All AtFinding (if test then fs else gs)
  all-if true fs gs first second = first refl
  all-if false fs gs first second = second refl

  all-one : (finding : Finding) → AtFinding finding → All AtFinding (finding ∷ [])
  all-one finding h = All-cons AtFinding finding [] h (All-nil AtFinding)

  none : All AtFinding []
  none = All-nil AtFinding

  -- ---- elements that are left open

  all-unclosed : (element : Open) → AtOpen element → All AtFinding (unclosed element)
  all-unclosed element (before, seen, after, tag, parts, begin, end, is, kind, name) =
      all-if (has_optional_end element.name) [] _ (λ optional. none) (λ needed.
      let shows : Shows before (Tag tag) UnclosedElement tag.name None = LeftOpen tag kind (ap has_optional_end (sym name) ∙ needed) in
      let named : Shows before (Tag tag) UnclosedElement element.name None = subst (λ n. Shows before (Tag tag) UnclosedElement n None) (sym name) shows in
      all-one _ (record {
        before = before;
        seen = seen;
        after = after;
        parts = parts;
        begin = begin;
        end = end;
        shows = subst (λ t. Shows before t UnclosedElement element.name None) (sym is) named;
      }))

  holds-left_open : (known : List Seen) (count : ℕ) (s : Checking) → Holds known s → Holds known (left_open count s)
  holds-left_open known count s h = (
    All-append AtFinding s.found _ h.0
        (All-flat_map AtOpen AtFinding unclosed all-unclosed (take count s.opened) (All-take AtOpen count s.opened h.1)),
    All-drop AtOpen count s.opened h.1,
    h.2,
  )

  -- ---- at one of the tokens

  module _ (before : List Seen) (seen : Seen) (after : List Seen) (parts : tokens ≡ before ++ seen ∷ after) where
    -- a finding at a token that shows it
    abbrev at : (told : Told) → seen.token ≡ told → (fault : Fault) (subject : List ℕ) (meant : Option (List ℕ)) → Shows before told fault subject meant
        → AtFinding (record { begin = seen.begin; end = seen.end; fault = fault; subject = subject; meant = meant })
    at told is fault subject meant shows = record {
      before = before;
      seen = seen;
      after = after;
      parts = parts;
      begin = refl;
      end = refl;
      shows = subst (λ t. Shows before t fault subject meant) (sym is) shows;
    }

    abbrev known : List Seen
    known = before ++ seen ∷ []

    holds-kept : (s : Checking) → Holds before s → Holds known s
    holds-kept s h = (h.0, h.1, All-weaker (IsKnown before) (IsKnown known) (known-kept before seen) s.ids h.2)

    at-error : (message : List ℕ) → seen.token ≡ Error message → (code : Option ErrorCode) → code_of_message message ≡ code
        → AtFinding (coded_finding seen message code)
    at-error message is None code-is = at (Error message) is Uncoded message None (ErrorWithoutCode message code-is)
    at-error message is (Some code) code-is = at (Error message) is (Parse code) [] None (ErrorWithCode message code code-is)

    module _ (tag : TagOf) (is : seen.token ≡ Tag tag) where
      module _ (kind : tag.kind ≡ StartTag) where
        all-meant : (fault : Fault) (name : List ℕ) (meant : Option (List ℕ)) → ((m : List ℕ) → meant ≡ Some m → Shows before (Tag tag) fault name (Some m))
            → All AtFinding (meant_finding seen fault name meant)
        all-meant fault name None shows = none
        all-meant fault name (Some meant) shows = all-one _ (at (Tag tag) is fault name (Some meant) (shows meant refl))

        all-attribute : (attribute : AttributeOf) → Contains tag.attributes attribute → All AtFinding (attribute_finding seen attribute)
        all-attribute attribute has =
            all-meant MisspelledAttribute attribute.name.local (meant_attribute attribute.name.local) (λ m h. WrongAttribute tag attribute m kind has h)

        all-start_tag : All AtFinding (start_tag_findings seen tag)
        all-start_tag =
            All-append AtFinding (element_findings seen tag.name) _
            (all-meant MisspelledElement tag.name (meant_element tag.name) (λ m h. WrongElement tag m kind h))
            (All-append AtFinding (attribute_findings seen tag.attributes) (self_closing_findings seen tag)
            (All-flat_map (Contains tag.attributes) AtFinding (attribute_finding seen) all-attribute tag.attributes (All-contains_itself tag.attributes))
            (all-if (tag.self_closing && not (is_void tag.name)) _ []
            (λ closing. all-one _ (at (Tag tag) is SelfClosingElement tag.name None (SelfClosing tag kind closing))) (λ closing. none)))

        holds-with_open : (s : Checking) (foreign : Bool) → Holds known s → Holds known (with_open s seen tag.name foreign)
        holds-with_open s foreign h = (h.0, All-cons AtOpen _ s.opened (before, seen, after, tag, parts, refl, refl, is, kind, refl) h.1, h.2)

        holds-foreign_tag : (s : Checking) → Holds known s → Holds known (at_foreign_tag s seen tag)
        holds-foreign_tag s h = holds-if known tag.self_closing s _ h (holds-with_open s (not (is_integration_point tag.name)) h)

        holds-html_tag : (s : Checking) → Holds known s → Holds known (at_html_tag s seen tag)
        holds-html_tag s h =
            let ended : Checking = record s { opened = drop (ended_before s.opened tag.name) s.opened; found = s.found ++ start_tag_findings seen tag } in
            let both : Holds known ended =
            (All-append AtFinding s.found _ h.0 all-start_tag, All-drop AtOpen (ended_before s.opened tag.name) s.opened h.1, h.2) in
            holds-if known (is_void tag.name) ended _ both (holds-with_open ended false both)

        all-duplicate : (id : List ℕ) (taken : Bool) → id_of tag ≡ Some id → (taken ≡ true → IsKnown before id) → All AtFinding (duplicate seen id taken)
        all-duplicate id false has earlier = none
        all-duplicate id true has earlier = all-one _ (at (Tag tag) is DuplicateId id None (SecondId tag id kind has (earlier refl)))

        -- the token itself has the id
        known-here : (id : List ℕ) → id_of tag ≡ Some id → IsKnown known id
        known-here id has =
            let here : Contains known seen = Contains-push before seen in
            (here.0, seen, here.1, here.2, record { tag = tag; is_tag = is; kind = kind; has = has })

        holds-id : (s : Checking) (id : Option (List ℕ)) → id_of tag ≡ id → Holds before s → Holds known (with_id_of s seen id)
        holds-id s None has h = holds-kept s h
        holds-id s (Some id) has h = (
          All-append AtFinding s.found _ h.0 (all-duplicate id (is_taken id s.ids) has (known-taken before id s.ids h.2)),
          h.1,
          All-insert_key (slice_cmp nat_cmp) id (IsKnown known) s.ids (holds-kept s h).2 (known-here id has),
        )

        holds-opened : (s : Checking) → Holds known s → Holds known (opened_at s seen tag)
        holds-opened s h =
            holds-if known (is_document_part tag.name) s _ h
            (holds-if known (holds_foreign s.opened || is_foreign tag.name) (at_foreign_tag s seen tag) (at_html_tag s seen tag)
            (holds-foreign_tag s h) (holds-html_tag s h))

      shows-stray : tag.kind ≡ EndTag → (void : Bool) → is_void tag.name ≡ void
          → Shows before (Tag tag) (if void then EndTagOfVoidElement else EndTagWithoutStart) tag.name None
      shows-stray kind true of_void = EndTagOfVoid tag kind of_void
      shows-stray kind false of_void = StrayEndTag tag kind of_void

      holds-closed : tag.kind ≡ EndTag → (s : Checking) (count : ℕ) → Holds known s → Holds known (closed_at s seen tag.name count)
      holds-closed kind s count h =
          let stray : AtFinding (plain_finding seen (stray_fault tag.name) tag.name) =
          at (Tag tag) is (stray_fault tag.name) tag.name None (shows-stray kind (is_void tag.name) refl) in
          holds-if known (count == 0) _ _ (All-append AtFinding s.found _ h.0 (all-one _ stray), h.1, h.2)
          ((holds-left_open known (count - 1) s h).0, All-drop AtOpen count s.opened h.1, h.2)

      holds-tag : (kind : TagKind) → tag.kind ≡ kind → (s : Checking) → Holds before s → Holds known (at_tag kind s seen tag)
      holds-tag StartTag kind s h = holds-opened kind (at_id s seen tag) (holds-id kind s (id_of tag) refl h)
      holds-tag EndTag kind s h =
          holds-if known (is_document_part tag.name) s _ (holds-kept s h) (holds-closed kind s (closed_by s.opened tag.name) (holds-kept s h))

    holds-told : (told : Told) (s : Checking) → seen.token ≡ told → Holds before s → Holds known (checked_told told s seen)
    holds-told (Error message) s is h =
        let kept = holds-kept s h in
        (All-append AtFinding s.found _ h.0 (all-one _ (at-error message is (code_of_message message) refl)), kept.1, kept.2)
    holds-told (Tag tag) s is h = holds-tag tag is tag.kind refl s h
    holds-told End s is h = holds-left_open known (length s.opened) s (holds-kept s h)
    holds-told (Text text) s is h = holds-kept s h
    holds-told Null s is h = holds-kept s h
    holds-told (Comment text) s is h = holds-kept s h
    holds-told (Instruction text) s is h = holds-kept s h
    holds-told (Doctype doctype) s is h = holds-kept s h

  holds-all : (before : List Seen) (s : Checking) (more : List Seen) → tokens ≡ before ++ more → Holds before s → Holds tokens (checked_all s more)
  unfolding checked_all
  holds-all before s [] parts h = subst (λ known. Holds known s) (sym (parts ∙ append-nil before)) h
  holds-all before s (seen ∷ more) parts h =
      holds-all (before ++ seen ∷ []) (checked s seen) more (parts ∙ sym (append_assoc before (seen ∷ []) more))
      (holds-told before seen more parts seen.token s refl h)

  pub all-at_tokens : All (StandsAtToken tokens) (findings_in tokens)
  all-at_tokens =
      All-in_order (λ finding. finding.begin) AtFinding (found_by tokens)
      (holds-all [] nothing_checked tokens refl (none, All-nil AtOpen, All-nil (IsKnown []))).0

-- ---- between the characters of a text

-- whatever stands where the token does
abbrev IsAt : List ℕ → Seen → Type 0
IsAt text seen = (finding : Finding) → finding.begin ≡ seen.begin → finding.end ≡ seen.end → StandsInText text finding

is-at : (text : List ℕ) (p : Placed) → StandsBetween text p → IsAt text (seen_of p)
is-at text p h finding begin end = record {
  before = h.before ++ h.run;
  item = h.item;
  rest = h.rest;
  parts = h.places.parts ∙ sym (append_assoc h.before h.run (h.item ++ h.rest));
  begin = begin ∙ h.places.begin;
  end = end ∙ h.places.end ∙ ap place_after (sym (append_assoc h.before h.run h.item));
}

in-text : (text : List ℕ) (tokens : List Seen) → All (IsAt text) tokens → (finding : Finding) → StandsAtToken tokens finding → StandsInText text finding
in-text text tokens all finding h =
    let here : Contains (h.seen ∷ h.after) h.seen = Contains-append_left (h.seen ∷ []) h.after h.seen (Contains-push [] h.seen) in
    let is_token : Contains tokens h.seen =
    subst (λ l. Contains l h.seen) (sym h.parts) (Contains-append_right h.before (h.seen ∷ h.after) h.seen here) in
    All-contains (IsAt text) tokens h.seen all is_token finding h.begin h.end

pub all-in_text : (references : List NamedReference) (text : List ℕ) → All (StandsInText (chars text)) (findings_in (seen_in references text))
all-in_text references text =
    let rules = rules_of default_options references in
    let K = start_of default_options in
    let placed = placed_tokens rules K (chars text) in
    let tokens : All (IsAt (chars text)) (seen_in references text) =
    All-map (IsAt (chars text)) seen_of placed
    (All-weaker (StandsBetween (chars text)) (λ p. IsAt (chars text) (seen_of p)) (is-at (chars text)) placed (all-between rules K (chars text) refl)) in
    All-weaker (StandsAtToken (seen_in references text)) (StandsInText (chars text)) (in-text (chars text) (seen_in references text) tokens)
    (findings_in (seen_in references text)) (all-at_tokens (seen_in references text))
