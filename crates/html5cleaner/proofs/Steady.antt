-- What is written is steady: what is read of it is kept as it is.
use Rattle.std.proofs.Common.{◌≡◌, ℕ, zero, suc, Bool, true, false, List, [], ◌∷◌, ◌++◌, filter, map, take, chars, refl, ap, sym, ◌∙◌, subst}
use Rattle.std.specs.Prelude.{◌==◌, ◌&&◌, ◌||◌, not, codes, encode_utf8_all, if◌then◌else◌}
use Rattle.std.specs.List.{list_all, list_any}
use Rattle.std.specs.Str.{bytes_eq}
use Rattle.std.proofs.Math.Bool.{and-false}
use Rattle.std.proofs.lemmas.Bool.{false≢true}
use Rattle.std.proofs.lemmas.List.{append-nil, take-map}
use Rattle.std.proofs.lemmas.List.Elements.{filter-append}
use Rattle.html5ever_interface.specs.Token.{Told, TagOf}
use Rattle.html5ever_interface.specs.Token.Told.{Text, Null, Error, Tag, Comment, Instruction, Doctype, End}
use Rattle.html5ever_interface.specs.declared.interface.token.TagKind.{TagKind}
use Rattle.html5ever_interface.specs.declared.interface.token.TagKind.TheVariants.{StartTag, EndTag}
use Rattle.html5policy.specs.Addresses.{is_safe_address}
use Rattle.html5policy.specs.Names.{acts_on_page, always_hides, is_address, is_one_of}
use Rattle.html5policy.specs.Policy.{PolicyOf, hides, is_allowed, is_kept, is_named, is_rel_of_link}
use Rattle.html5policy.specs.Rules.{IsSound}
use Rattle.html5policy.proofs.Soundness.{allowed-may_keep, allowed-shows}
use Rattle.html5write.specs.Pieces.{NameAndValue, Piece, can_write, has_no_null, is_tag_name}
use Rattle.html5write.specs.Pieces.Piece.{TextPiece, StartTagPiece, EndTagPiece, CommentPiece}
use Rattle.html5write.specs.Told.{attribute_told, end_tag_told, start_tag_told}
use Rattle.html5cleaner.specs.Allowed.{is_allowed_piece, is_clean, is_kept_attribute, is_written_attribute}
use Rattle.html5cleaner.specs.Balance.{all_balanced, all_open_after, balanced, end_tags, is_end, open_after, written_by}
use Rattle.html5cleaner.specs.Open.{closed_by}
use Rattle.html5cleaner.specs.Shape.{shape_by_balance}
use Rattle.html5cleaner.specs.Clean.{Cleaned, adds_rel, at_start, allows_by_kind, attribute_chars, clean_step, is_break, is_href, is_lost_image, kept, kept_attributes, kept_of_parts, kept_of_run, kept_of_tag, kept_of_token, kept_where, rel_attribute, opens, piece_by_kind, where_writable, with_rel}
use Rattle.html5elements.specs.Elements.{is_void}
use Rattle.html5elements.specs.Hidden.{has_content}
use Rattle.html5cleaner.proofs.Encoded.{chars-encoded}
use lib.Utf8.{encode}
use Rattle.html5cleaner.proofs.Replies.{and-left, and-right}
use Rattle.html5cleaner.proofs.CleanBalanced.{CanClose, all_can-close, can-close-after, can-close-by}
use Rattle.html5cleaner.proofs.CleanPieces.{clean-where_shown, written-kept}
use Rattle.html5cleaner.proofs.Images.{no-break, shown-image}
use Rattle.html5cleaner.proofs.Links.{kept-none}

-- ---- attributes that were kept

filter-next : {X : Type 0} (p : X → Bool) (x : X) (xs : List X) (keeps : Bool) → p x ≡ keeps → filter p (filter p xs) ≡ filter p xs → filter p (filter p (x ∷ xs)) ≡ filter p (x ∷ xs)
filter-next p x xs true is later = rw (is, is) (ap (λ l. x ∷ l) later)
filter-next p x xs false is later = rw is later

filter-again : {X : Type 0} (p : X → Bool) (xs : List X) → filter p (filter p xs) ≡ filter p xs
filter-again p [] = refl
filter-again p (x ∷ xs) = filter-next p x xs (p x) refl (filter-again p xs)

rel-bytes : encode_utf8_all (codes "rel") ≡ codes "rel"
unfolding encode
rel-bytes = refl

never-named : (named other : Bool) → (named && (not true && other)) ≡ false
never-named true other = refl
never-named false other = refl

-- the `rel` of a link, for which the policy has a value of its own, is not kept
rel-not_kept : (policy : PolicyOf) (element : List ℕ) → is_rel_of_link policy (encode_utf8_all element) (codes "rel") ≡ true → is_kept_attribute policy element (rel_attribute policy) ≡ false
unfolding is_kept
rel-not_kept policy element is =
    let named : Bool = is_named policy (encode_utf8_all element) (codes "rel") in
    let other : Bool = not (is_address (codes "rel")) || is_safe_address policy.schemes (encode_utf8_all (chars policy.rel)) in
    ap (λ rel. is_kept policy (encode_utf8_all element) rel (encode_utf8_all (chars policy.rel))) rel-bytes
    ∙ ap (λ (b : Bool). named && (not b && other)) is
    ∙ never-named named other

-- whether `rel` is written after them is the same the second time
again-by_test : (policy : PolicyOf) (element : List ℕ) (attributes : List NameAndValue) (adds : Bool)
    → adds_rel policy element (filter (is_kept_attribute policy element) attributes) ≡ adds
    → with_rel policy element (filter (is_kept_attribute policy element)
    (if adds then filter (is_kept_attribute policy element) attributes ++ rel_attribute policy ∷ [] else filter (is_kept_attribute policy element) attributes))
    ≡ (if adds then filter (is_kept_attribute policy element) attributes ++ rel_attribute policy ∷ [] else filter (is_kept_attribute policy element) attributes)
again-by_test policy element attributes false is =
    let p = is_kept_attribute policy element in
    ap (with_rel policy element) (filter-again p attributes)
    ∙ ap (λ (b : Bool). if b then filter p attributes ++ rel_attribute policy ∷ [] else filter p attributes) is
again-by_test policy element attributes true is =
    let p = is_kept_attribute policy element in
    let F : List NameAndValue = filter p attributes in
    let rel = rel-not_kept policy element (and-left (is_rel_of_link policy (encode_utf8_all element) (codes "rel")) (list_any is_href F) is) in
    ap (with_rel policy element)
    (filter-append p F (rel_attribute policy ∷ [])
    ∙ (λ i. filter-again p attributes i ++ (if rel i then rel_attribute policy ∷ [] else []))
    ∙ append-nil F)
    ∙ ap (λ (b : Bool). if b then F ++ rel_attribute policy ∷ [] else F) is

attributes-again : (policy : PolicyOf) (element : List ℕ) (attributes : List NameAndValue)
    → kept_attributes policy element (kept_attributes policy element attributes) ≡ kept_attributes policy element attributes
unfolding kept_attributes
attributes-again policy element attributes = again-by_test policy element attributes (adds_rel policy element (filter (is_kept_attribute policy element) attributes)) refl

-- ---- pieces that stay

chars-told : (a : NameAndValue) → attribute_chars (attribute_told a) ≡ a
chars-told a = λ i. record { name = chars-encoded a.name i; value = chars-encoded a.value i }

chars-all_told : (attributes : List NameAndValue) → map attribute_chars (map attribute_told attributes) ≡ attributes
chars-all_told [] = refl
chars-all_told (a ∷ attributes) = λ i. chars-told a i ∷ chars-all_told attributes i

-- what is read of the piece is kept as this piece, and hides nothing
abbrev pub IsSteady : PolicyOf → Piece → Type 0
IsSteady policy (TextPiece text) = has_no_null text ≡ true
IsSteady policy (StartTagPiece name attributes) =
    (kept_of_tag policy (start_tag_told name attributes) ≡ StartTagPiece name attributes ∷ []) × (opens policy (start_tag_told name attributes) ≡ false)
IsSteady policy (EndTagPiece name) = kept_of_tag policy (end_tag_told name) ≡ EndTagPiece name ∷ []
IsSteady policy (CommentPiece text) = ⊥

abbrev pub AreSteady : PolicyOf → List Piece → Type 0
AreSteady policy [] = Unit {0}
AreSteady policy (piece ∷ pieces) = IsSteady policy piece × AreSteady policy pieces

pub steady-append : (policy : PolicyOf) (xs ys : List Piece) → AreSteady policy xs → AreSteady policy ys → AreSteady policy (xs ++ ys)
steady-append policy [] ys f g = g
steady-append policy (x ∷ xs) ys f g = (f.0, steady-append policy xs ys f.1 g)

-- a kept element does not hide its content
not-hidden : (always acts listed : Bool) → (not always && (not acts && not listed)) ≡ true → always ≡ false → (always || listed) ≡ false
not-hidden always acts false both shows = rw shows refl
not-hidden always true true both shows = absurd (false≢true (sym (ap (λ b. not b && false) shows) ∙ both))
not-hidden always false true both shows = absurd (false≢true (sym (ap (λ b. not b && false) shows) ∙ both))

allowed-shown : (policy : PolicyOf) (name : List ℕ) → IsSound policy → is_allowed policy name ≡ true → hides policy name ≡ false
unfolding hides
allowed-shown policy name sound allowed =
    not-hidden (always_hides name) (acts_on_page name) (is_one_of policy.hidden name)
    (and-right (is_tag_name (chars name)) (not (always_hides name) && (not (acts_on_page name) && not (is_one_of policy.hidden name))) (allowed-may_keep policy name sound allowed))
    (allowed-shows policy name sound allowed)

kept-parts : (policy : PolicyOf) (kind : TagKind) (name : List ℕ) (attributes : List NameAndValue) → allows_by_kind policy kind (encode_utf8_all name) ≡ true
    → can_write (piece_by_kind kind name attributes) ≡ true → kept_of_parts policy kind name attributes ≡ piece_by_kind kind name attributes ∷ []
unfolding kept_of_parts
kept-parts policy kind name attributes allowed can =
    ap (λ allows. if allows then where_writable (piece_by_kind kind name attributes) else []) allowed
    ∙ ap (λ writable. if writable then piece_by_kind kind name attributes ∷ [] else []) can

steady-start : (policy : PolicyOf) → IsSound policy → (name : List ℕ) (attributes : List NameAndValue) → kept_attributes policy name attributes ≡ attributes
    → is_allowed policy (encode_utf8_all name) ≡ true → can_write (StartTagPiece name attributes) ≡ true → IsSteady policy (StartTagPiece name attributes)
unfolding kept_of_tag
steady-start policy sound name attributes same allowed can =
    let written : list_all (is_written_attribute policy name) attributes ≡ true =
    ap (list_all (is_written_attribute policy name)) (sym same) ∙ written-kept policy name attributes in (
      ap (λ (lost : Bool). if lost then [] else kept_of_parts policy StartTag (chars (encode_utf8_all name))
          (kept_attributes policy (chars (encode_utf8_all name)) (map attribute_chars (map attribute_told attributes))))
          (shown-image policy name attributes written)
          ∙ (λ i. kept_of_parts policy StartTag (chars-encoded name i) (kept_attributes policy (chars-encoded name i) (chars-all_told attributes i)))
          ∙ ap (kept_of_parts policy StartTag name) same
          ∙ kept-parts policy StartTag name attributes allowed can,
      ap (λ hidden. hidden && has_content (start_tag_told name attributes)) (allowed-shown policy (encode_utf8_all name) sound allowed),
    )

-- an end tag, or the start tag as which `</br>` is read
steady-end_where : (policy : PolicyOf) → IsSound policy → (name : List ℕ) (breaks : Bool) → is_break (encode_utf8_all name) ≡ breaks
    → (is_allowed policy (encode_utf8_all name) && (breaks || not (is_void (encode_utf8_all name)))) ≡ true
    → can_write (if breaks then StartTagPiece name [] else EndTagPiece name) ≡ true → IsSteady policy (if breaks then StartTagPiece name [] else EndTagPiece name)
unfolding kept_of_tag
steady-end_where policy sound name true is allowed can =
    steady-start policy sound name [] (kept-none policy name) (and-left (is_allowed policy (encode_utf8_all name)) true allowed) can
steady-end_where policy sound name false is allowed can =
    ap (λ (lost : Bool). if lost then [] else kept_of_parts policy EndTag (chars (encode_utf8_all name)) (kept_attributes policy (chars (encode_utf8_all name)) []))
    (and-false (bytes_eq (encode_utf8_all name) (codes "img")))
    ∙ (λ i. kept_of_parts policy EndTag (chars-encoded name i) (kept_attributes policy (chars-encoded name i) []))
    ∙ kept-parts policy EndTag name (kept_attributes policy name [])
    (ap (λ b. is_allowed policy (encode_utf8_all name) && (b || not (is_void (encode_utf8_all name)))) is ∙ allowed)
    (ap (λ (b : Bool). can_write (if b then StartTagPiece name [] else EndTagPiece name)) is ∙ can)
    ∙ ap (λ (b : Bool). (if b then StartTagPiece name [] else EndTagPiece name) ∷ []) is

pub steady-kind : (policy : PolicyOf) → IsSound policy → (kind : TagKind) (name : List ℕ) (attributes : List NameAndValue) → kept_attributes policy name attributes ≡ attributes
    → allows_by_kind policy kind (encode_utf8_all name) ≡ true → can_write (piece_by_kind kind name attributes) ≡ true → IsSteady policy (piece_by_kind kind name attributes)
steady-kind policy sound StartTag name attributes same allowed can = steady-start policy sound name attributes same allowed can
steady-kind policy sound EndTag name attributes same allowed can = steady-end_where policy sound name (is_break (encode_utf8_all name)) refl allowed can

steady-by_tests : (policy : PolicyOf) → IsSound policy → (kind : TagKind) (name : List ℕ) (attributes : List NameAndValue) (allows writable : Bool)
    → kept_attributes policy name attributes ≡ attributes → allows_by_kind policy kind (encode_utf8_all name) ≡ allows → can_write (piece_by_kind kind name attributes) ≡ writable
    → AreSteady policy (if allows then (if writable then piece_by_kind kind name attributes ∷ [] else []) else [])
steady-by_tests policy sound kind name attributes true true same allowed can = (steady-kind policy sound kind name attributes same allowed can, tt)
steady-by_tests policy sound kind name attributes true false same allowed can = tt
steady-by_tests policy sound kind name attributes false writable same allowed can = tt

steady-parts : (policy : PolicyOf) → IsSound policy → (kind : TagKind) (name : List ℕ) (attributes : List NameAndValue) → kept_attributes policy name attributes ≡ attributes
    → AreSteady policy (kept_of_parts policy kind name attributes)
unfolding kept_of_parts
steady-parts policy sound kind name attributes same =
    steady-by_tests policy sound kind name attributes (allows_by_kind policy kind (encode_utf8_all name)) (can_write (piece_by_kind kind name attributes)) same refl refl

steady-tag_where : (policy : PolicyOf) → IsSound policy → (tag : TagOf) (lost : Bool)
    → AreSteady policy (if lost then [] else kept_of_parts policy tag.kind (chars tag.name) (kept_attributes policy (chars tag.name) (map attribute_chars tag.attributes)))
steady-tag_where policy sound tag true = tt
steady-tag_where policy sound tag false =
    steady-parts policy sound tag.kind (chars tag.name) (kept_attributes policy (chars tag.name) (map attribute_chars tag.attributes))
    (attributes-again policy (chars tag.name) (map attribute_chars tag.attributes))

steady-tag : (policy : PolicyOf) → IsSound policy → (tag : TagOf) → AreSteady policy (kept_of_tag policy tag)
unfolding kept_of_tag
steady-tag policy sound tag = steady-tag_where policy sound tag (is_lost_image policy tag)

steady-text : (policy : PolicyOf) (text : List ℕ) (writable : Bool) → has_no_null text ≡ writable → AreSteady policy (if writable then TextPiece text ∷ [] else [])
steady-text policy text true is = (is, tt)
steady-text policy text false is = tt

steady-run : (policy : PolicyOf) (run : List ℕ) → AreSteady policy (kept_of_run run)
unfolding kept_of_run
steady-run policy [] = tt
steady-run policy (byte ∷ run) = steady-text policy (chars (byte ∷ run)) (has_no_null (chars (byte ∷ run))) refl

steady-token : (policy : PolicyOf) → IsSound policy → (told : Told) → AreSteady policy (kept_of_token policy told)
steady-token policy sound (Tag tag) = steady-tag policy sound tag
steady-token policy sound (Text text) = tt
steady-token policy sound Null = tt
steady-token policy sound (Error message) = tt
steady-token policy sound (Comment text) = tt
steady-token policy sound (Instruction content) = tt
steady-token policy sound (Doctype doctype) = tt
steady-token policy sound End = tt

pub steady-shown : (policy : PolicyOf) → IsSound policy → (depth : ℕ) (run : List ℕ) (told : Told) → AreSteady policy (kept_where policy depth run told)
steady-shown policy sound depth run told = by-test (depth == 0)
  where
    by-test : (shown : Bool) → AreSteady policy (if shown then kept policy run told else [])
    by-test true = steady-append policy (kept_of_run run) (kept_of_token policy told) (steady-run policy run) (steady-token policy sound told)
    by-test false = tt

-- ---- end tags of open elements

pub steady-end_tag : (policy : PolicyOf) → IsSound policy → (name : List ℕ) → is_clean policy (EndTagPiece name) ≡ true → IsSteady policy (EndTagPiece name)
unfolding is_allowed_piece
steady-end_tag policy sound name clean =
    let allowed = and-left (is_allowed_piece policy (EndTagPiece name)) (can_write (EndTagPiece name)) clean in
    steady-end_where policy sound name false (no-break (encode_utf8_all name) (and-right (is_allowed policy (encode_utf8_all name)) (not (is_void (encode_utf8_all name))) allowed)) allowed
    (and-right (is_allowed_piece policy (EndTagPiece name)) (can_write (EndTagPiece name)) clean)

pub steady-end_tags : (policy : PolicyOf) → IsSound policy → (references : List (List ℕ)) → CanClose policy references → AreSteady policy (end_tags references)
steady-end_tags policy sound [] can = tt
steady-end_tags policy sound (name ∷ references) can = (
  steady-end_tag policy sound name (and-left (is_clean policy (EndTagPiece name)) (list_all (is_clean policy) (end_tags references)) can),
  steady-end_tags policy sound references (and-right (is_clean policy (EndTagPiece name)) (list_all (is_clean policy) (end_tags references)) can),
)

steady-taken : (policy : PolicyOf) (count : ℕ) (pieces : List Piece) → AreSteady policy pieces → AreSteady policy (take count pieces)
steady-taken policy zero pieces are = tt
steady-taken policy (suc count) [] are = tt
steady-taken policy (suc count) (piece ∷ pieces) are = (are.0, steady-taken policy count pieces are.1)

steady-balanced : (policy : PolicyOf) → IsSound policy → (opened : List (List ℕ)) (piece : Piece) → CanClose policy opened → IsSteady policy piece → AreSteady policy (balanced opened piece)
unfolding balanced
steady-balanced policy sound opened (StartTagPiece name attributes) can steady = (steady, tt)
steady-balanced policy sound opened (EndTagPiece name) can steady =
    subst (λ pieces. AreSteady policy pieces) (take-map EndTagPiece (closed_by opened name) opened)
    (steady-taken policy (closed_by opened name) (end_tags opened) (steady-end_tags policy sound opened can))
steady-balanced policy sound opened (TextPiece text) can steady = (steady, tt)
steady-balanced policy sound opened (CommentPiece text) can steady = absurd steady

steady-all_balanced : (policy : PolicyOf) → IsSound policy → (opened : List (List ℕ)) (pieces : List Piece) → CanClose policy opened → list_all (is_clean policy) pieces ≡ true
    → AreSteady policy pieces → AreSteady policy (all_balanced opened pieces)
unfolding all_balanced
steady-all_balanced policy sound opened [] can clean are = tt
steady-all_balanced policy sound opened (piece ∷ pieces) can clean are =
    steady-append policy (balanced opened piece) (all_balanced (open_after opened piece) pieces) (steady-balanced policy sound opened piece can are.0)
    (steady-all_balanced policy sound (open_after opened piece) pieces
    (can-close-after policy opened piece can (and-left (is_clean policy piece) (list_all (is_clean policy) pieces) clean))
    (and-right (is_clean policy piece) (list_all (is_clean policy) pieces) clean) are.1)

pub steady-written : (policy : PolicyOf) → IsSound policy → (balance ends : Bool) (opened : List (List ℕ)) (pieces : List Piece) → CanClose policy opened → list_all (is_clean policy) pieces ≡ true
    → AreSteady policy pieces → AreSteady policy (written_by (shape_by_balance balance) ends opened pieces)
unfolding written_by
steady-written policy sound true true opened pieces can clean are =
    steady-append policy (all_balanced opened pieces) (end_tags (all_open_after opened pieces)) (steady-all_balanced policy sound opened pieces can clean are)
    (steady-end_tags policy sound (all_open_after opened pieces) (all_can-close policy opened pieces can clean))
steady-written policy sound true false opened pieces can clean are =
    steady-append policy (all_balanced opened pieces) [] (steady-all_balanced policy sound opened pieces can clean are) tt
steady-written policy sound false ends opened pieces can clean are = are
