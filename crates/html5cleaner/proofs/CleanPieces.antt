-- Kept pieces are clean.
use Rattle.std.proofs.Common.{◌≡◌, ℕ, Bool, true, false, List, [], ◌∷◌, ◌++◌, filter, map, chars, refl, ap, ◌∙◌}
use Rattle.std.specs.Prelude.{◌==◌, ◌||◌, ◌&&◌, codes, encode_utf8_all, not, if◌then◌else◌}
use Rattle.std.specs.List.{list_all, list_any}
use Rattle.std.specs.Str.{bytes_eq}
use Rattle.std.proofs.lemmas.List.Folds.{list_all-append}
use Rattle.html5ever_interface.specs.Token.{Told, TagOf}
use Rattle.html5ever_interface.specs.Token.Told.{Text, Null, Error, Tag, Comment, Instruction, Doctype, End}
use Rattle.html5ever_interface.specs.declared.interface.token.TagKind.{TagKind}
use Rattle.html5ever_interface.specs.declared.interface.token.TagKind.TheVariants.{StartTag, EndTag}
use Rattle.markup5ever.proofs.NameOrder.{bytes_eq-itself}
use Rattle.html5elements.specs.Elements.{is_void}
use Rattle.html5write.specs.Pieces.{NameAndValue, Piece, can_write}
use Rattle.html5write.specs.Pieces.Piece.{TextPiece, StartTagPiece, EndTagPiece}
use Rattle.html5policy.specs.Policy.{PolicyOf, is_allowed, is_kept, is_own_rel, is_rel_of_link, rel_text}
use Rattle.html5cleaner.specs.Allowed.{is_kept_attribute, is_written_attribute, is_allowed_piece, is_clean}
use Rattle.html5cleaner.specs.Clean.{adds_rel, attribute_chars, allows_by_kind, is_break, is_href, is_lost_image, rel_attribute, where_writable, kept, kept_attributes, kept_of_parts, kept_of_run, kept_of_tag, kept_of_token, kept_where, piece_by_kind}
use Rattle.html5cleaner.proofs.Replies.{and-left}

filtered-more : {X : Type 0} (p q : X → Bool) (x : X) (xs : List X) (passes : Bool) → p x ≡ passes → (p x ≡ true → q x ≡ true) → list_all q (filter p xs) ≡ true
    → list_all q (filter p (x ∷ xs)) ≡ true
filtered-more p q x xs true is weaker later = rw (is, weaker is, later) refl
filtered-more p q x xs false is weaker later = rw is later

-- what passes a test passes a weaker one
all-filtered : {X : Type 0} (p q : X → Bool) (xs : List X) → ((x : X) → p x ≡ true → q x ≡ true) → list_all q (filter p xs) ≡ true
all-filtered p q [] weaker = refl
all-filtered p q (x ∷ xs) weaker = filtered-more p q x xs (p x) refl (weaker x) (all-filtered p q xs weaker)

all-more : {X : Type 0} (p : X → Bool) (xs : List X) (x : X) → list_all p xs ≡ true → p x ≡ true → list_all p (xs ++ x ∷ []) ≡ true
all-more p xs x before here = list_all-append p xs (x ∷ []) ∙ rw (before, here) refl

or-left : (a b : Bool) → a ≡ true → (a || b) ≡ true
or-left a b is = ap (λ x. x || b) is

or-right : (a b : Bool) → b ≡ true → (a || b) ≡ true
or-right true b is = refl
or-right false b is = is

-- a piece that can be written, where it is allowed
clean-where : (policy : PolicyOf) (piece : Piece) (can : Bool) → can_write piece ≡ can → is_allowed_piece policy piece ≡ true → list_all (is_clean policy) (if can then piece ∷ [] else []) ≡ true
clean-where policy piece true is allowed = rw (allowed, is) refl
clean-where policy piece false is allowed = refl

clean-writable : (policy : PolicyOf) (piece : Piece) → is_allowed_piece policy piece ≡ true → list_all (is_clean policy) (where_writable piece) ≡ true
clean-writable policy piece allowed = clean-where policy piece (can_write piece) refl allowed

clean-run : (policy : PolicyOf) (run : List ℕ) → list_all (is_clean policy) (kept_of_run run) ≡ true
unfolding kept_of_run is_allowed_piece
clean-run policy [] = refl
clean-run policy (byte ∷ run) = clean-writable policy (TextPiece (chars (byte ∷ run))) refl

-- ---- attributes

rel-written : (policy : PolicyOf) (element : List ℕ) → is_rel_of_link policy (encode_utf8_all element) (codes "rel") ≡ true → is_written_attribute policy element (rel_attribute policy) ≡ true
unfolding lib.Utf8.encode
rel-written policy element link =
    or-right (is_kept policy (encode_utf8_all element) (codes "rel") (rel_text policy)) (is_own_rel policy (encode_utf8_all element) (codes "rel") (rel_text policy))
    (ap (λ b. b && bytes_eq (rel_text policy) (rel_text policy)) link ∙ bytes_eq-itself (rel_text policy))

written-where : (policy : PolicyOf) (element : List ℕ) (attributes : List NameAndValue) (adds : Bool) → adds_rel policy element attributes ≡ adds
    → list_all (is_written_attribute policy element) attributes ≡ true
    → list_all (is_written_attribute policy element) (if adds then attributes ++ rel_attribute policy ∷ [] else attributes) ≡ true
written-where policy element attributes true is all =
    all-more (is_written_attribute policy element) attributes (rel_attribute policy) all
    (rel-written policy element (and-left (is_rel_of_link policy (encode_utf8_all element) (codes "rel")) (list_any is_href attributes) is))
written-where policy element attributes false is all = all

pub written-kept : (policy : PolicyOf) (element : List ℕ) (attributes : List NameAndValue) → list_all (is_written_attribute policy element) (kept_attributes policy element attributes) ≡ true
unfolding kept_attributes
written-kept policy element attributes =
    let kept = filter (is_kept_attribute policy element) attributes in
    written-where policy element kept (adds_rel policy element kept) refl
    (all-filtered (is_kept_attribute policy element) (is_written_attribute policy element) attributes
    (λ a is. or-left (is_kept_attribute policy element a) (is_own_rel policy (encode_utf8_all element) (encode_utf8_all a.name) (encode_utf8_all a.value)) is))

-- ---- tags

allowed-end_where : (policy : PolicyOf) (name : List ℕ) (breaks : Bool) → (is_allowed policy (encode_utf8_all name) && (breaks || not (is_void (encode_utf8_all name)))) ≡ true
    → is_allowed_piece policy (if breaks then StartTagPiece name [] else EndTagPiece name) ≡ true
unfolding is_allowed_piece
allowed-end_where policy name true allowed = rw (and-left (is_allowed policy (encode_utf8_all name)) true allowed) refl
allowed-end_where policy name false allowed = allowed

allowed-piece : (policy : PolicyOf) (kind : TagKind) (name : List ℕ) (attributes : List NameAndValue) → allows_by_kind policy kind (encode_utf8_all name) ≡ true
    → list_all (is_written_attribute policy name) attributes ≡ true → is_allowed_piece policy (piece_by_kind kind name attributes) ≡ true
unfolding is_allowed_piece
allowed-piece policy StartTag name attributes allowed all = rw (allowed, all) refl
allowed-piece policy EndTag name attributes allowed all = allowed-end_where policy name (is_break (encode_utf8_all name)) allowed

clean-allowed_where : (policy : PolicyOf) (kind : TagKind) (name : List ℕ) (attributes : List NameAndValue) (allows : Bool) → allows_by_kind policy kind (encode_utf8_all name) ≡ allows
    → list_all (is_written_attribute policy name) attributes ≡ true
    → list_all (is_clean policy) (if allows then where_writable (piece_by_kind kind name attributes) else []) ≡ true
clean-allowed_where policy kind name attributes true is all = clean-writable policy (piece_by_kind kind name attributes) (allowed-piece policy kind name attributes is all)
clean-allowed_where policy kind name attributes false is all = refl

clean-parts : (policy : PolicyOf) (kind : TagKind) (name : List ℕ) (attributes : List NameAndValue) → list_all (is_written_attribute policy name) attributes ≡ true
    → list_all (is_clean policy) (kept_of_parts policy kind name attributes) ≡ true
unfolding kept_of_parts
clean-parts policy kind name attributes all = clean-allowed_where policy kind name attributes (allows_by_kind policy kind (encode_utf8_all name)) refl all

clean-tag_where : (policy : PolicyOf) (tag : TagOf) (lost : Bool)
    → list_all (is_clean policy) (if lost then [] else kept_of_parts policy tag.kind (chars tag.name) (kept_attributes policy (chars tag.name) (map attribute_chars tag.attributes))) ≡ true
clean-tag_where policy tag true = refl
clean-tag_where policy tag false =
    clean-parts policy tag.kind (chars tag.name) (kept_attributes policy (chars tag.name) (map attribute_chars tag.attributes))
    (written-kept policy (chars tag.name) (map attribute_chars tag.attributes))

clean-tag : (policy : PolicyOf) (tag : TagOf) → list_all (is_clean policy) (kept_of_tag policy tag) ≡ true
unfolding kept_of_tag
clean-tag policy tag = clean-tag_where policy tag (is_lost_image policy tag)

clean-token : (policy : PolicyOf) (told : Told) → list_all (is_clean policy) (kept_of_token policy told) ≡ true
clean-token policy (Tag tag) = clean-tag policy tag
clean-token policy (Text text) = refl
clean-token policy Null = refl
clean-token policy (Error message) = refl
clean-token policy (Comment text) = refl
clean-token policy (Instruction text) = refl
clean-token policy (Doctype doctype) = refl
clean-token policy End = refl

clean-kept : (policy : PolicyOf) (run : List ℕ) (told : Told) → list_all (is_clean policy) (kept policy run told) ≡ true
clean-kept policy run told = list_all-append (is_clean policy) (kept_of_run run) (kept_of_token policy told) ∙ rw (clean-run policy run, clean-token policy told) refl

-- kept pieces are clean at any depth of hidden elements
pub clean-where_shown : (policy : PolicyOf) (depth : ℕ) (run : List ℕ) (told : Told) → list_all (is_clean policy) (kept_where policy depth run told) ≡ true
clean-where_shown policy depth run told = by-test (depth == 0)
  where
    by-test : (shown : Bool) → list_all (is_clean policy) (if shown then kept policy run told else []) ≡ true
    by-test true = clean-kept policy run told
    by-test false = refl
