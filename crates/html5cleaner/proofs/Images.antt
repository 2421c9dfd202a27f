-- An image that was kept is kept again, and `br` is the one void element whose end tag is read.
use Rattle.std.proofs.Common.{◌≡◌, ℕ, Bool, true, false, List, [], ◌∷◌, map, refl, sym, ap, ◌∙◌}
use Rattle.std.specs.Prelude.{◌||◌, ◌&&◌, codes, encode_utf8_all, not}
use Rattle.std.specs.List.{list_all, list_any}
use Rattle.std.specs.Str.{bytes_eq}
use Rattle.std.proofs.lemmas.Bool.{false≢true}
use Rattle.markup5ever.proofs.NameOrder.{bytes_eq-same}
use Rattle.html5elements.specs.Elements.{is_void}
use Rattle.html5policy.specs.Addresses.{is_safe_address}
use Rattle.html5policy.specs.Names.{is_address, is_address_now}
use Rattle.html5policy.specs.Policy.{PolicyOf, is_kept, is_named, is_written, rel_text, refuses_address, writes_rel}
use Rattle.html5write.specs.Pieces.{NameAndValue}
use Rattle.html5write.specs.Told.{attribute_told, start_tag_told}
use Rattle.html5cleaner.specs.Allowed.{is_written_attribute}
use Rattle.html5cleaner.specs.Clean.{is_break, is_lost_image, is_refused_source}
use Rattle.html5cleaner.proofs.Replies.{and-left, and-right}

-- ---- addresses

kept-safe : (named link safe value : Bool) → ((named && (not (link && false) && safe)) || ((link && false) && value)) ≡ true → (named && not safe) ≡ false
kept-safe false link safe value is = refl
kept-safe true link true value is = refl
kept-safe true true false value is = absurd (false≢true is)
kept-safe true false false value is = absurd (false≢true is)

safe-source : (policy : PolicyOf) (value : List ℕ) → is_written policy (codes "img") (codes "src") value ≡ true
    → refuses_address policy (codes "img") (codes "src") value ≡ false
unfolding is_kept is_address is_address_now
safe-source policy value written =
    kept-safe (is_named policy (codes "img") (codes "src")) (writes_rel policy) (is_safe_address policy.schemes value) (bytes_eq value (rel_text policy)) written

shown-source : (policy : PolicyOf) (element attribute value : List ℕ) (same : Bool) → bytes_eq attribute (codes "src") ≡ same → element ≡ codes "img"
    → is_written policy element attribute value ≡ true → (same && refuses_address policy (codes "img") (codes "src") value) ≡ false
shown-source policy element attribute value true is image written =
    safe-source policy value
    (ap (λ e. is_written policy e (codes "src") value) (sym image) ∙ ap (λ a. is_written policy element a value) (sym (bytes_eq-same attribute (codes "src") is)) ∙ written)
shown-source policy element attribute value false is image written = refl

shown-attribute : (policy : PolicyOf) (name : List ℕ) (a : NameAndValue) → encode_utf8_all name ≡ codes "img" → is_written_attribute policy name a ≡ true
    → is_refused_source policy (attribute_told a) ≡ false
shown-attribute policy name a image written =
    shown-source policy (encode_utf8_all name) (encode_utf8_all a.name) (encode_utf8_all a.value) (bytes_eq (encode_utf8_all a.name) (codes "src")) refl image written

shown-attributes : (policy : PolicyOf) (name : List ℕ) (attributes : List NameAndValue) → encode_utf8_all name ≡ codes "img"
    → list_all (is_written_attribute policy name) attributes ≡ true → list_any (is_refused_source policy) (map attribute_told attributes) ≡ false
shown-attributes policy name [] image written = refl
shown-attributes policy name (a ∷ attributes) image written =
    ap (λ b. b || list_any (is_refused_source policy) (map attribute_told attributes))
    (shown-attribute policy name a image (and-left (is_written_attribute policy name a) (list_all (is_written_attribute policy name) attributes) written))
    ∙ shown-attributes policy name attributes image (and-right (is_written_attribute policy name a) (list_all (is_written_attribute policy name) attributes) written)

shown-where : (policy : PolicyOf) (name : List ℕ) (attributes : List NameAndValue) (image : Bool) → bytes_eq (encode_utf8_all name) (codes "img") ≡ image
    → list_all (is_written_attribute policy name) attributes ≡ true → (image && list_any (is_refused_source policy) (map attribute_told attributes)) ≡ false
shown-where policy name attributes true is written = shown-attributes policy name attributes (bytes_eq-same (encode_utf8_all name) (codes "img") is) written
shown-where policy name attributes false is written = refl

-- a start tag that is written is no image whose address is refused
pub shown-image : (policy : PolicyOf) (name : List ℕ) (attributes : List NameAndValue) → list_all (is_written_attribute policy name) attributes ≡ true
    → is_lost_image policy (start_tag_told name attributes) ≡ false
shown-image policy name attributes written = shown-where policy name attributes (bytes_eq (encode_utf8_all name) (codes "img")) refl written

-- ---- `br`

void-break : is_void (codes "br") ≡ true
unfolding is_void
void-break = refl

no-break_where : (name : List ℕ) (breaks : Bool) → bytes_eq name (codes "br") ≡ breaks → not (is_void name) ≡ true → breaks ≡ false
no-break_where name true is other =
    absurd (false≢true (sym (ap (λ n. not (is_void n)) (bytes_eq-same name (codes "br") is) ∙ ap not void-break) ∙ other))
no-break_where name false is other = refl

pub no-break : (name : List ℕ) → not (is_void name) ≡ true → is_break name ≡ false
no-break name other = no-break_where name (bytes_eq name (codes "br")) refl other
