-- The comments and processing instructions of a page can be written.
use Rattle.std.proofs.Common.{◌≡◌, ℕ, ◌-◌, ◌≤◌, Bool, true, false, List, [], ◌∷◌, ◌++◌, length, take, drop, map, refl, ap, sym, ◌∙◌, arith}
use Rattle.std.specs.Prelude.{◌==◌, ◌||◌, ◌&&◌, not, nat_eq, codes, flat_map, encode_utf8, encode_utf8_all, if◌then◌else◌}
use Rattle.std.specs.Char.{to_ascii_lowercase}
use Rattle.std.specs.List.{list_all, starts_with}
use Rattle.std.proofs.lemmas.List.{take-append-drop}
use Rattle.std.proofs.Math.Bool.{or-true}
use Rattle.std.proofs.lemmas.Bool.{and_parts, not-true, false≢true, eqb-true, false_from_ne_true}
use Rattle.std.proofs.lemmas.Bool.Decides.{nat_tests}
use Rattle.html5reading.specs.Characters.{null, greater_than, carriage_return, replacement_character, shown, value_bytes, lower_case}
use Rattle.html5reading.specs.Comment.{comment_content, begins_keyword, begins_cdata, ends_in, without_last}
use Rattle.html5reading.proofs.LawfulBytes.{all-encode, all-append}
use Rattle.html5grammar.specs.Comment.{occurs, is_content}
use Rattle.html5grammar.specs.Declarations.{may_begin}
use Rattle.html5serialize.specs.Doctypes.{is_markup_character}
use Rattle.html5serialize.specs.Tokens.{is_comment_text}
use Rattle.html5serialize.proofs.DoctypeBack.{IsMarkup, markup-parts, high-markup}
use Rattle.html5serialize.proofs.Utf8Bytes.{is_small, all-parts, begins-encodes, occurs-encodes}
use Rattle.html5write.specs.Pieces.{is_comment_character}
use Rattle.html5write.specs.Told.{has_no_return}

-- ---- texts in which no `>` stands

-- neither `>` nor CR: other characters of markup are shown as such
abbrev pub is_open_character : ℕ → Bool
is_open_character c = not (c == greater_than)

shown-markup : (c : ℕ) → not (c == greater_than) ≡ true → not (c == carriage_return) ≡ true → is_markup_character (shown c) ≡ true
unfolding shown is_markup_character
shown-markup c g r =
    (elim (c == null) as (λ b. (c == null) ≡ b → not (((if b then replacement_character else c) == greater_than) || ((if b then replacement_character else c) == null) || ((if b then replacement_character else c) == carriage_return)) ≡ true) [
      | true ↦ λ e. refl
      | false ↦ λ e. rw (not-true (c == greater_than) g, e, not-true (c == carriage_return) r) refl
    ]) refl

pub bytes-markup : (content : List ℕ) → list_all is_open_character content ≡ true → has_no_return content ≡ true → list_all is_markup_character (flat_map value_bytes content) ≡ true
unfolding value_bytes
bytes-markup [] h r = refl
bytes-markup (c ∷ content) h r =
    let p = and_parts (not (c == greater_than)) (list_all is_open_character content) h in
    let q = and_parts (not (c == carriage_return)) (has_no_return content) r in
    all-append is_markup_character (value_bytes c) (flat_map value_bytes content)
    (all-encode is_markup_character high-markup (shown c) (shown-markup c p.0 q.0)) (bytes-markup content p.1 q.1)

-- what a text begins with passes each test that all of the text passes
pub begins-passes : (p : ℕ → Bool) (word text : List ℕ) → starts_with nat_eq text word ≡ true → list_all p text ≡ true → list_all p word ≡ true
begins-passes p [] text h all = refl
begins-passes p (w ∷ word) [] h all = absurd (false≢true h)
begins-passes p (w ∷ word) (c ∷ text) h all =
    let a = and_parts (nat_eq w c) (starts_with nat_eq text word) h in
    let b = and_parts (p c) (list_all p text) all in
    rw (ap p (eqb-true w c a.0) ∙ b.0) (begins-passes p word text a.1 b.1)

-- a word with a character that fails it doesn't begin such a text, and stands nowhere in it
begins-none : (p : ℕ → Bool) (word text : List ℕ) → list_all p word ≡ false → list_all p text ≡ true → starts_with nat_eq text word ≡ false
begins-none p word text fails all =
    false_from_ne_true (starts_with nat_eq text word) (λ h. false≢true (sym fails ∙ begins-passes p word text h all))

occurs-none : (p : ℕ → Bool) (word text : List ℕ) → list_all p word ≡ false → list_all p text ≡ true → occurs word text ≡ false
unfolding occurs
occurs-none p word [] fails all = refl
occurs-none p word (c ∷ text) fails all =
    ap (λ b. b || occurs word text) (begins-none p word (c ∷ text) fails all)
    ∙ occurs-none p word text fails (and_parts (p c) (list_all p text) all).1

markup-comment : (text : List ℕ) → list_all is_markup_character text ≡ true → list_all is_comment_character text ≡ true
markup-comment [] h = refl
markup-comment (c ∷ text) h =
    let p = and_parts (is_markup_character c) (list_all is_markup_character text) h in
    let m : IsMarkup c = markup-parts c p.0 in
    rw (m.no_null, m.no_return) (markup-comment text p.1)

pub plain-comment : (text : List ℕ) → list_all is_markup_character text ≡ true → is_comment_text text ≡ true
unfolding is_comment_text is_content is_markup_character
plain-comment text h =
    rw (
      markup-comment text h,
      begins-none is_markup_character (codes ">") text refl h,
      begins-none is_markup_character (codes "->") text refl h,
      occurs-none is_markup_character (codes "-->") text refl h,
      occurs-none is_markup_character (codes "--!>") text refl h,
    ) refl

-- ---- texts in which a `>` may stand

shown-comment : (c : ℕ) → not (c == carriage_return) ≡ true → is_comment_character (shown c) ≡ true
unfolding shown
shown-comment c r =
    (elim (c == null) as (λ b. (c == null) ≡ b → not (((if b then replacement_character else c) == null) || ((if b then replacement_character else c) == carriage_return)) ≡ true) [
      | true ↦ λ e. refl
      | false ↦ λ e. rw (e, not-true (c == carriage_return) r) refl
    ]) refl

high-comment : (b : ℕ) → 128 ≤ b → is_comment_character b ≡ true
high-comment b h = grind (arith, nat_tests)

bytes-comment : (content : List ℕ) → has_no_return content ≡ true → list_all is_comment_character (flat_map value_bytes content) ≡ true
unfolding value_bytes
bytes-comment [] r = refl
bytes-comment (c ∷ content) r =
    let q = and_parts (not (c == carriage_return)) (has_no_return content) r in
    all-append is_comment_character (value_bytes c) (flat_map value_bytes content)
    (all-encode is_comment_character high-comment (shown c) (shown-comment c q.0)) (bytes-comment content q.1)

values-encodes : (content : List ℕ) → flat_map value_bytes content ≡ encode_utf8_all (map shown content)
unfolding value_bytes
values-encodes [] = refl
values-encodes (c ∷ content) = ap (λ l. encode_utf8 (shown c) ++ l) (values-encodes content)

-- neither NUL nor what is shown for it
abbrev is_kept : List ℕ → Bool
is_kept word = list_all (λ w. not (w == null) && not (w == replacement_character)) word

same-shown : (w c : ℕ) → (not (w == null) && not (w == replacement_character)) ≡ true → nat_eq w (shown c) ≡ nat_eq w c
unfolding shown
same-shown w c h = grind (arith, nat_tests)

begins-shown : (word text : List ℕ) → is_kept word ≡ true → starts_with nat_eq (map shown text) word ≡ starts_with nat_eq text word
begins-shown [] text h = refl
begins-shown (w ∷ word) [] h = refl
begins-shown (w ∷ word) (c ∷ text) h =
    let p = and_parts (not (w == null) && not (w == replacement_character)) (is_kept word) h in
    rw (same-shown w c p.0, begins-shown word text p.1) refl

occurs-shown : (word text : List ℕ) → is_kept word ≡ true → occurs word (map shown text) ≡ occurs word text
unfolding occurs
occurs-shown word [] h = refl
occurs-shown word (c ∷ text) h =
    ap (λ b. b || occurs word (map shown text)) (begins-shown word (c ∷ text) h) ∙ ap (λ b. starts_with nat_eq (c ∷ text) word || b) (occurs-shown word text h)

begins-values : (word content : List ℕ) → is_small word ≡ true → is_kept word ≡ true → starts_with nat_eq (flat_map value_bytes content) word ≡ starts_with nat_eq content word
begins-values word content small kept =
    ap (λ l. starts_with nat_eq l word) (values-encodes content) ∙ begins-encodes word (map shown content) small ∙ begins-shown word content kept

occurs-values : (w : ℕ) (word content : List ℕ) → is_small (w ∷ word) ≡ true → is_kept (w ∷ word) ≡ true → occurs (w ∷ word) (flat_map value_bytes content) ≡ occurs (w ∷ word) content
occurs-values w word content small kept =
    ap (occurs (w ∷ word)) (values-encodes content) ∙ occurs-encodes w word (map shown content) small ∙ occurs-shown (w ∷ word) content kept

pub content-comment : (content : List ℕ) → is_content content ≡ true → has_no_return content ≡ true → is_comment_text (flat_map value_bytes content) ≡ true
unfolding is_comment_text is_content
content-comment content h r =
    rw (
      bytes-comment content r,
      begins-values (codes ">") content refl refl,
      begins-values (codes "->") content refl refl,
      occurs-values 0x2D (codes "->") content refl refl,
      occurs-values 0x2D (codes "-!>") content refl refl,
    ) h

-- ---- the front of a text that can be that of a comment

begins-more : (word front rest : List ℕ) → starts_with nat_eq front word ≡ true → starts_with nat_eq (front ++ rest) word ≡ true
begins-more [] front rest h = refl
begins-more (w ∷ word) [] rest h = absurd (false≢true h)
begins-more (w ∷ word) (c ∷ front) rest h =
    let p = and_parts (nat_eq w c) (starts_with nat_eq front word) h in
    rw (p.0) (begins-more word front rest p.1)

or-parts : (a b d : Bool) → (a || b) ≡ true → (a ≡ true → d ≡ true) → (b ≡ true → d ≡ true) → d ≡ true
or-parts true b d h f g = f refl
or-parts false b d h f g = g h

occurs-more : (word front rest : List ℕ) → occurs word front ≡ true → occurs word (front ++ rest) ≡ true
unfolding occurs
occurs-more word [] rest h = absurd (false≢true h)
occurs-more word (c ∷ front) rest h =
    or-parts (starts_with nat_eq (c ∷ front) word) (occurs word front) (starts_with nat_eq (c ∷ front ++ rest) word || occurs word (front ++ rest)) h
    (λ e. rw (begins-more word (c ∷ front) rest e) refl)
    (λ e. rw (occurs-more word front rest e) (or-true (starts_with nat_eq (c ∷ front ++ rest) word)))

-- what is not so of the whole is not so of its front
front-none : (whole front : Bool) → (front ≡ true → whole ≡ true) → whole ≡ false → front ≡ false
front-none whole true more none = absurd (false≢true (sym none ∙ more refl))
front-none whole false more none = refl

front-comment : (front rest : List ℕ) → is_comment_text (front ++ rest) ≡ true → is_comment_text front ≡ true
unfolding is_comment_text is_content
front-comment front rest h =
    let p = and_parts (list_all is_comment_character (front ++ rest)) _ h in
    let a = and_parts (not (starts_with nat_eq (front ++ rest) (codes ">"))) _ p.1 in
    let b = and_parts (not (starts_with nat_eq (front ++ rest) (codes "->"))) _ a.1 in
    let d = and_parts (not (occurs (codes "-->") (front ++ rest))) (not (occurs (codes "--!>") (front ++ rest))) b.1 in
    rw (
      (all-parts is_comment_character front rest p.0).0,
      front-none _ (starts_with nat_eq front (codes ">")) (begins-more (codes ">") front rest) (not-true _ a.0),
      front-none _ (starts_with nat_eq front (codes "->")) (begins-more (codes "->") front rest) (not-true _ b.0),
      front-none _ (occurs (codes "-->") front) (occurs-more (codes "-->") front rest) (not-true _ d.0),
      front-none _ (occurs (codes "--!>") front) (occurs-more (codes "--!>") front rest) (not-true _ d.1),
    ) refl

take-comment : (n : ℕ) (text : List ℕ) → is_comment_text text ≡ true → is_comment_text (take n text) ≡ true
take-comment n text h = front-comment (take n text) (drop n text) (ap is_comment_text (take-append-drop n text) ∙ h)

-- the text of a comment that the end cuts off
pub cut-comment : (text : List ℕ) → is_comment_text text ≡ true → is_comment_text (comment_content text) ≡ true
unfolding comment_content
cut-comment text h =
    elim (ends_in text (codes "--!")) as (λ b. is_comment_text (if b then without_last 3 text else if ends_in text (codes "--") then without_last 2 text else if ends_in text (codes "-") then without_last 1 text else text) ≡ true) [
      | true ↦ take-comment (length text - 3) text h
      | false ↦ elim (ends_in text (codes "--")) as (λ b. is_comment_text (if b then without_last 2 text else if ends_in text (codes "-") then without_last 1 text else text) ≡ true) [
        | true ↦ take-comment (length text - 2) text h
        | false ↦ elim (ends_in text (codes "-")) as (λ b. is_comment_text (if b then without_last 1 text else text) ≡ true) [
          | true ↦ take-comment (length text - 1) text h
          | false ↦ h
        ]
      ]
    ]

-- ---- a keyword that the end cuts off

lower-markup : (c : ℕ) → is_markup_character (to_ascii_lowercase c) ≡ true → is_markup_character c ≡ true
unfolding is_markup_character
lower-markup c h = grind (arith, nat_tests)

lower-all : (held : List ℕ) → list_all is_markup_character (lower_case held) ≡ true → list_all is_markup_character held ≡ true
lower-all [] h = refl
lower-all (c ∷ held) h =
    let p = and_parts (is_markup_character (to_ascii_lowercase c)) (list_all is_markup_character (lower_case held)) h in
    rw (lower-markup c p.0) (lower-all held p.1)

pub keyword-comment : (foreign : Bool) (held : List ℕ) → may_begin foreign held ≡ true → is_comment_text held ≡ true
unfolding may_begin begins_keyword begins_cdata is_markup_character
keyword-comment foreign held h =
    plain-comment held
    (or-parts (begins_keyword held) (foreign && begins_cdata held) (list_all is_markup_character held) h
    (λ e. or-parts (starts_with nat_eq (codes "--") held) (starts_with nat_eq (codes "doctype") (lower_case held)) (list_all is_markup_character held) e
    (λ f. begins-passes is_markup_character held (codes "--") f refl)
    (λ f. lower-all held (begins-passes is_markup_character (lower_case held) (codes "doctype") f refl)))
    (λ e. begins-passes is_markup_character held (codes "[CDATA[") (and_parts foreign (begins_cdata held) e).1 refl))
