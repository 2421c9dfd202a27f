-- A comment's text in bytes ends as its characters do.
use Rattle.std.proofs.Common.{◌≡◌, ℕ, ◌+◌, Bool, true, false, List, [], ◌∷◌, ◌++◌, length, length-append, refl, ap, sym, ◌∙◌, arith}
use Rattle.std.specs.Prelude.{codes, flat_map, nat_eq}
use Rattle.std.specs.Cmp.Lexicographic.{same_text}
use Rattle.std.proofs.lemmas.Bool.{ne_eqb, eqb-true}
use Rattle.std.proofs.lemmas.List.{append_assoc, append_cancel_right, flat_map_more, nil_from_length}
use lib.Utf8.{encode}
use Rattle.html5ever_interface.specs.declared.states.State.{State}
use Rattle.html5ever_interface.specs.declared.states.State.TheVariants as state
use Rattle.html5reading.specs.Characters.{exclamation_mark, hyphen, less_than, shown, value_bytes}
use Rattle.html5reading.proofs.TextEnds.{ends_in-front, LastByte, value_bytes-last, Carries, carries-none, carries-push}
use Rattle.html5reading.specs.Comment.{ends_in, without_last, is_lone_dash, comment_state, ends_in_mark, mark_error, comment_errors, ends_comment}

abbrev pub bytes_of : List ℕ → List ℕ
bytes_of text = flat_map value_bytes text

pub bytes-push : (text : List ℕ) (c : ℕ) → bytes_of (text ++ c ∷ []) ≡ bytes_of text ++ value_bytes c
bytes-push text c = sym (flat_map_more value_bytes [] text c)

pub bytes-append : (text later : List ℕ) → bytes_of (text ++ later) ≡ bytes_of text ++ bytes_of later
bytes-append [] later = refl
bytes-append (c ∷ text) later =
    ap (λ l. value_bytes c ++ l) (bytes-append text later) ∙ sym (append_assoc (value_bytes c) (bytes_of text) (bytes_of later))

pub dash_carries : Carries value_bytes (codes "-")
unfolding value_bytes shown encode
dash_carries = carries-push value_bytes value_bytes-last [] hyphen (omega arith) refl (carries-none value_bytes value_bytes-last)

pub dashes_carry : Carries value_bytes (codes "--")
unfolding value_bytes shown encode
dashes_carry = carries-push value_bytes value_bytes-last (codes "-") hyphen (omega arith) refl dash_carries

pub bang_carries : Carries value_bytes (codes "--!")
unfolding value_bytes shown encode
bang_carries = carries-push value_bytes value_bytes-last (codes "--") exclamation_mark (omega arith) refl dashes_carry

mark_carries : Carries value_bytes (codes "<!--")
unfolding value_bytes shown encode
mark_carries =
    carries-push value_bytes value_bytes-last (codes "<!-") hyphen (omega arith) refl
    (carries-push value_bytes value_bytes-last (codes "<!") hyphen (omega arith) refl
    (carries-push value_bytes value_bytes-last (codes "<") exclamation_mark (omega arith) refl
    (carries-push value_bytes value_bytes-last [] less_than (omega arith) refl (carries-none value_bytes value_bytes-last))))

-- ---- so what a character tells by the bytes before it is what it tells by the characters

length-bytes : (text : List ℕ) → nat_eq (length (bytes_of text)) 0 ≡ nat_eq (length text) 0
length-bytes [] = refl
length-bytes (c ∷ text) =
    let last : LastByte c (value_bytes c) = value_bytes-last c in
    let some : length (bytes_of (c ∷ text)) ≡ length last.front + 1 + length (bytes_of text) =
    length-append (value_bytes c) (bytes_of text) ∙ ap (λ l. length l + length (bytes_of text)) last.parts ∙ ap (λ n. n + length (bytes_of text)) (length-append last.front (last.last ∷ [])) in
    let more : length (c ∷ text) ≡ 1 + length text = omega arith in
    ne_eqb (length (bytes_of (c ∷ text))) 0 (λ e. omega (arith, e, some)) ∙ sym (ne_eqb (length (c ∷ text)) 0 (λ e. omega (arith, e, more)))

same_test : (a b : Bool) → (a ≡ true → b ≡ true) → (b ≡ true → a ≡ true) → a ≡ b
same_test true b there back = sym (there refl)
same_test false true there back = back refl
same_test false false there back = refl

-- a text is one dash where its bytes are
lone_dash-bytes : (text : List ℕ) → is_lone_dash (bytes_of text) ≡ is_lone_dash text
unfolding value_bytes shown encode
lone_dash-bytes text = same_test (is_lone_dash (bytes_of text)) (is_lone_dash text) there back
  where
    there : is_lone_dash (bytes_of text) ≡ true → is_lone_dash text ≡ true
    there h =
        let e : bytes_of text ≡ codes "-" = same_text (bytes_of text) (codes "-") (sym h) in
        let front : List ℕ = without_last 1 text in
        let parts : text ≡ front ++ codes "-" = ends_in-front text (codes "-") (sym (dash_carries text) ∙ ap (λ l. ends_in l (codes "-")) e) in
        let none : bytes_of front ≡ [] =
        append_cancel_right (bytes_of front) [] (codes "-") (sym (bytes-append front (codes "-")) ∙ ap bytes_of (sym parts) ∙ e) in
        let empty : front ≡ [] = nil_from_length front (eqb-true (length front) 0 (sym (length-bytes front) ∙ ap (λ l. nat_eq (length l) 0) none)) in
        ap is_lone_dash (parts ∙ ap (λ l. l ++ codes "-") empty)

    back : is_lone_dash text ≡ true → is_lone_dash (bytes_of text) ≡ true
    back h = ap (λ l. is_lone_dash (bytes_of l)) (same_text text (codes "-") (sym h))

ends_in_mark-bytes : (text : List ℕ) → ends_in_mark (bytes_of text) ≡ ends_in_mark text
unfolding ends_in_mark
ends_in_mark-bytes text = mark_carries text

comment_state-bytes : (after_dashes : State) (text : List ℕ) → comment_state after_dashes (bytes_of text) ≡ comment_state after_dashes text
unfolding comment_state
comment_state-bytes after_dashes text = rw (length-bytes text, lone_dash-bytes text, dash_carries text, dashes_carry text, bang_carries text) refl

pub comment_errors-bytes : (exact : Bool) (text : List ℕ) (c : ℕ) → comment_errors exact (bytes_of text) c ≡ comment_errors exact text c
unfolding comment_errors mark_error
comment_errors-bytes exact text c = rw (ends_in_mark-bytes text, comment_state-bytes state.Comment text) refl

pub ends_comment-bytes : (text : List ℕ) → ends_comment (bytes_of text) ≡ ends_comment text
unfolding ends_comment
ends_comment-bytes text = rw (length-bytes text, lone_dash-bytes text, dashes_carry text, bang_carries text) refl
