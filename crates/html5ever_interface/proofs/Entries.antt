-- What a text makes of entries, by the message of each.
use Rattle.std.proofs.Common.{◌≡◌, ℕ, ◌+◌, suc, zero, List, [], ◌∷◌, ◌++◌, None, map, length, get_or, set, string_bytes, String, refl, ap, sym, ◌∙◌, arith, Result, Ok, Err, is_ok, OnOk, OnErr, if◌then◌else◌}
use Rattle.std.proofs.lemmas.List.{set-get_or}
use Rattle.html5ever_interface.specs.Collected.{message_of, told_text, from_first_with_text, with_text}
use Rattle.html5ever_interface.specs.Token.{told_by}
use Rattle.html5ever_interface.specs.declared.interface.token.Token.{Token}
use Rattle.html5ever_interface.specs.declared.interface.token.Token.TheVariants.{DoctypeToken, TagToken, CommentToken, ProcessingInstructionToken, CharacterTokens, NullCharacterToken, EOFToken, ParseError}

-- what either outcome leaves
pub ok_from_if : {T E X : Type 0} (r : Result T E) (left done same : X) → left ≡ (if is_ok r then done else same) → OnOk r (left ≡ done)
ok_from_if (Ok value) left done same is = is
ok_from_if (Err error) left done same is = tt

pub err_from_if : {T E X : Type 0} (r : Result T E) (left done same : X) → left ≡ (if is_ok r then done else same) → OnErr r (left ≡ same)
err_from_if (Ok value) left done same is = tt
err_from_if (Err error) left done same is = is

-- what was written back as it was
pub set-same : {X : Type 0} (xs : List X) (i : ℕ) (x : X) → x ≡ get_or xs i x → set xs i x ≡ xs
set-same xs i x here = ap (λ y. set xs i y) here ∙ set-get_or xs i x

told_text-other : {Z : Type 0} (token : Token Z) → ((text : String Z) → token ≡ CharacterTokens text → ⊥) → told_text (told_by token) ≡ None
told_text-other (DoctypeToken doctype) other = refl
told_text-other (TagToken tag) other = refl
told_text-other (CommentToken text) other = refl
told_text-other (ProcessingInstructionToken text) other = refl
told_text-other (CharacterTokens text) other = elim (other text refl) [ ]
told_text-other NullCharacterToken other = refl
told_text-other EOFToken other = refl
told_text-other (ParseError message) other = refl

from_first_with_text-set : {Z : Type 0} (x : Token Z × ℕ) (xs : List (Token Z × ℕ)) (last : Token Z × ℕ) (before joined : String Z) (text : List ℕ)
    → last ≡ get_or (x ∷ xs) (length xs) last
    → last.0 ≡ CharacterTokens before
    → string_bytes joined ≡ string_bytes before ++ text
    → map message_of (set (x ∷ xs) (length xs) (CharacterTokens joined, last.1)) ≡ from_first_with_text (message_of x) (map message_of xs) text
unfolding from_first_with_text
from_first_with_text-set x [] last before joined text here is_text bytes =
    rw (ap (λ l. l.1) here, sym (ap (λ l. l.0) here) ∙ is_text, bytes) refl
from_first_with_text-set x (y ∷ ys) last before joined text here is_text bytes =
    ap (λ l. message_of x ∷ l) (from_first_with_text-set y ys last before joined text here is_text bytes)

-- a text at the end that takes up another
pub with_text-set : {Z : Type 0} (xs : List (Token Z × ℕ)) (i : ℕ) (last : Token Z × ℕ) (before joined : String Z) (text : List ℕ)
    → i + 1 ≡ length xs
    → last ≡ get_or xs i last
    → last.0 ≡ CharacterTokens before
    → string_bytes joined ≡ string_bytes before ++ text
    → map message_of (set xs i (CharacterTokens joined, last.1)) ≡ with_text (map message_of xs) text
unfolding with_text
with_text-set [] i last before joined text at_end here is_text bytes =
    let never : ⊥ = omega arith in
    elim never [ ]
with_text-set (x ∷ xs) i last before joined text at_end here is_text bytes =
    let i_is : i ≡ length xs = omega arith in
    rw i_is (from_first_with_text-set x xs last before joined text (here ∙ ap (λ n. get_or (x ∷ xs) n last) i_is) is_text bytes)

-- a text that was written back as it was
pub map-set_same : {Z : Type 0} (xs : List (Token Z × ℕ)) (i : ℕ) (last : Token Z × ℕ) (before same : String Z)
    → last ≡ get_or xs i last
    → last.0 ≡ CharacterTokens before
    → string_bytes same ≡ string_bytes before
    → map message_of (set xs i (CharacterTokens same, last.1)) ≡ map message_of xs
map-set_same [] i last before same here is_text bytes = refl
map-set_same (x ∷ xs) zero last before same here is_text bytes =
    rw (ap (λ l. l.1) here, sym (ap (λ l. l.0) here) ∙ is_text, bytes) refl
map-set_same (x ∷ xs) (suc i) last before same here is_text bytes =
    ap (λ l. message_of x ∷ l) (map-set_same xs i last before same here is_text bytes)

from_first_with_text-push : {Z : Type 0} (x : Token Z × ℕ) (xs : List (Token Z × ℕ)) (last : Token Z × ℕ) (text : String Z)
    → last ≡ get_or (x ∷ xs) (length xs) last
    → ((before : String Z) → last.0 ≡ CharacterTokens before → ⊥)
    → map message_of ((x ∷ xs) ++ (CharacterTokens text, 0) ∷ []) ≡ from_first_with_text (message_of x) (map message_of xs) (string_bytes text)
unfolding from_first_with_text
from_first_with_text-push x [] last text here other =
    rw (ap (λ l. told_text (told_by l.0)) (sym here) ∙ told_text-other last.0 other) refl
from_first_with_text-push x (y ∷ ys) last text here other =
    ap (λ l. message_of x ∷ l) (from_first_with_text-push y ys last text here other)

-- a text after an entry that is not a text
pub with_text-push : {Z : Type 0} (xs : List (Token Z × ℕ)) (i : ℕ) (last : Token Z × ℕ) (text : String Z)
    → i + 1 ≡ length xs
    → last ≡ get_or xs i last
    → ((before : String Z) → last.0 ≡ CharacterTokens before → ⊥)
    → map message_of (xs ++ (CharacterTokens text, 0) ∷ []) ≡ with_text (map message_of xs) (string_bytes text)
unfolding with_text
with_text-push [] i last text at_end here other =
    let never : ⊥ = omega arith in
    elim never [ ]
with_text-push (x ∷ xs) i last text at_end here other =
    let i_is : i ≡ length xs = omega arith in
    from_first_with_text-push x xs last text (here ∙ ap (λ n. get_or (x ∷ xs) n last) i_is) other

-- a text after no entry
pub with_text-none : {Z : Type 0} (xs : List (Token Z × ℕ)) (text : String Z)
    → length xs ≡ 0
    → map message_of (xs ++ (CharacterTokens text, 0) ∷ []) ≡ with_text (map message_of xs) (string_bytes text)
unfolding with_text
with_text-none [] text none = refl
with_text-none (x ∷ xs) text none =
    let never : ⊥ = omega arith in
    elim never [ ]
