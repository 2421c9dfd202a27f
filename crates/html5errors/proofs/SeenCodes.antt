-- The codes of messages that name a state.
use Rattle.std.proofs.Common.{rules, ◌≡◌, ℕ, ◌<◌, length, get_or, None, false, List, ◌++◌, refl, sym, ap, subst, ◌∙◌, arith}
use lib.Utf8.{encode}
use Rattle.std.specs.Prelude.{codes, encode_utf8}
use Rattle.std.specs.Option.{option_and_then}
use Rattle.std.specs.Str.{IsUtf8}
use Rattle.std.proofs.lemmas.Option.{none-some}
use Rattle.std.proofs.lemmas.Str.{IsUtf8-past_char, char_from_byte}
use Rattle.html5ever_interface.specs.States.{state_name}
use Rattle.html5ever_interface.specs.declared.states.State.{State}
use Rattle.html5reading.specs.ErrorText.{saw, saw_end}
use Rattle.html5errors.specs.Codes.{code_in, end_code_in}
use Rattle.html5errors.specs.Messages.{after_word, code_by_place, code_named, code_of_character, code_of_message, code_of_seen, code_where_end, code_where_saw, end_code_named}
use Rattle.html5errors.proofs.NamedStates.{state_named-name}
use Rattle.html5errors.proofs.Words.{after_word-append, after_word-is, none_from_all, split-first}

-- the text after a character, if a state saw it
abbrev place : State → List ℕ
place S = codes " in state " ++ state_name S

-- ---- a character that was seen is not taken for the end

no_end-at_E : (S : State) → after_word (codes "EOF in state ") (encode_utf8 69 ++ place S) ≡ None
unfolding after_word encode
no_end-at_E S = refl

-- a text that begins so and with a character begins with an E
begins_with_E : (seen rest more : List ℕ) (c : ℕ) → seen ≡ encode_utf8 c ++ more → seen ≡ codes "EOF in state " ++ rest → c ≡ 69
begins_with_E seen rest more c first is =
    let byte : get_or seen 0 0 ≡ 69 = ap (λ l. get_or l 0 0) is in
    let some : 0 < length seen = rw is (search rules) in
    char_from_byte seen more c first (omega (arith, byte)) some ∙ byte

no_end : (S : State) (c : ℕ) → after_word (codes "EOF in state ") (encode_utf8 c ++ place S) ≡ None
no_end S c =
    none_from_all (after_word (codes "EOF in state ") (encode_utf8 c ++ place S))
    (λ rest e.
    let is = begins_with_E (encode_utf8 c ++ place S) rest (place S) c refl (after_word-is (codes "EOF in state ") (encode_utf8 c ++ place S) rest e) in
    none-some rest (sym (no_end-at_E S) ∙ ap (λ d. after_word (codes "EOF in state ") (encode_utf8 d ++ place S)) (sym is) ∙ e))

-- ---- characters

seen-utf8 : (seen : List ℕ) → IsUtf8 (codes "Saw " ++ seen) → IsUtf8 seen
unfolding encode
seen-utf8 seen utf8 =
    let S = IsUtf8-past_char (codes "Saw " ++ seen) (codes "aw " ++ seen) 83 utf8 refl in
    let a = IsUtf8-past_char (codes "aw " ++ seen) (codes "w " ++ seen) 97 S refl in
    let w = IsUtf8-past_char (codes "w " ++ seen) (codes " " ++ seen) 119 a refl in
    IsUtf8-past_char (codes " " ++ seen) seen 32 w refl

code-named : (S : State) (c : ℕ) → code_named c (state_name S) ≡ code_in S c
code-named S c = ap (option_and_then (λ state. code_in state c)) (state_named-name S)

code-by_place : (S : State) (c : ℕ) → code_by_place c (place S) ≡ code_in S c
code-by_place S c = ap (option_and_then (code_named c)) (after_word-append (codes " in state ") (state_name S)) ∙ code-named S c

code-of_character : (S : State) (c : ℕ) → IsUtf8 (encode_utf8 c ++ place S) → code_of_character (encode_utf8 c ++ place S) ≡ code_in S c
unfolding code_of_character
code-of_character S c utf8 =
    ap (option_and_then (λ split. code_by_place split.0 split.1)) (split-first (encode_utf8 c ++ place S) (place S) c utf8 refl) ∙ code-by_place S c

code-of_seen : (S : State) (c : ℕ) → IsUtf8 (encode_utf8 c ++ place S) → code_of_seen (encode_utf8 c ++ place S) ≡ code_in S c
code-of_seen S c utf8 = ap (λ found. code_where_end found (encode_utf8 c ++ place S)) (no_end S c) ∙ code-of_character S c utf8

code-of_saw : (S : State) (c : ℕ) → IsUtf8 (saw false c (state_name S)) → code_of_message (saw false c (state_name S)) ≡ code_in S c
unfolding saw
code-of_saw S c utf8 =
    ap (λ found. code_where_saw found (codes "Saw " ++ (encode_utf8 c ++ place S))) (after_word-append (codes "Saw ") (encode_utf8 c ++ place S))
    ∙ code-of_seen S c (seen-utf8 (encode_utf8 c ++ place S) utf8)

pub saw-code : (message : List ℕ) (S : State) (c : ℕ) → IsUtf8 message → message ≡ saw false c (state_name S) → code_of_message message ≡ code_in S c
saw-code message S c utf8 is = ap code_of_message is ∙ code-of_saw S c (subst IsUtf8 is utf8)

-- ---- the end

end_code-named : (S : State) → end_code_named (state_name S) ≡ end_code_in S
end_code-named S = ap (option_and_then end_code_in) (state_named-name S)

code-of_seen_end : (S : State) → code_of_seen (codes "EOF in state " ++ state_name S) ≡ end_code_in S
code-of_seen_end S =
    ap (λ found. code_where_end found (codes "EOF in state " ++ state_name S)) (after_word-append (codes "EOF in state ") (state_name S))
    ∙ end_code-named S

code-of_end : (S : State) → code_of_message (saw_end false (state_name S)) ≡ end_code_in S
unfolding saw_end
code-of_end S =
    ap (λ found. code_where_saw found (codes "Saw EOF in state " ++ state_name S)) (after_word-append (codes "Saw ") (codes "EOF in state " ++ state_name S))
    ∙ code-of_seen_end S

pub end-code : (message : List ℕ) (S : State) → message ≡ saw_end false (state_name S) → code_of_message message ≡ end_code_in S
end-code message S is = ap code_of_message is ∙ code-of_end S
