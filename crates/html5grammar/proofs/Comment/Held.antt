-- The held text of a keyword after `<!`, when none comes.
use Rattle.std.proofs.Common.{◌≡◌, ℕ, Bool, true, false, List, [], ◌∷◌, ◌++◌, take, length, refl, ap, sym, ◌∙◌, subst, arith}
use Rattle.std.specs.Prelude.{◌==◌, ◌||◌, not, codes, nat_eq, ◌&&◌, nat_le, if◌then◌else◌}
use Rattle.std.specs.Char.{to_ascii_lowercase}
use Rattle.std.specs.Cmp.Lexicographic.{pointwise, same_text}
use Rattle.std.specs.List.{starts_with}
use Rattle.std.specs.Str.{bytes_eq}
use Rattle.std.proofs.Math.Bool.{and-false}
use Rattle.std.proofs.lemmas.Bool.{false≢true, eqb-true, and_parts, or_from, or_right, not-true, false_from_ne_true, leb-true}
use Rattle.std.proofs.lemmas.List.{append_assoc, map-id, map-append, map_push}
use lib.Utf8.{encode}
use Rattle.html5ever_interface.specs.Sink.{Message, stepped, on_line}
use Rattle.html5ever_interface.specs.Token.{Told, Reply}
use Rattle.html5ever_interface.specs.declared.states.State.TheVariants as state
use Rattle.html5reading.specs.Characters.{hyphen, exclamation_mark, greater_than, shown, value_bytes, lower_case, is_between, is_bad_character}
use Rattle.html5reading.specs.Comment.{begins_keyword, declaration_error, cdata_keyword, begins_cdata}
use Rattle.html5reading.specs.ErrorText.{error_in}
use Rattle.html5grammar.specs.Comment.{begins_with, can_open}
use Rattle.html5grammar.specs.Comment.Opening.{ExclamationMark}
use Rattle.html5reading.specs.Reading.Here.{Tells}
use Rattle.html5reading.specs.Slice.{run_while, after_while}
use Rattle.html5reading.specs.Start.{Rules}
use Rattle.html5reading.specs.Start.Open.{InDeclaration, InBogusComment}
use Rattle.html5grammar.specs.RawText.{next_is}
use Rattle.html5grammar.proofs.HeldWords.{IsPlain, plain-beginning, plain-word, no_beginning, none_with, while-parts, begins-while, decides-while, trace-settles, IsPlainCharacter, plain-between, IsHeldBy, AreHeld, held-while}
use Rattle.html5reading.specs.Machine.{step_at, brought_at, declaration_step, declaration_answer_step}
use Rattle.html5reading.proofs.Traces.{trace_brought, trace, with_messages, none_without_beginning}

-- whether a text is a prefix of a keyword, by the sink's answer
unfoldable pub begins_declaration : Bool → List ℕ → Bool
begins_declaration foreign held = begins_keyword held || (foreign && begins_cdata held)

-- the longest prefix of a content that is one, and the text after it
abbrev pub held_of : Bool → List ℕ → List ℕ
held_of foreign content = run_while (begins_declaration foreign) [] content

abbrev pub after_held_of : Bool → List ℕ → List ℕ
after_held_of foreign content = after_while (begins_declaration foreign) [] content

-- ---- held characters are plain

plain-dash : (c : ℕ) → (c == hyphen) ≡ true → IsPlainCharacter c
unfolding value_bytes shown encode is_bad_character
plain-dash c h = subst IsPlainCharacter (sym (eqb-true c hyphen h)) (refl, refl, refl)

keyword-plain : (held : List ℕ) → begins_keyword held ≡ true → IsPlain held
unfolding begins_keyword
keyword-plain held h = by (starts_with nat_eq (codes "--") held) refl h
  where
    by : (t : Bool) → starts_with nat_eq (codes "--") held ≡ t → (t || starts_with nat_eq (codes "doctype") (lower_case held)) ≡ true → IsPlain held
    by true e g =
        plain-beginning (λ c. c) (λ c. c == hyphen) plain-dash held (codes "--") (length held) refl (ap (λ l. pointwise nat_eq l (take (length held) (codes "--"))) (map-id held) ∙ e)
    by false e g = plain-word held (codes "doctype") refl g

plain-capital : (c : ℕ) → is_between 65 91 c ≡ true → IsPlainCharacter c
plain-capital c h =
    let p = and_parts (nat_le 65 c) (nat_le c 91) h in
    plain-between c (leb-true 65 c p.0) (omega (arith, leb-true c 91 p.1))

pub cdata-plain : (held : List ℕ) → begins_cdata held ≡ true → IsPlain held
unfolding begins_cdata
cdata-plain held h =
    plain-beginning (λ c. c) (is_between 65 91) plain-capital held cdata_keyword (length held) refl (ap (λ l. pointwise nat_eq l (take (length held) cdata_keyword)) (map-id held) ∙ h)

held-plain : (foreign : Bool) (held : List ℕ) → begins_declaration foreign held ≡ true → IsPlain held
unfolding begins_declaration
held-plain foreign held h = by (begins_keyword held) refl h
  where
    by : (t : Bool) → begins_keyword held ≡ t → (t || (foreign && begins_cdata held)) ≡ true → IsPlain held
    by true e g = keyword-plain held e
    by false e g = cdata-plain held (and_parts foreign (begins_cdata held) g).1

-- ---- which characters are held

-- no keyword comes where a character is met by which none begins
no_keyword : (text : List ℕ) → begins_keyword text ≡ false → (bytes_eq text (codes "--") ≡ false) × (bytes_eq (lower_case text) (codes "doctype") ≡ false)
unfolding begins_keyword
no_keyword text h = (
  false_from_ne_true (bytes_eq text (codes "--")) (λ e. false≢true (sym h ∙ ap begins_keyword (same_text text (codes "--") (sym e)))),
  false_from_ne_true (bytes_eq (lower_case text) (codes "doctype")) (λ e. false≢true (sym h
      ∙ or_right (starts_with nat_eq (codes "--") text) (starts_with nat_eq (codes "doctype") (lower_case text)) (ap (starts_with nat_eq (codes "doctype")) (same_text (lower_case text) (codes "doctype") (sym e))))),
)

pub both-false : (a b : Bool) → (a || b) ≡ false → (a ≡ false) × (b ≡ false)
both-false true b h = absurd (false≢true (sym h))
both-false false b h = (refl, h)

no_cdata : (foreign : Bool) (text : List ℕ) → (foreign && begins_cdata text) ≡ false → (foreign && bytes_eq text cdata_keyword) ≡ false
no_cdata true text h = none_without_beginning text h
no_cdata false text h = refl

-- nor within a content that begins with none
no_word : (foreign : Bool) (content before : List ℕ) (c : ℕ) (rest : List ℕ) → can_open foreign ExclamationMark content ≡ true → content ≡ before ++ c ∷ rest
    → (bytes_eq (before ++ c ∷ []) (codes "--") ≡ false) × (bytes_eq (lower_case (before ++ c ∷ [])) (codes "doctype") ≡ false)
    × ((foreign && bytes_eq (before ++ c ∷ []) cdata_keyword) ≡ false)
no_word foreign content before c rest h split =
    let p = and_parts (not (begins_with (codes "--") content)) (not (begins_with (codes "doctype") (lower_case content)) && not (foreign && begins_with cdata_keyword content)) h in
    let q = and_parts (not (begins_with (codes "doctype") (lower_case content))) (not (foreign && begins_with cdata_keyword content)) p.1 in
    let past : content ≡ (before ++ c ∷ []) ++ rest = split ∙ sym (append_assoc before (c ∷ []) rest) in
    let none : (f : Bool) → (f && begins_with cdata_keyword content) ≡ false → (f && bytes_eq (before ++ c ∷ []) cdata_keyword) ≡ false =
    λ f. elim f as (λ b. (b && begins_with cdata_keyword content) ≡ false → (b && bytes_eq (before ++ c ∷ []) cdata_keyword) ≡ false) [
      | true ↦ λ e. no_beginning cdata_keyword content (before ++ c ∷ []) rest e past
      | false ↦ λ e. refl
    ] in (
      no_beginning (codes "--") content (before ++ c ∷ []) rest (not-true (begins_with (codes "--") content) p.0) past,
      no_beginning (codes "doctype") (lower_case content) (lower_case (before ++ c ∷ [])) (lower_case rest) (not-true (begins_with (codes "doctype") (lower_case content)) q.0)
          (ap lower_case past ∙ map-append to_ascii_lowercase (before ++ c ∷ []) rest),
      none foreign (not-true (foreign && begins_with cdata_keyword content) q.1),
    )

-- a character that goes on with a keyword is held
held-one : (rules : Rules) (foreign : Bool) (content held : List ℕ) (c : ℕ) (later : List ℕ) → can_open foreign ExclamationMark content ≡ true
    → content ≡ held ++ c ∷ later → begins_declaration foreign (held ++ c ∷ []) ≡ true → IsHeldBy rules InDeclaration foreign held c
unfolding brought_at declaration_step declaration_answer_step begins_declaration
held-one rules foreign content held c later h parts begins =
    let past : List ℕ = held ++ c ∷ [] in
    let no = no_word foreign content held c later h parts in
    rw (no.0, no.1) (elim (begins_keyword past) as (λ b. (b || (foreign && begins_cdata past)) ≡ true
    → (if b then record { settled = []; here = Tells [] (InDeclaration past) } else declaration_answer_step rules.exact foreign held c) ≡ record { settled = []; here = Tells [] (InDeclaration past) }) [
      | true ↦ λ e. refl
      | false ↦ λ e. rw (no.2, e) refl
    ] begins)

pub are_held : (rules : Rules) (foreign : Bool) (content : List ℕ) → can_open foreign ExclamationMark content ≡ true
    → AreHeld rules InDeclaration foreign [] (held_of foreign content)
are_held rules foreign content h =
    held-while rules InDeclaration foreign (begins_declaration foreign) content (λ held c later parts e. held-one rules foreign content held c later h parts e) [] content refl

-- no keyword has a `>`
no_greater_than : (foreign : Bool) (text : List ℕ) → begins_declaration foreign (text ++ greater_than ∷ []) ≡ false
unfolding begins_declaration begins_keyword begins_cdata
no_greater_than foreign text =
    or_from (begins_keyword (text ++ greater_than ∷ [])) (foreign && begins_cdata (text ++ greater_than ∷ []))
    (or_from (starts_with nat_eq (codes "--") (text ++ greater_than ∷ [])) (starts_with nat_eq (codes "doctype") (lower_case (text ++ greater_than ∷ [])))
    (none_with text (codes "--") greater_than (length (text ++ greater_than ∷ [])) refl)
    (ap (starts_with nat_eq (codes "doctype")) (map_push to_ascii_lowercase text greater_than)
    ∙ none_with (lower_case text) (codes "doctype") greater_than (length (lower_case text ++ greater_than ∷ [])) refl))
    (ap (λ b. foreign && b) (none_with text cdata_keyword greater_than (length (text ++ greater_than ∷ [])) refl) ∙ and-false foreign)

pub decides-held : (foreign : Bool) (content : List ℕ) → next_is (λ d. not (begins_declaration foreign (held_of foreign content ++ d ∷ []))) (after_held_of foreign content ++ greater_than ∷ []) ≡ true
decides-held foreign content = decides-while (begins_declaration foreign) (no_greater_than foreign) [] content

pub held_of-plain : (foreign : Bool) (content : List ℕ) → IsPlain (held_of foreign content)
unfolding begins_declaration begins_keyword
held_of-plain foreign content = held-plain foreign (held_of foreign content) (begins-while (begins_declaration foreign) [] content refl)

pub held-parts : (foreign : Bool) (content : List ℕ) → held_of foreign content ++ after_held_of foreign content ≡ content
held-parts foreign content = while-parts (begins_declaration foreign) [] content

-- ---- what is sent where it is decided

module _ {S H : Type 0} (step : S → Told → ℕ → S) (reply : S → Told → ℕ → Reply H) (foreign : S → Bool) (rules : Rules) where
  abbrev pub error_on : ℕ → List Message
  error_on line = on_line line (error_in rules.exact state.MarkupDeclarationOpen exclamation_mark ∷ [])

  step-decides : (answer : Bool) (held : List ℕ) (d : ℕ) → begins_declaration answer (held ++ d ∷ []) ≡ false
      → brought_at rules answer (InDeclaration held) d ≡ record { settled = declaration_error rules.exact held; here = step_at rules.exact (InBogusComment held) d }
  unfolding brought_at declaration_step declaration_answer_step step_at begins_declaration
  step-decides answer held d none =
      let parts = both-false (begins_keyword (held ++ d ∷ [])) (answer && begins_cdata (held ++ d ∷ [])) none in
      let no = no_keyword (held ++ d ∷ []) parts.0 in
      rw (no.0, no.1, parts.0, no_cdata answer (held ++ d ∷ []) parts.1, parts.1) refl

  pub trace-decides : (s : S) (line : ℕ) (last held text : List ℕ) → next_is (λ d. not (begins_declaration (foreign s) (held ++ d ∷ []))) text ≡ true
      → trace step reply foreign rules s line last (InDeclaration held) text
      ≡ with_messages (error_on line) (trace step reply foreign rules (stepped step s (error_on line)) line last (InBogusComment held) text)
  unfolding trace trace_brought brought_at stepped
  trace-decides s line last held [] h = absurd (false≢true h)
  trace-decides s line last held (d ∷ text) h =
      trace-settles step reply foreign rules s line last (InDeclaration held) (InBogusComment held) (declaration_error rules.exact held) d text
      (step-decides (foreign s) held d (not-true (begins_declaration (foreign s) (held ++ d ∷ [])) h)) (λ other. refl)
