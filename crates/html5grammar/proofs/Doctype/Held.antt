-- The held text of `doctype`, `public` and `system`, also when no keyword comes.
use Rattle.std.proofs.Common.{◌≡◌, ℕ, Bool, true, false, List, [], ◌∷◌, ◌++◌, length, refl, ap, sym, ◌∙◌}
use Rattle.std.specs.Prelude.{◌==◌, ◌||◌, not, codes, nat_eq}
use Rattle.std.specs.Char.{to_ascii_lowercase}
use Rattle.std.specs.Cmp.Lexicographic.{same_text}
use Rattle.std.specs.List.{list_all, starts_with}
use Rattle.std.specs.Str.{bytes_eq}
use Rattle.std.proofs.lemmas.Bool.{false≢true, and_parts, or_from, or_left, or_right, not-true, false_from_ne_true}
use Rattle.std.proofs.lemmas.List.{append_assoc, append-nil, map-append, map_push}
use Rattle.html5ever_interface.specs.Token.{Told, DoctypeOf, Reply, empty_doctype}
use Rattle.html5ever_interface.specs.Sink.{Message, stepped, on_line}
use Rattle.html5ever_interface.specs.declared.states.DoctypeIdKind.{DoctypeIdKind}
use Rattle.html5ever_interface.specs.declared.states.DoctypeIdKind.TheVariants.{Public, System}
use Rattle.html5reading.specs.Characters.{tab, line_feed, form_feed, space, greater_than, is_white_space, lower_case}
use Rattle.html5reading.specs.Comment.{begins_keyword}
use Rattle.html5reading.specs.Doctype.{with_quirks, keyword_of, is_keyword, begins_doctype_keyword, keyword_error}
use Rattle.html5grammar.specs.Comment.{begins_with}
use Rattle.html5grammar.specs.Doctype.{begins_no_keyword, held_of, after_held_of}
use Rattle.html5grammar.specs.Spelled.{spell_silent}
use Rattle.html5reading.specs.Reading.Here.{Tells}
use Rattle.html5reading.specs.Slice.{run_while, tokens_of_late}
use Rattle.html5reading.specs.Start.{Open, Rules}
use Rattle.html5reading.specs.Start.DoctypePlace.{AfterWord, AfterName, AfterKeyword, Skipped}
use Rattle.html5reading.specs.Start.Open.{InDeclaration, InDoctype, InDoctypeKeyword}
use Rattle.html5grammar.specs.RawText.{next_is}
use Rattle.html5grammar.proofs.HeldWords.{IsPlain, plain-word, begins-word, no_whole, no_beginning, none_with, begins-while, decides-while, IsHeld, leads-while, leads-word, trace-settles}
use Rattle.html5grammar.proofs.Leading.{Leads}
use Rattle.html5reading.specs.Machine.{step_at, brought_at, declaration_step, doctype_keyword_step, doctype_step, space_step, keyword_or_end_step}
use Rattle.html5grammar.proofs.Doctype.Steps.{IsNeither}
use Rattle.html5reading.proofs.Letters.{is_not}
use Rattle.html5reading.proofs.Traces.{trace, with_messages}

-- ---- `doctype`

no_dashes : (past rest : List ℕ) → lower_case (past ++ rest) ≡ codes "doctype" → bytes_eq past (codes "--") ≡ false
no_dashes past rest e = false_from_ne_true (bytes_eq past (codes "--")) (λ h.
    let f : lower_case (codes "--" ++ rest) ≡ codes "doctype" = ap (λ l. lower_case (l ++ rest)) (sym (same_text past (codes "--") (sym h))) ∙ e in
    false≢true (sym (ap (begins_with (codes "--")) f)))

-- a prefix of a word, of which more follows
parts_of : (past : List ℕ) (c : ℕ) (rest word : List ℕ) → lower_case (past ++ c ∷ rest) ≡ word → lower_case past ++ (to_ascii_lowercase c ∷ lower_case rest) ≡ word
parts_of past c rest word e = sym (map-append to_ascii_lowercase past (c ∷ rest)) ∙ e

not_yet : (past : List ℕ) (c : ℕ) (rest word : List ℕ) → lower_case (past ++ c ∷ rest) ≡ word → bytes_eq (lower_case past) word ≡ false
not_yet past c rest word e =
    ap (bytes_eq (lower_case past)) (sym (parts_of past c rest word e)) ∙ no_whole (lower_case past) (to_ascii_lowercase c) (lower_case rest)

begun : (past : List ℕ) (c : ℕ) (rest word : List ℕ) → lower_case (past ++ c ∷ rest) ≡ word → begins_with (lower_case past) word ≡ true
begun past c rest word e =
    ap (begins_with (lower_case past)) (sym (parts_of past c rest word e)) ∙ begins-word (lower_case past) (to_ascii_lowercase c ∷ lower_case rest)

-- the word `doctype` tells nothing, and leads into a doctype
pub leads-doctype_word : (rules : Rules) (word : List ℕ) → bytes_eq (lower_case word) (codes "doctype") ≡ true
    → Leads rules (InDeclaration []) (spell_silent word) (InDoctype AfterWord empty_doctype)
unfolding brought_at declaration_step begins_keyword
leads-doctype_word rules [] h = absurd (false≢true h)
leads-doctype_word rules (c ∷ word) h =
    leads-word rules InDeclaration (codes "doctype") (InDoctype AfterWord empty_doctype)
    (λ held d e rest past foreign.
    rw (
      no_dashes (held ++ d ∷ []) (e ∷ rest) past,
      not_yet (held ++ d ∷ []) e rest (codes "doctype") past,
      or_right (starts_with nat_eq (codes "--") (held ++ d ∷ [])) _ (begun (held ++ d ∷ []) e rest (codes "doctype") past),
    ) refl)
    (λ held d past foreign.
    rw (no_dashes (held ++ d ∷ []) [] (ap lower_case (append-nil (held ++ d ∷ [])) ∙ past), past) refl)
    [] c word (same_text (lower_case (c ∷ word)) (codes "doctype") (sym h))

-- ---- `public` and `system`

-- a prefix of one keyword does not begin the other
no_other : (kind other : DoctypeIdKind) (past rest : List ℕ) → begins_with (keyword_of other) (keyword_of kind) ≡ false
    → lower_case (past ++ rest) ≡ keyword_of kind → is_keyword other past ≡ false
no_other kind other past rest apart e =
    no_beginning (keyword_of other) (keyword_of kind) (lower_case past) (lower_case rest) apart (sym e ∙ map-append to_ascii_lowercase past rest)

module _ (rules : Rules) (d : DoctypeOf) where
  abbrev undecided : List ℕ → Open
  undecided held = InDoctypeKeyword held d

  -- a proper prefix of a keyword is held
  holds : (kind : DoctypeIdKind) (held : List ℕ) (c b : ℕ) (rest : List ℕ) → lower_case ((held ++ c ∷ []) ++ b ∷ rest) ≡ keyword_of kind → IsHeld rules undecided held c
  unfolding brought_at doctype_keyword_step begins_doctype_keyword
  holds Public held c b rest e foreign =
      let past : List ℕ = held ++ c ∷ [] in
      rw (
        not_yet past b rest (keyword_of Public) e,
        no_other Public System past (b ∷ rest) refl e,
        or_left (starts_with nat_eq (keyword_of Public) (lower_case past)) (starts_with nat_eq (keyword_of System) (lower_case past)) (begun past b rest (keyword_of Public) e),
      ) refl
  holds System held c b rest e foreign =
      let past : List ℕ = held ++ c ∷ [] in
      rw (
        not_yet past b rest (keyword_of System) e,
        no_other System Public past (b ∷ rest) refl e,
        or_right (starts_with nat_eq (keyword_of Public) (lower_case past)) (starts_with nat_eq (keyword_of System) (lower_case past)) (begun past b rest (keyword_of System) e),
      ) refl

  ends : (kind : DoctypeIdKind) (held : List ℕ) (c : ℕ) → lower_case (held ++ c ∷ []) ≡ keyword_of kind → (foreign : Bool)
      → brought_at rules foreign (undecided held) c ≡ record { settled = []; here = Tells [] (InDoctype (AfterKeyword kind) d) }
  unfolding brought_at doctype_keyword_step
  ends Public held c e foreign = rw e refl
  ends System held c e foreign = rw e refl

-- what begins a keyword is neither white space nor `>`
begins-neither : (c : ℕ) → begins_doctype_keyword (c ∷ []) ≡ true → IsNeither c
unfolding begins_doctype_keyword is_white_space
begins-neither c h =
    let begins : ℕ → Bool = λ x. begins_doctype_keyword (x ∷ []) in
    record {
      no_white = rw (is_not begins c tab refl h, is_not begins c line_feed refl h, is_not begins c form_feed refl h, is_not begins c space refl h) refl;
      no_end = is_not begins c greater_than refl h;
    }

module _ (rules : Rules) (d : DoctypeOf) where
  -- the first character of what may be a keyword
  pub first-held : (c : ℕ) → begins_doctype_keyword (c ∷ []) ≡ true → (foreign : Bool)
      → brought_at rules foreign (InDoctype AfterName d) c ≡ record { settled = []; here = Tells [] (InDoctypeKeyword (c ∷ []) d) }
  unfolding brought_at step_at doctype_step space_step keyword_or_end_step
  first-held c h foreign =
      let letter : IsNeither c = begins-neither c h in
      rw (letter.no_white, letter.no_end, h) refl

  first-begins : (kind : DoctypeIdKind) (c b : ℕ) (rest : List ℕ) → lower_case (c ∷ b ∷ rest) ≡ keyword_of kind → begins_doctype_keyword (c ∷ []) ≡ true
  unfolding begins_doctype_keyword
  first-begins Public c b rest e =
      or_left (starts_with nat_eq (keyword_of Public) (lower_case (c ∷ []))) (starts_with nat_eq (keyword_of System) (lower_case (c ∷ []))) (begun (c ∷ []) b rest (keyword_of Public) e)
  first-begins System c b rest e =
      or_right (starts_with nat_eq (keyword_of Public) (lower_case (c ∷ []))) (starts_with nat_eq (keyword_of System) (lower_case (c ∷ []))) (begun (c ∷ []) b rest (keyword_of System) e)

  some_more : (kind : DoctypeIdKind) (c : ℕ) → lower_case (c ∷ []) ≡ keyword_of kind → ⊥
  some_more Public c e = false≢true (ap (λ l. nat_eq (length l) 6) e)
  some_more System c e = false≢true (ap (λ l. nat_eq (length l) 6) e)

  none_of : (kind : DoctypeIdKind) → [] ≡ keyword_of kind → ⊥
  none_of Public e = false≢true (ap (λ l. nat_eq (length l) 6) e)
  none_of System e = false≢true (ap (λ l. nat_eq (length l) 6) e)

  leads-letters : (kind : DoctypeIdKind) (keyword : List ℕ) → lower_case keyword ≡ keyword_of kind
      → Leads rules (InDoctype AfterName d) (spell_silent keyword) (InDoctype (AfterKeyword kind) d)
  unfolding Leads
  leads-letters kind [] e = absurd (none_of kind e)
  leads-letters kind (c ∷ []) e = absurd (some_more kind c e)
  leads-letters kind (c ∷ b ∷ rest) e = (
    InDoctypeKeyword (c ∷ []) d,
    first-held c (first-begins kind c b rest e),
    leads-word rules (undecided rules d) (keyword_of kind) (InDoctype (AfterKeyword kind) d) (holds rules d kind) (ends rules d kind) (c ∷ []) b rest e,
  )

  pub leads-keyword : (kind : DoctypeIdKind) (keyword : List ℕ) → is_keyword kind keyword ≡ true
      → Leads rules (InDoctype AfterName d) (spell_silent keyword) (InDoctype (AfterKeyword kind) d)
  leads-keyword kind keyword h = leads-letters kind keyword (same_text (lower_case keyword) (keyword_of kind) (sym h))

-- ---- when no keyword comes

-- no keyword comes within a rest that begins with none
no_keyword : (kind : DoctypeIdKind) (rest held : List ℕ) (c : ℕ) (later : List ℕ) → begins_with (keyword_of kind) (lower_case rest) ≡ false
    → rest ≡ held ++ c ∷ later → is_keyword kind (held ++ c ∷ []) ≡ false
no_keyword kind rest held c later none split =
    let past : lower_case rest ≡ lower_case (held ++ c ∷ []) ++ lower_case later =
    ap lower_case (split ∙ sym (append_assoc held (c ∷ []) later)) ∙ map-append to_ascii_lowercase (held ++ c ∷ []) later in
    no_beginning (keyword_of kind) (lower_case rest) (lower_case (held ++ c ∷ [])) (lower_case later) none past

-- nor where a character is met by which none begins
none_begins : (text : List ℕ) → begins_doctype_keyword text ≡ false → (is_keyword Public text ≡ false) × (is_keyword System text ≡ false)
unfolding begins_doctype_keyword
none_begins text h = (
  false_from_ne_true (is_keyword Public text) (λ e. false≢true (sym h
      ∙ or_left (starts_with nat_eq (keyword_of Public) (lower_case text)) (starts_with nat_eq (keyword_of System) (lower_case text))
      (ap (starts_with nat_eq (keyword_of Public)) (same_text (lower_case text) (keyword_of Public) (sym e))))),
  false_from_ne_true (is_keyword System text) (λ e. false≢true (sym h
      ∙ or_right (starts_with nat_eq (keyword_of Public) (lower_case text)) (starts_with nat_eq (keyword_of System) (lower_case text))
      (ap (starts_with nat_eq (keyword_of System)) (same_text (lower_case text) (keyword_of System) (sym e))))),
)

pub held-plain : (held : List ℕ) → begins_doctype_keyword held ≡ true → IsPlain held
unfolding begins_doctype_keyword
held-plain held h = by (starts_with nat_eq (keyword_of Public) (lower_case held)) refl h
  where
    by : (t : Bool) → starts_with nat_eq (keyword_of Public) (lower_case held) ≡ t → (t || starts_with nat_eq (keyword_of System) (lower_case held)) ≡ true → IsPlain held
    by true e g = plain-word held (keyword_of Public) refl e
    by false e g = plain-word held (keyword_of System) refl g

pub held_of-plain : (rest : List ℕ) → IsPlain (held_of rest)
unfolding begins_doctype_keyword
held_of-plain rest = held-plain (held_of rest) (begins-while begins_doctype_keyword [] rest refl)

no_greater_than : (text : List ℕ) → begins_doctype_keyword (text ++ greater_than ∷ []) ≡ false
unfolding begins_doctype_keyword
no_greater_than text =
    or_from (starts_with nat_eq (keyword_of Public) (lower_case (text ++ greater_than ∷ []))) (starts_with nat_eq (keyword_of System) (lower_case (text ++ greater_than ∷ [])))
    (none (keyword_of Public) refl) (none (keyword_of System) refl)
  where
    none : (word : List ℕ) → list_all (λ y. not (greater_than == y)) word ≡ true → begins_with (lower_case (text ++ greater_than ∷ [])) word ≡ false
    none word h =
        ap (λ l. begins_with l word) (map_push to_ascii_lowercase text greater_than)
        ∙ none_with (lower_case text) word greater_than (length (lower_case text ++ greater_than ∷ [])) h

pub decides-held : (rest : List ℕ) → next_is (λ c. not (begins_doctype_keyword (held_of rest ++ c ∷ []))) (after_held_of rest ++ greater_than ∷ []) ≡ true
decides-held rest = decides-while begins_doctype_keyword no_greater_than [] rest

module _ (rules : Rules) (d : DoctypeOf) where
  -- a rest that begins as a keyword does is held as long as it does
  pub leads-held : (c : ℕ) (rest : List ℕ) → begins_no_keyword (c ∷ rest) ≡ true → begins_doctype_keyword (c ∷ []) ≡ true
      → Leads rules (InDoctype AfterName d) (spell_silent (held_of (c ∷ rest))) (InDoctypeKeyword (held_of (c ∷ rest)) d)
  unfolding Leads run_while brought_at doctype_keyword_step
  leads-held c rest none begins =
      let p = and_parts (not (begins_with (keyword_of Public) (lower_case (c ∷ rest)))) (not (begins_with (keyword_of System) (lower_case (c ∷ rest)))) none in
      rw begins (
        InDoctypeKeyword (c ∷ []) d,
        first-held rules d c begins,
        leads-while rules (undecided rules d) begins_doctype_keyword (c ∷ rest)
            (λ held b later split e foreign.
            rw (
              no_keyword Public (c ∷ rest) held b later (not-true (begins_with (keyword_of Public) (lower_case (c ∷ rest))) p.0) split,
              no_keyword System (c ∷ rest) held b later (not-true (begins_with (keyword_of System) (lower_case (c ∷ rest))) p.1) split,
              e,
            ) refl)
            (c ∷ []) rest refl,
      )

  step-decides : (held : List ℕ) (c : ℕ) → begins_doctype_keyword (held ++ c ∷ []) ≡ false → (foreign : Bool)
      → brought_at rules foreign (InDoctypeKeyword held d) c ≡ record { settled = keyword_error rules.exact held; here = step_at rules.exact (InDoctype Skipped (with_quirks d)) c }
  unfolding brought_at doctype_keyword_step step_at doctype_step
  step-decides held c none foreign =
      let no = none_begins (held ++ c ∷ []) none in
      rw (no.0, no.1, none) refl

  module _ {S H : Type 0} (step : S → Told → ℕ → S) (reply : S → Told → ℕ → Reply H) (foreign : S → Bool) where
    -- the error of the first character that is held
    abbrev pub first_error : ℕ → List ℕ → List Message
    first_error line held = on_line line (tokens_of_late (keyword_error rules.exact held))

    pub trace-decides : (s : S) (line : ℕ) (last held text : List ℕ) → next_is (λ c. not (begins_doctype_keyword (held ++ c ∷ []))) text ≡ true
        → trace step reply foreign rules s line last (InDoctypeKeyword held d) text
        ≡ with_messages (first_error line held) (trace step reply foreign rules (stepped step s (first_error line held)) line last (InDoctype Skipped (with_quirks d)) text)
    unfolding brought_at
    trace-decides s line last held [] h = absurd (false≢true h)
    trace-decides s line last held (c ∷ text) h =
        trace-settles step reply foreign rules s line last (InDoctypeKeyword held d) (InDoctype Skipped (with_quirks d)) (keyword_error rules.exact held) c text
        (step-decides held c (not-true (begins_doctype_keyword (held ++ c ∷ [])) h) (foreign s)) (λ other. refl)
