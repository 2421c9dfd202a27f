-- Which characters begin a keyword, by bytes.
use Rattle.std.proofs.Common.{◌≡◌, ◌≢◌, ◌⊎◌, inl, inr, ℕ, ◌≤◌, Bool, true, false, List, [], ◌∷◌, ◌++◌, ◌<◌, refl, ap, sym, ◌∙◌, arith, rules, None, get_or}
use Rattle.std.specs.Prelude.{◌↔◌, ◌&&◌, Some, All, IsTrue, nat_eq, nat_lt, codes, length, if◌then◌else◌}
use Rattle.std.specs.Cmp.Lexicographic.{pointwise, same_text, other_text}
use Rattle.std.specs.Char.{to_ascii_lowercase}
use Rattle.std.specs.List.{starts_with, slice_get}
use Rattle.std.specs.Str.{bytes_eq}
use Rattle.std.proofs.Math.Bool.{and-false}
use Rattle.std.proofs.lemmas.Bool.{false≢true, ne_eqb, le-ltb, lt-ltb, ltb-true, ltb-false}
use Rattle.std.proofs.lemmas.List.{map-append}
use Rattle.std.proofs.lemmas.Option.{slice_get-get_or}
use Rattle.std.proofs.lemmas.List.Elements.{All-head, All-tail}
use Rattle.markup5ever.proofs.NameOrder.{bytes_eq-same, begins-itself}
use Rattle.html5ever_interface.specs.Token.{DoctypeOf}
use Rattle.html5reading.specs.Machine.{declaration_step, declaration_answer_step, bogus_comment_step, doctype_keyword_step, skipped_step}
use Rattle.html5reading.specs.Doctype.{begins_doctype_keyword, keyword_error, with_quirks}
use Rattle.html5reading.proofs.GoodCharacters.{good_between}
use Rattle.html5reading.specs.Characters.{is_bad_character, lower_case}
use Rattle.html5reading.specs.Reading.{Brought}
use Rattle.html5reading.specs.Reading.Here.{Tells}
use Rattle.html5reading.specs.Start.{Open, held_len}
use Rattle.html5reading.specs.Start.Mode.{Cdata}
use Rattle.html5reading.specs.Start.Open.{Between, InDeclaration}
use Rattle.html5partial.specs.CurrentTag.{after_doctype_name}
use Rattle.html5reading.specs.Comment.{begins_keyword, begins_cdata, cdata_keyword, declaration_error}

pub cons≢nil : {X : Type 0} → (x : X) (xs : List X) → x ∷ xs ≢ []
cons≢nil x xs = λ h. cc

-- a test of two texts
pub test-is : (r : Bool) (xs ys : List ℕ) → (IsTrue r ↔ (xs ≡ ys)) → r ≡ pointwise nat_eq ys xs
test-is r xs ys test =
    elim (pointwise nat_eq ys xs) as (λ b. pointwise nat_eq ys xs ≡ b → r ≡ b) [
      | true ↦ λ e. test.1 (sym (same_text ys xs (sym e)))
      | false ↦ λ e. elim r as (λ q. (IsTrue q → xs ≡ ys) → q ≡ false) [
        | true ↦ λ f. absurd (other_text ys xs (sym e) (sym (f refl)))
        | false ↦ λ f. refl
      ] test.0
    ] refl

-- a character after the held text of a word: the next of the word, another, or one after its end

pub starts-next : (word held : List ℕ) (c : ℕ) → slice_get word (length held) ≡ Some c → starts_with nat_eq word held ≡ starts_with nat_eq word (held ++ c ∷ [])
starts-next [] [] c e = cc
starts-next [] (h ∷ held) c e = cc
starts-next (x ∷ word) [] c e = let same : x ≡ c = cc in rw same (sym (begins-itself (c ∷ [])))
starts-next (x ∷ word) (h ∷ held) c e = ap (λ b. nat_eq h x && b) (starts-next word held c e)

pub starts-not : (word held : List ℕ) (c d : ℕ) → slice_get word (length held) ≡ Some d → nat_eq c d ≡ false → starts_with nat_eq word (held ++ c ∷ []) ≡ false
starts-not [] [] c d e other = cc
starts-not [] (h ∷ held) c d e other = cc
starts-not (x ∷ word) [] c d e other = let same : x ≡ d = cc in rw (same, other) refl
starts-not (x ∷ word) (h ∷ held) c d e other = rw (starts-not word held c d e other) (and-false (nat_eq h x))

pub starts-long : (word held : List ℕ) (c : ℕ) → slice_get word (length held) ≡ None → starts_with nat_eq word (held ++ c ∷ []) ≡ false
starts-long [] [] c e = refl
starts-long [] (h ∷ held) c e = refl
starts-long (x ∷ word) [] c e = cc
starts-long (x ∷ word) (h ∷ held) c e = rw (starts-long word held c e) (and-false (nat_eq h x))

-- the element at a place of a list
pub get-is : (word : List ℕ) (n m x d : ℕ) → n ≡ m → true ≡ nat_lt n (length word) → x ≡ get_or word n x → d ≡ x → slice_get word m ≡ Some d
get-is word n m x d same within is eq =
    rw (← same, eq) (slice_get-get_or word n x (ltb-true n (length word) (sym within)) ∙ ap Some (sym is))

-- a character that is neither a dash nor a letter, nor between these, belongs to no keyword

abbrev IsInside : ℕ → Type 0
IsInside c = (0x2D ≤ c) × (c ≤ 0x7A)

abbrev IsOutside : ℕ → Type 0
IsOutside c = (c < 0x2D) ⊎ (0x7A < c)

apart : (c x : ℕ) → IsOutside c → IsInside x → c ≢ x
apart c x (inl below) inside = λ e. omega (arith, below, inside.0, e)
apart c x (inr above) inside = λ e. omega (arith, above, inside.1, e)

starts-apart : (word : List ℕ) → All IsInside word → (held : List ℕ) (c : ℕ) → IsOutside c → starts_with nat_eq word (held ++ c ∷ []) ≡ false
starts-apart [] inside [] c out = refl
starts-apart [] inside (h ∷ held) c out = refl
starts-apart (x ∷ word) inside [] c out = rw (ne_eqb c x (apart c x out (All-head IsInside x word inside))) refl
starts-apart (x ∷ word) inside (h ∷ held) c out = rw (starts-apart word (All-tail IsInside x word inside) held c out) (and-false (nat_eq h x))

same-apart : (word : List ℕ) → All IsInside word → (held : List ℕ) (c : ℕ) → IsOutside c → bytes_eq (held ++ c ∷ []) word ≡ false
same-apart word inside held c out =
    elim (bytes_eq (held ++ c ∷ []) word) as (λ b. bytes_eq (held ++ c ∷ []) word ≡ b → b ≡ false) [
      | true ↦ λ e.
          let same : held ++ c ∷ [] ≡ word = bytes_eq-same (held ++ c ∷ []) word e in
          absurd (false≢true (sym (starts-apart word inside held c out) ∙ ap (starts_with nat_eq word) same ∙ begins-itself word))
      | false ↦ λ e. refl
    ] refl

lower-apart : (c : ℕ) → IsOutside c → to_ascii_lowercase c ≡ c
lower-apart c (inl below) = rw (lt-ltb c 65 (omega (arith, below))) refl
lower-apart c (inr above) = rw (le-ltb c 65 (omega (arith, above)), le-ltb c 91 (omega (arith, above))) refl

lower-append : (held : List ℕ) (c : ℕ) → IsOutside c → lower_case (held ++ c ∷ []) ≡ lower_case held ++ c ∷ []
lower-append held c out = map-append to_ascii_lowercase held (c ∷ []) ∙ ap (λ d. lower_case held ++ d ∷ []) (lower-apart c out)

-- a character outside of all keywords belongs to none after `<!`
no_keyword : (exact foreign : Bool) (held : List ℕ) (c : ℕ) → IsOutside c
    → declaration_step exact foreign held c ≡ record { settled = declaration_error exact held; here = bogus_comment_step exact held [] c }
unfolding declaration_step declaration_answer_step begins_keyword begins_cdata
no_keyword exact foreign held c out =
    let dashes : All IsInside (codes "--") = search rules in
    let doctype : All IsInside (codes "doctype") = search rules in
    let cdata : All IsInside (codes "[CDATA[") = search rules in
    rw (
      lower-append held c out,
      same-apart (codes "--") dashes held c out,
      same-apart (codes "doctype") doctype (lower_case held) c out,
      starts-apart (codes "--") dashes held c out,
      starts-apart (codes "doctype") doctype (lower_case held) c out,
      same-apart (codes "[CDATA[") cdata held c out,
      starts-apart (codes "[CDATA[") cdata held c out,
      and-false foreign,
    ) refl

pub no_keyword-high : (exact foreign : Bool) (held : List ℕ) (c : ℕ) → 128 ≤ c
    → declaration_step exact foreign held c ≡ record { settled = declaration_error exact held; here = bogus_comment_step exact held [] c }
no_keyword-high exact foreign held c high = no_keyword exact foreign held c (inr (omega (arith, high)))

-- the keyword of a CDATA section, or what begins it, where the content is foreign
cdata-opens : (exact : Bool) (held : List ℕ) (c : ℕ) → begins_cdata (held ++ c ∷ []) ≡ true
    → declaration_answer_step exact true held c
    ≡ record { settled = []; here = Tells [] (if bytes_eq (held ++ c ∷ []) cdata_keyword then Between Cdata else InDeclaration (held ++ c ∷ [])) }
unfolding declaration_answer_step
cdata-opens exact held c begins =
    elim (bytes_eq (held ++ c ∷ []) cdata_keyword) as (λ b. ◌≡◌ {A = Brought Open}
    (if b then record { settled = []; here = Tells [] (Between Cdata) }
    else if begins_cdata (held ++ c ∷ []) then record { settled = []; here = Tells [] (InDeclaration (held ++ c ∷ [])) }
    else record { settled = declaration_error exact held; here = bogus_comment_step exact held [] c })
    (record { settled = []; here = Tells [] (if b then Between Cdata else InDeclaration (held ++ c ∷ [])) })) [
      | true ↦ refl
      | false ↦ rw begins refl
    ]

pub keyword-opens : (exact foreign : Bool) (held pushed : List ℕ) (c : ℕ) (later : Open) → pushed ≡ held ++ c ∷ []
    → bytes_eq pushed (codes "--") ≡ false → bytes_eq (lower_case pushed) (codes "doctype") ≡ false → begins_keyword pushed ≡ false
    → foreign ≡ true → begins_cdata pushed ≡ true → later ≡ (if bytes_eq pushed cdata_keyword then Between Cdata else InDeclaration pushed)
    → declaration_step exact foreign held c ≡ record { settled = []; here = Tells [] later }
unfolding declaration_step
keyword-opens exact foreign held pushed c later same no_dashes no_doctype no_keyword is_foreign begins is =
    rw (is, is_foreign, ← same, no_dashes, no_doctype, no_keyword) (rw same (cdata-opens exact held c (rw same at begins)))

-- a character that belongs to a keyword is no bad one
good-inside : (c : ℕ) → ¬ IsOutside c → is_bad_character c ≡ false
good-inside c inside =
    elim (nat_lt c 0x2D) as (λ b. nat_lt c 0x2D ≡ b → is_bad_character c ≡ false) [
      | true ↦ λ below. absurd (inside (inl (ltb-true c 0x2D below)))
      | false ↦ λ low. elim (nat_lt 0x7A c) as (λ b. nat_lt 0x7A c ≡ b → is_bad_character c ≡ false) [
        | true ↦ λ above. absurd (inside (inr (ltb-true 0x7A c above)))
        | false ↦ λ high. good_between c (omega (arith, ltb-false c 0x2D low)) (omega (arith, ltb-false 0x7A c high))
      ] refl
    ] refl

pub keyword-good : (exact foreign : Bool) (held : List ℕ) (c : ℕ) (later : Open) → declaration_step exact foreign held c ≡ record { settled = []; here = Tells [] later } → is_bad_character c ≡ false
keyword-good exact foreign held c later step =
    good-inside c (λ out. cons≢nil _ _ (ap (λ (b : Brought Open). b.settled) (sym (no_keyword exact foreign held c out) ∙ step)))

-- ---- the keywords of doctypes

-- a character outside of all keywords belongs to none after a doctype's name
no_doctype_keyword : (exact : Bool) (held : List ℕ) (d : DoctypeOf) (c : ℕ) → IsOutside c
    → doctype_keyword_step exact held d c ≡ record { settled = keyword_error exact held; here = skipped_step exact [] (with_quirks d) c }
unfolding doctype_keyword_step begins_doctype_keyword
no_doctype_keyword exact held d c out =
    let public : All IsInside (codes "public") = search rules in
    let system : All IsInside (codes "system") = search rules in
    rw (
      lower-append held c out,
      same-apart (codes "public") public (lower_case held) c out,
      same-apart (codes "system") system (lower_case held) c out,
      starts-apart (codes "public") public (lower_case held) c out,
      starts-apart (codes "system") system (lower_case held) c out,
    ) refl

pub no_doctype_keyword-high : (exact : Bool) (held : List ℕ) (d : DoctypeOf) (c : ℕ) → 128 ≤ c
    → doctype_keyword_step exact held d c ≡ record { settled = keyword_error exact held; here = skipped_step exact [] (with_quirks d) c }
no_doctype_keyword-high exact held d c high = no_doctype_keyword exact held d c (inr (omega (arith, high)))

-- the held text after a name
pub held_len-after_name : (held : List ℕ) (d : DoctypeOf) → held_len (after_doctype_name held d) ≡ length held
held_len-after_name [] d = refl
held_len-after_name (c ∷ held) d = refl

pub doctype_keyword-good : (exact : Bool) (first : ℕ) (held : List ℕ) (d : DoctypeOf) (c : ℕ) (later : Open)
    → doctype_keyword_step exact (first ∷ held) d c ≡ record { settled = []; here = Tells [] later } → is_bad_character c ≡ false
unfolding keyword_error
doctype_keyword-good exact first held d c later step =
    good-inside c (λ out. cons≢nil _ _ (ap (λ (b : Brought Open). b.settled) (sym (no_doctype_keyword exact (first ∷ held) d c out) ∙ step)))

-- what has no first character is empty
pub none-first : (held : List ℕ) → None ≡ slice_get held 0 → held ≡ []
none-first [] e = refl
none-first (c ∷ held) e = cc
