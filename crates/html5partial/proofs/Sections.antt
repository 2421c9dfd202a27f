-- What is open in a CDATA section, with or without text that is held.
use Rattle.std.proofs.Common.{◌≡◌, ◌≢◌, ℕ, ◌+◌, ◌-◌, ◌≤◌, true, false, List, [], ◌∷◌, ◌++◌, refl, sym, ap, subst, ◌∙◌, length, take, length-append, arith}
use Rattle.std.proofs.lemmas.Str.{encodes-chars, chars-append, chars-nil, chars_from_encodes, IsUtf8-take, IsCharBoundary-at_seam}
use Rattle.std.specs.Str.{IsUtf8, IsCharBoundary, chars}
use lib.Utf8.{encode}
use Rattle.std.proofs.lemmas.Bool.{false≢true, eqb-true}
use Rattle.std.proofs.lemmas.List.{nil_from_length}
use Rattle.std.specs.Prelude.{Some, None, ◌==◌, codes, encode_utf8, encode_utf8_all}
use Rattle.html5reading.specs.Cdata.{open_cdata, ends_cdata}
use Rattle.html5reading.specs.Comment.{ends_in, without_last}
use Rattle.html5reading.proofs.TextEnds.{Carries, carries-none, carries-push, encode-last, ends_in-front, without_last-append}
use Rattle.html5reading.specs.Characters.{line_feed, greater_than}
use Rattle.html5reading.specs.Start.{held_len, nothing_open}
use Rattle.html5reading.specs.Start.Open.{InCdata}
use Rattle.html5partial.specs.Runs.{other_run_ends, opened_after_run}

-- where some text is held
pub section-filled : (held : List ℕ) → held ≢ [] → open_cdata held ≡ InCdata held
section-filled [] filled = absurd (filled refl)
section-filled (c ∷ held) filled = refl

pub section-has_runs : (held : List ℕ) → held ≢ [] → other_run_ends (open_cdata held) ≡ Some (line_feed ∷ greater_than ∷ [])
section-has_runs [] filled = absurd (filled refl)
section-has_runs (c ∷ held) filled = refl

-- after a run, where some text was held
pub section-run : (held run : List ℕ) → nothing_open (open_cdata held) ≡ false → open_cdata (held ++ run) ≡ opened_after_run (open_cdata held) run
section-run [] run within = absurd (false≢true (sym within))
section-run (c ∷ held) run within = refl

-- a section reads runs where some text of it is held

pub section-empty : (text : List ℕ) → (length text == 0) ≡ true → other_run_ends (open_cdata (chars text)) ≡ None
section-empty text h =
    ap (λ l. other_run_ends (open_cdata (chars l))) (nil_from_length text (eqb-true (length text) 0 h)) ∙ ap (λ l. other_run_ends (open_cdata l)) chars-nil

pub section-reads_runs : (text : List ℕ) → IsUtf8 text → (length text == 0) ≡ false → other_run_ends (open_cdata (chars text)) ≡ Some (line_feed ∷ greater_than ∷ [])
section-reads_runs text utf8 h =
    section-has_runs (chars text) (λ none. false≢true (sym h ∙ ap (λ l. length l == 0) (sym (encodes-chars text utf8) ∙ ap encode_utf8_all none)))

pub held_len-section : (held : List ℕ) → held_len (open_cdata held) ≡ 0
held_len-section [] = refl
held_len-section (c ∷ held) = refl

-- after a character
pub section-pushed : (held : List ℕ) (c : ℕ) → open_cdata (held ++ c ∷ []) ≡ InCdata (held ++ c ∷ [])
section-pushed [] c = refl
section-pushed (d ∷ held) c = refl

-- the bytes of a text end in brackets as its characters do

brackets_carry : Carries encode_utf8 (codes "]]")
unfolding encode
brackets_carry =
    carries-push encode_utf8 encode-last (codes "]") 0x5D (omega arith) refl
    (carries-push encode_utf8 encode-last [] 0x5D (omega arith) refl (carries-none encode_utf8 encode-last))

pub section-ends : (text : List ℕ) → IsUtf8 text → ends_in text (codes "]]") ≡ ends_cdata (chars text)
unfolding ends_cdata
section-ends text utf8 = ap (λ l. ends_in l (codes "]]")) (sym (encodes-chars text utf8)) ∙ brackets_carry (chars text)

-- a text that ends in brackets, without them
pub record Bracketed (text : List ℕ) : Type 0 where
  pub within : 2 ≤ length text
  pub boundary : IsCharBoundary text (length text - 2)
  pub content : chars (take (length text - 2) text) ≡ without_last 2 (chars text)

-- a text that ends in two brackets is a text and these
pub bracketed : (text : List ℕ) → IsUtf8 text → ends_cdata (chars text) ≡ true → Bracketed text
unfolding encode
bracketed text utf8 h =
    let front : List ℕ = without_last 2 text in
    let parts : text ≡ front ++ codes "]]" = ends_in-front text (codes "]]") (section-ends text utf8 ∙ h) in
    let sum : length text ≡ length front + 2 = ap length parts ∙ length-append front (codes "]]") in
    let brackets : IsUtf8 (codes "]]") = (0x5D ∷ 0x5D ∷ [], (refl, refl)) in
    let at : IsCharBoundary text (length text - 2) =
    subst (IsCharBoundary text) (omega (arith, sum)) (IsCharBoundary-at_seam text front (codes "]]") parts brackets) in
    record {
      within = omega (arith, sum);
      boundary = at;
      content =
          sym (ap (without_last 2) (ap chars parts ∙ chars-append front (codes "]]") (IsUtf8-take text (length text - 2) utf8 at)
          ∙ ap (λ l. chars front ++ l) (sym (chars_from_encodes (0x5D ∷ 0x5D ∷ []) (codes "]]") brackets refl)))
          ∙ without_last-append (chars front) (codes "]]"));
    }
