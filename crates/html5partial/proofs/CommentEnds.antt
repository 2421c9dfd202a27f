-- How the text of a comment ends.
use Rattle.std.proofs.Common.{◌≡◌, ◌≢◌, ℕ, ◌-◌, true, false, List, [], ◌∷◌, ◌++◌, drop, take, length, Some, None, refl, ap, sym, ◌∙◌, arith}
use Rattle.std.specs.Prelude.{codes, if◌then◌else◌}
use Rattle.std.specs.Cmp.Lexicographic.{same_text}
use Rattle.std.proofs.lemmas.Bool.{false≢true}
use Rattle.std.proofs.lemmas.List.{append_assoc, take-append-drop}
use Rattle.html5reading.specs.Characters.{line_feed, hyphen, greater_than, value_bytes}
use Rattle.html5reading.proofs.TextEnds.{LastByte, value_bytes-last, last_byte-other, ends_in-other, ends_in-append}
use Rattle.html5reading.specs.Comment.{ends_in, ends_in_mark}
use Rattle.html5partial.specs.Runs.{other_run_ends}
use Rattle.html5reading.specs.Start.Open.{InComment}

-- where a comment reads runs, and which characters end one
pub comment_ends : (text others : List ℕ) → other_run_ends (InComment text) ≡ Some others
    → (others ≡ line_feed ∷ hyphen ∷ greater_than ∷ []) × (ends_in text (codes "-") ≡ false)
comment_ends text others has =
    elim (ends_in text (codes "-")) as (λ b. (if b then None else Some (line_feed ∷ hyphen ∷ greater_than ∷ [])) ≡ Some others → (others ≡ line_feed ∷ hyphen ∷ greater_than ∷ []) × (b ≡ false)) [
      | true ↦ λ e. absurd cc
      | false ↦ λ e. (cc, refl)
    ] has

-- after a character that is not a dash no dash stands last, and no mark
pub ends_in_dash-none : (text : List ℕ) (c : ℕ) → c ≢ hyphen → ends_in (text ++ value_bytes c) (codes "-") ≡ false
ends_in_dash-none text c other =
    let last : LastByte c (value_bytes c) = value_bytes-last c in
    ap (λ l. ends_in l (codes "-")) (ap (λ l. text ++ l) last.parts ∙ sym (append_assoc text last.front (last.last ∷ [])))
    ∙ ends_in-other (text ++ last.front) [] last.last hyphen (last_byte-other c hyphen (value_bytes c) last (omega arith) other)

-- a text that ends in no dash ends in no mark
pub ends_in_mark-none : (text : List ℕ) → ends_in text (codes "-") ≡ false → ends_in_mark text ≡ false
unfolding ends_in_mark
ends_in_mark-none text none =
    let start : List ℕ = take (length text - 4) text in
    elim (ends_in text (codes "<!--")) as (λ b. ends_in text (codes "<!--") ≡ b → b ≡ false) [
      | true ↦ λ ends.
          let mark : codes "<!--" ≡ drop (length text - 4) text = same_text (codes "<!--") (drop (length text - 4) text) (sym ends) in
          let parts : text ≡ (start ++ codes "<!-") ++ hyphen ∷ [] =
          sym (take-append-drop (length text - 4) text) ∙ ap (λ l. start ++ l) (sym mark) ∙ sym (append_assoc start (codes "<!-") (hyphen ∷ [])) in
          absurd (false≢true (sym none ∙ ap (λ l. ends_in l (codes "-")) parts ∙ ends_in-append (start ++ codes "<!-") (hyphen ∷ [])))
      | false ↦ λ ends. refl
    ] refl
