-- That a sink of records keeps the laws of a sink.
use Rattle.std.specs.Prelude.{◌≡◌, ℕ, true, false, List, [], ◌∷◌, ◌++◌, refl}
use Rattle.std.proofs.Common.{ap, ◌∙◌}
use Rattle.std.proofs.lemmas.List.{append-nil, append_assoc}
use Rattle.html5ever_interface.specs.Token.{Told, is_tag}
use Rattle.html5ever_interface.specs.Token.Told.{Text, Tag}
use Rattle.html5ever_interface.specs.Token.Reply.{KeepOn}
use Rattle.html5records.specs.declared.record_sink.Replies.{Replies}
use Rattle.html5records.specs.declared.record_sink.Replies.TheVariants.{None, Standard, Pausing, Caller}
use Rattle.html5records.specs.Recording.{Recorded, text_opening, added_by_text, added_by, open_after, recorded_step, recorded_reply, reply_by}

pub recorded_joins : (r : Recorded) (a b : List ℕ) (line : ℕ)
    → recorded_step (recorded_step r (Text a) line) (Text b) line ≡ recorded_step r (Text (a ++ b)) line
unfolding recorded_step added_by added_by_text open_after
recorded_joins r [] b line = rw (append-nil r.bytes) refl
recorded_joins r (x ∷ xs) [] line = rw (append-nil xs, append-nil (r.bytes ++ (text_opening r.in_text ++ x ∷ xs))) refl
recorded_joins r (x ∷ xs) (y ∷ ys) line =
    let opening : List ℕ = text_opening r.in_text in
    let bytes : (r.bytes ++ (opening ++ x ∷ xs)) ++ y ∷ ys ≡ r.bytes ++ (opening ++ (x ∷ xs ++ y ∷ ys)) =
    append_assoc r.bytes (opening ++ x ∷ xs) (y ∷ ys) ∙ ap (λ l. r.bytes ++ l) (append_assoc opening (x ∷ xs) (y ∷ ys)) in
    ap (λ l. record r { bytes = l; in_text = true }) bytes

pub recorded_empty : (r : Recorded) (line : ℕ) → recorded_step r (Text []) line ≡ r
unfolding recorded_step added_by added_by_text open_after
recorded_empty r line = rw (append-nil r.bytes) refl

pub recorded_any_line : (r : Recorded) (a : List ℕ) (line other : ℕ) → recorded_step r (Text a) line ≡ recorded_step r (Text a) other
unfolding recorded_step added_by
recorded_any_line r a line other = refl

reply_by-other : (replies : Replies) (told : Told) → is_tag told ≡ false → reply_by replies told ≡ KeepOn
reply_by-other None told no_tag = refl
reply_by-other Standard (Tag tag) no_tag = absurd cc
reply_by-other Standard other no_tag = refl
reply_by-other Pausing (Tag tag) no_tag = absurd cc
reply_by-other Pausing other no_tag = refl
reply_by-other Caller (Tag tag) no_tag = absurd cc
reply_by-other Caller other no_tag = refl

pub recorded_keeps_on : (r : Recorded) (told : Told) (line : ℕ) → is_tag told ≡ false → recorded_reply r told line ≡ KeepOn
recorded_keeps_on r told line no_tag = reply_by-other r.replies told no_tag
