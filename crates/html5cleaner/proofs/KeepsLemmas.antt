-- The answers of calls that write kept pieces.
use Rattle.std.proofs.Common.{◌≡◌, ℕ, Bool, true, false, List, [], ◌∷◌, ◌++◌, Result, Ok, Err, length, drop, take, refl, ap, sym, ◌∙◌, subst, arith}
use Rattle.std.specs.Prelude.{◌==◌, encode_utf8_all, IfOk, OnErr, OnOk, if◌then◌else◌}
use Rattle.std.proofs.lemmas.Bool.{false≢true}
use Rattle.std.proofs.lemmas.List.{append-nil, drop_all, take_all}
use Rattle.html5ever_interface.specs.Token.{Told, is_tag}
use Rattle.html5ever_interface.specs.Token.Told.{Text, Null, Error, Tag, Comment, Instruction, Doctype, End}
use Rattle.html5policy.specs.Policy.{PolicyOf}
use Rattle.html5write.specs.Pieces.{NameAndValue, Piece}
use Rattle.html5write.specs.Pieces.Piece.{StartTagPiece, EndTagPiece}
use Rattle.html5write.specs.declared.error.WriteError.{WriteError}
use Rattle.html5cleaner.specs.declared.balance.Change.{Change}
use Rattle.html5cleaner.specs.Shape.{shape_by_balance}
use Rattle.html5cleaner.specs.Balance.{all_balanced, all_open_after, balanced, end_tags, is_end, open_after, open_by, written_by}
use Rattle.html5cleaner.specs.Clean.{kept_of_run, kept_where}
use Rattle.html5elements.specs.Elements.{is_void}
use Rattle.html5cleaner.specs.Kept.{Keeps}
use Rattle.html5cleaner.specs.Open.{closed_by}
use Rattle.html5cleaner.proofs.WrittenRuns.{nothing-opened, nothing-written, open-last, open-plain, piece-balanced, piece-open, written-last, written-plain}

-- the same pieces and elements by other names
pub keeps-same : (result : Result Change WriteError) (before after : List Piece) (was now : List (List ℕ)) (pieces others : List Piece) (elements same : List (List ℕ))
    → pieces ≡ others → elements ≡ same → Keeps result before after was now pieces elements → Keeps result before after was now others same
keeps-same result before after was now pieces others elements same p e keeps =
    subst (λ l. Keeps result before after was now l same) p (subst (λ (l : List (List ℕ)). Keeps result before after was now pieces l) e keeps)

pub keeps-ok : (change : Change) (before after : List Piece) (was now : List (List ℕ)) (pieces : List Piece) (elements : List (List ℕ))
    → after ≡ before ++ pieces → drop change.undo now ≡ was → drop change.close now ≡ elements → Keeps (Ok change) before after was now pieces elements
keeps-ok change before after was now pieces elements written undone done = record { written = written; undone = undone; done = done; unchanged = tt; unopened = tt }

-- no element was opened or closed
pub keeps-plain : (result : Result Change WriteError) (before after : List Piece) (opened : List (List ℕ)) (pieces : List Piece)
    → OnOk result (after ≡ before ++ pieces) → OnErr result (after ≡ before) → IfOk result (λ change. (change.undo ≡ 0) × (change.close ≡ 0))
    → Keeps result before after opened opened pieces opened
keeps-plain (Ok change) before after opened pieces written unchanged none =
    keeps-ok change before after opened opened pieces opened written (ap (λ n. drop n opened) none.0) (ap (λ n. drop n opened) none.1)
keeps-plain (Err error) before after opened pieces written unchanged none = record { written = tt; undone = tt; done = tt; unchanged = unchanged; unopened = refl }

-- ---- a run and the piece after it

-- a piece that opens no element and closes none
pub keeps-piece : (result : Result Change WriteError) (before after : List Piece) (opened : List (List ℕ)) (run : List ℕ) (piece : Piece)
    → balanced opened piece ≡ piece ∷ [] → open_after opened piece ≡ opened
    → OnOk result (after ≡ before ++ (kept_of_run run ++ piece ∷ [])) → OnErr result (after ≡ before) → IfOk result (λ change. (change.undo ≡ 0) × (change.close ≡ 0))
    → Keeps result before after opened opened (all_balanced opened (kept_of_run run ++ piece ∷ [])) (all_open_after opened (kept_of_run run ++ piece ∷ []))
keeps-piece result before after opened run piece same stays written unchanged none =
    keeps-same result before after opened opened _ _ _ _
    (sym (piece-balanced opened run piece ∙ ap (λ l. kept_of_run run ++ l) same))
    (sym (piece-open opened run piece ∙ stays))
    (keeps-plain result before after opened (kept_of_run run ++ piece ∷ []) written unchanged none)

pub void-after : (opened : List (List ℕ)) (name : List ℕ) (attributes : List NameAndValue) → is_void (encode_utf8_all name) ≡ true → open_after opened (StartTagPiece name attributes) ≡ opened
unfolding open_after
void-after opened name attributes is = ap (λ b. if b then opened else name ∷ opened) is

element-after : (opened : List (List ℕ)) (name : List ℕ) (attributes : List NameAndValue) → is_void (encode_utf8_all name) ≡ false → open_after opened (StartTagPiece name attributes) ≡ name ∷ opened
unfolding open_after
element-after opened name attributes is = ap (λ b. if b then opened else name ∷ opened) is

-- a start tag that opens an element
pub keeps-start_tag : (before after : List Piece) (opened now : List (List ℕ)) (run name : List ℕ) (attributes : List NameAndValue) → is_void (encode_utf8_all name) ≡ false
    → after ≡ before ++ (kept_of_run run ++ StartTagPiece name attributes ∷ []) → now ≡ name ∷ opened
    → Keeps (Ok (record { undo = 1; close = 0 })) before after opened now (all_balanced opened (kept_of_run run ++ StartTagPiece name attributes ∷ []))
    (all_open_after opened (kept_of_run run ++ StartTagPiece name attributes ∷ []))
unfolding balanced
keeps-start_tag before after opened now run name attributes is written pushed =
    keeps-ok (record { undo = 1; close = 0 }) before after opened now _ _
    (written ∙ ap (λ l. before ++ l) (sym (piece-balanced opened run (StartTagPiece name attributes))))
    (ap (drop 1) pushed)
    (pushed ∙ sym (piece-open opened run (StartTagPiece name attributes) ∙ element-after opened name attributes is))

-- an end tag
pub keeps-end_tag : (before after : List Piece) (opened : List (List ℕ)) (run name : List ℕ) (close : ℕ) → close ≡ closed_by opened name
    → after ≡ before ++ (kept_of_run run ++ end_tags (take close opened))
    → Keeps (Ok (record { undo = 0; close = close })) before after opened opened (all_balanced opened (kept_of_run run ++ EndTagPiece name ∷ []))
    (all_open_after opened (kept_of_run run ++ EndTagPiece name ∷ []))
unfolding balanced open_after
keeps-end_tag before after opened run name close is written =
    keeps-ok (record { undo = 0; close = close }) before after opened opened _ _
    (written
    ∙ ap (λ n. before ++ (kept_of_run run ++ end_tags (take n opened))) is
    ∙ ap (λ l. before ++ l) (sym (piece-balanced opened run (EndTagPiece name))))
    refl
    (ap (λ n. drop n opened) is ∙ sym (piece-open opened run (EndTagPiece name)))

-- ---- at the end of a page

pub keeps-last : (balance : Bool) (close : ℕ) (before after : List Piece) (opened : List (List ℕ)) (run : List ℕ) → balance ≡ true → close ≡ length opened
    → after ≡ before ++ (kept_of_run run ++ end_tags (take close opened))
    → Keeps (Ok (record { undo = 0; close = close })) before after opened opened (written_by (shape_by_balance balance) true opened (kept_of_run run ++ [])) (open_by (shape_by_balance balance) true opened (kept_of_run run ++ []))
keeps-last balance close before after opened run is all written =
    keeps-ok (record { undo = 0; close = close }) before after opened opened _ _
    (written
    ∙ ap (λ (o : List (List ℕ)). before ++ (kept_of_run run ++ end_tags o)) (ap (λ n. take n opened) all ∙ take_all (length opened) opened (omega arith))
    ∙ ap (λ l. before ++ l) (sym (written-last balance opened run is)))
    refl
    (ap (λ n. drop n opened) all ∙ drop_all (length opened) opened (omega arith) ∙ sym (open-last balance opened (kept_of_run run ++ []) is))

pub keeps-last_plain : (balance : Bool) (close : ℕ) (before after : List Piece) (opened : List (List ℕ)) (run : List ℕ) → balance ≡ false → close ≡ 0
    → after ≡ before ++ (kept_of_run run ++ end_tags (take close opened))
    → Keeps (Ok (record { undo = 0; close = close })) before after opened opened (written_by (shape_by_balance balance) true opened (kept_of_run run ++ [])) (open_by (shape_by_balance balance) true opened (kept_of_run run ++ []))
keeps-last_plain balance close before after opened run is none written =
    keeps-ok (record { undo = 0; close = close }) before after opened opened _ _
    (written
    ∙ ap (λ n. before ++ (kept_of_run run ++ end_tags (take n opened))) none
    ∙ ap (λ l. before ++ l) (sym (written-plain balance true opened (kept_of_run run ++ []) is)))
    refl
    (ap (λ n. drop n opened) none ∙ sym (open-plain balance true opened (kept_of_run run ++ []) is))

-- ---- where something may be hidden

pub told-end : (told : Told) → is_end told ≡ true → told ≡ End
told-end (Text text) is = absurd (false≢true is)
told-end Null is = absurd (false≢true is)
told-end (Error message) is = absurd (false≢true is)
told-end (Tag tag) is = absurd (false≢true is)
told-end (Comment text) is = absurd (false≢true is)
told-end (Instruction content) is = absurd (false≢true is)
told-end (Doctype doctype) is = absurd (false≢true is)
told-end End is = refl

shown-run : (policy : PolicyOf) (depth : ℕ) (run shown : List ℕ) (is : Bool) → (depth == 0) ≡ is → shown ≡ (if is then run else []) → kept_of_run shown ++ [] ≡ kept_where policy depth run End
unfolding kept_of_run
shown-run policy depth run shown true is here = ap (λ l. kept_of_run l ++ []) here ∙ ap (λ b. if b then kept_of_run run ++ [] else []) (sym is)
shown-run policy depth run shown false is here = ap (λ l. kept_of_run l ++ []) here ∙ ap (λ b. if b then kept_of_run run ++ [] else []) (sym is)

-- the pieces kept at the end of a page
pub kept-last : (policy : PolicyOf) (depth : ℕ) (run shown : List ℕ) (told : Told) → is_end told ≡ true → shown ≡ (if depth == 0 then run else [])
    → kept_of_run shown ++ [] ≡ kept_where policy depth run told
kept-last policy depth run shown told ends here = shown-run policy depth run shown (depth == 0) refl here ∙ ap (kept_where policy depth run) (sym (told-end told ends))

-- the pieces kept when no tag follows the run
pub kept-untagged : (policy : PolicyOf) (depth : ℕ) (run : List ℕ) (told : Told) → depth ≡ 0 → is_tag told ≡ false → kept_where policy depth run told ≡ kept_of_run run ++ []
kept-untagged policy depth run (Tag tag) shown is = absurd (false≢true (sym is))
kept-untagged policy depth run (Text text) shown is = ap (λ n. if n == 0 then kept_of_run run ++ [] else []) shown
kept-untagged policy depth run Null shown is = ap (λ n. if n == 0 then kept_of_run run ++ [] else []) shown
kept-untagged policy depth run (Error message) shown is = ap (λ n. if n == 0 then kept_of_run run ++ [] else []) shown
kept-untagged policy depth run (Comment text) shown is = ap (λ n. if n == 0 then kept_of_run run ++ [] else []) shown
kept-untagged policy depth run (Instruction content) shown is = ap (λ n. if n == 0 then kept_of_run run ++ [] else []) shown
kept-untagged policy depth run (Doctype doctype) shown is = ap (λ n. if n == 0 then kept_of_run run ++ [] else []) shown
kept-untagged policy depth run End shown is = ap (λ n. if n == 0 then kept_of_run run ++ [] else []) shown

-- nothing is kept of what is hidden
pub keeps-hidden : (policy : PolicyOf) (depth : ℕ) (page : List Piece) (opened : List (List ℕ)) (run : List ℕ) (told : Told) → is_end told ≡ false → (depth == 0) ≡ false
    → Keeps (Ok (record { undo = 0; close = 0 })) page page opened opened (written_by (shape_by_balance policy.balance) (is_end told) opened (kept_where policy depth run told))
    (open_by (shape_by_balance policy.balance) (is_end told) opened (kept_where policy depth run told))
keeps-hidden policy depth page opened run told goes_on hidden =
    let none : kept_where policy depth run told ≡ [] = rw hidden refl in
    keeps-ok (record { undo = 0; close = 0 }) page page opened opened _ _
    (sym (append-nil page)
    ∙ ap (λ l. page ++ l) (sym ((λ i. written_by (shape_by_balance policy.balance) (goes_on i) opened (none i)) ∙ nothing-written policy.balance opened)))
    refl
    (sym ((λ i. open_by (shape_by_balance policy.balance) (goes_on i) opened (none i)) ∙ nothing-opened policy.balance opened))
