-- What balancing writes is nested, and only end tags come and go.
use Rattle.std.proofs.Common.{◌≡◌, ℕ, zero, suc, Bool, true, false, List, [], ◌∷◌, ◌++◌, drop, filter, take, refl, ap, sym, ◌∙◌, subst}
use Rattle.std.specs.Prelude.{◌||◌, ◌&&◌, if◌then◌else◌}
use Rattle.std.specs.List.{list_any}
use Rattle.std.specs.Str.{bytes_eq}
use Rattle.std.proofs.lemmas.List.{append-nil}
use Rattle.std.proofs.lemmas.List.Elements.{filter-append}
use Rattle.markup5ever.proofs.NameOrder.{bytes_eq-itself}
use Rattle.html5write.specs.Pieces.{Piece}
use Rattle.html5write.specs.Pieces.Piece.{TextPiece, StartTagPiece, EndTagPiece, CommentPiece}
use Rattle.html5cleaner.specs.Balance.{all_balanced, all_open_after, balanced, end_tags, is_innermost, is_nested, is_no_end_tag, none_open, open_after, open_by, written_by}
use Rattle.html5cleaner.specs.Open.{closed_by, is_open, reach}
use Rattle.html5cleaner.specs.Shape.{Shape, shape_by_balance}
use Rattle.html5cleaner.specs.Shape.Shape.{AsKept, Balanced, Tree}
use Rattle.html5nested.specs.PageItems.{items_of_piece}
use Rattle.html5tree.proofs.RightPlans.{IsFitting}

-- an end tag of the innermost one closes it alone
innermost-closes : (inner : List ℕ) (opened : List (List ℕ)) → closed_by (inner ∷ opened) inner ≡ 1
unfolding closed_by is_open reach
innermost-closes inner opened =
    ap (λ b. if b || list_any (λ other. bytes_eq other inner) opened then (if b then 1 else suc (reach opened inner)) else 0) (bytes_eq-itself inner)

-- ---- nested pieces

-- a piece that stands where these are open, and leaves those open
abbrev pub Nests : List (List ℕ) → Piece → List (List ℕ) → Type 0
Nests opened (StartTagPiece name attributes) after = open_after opened (StartTagPiece name attributes) ≡ after
Nests opened (EndTagPiece name) after = opened ≡ name ∷ after
Nests opened (TextPiece text) after = opened ≡ after
Nests opened (CommentPiece text) after = opened ≡ after

-- the same where pages are balanced, and in a tree; otherwise nothing is said to be open
abbrev pub Goes : Shape → List (List ℕ) → Piece → List (List ℕ) → Type 0
Goes AsKept opened piece after = opened ≡ after
Goes Balanced opened piece after = Nests opened piece after
Goes (Tree limit) opened (CommentPiece text) after = ⊥
Goes (Tree limit) opened piece after = IsFitting limit opened (items_of_piece piece) after

abbrev pub AllGo : Shape → List (List ℕ) → List Piece → List (List ℕ) → Type 0
AllGo shape opened [] after = opened ≡ after
AllGo shape opened (piece ∷ pieces) after = (between : List (List ℕ)) × (Goes shape opened piece between × AllGo shape between pieces after)

pub go-append : (shape : Shape) (opened between after : List (List ℕ)) (first second : List Piece) → AllGo shape opened first between → AllGo shape between second after
    → AllGo shape opened (first ++ second) after
go-append shape opened between after [] second f s = subst (λ (o : List (List ℕ)). AllGo shape o second after) (sym f) s
go-append shape opened between after (piece ∷ first) second f s = (f.0, (f.1.0, go-append shape f.0 between after first second f.1.1 s))

-- a nested piece is written as it is
pub nested-balanced : (opened after : List (List ℕ)) (piece : Piece) → Nests opened piece after → balanced opened piece ≡ piece ∷ []
unfolding balanced
nested-balanced opened after (StartTagPiece name attributes) nests = refl
nested-balanced opened after (EndTagPiece name) nests =
    ap (λ (o : List (List ℕ)). end_tags (take (closed_by o name) o)) nests ∙ ap (λ n. end_tags (take n (name ∷ after))) (innermost-closes name after)
nested-balanced opened after (TextPiece text) nests = refl
nested-balanced opened after (CommentPiece text) nests = refl

pub nested-open : (opened after : List (List ℕ)) (piece : Piece) → Nests opened piece after → open_after opened piece ≡ after
unfolding open_after
nested-open opened after (StartTagPiece name attributes) nests = nests
nested-open opened after (EndTagPiece name) nests =
    ap (λ (o : List (List ℕ)). drop (closed_by o name) o) nests ∙ ap (λ n. drop n (name ∷ after)) (innermost-closes name after)
nested-open opened after (TextPiece text) nests = nests
nested-open opened after (CommentPiece text) nests = nests

-- ---- what is written is nested

end_tags-nest : (count : ℕ) (opened : List (List ℕ)) → AllGo Balanced opened (end_tags (take count opened)) (drop count opened)
end_tags-nest zero opened = refl
end_tags-nest (suc count) [] = refl
end_tags-nest (suc count) (inner ∷ opened) = (opened, (refl, end_tags-nest count opened))

all_closed : (opened : List (List ℕ)) → AllGo Balanced opened (end_tags opened) []
all_closed [] = refl
all_closed (inner ∷ opened) = (opened, (refl, all_closed opened))

balanced-nests : (opened : List (List ℕ)) (piece : Piece) → AllGo Balanced opened (balanced opened piece) (open_after opened piece)
unfolding balanced open_after
balanced-nests opened (StartTagPiece name attributes) = (open_after opened (StartTagPiece name attributes), (refl, refl))
balanced-nests opened (EndTagPiece name) = end_tags-nest (closed_by opened name) opened
balanced-nests opened (TextPiece text) = (opened, (refl, refl))
balanced-nests opened (CommentPiece text) = (opened, (refl, refl))

all-nest : (opened : List (List ℕ)) (pieces : List Piece) → AllGo Balanced opened (all_balanced opened pieces) (all_open_after opened pieces)
unfolding all_balanced all_open_after
all-nest opened [] = refl
all-nest opened (piece ∷ pieces) =
    go-append Balanced opened (open_after opened piece) (all_open_after (open_after opened piece) pieces) (balanced opened piece) (all_balanced (open_after opened piece) pieces)
    (balanced-nests opened piece) (all-nest (open_after opened piece) pieces)

not_balanced : (opened : List (List ℕ)) (pieces : List Piece) → AllGo AsKept opened pieces opened
not_balanced opened [] = refl
not_balanced opened (piece ∷ pieces) = (opened, (refl, not_balanced opened pieces))

pub written-goes : (balance ends : Bool) (opened : List (List ℕ)) (pieces : List Piece)
    → AllGo (shape_by_balance balance) opened (written_by (shape_by_balance balance) ends opened pieces) (open_by (shape_by_balance balance) ends opened pieces)
unfolding written_by open_by
written-goes true true opened pieces =
    go-append Balanced opened (all_open_after opened pieces) [] (all_balanced opened pieces) (end_tags (all_open_after opened pieces)) (all-nest opened pieces) (all_closed (all_open_after opened pieces))
written-goes true false opened pieces =
    go-append Balanced opened (all_open_after opened pieces) (all_open_after opened pieces) (all_balanced opened pieces) [] (all-nest opened pieces) refl
written-goes false ends opened pieces = not_balanced opened pieces

pub nested-is : (opened : List (List ℕ)) (pieces : List Piece) → AllGo Balanced opened pieces [] → is_nested opened pieces ≡ true
unfolding is_nested open_after
nested-is opened [] go = ap (λ (o : List (List ℕ)). none_open o) go
nested-is opened (StartTagPiece name attributes ∷ pieces) go =
    ap (λ (o : List (List ℕ)). is_nested o pieces) go.1.0 ∙ nested-is go.0 pieces go.1.1
nested-is opened (EndTagPiece name ∷ pieces) go =
    ap (λ (o : List (List ℕ)). is_innermost o name && is_nested (drop 1 o) pieces) go.1.0
    ∙ ap (λ b. b && is_nested go.0 pieces) (bytes_eq-itself name)
    ∙ nested-is go.0 pieces go.1.1
nested-is opened (TextPiece text ∷ pieces) go = ap (λ (o : List (List ℕ)). is_nested o pieces) go.1.0 ∙ nested-is go.0 pieces go.1.1
nested-is opened (CommentPiece text ∷ pieces) go = ap (λ (o : List (List ℕ)). is_nested o pieces) go.1.0 ∙ nested-is go.0 pieces go.1.1

-- ---- only end tags come and go

no-others : (references : List (List ℕ)) → filter is_no_end_tag (end_tags references) ≡ []
no-others [] = refl
no-others (name ∷ references) = no-others references

same-others : (opened : List (List ℕ)) (piece : Piece) → filter is_no_end_tag (balanced opened piece) ≡ filter is_no_end_tag (piece ∷ [])
unfolding balanced
same-others opened (StartTagPiece name attributes) = refl
same-others opened (EndTagPiece name) = no-others (take (closed_by opened name) opened)
same-others opened (TextPiece text) = refl
same-others opened (CommentPiece text) = refl

all-same_others : (opened : List (List ℕ)) (pieces : List Piece) → filter is_no_end_tag (all_balanced opened pieces) ≡ filter is_no_end_tag pieces
unfolding all_balanced
all-same_others opened [] = refl
all-same_others opened (piece ∷ pieces) =
    filter-append is_no_end_tag (balanced opened piece) (all_balanced (open_after opened piece) pieces)
    ∙ (λ i. same-others opened piece i ++ all-same_others (open_after opened piece) pieces i)
    ∙ sym (filter-append is_no_end_tag (piece ∷ []) pieces)

pub written-others : (balance ends : Bool) (opened : List (List ℕ)) (pieces : List Piece) → filter is_no_end_tag (written_by (shape_by_balance balance) ends opened pieces) ≡ filter is_no_end_tag pieces
unfolding written_by
written-others true true opened pieces =
    filter-append is_no_end_tag (all_balanced opened pieces) (end_tags (all_open_after opened pieces))
    ∙ (λ i. all-same_others opened pieces i ++ no-others (all_open_after opened pieces) i)
    ∙ append-nil (filter is_no_end_tag pieces)
written-others true false opened pieces = ap (filter is_no_end_tag) (append-nil (all_balanced opened pieces)) ∙ all-same_others opened pieces
written-others false ends opened pieces = refl
