-- A page of a policy with the rule `tree` fits, and so it is nested.
use Rattle.std.proofs.Common.{◌≡◌, ℕ, ◌≤◌, Bool, true, false, List, [], ◌∷◌, drop, length, map, refl, ap, sym, ◌∙◌, arith}
use Rattle.std.specs.Prelude.{◌&&◌, ◌||◌, encode_utf8_all, if◌then◌else◌}
use Rattle.std.specs.Str.{bytes_eq}
use Rattle.std.proofs.lemmas.Bool.{false≢true, and_from, and_parts}
use Rattle.html5elements.specs.Elements as elements
use Rattle.html5nested.specs.PageItems.{attribute_item, has_no_comment, items_of}
use Rattle.html5nested.proofs.Markup.{known}
use Rattle.html5policy.specs.Policy.{PolicyOf}
use Rattle.html5stream.specs.Pages.{runs_handed, runs_page}
use Rattle.html5tree.specs.Fitting.{all_fit, all_open_after, can_open, each_fits, fits, none_open, open_after}
use Rattle.html5tree.specs.Items.{Attribute}
use Rattle.html5tree.specs.Items.Item.{EndTag, StartTag}
use Rattle.html5tree.specs.Names.{kind_of, named}
use Rattle.html5tree.specs.Normal.{stays_within}
use Rattle.html5tree.specs.Scopes.{top_is}
use Rattle.html5tree.proofs.RightPlans.{IsFitting, each-fits, open-fitting, within-fitting}
use Rattle.html5tree.proofs.RightPlans.IsFitting.{Done, Next}
use Rattle.html5write.specs.Pieces.{Piece}
use Rattle.html5write.specs.Pieces.Piece.{TextPiece, StartTagPiece, EndTagPiece, CommentPiece}
use Rattle.markup5ever.specs.NamedReferences.{NamedReference}
use Rattle.html5cleaner.specs.Balance as balance
use Rattle.html5cleaner.specs.Balance.{is_innermost, is_nested}
use Rattle.html5cleaner.specs.Clean.{at_start, clean_step}
use Rattle.html5cleaner.specs.Cleaning.{kept_of_page}
use Rattle.html5cleaner.specs.Shape.Shape.{Tree}
use Rattle.html5cleaner.proofs.Balancing.{AllGo}
use Rattle.html5cleaner.proofs.ItemPieces.{open-known}
use Rattle.html5cleaner.proofs.KnownNames.{known-encoded, known-void}
use Rattle.html5cleaner.proofs.NestedPages as pages
use Rattle.html5cleaner.proofs.NestedPages.{fitting-page}
use Rattle.html5cleaner.proofs.ShapeRuns.{text-goes}
use Rattle.html5cleaner.proofs.TreePages.{go-fitting, go-no_comment}

-- ---- a page that fits

pub page-fits : (policy : PolicyOf) (references : List NamedReference) (bytes : List ℕ) → policy.tree ≡ true → all_fit [] (items_of (kept_of_page policy references bytes)) ≡ true
page-fits policy references bytes tree =
    let items = items_of (kept_of_page policy references bytes) in
    let fit = go-fitting policy.depth [] [] (kept_of_page policy references bytes) (fitting-page policy references bytes tree) in
    and_from (each_fits [] items) (none_open (all_open_after [] items)) (each-fits policy.depth [] [] items fit) (ap none_open (open-fitting policy.depth [] [] items fit))

abbrev nothing_open : List (List ℕ)
nothing_open = []

nothing-within : (limit : ℕ) → length nothing_open ≤ limit
nothing-within limit = omega arith

pub page-within : (policy : PolicyOf) (references : List NamedReference) (bytes : List ℕ) → policy.tree ≡ true
    → stays_within policy.depth [] (items_of (kept_of_page policy references bytes)) ≡ true
page-within policy references bytes tree =
    within-fitting policy.depth [] [] (items_of (kept_of_page policy references bytes)) (nothing-within policy.depth)
    (go-fitting policy.depth [] [] (kept_of_page policy references bytes) (fitting-page policy references bytes tree))

pub page-no_comment : (policy : PolicyOf) (references : List NamedReference) (bytes : List ℕ) → policy.tree ≡ true → has_no_comment (kept_of_page policy references bytes) ≡ true
page-no_comment policy references bytes tree = go-no_comment policy.depth [] [] (kept_of_page policy references bytes) (fitting-page policy references bytes tree)

-- ---- it is nested

-- a start tag that fits opens its element
start-nests : (limit : ℕ) (opened : List (List ℕ)) (name : List ℕ) (attributes : List Attribute) (after : List (List ℕ)) → IsFitting limit opened (StartTag (encode_utf8_all name) attributes ∷ []) after
    → (if elements.is_void (encode_utf8_all name) then opened else name ∷ opened) ≡ after
unfolding open_after
start-nests limit opened name attributes after (Next i f l Done) =
    let k = known opened (encode_utf8_all name) attributes f in
    λ j. if known-void (encode_utf8_all name) k j then opened else sym (known-encoded name k) j ∷ opened

-- an end tag that fits closes the innermost element
end-nests : (limit : ℕ) (opened : List (List ℕ)) (name : List ℕ) (after : List (List ℕ)) → IsFitting limit opened (EndTag (encode_utf8_all name) ∷ []) after
    → (is_innermost opened name ≡ true) × (drop 1 opened ≡ after)
unfolding open_after fits
end-nests limit [] name after (Next i f l Done) =
    absurd (false≢true (and_parts (can_open (kind_of (encode_utf8_all name))) false f).1)
end-nests limit (top ∷ opened) name after (Next i f l Done) =
    let parts = and_parts (can_open (kind_of (encode_utf8_all name))) (named (encode_utf8_all name) top) f in
    (ap (bytes_eq top) (sym (known-encoded name (open-known (encode_utf8_all name) parts.0))) ∙ parts.1, refl)

tree-nested : (limit : ℕ) (opened after : List (List ℕ)) (pieces : List Piece) → AllGo (Tree limit) opened pieces after → after ≡ [] → is_nested opened pieces ≡ true
unfolding is_nested
tree-nested limit opened after [] go none = ap (λ (o : List (List ℕ)). balance.none_open o) (go ∙ none)
tree-nested limit opened after (TextPiece text ∷ pieces) go none =
    ap (λ (o : List (List ℕ)). is_nested o pieces) (text-goes (Tree limit) opened go.0 text go.1.0).1 ∙ tree-nested limit go.0 after pieces go.1.1 none
tree-nested limit opened after (StartTagPiece name attributes ∷ pieces) go none =
    ap (λ (o : List (List ℕ)). is_nested o pieces) (start-nests limit opened name (map attribute_item attributes) go.0 go.1.0) ∙ tree-nested limit go.0 after pieces go.1.1 none
tree-nested limit opened after (EndTagPiece name ∷ pieces) go none =
    let ends = end-nests limit opened name go.0 go.1.0 in
    (λ i. ends.0 i && is_nested (ends.1 i) pieces) ∙ tree-nested limit go.0 after pieces go.1.1 none
tree-nested limit opened after (CommentPiece text ∷ pieces) go none = absurd go.1.0

nested-where : (policy : PolicyOf) (references : List NamedReference) (bytes : List ℕ) (tree : Bool) → policy.tree ≡ tree → (policy.balance || tree) ≡ true
    → is_nested [] (kept_of_page policy references bytes) ≡ true
nested-where policy references bytes true is either = tree-nested policy.depth [] [] (kept_of_page policy references bytes) (fitting-page policy references bytes is) refl
nested-where policy references bytes false is either = pages.nested-page policy references bytes is (or-false policy.balance either)
  where
    or-false : (b : Bool) → (b || false) ≡ true → b ≡ true
    or-false true e = refl
    or-false false e = e

pub nested-page : (policy : PolicyOf) (references : List NamedReference) (bytes : List ℕ) → (policy.balance || policy.tree) ≡ true
    → is_nested [] (kept_of_page policy references bytes) ≡ true
nested-page policy references bytes either = nested-where policy references bytes policy.tree refl either
