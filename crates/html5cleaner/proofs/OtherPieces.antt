-- By the rule `balance` only end tags come and go.
use Rattle.std.proofs.Common.{◌≡◌, ℕ, Bool, false, List, ◌++◌, filter, refl, ap, sym, ◌∙◌}
use Rattle.std.proofs.lemmas.List.Elements.{filter-append}
use Rattle.html5ever_interface.specs.Sink.{Message}
use Rattle.html5ever_interface.specs.Token.{Told}
use Rattle.html5ever_interface.specs.Token.Told.{Tag}
use Rattle.html5stream.proofs.Handed.{between-handed}
use Rattle.html5stream.specs.Pages.{runs_handed, runs_page}
use Rattle.markup5ever.specs.NamedReferences.{NamedReference}
use Rattle.html5elements.specs.Hidden.{Hidden, hidden_after}
use Rattle.html5policy.specs.Policy.{PolicyOf, hides, is_allowed, is_kept}
use Rattle.html5write.specs.Pieces.{Piece}
use Rattle.html5cleaner.specs.Balance.{is_end, is_no_end_tag, without_balance, written_by}
use Rattle.html5cleaner.specs.Clean.{Cleaned, at_start, clean_step, kept_attributes, kept_of_parts, kept_of_tag, kept_where, opens}
use Rattle.html5cleaner.specs.Shape.{shape_of}
use Rattle.html5cleaner.proofs.Balancing.{written-others}
use Rattle.html5cleaner.proofs.NestedPages.{shape-flat}
use Rattle.html5cleaner.proofs.SameReadings.{page-same}

-- the same policy with other rules of how kept pieces are written
abbrev pub with_rules : PolicyOf → Bool → Bool → ℕ → PolicyOf
with_rules policy balance tree limit = record policy { balance = balance; tree = tree; depth = limit }

-- neither kept nor hidden parts depend on these rules
pub same-kept : (policy : PolicyOf) (balance tree : Bool) (limit depth : ℕ) (run : List ℕ) (told : Told)
    → kept_where policy depth run told ≡ kept_where (with_rules policy balance tree limit) depth run told
unfolding kept_of_tag kept_of_parts kept_attributes is_kept is_allowed
same-kept policy balance tree limit depth run (Tag tag) = refl
same-kept policy balance tree limit depth run other = refl

pub same-hidden : (policy : PolicyOf) (balance tree : Bool) (limit : ℕ) (hidden : Hidden) (told : Told)
    → hidden_after (opens policy) hidden told ≡ hidden_after (opens (with_rules policy balance tree limit)) hidden told
unfolding hides
same-hidden policy balance tree limit hidden (Tag tag) = refl
same-hidden policy balance tree limit hidden other = refl

-- without the rule `tree` only end tags come and go
flat-others : (policy : PolicyOf) → policy.tree ≡ false → (ends : Bool) (opened : List (List ℕ)) (pieces : List Piece)
    → filter is_no_end_tag (written_by (shape_of policy) ends opened pieces) ≡ filter is_no_end_tag pieces
flat-others policy flat ends opened pieces =
    ap (λ shape. filter is_no_end_tag (written_by shape ends opened pieces)) (shape-flat policy flat) ∙ written-others policy.balance ends opened pieces

-- where a handler stands, and one by the same policy without the rule
record IsTwin (policy : PolicyOf) (c twin : Cleaned) : Type 0 where
  keeps : c.policy ≡ policy
  plain : twin.policy ≡ without_balance policy
  hidden : c.hidden ≡ twin.hidden
  flat : policy.tree ≡ false
  others : filter is_no_end_tag c.pieces ≡ filter is_no_end_tag twin.pieces

twin-step : (policy : PolicyOf) (c twin : Cleaned) (run : List ℕ) (told : Told) (line : ℕ) → IsTwin policy c twin → IsTwin policy (clean_step c run told line) (clean_step twin run told line)
twin-step policy c twin run told line t =
    let kept : List Piece = kept_where c.policy c.hidden.depth run told in
    let other : List Piece = kept_where twin.policy twin.hidden.depth run told in
    let same : kept ≡ other =
    (λ i. kept_where (t.keeps i) (t.hidden i).depth run told) ∙ same-kept policy false policy.tree policy.depth twin.hidden.depth run told ∙ ap (λ p. kept_where p twin.hidden.depth run told) (sym t.plain) in
    record {
      keeps = t.keeps;
      plain = t.plain;
      flat = t.flat;
      hidden = (λ i. hidden_after (opens (t.keeps i)) (t.hidden i) told) ∙ same-hidden policy false policy.tree policy.depth twin.hidden told ∙ ap (λ p. hidden_after (opens p) twin.hidden told) (sym t.plain);
      others =
          filter-append is_no_end_tag c.pieces (written_by (shape_of c.policy) (is_end told) c.opened kept)
          ∙ (λ i. t.others i ++ flat-others c.policy (ap (λ p. p.tree) t.keeps ∙ t.flat) (is_end told) c.opened kept i)
          ∙ ap (λ l. filter is_no_end_tag twin.pieces ++ filter is_no_end_tag l) same
          ∙ ap (λ l. filter is_no_end_tag twin.pieces ++ l) (sym (flat-others twin.policy (ap (λ p. p.tree) t.plain ∙ t.flat) (is_end told) twin.opened other))
          ∙ sym (filter-append is_no_end_tag twin.pieces (written_by (shape_of twin.policy) (is_end told) twin.opened other));
    }

twins-handed : (policy : PolicyOf) (M : List Message) → policy.tree ≡ false
    → filter is_no_end_tag (runs_handed clean_step (at_start policy) M).pieces ≡ filter is_no_end_tag (runs_handed clean_step (at_start (without_balance policy)) M).pieces
twins-handed policy M flat =
    (between-handed clean_step clean_step (IsTwin policy) (twin-step policy) (at_start policy) (at_start (without_balance policy)) M
    (record { keeps = refl; plain = refl; hidden = refl; flat = flat; others = refl })).others

-- of a page whose bytes are given
pub same-others : (policy : PolicyOf) (references : List NamedReference) (bytes : List ℕ) → policy.tree ≡ false
    → filter is_no_end_tag (runs_handed clean_step (at_start policy) (runs_page clean_step references (at_start policy) bytes)).pieces
    ≡ filter is_no_end_tag (runs_handed clean_step (at_start (without_balance policy)) (runs_page clean_step references (at_start (without_balance policy)) bytes)).pieces
same-others policy references bytes flat =
    twins-handed policy (runs_page clean_step references (at_start policy) bytes) flat
    ∙ ap (λ M. filter is_no_end_tag (runs_handed clean_step (at_start (without_balance policy)) M).pieces)
    (page-same clean_step clean_step references (at_start policy) (at_start (without_balance policy)) bytes)
