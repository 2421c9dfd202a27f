-- Table text that was collected: runs of it are inserted one after another, and nothing of that looks at what is collected.
use Rattle.std.specs.Prelude.{ℕ, Bool, true, false, List, [], ◌∷◌, ◌++◌}
use Rattle.std.proofs.Common.{◌≡◌, refl, ap, ◌∙◌}
use Rattle.tree_construction.specs.Formatting.{Listed, reconstructed, reopened, reopened_one, still_listed, to_reopen}
use Rattle.tree_construction.specs.InBody.{character_in_body}
use Rattle.tree_construction.specs.Parser.{Parser, insert_character, not_frameset_ok, unexpected}
use Rattle.tree_construction.specs.Tables.{flushed_as_space, flushed_fostered, fostered, is_all_space}
use Rattle.tree_construction.specs.Tokens.{is_null, is_space}
use Rattle.tree_sink.specs.Sinks.{text_put}
use Rattle.tree_builder.specs.Built.{texted, unfostered}
use Rattle.tree_builder.specs.Characters.{flushed_text, fostering, uncollected}

-- ---- runs

pub flushed-append : (text rest : List ℕ) (p : Parser) → flushed_fostered (text ++ rest) p ≡ flushed_fostered rest (flushed_fostered text p)
unfolding flushed_fostered
flushed-append [] rest p = refl
flushed-append (c ∷ text) rest p = flushed-append text rest (fostered (character_in_body c) p)

pub flushed_none : (p : Parser) → flushed_fostered [] p ≡ p
unfolding flushed_fostered
flushed_none p = refl

pub spaces_texted : (text : List ℕ) (p : Parser) → flushed_as_space text p ≡ texted text p
unfolding flushed_as_space text_put
spaces_texted [] p = refl
spaces_texted (c ∷ text) p = spaces_texted text (insert_character c p)

-- ---- what is collected

reopened-pending : (es : List Listed) (p : Parser) → reopened es (uncollected p) ≡ uncollected (reopened es p)
unfolding reopened
reopened-pending [] p = refl
reopened-pending (e ∷ es) p = ap (reopened_one e) (reopened-pending es p)

reconstructed-pending : (p : Parser) → reconstructed (uncollected p) ≡ uncollected (reconstructed p)
reconstructed-pending p =
    reopened-pending (to_reopen p.page.opened p.formatting) (record p { formatting = still_listed p.page.opened p.formatting })

fostered-pending : (c : ℕ) (p : Parser) → fostered (character_in_body c) (uncollected p) ≡ uncollected (fostered (character_in_body c) p)
fostered-pending c p = by (is_null c) (is_space c) refl refl
  where
    q : Parser
    q = fostering (unexpected p)

    by : (null space : Bool) → is_null c ≡ null → is_space c ≡ space
        → fostered (character_in_body c) (uncollected p) ≡ uncollected (fostered (character_in_body c) p)
    by true space n s = rw n refl
    by false true n s = rw (n, s) (ap (λ r. unfostered (insert_character c r)) (reconstructed-pending q))
    by false false n s = rw (n, s) (ap (λ r. unfostered (not_frameset_ok (insert_character c r))) (reconstructed-pending q))

flushed-pending : (text : List ℕ) (p : Parser) → flushed_fostered text (uncollected p) ≡ uncollected (flushed_fostered text p)
unfolding flushed_fostered
flushed-pending [] p = refl
flushed-pending (c ∷ text) p =
    ap (flushed_fostered text) (fostered-pending c p) ∙ flushed-pending text (fostered (character_in_body c) p)

spaces-pending : (text : List ℕ) (p : Parser) → flushed_as_space text (uncollected p) ≡ uncollected (flushed_as_space text p)
unfolding flushed_as_space
spaces-pending [] p = refl
spaces-pending (c ∷ text) p = spaces-pending text (insert_character c p)

pub collected-apart : (text : List ℕ) (p : Parser) → flushed_text text (uncollected p) ≡ uncollected (flushed_text text p)
collected-apart text p = by (is_all_space text) refl
  where
    by : (spaces : Bool) → is_all_space text ≡ spaces → flushed_text text (uncollected p) ≡ uncollected (flushed_text text p)
    by true e = rw e (spaces-pending text p)
    by false e = rw e (flushed-pending text p)
