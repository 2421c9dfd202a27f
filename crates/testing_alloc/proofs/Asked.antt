-- `admits` at a call: what it is handed, and what its caller has afterwards.
use Rattle.std.proofs.Common.{◌≡◌, ℕ, Bool, List, [], ◌∷◌, refl, ap}
use seplogic.Ra.Ura.{Ura}
use mir.Val.{Val, vbool, vptr}
use base.Logic.{SProp, ent, sep, ex, guard, id⊢}
use base.Fml.{Lft, Share, ftrue, fsep, flft}
use prog.Memory.{Memory}
use prog.Routine.{Routine}
use types.Logic.{Logic, sem}
use contract.Monad.{Fun}
use types.Kit.{‵, raw, ◌⊛◌, some, later, ◌$◌, ◌∵◌, !, qed, move, keep, use1, split, join, pick, show, fjoin, feq_i, feq_l, check, await, updating, now as at_once, done}
use denote.RattleType.{RattleType}
use denote.Memory.{hidden_shr}
use denote.Builtin.{u64, bool}
use denote.Steps.{nothing, only}
use denote.Triple.Statement.{Contract}
use denote.Triple.Spec.{triple_of}
use Rattle.std.specs.contracts.cell.Cell as cell
use Rattle.std.specs.contracts.option.Option as option
use Rattle.testing_alloc.specs.contracts.admits as asked

abbrev Left : RattleType
Left = cell.the_row (option.the_row u64)

module _ {M : Type 1} {𝓤 : Ura M} (𝓛 : Logic 𝓤) (at_mem : Memory → SProp 𝓤) (run : Routine → Fun 𝓤) where
  abbrev pub Asks : Contract 𝓤
  Asks = triple_of 𝓛 asked.signature (asked.spec 𝓛 at_mem run)

  abbrev pub at_asks : Lft → Share → ℕ × ℕ → Asks.Ghost
  at_asks κ q at = (((κ, tt), (q, tt), tt, (record { ref_ptr = at; now = record { value = tt } }, tt), (vptr at.0 at.1 ∷ [], tt)), tt)

module _ {M : Type 1} {𝓤 : Ura M} (𝓛 : Logic 𝓤) (at_mem : Memory → SProp 𝓤) (run : Routine → Fun 𝓤) (κ : Lft) (q : Share) (at : ℕ × ℕ) where
  open 𝓛 use {H, A}

  abbrev pub Says : Val → Bool → SProp 𝓤
  Says v y = guard 𝓤 (v ≡ vbool y) (A.lft κ q)

  pub Asks-goes : ent 𝓤 (sep 𝓤 (sem 𝓛 (hidden_shr Left κ (record { value = tt }) at.0 at.1)) (A.lft κ q)) ((Asks 𝓛 at_mem run).pre (at_asks 𝓛 at_mem run κ q at))
  Asks-goes =
      qed 𝓛 (‵ (hidden_shr Left κ (record { value = tt }) at.0 at.1) ∷ ‵ (flft κ q) ∷ []) ∵
      feq_i ! (List Val) (vptr at.0 at.1 ∷ []) (vptr at.0 at.1 ∷ []) refl $ fjoin ! $
      nothing ! $ move ! (1 ∷ []) $ fjoin ! $ nothing ! $ move ! (2 ∷ []) $ join ! $ join ! $ nothing ! $ move ! (1 ∷ []) $ done !

  pub Asks-gives : (v : Val) → ent 𝓤 ((Asks 𝓛 at_mem run).post (at_asks 𝓛 at_mem run κ q at) v) (H.⇛ (ex 𝓤 (Says v)))
  Asks-gives v =
      qed 𝓛 (raw ((Asks 𝓛 at_mem run).post (at_asks 𝓛 at_mem run κ q at) v) ∷ []) ∵ updating ! $
      use1 𝓛 (later (some (λ (y : Bool). ((‵ (flft κ q) ⊛ ‵ ftrue) ⊛ ‵ (bool.own_val y (v ∷ []))) ⊛
      some (λ (ws : Unit {0} × Unit {0}). ‵ (fsep ftrue ftrue) ⊛ ‵ ftrue)))) (id⊢ 𝓤 _) $ await ! tt $ pick ! (λ y.
      split ! $ split ! $ move ! (1 ∷ []) $ feq_l ! (λ e. split ! $ at_once ! $ show ! (Says v) y $ check ! (ap only e) $ keep ! (0 ∷ []) $ done !))
