-- The code reads neither reference: the ghost field of the result is picked here, from what both references show.
use Rattle.std.proofs.Common.{[], ◌∷◌, refl}
use Rattle.std.proofs.raw_atomic.Walks.{proved}
use mir.MapTy.{inst_fn}
use mir.Syntax.{Args, Dict, Fn, a_type, dcons, dnil, named}
use mir.Val.{Val, vptr, vstruct, vcons, vnil}
use base.Fml.{Fml}
use contract.Running.{tables}
use types.Kit.{‵, raw, ◌⊛◌, ◌$◌, ◌∵◌, !, qed, split, move, keep, suffices, done}
use types.Run.{no_more, and_then, returns, enter}
use types.Part.{agg}
use types.ByLocal.{alloc_all, pass_all, free_all, look_at, get, sets}
use denote.Exit.{yes}
use denote.Param.{param, bounded}
use denote.RattleType.{RattleType, owns}
use denote.Ref.{shr_vals, shr_Tells}
use denote.Shadow.{pure_i}
use denote.Signature.{plain, types_at}
use denote.Triple.Clauses.{Ended}
use denote.Triple.Entry.{alive}
use denote.Triple.Walked.{says, stay_none_ref, Stays, walk_of, ends_at, Goes-none_ref}
use Rattle.ghost_counts.specs.declared.noted.Follows.{Ghosts}
use Rattle.ghost_counts.specs.contracts.noted.Noted.{the_row}
use Rattle.ghost_counts.specs.contracts.noted.note as f
use Rattle.ghost_counts.proofs.noted.note.Statement.{statement}
use Rattle.ghost_counts.proofs.noted.note.Code as code

-- a `Noted`, whose one field has no bytes
abbrev made : Val
made = vstruct (vcons (vstruct vnil) vnil)

module _ (A B T : RattleType) (F : Ghosts T.Denot A.Denot B.Denot) (d : Dict) where
  abbrev args : Args
  args = bounded (a_type ∷ a_type ∷ a_type ∷ []) (A, (B, (T, tt))) (dcons d dnil)

  abbrev function : Fn
  function = inst_fn args code.function

  abbrev ended : Ended
  ended = f.ended A B T F d

  abbrev stayed : Stays ended.signature.params ended.kept
  stayed = (stay_none_ref (0 ∷ []) tt (plain (λ _. param 0 A)) yes, (stay_none_ref (1 ∷ []) tt (plain (λ _. param 1 B)) yes, tt))

pub note_spec : {M : Type 1} → statement M
note_spec 𝓤 𝓛 𝓜 𝓡 wired A B T LA LB LT F d met =
    let E = ended A B T F d in
    let S = stayed A B T F d in
    let e = function A B T F d in
    let c = f.clauses A B T F d 𝓛 𝓜.mem 𝓡.returns in
    let 𝓣 = tables 𝓤 𝓛.H 𝓜 𝓡 𝓡.env in
    let Row : RattleType = the_row (param 2 T) in
    proved 𝓛 E S c 𝓜 𝓡
    (Goes-none_ref 𝓛 5 (0 ∷ []) tt (plain (λ _. param 0 A)) yes, (Goes-none_ref 𝓛 5 (1 ∷ []) tt (plain (λ _. param 1 B)) yes, tt))
    (f.Key.name (args A B T F d)) e (code.unfolded 𝓤 𝓛.H 𝓜 𝓡 wired (A, (B, (T, tt))) d)
    (λ κs. (shr_vals, (shr_vals, tt)))
    (λ κs. (shr_Tells (named 0) κs.0 (param 0 A), (shr_Tells (named 1) κs.1.0 (param 1 B), tt))) (λ κs qs bounds a g are.
    let first : Val = vptr a.0.ref_ptr.0 a.0.ref_ptr.1 in
    let second : Val = vptr a.1.0.ref_ptr.0 a.1.0.ref_ptr.1 in
    let bound : (walk_of 𝓛 E S c).Ghost = ((κs, qs, bounds, a, (first ∷ [], (second ∷ [], tt))), g) in
    let passed : Fml = owns (types_at E.signature.params κs) a bound.0.4 in
    let noted : Row.Denot = record { of = record {}; value = F.follows a.0.now a.1.0.now } in
    qed 𝓛 ((raw (alive 𝓛 E.signature κs qs) ⊛ ‵ passed) ∷ raw ((c κs a).requires g) ∷ []) ∵ keep ! (0 ∷ []) $ split ! $
    enter ! 𝓣.C 𝓣.Λ e (first ∷ second ∷ []) _ $ alloc_all ! (λ l. pass_all ! refl ((tt, tt), ((tt, tt), tt)) $
    sets ! (agg ! (no_more !)) refl (tt, tt) $ sets ! (agg ! (and_then ! (get ! refl) (no_more !))) refl (tt, (tt, tt)) $
    returns ! (look_at ! 0 refl) $ free_all ! refl $
    suffices ! _ (ends_at 𝓛 E S c bound made noted (tt, (tt, tt)) (tt, (tt, tt))) $ says ! refl $
    pure_i ! (Row.own_val noted (made ∷ [])) ((λ vss. (tt, ((λ uss. (tt, tt)), tt))), tt) (((vstruct vnil ∷ [], tt), (refl, ((tt, (refl, tt)), tt))), tt) $
    move ! (1 ∷ 2 ∷ 0 ∷ []) $ done !))
