use Rattle.std.proofs.Common.{IfOk, OnOk, ap, not, subst, sym, ◌∙◌, ◌≡◌}
use Rattle.std.specs.BTreeMap.{is_at}
use Rattle.std.specs.List.{list_any}
use Rattle.html5check.proofs.Identities.{by_bytes, insert-same, not-not, taken-same, texts}
use Rattle.html5check.specs.Ids.{is_taken, with_id}
use Rattle.html5check.proofs.ids.Ids.take.Goals as goal
use Rattle.html5check.proofs.ids.Ids.take.Goals.{in-Err, in-Ok}

pub returns-clause-taken : goal.returns-clause-taken
returns-clause-taken c =
    let keys = c.self.inside.taken.keys in
    elim c.match-insert.branch [
      | in-Ok w ↦
          subst (λ r. IfOk r (λ was. was ≡ is_taken c.args.id.now c.args.self.now)) (sym w.result-is)
          (ap not w.in-Ok.ensures.added ∙ not-not (list_any (is_at (by_bytes c.args.id)) keys) ∙ taken-same c.args.id keys ∙ ap (is_taken c.args.id.now) c.self.view_is)
      | in-Err w ↦ subst (λ r. IfOk r (λ was. was ≡ is_taken c.args.id.now c.args.self.now)) (sym w.result-is) tt
    ]

pub returns-clause-with : goal.returns-clause-with
returns-clause-with c =
    let keys = c.self.inside.taken.keys in
    elim c.match-insert.branch [
      | in-Ok w ↦
          subst (λ r. OnOk r (texts c.insert.new.self.keys ≡ with_id c.args.id.now c.args.self.now)) (sym w.result-is)
          (ap texts w.in-Ok.ensures.keys ∙ insert-same keys c.args.id ∙ ap (with_id c.args.id.now) c.self.view_is)
      | in-Err w ↦ subst (λ r. OnOk r (texts c.insert.new.self.keys ≡ with_id c.args.id.now c.args.self.now)) (sym w.result-is) tt
    ]
