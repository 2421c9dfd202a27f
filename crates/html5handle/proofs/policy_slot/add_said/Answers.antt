use Rattle.html5handle.proofs.PolicyStatuses.{said-refused}
use Rattle.html5handle.proofs.policy_slot.add_said.Goals as goal

pub returns-in-Err : goal.returns-in-Err
returns-in-Err c =
    said-refused c.args.policy.now c.args.rule c.args.name.now c.args.attribute.now c.in-Err.status c.in-Err.ensures.refused c.in-Err.ensures.status
