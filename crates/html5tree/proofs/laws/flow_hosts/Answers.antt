use Rattle.html5tree.proofs.FlowHosts.{cell-host, neutral-host, none-open-host}
use Rattle.html5tree.proofs.laws.flow_hosts.Goals as goal

pub returns-clause-nothing_open : goal.returns-clause-nothing_open
returns-clause-nothing_open c = none-open-host

pub returns-clause-cell : goal.returns-clause-cell
returns-clause-cell c = cell-host

pub returns-clause-neutral : goal.returns-clause-neutral
returns-clause-neutral c = neutral-host
