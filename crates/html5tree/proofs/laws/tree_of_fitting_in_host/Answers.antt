use Rattle.html5tree.proofs.Hosted.{first-host, host-after, host-back, host-read, host-tree}
use Rattle.html5tree.proofs.laws.tree_of_fitting_in_host.Goals as goal

pub returns-clause-first : goal.returns-clause-first
returns-clause-first c = first-host

pub returns-clause-host : goal.returns-clause-host
returns-clause-host c = host-after

pub returns-clause-back : goal.returns-clause-back
returns-clause-back c = host-back

pub returns-clause-in_place : goal.returns-clause-in_place
returns-clause-in_place c = host-tree

pub returns-clause-as_read : goal.returns-clause-as_read
returns-clause-as_read c = host-read
