use Rattle.html5tree.proofs.FlowHosts.{fits-above, flow-suits, fragment-above, fragment-balanced}
use Rattle.html5tree.proofs.laws.fits_in_host.Goals as goal

pub returns-clause-fragment : goal.returns-clause-fragment
returns-clause-fragment c = fragment-above

pub returns-clause-balanced : goal.returns-clause-balanced
returns-clause-balanced c = fragment-balanced

pub returns-clause-within : goal.returns-clause-within
returns-clause-within c = fits-above

pub returns-clause-flow_host : goal.returns-clause-flow_host
returns-clause-flow_host c = flow-suits
