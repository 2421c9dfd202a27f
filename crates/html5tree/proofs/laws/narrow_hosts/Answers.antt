use Rattle.html5tree.proofs.FlowHosts.{anchor-host, item-host, paragraph-host}
use Rattle.html5tree.proofs.laws.narrow_hosts.Goals as goal

pub returns-clause-paragraph : goal.returns-clause-paragraph
returns-clause-paragraph c = paragraph-host

pub returns-clause-anchor : goal.returns-clause-anchor
returns-clause-anchor c = anchor-host

pub returns-clause-list_item : goal.returns-clause-list_item
returns-clause-list_item c = item-host
