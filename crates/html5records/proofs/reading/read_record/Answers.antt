use Rattle.std.proofs.Common.{ap, ◌∙◌}
use Rattle.html5records.specs.Reading.{read_record}
use Rattle.html5records.proofs.ReadBack.{read_record-record}
use Rattle.html5records.proofs.ReadOnly.{read_as, read_shorter}
use Rattle.html5records.proofs.reading.read_record.Goals as goal

pub returns-clause-back : goal.returns-clause-back
returns-clause-back c = λ m rest whole is. c.read_message.ensures ∙ ap read_record is ∙ read_record-record m rest whole

pub returns-clause-only : goal.returns-clause-only
returns-clause-only c = read_as c.read_message.result _ c.args.bytes.now (λ i. (c.type_inv.bytes i).fits) c.read_message.ensures

pub returns-clause-shorter : goal.returns-clause-shorter
returns-clause-shorter c = read_shorter c.read_message.result _ c.args.bytes.now (λ i. (c.type_inv.bytes i).fits) c.read_message.ensures
