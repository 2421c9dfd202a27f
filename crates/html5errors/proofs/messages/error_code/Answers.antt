use Rattle.std.proofs.Common.{◌∙◌}
use Rattle.html5errors.proofs.FixedCodes.{fixed-code}
use Rattle.html5errors.proofs.SeenCodes.{end-code, saw-code}
use Rattle.html5errors.proofs.messages.error_code.Goals as goal

pub returns-clause-saw : goal.returns-clause-saw
returns-clause-saw c = λ S seen is. c.code_of_message.ensures ∙ saw-code c.args.message.now S seen c.utf8.message is

pub returns-clause-end : goal.returns-clause-end
returns-clause-end c = λ S is. c.code_of_message.ensures ∙ end-code c.args.message.now S is

pub returns-clause-fixed : goal.returns-clause-fixed
returns-clause-fixed c = λ m is. c.code_of_message.ensures ∙ fixed-code c.args.message.now m is
