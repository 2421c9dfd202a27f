use Rattle.html5errors.proofs.Words.{strip_prefix_text}
use Rattle.html5errors.proofs.messages.after_word.Goals as goal

pub returns : goal.returns
returns c = strip_prefix_text c.args.word.now c.args.text.now c.strip_prefix.result c.strip_prefix.ensures.cases
