use Rattle.html5cleaner.proofs.Printing.{clean-handed}
use Rattle.html5cleaner.proofs.printed_page.prints_clean_pieces.Goals as goal

pub returns : goal.returns
returns c = clean-handed
