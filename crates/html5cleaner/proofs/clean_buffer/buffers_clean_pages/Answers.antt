use Rattle.html5cleaner.proofs.Buffers.{buffered-page, waits_on}
use Rattle.html5cleaner.proofs.clean_buffer.buffers_clean_pages.Goals as goal

pub returns : goal.returns
returns c = record { page = buffered-page; on = waits_on }
