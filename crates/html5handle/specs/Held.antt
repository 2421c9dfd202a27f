-- What a handle owns.
use Rattle.std.specs.Prelude.{Option, None, Some}
use base.Fml.{Fml, ftrue}
use denote.RawPtr.{Ptr}
use Rattle.std.specs.Box.Ownership.{box_owns}
use Rattle.std_heap.specs.contracts.GlobalAllocator.TheImpl.{ghosts}
use Rattle.std_heap.specs.declared.Global.{Global}
use Rattle.html5handle.specs.declared.slot.PageSlot.{PageSlot}
use Rattle.html5handle.specs.contracts.slot.PageSlot.{the_row}

-- nothing, or the page c in its block at p with the right to free it
abbrev pub held : Global → Ptr → Option PageSlot → Fml
held g p None = ftrue
held g p (Some c) = box_owns (ghosts.dealloc_token g) the_row p c
