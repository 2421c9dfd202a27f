-- A page in its box, as the walks of the handle see it.
use mathlib.Core.List.{[]}
use mir.Syntax.{impl, tnil, dnil}
use denote.Signature.{Slot, plain}
use Rattle.std_alloc.proofs.BoxSteps.Form.{Bx}
use Rattle.std_heap.specs.contracts.Global as Heap
use Rattle.std_heap.specs.contracts.GlobalAllocator.TheImpl.{ghosts, dict}
use Rattle.std_heap.proofs.Global.TheLaws as heap
use Rattle.html5handle.specs.contracts.slot.PageSlot as PageSlot
use Rattle.html5handle.proofs.slot.PageSlot.TheLaws as slot
use Rattle.html5handle.specs.contracts.handle.parts.Parts as Parts
use Rattle.html5handle.specs.contracts.handle.Owned as Owned

-- the box, over C's memory
abbrev pub E : Bx
E = record { row = PageSlot.the_row; laws = slot.the_row_laws; al = record { row = Heap.the_row; laws = heap.the_row_laws; g = ghosts; d = dict; drops = impl [] tnil dnil } }

-- a parameter that is the parts of the box, what may own it, or its allocator
abbrev pub Taken : Slot 0
Taken = plain (λ _. Parts.the_row PageSlot.the_row Heap.the_row ghosts)

abbrev pub Keeper : Slot 0
Keeper = plain (λ _. Owned.the_row)

abbrev pub Alloc : Slot 0
Alloc = plain (λ _. Heap.the_row)
