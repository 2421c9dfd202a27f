-- What an owner owns may go to another thread: the page in its block, and the right to free it.
use mir.Raw.{raw}
use denote.Memory.{lone}
use denote.Struct.Struct.{exits_of}
use denote.Struct.Owning.{shape, fields, to}
use denote.RawPtr.{Ptr}
use base.Shift.{Keyless}
use denote.Param.Send.{IsSend, AllSend, owning_send, struct_send, sendable}
use Rattle.std.specs.Prelude.{Option, None, Some}
use Rattle.std.proofs.Crossing as heap
use Rattle.std_alloc.proofs.SendSync.{quiet, lies}
use Rattle.std_heap.proofs.Global.TheSendSync as handle
use Rattle.std_heap.specs.declared.Global.{Global}
use Rattle.html5handle.specs.Held.{held}
use Rattle.html5handle.specs.contracts.slot.PageSlot as PageSlot
use Rattle.html5handle.specs.declared.slot.PageSlot.{PageSlot as Page}
use Rattle.html5handle.proofs.slot.PageSlot.TheSendSync.{the_send as slot}
use Rattle.html5handle.specs.contracts.handle.Owned.{the_row, the_type}

crosses : (alloc : Global) (at : Ptr) (value : Option Page) → Keyless (held alloc at value)
crosses alloc at None = tt
crosses alloc at (Some page) = (lies PageSlot.the_row slot at page, heap.frees.frees alloc (raw (lone PageSlot.the_row.mir)) at)

pub send : IsSend the_row
send =
    let all : AllSend (fields the_type) = (search sendable, (handle.the_field_send, tt)) in
    owning_send the_type all (λ d. crosses d.alloc d.at d.value)
    (λ k. quiet (to the_type) (exits_of k (fields the_type)) ((struct_send (shape the_type) all).leaving k))
