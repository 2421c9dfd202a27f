-- Runs that are read at once from the queue.
use Rattle.std.specs.Prelude.{◌≡◌, ℕ, List, Result, OnOk}
use Rattle.html5ever_interface.specs.Sink.{Means}
use Rattle.html5ever_interface.specs.Token.Reply.{KeepOn}
use Rattle.html5reading.specs.Reading.{messages_so_far, start_after}
use Rattle.html5reading.specs.Start.{Start, Rules}
use Rattle.html5feed.specs.Feed.{first_pause}
use Rattle.html5feed.specs.Refused.{IsItem}
use Rattle.html5states.specs.Telling.{Tells}
use Rattle.html5partial.specs.declared.error.TokenizerError.{TokenizerError}
use Rattle.markup5ever.specs.BufferQueue.{TextQueue, Takes}

module _ {X S H T : Type 0} (means : Means X S H) (rules : Rules) where
  -- a run, or nothing, was taken from the queue and read. No tag ends in it, and a refusal is one within what it tells.
  pub record ReadsRun (result : Result T TokenizerError) (K L : Start) (old new : TextQueue) (s t : S) : Type 0 where
    pub run : List ℕ
    pub takes : Takes old new run
    pub is_item : IsItem rules K run
    pub tells : Tells means.step means.faulted result s (messages_so_far means rules K s run) t
    pub moves : OnOk result (L ≡ start_after means rules K s run)
    pub quiet : first_pause means s (messages_so_far means rules K s run) ≡ KeepOn
