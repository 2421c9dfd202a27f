-- A page that is cleaned as it arrives, and its kept part, which waits until it is taken.
--
-- No run of text and no token changes how many bytes were taken.
use Rattle.std.specs.Prelude.{◌≡◌, ℕ, List, []}
use Rattle.outbox.specs.Outgoing.{Outgoing, adding, taking}
use Rattle.html5ever_interface.specs.Token.{Told}
use Rattle.html5policy.specs.Policy.{PolicyOf}
use Rattle.html5cleaner.specs.Balance.{is_end, open_by, written_by}
use Rattle.html5cleaner.specs.Shape.{shape_of}
use Rattle.html5cleaner.specs.Clean.{kept_where, opens}
use Rattle.html5cleaner.specs.Cleaning.{page_bytes}
use Rattle.html5elements.specs.Hidden.{Hidden, hidden_after, nothing_hidden}
use Rattle.markup5ever.specs.Lists.{BeginsWith}

-- the policy, what was kept, what is hidden, and the elements that are open
pub record Buffered : Type 0 where
  pub policy : PolicyOf
  pub out : Outgoing
  pub hidden : Hidden
  pub opened : List (List ℕ)

-- where a page begins, after this many bytes were taken that belong to none
abbrev pub buffer_start : PolicyOf → ℕ → Buffered
buffer_start policy taken = record { policy = policy; out = record { bytes = []; taken = taken }; hidden = nothing_hidden; opened = [] }

-- a run of text and the token after it: their output waits after the bytes that waited
abbrev pub buffered_step : Buffered → List ℕ → Told → ℕ → Buffered
buffered_step b run told line = record {
  policy = b.policy;
  out = adding b.out (page_bytes (written_by (shape_of b.policy) (is_end told) b.opened (kept_where b.policy b.hidden.depth run told)));
  hidden = hidden_after (opens b.policy) b.hidden told;
  opened = open_by (shape_of b.policy) (is_end told) b.opened (kept_where b.policy b.hidden.depth run told);
}

-- this many bytes more were taken, and all else is as it was
abbrev pub after_taking : Buffered → ℕ → Buffered
after_taking b count = record b { out = taking b.out count }

-- by the same policy, no byte more was taken, and what was kept stays, with more after it: so what is taken next is what it was, and
-- goes on
pub record WaitsOn (old new : Buffered) : Type 0 where
  pub policy : new.policy ≡ old.policy
  pub taken : new.out.taken ≡ old.out.taken
  pub bytes : BeginsWith new.out.bytes old.out.bytes
