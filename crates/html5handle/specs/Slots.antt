-- What a handle is of: a session of the tokenizer, a page that is read with places, one that is cleaned, a policy to which rules are
-- added, or, where it is closed, none.
use Rattle.std.specs.Prelude.{◌||◌, ◌&&◌, ℕ, Bool, not, Option, None, Some, is_some, if◌then◌else◌}
use Rattle.html5handle.specs.declared.slot.PageSlot.{PageSlot}
use Rattle.html5handle.specs.declared.slot.PageSlot.TheVariants.{Tokenizer, Cleaner, Placed, Policy}
use Rattle.html5cleaning.specs.Cleaning.{CleaningOf}
use Rattle.html5placed.specs.PlacedSessions.{PlacedSessionOf}
use Rattle.html5policy.specs.Policy.{PolicyOf}
use Rattle.html5session.specs.RecordSessions.{RecordSessionOf}
use Rattle.html5session.specs.Session.{SessionOf}

abbrev pub session_in : PageSlot → Option RecordSessionOf
session_in (Tokenizer s) = Some s
session_in other = None

abbrev pub cleaner_in : PageSlot → Option CleaningOf
cleaner_in (Cleaner s) = Some s
cleaner_in other = None

abbrev pub placed_in : PageSlot → Option PlacedSessionOf
placed_in (Placed s) = Some s
placed_in other = None

abbrev pub policy_in : PageSlot → Option PolicyOf
policy_in (Policy policy) = Some policy
policy_in other = None

-- the session of what a handle owns
abbrev pub session_of : Option PageSlot → Option RecordSessionOf
session_of None = None
session_of (Some slot) = session_in slot

-- the page that is cleaned of what a handle owns
abbrev pub cleaner_of : Option PageSlot → Option CleaningOf
cleaner_of None = None
cleaner_of (Some slot) = cleaner_in slot

-- the page that is read with places of what a handle owns
abbrev pub placed_of : Option PageSlot → Option PlacedSessionOf
placed_of None = None
placed_of (Some slot) = placed_in slot

-- the policy of what a handle owns
abbrev pub policy_of : Option PageSlot → Option PolicyOf
policy_of None = None
policy_of (Some slot) = policy_in slot

-- what a call says if there is one before it and after it, and what it says if there is none
abbrev pub WhereOpen : {S : Type 0} → (S → S → Type 0) → Type 0 → Option S → Option S → Type 0
WhereOpen says closed (Some old) (Some new) = says old new
WhereOpen says closed None None = closed
WhereOpen says closed _ _ = ⊥

-- a place that is kept, or 0
abbrev pub place_in : Option ℕ → ℕ
place_in None = 0
place_in (Some place) = place

-- ---- the limit, of each kind

-- more is read, and what comes would go past the limit
abbrev pub is_past : Bool → Bool → Bool
is_past over fits = not over && not fits

-- a session that may hold this many bytes
abbrev pub limited : {X : Type 0} → ℕ → SessionOf X → SessionOf X
limited limit s = record s { intake = record s.intake { limit = limit } }

-- what a call answers that can be made on each: that the handle is closed, if there is none
abbrev pub status_where_open : {S C P : Type 0} → Option S → Option C → Option P → ℕ
status_where_open session cleaner placed = if is_some session || (is_some cleaner || is_some placed) then 0 else 8
