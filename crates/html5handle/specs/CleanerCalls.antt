-- What each call of the cleaner makes of the page that a handle is of. A handle has none where it is closed, or has a session of the
-- tokenizer.
use Rattle.std.specs.Prelude.{◌≡◌, ◌≢◌, ◌↔◌, ◌⊎◌, ◌-◌, ◌^◌, ◌&&◌, ℕ, Bool, nat_lt, true, false, List, [], ◌∷◌, ◌++◌, length, take, drop, min, Option, None, Some, Ok, Err}
use Rattle.std.specs.Str.{IsUtf8}
use Rattle.std.specs.Str.Lossy.{utf8_valid_len}
use Rattle.html5handle.specs.PolicyCalls.{rule_status}
use Rattle.html5handle.specs.Slots.{WhereOpen, cleaner_of, place_in}
use Rattle.html5handle.specs.declared.cleaner_opening.PolicyFault.{PolicyFault}
use Rattle.html5handle.specs.declared.cleaner_opening.PolicyFault.TheVariants as fault
use Rattle.html5handle.specs.declared.slot.PageSlot.{PageSlot}
use Rattle.html5cleaning.specs.Cleaning.{CleaningOf, EndRefused, EndsPage, FeedRefused, FeedsPiece, SaysFault, StartsPage, StaysFed, after_session_takes, buffer_of, fits_in, waiting_in}
use Rattle.html5session.specs.Intake.{EndsWithin, page_again}
use Rattle.html5session.specs.Session.{is_over}
use Rattle.html5session.specs.declared.error.SessionError.TheVariants.{Memory}
use Rattle.html5entities.specs.Standard.{standard_list}
use Rattle.html5policy.specs.Policy.{PolicyOf}
use Rattle.html5policy.specs.Standard.{standard_policy}
use Rattle.html5policy.specs.Text.{policy_said}
use Rattle.html5policy.specs.declared.error.PolicyError.{PolicyError}
use Rattle.html5policy.specs.declared.error.RuleError.TheVariants.{Memory as MemoryError}
use Rattle.html5table.specs.Listed.{entries_in}
use Rattle.markup5ever.specs.NamedReferences.{table_of}

-- ---- a new page

-- the policy of a text: the standard one if it has no bytes
abbrev pub PolicyGiven : List ℕ → PolicyOf → Type 0
PolicyGiven [] policy = policy ≡ standard_policy
PolicyGiven (b ∷ bytes) policy = policy_said (b ∷ bytes) ≡ Ok policy

-- it stands at the start of a page, which is cleaned by the policy of a text, and reads references by the standard's names
pub record StartsCleaner (s : CleaningOf) (rules : List ℕ) : Type 0 where
  pub policy : PolicyOf
  pub given : PolicyGiven rules policy
  pub starts : StartsPage policy (table_of (entries_in standard_list)) (2 ^ 64 - 1) None s
  pub utf8 : IsUtf8 rules

abbrev pub IsCleanerStart : Option CleaningOf → List ℕ → Type 0
IsCleanerStart None rules = ⊥
IsCleanerStart (Some s) rules = StartsCleaner s rules

-- the text of a policy has its first fault in this line, counted from 1, and this status says what is wrong there
pub record FaultAt (rules : List ℕ) (line status : ℕ) : Type 0 where
  pub error : PolicyError
  pub said : policy_said rules ≡ Err error
  pub at_line : error.line ≡ line
  pub cause : rule_status error.fault ≡ status
  pub no_memory : error.fault ≢ MemoryError

-- a status of those that say why a rule is refused
abbrev pub is_rule_fault : ℕ → Bool
is_rule_fault status = nat_lt 15 status && nat_lt status 30

-- when there is no policy, by the fault
abbrev pub PolicyFails : List ℕ → PolicyFault → Type 0
PolicyFails rules fault.Memory = IsUtf8 rules
PolicyFails rules (fault.BadRule line status) = IsUtf8 rules × FaultAt rules line status
PolicyFails rules (fault.NotUtf8 place) = ¬ (IsUtf8 rules) × (place ≡ utf8_valid_len rules)

abbrev pub fault_status : PolicyFault → ℕ
fault_status fault.Memory = 3
fault_status (fault.BadRule line status) = status
fault_status (fault.NotUtf8 place) = 11

abbrev pub fault_place : PolicyFault → ℕ
fault_place fault.Memory = 0
fault_place (fault.BadRule line status) = line
fault_place (fault.NotUtf8 place) = place

-- what a status of a new page says: all but DONE leave the handle closed
pub record NewCleanerSays (now : Option PageSlot) (rules : List ℕ) (place status : ℕ) : Type 0 where
  pub done : status ≡ 0 → IsCleanerStart (cleaner_of now) rules
  pub refused : status ≢ 0 → now ≡ None
  pub bad_rule : is_rule_fault status ≡ true → FaultAt rules place status
  pub policy_not_utf8 : (status ≡ 11) ↔ ¬ (IsUtf8 rules)
  pub at_byte : status ≡ 11 → place ≡ utf8_valid_len rules
  pub nowhere : is_rule_fault status ≡ false → status ≢ 11 → place ≡ 0
  pub only : (status ≡ 0) ⊎ (status ≡ 3) ⊎ (status ≡ 11) ⊎ (is_rule_fault status ≡ true)

-- ---- what a status of each call says of a handle that has a page

-- another page is at its start, by the same policy, table and limit, and decoded as this one
pub record RestartSays (old new : CleaningOf) (status : ℕ) : Type 0 where
  pub done : status ≡ 0
  pub starts : StartsPage (buffer_of old).policy old.references old.intake.limit (page_again old.intake) new

pub record CleanerFeedSays (old new : CleaningOf) (bytes : List ℕ) (status : ℕ) : Type 0 where
  pub done : status ≡ 0 → FeedsPiece old new bytes
  pub no_memory : status ≡ 3 → FeedRefused old new bytes Memory
  pub not_utf8 : status ≡ 4 → (place : ℕ) × SaysFault old new bytes place
  pub limit : (status ≡ 14) ↔ ((is_over old ≡ false) × (fits_in old (length bytes) ≡ false))
  pub over : (status ≡ 7) ↔ (is_over old ≡ true)
  -- at those two nothing changes
  pub unchanged : (status ≡ 7) ⊎ (status ≡ 14) → new ≡ old
  pub only : (status ≡ 0) ⊎ (status ≡ 3) ⊎ (status ≡ 4) ⊎ (status ≡ 7) ⊎ (status ≡ 14)

pub record CleanerEndSays (old new : CleaningOf) (status : ℕ) : Type 0 where
  pub done : status ≡ 0 → EndsPage old new
  pub no_memory : status ≡ 3 → EndRefused old new Memory
  pub cut : (status ≡ 5) ↔ ((is_over old ≡ false) × EndsWithin old.intake)
  pub over : (status ≡ 7) ↔ (is_over old ≡ true)
  -- at those two nothing changes
  pub unchanged : (status ≡ 5) ⊎ (status ≡ 7) → new ≡ old
  pub only : (status ≡ 0) ⊎ (status ≡ 3) ⊎ (status ≡ 5) ⊎ (status ≡ 7)

-- the next bytes of what was kept were copied, as many as wait and as there was room for, and dropped; nothing else changed
pub record CleanerTakeSays (old new : CleaningOf) (room out : List ℕ) (n : ℕ) : Type 0 where
  pub count : n ≡ min (length room) (length (waiting_in old))
  pub copied : out ≡ take n (waiting_in old) ++ drop n room
  pub taken : new ≡ after_session_takes old n
  -- and the fed bytes are those fed before
  pub fed : StaysFed old new

-- ---- the same, of a handle that has a page or none

abbrev pub Restarts : Option CleaningOf → Option CleaningOf → ℕ → Type 0
Restarts old new status = WhereOpen (λ s t. RestartSays s t status) (status ≡ 8) old new

abbrev pub CleanerFeeds : Option CleaningOf → Option CleaningOf → List ℕ → ℕ → Type 0
CleanerFeeds old new bytes status = WhereOpen (λ s t. CleanerFeedSays s t bytes status) (status ≡ 8) old new

abbrev pub CleanerEnds : Option CleaningOf → Option CleaningOf → ℕ → Type 0
CleanerEnds old new status = WhereOpen (λ s t. CleanerEndSays s t status) (status ≡ 8) old new

abbrev pub CleanerTakes : Option CleaningOf → Option CleaningOf → List ℕ → List ℕ → ℕ → Type 0
CleanerTakes old new room out n = WhereOpen (λ s t. CleanerTakeSays s t room out n) ((n ≡ 0) × (out ≡ room)) old new

-- where the bytes of the last refused piece stop being UTF-8
abbrev pub cleaner_error_place : Option CleaningOf → ℕ
cleaner_error_place None = 0
cleaner_error_place (Some s) = place_in s.intake.error_at

-- whether nothing more is read of the page
abbrev pub cleaner_over_in : Option CleaningOf → Bool
cleaner_over_in None = false
cleaner_over_in (Some s) = is_over s
