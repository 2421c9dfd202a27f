-- A page that is cleaned as it arrives: what is printed of it.
use Rattle.std.specs.Prelude.{ℕ, List, [], ◌++◌, Option, None, Some, Result, Ok, Err, encode_utf8_all}
use Rattle.devices.specs.Printing.{Printing}
use Rattle.html5ever_interface.specs.Sink.{Message}
use Rattle.html5ever_interface.specs.Token.{Told}
use Rattle.html5stream.specs.Pages.{RunsItems, runs_after, runs_handed, runs_page}
use Rattle.html5policy.specs.Policy.{PolicyOf}
use Rattle.html5policy.specs.Standard.{standard_policy}
use Rattle.html5policy.specs.Text.{policy_said}
use Rattle.html5policy.specs.declared.error.PolicyError.{PolicyError}
use Rattle.html5write.specs.Pieces.{Piece, pieces_text}
use Rattle.html5cleaner.specs.Balance.{end_tags, is_end, open_by, written_by}
use Rattle.html5cleaner.specs.Shape.{shape_of}
use Rattle.html5cleaner.specs.Clean.{at_start, clean_step, kept_where, opens}
use Rattle.html5elements.specs.Hidden.{Hidden, hidden_after, nothing_hidden}
use Rattle.markup5ever.specs.NamedReferences.{NamedReference}

-- the policy, what was printed, what is hidden, and the elements that are open
pub record Cleaning : Type 0 where
  pub policy : PolicyOf
  pub printed : List ℕ
  pub hidden : Hidden
  pub opened : List (List ℕ)

-- the policy, the printer, what is hidden, and the elements that are open
pub record Printed (W : Type 0) : Type 0 where
  pub policy : PolicyOf
  pub printer : Printing W
  pub hidden : Hidden
  pub opened : List (List ℕ)

-- the policy and what was printed: all that stays from one page to the next
pub record Standing : Type 0 where
  pub policy : PolicyOf
  pub printed : List ℕ

-- the policy that a text says, if it says any
abbrev pub policy_in : Result PolicyOf PolicyError → Option PolicyOf
policy_in (Ok policy) = Some policy
policy_in (Err error) = None

-- the policy of a text, or the standard policy if there is none
abbrev pub policy_by : Option (List ℕ) → Option PolicyOf
policy_by None = Some standard_policy
policy_by (Some text) = policy_in (policy_said text)

-- where a page begins
abbrev pub page_start : Standing → Cleaning
page_start s = record { policy = s.policy; printed = s.printed; hidden = nothing_hidden; opened = [] }

-- where a printer of cleaned pages stands
abbrev pub cleaning_of : {W : Type 0} → Printed W → Cleaning
cleaning_of p = record { policy = p.policy; printed = p.printer.printed; hidden = p.hidden; opened = p.opened }

abbrev pub standing_of : {W : Type 0} → Printed W → Standing
standing_of p = record { policy = p.policy; printed = p.printer.printed }

-- the bytes of pieces
abbrev pub page_bytes : List Piece → List ℕ
page_bytes pieces = encode_utf8_all (pieces_text pieces)

-- the pieces that a policy keeps of a page whose bytes are given
abbrev pub kept_of_page : PolicyOf → List NamedReference → List ℕ → List Piece
kept_of_page policy references bytes = (runs_after clean_step references (at_start policy) bytes).pieces

-- a run of text and the token after it: what is written of them is printed
abbrev pub cleaning_step : Cleaning → List ℕ → Told → ℕ → Cleaning
cleaning_step s run told line = record {
  policy = s.policy;
  printed = s.printed ++ page_bytes (written_by (shape_of s.policy) (is_end told) s.opened (kept_where s.policy s.hidden.depth run told));
  hidden = hidden_after (opens s.policy) s.hidden told;
  opened = open_by (shape_of s.policy) (is_end told) s.opened (kept_where s.policy s.hidden.depth run told);
}

-- the messages of a page, which don't depend on what was printed before it
abbrev pub page_messages : List NamedReference → Standing → List ℕ → List Message
page_messages references s bytes = runs_page clean_step references (at_start s.policy) bytes

-- the items of a page, which tell these messages, and its end those
abbrev pub PageItems : List NamedReference → Standing → List ℕ → List Message → List Message → Type 0
PageItems references s bytes tells ends = RunsItems clean_step references (at_start s.policy) bytes tells ends

-- what was printed after some messages of a page: what was printed before, and the text of the pieces that are kept of them
abbrev pub printed_of : Standing → List Message → Standing
printed_of s messages = record {
  policy = s.policy;
  printed = s.printed ++ page_bytes (runs_handed clean_step (at_start s.policy) messages).pieces;
}

-- the same, and after it the end tags of the elements that are still open
abbrev pub printed_and_closed : Standing → List Message → Standing
printed_and_closed s messages = record {
  policy = s.policy;
  printed = (printed_of s messages).printed ++ page_bytes (end_tags (runs_handed clean_step (at_start s.policy) messages).opened);
}
