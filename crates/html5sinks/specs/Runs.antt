-- What a sink that joins texts makes of what it is sent.
use Rattle.std.specs.Prelude.{ℕ, Bool, List, [], ◌++◌}
use Rattle.html5ever_interface.specs.Token.{Told, TagOf, Reply}
use Rattle.html5ever_interface.specs.Token.Told.{Text, Tag, Error}
use Rattle.html5ever_interface.specs.Token.Reply.{KeepOn}

-- a sink that joins texts: its handler, the text since the last other token, its answer about foreign content,
-- and how many tokens were refused
pub record RunSink (H : Type 0) : Type 0 where
  pub handler : H
  pub run : List ℕ
  pub foreign : Bool
  pub faults : ℕ

-- the state of a handler, and the text that it was not handed yet
pub record Joined (S : Type 0) : Type 0 where
  pub handler : S
  pub run : List ℕ

-- the state of such a sink, where `S` is that of the handler
pub record Running (S : Type 0) : Type 0 where
  pub joined : Joined S
  pub foreign : Bool

-- what is replied to a token, by what is replied to a tag
abbrev pub reply_where_tag : {H : Type 0} → (TagOf → Reply H) → Told → Reply H
reply_where_tag reply (Tag tag) = reply tag
reply_where_tag reply other = KeepOn

module _ {S : Type 0} where
  abbrev pub joined_of : S → List ℕ → Joined S
  joined_of handler run = record { handler = handler; run = run }

  -- a text joins the run, an error is handed on by itself, and another token ends the run
  abbrev pub joined_step : (S → List ℕ → Told → ℕ → S) → Joined S → Told → ℕ → Joined S
  joined_step step s (Text text) line = record s { run = s.run ++ text }
  joined_step step s (Error message) line = record s { handler = step s.handler [] (Error message) line }
  joined_step step s other line = joined_of (step s.handler s.run other line) []

  abbrev pub runs_step : (S → List ℕ → Told → ℕ → S) → Running S → Told → ℕ → Running S
  runs_step step s told line = record s { joined = joined_step step s.joined told line }

  -- the handler replies to a tag
  abbrev pub joined_reply : {H : Type 0} → (S → List ℕ → TagOf → ℕ → Reply H) → Joined S → Told → ℕ → Reply H
  joined_reply reply s told line = reply_where_tag (λ tag. reply s.handler s.run tag line) told

  abbrev pub runs_reply : {H : Type 0} → (S → List ℕ → TagOf → ℕ → Reply H) → Running S → Told → ℕ → Reply H
  runs_reply reply s told line = joined_reply reply s.joined told line

  -- a token that was refused leaves nothing
  abbrev pub runs_faulted : Running S → Told → ℕ → Running S
  runs_faulted s told line = s
