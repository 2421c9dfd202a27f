-- Where a tree builder stands as the sink of a tokenizer.
use Rattle.std.specs.Prelude.{◌≡◌, ℕ, Bool, false, Option, None}
use Rattle.html5ever_interface.specs.Sink.{Means}
use Rattle.html5ever_interface.specs.Token.{Reply, Told, told_by}
use Rattle.html5ever_interface.specs.Token.Told.{Text}
use Rattle.tree_construction.specs.Construction.{is_foreign, start}
use Rattle.tree_construction.specs.Parser.{Parser}
use Rattle.tree_construction.specs.Text.{replied_by, taken_by}
use Rattle.tree_sink.specs.declared.error.TreeBuilderError.{TreeBuilderError}
use Rattle.tree_builder.specs.Built.{Built}
use Rattle.tree_parser.specs.declared.taking.Sent.{Sent}
use Rattle.tree_parser.specs.declared.taking.Sent.TheVariants.{Token, Text as TextSent}

-- the parser of the definition after the tokens so far, and the sink of the tree as it was at the start
pub record Building (Q : Type 0) : Type 0 where
  pub parser : Parser
  pub first : Option Q

-- what contracts see of a tree builder: where it stands, and how many tokens were faults
pub record TreeBuilding (Q : Type 0) : Type 0 where
  pub state : Building Q
  pub faults : ℕ

-- ---- as the sink of a tokenizer

abbrev pub after_message : {Q : Type 0} → Building Q → Told → ℕ → Building Q
after_message s message line = record s { parser = taken_by s.parser message line }

-- the reply is the parser's request; a script is named by its number
abbrev pub replied : {Q : Type 0} → Building Q → Told → ℕ → Reply ℕ
replied s message line = replied_by s.parser message line

abbrev pub answered : {Q : Type 0} → Building Q → Bool
answered s = is_foreign s.parser

-- a fault leaves the state as it was
abbrev pub building_means : {Q : Type 0} → Means (TreeBuilding Q) (Building Q) ℕ
building_means = record {
  state = λ b. b.state;
  step = after_message;
  reply = replied;
  foreign = answered;
  finish = λ s. s;
  faulted = λ s message line. s;
  end_faulted = λ s. s;
}

-- the message of what a tokenizer sends
abbrev pub sent_by : Sent → Told
sent_by (Token token) = told_by token
sent_by (TextSent text) = Text text.now

-- ---- words of the proofs

abbrev pub standing_of : {Q : Type 0} → Built Q → Building Q
standing_of built = record { parser = built.parser; first = built.telling.start }

abbrev pub nowhere : {Q : Type 0} → Building Q
nowhere = record {
  parser = start (record { scripting = false; iframe_srcdoc = false; context = None; depth_limit = None; formatting_limit = None });
  first = None;
}

-- a builder that stands there, unless a token was a fault
pub record InStep {Q : Type 0} (built : Built Q) (s : Building Q) (foreign : Bool) (error : Option TreeBuilderError) (faults : ℕ) : Type 0 where
  pub answer : foreign ≡ is_foreign s.parser
  pub stands : error ≡ None → standing_of built ≡ s
  pub well : error ≡ None → built.telling.failed ≡ false
  pub counted : faults ≡ 0 → error ≡ None
  pub unfaulted : error ≡ None → faults ≡ 0
