-- How a call that sends its sink some messages may leave it.
use Rattle.std.specs.Prelude.{◌≡◌, ◌⊎◌, ℕ, ◌+◌, List, [], ◌∷◌, ◌++◌, Result, Ok, Err, IfErr, map, encode_utf8}
use Rattle.std.specs.List.{concat}
use Rattle.std.specs.Str.{chars}
use Rattle.html5ever_interface.specs.Sink.{Means, Message, stepped, on_line}
use Rattle.html5ever_interface.specs.Token.{Told}
use Rattle.html5ever_interface.specs.Token.Told.{Text}
use Rattle.html5reading.specs.Reading.{Here}
use Rattle.html5reading.specs.Start.{Open}
use Rattle.html5partial.specs.CurrentTag.{last_name_of}
use Rattle.html5partial.specs.Steps.{tokens_of, afterwards, Ends}
use Rattle.html5partial.specs.declared.opened.Opened.{Opened}
use Rattle.html5partial.specs.declared.opened.Progress.{Progress}
use Rattle.html5states.specs.declared.teller.Teller.{Teller}
use Rattle.html5partial.specs.declared.error.TokenizerError.{TokenizerError}
use Rattle.html5partial.specs.declared.error.TokenizerError.TheVariants.{Memory, Sink, Failed}

-- the tokens that the grammar has for one that is sent: a text for each character of a text, and else the token itself
abbrev pub tokens_in : Told → List Told
tokens_in (Text text) = map (λ c. Text (encode_utf8 c)) (chars text)
tokens_in told = told ∷ []

-- the messages are texts that make this token. Its line is that of the last of them.
pub record IsTextOf (token : Told) (line : ℕ) (messages : List Message) : Type 0 where
  pub texts : List (List ℕ)
  pub says : map (λ (m : Message). m.token) messages ≡ map (λ text. Text text) texts
  pub joined : token ≡ Text (concat texts)
  pub front : List Message
  pub last : Message
  pub ends : messages ≡ front ++ last ∷ []
  pub on_last_line : line ≡ last.line

-- a token says these messages: it is the one message, or the text that the texts of some messages make, on the line of the last
abbrev pub IsToldAs : Told → ℕ → List Message → Type 0
IsToldAs token line messages = (messages ≡ record { token = token; line = line } ∷ []) ⊎ IsTextOf token line messages

module _ {S : Type 0} (step faulted : S → Told → ℕ → S) where
  -- the sink received a prefix of the messages
  pub record StopsWithin (s : S) (M : List Message) (t : S) : Type 0 where
    pub before : List Message
    pub rest : List Message
    pub parts : M ≡ before ++ rest
    pub state : t ≡ stepped step s before

  -- the sink faulted at a token, after a prefix of the messages. The token says the next of them.
  pub record FaultsWithin (s : S) (M : List Message) (t : S) : Type 0 where
    pub before : List Message
    pub token : Told
    pub line : ℕ
    pub next : List Message
    pub rest : List Message
    pub parts : M ≡ before ++ (next ++ rest)
    pub says : IsToldAs token line next
    pub state : t ≡ faulted (stepped step s before) token line

  -- what each refusal leaves
  abbrev pub Stops : TokenizerError → S → List Message → S → Type 0
  Stops Memory s M t = StopsWithin s M t
  Stops Sink s M t = FaultsWithin s M t
  Stops Failed s M t = ⊥

  -- the sink was sent all the messages, or the call stopped within them
  abbrev pub Tells : {T : Type 0} → Result T TokenizerError → S → List Message → S → Type 0
  Tells (Ok x) s M t = t ≡ stepped step s M
  Tells (Err e) s M t = Stops e s M t

-- how far a call's answer raises the sink's count of faults
abbrev pub faults_of : {T : Type 0} → Result T TokenizerError → ℕ
faults_of (Ok x) = 0
faults_of (Err Memory) = 0
faults_of (Err Sink) = 1
faults_of (Err Failed) = 0

-- a refusal of a call that sends: out of memory, or a fault of the sink
abbrev pub IsRefusal : TokenizerError → Type 0
IsRefusal Memory = Unit {0}
IsRefusal Sink = Unit {0}
IsRefusal Failed = ⊥

-- what a teller is stays while it sends
pub record IsKept {Q Z : Type 0} (before after : Teller Q Z) : Type 0 where
  pub sink : after.sink.ghost_name ≡ before.sink.ghost_name
  pub line : after.line ≡ before.line
  pub exact_errors : after.exact_errors ≡ before.exact_errors

module _ {Q S H Z : Type 0} (means : Means Q S H) (count : Q → ℕ) where
  -- the tokens were sent on the teller's line, or the call stopped within them
  pub record Emits {T : Type 0} (result : Result T TokenizerError) (before after : Teller Q Z) (tokens : List Told) : Type 0 where
    pub tells : Tells means.step means.faulted result (means.state before.sink.now) (on_line before.line tokens) (means.state after.sink.now)
    pub refusal : IfErr result IsRefusal
    pub faults : count after.sink.now ≡ count before.sink.now + faults_of result
    pub kept : IsKept before after

  -- at a character the sink was sent what the machine tells here. What the machine leaves open is open, with the last start tag
  -- as it was.
  pub record Reads (result : Result Progress TokenizerError) (before after : Teller Q Z) (here : Here Open) (was at : Opened Z) : Type 0 where
    pub tells : Tells means.step means.faulted result (means.state before.sink.now) (on_line before.line (tokens_of here)) (means.state after.sink.now)
    pub leads : Ends result at (afterwards here)
    pub last : last_name_of at ≡ last_name_of was
    pub faults : count after.sink.now ≡ count before.sink.now + faults_of result
    pub kept : IsKept before after
