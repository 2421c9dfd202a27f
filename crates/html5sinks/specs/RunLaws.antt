-- That a sink that joins texts keeps the laws of a sink.
use Rattle.std.specs.Prelude.{◌≡◌, ℕ, false, List, [], ◌++◌, refl}
use Rattle.std.proofs.Common.{ap}
use Rattle.std.proofs.lemmas.List.{append-nil, append_assoc}
use Rattle.html5ever_interface.specs.Token.{Told, TagOf, Reply, is_tag}
use Rattle.html5ever_interface.specs.Token.Told.{Text, Tag}
use Rattle.html5ever_interface.specs.Token.Reply.{KeepOn}
use Rattle.html5sinks.specs.Runs.{Running, joined_of, reply_where_tag, runs_step, runs_reply}

-- where what is replied goes by tags, any other token keeps on
pub tags_alone_reply : {S H : Type 0} → (reply : TagOf → Reply H) (s : S) (told : Told) (line : ℕ)
    → is_tag told ≡ false → reply_where_tag reply told ≡ KeepOn
tags_alone_reply reply s (Tag tag) line no_tag = absurd cc
tags_alone_reply reply s other line no_tag = refl

pub runs_join : {S : Type 0} → (step : S → List ℕ → Told → ℕ → S) (s : Running S) (a b : List ℕ) (line : ℕ)
    → runs_step step (runs_step step s (Text a) line) (Text b) line ≡ runs_step step s (Text (a ++ b)) line
runs_join step s a b line = ap (λ r. record s { joined = joined_of s.joined.handler r }) (append_assoc s.joined.run a b)

pub runs_empty : {S : Type 0} → (step : S → List ℕ → Told → ℕ → S) (s : Running S) (line : ℕ)
    → runs_step step s (Text []) line ≡ s
runs_empty step s line = ap (λ r. record s { joined = joined_of s.joined.handler r }) (append-nil s.joined.run)

pub runs_keep_on : {S H : Type 0} → (reply : S → List ℕ → TagOf → ℕ → Reply H) (s : Running S) (told : Told) (line : ℕ)
    → is_tag told ≡ false → runs_reply reply s told line ≡ KeepOn
runs_keep_on reply s told line = tags_alone_reply (λ tag. reply s.joined.handler s.joined.run tag line) s told line
