-- The sinks of the tests: what they reply to what they are sent.
use Rattle.std.specs.Prelude.{◌≡◌, ℕ, suc, Bool, true, false, List, [], ◌++◌, refl, ◌&&◌, ◌%◌, ◌==◌, if◌then◌else◌, codes, bytes_eq}
use Rattle.std.proofs.Common.{ap}
use Rattle.html5ever_interface.specs.Collected.{Collected, collected_step, collected_faulted, collected_finish}
use Rattle.html5ever_interface.specs.CollectorLaws.{collected_joins, collected_empty, collected_any_line}
use Rattle.html5ever_interface.specs.Token.{Told, Reply, is_tag}
use Rattle.html5ever_interface.specs.Token.Told.{Text, Tag}
use Rattle.html5ever_interface.specs.Token.Reply.{KeepOn, ReadPlainText, ReadRawData, RunScript}
use Rattle.html5ever_interface.specs.declared.interface.token.TagKind.{TagKind}
use Rattle.html5ever_interface.specs.declared.interface.token.TagKind.TheVariants.{StartTag, EndTag}
use Rattle.html5ever_interface.specs.declared.states.RawKind.TheVariants.{Rawtext}

abbrev pub is_start_tag : TagKind → Bool
is_start_tag StartTag = true
is_start_tag EndTag = false

-- whether a start tag of that name is sent
abbrev pub is_start_of : List ℕ → Told → Bool
is_start_of name (Tag tag) = is_start_tag tag.kind && bytes_eq tag.name name
is_start_of name other = false

-- after the start tag `p` all is plain text, after `s` a script is run, and after `x` stands a raw text
abbrev pub reply_to : Told → Reply ℕ
reply_to told =
    if is_start_of (codes "p") told then ReadPlainText
    else if is_start_of (codes "s") told then RunScript 7
    else if is_start_of (codes "x") told then ReadRawData Rawtext
    else KeepOn

abbrev pub steering_reply : Collected → Told → ℕ → Reply ℕ
steering_reply c told line = reply_to told

pub steering_keeps_on : (c : Collected) (told : Told) (line : ℕ) → is_tag told ≡ false → steering_reply c told line ≡ KeepOn
steering_keeps_on c (Tag tag) line no_tag = absurd cc
steering_keeps_on c other line no_tag = refl

-- ---- a sink that counts tags: the content is foreign while their number is odd, and after each third tag a script is run

pub record Alternated : Type 0 where
  pub collected : Collected
  -- how many tags were sent
  pub tags : ℕ

-- how many tags there are with what is sent
abbrev pub tags_with : ℕ → Told → ℕ
tags_with tags (Tag tag) = suc tags
tags_with tags other = tags

-- what is replied to what is sent, with which there are this many tags
abbrev pub reply_at : ℕ → Told → Reply ℕ
reply_at tags (Tag tag) = if tags % 3 == 0 then RunScript tags else KeepOn
reply_at tags other = KeepOn

abbrev pub alternated_step : Alternated → Told → ℕ → Alternated
alternated_step s told line = record { collected = collected_step s.collected told line; tags = tags_with s.tags told }

abbrev pub alternated_reply : Alternated → Told → ℕ → Reply ℕ
alternated_reply s told line = reply_at (tags_with s.tags told) told

abbrev pub alternated_faulted : Alternated → Told → ℕ → Alternated
alternated_faulted s told line = record s { collected = collected_faulted s.collected told line }

abbrev pub alternated_finish : Alternated → Alternated
alternated_finish s = record s { collected = collected_finish s.collected }

pub alternated_joins : (s : Alternated) (a b : List ℕ) (line : ℕ)
    → alternated_step (alternated_step s (Text a) line) (Text b) line ≡ alternated_step s (Text (a ++ b)) line
alternated_joins s a b line = ap (λ c. record s { collected = c }) (collected_joins s.collected a b line)

pub alternated_empty : (s : Alternated) (line : ℕ) → alternated_step s (Text []) line ≡ s
alternated_empty s line = ap (λ c. record s { collected = c }) (collected_empty s.collected line)

pub alternated_any_line : (s : Alternated) (a : List ℕ) (line other : ℕ) → alternated_step s (Text a) line ≡ alternated_step s (Text a) other
alternated_any_line s a line other = ap (λ c. record s { collected = c }) (collected_any_line s.collected a line other)

pub alternated_keeps_on : (s : Alternated) (told : Told) (line : ℕ) → is_tag told ≡ false → alternated_reply s told line ≡ KeepOn
alternated_keeps_on s (Tag tag) line no_tag = absurd cc
alternated_keeps_on s other line no_tag = refl

-- ---- a sink that counts the tokens other than text

-- how many there are with what is sent
abbrev pub counted_with : ℕ → Told → ℕ
counted_with count (Text text) = count
counted_with count other = suc count

abbrev pub counted_step : ℕ → Told → ℕ → ℕ
counted_step count told line = counted_with count told

abbrev pub counted_reply : {H : Type 0} → ℕ → Told → ℕ → Reply H
counted_reply count told line = KeepOn

pub counted_joins : (count : ℕ) (a b : List ℕ) (line : ℕ)
    → counted_step (counted_step count (Text a) line) (Text b) line ≡ counted_step count (Text (a ++ b)) line
counted_joins count a b line = refl

pub counted_empty : (count : ℕ) (line : ℕ) → counted_step count (Text []) line ≡ count
counted_empty count line = refl

pub counted_any_line : (count : ℕ) (a : List ℕ) (line other : ℕ) → counted_step count (Text a) line ≡ counted_step count (Text a) other
counted_any_line count a line other = refl

pub counted_keeps_on : {H : Type 0} → (count : ℕ) (told : Told) (line : ℕ) → is_tag told ≡ false → counted_reply {H = H} count told line ≡ KeepOn
counted_keeps_on count told line no_tag = refl
