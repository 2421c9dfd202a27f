-- A text that is one tag, after which the sink keeps on, tells the tag's messages.
use Rattle.std.proofs.Common.{◌≡◌, ℕ, List, [], refl, ap, ◌∙◌}
use Rattle.html5ever_interface.specs.Sink.{Means}
use Rattle.html5ever_interface.specs.Token.Told.{Tag}
use Rattle.html5ever_interface.specs.Token.Reply.{KeepOn}
use Rattle.html5reading.specs.Characters.{greater_than}
use Rattle.html5reading.specs.EndOfInput.{late_at_end_of, open_at_end_of, told_at_end_of}
use Rattle.html5reading.specs.NormalisedText.{normalised, line_after}
use Rattle.html5reading.specs.Reading.{reading, read, told, messages, after, end_events, late_events, last_after, open_after_reply}
use Rattle.html5reading.specs.Start.{Start, Rules}
use Rattle.html5reading.specs.Start.Mode.{Data}
use Rattle.html5reading.specs.Start.Open.{Between}
use Rattle.html5reading.proofs.ReadingLemmas.{told-trace, after-opened, reading-events}
use Rattle.html5reading.proofs.Traces.{Trace, trace, messages-append}
use Rattle.html5grammar.specs.Spelled.{spelled_messages}
use Rattle.html5grammar.specs.Tag.{WrittenTag, body, tag_told, end_errors, spelled, tag_messages, IsTag}
use Rattle.html5grammar.proofs.LastReply.{last_reply-keeps}
use Rattle.html5grammar.proofs.Tag.Parts.{reads-one_tag}
use Rattle.markup5ever.specs.NamedReferences.{IsTable}

module _ {Q S H : Type 0} (means : Means Q S H) (rules : Rules) where
  -- a tag to which the sink replies to keep on tells its messages
  reads-kept : (K : Start) (s : S) (X : List ℕ) (tag : WrittenTag)
      → ((t : S) (line : ℕ) → means.reply t (Tag (tag_told rules tag)) line ≡ KeepOn)
      → IsTable rules.references → IsTag K X tag
      → trace means.step means.reply means.foreign rules s (line_after K.input []) K.last_start_tag K.opened (normalised K.input X)
      ≡ record { messages = spelled_messages rules.exact K.input [] (spelled rules tag); opened = Between Data; last_start_tag = last_after K.last_start_tag (tag_told rules tag) }
  unfolding spelled
  reads-kept K s X tag keeps table one =
      let last : List ℕ = last_after K.last_start_tag (tag_told rules tag) in
      reads-one_tag means rules K s X tag table one
      ∙ ap (λ a. record { messages = spelled_messages rules.exact K.input [] (spelled rules tag); opened = open_after_reply last a; last_start_tag = last })
      (last_reply-keeps means.step means.reply means.foreign rules s K.input [] (body rules tag) greater_than (end_errors rules tag) (tag_told rules tag) keeps)

  after-tag : (K : Start) (s : S) (X : List ℕ) (tag : WrittenTag)
      → ((t : S) (line : ℕ) → means.reply t (Tag (tag_told rules tag)) line ≡ KeepOn)
      → IsTable rules.references → IsTag K X tag → (after means.step means.reply means.foreign rules K s X).opened ≡ Between Data
  after-tag K s X tag keeps table one =
      after-opened means.step means.reply means.foreign rules K s X ∙ ap (λ (t : Trace). t.opened) (reads-kept K s X tag keeps table one)

  pub reading-tag : (K : Start) (s : S) (X : List ℕ) (tag : WrittenTag)
      → ((t : S) (line : ℕ) → means.reply t (Tag (tag_told rules tag)) line ≡ KeepOn)
      → IsTable rules.references → IsTag K X tag → messages (reading means.step means.reply means.foreign rules K s X) ≡ tag_messages rules K.input tag
  unfolding end_events late_at_end_of open_at_end_of late_events told_at_end_of tag_messages
  reading-tag K s X tag keeps table one =
      let tells : messages (told means.step means.reply means.foreign rules K s X) ≡ spelled_messages rules.exact K.input [] (spelled rules tag) =
      told-trace means.step means.reply means.foreign rules K s X ∙ ap (λ (t : Trace). t.messages) (reads-kept K s X tag keeps table one) in
      ap messages (reading-events means.step means.reply means.foreign rules K s X)
      ∙ messages-append (told means.step means.reply means.foreign rules K s X) (end_events means.step means.reply means.foreign rules K (read means.step means.reply means.foreign rules K s X).opened (normalised K.input X))
      ∙ rw (tells, after-tag K s X tag keeps table one, one.text) refl
