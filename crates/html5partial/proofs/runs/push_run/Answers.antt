-- One case a state: each by the lemma of its state, to which the answer gives the run.
use Rattle.std.proofs.Common.{◌≡◌, ◌≢◌, ◌++◌, false, refl, ap, sym, ◌∙◌, string_bytes}
use Rattle.std.specs.Prelude.{Contains, flat_map}
use Rattle.std.specs.Str.{chars}
use Rattle.std.proofs.lemmas.List.Elements.{All-weaker}
use Rattle.std.proofs.lemmas.Str.{encodes-chars, chars-append, IsUtf8-string_bytes}
use Rattle.html5reading.specs.Characters.{null, value_bytes}
use Rattle.html5reading.specs.Cdata.{open_cdata}
use Rattle.html5reading.specs.Start.{nothing_open, held_len}
use Rattle.html5reading.specs.Start.Open.{InTag, InComment, InBogusComment, InInstruction}
use Rattle.html5reading.specs.Start.Place.{InValue}
use Rattle.html5partial.specs.CurrentTag.{open_tag}
use Rattle.html5partial.specs.Runs.{run_ends, opened_after_run}
use Rattle.html5partial.proofs.CommentStates.{open-comment}
use Rattle.html5partial.proofs.RunSteps.{value_bytes-run, no_null}
use Rattle.html5partial.proofs.Sections.{section-run, held_len-section}
use Rattle.html5partial.proofs.runs.push_run.Goals as goal

pub returns-in_ok-push_text-in-AttributeValue : goal.returns-in_ok-push_text-in-AttributeValue
returns-in_ok-push_text-in-AttributeValue g c =
    let run = chars c.args.run.now in
    let ordinary = c.requires.is_run.ordinary in
    let value : flat_map value_bytes run ≡ c.args.run.now =
    value_bytes-run run (All-weaker (λ d. ¬ Contains (run_ends c.requires.is_run.others) d) (λ d. d ≢ null) (no_null c.requires.is_run.others) run ordinary) ∙ encodes-chars c.args.run.now c.utf8.run in
    record {
      run =
          rw c.in-AttributeValue.is (ap (λ v. InTag (InValue c.in-AttributeValue.field-0) (record (open_tag c.args.at.now.tag) { last_value = v }))
          (c.in_ok-push_text-in-AttributeValue.ensures.bytes ∙ ap (λ l. string_bytes c.args.at.now.tag.attr_value ++ l) (sym value)));
      last = refl;
      held = rw c.in-AttributeValue.is refl;
    }

pub returns-in_ok-push_str-in_default : goal.returns-in_ok-push_str-in_default
returns-in_ok-push_str-in_default g c =
    let run = chars c.args.run.now in
    let value : flat_map value_bytes run ≡ c.args.run.now =
    value_bytes-run run (All-weaker (λ d. ¬ Contains (run_ends c.requires.is_run.others) d) (λ d. d ≢ null) (no_null c.requires.is_run.others) run c.requires.is_run.ordinary) ∙ encodes-chars c.args.run.now c.utf8.run in
    let is_comment = sym c.is_comment_state.ensures ∙ c.if-is_comment_state.true in
    let open_then = open-comment c.args.at.now.state (record c.args.at.now { comment = c.push_str-in_default.new.self }) is_comment in
    record {
      run =
          open_then
          ∙ ap InComment (c.in_ok-push_str-in_default.ensures.bytes ∙ ap (λ l. string_bytes c.args.at.now.comment ++ l) (sym value))
          ∙ ap (λ o. opened_after_run o run) (sym (open-comment c.args.at.now.state c.args.at.now is_comment));
      last = refl;
      held = ap held_len open_then;
    }

pub returns-in_ok-push_str-in-BogusComment-clause-run : goal.returns-in_ok-push_str-in-BogusComment-clause-run
returns-in_ok-push_str-in-BogusComment-clause-run g c =
    let run = chars c.args.run.now in
    let value : flat_map value_bytes run ≡ c.args.run.now =
    value_bytes-run run (All-weaker (λ d. ¬ Contains (run_ends c.requires.is_run.others) d) (λ d. d ≢ null) (no_null c.requires.is_run.others) run c.requires.is_run.ordinary) ∙ encodes-chars c.args.run.now c.utf8.run in
    rw c.in-BogusComment.is (ap InBogusComment (c.in_ok-push_str-in-BogusComment.ensures.bytes ∙ ap (λ l. string_bytes c.args.at.now.comment ++ l) (sym value)))

pub returns-in_ok-push_str-in-ProcessingInstruction-clause-run : goal.returns-in_ok-push_str-in-ProcessingInstruction-clause-run
returns-in_ok-push_str-in-ProcessingInstruction-clause-run g c =
    let run = chars c.args.run.now in
    let value : flat_map value_bytes run ≡ c.args.run.now =
    value_bytes-run run (All-weaker (λ d. ¬ Contains (run_ends c.requires.is_run.others) d) (λ d. d ≢ null) (no_null c.requires.is_run.others) run c.requires.is_run.ordinary) ∙ encodes-chars c.args.run.now c.utf8.run in
    rw c.in-ProcessingInstruction.is (ap InInstruction (c.in_ok-push_str-in-ProcessingInstruction.ensures.bytes ∙ ap (λ l. string_bytes c.args.at.now.comment ++ l) (sym value)))

pub returns-in_ok-push_str-in-CdataSection-clause-run : goal.returns-in_ok-push_str-in-CdataSection-clause-run
returns-in_ok-push_str-in-CdataSection-clause-run g c =
    let run = chars c.args.run.now in
    let bytes = string_bytes c.args.at.now.comment in
    let within : nothing_open (open_cdata (chars bytes)) ≡ false = rw c.in-CdataSection.is at c.requires.within in
    rw c.in-CdataSection.is
    (ap (λ l. open_cdata (chars l)) c.in_ok-push_str-in-CdataSection.ensures.bytes
    ∙ ap open_cdata (chars-append bytes c.args.run.now (IsUtf8-string_bytes c.args.at.now.comment))
    ∙ section-run (chars bytes) run within)

pub returns-in_ok-push_str-in-CdataSection-clause-held : goal.returns-in_ok-push_str-in-CdataSection-clause-held
returns-in_ok-push_str-in-CdataSection-clause-held g c = rw c.in-CdataSection.is (held_len-section _)
