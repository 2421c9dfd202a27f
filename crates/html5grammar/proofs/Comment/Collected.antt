-- A comment tells no text, so a collector keeps its messages one by one.
use Rattle.std.proofs.Common.{◌≡◌, ℕ, Bool, true, List, [], ◌∷◌, ◌++◌, refl, ◌∙◌, ap}
use Rattle.std.specs.Prelude.{codes, flat_map}
use Rattle.html5ever_interface.specs.Collected.{Collected, none_collected, collected_step, collected_reply, collected_finish}
use Rattle.html5ever_interface.specs.Sink.{stepped, on_line}
use Rattle.html5ever_interface.specs.Token.{Told}
use Rattle.html5ever_interface.specs.Token.Told.{Comment, End}
use Rattle.html5ever_interface.specs.declared.states.State.TheVariants as state
use Rattle.html5reading.specs.Characters.{exclamation_mark, value_bytes}
use Rattle.html5reading.specs.ErrorText.{error_in}
use Rattle.html5reading.specs.NormalisedText.{line_after}
use Rattle.html5grammar.specs.Comment.{Ending, WrittenComment, before_greater_than, written, after_mark_error, spell_content, ending_errors, spell_end, spell_bogus, spell_odd, messages_of, comment_messages, IsComment}
use Rattle.html5grammar.specs.Comment.Ending.{Dashes, Bang, AtOnce, AfterDash}
use Rattle.html5grammar.specs.Comment.Opening.{Solidus, ExclamationMark}
use Rattle.html5grammar.specs.Comment.WrittenComment.{Proper, Bogus}
use Rattle.html5grammar.specs.Spelled.{Spelled, spell_silent, spelled_messages}
use Rattle.html5reading.specs.Reading.{reading, messages}
use Rattle.html5reading.specs.Start.{Input, Start, Rules}
use Rattle.html5reading.specs.Tag.{null_error}
use Rattle.html5grammar.proofs.Comment.Reading.{reading-comment}
use Rattle.html5grammar.proofs.Collected.{HasNoText, HasNoText-append, HasNoText-where, TellNoText, TellNoText-append, TellNoText-spell, TellNoText-silent, collected-on_line, collected-spelled_messages, KeepsAll, keeps-append}

module _ (exact : Bool) where
  TellNoText-content : (before content : List ℕ) → TellNoText (spell_content exact before content)
  unfolding spell_content after_mark_error
  TellNoText-content before [] = tt
  TellNoText-content before (c ∷ content) =
      (HasNoText-append (after_mark_error exact before c) _ (HasNoText-where _ _) (HasNoText-where _ _), TellNoText-content (before ++ c ∷ []) content)

  HasNoText-ending : (ending : Ending) → HasNoText (ending_errors exact ending)
  HasNoText-ending Dashes = tt
  HasNoText-ending Bang = (refl, tt)
  HasNoText-ending AtOnce = (refl, tt)
  HasNoText-ending AfterDash = (refl, tt)

  TellNoText-end : (errors : List Told) (content : List ℕ) → HasNoText errors → TellNoText (spell_end errors content)
  TellNoText-end errors content h = (HasNoText-append errors (Comment (flat_map value_bytes content) ∷ []) h (refl, tt), tt)

  TellNoText-bogus : (content : List ℕ) → TellNoText (spell_bogus exact content)
  TellNoText-bogus content = TellNoText-spell (null_error exact state.BogusComment) (λ c. HasNoText-where _ _) content

  TellNoText-odd : (content : List ℕ) → TellNoText (spell_odd exact content)
  TellNoText-odd [] = tt
  TellNoText-odd (c ∷ content) = ((refl, HasNoText-where _ _), TellNoText-bogus content)

  -- an opening, the text after it, and the `>`
  keeps-spelled : (input : Input) (opening : List ℕ) (cells : List Spelled) (errors : List Told) (content : List ℕ) → TellNoText cells → HasNoText errors
      → KeepsAll (spelled_messages exact input [] (spell_silent opening ++ (cells ++ spell_end errors content)))
  keeps-spelled input opening cells errors content h g c =
      collected-spelled_messages exact input [] c (spell_silent opening ++ (cells ++ spell_end errors content))
      (TellNoText-append (spell_silent opening) (cells ++ spell_end errors content) (TellNoText-silent opening)
      (TellNoText-append cells (spell_end errors content) h (TellNoText-end errors content g)))

  -- the messages of a comment have no text, so a collector keeps them all
  keeps-comment : (input : Input) (comment : WrittenComment) → KeepsAll (messages_of exact input comment)
  unfolding messages_of
  keeps-comment input (Proper content ending) =
      keeps-spelled input (codes "<!--") (spell_content exact [] (content ++ before_greater_than ending)) (ending_errors exact ending) content
      (TellNoText-content [] (content ++ before_greater_than ending)) (HasNoText-ending ending)
  keeps-comment input (Bogus Solidus content) =
      keeps-spelled input (codes "</") (spell_odd exact content) [] content (TellNoText-odd content) tt
  keeps-comment input (Bogus ExclamationMark content) =
      let cells : List Spelled = spell_bogus exact content in
      let line : ℕ = line_after input (codes "<!") in
      let error : Told = error_in exact state.MarkupDeclarationOpen exclamation_mark in
      keeps-append (on_line line (error ∷ [])) (spelled_messages exact input (codes "<!") (cells ++ spell_end [] content))
      (λ c. collected-on_line c line (error ∷ []) (refl, tt))
      (λ c. collected-spelled_messages exact input (codes "<!") c (cells ++ spell_end [] content)
      (TellNoText-append cells (spell_end [] content) (TellNoText-bogus content) (TellNoText-end [] content tt)))

  -- a collector that is sent one comment holds its messages
  pub collected-comment : (input : Input) (comment : WrittenComment) → KeepsAll (comment_messages exact input comment)
  unfolding comment_messages
  collected-comment input comment =
      let line : ℕ = line_after input (written comment) in
      keeps-append (messages_of exact input comment) (on_line line (End ∷ [])) (keeps-comment input comment) (λ c. collected-on_line c line (End ∷ []) (refl, tt))

-- what a collector holds after a text that is one comment
pub collects-comment : (H : Type 0) (rules : Rules) (K : Start) (foreign : Bool) (X : List ℕ) (comment : WrittenComment) → IsComment K foreign X comment
    → collected_finish (stepped collected_step (none_collected foreign) (messages (reading collected_step (collected_reply {H = H}) (λ (c : Collected). c.foreign) rules K (none_collected foreign) X)))
    ≡ record { messages = comment_messages rules.exact K.input comment; finished = true; foreign = foreign }
collects-comment H rules K foreign X comment one =
    ap (λ M. collected_finish (stepped collected_step (none_collected foreign) M))
    (reading-comment collected_step (collected_reply {H = H}) (λ (c : Collected). c.foreign) rules K (none_collected foreign) X comment one)
    ∙ ap collected_finish (collected-comment rules.exact K.input comment (none_collected foreign))
