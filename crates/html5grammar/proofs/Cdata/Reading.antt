-- A text that is one CDATA section tells the section's messages.
use Rattle.html5reading.specs.ErrorText.{end_error_in}
use Rattle.html5ever_interface.specs.Token.Told.{End}
use Rattle.std.specs.List.{list_all}
use Rattle.std.proofs.Common.{◌≡◌, ℕ, Bool, true, false, List, [], ◌∷◌, ◌++◌, refl, ap, sym, ◌∙◌}
use Rattle.std.specs.Prelude.{◌&&◌, codes, if◌then◌else◌, ◌||◌, not}
use Rattle.std.proofs.Math.Bool.{and-false}
use Rattle.std.proofs.lemmas.Bool.{and_parts}
use Rattle.std.proofs.lemmas.List.{append_assoc}
use Rattle.html5ever_interface.specs.Sink.{stepped}
use Rattle.html5ever_interface.specs.Token.{Told, Reply}
use Rattle.html5ever_interface.specs.declared.states.State.TheVariants as state
use Rattle.html5reading.specs.Cdata.{open_cdata}
use Rattle.html5reading.specs.Characters.{null, is_bad_character}
use Rattle.html5reading.specs.Comment.{begins_keyword, begins_cdata}
use Rattle.html5reading.specs.EndOfInput.{late_at_end_of, open_at_end_of, told_at_end_of, tokens_at_end}
use Rattle.html5reading.specs.NormalisedText.{normalised, line_after}
use Rattle.html5grammar.specs.Cdata.{WrittenCdata, opening_text, end_text, pieces_text, written, is_written, spell_null, spell_pieces, spell_end, spell_cdata, told_at_end, cdata_messages, open_after_cdata, IsCdata, is_piece}
use Rattle.html5grammar.specs.Spelled.{Spelled, spell_silent, spelled_messages}
use Rattle.html5reading.specs.RawText.{texts}
use Rattle.html5reading.specs.Reading.{reading, told, messages, after}
use Rattle.html5reading.specs.Reading.Here.{Tells}
use Rattle.html5reading.specs.Slice.{silent}
use Rattle.html5reading.specs.Start.{Start, Rules, is_undecided_open}
use Rattle.html5reading.specs.Start.Mode.{Data, Cdata}
use Rattle.html5reading.specs.Start.Open.{Between, InDeclaration}
use Rattle.html5grammar.proofs.HeldWords.{AreHeld, trace-held}
use Rattle.html5reading.proofs.InputLemmas.{line_after-past}
use Rattle.html5grammar.proofs.Leading.{leads-goes, trace-ends}
use Rattle.html5reading.specs.Machine.{brought_at, declaration_step, declaration_answer_step}
use Rattle.html5grammar.proofs.Cdata.Steps.{goes-cdata}
use Rattle.html5grammar.proofs.Comment.Reading.{trace-mark}
use Rattle.html5grammar.proofs.Goes.{characters, characters-spell, characters-two}
use Rattle.html5reading.proofs.ReadingLemmas.{reading-events, told-trace, messages-at_end, after-opened}
use Rattle.html5reading.proofs.Traces.{Trace, trace, trace_brought, trace_here, messages-append}

-- ---- the characters that are spelled are the text

characters-end : (last : List ℕ) (is_ended : Bool) → characters (spell_silent last ++ spell_end is_ended last) ≡ last ++ end_text is_ended
characters-end last true = characters-two (spell_silent last) (spell_end true last) last (end_text true) (characters-spell silent last) refl
characters-end last false = characters-two (spell_silent last) (spell_end false last) last (end_text false) (characters-spell silent last) refl

characters-pieces : (pieces : List (List ℕ)) (rest : List Spelled) (last end : List ℕ) → characters rest ≡ last ++ end
    → characters (spell_pieces pieces ++ rest) ≡ pieces_text pieces last ++ end
unfolding spell_pieces pieces_text
characters-pieces [] rest last end e = e
characters-pieces (piece ∷ pieces) rest last end e =
    let more : List ℕ = pieces_text pieces last in
    ap characters (append_assoc (spell_silent piece ++ spell_null piece) (spell_pieces pieces) rest ∙ append_assoc (spell_silent piece) (spell_null piece) (spell_pieces pieces ++ rest))
    ∙ characters-two (spell_silent piece) (spell_null piece ++ (spell_pieces pieces ++ rest)) piece (null ∷ (more ++ end)) (characters-spell silent piece)
    (ap (λ l. null ∷ l) (characters-pieces pieces rest last end e))
    ∙ sym (append_assoc piece (null ∷ more) end)

characters-cdata : (cdata : WrittenCdata) → characters (spell_cdata cdata) ≡ pieces_text cdata.pieces cdata.last ++ end_text cdata.is_ended
characters-cdata cdata =
    characters-pieces cdata.pieces (spell_silent cdata.last ++ spell_end cdata.is_ended cdata.last) cdata.last (end_text cdata.is_ended) (characters-end cdata.last cdata.is_ended)

-- ---- the opening, in foreign content

opening_held : (rules : Rules) (foreign : Bool) → foreign ≡ true → AreHeld rules InDeclaration foreign [] (codes "[CDATA")
unfolding AreHeld brought_at declaration_step declaration_answer_step begins_keyword begins_cdata
opening_held rules foreign e = rw e (refl, (refl, (refl, (refl, (refl, (refl, tt))))))

opening_begins : (rules : Rules) (foreign : Bool) → foreign ≡ true
    → brought_at rules foreign (InDeclaration (codes "[CDATA")) 0x5B ≡ record { settled = []; here = Tells [] (Between Cdata) }
unfolding brought_at declaration_step declaration_answer_step begins_keyword begins_cdata
opening_begins rules foreign e = rw e refl

-- ---- what the end tells

pub tokens-cdata : (rules : Rules) (held : List ℕ) → tokens_at_end rules (open_cdata held) ≡ texts held ++ end_error_in rules.exact state.CdataSection ∷ End ∷ []
unfolding late_at_end_of open_at_end_of told_at_end_of
tokens-cdata rules [] = refl
tokens-cdata rules (b ∷ held) = refl

tokens_at_end-cdata : (rules : Rules) (last : List ℕ) (is_ended : Bool)
    → tokens_at_end rules (if is_ended then Between Data else open_cdata last) ≡ told_at_end rules.exact is_ended last
unfolding late_at_end_of open_at_end_of told_at_end_of
tokens_at_end-cdata rules last true = refl
tokens_at_end-cdata rules last false = tokens-cdata rules last

decided-section : (held : List ℕ) → is_undecided_open (open_cdata held) ≡ false
decided-section [] = refl
decided-section (b ∷ held) = refl

decided-after : (last : List ℕ) (is_ended : Bool) → is_undecided_open (if is_ended then Between Data else open_cdata last) ≡ false
decided-after last true = refl
decided-after last false = decided-section last

module _ {S H : Type 0} (step : S → Told → ℕ → S) (reply : S → Told → ℕ → Reply H) (foreign : S → Bool) (rules : Rules) where
  trace-begins : (K : Start) (s : S) (before text : List ℕ) → foreign s ≡ true
      → trace step reply foreign rules s (line_after K.input before) K.last_start_tag (InDeclaration (codes "[CDATA")) (codes "[" ++ text)
      ≡ trace step reply foreign rules s (line_after K.input (before ++ codes "[")) K.last_start_tag (Between Cdata) text
  unfolding trace trace_brought trace_here stepped is_bad_character
  trace-begins K s before text e =
      rw (opening_begins rules (foreign s) e, ← line_after-past K.input before 0x5B, and-false rules.exact) refl

  -- the opening tells nothing
  trace-opening : (K : Start) (s : S) (text : List ℕ) → foreign s ≡ true
      → trace step reply foreign rules s (line_after K.input []) K.last_start_tag (Between Data) (codes "<![CDATA[" ++ text)
      ≡ trace step reply foreign rules s (line_after K.input (codes "<![CDATA[")) K.last_start_tag (Between Cdata) text
  unfolding is_bad_character
  trace-opening K s text e =
      trace-mark step reply foreign rules K s (codes "[CDATA[" ++ text)
      ∙ trace-held step reply foreign rules InDeclaration K.input (codes "<!") s K.last_start_tag [] (codes "[CDATA") (codes "[" ++ text) (opening_held rules (foreign s) e) refl
      ∙ trace-begins K s (codes "<![CDATA") text e

  -- a section is open after the opening
  trace-start : (K : Start) (s : S) (has_opening : Bool) (text : List ℕ) → (not has_opening || foreign s) ≡ true
      → trace step reply foreign rules s (line_after K.input []) K.last_start_tag (if has_opening then Between Data else Between Cdata) (opening_text has_opening ++ text)
      ≡ trace step reply foreign rules s (line_after K.input (opening_text has_opening)) K.last_start_tag (Between Cdata) text
  trace-start K s true text e = trace-opening K s text e
  trace-start K s false text e = refl

  -- the trace of a section is what it spells, and what is open after it
  pub reads : (K : Start) (s : S) (X : List ℕ) (cdata : WrittenCdata) → IsCdata K (foreign s) X cdata
      → trace step reply foreign rules s (line_after K.input []) K.last_start_tag K.opened (normalised K.input X)
      ≡ record { messages = spelled_messages rules.exact K.input (opening_text cdata.has_opening) (spell_cdata cdata); opened = open_after_cdata cdata; last_start_tag = K.last_start_tag }
  unfolding written is_written
  reads K s X cdata one =
      let text : List ℕ = pieces_text cdata.pieces cdata.last ++ end_text cdata.is_ended in
      let begins : (not cdata.has_opening || foreign s) ≡ true =
      (and_parts (not cdata.has_opening || foreign s) (list_all is_piece cdata.pieces && is_piece cdata.last) one.is_cdata).0 in
      rw (one.starts, one.text)
      (trace-start K s cdata.has_opening text begins
      ∙ ap (trace step reply foreign rules s (line_after K.input (opening_text cdata.has_opening)) K.last_start_tag (Between Cdata)) (sym (characters-cdata cdata))
      ∙ trace-ends step reply foreign rules K.input (opening_text cdata.has_opening) s K.last_start_tag (Between Cdata) (open_after_cdata cdata) (spell_cdata cdata)
      (leads-goes rules (Between Cdata) (open_after_cdata cdata) (spell_cdata cdata) (decided-after cdata.last cdata.is_ended) (goes-cdata rules.exact (foreign s) cdata one.is_cdata)))

  pub after-cdata : (K : Start) (s : S) (X : List ℕ) (cdata : WrittenCdata) → IsCdata K (foreign s) X cdata
      → (after step reply foreign rules K s X).opened ≡ open_after_cdata cdata
  after-cdata K s X cdata one = after-opened step reply foreign rules K s X ∙ ap (λ (t : Trace). t.opened) (reads K s X cdata one)

  -- a text that is one section
  pub reading-cdata : (K : Start) (s : S) (X : List ℕ) (cdata : WrittenCdata) → IsCdata K (foreign s) X cdata
      → messages (reading step reply foreign rules K s X) ≡ cdata_messages rules.exact K.input cdata
  unfolding cdata_messages
  reading-cdata K s X cdata one =
      ap messages (reading-events step reply foreign rules K s X)
      ∙ messages-append (told step reply foreign rules K s X) _
      ∙ ap (λ N. messages (told step reply foreign rules K s X) ++ N) (messages-at_end step reply foreign rules K s X)
      ∙ rw (told-trace step reply foreign rules K s X, after-cdata K s X cdata one, reads K s X cdata one, tokens_at_end-cdata rules cdata.last cdata.is_ended, one.text) refl
