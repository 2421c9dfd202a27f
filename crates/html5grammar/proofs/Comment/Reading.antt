-- A text that is one comment tells the comment's messages.
use Rattle.std.proofs.Common.{◌≡◌, ℕ, Bool, true, List, [], ◌∷◌, ◌++◌, refl, ap, sym, ◌∙◌, subst}
use Rattle.std.specs.Prelude.{not, codes, ◌==◌}
use Rattle.std.specs.List.{list_all}
use Rattle.std.proofs.Math.Bool.{and-false}
use Rattle.std.proofs.lemmas.Bool.{and_parts, not-true}
use Rattle.std.proofs.lemmas.List.{append_assoc, map-append}
use Rattle.html5ever_interface.specs.Sink.{Message, stepped}
use Rattle.html5ever_interface.specs.Token.{Told, Reply}
use Rattle.html5ever_interface.specs.declared.states.State.TheVariants as state
use Rattle.html5reading.specs.Characters.{greater_than, is_letter, null, is_bad_character}
use Rattle.html5reading.specs.Comment.{in_bogus_comment, begins_keyword}
use Rattle.html5reading.specs.NormalisedText.{line_after}
use Rattle.html5grammar.specs.Comment.{WrittenComment, before_greater_than, written, can_open, is_written, spell_content, ending_errors, spell_end, spell_bogus, spell_odd, messages_of, comment_messages, IsComment}
use Rattle.html5grammar.specs.Comment.Opening.{Solidus, ExclamationMark}
use Rattle.html5grammar.specs.Comment.WrittenComment.{Proper, Bogus}
use Rattle.html5grammar.specs.Spelled.{Spelled, spell_silent, spelled_messages, spell}
use Rattle.html5reading.specs.Reading.{reading, messages}
use Rattle.html5reading.specs.Slice.{silent}
use Rattle.html5reading.specs.Start.{Open, Start, Rules, Input}
use Rattle.html5reading.specs.Start.Mode.{Data}
use Rattle.html5reading.specs.Start.Open.{Between, LessThan, InDeclaration, InComment, InBogusComment}
use Rattle.html5reading.specs.Tag.{null_error}
use Rattle.html5grammar.proofs.HeldWords.{IsPlain, is_good, line-plain, trace-held}
use Rattle.html5reading.specs.Machine.{brought_at, step_at, data_step, less_than_step, declaration_step}
use Rattle.html5grammar.proofs.Leading.{Leads, leads-goes, trace-leads, trace-ends, trace-text, IsRead, IsReadFrom, reading-whole, spelled_messages-append}
use Rattle.html5grammar.proofs.Comment.Steps.{goes-proper, goes-bogus_end, goes-solidus}
use Rattle.html5grammar.proofs.Comment.Text.{bytes_of}
use Rattle.html5grammar.proofs.Comment.Held.{held_of, after_held_of, held_of-plain, held-parts, are_held, decides-held, error_on, trace-decides}
use Rattle.html5grammar.proofs.Goes.{characters, characters-spell, characters-two, Goes}
use Rattle.html5reading.proofs.Traces.{trace, with_messages}

-- ---- the characters that are spelled are the text

pub characters-content : (exact : Bool) (before content : List ℕ) → characters (spell_content exact before content) ≡ content
unfolding spell_content
characters-content exact before [] = refl
characters-content exact before (c ∷ content) = ap (λ l. c ∷ l) (characters-content exact (before ++ c ∷ []) content)

pub characters-odd : (exact : Bool) (content : List ℕ) → characters (spell_odd exact content) ≡ content
characters-odd exact [] = refl
characters-odd exact (c ∷ content) = ap (λ l. c ∷ l) (characters-spell (null_error exact state.BogusComment) content)

-- an opening, the text after it, and the `>`
characters-three : (opening : List ℕ) (cells : List Spelled) (text : List ℕ) (errors : List Told) (content : List ℕ) → characters cells ≡ text
    → characters (spell_silent opening ++ (cells ++ spell_end errors content)) ≡ opening ++ (text ++ greater_than ∷ [])
characters-three opening cells text errors content e =
    characters-two (spell_silent opening) (cells ++ spell_end errors content) opening (text ++ greater_than ∷ []) (characters-spell silent opening)
    (characters-two cells (spell_end errors content) text (greater_than ∷ []) e refl)

-- ---- the machine reads them

module _ (rules : Rules) where
  -- after `<!--` a comment is open
  leads-opening : (cells : List Spelled) (later : Open) → Leads rules (InComment []) cells later
      → Leads rules (Between Data) (spell_silent (codes "<!--") ++ cells) later
  unfolding Leads brought_at step_at data_step less_than_step declaration_step begins_keyword is_letter
  leads-opening cells later leads = (LessThan, λ foreign. refl, (InDeclaration [], λ foreign. refl, (InDeclaration (codes "-"), λ foreign. refl, (InComment [], λ foreign. refl, leads))))

  -- after `<!` a keyword is undecided
  pub leads-mark : Leads rules (Between Data) (spell_silent (codes "<!")) (InDeclaration [])
  unfolding Leads brought_at step_at data_step less_than_step is_letter
  leads-mark = (LessThan, λ foreign. refl, (InDeclaration [], λ foreign. refl, refl))

-- characters that are no errors by themselves tell nothing
pub spelled-nothing : (exact : Bool) (input : Input) (tells : ℕ → List Told) → ((c : ℕ) → is_good c ≡ true → tells c ≡ []) → (before run : List ℕ)
    → list_all is_good run ≡ true → spelled_messages exact input before (spell tells run) ≡ []
unfolding spelled_messages
spelled-nothing exact input tells none before [] good = refl
spelled-nothing exact input tells none before (c ∷ run) good =
    let p = and_parts (is_good c) (list_all is_good run) good in
    let q = and_parts (not (is_bad_character c)) (not (c == null)) p.0 in
    rw (none c p.0, not-true (is_bad_character c) q.0, and-false exact) (spelled-nothing exact input tells none (before ++ c ∷ []) run p.1)

-- so the held text in front of a bogus comment tells nothing as its content
spelled-held : (exact : Bool) (input : Input) (before held rest content : List ℕ) → held ++ rest ≡ content → list_all is_good held ≡ true
    → spelled_messages exact input before (spell_bogus exact content ++ spell_end [] content)
    ≡ spelled_messages exact input (before ++ held) (spell_bogus exact rest ++ spell_end [] content)
spelled-held exact input before held rest content parts good =
    let cells : List Spelled = spell_bogus exact rest ++ spell_end [] content in
    let spelled : ℕ → Spelled = λ c. record { character = c; told = null_error exact state.BogusComment c } in
    ap (spelled_messages exact input before)
    (ap (λ l. spell_bogus exact l ++ spell_end [] content) (sym parts)
    ∙ ap (λ l. l ++ spell_end [] content) (map-append spelled held rest)
    ∙ append_assoc (spell_bogus exact held) (spell_bogus exact rest) (spell_end [] content))
    ∙ spelled_messages-append exact input before (spell_bogus exact held) cells
    ∙ ap (λ M. M ++ spelled_messages exact input (before ++ characters (spell_bogus exact held)) cells)
    (spelled-nothing exact input (null_error exact state.BogusComment)
    (λ c g. let p = and_parts (not (is_bad_character c)) (not (c == null)) g in rw (not-true (c == null) p.1) refl)
    before held good)
    ∙ ap (λ l. spelled_messages exact input (before ++ l) cells) (characters-spell (null_error exact state.BogusComment) held)

pub all_after : (text later : List ℕ) → list_all in_bogus_comment (text ++ later) ≡ true → list_all in_bogus_comment later ≡ true
all_after [] later h = h
all_after (c ∷ text) later h = all_after text later (and_parts (in_bogus_comment c) (list_all in_bogus_comment (text ++ later)) h).1

module _ {S H : Type 0} (step : S → Told → ℕ → S) (reply : S → Told → ℕ → Reply H) (foreign : S → Bool) (rules : Rules) where
  trace-whole : (K : Start) (s : S) (cells : List Spelled) (text : List ℕ) → characters cells ≡ text → Leads rules (Between Data) cells (Between Data)
      → IsRead step reply foreign rules K s text (spelled_messages rules.exact K.input [] cells)
  trace-whole K s cells text e leads = trace-text step reply foreign rules K.input [] s K.last_start_tag (Between Data) (Between Data) cells text e leads

  -- the `<!` tells nothing
  pub trace-mark : (K : Start) (s : S) (text : List ℕ)
      → trace step reply foreign rules s (line_after K.input []) K.last_start_tag (Between Data) (codes "<!" ++ text)
      ≡ trace step reply foreign rules s (line_after K.input (codes "<!")) K.last_start_tag (InDeclaration []) text
  unfolding stepped is_bad_character
  trace-mark K s text =
      trace-leads step reply foreign rules K.input [] s K.last_start_tag (Between Data) (InDeclaration []) (spell_silent (codes "<!")) text (leads-mark rules)
      ∙ ap (λ M. with_messages M (trace step reply foreign rules (stepped step s M) (line_after K.input (codes "<!")) K.last_start_tag (InDeclaration []) text))
      (spelled-nothing rules.exact K.input silent (λ c g. refl) [] (codes "<!") refl)

  -- after `<!` a bogus comment is open once it is decided that no keyword comes
  reads_declaration : (K : Start) (s : S) (content : List ℕ) → can_open (foreign s) ExclamationMark content ≡ true → list_all in_bogus_comment content ≡ true
      → IsRead step reply foreign rules K s (written (Bogus ExclamationMark content)) (messages_of rules.exact K.input (Bogus ExclamationMark content))
  unfolding written messages_of
  reads_declaration K s content opens within =
      let held : List ℕ = held_of (foreign s) content in
      let rest : List ℕ = after_held_of (foreign s) content in
      let past : List ℕ = codes "<!" ++ held in
      let cells : List Spelled = spell_bogus rules.exact rest ++ spell_end [] content in
      let parts : held ++ rest ≡ content = held-parts (foreign s) content in
      let plain : IsPlain held = held_of-plain (foreign s) content in
      let E : ℕ → List Message = λ n. error_on step reply foreign rules n in
      let line : ℕ = line_after K.input past in
      let text : characters cells ≡ rest ++ greater_than ∷ [] =
      characters-two (spell_bogus rules.exact rest) (spell_end [] content) rest (greater_than ∷ []) (characters-spell (null_error rules.exact state.BogusComment) rest) refl in
      let whole : codes "<!" ++ (content ++ greater_than ∷ []) ≡ codes "<!" ++ (held ++ (rest ++ greater_than ∷ [])) =
      ap (λ l. codes "<!" ++ (l ++ greater_than ∷ [])) (sym parts) ∙ ap (λ l. codes "<!" ++ l) (append_assoc held rest (greater_than ∷ [])) in
      let goes : Goes rules.exact (InBogusComment held) cells (Between Data) =
      subst (λ l. Goes rules.exact (InBogusComment l) cells (Between Data)) plain.bytes
      (subst (λ l. Goes rules.exact (InBogusComment (bytes_of held)) (spell_bogus rules.exact rest ++ spell_end [] l) (Between Data)) parts
      (goes-bogus_end rules.exact held rest (all_after held rest (ap (list_all in_bogus_comment) parts ∙ within)))) in
      ap (trace step reply foreign rules s (line_after K.input []) K.last_start_tag (Between Data)) whole
      ∙ trace-mark K s (held ++ (rest ++ greater_than ∷ []))
      ∙ trace-held step reply foreign rules InDeclaration K.input (codes "<!") s K.last_start_tag [] held (rest ++ greater_than ∷ []) (are_held rules (foreign s) content opens) plain.good
      ∙ trace-decides step reply foreign rules s line K.last_start_tag held (rest ++ greater_than ∷ []) (decides-held (foreign s) content)
      ∙ ap (λ l. with_messages (E line) (trace step reply foreign rules (stepped step s (E line)) line K.last_start_tag (InBogusComment held) l)) (sym text)
      ∙ ap (with_messages (E line))
      (trace-ends step reply foreign rules K.input past (stepped step s (E line)) K.last_start_tag (InBogusComment held) (Between Data) cells
      (leads-goes rules (InBogusComment held) (Between Data) cells refl goes))
      ∙ ap (λ n. record { messages = E n ++ spelled_messages rules.exact K.input past cells; opened = Between Data; last_start_tag = K.last_start_tag }) (line-plain K.input (codes "<!") held plain)
      ∙ ap (λ N. record { messages = E (line_after K.input (codes "<!")) ++ N; opened = Between Data; last_start_tag = K.last_start_tag })
      (sym (spelled-held rules.exact K.input (codes "<!") held rest content parts plain.good))

  -- a comment, written out, tells its messages
  reads : (K : Start) (s : S) (comment : WrittenComment) → is_written (foreign s) comment ≡ true → IsRead step reply foreign rules K s (written comment) (messages_of rules.exact K.input comment)
  unfolding is_written written messages_of
  reads K s (Proper content ending) h =
      let front : List ℕ = content ++ before_greater_than ending in
      let cells : List Spelled = spell_content rules.exact [] front ++ spell_end (ending_errors rules.exact ending) content in
      trace-whole K s (spell_silent (codes "<!--") ++ cells) (written (Proper content ending))
      (characters-three (codes "<!--") (spell_content rules.exact [] front) front (ending_errors rules.exact ending) content (characters-content rules.exact [] front))
      (leads-opening rules cells (Between Data) (leads-goes rules (InComment []) (Between Data) cells refl (goes-proper rules.exact content ending h)))
  reads K s (Bogus Solidus content) h =
      let cells : List Spelled = spell_odd rules.exact content in
      trace-whole K s (spell_silent (codes "</") ++ (cells ++ spell_end [] content)) (written (Bogus Solidus content))
      (characters-three (codes "</") cells content [] content (characters-odd rules.exact content))
      (leads-goes rules (Between Data) (Between Data) (spell_silent (codes "</") ++ (cells ++ spell_end [] content)) refl (goes-solidus rules.exact (foreign s) content h))
  reads K s (Bogus ExclamationMark content) h =
      let p = and_parts (can_open (foreign s) ExclamationMark content) (list_all in_bogus_comment content) h in
      reads_declaration K s content p.0 p.1

  pub reads_comment : (K : Start) (s : S) (X : List ℕ) (comment : WrittenComment) → IsComment K (foreign s) X comment
      → IsReadFrom step reply foreign rules K s X (messages_of rules.exact K.input comment)
  reads_comment K s X comment one = rw (one.starts, one.text) (reads K s comment one.is_comment)

  -- a text that is one comment
  pub reading-comment : (K : Start) (s : S) (X : List ℕ) (comment : WrittenComment) → IsComment K (foreign s) X comment
      → messages (reading step reply foreign rules K s X) ≡ comment_messages rules.exact K.input comment
  unfolding comment_messages
  reading-comment K s X comment one =
      reading-whole step reply foreign rules K s X (messages_of rules.exact K.input comment) (reads_comment K s X comment one) ∙ rw one.text refl
