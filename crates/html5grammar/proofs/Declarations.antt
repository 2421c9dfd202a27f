-- The text after `<!` that has no `>`: a keyword that only the end decides, and a bogus comment.
use Rattle.std.proofs.Common.{◌≡◌, inl, inr, ℕ, Bool, true, false, List, [], ◌∷◌, ◌++◌, length, drop, refl, ap, sym, ◌∙◌, subst}
use Rattle.std.specs.Prelude.{◌==◌, ◌&&◌, ◌||◌, not, codes, nat_eq, if◌then◌else◌}
use Rattle.std.specs.Char.{to_ascii_lowercase}
use Rattle.std.specs.List.{list_all, starts_with}
use Rattle.std.proofs.lemmas.Bool.{false≢true, and_parts, not-true, or_cases}
use Rattle.std.proofs.lemmas.List.{append_assoc, append-nil, map-append}
use Rattle.html5ever_interface.specs.Sink.{Means, Message, stepped, on_line}
use Rattle.html5ever_interface.specs.Token.Told.{Comment, End}
use Rattle.html5ever_interface.specs.declared.states.State.TheVariants as state
use Rattle.html5reading.specs.Characters.{null, is_bad_character, lower_case}
use Rattle.html5reading.specs.Comment.{begins_keyword, begins_cdata, cdata_keyword, in_bogus_comment}
use Rattle.html5reading.specs.EndOfInput.{late_at_end_of, open_at_end_of, told_at_end_of}
use Rattle.html5reading.specs.NormalisedText.{line_after, input_after}
use Rattle.html5grammar.specs.Comment.{can_open, spell_bogus, begins_with}
use Rattle.html5grammar.specs.Comment.Opening.{ExclamationMark}
use Rattle.html5grammar.specs.Spelled.{Spelled, spelled_messages}
use Rattle.html5reading.specs.Slice.{run_while, after_while}
use Rattle.html5reading.specs.Start.{Input, Start, Open, Rules}
use Rattle.html5reading.specs.Start.Mode.{Data}
use Rattle.html5reading.specs.Start.Open.{Between, InDeclaration, InBogusComment}
use Rattle.html5reading.specs.Tag.{null_error}
use Rattle.html5grammar.specs.RawText.{next_is}
use Rattle.html5grammar.proofs.HeldWords.{IsPlain, is_good, begins-word, line-plain, trace-held, AreHeld}
use Rattle.html5grammar.proofs.Leading.{leads-goes, trace-text, spelled_messages-append}
use Rattle.html5grammar.proofs.Comment.Held.{begins_declaration, held_of, after_held_of, are_held, held_of-plain, held-parts, error_on, trace-decides}
use Rattle.html5grammar.proofs.Comment.Reading.{spelled-nothing, trace-mark, all_after}
use Rattle.html5grammar.proofs.Comment.Steps.{goes-bogus}
use Rattle.html5grammar.proofs.Comment.Text.{bytes_of}
use Rattle.html5grammar.proofs.Goes.{characters, characters-spell, Goes}
use Rattle.html5reading.proofs.Traces.{trace, with_messages}
use Rattle.html5grammar.specs.Declarations.{may_begin, IsOpenKeyword, IsOpenBogusDeclaration, keyword_at_end, bogus_declaration_messages}
use Rattle.html5grammar.proofs.Comment.Forms.{begins-parts}
use Rattle.html5grammar.proofs.Telling.{TellsAll, tells-trace}

-- ---- prefixes of keywords

-- a prefix of what begins a word begins it too
pub begins-front : (word a b : List ℕ) → starts_with nat_eq word (a ++ b) ≡ true → starts_with nat_eq word a ≡ true
begins-front word a b h =
    let later : List ℕ = drop (length (a ++ b)) word in
    ap (begins_with a) (begins-parts (a ++ b) word h ∙ append_assoc a b later) ∙ begins-word a (b ++ later)

abbrev pub IsClosed : (List ℕ → Bool) → Type 0
IsClosed begins = (a b : List ℕ) → begins (a ++ b) ≡ true → begins a ≡ true

pub closed-or : (p q : List ℕ → Bool) → IsClosed p → IsClosed q → IsClosed (λ text. p text || q text)
closed-or p q f g a b h =
    elim (or_cases (p (a ++ b)) (q (a ++ b)) h) [
      | inl e ↦ left (p a) (q a) (f a b e)
      | inr e ↦ right (p a) (q a) (g a b e)
    ]
  where
    left : (x y : Bool) → x ≡ true → (x || y) ≡ true
    left x y e = rw e refl

    right : (x y : Bool) → y ≡ true → (x || y) ≡ true
    right true y e = refl
    right false y e = e

pub closed-lower : (word : List ℕ) → IsClosed (λ text. starts_with nat_eq word (lower_case text))
closed-lower word a b h = begins-front word (lower_case a) (lower_case b) (ap (starts_with nat_eq word) (sym (map-append to_ascii_lowercase a b)) ∙ h)

closed-keyword : IsClosed begins_keyword
unfolding begins_keyword
closed-keyword = closed-or (λ text. starts_with nat_eq (codes "--") text) (λ text. starts_with nat_eq (codes "doctype") (lower_case text)) (begins-front (codes "--")) (closed-lower (codes "doctype"))

closed-cdata : (foreign : Bool) → IsClosed (λ text. foreign && begins_cdata text)
unfolding begins_cdata
closed-cdata true a b h = begins-front cdata_keyword a b h
closed-cdata false a b h = absurd (false≢true h)

closed-declaration : (foreign : Bool) → IsClosed (begins_declaration foreign)
unfolding begins_declaration
closed-declaration foreign = closed-or begins_keyword (λ text. foreign && begins_cdata text) closed-keyword (closed-cdata foreign)

-- what begins a keyword is held
pub while-all : (begins : List ℕ → Bool) → IsClosed begins → (before text : List ℕ) → begins (before ++ text) ≡ true → run_while begins before text ≡ text
unfolding run_while
while-all begins closed before [] h = refl
while-all begins closed before (c ∷ text) h =
    let past : List ℕ = before ++ c ∷ [] in
    let whole : begins (past ++ text) ≡ true = ap begins (append_assoc before (c ∷ []) text) ∙ h in
    rw (closed past text whole) (ap (λ l. c ∷ l) (while-all begins closed past text whole))

-- and what begins none has a character that decides
pub decides-open : (begins : List ℕ → Bool) (before text : List ℕ) → begins before ≡ true → begins (before ++ text) ≡ false
    → next_is (λ d. not (begins ((before ++ run_while begins before text) ++ d ∷ []))) (after_while begins before text) ≡ true
unfolding run_while after_while
decides-open begins before [] h none = absurd (false≢true (sym none ∙ ap begins (append-nil before) ∙ h))
decides-open begins before (c ∷ text) h none =
    let past : List ℕ = before ++ c ∷ [] in
    elim (begins past) as (λ b. begins past ≡ b
    → next_is (λ d. not (begins ((before ++ (if b then c ∷ run_while begins past text else [])) ++ d ∷ []))) (if b then after_while begins past text else c ∷ text) ≡ true) [
      | true ↦ λ e.
          subst (λ l. next_is (λ d. not (begins (l ++ d ∷ []))) (after_while begins past text) ≡ true)
          (append_assoc before (c ∷ []) (run_while begins past text)) (decides-open begins past text e (ap begins (append_assoc before (c ∷ []) text) ∙ none))
      | false ↦ λ e. ap not (ap (λ l. begins (l ++ c ∷ [])) (append-nil before) ∙ e)
    ] refl

-- ---- what is sent

-- the held text tells nothing as the content of a bogus comment
spelled-held : (exact : Bool) (input : Input) (before held rest content : List ℕ) → held ++ rest ≡ content → list_all is_good held ≡ true
    → spelled_messages exact input before (spell_bogus exact content) ≡ spelled_messages exact input (before ++ held) (spell_bogus exact rest)
spelled-held exact input before held rest content parts good =
    let spelled : ℕ → Spelled = λ c. record { character = c; told = null_error exact state.BogusComment c } in
    ap (spelled_messages exact input before) (ap (spell_bogus exact) (sym parts) ∙ map-append spelled held rest)
    ∙ spelled_messages-append exact input before (spell_bogus exact held) (spell_bogus exact rest)
    ∙ ap (λ M. M ++ spelled_messages exact input (before ++ characters (spell_bogus exact held)) (spell_bogus exact rest))
    (spelled-nothing exact input (null_error exact state.BogusComment)
    (λ c g. let p = and_parts (not (is_bad_character c)) (not (c == null)) g in rw (not-true (c == null) p.1) refl)
    before held good)
    ∙ ap (λ l. spelled_messages exact input (before ++ l) (spell_bogus exact rest)) (characters-spell (null_error exact state.BogusComment) held)

module _ {X S H : Type 0} (means : Means X S H) (rules : Rules) where
  -- a keyword that is not decided tells nothing, and its end the rest
  pub tells-open_keyword : (K : Start) (s : S) (Y held : List ℕ) → IsOpenKeyword K (means.foreign s) Y held
      → TellsAll means rules K s Y [] (on_line (line_after (input_after K.input Y) []) (keyword_at_end rules.exact held))
  unfolding trace may_begin begins_declaration late_at_end_of open_at_end_of told_at_end_of
  tells-open_keyword K s Y held one =
      let answer : Bool = means.foreign s in
      let all : held_of answer held ≡ held = while-all (begins_declaration answer) (closed-declaration answer) [] held one.undecided in
      let plain : IsPlain held = subst IsPlain all (held_of-plain answer held) in
      let are : AreHeld rules InDeclaration answer [] held = subst (AreHeld rules InDeclaration answer []) all (are_held rules answer held one.opens) in
      let last : List ℕ = K.last_start_tag in
      tells-trace means rules K s Y [] (InDeclaration held) last
      (rw (one.starts, one.text)
      (trace-mark means.step means.reply means.foreign rules K s held
      ∙ ap (λ l. trace means.step means.reply means.foreign rules s (line_after K.input (codes "<!")) last (InDeclaration []) l) (sym (append-nil held))
      ∙ trace-held means.step means.reply means.foreign rules InDeclaration K.input (codes "<!") s last [] held [] are plain.good))

  -- the content of a bogus comment after `<!`, and what is open after it
  trace-open_bogus : (K : Start) (s : S) (content : List ℕ) → can_open (means.foreign s) ExclamationMark content ≡ true → begins_declaration (means.foreign s) content ≡ false
      → list_all in_bogus_comment content ≡ true
      → trace means.step means.reply means.foreign rules s (line_after K.input []) K.last_start_tag (Between Data) (codes "<!" ++ content)
      ≡ record { messages = bogus_declaration_messages rules.exact K.input content; opened = InBogusComment (bytes_of content); last_start_tag = K.last_start_tag }
  unfolding begins_declaration begins_keyword begins_cdata
  trace-open_bogus K s content opens decided within =
      let answer : Bool = means.foreign s in
      let last : List ℕ = K.last_start_tag in
      let held : List ℕ = held_of answer content in
      let rest : List ℕ = after_held_of answer content in
      let past : List ℕ = codes "<!" ++ held in
      let cells : List Spelled = spell_bogus rules.exact rest in
      let parts : held ++ rest ≡ content = held-parts answer content in
      let plain : IsPlain held = held_of-plain answer content in
      let E : ℕ → List Message = λ n. error_on means.step means.reply means.foreign rules n in
      let line : ℕ = line_after K.input past in
      let opened : Open = InBogusComment (bytes_of content) in
      let goes : Goes rules.exact (InBogusComment held) cells opened =
      subst (λ l. Goes rules.exact (InBogusComment l) cells opened) plain.bytes
      (subst (λ l. Goes rules.exact (InBogusComment (bytes_of held)) cells (InBogusComment (bytes_of l))) parts
      (goes-bogus rules.exact held rest (all_after held rest (ap (list_all in_bogus_comment) parts ∙ within)))) in
      ap (λ l. trace means.step means.reply means.foreign rules s (line_after K.input []) last (Between Data) (codes "<!" ++ l)) (sym parts)
      ∙ trace-mark means.step means.reply means.foreign rules K s (held ++ rest)
      ∙ trace-held means.step means.reply means.foreign rules InDeclaration K.input (codes "<!") s last [] held rest (are_held rules answer content opens) plain.good
      ∙ trace-decides means.step means.reply means.foreign rules s line last held rest (decides-open (begins_declaration answer) [] content refl decided)
      ∙ ap (with_messages (E line))
      (trace-text means.step means.reply means.foreign rules K.input past (stepped means.step s (E line)) last (InBogusComment held) opened cells rest
      (characters-spell (null_error rules.exact state.BogusComment) rest)
      (leads-goes rules (InBogusComment held) opened cells refl goes))
      ∙ ap (λ n. record { messages = E n ++ spelled_messages rules.exact K.input past cells; opened = opened; last_start_tag = last }) (line-plain K.input (codes "<!") held plain)
      ∙ ap (λ N. record { messages = E (line_after K.input (codes "<!")) ++ N; opened = opened; last_start_tag = last })
      (sym (spelled-held rules.exact K.input (codes "<!") held rest content parts plain.good))

  pub tells-open_bogus_declaration : (K : Start) (s : S) (Y content : List ℕ) → IsOpenBogusDeclaration K (means.foreign s) Y content
      → TellsAll means rules K s Y (bogus_declaration_messages rules.exact K.input content)
      (on_line (line_after (input_after K.input Y) []) (Comment (bytes_of content) ∷ End ∷ []))
  unfolding may_begin begins_declaration late_at_end_of open_at_end_of told_at_end_of
  tells-open_bogus_declaration K s Y content one =
      tells-trace means rules K s Y (bogus_declaration_messages rules.exact K.input content) (InBogusComment (bytes_of content)) K.last_start_tag
      (rw (one.starts, one.text) (trace-open_bogus K s content one.opens one.decided one.within))
