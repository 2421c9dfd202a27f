-- Characters that tell what they spell, also after `<!`, where a keyword is undecided.
use Rattle.std.proofs.Common.{◌≡◌, ℕ, Bool, false, List, [], ◌∷◌, ◌++◌, refl, ap, ◌∙◌, sym, subst}
use Rattle.std.proofs.lemmas.List.{append_assoc, append-nil}
use Rattle.html5ever_interface.proofs.Steppings.{stepped-append}
use Rattle.html5ever_interface.specs.Sink.{Message, stepped, on_line}
use Rattle.html5ever_interface.specs.Token.{Told, Reply}
use Rattle.html5ever_interface.specs.Token.Told.{End}
use Rattle.html5reading.specs.EndOfInput.{late_at_end_of, open_at_end_of, told_at_end_of}
use Rattle.html5reading.specs.ErrorText.{bad_character_error}
use Rattle.html5reading.specs.NormalisedText.{normalised, line_after}
use Rattle.html5grammar.specs.Spelled.{Spelled, spelled_messages}
use Rattle.html5reading.specs.Reading.{reading, told, messages, after}
use Rattle.html5reading.specs.Reading.Here.{Tells}
use Rattle.html5reading.specs.Start.{Input, Open, Start, Rules, is_undecided_open}
use Rattle.html5reading.specs.Start.Mode.{Data}
use Rattle.html5reading.specs.Start.Open.{Between}
use Rattle.html5reading.proofs.InputLemmas.{line_after-past}
use Rattle.html5reading.specs.Machine.{brought_at}
use Rattle.html5grammar.proofs.Goes.{characters, Goes, Goes-decided}
use Rattle.html5reading.proofs.ReadingLemmas.{told-trace, after-opened, reading-events, messages-at_end}
use Rattle.html5reading.proofs.Traces.{brought-tells, trace_brought, Trace, trace, trace_here, with_messages, messages-append}

module _ (rules : Rules) where
  -- each character tells what it spells, decides nothing that stands before it, and leads from one open item to the next,
  -- whatever the sink answers
  unfoldable pub Leads : Open → List Spelled → Open → Type 0
  Leads opened [] later = opened ≡ later
  Leads opened (here ∷ more) later =
      (next : Open) × ((foreign : Bool) → brought_at rules foreign opened here.character ≡ record { settled = []; here = Tells here.told next }) × Leads next more later

  pub leads-goes : (a b : Open) (cells : List Spelled) → is_undecided_open b ≡ false → Goes rules.exact a cells b → Leads a cells b
  unfolding Leads Goes
  leads-goes a b [] decided goes = goes
  leads-goes a b (here ∷ more) decided goes =
      let before : is_undecided_open a ≡ false = Goes-decided rules.exact a b (here ∷ more) goes decided in
      (goes.0, λ foreign. brought-tells rules foreign a here.character _ before goes.1, leads-goes goes.0 b more decided goes.2)

  pub Leads-append : (a b c : Open) (xs ys : List Spelled) → Leads a xs b → Leads b ys c → Leads a (xs ++ ys) c
  unfolding Leads
  Leads-append a b c [] ys f g = subst (λ x. Leads x ys c) (sym f) g
  Leads-append a b c (x ∷ xs) ys f g = (f.0, f.1, Leads-append f.0 b c xs ys f.2 g)

-- the messages of two texts are those of the first, and those of the second after it
pub spelled_messages-append : (exact : Bool) (input : Input) (before : List ℕ) (xs ys : List Spelled)
    → spelled_messages exact input before (xs ++ ys) ≡ spelled_messages exact input before xs ++ spelled_messages exact input (before ++ characters xs) ys
unfolding spelled_messages
spelled_messages-append exact input before [] ys = rw (append-nil before) refl
spelled_messages-append exact input before (here ∷ more) ys =
    let past : List ℕ = before ++ here.character ∷ [] in
    let M : List Message = on_line (line_after input past) (bad_character_error exact here.character ++ here.told) in
    ap (λ l. M ++ l)
    (spelled_messages-append exact input past more ys
    ∙ ap (λ b. spelled_messages exact input past more ++ spelled_messages exact input b ys) (append_assoc before (here.character ∷ []) (characters more)))
    ∙ sym (append_assoc M (spelled_messages exact input past more) (spelled_messages exact input (before ++ here.character ∷ characters more) ys))

module _ {S H : Type 0} (step : S → Told → ℕ → S) (reply : S → Told → ℕ → Reply H) (foreign : S → Bool) (rules : Rules) where
  with-two : (s : S) (M N : List Message) (line : ℕ) (last : List ℕ) (opened : Open) (text : List ℕ)
      → with_messages M (with_messages N (trace step reply foreign rules (stepped step (stepped step s M) N) line last opened text))
      ≡ with_messages (M ++ N) (trace step reply foreign rules (stepped step s (M ++ N)) line last opened text)
  with-two s M N line last opened text =
      let rest : Trace = trace step reply foreign rules (stepped step (stepped step s M) N) line last opened text in
      rw (stepped-append step s M N)
      (ap (λ l. record { messages = l; opened = rest.opened; last_start_tag = rest.last_start_tag }) (sym (append_assoc M N rest.messages)))

  -- what is spelled is sent, and the machine goes on after it
  pub trace-leads : (input : Input) (before : List ℕ) (s : S) (last : List ℕ) (opened afterwards : Open) (cells : List Spelled) (text : List ℕ)
      → Leads rules opened cells afterwards
      → trace step reply foreign rules s (line_after input before) last opened (characters cells ++ text)
      ≡ with_messages (spelled_messages rules.exact input before cells)
      (trace step reply foreign rules (stepped step s (spelled_messages rules.exact input before cells)) (line_after input (before ++ characters cells)) last afterwards text)
  unfolding Leads trace trace_brought trace_here spelled_messages stepped
  trace-leads input before s last opened afterwards [] text leads = rw (leads, append-nil before) refl
  trace-leads input before s last opened afterwards (here ∷ more) text leads =
      let past : List ℕ = before ++ here.character ∷ [] in
      let M : List Message = on_line (line_after input past) (bad_character_error rules.exact here.character ++ here.told) in
      let N : List Message = spelled_messages rules.exact input past more in
      rw (leads.1 (foreign s), ← line_after-past input before here.character)
      (ap (with_messages M) (trace-leads input past (stepped step s M) last leads.0 afterwards more text leads.2)
      ∙ with-two s M N (line_after input (past ++ characters more)) last afterwards text
      ∙ ap (λ b. with_messages (M ++ N) (trace step reply foreign rules (stepped step s (M ++ N)) (line_after input b) last afterwards text)) (append_assoc before (here.character ∷ []) (characters more)))

  -- the same, where the text ends after it
  pub trace-ends : (input : Input) (before : List ℕ) (s : S) (last : List ℕ) (opened afterwards : Open) (cells : List Spelled)
      → Leads rules opened cells afterwards
      → trace step reply foreign rules s (line_after input before) last opened (characters cells)
      ≡ record { messages = spelled_messages rules.exact input before cells; opened = afterwards; last_start_tag = last }
  unfolding trace
  trace-ends input before s last opened afterwards cells leads =
      ap (trace step reply foreign rules s (line_after input before) last opened) (sym (append-nil (characters cells)))
      ∙ trace-leads input before s last opened afterwards cells [] leads
      ∙ ap (λ l. record { messages = l; opened = afterwards; last_start_tag = last }) (append-nil (spelled_messages rules.exact input before cells))

  pub trace-goes : (input : Input) (before : List ℕ) (s : S) (last : List ℕ) (opened afterwards : Open) (cells : List Spelled) (text : List ℕ)
      → is_undecided_open afterwards ≡ false → Goes rules.exact opened cells afterwards
      → trace step reply foreign rules s (line_after input before) last opened (characters cells ++ text)
      ≡ with_messages (spelled_messages rules.exact input before cells)
      (trace step reply foreign rules (stepped step s (spelled_messages rules.exact input before cells)) (line_after input (before ++ characters cells)) last afterwards text)
  trace-goes input before s last opened afterwards cells text decided goes =
      trace-leads input before s last opened afterwards cells text (leads-goes rules opened afterwards cells decided goes)

  -- the same, where the text is given
  pub trace-text : (input : Input) (before : List ℕ) (s : S) (last : List ℕ) (opened afterwards : Open) (cells : List Spelled) (text : List ℕ)
      → characters cells ≡ text → Leads rules opened cells afterwards
      → trace step reply foreign rules s (line_after input before) last opened text
      ≡ record { messages = spelled_messages rules.exact input before cells; opened = afterwards; last_start_tag = last }
  trace-text input before s last opened afterwards cells text e leads =
      ap (trace step reply foreign rules s (line_after input before) last opened) (sym e) ∙ trace-ends input before s last opened afterwards cells leads

  -- ---- a whole text, which leads back to where nothing is open

  -- from there
  abbrev pub IsRead : Start → S → List ℕ → List Message → Type 0
  IsRead K s text M =
      trace step reply foreign rules s (line_after K.input []) K.last_start_tag (Between Data) text
      ≡ record { messages = M; opened = Between Data; last_start_tag = K.last_start_tag }

  -- from a start
  abbrev pub IsReadFrom : Start → S → List ℕ → List Message → Type 0
  IsReadFrom K s X M =
      trace step reply foreign rules s (line_after K.input []) K.last_start_tag K.opened (normalised K.input X)
      ≡ record { messages = M; opened = Between Data; last_start_tag = K.last_start_tag }

  pub after-whole : (K : Start) (s : S) (X : List ℕ) (M : List Message) → IsReadFrom K s X M → (after step reply foreign rules K s X).opened ≡ Between Data
  after-whole K s X M e = after-opened step reply foreign rules K s X ∙ ap (λ (t : Trace). t.opened) e

  -- it tells its messages, and the end
  pub reading-whole : (K : Start) (s : S) (X : List ℕ) (M : List Message) → IsReadFrom K s X M
      → messages (reading step reply foreign rules K s X) ≡ M ++ record { token = End; line = line_after K.input (normalised K.input X) } ∷ []
  unfolding late_at_end_of open_at_end_of told_at_end_of
  reading-whole K s X M e =
      ap messages (reading-events step reply foreign rules K s X)
      ∙ messages-append (told step reply foreign rules K s X) _
      ∙ ap (λ N. messages (told step reply foreign rules K s X) ++ N) (messages-at_end step reply foreign rules K s X)
      ∙ rw (told-trace step reply foreign rules K s X, after-whole K s X M e, e) refl
