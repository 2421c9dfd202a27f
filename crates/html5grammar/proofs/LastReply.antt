-- A tag as the last message of a text, whatever the sink replies.
use Rattle.std.proofs.Common.{◌≡◌, ℕ, Bool, List, [], ◌∷◌, ◌++◌, refl, ap, sym, ◌∙◌, subst}
use Rattle.std.proofs.lemmas.List.{append_assoc, append-nil}
use Rattle.html5ever_interface.proofs.Steppings.{stepped-append}
use Rattle.html5ever_interface.specs.Sink.{Message, stepped, on_line}
use Rattle.html5ever_interface.specs.Token.{Told, TagOf, Reply}
use Rattle.html5ever_interface.specs.Token.Told.{Tag}
use Rattle.html5grammar.specs.Anywhere.{last_reply}
use Rattle.html5reading.specs.ErrorText.{bad_character_error}
use Rattle.html5reading.specs.NormalisedText.{line_after}
use Rattle.html5grammar.specs.Spelled.{Spelled, spelled_messages}
use Rattle.html5reading.specs.Reading.{last_after, open_after_reply}
use Rattle.html5reading.specs.Reading.Here.{TellsTag}
use Rattle.html5reading.specs.Start.{Input, Open, Rules}
use Rattle.html5reading.proofs.InputLemmas.{line_after-past}
use Rattle.html5grammar.proofs.Leading.{spelled_messages-append}
use Rattle.html5reading.specs.Machine.{step_at}
use Rattle.html5grammar.proofs.Goes.{characters, tag-decided}
use Rattle.html5reading.proofs.Traces.{brought-tells, trace_brought, trace, trace_here}
use Rattle.html5ever_interface.specs.Token.Reply.{KeepOn}

module _ {S H : Type 0} (step : S → Told → ℕ → S) (reply : S → Told → ℕ → Reply H) where
  -- the sink replies to the last message after all before it
  last_reply-tokens : (s : S) (line : ℕ) (tokens : List Told) (token : Told)
      → last_reply step reply s (on_line line (tokens ++ token ∷ [])) ≡ reply (stepped step s (on_line line tokens)) token line
  unfolding last_reply stepped
  last_reply-tokens s line [] token = refl
  last_reply-tokens s line (x ∷ []) token = refl
  last_reply-tokens s line (x ∷ y ∷ tokens) token = last_reply-tokens (step s x line) line (y ∷ tokens) token

  -- messages in front of others, of which there is one at least
  last_reply-after : (s : S) (M N : List Message) (m : Message)
      → last_reply step reply s (M ++ (m ∷ N)) ≡ last_reply step reply (stepped step s M) (m ∷ N)
  unfolding last_reply stepped
  last_reply-after s [] N m = refl
  last_reply-after s (n ∷ []) N m = refl
  last_reply-after s (n ∷ o ∷ M) N m = last_reply-after (step s n.token n.line) (o ∷ M) N m

  -- there is one where the last is a token of a line
  pub last_reply-append : (s : S) (M : List Message) (line : ℕ) (tokens : List Told) (token : Told)
      → last_reply step reply s (M ++ on_line line (tokens ++ token ∷ [])) ≡ last_reply step reply (stepped step s M) (on_line line (tokens ++ token ∷ []))
  last_reply-append s M line [] token = last_reply-after s M [] (record { token = token; line = line })
  last_reply-append s M line (x ∷ tokens) token =
      last_reply-after s M (on_line line (tokens ++ token ∷ [])) (record { token = x; line = line })

module _ {S H : Type 0} (step : S → Told → ℕ → S) (reply : S → Told → ℕ → Reply H) (foreign : S → Bool) (rules : Rules) where
  -- the messages of the character that tells a tag
  pub messages-cell : (input : Input) (before : List ℕ) (c : ℕ) (errors : List Told) (tag : TagOf)
      → spelled_messages rules.exact input before (record { character = c; told = errors ++ Tag tag ∷ [] } ∷ [])
      ≡ on_line (line_after input (before ++ c ∷ [])) ((bad_character_error rules.exact c ++ errors) ++ Tag tag ∷ [])
  unfolding spelled_messages
  messages-cell input before c errors tag =
      let line : ℕ = line_after input (before ++ c ∷ []) in
      append-nil (on_line line (bad_character_error rules.exact c ++ (errors ++ Tag tag ∷ [])))
      ∙ ap (on_line line) (sym (append_assoc (bad_character_error rules.exact c) errors (Tag tag ∷ [])))

  -- a character that tells a tag: its trace, and what the sink's reply leaves open
  pub trace-cell : (input : Input) (before : List ℕ) (s : S) (last : List ℕ) (opened : Open) (c : ℕ) (errors : List Told) (tag : TagOf)
      → step_at rules.exact opened c ≡ TellsTag errors tag
      → trace step reply foreign rules s (line_after input before) last opened (c ∷ [])
      ≡ record {
        messages = on_line (line_after input (before ++ c ∷ [])) ((bad_character_error rules.exact c ++ errors) ++ Tag tag ∷ []);
        opened = open_after_reply (last_after last tag) (last_reply step reply s (on_line (line_after input (before ++ c ∷ [])) ((bad_character_error rules.exact c ++ errors) ++ Tag tag ∷ [])));
        last_start_tag = last_after last tag;
      }
  unfolding trace trace_brought trace_here stepped
  trace-cell input before s last opened c errors tag ends =
      let line : ℕ = line_after input (before ++ c ∷ []) in
      let tokens : List Told = bad_character_error rules.exact c ++ errors in
      rw (brought-tells rules (foreign s) opened c _ (tag-decided rules.exact opened c errors tag ends) ends, ← line_after-past input before c, last_reply-tokens step reply s line tokens (Tag tag), append-nil (on_line line (tokens ++ Tag tag ∷ []))) refl

  -- the same reply, where messages stand in front
  pub last_reply-spelled : (s : S) (M : List Message) (input : Input) (before : List ℕ) (cells : List Spelled) (c : ℕ) (errors : List Told) (tag : TagOf)
      → last_reply step reply s (M ++ spelled_messages rules.exact input before (cells ++ record { character = c; told = errors ++ Tag tag ∷ [] } ∷ []))
      ≡ last_reply step reply (stepped step s M) (spelled_messages rules.exact input before (cells ++ record { character = c; told = errors ++ Tag tag ∷ [] } ∷ []))
  last_reply-spelled s M input before cells c errors tag =
      let past : List ℕ = before ++ characters cells in
      let line : ℕ = line_after input (past ++ c ∷ []) in
      let tokens : List Told = bad_character_error rules.exact c ++ errors in
      let F : List Message = spelled_messages rules.exact input before cells in
      let N : List Message = on_line line (tokens ++ Tag tag ∷ []) in
      let cell : Spelled = record { character = c; told = errors ++ Tag tag ∷ [] } in
      let whole : spelled_messages rules.exact input before (cells ++ cell ∷ []) ≡ F ++ N =
      spelled_messages-append rules.exact input before cells (cell ∷ []) ∙ ap (λ l. F ++ l) (messages-cell input past c errors tag) in
      ap (λ l. last_reply step reply s (M ++ l)) whole
      ∙ ap (last_reply step reply s) (sym (append_assoc M F N))
      ∙ last_reply-append step reply s (M ++ F) line tokens (Tag tag)
      ∙ ap (λ t. last_reply step reply t N) (stepped-append step s M F)
      ∙ sym (last_reply-append step reply (stepped step s M) F line tokens (Tag tag))
      ∙ ap (last_reply step reply (stepped step s M)) (sym whole)

  -- what is true of each reply to the tag is true of it
  pub last_reply-says : (Says : Reply H → Type 0) (s : S) (input : Input) (before : List ℕ) (cells : List Spelled) (c : ℕ) (errors : List Told) (tag : TagOf)
      → ((t : S) (line : ℕ) → Says (reply t (Tag tag) line))
      → Says (last_reply step reply s (spelled_messages rules.exact input before (cells ++ record { character = c; told = errors ++ Tag tag ∷ [] } ∷ [])))
  last_reply-says Says s input before cells c errors tag says =
      let past : List ℕ = before ++ characters cells in
      let line : ℕ = line_after input (past ++ c ∷ []) in
      let tokens : List Told = bad_character_error rules.exact c ++ errors in
      let F : List Message = spelled_messages rules.exact input before cells in
      subst Says
      (sym (ap (last_reply step reply s)
      (spelled_messages-append rules.exact input before cells (record { character = c; told = errors ++ Tag tag ∷ [] } ∷ []) ∙ ap (λ l. F ++ l) (messages-cell input past c errors tag))
      ∙ last_reply-append step reply s F line tokens (Tag tag)
      ∙ last_reply-tokens step reply (stepped step s F) line tokens (Tag tag)))
      (says (stepped step (stepped step s F) (on_line line tokens)) line)

  -- a sink that keeps on
  pub last_reply-keeps : (s : S) (input : Input) (before : List ℕ) (cells : List Spelled) (c : ℕ) (errors : List Told) (tag : TagOf)
      → ((t : S) (line : ℕ) → reply t (Tag tag) line ≡ KeepOn)
      → last_reply step reply s (spelled_messages rules.exact input before (cells ++ record { character = c; told = errors ++ Tag tag ∷ [] } ∷ [])) ≡ KeepOn
  last_reply-keeps = last_reply-says (λ r. r ≡ KeepOn)
