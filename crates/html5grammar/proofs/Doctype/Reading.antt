-- A text that is one doctype tells the doctype's messages.
use Rattle.std.proofs.Common.{◌≡◌, ℕ, Bool, true, false, List, [], ◌∷◌, ◌++◌, refl, ap, sym, ◌∙◌}
use Rattle.std.specs.Prelude.{◌==◌, ◌&&◌, not, flat_map, codes, None, if◌then◌else◌}
use Rattle.std.specs.List.{list_all}
use Rattle.std.specs.Str.{bytes_eq}
use Rattle.std.proofs.lemmas.Bool.{false≢true, and_parts, not-true}
use Rattle.std.proofs.lemmas.List.{append_assoc}
use Rattle.std.proofs.lemmas.List.Folds.{list_all-append}
use Rattle.html5ever_interface.specs.Sink.{Message, stepped, on_line}
use Rattle.html5ever_interface.specs.Token.{Told, DoctypeOf, Reply, empty_doctype}
use Rattle.html5ever_interface.specs.Token.Told.{Doctype}
use Rattle.html5ever_interface.specs.declared.states.DoctypeIdKind.TheVariants.{Public, System}
use Rattle.html5ever_interface.specs.declared.states.State.TheVariants as state
use Rattle.html5reading.specs.Characters.{greater_than, is_white_space, name_bytes, lower_case}
use Rattle.html5reading.specs.Doctype.{with_quirks, in_skipped_rest, keyword_error, is_keyword, begins_doctype_keyword, in_doctype_name}
use Rattle.html5reading.specs.ErrorText.{error_in}
use Rattle.html5reading.specs.NormalisedText.{line_after}
use Rattle.html5grammar.specs.Doctype.{RestAfterName, Content, WrittenDoctype, after_name_text, content_text, opening, written, is_rest, is_system, is_public, begins_no_keyword, is_after_name, can_stand_after, is_content, is_written, told_after_name, spell_end, spell_skipped, spell_odd, spell_after_system, spell_after_public, spell_wanted, spell_after_name, spell_name, held_of, after_held_of, messages_after_name, messages_of, doctype_messages, IsDoctype}
use Rattle.html5grammar.specs.Doctype.RestAfterName.{NoKeyword, PublicKeyword, SystemKeyword}
use Rattle.html5grammar.specs.Doctype.Content.{NoName, Named}
use Rattle.html5grammar.specs.Spelled.{Spelled, spell_silent, spelled_messages}
use Rattle.html5reading.specs.Reading.{reading, messages}
use Rattle.html5reading.specs.Reading.Here.{Tells}
use Rattle.html5reading.specs.Slice.{silent, run_while}
use Rattle.html5reading.specs.Start.{Input, Open, Start, Rules}
use Rattle.html5reading.specs.Start.DoctypePlace.{InDoctypeName, AfterName, AfterKeyword, Skipped}
use Rattle.html5reading.specs.Start.Mode.{Data}
use Rattle.html5reading.specs.Start.Open.{Between, InDoctype, InDoctypeKeyword}
use Rattle.html5grammar.specs.RawText.{next_is}
use Rattle.html5grammar.proofs.HeldWords.{line-plain, while-parts}
use Rattle.html5grammar.proofs.Leading.{Leads, Leads-append, leads-goes, trace-leads, trace-ends, trace-text, IsRead, IsReadFrom, reading-whole}
use Rattle.html5reading.specs.Machine.{step_at, doctype_step, space_step, doctype_name_step, keyword_or_end_step}
use Rattle.html5grammar.proofs.Doctype.Held.{leads-keyword, held-plain, held_of-plain, decides-held, leads-held, trace-decides, first_error}
use Rattle.html5grammar.proofs.Doctype.Name.{after_word, leads-opening, step-no_name, after_name, named, leads-name}
use Rattle.html5grammar.proofs.Doctype.Parts.{goes-public_keyword, goes-system_keyword}
use Rattle.html5grammar.proofs.Doctype.Spelled.{characters-skipped, characters-after_name, characters-name}
use Rattle.html5grammar.proofs.Doctype.Steps.{named_doctype, goes-skipped, goes-odd_some}
use Rattle.html5grammar.proofs.Goes.{characters, characters-spell, characters-two, Goes-one}
use Rattle.html5reading.proofs.Traces.{trace, with_messages}

-- ---- after the name

module _ {S H : Type 0} (step : S → Told → ℕ → S) (reply : S → Told → ℕ → Reply H) (foreign : S → Bool) (rules : Rules) (input : Input) (before : List ℕ) (last name : List ℕ) where
  abbrev d : DoctypeOf
  d = named_doctype name None None false

  -- what comes after the name is read, and tells its messages
  abbrev IsReadAfter : S → Open → RestAfterName → Type 0
  IsReadAfter s opened afterwards =
      trace step reply foreign rules s (line_after input before) last opened (after_name_text afterwards ++ greater_than ∷ [])
      ≡ record { messages = messages_after_name rules.exact input before (told_after_name name afterwards) afterwards; opened = Between Data; last_start_tag = last }

  reads-cells : (s : S) (opened : Open) (afterwards : RestAfterName)
      → Leads rules opened (spell_after_name rules.exact (told_after_name name afterwards) afterwards) (Between Data)
      → trace step reply foreign rules s (line_after input before) last opened (after_name_text afterwards ++ greater_than ∷ [])
      ≡ record { messages = spelled_messages rules.exact input before (spell_after_name rules.exact (told_after_name name afterwards) afterwards); opened = Between Data; last_start_tag = last }
  reads-cells s opened afterwards leads =
      trace-text step reply foreign rules input before s last opened (Between Data) (spell_after_name rules.exact (told_after_name name afterwards) afterwards) (after_name_text afterwards ++ greater_than ∷ [])
      (characters-after_name rules.exact (told_after_name name afterwards) afterwards) leads

  -- nothing stands there
  reads-nothing : (s : S) (opened : Open) → step_at rules.exact opened greater_than ≡ Tells (Doctype d ∷ []) (Between Data) → IsReadAfter s opened (NoKeyword [])
  unfolding messages_after_name
  reads-nothing s opened ends =
      reads-cells s opened (NoKeyword [])
      (leads-goes rules opened (Between Data) (spell_end [] d) refl (Goes-one rules.exact opened (Between Data) greater_than (Doctype d ∷ []) ends))

  -- a rest whose first character begins no keyword
  leads-odd : (c : ℕ) (rest : List ℕ) → begins_doctype_keyword (c ∷ []) ≡ false → is_rest is_white_space (c ∷ rest) ≡ true
      → Leads rules (InDoctype AfterName d) (spell_odd rules.exact state.AfterDoctypeName (with_quirks d) (c ∷ rest)) (Between Data)
  unfolding step_at doctype_step space_step keyword_or_end_step in_skipped_rest
  leads-odd c rest none h =
      let p = and_parts (not (is_white_space c)) (list_all in_skipped_rest (c ∷ rest)) h in
      let q = and_parts (in_skipped_rest c) (list_all in_skipped_rest rest) p.1 in
      leads-goes rules (InDoctype AfterName d) (Between Data) (spell_odd rules.exact state.AfterDoctypeName (with_quirks d) (c ∷ rest)) refl
      (goes-odd_some rules.exact (InDoctype AfterName d) state.AfterDoctypeName (with_quirks d) c rest
      (rw (not-true (is_white_space c) p.0, not-true (c == greater_than) q.0, none) refl) p.1)

  -- the line of the error is that of the first character that is held
  line-first : (c : ℕ) (rest : List ℕ) → begins_doctype_keyword (c ∷ []) ≡ true
      → line_after input (before ++ held_of (c ∷ rest)) ≡ line_after input (before ++ c ∷ [])
  line-first c rest begins = line-plain input before (held_of (c ∷ rest)) (held_of-plain (c ∷ rest)) ∙ sym (line-plain input before (c ∷ []) (held-plain (c ∷ []) begins))

  -- the messages where the first character of a rest may begin a keyword
  abbrev held_messages : ℕ → List ℕ → List Message
  held_messages c rest =
      spelled_messages rules.exact input before (spell_silent (held_of (c ∷ rest)))
      ++ (on_line (line_after input (before ++ c ∷ [])) (error_in rules.exact state.AfterDoctypeName c ∷ [])
      ++ spelled_messages rules.exact input (before ++ held_of (c ∷ rest)) (spell_skipped rules.exact (with_quirks d) (after_held_of (c ∷ rest))))

  -- what is sent where it is decided
  held-error : (line c : ℕ) (rest : List ℕ) → begins_doctype_keyword (c ∷ []) ≡ true
      → first_error rules d step reply foreign line (held_of (c ∷ rest)) ≡ on_line line (error_in rules.exact state.AfterDoctypeName c ∷ [])
  unfolding run_while keyword_error
  held-error line c rest begins = rw begins refl

  -- a rest that begins as a keyword does is held, and then skipped
  reads-held : (s : S) (c : ℕ) (rest : List ℕ) → begins_doctype_keyword (c ∷ []) ≡ true → is_after_name (NoKeyword (c ∷ rest)) ≡ true
      → trace step reply foreign rules s (line_after input before) last (InDoctype AfterName d) ((c ∷ rest) ++ greater_than ∷ [])
      ≡ record { messages = held_messages c rest; opened = Between Data; last_start_tag = last }
  reads-held s c rest begins h =
      let p = and_parts (begins_no_keyword (c ∷ rest)) (is_rest is_white_space (c ∷ rest)) h in
      let q = and_parts (not (is_white_space c)) (list_all in_skipped_rest (c ∷ rest)) p.1 in
      let held : List ℕ = held_of (c ∷ rest) in
      let afterwards : List ℕ = after_held_of (c ∷ rest) in
      let parts : held ++ afterwards ≡ c ∷ rest = while-parts begins_doctype_keyword [] (c ∷ rest) in
      let cells : List Spelled = spell_skipped rules.exact (with_quirks d) afterwards in
      let text : characters cells ≡ afterwards ++ greater_than ∷ [] = characters-skipped rules.exact (with_quirks d) afterwards in
      let line : ℕ = line_after input (before ++ held) in
      let M : List Message = spelled_messages rules.exact input before (spell_silent held) in
      let E : List Message = first_error rules d step reply foreign line held in
      let N : List Message = spelled_messages rules.exact input (before ++ held) cells in
      let error : ℕ → List Message = λ n. on_line n (error_in rules.exact state.AfterDoctypeName c ∷ []) in
      let whole : (c ∷ rest) ++ greater_than ∷ [] ≡ characters (spell_silent held) ++ characters cells =
      ap (λ l. l ++ greater_than ∷ []) (sym parts) ∙ append_assoc held afterwards (greater_than ∷ []) ∙ ap (λ l. held ++ l) (sym text)
      ∙ ap (λ l. l ++ characters cells) (sym (characters-spell silent held)) in
      let within : list_all in_skipped_rest afterwards ≡ true =
      (and_parts (list_all in_skipped_rest held) (list_all in_skipped_rest afterwards) (sym (list_all-append in_skipped_rest held afterwards) ∙ ap (list_all in_skipped_rest) parts ∙ q.1)).1 in
      ap (trace step reply foreign rules s (line_after input before) last (InDoctype AfterName d)) whole
      ∙ trace-leads step reply foreign rules input before s last (InDoctype AfterName d) (InDoctypeKeyword held d) (spell_silent held) (characters cells) (leads-held rules d c rest p.0 begins)
      ∙ ap (λ l. with_messages M (trace step reply foreign rules (stepped step s M) (line_after input (before ++ l)) last (InDoctypeKeyword held d) (characters cells))) (characters-spell silent held)
      ∙ ap (with_messages M)
      (trace-decides rules d step reply foreign (stepped step s M) line last held (characters cells)
      (ap (next_is (λ b. not (begins_doctype_keyword (held ++ b ∷ [])))) text ∙ decides-held (c ∷ rest))
      ∙ ap (with_messages E)
      (trace-ends step reply foreign rules input (before ++ held) (stepped step (stepped step s M) E) last (InDoctype Skipped (with_quirks d)) (Between Data) cells
      (leads-goes rules (InDoctype Skipped (with_quirks d)) (Between Data) cells refl (goes-skipped rules.exact (with_quirks d) afterwards within))))
      ∙ ap (λ l. record { messages = M ++ (l ++ N); opened = Between Data; last_start_tag = last }) (held-error line c rest begins ∙ ap error (line-first c rest begins))

  -- after the name and white space
  reads-after_name : (s : S) (afterwards : RestAfterName) → is_after_name afterwards ≡ true → IsReadAfter s (InDoctype AfterName d) afterwards
  unfolding messages_after_name step_at doctype_step space_step keyword_or_end_step is_white_space
  reads-after_name s (NoKeyword []) h = reads-nothing s (InDoctype AfterName d) refl
  reads-after_name s (NoKeyword (c ∷ rest)) h = by (begins_doctype_keyword (c ∷ [])) refl
    where
      by : (t : Bool) → begins_doctype_keyword (c ∷ []) ≡ t
          → trace step reply foreign rules s (line_after input before) last (InDoctype AfterName d) ((c ∷ rest) ++ greater_than ∷ [])
          ≡ record { messages = if t then held_messages c rest else spelled_messages rules.exact input before (spell_odd rules.exact state.AfterDoctypeName (with_quirks d) (c ∷ rest)); opened = Between Data; last_start_tag = last }
      by true e = reads-held s c rest e h
      by false e = reads-cells s (InDoctype AfterName d) (NoKeyword (c ∷ rest)) (leads-odd c rest e (and_parts (begins_no_keyword (c ∷ rest)) (is_rest is_white_space (c ∷ rest)) h).1)
  reads-after_name s (PublicKeyword keyword space identifier) h =
      let p = and_parts (is_keyword Public keyword) (list_all is_white_space space && is_public identifier) h in
      let q = and_parts (list_all is_white_space space) (is_public identifier) p.1 in
      let told : DoctypeOf = told_after_name name (PublicKeyword keyword space identifier) in
      let cells : List Spelled = spell_wanted rules.exact Public told space (spell_after_public rules.exact told) identifier in
      reads-cells s (InDoctype AfterName d) (PublicKeyword keyword space identifier)
      (Leads-append rules (InDoctype AfterName d) (InDoctype (AfterKeyword Public) d) (Between Data) (spell_silent keyword) cells (leads-keyword rules d Public keyword p.0)
      (leads-goes rules (InDoctype (AfterKeyword Public) d) (Between Data) cells refl (goes-public_keyword rules.exact name space identifier q.0 q.1)))
  reads-after_name s (SystemKeyword keyword space identifier) h =
      let p = and_parts (is_keyword System keyword) (list_all is_white_space space && is_system identifier) h in
      let q = and_parts (list_all is_white_space space) (is_system identifier) p.1 in
      let told : DoctypeOf = told_after_name name (SystemKeyword keyword space identifier) in
      let cells : List Spelled = spell_wanted rules.exact System told space (spell_after_system rules.exact told) identifier in
      reads-cells s (InDoctype AfterName d) (SystemKeyword keyword space identifier)
      (Leads-append rules (InDoctype AfterName d) (InDoctype (AfterKeyword System) d) (Between Data) (spell_silent keyword) cells (leads-keyword rules d System keyword p.0)
      (leads-goes rules (InDoctype (AfterKeyword System) d) (Between Data) cells refl (goes-system_keyword rules.exact name space identifier q.0 q.1)))

-- ---- the whole doctype

module _ {S H : Type 0} (step : S → Told → ℕ → S) (reply : S → Told → ℕ → Reply H) (foreign : S → Bool) (rules : Rules) where
  -- after a name and this white space
  reads-after : (input : Input) (before : List ℕ) (last name : List ℕ) (s : S) (space : List ℕ) (afterwards : RestAfterName) → can_stand_after space afterwards ≡ true
      → IsReadAfter step reply foreign rules input before last name s (after_name rules (named_doctype name None None false) space) afterwards
  unfolding step_at doctype_step doctype_name_step in_doctype_name is_white_space
  reads-after input before last name s [] (NoKeyword []) h = reads-nothing step reply foreign rules input before last name s (InDoctype InDoctypeName (named_doctype name None None false)) refl
  reads-after input before last name s [] (NoKeyword (c ∷ rest)) h = absurd (false≢true h)
  reads-after input before last name s [] (PublicKeyword keyword space identifier) h = absurd (false≢true h)
  reads-after input before last name s [] (SystemKeyword keyword space identifier) h = absurd (false≢true h)
  reads-after input before last name s (b ∷ space) afterwards h =
      reads-after_name step reply foreign rules input before last name s afterwards (and_parts (list_all is_white_space (b ∷ space)) (is_after_name afterwards) h).1

  pub white-after : (space : List ℕ) (afterwards : RestAfterName) → can_stand_after space afterwards ≡ true → list_all is_white_space space ≡ true
  white-after [] afterwards h = refl
  white-after (b ∷ space) afterwards h = (and_parts (list_all is_white_space (b ∷ space)) (is_after_name afterwards) h).0

  -- a doctype, written out, tells its messages
  reads-content : (K : Start) (s : S) (word space : List ℕ) (content : Content)
      → bytes_eq (lower_case word) (codes "doctype") ≡ true → list_all is_white_space space ≡ true → is_content content ≡ true
      → IsRead step reply foreign rules K s (opening word space ++ (content_text content ++ greater_than ∷ [])) (messages_of rules.exact K.input word space content)
  unfolding messages_of
  reads-content K s word space NoName is_word all h =
      let ends : List Spelled = spell_end (error_in rules.exact state.BeforeDoctypeName greater_than ∷ []) (with_quirks empty_doctype) in
      trace-text step reply foreign rules K.input [] s K.last_start_tag (Between Data) (Between Data) (spell_silent (opening word space) ++ ends) (opening word space ++ greater_than ∷ [])
      (characters-two (spell_silent (opening word space)) ends (opening word space) (greater_than ∷ []) (characters-spell silent (opening word space)) refl)
      (Leads-append rules (Between Data) (after_word rules space) (Between Data) (spell_silent (opening word space)) ends (leads-opening rules word space is_word all)
      (leads-goes rules (after_word rules space) (Between Data) ends refl
      (Goes-one rules.exact (after_word rules space) (Between Data) greater_than _ (step-no_name rules space))))
  reads-content K s word space (Named first rest later afterwards) is_word all h =
      let p = and_parts (list_all in_doctype_name (first ∷ rest)) (can_stand_after later afterwards) h in
      let name : List ℕ = flat_map name_bytes (first ∷ rest) in
      let cells : List Spelled = spell_name rules.exact word space first rest later in
      let before : List ℕ = opening word space ++ (first ∷ rest ++ later) in
      let text : List ℕ = after_name_text afterwards ++ greater_than ∷ [] in
      let M : List Message = spelled_messages rules.exact K.input [] cells in
      let opened : Open = after_name rules (named rules first rest) later in
      let whole : opening word space ++ (((first ∷ rest ++ later) ++ after_name_text afterwards) ++ greater_than ∷ []) ≡ characters cells ++ text =
      ap (λ l. opening word space ++ l) (append_assoc (first ∷ rest ++ later) (after_name_text afterwards) (greater_than ∷ []))
      ∙ sym (append_assoc (opening word space) (first ∷ rest ++ later) text)
      ∙ ap (λ l. l ++ text) (sym (characters-name rules.exact word space first rest later)) in
      ap (trace step reply foreign rules s (line_after K.input []) K.last_start_tag (Between Data)) whole
      ∙ trace-leads step reply foreign rules K.input [] s K.last_start_tag (Between Data) opened cells text (leads-name rules word space first rest later is_word all p.0 (white-after later afterwards p.1))
      ∙ ap (λ l. with_messages M (trace step reply foreign rules (stepped step s M) (line_after K.input l) K.last_start_tag opened text)) (characters-name rules.exact word space first rest later)
      ∙ ap (with_messages M) (reads-after K.input before K.last_start_tag name (stepped step s M) later afterwards p.1)

  pub reads_doctype : (K : Start) (s : S) (X : List ℕ) (doctype : WrittenDoctype) → IsDoctype K X doctype
      → IsReadFrom step reply foreign rules K s X (messages_of rules.exact K.input doctype.word doctype.space doctype.content)
  unfolding written is_written
  reads_doctype K s X doctype one =
      let p = and_parts (bytes_eq (lower_case doctype.word) (codes "doctype")) (list_all is_white_space doctype.space && is_content doctype.content) one.is_doctype in
      let q = and_parts (list_all is_white_space doctype.space) (is_content doctype.content) p.1 in
      rw (one.starts, one.text) (reads-content K s doctype.word doctype.space doctype.content p.0 q.0 q.1)

  -- a text that is one doctype
  pub reading-doctype : (K : Start) (s : S) (X : List ℕ) (doctype : WrittenDoctype) → IsDoctype K X doctype
      → messages (reading step reply foreign rules K s X) ≡ doctype_messages rules.exact K.input doctype
  unfolding doctype_messages
  reading-doctype K s X doctype one =
      reading-whole step reply foreign rules K s X (messages_of rules.exact K.input doctype.word doctype.space doctype.content) (reads_doctype K s X doctype one) ∙ rw one.text refl
