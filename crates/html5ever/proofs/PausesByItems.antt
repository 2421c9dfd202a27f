-- A feed takes the shortest prefix whose items tell, as the last message, a tag to which the sink's reply pauses.
use Rattle.std.proofs.Common.{◌≡◌, ℕ, Bool, true, false, List, [], ◌∷◌, ◌++◌, refl, ap, sym, ◌∙◌, subst, length, drop}
use Rattle.std.specs.Prelude.{◌≢◌, ◌==◌, ◌&&◌, codes, cond, if◌then◌else◌}
use Rattle.std.proofs.Math.Seq.{drop-append_seam}
use Rattle.std.proofs.lemmas.Bool.{false≢true}
use Rattle.std.proofs.lemmas.List.{append-nil, append_assoc, map-append}
use Rattle.std.specs.Str.{bytes_eq}
use Rattle.html5ever_interface.proofs.Steppings.{stepped-append}
use Rattle.html5ever_interface.specs.Sink.{Means, Message, stepped, on_line}
use Rattle.html5ever_interface.specs.Token.{Told, TagOf, DoctypeOf, Reply, is_tag}
use Rattle.html5ever_interface.specs.Token.Told.{Tag}
use Rattle.html5ever_interface.specs.Token.Reply.{KeepOn}
use Rattle.html5ever_interface.specs.declared.states.DoctypeIdKind.TheVariants.{Public, System}
use Rattle.html5reading.proofs.InputLemmas.{normalised-dropped, normalised-kept}
use Rattle.html5reading.proofs.NoTags.{NoTags, NoTagsHere, no_tags-append, no_tags-bad, no_tags-step_at, no_tags-settled}
use Rattle.html5reading.proofs.ReadingLemmas.{told-nil, told-append, told-none, told-one}
use Rattle.html5reading.specs.Characters.{carriage_return, line_feed, lower_case}
use Rattle.html5reading.specs.Comment.{begins_keyword, cdata_keyword, begins_cdata}
use Rattle.html5reading.specs.Doctype.{with_quirks, is_keyword, begins_doctype_keyword}
use Rattle.html5reading.specs.ErrorText.{bad_character_error}
use Rattle.html5reading.specs.Machine.{brought_at, step_at, messages_here, reference_step, declaration_step, declaration_answer_step, doctype_keyword_step, doctype_step, skipped_step}
use Rattle.html5reading.specs.NormalisedText.{normalised, line_after, input_after, drops_first}
use Rattle.html5reading.specs.Reading.{Here, Brought, messages_so_far, state_after, start_after}
use Rattle.html5reading.specs.Reading.Here.{Tells, TellsTag}
use Rattle.html5reading.specs.Reference.{is_undecided, ends_number}
use Rattle.html5reading.specs.Slice.{tokens_of_late}
use Rattle.html5reading.specs.Start.{Start, Stand, Open, Rules, nothing_open}
use Rattle.html5reading.specs.Start.DoctypePlace.{Skipped}
use Rattle.html5reading.specs.Start.Open.{Between, LessThan, LessThanSolidus, InTag, InRaw, InDeclaration, InComment, InBogusComment, InInstruction, InDoctype, InDoctypeKeyword, InReference, InCdata}
use Rattle.html5feed.specs.Feed.{Feed, pauses, takes_before, up_to_pause, first_pause, feed}
use Rattle.html5feed.proofs.Pauses.{NoTagMessages, no_tag_messages, first_pause-none, first_pause-append, first_pause-no_tags, pause_here, feed-cons, feed-pauses, feed-anew}
use Rattle.html5grammar.proofs.Completeness.{all-composed}
use Rattle.html5grammar.proofs.Soundness.{tells-items}
use Rattle.html5grammar.proofs.Split.{nil≢cons, cons_first, cons_rest}
use Rattle.html5grammar.specs.Items.{Items, Composed}
use Rattle.html5ever.specs.Pauses.{tag_message, ItemsTell, EndsInPause, TakesByItems}
use Rattle.html5ever.specs.Pauses.TakesByItems.{UpToPause, All}
use Rattle.markup5ever.specs.NamedReferences.{IsTable}

-- a choice by a test that is known
if-true : {A : Type 0} → (p : Bool) (a b : A) → p ≡ true → (if p then a else b) ≡ a
if-true p a b h = rw h refl

if-false : {A : Type 0} → (p : Bool) (a b : A) → p ≡ false → (if p then a else b) ≡ b
if-false p a b h = rw h refl

up_to_pause-on : {H : Type 0} → (r : Reply H) (c : ℕ) (text : List ℕ) (rest : Feed H) → pauses r ≡ false
    → up_to_pause r c text rest ≡ takes_before (c ∷ []) rest
unfolding up_to_pause
up_to_pause-on r c text rest h = rw h refl

-- ---- what one character tells has no tag but the one that it ends

no_tags-choice : (test : Bool) (p q : Brought Open) → NoTagsHere p.here → NoTagsHere q.here → NoTagsHere (if test then p else q).here
no_tags-choice true p q f g = f
no_tags-choice false p q f g = g

module _ (rules : Rules) (foreign : Bool) (c : ℕ) where
  no_tags-answer : (held : List ℕ) → NoTagsHere (declaration_answer_step rules.exact foreign held c).here
  unfolding declaration_answer_step NoTagsHere NoTags step_at
  no_tags-answer held =
      no_tags-choice (foreign && bytes_eq (held ++ c ∷ []) cdata_keyword) _ _ tt
      (no_tags-choice (foreign && begins_cdata (held ++ c ∷ [])) _ _ tt (no_tags-step_at rules.exact c (InBogusComment held)))

  no_tags-brought : (opened : Open) → NoTagsHere (brought_at rules foreign opened c).here
  unfolding brought_at reference_step declaration_step doctype_keyword_step NoTagsHere NoTags step_at doctype_step
  no_tags-brought (InReference stand held) =
      no_tags-choice (is_undecided rules.references (held ++ c ∷ [])) _ _ tt
      (no_tags-choice (ends_number held c) _ _ tt (no_tags-step_at rules.exact c _))
  no_tags-brought (InDeclaration held) =
      no_tags-choice (bytes_eq (held ++ c ∷ []) (codes "--")) _ _ tt
      (no_tags-choice (bytes_eq (lower_case (held ++ c ∷ [])) (codes "doctype")) _ _ tt
      (no_tags-choice (begins_keyword (held ++ c ∷ [])) _ _ tt (no_tags-answer held)))
  no_tags-brought (InDoctypeKeyword held d) =
      no_tags-choice (is_keyword Public (held ++ c ∷ [])) _ _ tt
      (no_tags-choice (is_keyword System (held ++ c ∷ [])) _ _ tt
      (no_tags-choice (begins_doctype_keyword (held ++ c ∷ [])) _ _ tt (no_tags-step_at rules.exact c (InDoctype Skipped (with_quirks d)))))
  no_tags-brought (InDoctype place d) = no_tags-step_at rules.exact c (InDoctype place d)
  no_tags-brought (InComment before) = no_tags-step_at rules.exact c (InComment before)
  no_tags-brought (InBogusComment before) = no_tags-step_at rules.exact c (InBogusComment before)
  no_tags-brought (InInstruction before) = no_tags-step_at rules.exact c (InInstruction before)
  no_tags-brought (Between mode) = no_tags-step_at rules.exact c (Between mode)
  no_tags-brought LessThan = no_tags-step_at rules.exact c LessThan
  no_tags-brought LessThanSolidus = no_tags-step_at rules.exact c LessThanSolidus
  no_tags-brought (InTag place tag) = no_tags-step_at rules.exact c (InTag place tag)
  no_tags-brought (InRaw place name) = no_tags-step_at rules.exact c (InRaw place name)
  no_tags-brought (InCdata held) = no_tags-step_at rules.exact c (InCdata held)

no_tags-both : (M N : List Message) → NoTagMessages M → NoTagMessages N → NoTagMessages (M ++ N)
unfolding NoTagMessages
no_tags-both [] N f g = g
no_tags-both (m ∷ M) N f g = (f.0, no_tags-both M N f.1 g)

-- a character is dropped, or is one of the normalised text
data OneOrNone (K : Start) (c : ℕ) : Type 0 where
  None : normalised K.input (c ∷ []) ≡ [] → OneOrNone K c
  One : (d : ℕ) → normalised K.input (c ∷ []) ≡ d ∷ [] → OneOrNone K c

one_or_none : (K : Start) (c : ℕ) → OneOrNone K c
one_or_none K c = by (drops_first K.input c) (c == carriage_return) refl refl
  where
    by : (dropped break : Bool) → drops_first K.input c ≡ dropped → (c == carriage_return) ≡ break → OneOrNone K c
    by true break h e = None (normalised-dropped K.input c h)
    by false true h e = One line_feed (normalised-kept K.input c h ∙ rw e refl)
    by false false h e = One c (normalised-kept K.input c h ∙ rw e refl)

module _ {X S H : Type 0} (means : Means X S H) (rules : Rules) where
  -- the first reply that pauses to what a text tells, or to keep on
  abbrev pub pause_of : Start → S → List ℕ → Reply H
  pause_of P t more = first_pause means t (messages_so_far means rules P t more)

  pause_of-nil : (P : Start) (t : S) → pause_of P t [] ≡ KeepOn
  pause_of-nil P t = ap (first_pause means t) (told-nil means.step means.reply means.foreign rules P t) ∙ first_pause-none means t

  pause_of-cons : (P : Start) (t : S) (c : ℕ) (more : List ℕ)
      → pause_of P t (c ∷ more)
      ≡ (if pauses (pause_here means rules P t c) then pause_here means rules P t c
      else pause_of (start_after means rules P t (c ∷ [])) (state_after means rules P t (c ∷ [])) more)
  unfolding pause_here
  pause_of-cons P t c more =
      ap (first_pause means t) (told-append means.step means.reply means.foreign rules P t (c ∷ []) more)
      ∙ first_pause-append means t (messages_so_far means rules P t (c ∷ [])) _

  -- ---- the tag that is sent last

  -- the last of these messages is a tag, and this the reply to it
  record EndsInTag (t : S) (M : List Message) (reply : Reply H) : Type 0 where
    between : List Message
    tag : TagOf
    line : ℕ
    parts : M ≡ between ++ tag_message tag line ∷ []
    asked : reply ≡ means.reply (stepped means.step t between) (Tag tag) line

  ends-after : (t : S) (M N : List Message) (reply : Reply H) → EndsInTag (stepped means.step t M) N reply → EndsInTag t (M ++ N) reply
  ends-after t M N reply ends = record {
    between = M ++ ends.between;
    tag = ends.tag;
    line = ends.line;
    parts = ap (λ l. M ++ l) ends.parts ∙ sym (append_assoc M ends.between (tag_message ends.tag ends.line ∷ []));
    asked = ends.asked ∙ ap (λ u. means.reply u (Tag ends.tag) ends.line) (sym (stepped-append means.step t M ends.between));
  }

  first_pause-last : (t : S) (M : List Message) (tag : TagOf) (line : ℕ)
      → first_pause means t (M ++ tag_message tag line ∷ [])
      ≡ (if pauses (first_pause means t M) then first_pause means t M
      else if pauses (means.reply (stepped means.step t M) (Tag tag) line) then means.reply (stepped means.step t M) (Tag tag) line else KeepOn)
  unfolding first_pause
  first_pause-last t M tag line = first_pause-append means t M (tag_message tag line ∷ [])

  -- a reply that pauses is the one to the tag, when no tag stands before it
  asked-last : (t : S) (M : List Message) (tag : TagOf) (line : ℕ) → first_pause means t M ≡ KeepOn
      → pauses (first_pause means t (M ++ tag_message tag line ∷ [])) ≡ true
      → first_pause means t (M ++ tag_message tag line ∷ []) ≡ means.reply (stepped means.step t M) (Tag tag) line
  asked-last t M tag line none h =
      is ∙ by (pauses (means.reply (stepped means.step t M) (Tag tag) line)) refl (sym (ap pauses is) ∙ h)
    where
      is : first_pause means t (M ++ tag_message tag line ∷ [])
          ≡ (if pauses (means.reply (stepped means.step t M) (Tag tag) line) then means.reply (stepped means.step t M) (Tag tag) line else KeepOn)
      is = first_pause-last t M tag line ∙ rw none refl

      by : (p : Bool) → pauses (means.reply (stepped means.step t M) (Tag tag) line) ≡ p
          → pauses (if pauses (means.reply (stepped means.step t M) (Tag tag) line) then means.reply (stepped means.step t M) (Tag tag) line else KeepOn) ≡ true
          → (if pauses (means.reply (stepped means.step t M) (Tag tag) line) then means.reply (stepped means.step t M) (Tag tag) line else KeepOn) ≡ means.reply (stepped means.step t M) (Tag tag) line
      by true e pausing = if-true _ _ _ e
      by false e pausing = absurd (false≢true (sym (ap pauses (if-false _ _ KeepOn e)) ∙ pausing))

  -- the tag that is sent last pauses, so some reply does
  pauses-last : (t : S) (M : List Message) (tag : TagOf) (line : ℕ) → pauses (means.reply (stepped means.step t M) (Tag tag) line) ≡ true
      → pauses (first_pause means t (M ++ tag_message tag line ∷ [])) ≡ true
  pauses-last t M tag line h = by (pauses (first_pause means t M)) refl
    where
      by : (p : Bool) → pauses (first_pause means t M) ≡ p → pauses (first_pause means t (M ++ tag_message tag line ∷ [])) ≡ true
      by true e = ap pauses (first_pause-last t M tag line ∙ if-true _ _ _ e) ∙ e
      by false e = ap pauses (first_pause-last t M tag line ∙ if-false _ _ _ e ∙ if-true _ _ KeepOn h) ∙ h

  module _ (keeps_on : (s : S) (told : Told) (line : ℕ) → is_tag told ≡ false → means.reply s told line ≡ KeepOn) where
    -- what a character tells, where a reply to it pauses
    ends-here : (t : S) (line line_now d : ℕ) (late : List Told) (h : Here Open) → NoTags late → NoTagsHere h
        → pauses (first_pause means t (on_line line late ++ messages_here means.step means.reply rules line_now d h)) ≡ true
        → EndsInTag t (on_line line late ++ messages_here means.step means.reply rules line_now d h)
        (first_pause means t (on_line line late ++ messages_here means.step means.reply rules line_now d h))
    unfolding messages_here NoTagsHere
    ends-here t line line_now d late (Tells told later) no_late none h =
        absurd (false≢true (ap pauses (sym (first_pause-no_tags means keeps_on t _
        (no_tags-both (on_line line late) _ (no_tag_messages line late no_late) (no_tag_messages line_now _ (no_tags-append _ told (no_tags-bad rules.exact d) none))))) ∙ h))
    ends-here t line line_now d late (TellsTag told tag) no_late none h =
        let tokens : List Told = bad_character_error rules.exact d ++ told in
        let M : List Message = on_line line late ++ on_line line_now tokens in
        let parts : on_line line late ++ on_line line_now (tokens ++ Tag tag ∷ []) ≡ M ++ tag_message tag line_now ∷ [] =
        ap (λ l. on_line line late ++ l) (map-append (λ (token : Told). record { token = token; line = line_now }) tokens (Tag tag ∷ []))
        ∙ sym (append_assoc (on_line line late) (on_line line_now tokens) (tag_message tag line_now ∷ [])) in
        let quiet : first_pause means t M ≡ KeepOn =
        first_pause-no_tags means keeps_on t M
        (no_tags-both (on_line line late) _ (no_tag_messages line late no_late) (no_tag_messages line_now tokens (no_tags-append _ told (no_tags-bad rules.exact d) none))) in
        record {
          between = M;
          tag = tag;
          line = line_now;
          parts = parts;
          asked = ap (first_pause means t) parts ∙ asked-last t M tag line_now quiet (sym (ap (λ l. pauses (first_pause means t l)) parts) ∙ h);
        }

    ends-character : (P : Start) (t : S) (c : ℕ) → pauses (pause_here means rules P t c) ≡ true
        → EndsInTag t (messages_so_far means rules P t (c ∷ [])) (pause_here means rules P t c)
    unfolding pause_here
    ends-character P t c h = by (one_or_none P c)
      where
        by : OneOrNone P c → EndsInTag t (messages_so_far means rules P t (c ∷ [])) (first_pause means t (messages_so_far means rules P t (c ∷ [])))
        by (None none) =
            absurd (false≢true (sym (ap pauses (ap (first_pause means t) (told-none means.step means.reply means.foreign rules P t c none) ∙ first_pause-none means t)) ∙ h))
        by (One d one) =
            let told = told-one means.step means.reply means.foreign rules P t c d one in
            subst (λ M. EndsInTag t M (first_pause means t M)) (sym told)
            (ends-here t _ _ d _ (brought_at rules (means.foreign t) P.opened d).here (no_tags-settled rules (means.foreign t) P.opened d) (no_tags-brought rules (means.foreign t) d P.opened)
            (sym (ap (λ M. pauses (first_pause means t M)) told) ∙ h))

    -- ---- a feed ends where a reply pauses for the first time, and else takes all

    record EndsAtPause (P : Start) (t : S) (Q : List ℕ) (fed : Feed H) : Type 0 where
      parts : Q ≡ fed.taken ++ fed.left
      pausing : pauses fed.answer ≡ true → EndsInTag t (messages_so_far means rules P t fed.taken) fed.answer
      sooner : (front rest : List ℕ) → fed.taken ≡ front ++ rest → rest ≢ [] → pauses (pause_of P t front) ≡ false
      all_left : pauses fed.answer ≡ false → fed.left ≡ []
      all_answer : pauses fed.answer ≡ false → fed.answer ≡ KeepOn
      all_told : pauses fed.answer ≡ false → pauses (pause_of P t fed.taken) ≡ false

    ends-nothing : (P : Start) (t : S) → EndsAtPause P t [] (feed means rules P t [] [])
    unfolding feed
    ends-nothing P t = record {
      parts = refl;
      pausing = λ h. absurd (false≢true h);
      sooner = sooner;
      all_left = λ h. refl;
      all_answer = λ h. refl;
      all_told = λ h. ap pauses (pause_of-nil P t);
    }
      where
        sooner : (front rest : List ℕ) → [] ≡ front ++ rest → rest ≢ [] → pauses (pause_of P t front) ≡ false
        sooner [] rest e some = absurd (some (sym e))
        sooner (d ∷ front) rest e some = absurd (nil≢cons e)

    ends-pausing : (P : Start) (t : S) (c : ℕ) (Q : List ℕ) → pauses (pause_here means rules P t c) ≡ true
        → EndsAtPause P t (c ∷ Q) (record { taken = c ∷ []; left = Q; answer = pause_here means rules P t c })
    ends-pausing P t c Q h = record {
      parts = refl;
      pausing = λ same. ends-character P t c h;
      sooner = sooner;
      all_left = λ none. absurd (false≢true (sym none ∙ h));
      all_answer = λ none. absurd (false≢true (sym none ∙ h));
      all_told = λ none. absurd (false≢true (sym none ∙ h));
    }
      where
        sooner : (front rest : List ℕ) → c ∷ [] ≡ front ++ rest → rest ≢ [] → pauses (pause_of P t front) ≡ false
        sooner [] rest e some = ap pauses (pause_of-nil P t)
        sooner (d ∷ []) rest e some = absurd (some (sym (cons_rest e)))
        sooner (d ∷ b ∷ front) rest e some = absurd (nil≢cons (cons_rest e))

    ends-further : (P : Start) (t : S) (c : ℕ) (Q : List ℕ) (rest : Feed H) → pauses (pause_here means rules P t c) ≡ false
        → EndsAtPause (start_after means rules P t (c ∷ [])) (state_after means rules P t (c ∷ [])) Q rest
        → EndsAtPause P t (c ∷ Q) (takes_before (c ∷ []) rest)
    ends-further P t c Q rest h later = record {
      parts = ap (λ l. c ∷ l) later.parts;
      pausing = λ pausing.
          subst (λ M. EndsInTag t M rest.answer) (sym (told-append means.step means.reply means.foreign rules P t (c ∷ []) rest.taken))
          (ends-after t (messages_so_far means rules P t (c ∷ [])) _ rest.answer (later.pausing pausing));
      sooner = sooner;
      all_left = later.all_left;
      all_answer = later.all_answer;
      all_told = λ none. ap pauses (past rest.taken) ∙ later.all_told none;
    }
      where
        past : (more : List ℕ) → pause_of P t (c ∷ more) ≡ pause_of (start_after means rules P t (c ∷ [])) (state_after means rules P t (c ∷ [])) more
        past more = pause_of-cons P t c more ∙ if-false (pauses (pause_here means rules P t c)) _ _ h

        sooner : (front after : List ℕ) → c ∷ rest.taken ≡ front ++ after → after ≢ [] → pauses (pause_of P t front) ≡ false
        sooner [] after e some = ap pauses (pause_of-nil P t)
        sooner (d ∷ front) after e some =
            ap (λ x. pauses (pause_of P t (x ∷ front))) (sym (cons_first e)) ∙ ap pauses (past front) ∙ later.sooner front after (cons_rest e) some

    ends-by : (P : Start) (t : S) (c : ℕ) (Q : List ℕ) (p : Bool) → pauses (pause_here means rules P t c) ≡ p
        → EndsAtPause (start_after means rules P t (c ∷ [])) (state_after means rules P t (c ∷ [])) Q
        (feed means rules (start_after means rules P t (c ∷ [])) (state_after means rules P t (c ∷ [])) [] Q)
        → EndsAtPause P t (c ∷ Q) (feed means rules P t [] (c ∷ Q))
    ends-by P t c Q true h later = subst (EndsAtPause P t (c ∷ Q)) (sym (feed-pauses means rules P t c Q h)) (ends-pausing P t c Q h)
    ends-by P t c Q false h later =
        subst (EndsAtPause P t (c ∷ Q)) (sym (feed-cons means rules P t c Q ∙ up_to_pause-on _ c Q _ h)) (ends-further P t c Q _ h later)

    ends-at_pause : (P : Start) (t : S) (Q : List ℕ) → EndsAtPause P t Q (feed means rules P t [] Q)
    ends-at_pause P t [] = ends-nothing P t
    ends-at_pause P t (c ∷ Q) =
        ends-by P t c Q (pauses (pause_here means rules P t c)) refl
        (ends-at_pause (start_after means rules P t (c ∷ [])) (state_after means rules P t (c ∷ [])) Q)

    -- ---- the same by items

    tells-messages : (K : Start) (s : S) (text : List ℕ) (M : List Message) → IsTable rules.references → ItemsTell means rules K s text M
        → messages_so_far means rules K s text ≡ M
    tells-messages K s text M table told = (tells-items means rules K s text M told.0 table told.1).told

    messages-told : (K : Start) (s : S) (text : List ℕ) (M : List Message) → IsTable rules.references → nothing_open K.opened ≡ true
        → messages_so_far means rules K s text ≡ M → ItemsTell means rules K s text M
    messages-told K s text M table clean e =
        let c : Composed means rules K s text = all-composed means rules K s text clean in
        (c.ends, subst (λ N. Items means rules K s text N c.ends) (sym (tells-items means rules K s text c.tells c.ends table c.items).told ∙ e) c.items)

    -- the messages beyond a text
    abbrev beyond_of : Start → S → List ℕ → List ℕ → List Message
    beyond_of K s text more = messages_so_far means rules (start_after means rules K s text) (state_after means rules K s text) more

    pauses-within : (K : Start) (s : S) (text more : List ℕ) (reply : Reply H) → IsTable rules.references → EndsInPause means rules K s text more reply
        → pauses (pause_of (start_after means rules K s text) (state_after means rules K s text) more) ≡ true
    pauses-within K s text more reply table p =
        let last : List Message = p.between ++ tag_message p.tag p.line ∷ [] in
        let before : messages_so_far means rules K s text ≡ p.before = tells-messages K s text p.before table p.told in
        let beyond : beyond_of K s text more ≡ last =
        sym (drop-append_seam (messages_so_far means rules K s text) (beyond_of K s text more))
        ∙ ap (drop (length (messages_so_far means rules K s text)))
        (sym (told-append means.step means.reply means.foreign rules K s text more) ∙ tells-messages K s (text ++ more) (p.before ++ last) table p.tells)
        ∙ ap (λ (l : List Message). drop (length l) (p.before ++ last)) before
        ∙ drop-append_seam p.before last in
        ap (λ M. pauses (first_pause means (state_after means rules K s text) M)) beyond
        ∙ ap (λ M. pauses (first_pause means (stepped means.step s M) last)) before
        ∙ pauses-last (stepped means.step s p.before) p.between p.tag p.line (ap pauses (sym p.asked) ∙ p.pauses)

    within-pauses : (K : Start) (s : S) (text more : List ℕ) (reply : Reply H) → IsTable rules.references → nothing_open K.opened ≡ true
        → EndsInTag (state_after means rules K s text) (beyond_of K s text more) reply → pauses reply ≡ true
        → EndsInPause means rules K s text more reply
    within-pauses K s text more reply table clean ends h = record {
      before = messages_so_far means rules K s text;
      between = ends.between;
      tag = ends.tag;
      line = ends.line;
      told = messages-told K s text _ table clean refl;
      tells = messages-told K s (text ++ more) _ table clean (told-append means.step means.reply means.foreign rules K s text more ∙ ap (λ l. messages_so_far means rules K s text ++ l) ends.parts);
      asked = ends.asked;
      pauses = h;
    }

    -- a feed that pauses, and one that doesn't
    takes-up_to : (K : Start) (s : S) (text queue : List ℕ) (fed : Feed H) (p : Bool) → pauses fed.answer ≡ p → IsTable rules.references → nothing_open K.opened ≡ true
        → EndsAtPause (start_after means rules K s text) (state_after means rules K s text) queue fed
        → TakesByItems means rules K s text queue fed.taken fed.left fed.answer
    takes-up_to K s text queue fed true h table clean ends =
        UpToPause fed.taken fed.left fed.answer ends.parts (within-pauses K s text fed.taken fed.answer table clean (ends.pausing h) h)
        (λ front rest other e some within. false≢true (sym (ends.sooner front rest e some) ∙ pauses-within K s text front other table within))
    takes-up_to K s text queue fed false h table clean ends =
        subst (λ l. TakesByItems means rules K s text queue l fed.left fed.answer) (sym whole)
        (subst (λ l. TakesByItems means rules K s text queue queue l fed.answer) (sym (ends.all_left h))
        (subst (λ r. TakesByItems means rules K s text queue queue [] r) (sym (ends.all_answer h)) (All never)))
      where
        whole : fed.taken ≡ queue
        whole = sym (append-nil fed.taken) ∙ ap (λ l. fed.taken ++ l) (sym (ends.all_left h)) ∙ sym ends.parts

        never : (front rest : List ℕ) (other : Reply H) → queue ≡ front ++ rest → EndsInPause means rules K s text front other → ⊥
        never front [] other e within =
            false≢true (sym (ends.all_told h)
            ∙ ap (λ l. pauses (pause_of (start_after means rules K s text) (state_after means rules K s text) l)) (whole ∙ e ∙ append-nil front)
            ∙ pauses-within K s text front other table within)
        never front (d ∷ rest) other e within =
            false≢true (sym (ends.sooner front (d ∷ rest) (whole ∙ e) (λ none. nil≢cons (sym none))) ∙ pauses-within K s text front other table within)

    -- a feed, wherever the text before it leads
    pub takes-by_items : (K : Start) (s : S) (text queue : List ℕ) → IsTable rules.references → nothing_open K.opened ≡ true
        → TakesByItems means rules K s text queue (feed means rules K s text queue).taken (feed means rules K s text queue).left (feed means rules K s text queue).answer
    takes-by_items K s text queue table clean =
        subst (λ (fed : Feed H). TakesByItems means rules K s text queue fed.taken fed.left fed.answer) (sym (feed-anew means rules K s text queue))
        (takes-up_to K s text queue _ (pauses (feed means rules (start_after means rules K s text) (state_after means rules K s text) [] queue).answer) refl table clean
        (ends-at_pause (start_after means rules K s text) (state_after means rules K s text) queue))
