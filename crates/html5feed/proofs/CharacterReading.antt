-- Reading one character: what the machine tells of it, with the error of a bad character in front.
use Rattle.std.proofs.Common.{◌≡◌, ℕ, Bool, true, false, List, [], ◌∷◌, ◌++◌, length, refl, ap, sym, ◌∙◌, Result, Err}
use Rattle.std.specs.Prelude.{◌==◌, encode_utf8_all}
use Rattle.std.specs.Str.{IsUtf8, chars}
use Rattle.std.proofs.lemmas.Bool.{false≢true, eqb-true}
use Rattle.std.proofs.lemmas.List.{nil_from_length}
use Rattle.std.proofs.lemmas.Str.{chars-nil, encodes-chars}
use Rattle.std.proofs.lemmas.List.{append-nil, append_assoc, map-append}
use Rattle.html5ever_interface.specs.Sink.{Means, Message, stepped, on_line}
use Rattle.html5ever_interface.specs.Token.{Told, TagOf, Reply}
use Rattle.html5ever_interface.specs.Token.Told.{Tag}
use Rattle.html5ever_interface.specs.declared.states.ScriptEscapeKind.TheVariants as escape_kind
use Rattle.html5ever_interface.specs.declared.states.State.{State}
use Rattle.html5ever_interface.specs.declared.states.State.TheVariants as state
use Rattle.html5reading.specs.Cdata.{open_cdata}
use Rattle.html5reading.specs.ErrorText.{bad_character_error}
use Rattle.html5reading.specs.Reading.{Here, last_after, open_after_reply}
use Rattle.html5reading.specs.Reading.Here.{Tells, TellsTag}
use Rattle.html5reading.specs.Start.{Open, Rules, held_len}
use Rattle.html5reading.specs.Start.Mode.{Data}
use Rattle.html5reading.specs.Start.Open.{Between}
use Rattle.html5reading.proofs.Holding.{HoldsAtMostOne}
use Rattle.html5reading.specs.Machine.{step_at, messages_here, opened_here, last_here}
use Rattle.html5ever_interface.proofs.Steppings.{stepped-append}
use Rattle.html5ever_interface.specs.Token.{DoctypeOf}
use Rattle.std.proofs.Common.{◌≤◌, ◌≢◌}
use Rattle.html5partial.specs.CurrentTag.{open_of, is_between, after_doctype_name, last_name_of}
use Rattle.html5partial.specs.Steps.{tokens_of, Next, afterwards}
use Rattle.html5partial.specs.Steps.Next.{Opens, Closes}
use Rattle.html5partial.specs.declared.opened.Opened.{Opened}
use Rattle.html5partial.specs.declared.error.TokenizerError.{TokenizerError}
use Rattle.html5partial.specs.declared.error.TokenizerError.TheVariants.{Memory, Sink, Failed}
use Rattle.html5feed.specs.Feed.{first_pause}
use Rattle.html5partial.specs.Steps.{Leads, Ends}
use Rattle.html5states.specs.Telling as telling
use Rattle.html5feed.proofs.Pauses.{first_pause-none, first_pause-append, first_pause-no_tags, no_tag_messages}
use Rattle.html5states.proofs.Tellings.{told_then, told_stop}
use Rattle.html5reading.proofs.NoTags.{NoTags, NoTagsHere, no_tags-append, no_tags-bad, no_tags-step_at}
use Rattle.html5ever_interface.specs.Token.{is_tag}
use Rattle.html5ever_interface.specs.Token.Reply.{KeepOn}
use Rattle.std.specs.Result.{IsErrAnd}
use Rattle.std.proofs.lemmas.Result.{err_from_is_err_and}

-- after a character that was read at most that one is held
pub held_len-after : (h : Here Open) (later : Open) → HoldsAtMostOne h → Opens later ≡ afterwards h → held_len later ≤ 1
unfolding afterwards
held_len-after (Tells told opened) later one is = let same : later ≡ opened = cc in rw same one
held_len-after (TellsTag told tag) later one is = cc

-- the tag that is sent last, where one ends
abbrev pub tag_in : Next → List Told
tag_in (Opens later) = []
tag_in (Closes tag later) = Tag tag ∷ []

-- what is open after a character, in the sink's state before that tag
abbrev pub open_after : {S H : Type 0} → (S → Told → ℕ → Reply H) → S → ℕ → List ℕ → Next → Open
open_after reply s line last (Opens later) = later
open_after reply s line last (Closes tag later) = open_after_reply (last_after last tag) (reply s (Tag tag) line)

-- the last start tag after a character
abbrev pub last_in : List ℕ → Next → List ℕ
last_in last (Opens later) = last
last_in last (Closes tag later) = last_after last tag

pub last_here-after : (last : List ℕ) (h : Here Open) → last_here last h ≡ last_in last (afterwards h)
unfolding last_here afterwards
last_here-after last (Tells told later) = refl
last_here-after last (TellsTag told tag) = refl

-- after a tag Data goes on, unless the reply to it chooses
pub closes-open : (h : Here Open) (tag : TagOf) (later : Open) → Closes tag later ≡ afterwards h → later ≡ Between Data
unfolding afterwards
closes-open (Tells told opened) tag later e = cc
closes-open (TellsTag told ended) tag later e = cc

-- in Data nothing of a tag is open, nor of raw text
after_name≢data : (held : List ℕ) (d : DoctypeOf) → after_doctype_name held d ≢ Between Data
after_name≢data [] d = λ e. cc
after_name≢data (c ∷ held) d = λ e. cc

-- no text of a section is held if there are no bytes of it
section-filled : (held : List ℕ) → held ≢ [] → is_between state.CdataSection held ≡ false
section-filled [] filled = absurd (filled refl)
section-filled (c ∷ held) filled = refl

pub section-between : (text : List ℕ) → IsUtf8 text → (t : Bool) → (length text == 0) ≡ t → t ≡ is_between state.CdataSection (chars text)
section-between text utf8 true e =
    sym (ap (λ l. is_between state.CdataSection (chars l)) (nil_from_length text (eqb-true (length text) 0 e)) ∙ ap (is_between state.CdataSection) chars-nil)
section-between text utf8 false e =
    sym (section-filled (chars text) (λ none. false≢true (sym e ∙ ap (λ l. length l == 0) (sym (encodes-chars text utf8) ∙ ap encode_utf8_all none))))

section≢data : (held : List ℕ) → open_cdata held ≢ Between Data
section≢data [] = λ e. cc
section≢data (c ∷ held) = λ e. cc

-- only in the state Data nothing is open in Data
pub data-state : {Z : Type 0} (q : State) (at : Opened Z) → open_of q at ≡ Between Data → q ≡ state.Data
data-state state.Data at e = refl
data-state state.Plaintext at e = cc
data-state state.TagOpen at e = cc
data-state state.EndTagOpen at e = cc
data-state state.TagName at e = cc
data-state state.BeforeAttributeName at e = cc
data-state state.AttributeName at e = cc
data-state state.AfterAttributeName at e = cc
data-state state.BeforeAttributeValue at e = cc
data-state (state.AttributeValue kind) at e = cc
data-state state.AfterAttributeValueQuoted at e = cc
data-state state.SelfClosingStartTag at e = cc
data-state (state.RawData kind) at e = cc
data-state (state.RawLessThanSign kind) at e = cc
data-state (state.RawEndTagOpen kind) at e = cc
data-state (state.RawEndTagName kind) at e = cc
data-state (state.ScriptDataEscapeStart escape_kind.Escaped) at e = cc
data-state (state.ScriptDataEscapeStart escape_kind.DoubleEscaped) at e = cc
data-state state.ScriptDataEscapeStartDash at e = cc
data-state (state.ScriptDataEscapedDash kind) at e = cc
data-state (state.ScriptDataEscapedDashDash kind) at e = cc
data-state state.ScriptDataDoubleEscapeEnd at e = cc
data-state state.MarkupDeclarationOpen at e = cc
data-state state.Comment at e = cc
data-state state.BogusComment at e = cc
data-state state.ProcessingInstruction at e = cc
data-state state.Doctype at e = cc
data-state state.BeforeDoctypeName at e = cc
data-state state.DoctypeName at e = cc
data-state state.AfterDoctypeName at e = absurd (after_name≢data _ _ e)
data-state (state.AfterDoctypeKeyword kind) at e = cc
data-state (state.BeforeDoctypeIdentifier kind) at e = cc
data-state (state.DoctypeIdentifierDoubleQuoted kind) at e = cc
data-state (state.DoctypeIdentifierSingleQuoted kind) at e = cc
data-state (state.AfterDoctypeIdentifier kind) at e = cc
data-state state.BetweenDoctypePublicAndSystemIdentifiers at e = cc
data-state state.BogusDoctype at e = cc
data-state state.CdataSection at e = absurd (section≢data _ e)
data-state other at e = cc

-- a refusal within what a state tells, where a tag may follow
pub ended_stops : {X S H T : Type 0} (Z : Type 0) (means : Means X S H) (r : Result T TokenizerError) (e : TokenizerError) (now : Opened Z) (next : Next) (s u : S) (line : ℕ) (tokens : List Told)
    → IsErrAnd r (λ x. x ≡ e) → Ends {Z = Z} (Err e) now next → telling.Stops means.step means.faulted e s (on_line line tokens) u
    → telling.Tells means.step means.faulted r s (on_line line (tokens ++ tag_in next)) u
ended_stops Z means r Memory now next s u line tokens h ends stop = told_stop means.step means.faulted r Memory s u line tokens (tag_in next) h tt stop
ended_stops Z means r Sink now next s u line tokens h ends stop = told_stop means.step means.faulted r Sink s u line tokens (tag_in next) h tt stop
ended_stops Z means r Failed now next s u line tokens h ends stop = absurd ends

pub ended_leads : {S H T : Type 0} (Z : Type 0) (reply : S → Told → ℕ → Reply H) (r : Result T TokenizerError) (e : TokenizerError) (now : Opened Z) (then_open : Open) (next : Next) (t : S) (line : ℕ) (last : List ℕ)
    → IsErrAnd r (λ x. x ≡ e) → Ends {Z = Z} (Err e) now next → Leads r then_open (open_after reply t line last next)
ended_leads Z reply r Memory now later next t line last h ends = let p = err_from_is_err_and r h in rw (p.1, p.2) tt
ended_leads Z reply r Sink now later next t line last h ends = let p = err_from_is_err_and r h in rw (p.1, p.2) tt
ended_leads Z reply r Failed now later next t line last h ends = absurd ends

-- a state tells no tag before the one that ends
no_tags-tokens : (h : Here Open) → NoTagsHere h → NoTags (tokens_of h)
unfolding tokens_of NoTagsHere
no_tags-tokens (Tells told later) none = none
no_tags-tokens (TellsTag told tag) none = none

module _ {X S H : Type 0} (means : Means X S H) (rules : Rules) where
  -- nothing but the tag that ends pauses
  pub pause-character : ((s : S) (told : Told) (line : ℕ) → is_tag told ≡ false → means.reply s told line ≡ KeepOn)
      → (s : S) (line d : ℕ) (opened : Open) (last : List Told)
      → first_pause means s (on_line line ((bad_character_error rules.exact d ++ tokens_of (step_at rules.exact opened d)) ++ last))
      ≡ first_pause means (stepped means.step s (on_line line (bad_character_error rules.exact d ++ tokens_of (step_at rules.exact opened d)))) (on_line line last)
  pause-character keeps_on s line d opened last =
      let tokens : List Told = bad_character_error rules.exact d ++ tokens_of (step_at rules.exact opened d) in
      let quiet : first_pause means s (on_line line tokens) ≡ KeepOn =
      first_pause-no_tags means keeps_on s (on_line line tokens)
      (no_tag_messages line tokens (no_tags-append _ _ (no_tags-bad rules.exact d) (no_tags-tokens (step_at rules.exact opened d) (no_tags-step_at rules.exact d opened)))) in
      ap (first_pause means s) (map-append (λ (token : Told). record { token = token; line = line }) tokens last)
      ∙ first_pause-append means s (on_line line tokens) (on_line line last)
      ∙ rw quiet refl

  -- a tag that ends is sent last
  messages-tokens : (line d : ℕ) (h : Here Open)
      → messages_here means.step means.reply rules line d h ≡ on_line line ((bad_character_error rules.exact d ++ tokens_of h) ++ tag_in (afterwards h))
  unfolding messages_here tokens_of afterwards
  messages-tokens line d (Tells told later) = ap (on_line line) (sym (append-nil (bad_character_error rules.exact d ++ told)))
  messages-tokens line d (TellsTag told tag) = refl

  -- the sink replies to a tag after all that was sent before
  opened-after : (s : S) (line : ℕ) (last : List ℕ) (d : ℕ) (h : Here Open)
      → opened_here means.step means.reply rules s line last d h ≡ open_after means.reply (stepped means.step s (on_line line (bad_character_error rules.exact d ++ tokens_of h))) line last (afterwards h)
  unfolding opened_here tokens_of afterwards
  opened-after s line last d (Tells told later) = refl
  opened-after s line last d (TellsTag told tag) = refl

  -- a character in a state
  module _ {Z : Type 0} (now : State) (at : Opened Z) (s : S) (line d : ℕ) where
    abbrev told_here : List Message
    told_here = messages_here means.step means.reply rules line d (step_at rules.exact (open_of now at) d)

    abbrev after_here : Open
    after_here = opened_here means.step means.reply rules s line (last_name_of at) d (step_at rules.exact (open_of now at) d)

    after-character : after_here
        ≡ open_after means.reply (stepped means.step s (on_line line (bad_character_error rules.exact d ++ tokens_of (step_at rules.exact (open_of now at) d)))) line (last_name_of at) (afterwards (step_at rules.exact (open_of now at) d))
    after-character = opened-after s line (last_name_of at) d (step_at rules.exact (open_of now at) d)

    -- the bad character, the tokens of its state and then the tag that it ends, as calls send them
    abbrev here_tokens : List Told
    here_tokens = bad_character_error rules.exact d ++ tokens_of (step_at rules.exact (open_of now at) d)

    abbrev next : Next
    next = afterwards (step_at rules.exact (open_of now at) d)

    whole-told : told_here ≡ on_line line (here_tokens ++ tag_in next)
    whole-told = messages-tokens line d (step_at rules.exact (open_of now at) d)

    whole-opened : (u : S) → u ≡ stepped means.step s (on_line line here_tokens) → after_here ≡ open_after means.reply u line (last_name_of at) next
    whole-opened u e =
        after-character ∙ ap (λ v. open_after means.reply v line (last_name_of at) next) (sym e)

    module _ (t u : S) (bad_told : t ≡ stepped means.step s (on_line line (bad_character_error rules.exact d))) where
      both-told : u ≡ stepped means.step t (on_line line (tokens_of (step_at rules.exact (open_of now at) d))) → u ≡ stepped means.step s (on_line line here_tokens)
      both-told e =
          e ∙ ap (λ v. stepped means.step v (on_line line (tokens_of (step_at rules.exact (open_of now at) d)))) bad_told
          ∙ sym (stepped-append means.step s (on_line line (bad_character_error rules.exact d)) (on_line line (tokens_of (step_at rules.exact (open_of now at) d))))
          ∙ ap (stepped means.step s) (sym (map-append (λ (token : Told). record { token = token; line = line }) (bad_character_error rules.exact d) (tokens_of (step_at rules.exact (open_of now at) d))))

      pub tells-ended : {T : Type 0} (r : Result T TokenizerError) (told_tag : TagOf) (later : Open) (v : S)
          → u ≡ stepped means.step t (on_line line (tokens_of (step_at rules.exact (open_of now at) d))) → Closes told_tag later ≡ next
          → telling.Tells means.step means.faulted r u (on_line line (Tag told_tag ∷ [])) v
          → telling.Tells means.step means.faulted r s (told_here) v
      tells-ended r told_tag later v e is tells =
          rw (whole-told, ← is) (told_then means.step means.faulted r s u v line here_tokens (Tag told_tag ∷ []) (both-told e) tells)

      pub opened-ended : (told_tag : TagOf) (later : Open)
          → u ≡ stepped means.step t (on_line line (tokens_of (step_at rules.exact (open_of now at) d))) → Closes told_tag later ≡ next
          → open_after_reply (last_after (last_name_of at) told_tag) (means.reply u (Tag told_tag) line) ≡ after_here
      opened-ended told_tag later e is = ap (open_after means.reply u line (last_name_of at)) is ∙ sym (whole-opened u (both-told e))

      pub last-ended : (told_tag : TagOf) (later : Open) → Closes told_tag later ≡ next
          → last_after (last_name_of at) told_tag ≡ last_here (last_name_of at) (step_at rules.exact (open_of now at) d)
      last-ended told_tag later is = ap (last_in (last_name_of at)) is ∙ sym (last_here-after (last_name_of at) (step_at rules.exact (open_of now at) d))

      pub last-going : (later : Open) → Opens later ≡ next → last_name_of at ≡ last_here (last_name_of at) (step_at rules.exact (open_of now at) d)
      last-going later is = ap (last_in (last_name_of at)) is ∙ sym (last_here-after (last_name_of at) (step_at rules.exact (open_of now at) d))

      pub pause-ended : ((s : S) (told : Told) (line : ℕ) → is_tag told ≡ false → means.reply s told line ≡ KeepOn)
          → (told_tag : TagOf) (later : Open)
          → u ≡ stepped means.step t (on_line line (tokens_of (step_at rules.exact (open_of now at) d))) → Closes told_tag later ≡ next
          → first_pause means u (on_line line (Tag told_tag ∷ [])) ≡ first_pause means s (told_here)
      pause-ended keeps_on told_tag later e is =
          ap (λ v. first_pause means v (on_line line (Tag told_tag ∷ []))) (both-told e)
          ∙ ap (λ m. first_pause means (stepped means.step s (on_line line here_tokens)) (on_line line (tag_in m))) is
          ∙ sym (pause-character keeps_on s line d (open_of now at) (tag_in next))
          ∙ ap (first_pause means s) (sym whole-told)

      pub tells-going : (later : Open)
          → u ≡ stepped means.step t (on_line line (tokens_of (step_at rules.exact (open_of now at) d))) → Opens later ≡ next
          → u ≡ stepped means.step s (told_here)
      tells-going later e is =
          both-told e
          ∙ ap (λ l. stepped means.step s (on_line line l)) (sym (append-nil here_tokens) ∙ ap (λ m. here_tokens ++ tag_in m) is)
          ∙ ap (stepped means.step s) (sym whole-told)

      pub opened-going : (later : Open)
          → u ≡ stepped means.step t (on_line line (tokens_of (step_at rules.exact (open_of now at) d))) → Opens later ≡ next
          → later ≡ after_here
      opened-going later e is = ap (open_after means.reply u line (last_name_of at)) is ∙ sym (whole-opened u (both-told e))

      pub pause-going : ((s : S) (told : Told) (line : ℕ) → is_tag told ≡ false → means.reply s told line ≡ KeepOn)
          → (later : Open) → Opens later ≡ next
          → KeepOn ≡ first_pause means s (told_here)
      pause-going keeps_on later is =
          sym (first_pause-none means (stepped means.step s (on_line line here_tokens)))
          ∙ ap (λ m. first_pause means (stepped means.step s (on_line line here_tokens)) (on_line line (tag_in m))) is
          ∙ sym (pause-character keeps_on s line d (open_of now at) (tag_in next))
          ∙ ap (first_pause means s) (sym whole-told)

      pub tells-refused : {T : Type 0} (Z : Type 0) (r : Result T TokenizerError) (e : TokenizerError) (opened : Opened Z)
          → IsErrAnd r (λ x. x ≡ e) → Ends {Z = Z} (Err e) opened next
          → telling.Stops means.step means.faulted e t (on_line line (tokens_of (step_at rules.exact (open_of now at) d))) u
          → telling.Tells means.step means.faulted r s (told_here) u
      tells-refused Z r e opened h ends stop =
          rw (whole-told, append_assoc (bad_character_error rules.exact d) (tokens_of (step_at rules.exact (open_of now at) d)) (tag_in next))
          (told_then means.step means.faulted r s t u line (bad_character_error rules.exact d) (tokens_of (step_at rules.exact (open_of now at) d) ++ tag_in next) bad_told
          (ended_stops Z means r e opened next t u line (tokens_of (step_at rules.exact (open_of now at) d)) h ends stop))

    pub leads-refused : {T : Type 0} (Z : Type 0) (r : Result T TokenizerError) (e : TokenizerError) (opened : Opened Z) (later : Open)
        → IsErrAnd r (λ x. x ≡ e) → Ends {Z = Z} (Err e) opened next → Leads r later after_here
    leads-refused Z r e opened later h ends =
        rw (whole-opened (stepped means.step s (on_line line here_tokens)) refl)
        (ended_leads Z means.reply r e opened later next (stepped means.step s (on_line line here_tokens)) line (last_name_of at) h ends)

    pub tells-bad : {T : Type 0} (r : Result T TokenizerError) (e : TokenizerError) (t : S)
        → IsErrAnd r (λ x. x ≡ e) → telling.IsRefusal e → telling.Stops means.step means.faulted e s (on_line line (bad_character_error rules.exact d)) t
        → telling.Tells means.step means.faulted r s (told_here) t
    tells-bad r e t h refusal stop =
        rw (whole-told, append_assoc (bad_character_error rules.exact d) (tokens_of (step_at rules.exact (open_of now at) d)) (tag_in next))
        (told_stop means.step means.faulted r e s t line (bad_character_error rules.exact d) (tokens_of (step_at rules.exact (open_of now at) d) ++ tag_in next) h refusal stop)
