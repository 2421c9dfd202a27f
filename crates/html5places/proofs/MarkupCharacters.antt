-- What a character tells of markup, wherever a text leads.
use Rattle.std.proofs.Common.{◌≡◌, ◌⊎◌, inl, inr, ℕ, Bool, true, false, cond, List, [], ◌∷◌, ◌++◌, refl, ap, sym, ◌∙◌, subst, arith}
use Rattle.std.specs.Prelude.{◌||◌, ◌==◌, codes, None, Some, if◌then◌else◌}
use Rattle.std.proofs.Math.Bool.{and-false}
use Rattle.std.proofs.lemmas.Bool.{false≢true}
use Rattle.std.proofs.lemmas.List.{append_assoc, map-append}
use Rattle.html5ever_interface.specs.Sink.{Message, on_line}
use Rattle.html5ever_interface.specs.Token.{Told, Reply}
use Rattle.html5ever_interface.specs.Token.Told.{Tag, End}
use Rattle.html5ever_interface.specs.declared.interface.token.TagKind.{TagKind}
use Rattle.html5ever_interface.specs.declared.interface.token.TagKind.TheVariants.{StartTag, EndTag}
use Rattle.html5ever_interface.specs.declared.states.RawKind.TheVariants.{Rcdata, Rawtext, ScriptData}
use Rattle.html5reading.specs.EndOfInput.{late_at_end_of, open_at_end_of, told_at_end_of, raw_end_error, tokens_at_end}
use Rattle.html5sinks.specs.Replies.{raw_text_in, reply_by_kind, reply_to_raw_text, standard_reply, standard_reply_to_start}
use Rattle.html5sinks.specs.Runs.{reply_where_tag}
use Rattle.std.specs.Str.{bytes_eq}
use Rattle.html5ever_interface.specs.Token.Reply.{KeepOn, ReadPlainText, ReadRawData, RunScript, SwitchEncoding}
use Rattle.html5reading.specs.Characters.{less_than, line_feed, carriage_return}
use Rattle.html5reading.specs.ErrorText.{bad_character_error}
use Rattle.html5reading.specs.NormalisedText.{normalised, input_after, drops_first, line_after, ends_with_carriage_return}
use Rattle.html5reading.specs.Reading.{Here, messages_so_far, start_after, open_after_reply, last_after}
use Rattle.html5reading.specs.Reading.Here.{Tells, TellsTag}
use Rattle.html5reading.specs.Slice.{tokens_of_late}
use Rattle.html5reading.specs.Start.{Input, Open, Rules, Start, nothing_open}
use Rattle.html5reading.specs.Start.Open.{Between}
use Rattle.html5reading.specs.Start.Mode.{Data}
use Rattle.html5reading.specs.Machine.{brought_at, messages_here, opened_here, last_here}
use Rattle.html5reading.proofs.InputLemmas.{normalised-dropped, normalised-kept}
use Rattle.html5reading.proofs.ReadingLemmas.{told-none, after-none, told-one, after-one}
use Rattle.html5feed.specs.Beginning.{is_after_less_than}
use Rattle.html5places.specs.Markup.{ends_run, in_markup, mode_at_less_than, start_at_less_than}
use Rattle.html5places.specs.Marks.{is_markup}
use Rattle.html5places.specs.Placed.{standard}
use Rattle.html5places.proofs.KeepsRun.{KeepsRun, keeps-append, keeps-bad, keeps-settled}
use Rattle.html5places.proofs.MarkupSteps.{within-inside, Steps, is_inside, after_less_than_in, brought-steps, at_less_than}

-- none of these messages ends a run of text
unfoldable pub KeepRun : List Message → Type 0
KeepRun [] = Unit {0}
KeepRun (m ∷ M) = (ends_run m.token ≡ false) × KeepRun M

pub keep_run-append : (M N : List Message) → KeepRun M → KeepRun N → KeepRun (M ++ N)
unfolding KeepRun
keep_run-append [] N f g = g
keep_run-append (m ∷ M) N f g = (f.0, keep_run-append M N f.1 g)

pub keep_run-on_line : (line : ℕ) (tokens : List Told) → KeepsRun tokens → KeepRun (on_line line tokens)
unfolding KeepRun KeepsRun
keep_run-on_line line [] keeps = tt
keep_run-on_line line (t ∷ tokens) keeps = (keeps.0, keep_run-on_line line tokens keeps.1)

pub keep_run-nothing : KeepRun []
unfolding KeepRun
keep_run-nothing = tt

pub on_line-append : (line : ℕ) (ts us : List Told) → on_line line (ts ++ us) ≡ on_line line ts ++ on_line line us
on_line-append line ts us = map-append (λ (t : Told). record { token = t; line = line }) ts us

-- ---- the end after markup

pub data-ends : (rules : Rules) → tokens_at_end rules (Between Data) ≡ End ∷ []
unfolding late_at_end_of open_at_end_of told_at_end_of
data-ends rules = refl

-- after a tag the end tells nothing but itself: the standard's elements ask for no escaped script data
reply-ends_start : (rules : Rules) (last name : List ℕ) → tokens_at_end rules (open_after_reply last (standard_reply_to_start name)) ≡ End ∷ []
unfolding late_at_end_of open_at_end_of told_at_end_of raw_end_error standard_reply_to_start raw_text_in
reply-ends_start rules last name =
    at (bytes_eq name (codes "plaintext")) (bytes_eq name (codes "title") || bytes_eq name (codes "textarea"))
    (bytes_eq name (codes "style") || bytes_eq name (codes "xmp") || bytes_eq name (codes "iframe") || bytes_eq name (codes "noembed") || bytes_eq name (codes "noframes"))
    (bytes_eq name (codes "script"))
  where
    at : (a b c d : Bool) → tokens_at_end rules (open_after_reply last (if a then ReadPlainText else reply_to_raw_text (if b then Some Rcdata else if c then Some Rawtext else if d then Some ScriptData else None))) ≡ End ∷ []
    at true b c d = refl
    at false true c d = refl
    at false false true d = refl
    at false false false true = refl
    at false false false false = refl

reply-ends_tag : (rules : Rules) (last : List ℕ) (kind : TagKind) (name : List ℕ) → tokens_at_end rules (open_after_reply last (reply_by_kind kind name)) ≡ End ∷ []
reply-ends_tag rules last StartTag name = reply-ends_start rules last name
reply-ends_tag rules last EndTag name = data-ends rules

pub reply-ends : (rules : Rules) (last : List ℕ) (told : Told) → tokens_at_end rules (open_after_reply last (reply_where_tag standard_reply told)) ≡ End ∷ []
reply-ends rules last (Tag tag) = reply-ends_tag rules last tag.kind tag.name
reply-ends rules last other = data-ends rules

-- what a character may do that isn't dropped after a `<`
pub record Ready (input : Input) : Type 0 where
  pub no_mark : input.drops_byte_order_mark ≡ false
  pub no_return : input.after_carriage_return ≡ false

module _ (rules : Rules) where
  -- where a character leads, and what it tells
  abbrev pub led : Start → ℕ → Start
  led P c = start_after standard rules P tt (c ∷ [])

  abbrev pub tells : Start → ℕ → List Message
  tells P c = messages_so_far standard rules P tt (c ∷ [])

  -- no run ends at the character. Markup is open after it where some was open before it, or where it is a `<` that begins some.
  pub record GoesOnAt (P : Start) (c : ℕ) : Type 0 where
    pub keeps : KeepRun (tells P c)
    pub within : in_markup (led P c).opened ≡ true → is_inside P.opened ≡ true
    pub begins : is_after_less_than (led P c).opened ≡ true → (c ≡ less_than) × (led P c ≡ led (start_at_less_than P) less_than)

  -- the last that it tells may end a run, and no markup is open then. If that is markup, it was open.
  pub record EndsAt (P : Start) (c : ℕ) : Type 0 where
    pub before : List Message
    pub message : Message
    pub parts : tells P c ≡ before ++ message ∷ []
    pub keeps : KeepRun before
    pub outside : is_inside (led P c).opened ≡ false
    pub markup : is_markup message.token ≡ true
        → (in_markup P.opened ≡ true) × (nothing_open (led P c).opened ≡ true) × (tokens_at_end rules (led P c).opened ≡ End ∷ [])

  -- the `<` is read as it is
  pub normalised-less_than : (I : Input) → normalised I (less_than ∷ []) ≡ less_than ∷ []
  normalised-less_than I =
      normalised-kept I less_than (rw (and-false I.drops_byte_order_mark, and-false I.after_carriage_return) refl)

  read-as_less_than : (I : Input) (c d : ℕ) → drops_first I c ≡ false → normalised I (c ∷ []) ≡ d ∷ [] → d ≡ less_than → c ≡ less_than
  read-as_less_than I c d kept e is = by (c == carriage_return) (sym (normalised-kept I c kept) ∙ e)
    where
      by : (b : Bool) → cond b (line_feed ∷ []) (c ∷ []) ≡ d ∷ [] → c ≡ less_than
      by true f = let g : line_feed ≡ less_than = cc in absurd (omega (arith, g))
      by false f = cc

  -- nothing is open after a reply
  after_reply : {H : Type 0} → (last : List ℕ) (r : Reply H) → nothing_open (open_after_reply last r) ≡ true
  after_reply last KeepOn = refl
  after_reply last ReadPlainText = refl
  after_reply last (ReadRawData kind) = refl
  after_reply last (RunScript handle) = refl
  after_reply last (SwitchEncoding text) = refl

  pub outside_reply : {H : Type 0} → (last : List ℕ) (r : Reply H) → is_inside (open_after_reply last r) ≡ false
  outside_reply last KeepOn = refl
  outside_reply last ReadPlainText = refl
  outside_reply last (ReadRawData kind) = refl
  outside_reply last (RunScript handle) = refl
  outside_reply last (SwitchEncoding text) = refl

  -- where a `<` leads from its start
  pub less_than-leads : (P : Start) → led (start_at_less_than P) less_than
      ≡ record { opened = after_less_than_in (mode_at_less_than P.opened); last_start_tag = P.last_start_tag; input = input_after P.input (less_than ∷ []) }
  unfolding brought_at opened_here last_here
  less_than-leads P =
      let w = at_less_than rules.exact (mode_at_less_than P.opened) in
      after-one standard.step standard.reply standard.foreign rules (start_at_less_than P) tt less_than less_than (normalised-less_than P.input)
      ∙ rw w.1 refl

  -- a character that is dropped tells nothing
  dropped : (P : Start) (c : ℕ) → (is_after_less_than P.opened ≡ true → Ready P.input) → drops_first P.input c ≡ true → GoesOnAt P c
  dropped P c ready drops =
      let none : normalised P.input (c ∷ []) ≡ [] = normalised-dropped P.input c drops in
      let same : (led P c).opened ≡ P.opened = ap (λ (Q : Start). Q.opened) (after-none standard.step standard.reply standard.foreign rules P tt c none) in
      record {
        keeps = subst KeepRun (sym (told-none standard.step standard.reply standard.foreign rules P tt c none)) keep_run-nothing;
        within = λ h. within-inside P.opened (sym (ap in_markup same) ∙ h);
        begins = λ h. absurd (false≢true (sym (kept (ready (sym (ap is_after_less_than same) ∙ h))) ∙ drops));
      }
    where
      kept : Ready P.input → drops_first P.input c ≡ false
      kept ready = rw (ready.no_mark, ready.no_return) refl

  -- a character that is read, by what it brings
  module _ (P : Start) (c d : ℕ) (kept : drops_first P.input c ≡ false) (read : normalised P.input (c ∷ []) ≡ d ∷ []) where
    abbrev settled : List Told
    settled = tokens_of_late (brought_at rules false P.opened d).settled

    tells-here : (h : Here Open) → (brought_at rules false P.opened d).here ≡ h
        → tells P c ≡ on_line (line_after P.input []) settled ++ messages_here standard.step standard.reply rules (input_after P.input (c ∷ [])).line d h
    tells-here h e = told-one standard.step standard.reply standard.foreign rules P tt c d read
        ∙ ap (λ x. on_line (line_after P.input []) settled ++ messages_here standard.step standard.reply rules (input_after P.input (c ∷ [])).line d x) e

    led-here : (h : Here Open) → (brought_at rules false P.opened d).here ≡ h
        → led P c ≡ record {
          opened = opened_here standard.step standard.reply rules tt (input_after P.input (c ∷ [])).line P.last_start_tag d h;
          last_start_tag = last_here P.last_start_tag h;
          input = input_after P.input (c ∷ []);
        }
    led-here h e = after-one standard.step standard.reply standard.foreign rules P tt c d read
        ∙ ap (λ x. record {
          opened = opened_here standard.step standard.reply rules tt (input_after P.input (c ∷ [])).line P.last_start_tag d x;
          last_start_tag = last_here P.last_start_tag x;
          input = input_after P.input (c ∷ []);
        }) e

    keeps-late : KeepRun (on_line (line_after P.input []) settled)
    keeps-late = keep_run-on_line (line_after P.input []) settled (keeps-settled rules false P.opened d)

    read-here : (h : Here Open) → (brought_at rules false P.opened d).here ≡ h → Steps (is_inside P.opened) (in_markup P.opened) (mode_at_less_than P.opened) d h → GoesOnAt P c ⊎ EndsAt P c
    unfolding Steps messages_here opened_here last_here
    read-here (Tells told later) e (inl goes) =
        let line : ℕ = (input_after P.input (c ∷ [])).line in
        let leads : led P c ≡ record { opened = later; last_start_tag = P.last_start_tag; input = input_after P.input (c ∷ []) } = led-here (Tells told later) e in
        let opened : (led P c).opened ≡ later = ap (λ (Q : Start). Q.opened) leads in
        inl (record {
          keeps = subst KeepRun (sym (tells-here (Tells told later) e))
              (keep_run-append _ _ keeps-late (keep_run-on_line line _ (keeps-append _ _ (keeps-bad rules.exact d) goes.keeps)));
          within = λ h. goes.within (sym (ap in_markup opened) ∙ h);
          begins = λ h.
              let w = goes.begins (sym (ap is_after_less_than opened) ∙ h) in
              let is : c ≡ less_than = read-as_less_than P.input c d kept read w.0 in
              (is, leads ∙ rw (w.1, is) refl ∙ sym (less_than-leads P));
        })
    read-here (Tells told later) e (inr ends) =
        let line : ℕ = (input_after P.input (c ∷ [])).line in
        let M : List Message = on_line (line_after P.input []) settled in
        let N : List Message = on_line line (bad_character_error rules.exact d ++ ends.errors) in
        inr (record {
          before = M ++ N;
          message = record { token = ends.token; line = line };
          parts =
              tells-here (Tells told later) e
              ∙ ap (λ l. M ++ on_line line (bad_character_error rules.exact d ++ l)) ends.parts
              ∙ ap (λ l. M ++ on_line line l) (sym (append_assoc (bad_character_error rules.exact d) ends.errors (ends.token ∷ [])))
              ∙ ap (λ l. M ++ l) (on_line-append line (bad_character_error rules.exact d ++ ends.errors) (ends.token ∷ []))
              ∙ sym (append_assoc M N (record { token = ends.token; line = line } ∷ []));
          keeps = keep_run-append M N keeps-late (keep_run-on_line line _ (keeps-append _ _ (keeps-bad rules.exact d) ends.keeps));
          outside = ap (λ (Q : Start). is_inside Q.opened) (led-here (Tells told later) e) ∙ ends.outside;
          markup = λ h.
              let w = ends.markup h in
              let opened : (led P c).opened ≡ Between Data = ap (λ (Q : Start). Q.opened) (led-here (Tells told later) e) ∙ w.1 in
              (w.0, ap nothing_open opened, ap (tokens_at_end rules) opened ∙ data-ends rules);
        })
    read-here (TellsTag told tag) e ends =
        let line : ℕ = (input_after P.input (c ∷ [])).line in
        let M : List Message = on_line (line_after P.input []) settled in
        let N : List Message = on_line line (bad_character_error rules.exact d ++ told) in
        inr (record {
          before = M ++ N;
          message = record { token = Tag tag; line = line };
          parts =
              tells-here (TellsTag told tag) e
              ∙ ap (λ l. M ++ l) (on_line-append line (bad_character_error rules.exact d ++ told) (Tag tag ∷ []))
              ∙ sym (append_assoc M N (record { token = Tag tag; line = line } ∷ []));
          keeps = keep_run-append M N keeps-late (keep_run-on_line line _ (keeps-append _ _ (keeps-bad rules.exact d) ends.1));
          outside = ap (λ (Q : Start). is_inside Q.opened) (led-here (TellsTag told tag) e) ∙ outside_reply (last_after P.last_start_tag tag) _;
          markup = λ h. (
            ends.0,
            ap (λ (Q : Start). nothing_open Q.opened) (led-here (TellsTag told tag) e) ∙ after_reply (last_after P.last_start_tag tag) _,
            ap (λ (Q : Start). tokens_at_end rules Q.opened) (led-here (TellsTag told tag) e) ∙ reply-ends rules (last_after P.last_start_tag tag) (Tag tag),
          );
        })

  pub at-character : (P : Start) (c : ℕ) → (is_after_less_than P.opened ≡ true → Ready P.input) → GoesOnAt P c ⊎ EndsAt P c
  at-character P c ready = by (drops_first P.input c) refl
    where
      one : (b : Bool) → (c == carriage_return) ≡ b → (d : ℕ) × (cond (c == carriage_return) (line_feed ∷ []) (c ∷ []) ≡ d ∷ [])
      one true e = (line_feed, rw e refl)
      one false e = (c, rw e refl)

      by : (b : Bool) → drops_first P.input c ≡ b → GoesOnAt P c ⊎ EndsAt P c
      by true e = inl (dropped P c ready e)
      by false e =
          let w = one (c == carriage_return) refl in
          read-here P c w.0 e (normalised-kept P.input c e ∙ w.1) _ refl (brought-steps rules w.0 P.opened)

  -- after a `<` nothing is dropped
  pub ready-after : (P : Start) → Ready (led P less_than).input
  unfolding input_after ends_with_carriage_return
  ready-after P = record { no_mark = refl; no_return = refl }
