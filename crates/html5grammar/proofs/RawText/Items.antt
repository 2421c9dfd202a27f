-- A `<` in raw text tells what the item that it begins spells.
use Rattle.std.proofs.Common.{◌≡◌, ℕ, Bool, true, false, List, [], ◌∷◌, ◌++◌, Option, refl, ap, sym, ◌∙◌, subst}
use Rattle.std.specs.Prelude.{◌==◌, ◌&&◌, not, flat_map, length, nat_eq, if◌then◌else◌}
use Rattle.std.specs.List.{list_all}
use Rattle.std.specs.Str.{bytes_eq}
use Rattle.std.proofs.Math.Bool.{and-false}
use Rattle.std.proofs.lemmas.Bool.{eqb-true, false_from_ne_true, false≢true, and_parts, not-true}
use Rattle.std.proofs.lemmas.List.{append_assoc, append-nil, map-append}
use Rattle.html5ever_interface.specs.Sink.{Means, Message, stepped, on_line}
use Rattle.html5ever_interface.specs.Token.{Told}
use Rattle.html5ever_interface.specs.Token.Told.{End}
use Rattle.html5ever_interface.specs.declared.interface.token.TagKind.{TagKind}
use Rattle.html5ever_interface.specs.declared.interface.token.TagKind.TheVariants.{StartTag, EndTag}
use Rattle.html5ever_interface.specs.declared.states.RawKind.{RawKind}
use Rattle.html5ever_interface.specs.declared.states.RawKind.TheVariants as raw_kind
use Rattle.html5ever_interface.specs.declared.states.ScriptEscapeKind.{ScriptEscapeKind}
use Rattle.html5ever_interface.specs.declared.states.ScriptEscapeKind.TheVariants as escape_kind
use Rattle.html5ever_interface.specs.declared.states.State.TheVariants as state
use Rattle.markup5ever.specs.NamedReferences.{IsTable}
use Rattle.html5grammar.specs.Anywhere.{start_beyond, start_after_tag, last_reply}
use Rattle.html5reading.specs.Characters.{line_feed, ampersand, less_than, greater_than, is_letter, is_white_space, is_bad_character}
use Rattle.html5reading.specs.EndOfInput.{raw_end_error, tokens_at_end, late_at_end_of, open_at_end_of, told_at_end_of, told_at_raw_end}
use Rattle.html5reading.specs.ErrorText.{bad_character_error}
use Rattle.html5reading.specs.Machine.{step_at, raw_step, raw_less_than_step, switch_step, raw_place_step}
use Rattle.html5reading.specs.NormalisedText.{normalised, line_after, input_after}
use Rattle.html5grammar.specs.Tag.{WrittenTag, opening, part_text, end_place, OpenAttribute, can_follow, can_end_in, is_written, spelled, tag_told, is_open_written, open_written, open_attribute_text, spell_open_tag, open_tag_at_end}
use Rattle.html5grammar.specs.Spelled.{Spelled, spell, spell_silent, spelled_messages}
use Rattle.html5reading.specs.RawText.{texts, lower, ends_name, kind_of, is_rcdata, raw_after, raw_character, ends_raw_text, told_at_less_than, begins_mark, begins_switch}
use Rattle.html5reading.specs.Reading.{last_after, open_after_reply}
use Rattle.html5reading.specs.Reading.Here.{Tells}
use Rattle.html5reading.specs.Start.{Dashes, Raw, Start, Open, Rules, begun, is_undecided_open}
use Rattle.html5reading.specs.Start.Dashes.{NoDash}
use Rattle.html5reading.specs.Start.Mode.{RawText}
use Rattle.html5reading.specs.Start.Open.{Between, InTag, InRaw, InReference}
use Rattle.html5reading.specs.Start.Place.{InName}
use Rattle.html5reading.specs.Start.Raw.{Rcdata, Rawtext, ScriptData, Escaped, DoubleEscaped}
use Rattle.html5reading.specs.Start.RawPlace.{AfterLessThan, InEndName, AfterMark, AfterMarkAndDash, InSwitch}
use Rattle.html5reading.specs.Start.Stand.{InText}
use Rattle.html5reading.specs.Tag.{with_name, null_error, in_tag_name, is_end_tag}
use Rattle.html5grammar.specs.RawText.{RawItem, raw_after_item, item_text, next_is, is_double_escaped, can_switch, can_stand, carried, spell_text, spell_item, ends_in_letters}
use Rattle.html5grammar.specs.RawText.RawItem.{Character, LessThan, Letters, Mark, Switch}
use Rattle.html5reading.proofs.InputLemmas.{line_past, input_after-line_none, line_after-lines_past}
use Rattle.html5grammar.proofs.Leading.{leads-goes, trace-goes, trace-text}
use Rattle.html5grammar.proofs.Goes.{characters, characters-spell, characters-two, Goes, Goes-append, Goes-one}
use Rattle.html5reading.proofs.Traces.{Trace, trace, trace_brought, trace_here, with_messages, brought-tells}
use Rattle.html5reading.proofs.Letters.{letter-no_solidus}
use Rattle.html5grammar.proofs.RawText.Steps.{Standing, opened_at, raw_at, carried_at, fits, in_letters, end_from, continues, reads_anew, less_than-anew, ReadsCharacter, reads_character, reads_less_than, goes-end_letters, goes-mark, goes-switch}
use Rattle.html5grammar.proofs.RawText.Steps.Standing.{Free, Within}
use Rattle.html5grammar.proofs.RawText.Reading.{characters-item, tokens-standing, decided-standing, goes-end_tag, name_ends, step-end_name, parts-end_name}
use Rattle.html5grammar.specs.Items.{is_raw_text, is_text_at_once, is_text_later, spell_raw_less_than, ends_raw, spell_open_switch, IsRawMark, IsRawLessThan, IsRawLessThanBefore, IsRawEnd, IsOpenRaw, IsOpenSwitch, IsOpenRawEnd}
use Rattle.html5grammar.proofs.Tag.Open.{Leaves, leaves-open_from}
use Rattle.html5grammar.proofs.Reference.Anywhere.{is-line}
use Rattle.html5grammar.proofs.Tag.Parts.{passes-goes, trace-same, name_cells, named_tag, tag-from}
use Rattle.html5grammar.proofs.Tag.Values.{Passes, passes-two}
use Rattle.html5grammar.proofs.Telling.{trace_of, TellsAll, TellsWith, tells-trace, tells-before_with, Alike, tells-alike}

-- ---- the machine at a character

-- an `&` continues nothing
ampersand-anew : (name : List ℕ) (standing : Standing) → continues name standing ampersand ≡ false
unfolding begins_mark begins_switch ends_raw_text ends_name is_letter is_white_space
ampersand-anew name (Free raw) = refl
ampersand-anew name (Within (AfterLessThan raw_kind.Rcdata)) = refl
ampersand-anew name (Within (AfterLessThan raw_kind.Rawtext)) = refl
ampersand-anew name (Within (AfterLessThan raw_kind.ScriptData)) = refl
ampersand-anew name (Within (AfterLessThan (raw_kind.ScriptDataEscaped escape_kind.Escaped))) = refl
ampersand-anew name (Within (AfterLessThan (raw_kind.ScriptDataEscaped escape_kind.DoubleEscaped))) = refl
ampersand-anew name (Within (InEndName kind letters)) = and-false (not (nat_eq (length name) 0))
ampersand-anew name (Within AfterMark) = refl
ampersand-anew name (Within AfterMarkAndDash) = refl
ampersand-anew name (Within (InSwitch kind letters)) = refl

-- so neither continues what a character continues
continues-other : (name : List ℕ) (standing : Standing) (c d : ℕ) → continues name standing c ≡ true → continues name standing d ≡ false → (c == d) ≡ false
continues-other name standing c d h other =
    false_from_ne_true (c == d) (λ e. false≢true (sym other ∙ ap (continues name standing) (sym (eqb-true c d e)) ∙ h))

step-text : (exact : Bool) (raw : Raw) (name : List ℕ) (c : ℕ) → (c == less_than) ≡ false → (is_rcdata raw && (c == ampersand)) ≡ false
    → step_at exact (Between (RawText raw name)) c ≡ Tells (raw_character exact raw c) (Between (RawText (raw_after raw c) name))
unfolding step_at raw_step
step-text exact raw name c no_less_than no_ampersand = rw (no_less_than, no_ampersand) refl

-- after `<` and letters the raw text has references where it had them before
same-rcdata : (raw : Raw) (item : RawItem) → is_text_later item ≡ true → is_rcdata (raw_after_item raw item) ≡ is_rcdata raw
unfolding kind_of
same-rcdata raw (Character c) h = absurd (false≢true h)
same-rcdata raw Mark h = absurd (false≢true h)
same-rcdata raw (Switch letters c) h = absurd (false≢true h)
same-rcdata Rcdata LessThan h = refl
same-rcdata Rawtext LessThan h = refl
same-rcdata ScriptData LessThan h = refl
same-rcdata (Escaped dashes) LessThan h = refl
same-rcdata (DoubleEscaped dashes) LessThan h = refl
same-rcdata Rcdata (Letters letters) h = refl
same-rcdata Rawtext (Letters letters) h = refl
same-rcdata ScriptData (Letters letters) h = refl
same-rcdata (Escaped dashes) (Letters letters) h = refl
same-rcdata (DoubleEscaped dashes) (Letters letters) h = refl

line-after : (K : Start) (Y : List ℕ) → line_after (input_after K.input Y) [] ≡ line_after K.input (normalised K.input Y)
line-after K Y = input_after-line_none K.input Y ∙ sym (line_after-lines_past K.input [] (normalised K.input Y))

-- `<` or the `&` of a reference, which the machine reads alike after any text that is carried to it
record IsMarkup (exact : Bool) (raw : Raw) (name : List ℕ) (c : ℕ) : Type 0 where
  told : List Told
  later : Open
  is : (before : List Told) → raw_step exact raw name before c ≡ Tells (before ++ told) later
  good : bad_character_error exact c ≡ []
  same : (c == line_feed) ≡ false
  anew : (standing : Standing) → continues name standing c ≡ false

-- a character of raw text that is not text by itself is markup
is-markup : (exact : Bool) (raw : Raw) (name : List ℕ) (c : ℕ) → is_raw_text raw c ≡ false → IsMarkup exact raw name c
unfolding raw_step is_bad_character
is-markup exact raw name c h = at (c == less_than) (is_rcdata raw && (c == ampersand)) refl refl h
  where
    at : (a b : Bool) → (c == less_than) ≡ a → (is_rcdata raw && (c == ampersand)) ≡ b → (not a && not b) ≡ false → IsMarkup exact raw name c
    at true b e f g =
        subst (IsMarkup exact raw name) (sym (eqb-true c less_than e))
        (record {
          told = told_at_less_than (kind_of raw);
          later = InRaw (AfterLessThan (kind_of raw)) name;
          is = λ before. refl;
          good = rw (and-false exact) refl;
          same = refl;
          anew = less_than-anew exact name;
        })
    at false true e f g =
        let p = and_parts (is_rcdata raw) (c == ampersand) f in
        subst (IsMarkup exact raw name) (sym (eqb-true c ampersand p.1))
        (record {
          told = [];
          later = InReference (InText (RawText raw name)) [];
          is = λ before. rw (p.0, append-nil before) refl;
          good = rw (and-false exact) refl;
          same = refl;
          anew = ampersand-anew name;
        })
    at false false e f g = absurd (false≢true (sym g))

-- ---- the machine after `<`, or `</` and letters

-- where it stands there, before this text
record Afterwards (exact : Bool) (name : List ℕ) (raw : Raw) (item : RawItem) (text : List ℕ) : Type 0 where
  standing : Standing
  goes : Goes exact (Between (RawText raw name)) (spell_item exact raw item) (opened_at name standing)
  raw_is : raw_at standing ≡ raw_after_item raw item
  carried_is : carried_at standing ≡ carried raw item
  fits_after : fits name standing text ≡ true
  letters_is : in_letters standing text ≡ ends_in_letters item (kind_of raw) text

-- a `<`, or `</` and letters, before a text with which it can stand
afterwards : (exact : Bool) (name : List ℕ) (raw : Raw) (item : RawItem) (text : List ℕ) → is_text_later item ≡ true → can_stand name raw item text ≡ true
    → Afterwards exact name raw item text
unfolding Goes
afterwards exact name raw (Character c) text h can = absurd (false≢true h)
afterwards exact name raw Mark text h can = absurd (false≢true h)
afterwards exact name raw (Switch letters c) text h can = absurd (false≢true h)
afterwards exact name raw LessThan text h can = record {
  standing = Within (AfterLessThan (kind_of raw));
  goes = (InRaw (AfterLessThan (kind_of raw)) name, reads_less_than exact name (Free raw), refl);
  raw_is = refl;
  carried_is = refl;
  fits_after = can;
  letters_is = refl;
}
afterwards exact name raw (Letters letters) text h can =
    let kind : RawKind = kind_of raw in
    let p = and_parts (not (is_double_escaped kind)) _ can in
    let q = and_parts (list_all is_letter letters) _ p.1 in
    record {
      standing = Within (InEndName kind letters);
      goes =
          (InRaw (AfterLessThan kind) name, reads_less_than exact name (Free raw), goes-end_letters exact name kind (λ c. []) letters (λ c g. refl) (not-true (is_double_escaped kind) p.0) q.0);
      raw_is = refl;
      carried_is = refl;
      fits_after = q.1;
      letters_is = refl;
    }

module _ {X S H : Type 0} (means : Means X S H) (rules : Rules) where
  -- ---- an open item that is not continued

  trace-character : (s : S) (line : ℕ) (last : List ℕ) (opened later : Open) (c : ℕ) (text : List ℕ) (told : List Told) → is_undecided_open opened ≡ false → step_at rules.exact opened c ≡ Tells told later
      → let M : List Message = on_line (line_past line c) (bad_character_error rules.exact c ++ told) in
      trace_of means rules s line last opened (c ∷ text) ≡ with_messages M (trace_of means rules (stepped means.step s M) (line_past line c) last later text)
  unfolding trace trace_brought trace_here stepped
  trace-character s line last opened later c text told decided e = rw (brought-tells rules (means.foreign s) opened c _ decided e) refl

  alike-refl : (opened : Open) (text : List ℕ) → Alike means rules opened opened text
  alike-refl opened text = record { told = λ s line last. refl; at_end = λ s line last. refl }

  -- where the character does the same
  alike-same : (a b : Open) (c : ℕ) (text : List ℕ) → is_undecided_open a ≡ false → is_undecided_open b ≡ false → step_at rules.exact a c ≡ step_at rules.exact b c → Alike means rules a b (c ∷ text)
  alike-same a b c text f g e = record {
    told = λ s line last. ap (λ (t : Trace). t.messages) (trace-same means rules s line last a b c text f g e);
    at_end = λ s line last. ap (λ (t : Trace). tokens_at_end rules t.opened) (trace-same means rules s line last a b c text f g e);
  }

  -- where it tells the same, and leads to where the rest tells the same
  alike-cons : (a b next other : Open) (c : ℕ) (text : List ℕ) (told : List Told) → is_undecided_open a ≡ false → is_undecided_open b ≡ false
      → step_at rules.exact a c ≡ Tells told next → step_at rules.exact b c ≡ Tells told other → Alike means rules next other text → Alike means rules a b (c ∷ text)
  alike-cons a b next other c text told f g e d rest = record {
    told =
        λ s line last.
        let M : List Message = on_line (line_past line c) (bad_character_error rules.exact c ++ told) in
        ap (λ (t : Trace). t.messages) (trace-character s line last a next c text told f e)
        ∙ ap (λ l. M ++ l) (rest.told (stepped means.step s M) (line_past line c) last)
        ∙ sym (ap (λ (t : Trace). t.messages) (trace-character s line last b other c text told g d));
    at_end =
        λ s line last.
        let M : List Message = on_line (line_past line c) (bad_character_error rules.exact c ++ told) in
        ap (λ (t : Trace). tokens_at_end rules t.opened) (trace-character s line last a next c text told f e)
        ∙ rest.at_end (stepped means.step s M) (line_past line c) last
        ∙ sym (ap (λ (t : Trace). tokens_at_end rules t.opened) (trace-character s line last b other c text told g d));
  }

  -- the text tells the same from there and between items
  abbrev IsAlike : List ℕ → Standing → List ℕ → Type 0
  IsAlike name standing text = carried_at standing ≡ [] → fits name standing text ≡ true → in_letters standing text ≡ false
      → Alike means rules (opened_at name standing) (Between (RawText (raw_at standing) name)) text

  -- a character that continues the open item is text there as between items; any other is read as between
  -- items
  alike-first : (name : List ℕ) (standing : Standing) (c : ℕ) (text : List ℕ) (b : Bool) → continues name standing c ≡ b → ((next : Standing) → IsAlike name next text) → IsAlike name standing (c ∷ text)
  unfolding step_at
  alike-first name standing c text false h further none f letters =
      alike-same (opened_at name standing) (Between (RawText (raw_at standing) name)) c text (decided-standing name standing) refl
      (reads_anew rules.exact name standing c h ∙ ap (λ told. raw_step rules.exact (raw_at standing) name told c) none)
  alike-first name standing c text true h further none f letters =
      let raw : Raw = raw_at standing in
      let no_less_than : (c == less_than) ≡ false = continues-other name standing c less_than h (less_than-anew rules.exact name standing) in
      let no_ampersand : (is_rcdata raw && (c == ampersand)) ≡ false =
      ap (λ b. is_rcdata raw && b) (continues-other name standing c ampersand h (ampersand-anew name standing)) ∙ and-false (is_rcdata raw) in
      let r : ReadsCharacter rules.exact name standing c text = reads_character rules.exact name standing c text no_less_than no_ampersand f in
      let rest : Alike means rules (opened_at name r.next) (Between (RawText (raw_after raw c) name)) text =
      subst (λ q. Alike means rules (opened_at name r.next) (Between (RawText q name)) text) r.raw_is (further r.next r.carried_is r.fits_after (sym (r.letters_is text) ∙ letters)) in
      alike-cons (opened_at name standing) (Between (RawText raw name)) (opened_at name r.next) (Between (RawText (raw_after raw c) name)) c text (raw_character rules.exact raw c) (decided-standing name standing) refl
      (r.step ∙ ap (λ told. Tells (told ++ raw_character rules.exact raw c) (opened_at name r.next)) none)
      (step-text rules.exact raw name c no_less_than no_ampersand) rest

  -- so it tells the same to its end
  alike-standing : (name : List ℕ) (standing : Standing) (text : List ℕ) → IsAlike name standing text
  unfolding trace
  alike-standing name standing [] none f letters = record {
    told = λ s line last. refl;
    at_end =
        λ s line last.
        tokens-standing rules name standing
        ∙ ap (λ told. (told ++ raw_end_error rules.exact (end_from standing [] (raw_at standing))) ++ End ∷ []) none
        ∙ ap (λ b. raw_end_error rules.exact (if b then DoubleEscaped NoDash else raw_at standing) ++ End ∷ []) letters
        ∙ sym (tokens-standing rules name (Free (raw_at standing)));
  }
  alike-standing name standing (c ∷ text) none f letters = alike-first name standing c text (continues name standing c) refl (λ next. alike-standing name next text) none f letters

  -- ---- items

  -- the item tells what it spells, and the text F after it tells the same as if nothing were open
  tells-goes : (Z : List ℕ) (K : Start) (s : S) (Y : List ℕ) (opened afterwards later : Open) (cells : List Spelled) (F : List ℕ)
      → K.opened ≡ opened → normalised K.input Y ≡ characters cells → normalised (input_after K.input Y) Z ≡ F → is_undecided_open afterwards ≡ false
      → Goes rules.exact opened cells afterwards → Alike means rules afterwards later F
      → TellsWith means rules Z K s Y (spelled_messages rules.exact K.input [] cells) (start_beyond K Y later K.last_start_tag)
  tells-goes Z K s Y opened afterwards later cells F starts text next decided goes alike =
      tells-alike means rules Z K s Y (spelled_messages rules.exact K.input [] cells) afterwards later F next alike
      (rw (line-after K Y, starts, text) (trace-goes means.step means.reply means.foreign rules K.input [] s K.last_start_tag opened afterwards cells F decided goes))

  -- a mark or a switch tells what it spells
  goes-at_once : (name : List ℕ) (raw : Raw) (item : RawItem) → is_text_at_once item ≡ true → can_stand name raw item [] ≡ true
      → Goes rules.exact (Between (RawText raw name)) (spell_item rules.exact raw item) (Between (RawText (raw_after_item raw item) name))
  unfolding Goes
  goes-at_once name raw (Character c) h can = absurd (false≢true h)
  goes-at_once name raw LessThan h can = absurd (false≢true h)
  goes-at_once name raw (Letters letters) h can = absurd (false≢true h)
  goes-at_once name raw Mark h can = (InRaw (AfterLessThan (kind_of raw)) name, reads_less_than rules.exact name (Free raw), goes-mark rules.exact name (kind_of raw) can)
  goes-at_once name raw (Switch letters c) h can =
      let p = and_parts (can_switch (kind_of raw) letters) _ can in
      let q = and_parts (list_all is_letter letters) (ends_name c) p.1 in
      (InRaw (AfterLessThan (kind_of raw)) name, reads_less_than rules.exact name (Free raw), goes-switch rules.exact name (kind_of raw) letters c p.0 q.0 q.1)

  -- a mark, or a switch
  pub tells-raw_mark : (Z : List ℕ) (K : Start) (s : S) (Y : List ℕ) (raw : Raw) (name : List ℕ) (item : RawItem) → IsRawMark K Y raw name item
      → TellsWith means rules Z K s Y (spelled_messages rules.exact K.input [] (spell_item rules.exact raw item)) (start_beyond K Y (Between (RawText (raw_after_item raw item) name)) K.last_start_tag)
  tells-raw_mark Z K s Y raw name item one =
      let later : Open = Between (RawText (raw_after_item raw item) name) in
      let F : List ℕ = normalised (input_after K.input Y) Z in
      tells-goes Z K s Y (Between (RawText raw name)) later later (spell_item rules.exact raw item) F one.starts
      (one.text ∙ sym (characters-item rules.exact raw item)) refl refl (goes-at_once name raw item one.at_once one.stands) (alike-refl later F)

  -- `<`, or `</` and letters, with a character after that
  pub tells-raw_less_than : (Z : List ℕ) (K : Start) (s : S) (Y : List ℕ) (raw : Raw) (name : List ℕ) (item : RawItem) (c : ℕ) (F : List ℕ) → IsRawLessThan K Y Z raw name item c F
      → TellsWith means rules Z K s Y (spelled_messages rules.exact K.input [] (spell_raw_less_than rules.exact raw item c))
      (start_beyond K Y (Between (RawText (raw_after (raw_after_item raw item) c) name)) K.last_start_tag)
  tells-raw_less_than Z K s Y raw name item c F one =
      let next_raw : Raw = raw_after_item raw item in
      let told : List Told = carried raw item ++ raw_character rules.exact next_raw c in
      let cells : List Spelled = spell_item rules.exact raw item in
      let cell : Spelled = record { character = c; told = told } in
      let p = and_parts (can_stand name raw item (c ∷ F)) (not (ends_in_letters item (kind_of raw) (c ∷ F))) one.stands in
      let q = and_parts (not (c == less_than)) (not (is_rcdata raw && (c == ampersand))) one.is_text in
      let b : Afterwards rules.exact name raw item (c ∷ F) = afterwards rules.exact name raw item (c ∷ F) one.later p.0 in
      let no_ampersand : (is_rcdata (raw_at b.standing) && (c == ampersand)) ≡ false =
      ap (λ t. t && (c == ampersand)) (ap is_rcdata b.raw_is ∙ same-rcdata raw item one.later) ∙ not-true (is_rcdata raw && (c == ampersand)) q.1 in
      let r : ReadsCharacter rules.exact name b.standing c F = reads_character rules.exact name b.standing c F (not-true (c == less_than) q.0) no_ampersand b.fits_after in
      let raw_is : raw_at r.next ≡ raw_after next_raw c = r.raw_is ∙ ap (λ w. raw_after w c) b.raw_is in
      let letters : in_letters r.next F ≡ false = sym (r.letters_is F) ∙ b.letters_is ∙ not-true (ends_in_letters item (kind_of raw) (c ∷ F)) p.1 in
      let step : step_at rules.exact (opened_at name b.standing) c ≡ Tells told (opened_at name r.next) =
      r.step ∙ ap (λ t. Tells (t ++ raw_character rules.exact (raw_at b.standing) c) (opened_at name r.next)) b.carried_is
      ∙ ap (λ w. Tells (carried raw item ++ raw_character rules.exact w c) (opened_at name r.next)) b.raw_is in
      tells-goes Z K s Y (Between (RawText raw name)) (opened_at name r.next) (Between (RawText (raw_after next_raw c) name)) (cells ++ cell ∷ []) F one.starts
      (one.text ∙ sym (characters-two cells (cell ∷ []) (item_text raw item) (c ∷ []) (characters-item rules.exact raw item) refl)) one.next (decided-standing name r.next)
      (Goes-append rules.exact (Between (RawText raw name)) (opened_at name b.standing) (opened_at name r.next) cells (cell ∷ []) b.goes (Goes-one rules.exact (opened_at name b.standing) (opened_at name r.next) c told step))
      (subst (λ w. Alike means rules (opened_at name r.next) (Between (RawText w name)) F) raw_is (alike-standing name r.next F r.carried_is r.fits_after letters))

  on_line-append : (line : ℕ) (a b : List Told) → on_line line (a ++ b) ≡ on_line line a ++ on_line line b
  on_line-append line a b = map-append (λ t. record { token = t; line = line }) a b

  -- what is carried to such a character is sent before it
  trace-carried : (s : S) (line : ℕ) (last : List ℕ) (opened : Open) (raw : Raw) (name : List ℕ) (c : ℕ) (text : List ℕ) (before : List Told) → is_undecided_open opened ≡ false
      → IsMarkup rules.exact raw name c → line_past line c ≡ line → step_at rules.exact opened c ≡ raw_step rules.exact raw name before c
      → trace_of means rules s line last opened (c ∷ text)
      ≡ with_messages (on_line line before) (trace_of means rules (stepped means.step s (on_line line before)) line last (Between (RawText raw name)) (c ∷ text))
  unfolding step_at
  trace-carried s line last opened raw name c text before decided m same step =
      let N : List Message = on_line line before in
      let between : Open = Between (RawText raw name) in
      let at_line : List Told → Trace = λ told. with_messages (on_line line told) (trace_of means rules (stepped means.step s (on_line line told)) line last m.later text) in
      trace-character s line last opened m.later c text (before ++ m.told) decided (step ∙ m.is before)
      ∙ ap (λ e. with_messages (on_line (line_past line c) (e ++ (before ++ m.told))) (trace_of means rules (stepped means.step s (on_line (line_past line c) (e ++ (before ++ m.told)))) (line_past line c) last m.later text)) m.good
      ∙ ap (λ n. with_messages (on_line n (before ++ m.told)) (trace_of means rules (stepped means.step s (on_line n (before ++ m.told))) n last m.later text)) same
      ∙ ap (λ l. with_messages l (trace_of means rules (stepped means.step s l) line last m.later text)) (on_line-append line before m.told)
      ∙ sym (passes-two means rules s N (on_line line m.told) line last m.later text)
      ∙ ap (with_messages N)
      (sym
      (trace-character (stepped means.step s N) line last between m.later c text m.told refl (m.is [])
      ∙ ap (λ e. with_messages (on_line (line_past line c) (e ++ m.told)) (trace_of means rules (stepped means.step (stepped means.step s N) (on_line (line_past line c) (e ++ m.told))) (line_past line c) last m.later text)) m.good
      ∙ ap (λ n. with_messages (on_line n m.told) (trace_of means rules (stepped means.step (stepped means.step s N) (on_line n m.told)) n last m.later text)) same))

  -- `<`, or `</` and letters, before a `<`, or before the `&` of a reference
  pub tells-raw_less_than_before : (Z : List ℕ) (K : Start) (s : S) (Y : List ℕ) (raw : Raw) (name : List ℕ) (item : RawItem) (c : ℕ) (F : List ℕ) → IsRawLessThanBefore K Y Z raw name item c F
      → TellsWith means rules Z K s Y
      (spelled_messages rules.exact K.input [] (spell_item rules.exact raw item) ++ on_line (line_after K.input (item_text raw item)) (carried raw item))
      (start_beyond K Y (Between (RawText (raw_after_item raw item) name)) K.last_start_tag)
  tells-raw_less_than_before Z K s Y raw name item c F one =
      let next_raw : Raw = raw_after_item raw item in
      let between : Open = Between (RawText next_raw name) in
      let cells : List Spelled = spell_item rules.exact raw item in
      let M : List Message = spelled_messages rules.exact K.input [] cells in
      let line : ℕ = line_after K.input (item_text raw item) in
      let N : List Message = on_line line (carried raw item) in
      let p = and_parts (can_stand name raw item (c ∷ F)) (not (ends_in_letters item (kind_of raw) (c ∷ F))) one.stands in
      let b : Afterwards rules.exact name raw item (c ∷ F) = afterwards rules.exact name raw item (c ∷ F) one.later p.0 in
      let markup : is_raw_text next_raw c ≡ false = ap (λ t. not (c == less_than) && not (t && (c == ampersand))) (same-rcdata raw item one.later) ∙ one.is_markup in
      let m : IsMarkup rules.exact next_raw name c = is-markup rules.exact next_raw name c markup in
      let step : step_at rules.exact (opened_at name b.standing) c ≡ raw_step rules.exact next_raw name (carried raw item) c =
      reads_anew rules.exact name b.standing c (m.anew b.standing)
      ∙ ap (λ w. raw_step rules.exact w name (carried_at b.standing) c) b.raw_is ∙ ap (λ told. raw_step rules.exact next_raw name told c) b.carried_is in
      let text : normalised K.input Y ≡ characters cells = one.text ∙ sym (characters-item rules.exact raw item) in
      let line_is : line_after K.input (characters cells) ≡ line = ap (line_after K.input) (characters-item rules.exact raw item) in
      tells-alike means rules Z K s Y (M ++ N) between between (c ∷ F) one.next (alike-refl between (c ∷ F))
      (rw (line-after K Y, one.starts, text)
      (trace-goes means.step means.reply means.foreign rules K.input [] s K.last_start_tag (Between (RawText raw name)) (opened_at name b.standing) cells (c ∷ F) (decided-standing name b.standing) b.goes
      ∙ rw line_is
      (ap (with_messages M)
      (trace-carried (stepped means.step s M) line K.last_start_tag (opened_at name b.standing) next_raw name c F (carried raw item) (decided-standing name b.standing) m (is-line means rules K.input (item_text raw item) c m.same) step)
      ∙ passes-two means rules s M N line K.last_start_tag between (c ∷ F))))

  -- ---- raw text that ends within an item

  -- the whole text tells what it spells, and its end tells the open item there
  tells-ends : (K : Start) (s : S) (Y : List ℕ) (opened afterwards : Open) (cells : List Spelled) (E : List Told)
      → K.opened ≡ opened → normalised K.input Y ≡ characters cells → is_undecided_open afterwards ≡ false → Goes rules.exact opened cells afterwards → tokens_at_end rules afterwards ≡ E
      → TellsAll means rules K s Y (spelled_messages rules.exact K.input [] cells) (on_line (line_after (input_after K.input Y) []) E)
  tells-ends K s Y opened afterwards cells E starts text decided goes at_end =
      subst (λ tokens. TellsAll means rules K s Y (spelled_messages rules.exact K.input [] cells) (on_line (line_after (input_after K.input Y) []) tokens)) at_end
      (tells-trace means rules K s Y (spelled_messages rules.exact K.input [] cells) afterwards K.last_start_tag
      (rw starts
      (trace-text means.step means.reply means.foreign rules K.input [] s K.last_start_tag opened afterwards cells (normalised K.input Y) (sym text) (leads-goes rules opened afterwards cells decided goes))))

  -- after `<` alone, or `</` and letters, no letters of a switch stand
  no_letters : (item : RawItem) (kind : RawKind) → ends_in_letters item kind [] ≡ false
  no_letters (Character c) kind = refl
  no_letters (Letters letters) kind = refl
  no_letters Mark kind = refl
  no_letters (Switch letters c) kind = refl
  no_letters LessThan raw_kind.Rcdata = refl
  no_letters LessThan raw_kind.Rawtext = refl
  no_letters LessThan raw_kind.ScriptData = refl
  no_letters LessThan (raw_kind.ScriptDataEscaped escape_kind.Escaped) = refl
  no_letters LessThan (raw_kind.ScriptDataEscaped escape_kind.DoubleEscaped) = refl

  -- `<`, or `</` and letters
  pub tells-open_raw : (K : Start) (s : S) (Y : List ℕ) (raw : Raw) (name : List ℕ) (item : RawItem) → IsOpenRaw K Y raw name item
      → TellsAll means rules K s Y (spelled_messages rules.exact K.input [] (spell_item rules.exact raw item))
      (on_line (line_after (input_after K.input Y) []) (carried raw item ++ raw_end_error rules.exact (raw_after_item raw item) ++ End ∷ []))
  tells-open_raw K s Y raw name item one =
      let cells : List Spelled = spell_item rules.exact raw item in
      let b : Afterwards rules.exact name raw item [] = afterwards rules.exact name raw item [] one.later one.stands in
      let letters : in_letters b.standing [] ≡ false = b.letters_is ∙ no_letters item (kind_of raw) in
      tells-ends K s Y (Between (RawText raw name)) (opened_at name b.standing) cells (carried raw item ++ raw_end_error rules.exact (raw_after_item raw item) ++ End ∷ []) one.starts
      (one.text ∙ sym (characters-item rules.exact raw item)) (decided-standing name b.standing) b.goes
      (tokens-standing rules name b.standing
      ∙ ap (λ told. (told ++ raw_end_error rules.exact (end_from b.standing [] (raw_at b.standing))) ++ End ∷ []) b.carried_is
      ∙ ap (λ t. (carried raw item ++ raw_end_error rules.exact (if t then DoubleEscaped NoDash else raw_at b.standing)) ++ End ∷ []) letters
      ∙ ap (λ w. (carried raw item ++ raw_end_error rules.exact w) ++ End ∷ []) b.raw_is)

  -- the letters that may be those of a switch
  goes-letters : (kind : ScriptEscapeKind) (name before letters : List ℕ) → list_all is_letter letters ≡ true
      → Goes rules.exact (InRaw (InSwitch kind before) name) (spell_text letters) (InRaw (InSwitch kind (before ++ letters)) name)
  unfolding Goes step_at raw_place_step switch_step
  goes-letters kind name before [] all = ap (λ l. InRaw (InSwitch kind l) name) (sym (append-nil before))
  goes-letters kind name before (c ∷ letters) all =
      let p = and_parts (is_letter c) (list_all is_letter letters) all in (
        InRaw (InSwitch kind (before ++ c ∷ [])) name,
        rw p.0 refl,
        subst (λ l. Goes rules.exact (InRaw (InSwitch kind (before ++ c ∷ [])) name) (spell_text letters) (InRaw (InSwitch kind l) name)) (append_assoc before (c ∷ []) letters)
            (goes-letters kind name (before ++ c ∷ []) letters p.1),
      )

  -- `<` and letters in escaped script data
  pub tells-open_switch : (K : Start) (s : S) (Y : List ℕ) (dashes : Dashes) (name : List ℕ) (first : ℕ) (letters : List ℕ) → IsOpenSwitch K Y dashes name first letters
      → TellsAll means rules K s Y (spelled_messages rules.exact K.input [] (spell_open_switch first letters))
      (on_line (line_after (input_after K.input Y) []) (raw_end_error rules.exact (DoubleEscaped NoDash) ++ End ∷ []))
  unfolding Goes step_at raw_place_step raw_less_than_step begins_mark begins_switch late_at_end_of open_at_end_of told_at_end_of told_at_raw_end kind_of
  tells-open_switch K s Y dashes name first letters one =
      let p = and_parts (is_letter first) (list_all is_letter letters) one.are_letters in
      let after_it : Open = InRaw (InSwitch escape_kind.Escaped (first ∷ letters)) name in
      tells-ends K s Y (Between (RawText (Escaped dashes) name)) after_it (spell_open_switch first letters) (raw_end_error rules.exact (DoubleEscaped NoDash) ++ End ∷ []) one.starts
      (one.text ∙ ap (λ l. less_than ∷ first ∷ l) (sym (characters-spell (λ c. texts (c ∷ [])) letters))) refl (
        InRaw (AfterLessThan (raw_kind.ScriptDataEscaped escape_kind.Escaped)) name,
        reads_less_than rules.exact name (Free (Escaped dashes)),
        (InRaw (InSwitch escape_kind.Escaped (first ∷ [])) name, rw (letter-no_solidus first p.0, p.0) refl, goes-letters escape_kind.Escaped name (first ∷ []) letters p.1),
      )
      refl

  -- ---- the end tag

  -- the opening and the name of the end tag are read as those of a tag
  passes-end_name : (raw : Raw) (name : List ℕ) (kind : TagKind) (first : ℕ) (rest text : List ℕ) → is_double_escaped (kind_of raw) ≡ false → is_end_tag kind ≡ true
      → list_all is_letter (first ∷ rest) ≡ true → bytes_eq (lower (first ∷ rest)) name ≡ true → next_is ends_name text ≡ true
      → Passes means rules (Between (RawText raw name)) (spell_silent (opening kind) ++ spell (null_error rules.exact state.TagName) (first ∷ rest))
      (InTag InName (with_name (begun kind) (first ∷ rest))) text
  passes-end_name raw name StartTag first rest text single is_end all same ends = absurd (false≢true is_end)
  passes-end_name raw name EndTag first rest [] single is_end all same ends = absurd (false≢true ends)
  passes-end_name raw name EndTag first rest (c ∷ text) single is_end all same ends = λ input before s last.
      let cells : List Spelled = spell_silent (opening EndTag) ++ spell (null_error rules.exact state.TagName) (first ∷ rest) in
      let M : List Message = spelled_messages rules.exact input before cells in
      let in_name : Open = InRaw (InEndName (kind_of raw) (first ∷ rest)) name in
      let named : Open = InTag InName (with_name (begun EndTag) (first ∷ rest)) in
      passes-goes means rules (Between (RawText raw name)) in_name cells (c ∷ text) refl (goes-end_tag rules.exact name (Free raw) first rest single all) input before s last
      ∙ ap (with_messages M)
      (trace-same means rules (stepped means.step s M) (line_after input (before ++ characters cells)) last in_name named c text refl refl
      (step-end_name rules.exact name (kind_of raw) (first ∷ rest) c ends (name_ends name first rest c same ends)))

  -- what is known of the end tag of raw text
  record Ends (raw : Raw) (name : List ℕ) (tag : WrittenTag) : Type 0 where
    single : is_double_escaped (kind_of raw) ≡ false
    is_end : is_end_tag tag.kind ≡ true
    letters : list_all is_letter tag.rest ≡ true
    same : bytes_eq (lower (tag.first ∷ tag.rest)) name ≡ true

  ends_of : (raw : Raw) (name : List ℕ) (tag : WrittenTag) → ends_raw name raw tag ≡ true → Ends raw name tag
  ends_of raw name tag h =
      let p = and_parts (not (is_double_escaped (kind_of raw))) _ h in
      let q = and_parts (is_end_tag tag.kind) _ p.1 in
      let r = and_parts (list_all is_letter tag.rest) _ q.1 in
      record { single = not-true (is_double_escaped (kind_of raw)) p.0; is_end = q.0; letters = r.0; same = r.1 }

  passes-end_tag : (raw : Raw) (name : List ℕ) (tag : WrittenTag) (text : List ℕ) → ends_raw name raw tag ≡ true → is_letter tag.first ≡ true → next_is ends_name text ≡ true
      → Passes means rules (Between (RawText raw name)) (name_cells means rules tag) (InTag InName (named_tag means rules tag)) text
  passes-end_tag raw name tag text h letter ends =
      let e : Ends raw name tag = ends_of raw name tag h in
      passes-end_name raw name tag.kind tag.first tag.rest text e.single e.is_end (rw (letter, e.letters) refl) e.same ends

  -- with its `>`
  pub tells-raw_end : (Z : List ℕ) (K : Start) (s : S) (Y : List ℕ) (raw : Raw) (name : List ℕ) (tag : WrittenTag) → IsTable rules.references → IsRawEnd K Y raw name tag
      → TellsWith means rules Z K s Y (spelled_messages rules.exact K.input [] (spelled rules tag))
      (start_after_tag means K s Y (tag_told rules tag) (spelled_messages rules.exact K.input [] (spelled rules tag)))
  unfolding is_written ends_name is_white_space
  tells-raw_end Z K s Y raw name tag table one =
      let M : List Message = spelled_messages rules.exact K.input [] (spelled rules tag) in
      let last : List ℕ = last_after K.last_start_tag (tag_told rules tag) in
      let p = and_parts (is_letter tag.first) _ one.is_tag in
      let q = and_parts (list_all in_tag_name tag.rest) (can_follow InName tag.parts) p.1 in
      tells-before_with means rules Z K s Y M (open_after_reply last (last_reply means.step means.reply s M)) last
      (tag-from means rules K s Y (Between (RawText raw name)) tag table.plain one.starts q.1 one.text
      (passes-end_tag raw name tag (flat_map part_text tag.parts ++ greater_than ∷ []) one.ends p.0 (parts-end_name tag.parts (greater_than ∷ []) q.1 (λ none. refl))) Z)

  -- and without it
  pub tells-open_raw_end : (K : Start) (s : S) (Y : List ℕ) (raw : Raw) (name : List ℕ) (tag : WrittenTag) (last : Option OpenAttribute) → IsTable rules.references → IsOpenRawEnd K Y raw name tag last
      → TellsAll means rules K s Y (spelled_messages rules.exact K.input [] (spell_open_tag rules tag last)) (on_line (line_after (input_after K.input Y) []) (open_tag_at_end rules tag last))
  unfolding is_open_written
  tells-open_raw_end K s Y raw name tag last table one =
      let p = and_parts (is_letter tag.first) _ one.is_open in
      let q = and_parts (list_all in_tag_name tag.rest) _ p.1 in
      let r = and_parts (can_follow InName tag.parts) (can_end_in (end_place tag) last) q.1 in
      let text : List ℕ = flat_map part_text tag.parts ++ open_attribute_text last in
      let l : Leaves means rules (Between (RawText raw name)) (open_written tag last) (spell_open_tag rules tag last) (open_tag_at_end rules tag last) =
      leaves-open_from means rules (Between (RawText raw name)) tag last table.plain r.0 r.1
      (passes-end_tag raw name tag text one.ends p.0 (parts-end_name tag.parts (open_attribute_text last) r.0 (λ none. absurd (false≢true (sym one.has_parts ∙ none))))) in
      let M : List Message = spelled_messages rules.exact K.input [] (spell_open_tag rules tag last) in
      subst (λ tokens. TellsAll means rules K s Y M (on_line (line_after (input_after K.input Y) []) tokens)) l.at_end
      (tells-trace means rules K s Y M l.later K.last_start_tag (rw (one.starts, one.text) (l.is K.input [] s K.last_start_tag)))
