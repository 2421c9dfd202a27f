-- A text that is raw text tells the messages of how it is written.
use Rattle.std.proofs.Common.{◌≡◌, ℕ, Bool, true, false, List, [], ◌∷◌, ◌++◌, Option, None, Some, refl, ap, sym, ◌∙◌, subst, length, length-append, ◌≤◌, arith}
use Rattle.std.specs.Prelude.{not, flat_map}
use Rattle.std.specs.List.{list_all}
use Rattle.std.specs.Bool.{nat_eq}
use Rattle.std.specs.Char.{to_ascii_lowercase}
use Rattle.std.specs.Str.{bytes_eq}
use Rattle.std.proofs.lemmas.Str.{length-le-encodes}
use Rattle.markup5ever.proofs.NameOrder.{bytes_eq-same}
use Rattle.std.proofs.lemmas.Bool.{false≢true, and_parts, not-true, ne_eqb}
use Rattle.std.proofs.lemmas.List.{append_assoc, append-nil}
use Rattle.html5ever_interface.specs.Sink.{Message, stepped, Means}
use Rattle.html5ever_interface.specs.Token.{Told}
use Rattle.html5ever_interface.specs.Token.Told.{Tag, End}
use Rattle.html5ever_interface.specs.Token.Reply.{KeepOn}
use Rattle.html5ever_interface.specs.declared.interface.token.TagKind.{TagKind}
use Rattle.html5ever_interface.specs.declared.interface.token.TagKind.TheVariants.{StartTag, EndTag}
use Rattle.html5ever_interface.specs.declared.states.RawKind.{RawKind}
use Rattle.html5ever_interface.specs.declared.states.RawKind.TheVariants as raw_kind
use Rattle.html5ever_interface.specs.declared.states.ScriptEscapeKind.TheVariants as escape_kind
use Rattle.html5ever_interface.specs.declared.states.State.TheVariants as state
use Rattle.html5grammar.specs.Anywhere.{last_reply}
use Rattle.html5reading.specs.Characters.{solidus, less_than, greater_than, is_letter, is_white_space, shown, name_bytes}
use Rattle.html5reading.specs.EndOfInput.{raw_end_error, told_at_raw_end, late_at_end_of, open_at_end_of, told_at_end_of, tokens_at_end}
use Rattle.html5reading.specs.NormalisedText.{normalised, line_after}
use Rattle.html5grammar.specs.Tag as one_tag
use Rattle.html5grammar.specs.Tag.{Part, WrittenTag, spell_parts, part_text, name_shown, all_attributes, end_place, tag_told, end_errors, spelled, body}
use Rattle.html5grammar.specs.Spelled.{Spelled, spell, spell_silent, spelled_messages}
use Rattle.html5grammar.specs.Tag.Part.{Blank, Solidus, Name, Attribute}
use Rattle.html5reading.specs.RawText.{texts, lower, ends_name, kind_of, ends_raw_text, told_at_less_than, told_after_less_than}
use Rattle.html5reading.specs.Reading.{reading, told, messages, last_after, open_after_reply}
use Rattle.html5reading.specs.Reading.Here.{Tells, TellsTag}
use Rattle.html5reading.specs.Slice.{silent}
use Rattle.html5reading.specs.Start.{Raw, OpenTag, Open, Start, Rules, is_undecided_open, begun}
use Rattle.html5reading.specs.Start.Mode.{Data, RawText}
use Rattle.html5reading.specs.Start.Place.{InName}
use Rattle.html5reading.specs.Start.Open.{Between, InTag, InRaw}
use Rattle.html5reading.specs.Start.RawPlace.{AfterLessThan, InEndName, AfterMark, AfterMarkAndDash, InSwitch}
use Rattle.html5reading.specs.Tag.{with_name, null_error, in_tag_name}
use Rattle.html5grammar.specs.RawText.{RawItem, WrittenRaw, raw_after_item, raw_after_items, switch_text, item_text, items_text, written, next_is, is_double_escaped, can_stand, can_follow, is_raw, carried, carried_to, spell_text, spell_item, spell_items, carried_after, spell_raw, raw_at_end, told_at_end, raw_messages, IsRawText}
use Rattle.html5grammar.specs.RawText.RawItem.{Character, LessThan, Letters, Mark, Switch}
use Rattle.html5grammar.proofs.Leading.{trace-goes, spelled_messages-append}
use Rattle.html5reading.specs.Machine.{step_at, raw_place_step, end_name_step, tag_name_end_step, tag_step, tag_name_step}
use Rattle.html5grammar.proofs.Goes.{characters, characters-append, characters-spell, characters-two, Goes, Goes-append}
use Rattle.html5reading.proofs.ReadingLemmas.{told-trace, after-opened, reading-events, messages-at_end}
use Rattle.html5reading.proofs.Traces.{brought-step, Trace, trace, with_messages, messages-append}
use Rattle.html5grammar.proofs.RawText.Steps.{Standing, opened_at, raw_at, carried_at, fits, end_from, end-no_letter, reads_less_than, goes-end_letters, ReadsItem, reads_item}
use Rattle.html5reading.proofs.Letters.{letter-no_null}
use Rattle.html5grammar.proofs.RawText.Steps.Standing.{Free, Within}
use Rattle.html5grammar.proofs.Tag.Attributes.{Holds-none, can_end-parts}
use Rattle.html5grammar.proofs.Tag.Parts.{Led, passes-parts, characters-parts, characters-body, ends-tag, trace-tag}
use Rattle.html5grammar.proofs.Tag.Values.{Passes, quote-stop}
use Rattle.html5grammar.proofs.LastReply.{last_reply-spelled, last_reply-keeps}
use Rattle.markup5ever.specs.NamedReferences.{IsTable}
use Rattle.html5ever_interface.specs.declared.states.AttrValueKind.TheVariants.{Unquoted}

-- ---- the characters that are spelled are the text

characters-carried : (before : List Told) (cells : List Spelled) → characters (carried_to before cells) ≡ characters cells
characters-carried before [] = refl
characters-carried before (here ∷ more) = refl

pub characters-item : (exact : Bool) (raw : Raw) (item : RawItem) → characters (spell_item exact raw item) ≡ item_text raw item
characters-item exact raw (Character c) = refl
characters-item exact raw LessThan = refl
characters-item exact raw (Letters letters) = ap (λ l. less_than ∷ solidus ∷ l) (characters-spell silent letters)
characters-item exact raw Mark = refl
characters-item exact raw (Switch letters c) =
    let text : List ℕ = switch_text (kind_of raw) letters c in
    ap (λ l. less_than ∷ l) (characters-carried (told_after_less_than (kind_of raw)) (spell_text text) ∙ characters-spell (λ d. texts (d ∷ [])) text)

characters-items : (exact : Bool) (raw : Raw) (before : List Told) (items : List RawItem) (later : List ℕ)
    → characters (spell_items exact raw before items) ++ later ≡ items_text raw items later
unfolding spell_items items_text
characters-items exact raw before [] later = refl
characters-items exact raw before (item ∷ items) later =
    let next : Raw = raw_after_item raw item in
    let more : List Spelled = spell_items exact next (carried raw item) items in
    ap (λ l. l ++ later) (characters-two (carried_to before (spell_item exact raw item)) more (item_text raw item) (characters more) (characters-carried before (spell_item exact raw item) ∙ characters-item exact raw item) refl)
    ∙ append_assoc (item_text raw item) (characters more) later
    ∙ ap (λ l. item_text raw item ++ l) (characters-items exact next (carried raw item) items later)

-- ---- the machine reads items

module _ (exact : Bool) (name : List ℕ) where
  -- items, and where the machine stands after them
  record ReadsItems (standing : Standing) (raw : Raw) (before : List Told) (items : List RawItem) : Type 0 where
    afterwards : Standing
    goes : Goes exact (opened_at name standing) (spell_items exact raw before items) (opened_at name afterwards)
    raw_is : raw_at afterwards ≡ raw_after_items raw items
    carried_is : carried_at afterwards ≡ carried_after raw before items
    end_is : end_from standing (items_text raw items []) (raw_at_end raw items) ≡ end_from afterwards [] (raw_at afterwards)

  abbrev ReadsFrom : Standing → Raw → List Told → List RawItem → List ℕ → Type 0
  ReadsFrom standing raw before items later =
      can_follow name raw items later ≡ true → fits name standing (items_text raw items later) ≡ true → ReadsItems standing raw before items

  -- the walk reads items of raw text as their spelled characters say
  reads_items : (standing : Standing) (items : List RawItem) (later : List ℕ) → ReadsFrom standing (raw_at standing) (carried_at standing) items later
  unfolding Goes items_text can_follow spell_items raw_after_items carried_after raw_at_end
  reads_items standing [] later can f = record { afterwards = standing; goes = refl; raw_is = refl; carried_is = refl; end_is = refl }
  reads_items standing (item ∷ items) later can f =
      let raw : Raw = raw_after_item (raw_at standing) item in
      let before : List Told = carried (raw_at standing) item in
      let p = and_parts (can_stand name (raw_at standing) item (items_text raw items later)) (can_follow name raw items later) can in
      let one : ReadsItem exact name standing item (items_text raw items later) = reads_item exact name standing item (items_text raw items later) p.0 f in
      let rest : ReadsItems one.next raw before items =
      subst (λ r. ReadsFrom one.next r before items later) one.raw_is
      (subst (λ b. ReadsFrom one.next (raw_at one.next) b items later) one.carried_is (reads_items one.next items later)) p.1 one.fits_after in
      record {
        afterwards = rest.afterwards;
        goes = Goes-append exact (opened_at name standing) (opened_at name one.next) (opened_at name rest.afterwards) (carried_to (carried_at standing) (spell_item exact (raw_at standing) item)) (spell_items exact raw before items) one.goes rest.goes;
        raw_is = rest.raw_is;
        carried_is = rest.carried_is;
        end_is = ◌∙◌ {c = end_from rest.afterwards [] (raw_at rest.afterwards)} (one.end_is (items_text raw items []) (raw_at_end raw items)) rest.end_is;
      }

-- what the end tells where the machine stands
pub tokens-standing : (rules : Rules) (name : List ℕ) (standing : Standing)
    → tokens_at_end rules (opened_at name standing)
    ≡ (carried_at standing ++ raw_end_error rules.exact (end_from standing [] (raw_at standing))) ++ End ∷ []
unfolding late_at_end_of open_at_end_of told_at_end_of told_at_raw_end raw_end_error
tokens-standing rules name (Free raw) = refl
tokens-standing rules name (Within (AfterLessThan raw_kind.Rcdata)) = refl
tokens-standing rules name (Within (AfterLessThan raw_kind.Rawtext)) = refl
tokens-standing rules name (Within (AfterLessThan raw_kind.ScriptData)) = refl
tokens-standing rules name (Within (AfterLessThan (raw_kind.ScriptDataEscaped escape_kind.Escaped))) = refl
tokens-standing rules name (Within (AfterLessThan (raw_kind.ScriptDataEscaped escape_kind.DoubleEscaped))) = refl
tokens-standing rules name (Within (InEndName kind letters)) = refl
tokens-standing rules name (Within AfterMark) = refl
tokens-standing rules name (Within AfterMarkAndDash) = refl
tokens-standing rules name (Within (InSwitch escape_kind.Escaped letters)) = refl
tokens-standing rules name (Within (InSwitch escape_kind.DoubleEscaped letters)) = refl

pub decided-standing : (name : List ℕ) (standing : Standing) → is_undecided_open (opened_at name standing) ≡ false
decided-standing name (Free raw) = refl
decided-standing name (Within place) = refl

-- ---- the machine reads the end tag

told-single : (kind : RawKind) → is_double_escaped kind ≡ false → told_at_less_than kind ≡ []
told-single raw_kind.Rcdata h = refl
told-single raw_kind.Rawtext h = refl
told-single raw_kind.ScriptData h = refl
told-single (raw_kind.ScriptDataEscaped escape_kind.Escaped) h = refl
told-single (raw_kind.ScriptDataEscaped escape_kind.DoubleEscaped) h = absurd (false≢true (sym h))

pub ends-no_name : (c : ℕ) → ends_name c ≡ true → in_tag_name c ≡ false
unfolding ends_name in_tag_name
ends-no_name c h = ap not h

pub greater_than-ends : ends_name greater_than ≡ true
unfolding ends_name is_white_space
greater_than-ends = refl

-- the text after the name of a tag ends it
pub parts-end_name : (parts : List Part) (text : List ℕ) → one_tag.can_follow InName parts ≡ true → (nat_eq (length parts) 0 ≡ true → next_is ends_name text ≡ true)
    → next_is ends_name (flat_map part_text parts ++ text) ≡ true
unfolding one_tag.can_follow ends_name is_white_space
parts-end_name [] text h ends = ends refl
parts-end_name (Blank c ∷ parts) text h ends = rw (and_parts (is_white_space c) (one_tag.can_follow (one_tag.place_after InName (Blank c)) parts) h).0 refl
parts-end_name (Solidus ∷ parts) text h ends = refl
parts-end_name (Name first rest ∷ parts) text h ends = absurd (false≢true h)
parts-end_name (Attribute first rest space afterwards value ∷ parts) text h ends = absurd (false≢true h)

-- a name that letters are in lower case isn't empty
filled_name : (name : List ℕ) (first : ℕ) (rest : List ℕ) → bytes_eq (lower (first ∷ rest)) name ≡ true → nat_eq (length name) 0 ≡ false
unfolding name_bytes
filled_name name first rest same =
    let one : 1 ≤ length (name_bytes first) = subst (λ l. 1 ≤ length l) (append-nil (name_bytes first)) (length-le-encodes (to_ascii_lowercase (shown first) ∷ [])) in
    let all : length name ≡ length (name_bytes first ++ lower rest) = ap length (sym (bytes_eq-same (lower (first ∷ rest)) name same)) in
    ne_eqb (length name) 0 (λ e. omega (arith, one, all, e, length-append (name_bytes first) (lower rest)))

-- a letter and more, and a character that ends a name
pub name_ends : (name : List ℕ) (first : ℕ) (rest : List ℕ) (c : ℕ) → bytes_eq (lower (first ∷ rest)) name ≡ true → ends_name c ≡ true
    → ends_raw_text name (first ∷ rest) c ≡ true
unfolding ends_raw_text
name_ends name first rest c same ends = rw (filled_name name first rest same, ends, same) refl

-- an end tag's cells up to its name, and those of its parts with `>`
abbrev pub name_cells : Bool → List Told → ℕ → List ℕ → List Spelled
name_cells exact before first rest =
    carried_to before (spell_silent (less_than ∷ solidus ∷ []) ++ spell (null_error exact state.TagName) (first ∷ rest))

abbrev end_tag_of : ℕ → List ℕ → List Part → WrittenTag
end_tag_of first rest parts = record { kind = EndTag; first = first; rest = rest; parts = parts }

abbrev end_cell : Rules → WrittenTag → Spelled
end_cell rules tag = record { character = greater_than; told = end_errors rules tag ++ Tag (tag_told rules tag) ∷ [] }

cells-end_tag : (rules : Rules) (before : List Told) (first : ℕ) (rest : List ℕ) (parts : List Part)
    → carried_to before (spelled rules (end_tag_of first rest parts))
    ≡ name_cells rules.exact before first rest ++ (spell_parts rules InName [] parts ++ end_cell rules (end_tag_of first rest parts) ∷ [])
unfolding spelled
cells-end_tag rules before first rest parts =
    ap (λ l. record { character = less_than; told = before ++ [] } ∷ record { character = solidus; told = [] } ∷ l)
    (append_assoc (spell (null_error rules.exact state.TagName) (first ∷ rest)) (spell_parts rules InName [] parts) (end_cell rules (end_tag_of first rest parts) ∷ []))

-- what is known of raw text that ends with an end tag
record IsEnded (name : List ℕ) (raw : Raw) (items : List RawItem) (first : ℕ) (rest : List ℕ) (parts : List Part) : Type 0 where
  follow : can_follow name raw items (one_tag.written (end_tag_of first rest parts)) ≡ true
  single : is_double_escaped (kind_of (raw_after_items raw items)) ≡ false
  letters : list_all is_letter (first ∷ rest) ≡ true
  name_is : bytes_eq (lower (first ∷ rest)) name ≡ true
  parts_follow : one_tag.can_follow InName parts ≡ true

-- the conditions on raw text with an end tag, as a record of its parts
is_ended : (name : List ℕ) (raw : Raw) (items : List RawItem) (first : ℕ) (rest : List ℕ) (parts : List Part)
    → is_raw name raw (record { items = items; end_tag = Some (end_tag_of first rest parts) }) ≡ true → IsEnded name raw items first rest parts
unfolding is_raw one_tag.is_written
is_ended name raw items first rest parts h =
    let double : Bool = is_double_escaped (kind_of (raw_after_items raw items)) in
    let p = and_parts (can_follow name raw items (one_tag.written (end_tag_of first rest parts))) _ h in
    let q = and_parts (not double) _ p.1 in
    let r = and_parts (list_all is_letter rest) _ q.1 in
    let s = and_parts (bytes_eq (lower (first ∷ rest)) name) _ r.1 in
    let t = and_parts (is_letter first) _ s.1 in
    let u = and_parts (list_all in_tag_name rest) (one_tag.can_follow InName parts) t.1 in
    record { follow = p.0; single = not-true double q.0; letters = rw (t.0, r.0) refl; name_is = s.0; parts_follow = u.1 }

module _ (exact : Bool) (name : List ℕ) where
  pub goes-end_tag : (standing : Standing) (first : ℕ) (rest : List ℕ) → is_double_escaped (kind_of (raw_at standing)) ≡ false → list_all is_letter (first ∷ rest) ≡ true
      → Goes exact (opened_at name standing) (name_cells exact (carried_at standing) first rest) (InRaw (InEndName (kind_of (raw_at standing)) (first ∷ rest)) name)
  unfolding Goes
  goes-end_tag standing first rest single all =
      let kind : RawKind = kind_of (raw_at standing) in (
        InRaw (AfterLessThan kind) name,
        reads_less_than exact name standing ∙ ap (λ l. Tells (carried_at standing ++ l) (InRaw (AfterLessThan kind) name)) (told-single kind single),
        goes-end_letters exact name kind (null_error exact state.TagName) (first ∷ rest) (λ c letter. rw (letter-no_null c letter) refl) single all,
      )

  -- raw text up to the end of the name of its end tag
  abbrev front : Raw → List RawItem → ℕ → List ℕ → List Spelled
  front raw items first rest = spell_items exact raw [] items ++ name_cells exact (carried_after raw [] items) first rest

  record ReadsName (raw : Raw) (items : List RawItem) (first : ℕ) (rest : List ℕ) : Type 0 where
    kind : RawKind
    goes : Goes exact (Between (RawText raw name)) (front raw items first rest) (InRaw (InEndName kind (first ∷ rest)) name)

  -- the walk reads raw text up to the end of its end tag's name
  reads_name : (raw : Raw) (items : List RawItem) (first : ℕ) (rest : List ℕ) (parts : List Part) → IsEnded name raw items first rest parts → ReadsName raw items first rest
  reads_name raw items first rest parts ended =
      let r : ReadsItems exact name (Free raw) raw [] items = reads_items exact name (Free raw) items (one_tag.written (end_tag_of first rest parts)) ended.follow refl in
      let kind : RawKind = kind_of (raw_at r.afterwards) in
      let opened : Open = InRaw (InEndName kind (first ∷ rest)) name in
      record {
        kind = kind;
        goes =
            Goes-append exact (Between (RawText raw name)) (opened_at name r.afterwards) opened (spell_items exact raw [] items) (name_cells exact (carried_after raw [] items) first rest) r.goes
            (subst (λ before. Goes exact (opened_at name r.afterwards) (name_cells exact before first rest) opened) r.carried_is
            (goes-end_tag r.afterwards first rest (ap (λ later. is_double_escaped (kind_of later)) r.raw_is ∙ ended.single) ended.letters));
      }

  -- where the name of the end tag ends, the machine goes on as after the name of any tag
  pub step-end_name : (kind : RawKind) (letters : List ℕ) (c : ℕ) → ends_name c ≡ true → ends_raw_text name letters c ≡ true
      → step_at exact (InRaw (InEndName kind letters) name) c ≡ step_at exact (InTag InName (with_name (begun EndTag) letters)) c
  unfolding step_at raw_place_step end_name_step tag_name_end_step tag_step tag_name_step
  step-end_name kind letters c ends name_is = rw (end-no_letter exact name c ends, name_is, ends-no_name c ends) refl

-- ---- the messages

module _ {Q S H : Type 0} (means : Means Q S H) (rules : Rules) where
  -- where two places do the same at the next character, they tell the same
  trace-same : (s : S) (line : ℕ) (last : List ℕ) (a b : Open) (is_kind : ℕ → Bool) (text : List ℕ) → is_undecided_open a ≡ false → is_undecided_open b ≡ false
      → next_is is_kind text ≡ true → ((c : ℕ) → is_kind c ≡ true → step_at rules.exact a c ≡ step_at rules.exact b c)
      → trace means.step means.reply means.foreign rules s line last a text ≡ trace means.step means.reply means.foreign rules s line last b text
  unfolding trace
  trace-same s line last a b is_kind [] no_a no_b h same = absurd (false≢true h)
  trace-same s line last a b is_kind (c ∷ text) no_a no_b h same = rw (brought-step rules (means.foreign s) a c no_a, brought-step rules (means.foreign s) b c no_b, same c h) refl

  -- the sink keeps on after the end tag, if there is one
  abbrev pub KeepsOn : Option WrittenTag → Type 0
  KeepsOn end_tag = (tag : WrittenTag) (t : S) (line : ℕ) → end_tag ≡ Some tag → means.reply t (Tag (tag_told rules tag)) line ≡ KeepOn

  -- what a text tells, and what is open after it
  record Reads (K : Start) (s : S) (X : List ℕ) (raw : Raw) (items : List RawItem) (end_tag : Option WrittenTag) : Type 0 where
    afterwards : Open
    last : List ℕ
    trace_is : trace means.step means.reply means.foreign rules s (line_after K.input []) K.last_start_tag K.opened (normalised K.input X)
        ≡ record { messages = spelled_messages rules.exact K.input [] (spell_raw rules raw (record { items = items; end_tag = end_tag })); opened = afterwards; last_start_tag = last }
    end_is : tokens_at_end rules afterwards ≡ told_at_end rules.exact raw items end_tag

  -- the same where the last message is this tag, and the sink's reply to it says what is open after it
  abbrev IsReadByReply : Start → S → List ℕ → Raw → WrittenRaw → WrittenTag → Type 0
  IsReadByReply K s X raw written_as tag =
      let M : List Message = spelled_messages rules.exact K.input [] (spell_raw rules raw written_as) in
      let last : List ℕ = last_after K.last_start_tag (tag_told rules tag) in
      trace means.step means.reply means.foreign rules s (line_after K.input []) K.last_start_tag K.opened (normalised K.input X)
      ≡ record { messages = M; opened = open_after_reply last (last_reply means.step means.reply s M); last_start_tag = last }

  -- raw text without an end tag tells its messages
  reads_open : (K : Start) (s : S) (X : List ℕ) (raw : Raw) (name : List ℕ) (items : List RawItem)
      → IsRawText K X raw name (record { items = items; end_tag = None }) → Reads K s X raw items None
  unfolding is_raw written trace
  reads_open K s X raw name items one =
      let r : ReadsItems rules.exact name (Free raw) raw [] items = reads_items rules.exact name (Free raw) items [] (and_parts (can_follow name raw items []) true one.is_raw).0 refl in
      let cells : List Spelled = spell_items rules.exact raw [] items in
      record {
        afterwards = opened_at name r.afterwards;
        last = K.last_start_tag;
        trace_is =
            rw (one.starts, one.text, ← characters-items rules.exact raw [] items [], append-nil cells)
            (trace-goes means.step means.reply means.foreign rules K.input [] s K.last_start_tag (Between (RawText raw name)) (opened_at name r.afterwards) cells [] (decided-standing name r.afterwards) r.goes
            ∙ ap (λ l. record { messages = l; opened = opened_at name r.afterwards; last_start_tag = K.last_start_tag }) (append-nil (spelled_messages rules.exact K.input [] cells)));
        end_is =
            tokens-standing rules name r.afterwards
            ∙ ap (λ told. (told ++ raw_end_error rules.exact (end_from r.afterwards [] (raw_at r.afterwards))) ++ End ∷ []) r.carried_is
            ∙ ap (λ end. (carried_after raw [] items ++ raw_end_error rules.exact end) ++ End ∷ []) (sym r.end_is);
      }

  -- the end tag after items

  characters-tag : (before : List Told) (tag : WrittenTag) → characters (carried_to before (spelled rules tag)) ≡ one_tag.written tag
  unfolding spelled
  characters-tag before tag =
      characters-carried before (spelled rules tag)
      ∙ characters-append (body rules tag) (end_cell rules tag ∷ [])
      ∙ characters-body means rules tag

  -- the text of raw text with an end tag is what is spelled of it
  text-end_tag : (K : Start) (X : List ℕ) (raw : Raw) (name : List ℕ) (items : List RawItem) (first : ℕ) (rest : List ℕ) (parts : List Part)
      → IsRawText K X raw name (record { items = items; end_tag = Some (end_tag_of first rest parts) })
      → normalised K.input X ≡ characters (front rules.exact name raw items first rest) ++ (characters (spell_parts rules InName [] parts) ++ greater_than ∷ [])
  unfolding written
  text-end_tag K X raw name items first rest parts one =
      let tag : WrittenTag = end_tag_of first rest parts in
      let cells : List Spelled = spell_items rules.exact raw [] items in
      let before : List Told = carried_after raw [] items in
      let named : List Spelled = name_cells rules.exact before first rest in
      let tail : List Spelled = spell_parts rules InName [] parts in
      let ends : characters (tail ++ end_cell rules tag ∷ []) ≡ characters tail ++ greater_than ∷ [] = characters-append tail (end_cell rules tag ∷ []) in
      one.text
      ∙ sym (characters-items rules.exact raw [] items (one_tag.written tag))
      ∙ ap (λ l. characters cells ++ l) (sym (characters-tag before tag) ∙ ap characters (cells-end_tag rules before first rest parts) ∙ characters-two named (tail ++ end_cell rules tag ∷ []) (characters named) (characters tail ++ greater_than ∷ []) refl ends)
      ∙ sym (append_assoc (characters cells) (characters named) (characters tail ++ greater_than ∷ []))
      ∙ ap (λ l. l ++ (characters tail ++ greater_than ∷ [])) (sym (characters-append cells named))

  -- raw text up to the name of its end tag, and then a tag from its name on, up to its `>`
  record ReachesEnd (K : Start) (s : S) (X : List ℕ) (raw : Raw) (items : List RawItem) (first : ℕ) (rest : List ℕ) (parts : List Part) : Type 0 where
    before : List Spelled
    afterwards : Open
    passes : Passes means rules (InTag InName (with_name (begun EndTag) (first ∷ rest))) (spell_parts rules InName [] parts) afterwards (greater_than ∷ [])
    ends : step_at rules.exact afterwards greater_than ≡ TellsTag (end_errors rules (end_tag_of first rest parts)) (tag_told rules (end_tag_of first rest parts))
    cells_are : spelled_messages rules.exact K.input [] before
        ++ spelled_messages rules.exact K.input (characters before) (spell_parts rules InName [] parts ++ end_cell rules (end_tag_of first rest parts) ∷ [])
        ≡ spelled_messages rules.exact K.input [] (spell_raw rules raw (record { items = items; end_tag = Some (end_tag_of first rest parts) }))
    trace_is : trace means.step means.reply means.foreign rules s (line_after K.input []) K.last_start_tag K.opened (normalised K.input X)
        ≡ with_messages (spelled_messages rules.exact K.input [] before)
        (trace means.step means.reply means.foreign rules (stepped means.step s (spelled_messages rules.exact K.input [] before)) (line_after K.input (characters before)) K.last_start_tag
        (InTag InName (with_name (begun EndTag) (first ∷ rest))) (characters (spell_parts rules InName [] parts) ++ greater_than ∷ []))

  -- raw text with an end tag, up to the `>`
  reaches_end : (K : Start) (s : S) (X : List ℕ) (raw : Raw) (name : List ℕ) (items : List RawItem) (first : ℕ) (rest : List ℕ) (parts : List Part)
      → IsTable rules.references → IsRawText K X raw name (record { items = items; end_tag = Some (end_tag_of first rest parts) })
      → ReachesEnd K s X raw items first rest parts
  reaches_end K s X raw name items first rest parts table one =
      let tag : WrittenTag = end_tag_of first rest parts in
      let ended : IsEnded name raw items first rest parts = is_ended name raw items first rest parts one.is_raw in
      let r : ReadsName rules.exact name raw items first rest = reads_name rules.exact name raw items first rest parts ended in
      let before : List Spelled = front rules.exact name raw items first rest in
      let tail : List Spelled = spell_parts rules InName [] parts in
      let opened : Open = InRaw (InEndName r.kind (first ∷ rest)) name in
      let named : OpenTag = with_name (begun EndTag) (first ∷ rest) in
      let led : Led means rules EndTag (name_shown first rest) InName named tail (end_place tag) (all_attributes rules tag) (greater_than ∷ []) =
      passes-parts means rules EndTag (name_shown first rest) InName [] named parts (greater_than ∷ []) table.plain (Holds-none EndTag (name_shown first rest)) ended.parts_follow
      (λ needs. record { c = greater_than; more = []; parts = refl; stop = quote-stop Unquoted }) in
      let cells : before ++ (tail ++ end_cell rules tag ∷ []) ≡ spell_raw rules raw (record { items = items; end_tag = Some tag }) =
      append_assoc (spell_items rules.exact raw [] items) (name_cells rules.exact (carried_after raw [] items) first rest) (tail ++ end_cell rules tag ∷ [])
      ∙ ap (λ l. spell_items rules.exact raw [] items ++ l) (sym (cells-end_tag rules (carried_after raw [] items) first rest parts)) in
      let begins : next_is ends_name (characters tail ++ greater_than ∷ []) ≡ true =
      ap (λ l. next_is ends_name (l ++ greater_than ∷ [])) (characters-parts means rules InName [] parts) ∙ parts-end_name parts (greater_than ∷ []) ended.parts_follow (λ none. greater_than-ends) in
      let M : List Message = spelled_messages rules.exact K.input [] before in
      record {
        before = before;
        afterwards = InTag (end_place tag) led.afterwards;
        passes = led.passes;
        ends = ends-tag means rules tag led.afterwards (can_end-parts InName parts refl) led.holds;
        cells_are =
            sym (spelled_messages-append rules.exact K.input [] before (tail ++ end_cell rules tag ∷ []))
            ∙ ap (spelled_messages rules.exact K.input []) cells;
        trace_is =
            rw (one.starts, text-end_tag K X raw name items first rest parts one)
            (trace-goes means.step means.reply means.foreign rules K.input [] s K.last_start_tag (Between (RawText raw name)) opened before (characters tail ++ greater_than ∷ []) refl r.goes
            ∙ ap (with_messages M)
            (trace-same (stepped means.step s M) (line_after K.input (characters before)) K.last_start_tag opened (InTag InName named) ends_name (characters tail ++ greater_than ∷ []) refl refl begins
            (λ c ends. step-end_name rules.exact name r.kind (first ∷ rest) c ends (name_ends name first rest c ended.name_is ends))));
      }

  -- raw text with an end tag tells its messages
  reads_end_tag : (K : Start) (s : S) (X : List ℕ) (raw : Raw) (name : List ℕ) (items : List RawItem) (first : ℕ) (rest : List ℕ) (parts : List Part)
      → IsTable rules.references → ((t : S) (line : ℕ) → means.reply t (Tag (tag_told rules (end_tag_of first rest parts))) line ≡ KeepOn)
      → IsRawText K X raw name (record { items = items; end_tag = Some (end_tag_of first rest parts) })
      → Reads K s X raw items (Some (end_tag_of first rest parts))
  unfolding late_at_end_of open_at_end_of told_at_end_of
  reads_end_tag K s X raw name items first rest parts table keeps one =
      let tag : WrittenTag = end_tag_of first rest parts in
      let r : ReachesEnd K s X raw items first rest parts = reaches_end K s X raw name items first rest parts table one in
      let tail : List Spelled = spell_parts rules InName [] parts in
      let M : List Message = spelled_messages rules.exact K.input [] r.before in
      let N : List Message = spelled_messages rules.exact K.input (characters r.before) (tail ++ end_cell rules tag ∷ []) in
      let last : List ℕ = last_after K.last_start_tag (tag_told rules tag) in
      record {
        afterwards = Between Data;
        last = last;
        trace_is =
            r.trace_is
            ∙ ap (with_messages M)
            (trace-tag means rules K.input (characters r.before) (stepped means.step s M) K.last_start_tag (InTag InName (with_name (begun EndTag) (first ∷ rest))) r.afterwards tail (end_errors rules tag) (tag_told rules tag) r.passes r.ends)
            ∙ ap (λ a. record { messages = M ++ N; opened = open_after_reply last a; last_start_tag = last })
            (last_reply-keeps means.step means.reply means.foreign rules (stepped means.step s M) K.input (characters r.before) tail greater_than (end_errors rules tag) (tag_told rules tag) keeps)
            ∙ ap (λ l. record { messages = l; opened = Between Data; last_start_tag = last }) r.cells_are;
        end_is = refl;
      }

  -- the same, whatever the sink replies
  reads_end_tag_reply : (K : Start) (s : S) (X : List ℕ) (raw : Raw) (name : List ℕ) (items : List RawItem) (first : ℕ) (rest : List ℕ) (parts : List Part)
      → IsTable rules.references → IsRawText K X raw name (record { items = items; end_tag = Some (end_tag_of first rest parts) })
      → IsReadByReply K s X raw (record { items = items; end_tag = Some (end_tag_of first rest parts) }) (end_tag_of first rest parts)
  reads_end_tag_reply K s X raw name items first rest parts table one =
      let tag : WrittenTag = end_tag_of first rest parts in
      let r : ReachesEnd K s X raw items first rest parts = reaches_end K s X raw name items first rest parts table one in
      let tail : List Spelled = spell_parts rules InName [] parts in
      let M : List Message = spelled_messages rules.exact K.input [] r.before in
      let N : List Message = spelled_messages rules.exact K.input (characters r.before) (tail ++ end_cell rules tag ∷ []) in
      let last : List ℕ = last_after K.last_start_tag (tag_told rules tag) in
      r.trace_is
      ∙ ap (with_messages M)
      (trace-tag means rules K.input (characters r.before) (stepped means.step s M) K.last_start_tag (InTag InName (with_name (begun EndTag) (first ∷ rest))) r.afterwards tail (end_errors rules tag) (tag_told rules tag) r.passes r.ends)
      ∙ ap (λ a. record { messages = M ++ N; opened = open_after_reply last a; last_start_tag = last })
      (sym (last_reply-spelled means.step means.reply means.foreign rules s M K.input (characters r.before) tail greater_than (end_errors rules tag) (tag_told rules tag)))
      ∙ ap (λ l. record { messages = l; opened = open_after_reply last (last_reply means.step means.reply s l); last_start_tag = last }) r.cells_are

  reads_ended_reply : (K : Start) (s : S) (X : List ℕ) (raw : Raw) (name : List ℕ) (items : List RawItem) (kind : TagKind) (first : ℕ) (rest : List ℕ) (parts : List Part)
      → IsTable rules.references → IsRawText K X raw name (record { items = items; end_tag = Some (record { kind = kind; first = first; rest = rest; parts = parts }) })
      → IsReadByReply K s X raw (record { items = items; end_tag = Some (record { kind = kind; first = first; rest = rest; parts = parts }) }) (record { kind = kind; first = first; rest = rest; parts = parts })
  unfolding is_raw
  reads_ended_reply K s X raw name items StartTag first rest parts table one =
      let p = and_parts (can_follow name raw items (one_tag.written (record { kind = StartTag; first = first; rest = rest; parts = parts }))) _ one.is_raw in
      absurd (false≢true (and_parts (not (is_double_escaped (kind_of (raw_after_items raw items)))) false p.1).1)
  reads_ended_reply K s X raw name items EndTag first rest parts table one = reads_end_tag_reply K s X raw name items first rest parts table one

  pub reads_raw_reply : (K : Start) (s : S) (X : List ℕ) (raw : Raw) (name : List ℕ) (written_as : WrittenRaw) (tag : WrittenTag) → written_as.end_tag ≡ Some tag
      → IsTable rules.references → IsRawText K X raw name written_as → IsReadByReply K s X raw written_as tag
  reads_raw_reply K s X raw name written_as tag e table one =
      subst (λ o. IsReadByReply K s X raw (record { items = written_as.items; end_tag = o }) tag) (sym e)
      (reads_ended_reply K s X raw name written_as.items tag.kind tag.first tag.rest tag.parts table
      (subst (λ o. IsRawText K X raw name (record { items = written_as.items; end_tag = o })) e one))

  -- raw text without its end tag
  pub told-raw_open : (K : Start) (s : S) (X : List ℕ) (raw : Raw) (name : List ℕ) (written_as : WrittenRaw) → written_as.end_tag ≡ None → IsRawText K X raw name written_as
      → messages (told means.step means.reply means.foreign rules K s X) ≡ spelled_messages rules.exact K.input [] (spell_raw rules raw written_as)
  told-raw_open K s X raw name written_as e one =
      told-trace means.step means.reply means.foreign rules K s X
      ∙ ap (λ (t : Trace). t.messages)
      (reads_open K s X raw name written_as.items (subst (λ o. IsRawText K X raw name (record { items = written_as.items; end_tag = o })) e one)).trace_is
      ∙ ap (λ o. spelled_messages rules.exact K.input [] (spell_raw rules raw (record { items = written_as.items; end_tag = o }))) (sym e)

  -- what is sent of any raw text

  reads_ended : (K : Start) (s : S) (X : List ℕ) (raw : Raw) (name : List ℕ) (items : List RawItem) (kind : TagKind) (first : ℕ) (rest : List ℕ) (parts : List Part)
      → IsTable rules.references → ((t : S) (line : ℕ) → means.reply t (Tag (tag_told rules (record { kind = kind; first = first; rest = rest; parts = parts }))) line ≡ KeepOn)
      → IsRawText K X raw name (record { items = items; end_tag = Some (record { kind = kind; first = first; rest = rest; parts = parts }) })
      → Reads K s X raw items (Some (record { kind = kind; first = first; rest = rest; parts = parts }))
  unfolding is_raw
  reads_ended K s X raw name items StartTag first rest parts table keeps one =
      let p = and_parts (can_follow name raw items (one_tag.written (record { kind = StartTag; first = first; rest = rest; parts = parts }))) _ one.is_raw in
      absurd (false≢true (and_parts (not (is_double_escaped (kind_of (raw_after_items raw items)))) false p.1).1)
  reads_ended K s X raw name items EndTag first rest parts table keeps one = reads_end_tag K s X raw name items first rest parts table keeps one

  reads_raw : (K : Start) (s : S) (X : List ℕ) (raw : Raw) (name : List ℕ) (items : List RawItem) (end_tag : Option WrittenTag)
      → IsTable rules.references → KeepsOn end_tag → IsRawText K X raw name (record { items = items; end_tag = end_tag }) → Reads K s X raw items end_tag
  reads_raw K s X raw name items None table keeps one = reads_open K s X raw name items one
  reads_raw K s X raw name items (Some tag) table keeps one = reads_ended K s X raw name items tag.kind tag.first tag.rest tag.parts table (λ t line. keeps tag t line refl) one

  -- a text that is raw text, where the sink keeps on after the end tag
  pub reading-raw : (K : Start) (s : S) (X : List ℕ) (raw : Raw) (name : List ℕ) (written_as : WrittenRaw)
      → IsTable rules.references → KeepsOn written_as.end_tag → IsRawText K X raw name written_as
      → messages (reading means.step means.reply means.foreign rules K s X) ≡ raw_messages rules K.input raw written_as
  unfolding raw_messages
  reading-raw K s X raw name written_as table keeps one =
      let r : Reads K s X raw written_as.items written_as.end_tag = reads_raw K s X raw name written_as.items written_as.end_tag table keeps one in
      ap messages (reading-events means.step means.reply means.foreign rules K s X)
      ∙ messages-append (told means.step means.reply means.foreign rules K s X) _
      ∙ ap (λ M. messages (told means.step means.reply means.foreign rules K s X) ++ M) (messages-at_end means.step means.reply means.foreign rules K s X)
      ∙ rw (told-trace means.step means.reply means.foreign rules K s X, after-opened means.step means.reply means.foreign rules K s X, r.trace_is, r.end_is, one.text) refl
