-- Serialized raw text, with its end tag, is read again as its characters and the end tag.
use Rattle.std.proofs.Common.{◌≡◌, ℕ, ◌≤◌, ◌<◌, Bool, true, false, List, [], ◌∷◌, ◌++◌, Some, refl, ap, sym, ◌∙◌, subst, ⊎_elim, arith}
use Rattle.std.specs.Prelude.{All, ◌==◌, ◌||◌, ◌&&◌, not, nat_eq, chars, codes, encode_utf8_all}
use Rattle.std.specs.Char.{to_ascii_lowercase}
use Rattle.std.specs.List.{list_all}
use Rattle.std.specs.Str.{IsAscii, IsUtf8, bytes_eq}
use Rattle.std.specs.Cmp.Lexicographic.{bytes_decides}
use Rattle.std.proofs.lemmas.List.{append_assoc}
use Rattle.html5ever_interface.specs.Token.{Told}
use Rattle.html5ever_interface.specs.declared.interface.token.TagKind.{TagKind}
use Rattle.html5ever_interface.specs.declared.interface.token.TagKind.TheVariants.{StartTag, EndTag}
use Rattle.std.proofs.Math.Bool.{and-false, and-true}
use Rattle.std.proofs.lemmas.Bool.{and_parts, not-true, false≢true, cases_lt}
use Rattle.std.proofs.lemmas.Bool.Decides.{nat_tests}
use Rattle.std.proofs.lemmas.Str.{encode_ascii, encodes-chars, IsUtf8-from_ascii, chars-IsAscii}
use Rattle.std.proofs.lemmas.Str.Ascii.{IsAscii-from_all}
use Rattle.std.proofs.lemmas.List.Elements.{All-nil, All-cons}
use Rattle.html5ever_interface.specs.Sink.{Means, Message}
use Rattle.html5ever_interface.specs.Token.Told.{Tag}
use Rattle.html5ever_interface.specs.declared.states.RawKind.TheVariants as raw_kind
use Rattle.html5reading.specs.Characters.{null, less_than, solidus, carriage_return, is_between, is_letter, is_white_space, name_bytes, shown, greater_than}
use Rattle.html5reading.specs.NormalisedText.{normalised, without_dropped_first, with_line_feeds}
use Rattle.html5reading.specs.RawText.{ends_name, lower, kind_of, texts}
use Rattle.html5reading.specs.Reading.{last_after, open_after_reply}
use Rattle.html5reading.specs.Start.{Input, Raw, Start, Rules, Open}
use Rattle.html5reading.specs.Start.Mode.{RawText}
use Rattle.html5reading.specs.Start.Open.{Between}
use Rattle.html5grammar.specs.Anywhere.{TellsByItself, start_after_tag, last_reply}
use Rattle.html5grammar.specs.Comment.{occurs}
use Rattle.html5grammar.specs.RawText.{RawItem, WrittenRaw, IsRawText, is_double_escaped, can_end_with, can_follow, has_item, is_raw, raw_after_items, spell_raw, spell_items, carried_to, carried_after, written}
use Rattle.html5grammar.specs.Spelled.{Spelled, spell_silent, spelled_messages}
use Rattle.html5grammar.specs.Tag as one_tag
use Rattle.html5grammar.specs.Tag.{WrittenTag, tag_told, spelled, body, end_errors}
use Rattle.html5grammar.proofs.ByItself.{trace-by_itself}
use Rattle.html5grammar.proofs.LastReply.{last_reply-says}
use Rattle.html5grammar.proofs.RawText.Reading.{reads_raw_reply}
use Rattle.markup5ever.specs.NamedReferences.{IsTable}
use Rattle.html5serialize.specs.RawTexts.{IsOpenRaw, ReadsRaw, end_tag_of, end_text, begins_end, begins_name, has_end, has_start, may_hide, is_plain_text, is_raw_name, can_write_raw}
use Rattle.html5serialize.specs.Tags.{are_distinct}
use Rattle.html5serialize.specs.declared.escaping.Escapes.TheVariants.{Numbers}
use Rattle.html5serialize.proofs.Errors.{proper_cells, proper-spelled}
use Rattle.html5serialize.proofs.RawItems.{Where, Back, raw_at, allows, back}
use Rattle.html5serialize.proofs.RawItems.Where.{InStyle, InScript}
use Rattle.html5serialize.proofs.RawItems.Pending.{Outside}
use Rattle.html5serialize.proofs.Utf8Bytes.{AreHigh, High, high-encode, other, all-chars, occurs-chars}
use Rattle.html5serialize.proofs.MarkupBack.{no_null-comment, no_return-comment, high-comment}
use Rattle.html5serialize.proofs.NamedValues.{shows-numbers}
use Rattle.html5serialize.proofs.TagBack.{IsTagBack, named, tag-back}
use Rattle.html5serialize.proofs.TagTokens.{cells-tag}
use Rattle.html5write.specs.Pieces.{is_comment_character, is_name_character, is_tag_name}
use Rattle.html5write.specs.Told.{has_no_return, proper}
use Rattle.html5write.proofs.Names.{small-letter}
use Rattle.html5write.proofs.Values.{no_return-append}

-- ---- names

letters-name : (name : List ℕ) → list_all (is_between 0x0061 0x007A) name ≡ true → list_all is_letter name ≡ true
letters-name [] h = refl
letters-name (c ∷ name) h =
    let p = and_parts (is_between 0x0061 0x007A c) (list_all (is_between 0x0061 0x007A) name) h in
    rw ((small-letter c p.0).letter) (letters-name name p.1)

names-name : (name : List ℕ) → list_all (is_between 0x0061 0x007A) name ≡ true → list_all is_name_character name ≡ true
names-name [] h = refl
names-name (c ∷ name) h =
    let p = and_parts (is_between 0x0061 0x007A c) (list_all (is_between 0x0061 0x007A) name) h in
    rw ((small-letter c p.0).name) (names-name name p.1)

small-bytes : (c : ℕ) → is_between 0x0061 0x007A c ≡ true → name_bytes c ≡ c ∷ []
unfolding name_bytes shown
small-bytes c h =
    let other : (c == null) ≡ false = grind (arith, nat_tests) in
    let same : to_ascii_lowercase c ≡ c = grind (arith, nat_tests) in
    let low : c < 128 = grind (arith, nat_tests) in
    rw (other, same) (encode_ascii c low)

lower-name : (name : List ℕ) → list_all (is_between 0x0061 0x007A) name ≡ true → lower name ≡ name
lower-name [] h = refl
lower-name (c ∷ name) h =
    let p = and_parts (is_between 0x0061 0x007A c) (list_all (is_between 0x0061 0x007A) name) h in
    rw (small-bytes c p.0) (ap (λ l. c ∷ l) (lower-name name p.1))

encodes-name : (name : List ℕ) → list_all (is_between 0x0061 0x007A) name ≡ true → encode_utf8_all name ≡ name
encodes-name [] h = refl
encodes-name (c ∷ name) h =
    let p = and_parts (is_between 0x0061 0x007A c) (list_all (is_between 0x0061 0x007A) name) h in
    let low : c < 128 = grind (arith, nat_tests) in
    rw (encode_ascii c low) (ap (λ l. c ∷ l) (encodes-name name p.1))

-- what is known of the name of an element with raw text
pub record IsRawName (name : List ℕ) : Type 0 where
  pub letters : list_all (is_between 0x0061 0x007A) name ≡ true
  pub tag : is_tag_name name ≡ true
  pub utf8 : IsUtf8 name
  pub same : chars name ≡ name

ascii-all : (name : List ℕ) → list_all (is_between 0x0061 0x007A) name ≡ true → All (λ b. b < 128) name
ascii-all [] h = All-nil (λ b. b < 128)
ascii-all (c ∷ name) h =
    let p = and_parts (is_between 0x0061 0x007A c) (list_all (is_between 0x0061 0x007A) name) h in
    let low : c < 128 = grind (arith, nat_tests) in
    All-cons (λ b. b < 128) c name low (ascii-all name p.1)

pub raw-name : (name : List ℕ) → is_raw_name name ≡ true → IsRawName name
unfolding is_raw_name is_tag_name
raw-name [] h = absurd (false≢true h)
raw-name (c ∷ name) h =
    let p = and_parts (is_between 0x0061 0x007A c) (list_all (is_between 0x0061 0x007A) name) h in
    let ascii : IsAscii (c ∷ name) = IsAscii-from_all (c ∷ name) (ascii-all (c ∷ name) h) in
    record { letters = h; tag = rw (p.0) (names-name name p.1); utf8 = IsUtf8-from_ascii (c ∷ name) ascii; same = chars-IsAscii (c ∷ name) ascii }

-- ---- end tags, by bytes and by characters

high-ends : (b : ℕ) → 128 ≤ b → ends_name b ≡ false
unfolding ends_name is_white_space
high-ends b h = grind (arith, nat_tests)

high-lower : (b n : ℕ) → 128 ≤ b → is_between 0x0061 0x007A n ≡ true → (to_ascii_lowercase b == n) ≡ false
high-lower b n h g = grind (arith, nat_tests)

begins_name-encodes : (name cs : List ℕ) → list_all (is_between 0x0061 0x007A) name ≡ true → begins_name name (encode_utf8_all cs) ≡ begins_name name cs
unfolding begins_name
begins_name-encodes [] [] h = refl
begins_name-encodes (n ∷ name) [] h = refl
begins_name-encodes [] (c ∷ cs) h =
    ⊎_elim
    (λ (a : c < 128). ap (λ l. begins_name [] (l ++ encode_utf8_all cs)) (encode_ascii c a))
    (λ (a : 128 ≤ c).
    let e : High c = high-encode c a in
    ap (λ l. begins_name [] (l ++ encode_utf8_all cs)) e.is ∙ high-ends e.first e.high ∙ sym (high-ends c a))
    (cases_lt c 128)
begins_name-encodes (n ∷ name) (c ∷ cs) h =
    let p = and_parts (is_between 0x0061 0x007A n) (list_all (is_between 0x0061 0x007A) name) h in
    ⊎_elim
    (λ (a : c < 128).
    ap (λ l. begins_name (n ∷ name) (l ++ encode_utf8_all cs)) (encode_ascii c a)
    ∙ ap (λ b. (to_ascii_lowercase c == n) && b) (begins_name-encodes name cs p.1))
    (λ (a : 128 ≤ c).
    let e : High c = high-encode c a in
    ap (λ l. begins_name (n ∷ name) (l ++ encode_utf8_all cs)) e.is
    ∙ rw (high-lower e.first n e.high p.0, high-lower c n a p.0) refl)
    (cases_lt c 128)

and-three : (a b d : Bool) → ((a && b) && d) ≡ (a && (b && d))
and-three true b d = refl
and-three false b d = refl

-- the same after a `<`
after_less : List ℕ → List ℕ → Bool
after_less name [] = false
after_less name (d ∷ text) = nat_eq solidus d && begins_name name text

less-end : (name : List ℕ) (c : ℕ) (text : List ℕ) → begins_end name (c ∷ text) ≡ nat_eq less_than c && after_less name text
unfolding after_less
less-end name c [] = ap (λ b. b && begins_name name []) (and-false (nat_eq less_than c)) ∙ sym (and-false (nat_eq less_than c))
less-end name c (d ∷ text) = rw (and-true (nat_eq solidus d)) (and-three (nat_eq less_than c) (nat_eq solidus d) (begins_name name text))

after_less-encodes : (name cs : List ℕ) → list_all (is_between 0x0061 0x007A) name ≡ true → after_less name (encode_utf8_all cs) ≡ after_less name cs
unfolding after_less
after_less-encodes name [] h = refl
after_less-encodes name (d ∷ cs) h =
    ⊎_elim
    (λ (a : d < 128).
    ap (λ l. after_less name (l ++ encode_utf8_all cs)) (encode_ascii d a) ∙ ap (λ b. nat_eq solidus d && b) (begins_name-encodes name cs h))
    (λ (a : 128 ≤ d).
    let e : High d = high-encode d a in
    ap (λ l. after_less name (l ++ encode_utf8_all cs)) e.is ∙ rw (other solidus e.first refl e.high, other solidus d refl a) refl)
    (cases_lt d 128)

has_end-high : (name high rest : List ℕ) → AreHigh high → has_end name (high ++ rest) ≡ has_end name rest
unfolding has_end
has_end-high name [] rest all = refl
has_end-high name (b ∷ high) rest all =
    ap (λ t. t || has_end name (high ++ rest)) (less-end name b (high ++ rest) ∙ ap (λ t. t && after_less name (high ++ rest)) (other less_than b refl all.0))
    ∙ has_end-high name high rest all.1

has_end-encodes : (name cs : List ℕ) → list_all (is_between 0x0061 0x007A) name ≡ true → has_end name (encode_utf8_all cs) ≡ has_end name cs
unfolding has_end
has_end-encodes name [] h = refl
has_end-encodes name (c ∷ cs) h =
    ⊎_elim
    (λ (a : c < 128).
    ap (λ l. has_end name (l ++ encode_utf8_all cs)) (encode_ascii c a)
    ∙ ap (λ b. b || has_end name (encode_utf8_all cs))
    (less-end name c (encode_utf8_all cs) ∙ ap (λ b. nat_eq less_than c && b) (after_less-encodes name cs h) ∙ sym (less-end name c cs))
    ∙ ap (λ b. begins_end name (c ∷ cs) || b) (has_end-encodes name cs h))
    (λ (a : 128 ≤ c).
    let e : High c = high-encode c a in
    ap (λ l. has_end name (l ++ encode_utf8_all cs)) e.is
    ∙ has_end-high name (e.first ∷ e.more) (encode_utf8_all cs) (e.high, e.all)
    ∙ has_end-encodes name cs h
    ∙ sym (ap (λ b. b || has_end name cs) (less-end name c cs ∙ ap (λ b. b && after_less name cs) (other less_than c refl a))))
    (cases_lt c 128)

has_end-chars : (name text : List ℕ) → list_all (is_between 0x0061 0x007A) name ≡ true → IsUtf8 text → has_end name text ≡ false → has_end name (chars text) ≡ false
has_end-chars name text h utf8 none = sym (has_end-encodes name (chars text) h) ∙ ap (has_end name) (encodes-chars text utf8) ∙ none

other-less : (b : ℕ) → 128 ≤ b → (b == less_than) ≡ false
other-less b h = grind (arith, nat_tests)

has_start-high : (name high rest : List ℕ) → AreHigh high → has_start name (high ++ rest) ≡ has_start name rest
unfolding has_start
has_start-high name [] rest all = refl
has_start-high name (b ∷ high) rest all =
    ap (λ t. (t && begins_name name (high ++ rest)) || has_start name (high ++ rest)) (other-less b all.0) ∙ has_start-high name high rest all.1

has_start-encodes : (name cs : List ℕ) → list_all (is_between 0x0061 0x007A) name ≡ true → has_start name (encode_utf8_all cs) ≡ has_start name cs
unfolding has_start
has_start-encodes name [] h = refl
has_start-encodes name (c ∷ cs) h =
    ⊎_elim
    (λ (a : c < 128).
    ap (λ l. has_start name (l ++ encode_utf8_all cs)) (encode_ascii c a)
    ∙ ap (λ b. ((c == less_than) && b) || has_start name (encode_utf8_all cs)) (begins_name-encodes name cs h)
    ∙ ap (λ b. ((c == less_than) && begins_name name cs) || b) (has_start-encodes name cs h))
    (λ (a : 128 ≤ c).
    let e : High c = high-encode c a in
    ap (λ l. has_start name (l ++ encode_utf8_all cs)) e.is
    ∙ has_start-high name (e.first ∷ e.more) (encode_utf8_all cs) (e.high, e.all)
    ∙ has_start-encodes name cs h
    ∙ sym (ap (λ b. (b && begins_name name cs) || has_start name cs) (other-less c a)))
    (cases_lt c 128)

may_hide-chars : (text : List ℕ) → IsUtf8 text → may_hide (chars text) ≡ may_hide text
may_hide-chars text utf8 =
    ap (λ b. b && has_start (codes "script") (chars text)) (occurs-chars less_than (codes "!--") text refl utf8)
    ∙ ap (λ b. occurs (codes "<!--") text && b)
    (sym (has_start-encodes (codes "script") (chars text) refl) ∙ ap (has_start (codes "script")) (encodes-chars text utf8))

-- ---- how it comes in

with_line_feeds-none : (text : List ℕ) → has_no_return text ≡ true → with_line_feeds false text ≡ text
unfolding with_line_feeds
with_line_feeds-none [] h = refl
with_line_feeds-none (c ∷ text) h =
    let p = and_parts (not (c == carriage_return)) (has_no_return text) h in
    rw (not-true (c == carriage_return) p.0) (ap (λ l. c ∷ l) (with_line_feeds-none text p.1))

pub normalised-raw : (input : Input) (text : List ℕ) → input.after_carriage_return ≡ false → input.drops_byte_order_mark ≡ false → has_no_return text ≡ true → normalised input text ≡ text
unfolding normalised without_dropped_first
normalised-raw input [] a m h = with_line_feeds-none [] h
normalised-raw input (c ∷ text) a m h = rw (a, m) (with_line_feeds-none (c ∷ text) h)

-- ---- the end tag of the grammar

same-bytes : (text : List ℕ) → bytes_eq text text ≡ true
same-bytes text = (bytes_decides text text).1 refl

pub named-ends : (name : List ℕ) (parts : List one_tag.Part) → list_all (is_between 0x0061 0x007A) name ≡ true → is_tag_name name ≡ true → (raw : Raw) → is_double_escaped (kind_of raw) ≡ false
    → one_tag.is_written (named EndTag name parts) ≡ true → can_end_with name raw (Some (named EndTag name parts)) ≡ true
unfolding is_tag_name
named-ends [] parts letters tag raw single written = absurd (false≢true tag)
named-ends (c ∷ name) parts letters tag raw single written =
    let p = and_parts (is_between 0x0061 0x007A c) (list_all (is_between 0x0061 0x007A) name) letters in
    rw (single, letters-name name p.1, lower-name (c ∷ name) letters, same-bytes (c ∷ name)) written

-- the end tag that is written
pub record IsEndTag (rules : Rules) (name : List ℕ) : Type 0 where
  pub text : one_tag.written (named EndTag name []) ≡ end_text name
  pub told : tag_told rules (named EndTag name []) ≡ end_tag_of name
  pub ends : (raw : Raw) → is_double_escaped (kind_of raw) ≡ false → can_end_with name raw (Some (named EndTag name [])) ≡ true
  pub no_return : has_no_return (end_text name) ≡ true

pub end-tag : (rules : Rules) (name : List ℕ) → IsRawName name → IsEndTag rules name
unfolding are_distinct
end-tag rules name n =
    let back : IsTagBack Numbers rules (end_tag_of name) = tag-back Numbers rules (end_tag_of name) (shows-numbers rules) n.utf8 tt (rw n.tag refl) in
    let same : named EndTag (chars name) [] ≡ named EndTag name [] = ap (λ cs. named EndTag cs []) n.same in
    record {
      text = sym (ap one_tag.written same) ∙ back.text ∙ ap end_text n.same;
      told = sym (ap (tag_told rules) same) ∙ back.told;
      ends = λ raw single. named-ends name [] n.letters n.tag raw single (sym (ap one_tag.is_written same) ∙ back.is_written);
      no_return = ap (λ cs. has_no_return (cs ++ codes ">")) (sym n.same) ∙ back.no_return;
    }

-- ---- raw text that is written as it is

has-item : (items : List RawItem) (tag : WrittenTag) → has_item items (Some tag) ≡ true
has-item [] tag = refl
has-item (item ∷ items) tag = refl

-- characters of which there is one
pub record HasFirst (cells : List Spelled) : Type 0 where
  pub here : Spelled
  pub more : List Spelled
  pub is : cells ≡ here ∷ more

first-more : (xs ys : List Spelled) → HasFirst xs → HasFirst (xs ++ ys)
first-more xs ys h = record { here = h.here; more = h.more ++ ys; is = ap (λ l. l ++ ys) h.is }

first-opening : (kind : TagKind) → HasFirst (spell_silent (one_tag.opening kind))
first-opening StartTag = record { here = record { character = less_than; told = [] }; more = []; is = refl }
first-opening EndTag = record { here = record { character = less_than; told = [] }; more = spell_silent (solidus ∷ []); is = refl }

first-body : (rules : Rules) (tag : WrittenTag) → HasFirst (body rules tag)
first-body rules tag = first-more (spell_silent (one_tag.opening tag.kind)) _ (first-opening tag.kind)

pub first-tag : (rules : Rules) (tag : WrittenTag) → HasFirst (spelled rules tag)
unfolding spelled
first-tag rules tag = first-more (one_tag.body rules tag) _ (first-more (spell_silent (one_tag.opening tag.kind)) _ (first-opening tag.kind))

-- items, and then a tag to whose first character the rest is carried
told-raw : (rules : Rules) (name rest : List ℕ) (w : Where) (T : List ℕ) (b : Back rules.exact name rest w T) (tag : WrittenTag)
    → proper_cells (spell_raw rules (raw_at w) (record { items = b.items; end_tag = Some tag })) ≡ texts T ++ Tag (tag_told rules tag) ∷ []
told-raw rules name rest w T b tag =
    let first : HasFirst (spelled rules tag) = first-tag rules tag in
    ap (λ cells. proper_cells (spell_items rules.exact (raw_at w) [] b.items ++ carried_to (carried_after (raw_at w) [] b.items) cells)) first.is
    ∙ b.told [] first.here first.more
    ∙ ap (λ cells. texts T ++ proper_cells cells) (sym first.is)
    ∙ ap (λ l. texts T ++ l) (cells-tag rules tag)

module _ {X S H : Type 0} (means : Means X S H) (rules : Rules) where
  -- what each reply to a tag opens, its reply opens if the tag is emitted last
  pub last-says : (opened : Open) (last : List ℕ) (s : S) (input : Input) (cells : List Spelled) (before : List Told) (tag : WrittenTag)
      → ((t : S) (line : ℕ) → open_after_reply last (means.reply t (Tag (tag_told rules tag)) line) ≡ opened)
      → open_after_reply last (last_reply means.step means.reply s (spelled_messages rules.exact input [] (cells ++ carried_to before (spelled rules tag)))) ≡ opened
  unfolding spelled
  last-says opened last s input cells before tag says =
      let first : HasFirst (body rules tag) = first-body rules tag in
      let front : Spelled = record { character = first.here.character; told = before ++ first.here.told } in
      let cell : Spelled = record { character = greater_than; told = end_errors rules tag ++ Tag (tag_told rules tag) ∷ [] } in
      subst (λ l. open_after_reply last (last_reply means.step means.reply s (spelled_messages rules.exact input [] l)) ≡ opened)
      (append_assoc cells (front ∷ first.more) (cell ∷ []) ∙ ap (λ b. cells ++ carried_to before (b ++ cell ∷ [])) (sym first.is))
      (last_reply-says means.step means.reply means.foreign rules (λ r. open_after_reply last r ≡ opened) s input [] (cells ++ (front ∷ first.more)) greater_than (end_errors rules tag)
      (tag_told rules tag) says)

  -- the text and its end tag, where the text is written as it is
  record Plain (K : Start) (s : S) (name T : List ℕ) : Type 0 where
    messages : List Message
    tells : TellsByItself means rules K s (T ++ end_text name) messages (start_after_tag means K s (T ++ end_text name) (end_tag_of name) messages)
    exactly : proper messages ≡ texts T ++ Tag (end_tag_of name) ∷ []
    opens : (opened : Open) → ((t : S) (line : ℕ) → open_after_reply K.last_start_tag (means.reply t (Tag (end_tag_of name)) line) ≡ opened)
        → open_after_reply K.last_start_tag (last_reply means.step means.reply s messages) ≡ opened

  -- its conditions
  record CanBe (K : Start) (w : Where) (name text : List ℕ) : Type 0 where
    starts : K.opened ≡ Between (RawText (raw_at w) name)
    no_break : K.input.after_carriage_return ≡ false
    no_mark : K.input.drops_byte_order_mark ≡ false
    named : IsRawName name
    utf8 : IsUtf8 text
    plain : is_plain_text name text ≡ true
    allow : allows w (chars text) ≡ true

  plain-back : (K : Start) (s : S) (w : Where) (name text : List ℕ) → IsTable rules.references → CanBe K w name text → Plain K s name (chars text)
  unfolding is_raw written
  plain-back K s w name text table can =
      let T : List ℕ = chars text in
      let rest : List ℕ = solidus ∷ name ++ codes ">" in
      let q = and_parts (list_all is_comment_character text) (not (has_end name text)) can.plain in
      let characters : list_all is_comment_character T ≡ true = all-chars is_comment_character high-comment text can.utf8 q.0 in
      let tag : WrittenTag = named EndTag name [] in
      let end : IsEndTag rules name = end-tag rules name can.named in
      let b : Back rules.exact name rest w T = back rules.exact name rest w Outside T (record {
        no_end = has_end-chars name text can.named.letters can.utf8 (not-true (has_end name text) q.1);
        allow = can.allow;
        no_null = no_null-comment T characters;
      }) tt in
      let raw : Raw = raw_at w in
      let Y : List ℕ = T ++ end_text name in
      let raw_written : WrittenRaw = record { items = b.items; end_tag = Some tag } in
      let follows : can_follow name raw b.items (one_tag.written tag) ≡ true = ap (can_follow name raw b.items) end.text ∙ b.follows in
      let ends : can_end_with name (raw_after_items raw b.items) (Some tag) ≡ true = end.ends (raw_after_items raw b.items) b.single in
      let one : IsRawText K Y raw name raw_written = record {
        starts = can.starts;
        some = has-item b.items tag;
        is_raw = rw (follows) ends;
        text =
            normalised-raw K.input Y can.no_break can.no_mark (no_return-append T (end_text name) (no_return-comment T characters) end.no_return)
            ∙ sym (b.text (one_tag.written tag) ∙ ap (λ l. T ++ l) end.text);
      } in
      let M : List Message = spelled_messages rules.exact K.input [] (spell_raw rules raw raw_written) in
      record {
        messages = M;
        tells =
            subst (λ t. TellsByItself means rules K s Y M (start_after_tag means K s Y t M)) end.told
            (trace-by_itself means rules K s Y M (open_after_reply (last_after K.last_start_tag (tag_told rules tag)) (last_reply means.step means.reply s M)) (last_after K.last_start_tag (tag_told rules tag))
            (reads_raw_reply means rules K s Y raw name raw_written tag refl table one));
        exactly =
            proper-spelled rules.exact K.input [] (spell_raw rules raw raw_written)
            ∙ told-raw rules name rest w T b tag
            ∙ ap (λ t. texts T ++ Tag t ∷ []) end.told;
        opens = λ opened says.
            last-says opened K.last_start_tag s K.input (spell_items rules.exact raw [] b.items) (carried_after raw [] b.items) tag
            (λ t line. ap (λ g. open_after_reply K.last_start_tag (means.reply t (Tag g) line)) end.told ∙ says t line);
      }

  pub plain-raw : (K : Start) (s : S) (name text : List ℕ) → IsTable rules.references → IsOpenRaw K raw_kind.Rawtext name → IsUtf8 text → can_write_raw raw_kind.Rawtext name text ≡ true
      → ReadsRaw means rules K s raw_kind.Rawtext name text
  unfolding can_write_raw
  plain-raw K s name text table here utf8 can =
      let p = and_parts (is_raw_name name) (is_plain_text name text) can in
      let b : Plain K s name (chars text) = plain-back K s InStyle name text table (record {
        starts = here.starts;
        no_break = here.no_break;
        no_mark = here.no_mark;
        named = raw-name name p.0;
        utf8 = utf8;
        plain = p.1;
        allow = refl;
      }) in
      record { messages = b.messages; tells = b.tells; exactly = b.exactly; opens = b.opens }

  pub script-raw : (K : Start) (s : S) (name text : List ℕ) → IsTable rules.references → IsOpenRaw K raw_kind.ScriptData name → IsUtf8 text → can_write_raw raw_kind.ScriptData name text ≡ true
      → ReadsRaw means rules K s raw_kind.ScriptData name text
  unfolding can_write_raw
  script-raw K s name text table here utf8 can =
      let p = and_parts (is_raw_name name) (is_plain_text name text && not (may_hide text)) can in
      let m = and_parts (is_plain_text name text) (not (may_hide text)) p.1 in
      let b : Plain K s name (chars text) = plain-back K s InScript name text table (record {
        starts = here.starts;
        no_break = here.no_break;
        no_mark = here.no_mark;
        named = raw-name name p.0;
        utf8 = utf8;
        plain = m.0;
        allow = ap not (may_hide-chars text utf8) ∙ m.1;
      }) in
      record { messages = b.messages; tells = b.tells; exactly = b.exactly; opens = b.opens }
