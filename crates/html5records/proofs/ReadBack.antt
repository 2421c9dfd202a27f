-- What was written is read back.
use Rattle.std.proofs.Common.{◌≡◌, ℕ, suc, ◌+◌, ◌<◌, ◌^◌, Bool, true, false, List, [], ◌∷◌, ◌++◌, length, length-append, Option, None, Some, is_some, nat_le, nat_lt, ◌==◌, position, drop, zero-add, All, refl, ap, sym, ◌∙◌, arith}
use Rattle.std.proofs.lemmas.Bool.{le-leb, ne_eqb}
use Rattle.std.proofs.lemmas.Iterator.Adapters.{position_from-zero}
use Rattle.std.proofs.lemmas.List.{append_assoc, drop-drop}
use Rattle.std.proofs.lemmas.Nat.{from_le_bytes-to_le_bytes_8}
use Rattle.std.proofs.Math.Seq.{take-append_seam, drop-append_seam}
use Rattle.std.specs.Int.{w64, to_le_bytes}
use Rattle.std.specs.List.{flat_map, position_from}
use Rattle.markup5ever.specs.Names.{AttributeOf}
use Rattle.html5ever_interface.specs.Sink.{Message}
use Rattle.html5ever_interface.specs.Token.{Told, TagOf, DoctypeOf, is_text}
use Rattle.html5ever_interface.specs.Token.Told.{Text, Null, Error, Tag, Comment, Instruction, Doctype, End}
use Rattle.html5ever_interface.specs.declared.interface.token.TagKind.{TagKind}
use Rattle.html5ever_interface.specs.declared.interface.token.TagKind.TheVariants.{StartTag, EndTag}
use Rattle.html5records.specs.Records.{number, counted, flag, attribute_record, attribute_records, tag_flags, doctype_flags, optional, tag_parts, doctype_parts, parts, tag_code, code_of, heading, record_of, records_of, heading_of, text_end}
use Rattle.html5records.proofs.Written.{heading_of-other}
use Rattle.html5records.specs.Reading.{read_number, split_off, read_counted, read_text, read_text_record, read_other_record, HasLine, read_attribute, attributes_in, after_attributes, read_flags, has_flag, read_tag, read_optional, read_doctype, text_token, read_text_token, read_parts, read_record, IsShort, IsShortIfAny, IsRecordable, IsTagToldWhole, IsDoctypeToldWhole, IsToldWhole, IsWhole}

read_number-number : (n : ℕ) (rest : List ℕ) → n < 2 ^ 64 → read_number (number n ++ rest) ≡ Some (n, rest)
unfolding read_number number
read_number-number n rest fits =
    let long : nat_le 8 (length (to_le_bytes w64 n ++ rest)) ≡ true = le-leb 8 _ (omega arith) in
    rw long (ap (λ (k : ℕ). Some (k, rest)) (from_le_bytes-to_le_bytes_8 n fits))

split_off-append : (text rest : List ℕ) → split_off (length text) (text ++ rest) ≡ Some (text, rest)
unfolding split_off
split_off-append text rest =
    let long : nat_le (length text) (length (text ++ rest)) ≡ true = le-leb _ _ (omega (arith, length-append text rest)) in
    rw (long, take-append_seam text rest, drop-append_seam text rest) refl

read_counted-counted : (text rest : List ℕ) → IsShort text → read_counted (counted text ++ rest) ≡ Some (text, rest)
unfolding read_counted counted
read_counted-counted text rest short =
    rw (append_assoc (number (length text)) text rest, read_number-number (length text) (text ++ rest) short) (split_off-append text rest)

read_attribute-record : (attribute : AttributeOf) (rest : List ℕ) → IsRecordable attribute → read_attribute (attribute_record attribute ++ rest) ≡ Some (attribute, rest)
unfolding read_attribute attribute_record
read_attribute-record attribute rest fits =
    let local : List ℕ = attribute.name.local in
    let value : List ℕ = attribute.value in
    rw (append_assoc (counted local) (counted value) rest, read_counted-counted local (counted value ++ rest) fits.local, read_counted-counted value rest fits.value)
    (ap (λ n. Some (record attribute { name = n }, rest)) (sym fits.plain))

-- a text up to its end

position_from-text : (text rest : List ℕ) (i : ℕ) → All (λ b. b < text_end) text → position_from (λ b. b == text_end) i (text ++ text_end ∷ rest) ≡ Some (i + length text)
position_from-text [] rest i low = let e : i + 0 ≡ i = omega arith in rw e refl
position_from-text (b ∷ text) rest i low =
    let first : b < 255 = low 0 b (omega arith) in
    let other : (b == 255) ≡ false = ne_eqb b 255 (omega arith) in
    let e : i + suc (length text) ≡ (i + 1) + length text = omega arith in
    rw (other, e) (position_from-text text rest (i + 1) (λ k d within. low (suc k) d (omega arith)))

read_text-text : (text rest : List ℕ) → All (λ b. b < text_end) text → read_text (text ++ text_end ∷ rest) ≡ Some (text, rest)
unfolding read_text
read_text-text text rest low =
    let at : position (λ b. b == text_end) (text ++ text_end ∷ rest) ≡ Some (length text) =
    position_from-zero (λ b. b == text_end) (text ++ text_end ∷ rest) ∙ position_from-text text rest 0 low ∙ ap (λ (n : ℕ). Some n) (zero-add (length text)) in
    let after : drop (length text + 1) (text ++ text_end ∷ rest) ≡ rest = sym (drop-drop 1 (length text) (text ++ text_end ∷ rest)) ∙ ap (drop 1) (drop-append_seam text (text_end ∷ rest)) in
    rw at (ap (λ (r : List ℕ × List ℕ). Some r) (rw (take-append_seam text (text_end ∷ rest), after) refl))

-- attributes, one after the other

first_of_all : (a : AttributeOf) (attributes : List AttributeOf) → All IsRecordable (a ∷ attributes) → IsRecordable a
first_of_all a attributes fit = fit 0 a (omega arith)

rest_of_all : (a : AttributeOf) (attributes : List AttributeOf) → All IsRecordable (a ∷ attributes) → All IsRecordable attributes
rest_of_all a attributes fit k d within = fit (suc k) d (omega arith)

after_attributes-records : (attributes : List AttributeOf) (rest : List ℕ) → All IsRecordable attributes
    → after_attributes (length attributes) (flat_map attribute_record attributes ++ rest) ≡ Some rest
unfolding after_attributes
after_attributes-records [] rest fit = refl
after_attributes-records (a ∷ attributes) rest fit =
    rw (append_assoc (attribute_record a) (flat_map attribute_record attributes) rest, read_attribute-record a (flat_map attribute_record attributes ++ rest) (first_of_all a attributes fit))
    (after_attributes-records attributes rest (rest_of_all a attributes fit))

attributes_in-records : (attributes : List AttributeOf) (rest : List ℕ) → All IsRecordable attributes
    → attributes_in (length attributes) (flat_map attribute_record attributes ++ rest) ≡ attributes
unfolding attributes_in
attributes_in-records [] rest fit = refl
attributes_in-records (a ∷ attributes) rest fit =
    rw (append_assoc (attribute_record a) (flat_map attribute_record attributes) rest, read_attribute-record a (flat_map attribute_record attributes ++ rest) (first_of_all a attributes fit))
    (ap (λ l. a ∷ l) (attributes_in-records attributes rest (rest_of_all a attributes fit)))

-- flags

-- the flags of a tag are below 4, and each is told apart
tag_flags_read : (self_closing duplicates : Bool)
    → (nat_lt (flag self_closing 1 + flag duplicates 2) 4 ≡ true)
    × (has_flag (flag self_closing 1 + flag duplicates 2) 1 ≡ self_closing)
    × (has_flag (flag self_closing 1 + flag duplicates 2) 2 ≡ duplicates)
tag_flags_read true true = (refl, refl, refl)
tag_flags_read true false = (refl, refl, refl)
tag_flags_read false true = (refl, refl, refl)
tag_flags_read false false = (refl, refl, refl)

record DoctypeFlagsRead (name public_id system_id quirks : Bool) (flags : ℕ) : Type 0 where
  pub low : nat_lt flags 16 ≡ true
  pub name_is : has_flag flags 1 ≡ name
  pub public_id_is : has_flag flags 2 ≡ public_id
  pub system_id_is : has_flag flags 4 ≡ system_id
  pub quirks_is : has_flag flags 8 ≡ quirks

-- the four flags of a doctype are read back from their sum
doctype_flags_read : (a b c d : Bool) → DoctypeFlagsRead a b c d (flag a 1 + flag b 2 + flag c 4 + flag d 8)
doctype_flags_read true true true true = record { low = refl; name_is = refl; public_id_is = refl; system_id_is = refl; quirks_is = refl }
doctype_flags_read true true true false = record { low = refl; name_is = refl; public_id_is = refl; system_id_is = refl; quirks_is = refl }
doctype_flags_read true true false true = record { low = refl; name_is = refl; public_id_is = refl; system_id_is = refl; quirks_is = refl }
doctype_flags_read true true false false = record { low = refl; name_is = refl; public_id_is = refl; system_id_is = refl; quirks_is = refl }
doctype_flags_read true false true true = record { low = refl; name_is = refl; public_id_is = refl; system_id_is = refl; quirks_is = refl }
doctype_flags_read true false true false = record { low = refl; name_is = refl; public_id_is = refl; system_id_is = refl; quirks_is = refl }
doctype_flags_read true false false true = record { low = refl; name_is = refl; public_id_is = refl; system_id_is = refl; quirks_is = refl }
doctype_flags_read true false false false = record { low = refl; name_is = refl; public_id_is = refl; system_id_is = refl; quirks_is = refl }
doctype_flags_read false true true true = record { low = refl; name_is = refl; public_id_is = refl; system_id_is = refl; quirks_is = refl }
doctype_flags_read false true true false = record { low = refl; name_is = refl; public_id_is = refl; system_id_is = refl; quirks_is = refl }
doctype_flags_read false true false true = record { low = refl; name_is = refl; public_id_is = refl; system_id_is = refl; quirks_is = refl }
doctype_flags_read false true false false = record { low = refl; name_is = refl; public_id_is = refl; system_id_is = refl; quirks_is = refl }
doctype_flags_read false false true true = record { low = refl; name_is = refl; public_id_is = refl; system_id_is = refl; quirks_is = refl }
doctype_flags_read false false true false = record { low = refl; name_is = refl; public_id_is = refl; system_id_is = refl; quirks_is = refl }
doctype_flags_read false false false true = record { low = refl; name_is = refl; public_id_is = refl; system_id_is = refl; quirks_is = refl }
doctype_flags_read false false false false = record { low = refl; name_is = refl; public_id_is = refl; system_id_is = refl; quirks_is = refl }

read_flags-cons : (limit flags : ℕ) (rest : List ℕ) → nat_lt flags limit ≡ true → read_flags limit (flags ∷ rest) ≡ Some (flags, rest)
unfolding read_flags
read_flags-cons limit flags rest low = rw low refl

-- the parts of tokens

regrouped : (a b c d : List ℕ) → ((a ++ b) ++ c) ++ d ≡ a ++ (b ++ (c ++ d))
regrouped a b c d = simp append_assoc

-- a tag is read back from its parts
read_tag-parts : (tag : TagOf) (rest : List ℕ) → IsTagToldWhole tag → read_tag tag.kind (tag_parts tag ++ rest) ≡ Some (Tag tag, rest)
unfolding read_tag tag_parts attribute_records
read_tag-parts tag rest whole =
    let flags = tag_flags_read tag.self_closing tag.had_duplicate_attributes in
    let count : List ℕ = number (length tag.attributes) in
    let attributes : List ℕ = flat_map attribute_record tag.attributes in
    let grouped : ((tag_flags tag ∷ counted tag.name) ++ (count ++ attributes)) ++ rest ≡ tag_flags tag ∷ (counted tag.name ++ (count ++ (attributes ++ rest))) =
    ap (λ l. tag_flags tag ∷ l) (append_assoc (counted tag.name) (count ++ attributes) rest ∙ ap (λ l. counted tag.name ++ l) (append_assoc count attributes rest)) in
    rw (
      grouped,
      read_flags-cons 4 (tag_flags tag) (counted tag.name ++ (count ++ (attributes ++ rest))) flags.0,
      read_counted-counted tag.name (count ++ (attributes ++ rest)) whole.name,
      read_number-number (length tag.attributes) (attributes ++ rest) whole.count,
      after_attributes-records tag.attributes rest whole.attributes,
      attributes_in-records tag.attributes rest whole.attributes,
      flags.1,
      flags.2,
    ) refl

read_optional-optional : (text : Option (List ℕ)) (rest : List ℕ) → IsShortIfAny text → read_optional (is_some text) (optional text ++ rest) ≡ Some (text, rest)
unfolding read_optional optional
read_optional-optional None rest short = refl
read_optional-optional (Some text) rest short = rw (read_counted-counted text rest short) refl

-- a doctype is read back from its parts
read_doctype-parts : (doctype : DoctypeOf) (rest : List ℕ) → IsDoctypeToldWhole doctype → read_doctype (doctype_parts doctype ++ rest) ≡ Some (Doctype doctype, rest)
unfolding read_doctype doctype_parts
read_doctype-parts doctype rest whole =
    let flags = doctype_flags_read (is_some doctype.name) (is_some doctype.public_id) (is_some doctype.system_id) doctype.force_quirks in
    let name : List ℕ = optional doctype.name in
    let public_id : List ℕ = optional doctype.public_id in
    let system_id : List ℕ = optional doctype.system_id in
    let grouped : (((doctype_flags doctype ∷ name) ++ public_id) ++ system_id) ++ rest ≡ doctype_flags doctype ∷ (name ++ (public_id ++ (system_id ++ rest))) =
    ap (λ l. doctype_flags doctype ∷ l) (regrouped name public_id system_id rest) in
    rw (
      grouped,
      read_flags-cons 16 (doctype_flags doctype) (name ++ (public_id ++ (system_id ++ rest))) flags.low,
      flags.name_is,
      read_optional-optional doctype.name (public_id ++ (system_id ++ rest)) whole.name,
      flags.public_id_is,
      read_optional-optional doctype.public_id (system_id ++ rest) whole.public_id,
      flags.system_id_is,
      read_optional-optional doctype.system_id rest whole.system_id,
      flags.quirks_is,
    ) refl

read_text_token-counted : (code : ℕ) (text rest : List ℕ) (token : Told) → IsShort text → text_token code text ≡ Some token
    → read_text_token code (counted text ++ rest) ≡ Some (token, rest)
unfolding read_text_token
read_text_token-counted code text rest token short is = rw (read_counted-counted text rest short, is) refl

read_parts-tag : (kind : TagKind) (bytes : List ℕ) → read_parts (tag_code kind) bytes ≡ read_tag kind bytes
unfolding read_parts
read_parts-tag StartTag bytes = refl
read_parts-tag EndTag bytes = refl

read_parts-parts : (told : Told) (rest : List ℕ) → is_text told ≡ false → IsToldWhole told → read_parts (code_of told) (parts told ++ rest) ≡ Some (told, rest)
unfolding read_parts parts text_token
read_parts-parts (Text text) rest no_text whole = absurd cc
read_parts-parts Null rest no_text whole = refl
read_parts-parts (Error message) rest no_text whole = read_text_token-counted 8 message rest (Error message) whole refl
read_parts-parts (Tag tag) rest no_text whole = read_parts-tag tag.kind (tag_parts tag ++ rest) ∙ read_tag-parts tag rest whole
read_parts-parts (Comment text) rest no_text whole = read_text_token-counted 4 text rest (Comment text) whole refl
read_parts-parts (Instruction content) rest no_text whole = read_text_token-counted 5 content rest (Instruction content) whole refl
read_parts-parts (Doctype doctype) rest no_text whole = read_doctype-parts doctype rest whole
read_parts-parts End rest no_text whole = refl

-- records

tag_code-other : (kind : TagKind) → (tag_code kind == 3) ≡ false
tag_code-other StartTag = refl
tag_code-other EndTag = refl

code_of-other : (told : Told) → is_text told ≡ false → (code_of told == 3) ≡ false
code_of-other (Text text) no_text = absurd cc
code_of-other (Tag tag) no_text = tag_code-other tag.kind
code_of-other told no_text = refl

has_line-other : (told : Told) (line : ℕ) → is_text told ≡ false → HasLine told line → line < 2 ^ 64
has_line-other (Text text) line no_text has = absurd cc
has_line-other told line no_text has = has

read_record-other : (told : Told) (line : ℕ) (rest : List ℕ) → is_text told ≡ false → HasLine told line → IsToldWhole told
    → read_record (record_of told line ++ rest) ≡ Some (record { token = told; line = line }, rest)
unfolding read_record read_other_record record_of heading
read_record-other told line rest no_text has whole =
    let code : ℕ = code_of told in
    let bytes : List ℕ = parts told in
    let grouped : (heading_of told line ++ bytes) ++ rest ≡ code ∷ (number line ++ (bytes ++ rest)) =
    ap (λ l. (l ++ bytes) ++ rest) (heading_of-other told line no_text) ∙ ap (λ l. code ∷ l) (append_assoc (number line) bytes rest) in
    ap read_record grouped
    ∙ rw (code_of-other told no_text, read_number-number line (bytes ++ rest) (has_line-other told line no_text has), read_parts-parts told rest no_text whole) refl

read_record-text : (text : List ℕ) (line : ℕ) (rest : List ℕ) → line ≡ 0 → All (λ b. b < text_end) text
    → read_record (record_of (Text text) line ++ rest) ≡ Some (record { token = Text text; line = line }, rest)
unfolding read_record read_text_record record_of heading_of parts
read_record-text text line rest none low =
    let grouped : ((3 ∷ []) ++ (text ++ text_end ∷ [])) ++ rest ≡ 3 ∷ (text ++ text_end ∷ rest) =
    ap (λ l. 3 ∷ l) (append_assoc text (text_end ∷ []) rest) in
    ap read_record grouped ∙ rw (read_text-text text rest low, none) refl

read_record-told : (told : Told) (line : ℕ) (rest : List ℕ) → HasLine told line → IsToldWhole told
    → read_record (record_of told line ++ rest) ≡ Some (record { token = told; line = line }, rest)
read_record-told (Text text) line rest has whole = read_record-text text line rest has whole
read_record-told told line rest has whole = read_record-other told line rest refl has whole

pub read_record-record : (m : Message) (rest : List ℕ) → IsWhole m → read_record (record_of m.token m.line ++ rest) ≡ Some (m, rest)
read_record-record m rest whole = read_record-told m.token m.line rest whole.line whole.token

same_read : (p q : Message × List ℕ) (read : Option (Message × List ℕ)) → read ≡ Some p → read ≡ Some q → p ≡ q
same_read p q read is also = cc

-- messages with the same records are the same
pub records_of-equal : (M N : List Message) → All IsWhole M → All IsWhole N → records_of M ≡ records_of N → M ≡ N
unfolding records_of read_record
records_of-equal [] [] whole others same = refl
records_of-equal [] (n ∷ N) whole others same =
    let read = ap read_record same ∙ read_record-record n (records_of N) (others 0 n (omega arith)) in
    absurd cc
records_of-equal (m ∷ M) [] whole others same =
    let read = ap read_record (sym same) ∙ read_record-record m (records_of M) (whole 0 m (omega arith)) in
    absurd cc
records_of-equal (m ∷ M) (n ∷ N) whole others same =
    let same_first = same_read (m, records_of M) (n, records_of N) _ (read_record-record m (records_of M) (whole 0 m (omega arith)))
    (ap read_record same ∙ read_record-record n (records_of N) (others 0 n (omega arith))) in
    let more = records_of-equal M N (λ k d within. whole (suc k) d (omega arith)) (λ k d within. others (suc k) d (omega arith)) (ap (λ (p : Message × List ℕ). p.1) same_first) in
    ap (λ (p : Message × List ℕ). p.0 ∷ M) same_first ∙ ap (λ l. n ∷ l) more

-- attribute after attribute

pub after_attributes-next : (left next : ℕ) (bytes rest : List ℕ) (attribute : AttributeOf)
    → left ≡ suc next → Some (attribute, rest) ≡ read_attribute bytes → after_attributes left bytes ≡ after_attributes next rest
unfolding after_attributes
after_attributes-next left next bytes rest attribute more read = rw (more, ← read) refl

pub after_attributes-stuck : (left next : ℕ) (bytes : List ℕ) → left ≡ suc next → None ≡ read_attribute bytes → after_attributes left bytes ≡ None
unfolding after_attributes
after_attributes-stuck left next bytes more read = rw (more, ← read) refl

pub after_attributes-none : (left : ℕ) (bytes : List ℕ) → left ≡ 0 → after_attributes left bytes ≡ Some bytes
unfolding after_attributes
after_attributes-none left bytes none = rw none refl
