-- What is read was written: bytes that read as a token begin with its record.
use Rattle.std.proofs.Common.{position, drop-cons, add-one, ◌≡◌, ℕ, zero, suc, ◌+◌, ◌<◌, ◌≤◌, Bool, true, false, List, [], ◌∷◌, ◌++◌, length, take, drop, get_or, Option, None, Some, is_some, IfSome, option_map, option_and_then, length-append, nat_le, nat_lt, ◌==◌, if◌then◌else◌, refl, ap, sym, subst, ◌∙◌, inl, inr, arith}
use Rattle.std.proofs.lemmas.Bool.{leb-true, ltb-true, eqb-true}
use Rattle.std.proofs.lemmas.List.Quantifiers.{position-Some}
use Rattle.std.proofs.lemmas.Bool.Decides.{eqb_tells}
use Rattle.std.proofs.lemmas.List.{append_assoc, take-append-drop, length-take-le, get_or-append-add}
use Rattle.std.proofs.lemmas.Nat.{le_bytes_8}
use Rattle.std.specs.Int.{w64, to_le_bytes, from_le_bytes}
use Rattle.std.specs.List.{flat_map}
use Rattle.markup5ever.specs.Names.{AttributeOf, plain_name}
use Rattle.html5ever_interface.specs.Sink.{Message}
use Rattle.html5ever_interface.specs.Token.{Told, TagOf, DoctypeOf, is_text}
use Rattle.html5ever_interface.specs.Token.Told.{Text, Null, Error, Tag, Comment, Instruction, Doctype, End}
use Rattle.html5ever_interface.specs.declared.interface.token.TagKind.{TagKind}
use Rattle.html5ever_interface.specs.declared.interface.token.TagKind.TheVariants.{StartTag, EndTag}
use Rattle.html5records.specs.Records.{number, counted, flag, attribute_record, attribute_records, optional, tag_parts, doctype_parts, parts, tag_code, code_of, heading, record_of, heading_of, text_end}
use Rattle.html5records.proofs.Written.{heading_of-other}
use Rattle.html5records.specs.Reading.{read_number, split_off, read_counted, read_text, read_text_record, read_other_record, read_attribute, attributes_in, after_attributes, read_flags, has_flag, read_tag, read_optional, read_doctype, text_token, read_text_token, read_parts, read_record}

-- numbers each of which a byte holds
abbrev pub AreBytes : List ℕ → Type 0
AreBytes bytes = (i : ℕ) → get_or bytes i 0 < 256

AreBytes-take : (n : ℕ) (bytes : List ℕ) → AreBytes bytes → AreBytes (take n bytes)
AreBytes-take zero bytes are i = omega arith
AreBytes-take (suc n) [] are i = are i
AreBytes-take (suc n) (b ∷ bytes) are zero = are 0
AreBytes-take (suc n) (b ∷ bytes) are (suc i) = AreBytes-take n bytes (λ j. are (suc j)) i

-- bytes that begin with others, and what is after those
record BeginsAs (bytes front rest : List ℕ) : Type 0 where
  pub whole : bytes ≡ front ++ rest
  pub rest_bytes : AreBytes rest

AreBytes-after : (bytes front rest : List ℕ) → AreBytes bytes → bytes ≡ front ++ rest → AreBytes rest
AreBytes-after bytes front rest are whole i =
    let same : get_or bytes (length front + i) 0 ≡ get_or rest i 0 = ap (λ l. get_or l (length front + i) 0) whole ∙ get_or-append-add front rest i 0 in
    rw same at (are (length front + i))

begins_as : (bytes front rest : List ℕ) → AreBytes bytes → bytes ≡ front ++ rest → BeginsAs bytes front rest
begins_as bytes front rest are whole = record { whole = whole; rest_bytes = AreBytes-after bytes front rest are whole }

begins_as-more : (bytes a middle b rest : List ℕ) → BeginsAs bytes a middle → BeginsAs middle b rest → BeginsAs bytes (a ++ b) rest
begins_as-more bytes a middle b rest first second = record {
  whole = first.whole ∙ ap (λ l. a ++ l) second.whole ∙ sym (append_assoc a b rest);
  rest_bytes = second.rest_bytes;
}

-- what a step that may fail had
record Stepped {X Y : Type 0} (read : Option X) (next : X → Option Y) (y : Y) : Type 0 where
  pub x : X
  pub was : read ≡ Some x
  pub then_was : next x ≡ Some y

stepped : {X Y : Type 0} (read : Option X) (next : X → Option Y) (y : Y) → option_and_then next read ≡ Some y → Stepped read next y
stepped None next y is = absurd cc
stepped (Some x) next y is = record { x = x; was = refl; then_was = is }

record Passed {X : Type 0} (test : Bool) (x y : X) : Type 0 where
  pub holds : test ≡ true
  pub same : x ≡ y

passed : {X : Type 0} (test : Bool) (x y : X) → (if test then Some x else None) ≡ Some y → Passed test x y
passed true x y is = record { holds = refl; same = cc }
passed false x y is = absurd cc

drop-get_or : (i : ℕ) (bytes : List ℕ) → i < length bytes → drop i bytes ≡ get_or bytes i 0 ∷ drop (i + 1) bytes
drop-get_or i bytes within = rw (add-one i) (drop-cons bytes i 0 within)

the_same : {X : Type 0} (x y : X) → Some x ≡ Some y → x ≡ y
the_same x y is = cc

abbrev attribute_with : List ℕ → List ℕ → AttributeOf
attribute_with name value = record { name = plain_name name; value = value }

read_number-only : (bytes rest : List ℕ) (n : ℕ) → AreBytes bytes → read_number bytes ≡ Some (n, rest) → BeginsAs bytes (number n) rest
unfolding read_number number
read_number-only bytes rest n are read =
    let p = passed (nat_le 8 (length bytes)) (from_le_bytes w64 (take 8 bytes), drop 8 bytes) (n, rest) read in
    let long : 8 ≤ length bytes = leb-true 8 (length bytes) p.holds in
    let number_is : to_le_bytes w64 n ≡ take 8 bytes = le_bytes_8 (take 8 bytes) n (length-take-le 8 bytes long) (AreBytes-take 8 bytes are) (sym (ap (λ (r : ℕ × List ℕ). r.0) p.same)) in
    begins_as bytes (to_le_bytes w64 n) rest are
    (sym (take-append-drop 8 bytes) ∙ ap (λ l. take 8 bytes ++ l) (ap (λ (r : ℕ × List ℕ). r.1) p.same) ∙ ap (λ l. l ++ rest) (sym number_is))

record SplitAs (count : ℕ) (bytes text rest : List ℕ) : Type 0 where
  pub begins : BeginsAs bytes text rest
  pub length_is : length text ≡ count

-- bytes that are split off are the text and the rest
split_off-only : (count : ℕ) (bytes text rest : List ℕ) → AreBytes bytes → split_off count bytes ≡ Some (text, rest) → SplitAs count bytes text rest
unfolding split_off
split_off-only count bytes text rest are read =
    let p = passed (nat_le count (length bytes)) (take count bytes, drop count bytes) (text, rest) read in
    let long : count ≤ length bytes = leb-true count (length bytes) p.holds in
    let text_is : take count bytes ≡ text = ap (λ (r : List ℕ × List ℕ). r.0) p.same in
    record {
      begins = begins_as bytes text rest are
          (sym (take-append-drop count bytes) ∙ ap (λ l. l ++ drop count bytes) text_is ∙ ap (λ l. text ++ l) (ap (λ (r : List ℕ × List ℕ). r.1) p.same));
      length_is = ap length (sym text_is) ∙ length-take-le count bytes long;
    }

read_counted-only : (bytes text rest : List ℕ) → AreBytes bytes → read_counted bytes ≡ Some (text, rest) → BeginsAs bytes (counted text) rest
unfolding read_counted counted
read_counted-only bytes text rest are read =
    let s = stepped (read_number bytes) (λ (count : ℕ × List ℕ). split_off count.0 count.1) (text, rest) read in
    let first = read_number-only bytes s.x.1 s.x.0 are s.was in
    let second = split_off-only s.x.0 s.x.1 text rest first.rest_bytes s.then_was in
    rw second.length_is (begins_as-more bytes (number s.x.0) s.x.1 text rest first second.begins)

-- a text that was read was written so
read_text-only : (bytes text rest : List ℕ) → AreBytes bytes → read_text bytes ≡ Some (text, rest) → BeginsAs bytes (text ++ text_end ∷ []) rest
unfolding read_text
read_text-only bytes text rest are read =
    let s = stepped (position (λ b. b == text_end) bytes) (λ (end : ℕ). Some (take end bytes, drop (end + 1) bytes)) (text, rest) read in
    let found = position-Some (λ b. b == text_end) bytes s.x 0 s.was in
    let last : get_or bytes s.x 0 ≡ text_end = eqb-true (get_or bytes s.x 0) text_end found.1 in
    let same = the_same (take s.x bytes, drop (s.x + 1) bytes) (text, rest) s.then_was in
    let whole : bytes ≡ take s.x bytes ++ (get_or bytes s.x 0 ∷ drop (s.x + 1) bytes) =
    sym (take-append-drop s.x bytes) ∙ ap (λ l. take s.x bytes ++ l) (drop-get_or s.x bytes found.0) in
    let P : List ℕ × List ℕ → Type 0 = λ r. BeginsAs bytes (r.0 ++ text_end ∷ []) r.1 in
    subst P same
    (begins_as bytes (take s.x bytes ++ text_end ∷ []) (drop (s.x + 1) bytes) are
    (whole ∙ ap (λ b. take s.x bytes ++ (b ∷ drop (s.x + 1) bytes)) last ∙ sym (append_assoc (take s.x bytes) (text_end ∷ []) (drop (s.x + 1) bytes))))

-- an attribute that was read was written so
read_attribute-only : (bytes rest : List ℕ) (attribute : AttributeOf) → AreBytes bytes → read_attribute bytes ≡ Some (attribute, rest)
    → BeginsAs bytes (attribute_record attribute) rest
unfolding read_attribute attribute_record
read_attribute-only bytes rest attribute are read =
    let s = stepped (read_counted bytes) (λ (name : List ℕ × List ℕ). option_and_then (λ (value : List ℕ × List ℕ). Some (attribute_with name.0 value.0, value.1)) (read_counted name.1)) (attribute, rest) read in
    let t = stepped (read_counted s.x.1) (λ (value : List ℕ × List ℕ). Some (attribute_with s.x.0 value.0, value.1)) (attribute, rest) s.then_was in
    let same = the_same (attribute_with s.x.0 t.x.0, t.x.1) (attribute, rest) t.then_was in
    let name = read_counted-only bytes s.x.0 s.x.1 are s.was in
    let value = read_counted-only s.x.1 t.x.0 t.x.1 name.rest_bytes t.was in
    let whole = begins_as-more bytes (counted s.x.0) s.x.1 (counted t.x.0) t.x.1 name value in
    let P : AttributeOf × List ℕ → Type 0 = λ r. BeginsAs bytes (counted r.0.name.local ++ counted r.0.value) r.1 in
    subst P same whole

record ManyAs (count : ℕ) (bytes : List ℕ) (attributes : List AttributeOf) (rest : List ℕ) : Type 0 where
  pub begins : BeginsAs bytes (flat_map attribute_record attributes) rest
  pub length_is : length attributes ≡ count

-- attributes that were read were written so
after_attributes-only : (count : ℕ) (bytes rest : List ℕ) → AreBytes bytes → after_attributes count bytes ≡ Some rest
    → ManyAs count bytes (attributes_in count bytes) rest
unfolding after_attributes attributes_in
after_attributes-only zero bytes rest are read =
    record { begins = begins_as bytes [] rest are (the_same bytes rest read); length_is = refl }
after_attributes-only (suc count) bytes rest are read =
    let s = stepped (read_attribute bytes) (λ (r : AttributeOf × List ℕ). after_attributes count r.1) rest read in
    let first = read_attribute-only bytes s.x.1 s.x.0 are s.was in
    let more = after_attributes-only count s.x.1 rest first.rest_bytes s.then_was in
    rw s.was
    (record {
      begins = begins_as-more bytes (attribute_record s.x.0) s.x.1 (flat_map attribute_record (attributes_in count s.x.1)) rest first more.begins;
      length_is = ap (λ n. suc n) more.length_is;
    })

-- flags

record FlagsAs (limit flags : ℕ) (bytes rest : List ℕ) : Type 0 where
  pub begins : bytes ≡ flags ∷ rest
  pub low : flags < limit

read_flags-only : (limit flags : ℕ) (bytes rest : List ℕ) → read_flags limit bytes ≡ Some (flags, rest) → FlagsAs limit flags bytes rest
unfolding read_flags
read_flags-only limit flags [] rest read = absurd cc
read_flags-only limit flags (b ∷ bytes) rest read =
    let p = passed (nat_lt b limit) (b, bytes) (flags, rest) read in
    let flags_is : b ≡ flags = ap (λ (r : ℕ × List ℕ). r.0) p.same in
    let rest_is : bytes ≡ rest = ap (λ (r : ℕ × List ℕ). r.1) p.same in
    record { begins = ap (λ n. n ∷ bytes) flags_is ∙ ap (λ l. flags ∷ l) rest_is; low = rw flags_is at (ltb-true b limit p.holds) }

-- the flags of a tag, and those of a DOCTYPE, are the byte that they were read from
tag_flags-only : (flags : ℕ) → flags < 4 → flag (has_flag flags 1) 1 + flag (has_flag flags 2) 2 ≡ flags
tag_flags-only zero low = refl
tag_flags-only (suc zero) low = refl
tag_flags-only (suc (suc zero)) low = refl
tag_flags-only (suc (suc (suc zero))) low = refl
tag_flags-only (suc (suc (suc (suc n)))) low = absurd (omega arith)

-- the flags of a doctype that were read are their byte
doctype_flags-only : (flags : ℕ) → flags < 16 → flag (has_flag flags 1) 1 + flag (has_flag flags 2) 2 + flag (has_flag flags 4) 4 + flag (has_flag flags 8) 8 ≡ flags
doctype_flags-only zero low = refl
doctype_flags-only (suc zero) low = refl
doctype_flags-only (suc (suc zero)) low = refl
doctype_flags-only (suc (suc (suc zero))) low = refl
doctype_flags-only (suc (suc (suc (suc zero)))) low = refl
doctype_flags-only (suc (suc (suc (suc (suc zero))))) low = refl
doctype_flags-only (suc (suc (suc (suc (suc (suc zero)))))) low = refl
doctype_flags-only (suc (suc (suc (suc (suc (suc (suc zero))))))) low = refl
doctype_flags-only (suc (suc (suc (suc (suc (suc (suc (suc zero)))))))) low = refl
doctype_flags-only (suc (suc (suc (suc (suc (suc (suc (suc (suc zero))))))))) low = refl
doctype_flags-only (suc (suc (suc (suc (suc (suc (suc (suc (suc (suc zero)))))))))) low = refl
doctype_flags-only (suc (suc (suc (suc (suc (suc (suc (suc (suc (suc (suc zero))))))))))) low = refl
doctype_flags-only (suc (suc (suc (suc (suc (suc (suc (suc (suc (suc (suc (suc zero)))))))))))) low = refl
doctype_flags-only (suc (suc (suc (suc (suc (suc (suc (suc (suc (suc (suc (suc (suc zero))))))))))))) low = refl
doctype_flags-only (suc (suc (suc (suc (suc (suc (suc (suc (suc (suc (suc (suc (suc (suc zero)))))))))))))) low = refl
doctype_flags-only (suc (suc (suc (suc (suc (suc (suc (suc (suc (suc (suc (suc (suc (suc (suc zero))))))))))))))) low = refl
doctype_flags-only (suc (suc (suc (suc (suc (suc (suc (suc (suc (suc (suc (suc (suc (suc (suc (suc n)))))))))))))))) low = absurd (omega arith)

-- the parts of tokens

record PartsAs (code : ℕ) (bytes : List ℕ) (read : Told × List ℕ) : Type 0 where
  pub no_text : is_text read.0 ≡ false
  pub code_is : code_of read.0 ≡ code
  pub begins : BeginsAs bytes (parts read.0) read.1

parts_as : (code : ℕ) (bytes : List ℕ) (made read : Told × List ℕ) → Some made ≡ Some read → PartsAs code bytes made → PartsAs code bytes read
parts_as code bytes made read is parted = let P : Told × List ℕ → Type 0 = λ r. PartsAs code bytes r in subst P (the_same made read is) parted

-- a tag that was read was written so
read_tag-only : (kind : TagKind) (bytes rest : List ℕ) (told : Told) → AreBytes bytes → read_tag kind bytes ≡ Some (told, rest)
    → PartsAs (tag_code kind) bytes (told, rest)
unfolding read_tag parts tag_parts attribute_records
read_tag-only kind bytes rest told are read =
    let f = stepped (read_flags 4 bytes) _ _ read in
    let n = stepped (read_counted f.x.1) _ _ f.then_was in
    let c = stepped (read_number n.x.1) _ _ n.then_was in
    let b = stepped (after_attributes c.x.0 c.x.1) _ _ c.then_was in
    let flags = read_flags-only 4 f.x.0 bytes f.x.1 f.was in
    let tag : TagOf = record {
      kind = kind;
      name = n.x.0;
      self_closing = has_flag f.x.0 1;
      attributes = attributes_in c.x.0 c.x.1;
      had_duplicate_attributes = has_flag f.x.0 2;
    } in
    let first = begins_as bytes (f.x.0 ∷ []) f.x.1 are flags.begins in
    let name = read_counted-only f.x.1 n.x.0 n.x.1 first.rest_bytes n.was in
    let count = read_number-only n.x.1 c.x.1 c.x.0 name.rest_bytes c.was in
    let many = after_attributes-only c.x.0 c.x.1 b.x count.rest_bytes b.was in
    let named = begins_as-more bytes (f.x.0 ∷ []) f.x.1 (counted n.x.0) n.x.1 first name in
    let counted_many = begins_as-more n.x.1 (number c.x.0) c.x.1 (flat_map attribute_record tag.attributes) b.x count many.begins in
    let whole = begins_as-more bytes ((f.x.0 ∷ []) ++ counted n.x.0) n.x.1 (number c.x.0 ++ flat_map attribute_record tag.attributes) b.x named counted_many in
    parts_as (tag_code kind) bytes (Tag tag, b.x) (told, rest) b.then_was
    (record { no_text = refl; code_is = refl; begins = rw (tag_flags-only f.x.0 flags.low, many.length_is) whole })

-- a text that may be missing
record OptionalAs (is_there : Bool) (bytes : List ℕ) (read : Option (List ℕ) × List ℕ) : Type 0 where
  pub there : is_some read.0 ≡ is_there
  pub begins : BeginsAs bytes (optional read.0) read.1

-- a text that was read, or its lack, was written so
read_optional-only : (is_there : Bool) (bytes : List ℕ) (read : Option (List ℕ) × List ℕ) → AreBytes bytes → read_optional is_there bytes ≡ Some read
    → OptionalAs is_there bytes read
unfolding read_optional optional
read_optional-only false bytes read are is =
    let P : Option (List ℕ) × List ℕ → Type 0 = λ r. OptionalAs false bytes r in
    subst P (the_same (None, bytes) read is) (record { there = refl; begins = begins_as bytes [] bytes are refl })
read_optional-only true bytes read are is =
    let t = stepped (read_counted bytes) (λ (text : List ℕ × List ℕ). Some (Some text.0, text.1)) read is in
    let P : Option (List ℕ) × List ℕ → Type 0 = λ r. OptionalAs true bytes r in
    subst P (the_same (Some t.x.0, t.x.1) read t.then_was)
    (record { there = refl; begins = read_counted-only bytes t.x.0 t.x.1 are t.was })

-- a doctype that was read was written so
read_doctype-only : (bytes rest : List ℕ) (told : Told) → AreBytes bytes → read_doctype bytes ≡ Some (told, rest) → PartsAs 6 bytes (told, rest)
unfolding read_doctype parts doctype_parts
read_doctype-only bytes rest told are read =
    let f = stepped (read_flags 16 bytes) _ _ read in
    let n = stepped (read_optional (has_flag f.x.0 1) f.x.1) _ _ f.then_was in
    let p = stepped (read_optional (has_flag f.x.0 2) n.x.1) _ _ n.then_was in
    let s = stepped (read_optional (has_flag f.x.0 4) p.x.1) _ _ p.then_was in
    let flags = read_flags-only 16 f.x.0 bytes f.x.1 f.was in
    let doctype : DoctypeOf = record { name = n.x.0; public_id = p.x.0; system_id = s.x.0; force_quirks = has_flag f.x.0 8 } in
    let first = begins_as bytes (f.x.0 ∷ []) f.x.1 are flags.begins in
    let name = read_optional-only (has_flag f.x.0 1) f.x.1 n.x first.rest_bytes n.was in
    let public_id = read_optional-only (has_flag f.x.0 2) n.x.1 p.x name.begins.rest_bytes p.was in
    let system_id = read_optional-only (has_flag f.x.0 4) p.x.1 s.x public_id.begins.rest_bytes s.was in
    let named = begins_as-more bytes (f.x.0 ∷ []) f.x.1 (optional n.x.0) n.x.1 first name.begins in
    let public = begins_as-more bytes ((f.x.0 ∷ []) ++ optional n.x.0) n.x.1 (optional p.x.0) p.x.1 named public_id.begins in
    let whole = begins_as-more bytes (((f.x.0 ∷ []) ++ optional n.x.0) ++ optional p.x.0) p.x.1 (optional s.x.0) s.x.1 public system_id.begins in
    parts_as 6 bytes (Doctype doctype, s.x.1) (told, rest) s.then_was
    (record { no_text = refl; code_is = refl; begins = rw (name.there, public_id.there, system_id.there, doctype_flags-only f.x.0 flags.low) whole })

-- a choice between what is read, where the choice is by the first byte
chosen : {X : Type 0} (code here : ℕ) (then_read else_read : Option X) (read : X) (P : Type 0)
    → (if code == here then then_read else else_read) ≡ Some read
    → (code ≡ here → then_read ≡ Some read → P)
    → (else_read ≡ Some read → P)
    → P
chosen code here then_read else_read read P is taken left =
    elim (eqb_tells code here) [
      | inl same ↦ taken same.1 (rw same.0 at is)
      | inr other ↦ left (rw other.0 at is)
    ]

record TextAs (code : ℕ) (text : List ℕ) (told : Told) : Type 0 where
  pub no_text : is_text told ≡ false
  pub code_is : code_of told ≡ code
  pub parts_are : parts told ≡ counted text

text_as : (code : ℕ) (text : List ℕ) (made told : Told) → Some made ≡ Some told → is_text made ≡ false → code_of made ≡ code → parts made ≡ counted text → TextAs code text told
text_as code text made told is no_text code_is parts_are =
    let P : Told → Type 0 = λ t. TextAs code text t in
    subst P (the_same made told is) (record { no_text = no_text; code_is = code_is; parts_are = parts_are })

text_token-only : (code : ℕ) (text : List ℕ) (told : Told) → text_token code text ≡ Some told → TextAs code text told
unfolding text_token parts
text_token-only code text told is =
    chosen code 4 _ _ told (TextAs code text told) is (λ here made. text_as code text (Comment text) told made refl (sym here) refl)
    (λ other. chosen code 5 _ _ told (TextAs code text told) other (λ here made. text_as code text (Instruction text) told made refl (sym here) refl)
    (λ other. chosen code 8 _ _ told (TextAs code text told) other (λ here made. text_as code text (Error text) told made refl (sym here) refl)
    (λ none. absurd cc)))

read_text_token-only : (code : ℕ) (bytes rest : List ℕ) (told : Told) → AreBytes bytes → read_text_token code bytes ≡ Some (told, rest) → PartsAs code bytes (told, rest)
unfolding read_text_token
read_text_token-only code bytes rest told are read =
    let t = stepped (read_counted bytes) _ _ read in
    let k = stepped (text_token code t.x.0) _ _ t.then_was in
    let token = text_token-only code t.x.0 k.x k.was in
    parts_as code bytes (k.x, t.x.1) (told, rest) k.then_was
    (record { no_text = token.no_text; code_is = token.code_is; begins = rw token.parts_are (read_counted-only bytes t.x.0 t.x.1 are t.was) })

-- the parts of a token that were read were written so
read_parts-only : (code : ℕ) (bytes rest : List ℕ) (told : Told) → AreBytes bytes → read_parts code bytes ≡ Some (told, rest) → PartsAs code bytes (told, rest)
unfolding read_parts parts
read_parts-only code bytes rest told are read =
    let Q : Type 0 = PartsAs code bytes (told, rest) in
    let now : (here : ℕ) → code ≡ here → PartsAs here bytes (told, rest) → Q = λ here same parted. rw same parted in
    chosen code 1 _ _ (told, rest) Q read (λ here is. now 1 here (read_tag-only StartTag bytes rest told are is))
    (λ other. chosen code 2 _ _ (told, rest) Q other (λ here is. now 2 here (read_tag-only EndTag bytes rest told are is))
    (λ other. chosen code 6 _ _ (told, rest) Q other (λ here is. now 6 here (read_doctype-only bytes rest told are is))
    (λ other. chosen code 7 _ _ (told, rest) Q other (λ here is. parts_as code bytes (Null, bytes) (told, rest) is (record { no_text = refl; code_is = sym here; begins = begins_as bytes [] bytes are refl }))
    (λ other. chosen code 9 _ _ (told, rest) Q other (λ here is. parts_as code bytes (End, bytes) (told, rest) is (record { no_text = refl; code_is = sym here; begins = begins_as bytes [] bytes are refl }))
    (λ other. read_text_token-only code bytes rest told are other)))))

read_text_record-only : (bytes rest : List ℕ) (m : Message) → AreBytes bytes → read_text_record bytes ≡ Some (m, rest) → 3 ∷ bytes ≡ record_of m.token m.line ++ rest
unfolding read_text_record record_of heading_of parts
read_text_record-only bytes rest m are read =
    let t = stepped (read_text bytes) _ _ read in
    let text = read_text-only bytes t.x.0 t.x.1 are t.was in
    let made : Message = record { token = Text t.x.0; line = 0 } in
    let P : Message × List ℕ → Type 0 = λ r. 3 ∷ bytes ≡ (heading_of r.0.token r.0.line ++ parts r.0.token) ++ r.1 in
    subst P (the_same (made, t.x.1) (m, rest) t.then_was) (ap (λ l. 3 ∷ l) text.whole)

-- a record other than a text that was read was written so
read_other_record-only : (code : ℕ) (bytes rest : List ℕ) (m : Message) → AreBytes bytes → read_other_record code bytes ≡ Some (m, rest)
    → code ∷ bytes ≡ record_of m.token m.line ++ rest
unfolding read_other_record record_of heading
read_other_record-only code bytes rest m are read =
    let l = stepped (read_number bytes) _ _ read in
    let t = stepped (read_parts code l.x.1) _ _ l.then_was in
    let line = read_number-only bytes l.x.1 l.x.0 are l.was in
    let token = read_parts-only code l.x.1 t.x.1 t.x.0 line.rest_bytes t.was in
    let whole = begins_as-more bytes (number l.x.0) l.x.1 (parts t.x.0) t.x.1 line token.begins in
    let made : Message = record { token = t.x.0; line = l.x.0 } in
    let P : Message × List ℕ → Type 0 = λ r. code ∷ bytes ≡ (heading_of r.0.token r.0.line ++ parts r.0.token) ++ r.1 in
    subst P (the_same (made, t.x.1) (m, rest) t.then_was)
    (rw (heading_of-other t.x.0 l.x.0 token.no_text, token.code_is) (ap (λ b. code ∷ b) whole.whole))

-- bytes that read as a message begin with its record
pub read_record-only : (bytes rest : List ℕ) (m : Message) → AreBytes bytes → read_record bytes ≡ Some (m, rest) → bytes ≡ record_of m.token m.line ++ rest
unfolding read_record
read_record-only [] rest m are read = absurd cc
read_record-only (code ∷ bytes) rest m are read =
    chosen code 3 _ _ (m, rest) (code ∷ bytes ≡ record_of m.token m.line ++ rest) read
    (λ here is. ap (λ c. c ∷ bytes) here ∙ read_text_record-only bytes rest m (λ i. are (suc i)) is)
    (λ other. read_other_record-only code bytes rest m (λ i. are (suc i)) other)

heading_of-length : (told : Told) (line : ℕ) → 0 < length (heading_of told line)
unfolding heading_of heading
heading_of-length (Text text) line = omega arith
heading_of-length told line = omega arith

shorter : (bytes rest : List ℕ) (m : Message) → bytes ≡ record_of m.token m.line ++ rest → length rest < length bytes
unfolding record_of
shorter bytes rest m whole =
    let long : length bytes ≡ (length (heading_of m.token m.line) + length (parts m.token)) + length rest =
    ap length whole
    ∙ length-append (heading_of m.token m.line ++ parts m.token) rest
    ∙ ap (λ n. n + length rest) (length-append (heading_of m.token m.line) (parts m.token)) in
    omega (arith, heading_of-length m.token m.line)

-- what a reader answers, by what it makes of each answer
pub read_as : {T : Type 0} (read : Option T) (view : T → Message × List ℕ) (bytes : List ℕ) → AreBytes bytes → option_map view read ≡ read_record bytes
    → IfSome read (λ r. bytes ≡ record_of (view r).0.token (view r).0.line ++ (view r).1)
read_as None view bytes are is = tt
read_as (Some r) view bytes are is = read_record-only bytes (view r).1 (view r).0 are (sym is)

pub read_shorter : {T : Type 0} (read : Option T) (view : T → Message × List ℕ) (bytes : List ℕ) → AreBytes bytes → option_map view read ≡ read_record bytes
    → IfSome read (λ r. length (view r).1 < length bytes)
read_shorter None view bytes are is = tt
read_shorter (Some r) view bytes are is = shorter bytes (view r).1 (view r).0 (read_record-only bytes (view r).1 (view r).0 are (sym is))
