-- A token whose texts are UTF-8 in memory has a record that tells it whole.
use Rattle.std.proofs.Common.{◌≡◌, ℕ, zero, suc, ◌+◌, ◌/◌, ◌<◌, ◌^◌, Bool, true, false, cond, ltb, ◌&&◌, List, [], ◌∷◌, length, Option, None, Some, option_map, map, All, String, string_bytes, Vec, refl, subst, inl, inr, arith}
use Rattle.std.proofs.lemmas.Bool.{ltb-true}
use Rattle.std.proofs.lemmas.List.{length-map}
use Rattle.std.proofs.lemmas.List.Elements.{All-append}
use Rattle.std.proofs.lemmas.Str.{IsUtf8-string_bytes}
use Rattle.std.specs.Str.{IsUtf8}
use lib.Utf8.{scalar, scalars, next, encode, encodes, scalar_cases}
use Rattle.markup5ever.specs.Names.{AttributeOf, attribute_of, plain_name}
use Rattle.markup5ever.specs.declared.interface.Attribute.{Attribute}
use Rattle.html5ever_interface.specs.Message.{fixed_text, message_bytes}
use Rattle.html5ever_interface.specs.Token.{told_by}
use Rattle.html5ever_interface.specs.declared.interface.message.FixedMessage.{FixedMessage}
use Rattle.html5ever_interface.specs.declared.interface.message.FixedMessage.TheVariants.{BadCharacter, UnexpectedEof, AttributesOnEndTag, SelfClosingEndTag, DuplicateAttribute, MissingSemicolon, InvalidReference, NumberWithoutDigits, EofAfterNumberSign, EofInNumber, MissingSemicolonAfterNumber, InvalidNumber}
use Rattle.html5ever_interface.specs.declared.interface.message.ErrorMessage.{ErrorMessage}
use Rattle.html5ever_interface.specs.declared.interface.message.ErrorMessage.TheVariants.{Fixed, Named}
use Rattle.html5ever_interface.specs.declared.interface.token.Token.{Token}
use Rattle.html5ever_interface.specs.declared.interface.token.Token.TheVariants.{DoctypeToken, TagToken, CommentToken, ProcessingInstructionToken, CharacterTokens, NullCharacterToken, EOFToken, ParseError}
use Rattle.html5records.specs.Reading.{IsShort, IsShortIfAny, IsRecordable, IsToldWhole, HasPlainNames}

-- no byte of UTF-8 ends a text

abbrev AreLow : List ℕ → Type 0
AreLow bytes = All (λ b. b < 255) bytes

AreLow-nil : AreLow []
AreLow-nil k d within = absurd (omega arith)

AreLow-cons : (b : ℕ) (bytes : List ℕ) → b < 255 → AreLow bytes → AreLow (b ∷ bytes)
AreLow-cons b bytes low more zero d within = low
AreLow-cons b bytes low more (suc k) d within = more k d (omega arith)

chosen : (test : Bool) (P : List ℕ → Type 0) (x y : List ℕ) → (test ≡ true → P x) → P y → P (cond test x y)
chosen true P x y taken left = taken refl
chosen false P x y taken left = left

scalar-low : (c : ℕ) → scalar c ≡ true → c < 1114112
scalar-low c is = elim (scalar_cases c is) [ inl low ↦ omega arith | inr high ↦ high.1 ]

next-low : (c : ℕ) → next c < 255
next-low c = omega arith

AreLow-next : (c : ℕ) (bytes : List ℕ) → AreLow bytes → AreLow (next c ∷ bytes)
AreLow-next c bytes more = AreLow-cons (next c) bytes (next-low c) more

-- the bytes of a character are below the byte that ends a text
AreLow-encode : (c : ℕ) → scalar c ≡ true → AreLow (encode c)
unfolding encode
AreLow-encode c is =
    let low : c < 1114112 = scalar-low c is in
    let last : AreLow (next c ∷ []) = AreLow-next c [] AreLow-nil in
    let last_two : AreLow (next (c / 64) ∷ next c ∷ []) = AreLow-next (c / 64) (next c ∷ []) last in
    let last_three : AreLow (next (c / 4096) ∷ next (c / 64) ∷ next c ∷ []) = AreLow-next (c / 4096) (next (c / 64) ∷ next c ∷ []) last_two in
    let four : 240 + c / 262144 < 255 = omega arith in
    chosen (ltb c 128) AreLow (c ∷ []) _ (λ h. let less = ltb-true c 128 h in AreLow-cons c [] (omega arith) AreLow-nil)
    (chosen (ltb c 2048) AreLow ((192 + c / 64) ∷ next c ∷ []) _ (λ h. let less = ltb-true c 2048 h in AreLow-cons (192 + c / 64) (next c ∷ []) (omega arith) last)
    (chosen (ltb c 65536) AreLow ((224 + c / 4096) ∷ next (c / 64) ∷ next c ∷ []) _
    (λ h. let less = ltb-true c 65536 h in AreLow-cons (224 + c / 4096) (next (c / 64) ∷ next c ∷ []) (omega arith) last_two)
    (AreLow-cons (240 + c / 262144) (next (c / 4096) ∷ next (c / 64) ∷ next c ∷ []) four last_three)))

both_first : (a b : Bool) → (a && b) ≡ true → a ≡ true
both_first true b is = refl
both_first false b is = absurd cc

both_second : (a b : Bool) → (a && b) ≡ true → b ≡ true
both_second true b is = is
both_second false b is = absurd cc

AreLow-encodes : (cs : List ℕ) → scalars cs ≡ true → AreLow (encodes cs)
AreLow-encodes [] is = AreLow-nil
AreLow-encodes (c ∷ cs) is =
    All-append (λ (b : ℕ). b < 255) (encode c) (encodes cs) (AreLow-encode c (both_first (scalar c) (scalars cs) is)) (AreLow-encodes cs (both_second (scalar c) (scalars cs) is))

AreLow-utf8 : (bytes : List ℕ) → IsUtf8 bytes → AreLow bytes
AreLow-utf8 bytes is = let P : List ℕ → Type 0 = λ l. AreLow l in subst P is.1.1 (AreLow-encodes is.0 is.1.0)

-- texts in memory

IsShort-string_bytes : {Z : Type 0} (s : String Z) → IsShort (string_bytes s)
IsShort-string_bytes s = omega arith

IsShort-fixed_text : (message : FixedMessage) → IsShort (fixed_text message)
IsShort-fixed_text BadCharacter = omega arith
IsShort-fixed_text UnexpectedEof = omega arith
IsShort-fixed_text AttributesOnEndTag = omega arith
IsShort-fixed_text SelfClosingEndTag = omega arith
IsShort-fixed_text DuplicateAttribute = omega arith
IsShort-fixed_text MissingSemicolon = omega arith
IsShort-fixed_text InvalidReference = omega arith
IsShort-fixed_text NumberWithoutDigits = omega arith
IsShort-fixed_text EofAfterNumberSign = omega arith
IsShort-fixed_text EofInNumber = omega arith
IsShort-fixed_text MissingSemicolonAfterNumber = omega arith
IsShort-fixed_text InvalidNumber = omega arith

IsShort-message_bytes : {Z : Type 0} (message : ErrorMessage Z) → IsShort (message_bytes message)
IsShort-message_bytes (Fixed message) = IsShort-fixed_text message
IsShort-message_bytes (Named text) = IsShort-string_bytes text

IsShortIfAny-string_bytes : {Z : Type 0} (s : Option (String Z)) → IsShortIfAny (option_map string_bytes s)
IsShortIfAny-string_bytes None = tt
IsShortIfAny-string_bytes (Some s) = IsShort-string_bytes s

IsShort-items : {X Z : Type 0} (v : Vec X Z) → length v.items < 2 ^ 64
IsShort-items v = omega arith

-- attributes with plain names
abbrev ArePlain : List AttributeOf → Type 0
ArePlain attributes = All (λ attribute. attribute.name ≡ plain_name attribute.name.local) attributes

IsRecordable-all : {Z : Type 0} (attributes : List (Attribute Z)) → ArePlain (map attribute_of attributes) → All IsRecordable (map attribute_of attributes)
IsRecordable-all [] plain k d within = absurd (omega arith)
IsRecordable-all (a ∷ attributes) plain zero d within = record {
  plain = plain 0 d within;
  local = IsShort-string_bytes a.name.local.0;
  value = IsShort-string_bytes a.value;
}
IsRecordable-all (a ∷ attributes) plain (suc k) d within =
    IsRecordable-all attributes (λ i e inside. plain (suc i) e (omega arith)) k d (omega arith)

-- each token whose names are plain can be read back
pub IsToldWhole-told_by : {Z : Type 0} (token : Token Z) → HasPlainNames (told_by token) → IsToldWhole (told_by token)
IsToldWhole-told_by (DoctypeToken doctype) plain = record {
  name = IsShortIfAny-string_bytes doctype.name;
  public_id = IsShortIfAny-string_bytes doctype.public_id;
  system_id = IsShortIfAny-string_bytes doctype.system_id;
}
IsToldWhole-told_by (TagToken tag) plain = record {
  name = IsShort-string_bytes tag.name.0;
  count = rw (length-map tag.attrs.items attribute_of) (IsShort-items tag.attrs);
  attributes = IsRecordable-all tag.attrs.items plain;
}
IsToldWhole-told_by (CommentToken text) plain = IsShort-string_bytes text
IsToldWhole-told_by (ProcessingInstructionToken text) plain = IsShort-string_bytes text
IsToldWhole-told_by (CharacterTokens text) plain = AreLow-utf8 (string_bytes text) (IsUtf8-string_bytes text)
IsToldWhole-told_by NullCharacterToken plain = tt
IsToldWhole-told_by EOFToken plain = tt
IsToldWhole-told_by (ParseError message) plain = IsShort-message_bytes message
