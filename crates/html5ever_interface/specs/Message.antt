-- The messages of errors, in bytes.
use Rattle.std.specs.Prelude.{ℕ, List, codes, string_bytes}
use Rattle.html5ever_interface.specs.declared.interface.message.FixedMessage.{FixedMessage}
use Rattle.html5ever_interface.specs.declared.interface.message.FixedMessage.TheVariants.{BadCharacter, UnexpectedEof, AttributesOnEndTag, SelfClosingEndTag, DuplicateAttribute, MissingSemicolon, InvalidReference, NumberWithoutDigits, EofAfterNumberSign, EofInNumber, MissingSemicolonAfterNumber, InvalidNumber}
use Rattle.html5ever_interface.specs.declared.interface.message.ErrorMessage.{ErrorMessage}
use Rattle.html5ever_interface.specs.declared.interface.message.ErrorMessage.TheVariants.{Fixed, Named}

-- a message that names nothing of the text
abbrev pub fixed_text : FixedMessage → List ℕ
fixed_text BadCharacter = codes "Bad character"
fixed_text UnexpectedEof = codes "Unexpected EOF"
fixed_text AttributesOnEndTag = codes "Attributes on an end tag"
fixed_text SelfClosingEndTag = codes "Self-closing end tag"
fixed_text DuplicateAttribute = codes "Duplicate attribute"
fixed_text MissingSemicolon = codes "Character reference does not end with semicolon"
fixed_text InvalidReference = codes "Invalid character reference"
fixed_text NumberWithoutDigits = codes "Numeric character reference without digits"
fixed_text EofAfterNumberSign = codes "EOF after '#' in character reference"
fixed_text EofInNumber = codes "EOF in numeric character reference"
fixed_text MissingSemicolonAfterNumber = codes "Semicolon missing after numeric character reference"
fixed_text InvalidNumber = codes "Invalid numeric character reference"

abbrev pub message_bytes : {Z : Type 0} → ErrorMessage Z → List ℕ
message_bytes (Fixed message) = fixed_text message
message_bytes (Named text) = string_bytes text
