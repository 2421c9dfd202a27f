-- The texts of a program's token are UTF-8.
use Rattle.std.proofs.Common.{List, [], ◌∷◌, Option, None, Some, map}
use Rattle.std.specs.Prelude.{String, string_bytes, option_map}
use Rattle.std.proofs.lemmas.Str.{IsUtf8-string_bytes}
use Rattle.html5ever_interface.specs.Token.{told_by}
use Rattle.html5ever_interface.specs.declared.interface.token.Token.{Token}
use Rattle.html5ever_interface.specs.declared.interface.token.Token.TheVariants.{DoctypeToken, TagToken, CommentToken, ProcessingInstructionToken, CharacterTokens, NullCharacterToken, EOFToken, ParseError}
use Rattle.html5serialize.specs.ReadBack.{AreAttributeTexts, HasTexts, IsTextOrNone}
use Rattle.markup5ever.specs.Names.{attribute_of}
use Rattle.markup5ever.specs.declared.interface.Attribute.{Attribute}

texts-attributes : {Z : Type 0} (attributes : List (Attribute Z)) → AreAttributeTexts (map attribute_of attributes)
texts-attributes [] = tt
texts-attributes (a ∷ attributes) = ((IsUtf8-string_bytes a.name.local.0, IsUtf8-string_bytes a.value), texts-attributes attributes)

texts-option : {Z : Type 0} (text : Option (String Z)) → IsTextOrNone (option_map string_bytes text)
texts-option None = tt
texts-option (Some text) = IsUtf8-string_bytes text

pub texts-token : {Z : Type 0} (token : Token Z) → HasTexts (told_by token)
texts-token (DoctypeToken d) = (texts-option d.name, texts-option d.public_id, texts-option d.system_id)
texts-token (TagToken tag) = (IsUtf8-string_bytes tag.name.0, texts-attributes tag.attrs.items)
texts-token (CommentToken text) = IsUtf8-string_bytes text
texts-token (ProcessingInstructionToken text) = IsUtf8-string_bytes text
texts-token (CharacterTokens text) = IsUtf8-string_bytes text
texts-token NullCharacterToken = tt
texts-token EOFToken = tt
texts-token (ParseError message) = tt
