-- The tokens of a page as JSON: an object each.
use Rattle.std.specs.Prelude.{ℕ, List, [], ◌∷◌, Option, None, Some, codes, decimal, option_map}
use Rattle.html5errors.specs.CodeNames.{code_name}
use Rattle.html5errors.specs.Messages.{code_of_message}
use Rattle.html5ever_interface.specs.Token.{DoctypeOf, TagOf, Told}
use Rattle.html5ever_interface.specs.Token.Told.{Text, Null, Error, Tag, Comment, Instruction, Doctype, End}
use Rattle.html5ever_interface.specs.declared.interface.token.TagKind.{TagKind}
use Rattle.html5ever_interface.specs.declared.interface.token.TagKind.TheVariants.{StartTag, EndTag}
use Rattle.json.specs.Json.{Json, null, boolean, number, string, array, object, Items, no_items, item, Members, no_members, member}
use Rattle.json.specs.Token.{Token, key, string as string_token}
use Rattle.markup5ever.specs.Names.{AttributeOf}

-- a text, or null if there is none
abbrev pub json_of_option : Option (List ℕ) → Json
json_of_option None = null
json_of_option (Some text) = string text

-- an attribute: its name and its value
abbrev pub json_of_attribute : AttributeOf → Json
json_of_attribute attribute = array (item (string attribute.name.local) (item (string attribute.value) no_items))

-- attributes, in order
abbrev pub attribute_items : List AttributeOf → Items
attribute_items [] = no_items
attribute_items (attribute ∷ attributes) = item (json_of_attribute attribute) (attribute_items attributes)

-- a type, and these members after it
abbrev pub of_type : List ℕ → Members → Members
of_type kind members = member (codes "type") (string kind) members

-- and a line
abbrev pub on_line : List ℕ → ℕ → Members → Members
on_line kind line members = of_type kind (member (codes "line") (number (decimal line)) members)

-- what a text holds, and what else has a text and no more
abbrev pub text_members : List ℕ → Members
text_members text = member (codes "text") (string text) no_members

-- the type of a tag
abbrev pub kind_word : TagKind → List ℕ
kind_word StartTag = codes "start"
kind_word EndTag = codes "end"

-- what a tag holds
abbrev pub tag_members : TagOf → Members
tag_members tag =
    member (codes "name") (string tag.name) (
    member (codes "attributes") (array (attribute_items tag.attributes)) (
    member (codes "self_closing") (boolean tag.self_closing) no_members))

-- what a DOCTYPE holds
abbrev pub doctype_members : DoctypeOf → Members
doctype_members doctype =
    member (codes "name") (json_of_option doctype.name) (
    member (codes "public_id") (json_of_option doctype.public_id) (
    member (codes "system_id") (json_of_option doctype.system_id) (
    member (codes "force_quirks") (boolean doctype.force_quirks) no_members)))

-- the standard's code of a parse error by its message, if it has one
abbrev pub code_word : List ℕ → Option (List ℕ)
code_word message = option_map code_name (code_of_message message)

-- what a parse error holds: its message, and its code, or null
abbrev pub error_members : List ℕ → Members
error_members message =
    member (codes "message") (string message) (
    member (codes "code") (json_of_option (code_word message)) no_members)

-- what a token holds, on the line that the tokenizer has reached. A text has no line: it may stand on many.
abbrev pub token_members : Told → ℕ → Members
token_members (Text text) line = of_type (codes "text") (text_members text)
token_members Null line = on_line (codes "null") line no_members
token_members (Error message) line = on_line (codes "error") line (error_members message)
token_members (Tag tag) line = on_line (kind_word tag.kind) line (tag_members tag)
token_members (Comment text) line = on_line (codes "comment") line (text_members text)
token_members (Instruction text) line = on_line (codes "instruction") line (text_members text)
token_members (Doctype doctype) line = on_line (codes "doctype") line (doctype_members doctype)
token_members End line = on_line (codes "end_of_page") line no_members

-- a file that members are of, before them, if it is named
abbrev pub of_file : Option (List ℕ) → Members → Json
of_file None members = object members
of_file (Some file) members = object (member (codes "file") (string file) members)

-- how such an object goes on
abbrev pub file_tokens : Option (List ℕ) → List Token
file_tokens None = []
file_tokens (Some file) = key (codes "file") ∷ string_token file ∷ []

-- a token of a file
abbrev pub json_of_token : Option (List ℕ) → Told → ℕ → Json
json_of_token file told line = of_file file (token_members told line)
