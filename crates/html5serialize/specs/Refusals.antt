-- Why a token can't be written.
use Rattle.std.specs.Prelude.{ℕ, ◌+◌, not, List, [], ◌∷◌, ◌&&◌, ◌==◌, Option, None, Some, option_map, if◌then◌else◌}
use Rattle.std.specs.List.{list_all}
use Rattle.std.specs.Option.{option_or, is_none}
use Rattle.html5ever_interface.specs.Token.{Told, TagOf, DoctypeOf}
use Rattle.html5ever_interface.specs.Token.Told.{Text, Tag, Comment, Instruction, Doctype}
use Rattle.html5reading.specs.Characters.{null}
use Rattle.html5serialize.specs.Doctypes.{is_markup_character, is_name, is_identifier_or_none}
use Rattle.html5serialize.specs.Tags.{is_unqualified, is_attribute_name, differs_from}
use Rattle.html5serialize.specs.Tokens.{is_comment_text}
use Rattle.html5serialize.specs.declared.error.SerializeError.{SerializeError}
use Rattle.html5serialize.specs.declared.error.SerializeError.TheVariants.{NullInText, TagName, QualifiedName, AttributeName, NullInValue, Repeated, CommentText, InstructionContent, NamelessDoctype, DoctypeName, PublicIdentifier, SystemIdentifier}
use Rattle.html5write.specs.Pieces.{is_tag_name}
use Rattle.markup5ever.specs.Names.{AttributeOf}

-- the byte at which the first NUL of a text stands, where the text begins at byte `at`
unfoldable pub null_from : ℕ → List ℕ → Option ℕ
null_from at [] = None
null_from at (b ∷ text) = if b == null then Some at else null_from (at + 1) text

-- the first of these attributes that has the name of `a`, where they are counted from `index`
unfoldable pub repeat_from : AttributeOf → ℕ → List AttributeOf → Option ℕ
repeat_from a index [] = None
repeat_from a index (other ∷ later) = if differs_from a other then repeat_from a (index + 1) later else Some index

-- what is wrong with an attribute by itself
unfoldable pub attribute_refusal : ℕ → AttributeOf → Option SerializeError
attribute_refusal index a =
    if not (is_unqualified a.name) then Some (QualifiedName index)
    else if not (is_attribute_name a.name.local) then Some (AttributeName index)
    else option_map (λ at. NullInValue index at) (null_from 0 a.value)

-- the first thing that is wrong with attributes, where they are counted from `index`
unfoldable pub attributes_refusal : ℕ → List AttributeOf → Option SerializeError
attributes_refusal index [] = None
attributes_refusal index (a ∷ later) =
    option_or (attribute_refusal index a)
    (option_or (option_map Repeated (repeat_from a (index + 1) later)) (attributes_refusal (index + 1) later))

unfoldable pub tag_refusal : TagOf → Option SerializeError
tag_refusal tag = if is_tag_name tag.name then attributes_refusal 0 tag.attributes else Some TagName

-- what is wrong with a doctype that has a name
unfoldable pub named_refusal : DoctypeOf → List ℕ → Option SerializeError
named_refusal d name =
    if not (is_name name) then Some DoctypeName
    else if not (is_identifier_or_none d.public_id) then Some PublicIdentifier
    else if not (is_identifier_or_none d.system_id) then Some SystemIdentifier
    else None

unfoldable pub doctype_refusal : DoctypeOf → Option (List ℕ) → Option SerializeError
doctype_refusal d None = if d.force_quirks && (is_none d.public_id && is_none d.system_id) then None else Some NamelessDoctype
doctype_refusal d (Some name) = named_refusal d name

abbrev pub comment_refusal : List ℕ → Option SerializeError
comment_refusal text = if is_comment_text text then None else Some CommentText

abbrev pub instruction_refusal : List ℕ → Option SerializeError
instruction_refusal content = if list_all is_markup_character content then None else Some InstructionContent

-- of several reasons the first in the order of the text
unfoldable pub refusal_of : Told → Option SerializeError
refusal_of (Text text) = option_map NullInText (null_from 0 text)
refusal_of (Tag tag) = tag_refusal tag
refusal_of (Comment text) = comment_refusal text
refusal_of (Instruction content) = instruction_refusal content
refusal_of (Doctype d) = doctype_refusal d d.name
refusal_of other = None
