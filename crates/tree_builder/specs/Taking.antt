-- A token that is processed row after row. These are words of the proofs.
use Rattle.std.specs.Prelude.{Bool, true, false, not, Option, Some, None, ◌&&◌, ◌||◌}
use Rattle.html5ever_interface.specs.Token.{doctype_of}
use Rattle.tree_construction.specs.declared.kinds.Kind.{Kind}
use Rattle.tree_construction.specs.Construction.{is_math_glyph, is_svg_root}
use Rattle.tree_construction.specs.Names.{is_annotation, is_html, is_html_point, is_math_text_point}
use Rattle.tree_construction.specs.Parser.{Again, Parser}
use Rattle.tree_construction.specs.Tokens.{Token}
use Rattle.tree_construction.specs.Tokens.Token.{Doctype, EndTag, Comment, EndOfFile}
use Rattle.tree_names.specs.ElementNames.{name_bytes}
use Rattle.tree_builder.specs.Built.{unfostered}
use Rattle.tree_builder.specs.declared.tokens.OtherToken.{OtherToken}
use Rattle.tree_builder.specs.declared.tokens.OtherToken.TheVariants.{EndTag as EndTagOf, Comment as CommentOf, Doctype as DoctypeOf, EndOfFile as EndOfFileOf}

-- whether a start tag is processed as HTML content: by the kind of the adjusted current node, and that of the tag
abbrev pub takes_start : Kind → Kind → Bool
takes_start kind tag =
    is_html kind || (is_math_text_point kind && not (is_math_glyph tag)) || (is_annotation kind && is_svg_root tag) || is_html_point kind

-- "disable foster parenting", if it was enabled for the token
abbrev pub unfostered_if : Bool → Parser → Parser
unfostered_if true p = unfostered p
unfostered_if false p = p

-- after a row: the token is done with, or processed again, and then foster parenting may have to be disabled
abbrev pub after_turn : Again → Option Bool → Parser → Token → Parser
after_turn again None p token = p
after_turn again (Some fostered) p token = unfostered_if fostered (again p token)

-- the token of the definition
abbrev pub other_token : {Z : Type 0} → OtherToken Z → Token
other_token (EndTagOf name) = EndTag (name_bytes name.now)
other_token (CommentOf text) = Comment text.now
other_token (DoctypeOf doctype) = Doctype (doctype_of doctype.now)
other_token EndOfFileOf = EndOfFile
