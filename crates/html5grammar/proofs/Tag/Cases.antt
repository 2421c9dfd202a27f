-- Worked cases of one tag, by a table of two names.
use Rattle.std.specs.Prelude.{◌≡◌, ℕ, Bool, true, false, List, [], ◌∷◌, map, codes, refl, None}
use Rattle.html5ever_interface.specs.Sink.{Message}
use Rattle.html5ever_interface.specs.Token.{Told}
use Rattle.html5ever_interface.specs.Token.Told.{Error, Tag, End}
use Rattle.html5ever_interface.specs.declared.interface.token.TagKind.{TagKind}
use Rattle.html5ever_interface.specs.declared.interface.token.TagKind.TheVariants.{StartTag, EndTag}
use Rattle.html5reading.specs.Start.{Input}
use Rattle.html5reading.specs.Tag.{attribute}
use Rattle.html5grammar.specs.Tag.{WrittenTag, written, is_written, tag_messages}
use Rattle.html5grammar.specs.Tag.Part.{Blank, Solidus, Name, Attribute}
use Rattle.html5grammar.specs.Tag.Value.{InDoubleQuotes, InSingleQuotes, Bare}
use Rattle.markup5ever.specs.Names.{AttributeOf}
use Rattle.html5reading.specs.Reference.{reference}
use Rattle.markup5ever.specs.NamedReferences.{NamedReference}
use Rattle.html5grammar.proofs.OnLiterals.{tag_item_on_literals}

abbrev input : Input
input = record { line = 1; after_carriage_return = false; drops_byte_order_mark = true }

abbrev references : List NamedReference
references = record { name = codes "amp;"; first = 0x26; second = None } ∷ record { name = codes "amp"; first = 0x26; second = None } ∷ []

abbrev tag : TagKind → List ℕ → List AttributeOf → Bool → Bool → Told
tag kind name attributes self_closing duplicates = Tag (record { kind = kind; name = name; self_closing = self_closing; attributes = attributes; had_duplicate_attributes = duplicates })

-- a tag's text, whether it is written out, what it tells, and on which lines
record Case (exact : Bool) (tag : WrittenTag) (text : List ℕ) (told : List Told) (lines : List ℕ) : Type 0 where
  written : written tag ≡ text
  is_written : is_written tag ≡ true
  tokens : map (λ (m : Message). m.token) (tag_messages (record { exact = exact; references = references }) input tag) ≡ told
  on_lines : map (λ (m : Message). m.line) (tag_messages (record { exact = exact; references = references }) input tag) ≡ lines

abbrev div-tag : WrittenTag
div-tag = record { kind = StartTag; first = 68; rest = (codes "IV"); parts = Blank 32 ∷ Attribute 67 (codes "LASS") [] [] (Bare (codes "a")) ∷ Blank 32 ∷ Attribute 99 (codes "lass") [] [] (Bare (codes "b/")) ∷ [] }

div : Case false div-tag (codes "<DIV CLASS=a class=b/>") (Error (codes "Duplicate attribute") ∷ tag StartTag (codes "div") (attribute (codes "class") (codes "a") ∷ []) false true ∷ End ∷ []) (1 ∷ 1 ∷ 1 ∷ [])
unfolding tag_item_on_literals
div = record { written = refl; is_written = refl; tokens = refl; on_lines = refl }

abbrev end_tag-tag : WrittenTag
end_tag-tag = record { kind = EndTag; first = 97; rest = []; parts = Blank 32 ∷ Name 98 [] ∷ Solidus ∷ [] }

end_tag : Case false end_tag-tag (codes "</a b/>") (Error (codes "Attributes on an end tag") ∷ Error (codes "Self-closing end tag") ∷ tag EndTag (codes "a") (attribute (codes "b") [] ∷ []) true false ∷ End ∷ []) (1 ∷ 1 ∷ 1 ∷ 1 ∷ [])
unfolding tag_item_on_literals
end_tag = record { written = refl; is_written = refl; tokens = refl; on_lines = refl }

abbrev no_value-tag : WrittenTag
no_value-tag = record { kind = StartTag; first = 97; rest = []; parts = Blank 32 ∷ Attribute 98 [] [] [] (Bare []) ∷ [] }

no_value : Case false no_value-tag (codes "<a b=>") (Error (codes "Saw = in state BeforeAttributeValue") ∷ tag StartTag (codes "a") (attribute (codes "b") [] ∷ []) false false ∷ End ∷ []) (1 ∷ 1 ∷ 1 ∷ [])
unfolding tag_item_on_literals
no_value = record { written = refl; is_written = refl; tokens = refl; on_lines = refl }

abbrev no_value_exact-tag : WrittenTag
no_value_exact-tag = record { kind = StartTag; first = 97; rest = []; parts = Blank 32 ∷ Attribute 98 [] [] [] (Bare []) ∷ [] }

no_value_exact : Case true no_value_exact-tag (codes "<a b=>") (Error (codes "Bad character") ∷ tag StartTag (codes "a") (attribute (codes "b") [] ∷ []) false false ∷ End ∷ []) (1 ∷ 1 ∷ 1 ∷ [])
unfolding tag_item_on_literals
no_value_exact = record { written = refl; is_written = refl; tokens = refl; on_lines = refl }

abbrev after_quotes-tag : WrittenTag
after_quotes-tag = record { kind = StartTag; first = 97; rest = []; parts = Blank 32 ∷ Attribute 98 [] [] [] (InDoubleQuotes (codes "1")) ∷ Attribute 99 [] [] [] (InSingleQuotes (codes "2")) ∷ Name 99 [] ∷ [] }

after_quotes : Case false after_quotes-tag (codes "<a b=\"1\"c='2'c>") (Error (codes "Saw c in state AfterAttributeValueQuoted") ∷ Error (codes "Saw c in state AfterAttributeValueQuoted") ∷ Error (codes "Duplicate attribute") ∷ tag StartTag (codes "a") (attribute (codes "b") (codes "1") ∷ attribute (codes "c") (codes "2") ∷ []) false true ∷ End ∷ []) (1 ∷ 1 ∷ 1 ∷ 1 ∷ 1 ∷ [])
unfolding tag_item_on_literals
after_quotes = record { written = refl; is_written = refl; tokens = refl; on_lines = refl }

abbrev after_solidus-tag : WrittenTag
after_solidus-tag = record { kind = StartTag; first = 97; rest = []; parts = Solidus ∷ Attribute 98 [] [] [] (Bare (codes "1")) ∷ [] }

after_solidus : Case false after_solidus-tag (codes "<a/b=1>") (Error (codes "Saw b in state SelfClosingStartTag") ∷ tag StartTag (codes "a") (attribute (codes "b") (codes "1") ∷ []) false false ∷ End ∷ []) (1 ∷ 1 ∷ 1 ∷ [])
unfolding tag_item_on_literals
after_solidus = record { written = refl; is_written = refl; tokens = refl; on_lines = refl }

abbrev equals_first-tag : WrittenTag
equals_first-tag = record { kind = StartTag; first = 97; rest = []; parts = Blank 32 ∷ Attribute 61 (codes "x") (codes " ") [] (Bare (codes "y")) ∷ [] }

equals_first : Case false equals_first-tag (codes "<a =x =y>") (Error (codes "Saw = in state BeforeAttributeName") ∷ tag StartTag (codes "a") (attribute (codes "=x") (codes "y") ∷ []) false false ∷ End ∷ []) (1 ∷ 1 ∷ 1 ∷ [])
unfolding tag_item_on_literals
equals_first = record { written = refl; is_written = refl; tokens = refl; on_lines = refl }

abbrev line_break-tag : WrittenTag
line_break-tag = record { kind = StartTag; first = 97; rest = []; parts = Blank 32 ∷ Name 98 [] ∷ Blank 32 ∷ Name 98 [] ∷ Blank 10 ∷ Attribute 99 [] (codes "\n") (codes "\n") (InSingleQuotes (codes "d\n")) ∷ [] }

line_break : Case false line_break-tag (codes "<a b b\nc\n=\n'd\n'>") (Error (codes "Duplicate attribute") ∷ tag StartTag (codes "a") (attribute (codes "b") [] ∷ attribute (codes "c") (codes "d\n") ∷ []) false true ∷ End ∷ []) (2 ∷ 5 ∷ 5 ∷ [])
unfolding tag_item_on_literals
line_break = record { written = refl; is_written = refl; tokens = refl; on_lines = refl }

abbrev bad_characters-tag : WrittenTag
bad_characters-tag = record { kind = EndTag; first = 97; rest = (codes "\0\u{1}"); parts = Blank 32 ∷ Name 0 (codes "\"") ∷ [] }

bad_characters : Case true bad_characters-tag (codes "</a\0\u{1} \0\">") (Error (codes "Bad character") ∷ Error (codes "Bad character \u{1}") ∷ Error (codes "Bad character") ∷ Error (codes "Bad character") ∷ Error (codes "Attributes on an end tag") ∷ tag EndTag (97 ∷ 239 ∷ 191 ∷ 189 ∷ 1 ∷ []) (attribute (239 ∷ 191 ∷ 189 ∷ 34 ∷ []) [] ∷ []) false false ∷ End ∷ []) (1 ∷ 1 ∷ 1 ∷ 1 ∷ 1 ∷ 1 ∷ 1 ∷ [])
unfolding tag_item_on_literals
bad_characters = record { written = refl; is_written = refl; tokens = refl; on_lines = refl }

abbrev reference-tag : WrittenTag
reference-tag = record { kind = StartTag; first = 97; rest = []; parts = Blank 32 ∷ Attribute 104 (codes "ref") [] [] (InDoubleQuotes (codes "?x&amp;y")) ∷ [] }

a_reference : Case false reference-tag (codes "<a href=\"?x&amp;y\">") (tag StartTag (codes "a") (attribute (codes "href") (codes "?x&y") ∷ []) false false ∷ End ∷ []) (1 ∷ 1 ∷ [])
unfolding tag_item_on_literals
a_reference = record { written = refl; is_written = refl; tokens = refl; on_lines = refl }

abbrev no_reference-tag : WrittenTag
no_reference-tag = record { kind = StartTag; first = 97; rest = []; parts = Blank 32 ∷ Attribute 104 (codes "ref") [] [] (InDoubleQuotes (codes "?x&y")) ∷ [] }

no_reference : Case false no_reference-tag (codes "<a href=\"?x&y\">") (tag StartTag (codes "a") (attribute (codes "href") (codes "?x&y") ∷ []) false false ∷ End ∷ []) (1 ∷ 1 ∷ [])
unfolding tag_item_on_literals
no_reference = record { written = refl; is_written = refl; tokens = refl; on_lines = refl }

abbrev unended-tag : WrittenTag
unended-tag = record { kind = StartTag; first = 97; rest = []; parts = Blank 32 ∷ Attribute 98 [] [] [] (Bare (codes "&amp=&amp")) ∷ [] }

unended : Case false unended-tag (codes "<a b=&amp=&amp>") (Error (codes "Character reference does not end with semicolon") ∷ tag StartTag (codes "a") (attribute (codes "b") (codes "&amp=&") ∷ []) false false ∷ End ∷ []) (1 ∷ 1 ∷ 1 ∷ [])
unfolding tag_item_on_literals
unended = record { written = refl; is_written = refl; tokens = refl; on_lines = refl }
