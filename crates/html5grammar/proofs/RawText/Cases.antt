-- Worked cases of raw text.
use Rattle.std.specs.Prelude.{◌≡◌, ℕ, Bool, true, false, List, [], ◌∷◌, ◌++◌, map, codes, refl, Option, None, Some}
use Rattle.html5ever_interface.specs.Sink.{Message, on_line}
use Rattle.html5ever_interface.specs.Token.{Told}
use Rattle.html5ever_interface.specs.Token.Told.{Text, Error, Tag, End}
use Rattle.html5ever_interface.specs.declared.interface.token.TagKind.TheVariants.{EndTag}
use Rattle.html5reading.specs.NormalisedText.{normalised}
use Rattle.html5grammar.specs.Tag.{Part, WrittenTag}
use Rattle.html5grammar.specs.Tag.Part.{Blank, Attribute}
use Rattle.html5grammar.specs.Tag.Value.{Bare}
use Rattle.html5reading.specs.RawText.{texts}
use Rattle.html5reading.specs.Start.{Raw, Input}
use Rattle.html5reading.specs.Start.Raw.{Rcdata, Rawtext, ScriptData}
use Rattle.html5reading.specs.Tag.{attribute}
use Rattle.html5grammar.specs.RawText.{RawItem, WrittenRaw, written, is_raw, raw_messages}
use Rattle.html5grammar.specs.RawText.RawItem.{Character, LessThan, Letters, Mark, Switch}
use Rattle.markup5ever.specs.Names.{AttributeOf}
use Rattle.html5grammar.proofs.OnLiterals.{raw_item_on_literals}

abbrev input : Input
input = record { line = 1; after_carriage_return = false; drops_byte_order_mark = true }

abbrev characters : List ℕ → List RawItem
characters run = map Character run

abbrev end_tag : ℕ → List ℕ → List Part → Option WrittenTag
end_tag first rest parts = Some (record { kind = EndTag; first = first; rest = rest; parts = parts })

abbrev tag : List ℕ → List AttributeOf → Bool → Told
tag name attributes self_closing = Tag (record { kind = EndTag; name = name; self_closing = self_closing; attributes = attributes; had_duplicate_attributes = false })

-- a text, how it is written, and its messages
record Case (exact : Bool) (raw : Raw) (name : List ℕ) (written_as : WrittenRaw) (X : List ℕ) (M : List Message) : Type 0 where
  text : normalised input X ≡ written raw written_as
  is_raw : is_raw name raw written_as ≡ true
  messages : raw_messages (record { exact = exact; references = [] }) input raw written_as ≡ M

title : Case false Rcdata (codes "title") (record { items = Character 97 ∷ LessThan ∷ Character 98 ∷ Letters (codes "x") ∷ Character 62 ∷ []; end_tag = end_tag 116 (codes "itle") (Blank 10 ∷ []) }) (codes "a<b</x></title\n>")
    (on_line 1 (texts (codes "a<b</x>")) ++ on_line 2 (tag (codes "title") [] false ∷ End ∷ []))
unfolding raw_item_on_literals
title = record { text = refl; is_raw = refl; messages = refl }

style : Case false Rawtext (codes "style") (record { items = characters (codes "&lt;\n") ++ Letters (codes "styles") ∷ Character 62 ∷ []; end_tag = end_tag 83 (codes "TYLE") (Blank 32 ∷ Attribute 97 [] [] [] (Bare (codes "b/")) ∷ []) }) (codes "&lt;\r\n</styles></STYLE a=b/>")
    (on_line 1 (texts (codes "&lt;")) ++ on_line 2 (texts (codes "\n</styles>") ++ Error (codes "Attributes on an end tag") ∷ tag (codes "style") (attribute (codes "a") (codes "b/") ∷ []) false ∷ End ∷ []))
unfolding raw_item_on_literals
style = record { text = refl; is_raw = refl; messages = refl }

letters_at_end : Case true Rcdata (codes "title") (record { items = Character 0 ∷ LessThan ∷ Character 1 ∷ Letters (codes "ab") ∷ Character 1 ∷ Letters (codes "title") ∷ []; end_tag = None }) (codes "\0<\u{1}</ab\u{1}</title")
    (on_line 1 (Error (codes "Bad character") ∷ Text (239 ∷ 191 ∷ 189 ∷ []) ∷ Error (codes "Bad character \u{1}") ∷ (texts (codes "<\u{1}") ++ (Error (codes "Bad character \u{1}") ∷ (texts (codes "</ab\u{1}</title") ++ End ∷ [])))))
unfolding raw_item_on_literals
letters_at_end = record { text = refl; is_raw = refl; messages = refl }

no_letters_at_end : Case false Rawtext (codes "style") (record { items = LessThan ∷ characters (codes "!--") ++ Letters [] ∷ []; end_tag = None }) (codes "<!--</")
    (on_line 1 (texts (codes "<!--</") ++ End ∷ []))
unfolding raw_item_on_literals
no_letters_at_end = record { text = refl; is_raw = refl; messages = refl }

marked : Case false ScriptData (codes "script") (record { items = Character 97 ∷ Mark ∷ characters (codes "\0-->b"); end_tag = end_tag 115 (codes "cript") [] }) (codes "a<!--\0-->b</script>")
    (on_line 1 (texts (codes "a<!--") ++ (Error (codes "Saw \0 in state ScriptDataEscapedDashDash(Escaped)") ∷ Text (239 ∷ 191 ∷ 189 ∷ []) ∷ (texts (codes "-->b") ++ tag (codes "script") [] false ∷ End ∷ []))))
unfolding raw_item_on_literals
marked = record { text = refl; is_raw = refl; messages = refl }

mark_at_end : Case true ScriptData (codes "script") (record { items = Mark ∷ Character 10 ∷ []; end_tag = None }) (codes "<!--\n")
    (on_line 1 (texts (codes "<!--")) ++ on_line 2 (texts (codes "\n") ++ Error (codes "Unexpected EOF") ∷ End ∷ []))
unfolding raw_item_on_literals
mark_at_end = record { text = refl; is_raw = refl; messages = refl }

no_mark : Case false ScriptData (codes "script") (record { items = LessThan ∷ characters (codes "!-") ++ LessThan ∷ Character 33 ∷ LessThan ∷ LessThan ∷ characters (codes "!-"); end_tag = None }) (codes "<!-<!<<!-")
    (on_line 1 (texts (codes "<!-<!<<!-") ++ End ∷ []))
unfolding raw_item_on_literals
no_mark = record { text = refl; is_raw = refl; messages = refl }

switches : Case false ScriptData (codes "script") (record { items = Mark ∷ Switch (codes "sCript") 62 ∷ Switch (codes "script") 62 ∷ Character 10 ∷ []; end_tag = end_tag 115 (codes "cript") [] }) (codes "<!--<sCript></script>\n</script>")
    (on_line 1 (texts (codes "<!--<sCript></script>")) ++ on_line 2 (texts (codes "\n") ++ tag (codes "script") [] false ∷ End ∷ []))
unfolding raw_item_on_literals
switches = record { text = refl; is_raw = refl; messages = refl }

switches_nothing : Case false ScriptData (codes "script") (record { items = Mark ∷ Switch (codes "a") 32 ∷ LessThan ∷ characters (codes "b\0") ++ Switch (codes "scriptx") 62 ∷ LessThan ∷ characters (codes "script"); end_tag = None }) (codes "<!--<a <b\0<scriptx><script")
    (on_line 1 (texts (codes "<!--<a <b") ++ (Error (codes "Saw \0 in state RawData(ScriptDataEscaped(Escaped))") ∷ Text (239 ∷ 191 ∷ 189 ∷ []) ∷ (texts (codes "<scriptx><script") ++ Error (codes "Saw EOF in state RawData(ScriptDataEscaped(DoubleEscaped))") ∷ End ∷ []))))
unfolding raw_item_on_literals
switches_nothing = record { text = refl; is_raw = refl; messages = refl }

dashes : Case true ScriptData (codes "script") (record { items = Mark ∷ Switch (codes "script") 32 ∷ characters (codes "-\0--\0") ++ Switch (codes "script") 47 ∷ Character 45 ∷ []; end_tag = None }) (codes "<!--<script -\0--\0</script/-")
    (on_line 1 (texts (codes "<!--<script -") ++ (Error (codes "Bad character") ∷ Text (239 ∷ 191 ∷ 189 ∷ []) ∷ (texts (codes "--") ++ (Error (codes "Bad character") ∷ Text (239 ∷ 191 ∷ 189 ∷ []) ∷ (texts (codes "</script/-") ++ Error (codes "Unexpected EOF") ∷ End ∷ []))))))
unfolding raw_item_on_literals
dashes = record { text = refl; is_raw = refl; messages = refl }

left : Case false ScriptData (codes "script") (record { items = Mark ∷ Switch (codes "script") 62 ∷ characters (codes "-->\0"); end_tag = end_tag 115 (codes "cript") [] }) (codes "<!--<script>-->\0</script>")
    (on_line 1 (texts (codes "<!--<script>-->") ++ Error (codes "Saw \0 in state RawData(ScriptData)") ∷ Text (239 ∷ 191 ∷ 189 ∷ []) ∷ tag (codes "script") [] false ∷ End ∷ []))
unfolding raw_item_on_literals
left = record { text = refl; is_raw = refl; messages = refl }

escaped_less_than : Case false ScriptData (codes "script") (record { items = Mark ∷ LessThan ∷ []; end_tag = None }) (codes "<!--<")
    (on_line 1 (texts (codes "<!--<") ++ Error (codes "Saw EOF in state RawData(ScriptDataEscaped(Escaped))") ∷ End ∷ []))
unfolding raw_item_on_literals
escaped_less_than = record { text = refl; is_raw = refl; messages = refl }

double_escaped_less_than : Case false ScriptData (codes "script") (record { items = Mark ∷ Switch (codes "script") 62 ∷ LessThan ∷ characters (codes "/a") ++ LessThan ∷ []; end_tag = None }) (codes "<!--<script></a<")
    (on_line 1 (texts (codes "<!--<script></a<") ++ Error (codes "Saw EOF in state RawData(ScriptDataEscaped(DoubleEscaped))") ∷ End ∷ []))
unfolding raw_item_on_literals
double_escaped_less_than = record { text = refl; is_raw = refl; messages = refl }

escaped_letters : Case true ScriptData (codes "script") (record { items = Mark ∷ LessThan ∷ Character 1 ∷ Letters (codes "scrip") ∷ Character 1 ∷ Letters (codes "script") ∷ []; end_tag = None }) (codes "<!--<\u{1}</scrip\u{1}</script")
    (on_line 1 (texts (codes "<!--") ++ (Error (codes "Bad character \u{1}") ∷ (texts (codes "<\u{1}") ++ (Error (codes "Bad character \u{1}") ∷ (texts (codes "</scrip\u{1}</script") ++ Error (codes "Unexpected EOF") ∷ End ∷ []))))))
unfolding raw_item_on_literals
escaped_letters = record { text = refl; is_raw = refl; messages = refl }
