-- The tree of a text: what the tokenizer's messages and the parser's requests build together. The tokenizer asks the parser after each
-- message: how to read on, and whether `<![CDATA[` begins a section.
use Rattle.std.specs.Prelude.{ℕ, Bool, true, false, List, [], Option, None, Some}
use Rattle.html5ever_interface.specs.Sink.{Message, stepped}
use Rattle.html5ever_interface.specs.Token.{Told, Reply}
use Rattle.html5ever_interface.specs.Token.Told.{Tag}
use Rattle.html5ever_interface.specs.Token.Reply.{KeepOn, ReadPlainText, ReadRawData, RunScript, SwitchEncoding}
use Rattle.html5reading.specs.Reading.{Event, messages, reading, told as told_of_text}
use Rattle.html5reading.specs.Start.{Rules, Start, raw_of}
use Rattle.html5reading.specs.Start.Mode.{Data, Plain, RawText}
use Rattle.html5reading.specs.Start.{Mode}
use Rattle.html5reading.specs.Start.Open.{Between}
use Rattle.tree_construction.specs.Parser.{Context, Options, Parser, Request}
use Rattle.tree_construction.specs.Parser.Request.{GoOn, ReadRaw, ReadPlain, Run, UseCharset, UseContent}
use Rattle.tree_construction.specs.Construction.{is_foreign, start, start_request, told}
use Rattle.tree_construction.specs.Document.{Tree, tree_in}

abbrev pub taken_by : Parser → Told → ℕ → Parser
taken_by p message line = told message p

-- a request as a reply of a sink; that of a `meta` has the value of its attribute
unfoldable pub reply_of : Request → Reply ℕ
reply_of GoOn = KeepOn
reply_of (ReadRaw kind) = ReadRawData kind
reply_of ReadPlain = ReadPlainText
reply_of (Run n) = RunScript n
reply_of (UseCharset charset) = SwitchEncoding charset
reply_of (UseContent content) = SwitchEncoding content

-- only a tag asks for something
abbrev pub replied_by : Parser → Told → ℕ → Reply ℕ
replied_by p (Tag tag) line = reply_of (told (Tag tag) p).request
replied_by p message line = KeepOn

-- ---- where a text starts

-- A fragment may start in raw text. No tag stands before it, so no end tag ends that text.
unfoldable pub mode_of_request : Request → Mode
mode_of_request (ReadRaw kind) = RawText (raw_of kind) []
mode_of_request ReadPlain = Plain
mode_of_request other = Data

abbrev pub text_start : Options → Start
text_start options = record {
  opened = Between (mode_of_request (start_request options));
  last_start_tag = [];
  input = record { line = 1; after_carriage_return = false; drops_byte_order_mark = false };
}

-- ---- the tree

-- the messages of a whole text, and those that its characters decide, which are sent however the text goes on
abbrev pub messages_of_text : Options → Rules → List ℕ → List Message
messages_of_text options rules text = messages (reading taken_by replied_by is_foreign rules (text_start options) (start options) text)

abbrev pub messages_so_far : Options → Rules → List ℕ → List Message
messages_so_far options rules text = messages (told_of_text taken_by replied_by is_foreign rules (text_start options) (start options) text)

-- the parser after these messages
abbrev pub parser_after : Options → List Message → Parser
parser_after options messages = stepped taken_by (start options) messages

abbrev pub parser_of_text : Options → Rules → List ℕ → Parser
parser_of_text options rules text = parser_after options (messages_of_text options rules text)

abbrev pub parser_so_far : Options → Rules → List ℕ → Parser
parser_so_far options rules text = parser_after options (messages_so_far options rules text)

-- a fragment stands in its root element, which is the first node
abbrev pub root_of : Option Context → ℕ
root_of None = 0
root_of (Some context) = 3

-- the tree of a whole text, its characters as code points: a document, or a fragment by its context
abbrev pub tree_of_text : Options → Rules → List ℕ → Tree
tree_of_text options rules text = tree_in (root_of options.context) (parser_of_text options rules text).page.edits
