-- What a record that was read tells.
use Rattle.std.specs.Prelude.{List, option_map}
use Rattle.markup5ever.specs.Names.{AttributeOf, plain_name}
use Rattle.html5ever_interface.specs.Sink.{Message}
use Rattle.html5ever_interface.specs.Token.{Told, TagOf, DoctypeOf}
use Rattle.html5ever_interface.specs.Token.Told.{Text, Null, Error, Tag, Comment, Instruction, Doctype, End}
use Rattle.html5records.specs.Reading.{attributes_in}
use Rattle.html5records.specs.declared.reading.Attributes.{Attributes}
use Rattle.html5records.specs.declared.reading.AttributeRecord.{AttributeRecord}
use Rattle.html5records.specs.declared.reading.TagRecord.{TagRecord}
use Rattle.html5records.specs.declared.reading.DoctypeRecord.{DoctypeRecord}
use Rattle.html5records.specs.declared.reading.TokenRecord.{TokenRecord}
use Rattle.html5records.specs.declared.reading.TokenRecord.TheVariants.{Doctype as ReadDoctype, Tag as ReadTag, Comment as ReadComment, ProcessingInstruction as ReadInstruction, Text as ReadText, NullCharacter as ReadNull, ParseError as ReadError, End as ReadEnd}
use Rattle.html5records.specs.declared.reading.Record.{Record}

abbrev pub attribute_in : AttributeRecord → AttributeOf
attribute_in attribute = record { name = plain_name attribute.name.now; value = attribute.value.now }

-- the attributes that are still to be read
abbrev pub attributes_of : Attributes → List AttributeOf
attributes_of attributes = attributes_in attributes.count attributes.bytes.now

abbrev pub tag_in : TagRecord → TagOf
tag_in tag = record {
  kind = tag.kind;
  name = tag.name.now;
  self_closing = tag.self_closing;
  attributes = attributes_of tag.attributes;
  had_duplicate_attributes = tag.had_duplicate_attributes;
}

abbrev pub doctype_in : DoctypeRecord → DoctypeOf
doctype_in doctype = record {
  name = option_map (λ text. text.now) doctype.name;
  public_id = option_map (λ text. text.now) doctype.public_id;
  system_id = option_map (λ text. text.now) doctype.system_id;
  force_quirks = doctype.force_quirks;
}

abbrev pub told_in : TokenRecord → Told
told_in (ReadDoctype doctype) = Doctype (doctype_in doctype)
told_in (ReadTag tag) = Tag (tag_in tag)
told_in (ReadComment text) = Comment text.now
told_in (ReadInstruction content) = Instruction content.now
told_in (ReadText text) = Text text.now
told_in ReadNull = Null
told_in (ReadError message) = Error message.now
told_in ReadEnd = End

abbrev pub message_in : Record → Message
message_in read = record { token = told_in read.token; line = read.line }
