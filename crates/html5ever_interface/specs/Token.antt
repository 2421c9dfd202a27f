-- What a sink is sent, and what it replies, in the words of contracts. Texts are the bytes of their UTF-8.
use Rattle.std.specs.Prelude.{◌≡◌, ℕ, Bool, true, false, List, Option, None, option_map, map, string_bytes, IsPermutation}
use Rattle.markup5ever.specs.Names.{AttributeOf, attribute_of}
use Rattle.html5ever_interface.specs.Message.{message_bytes}
use Rattle.html5ever_interface.specs.declared.interface.token.TagKind.{TagKind}
use Rattle.html5ever_interface.specs.declared.interface.token.Tag.{Tag as RustTag}
use Rattle.html5ever_interface.specs.declared.interface.token.Doctype.{Doctype as RustDoctype}
use Rattle.html5ever_interface.specs.declared.interface.token.Token.{Token}
use Rattle.html5ever_interface.specs.declared.interface.token.Token.TheVariants.{DoctypeToken, TagToken, CommentToken, ProcessingInstructionToken, CharacterTokens, NullCharacterToken, EOFToken, ParseError}
use Rattle.html5ever_interface.specs.declared.interface.token.TokenSinkResult.{TokenSinkResult}
use Rattle.html5ever_interface.specs.declared.interface.token.TokenSinkResult.TheVariants.{Continue, Script, Plaintext, RawData, EncodingIndicator}
use Rattle.html5ever_interface.specs.declared.states.RawKind.{RawKind}

-- a start tag or an end tag
pub record TagOf : Type 0 where
  pub kind : TagKind
  pub name : List ℕ
  pub self_closing : Bool
  pub attributes : List AttributeOf
  pub had_duplicate_attributes : Bool

-- a DOCTYPE
pub record DoctypeOf : Type 0 where
  pub name : Option (List ℕ)
  pub public_id : Option (List ℕ)
  pub system_id : Option (List ℕ)
  pub force_quirks : Bool

-- what a sink is sent
pub data Told : Type 0 where
  Text : List ℕ → Told
  Null : Told
  Error : List ℕ → Told
  Tag : TagOf → Told
  Comment : List ℕ → Told
  -- a processing instruction
  Instruction : List ℕ → Told
  Doctype : DoctypeOf → Told
  End : Told

-- a tag, in the words of contracts
abbrev pub tag_of : {Z : Type 0} → RustTag Z → TagOf
tag_of tag = record {
  kind = tag.kind;
  name = string_bytes tag.name.0;
  self_closing = tag.self_closing;
  attributes = map attribute_of tag.attrs.items;
  had_duplicate_attributes = tag.had_duplicate_attributes;
}

-- one kind, one name and the same attributes, each as often, in any order. The flags may differ.
pub record IsEquivalent (tag other : TagOf) : Type 0 where
  pub kind : tag.kind ≡ other.kind
  pub name : tag.name ≡ other.name
  pub attributes : IsPermutation tag.attributes other.attributes

-- a DOCTYPE, in the words of contracts
abbrev pub doctype_of : {Z : Type 0} → RustDoctype Z → DoctypeOf
doctype_of doctype = record {
  name = option_map string_bytes doctype.name;
  public_id = option_map string_bytes doctype.public_id;
  system_id = option_map string_bytes doctype.system_id;
  force_quirks = doctype.force_quirks;
}

-- a DOCTYPE with nothing in it
abbrev pub empty_doctype : DoctypeOf
empty_doctype = record { name = None; public_id = None; system_id = None; force_quirks = false }

-- the meaning of a token
abbrev pub told_by : {Z : Type 0} → Token Z → Told
told_by (DoctypeToken doctype) = Doctype (doctype_of doctype)
told_by (TagToken tag) = Tag (tag_of tag)
told_by (CommentToken text) = Comment (string_bytes text)
told_by (ProcessingInstructionToken text) = Instruction (string_bytes text)
told_by (CharacterTokens text) = Text (string_bytes text)
told_by NullCharacterToken = Null
told_by EOFToken = End
told_by (ParseError message) = Error (message_bytes message)

-- whether it is a tag
abbrev pub is_tag : Told → Bool
is_tag (Tag tag) = true
is_tag other = false

-- whether it is a text
abbrev pub is_text : Told → Bool
is_text (Text text) = true
is_text other = false

-- what a sink replies
pub data Reply (H : Type 0) : Type 0 where
  KeepOn : Reply H
  ReadPlainText : Reply H
  ReadRawData : RawKind → Reply H
  RunScript : H → Reply H
  SwitchEncoding : List ℕ → Reply H

-- whether a reply leaves the tokenizer's state as it is: reading goes on, at once or after a pause
abbrev pub keeps_state : {H : Type 0} → Reply H → Bool
keeps_state KeepOn = true
keeps_state ReadPlainText = false
keeps_state (ReadRawData kind) = false
keeps_state (RunScript handle) = true
keeps_state (SwitchEncoding text) = true

-- the meaning of a sink's reply, where `bytes` are those of a text
abbrev pub reply_of : {H T : Type 0} → (T → List ℕ) → TokenSinkResult H T → Reply H
reply_of bytes Continue = KeepOn
reply_of bytes (Script handle) = RunScript handle
reply_of bytes Plaintext = ReadPlainText
reply_of bytes (RawData kind) = ReadRawData kind
reply_of bytes (EncodingIndicator text) = SwitchEncoding (bytes text)
