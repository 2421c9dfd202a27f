-- An element as a handler amends it at its start tag, and what each call makes of it.
use Rattle.std.specs.Prelude.{ℕ, Bool, true, false, not, List, [], ◌++◌, Option, None, Some, ◌&&◌, ◌||◌, encode_utf8_all, unwrap_or, if◌then◌else◌}
use Rattle.std.specs.Option.{is_some}
use Rattle.html5elements.specs.Hidden.{has_content}
use Rattle.html5ever_interface.specs.Token.{TagOf}
use Rattle.html5rewrite.specs.Edits.{value_of, with_attribute, without_attribute}
use Rattle.html5serialize.specs.RawTexts.{end_text}
use Rattle.html5serialize.specs.Tags.{tag_text}
use Rattle.html5splice.specs.Edits.{EditOf}
use Rattle.html5splice.specs.Edits.EditOf.{Keep, Replace}
use Rattle.html5amend.specs.Parts.{PartOf, is_as_it_is}

pub record ElementOf : Type 0 where
  -- its start tag, with the name and the attributes that it is given
  pub tag : TagOf
  -- the name that it has in the page, if it is given another
  pub page_name : Option (List ℕ)
  -- whether something can stand in it
  pub has_content : Bool
  -- whether its start tag is written anew
  pub is_new : Bool
  pub drops_tags : Bool
  pub drops_content : Bool
  -- what is put before its start tag, after its start tag, before its end tag, and after its end tag
  pub before : List ℕ
  pub prepended : List ℕ
  pub appended : List ℕ
  pub after : List ℕ

-- as it stands in the page
abbrev pub as_in_page : TagOf → ElementOf
as_in_page tag = record {
  tag = tag;
  page_name = None;
  has_content = has_content tag;
  is_new = false;
  drops_tags = false;
  drops_content = false;
  before = [];
  prepended = [];
  appended = [];
  after = [];
}

-- ---- what each call makes of it

-- the name of its tags in the page
abbrev pub name_in_page : ElementOf → List ℕ
name_in_page e = unwrap_or e.page_name e.tag.name

abbrev pub with_value : List ℕ → List ℕ → ElementOf → ElementOf
with_value attribute value e = record e { tag = with_attribute attribute value e.tag; is_new = true }

-- one that it doesn't have changes nothing
abbrev pub without_value : List ℕ → ElementOf → ElementOf
without_value attribute e =
    if is_some (value_of attribute e.tag.attributes) then record e { tag = without_attribute attribute e.tag; is_new = true } else e

abbrev pub with_name : List ℕ → ElementOf → ElementOf
with_name name e = record e { tag = record e.tag { name = name }; page_name = Some (name_in_page e); is_new = true }

-- after the earlier content there
abbrev pub with_before : List ℕ → ElementOf → ElementOf
with_before content e = record e { before = e.before ++ content }

-- before the earlier content there
abbrev pub with_after : List ℕ → ElementOf → ElementOf
with_after content e = record e { after = content ++ e.after }

-- at the front of its content, if it can have any
abbrev pub with_prepended : List ℕ → ElementOf → ElementOf
with_prepended content e = if e.has_content then record e { prepended = content ++ e.prepended } else e

-- as the last
abbrev pub with_appended : List ℕ → ElementOf → ElementOf
with_appended content e = if e.has_content then record e { appended = e.appended ++ content } else e

-- in place of its content, and of the content put there
abbrev pub filled_with : List ℕ → ElementOf → ElementOf
filled_with content e = record e { drops_content = true; prepended = content; appended = [] }

-- if it can have content
abbrev pub with_content : List ℕ → ElementOf → ElementOf
with_content content e = if e.has_content then filled_with content e else e

-- in place of its tags, too
abbrev pub replaced_by : List ℕ → ElementOf → ElementOf
replaced_by content e = record (filled_with content e) { drops_tags = true }

abbrev pub without_tags : ElementOf → ElementOf
without_tags e = record e { drops_tags = true }

-- ---- what is written of it

abbrev pub start_itself : ElementOf → EditOf
start_itself e =
    if e.drops_tags then Replace []
    else if e.is_new then Replace (encode_utf8_all (tag_text e.tag))
    else Keep

abbrev pub end_itself : ElementOf → EditOf
end_itself e =
    if e.drops_tags then Replace []
    else if is_some e.page_name then Replace (end_text e.tag.name)
    else Keep

-- at its start tag. If it can't have content, that is all of it.
abbrev pub start_part : ElementOf → PartOf
start_part e = record {
  before = e.before;
  itself = start_itself e;
  after = if e.has_content then e.prepended else e.prepended ++ e.after;
}

-- at its end tag
abbrev pub end_part : ElementOf → PartOf
end_part e = record { before = e.appended; itself = end_itself e; after = e.after }

-- whether something is done after its start tag: its content is dropped, or its end tag doesn't stay as it is
abbrev pub waits : ElementOf → Bool
waits e = e.has_content && (e.drops_content || not (is_as_it_is (end_part e)))
