-- What a worked case unfolds to compute what an item that is written out tells.
use Rattle.std.specs.Prelude.{⊤}
use Rattle.html5reading.specs.EndOfInput.{raw_end_error}
use Rattle.html5reading.specs.RawText.{dashes_after, ends_name, ends_raw_text, escaped_state, kind_of, raw_after, raw_character, raw_state, switched}
use Rattle.html5reading.proofs.OnLiterals.{reading_on_literals, tag_on_literals, comment_on_literals, doctype_on_literals, reference_on_literals}
use Rattle.html5grammar.specs.Anywhere.{last_reply}
use Rattle.html5grammar.specs.Spelled.{spelled_messages}
use Rattle.html5grammar.specs.Comment as comment
use Rattle.html5grammar.specs.Declarations as declarations
use Rattle.html5grammar.specs.Doctype as doctype
use Rattle.html5grammar.specs.RawText as raw_text
use Rattle.html5grammar.specs.Tag as tag

-- what spelled cells tell, on their lines
unfoldable pub spelled_on_literals : ⊤
unfolding reading_on_literals spelled_messages last_reply
spelled_on_literals = tt

-- tags
unfoldable pub tag_item_on_literals : ⊤
unfolding spelled_on_literals tag_on_literals reference_on_literals tag.attributes_with_parts tag.begins_attribute tag.can_follow tag.decoded tag.errors_at_end tag.has_repeated tag.is_in_value tag.is_open_written tag.is_written tag.kept tag.open_written tag.place_after_parts tag.repeats tag.spell_open_run tag.spell_parts tag.spell_run tag.spelled tag.tag_messages tag.written
tag_item_on_literals = tt

-- comments
unfoldable pub comment_item_on_literals : ⊤
unfolding spelled_on_literals comment_on_literals comment.after_mark_error comment.is_content comment.is_written comment.messages_of comment.occurs comment.spell_content comment.written
comment_item_on_literals = tt

-- doctypes
unfoldable pub doctype_item_on_literals : ⊤
unfolding spelled_on_literals doctype_on_literals doctype.is_written doctype.messages_after_name doctype.messages_of doctype.written declarations.before_end declarations.may_begin declarations.messages_after_open_name declarations.open_doctype_messages
doctype_item_on_literals = tt

-- raw text, and the tags that begin and end it
unfoldable pub raw_item_on_literals : ⊤
unfolding tag_item_on_literals dashes_after ends_name ends_raw_text escaped_state kind_of raw_after raw_character raw_state switched raw_end_error raw_text.can_follow raw_text.carried_after raw_text.is_raw raw_text.items_text raw_text.raw_after_items raw_text.raw_at_end raw_text.raw_messages raw_text.spell_items raw_text.written
raw_item_on_literals = tt
