-- What the check unfolds where it proves functions of states: the machine's steps by kinds of markup, and their words.
use Rattle.std.specs.Prelude.{⊤}
use Rattle.html5reading.specs.Characters.{is_white_space, is_letter, shown, name_bytes}
use Rattle.html5reading.specs.Comment.{comment_errors, mark_error, comment_end_error}
use Rattle.html5reading.specs.Doctype.{in_doctype_name, in_identifier}
use Rattle.html5reading.specs.EndOfInput.{told_at_end_of, told_at_raw_end, raw_end_error, state_at, told_at_doctype_end, doctype_state_at}
use Rattle.html5reading.specs.Machine.{step_at, data_step, less_than_step, solidus_step, tag_name_step, part_step, attribute_name_step, after_attribute_name_step, before_value_step, quoted_step, unquoted_step, comment_step, bogus_comment_step, doctype_step, space_step, skipped_step, wanted_name_step, doctype_name_step, keyword_or_end_step, wanted_identifier_step, system_or_end_step, identifier_step, after_identifier_step, raw_place_step, tag_name_end_step, raw_step, raw_less_than_step, raw_solidus_step, end_name_step, switch_step, mark_step, mark_and_dash_step}
use Rattle.html5reading.specs.RawText.{raw_character, raw_state, escaped_state, raw_after, dashes_after, kind_of, begins_mark, begins_switch, ends_name}
use Rattle.html5reading.specs.Tag.{in_tag_name, in_attribute_name, place_error, first_error, in_quoted, in_unquoted, unquoted_error, is_odd_in_name, is_odd_at_name, is_odd_in_unquoted}
use Rattle.html5reading.specs.Text.{plain_text}

-- text between tags, and the first characters of markup
unfoldable pub text_steps : ⊤
unfolding step_at data_step less_than_step solidus_step plain_text
text_steps = tt

-- the names in a tag
unfoldable pub tag_steps : ⊤
unfolding tag_name_step part_step attribute_name_step after_attribute_name_step in_tag_name in_attribute_name place_error first_error
tag_steps = tt

-- the values in a tag
unfoldable pub value_steps : ⊤
unfolding before_value_step quoted_step unquoted_step part_step in_quoted in_unquoted unquoted_error place_error
value_steps = tt

-- comments
unfoldable pub comment_steps : ⊤
unfolding comment_step bogus_comment_step comment_errors mark_error comment_end_error
comment_steps = tt

-- the name and the keyword of a doctype
unfoldable pub doctype_steps : ⊤
unfolding doctype_step space_step skipped_step wanted_name_step doctype_name_step keyword_or_end_step in_doctype_name
doctype_steps = tt

-- the identifiers of a doctype
unfoldable pub identifier_steps : ⊤
unfolding doctype_step space_step skipped_step wanted_identifier_step system_or_end_step identifier_step after_identifier_step in_identifier
identifier_steps = tt

-- raw text
unfoldable pub raw_steps : ⊤
unfolding step_at raw_place_step tag_name_end_step raw_step raw_less_than_step raw_solidus_step end_name_step switch_step mark_step mark_and_dash_step raw_character raw_state escaped_state raw_after dashes_after kind_of begins_mark begins_switch
raw_steps = tt

-- the end of the input
unfoldable pub ends_by_state : ⊤
unfolding told_at_end_of told_at_raw_end raw_end_error raw_state escaped_state state_at told_at_doctype_end doctype_state_at
ends_by_state = tt

-- characters by their classes, and how they are shown
unfoldable pub character_words : ⊤
unfolding is_white_space is_letter shown name_bytes is_odd_in_name is_odd_at_name is_odd_in_unquoted ends_name
character_words = tt
