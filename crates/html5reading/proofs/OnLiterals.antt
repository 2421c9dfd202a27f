-- What a worked case unfolds to compute the reading of a text that is written out.
use Rattle.std.specs.Prelude.{⊤}
use lib.Utf8.{encode}
use Rattle.std.specs.Fmt.{digits}
use Rattle.markup5ever.specs.C1.{character_of_c1}
use Rattle.html5reading.specs.Characters.{is_bad_character, is_letter, is_no_character, is_white_space, name_bytes, shown, value_bytes}
use Rattle.html5reading.specs.ErrorText.{bad_character, saw, saw_end}
use Rattle.html5reading.specs.NormalisedText.{normalised, with_line_feeds, without_dropped_first, line_after, input_after, ends_with_carriage_return}
use Rattle.html5ever_interface.specs.Sink.{stepped}
use Rattle.html5reading.specs.Reading.{reading, told, read, read_from, here, brought, events_at, late_events, end_events, last_after}
use Rattle.html5reading.specs.Cutting.{rest_of, next_slice, slice_at}
use Rattle.html5reading.specs.EndOfInput.{state_at, doctype_state_at, told_at_end_of, told_at_doctype_end, late_at_end_of, open_at_end_of}
use Rattle.html5reading.specs.Slice.{run_of, after_run, run_while, after_while}
use Rattle.html5reading.specs.Text.{data_text, plain_text, after_less_than, after_solidus}
use Rattle.html5reading.specs.Tag.{tag_name, after_tag_name, in_tag_name, part, closing, attribute_after_first, after_attribute_name, in_attribute_name, after_name_and_space, is_odd_at_name, is_odd_in_name, first_error, place_error, repeats_attribute, duplicate_error, has_attribute, with_last_attribute, end_tag_errors, value, value_after_space, value_or_next, quoted_value, after_quoted, in_quoted, unquoted_value, after_unquoted, in_unquoted, is_odd_in_unquoted, unquoted_error}
use Rattle.html5reading.specs.Comment.{declaration, declaration_by_answer, begins_keyword, begins_cdata, comment, comment_state, comment_content, comment_errors, comment_end_error, ends_comment, ends_in_mark, mark_error, bogus_comment, bogus_comment_from, in_bogus_comment, after_bogus_comment}
use Rattle.html5reading.specs.Doctype.{doctype, before_doctype_name, after_word_and_space, wanted_name, doctype_name, in_doctype_name, after_doctype_name, after_doctype_name_and_space, keyword_or_end, begins_doctype_keyword, doctype_keyword, keyword_error, after_keyword, after_keyword_and_space, wanted_identifier, identifier, identifier_after_space, in_identifier, after_identifier, after_in_identifier, system_or_end, between_identifiers, after_space_between, skipped_rest, skipped_from, in_skipped_rest, after_skipped_rest}
use Rattle.html5reading.specs.Instruction.{instruction, in_instruction, after_instruction}
use Rattle.html5reading.specs.Cdata.{cdata, cdata_from, ends_cdata}
use Rattle.markup5ever.specs.NamedReferences.{begins_name}
use Rattle.html5reading.specs.Reference.{reference_text, reference, held_text, after_held, is_undecided, named_reference, longest_name, no_name, unknown_name, is_ended, number_reference, is_number, has_digits, without_digits, ends_number, unended_number, number_value, character_of_number, is_invalid_number, invalid_number, six_digits}

-- characters and error texts
unfoldable pub characters_on_literals : ⊤
unfolding encode digits character_of_c1 is_bad_character is_letter is_no_character is_white_space name_bytes shown value_bytes bad_character saw saw_end
characters_on_literals = tt

-- normalised text and its lines
unfoldable pub normalised_on_literals : ⊤
unfolding normalised with_line_feeds without_dropped_first line_after input_after ends_with_carriage_return
normalised_on_literals = tt

-- the walk over slices, and what the end tells
unfoldable pub walk_on_literals : ⊤
unfolding stepped reading told read read_from here brought events_at late_events end_events last_after rest_of next_slice slice_at state_at doctype_state_at told_at_end_of told_at_doctype_end late_at_end_of open_at_end_of run_of after_run run_while after_while
walk_on_literals = tt

-- slices of text, and the first characters of markup
unfoldable pub text_on_literals : ⊤
unfolding data_text plain_text after_less_than after_solidus
text_on_literals = tt

-- the names in a tag
unfoldable pub names_on_literals : ⊤
unfolding tag_name after_tag_name in_tag_name part closing attribute_after_first after_attribute_name in_attribute_name after_name_and_space is_odd_at_name is_odd_in_name first_error place_error repeats_attribute duplicate_error has_attribute with_last_attribute end_tag_errors
names_on_literals = tt

-- the values in a tag
unfoldable pub values_on_literals : ⊤
unfolding value value_after_space value_or_next quoted_value after_quoted in_quoted unquoted_value after_unquoted in_unquoted is_odd_in_unquoted unquoted_error
values_on_literals = tt

-- declarations and comments
unfoldable pub comment_on_literals : ⊤
unfolding declaration declaration_by_answer begins_keyword begins_cdata comment comment_state comment_content comment_errors comment_end_error ends_comment ends_in_mark mark_error bogus_comment bogus_comment_from in_bogus_comment after_bogus_comment
comment_on_literals = tt

-- the name and the keyword of a doctype
unfoldable pub doctype_names_on_literals : ⊤
unfolding doctype before_doctype_name after_word_and_space wanted_name doctype_name in_doctype_name after_doctype_name after_doctype_name_and_space keyword_or_end begins_doctype_keyword doctype_keyword keyword_error after_keyword after_keyword_and_space
doctype_names_on_literals = tt

-- the identifiers of a doctype, and what is skipped of it
unfoldable pub identifiers_on_literals : ⊤
unfolding wanted_identifier identifier identifier_after_space in_identifier after_identifier after_in_identifier system_or_end between_identifiers after_space_between skipped_rest skipped_from in_skipped_rest after_skipped_rest
identifiers_on_literals = tt

-- processing instructions
unfoldable pub instruction_on_literals : ⊤
unfolding instruction in_instruction after_instruction
instruction_on_literals = tt

-- CDATA sections
unfoldable pub cdata_on_literals : ⊤
unfolding cdata cdata_from ends_cdata
cdata_on_literals = tt

-- references
unfoldable pub reference_on_literals : ⊤
unfolding begins_name reference_text reference held_text after_held is_undecided named_reference longest_name no_name unknown_name is_ended number_reference is_number has_digits without_digits ends_number unended_number number_value character_of_number is_invalid_number invalid_number six_digits
reference_on_literals = tt

-- the reading of a text without the forms of its markup
unfoldable pub reading_on_literals : ⊤
unfolding characters_on_literals normalised_on_literals walk_on_literals text_on_literals
reading_on_literals = tt

-- tags
unfoldable pub tag_on_literals : ⊤
unfolding names_on_literals values_on_literals
tag_on_literals = tt

-- doctypes
unfoldable pub doctype_on_literals : ⊤
unfolding doctype_names_on_literals identifiers_on_literals
doctype_on_literals = tt
