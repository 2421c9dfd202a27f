-- How a text is cut into slices, from whatever is open. Vocabulary of proofs: the grammar is `Items` of `html5grammar`.
use Rattle.std.specs.Prelude.{ℕ, List, [], ◌∷◌, ◌++◌}
use Rattle.html5ever_interface.specs.Token.{Told}
use Rattle.html5ever_interface.specs.declared.states.AttrValueKind.TheVariants.{Unquoted, SingleQuoted, DoubleQuoted}
use Rattle.html5reading.specs.Cdata.{cdata, cdata_from}
use Rattle.html5reading.specs.Slice.{Slice, Cell, Afterwards, cut_off, one_character}
use Rattle.html5reading.specs.Slice.Afterwards.{Leaves, Settles, Asks}
use Rattle.html5reading.specs.Reference.{reference_text}
use Rattle.html5reading.specs.Start.{Open, Rules}
use Rattle.html5reading.specs.Start.Mode.{Data, Plain, RawText, Cdata}
use Rattle.html5reading.specs.Start.RawPlace.{AfterLessThan, InEndName, AfterMark, AfterMarkAndDash, InSwitch}
use Rattle.html5reading.specs.Start.Place.{InName, BeforeAttribute, InAttributeName, AfterAttributeName, BeforeValue, InValue, AfterQuotedValue, AfterSolidus}
use Rattle.html5reading.specs.Start.DoctypePlace.{AfterWord, BeforeName, InDoctypeName, AfterName, AfterKeyword, BeforeIdentifier, InIdentifier, AfterIdentifier, BetweenIdentifiers, Skipped}
use Rattle.html5reading.specs.Start.Open.{Between, LessThan, LessThanSolidus, InTag, InRaw, InDeclaration, InComment, InBogusComment, InInstruction, InDoctype, InDoctypeKeyword, InCdata, InReference}
use Rattle.html5reading.specs.Comment.{declaration, comment, bogus_comment, bogus_comment_from}
use Rattle.html5reading.specs.Doctype.{doctype, before_doctype_name, doctype_name, after_doctype_name_and_space, doctype_keyword, after_keyword, identifier_after_space, identifier, after_identifier, between_identifiers, skipped_rest}
use Rattle.html5reading.specs.Instruction.{instruction}
use Rattle.html5reading.specs.RawText.{after_raw_less_than, end_name, after_mark, after_mark_and_dash, switch, raw_text}
use Rattle.html5reading.specs.Tag.{part, tag_name, attribute_after_first, after_name_and_space, value_after_space, quoted_value, unquoted_value}
use Rattle.html5reading.specs.Text.{plain_text, after_solidus, after_less_than, data_text}

-- the rest of the slice that is open, by the state that was reached
unfoldable pub rest_of : Rules → Open → List ℕ → Slice
rest_of rules LessThan text = after_less_than rules.exact text
rest_of rules LessThanSolidus text = after_solidus rules.exact text
rest_of rules (InTag InName tag) text = tag_name rules.exact tag text
rest_of rules (InTag InAttributeName tag) text = attribute_after_first rules tag text
rest_of rules (InTag AfterAttributeName tag) text = after_name_and_space rules tag text
rest_of rules (InTag BeforeValue tag) text = value_after_space rules tag text
rest_of rules (InTag (InValue Unquoted) tag) text = unquoted_value rules tag text
rest_of rules (InTag (InValue SingleQuoted) tag) text = quoted_value rules SingleQuoted tag text
rest_of rules (InTag (InValue DoubleQuoted) tag) text = quoted_value rules DoubleQuoted tag text
rest_of rules (InTag BeforeAttribute tag) text = cut_off (InTag BeforeAttribute tag)
rest_of rules (InTag AfterQuotedValue tag) text = cut_off (InTag AfterQuotedValue tag)
rest_of rules (InTag AfterSolidus tag) text = cut_off (InTag AfterSolidus tag)
rest_of rules (InRaw (AfterLessThan kind) name) text = after_raw_less_than kind name text
rest_of rules (InRaw (InEndName kind letters) name) text = end_name kind name letters text
rest_of rules (InRaw AfterMark name) text = after_mark name text
rest_of rules (InRaw AfterMarkAndDash name) text = after_mark_and_dash name text
rest_of rules (InRaw (InSwitch kind letters) name) text = switch kind name letters text
rest_of rules (InDeclaration held) text = declaration rules.exact held text
rest_of rules (InComment before) text = comment rules.exact before text
rest_of rules (InBogusComment before) text = bogus_comment rules.exact before text
rest_of rules (InInstruction before) text = instruction rules.exact before text
rest_of rules (InDoctype AfterWord d) text = doctype rules.exact d text
rest_of rules (InDoctype BeforeName d) text = before_doctype_name rules.exact d text
rest_of rules (InDoctype InDoctypeName d) text = doctype_name rules.exact d text
rest_of rules (InDoctype AfterName d) text = after_doctype_name_and_space rules.exact d text
rest_of rules (InDoctype (AfterKeyword kind) d) text = after_keyword rules.exact kind d text
rest_of rules (InDoctype (BeforeIdentifier kind) d) text = identifier_after_space rules.exact kind d text
rest_of rules (InDoctype (InIdentifier quotes kind) d) text = identifier rules.exact quotes kind d text
rest_of rules (InDoctype (AfterIdentifier kind) d) text = cut_off (InDoctype (AfterIdentifier kind) d)
rest_of rules (InDoctype BetweenIdentifiers d) text = between_identifiers rules.exact d text
rest_of rules (InDoctype Skipped d) text = skipped_rest rules.exact d text
rest_of rules (InDoctypeKeyword held d) text = doctype_keyword rules.exact held d text
rest_of rules (InCdata held) text = cdata held text
rest_of rules (Between mode) text = cut_off (Between mode)
rest_of rules (InReference stand held) text = reference_text rules stand held text

-- the next slice, which c begins, where `before` is sent first
unfoldable pub next_slice : Rules → Open → List Told → ℕ → List ℕ → Slice
next_slice rules (Between Data) before c text = data_text rules before c text
next_slice rules (Between Plain) before c text = one_character (before ++ plain_text rules.exact c) (Between Plain)
next_slice rules (Between (RawText raw name)) before c text = raw_text rules raw name before c text
next_slice rules (Between Cdata) before c text = cdata_from before c text
next_slice rules (InTag place tag) before c text = part rules place tag c text
next_slice rules (InBogusComment told) before c text = bogus_comment_from rules.exact told before c text
next_slice rules (InDoctype (AfterIdentifier kind) d) before c text = after_identifier rules.exact kind d c text
next_slice rules opened before c text = rest_of rules opened (c ∷ text)

-- the slice that has the character c: a new one where the last has no more
unfoldable pub slice_at : Rules → List Cell → Afterwards → ℕ → List ℕ → Slice
slice_at rules (cell ∷ cells) afterwards c text = record { cells = cell ∷ cells; afterwards = afterwards }
slice_at rules [] (Leaves before opened) c text = next_slice rules opened before c text
slice_at rules [] (Settles late opened) c text = rest_of rules opened (c ∷ text)
slice_at rules [] (Asks held) c text = rest_of rules (InDeclaration held) (c ∷ text)
