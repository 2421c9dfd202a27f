-- Text between tags: plain text, and the text of the mode Data with the choice that `<` opens there.
-- The slices below are vocabulary of proofs: `html5grammar/specs/Items` says how text is written.
use Rattle.std.specs.Prelude.{ℕ, Bool, List, [], ◌∷◌, ◌++◌, ◌==◌, codes, encode_utf8, if◌then◌else◌}
use Rattle.html5ever_interface.specs.Token.{Told}
use Rattle.html5ever_interface.specs.Token.Told.{Text, Null}
use Rattle.html5ever_interface.specs.declared.interface.token.TagKind.TheVariants.{StartTag, EndTag}
use Rattle.html5ever_interface.specs.declared.states.State.TheVariants as state
use Rattle.html5reading.specs.Characters.{null, replacement_character, exclamation_mark, ampersand, solidus, less_than, greater_than, question_mark, is_letter}
use Rattle.html5reading.specs.Comment.{declaration}
use Rattle.html5reading.specs.ErrorText.{error_in}
use Rattle.html5reading.specs.Instruction.{instruction}
use Rattle.html5reading.specs.Reference.{reference_text}
use Rattle.html5reading.specs.Slice.{Slice, no_character, cut_off, one_character, with_character}
use Rattle.html5reading.specs.Slice.Afterwards.{Leaves}
use Rattle.html5reading.specs.Start.{Rules, begun}
use Rattle.html5reading.specs.Start.Stand.{InText}
use Rattle.html5reading.specs.Start.Mode.{Data}
use Rattle.html5reading.specs.Start.Open.{Between, LessThan, LessThanSolidus, InBogusComment}
use Rattle.html5reading.specs.Tag.{tag_name}

-- "PLAINTEXT state": a character of plain text is text; NUL is an error and U+FFFD
unfoldable pub plain_text : Bool → ℕ → List Told
plain_text exact c =
    if c == null then error_in exact state.Plaintext c ∷ Text (encode_utf8 replacement_character) ∷ []
    else Text (encode_utf8 c) ∷ []

-- "End tag open state": after `</` a letter begins an end tag, `>` leaves nothing, and another character begins a bogus comment,
-- with an error
unfoldable pub after_solidus : Bool → List ℕ → Slice
after_solidus exact [] = cut_off LessThanSolidus
after_solidus exact (c ∷ text) =
    if is_letter c then tag_name exact (begun EndTag) (c ∷ text)
    else if c == greater_than then one_character (error_in exact state.EndTagOpen c ∷ []) (Between Data)
    else no_character (Leaves (error_in exact state.EndTagOpen c ∷ []) (InBogusComment []))

-- "Tag open state": after `<` a letter begins a start tag, `/` and `!` lead on, and `?` begins a processing instruction. Before
-- another character `<` is text, with an error.
unfoldable pub after_less_than : Bool → List ℕ → Slice
after_less_than exact [] = cut_off LessThan
after_less_than exact (c ∷ text) =
    if is_letter c then tag_name exact (begun StartTag) (c ∷ text)
    else if c == solidus then with_character [] (after_solidus exact text)
    else if c == exclamation_mark then with_character [] (declaration exact [] text)
    else if c == question_mark then with_character [] (instruction exact [] text)
    else no_character (Leaves (error_in exact state.TagOpen c ∷ Text (codes "<") ∷ []) (Between Data))

-- "Data state": what begins with c, where `before` is sent first
unfoldable pub data_text : Rules → List Told → ℕ → List ℕ → Slice
data_text rules before c text =
    if c == less_than then with_character before (after_less_than rules.exact text)
    else if c == ampersand then with_character before (reference_text rules (InText Data) [] text)
    else if c == null then one_character (before ++ error_in rules.exact state.Data c ∷ Null ∷ []) (Between Data)
    else one_character (before ++ Text (encode_utf8 c) ∷ []) (Between Data)
