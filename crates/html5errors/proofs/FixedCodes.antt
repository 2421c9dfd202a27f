-- The codes of messages that name nothing of the text.
use Rattle.std.proofs.Common.{◌≡◌, List, ℕ, refl, ap, ◌∙◌}
use Rattle.html5ever_interface.specs.Message.{fixed_text}
use Rattle.html5ever_interface.specs.declared.interface.message.FixedMessage.{FixedMessage}
use Rattle.html5ever_interface.specs.declared.interface.message.FixedMessage.TheVariants.{BadCharacter, UnexpectedEof, AttributesOnEndTag, SelfClosingEndTag, DuplicateAttribute, MissingSemicolon, InvalidReference, NumberWithoutDigits, EofAfterNumberSign, EofInNumber, MissingSemicolonAfterNumber, InvalidNumber}
use Rattle.html5errors.specs.Codes.{fixed_code}
use Rattle.html5errors.specs.Messages.{after_word, code_of_fixed, code_of_message}

code-of_fixed : (m : FixedMessage) → code_of_message (fixed_text m) ≡ fixed_code m
unfolding after_word code_of_fixed
code-of_fixed BadCharacter = refl
code-of_fixed UnexpectedEof = refl
code-of_fixed AttributesOnEndTag = refl
code-of_fixed SelfClosingEndTag = refl
code-of_fixed DuplicateAttribute = refl
code-of_fixed MissingSemicolon = refl
code-of_fixed InvalidReference = refl
code-of_fixed NumberWithoutDigits = refl
code-of_fixed EofAfterNumberSign = refl
code-of_fixed EofInNumber = refl
code-of_fixed MissingSemicolonAfterNumber = refl
code-of_fixed InvalidNumber = refl

pub fixed-code : (message : List ℕ) (m : FixedMessage) → message ≡ fixed_text m → code_of_message message ≡ fixed_code m
fixed-code message m is = ap code_of_message is ∙ code-of_fixed m
