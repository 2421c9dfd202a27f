-- A tree builder is a lawful sink.
use Rattle.std.specs.Prelude.{◌≡◌, ℕ, List, [], ◌++◌, false}
use Rattle.std.proofs.Common.{refl, ap}
use Rattle.html5ever_interface.specs.Token.{Told, is_tag}
use Rattle.html5ever_interface.specs.Token.Told.{Text, Null, Error, Tag, Comment, Instruction, Doctype, End}
use Rattle.html5ever_interface.specs.Token.Reply.{KeepOn}
use Rattle.tree_laws.proofs.TextLaws.{empty-text, texts-join}
use Rattle.tree_parser.specs.Building.{Building, after_message, replied}

pub texts_join : {Q : Type 0} (s : Building Q) (a b : List ℕ) (line : ℕ)
    → after_message (after_message s (Text a) line) (Text b) line ≡ after_message s (Text (a ++ b)) line
texts_join s a b line = ap (λ p. record s { parser = p }) (texts-join s.parser a b line)

pub empty_text : {Q : Type 0} (s : Building Q) (line : ℕ) → after_message s (Text []) line ≡ s
empty_text s line = ap (λ p. record s { parser = p }) (empty-text s.parser line)

pub any_line : {Q : Type 0} (s : Building Q) (a : List ℕ) (line other : ℕ) → after_message s (Text a) line ≡ after_message s (Text a) other
any_line s a line other = refl

pub keeps_on : {Q : Type 0} (s : Building Q) (message : Told) (line : ℕ) → is_tag message ≡ false → replied s message line ≡ KeepOn
keeps_on s (Text text) line none = refl
keeps_on s Null line none = refl
keeps_on s (Error message) line none = refl
keeps_on s (Tag tag) line none = cc
keeps_on s (Comment text) line none = refl
keeps_on s (Instruction text) line none = refl
keeps_on s (Doctype doctype) line none = refl
keeps_on s End line none = refl
