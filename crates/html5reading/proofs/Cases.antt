-- Worked cases of the definitions.
use Rattle.std.specs.Prelude.{◌≡◌, ℕ, Bool, true, false, List, [], ◌∷◌, map, codes, refl}
use Rattle.html5ever_interface.specs.Sink.{Message}
use Rattle.html5ever_interface.specs.Token.{Told}
use Rattle.html5ever_interface.specs.Token.Told.{Text, Null, Error, Tag, End}
use Rattle.html5ever_interface.specs.Token.Reply.{KeepOn}
use Rattle.html5ever_interface.specs.declared.interface.token.TagKind.{TagKind}
use Rattle.html5ever_interface.specs.declared.interface.token.TagKind.TheVariants.{StartTag, EndTag}
use Rattle.html5reading.specs.Reading.{reading, messages}
use Rattle.html5reading.specs.Start.{Start, Rules}
use Rattle.html5reading.specs.Start.Mode.{Data}
use Rattle.html5reading.specs.Start.Open.{Between}
use Rattle.html5reading.specs.Tag.{attribute}
use Rattle.markup5ever.specs.Names.{AttributeOf}
use Rattle.html5reading.proofs.OnLiterals.{reading_on_literals, tag_on_literals}

abbrev start : Start
start = record { opened = Between Data; last_start_tag = []; input = record { line = 1; after_carriage_return = false; drops_byte_order_mark = true } }

abbrev rules : Bool → Rules
rules exact = record { exact = exact; references = [] }

abbrev told : List ℕ → List Told
told text = map (λ (m : Message). m.token) (messages (reading {S = ℕ} {H = ℕ} (λ s t l. s) (λ s t l. KeepOn) (λ s. false) (rules false) start 0 text))

abbrev exact : List ℕ → List Told
exact text = map (λ (m : Message). m.token) (messages (reading {S = ℕ} {H = ℕ} (λ s t l. s) (λ s t l. KeepOn) (λ s. false) (rules true) start 0 text))

abbrev lines : List ℕ → List ℕ
lines text = map (λ (m : Message). m.line) (messages (reading {S = ℕ} {H = ℕ} (λ s t l. s) (λ s t l. KeepOn) (λ s. false) (rules false) start 0 text))

abbrev tag : TagKind → List ℕ → List AttributeOf → Bool → Bool → Told
tag kind name attributes self_closing duplicates = Tag (record { kind = kind; name = name; self_closing = self_closing; attributes = attributes; had_duplicate_attributes = duplicates })

div : told (codes "<DIV CLASS=a class=b/>") ≡ Error (codes "Duplicate attribute") ∷ tag StartTag (codes "div") (attribute (codes "class") (codes "a") ∷ []) false true ∷ End ∷ []
unfolding reading_on_literals tag_on_literals
div = refl

end_tag : told (codes "</a b/>") ≡ Error (codes "Attributes on an end tag") ∷ Error (codes "Self-closing end tag") ∷ tag EndTag (codes "a") (attribute (codes "b") [] ∷ []) true false ∷ End ∷ []
unfolding reading_on_literals tag_on_literals
end_tag = refl

equals : told (codes "<a b=>") ≡ Error (codes "Saw = in state BeforeAttributeValue") ∷ tag StartTag (codes "a") (attribute (codes "b") [] ∷ []) false false ∷ End ∷ []
unfolding reading_on_literals tag_on_literals
equals = refl

quoted : told (codes "<a b=\"1\"c='2'c>") ≡ Error (codes "Saw c in state AfterAttributeValueQuoted") ∷ Error (codes "Saw c in state AfterAttributeValueQuoted") ∷ Error (codes "Duplicate attribute") ∷ tag StartTag (codes "a") (attribute (codes "b") (codes "1") ∷ attribute (codes "c") (codes "2") ∷ []) false true ∷ End ∷ []
unfolding reading_on_literals tag_on_literals
quoted = refl

less : told (codes "<\n") ≡ Error (codes "Saw \n in state TagOpen") ∷ Text (codes "<") ∷ Text (codes "\n") ∷ End ∷ []
unfolding reading_on_literals tag_on_literals
less = refl

solidus : told (codes "<a/b=1>") ≡ Error (codes "Saw b in state SelfClosingStartTag") ∷ tag StartTag (codes "a") (attribute (codes "b") (codes "1") ∷ []) false false ∷ End ∷ []
unfolding reading_on_literals tag_on_literals
solidus = refl

equals_first : told (codes "<a =x =y>") ≡ Error (codes "Saw = in state BeforeAttributeName") ∷ tag StartTag (codes "a") (attribute (codes "=x") (codes "y") ∷ []) false false ∷ End ∷ []
unfolding reading_on_literals tag_on_literals
equals_first = refl

at_nul : told (codes "<A X='1\0' x=2") ≡ Error (codes "Saw \0 in state AttributeValue(SingleQuoted)") ∷ Error (codes "Saw EOF in state AttributeValue(Unquoted)") ∷ End ∷ []
unfolding reading_on_literals tag_on_literals
at_nul = refl

data_nul : told (codes "a\0b") ≡ Text (codes "a") ∷ Error (codes "Saw \0 in state Data") ∷ Null ∷ Text (codes "b") ∷ End ∷ []
unfolding reading_on_literals tag_on_literals
data_nul = refl

nothing : told (codes "</>x") ≡ Error (codes "Saw > in state EndTagOpen") ∷ Text (codes "x") ∷ End ∷ []
unfolding reading_on_literals tag_on_literals
nothing = refl

duplicate_last : told (codes "<a b b/\">") ≡ Error (codes "Saw \" in state SelfClosingStartTag") ∷ Error (codes "Saw \" in state BeforeAttributeName") ∷ Error (codes "Duplicate attribute") ∷ tag StartTag (codes "a") (attribute (codes "b") [] ∷ attribute (codes "\"") [] ∷ []) false true ∷ End ∷ []
unfolding reading_on_literals tag_on_literals
duplicate_last = refl

line_of_break : lines (codes "<a b=\n'c'>") ≡ 2 ∷ 2 ∷ []
unfolding reading_on_literals tag_on_literals
line_of_break = refl

exact_carry : exact (codes "<\u{1}") ≡ Error (codes "Bad character \u{1}") ∷ Error (codes "Bad character") ∷ Text (codes "<") ∷ Text (codes "\u{1}") ∷ End ∷ []
unfolding reading_on_literals tag_on_literals
exact_carry = refl

all_at_end : told (codes "</a b b/>") ≡ Error (codes "Duplicate attribute") ∷ Error (codes "Attributes on an end tag") ∷ Error (codes "Self-closing end tag") ∷ tag EndTag (codes "a") (attribute (codes "b") [] ∷ []) true true ∷ End ∷ []
unfolding reading_on_literals tag_on_literals
all_at_end = refl

exact_unquoted : exact (codes "<a b==>") ≡ Error (codes "Bad character") ∷ tag StartTag (codes "a") (attribute (codes "b") (codes "=") ∷ []) false false ∷ End ∷ []
unfolding reading_on_literals tag_on_literals
exact_unquoted = refl

after_space : told (codes "<a b 'c=d >") ≡ Error (codes "Saw ' in state AfterAttributeName") ∷ tag StartTag (codes "a") (attribute (codes "b") [] ∷ attribute (codes "'c") (codes "d") ∷ []) false false ∷ End ∷ []
unfolding reading_on_literals tag_on_literals
after_space = refl
