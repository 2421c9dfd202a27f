-- The laws of a sink, and of the edits of a text.
use Rattle.std.proofs.Common.{◌≡◌, ℕ, Bool, List, [], ◌∷◌, ◌++◌, drop, refl, ap, sym, ◌∙◌, subst}
use Rattle.std.specs.Prelude.{length, map, take_while}
use Rattle.std.specs.List.{prefix_len}
use Rattle.std.proofs.lemmas.List.{map-append, take-append-drop}
use Rattle.html5ever_interface.proofs.Steppings.{stepped-append}
use Rattle.html5ever_interface.specs.Sink.{Message, stepped}
use Rattle.html5ever_interface.specs.Token.{Told}
use Rattle.html5ever_interface.specs.Token.Told.{Text}
use Rattle.html5reading.specs.NormalisedText.{normalised}
use Rattle.html5reading.specs.Reading.{Event, is_among, messages, reading}
use Rattle.html5reading.specs.Start.{Rules, Start}
use Rattle.html5reading.proofs.Splitting.{told-within}
use Rattle.tree_construction.specs.Construction.{is_foreign, run, start, told_all}
use Rattle.tree_laws.specs.Laws.{AreOrderly, Extends}
use Rattle.tree_laws.specs.Trees.{AreNested, KeepTree}
use Rattle.tree_construction.specs.Page.{Edit}
use Rattle.tree_construction.specs.Parser.{Options, Parser}
use Rattle.tree_construction.specs.Tokens.{Token}
use Rattle.tree_construction.specs.Tokens.Token.{Character}
use Rattle.tree_construction.specs.Text.{messages_of_text, messages_so_far, parser_of_text, parser_so_far, replied_by, taken_by, text_start}
use Rattle.tree_laws.proofs.Growing.{extends-itself}
use Rattle.tree_laws.proofs.GrowingSteps.{grows-told}
use Rattle.tree_laws.proofs.Numbers.{Numbers}
use Rattle.tree_laws.proofs.NumbersOfPointers.{numbers-start}
use Rattle.tree_laws.proofs.NumbersSteps.{numbers-told, numbers-told_all}
use Rattle.tree_laws.proofs.Nested.{TreeOf}
use Rattle.tree_laws.proofs.NestedOfPointers.{nested-start}
use Rattle.tree_laws.proofs.NestedSteps.{nested-told, nested-told_all}
use Rattle.tree_laws.proofs.Pointing.{Points, points-start}
use Rattle.tree_laws.proofs.PointingSteps.{points-told_all}

-- ---- a sink

run-append : (a b : List Token) (p : Parser) → run b (run a p) ≡ run (a ++ b) p
unfolding run
run-append [] b p = refl
run-append (t ∷ a) b p = run-append a b _

pub texts-join : (p : Parser) (a b : List ℕ) (line : ℕ) → taken_by (taken_by p (Text a) line) (Text b) line ≡ taken_by p (Text (a ++ b)) line
texts-join p a b line =
    run-append (map (λ c. Character c) a) (map (λ c. Character c) b) p ∙ ap (λ ts. run ts p) (sym (map-append (λ c. Character c) a b))

pub empty-text : (p : Parser) (line : ℕ) → taken_by p (Text []) line ≡ p
unfolding run
empty-text p line = refl

-- ---- a text that is cut

grows-stepped : (first : List Edit) (ms : List Message) (p : Parser) → Extends first p.page.edits → Extends first (stepped taken_by p ms).page.edits
unfolding stepped
grows-stepped first [] p h = h
grows-stepped first (m ∷ ms) p h = grows-stepped first ms (taken_by p m.token m.line) (grows-told first m.token p h)

-- ---- numbers

numbers-stepped : (ms : List Message) (p : Parser) → Numbers 3 p → Numbers 3 (stepped taken_by p ms)
unfolding stepped
numbers-stepped [] p h = h
numbers-stepped (m ∷ ms) p h = numbers-stepped ms (taken_by p m.token m.line) (numbers-told 3 m.token p h)

pub messages-are-orderly : (options : Options) (messages : List Told) → AreOrderly (told_all messages (start options)).page.edits
messages-are-orderly options messages = (numbers-told_all 3 messages (start options) (numbers-start options)).of_page.orderly

pub text-is-orderly : (options : Options) (rules : Rules) (text : List ℕ) → AreOrderly (parser_of_text options rules text).page.edits
text-is-orderly options rules text = (numbers-stepped (messages_of_text options rules text) (start options) (numbers-start options)).of_page.orderly

-- ---- trees

nested-stepped : (ms : List Message) (p : Parser) → TreeOf 3 p → TreeOf 3 (stepped taken_by p ms)
unfolding stepped
nested-stepped [] p h = h
nested-stepped (m ∷ ms) p h = nested-stepped ms (taken_by p m.token m.line) (nested-told 3 m.token p h)

pub messages-keep-tree : (options : Options) (messages : List Told) → KeepTree (told_all messages (start options)).page.edits
messages-keep-tree options messages = (nested-told_all 3 messages (start options) (nested-start options)).tree

pub open-elements-are-nested : (options : Options) (messages : List Told)
    → AreNested (told_all messages (start options)).page.edits (told_all messages (start options)).page.opened
open-elements-are-nested options messages = (nested-told_all 3 messages (start options) (nested-start options)).nested

pub pointers-name : (options : Options) (messages : List Told) → Points (told_all messages (start options))
pointers-name options messages = points-told_all [] messages (start options) (points-start options)

pub text-keeps-tree : (options : Options) (rules : Rules) (text : List ℕ) → KeepTree (parser_of_text options rules text).page.edits
text-keeps-tree options rules text = (nested-stepped (messages_of_text options rules text) (start options) (nested-start options)).tree

-- ---- a text that goes on

-- what the characters of a text decide are the first messages of that text and more
pub grows-so-far : (options : Options) (rules : Rules) (text more : List ℕ)
    → Extends (parser_so_far options rules text).page.edits (parser_of_text options rules (text ++ more)).page.edits
grows-so-far options rules text more =
    let s : Parser = start options in
    let K : Start = text_start options in
    let E : List Event = reading taken_by replied_by is_foreign rules K s (text ++ more) in
    let test : Event → Bool = λ e. is_among (length (normalised K.input text)) e.decided_by in
    let left : List Event = drop (prefix_len test E) E in
    let first : List Message = messages_so_far options rules text in
    let so_far : Parser = parser_so_far options rules text in
    let whole : first ++ messages left ≡ messages E =
    ap (λ l. messages l ++ messages left) (told-within taken_by replied_by is_foreign rules K s text more)
    ∙ sym (map-append (λ (e : Event). e.message) (take_while test E) left)
    ∙ ap (λ l. messages l) (take-append-drop (prefix_len test E) E) in
    let after : stepped taken_by so_far (messages left) ≡ parser_of_text options rules (text ++ more) =
    sym (stepped-append taken_by s first (messages left)) ∙ ap (λ ms. stepped taken_by s ms) whole in
    subst (λ q. Extends so_far.page.edits q.page.edits) after
    (grows-stepped so_far.page.edits (messages left) so_far (extends-itself so_far.page.edits))
