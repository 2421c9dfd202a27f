-- A reader that keeps the first hint has it after a text's reading.
use Rattle.std.proofs.Common.{◌≡◌, ℕ, Bool, false, List, [], ◌∷◌, Option, None, Some, IfSome, refl, ap, ◌∙◌}
use Rattle.std.specs.Option.{option_or}
use Rattle.std.proofs.KnownBytes.{Consumes-whole}
use Rattle.markup5ever.specs.NamedReferences.{NamedReference}
use Rattle.html5ever_interface.specs.Sink.{Message, stepped}
use Rattle.html5ever_interface.specs.Token.{Told}
use Rattle.html5ever_interface.specs.Token.Told.{Text, Null, Error, Tag, Comment, Instruction, Doctype, End}
use Rattle.html5sinks.specs.Tags.{Tagged, tags_step}
use Rattle.html5encodings.specs.declared.encoding.Encoding.{Encoding}
use Rattle.html5stream.specs.Pages.{ReadsPage, tags_after, tags_handed, tags_page}
use Rattle.html5sniffing.specs.PageEncoding.{first_hint, hint_of_text, hint_of_token, hint_step}

none-option_or : (a : Option Encoding) → a ≡ option_or a None
none-option_or None = refl
none-option_or (Some x) = refl

option_or-assoc : (a b c : Option Encoding) → option_or (option_or a b) c ≡ option_or a (option_or b c)
option_or-assoc None b c = refl
option_or-assoc (Some x) b c = refl

-- the state of a sink that hands tags to such a reader
abbrev keeping : Option Encoding → Bool → Tagged (Option Encoding)
keeping hint foreign = record { handler = hint; foreign = foreign }

step-hint : (hint : Option Encoding) (foreign : Bool) (token : Told) (line : ℕ)
    → tags_step hint_step (keeping hint foreign) token line ≡ keeping (option_or hint (hint_of_token token)) foreign
step-hint hint foreign (Text text) line = ap (λ h. keeping h foreign) (none-option_or hint)
step-hint hint foreign Null line = ap (λ h. keeping h foreign) (none-option_or hint)
step-hint hint foreign (Error text) line = ap (λ h. keeping h foreign) (none-option_or hint)
step-hint hint foreign (Tag tag) line = refl
step-hint hint foreign (Comment text) line = ap (λ h. keeping h foreign) (none-option_or hint)
step-hint hint foreign (Instruction text) line = ap (λ h. keeping h foreign) (none-option_or hint)
step-hint hint foreign (Doctype doctype) line = ap (λ h. keeping h foreign) (none-option_or hint)
step-hint hint foreign End line = ap (λ h. keeping h foreign) (none-option_or hint)

stepped-hint : (hint : Option Encoding) (foreign : Bool) (messages : List Message)
    → stepped (tags_step hint_step) (keeping hint foreign) messages ≡ keeping (option_or hint (first_hint messages)) foreign
unfolding stepped first_hint
stepped-hint hint foreign [] = ap (λ h. keeping h foreign) (none-option_or hint)
stepped-hint hint foreign (m ∷ messages) =
    ap (λ s. stepped (tags_step hint_step) s messages) (step-hint hint foreign m.token m.line)
    ∙ stepped-hint (option_or hint (hint_of_token m.token)) foreign messages
    ∙ ap (λ h. keeping h foreign) (option_or-assoc hint (hint_of_token m.token) (first_hint messages))

handed-hint : (messages : List Message) → tags_handed hint_step None messages ≡ first_hint messages
unfolding tags_handed
handed-hint messages = ap (λ s. s.handler) (stepped-hint None false messages)

-- what such a reader has after a page is the first hint of its text
pub hint-read : (references : List NamedReference) (unread left : Option (List ℕ)) (after : Option Encoding)
    → ReadsPage (tags_after hint_step references) (record { unread = unread; left = left; before = None; after = after })
    → IfSome unread (λ text. after ≡ hint_of_text references text)
unfolding hint_of_text
hint-read references unread left after reads =
    Consumes-whole unread left reads.bytes (λ text. after ≡ first_hint (tags_page hint_step references None text)) reads.consumed reads.at_end
    (reads.told ∙ handed-hint (tags_page hint_step references None reads.bytes))
