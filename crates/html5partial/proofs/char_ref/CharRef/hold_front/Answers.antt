use Rattle.std.proofs.Common.{◌≡◌, [], ◌++◌, ◌∙◌, ap, rules, string_bytes, sym, take}
use Rattle.std.specs.Str.{chars}
use Rattle.std.proofs.lemmas.Str.{IsUtf8-drop}
use Rattle.html5partial.specs.CharRef.{BeginsInAscii}
use Rattle.html5partial.proofs.NameFronts.{front-begins, front-boundary, front-chars, front-held, front-holds, held-none, holds-none, nothing-held, where-refused}
use Rattle.html5partial.proofs.char_ref.CharRef.hold_front.Goals as goal

pub returns-then-not-is_empty-clause-holds : goal.returns-then-not-is_empty-clause-holds
returns-then-not-is_empty-clause-holds g c = holds-none c.args.references.now c.args.self.now

pub returns-then-not-is_empty-clause-held : goal.returns-then-not-is_empty-clause-held
returns-then-not-is_empty-clause-held g c = held-none c.args.self.now

pub returns-then-bytes-eq0-clause-holds : goal.returns-then-bytes-eq0-clause-holds
returns-then-bytes-eq0-clause-holds g c = holds-none c.args.references.now c.args.self.now

pub returns-then-bytes-eq0-clause-held : goal.returns-then-bytes-eq0-clause-held
returns-then-bytes-eq0-clause-held g c = held-none c.args.self.now

pub range-requires-clause-end_boundary : goal.range-requires-clause-end_boundary
range-requires-clause-end_boundary g c =
    front-boundary _ _ _ _ c.front_len-bytes.ensures c.if-bytes-eq0.false c.letters_len-letters.ensures.letters c.utf8.text

pub returns-in_err-push_str-clause-refused : goal.returns-in_err-push_str-clause-refused
returns-in_err-push_str-clause-refused g c =
    where-refused (BeginsInAscii c.args.text.now) c.from_residual.result
    (front-begins _ _ _ _ c.front_len-bytes.ensures c.if-bytes-eq0.false c.letters_len-letters.ensures.letters c.utf8.text)

pub invariant_of-self-2 : goal.invariant_of-self-2
invariant_of-self-2 g c =
    let before : string_bytes c.self.inside.held ≡ [] = nothing-held (string_bytes c.self.inside.held) (search rules) in
    let now : string_bytes c.push_str.new.self ≡ take c.front_len-bytes.result c.args.text.now = search (rules, before) in
    rw now (front-held _ _ _ _ c.front_len-bytes.ensures c.if-bytes-eq0.false c.letters_len-letters.ensures.letters)

pub returns-clause-rest_utf8 : goal.returns-clause-rest_utf8
returns-clause-rest_utf8 g c =
    IsUtf8-drop c.args.text.now c.front_len-bytes.result c.utf8.text
    (front-boundary _ _ _ _ c.front_len-bytes.ensures c.if-bytes-eq0.false c.letters_len-letters.ensures.letters c.utf8.text)

pub returns-clause-holds : goal.returns-clause-holds
returns-clause-holds g c =
    let before : c.args.self.now ≡ [] = sym c.self.view_is ∙ nothing-held (string_bytes c.self.inside.held) (search rules) in
    rw before (front-holds _ _ _ _ c.front_len-bytes.ensures c.if-bytes-eq0.false c.letters_len-letters.ensures.letters)

pub returns-clause-held : goal.returns-clause-held
returns-clause-held g c =
    let text : chars (take c.front_len-bytes.result c.args.text.now) ≡ take c.front_len-bytes.result c.args.text.now =
    front-chars _ _ _ _ c.front_len-bytes.ensures c.if-bytes-eq0.false c.letters_len-letters.ensures.letters in
    let now : string_bytes c.push_str.new.self ≡ c.args.self.now ++ take c.front_len-bytes.result c.args.text.now = search rules in
    now ∙ ap (λ l. c.args.self.now ++ l) (sym text)
