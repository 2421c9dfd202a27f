use Rattle.std.proofs.Common.{ap, sym, ◌∙◌, get_or, length, add-one, arith}
use Rattle.std.specs.Prelude.{ltb}
use Rattle.markup5ever.specs.Names.{attribute_of}
use Rattle.tree_lines.specs.Lines.{shown_name}
use Rattle.tree_lines.proofs.Order.{before-differs, before-past_end, before-past_same}
use Rattle.tree_lines.proofs.names.comes_before.Goals as goal

pub returns-then-byte-other_byte : goal.returns-then-byte-other_byte
returns-then-byte-other_byte g c =
    let a = shown_name (attribute_of c.args.attribute.now) in
    let b = shown_name (attribute_of c.args.other.now) in
    let i = c.loop-at.at in
    let here = c.shown_byte-byte.ensures in
    let there = c.shown_byte-other_byte.ensures in
    ap (λ x. ltb x c.shown_byte-other_byte.result) here
    ∙ (ap (λ y. ltb (get_or a i 0) y) there
    ∙ sym (c.loop-at.invariant ∙ before-differs a b i (omega arith) (omega arith) (λ e. c.if-byte-other_byte.true (here ∙ (e ∙ sym there)))))

pub loop-at-preserved : goal.loop-at-preserved
loop-at-preserved g c =
    let a = shown_name (attribute_of c.args.attribute.now) in
    let b = shown_name (attribute_of c.args.other.now) in
    let same = sym c.shown_byte-byte.ensures ∙ (c.if-byte-other_byte.false ∙ c.shown_byte-other_byte.ensures) in
    rw add-one (c.loop-at.invariant ∙ before-past_same a b c.loop-at.at (omega arith) (omega arith) same)

pub returns : goal.returns
returns g c =
    let a = shown_name (attribute_of c.args.attribute.now) in
    let b = shown_name (attribute_of c.args.other.now) in
    ap (λ x. ltb x c.shown_len-other_len.result) c.shown_len-len.ensures
    ∙ (ap (λ y. ltb (length a) y) c.shown_len-other_len.ensures
    ∙ sym (c.loop-at.invariant ∙ before-past_end a b c.loop-at.at (omega arith) (omega arith) (omega arith)))
