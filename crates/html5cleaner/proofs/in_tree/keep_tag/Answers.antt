use Rattle.std.proofs.Common.{chars, map, string_bytes, sym, ap, ◌∙◌, arith}
use Rattle.std.proofs.lemmas.List.{nil_from_length}
use Rattle.markup5ever.specs.Names.{attribute_of}
use Rattle.html5cleaner.specs.Clean.{attribute_chars, kept_attributes}
use Rattle.html5cleaner.proofs.Links.{kept-none}
use Rattle.html5cleaner.proofs.in_tree.keep_tag.Goals as goal

pub keep_tag_with-requires-clause-kept : goal.keep_tag_with-requires-clause-kept
keep_tag_with-requires-clause-kept g c =
    let none = nil_from_length c.args.tag.now.attrs.items (grind (arith, c.is_empty.ensures, c.if-is_empty.true)) in
    sym (ap (λ l. kept_attributes c.args.policy.now (chars (string_bytes c.args.tag.now.name.0)) (map attribute_chars (map attribute_of l))) none
    ∙ kept-none c.args.policy.now (chars (string_bytes c.args.tag.now.name.0)))
