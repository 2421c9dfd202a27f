use Rattle.std.proofs.Common.{◌∙◌, ap, sym, map, string_bytes}
use Rattle.std.specs.Prelude.{◌||◌}
use Rattle.std.specs.Str.{bytes_eq}
use Rattle.html5ever_interface.specs.Token.{TagOf}
use Rattle.html5reading.specs.Tag.{attribute, has_attribute}
use Rattle.markup5ever.specs.Names.{attribute_of}
use Rattle.html5partial.proofs.AttributeNames.{has_attribute-last}
use Rattle.html5partial.proofs.indexed_tag.push_and_index.Goals as goal

pub returns-clause-indexed : goal.returns-clause-indexed
returns-clause-indexed g c = λ _ name.
    c.in_ok-index_with.ensures name
    ∙ ap (λ items. bytes_eq (string_bytes c.args.name) name || has_attribute (map attribute_of items) name) c.deref.ensures.value
    ∙ sym (has_attribute-last (map attribute_of c.args.tag.now.attrs.items) (attribute (string_bytes c.args.name) (string_bytes c.args.value)) name)
    ∙ ap (λ (tag : TagOf). has_attribute tag.attributes name) (sym c.in_ok-push_attribute-2.ensures)
