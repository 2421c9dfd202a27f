use Rattle.std.proofs.Common.{◌≡◌, ◌++◌, decimal, codes, map, string_bytes}
use Rattle.markup5ever.specs.Names.{attribute_of}
use Rattle.token_printer.specs.Output.{text_closing}
use Rattle.token_printer.specs.Printed.{kind_word, quoted, quoted_bytes, numbered_text, open_attributes, tag_marks, tag_line}
use Rattle.html5ever_interface.specs.Token.{tag_of}
use Rattle.token_printer.proofs.Attributes.{open_attributes-closed}
use Rattle.token_printer.proofs.Pieces.{pieces-tag}
use Rattle.token_printer.proofs.output.push_tag.Goals as goal

pub returns-clause-ok : goal.returns-clause-ok
unfolding tag_line numbered_text quoted
returns-clause-ok g c =
    let tag = c.args.tag.now in
    let name = quoted_bytes (string_bytes tag.name.0) in
    let attributes = map attribute_of tag.attrs.items in
    let named : c.push_open_text.new.output.items ≡ c.push_kind.new.output.items ++ (decimal c.args.line ++ (codes " \"" ++ name)) = cc c.in_ok-push_open_text.ensures.ok in
    let listed : c.push_attributes.new.output.items ≡ c.push_open_text.new.output.items ++ open_attributes attributes = cc c.in_ok-push_attributes.ensures.ok in
    pieces-tag c.push_tag_end.result c.args.output.now.items _ _ _ _ (text_closing c.args.in_text) (kind_word tag.kind) (decimal c.args.line) name (open_attributes attributes) _ (tag_marks (tag_of tag))
    (open_attributes-closed attributes) c.in_ok-push_kind.ensures.ok named listed c.push_tag_end.ensures.ok
