use Rattle.std.proofs.Common.{◌≡◌, ◌∙◌, length, string_bytes, rules, sym}
use Rattle.html5partial.specs.CurrentTag.{open_tag}
use Rattle.html5fast_path.proofs.TagEnds.{start-faultless, end-faultless, none-left}
use Rattle.html5fast_path.proofs.tag_ends.is_faultless.Goals as goal

pub returns-in_default : goal.returns-in_default
returns-in_default g c = λ _. start-faultless (open_tag c.args.tag.now) c.args.self_closing (sym c.kind.ensures ∙ c.in_default.is)

pub returns : goal.returns
returns g c = λ none.
    let empty : length (string_bytes c.args.tag.now.attr_name) ≡ 0 = search rules in
    end-faultless (open_tag c.args.tag.now) c.args.self_closing (sym c.kind.ensures ∙ c.in-EndTag.is) c.if-self_closing.false
    (none-left _ (sym c.has_attributes.ensures ∙ c.if-has_attributes.false)) empty
