use Rattle.std.proofs.Common.{◌≡◌, rules, string_bytes}
use Rattle.html5partial.proofs.AttributeNames.{adds-name}
use Rattle.html5partial.proofs.indexed_tag.add_name.Goals as goal

pub returns : goal.returns
returns g c =
    let same : string_bytes c.in_ok-clone.field-0 ≡ string_bytes c.args.name.now = search rules in
    adds-name c.args.names.now c.insert.new.self c.in_ok-clone.field-0 (string_bytes c.args.name.now) same c.in_ok-insert.ensures.updates
