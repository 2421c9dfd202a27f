use Rattle.std.proofs.Common.{string_bytes}
use Rattle.html5partial.specs.CharRef.{more_of}
use Rattle.html5partial.proofs.FoundText.{put_in_value}
use Rattle.html5partial.proofs.found.push_found.Goals as goal

pub returns : goal.returns
returns g c =
    put_in_value (string_bytes c.args.value.now) (string_bytes c.push_value.new.value) (string_bytes c.push_second_value.new.value) (string_bytes c.push_str.new.self)
    (more_of c.args.found.now.second) c.args.rest.now c.args.found.now.first c.requires c.in_ok-push_value.ensures c.in_ok-push_second_value.ensures c.in_ok-push_str.ensures.bytes
