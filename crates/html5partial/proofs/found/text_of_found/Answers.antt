use Rattle.std.proofs.Common.{◌++◌, string_bytes, encode_utf8, ap, ◌∙◌}
use Rattle.std.proofs.lemmas.Str.{IsUtf8-string_bytes}
use Rattle.html5partial.specs.CharRef.{more_of}
use Rattle.html5partial.proofs.FoundText.{put_in_text}
use Rattle.html5partial.proofs.found.text_of_found.Goals as goal

pub returns : goal.returns
returns g c =
    put_in_text (string_bytes c.push.new.self) (string_bytes c.push_second.new.text) (string_bytes c.push_str.new.self) (more_of c.args.found.now.second) c.args.rest.now c.args.found.now.first c.requires
    (IsUtf8-string_bytes c.push_str.new.self) (c.in_ok-push.ensures.bytes ∙ ap (λ l. l ++ encode_utf8 c.args.found.now.first) c.new-text.ensures.bytes) c.in_ok-push_second.ensures c.in_ok-push_str.ensures.bytes
