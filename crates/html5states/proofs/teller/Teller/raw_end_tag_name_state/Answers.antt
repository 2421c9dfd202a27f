use Rattle.std.proofs.Common.{ap, sym, ◌∙◌, string_bytes}
use Rattle.std.specs.Prelude.{is_some}
use Rattle.std.specs.Str.{chars}
use Rattle.html5partial.specs.CurrentTag.{last_name_of}
use Rattle.html5partial.proofs.HeldLetters.{ends_name-raw}
use Rattle.html5states.proofs.teller.Teller.raw_end_tag_name_state.Goals as goal

pub create_end_tag-requires : goal.create_end_tag-requires
create_end_tag-requires g c =
    ends_name-raw (last_name_of c.args.at.now) (chars (string_bytes c.args.at.now.letters)) c.args.c
    (sym c.in_ok-name.ensures.ends ∙ ap is_some c.in-Some.is)
