-- a command's name asks for no text of the program
use Rattle.std.proofs.Common.{◌≡◌, Some, map, rules, string_bytes}
use Rattle.html5commands.specs.Commands.{command_named}
use Rattle.html5commands.proofs.Statuses.{no-first}
use Rattle.html5commands.proofs.running.command_by_words.Goals as goal

pub returns-in-Some-command_of-clause-first : goal.returns-in-Some-command_of-clause-first
returns-in-Some-command_of-clause-first g c =
    let some : command_named (map string_bytes c.args.words.now)
    ≡ Some (record { command = c.in-Some-command_of.command; words = map string_bytes c.in-Some.rest.now }) = search rules in
    λ done. no-first _ _ _ some
