-- a command without the format SARIF prints no such log
use Rattle.std.proofs.Common.{map, string_bytes}
use Rattle.html5commands.proofs.NoLogs.{prints-links, prints-tokens}
use Rattle.html5commands.proofs.running.by_command.Goals as goal

pub returns-in-Tokens-clause-done : goal.returns-in-Tokens-clause-done
returns-in-Tokens-clause-done g c =
    prints-tokens c.args.command (map string_bytes c.args.words.now) _ _ _ _ _ c.in-Tokens.is c.program_of-program.ensures.options c.filter_in_format.ensures.done

pub returns-in-Links-clause-done : goal.returns-in-Links-clause-done
returns-in-Links-clause-done g c =
    prints-links c.args.command (map string_bytes c.args.words.now) _ _ _ _ _ c.in-Links.is c.program_of-program.ensures.options c.filter_in_format-in-Links.ensures.done
