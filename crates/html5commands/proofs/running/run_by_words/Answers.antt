-- the search doesn't look into an option
use Rattle.std.proofs.Common.{ap}
use Rattle.std.specs.Io.{StartsWith}
use Rattle.std.specs.Prelude.{◌≡◌, Ok}
use Rattle.html5commands.specs.Commands.{asked_of_command, program_name, usage_of}
use Rattle.html5commands.proofs.Statuses.{done-prints, done-says, is-done, wrong-status}
use Rattle.html5policy.specs.Standard.{standard_policy}
use Rattle.html5policy.specs.Text.{policy_said}
use Rattle.html5programs.specs.Ending.{AsksHelp, AsksSettings, AsksVersion}
use Rattle.html5programs.specs.Version.{version_line}
use Rattle.html5commands.proofs.running.run_by_words.Goals as goal

pub returns-clause-usage : goal.returns-clause-usage
returns-clause-usage g c = wrong-status _ _ _ c.status.ensures c.command_by_words-output.ensures.usage

pub returns-clause-done : goal.returns-clause-done
returns-clause-done g c = λ zero here.
    let said = c.command_by_words-output.ensures in
    let written = c.command_by_words-output.result.0.taken in
    let done = is-done _ _ _ c.status.ensures zero said.closed here in
    record {
      pages = done-prints _ _ _ _ _ _ done (ap (λ i. g.I.Read.remaining i) c.new-3.ensures.inner) said.done;
      help = done-says _ _ (λ n. AsksHelp (asked_of_command n)) (λ n. StartsWith written (usage_of n.command)) done said.help;
      version = done-says _ _ (λ n. AsksVersion (asked_of_command n)) (λ n. written ≡ version_line program_name) done said.version;
      policy = done-says _ _ (λ n. AsksSettings (asked_of_command n)) (λ n. policy_said written ≡ Ok standard_policy) done said.policy;
      first = said.first done;
    }
