use Rattle.std.proofs.Common.{◌≡◌, ◌≤◌, ◌-◌, length}
use Rattle.html5reading.specs.Start.{held_len}
use Rattle.html5partial.specs.CurrentTag.{opened_of, last_name_of}
use Rattle.html5fast_path.specs.Quiet.{ReadsFront}
use Rattle.html5fast_path.proofs.texts.read_quietly.Given as goal

abbrev pub invariant-loop-read : goal.invariant-loop-read
invariant-loop-read g l =
    ReadsFront l.text l.read (opened_of l.initial.at) (opened_of l.at)
    × ((last_name_of l.at ≡ last_name_of l.initial.at)
    × (held_len (opened_of l.at) ≤ held_len (opened_of l.initial.at)))

abbrev pub decreases-loop-read : goal.decreases-loop-read
decreases-loop-read g l = length l.text - l.read
