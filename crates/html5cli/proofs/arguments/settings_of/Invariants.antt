use Rattle.std.proofs.Common.{◌≡◌, ◌<◌, ◌^◌, map, string_bytes}
use Rattle.std.specs.Prelude.{IsSome}
use Rattle.std.specs.Slice.Iter.{iter_rest}
use Rattle.html5table.specs.Listed.{listed}
use Rattle.html5cli.specs.Settings.{said_by, said_after, settings_said}
use Rattle.html5feed.specs.Starting.{CanStart}
use Rattle.html5cli.proofs.arguments.settings_of.Given as goal

abbrev pub invariant-loop-word : goal.invariant-loop-word
invariant-loop-word g l =
    (l.settings.cut < 2 ^ 32)
    × CanStart l.settings.initial_state
    × IsSome (listed l.settings.table.now)
    × (said_after (said_by l.settings) (map string_bytes (iter_rest l.words)) ≡ settings_said (map string_bytes l.fn.words))
