-- The labels in the program are the Standard's.
use Rattle.std.specs.Prelude.{◌≡◌, map, refl}
use Rattle.html5encodings.specs.Labels.{labels}
use Rattle.html5encodings.specs.declared.label_list.TheConstants.{LABELS}

pub LABELS-is : map (λ row. (row.0.now, row.1)) LABELS ≡ labels
unfolding labels
LABELS-is = refl
