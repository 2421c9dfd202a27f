use Rattle.std.proofs.Common.{◌≡◌, Bool, false, List, [], ◌∷◌, refl, ℕ, sym, string_bytes}
use Rattle.std.proofs.lemmas.Bool.{false≢true}
use Rattle.html5ever_interface.specs.Token.{DoctypeOf, doctype_of}
use Rattle.html5reading.specs.Machine.{step_at, doctype_step}
use Rattle.html5reading.specs.Start.{is_undecided_open}
use Rattle.html5reading.specs.Start.DoctypePlace.{AfterName}
use Rattle.html5partial.specs.CurrentTag.{after_doctype_name}
use Rattle.html5states.proofs.Tellings.{reads_as}
use Rattle.html5states.proofs.teller.Teller.step_in_doctype.Goals as goal

-- nothing is held after the name when nothing is undecided
step-after_name : (exact : Bool) (held : List ℕ) (d : DoctypeOf) (c : ℕ) → is_undecided_open (after_doctype_name held d) ≡ false
    → step_at exact (after_doctype_name held d) c ≡ doctype_step exact AfterName d c
unfolding step_at
step-after_name exact [] d c decided = refl
step-after_name exact (b ∷ held) d c decided = absurd (false≢true (sym decided))

pub returns-in-AfterDoctypeName : goal.returns-in-AfterDoctypeName
returns-in-AfterDoctypeName g c =
    let at = c.args.at.now in
    let decided : is_undecided_open (after_doctype_name (string_bytes at.comment) (doctype_of at.doctype)) ≡ false =
    rw c.in-AfterDoctypeName.is at c.requires.decided in
    reads_as c.after_doctype_name_state.ensures
    (rw c.in-AfterDoctypeName.is (step-after_name c.args.self.now.exact_errors (string_bytes at.comment) (doctype_of at.doctype) c.args.c decided)) refl
