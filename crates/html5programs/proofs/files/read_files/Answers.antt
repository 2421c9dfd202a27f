use Rattle.std.proofs.Common.{refl, sym, ◌∙◌}
use Rattle.html5programs.proofs.FilesRead.{reads-more, reads-none}
use Rattle.html5programs.proofs.files.read_files.Goals as goal
use Rattle.html5programs.proofs.files.read_files.Goals.{in-Ok, in-Err+in-Err}

pub loop-file-init : goal.loop-file-init
loop-file-init g c = record { files = λ _. reads-none _ _ _ _ _; read = λ _ _. refl }

pub loop-file-preserved : goal.loop-file-preserved
loop-file-preserved g c = elim c.match-read.branch [
  | in-Ok w ↦ record {
    files = λ same.
        reads-more _ _ _ c.args.files.now c.loop-file.file-index _ _ _ _ _ _ _ c.loop-file-test.true
        (c.loop-file.invariant.files (sym w.outcome-is ∙ same)) (rw w.in-Ok.is at c.read_file-afterwards.ensures.file);
    read = λ same none. (rw w.in-Ok.is at c.read_file-afterwards.ensures.read) none ∙ c.loop-file.invariant.read (sym w.outcome-is ∙ same) none;
  }
  | in-Err+in-Err w ↦ record { files = λ same. absurd (cc (w.outcome-is, same)); read = λ same. absurd (cc (w.outcome-is, same)) }
]
