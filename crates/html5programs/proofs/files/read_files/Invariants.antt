use Rattle.std.proofs.Common.{◌≡◌, map, take}
use Rattle.html5programs.specs.Filtering.{ReadsFiles}
use Rattle.html5programs.specs.declared.encoded.PageDecoding.TheVariants.{Utf8Alone}
use Rattle.html5programs.specs.declared.files.Outcome.TheVariants.{Read}
use Rattle.html5programs.proofs.files.read_files.Given as goal

-- as long as all files were read, they were read to their ends, and no read of standard input failed that was read as UTF-8 alone
abbrev pub invariant-loop-file : goal.invariant-loop-file
invariant-loop-file g l = record {
  files : l.outcome ≡ Read → ReadsFiles g.F.Filter.means l.references l.decoding (map (λ file. file.now) (take l.file-index l.files))
      (g.I.Read.remaining l.fn.stdin.inner) (g.I.Read.remaining l.stdin.inner) (g.F.Filter.state l.fn.filter) (g.F.Filter.state l.filter);
  read : l.outcome ≡ Read → l.decoding ≡ Utf8Alone → l.stdin.failures ≡ l.fn.stdin.failures;
}
