use Rattle.std.proofs.Common.{[], refl}
use Rattle.std.specs.Prelude.{string_bytes}
use Rattle.std.specs.Str.{chars}
use Rattle.std.proofs.lemmas.Str.{IsUtf8-nil, IsUtf8-string_bytes}
use Rattle.html5splice.proofs.Reading.{on-nothing}
use Rattle.html5splice.specs.Splicing.{splicing_of}
use Rattle.html5splice.proofs.page.splice_bytes.Goals as goal

pub returns-in-Err-clause-stops : goal.returns-in-Err-clause-stops
returns-in-Err-clause-stops g c = record {
  text = [];
  rest = _;
  parts = refl;
  utf8 = IsUtf8-nil;
  stopped =
      on-nothing g.H.Splicer.splices c.args.reader.now.reading (splicing_of g.H.Splicer.state g.O.Output.bytes c.args.splicing.now)
      (splicing_of g.H.Splicer.state g.O.Output.bytes c.args.splicing.now) (chars []) refl;
}
