use Rattle.std.proofs.Common.{◌≡◌, ℕ, List, [], ◌++◌, ◌∙◌, ap, refl, subst, sym}
use Rattle.std.specs.List.{concat}
use Rattle.html5ever.specs.Tokenizer.{rules_of}
use Rattle.html5ever_interface.specs.Options.{default_options}
use Rattle.html5places.specs.Placed.{at_first_byte}
use Rattle.html5places.specs.Readers.{StandsAfter}
use Rattle.html5reading.specs.Start.{Start, start_of}
use Rattle.html5splice.proofs.WholePages.{page-read, page-stopped, stands-first, starts-as}
use Rattle.html5splice.specs.Splicing.{Splicing, StandsSpliced, splicing_of}
use Rattle.html5splice.specs.Pages.{page_parts}
use Rattle.html5stream.specs.Pages.{ReadsPage, StopsPage, passage_of}
use Rattle.html5splice.proofs.page.splice_page.Goals as goal

pub returns-in-Ok-clause-finishes : goal.returns-in-Ok-clause-finishes
returns-in-Ok-clause-finishes g c =
    let K : Start = start_of default_options in
    let s = g.H.Splicer.state c.args.splicer in
    let w : List ℕ = g.O.Output.bytes c.args.output in
    let t : Splicing g.H.Splicer.State = splicing_of g.H.Splicer.state g.O.Output.bytes c.new-splicing.result in
    let stands : StandsAfter c.new-reader.result.reading (at_first_byte K) [] =
    subst (λ options. StandsAfter c.new-reader.result.reading (at_first_byte (start_of options)) []) c.default.ensures c.new-reader.ensures.stands in
    let same : c.new-reader.result.reading.rules ≡ rules_of default_options c.args.references.now =
    c.new-reader.ensures.rules ∙ ap (λ options. rules_of options c.args.references.now) c.default.ensures in
    let first : StandsSpliced g.H.Splicer.splices c.new-reader.result.reading t K s w [] =
    stands-first g.H.Splicer.splices K s w c.new-reader.result.reading t stands
    (starts-as g.H.Splicer.state g.O.Output.bytes c.new-splicing.result.splicer c.args.splicer c.new-splicing.result.output c.args.output c.new-splicing.result.window
    c.new-splicing.ensures.splicer c.new-splicing.ensures.output c.new-splicing.ensures.window) in
    subst (λ o. ReadsPage (λ (before : List ℕ) bytes. before ++ concat (page_parts g.H.Splicer.splices c.args.references.now s bytes))
    (passage_of g.R.Source.remaining c.args.source.now c.splice_whole.new.source w (g.O.Output.bytes o))) (sym c.into_output.ensures)
    (page-read g.H.Splicer.splices K s w (rules_of default_options c.args.references.now) refl c.new-reader.result.reading t same first
    (g.R.Source.remaining c.args.source.now) (g.R.Source.remaining c.splice_whole.new.source) (g.O.Output.bytes c.splice_whole.new.splicing.output) c.in-Ok.ensures.splices)

pub returns-clause-beginning : goal.returns-clause-beginning
returns-clause-beginning g c =
    let K : Start = start_of default_options in
    let s = g.H.Splicer.state c.args.splicer in
    let w : List ℕ = g.O.Output.bytes c.args.output in
    let t : Splicing g.H.Splicer.State = splicing_of g.H.Splicer.state g.O.Output.bytes c.new-splicing.result in
    let stands : StandsAfter c.new-reader.result.reading (at_first_byte K) [] =
    subst (λ options. StandsAfter c.new-reader.result.reading (at_first_byte (start_of options)) []) c.default.ensures c.new-reader.ensures.stands in
    let same : c.new-reader.result.reading.rules ≡ rules_of default_options c.args.references.now =
    c.new-reader.ensures.rules ∙ ap (λ options. rules_of options c.args.references.now) c.default.ensures in
    let first : StandsSpliced g.H.Splicer.splices c.new-reader.result.reading t K s w [] =
    stands-first g.H.Splicer.splices K s w c.new-reader.result.reading t stands
    (starts-as g.H.Splicer.state g.O.Output.bytes c.new-splicing.result.splicer c.args.splicer c.new-splicing.result.output c.args.output c.new-splicing.result.window
    c.new-splicing.ensures.splicer c.new-splicing.ensures.output c.new-splicing.ensures.window) in
    subst (λ o. StopsPage (λ (before : List ℕ) bytes. page_parts g.H.Splicer.splices c.args.references.now s bytes) (λ before written. before ++ concat written)
    (passage_of g.R.Source.remaining c.args.source.now c.splice_whole.new.source w (g.O.Output.bytes o))) (sym c.into_output-in-Err.ensures)
    (page-stopped g.H.Splicer.splices K s w (rules_of default_options c.args.references.now) refl c.new-reader.result.reading t same first
    (g.R.Source.remaining c.args.source.now) (g.R.Source.remaining c.splice_whole.new.source) (g.O.Output.bytes c.splice_whole.new.splicing.output) c.in-Err.ensures.stops)
