-- Where the sink of a tree stands after a whole text.
use Rattle.std.specs.Prelude.{ℕ, false, List, [], Option, None, Some, Result, Ok, OnOk}
use Rattle.std.proofs.Common.{◌≡◌, refl, ap, subst, ◌∙◌}
use Rattle.html5ever_interface.specs.declared.states.State.{State}
use Rattle.html5ever_interface.specs.Sink.{stepped}
use Rattle.html5reading.specs.Reading.{messages, reading}
use Rattle.html5reading.specs.Start.{Mode, Rules, Start, initial_mode, start_of}
use Rattle.html5reading.specs.Start.Open.{Between}
use Rattle.tree_construction.specs.Construction.{request_of_kind, start}
use Rattle.tree_construction.specs.Parser.{Options}
use Rattle.tree_construction.specs.Text.{mode_of_request, parser_of_text, text_start}
use Rattle.tree_builder.specs.Built.{options_of}
use Rattle.tree_builder.specs.declared.options.FragmentContext.{FragmentContext}
use Rattle.tree_builder.specs.declared.options.TreeBuilderOpts.{TreeBuilderOpts}
use Rattle.tree_documents.specs.Documents.{reading_from}
use Rattle.tree_sink.specs.Edited.{IsTold}
use Rattle.tree_sink.specs.Sinks.{TreeMeans}
use Rattle.tree_parser.specs.Building.{Building, after_message, answered, replied}
use Rattle.tree_parser.proofs.Stepping.{text-built}

pub told-whole : {Q S : Type 0} (means : TreeMeans Q S) (options : Options) (rules : Rules) (K : Start) (s t : Building Q) (sink : Q) (text : List ℕ)
    → K ≡ text_start options → s.parser ≡ start options
    → t ≡ stepped after_message s (messages (reading after_message replied answered rules K s text))
    → IsTold means t.first t.parser.page.edits sink → IsTold means s.first (parser_of_text options rules text).page.edits sink
told-whole means options rules K s t sink text K_is s_is reads told =
    subst (λ b. IsTold means b.first b.parser.page.edits sink) (reads ∙ text-built options rules K s text K_is s_is) told

-- what an `Ok` says
pub said : (P : Type 0) {T E : Type 0} (r : Result T E) (x : T) → r ≡ Ok x → OnOk r P → P
said P r x e h = subst (λ q. OnOk q P) e h

-- where the tokenizer starts
pub document-start : (opts : TreeBuilderOpts) → start_of (reading_from None) ≡ text_start (options_of opts None)
unfolding mode_of_request
document-start opts = refl

pub fragment-start : (state : Option State) (opts : TreeBuilderOpts) (context : FragmentContext)
    → initial_mode state [] ≡ mode_of_request (request_of_kind opts.scripting_enabled context.kind)
    → start_of (reading_from state) ≡ text_start (options_of opts (Some context))
fragment-start state opts context e =
    let at : Mode → Start = λ m. record {
      opened = Between m;
      last_start_tag = [];
      input = record { line = 1; after_carriage_return = false; drops_byte_order_mark = false };
    } in
    ap at e
