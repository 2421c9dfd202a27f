-- A page of pieces that were kept is kept as it is.
use Rattle.std.proofs.Common.{◌≡◌, ℕ, true, false, List, [], ◌∷◌, ◌++◌, refl, ap, ◌∙◌, arith}
use Rattle.std.specs.Prelude.{encode_utf8_all}
use Rattle.std.specs.List.{list_all}
use Rattle.std.proofs.lemmas.List.{append-nil}
use Rattle.html5ever_interface.specs.Options.{default_options}
use Rattle.html5ever_interface.specs.Sink.{Message}
use Rattle.html5ever_interface.specs.Token.{keeps_state}
use Rattle.html5ever_interface.specs.Token.Told.{End}
use Rattle.html5reading.specs.NormalisedText.{normalised, line_after}
use Rattle.html5reading.specs.Reading.{all_messages}
use Rattle.html5reading.specs.Start.{Start, Rules, start_of}
use Rattle.html5policy.specs.Policy.{PolicyOf}
use Rattle.html5policy.specs.Rules.{IsSound}
use Rattle.html5sinks.specs.Runs.{Joined, Running}
use Rattle.html5stream.specs.Pages.{runs_handed, runs_means, runs_page, runs_start}
use Rattle.markup5ever.specs.NamedReferences.{NamedReference, IsTable}
use Rattle.html5write.specs.Pieces.{Piece, pieces_text}
use Rattle.html5write.specs.Told.{pieces_tokens, proper}
use Rattle.html5write.proofs.Pages.{pieces-reading}
use Rattle.html5write.proofs.ProperTokens.{proper-whole}
use Rattle.html5cleaner.specs.Allowed.{is_clean}
use Rattle.html5cleaner.specs.Balance.{end_tags}
use Rattle.html5cleaner.specs.Clean.{Cleaned, at_start, clean_step}
use Rattle.html5cleaner.proofs.Steady.{AreSteady}
use Rattle.html5cleaner.proofs.Again.{after-messages, after_tokens, after_tokens-append, kept-with_run, stands-page}
use Rattle.html5cleaner.proofs.Balancing.{AllGo}
use Rattle.html5cleaner.proofs.NestedPages.{goes-handed}
use Rattle.html5cleaner.proofs.ShapeRuns.{IsShort, none-fits, shaped-at_end}
use Rattle.html5cleaner.proofs.SteadyPages.{steady-handed}
use Rattle.html5cleaner.specs.Shape.{Shape, shape_of}
use Rattle.html5cleaner.specs.Shape.Shape.{AsKept, Balanced, Tree}
use Rattle.html5cleaner.proofs.Encoded.{chars-encoded}
use Rattle.html5cleaner.proofs.Printing.{clean-handed}
use Rattle.html5cleaner.proofs.Replies.{keeps_on-page}
use Rattle.html5cleaner.proofs.Tokens.{can-clean}

-- a page of clean pieces is read, except for errors, as these
proper-page : (policy : PolicyOf) (references : List NamedReference) (pieces : List Piece) → IsSound policy → IsTable references → list_all (is_clean policy) pieces ≡ true
    → proper (runs_page clean_step references (at_start policy) (encode_utf8_all (pieces_text pieces))) ≡ pieces_tokens pieces ++ End ∷ []
unfolding runs_page
proper-page policy references pieces sound table clean =
    let rules : Rules = record { exact = false; references = references } in
    let K : Start = start_of default_options in
    let means = runs_means {X = Running Cleaned} (λ t. t) clean_step in
    ap (λ text. proper (all_messages means rules K (runs_start (at_start policy)) text)) (chars-encoded (pieces_text pieces))
    ∙ ap proper
    (pieces-reading means rules K (runs_start (at_start policy)) pieces table (record { starts = refl; no_break = refl }) (can-clean policy pieces clean)
    (keeps_on-page policy sound means.reply (λ s tag line keeps. ap keeps_state keeps) pieces clean))
    ∙ proper-whole rules.exact K.input pieces (line_after K.input (normalised K.input (pieces_text pieces)))

-- nothing is open at first
none-short : (shape : Shape) → IsShort shape []
none-short AsKept = tt
none-short Balanced = tt
none-short (Tree limit) = omega arith

kept-again : (policy : PolicyOf) (references : List NamedReference) (pieces : List Piece) (opened : List (List ℕ)) → IsSound policy → IsTable references
    → list_all (is_clean policy) pieces ≡ true → AreSteady policy pieces → AllGo (shape_of policy) [] pieces opened
    → pieces_text (runs_handed clean_step (at_start policy) (runs_page clean_step references (at_start policy) (encode_utf8_all (pieces_text pieces)))).pieces
    ≡ pieces_text pieces ++ pieces_text (end_tags opened)
unfolding runs_handed after_tokens
kept-again policy references pieces opened sound table clean steady go =
    let M : List Message = runs_page clean_step references (at_start policy) (encode_utf8_all (pieces_text pieces)) in
    let start : Joined Cleaned = (runs_start (at_start policy)).joined in
    let before : Joined Cleaned = after_tokens start (pieces_tokens pieces) in
    let stands = stands-page policy [] opened [] start (record { keeps = refl; text = []; waits = refl; whole = refl; shown = refl; stays = refl; fit = none-fits (shape_of policy) [] (none-short (shape_of policy)); written = refl }) pieces steady go in
    ap (λ j. pieces_text j.handler.pieces)
    (after-messages (runs_start (at_start policy)) M ∙ ap (after_tokens start) (proper-page policy references pieces sound table clean) ∙ after_tokens-append start (pieces_tokens pieces) (End ∷ []))
    ∙ kept-with_run policy opened (pieces_text pieces) before stands End (pieces_text (end_tags opened)) (ap pieces_text (shaped-at_end (shape_of policy) opened pieces go))

-- the output for any messages, and then the end tags of the elements open after them
pub kept-twice : (policy : PolicyOf) (references : List NamedReference) (M : List Message) → IsSound policy → IsTable references
    → pieces_text (runs_handed clean_step (at_start policy) (runs_page clean_step references (at_start policy) (encode_utf8_all (pieces_text (runs_handed clean_step (at_start policy) M).pieces)))).pieces
    ≡ pieces_text (runs_handed clean_step (at_start policy) M).pieces ++ pieces_text (end_tags (runs_handed clean_step (at_start policy) M).opened)
kept-twice policy references M sound table =
    let c : Cleaned = runs_handed clean_step (at_start policy) M in
    kept-again policy references c.pieces c.opened sound table (clean-handed policy M (λ tree. sound)) (steady-handed policy sound M) (goes-handed policy M)

-- when nothing is open after them, they are kept again as they are
pub kept-whole : (policy : PolicyOf) (references : List NamedReference) (M : List Message) → IsSound policy → IsTable references → (runs_handed clean_step (at_start policy) M).opened ≡ []
    → pieces_text (runs_handed clean_step (at_start policy) (runs_page clean_step references (at_start policy) (encode_utf8_all (pieces_text (runs_handed clean_step (at_start policy) M).pieces)))).pieces
    ≡ pieces_text (runs_handed clean_step (at_start policy) M).pieces
kept-whole policy references M sound table none =
    kept-twice policy references M sound table
    ∙ ap (λ (o : List (List ℕ)). pieces_text (runs_handed clean_step (at_start policy) M).pieces ++ pieces_text (end_tags o)) none
    ∙ append-nil (pieces_text (runs_handed clean_step (at_start policy) M).pieces)
