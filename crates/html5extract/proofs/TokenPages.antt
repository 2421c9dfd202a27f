-- That a sink of lines reads pages as `TokenLines` says.
use Rattle.std.proofs.Common.{◌≡◌, List, refl}
use Rattle.markup5ever.specs.NamedReferences.{NamedReference}
use Rattle.html5ever_interface.specs.Options.{OptionsOf, default_options}
use Rattle.html5stream.proofs.Pages.{IsPage, IsUnmoved}
use Rattle.html5extract.specs.TokenLines.{TokenReading, token_lines, tokens_page, tokens_printed}

pub lines-are-page : {X : Type 0} (references : List NamedReference) (options : OptionsOf) (state : X → TokenReading) (from : TokenReading)
    → options ≡ default_options → IsPage (token_lines state) (λ t. t) (tokens_page references) tokens_printed options references from from
unfolding tokens_page tokens_printed
lines-are-page references options state from chosen =
    let unmoved : IsUnmoved (token_lines state) = record { finish = λ s. refl; faulted = λ s told line. refl; end_faulted = λ s. refl } in
    rw chosen record { told = λ bytes. refl; afterwards = λ M. refl; unmoved = unmoved }
