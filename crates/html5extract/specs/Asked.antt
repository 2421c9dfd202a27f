-- What words ask of the links and the tokens of pages. No file of settings is read.
use Rattle.std.specs.Prelude.{ℕ, List, Option, Some, option_map}
use Rattle.html5extract.specs.Bases.{bases_asked}
use Rattle.html5extract.specs.declared.link_settings.LinkSettings.{LinkSettings}
use Rattle.html5extract.specs.declared.token_settings.TokenSettings.{TokenSettings}
use Rattle.html5programs.specs.Words.{Asked, shows_names}

abbrev pub link_settings_said : Asked → Option (List ℕ) → Option LinkSettings
link_settings_said asked text = option_map (λ bases. record { bases = bases; shows_names = shows_names asked }) (bases_asked asked)

abbrev pub token_settings_said : Asked → Option (List ℕ) → Option TokenSettings
token_settings_said asked text = Some (record { shows_names = shows_names asked })
