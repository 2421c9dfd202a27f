-- What words ask of a check. No file of settings is read.
use Rattle.std.specs.Prelude.{ℕ, List, Option, None, Some, codes, option_map}
use Rattle.html5check.specs.Templates.{template_named}
use Rattle.html5check.specs.declared.settings.CheckSettings.{CheckSettings}
use Rattle.html5check.specs.declared.template.Template.{Template}
use Rattle.html5programs.specs.Words.{Asked, value_of}

-- in a template language
abbrev pub in_template : Template → CheckSettings
in_template template = record { template = Some template }

-- the settings that a name says, if it is one's
abbrev pub settings_named : Option (List ℕ) → Option CheckSettings
settings_named None = Some (record { template = None })
settings_named (Some name) = option_map in_template (template_named name)

abbrev pub check_settings_said : Asked → Option (List ℕ) → Option CheckSettings
check_settings_said asked text = settings_named (value_of (codes "--template") asked.given)
