-- How a tokenizer reads, in the words of contracts. Texts are the bytes of their UTF-8.
use Rattle.std.specs.Prelude.{ℕ, Bool, true, false, List, Option, None, option_map, string_bytes}
use Rattle.html5ever_interface.specs.declared.options.TokenizerOpts.{TokenizerOpts}
use Rattle.html5ever_interface.specs.declared.states.State.{State}

-- the options of a tokenizer
pub record OptionsOf : Type 0 where
  pub exact_errors : Bool
  pub discard_bom : Bool
  pub initial_state : Option State
  pub last_start_tag_name : Option (List ℕ)

-- the options, in the words of contracts
abbrev pub options_of : {Z : Type 0} → TokenizerOpts Z → OptionsOf
options_of opts = record {
  exact_errors = opts.exact_errors;
  discard_bom = opts.discard_bom;
  initial_state = opts.initial_state;
  last_start_tag_name = option_map string_bytes opts.last_start_tag_name;
}

-- the default options: a byte order mark is dropped
abbrev pub default_options : OptionsOf
default_options = record { exact_errors = false; discard_bom = true; initial_state = None; last_start_tag_name = None }
