-- What programs make of pages: their tokens and their links as JSON.
use Rattle.std.specs.Prelude.{false}
use Rattle.html5ever_interface.specs.Sink.{Message}
use Rattle.html5extract.specs.LinkReading.{LinkReading}
use Rattle.html5extract.specs.Makings.{links_made_by}
use Rattle.html5extract.specs.declared.link_settings.LinkSettings.{LinkSettings}
use Rattle.html5extract.specs.declared.token_settings.TokenSettings.{TokenSettings}
use Rattle.html5json.specs.Lines.{JsonReading, json_links_step, json_tokens_step}
use Rattle.html5programs.specs.Filtering.{Making}
use Rattle.html5programs.specs.Fronts.{front_at_start, front_named}
use Rattle.html5stream.specs.Pages.{runs_handed, runs_page}

-- the tokens of pages, after what was printed before
abbrev pub json_tokens_made : Making TokenSettings Message JsonReading
json_tokens_made = record {
  started = λ settings printed. record { printed = printed; front = front_at_start settings.shows_names };
  named = λ file s. record s { front = front_named file s.front };
  begun = λ s. s;
  page = runs_page json_tokens_step;
  handed = runs_handed json_tokens_step;
  printed = λ s. s.printed;
  found = λ s. false;
}

-- the links of pages, after what was printed before
abbrev pub json_links_made : Making LinkSettings Message LinkReading
json_links_made = links_made_by json_links_step
