-- What programs make of pages: their tokens, their links, and their text.
use Rattle.std.specs.Prelude.{ℕ, false, List}
use Rattle.html5stream.specs.Pages.{runs_handed, runs_page, tags_handed, tags_page}
use Rattle.html5programs.specs.Filtering.{Making}
use Rattle.html5ever_interface.specs.Sink.{Message}
use Rattle.html5ever_interface.specs.Token.{TagOf}
use Rattle.html5extract.specs.LinkReading.{LinkReading, links_begun, links_named, links_started, links_step}
use Rattle.html5extract.specs.PageText.{Reading, at_start, text_step}
use Rattle.html5extract.specs.TokenLines.{TokenReading, tokens_named, tokens_page, tokens_printed}
use Rattle.html5extract.specs.declared.link_settings.LinkSettings.{LinkSettings}
use Rattle.html5extract.specs.declared.token_settings.TokenSettings.{TokenSettings}
use Rattle.html5programs.specs.Fronts.{front_at_start}

-- the tokens of pages, after what was printed before
abbrev pub tokens_made : Making TokenSettings Message TokenReading
tokens_made = record {
  started = λ settings printed. record { lines = printed; in_text = false; front = front_at_start settings.shows_names };
  named = tokens_named;
  begun = λ s. s;
  page = tokens_page;
  handed = tokens_printed;
  printed = λ s. s.lines;
  found = λ s. false;
}

-- the links of pages, after what was printed before, by what is made of each tag
abbrev pub links_made_by : (LinkReading → TagOf → ℕ → LinkReading) → Making LinkSettings Message LinkReading
links_made_by step = record {
  started = links_started;
  named = links_named;
  begun = links_begun;
  page = tags_page step;
  handed = tags_handed step;
  printed = λ s. s.printed;
  found = λ s. false;
}

-- as lines
abbrev pub links_made : Making LinkSettings Message LinkReading
links_made = links_made_by links_step

-- their text, where each page begins outside of scripts and styles
abbrev pub text_made : Making (Unit {0}) Message Reading
text_made = record {
  started = λ settings printed. at_start printed;
  named = λ file s. s;
  begun = λ s. at_start s.printed;
  page = runs_page text_step;
  handed = runs_handed text_step;
  printed = λ s. s.printed;
  found = λ s. false;
}
