-- What an editor of pages says of each token.
use Rattle.std.specs.Prelude.{ℕ, Bool, List, [], Option, None, Some, ◌&&◌, ◌==◌, encode_utf8_all, if◌then◌else◌}
use Rattle.html5elements.specs.Hidden.{Hidden, has_content, hidden_after, nothing_hidden}
use Rattle.html5ever_interface.specs.Token.{TagOf, Told}
use Rattle.html5ever_interface.specs.Token.Told.{Tag}
use Rattle.html5extract.specs.Bases.{bases_after, page_bases}
use Rattle.html5extract.specs.declared.bases.Bases.{Bases}
use Rattle.html5serialize.specs.Tags.{tag_text}
use Rattle.html5splice.specs.Cuts.{CutOf}
use Rattle.html5splice.specs.Edits.{EditOf, EditsOf, Splices, no_edits}
use Rattle.html5splice.specs.Edits.EditOf.{Keep, Replace}
use Rattle.html5edit.specs.Changes.{Changed, Changes, changed_tag, is_dropped}

-- what is changed, where links lead from, and what is dropped
pub record Editing : Type 0 where
  pub changes : Changes
  pub bases : Bases
  pub hidden : Hidden

-- where a page begins
abbrev pub start_of_editing : Changes → Bases → Editing
start_of_editing changes bases = record { changes = changes; bases = page_bases bases; hidden = nothing_hidden }

-- the token is dropped, and the run before it stays
abbrev pub token_dropped : EditsOf
token_dropped = record { run = Keep; token = Replace [] }

-- both are dropped
abbrev pub both_dropped : EditsOf
both_dropped = record { run = Replace []; token = Replace [] }

-- a tag that is changed is written anew
abbrev pub edits_of_changed : Changed → EditsOf
edits_of_changed c = if c.is_changed then record { run = Keep; token = Replace (encode_utf8_all (tag_text c.tag)) } else no_edits

abbrev pub edits_of_tag : Editing → TagOf → EditsOf
edits_of_tag s tag = if is_dropped s.changes tag.name then token_dropped else (edits_of_changed (changed_tag s.changes s.bases tag))

-- when nothing is dropped: tags alone are edited
abbrev pub edits_shown : Editing → Told → EditsOf
edits_shown s (Tag tag) = edits_of_tag s tag
edits_shown s other = no_edits

abbrev pub edits_of : Editing → Told → EditsOf
edits_of s told = if s.hidden.depth == 0 then (edits_shown s told) else both_dropped

-- whether a tag begins an element that is dropped with its content
abbrev pub opens : Changes → TagOf → Bool
opens changes tag = is_dropped changes tag.name && has_content tag

abbrev pub bases_after_told : Bases → Told → Bases
bases_after_told bases (Tag tag) = bases_after bases tag
bases_after_told bases other = bases

abbrev pub after_token : Editing → Told → Editing
after_token s told = record s { bases = bases_after_told s.bases told; hidden = hidden_after (opens s.changes) s.hidden told }

abbrev pub editing : Splices Editing
editing = record { edits = λ s cut. edits_of s cut.token; step = λ s cut. after_token s cut.token }
