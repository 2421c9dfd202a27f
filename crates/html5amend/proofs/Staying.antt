-- Where a handler changes nothing, nothing is replaced.
use Rattle.std.proofs.Common.{◌≡◌, ℕ, Bool, true, false, List, [], ◌∷◌, refl, ap, ◌∙◌}
use Rattle.std.specs.Prelude.{◌&&◌, encode_utf8_all, if◌then◌else◌}
use Rattle.std.specs.List.{concat}
use Rattle.html5elements.specs.Hidden.{has_content}
use Rattle.html5ever_interface.specs.Token.{TagOf, Told}
use Rattle.html5ever_interface.specs.Token.Told.{Comment, Doctype, End, Error, Instruction, Null, Tag, Text}
use Rattle.html5ever_interface.specs.declared.interface.token.TagKind.{TagKind}
use Rattle.html5ever_interface.specs.declared.interface.token.TagKind.TheVariants.{EndTag, StartTag}
use Rattle.html5reading.specs.Start.{Rules, Start, nothing_open}
use Rattle.html5splice.specs.Cuts.{CutOf, cuts}
use Rattle.html5splice.specs.Edits.{Splices, no_edits, parts, spliced}
use Rattle.html5splice.specs.Edits.EditOf.{Keep}
use Rattle.html5splice.proofs.WholeTexts.{text-stays}
use Rattle.html5amend.specs.Amending.{Amends, amended, amending, move_of, moved, opening_move, shown_move, shown_tag, shown_token}
use Rattle.html5amend.specs.Amending.Move.{Counts, Opens}
use Rattle.html5amend.specs.Elements.{as_in_page, start_part}
use Rattle.html5amend.specs.Nothing.{ChangesNothing}
use Rattle.html5amend.specs.Open.{found_from, opened}
use Rattle.html5amend.specs.Others.{other_in_page}
use Rattle.html5amend.specs.Parts.{edit_of_part}

-- a splicer that replaces nothing
abbrev keeping : Splices (Unit {0})
keeping = record { edits = λ s cut. no_edits; step = λ s cut. s }

module _ (amends : Amends) (nothing : ChangesNothing amends) where
  start-kept : (tag : TagOf) (source : List ℕ) (content : Bool) → has_content tag ≡ content → edit_of_part (start_part (amended amends tag)) source ≡ Keep
  start-kept tag source true is =
      ap (λ e. edit_of_part (start_part e) source) (nothing.element (as_in_page tag))
      ∙ ap (λ b. edit_of_part (record { before = []; itself = Keep; after = if b then [] else [] }) source) is
  start-kept tag source false is =
      ap (λ e. edit_of_part (start_part e) source) (nothing.element (as_in_page tag))
      ∙ ap (λ b. edit_of_part (record { before = []; itself = Keep; after = if b then [] else [] }) source) is

  start-stays : (tag : TagOf) (content : Bool) → has_content tag ≡ content → moved (opening_move tag (amended amends tag)) [] ≡ []
  unfolding found_from
  start-stays tag true is =
      ap (λ e. moved (opening_move tag e) []) (nothing.element (as_in_page tag))
      ∙ ap (λ b. moved (if b && false then Opens (opened (as_in_page tag)) else Counts tag) []) is
  start-stays tag false is =
      ap (λ e. moved (opening_move tag e) []) (nothing.element (as_in_page tag))
      ∙ ap (λ b. moved (if b && false then Opens (opened (as_in_page tag)) else Counts tag) []) is

  tag-kept : (kind : TagKind) (tag : TagOf) (source : List ℕ) → shown_tag amends [] kind tag source ≡ Keep
  unfolding found_from
  tag-kept StartTag tag source = start-kept tag source (has_content tag) refl
  tag-kept EndTag tag source = refl

  token-kept : (told : Told) (source : List ℕ) → shown_token amends [] told source ≡ Keep
  token-kept (Tag tag) source = tag-kept tag.kind tag source
  token-kept (Text text) source = ap (λ o. edit_of_part o.part source) (nothing.other (other_in_page (Text text)))
  token-kept Null source = ap (λ o. edit_of_part o.part source) (nothing.other (other_in_page Null))
  token-kept (Comment text) source = ap (λ o. edit_of_part o.part source) (nothing.other (other_in_page (Comment text)))
  token-kept (Instruction text) source = ap (λ o. edit_of_part o.part source) (nothing.other (other_in_page (Instruction text)))
  token-kept (Doctype d) source = ap (λ o. edit_of_part o.part source) (nothing.other (other_in_page (Doctype d)))
  token-kept (Error message) source = refl
  token-kept End source = refl

  tag-stays : (kind : TagKind) (tag : TagOf) → moved (shown_move amends kind tag) [] ≡ []
  unfolding found_from
  tag-stays StartTag tag = start-stays tag (has_content tag) refl
  tag-stays EndTag tag = refl

  token-stays : (told : Told) → moved (move_of amends [] told) [] ≡ []
  token-stays (Tag tag) = tag-stays tag.kind tag
  token-stays (Text text) = refl
  token-stays Null = refl
  token-stays (Comment text) = refl
  token-stays (Instruction text) = refl
  token-stays (Doctype d) = refl
  token-stays (Error message) = refl
  token-stays End = refl

  parts-kept : (cuts : List CutOf) → parts (amending amends) [] cuts ≡ parts keeping tt cuts
  unfolding parts
  parts-kept [] = refl
  parts-kept (cut ∷ cuts) =
      ap (λ t. spliced (record { run = Keep; token = t }) cut ∷ parts (amending amends) (moved (move_of amends [] cut.token) []) cuts) (token-kept cut.token cut.source)
      ∙ ap (λ w. spliced no_edits cut ∷ parts (amending amends) w cuts) (token-stays cut.token)
      ∙ ap (λ l. spliced no_edits cut ∷ l) (parts-kept cuts)

  pub page-stays : (rules : Rules) (K : Start) (text : List ℕ) → nothing_open K.opened ≡ true → concat (parts (amending amends) [] (cuts rules K text)) ≡ encode_utf8_all text
  page-stays rules K text clean = ap concat (parts-kept (cuts rules K text)) ∙ text-stays keeping tt rules K text clean (λ t cut. refl)
