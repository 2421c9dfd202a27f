-- That the end tag of raw text leads on by itself, as a tag does.
use Rattle.std.proofs.Common.{◌≡◌, ℕ, true, false, List, [], ◌∷◌, ◌++◌, refl, ap, ◌∙◌}
use Rattle.std.specs.Prelude.{flat_map, not}
use Rattle.std.specs.List.{list_all}
use Rattle.std.specs.Str.{bytes_eq}
use Rattle.std.proofs.lemmas.Bool.{and_parts, false≢true, not-true}
use Rattle.html5ever_interface.specs.Sink.{Means, Message, stepped}
use Rattle.html5ever_interface.specs.declared.interface.token.TagKind.{TagKind}
use Rattle.html5ever_interface.specs.declared.interface.token.TagKind.TheVariants.{StartTag, EndTag}
use Rattle.html5ever_interface.specs.declared.states.State.TheVariants as state
use Rattle.markup5ever.specs.NamedReferences.{IsTable}
use Rattle.html5grammar.specs.Anywhere.{TellsByItself, start_after_tag}
use Rattle.html5grammar.specs.Items.{IsRawEnd, ends_raw}
use Rattle.html5grammar.specs.RawText.{is_double_escaped, next_is}
use Rattle.html5grammar.specs.Spelled.{Spelled, spell, spell_silent, spelled_messages}
use Rattle.html5grammar.specs.Tag.{WrittenTag, can_follow, is_written, opening, part_text, spelled, tag_told}
use Rattle.html5grammar.proofs.Goes.{characters}
use Rattle.html5grammar.proofs.RawText.Reading.{goes-end_tag, name_ends, parts-end_name, step-end_name}
use Rattle.html5grammar.proofs.RawText.Steps.Standing.{Free}
use Rattle.html5grammar.proofs.Tag.Parts.{name_cells, named_tag, passes-goes, tag-from, trace-same}
use Rattle.html5grammar.proofs.Tag.Values.{Passes}
use Rattle.html5reading.specs.Characters.{greater_than, is_letter, is_white_space}
use Rattle.html5reading.specs.NormalisedText.{line_after}
use Rattle.html5reading.specs.RawText.{ends_name, kind_of, lower}
use Rattle.html5reading.specs.Start.{Open, Raw, Rules, Start, begun}
use Rattle.html5reading.specs.Start.Mode.{RawText}
use Rattle.html5reading.specs.Start.Open.{Between, InRaw, InTag}
use Rattle.html5reading.specs.Start.Place.{InName}
use Rattle.html5reading.specs.Start.RawPlace.{InEndName}
use Rattle.html5reading.specs.Tag.{in_tag_name, is_end_tag, null_error, with_name}
use Rattle.html5reading.proofs.Traces.{with_messages}

module _ {X S H : Type 0} (means : Means X S H) (rules : Rules) where
  -- the opening and the name of the end tag are read as those of a tag
  passes-end_name : (raw : Raw) (name : List ℕ) (kind : TagKind) (first : ℕ) (rest text : List ℕ) → is_double_escaped (kind_of raw) ≡ false → is_end_tag kind ≡ true
      → list_all is_letter (first ∷ rest) ≡ true → bytes_eq (lower (first ∷ rest)) name ≡ true → next_is ends_name text ≡ true
      → Passes means rules (Between (RawText raw name)) (spell_silent (opening kind) ++ spell (null_error rules.exact state.TagName) (first ∷ rest))
      (InTag InName (with_name (begun kind) (first ∷ rest))) text
  passes-end_name raw name StartTag first rest text single is_end all same ends = absurd (false≢true is_end)
  passes-end_name raw name EndTag first rest [] single is_end all same ends = absurd (false≢true ends)
  passes-end_name raw name EndTag first rest (c ∷ text) single is_end all same ends = λ input before s last.
      let cells : List Spelled = spell_silent (opening EndTag) ++ spell (null_error rules.exact state.TagName) (first ∷ rest) in
      let M : List Message = spelled_messages rules.exact input before cells in
      let in_name : Open = InRaw (InEndName (kind_of raw) (first ∷ rest)) name in
      let named : Open = InTag InName (with_name (begun EndTag) (first ∷ rest)) in
      passes-goes means rules (Between (RawText raw name)) in_name cells (c ∷ text) refl (goes-end_tag rules.exact name (Free raw) first rest single all) input before s last
      ∙ ap (with_messages M)
      (trace-same means rules (stepped means.step s M) (line_after input (before ++ characters cells)) last in_name named c text refl refl
      (step-end_name rules.exact name (kind_of raw) (first ∷ rest) c ends (name_ends name first rest c same ends)))

  passes-end_tag : (raw : Raw) (name : List ℕ) (tag : WrittenTag) (text : List ℕ) → ends_raw name raw tag ≡ true → is_letter tag.first ≡ true → next_is ends_name text ≡ true
      → Passes means rules (Between (RawText raw name)) (name_cells means rules tag) (InTag InName (named_tag means rules tag)) text
  passes-end_tag raw name tag text h letter ends =
      let p = and_parts (not (is_double_escaped (kind_of raw))) _ h in
      let q = and_parts (is_end_tag tag.kind) _ p.1 in
      let r = and_parts (list_all is_letter tag.rest) _ q.1 in
      passes-end_name raw name tag.kind tag.first tag.rest text (not-true (is_double_escaped (kind_of raw)) p.0) q.0 (rw (letter, r.0) refl) r.1 ends

  pub raw_end-by_itself : (K : Start) (s : S) (Y : List ℕ) (raw : Raw) (name : List ℕ) (tag : WrittenTag) → IsTable rules.references → IsRawEnd K Y raw name tag
      → TellsByItself means rules K s Y (spelled_messages rules.exact K.input [] (spelled rules tag))
      (start_after_tag means K s Y (tag_told rules tag) (spelled_messages rules.exact K.input [] (spelled rules tag)))
  unfolding is_written ends_name is_white_space
  raw_end-by_itself K s Y raw name tag table one =
      let p = and_parts (is_letter tag.first) _ one.is_tag in
      let q = and_parts (list_all in_tag_name tag.rest) (can_follow InName tag.parts) p.1 in
      tag-from means rules K s Y (Between (RawText raw name)) tag table.plain one.starts q.1 one.text
      (passes-end_tag raw name tag (flat_map part_text tag.parts ++ greater_than ∷ []) one.ends p.0 (parts-end_name tag.parts (greater_than ∷ []) q.1 (λ none. refl)))
