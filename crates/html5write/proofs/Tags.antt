-- A written tag tells itself.
use Rattle.std.proofs.Common.{◌≡◌, ℕ, true, false, List, [], ◌∷◌, ◌++◌, refl, sym, ◌∙◌, subst}
use Rattle.std.specs.Prelude.{flat_map, codes, encode_utf8_all}
use Rattle.std.specs.List.{list_all}
use Rattle.std.proofs.lemmas.Bool.{and_parts, false≢true}
use Rattle.html5ever_interface.specs.Sink.{Means, Message}
use Rattle.html5ever_interface.specs.Token.{TagOf, Reply, keeps_state}
use Rattle.html5ever_interface.specs.Token.Told.{Tag}
use Rattle.html5ever_interface.specs.Token.Reply.{KeepOn, ReadPlainText, ReadRawData, RunScript, SwitchEncoding}
use Rattle.html5ever_interface.specs.declared.interface.token.TagKind.TheVariants.{StartTag, EndTag}
use Rattle.html5reading.specs.Characters.{greater_than}
use Rattle.html5reading.specs.NormalisedText.{input_after}
use Rattle.html5reading.specs.Reading.{last_after, open_after_reply}
use Rattle.html5reading.specs.Start.{Input, Start, Rules}
use Rattle.html5reading.specs.Start.Mode.{Data}
use Rattle.html5reading.specs.Start.Open.{Between}
use Rattle.html5grammar.specs.Anywhere.{TellsByItself, start_beyond, last_reply}
use Rattle.html5grammar.specs.Spelled.{Spelled, spelled_messages}
use Rattle.html5grammar.specs.Tag.{WrittenTag, body, end_errors, tag_told, spelled, IsTag}
use Rattle.html5grammar.proofs.LastReply.{last_reply-says}
use Rattle.html5grammar.proofs.Tag.Parts.{tag-by_itself}
use Rattle.markup5ever.specs.NamedReferences.{IsTable}
use Rattle.html5write.specs.Escaped.{escaped_text}
use Rattle.html5write.specs.Pieces.{NameAndValue, piece_text, attribute_text, is_tag_name, is_attribute_name, is_attribute, has_no_null, are_distinct, can_write}
use Rattle.html5write.specs.Pieces.Piece.{StartTagPiece, EndTagPiece}
use Rattle.html5write.specs.Told.{has_no_return, IsOpen, start_tag_told, end_tag_told, spell_start_tag, spell_end_tag, KeepsOnAfter}
use Rattle.html5write.proofs.Front.{normalised-markup, no_break-markup}
use Rattle.html5write.proofs.Names.{no_return-name, names-attribute_name}
use Rattle.html5write.proofs.Shapes.{tag_of, text-start_tag, text-end_tag, is_written-tag}
use Rattle.html5write.proofs.Told.{names-tag, spells-start_tag, spells-end_tag, told-start_tag, told-end_tag}
use Rattle.html5write.proofs.Values.{no_return-append, no_return-text}

-- ---- there is no CR in it

no_return-attributes : (attributes : List NameAndValue) → list_all is_attribute attributes ≡ true → has_no_return (flat_map attribute_text attributes) ≡ true
no_return-attributes [] h = refl
no_return-attributes (a ∷ attributes) h =
    let p = and_parts (is_attribute a) (list_all is_attribute attributes) h in
    let q = and_parts (is_attribute_name a.name) (has_no_null a.value) p.0 in
    no_return-append (attribute_text a) (flat_map attribute_text attributes)
    (no_return-append (codes " ") (a.name ++ (codes "=\"" ++ (escaped_text a.value ++ codes "\""))) refl
    (no_return-append a.name (codes "=\"" ++ (escaped_text a.value ++ codes "\"")) (no_return-name a.name (names-attribute_name a.name q.0))
    (no_return-append (escaped_text a.value) (codes "\"") (no_return-text a.value) refl)))
    (no_return-attributes attributes p.1)

no_return-start_tag : (name : List ℕ) (attributes : List NameAndValue) → is_tag_name name ≡ true → list_all is_attribute attributes ≡ true
    → has_no_return (name ++ (flat_map attribute_text attributes ++ codes ">")) ≡ true
no_return-start_tag name attributes h g =
    no_return-append name (flat_map attribute_text attributes ++ codes ">") (no_return-name name (names-tag name h))
    (no_return-append (flat_map attribute_text attributes) (codes ">") (no_return-attributes attributes g) refl)

no_return-end_tag : (name : List ℕ) → is_tag_name name ≡ true → has_no_return (codes "/" ++ (name ++ codes ">")) ≡ true
no_return-end_tag name h = no_return-append name (codes ">") (no_return-name name (names-tag name h)) refl

pub no_break-start_tag : (input : Input) (name : List ℕ) (attributes : List NameAndValue) → can_write (StartTagPiece name attributes) ≡ true
    → (input_after input (piece_text (StartTagPiece name attributes))).after_carriage_return ≡ false
no_break-start_tag input name attributes h =
    let p = and_parts (is_tag_name name) _ h in
    let q = and_parts (list_all is_attribute attributes) (are_distinct attributes) p.1 in
    no_break-markup input (name ++ (flat_map attribute_text attributes ++ codes ">")) (no_return-start_tag name attributes p.0 q.0)

pub no_break-end_tag : (input : Input) (name : List ℕ) → can_write (EndTagPiece name) ≡ true → (input_after input (piece_text (EndTagPiece name))).after_carriage_return ≡ false
no_break-end_tag input name h = no_break-markup input (codes "/" ++ (name ++ codes ">")) (no_return-end_tag name h)

-- after a reply that leaves the state as it is nothing is open
keeps_state-opens : {H : Type 0} (last : List ℕ) (r : Reply H) → keeps_state r ≡ true → open_after_reply last r ≡ Between Data
keeps_state-opens last KeepOn keeps = refl
keeps_state-opens last ReadPlainText keeps = absurd (false≢true keeps)
keeps_state-opens last (ReadRawData kind) keeps = absurd (false≢true keeps)
keeps_state-opens last (RunScript handle) keeps = refl
keeps_state-opens last (SwitchEncoding text) keeps = refl

module _ {X S H : Type 0} (means : Means X S H) (rules : Rules) where
  -- a tag after which the sink keeps on, from what it spells and tells
  tag-told : (K : Start) (s : S) (Y : List ℕ) (tag : WrittenTag) (cells : List Spelled) (told : TagOf) → IsTable rules.references → IsTag K Y tag
      → spelled rules tag ≡ cells → tag_told rules tag ≡ told → KeepsOnAfter means.reply told
      → TellsByItself means rules K s Y (spelled_messages rules.exact K.input [] cells) (start_beyond K Y (Between Data) (last_after K.last_start_tag told))
  unfolding spelled
  tag-told K s Y tag cells told table one spells tells keeps =
      let M : List Message = spelled_messages rules.exact K.input [] (spelled rules tag) in
      let keeps_tag : KeepsOnAfter means.reply (tag_told rules tag) = subst (λ t. KeepsOnAfter means.reply t) (sym tells) keeps in
      let last : List ℕ = last_after K.last_start_tag (tag_told rules tag) in
      let opens : open_after_reply last (last_reply means.step means.reply s M) ≡ Between Data =
      last_reply-says means.step means.reply means.foreign rules (λ r. open_after_reply last r ≡ Between Data) s K.input [] (body rules tag) greater_than (end_errors rules tag)
      (tag_told rules tag) (λ t line. keeps_state-opens last (means.reply t (Tag (tag_told rules tag)) line) (keeps_tag t line)) in
      subst (λ t. TellsByItself means rules K s Y (spelled_messages rules.exact K.input [] cells) (start_beyond K Y (Between Data) (last_after K.last_start_tag t))) tells
      (subst (λ l. TellsByItself means rules K s Y (spelled_messages rules.exact K.input [] l) (start_beyond K Y (Between Data) last)) spells
      (subst (λ o. TellsByItself means rules K s Y M (start_beyond K Y o last)) opens (tag-by_itself means rules K s Y tag table one)))

  -- a start tag that is written tells itself
  pub start_tag-told : (K : Start) (s : S) (name : List ℕ) (attributes : List NameAndValue) → IsTable rules.references → IsOpen K → can_write (StartTagPiece name attributes) ≡ true
      → KeepsOnAfter means.reply (start_tag_told name attributes)
      → TellsByItself means rules K s (piece_text (StartTagPiece name attributes)) (spelled_messages rules.exact K.input [] (spell_start_tag rules.exact name attributes))
      (start_beyond K (piece_text (StartTagPiece name attributes)) (Between Data) (encode_utf8_all name))
  unfolding last_after
  start_tag-told K s name attributes table here can keeps =
      let p = and_parts (is_tag_name name) _ can in
      let q = and_parts (list_all is_attribute attributes) (are_distinct attributes) p.1 in
      let Y : List ℕ = piece_text (StartTagPiece name attributes) in
      let one : IsTag K Y (tag_of StartTag name attributes) = record {
        starts = here.starts;
        is_tag = is_written-tag StartTag name attributes p.0 q.0;
        text =
            normalised-markup K.input (name ++ (flat_map attribute_text attributes ++ codes ">")) here.no_break (no_return-start_tag name attributes p.0 q.0)
            ∙ sym (text-start_tag name attributes p.0 q.0);
      } in
      tag-told K s Y (tag_of StartTag name attributes) (spell_start_tag rules.exact name attributes) (start_tag_told name attributes) table one
      (spells-start_tag rules name attributes p.0 q.0 q.1) (told-start_tag rules name attributes p.0 q.0 q.1) keeps

  -- an end tag that is written tells itself
  pub end_tag-told : (K : Start) (s : S) (name : List ℕ) → IsTable rules.references → IsOpen K → can_write (EndTagPiece name) ≡ true
      → KeepsOnAfter means.reply (end_tag_told name)
      → TellsByItself means rules K s (piece_text (EndTagPiece name)) (spelled_messages rules.exact K.input [] (spell_end_tag name))
      (start_beyond K (piece_text (EndTagPiece name)) (Between Data) K.last_start_tag)
  unfolding last_after
  end_tag-told K s name table here can keeps =
      let Y : List ℕ = piece_text (EndTagPiece name) in
      let one : IsTag K Y (tag_of EndTag name []) = record {
        starts = here.starts;
        is_tag = is_written-tag EndTag name [] can refl;
        text = normalised-markup K.input (codes "/" ++ (name ++ codes ">")) here.no_break (no_return-end_tag name can) ∙ sym (text-end_tag name can);
      } in
      tag-told K s Y (tag_of EndTag name []) (spell_end_tag name) (end_tag_told name) table one (spells-end_tag rules name can) (told-end_tag rules name can) keeps
