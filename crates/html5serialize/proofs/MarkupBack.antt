-- Tags, comments, processing instructions and doctypes as they are written are read again as themselves.
use Rattle.std.proofs.Common.{◌≡◌, ℕ, ◌≤◌, true, false, List, [], ◌∷◌, ◌++◌, refl, ap, sym, ◌∙◌, subst, arith}
use Rattle.std.specs.Prelude.{◌==◌, chars, codes}
use Rattle.std.specs.List.{list_all}
use Rattle.std.specs.Str.{IsUtf8}
use Rattle.std.proofs.lemmas.Bool.{and_parts, not-true}
use Rattle.std.proofs.lemmas.Bool.Decides.{nat_tests}
use Rattle.std.proofs.lemmas.List.{append_assoc}
use Rattle.std.proofs.lemmas.Str.{encodes-chars}
use Rattle.html5ever_interface.specs.Sink.{Means, Message}
use Rattle.html5ever_interface.specs.Token.{TagOf, DoctypeOf}
use Rattle.html5ever_interface.specs.Token.Told.{Tag, Comment, Instruction, Doctype}
use Rattle.html5ever_interface.specs.declared.interface.token.TagKind.{TagKind}
use Rattle.html5ever_interface.specs.declared.interface.token.TagKind.TheVariants.{StartTag, EndTag}
use Rattle.html5reading.specs.Characters.{solidus, null, carriage_return}
use Rattle.html5reading.specs.Instruction.{in_instruction}
use Rattle.html5reading.specs.NormalisedText.{normalised}
use Rattle.html5reading.specs.Start.{Input, Start, Rules}
use Rattle.html5reading.specs.Start.Mode.{Data}
use Rattle.html5reading.specs.Start.Open.{Between}
use Rattle.html5grammar.specs.Anywhere.{TellsByItself, start_after_tag}
use Rattle.html5grammar.specs.Comment as one_comment
use Rattle.html5grammar.specs.Comment.{IsComment, is_content, occurs, begins_with}
use Rattle.html5grammar.specs.Comment.Ending.{Dashes}
use Rattle.html5grammar.specs.Comment.WrittenComment.{Proper}
use Rattle.html5grammar.specs.Doctype as one_doctype
use Rattle.html5grammar.specs.Doctype.{IsDoctype}
use Rattle.html5grammar.specs.Instruction as one_instruction
use Rattle.html5grammar.specs.Instruction.{WrittenInstruction, IsInstruction}
use Rattle.html5grammar.specs.Spelled.{spelled_messages}
use Rattle.html5grammar.specs.Tag.{IsTag, spelled}
use Rattle.html5grammar.proofs.ByItself.{trace-by_itself}
use Rattle.html5grammar.proofs.Comment.Reading.{reads_comment}
use Rattle.html5grammar.proofs.Doctype.Reading.{reads_doctype}
use Rattle.html5grammar.proofs.Instruction.Reading as instruction_reading
use Rattle.html5grammar.proofs.Tag.Parts.{tag-by_itself}
use Rattle.html5grammar.proofs.Tag.Values.{both-none}
use Rattle.markup5ever.specs.NamedReferences.{IsTable}
use Rattle.html5serialize.specs.Doctypes.{doctype_text, name_text, is_markup_character}
use Rattle.html5serialize.specs.ReadBack.{HasTexts, ReadsBack}
use Rattle.html5serialize.specs.Tags.{attributes_text_by, closing_text, opening_text, tag_text_by}
use Rattle.html5serialize.specs.Tokens.{can_write, read_back, token_text, comment_text, instruction_text, is_comment_text, without_duplicates}
use Rattle.html5serialize.specs.declared.escaping.Escapes.{Escapes}
use Rattle.html5serialize.specs.declared.escaping.Escapes.TheVariants.{Numbers}
use Rattle.html5serialize.proofs.DoctypeBack.{markup-parts, high-markup, no_null-markup, no_return-markup, written_doctype, IsDoctypeBack, doctype-back}
use Rattle.html5serialize.proofs.MarkupTokens.{proper-comment, proper-instruction, proper-doctype}
use Rattle.html5serialize.proofs.NamedValues.{ShowsValues, shows-numbers}
use Rattle.html5serialize.proofs.TagBack.{written_tag, IsTagBack, tag-back}
use Rattle.html5serialize.proofs.TagTokens.{proper-tag}
use Rattle.html5serialize.proofs.Utf8Bytes.{all-chars, begins-chars, occurs-chars}
use Rattle.html5write.specs.Pieces as pieces
use Rattle.html5write.specs.Pieces.{is_comment_character}
use Rattle.html5write.specs.Told.{IsOpen, has_no_return}
use Rattle.html5write.proofs.Front.{normalised-markup}
use Rattle.html5write.proofs.Values.{no_return-append, shows-value}

-- ---- how a tag comes in

normalised-tag : (input : Input) (kind : TagKind) (rest : List ℕ) → input.after_carriage_return ≡ false → has_no_return rest ≡ true
    → normalised input (opening_text kind ++ rest) ≡ opening_text kind ++ rest
normalised-tag input StartTag rest none h = normalised-markup input rest none h
normalised-tag input EndTag rest none h = normalised-markup input (solidus ∷ rest) none h

-- ---- the text of a comment, from its bytes to its characters

pub high-comment : (b : ℕ) → 128 ≤ b → is_comment_character b ≡ true
high-comment b h = grind (arith, nat_tests)

pub no_null-comment : (content : List ℕ) → list_all is_comment_character content ≡ true → pieces.has_no_null content ≡ true
no_null-comment [] h = refl
no_null-comment (c ∷ content) h =
    let p = and_parts (is_comment_character c) (list_all is_comment_character content) h in
    rw ((both-none (c == null) (c == carriage_return) (not-true _ p.0)).0) (no_null-comment content p.1)

pub no_return-comment : (content : List ℕ) → list_all is_comment_character content ≡ true → has_no_return content ≡ true
no_return-comment [] h = refl
no_return-comment (c ∷ content) h =
    let p = and_parts (is_comment_character c) (list_all is_comment_character content) h in
    rw ((both-none (c == null) (c == carriage_return) (not-true _ p.0)).1) (no_return-comment content p.1)

content-chars : (text : List ℕ) → IsUtf8 text → is_content text ≡ true → is_content (chars text) ≡ true
unfolding is_content
content-chars text utf8 h =
    rw (begins-chars (codes ">") text refl utf8, begins-chars (codes "->") text refl utf8, occurs-chars 0x2D (codes "->") text refl utf8, occurs-chars 0x2D (codes "-!>") text refl utf8) h

-- ---- the content of an instruction

within-instruction : (content : List ℕ) → list_all is_markup_character content ≡ true → list_all in_instruction content ≡ true
unfolding in_instruction
within-instruction [] h = refl
within-instruction (c ∷ content) h =
    let p = and_parts (is_markup_character c) (list_all is_markup_character content) h in
    rw ((markup-parts c p.0).no_greater_than) (within-instruction content p.1)

module _ {X S H : Type 0} (means : Means X S H) (rules : Rules) where
  -- what the tag of the grammar tells by itself
  pub tag-item : (escapes : Escapes) → ShowsValues rules escapes → (K : Start) (s : S) (tag : TagOf) → IsTable rules.references → IsOpen K → HasTexts (Tag tag) → can_write (Tag tag) ≡ true
      → TellsByItself means rules K s (tag_text_by escapes tag) (spelled_messages rules.exact K.input [] (spelled rules (written_tag escapes tag)))
      (start_after_tag means K s (tag_text_by escapes tag) (without_duplicates tag) (spelled_messages rules.exact K.input [] (spelled rules (written_tag escapes tag))))
  unfolding can_write
  tag-item escapes shows K s tag table here texts can =
      let back : IsTagBack escapes rules tag = tag-back escapes rules tag shows texts.0 texts.1 can in
      let Y : List ℕ = tag_text_by escapes tag in
      let M : List Message = spelled_messages rules.exact K.input [] (spelled rules (written_tag escapes tag)) in
      let one : IsTag K Y (written_tag escapes tag) = record {
        starts = here.starts;
        is_tag = back.is_written;
        text = normalised-tag K.input tag.kind (chars tag.name ++ (attributes_text_by escapes tag.attributes ++ closing_text tag.self_closing)) here.no_break back.no_return ∙ sym back.text;
      } in
      subst (λ t. TellsByItself means rules K s Y M (start_after_tag means K s Y t M)) back.told (tag-by_itself means rules K s Y (written_tag escapes tag) table one)

  pub tag-reads_back : (K : Start) (s : S) (tag : TagOf) → IsTable rules.references → IsOpen K → HasTexts (Tag tag) → can_write (Tag tag) ≡ true → ReadsBack means rules K s (Tag tag)
  unfolding token_text read_back can_write
  tag-reads_back K s tag table here texts can = record {
    messages = spelled_messages rules.exact K.input [] (spelled rules (written_tag Numbers tag));
    tells = tag-item Numbers (shows-numbers rules) K s tag table here texts can;
    exactly = proper-tag rules K.input (written_tag Numbers tag) ∙ ap (λ t. Tag t ∷ []) ((tag-back Numbers rules tag (shows-numbers rules) texts.0 texts.1 can).told);
  }

  pub comment-reads_back : (K : Start) (s : S) (text : List ℕ) → IsOpen K → HasTexts (Comment text) → can_write (Comment text) ≡ true → ReadsBack means rules K s (Comment text)
  unfolding token_text read_back can_write is_comment_text one_comment.is_written one_comment.written
  comment-reads_back K s text here utf8 can =
      let p = and_parts (list_all is_comment_character text) (is_content text) can in
      let content : List ℕ = chars text in
      let characters : list_all is_comment_character content ≡ true = all-chars is_comment_character high-comment text utf8 p.0 in
      let Y : List ℕ = comment_text content in
      let M : List Message = one_comment.messages_of rules.exact K.input (Proper content Dashes) in
      let one : IsComment K (means.foreign s) Y (Proper content Dashes) = record {
        starts = here.starts;
        is_comment = content-chars text utf8 p.1;
        text =
            normalised-markup K.input (codes "!--" ++ (content ++ codes "-->")) here.no_break (no_return-append content (codes "-->") (no_return-comment content characters) refl)
            ∙ sym (ap (λ l. codes "<!--" ++ l) (append_assoc content (codes "--") (codes ">")));
      } in
      record {
        messages = M;
        tells = trace-by_itself means rules K s Y M (Between Data) K.last_start_tag (reads_comment means.step means.reply means.foreign rules K s Y (Proper content Dashes) one);
        exactly =
            proper-comment rules.exact K.input (Proper content Dashes)
            ∙ ap (λ t. Comment t ∷ []) (shows-value content (no_null-comment content characters) ∙ encodes-chars text utf8);
      }

  pub instruction-reads_back : (K : Start) (s : S) (text : List ℕ) → IsOpen K → HasTexts (Instruction text) → can_write (Instruction text) ≡ true → ReadsBack means rules K s (Instruction text)
  unfolding token_text read_back can_write one_instruction.is_written one_instruction.written
  instruction-reads_back K s text here utf8 can =
      let content : List ℕ = chars text in
      let characters : list_all is_markup_character content ≡ true = all-chars is_markup_character high-markup text utf8 can in
      let written : WrittenInstruction = record { content = content; is_ended = true } in
      let Y : List ℕ = instruction_text content in
      let M : List Message = one_instruction.messages_of rules.exact K.input written in
      let one : IsInstruction K Y written = record {
        starts = here.starts;
        is_instruction = within-instruction content characters;
        text = normalised-markup K.input (codes "?" ++ (content ++ codes ">")) here.no_break (no_return-append content (codes ">") (no_return-markup content characters) refl);
      } in
      record {
        messages = M;
        tells = trace-by_itself means rules K s Y M (Between Data) K.last_start_tag (instruction_reading.reads means.step means.reply means.foreign rules K s Y written one);
        exactly =
            proper-instruction rules.exact K.input written refl
            ∙ ap (λ t. Instruction t ∷ []) (shows-value content (no_null-markup content characters) ∙ encodes-chars text utf8);
      }

  pub doctype-reads_back : (K : Start) (s : S) (d : DoctypeOf) → IsOpen K → HasTexts (Doctype d) → can_write (Doctype d) ≡ true → ReadsBack means rules K s (Doctype d)
  unfolding token_text read_back can_write
  doctype-reads_back K s d here texts can =
      let back : IsDoctypeBack d = doctype-back d texts.0 texts.1 texts.2 can in
      let Y : List ℕ = doctype_text d in
      let M : List Message = one_doctype.messages_of rules.exact K.input (written_doctype d).word (written_doctype d).space (written_doctype d).content in
      let one : IsDoctype K Y (written_doctype d) = record {
        starts = here.starts;
        is_doctype = back.is_written;
        text = normalised-markup K.input (codes "!DOCTYPE" ++ (name_text d d.name ++ codes ">")) here.no_break back.no_return ∙ sym back.text;
      } in
      record {
        messages = M;
        tells = trace-by_itself means rules K s Y M (Between Data) K.last_start_tag (reads_doctype means.step means.reply means.foreign rules K s Y (written_doctype d) one);
        exactly =
            proper-doctype rules.exact K.input (written_doctype d).word (written_doctype d).space (written_doctype d).content
            ∙ ap (λ t. Doctype t ∷ []) back.told;
      }
