-- Each token of a page can be written.
use Rattle.std.proofs.Common.{◌≡◌, ℕ, zero, suc, Bool, true, false, List, [], ◌∷◌, ◌++◌, Option, None, Some, refl, ap, sym, ◌∙◌, subst}
use Rattle.std.specs.Prelude.{◌==◌, ◌&&◌, not, length, codes, flat_map, All, if◌then◌else◌}
use Rattle.std.specs.List.{list_all, IsDistinct, AllByRecursion}
use Rattle.std.specs.Option.{is_none}
use Rattle.std.specs.Str.{bytes_eq}
use Rattle.std.proofs.lemmas.Bool.{and_parts, eqb-true}
use Rattle.std.proofs.lemmas.List.{append_assoc, nil_from_length}
use Rattle.std.proofs.lemmas.List.Elements.{All-nil, All-cons, All-head, All-tail}
use Rattle.html5ever_interface.specs.Sink.{Means, Message, stepped, on_line}
use Rattle.html5ever_interface.specs.Token.{Told, DoctypeOf}
use Rattle.html5ever_interface.specs.Token.Told.{Text, Null, Error, Tag, Comment, Instruction, Doctype, End}
use Rattle.html5ever_interface.specs.declared.states.AttrValueKind.{AttrValueKind}
use Rattle.html5ever_interface.specs.declared.states.State.{State}
use Rattle.html5ever_interface.specs.declared.states.State.TheVariants as state
use Rattle.html5reading.specs.Characters.{ampersand, less_than, greater_than, exclamation_mark, carriage_return, line_feed, equals_sign, is_white_space, lower_case, value_bytes, name_bytes}
use Rattle.html5reading.specs.Comment.{in_bogus_comment}
use Rattle.html5reading.specs.Doctype.{begins_doctype_keyword}
use Rattle.html5reading.specs.EndOfInput.{raw_end_error}
use Rattle.html5reading.specs.ErrorText.{error_in, end_error_in}
use Rattle.html5reading.specs.Instruction.{in_instruction}
use Rattle.html5reading.specs.Lawful.{IsLawful, attribute_names}
use Rattle.html5reading.specs.NormalisedText.{normalised, without_dropped_first, with_line_feeds, line_after}
use Rattle.html5reading.specs.RawText.{raw_character, texts}
use Rattle.html5reading.specs.Reference.{told_of}
use Rattle.html5reading.specs.Reading.{all_messages}
use Rattle.html5reading.specs.Start.{Input, Start, Rules, nothing_open}
use Rattle.html5reading.specs.Start.Raw.{DoubleEscaped}
use Rattle.html5reading.specs.Start.Stand.{InText}
use Rattle.html5reading.specs.Start.Dashes.{NoDash}
use Rattle.html5reading.specs.Tag.{null_error}
use Rattle.html5reading.proofs.LawfulReading.{lawful-reading}
use Rattle.html5grammar.specs.Cdata as one_cdata
use Rattle.html5grammar.specs.Comment as one_comment
use Rattle.html5grammar.specs.Comment.{WrittenComment, spell_bogus}
use Rattle.html5grammar.specs.Comment.Ending.{Dashes, Bang, AtOnce, AfterDash}
use Rattle.html5grammar.specs.Comment.Opening.{Solidus, ExclamationMark}
use Rattle.html5grammar.specs.Comment.WrittenComment.{Proper, Bogus}
use Rattle.html5grammar.specs.Declarations.{keyword_at_end, before_end, messages_after_open_name, open_doctype_messages, doctype_end, keyword_error_at_end, open_doctype_at_end, after_name_end}
use Rattle.html5grammar.specs.Doctype as one_doctype
use Rattle.html5grammar.specs.Doctype.{WrittenDoctype, Content, RestAfterName, content_text, told_after_name, after_space, spell_after_name, spell_name, held_of, after_held_of}
use Rattle.html5grammar.specs.Doctype.Content.{NoName, Named}
use Rattle.html5grammar.specs.Doctype.RestAfterName.{NoKeyword, PublicKeyword, SystemKeyword}
use Rattle.html5grammar.specs.Instruction as one_instruction
use Rattle.html5grammar.specs.Instruction.{WrittenInstruction}
use Rattle.html5grammar.specs.Items.{Item, Unfinished, Items, Composed, end_line, text_told, lone_told, spell_lone, spell_empty_end, nothing_at_end, spell_raw_less_than, spell_open_switch, reference_at_end, spell_open_comment, open_comment_at_end, spell_open_bogus}
use Rattle.html5grammar.specs.Items.Item.{OneCharacter, OneLone, OneLoneBefore, OneEmptyEnd, OneTag, OneComment, OneDoctype, OneInstruction, OneCdata, OneReferenceIn, OneRawCharacter, OneRawMark, OneRawLessThan, OneRawLessThanBefore, OneRawEnd}
use Rattle.html5grammar.specs.Items.Unfinished.{OpenLessThan, OpenSolidus, OpenTag, OpenRaw, OpenSwitch, OpenRawEnd, OpenReference, OpenInstruction, OpenBogus, OpenKeyword, OpenBogusDeclaration, OpenDoctype, OpenCdata, OpenComment}
use Rattle.html5grammar.specs.Items.Items.{Nothing, Then, Last}
use Rattle.html5grammar.specs.RawText.{carried, spell_item, raw_after_item, item_text}
use Rattle.html5grammar.specs.Spelled.{Spelled, spell, spell_silent, spelled_messages}
use Rattle.html5grammar.specs.Tag as one_tag
use Rattle.html5grammar.specs.Tag.{WrittenTag, OpenAttribute, body, tag_told, spelled, spell_open_run, spell_open_attribute, spell_open_tag, errors_at_end, open_tag_at_end, open_quote, deciding_in, found_in, held_in, value_error, end_place, all_attributes}
use Rattle.html5grammar.proofs.Completeness.{all-composed}
use Rattle.html5grammar.proofs.Soundness.{reading-items}
use Rattle.markup5ever.specs.Names.{AttributeOf}
use Rattle.markup5ever.specs.NamedReferences.{IsTable}
use Rattle.html5serialize.specs.Doctypes.{is_doctype}
use Rattle.html5serialize.specs.Tags.{is_attribute, are_distinct, differs_from}
use Rattle.html5serialize.specs.Tokens.{can_write, is_comment_text}
use Rattle.html5serialize.proofs.DoctypeShape.{shape-content, shape-quirks}
use Rattle.html5serialize.proofs.Errors.{AreErrors, TellErrors, proper_tokens, proper_cells, errors-reference, tell-append, tell-silent}
use Rattle.html5serialize.proofs.MarkupShape.{is_open_character, bytes-markup, plain-comment, content-comment, cut-comment, keyword-comment}
use Rattle.html5serialize.proofs.MarkupTokens.{content_of, told_content, proper-comment, proper-doctype, doctype-after_name, tell-content, tell-bogus, tell-odd, tell-name}
use Rattle.html5serialize.proofs.Shaped.{is_shaped, AreShaped, Shaped, CellsShaped, are-append, are-where, are-texts, are-errors, shaped-append, shaped-on_line, shaped-spelled, shaped-proper, proper-parts, cells-append, cells-spell, cells-silent}
use Rattle.html5serialize.proofs.TagShape.{shape-tag}
use Rattle.html5serialize.proofs.TagTokens.{proper-tag, tell-body, tell-attribute_name, errors-value}
use Rattle.html5serialize.proofs.TextShape.{are-text_told, are-raw_character, cells-lone, cells-empty_end, cells-cdata, are-found, are-carried, cells-item, cells-raw_less_than, cells-open_switch, are-raw_error, are-raw_end, are-nothing, are-reference_end}
use Rattle.html5serialize.proofs.Utf8Bytes.{all-parts}
use Rattle.html5write.specs.Pieces.{is_tag_name}
use Rattle.html5write.specs.Told.{has_no_return, proper_token, tokens_of}

-- ---- no CR stands in what is read

no_return-line_feeds : (after : Bool) (X : List ℕ) → has_no_return (with_line_feeds after X) ≡ true
unfolding with_line_feeds
no_return-line_feeds after [] = refl
no_return-line_feeds after (c ∷ X) =
    (elim (c == carriage_return) as (λ b. (c == carriage_return) ≡ b → has_no_return (if b then line_feed ∷ with_line_feeds true X else if after && (c == line_feed) then with_line_feeds false X else c ∷ with_line_feeds false X) ≡ true) [
      | true ↦ λ e. no_return-line_feeds true X
      | false ↦ λ e. elim (after && (c == line_feed)) as (λ b. has_no_return (if b then with_line_feeds false X else c ∷ with_line_feeds false X) ≡ true) [
        | true ↦ no_return-line_feeds false X
        | false ↦ rw e (no_return-line_feeds false X)
      ]
    ]) refl

pub no_return-read : (input : Input) (X text : List ℕ) → normalised input X ≡ text → has_no_return text ≡ true
unfolding normalised
no_return-read input X text e = ap has_no_return (sym e) ∙ no_return-line_feeds false (without_dropped_first input X)

pub front-return : (front rest : List ℕ) → has_no_return (front ++ rest) ≡ true → has_no_return front ≡ true
front-return front rest r = (all-parts (λ c. not (c == carriage_return)) front rest r).0

pub rest-return : (front rest : List ℕ) → has_no_return (front ++ rest) ≡ true → has_no_return rest ≡ true
rest-return front rest r = (all-parts (λ c. not (c == carriage_return)) front rest r).1

-- whether an item is a tag
abbrev pub is_tag_item : {X S H : Type 0} → (means : Means X S H) (rules : Rules) → {Z : List ℕ} {K : Start} {s : S} {Y : List ℕ} {M : List Message} {later : Start}
    → Item means rules Z K s Y M later → Bool
is_tag_item means rules (OneTag tag one) = true
is_tag_item means rules (OneRawEnd raw name tag one) = true
is_tag_item means rules item = false

module _ (tags : Bool) where
  -- ---- characters at which errors alone are sent, or one token

  cells-errors : (cells : List Spelled) → TellErrors cells → CellsShaped tags cells
  cells-errors [] h = tt
  cells-errors (here ∷ more) h = (are-errors tags here.told h.0, cells-errors more h.1)

  -- ---- comments

  open-bogus : (content : List ℕ) → list_all in_bogus_comment content ≡ true → list_all is_open_character content ≡ true
  unfolding in_bogus_comment
  open-bogus content h = h

  shape-bogus : (content : List ℕ) → list_all in_bogus_comment content ≡ true → has_no_return content ≡ true → is_comment_text (flat_map value_bytes content) ≡ true
  shape-bogus content h r = plain-comment (flat_map value_bytes content) (bytes-markup content (open-bogus content h) r)

  shape-empty : (content : List ℕ) → one_comment.is_empty content ≡ true → is_comment_text (flat_map value_bytes content) ≡ true
  unfolding is_comment_text one_comment.is_content one_comment.occurs
  shape-empty content h = rw (nil_from_length content (eqb-true (length content) 0 h)) refl

  shape-comment : (foreign : Bool) (comment : WrittenComment) → one_comment.is_written foreign comment ≡ true → has_no_return (one_comment.written comment) ≡ true
      → is_comment_text (flat_map value_bytes (content_of comment)) ≡ true
  unfolding one_comment.is_written one_comment.written
  shape-comment foreign (Proper content Dashes) h r = content-comment content h (front-return content (codes "--") (front-return (content ++ codes "--") (greater_than ∷ []) (rest-return (codes "<!--") ((content ++ codes "--") ++ greater_than ∷ []) r)))
  shape-comment foreign (Proper content Bang) h r = content-comment content h (front-return content (codes "--!") (front-return (content ++ codes "--!") (greater_than ∷ []) (rest-return (codes "<!--") ((content ++ codes "--!") ++ greater_than ∷ []) r)))
  shape-comment foreign (Proper content AtOnce) h r = shape-empty content h
  shape-comment foreign (Proper content AfterDash) h r = shape-empty content h
  shape-comment foreign (Bogus Solidus content) h r =
      shape-bogus content (and_parts (one_comment.can_open foreign Solidus content) (list_all in_bogus_comment content) h).1 (front-return content (greater_than ∷ []) (rest-return (codes "</") (content ++ greater_than ∷ []) r))
  shape-comment foreign (Bogus ExclamationMark content) h r =
      shape-bogus content (and_parts (one_comment.can_open foreign ExclamationMark content) (list_all in_bogus_comment content) h).1 (front-return content (greater_than ∷ []) (rest-return (codes "<!") (content ++ greater_than ∷ []) r))

  -- ---- processing instructions

  open-instruction : (content : List ℕ) → list_all in_instruction content ≡ true → list_all is_open_character content ≡ true
  unfolding in_instruction
  open-instruction content h = h

  are-instruction : (instruction : WrittenInstruction) → one_instruction.is_written instruction ≡ true → has_no_return (one_instruction.written instruction) ≡ true
      → AreShaped tags (one_instruction.told_content instruction.content ∷ [])
  unfolding one_instruction.is_written one_instruction.written
  are-instruction instruction h r =
      let text = front-return instruction.content (one_instruction.end_text instruction.is_ended) (rest-return (codes "<?") (instruction.content ++ one_instruction.end_text instruction.is_ended) r) in
      rw (bytes-markup instruction.content (open-instruction instruction.content h) text) refl

  cells-instruction_end : (is_ended : Bool) (content : List ℕ) → AreShaped tags (one_instruction.told_content content ∷ []) → CellsShaped tags (one_instruction.spell_end is_ended content)
  cells-instruction_end true content h = (h, tt)
  cells-instruction_end false content h = tt

  shaped-instruction : (exact : Bool) (input : Input) (instruction : WrittenInstruction) → AreShaped tags (one_instruction.told_content instruction.content ∷ [])
      → Shaped tags (one_instruction.messages_of exact input instruction)
  unfolding one_instruction.messages_of
  shaped-instruction exact input instruction h =
      let cells : List Spelled = spell (null_error exact state.ProcessingInstruction) instruction.content in
      let last : List Spelled = one_instruction.spell_end instruction.is_ended instruction.content in
      shaped-spelled tags exact input [] (spell_silent (codes "<?") ++ (cells ++ last))
      (cells-append tags (spell_silent (codes "<?")) (cells ++ last) (cells-silent tags (codes "<?"))
      (cells-append tags cells last (cells-spell tags (null_error exact state.ProcessingInstruction) (λ c. are-where tags _ _) instruction.content) (cells-instruction_end instruction.is_ended instruction.content h)))

  -- ---- tags without their `>`

  module _ (rules : Rules) where
    tell-open_run : (kind : AttrValueKind) (taken : ℕ) (run : List ℕ) → TellErrors (spell_open_run rules kind taken run)
    unfolding spell_open_run
    tell-open_run kind taken [] = tt
    tell-open_run kind (suc taken) (c ∷ run) = (refl, tell-open_run kind taken run)
    tell-open_run kind zero (c ∷ run) =
        elim (c == ampersand) as (λ b. TellErrors (if b then (if is_none (deciding_in rules.references run) then spell_silent (c ∷ run)
        else record { character = c; told = (found_in rules true run).errors } ∷ spell_open_run rules kind (found_in rules true run).taken run)
        else record { character = c; told = value_error rules.exact kind c } ∷ spell_open_run rules kind zero run)) [
          | true ↦ elim (is_none (deciding_in rules.references run)) as (λ b. TellErrors (if b then spell_silent (c ∷ run)
              else record { character = c; told = (found_in rules true run).errors } ∷ spell_open_run rules kind (found_in rules true run).taken run)) [
                | true ↦ tell-silent (c ∷ run)
                | false ↦ (errors-reference rules true (held_in rules.references run) (deciding_in rules.references run), tell-open_run kind (found_in rules true run).taken run)
              ]
          | false ↦ (errors-value rules.exact kind c, tell-open_run kind zero run)
        ]

    pub tell-open_attribute : (tag : WrittenTag) (last : Option OpenAttribute) → TellErrors (spell_open_attribute rules tag last)
    tell-open_attribute tag None = tt
    tell-open_attribute tag (Some a) =
        tell-append (one_tag.spell_name rules.exact (end_place tag) (all_attributes rules tag) a.first a.name)
        ((spell_silent a.space ++ spell_silent (equals_sign ∷ a.afterwards)) ++ (spell_silent (open_quote a.kind) ++ spell_open_run rules a.kind zero a.run))
        (tell-attribute_name rules (end_place tag) (all_attributes rules tag) a.first a.name)
        (tell-append (spell_silent a.space ++ spell_silent (equals_sign ∷ a.afterwards)) (spell_silent (open_quote a.kind) ++ spell_open_run rules a.kind zero a.run)
        (tell-append (spell_silent a.space) (spell_silent (equals_sign ∷ a.afterwards)) (tell-silent a.space) (tell-silent (equals_sign ∷ a.afterwards)))
        (tell-append (spell_silent (open_quote a.kind)) (spell_open_run rules a.kind zero a.run) (tell-silent (open_quote a.kind)) (tell-open_run a.kind zero a.run)))

    shaped-open_tag : (input : Input) (tag : WrittenTag) (last : Option OpenAttribute) → Shaped tags (spelled_messages rules.exact input [] (spell_open_tag rules tag last))
    shaped-open_tag input tag last =
        shaped-spelled tags rules.exact input [] (spell_open_tag rules tag last)
        (cells-errors (spell_open_tag rules tag last) (tell-append (body rules tag) (spell_open_attribute rules tag last) (tell-body rules tag) (tell-open_attribute tag last)))

    pub errors-at_end : (taken : ℕ) (run : List ℕ) → AreErrors (errors_at_end rules taken run)
    unfolding errors_at_end
    errors-at_end taken [] = refl
    errors-at_end (suc taken) (c ∷ run) = errors-at_end taken run
    errors-at_end zero (c ∷ run) =
        elim (c == ampersand) as (λ b. AreErrors (if b then (if is_none (deciding_in rules.references run) then (found_in rules true run).errors
        else errors_at_end rules (found_in rules true run).taken run)
        else errors_at_end rules zero run)) [
          | true ↦ elim (is_none (deciding_in rules.references run)) as (λ b. AreErrors (if b then (found_in rules true run).errors else errors_at_end rules (found_in rules true run).taken run)) [
            | true ↦ errors-reference rules true (held_in rules.references run) (deciding_in rules.references run)
            | false ↦ errors-at_end (found_in rules true run).taken run
          ]
          | false ↦ errors-at_end zero run
        ]

    are-open_tag : (tag : WrittenTag) (last : Option OpenAttribute) → AreShaped tags (open_tag_at_end rules tag last)
    are-open_tag tag None = refl
    are-open_tag tag (Some a) = are-append tags (errors_at_end rules zero a.run) _ (are-errors tags (errors_at_end rules zero a.run) (errors-at_end zero a.run)) refl

    -- a whole tag, where tags are let in
    shaped-tag : (input : Input) (tag : WrittenTag) → tags ≡ true → one_tag.is_written tag ≡ true → has_no_return (one_tag.written tag) ≡ true → Shaped tags (spelled_messages rules.exact input [] (spelled rules tag))
    shaped-tag input tag lets h r =
        let M : List Message = spelled_messages rules.exact input [] (spelled rules tag) in
        subst (λ b. Shaped b M) (sym lets) (shaped-proper true M (ap (list_all (is_shaped true)) (proper-tag rules input tag) ∙ rw (shape-tag rules tag h r) refl))

  -- ---- doctypes

  -- tokens are, if they are except for errors
  tokens-proper : (here rest : List Told) → AreShaped tags (proper_tokens here ++ rest) → AreShaped tags here × AreShaped tags rest
  tokens-proper [] rest h = (refl, h)
  tokens-proper (token ∷ here) rest h =
      let p = proper-parts tags token (proper_tokens here ++ rest) (ap (list_all (is_shaped tags)) (sym (append_assoc (proper_token token) (proper_tokens here) rest)) ∙ h) in
      let q = tokens-proper here rest p.1 in
      (rw (p.0) q.0, q.1)

  -- and so are characters
  cells-proper : (cells : List Spelled) → AreShaped tags (proper_cells cells) → CellsShaped tags cells
  cells-proper [] h = tt
  cells-proper (here ∷ more) h =
      let p = tokens-proper here.told (proper_cells more) h in
      (p.0, cells-proper more p.1)

  cells-before_end : (cells : List Spelled) → CellsShaped tags cells → CellsShaped tags (before_end cells)
  unfolding before_end
  cells-before_end [] h = tt
  cells-before_end (here ∷ []) h = tt
  cells-before_end (here ∷ next ∷ more) h = (h.0, cells-before_end (next ∷ more) h.1)

  shape-doctype : (doctype : WrittenDoctype) → one_doctype.is_written doctype ≡ true → has_no_return (content_text doctype.content) ≡ true → is_doctype (told_content doctype.content) ≡ true
  unfolding one_doctype.is_written
  shape-doctype doctype h r =
      let p = and_parts (bytes_eq (lower_case doctype.word) (codes "doctype")) (list_all is_white_space doctype.space && one_doctype.is_content doctype.content) h in
      shape-content doctype.content (and_parts (list_all is_white_space doctype.space) (one_doctype.is_content doctype.content) p.1).1 r

  module _ (exact : Bool) (d : DoctypeOf) (h : is_doctype d ≡ true) where
    cells-after_name : (afterwards : RestAfterName) → CellsShaped tags (spell_after_name exact d afterwards)
    cells-after_name afterwards =
        cells-proper (spell_after_name exact d afterwards) (ap (list_all (is_shaped tags)) (doctype-after_name exact d afterwards) ∙ rw h refl)

    shaped-after_name : (input : Input) (before : List ℕ) (afterwards : RestAfterName) → Shaped tags (spelled_messages exact input before (before_end (spell_after_name exact d afterwards)))
    shaped-after_name input before afterwards =
        shaped-spelled tags exact input before (before_end (spell_after_name exact d afterwards)) (cells-before_end (spell_after_name exact d afterwards) (cells-after_name afterwards))

    shaped-after_open_name : (input : Input) (before : List ℕ) (afterwards : RestAfterName) → Shaped tags (messages_after_open_name exact input before d afterwards)
    unfolding messages_after_open_name
    shaped-after_open_name input before (NoKeyword []) = shaped-after_name input before (NoKeyword [])
    shaped-after_open_name input before (NoKeyword (c ∷ rest)) =
        let M : List Message = on_line (line_after input (before ++ c ∷ [])) (error_in exact state.AfterDoctypeName c ∷ []) in
        let N : List Message = spelled_messages exact input (before ++ held_of (c ∷ rest)) (spell (null_error exact state.BogusDoctype) (after_held_of (c ∷ rest))) in
        let skipped : CellsShaped tags (spell (null_error exact state.BogusDoctype) (after_held_of (c ∷ rest))) = cells-spell tags (null_error exact state.BogusDoctype) (λ c. are-where tags _ _) (after_held_of (c ∷ rest)) in
        elim (begins_doctype_keyword (c ∷ rest)) as (λ b. Shaped tags (if b then [] else if begins_doctype_keyword (c ∷ []) then M ++ N else spelled_messages exact input before (before_end (spell_after_name exact d (NoKeyword (c ∷ rest)))))) [
          | true ↦ refl
          | false ↦ elim (begins_doctype_keyword (c ∷ [])) as (λ b. Shaped tags (if b then M ++ N else spelled_messages exact input before (before_end (spell_after_name exact d (NoKeyword (c ∷ rest)))))) [
            | true ↦ shaped-append tags M N refl (shaped-spelled tags exact input (before ++ held_of (c ∷ rest)) (spell (null_error exact state.BogusDoctype) (after_held_of (c ∷ rest))) skipped)
            | false ↦ shaped-after_name input before (NoKeyword (c ∷ rest))
          ]
        ]
    shaped-after_open_name input before (PublicKeyword keyword space identifier) = shaped-after_name input before (PublicKeyword keyword space identifier)
    shaped-after_open_name input before (SystemKeyword keyword space identifier) = shaped-after_name input before (SystemKeyword keyword space identifier)

    are-doctype_end : (named : Option State) → AreShaped tags (doctype_end exact named d)
    are-doctype_end None = rw h refl
    are-doctype_end (Some named) = rw (shape-quirks d h) refl

    are-keyword_error : (afterwards : RestAfterName) → AreShaped tags (keyword_error_at_end exact afterwards)
    are-keyword_error (NoKeyword []) = refl
    are-keyword_error (NoKeyword (c ∷ rest)) =
        elim (begins_doctype_keyword (c ∷ rest)) as (λ b. AreShaped tags (if b then error_in exact state.AfterDoctypeName c ∷ [] else [])) [
          | true ↦ refl
          | false ↦ refl
        ]
    are-keyword_error (PublicKeyword keyword space identifier) = refl
    are-keyword_error (SystemKeyword keyword space identifier) = refl

  shaped-open_doctype : (exact : Bool) (input : Input) (word space : List ℕ) (content : Content) → is_doctype (told_content content) ≡ true
      → Shaped tags (open_doctype_messages exact input word space content)
  unfolding open_doctype_messages
  shaped-open_doctype exact input word space NoName h = shaped-spelled tags exact input [] (spell_silent (one_doctype.opening word space)) (cells-silent tags (one_doctype.opening word space))
  shaped-open_doctype exact input word space (Named first rest later afterwards) h =
      shaped-append tags (spelled_messages exact input [] (spell_name exact word space first rest later)) _
      (shaped-spelled tags exact input [] (spell_name exact word space first rest later) (cells-errors (spell_name exact word space first rest later) (tell-name exact word space first rest later)))
      (shaped-after_open_name exact (told_after_name (flat_map name_bytes (first ∷ rest)) afterwards) h input (one_doctype.opening word space ++ (first ∷ rest ++ later)) afterwards)

  are-open_doctype : (exact : Bool) (space : List ℕ) (content : Content) → is_doctype (told_content content) ≡ true → AreShaped tags (open_doctype_at_end exact space content)
  are-open_doctype exact space NoName h = refl
  are-open_doctype exact space (Named first rest later afterwards) h =
      are-append tags (keyword_error_at_end exact afterwards) _ (are-keyword_error exact (told_after_name (flat_map name_bytes (first ∷ rest)) afterwards) h afterwards)
      (are-doctype_end exact (told_after_name (flat_map name_bytes (first ∷ rest)) afterwards) h (after_name_end later afterwards))

  -- the content of a doctype has no CR
  doctype-return : (doctype : WrittenDoctype) → has_no_return (one_doctype.written doctype) ≡ true → has_no_return (content_text doctype.content) ≡ true
  unfolding one_doctype.written
  doctype-return doctype r =
      front-return (content_text doctype.content) (greater_than ∷ [])
      (rest-return (one_doctype.opening doctype.word doctype.space) (content_text doctype.content ++ greater_than ∷ []) r)

  -- ---- items

  module _ {X S H : Type 0} (means : Means X S H) (rules : Rules) where
    -- an item tells such tokens, if tags are let in or it is not one
    pub shaped-item : (Z : List ℕ) (K : Start) (s : S) (Y : List ℕ) (M : List Message) (later : Start) (item : Item means rules Z K s Y M later)
        → (is_tag_item means rules item ≡ true → tags ≡ true) → Shaped tags M
    shaped-item Z K s Y M later (OneCharacter mode c one) lets =
        shaped-spelled tags rules.exact K.input [] (record { character = c; told = text_told rules.exact mode c } ∷ []) (are-text_told tags rules.exact mode c, tt)
    shaped-item Z K s Y M later (OneLone c one) lets = shaped-spelled tags rules.exact K.input [] (spell_lone rules.exact c) (cells-lone tags rules.exact c)
    shaped-item Z K s Y M later (OneLoneBefore c rest one) lets = shaped-on_line tags (line_after K.input (less_than ∷ [])) (lone_told rules.exact c) refl
    shaped-item Z K s Y M later (OneEmptyEnd one) lets = shaped-spelled tags rules.exact K.input [] (spell_empty_end rules.exact) (cells-empty_end tags rules.exact)
    shaped-item Z K s Y M later (OneTag tag one) lets = shaped-tag rules K.input tag (lets refl) one.is_tag (no_return-read K.input Y (one_tag.written tag) one.text)
    shaped-item Z K s Y M later (OneComment comment one) lets =
        shaped-proper tags (one_comment.messages_of rules.exact K.input comment)
        (ap (list_all (is_shaped tags)) (proper-comment rules.exact K.input comment)
        ∙ rw (shape-comment (means.foreign s) comment one.is_comment (no_return-read K.input Y (one_comment.written comment) one.text)) refl)
    shaped-item Z K s Y M later (OneDoctype doctype one) lets =
        shaped-proper tags (one_doctype.messages_of rules.exact K.input doctype.word doctype.space doctype.content)
        (ap (list_all (is_shaped tags)) (proper-doctype rules.exact K.input doctype.word doctype.space doctype.content)
        ∙ rw (shape-doctype doctype one.is_doctype (doctype-return doctype (no_return-read K.input Y (one_doctype.written doctype) one.text))) refl)
    shaped-item Z K s Y M later (OneInstruction instruction one ended) lets =
        shaped-instruction rules.exact K.input instruction (are-instruction instruction one.is_instruction (no_return-read K.input Y (one_instruction.written instruction) one.text))
    shaped-item Z K s Y M later (OneCdata cdata one ended) lets =
        shaped-spelled tags rules.exact K.input (one_cdata.opening_text cdata.has_opening) (one_cdata.spell_cdata cdata) (cells-cdata tags cdata)
    shaped-item Z K s Y M later (OneReferenceIn mode F one) lets = shaped-on_line tags (line_after K.input (ampersand ∷ [])) (told_of (InText mode) (found_in rules false F)) (are-found tags rules mode F)
    shaped-item Z K s Y M later (OneRawCharacter raw name c one) lets =
        shaped-spelled tags rules.exact K.input [] (record { character = c; told = raw_character rules.exact raw c } ∷ []) (are-raw_character tags rules.exact raw c, tt)
    shaped-item Z K s Y M later (OneRawMark raw name item one) lets = shaped-spelled tags rules.exact K.input [] (spell_item rules.exact raw item) (cells-item tags rules.exact raw item)
    shaped-item Z K s Y M later (OneRawLessThan raw name item c F one) lets =
        shaped-spelled tags rules.exact K.input [] (spell_raw_less_than rules.exact raw item c) (cells-raw_less_than tags rules.exact raw item c)
    shaped-item Z K s Y M later (OneRawLessThanBefore raw name item c F one) lets =
        shaped-append tags (spelled_messages rules.exact K.input [] (spell_item rules.exact raw item)) _
        (shaped-spelled tags rules.exact K.input [] (spell_item rules.exact raw item) (cells-item tags rules.exact raw item))
        (shaped-on_line tags (line_after K.input (item_text raw item)) (carried raw item) (are-carried tags raw item))
    shaped-item Z K s Y M later (OneRawEnd raw name tag one) lets = shaped-tag rules K.input tag (lets refl) one.is_tag (no_return-read K.input Y (one_tag.written tag) one.text)

    pub shaped-unfinished : (K : Start) (s : S) (Y : List ℕ) (M E : List Message) → Unfinished means rules K s Y M E → Shaped tags M × Shaped tags E
    shaped-unfinished K s Y M E (OpenLessThan starts text) = (refl, refl)
    shaped-unfinished K s Y M E (OpenSolidus starts text) = (refl, refl)
    shaped-unfinished K s Y M E (OpenTag tag last one) =
        (shaped-open_tag rules K.input tag last, shaped-on_line tags (end_line K.input Y) (open_tag_at_end rules tag last) (are-open_tag rules tag last))
    shaped-unfinished K s Y M E (OpenRaw raw name item one) = (
      shaped-spelled tags rules.exact K.input [] (spell_item rules.exact raw item) (cells-item tags rules.exact raw item),
      shaped-on_line tags (end_line K.input Y) (carried raw item ++ raw_end_error rules.exact (raw_after_item raw item) ++ End ∷ [])
          (are-append tags (carried raw item ++ raw_end_error rules.exact (raw_after_item raw item)) (End ∷ [])
          (are-append tags (carried raw item) (raw_end_error rules.exact (raw_after_item raw item)) (are-carried tags raw item) (are-raw_error tags rules.exact (raw_after_item raw item))) refl),
    )
    shaped-unfinished K s Y M E (OpenSwitch dashes name first letters one) = (
      shaped-spelled tags rules.exact K.input [] (spell_open_switch first letters) (cells-open_switch tags first letters),
      shaped-on_line tags (end_line K.input Y) (raw_end_error rules.exact (DoubleEscaped NoDash) ++ End ∷ []) (are-raw_end tags rules.exact (DoubleEscaped NoDash)),
    )
    shaped-unfinished K s Y M E (OpenRawEnd raw name tag last one) =
        (shaped-open_tag rules K.input tag last, shaped-on_line tags (end_line K.input Y) (open_tag_at_end rules tag last) (are-open_tag rules tag last))
    shaped-unfinished K s Y M E (OpenReference mode F one) = (refl, shaped-on_line tags (end_line K.input Y) (reference_at_end rules mode F) (are-reference_end tags rules mode F))
    shaped-unfinished K s Y M E (OpenInstruction instruction one unended) =
        let told : AreShaped tags (one_instruction.told_content instruction.content ∷ []) =
        are-instruction instruction one.is_instruction (no_return-read K.input Y (one_instruction.written instruction) one.text) in (
          shaped-instruction rules.exact K.input instruction told,
          shaped-on_line tags (end_line K.input Y) (one_instruction.told_at_end rules.exact false instruction.content) (are-append tags (one_instruction.told_content instruction.content ∷ []) (End ∷ []) told refl),
        )
    shaped-unfinished K s Y M E (OpenBogus content one) =
        let r = rest-return (codes "</") content (no_return-read K.input Y (codes "</" ++ content) one.text) in (
          shaped-spelled tags rules.exact K.input [] (spell_open_bogus rules.exact content)
              (cells-errors (spell_open_bogus rules.exact content) (tell-append (spell_silent (codes "</")) (one_comment.spell_odd rules.exact content) (tell-silent (codes "</")) (tell-odd rules.exact content))),
          shaped-on_line tags (end_line K.input Y) (Comment (flat_map value_bytes content) ∷ End ∷ []) (rw (shape-bogus content one.within r) refl),
        )
    shaped-unfinished K s Y M E (OpenKeyword held one) =
        (refl, shaped-on_line tags (end_line K.input Y) (keyword_at_end rules.exact held) (rw (keyword-comment (means.foreign s) held one.undecided) refl))
    shaped-unfinished K s Y M E (OpenBogusDeclaration content one) =
        let r = rest-return (codes "<!") content (no_return-read K.input Y (codes "<!" ++ content) one.text) in (
          shaped-append tags (on_line (line_after K.input (codes "<!")) (error_in rules.exact state.MarkupDeclarationOpen exclamation_mark ∷ [])) (spelled_messages rules.exact K.input (codes "<!") (spell_bogus rules.exact content)) refl
              (shaped-spelled tags rules.exact K.input (codes "<!") (spell_bogus rules.exact content) (cells-errors (spell_bogus rules.exact content) (tell-bogus rules.exact content))),
          shaped-on_line tags (end_line K.input Y) (Comment (flat_map value_bytes content) ∷ End ∷ []) (rw (shape-bogus content one.within r) refl),
        )
    shaped-unfinished K s Y M E (OpenDoctype doctype one) =
        let r = rest-return (one_doctype.opening doctype.word doctype.space) (content_text doctype.content) (no_return-read K.input Y (one_doctype.opening doctype.word doctype.space ++ content_text doctype.content) one.text) in
        let h : is_doctype (told_content doctype.content) ≡ true = shape-doctype doctype one.is_doctype r in (
          shaped-open_doctype rules.exact K.input doctype.word doctype.space doctype.content h,
          shaped-on_line tags (end_line K.input Y) (open_doctype_at_end rules.exact doctype.space doctype.content) (are-open_doctype rules.exact doctype.space doctype.content h),
        )
    shaped-unfinished K s Y M E (OpenCdata cdata one unended) = (
      shaped-spelled tags rules.exact K.input (one_cdata.opening_text cdata.has_opening) (one_cdata.spell_cdata cdata) (cells-cdata tags cdata),
      shaped-on_line tags (end_line K.input Y) (one_cdata.told_at_end rules.exact false cdata.last) (are-append tags (texts cdata.last) (end_error_in rules.exact state.CdataSection ∷ End ∷ []) (are-texts tags cdata.last) refl),
    )
    shaped-unfinished K s Y M E (OpenComment content one) =
        let r = rest-return (codes "<!--") content (no_return-read K.input Y (codes "<!--" ++ content) one.text) in (
          shaped-spelled tags rules.exact K.input [] (spell_open_comment rules.exact content)
              (cells-errors (spell_open_comment rules.exact content)
              (tell-append (spell_silent (codes "<!--")) (one_comment.spell_content rules.exact [] content) (tell-silent (codes "<!--")) (tell-content rules.exact [] content))),
          shaped-on_line tags (end_line K.input Y) (open_comment_at_end rules.exact content) (rw (cut-comment (flat_map value_bytes content) (content-comment content one.is_content r)) refl),
        )

module _ {X S H : Type 0} (means : Means X S H) (rules : Rules) where
  shaped-items : (K : Start) (s : S) (X : List ℕ) (M E : List Message) → Items means rules K s X M E → Shaped true M × Shaped true E
  shaped-items _ _ _ _ _ (Nothing K s X mode starts none) = (refl, shaped-on_line true (end_line K.input X) (nothing_at_end rules.exact mode) (are-nothing true rules.exact mode))
  shaped-items _ _ _ _ _ (Then K s Y Z M N E later one rest) =
      let more = shaped-items later (stepped means.step s M) Z N E rest in
      (shaped-append true M N (shaped-item true means rules Z K s Y M later one (λ e. refl)) more.0, more.1)
  shaped-items _ _ _ _ _ (Last K s X M E one) = shaped-unfinished true means rules K s X M E one

  shaped-reading : (K : Start) (s : S) (X : List ℕ) → IsTable rules.references → nothing_open K.opened ≡ true → Shaped true (all_messages means rules K s X)
  shaped-reading K s X table clean =
      let composed : Composed means rules K s X = all-composed means rules K s X clean in
      let shaped = shaped-items K s X composed.tells composed.ends composed.items in
      ap (list_all (λ (m : Message). is_shaped true m.token)) (reading-items means rules K s X composed.tells composed.ends table composed.items)
      ∙ shaped-append true composed.tells composed.ends shaped.0 shaped.1

-- ---- each token

distinct-others : (a : AttributeOf) (attributes : List AttributeOf) → AllByRecursion (λ name. bytes_eq a.name.local name ≡ false) (attribute_names attributes) → list_all (differs_from a) attributes ≡ true
distinct-others a [] h = refl
distinct-others a (other ∷ attributes) h = rw (h.0) (distinct-others a attributes h.1)

distinct-all : (attributes : List AttributeOf) → IsDistinct bytes_eq (attribute_names attributes) → are_distinct attributes ≡ true
unfolding IsDistinct are_distinct
distinct-all [] h = refl
distinct-all (a ∷ attributes) h = rw (distinct-others a attributes h.0) (distinct-all attributes h.1)

can-write : (token : Told) → IsLawful token → is_shaped true token ≡ true → can_write token ≡ true
unfolding can_write
can-write (Text text) lawful h = lawful
can-write Null lawful h = refl
can-write (Error message) lawful h = refl
can-write (Tag tag) lawful h =
    let p = and_parts (is_tag_name tag.name) (list_all is_attribute tag.attributes) h in
    rw (p.0, p.1) (distinct-all tag.attributes lawful.distinct)
can-write (Comment text) lawful h = h
can-write (Instruction content) lawful h = h
can-write (Doctype d) lawful h = h
can-write End lawful h = refl

can-write_all : (M : List Message) → All (λ (m : Message). IsLawful m.token) M → Shaped true M → All (λ (m : Message). can_write m.token ≡ true) M
can-write_all [] lawful h = All-nil (λ (m : Message). can_write m.token ≡ true)
can-write_all (m ∷ M) lawful h =
    let p = and_parts (is_shaped true m.token) (list_all (λ (m : Message). is_shaped true m.token) M) h in
    All-cons (λ (m : Message). can_write m.token ≡ true) m M (can-write m.token (All-head (λ (m : Message). IsLawful m.token) m M lawful) p.0)
    (can-write_all M (All-tail (λ (m : Message). IsLawful m.token) m M lawful) p.1)

pub each-token : {X S H : Type 0} (means : Means X S H) (rules : Rules) (K : Start) (s : S) (text : List ℕ) → IsTable rules.references → nothing_open K.opened ≡ true
    → All (λ m. can_write m.token ≡ true) (all_messages means rules K s text)
each-token means rules K s text table clean =
    can-write_all (all_messages means rules K s text) (lawful-reading means.step means.reply means.foreign rules K s text table clean) (shaped-reading means rules K s text table clean)

can-write_list : (M : List Message) → All (λ (m : Message). IsLawful m.token) M → Shaped true M → list_all can_write (tokens_of M) ≡ true
can-write_list [] lawful h = refl
can-write_list (m ∷ M) lawful h =
    let p = and_parts (is_shaped true m.token) (list_all (λ (m : Message). is_shaped true m.token) M) h in
    rw (can-write m.token (All-head (λ (m : Message). IsLawful m.token) m M lawful) p.0) (can-write_list M (All-tail (λ (m : Message). IsLawful m.token) m M lawful) p.1)

-- the same, of their list
pub all-tokens : {X S H : Type 0} (means : Means X S H) (rules : Rules) (K : Start) (s : S) (text : List ℕ) → IsTable rules.references → nothing_open K.opened ≡ true
    → list_all can_write (tokens_of (all_messages means rules K s text)) ≡ true
all-tokens means rules K s text table clean =
    can-write_list (all_messages means rules K s text) (lawful-reading means.step means.reply means.foreign rules K s text table clean) (shaped-reading means rules K s text table clean)
