-- A tag without its `>` tells what it spells, and its end what it leaves open.
use Rattle.std.proofs.Common.{◌≡◌, ◌≤◌, ℕ, zero, suc, Bool, true, false, List, [], ◌∷◌, ◌++◌, take, drop, length, Option, None, Some, refl, ap, sym, ◌∙◌, subst, arith}
use Rattle.std.specs.Prelude.{◌==◌, not, All, IsTrue, flat_map, if◌then◌else◌}
use Rattle.std.specs.List.{list_all}
use Rattle.std.specs.Option.{is_none}
use Rattle.std.proofs.lemmas.Bool.{false≢true, eqb-true, and_parts, not-true}
use Rattle.std.proofs.lemmas.List.{append_assoc, append-nil, take-append-drop}
use Rattle.html5ever_interface.specs.Sink.{Means, Message, stepped, on_line}
use Rattle.html5ever_interface.specs.Token.{Told}
use Rattle.html5ever_interface.specs.Token.Told.{End}
use Rattle.html5ever_interface.specs.declared.interface.token.TagKind.{TagKind}
use Rattle.html5ever_interface.specs.declared.states.AttrValueKind.{AttrValueKind}
use Rattle.html5ever_interface.specs.declared.states.AttrValueKind.TheVariants.{Unquoted, SingleQuoted, DoubleQuoted}
use Rattle.html5ever_interface.specs.declared.states.State.TheVariants as state
use Rattle.html5reading.specs.Characters.{ampersand, equals_sign, quotation_mark, apostrophe, is_letter, is_white_space, is_bad_character}
use Rattle.html5reading.specs.EndOfInput.{state_at, tokens_at_end, late_at_end_of, open_at_end_of, told_at_end_of}
use Rattle.html5reading.specs.ErrorText.{end_error_in}
use Rattle.html5reading.specs.NormalisedText.{line_after}
use Rattle.html5grammar.specs.Tag.{WrittenTag, spell_name, opening, part_text, is_attribute_name, name_shown, end_place, found_in, held_in, deciding_in, is_in_value, is_open_value, open_quote, needs_stop, value_error, spell_open_run, errors_at_end, can_follow, spell_parts, all_attributes, body, OpenAttribute, open_attribute_text, open_written, can_end_in, is_open_written, spell_open_attribute, spell_open_tag, open_tag_at_end}
use Rattle.html5grammar.specs.Spelled.{Spelled, spell, spell_silent, spelled_messages}
use Rattle.html5reading.specs.Reference.{Found, first_or, reference, is_undecided, characters_in, told_of, with_value}
use Rattle.html5reading.specs.Slice.{silent, after_while}
use Rattle.html5reading.specs.Start.{Input, OpenTag, Place, Open, Rules}
use Rattle.html5reading.specs.Start.Mode.{Data}
use Rattle.html5reading.specs.Start.Place.{InName, BeforeAttribute, InAttributeName, AfterAttributeName, BeforeValue, InValue, AfterQuotedValue, AfterSolidus}
use Rattle.html5reading.specs.Start.Stand.{InAttribute}
use Rattle.html5reading.specs.Start.Open.{Between, InTag, InReference}
use Rattle.html5reading.specs.Tag.{null_error, attribute_name_error, in_tag_name}
use Rattle.html5grammar.proofs.HeldWords.{is_good, while-parts}
use Rattle.html5reading.proofs.InputLemmas.{line_after-past}
use Rattle.html5grammar.proofs.Leading.{spelled_messages-append}
use Rattle.html5reading.specs.Machine.{step_at, tag_step, before_value_step}
use Rattle.html5grammar.proofs.Comment.Reading.{spelled-nothing}
use Rattle.html5grammar.proofs.Tag.Attributes.{Holds, Holds-none, goes-equals, goes-name_of_attribute, with_attribute}
use Rattle.html5grammar.proofs.Goes.{characters, characters-spell, characters-two}
use Rattle.html5reading.proofs.Traces.{trace, with_messages}
use Rattle.html5grammar.proofs.Reference.Anywhere.{is_held_character, held-undecided, held-good, DecidedIn, decided-by, taken-plain, trace-reference, trace-run, none-after, undecided-run, is-line, tokens-late}
use Rattle.html5grammar.proofs.Tag.Parts.{Stops, passes-goes, trace-same, bare-same, Led, passes-parts, characters-parts, name_cells, named_tag, passes-name}
use Rattle.html5grammar.proofs.Tag.Values.{Passes, passes-one, passes-append, trace-ampersand_in, messages-reference, line-reference, step-in_value}
use Rattle.markup5ever.specs.NamedReferences.{is_plain_name}
use Rattle.markup5ever.specs.Names.{AttributeOf}

module _ {X S H : Type 0} (means : Means X S H) (rules : Rules) where
  -- the rest of the text tells what these characters spell, and its end this
  pub record Leaves (opened : Open) (text : List ℕ) (cells : List Spelled) (E : List Told) : Type 0 where
    pub later : Open
    pub is : (input : Input) (before : List ℕ) (s : S) (last : List ℕ)
        → trace means.step means.reply means.foreign rules s (line_after input before) last opened text
        ≡ record { messages = spelled_messages rules.exact input before cells; opened = later; last_start_tag = last }
    pub at_end : tokens_at_end rules later ≡ E

  -- characters before a text that the end cuts off
  leaves-append : (a b : Open) (xs ys : List Spelled) (text : List ℕ) (E : List Told) → Passes means rules a xs b text → Leaves b text ys E → Leaves a (characters xs ++ text) (xs ++ ys) E
  leaves-append a b xs ys text E passes rest = record {
    later = rest.later;
    is =
        λ input before s last.
        let M : List Message = spelled_messages rules.exact input before xs in
        passes input before s last
        ∙ ap (with_messages M) (rest.is input (before ++ characters xs) (stepped means.step s M) last)
        ∙ ap (λ l. record { messages = l; opened = rest.later; last_start_tag = last }) (sym (spelled_messages-append rules.exact input before xs ys));
    at_end = rest.at_end;
  }

  leaves-tag : (place : Place) (tag : OpenTag) → Leaves (InTag place tag) [] [] (end_error_in rules.exact (state_at place) ∷ End ∷ [])
  unfolding trace spelled_messages late_at_end_of open_at_end_of told_at_end_of
  leaves-tag place tag = record { later = InTag place tag; is = λ input before s last. refl; at_end = refl }

  -- ---- the run of a value

  spell-taken : (kind : AttrValueKind) (taken : ℕ) (run : List ℕ) → spell_open_run rules kind taken run ≡ spell_silent (take taken run) ++ spell_open_run rules kind zero (drop taken run)
  unfolding spell_open_run
  spell-taken kind zero [] = refl
  spell-taken kind (suc taken) [] = refl
  spell-taken kind zero (c ∷ run) = refl
  spell-taken kind (suc taken) (c ∷ run) = ap (λ l. record { character = c; told = [] } ∷ l) (spell-taken kind taken run)

  errors-taken : (taken : ℕ) (run : List ℕ) → errors_at_end rules taken run ≡ errors_at_end rules zero (drop taken run)
  unfolding errors_at_end
  errors-taken zero [] = refl
  errors-taken (suc taken) [] = refl
  errors-taken zero (c ∷ run) = refl
  errors-taken (suc taken) (c ∷ run) = errors-taken taken run

  -- a reference that the rest of the text decides
  passes-decided : (kind : AttrValueKind) (tag : OpenTag) (F : List ℕ) → All (λ entry. IsTrue (is_plain_name entry.name)) rules.references → is_none (deciding_in rules.references F) ≡ false
      → let found : Found = found_in rules true F in
      Passes means rules (InTag (InValue kind) tag) (record { character = ampersand; told = found.errors } ∷ spell_silent (take found.taken F)) (InTag (InValue kind) (with_value tag (characters_in found))) (drop found.taken F)
  passes-decided kind tag F plain decided = λ input before s last.
      let found : Found = found_in rules true F in
      let d : DecidedIn means rules F = decided-by means rules F _ refl decided in
      let found_is : reference rules true (held_in rules.references F) (Some d.c) ≡ found = sym (ap (reference rules true (held_in rules.references F)) d.is) in
      let front : List ℕ = take found.taken F in
      let held : list_all is_held_character front ≡ true = taken-plain means rules true F d plain in
      let line : ℕ = line_after input (before ++ ampersand ∷ []) in
      let later : Open = InTag (InValue kind) (with_value tag (characters_in found)) in
      let cells : List Spelled = record { character = ampersand; told = found.errors } ∷ spell_silent front in
      let text : characters (spell_silent front) ++ drop found.taken F ≡ F =
      ap (λ l. l ++ drop found.taken F) (characters-spell silent front) ∙ take-append-drop found.taken F in
      ap (λ l. trace means.step means.reply means.foreign rules s (line_after input before) last (InTag (InValue kind) tag) (ampersand ∷ l)) text
      ∙ trace-ampersand_in means rules kind tag s (line_after input before) last F
      ∙ ap (λ n. trace means.step means.reply means.foreign rules s n last (InReference (InAttribute kind tag) []) F) (sym (line_after-past input before ampersand))
      ∙ trace-reference means rules (InAttribute kind tag) s line last F d.c d.more refl (λ c h. is-line means rules input (before ++ ampersand ∷ []) c h) plain d.next
      ∙ ap (λ f. with_messages (on_line line (told_of (InAttribute kind tag) f)) (trace means.step means.reply means.foreign rules (stepped means.step s (on_line line (told_of (InAttribute kind tag) f))) line last (InTag (InValue kind) (with_value tag (characters_in f))) (drop f.taken F))) found_is
      ∙ ap (λ l. with_messages (on_line line l) (trace means.step means.reply means.foreign rules (stepped means.step s (on_line line l)) line last later (drop found.taken F))) (append-nil found.errors)
      ∙ ap (λ l. with_messages l (trace means.step means.reply means.foreign rules (stepped means.step s l) line last later (drop found.taken F))) (sym (messages-reference means rules input before front found.errors held))
      ∙ ap (λ n. with_messages (spelled_messages rules.exact input before cells) (trace means.step means.reply means.foreign rules (stepped means.step s (spelled_messages rules.exact input before cells)) n last later (drop found.taken F)))
      (sym (ap (λ l. line_after input (before ++ ampersand ∷ l)) (characters-spell silent front) ∙ line-reference means rules input before front held))

  good-open : (run : List ℕ) → list_all is_held_character run ≡ true → list_all is_good (ampersand ∷ run) ≡ true
  unfolding is_bad_character
  good-open run h = held-good run h

  -- one that it doesn't decide
  tokens-open : (kind : AttrValueKind) (tag : OpenTag) (F : List ℕ)
      → tokens_at_end rules (InReference (InAttribute kind tag) F) ≡ (reference rules true F None).errors ++ end_error_in rules.exact (state_at (InValue kind)) ∷ End ∷ []
  unfolding late_at_end_of open_at_end_of told_at_end_of
  tokens-open kind tag F =
      let found : Found = reference rules true F None in
      ap (λ l. l ++ end_error_in rules.exact (state_at (InValue kind)) ∷ End ∷ [])
      (tokens-late (InAttribute kind tag) found F ∙ append-nil (found.errors ++ []) ∙ append-nil found.errors)

  -- in a value, an `&` that the text's end leaves undecided
  leaves-open : (kind : AttrValueKind) (tag : OpenTag) (F : List ℕ) → All (λ entry. IsTrue (is_plain_name entry.name)) rules.references → is_none (deciding_in rules.references F) ≡ true
      → Leaves (InTag (InValue kind) tag) (ampersand ∷ F) (spell_silent (ampersand ∷ F)) ((found_in rules true F).errors ++ end_error_in rules.exact (state_at (InValue kind)) ∷ End ∷ [])
  unfolding trace
  leaves-open kind tag F plain undecided =
      let none : after_while (is_undecided rules.references) [] F ≡ [] = none-after means rules F _ refl undecided in
      let run : List ℕ = held_in rules.references F in
      let whole : run ≡ F = sym (append-nil run) ∙ ap (λ l. run ++ l) (sym none) ∙ while-parts (is_undecided rules.references) [] F in
      let held : list_all is_held_character run ≡ true = held-undecided rules.references run plain (undecided-run means rules F) in
      let found_is : found_in rules true F ≡ reference rules true F None =
      ap (λ l. reference rules true l (deciding_in rules.references F)) whole ∙ ap (λ l. reference rules true F (first_or l None)) none in
      record {
        later = InReference (InAttribute kind tag) F;
        is =
            λ input before s last.
            trace-ampersand_in means rules kind tag s (line_after input before) last F
            ∙ ap (λ n. trace means.step means.reply means.foreign rules s n last (InReference (InAttribute kind tag) []) F) (sym (line_after-past input before ampersand))
            ∙ trace-run means rules (InAttribute kind tag) s (line_after input (before ++ ampersand ∷ [])) last [] F (λ c h. is-line means rules input (before ++ ampersand ∷ []) c h) held
            ∙ ap (trace means.step means.reply means.foreign rules s (line_after input (before ++ ampersand ∷ [])) last (InReference (InAttribute kind tag) run)) none
            ∙ ap (λ l. record { messages = []; opened = InReference (InAttribute kind tag) l; last_start_tag = last }) whole
            ∙ ap (λ M. record { messages = M; opened = InReference (InAttribute kind tag) F; last_start_tag = last })
            (sym (spelled-nothing rules.exact input silent (λ c g. refl) before (ampersand ∷ F) (good-open F (ap (list_all is_held_character) (sym whole) ∙ held))));
        at_end = tokens-open kind tag F ∙ ap (λ (f : Found). f.errors ++ end_error_in rules.exact (state_at (InValue kind)) ∷ End ∷ []) (sym found_is);
      }

  abbrev IsLeft : AttrValueKind → OpenTag → List ℕ → Type 0
  IsLeft kind tag run = Leaves (InTag (InValue kind) tag) run (spell_open_run rules kind zero run) (errors_at_end rules zero run ++ end_error_in rules.exact (state_at (InValue kind)) ∷ End ∷ [])

  all-drop : (kind : AttrValueKind) (k : ℕ) (text : List ℕ) → list_all (is_in_value kind) text ≡ true → list_all (is_in_value kind) (drop k text) ≡ true
  all-drop kind zero text h = h
  all-drop kind (suc k) [] h = refl
  all-drop kind (suc k) (d ∷ text) h = all-drop kind k text (and_parts (is_in_value kind d) (list_all (is_in_value kind) text) h).1

  less-drop : (k : ℕ) (text : List ℕ) → length (drop k text) ≤ length text
  less-drop zero text = omega arith
  less-drop (suc k) [] = omega arith
  less-drop (suc k) (d ∷ text) = let less : length (drop k text) ≤ length text = less-drop k text in omega (arith, less)

  -- in a value, an `&` that the text decides, where the rest is left open
  left-decided : (kind : AttrValueKind) (tag : OpenTag) (run : List ℕ) → All (λ entry. IsTrue (is_plain_name entry.name)) rules.references → is_none (deciding_in rules.references run) ≡ false
      → IsLeft kind (with_value tag (characters_in (found_in rules true run))) (drop (found_in rules true run).taken run)
      → Leaves (InTag (InValue kind) tag) (ampersand ∷ run)
      (record { character = ampersand; told = (found_in rules true run).errors } ∷ spell_open_run rules kind (found_in rules true run).taken run)
      (errors_at_end rules (found_in rules true run).taken run ++ end_error_in rules.exact (state_at (InValue kind)) ∷ End ∷ [])
  left-decided kind tag run plain decided further =
      let found : Found = found_in rules true run in
      let E : List Told = end_error_in rules.exact (state_at (InValue kind)) ∷ End ∷ [] in
      let later : List ℕ = drop found.taken run in
      let cell : Spelled = record { character = ampersand; told = found.errors } in
      let cells : List Spelled = cell ∷ spell_silent (take found.taken run) in
      let text : characters cells ++ later ≡ ampersand ∷ run = ap (λ l. ampersand ∷ l) (ap (λ l. l ++ later) (characters-spell silent (take found.taken run)) ∙ take-append-drop found.taken run) in
      subst (λ l. Leaves (InTag (InValue kind) tag) l (cell ∷ spell_open_run rules kind found.taken run) (errors_at_end rules found.taken run ++ E)) text
      (subst (λ l. Leaves (InTag (InValue kind) tag) (characters cells ++ later) (cell ∷ l) (errors_at_end rules found.taken run ++ E)) (sym (spell-taken kind found.taken run))
      (subst (λ l. Leaves (InTag (InValue kind) tag) (characters cells ++ later) (cells ++ spell_open_run rules kind zero later) (l ++ E)) (sym (errors-taken found.taken run))
      (leaves-append (InTag (InValue kind) tag) (InTag (InValue kind) (with_value tag (characters_in found))) cells (spell_open_run rules kind zero later) later _ (passes-decided kind tag run plain decided) further)))

  left-ampersand : (kind : AttrValueKind) (tag : OpenTag) (run : List ℕ) → All (λ entry. IsTrue (is_plain_name entry.name)) rules.references → (u : Bool) → is_none (deciding_in rules.references run) ≡ u
      → ((t : OpenTag) (k : ℕ) → IsLeft kind t (drop k run))
      → Leaves (InTag (InValue kind) tag) (ampersand ∷ run)
      (if u then spell_silent (ampersand ∷ run) else record { character = ampersand; told = (found_in rules true run).errors } ∷ spell_open_run rules kind (found_in rules true run).taken run)
      ((if u then (found_in rules true run).errors else errors_at_end rules (found_in rules true run).taken run) ++ end_error_in rules.exact (state_at (InValue kind)) ∷ End ∷ [])
  left-ampersand kind tag run plain true h further = leaves-open kind tag run plain h
  left-ampersand kind tag run plain false h further = left-decided kind tag run plain h (further _ (found_in rules true run).taken)

  -- one character more of a value that the text ends
  left-cons : (kind : AttrValueKind) (tag : OpenTag) (c : ℕ) (run : List ℕ) → All (λ entry. IsTrue (is_plain_name entry.name)) rules.references → is_in_value kind c ≡ true → (a : Bool) → (c == ampersand) ≡ a
      → ((t : OpenTag) (k : ℕ) → IsLeft kind t (drop k run))
      → IsLeft kind tag (c ∷ run)
  unfolding spell_open_run errors_at_end
  left-cons kind tag c run plain h true e further =
      subst (λ x. IsLeft kind tag (x ∷ run)) (sym (eqb-true c ampersand e)) (left-ampersand kind tag run plain (is_none (deciding_in rules.references run)) refl further)
  left-cons kind tag c run plain h false e further =
      rw e
      (leaves-append (InTag (InValue kind) tag) (InTag (InValue kind) (with_value tag (c ∷ []))) (record { character = c; told = value_error rules.exact kind c } ∷ []) (spell_open_run rules kind zero run) run _
      (passes-one means rules (InTag (InValue kind) tag) (InTag (InValue kind) (with_value tag (c ∷ []))) c (value_error rules.exact kind c) run refl (step-in_value means rules kind tag c h e))
      (further (with_value tag (c ∷ [])) zero))

  leaves-run : (n : ℕ) (kind : AttrValueKind) (tag : OpenTag) (run : List ℕ) → length run ≤ n → All (λ entry. IsTrue (is_plain_name entry.name)) rules.references → list_all (is_in_value kind) run ≡ true → IsLeft kind tag run
  unfolding spell_open_run errors_at_end
  leaves-run n kind tag [] within plain all = leaves-tag (InValue kind) tag
  leaves-run zero kind tag (c ∷ run) within plain all = absurd (omega (arith, within))
  leaves-run (suc n) kind tag (c ∷ run) within plain all =
      let p = and_parts (is_in_value kind c) (list_all (is_in_value kind) run) all in
      left-cons kind tag c run plain p.0 (c == ampersand) refl
      (λ t k. let less : length (drop k run) ≤ length run = less-drop k run in leaves-run n kind t (drop k run) (omega (arith, within, less)) plain (all-drop kind k run p.1))

  -- ---- the tag

  -- a value that the text ends, from its opening quote on
  leaves-value : (kind : AttrValueKind) (tag : OpenTag) (run : List ℕ) → All (λ entry. IsTrue (is_plain_name entry.name)) rules.references → is_open_value kind run ≡ true
      → Leaves (InTag BeforeValue tag) (open_quote kind ++ run) (spell_silent (open_quote kind) ++ spell_open_run rules kind zero run) (errors_at_end rules zero run ++ end_error_in rules.exact (state_at (InValue kind)) ∷ End ∷ [])
  unfolding step_at tag_step before_value_step is_white_space
  leaves-value Unquoted tag [] plain h = absurd (false≢true h)
  leaves-value Unquoted tag (c ∷ run) plain h =
      let p = and_parts (not (c == quotation_mark)) _ h in
      let q = and_parts (not (c == apostrophe)) _ p.1 in
      let r = and_parts (is_in_value Unquoted c) (list_all (is_in_value Unquoted) run) q.1 in
      let rest : IsLeft Unquoted tag (c ∷ run) = leaves-run (length (c ∷ run)) Unquoted tag (c ∷ run) (omega arith) plain q.1 in
      record {
        later = rest.later;
        is =
            λ input before s last.
            trace-same means rules s (line_after input before) last (InTag BeforeValue tag) (InTag (InValue Unquoted) tag) c run refl refl
            (bare-same means rules tag c (not-true (c == quotation_mark) p.0) (not-true (c == apostrophe) q.0) r.0)
            ∙ rest.is input before s last;
        at_end = rest.at_end;
      }
  leaves-value SingleQuoted tag run plain h =
      leaves-append (InTag BeforeValue tag) (InTag (InValue SingleQuoted) tag) (spell_silent (apostrophe ∷ [])) (spell_open_run rules SingleQuoted zero run) run _
      (passes-one means rules (InTag BeforeValue tag) (InTag (InValue SingleQuoted) tag) apostrophe [] run refl refl)
      (leaves-run (length run) SingleQuoted tag run (omega arith) plain h)
  leaves-value DoubleQuoted tag run plain h =
      leaves-append (InTag BeforeValue tag) (InTag (InValue DoubleQuoted) tag) (spell_silent (quotation_mark ∷ [])) (spell_open_run rules DoubleQuoted zero run) run _
      (passes-one means rules (InTag BeforeValue tag) (InTag (InValue DoubleQuoted) tag) quotation_mark [] run refl refl)
      (leaves-run (length run) DoubleQuoted tag run (omega arith) plain h)

  -- an attribute whose value the text ends
  leaves-attribute : (kind : TagKind) (name : List ℕ) (place : Place) (before : List AttributeOf) (tag : OpenTag) (a : OpenAttribute) → All (λ entry. IsTrue (is_plain_name entry.name)) rules.references
      → Holds kind name before tag → can_end_in place (Some a) ≡ true
      → Leaves (InTag place tag) (open_attribute_text (Some a))
      (spell_name rules.exact place before a.first a.name ++ ((spell_silent a.space ++ spell_silent (equals_sign ∷ a.afterwards)) ++ (spell_silent (open_quote a.kind) ++ spell_open_run rules a.kind zero a.run)))
      (errors_at_end rules zero a.run ++ end_error_in rules.exact (state_at (InValue a.kind)) ∷ End ∷ [])
  leaves-attribute kind name place before tag a plain holds h =
      let p = and_parts (is_attribute_name place a.first a.name) _ h in
      let q = and_parts (list_all is_white_space a.space) _ p.1 in
      let r = and_parts (list_all is_white_space a.afterwards) (is_open_value a.kind a.run) q.1 in
      let named : OpenTag = with_attribute kind name before (name_shown a.first a.name) [] in
      let named_cells : List Spelled = spell_name rules.exact place before a.first a.name in
      let equals_cells : List Spelled = spell_silent a.space ++ spell_silent (equals_sign ∷ a.afterwards) in
      let value_cells : List Spelled = spell_silent (open_quote a.kind) ++ spell_open_run rules a.kind zero a.run in
      let value_is : List ℕ = open_quote a.kind ++ a.run in
      let E : List Told = errors_at_end rules zero a.run ++ end_error_in rules.exact (state_at (InValue a.kind)) ∷ End ∷ [] in
      let equals_text : characters equals_cells ++ value_is ≡ a.space ++ (equals_sign ∷ a.afterwards ++ value_is) =
      ap (λ l. l ++ value_is) (characters-two (spell_silent a.space) (spell_silent (equals_sign ∷ a.afterwards)) a.space (equals_sign ∷ a.afterwards) (characters-spell silent a.space) (characters-spell silent (equals_sign ∷ a.afterwards)))
      ∙ append_assoc a.space (equals_sign ∷ a.afterwards) value_is in
      let text : characters named_cells ++ (characters equals_cells ++ value_is) ≡ open_attribute_text (Some a) =
      ap (λ l. characters named_cells ++ l) equals_text
      ∙ ap (λ l. a.first ∷ l ++ (a.space ++ (equals_sign ∷ a.afterwards ++ value_is))) (characters-spell (attribute_name_error rules.exact) a.name) in
      subst (λ l. Leaves (InTag place tag) l (named_cells ++ (equals_cells ++ value_cells)) E) text
      (leaves-append (InTag place tag) (InTag InAttributeName named) named_cells (equals_cells ++ value_cells) (characters equals_cells ++ value_is) E
      (passes-goes means rules (InTag place tag) (InTag InAttributeName named) named_cells _ refl (goes-name_of_attribute rules.exact kind name place before tag a.first a.name holds p.0))
      (leaves-append (InTag InAttributeName named) (InTag BeforeValue named) equals_cells value_cells value_is E
      (passes-goes means rules (InTag InAttributeName named) (InTag BeforeValue named) equals_cells _ refl (goes-equals rules.exact named a.space a.afterwards q.0 r.0))
      (leaves-value a.kind named a.run plain r.1)))

  -- directly after a value without quotes no attribute begins
  needs-none : (place : Place) (first : ℕ) (name : List ℕ) → is_attribute_name place first name ≡ true → needs_stop place ≡ true → (⊥)
  needs-none (InValue Unquoted) first name h needs = false≢true h
  needs-none (InValue SingleQuoted) first name h needs = false≢true needs
  needs-none (InValue DoubleQuoted) first name h needs = false≢true needs
  needs-none InName first name h needs = false≢true needs
  needs-none BeforeAttribute first name h needs = false≢true needs
  needs-none InAttributeName first name h needs = false≢true needs
  needs-none AfterAttributeName first name h needs = false≢true needs
  needs-none BeforeValue first name h needs = false≢true needs
  needs-none AfterQuotedValue first name h needs = false≢true needs
  needs-none AfterSolidus first name h needs = false≢true needs

  stops-none : (place : Place) (last : Option OpenAttribute) → can_end_in place last ≡ true → needs_stop place ≡ true → Stops (open_attribute_text last)
  stops-none place None h needs = absurd (false≢true (sym (not-true (needs_stop place) h) ∙ needs))
  stops-none place (Some a) h needs = absurd (needs-none place a.first a.name (and_parts (is_attribute_name place a.first a.name) _ h).0 needs)

  leaves-last : (tag : WrittenTag) (afterwards : OpenTag) (last : Option OpenAttribute) → All (λ entry. IsTrue (is_plain_name entry.name)) rules.references
      → Holds tag.kind (name_shown tag.first tag.rest) (all_attributes rules tag) afterwards → can_end_in (end_place tag) last ≡ true
      → Leaves (InTag (end_place tag) afterwards) (open_attribute_text last) (spell_open_attribute rules tag last) (open_tag_at_end rules tag last)
  leaves-last tag afterwards None plain holds h = leaves-tag (end_place tag) afterwards
  leaves-last tag afterwards (Some a) plain holds h = leaves-attribute tag.kind (name_shown tag.first tag.rest) (end_place tag) (all_attributes rules tag) afterwards a plain holds h

  -- from where its opening and its name are read as that
  pub leaves-open_from : (opened : Open) (tag : WrittenTag) (last : Option OpenAttribute) → All (λ entry. IsTrue (is_plain_name entry.name)) rules.references
      → can_follow InName tag.parts ≡ true → can_end_in (end_place tag) last ≡ true
      → Passes means rules opened (name_cells means rules tag) (InTag InName (named_tag means rules tag)) (flat_map part_text tag.parts ++ open_attribute_text last)
      → Leaves opened (open_written tag last) (spell_open_tag rules tag last) (open_tag_at_end rules tag last)
  unfolding open_written
  leaves-open_from opened tag last plain follow ends begins =
      let name : List ℕ = name_shown tag.first tag.rest in
      let named : OpenTag = named_tag means rules tag in
      let parts : List Spelled = spell_parts rules InName [] tag.parts in
      let cells : List Spelled = spell (null_error rules.exact state.TagName) (tag.first ∷ tag.rest) in
      let rest : List ℕ = open_attribute_text last in
      let flat : List ℕ = flat_map part_text tag.parts in
      let led : Led means rules tag.kind name InName named parts (end_place tag) (all_attributes rules tag) rest =
      passes-parts means rules tag.kind name InName [] named tag.parts rest plain (Holds-none tag.kind name) follow (λ needs. stops-none (end_place tag) last ends needs) in
      let passes : Passes means rules opened (body rules tag) (InTag (end_place tag) led.afterwards) rest =
      subst (λ l. Passes means rules opened l (InTag (end_place tag) led.afterwards) rest)
      (append_assoc (spell_silent (opening tag.kind)) cells parts)
      (passes-append means rules opened (InTag InName named) (InTag (end_place tag) led.afterwards) (name_cells means rules tag) parts rest
      (subst (λ l. Passes means rules opened (name_cells means rules tag) (InTag InName named) (l ++ rest)) (sym (characters-parts means rules InName [] tag.parts)) begins)
      led.passes) in
      let body_text : characters (body rules tag) ≡ opening tag.kind ++ (tag.first ∷ tag.rest ++ flat) =
      characters-two (spell_silent (opening tag.kind)) _ (opening tag.kind) _ (characters-spell silent (opening tag.kind))
      (characters-two cells parts (tag.first ∷ tag.rest) flat (characters-spell (null_error rules.exact state.TagName) (tag.first ∷ tag.rest)) (characters-parts means rules InName [] tag.parts)) in
      let text : characters (body rules tag) ++ rest ≡ opening tag.kind ++ (tag.first ∷ tag.rest ++ (flat ++ rest)) =
      ap (λ l. l ++ rest) body_text
      ∙ append_assoc (opening tag.kind) (tag.first ∷ tag.rest ++ flat) rest
      ∙ ap (λ l. opening tag.kind ++ tag.first ∷ l) (append_assoc tag.rest flat rest) in
      subst (λ l. Leaves opened l (spell_open_tag rules tag last) (open_tag_at_end rules tag last)) text
      (leaves-append opened (InTag (end_place tag) led.afterwards) (body rules tag) (spell_open_attribute rules tag last) rest _ passes
      (leaves-last tag led.afterwards last plain led.holds ends))

  pub leaves-open_tag : (tag : WrittenTag) (last : Option OpenAttribute) → All (λ entry. IsTrue (is_plain_name entry.name)) rules.references → is_open_written tag last ≡ true
      → Leaves (Between Data) (open_written tag last) (spell_open_tag rules tag last) (open_tag_at_end rules tag last)
  unfolding is_open_written
  leaves-open_tag tag last plain h =
      let p = and_parts (is_letter tag.first) _ h in
      let q = and_parts (list_all in_tag_name tag.rest) _ p.1 in
      let r = and_parts (can_follow InName tag.parts) (can_end_in (end_place tag) last) q.1 in
      leaves-open_from (Between Data) tag last plain r.0 r.1 (passes-name means rules tag _ p.0 q.0)
