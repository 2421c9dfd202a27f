-- What a value tells, with its references.
use Rattle.std.proofs.Common.{◌≡◌, ◌≤◌, ℕ, zero, suc, Bool, true, false, List, [], ◌∷◌, ◌++◌, take, drop, length, Some, refl, ap, sym, ◌∙◌, subst, arith}
use Rattle.std.specs.Prelude.{◌==◌, ◌||◌, All, IsTrue, flat_map, if◌then◌else◌}
use Rattle.std.specs.List.{list_all}
use Rattle.std.proofs.Math.Bool.{and-false}
use Rattle.std.proofs.lemmas.Bool.Decides.{nat_tests}
use Rattle.html5reading.proofs.Slices.{with_value-nil}
use Rattle.std.proofs.lemmas.Bool.{false≢true, eqb-true, and_parts, not-true}
use Rattle.std.proofs.lemmas.List.{append_assoc, append-nil, take-append-drop, take-append-le, drop-append-le}
use Rattle.html5ever_interface.specs.Sink.{Means, Message, stepped, on_line}
use Rattle.html5ever_interface.specs.Token.{Told}
use Rattle.html5ever_interface.proofs.Steppings.{stepped-append}
use Rattle.html5ever_interface.specs.declared.states.AttrValueKind.{AttrValueKind}
use Rattle.html5ever_interface.specs.declared.states.AttrValueKind.TheVariants.{Unquoted, SingleQuoted, DoubleQuoted}
use Rattle.html5reading.specs.Characters.{ampersand, is_bad_character, is_white_space, greater_than, value_bytes}
use Rattle.html5reading.specs.ErrorText.{bad_character_error}
use Rattle.html5reading.specs.NormalisedText.{line_after}
use Rattle.html5grammar.specs.Spelled.{Spelled, spell_silent, spelled_messages}
use Rattle.html5reading.specs.Reading.Here.{Tells}
use Rattle.html5reading.specs.Reference.{Found, reference, characters_in, told_of, with_value}
use Rattle.html5reading.specs.Slice.{silent}
use Rattle.html5reading.specs.Start.{Input, OpenTag, Open, Rules, is_undecided_open}
use Rattle.html5reading.specs.Start.Place.{InValue}
use Rattle.html5reading.specs.Start.Stand.{InAttribute}
use Rattle.html5reading.specs.Start.Open.{InTag, InReference}
use Rattle.html5reading.specs.Tag.{quote_of, in_quoted, in_unquoted}
use Rattle.html5reading.proofs.InputLemmas.{line_past, line_after-past, line_after-lines_past}
use Rattle.html5grammar.proofs.Leading.{Leads, trace-leads, spelled_messages-append}
use Rattle.html5reading.specs.Machine.{brought_at, step_at, tag_step, quoted_step, unquoted_step}
use Rattle.html5grammar.proofs.Comment.Reading.{spelled-nothing}
use Rattle.html5grammar.proofs.Comment.Text.{bytes-append}
use Rattle.html5grammar.proofs.Goes.{characters, characters-append, characters-spell}
use Rattle.html5reading.proofs.Traces.{Trace, trace, trace_brought, trace_here, with_messages, brought-tells}
use Rattle.html5grammar.specs.Tag.{found_in, found_in_value, held_in, is_in_value, decoded, spell_run, value_error}
use Rattle.html5grammar.proofs.Reference.Anywhere.{is_held_character, held-good, DecidedIn, decided-by, taken-plain, trace-reference, is-line, lines-same}
use Rattle.html5grammar.proofs.Tag.Stops.{IsStop, some-decides, found-stop, taken-before}
use Rattle.markup5ever.specs.NamedReferences.{is_plain_name}

pub quote-stop : (kind : AttrValueKind) → IsStop (quote_of kind)
unfolding is_held_character
quote-stop Unquoted = record { other = refl; no_equals = refl }
quote-stop SingleQuoted = record { other = refl; no_equals = refl }
quote-stop DoubleQuoted = record { other = refl; no_equals = refl }

pub white-stop : (c : ℕ) → is_white_space c ≡ true → IsStop c
unfolding is_held_character is_white_space
white-stop c h = record { other = grind (arith, nat_tests); no_equals = grind (arith, nat_tests) }

pub both-none : (a b : Bool) → (a || b) ≡ false → (a ≡ false) × (b ≡ false)
both-none true b e = absurd (false≢true (sym e))
both-none false true e = absurd (false≢true (sym e))
both-none false false e = (refl, refl)

module _ {X S H : Type 0} (means : Means X S H) (rules : Rules) where
  -- before this text the characters tell what they spell, and lead on
  abbrev pub Passes : Open → List Spelled → Open → List ℕ → Type 0
  Passes opened cells later rest = (input : Input) (before : List ℕ) (s : S) (last : List ℕ)
      → trace means.step means.reply means.foreign rules s (line_after input before) last opened (characters cells ++ rest)
      ≡ with_messages (spelled_messages rules.exact input before cells)
      (trace means.step means.reply means.foreign rules (stepped means.step s (spelled_messages rules.exact input before cells)) (line_after input (before ++ characters cells)) last later rest)

  pub passes-leads : (opened later : Open) (cells : List Spelled) (rest : List ℕ) → Leads rules opened cells later → Passes opened cells later rest
  passes-leads opened later cells rest leads = λ input before s last. trace-leads means.step means.reply means.foreign rules input before s last opened later cells rest leads

  pub passes-one : (opened later : Open) (c : ℕ) (told : List Told) (rest : List ℕ) → is_undecided_open opened ≡ false → step_at rules.exact opened c ≡ Tells told later
      → Passes opened (record { character = c; told = told } ∷ []) later rest
  unfolding Leads
  passes-one opened later c told rest decided e = passes-leads opened later _ rest (later, λ answer. brought-tells rules answer opened c _ decided e, refl)

  pub passes-two : (s : S) (M N : List Message) (line : ℕ) (last : List ℕ) (opened : Open) (text : List ℕ)
      → with_messages M (with_messages N (trace means.step means.reply means.foreign rules (stepped means.step (stepped means.step s M) N) line last opened text))
      ≡ with_messages (M ++ N) (trace means.step means.reply means.foreign rules (stepped means.step s (M ++ N)) line last opened text)
  passes-two s M N line last opened text =
      let rest : Trace = trace means.step means.reply means.foreign rules (stepped means.step (stepped means.step s M) N) line last opened text in
      rw (stepped-append means.step s M N)
      (ap (λ l. record { messages = l; opened = rest.opened; last_start_tag = rest.last_start_tag }) (sym (append_assoc M N rest.messages)))

  -- what is spelled of two texts, one after the other
  pub passes-append : (a b c : Open) (xs ys : List Spelled) (rest : List ℕ) → Passes a xs b (characters ys ++ rest) → Passes b ys c rest → Passes a (xs ++ ys) c rest
  passes-append a b c xs ys rest f g = λ input before s last.
      let past : List ℕ = before ++ characters xs in
      let M : List Message = spelled_messages rules.exact input before xs in
      let N : List Message = spelled_messages rules.exact input past ys in
      ap (trace means.step means.reply means.foreign rules s (line_after input before) last a) (ap (λ l. l ++ rest) (characters-append xs ys) ∙ append_assoc (characters xs) (characters ys) rest)
      ∙ f input before s last
      ∙ ap (with_messages M) (g input past (stepped means.step s M) last)
      ∙ passes-two s M N (line_after input (past ++ characters ys)) last c rest
      ∙ ap (λ l. with_messages l (trace means.step means.reply means.foreign rules (stepped means.step s l) (line_after input (past ++ characters ys)) last c rest)) (sym (spelled_messages-append rules.exact input before xs ys))
      ∙ ap (λ l. with_messages (spelled_messages rules.exact input before (xs ++ ys)) (trace means.step means.reply means.foreign rules (stepped means.step s (spelled_messages rules.exact input before (xs ++ ys))) (line_after input l) last c rest))
      (append_assoc before (characters xs) (characters ys) ∙ ap (λ l. before ++ l) (sym (characters-append xs ys)))

  -- the opening of a reference in a value
  pub trace-ampersand_in : (kind : AttrValueKind) (tag : OpenTag) (s : S) (line : ℕ) (last F : List ℕ)
      → trace means.step means.reply means.foreign rules s line last (InTag (InValue kind) tag) (ampersand ∷ F) ≡ trace means.step means.reply means.foreign rules s (line_past line ampersand) last (InReference (InAttribute kind tag) []) F
  unfolding trace trace_brought trace_here brought_at step_at tag_step quoted_step unquoted_step in_quoted in_unquoted is_white_space stepped is_bad_character
  trace-ampersand_in Unquoted tag s line last F = rw (and-false rules.exact) refl
  trace-ampersand_in SingleQuoted tag s line last F = rw (and-false rules.exact) refl
  trace-ampersand_in DoubleQuoted tag s line last F = rw (and-false rules.exact) refl

  -- ---- runs

  spell-taken : (kind : AttrValueKind) (taken : ℕ) (run : List ℕ) → spell_run rules kind taken run ≡ spell_silent (take taken run) ++ spell_run rules kind zero (drop taken run)
  unfolding spell_run
  spell-taken kind zero [] = refl
  spell-taken kind (suc taken) [] = refl
  spell-taken kind zero (c ∷ run) = refl
  spell-taken kind (suc taken) (c ∷ run) = ap (λ l. record { character = c; told = [] } ∷ l) (spell-taken kind taken run)

  decoded-taken : (kind : AttrValueKind) (taken : ℕ) (run : List ℕ) → decoded rules kind taken run ≡ decoded rules kind zero (drop taken run)
  unfolding decoded
  decoded-taken kind zero [] = refl
  decoded-taken kind (suc taken) [] = refl
  decoded-taken kind zero (c ∷ run) = refl
  decoded-taken kind (suc taken) (c ∷ run) = decoded-taken kind taken run

  pub characters-run : (kind : AttrValueKind) (taken : ℕ) (run : List ℕ) → characters (spell_run rules kind taken run) ≡ run
  unfolding spell_run
  characters-run kind taken [] = refl
  characters-run kind (suc taken) (c ∷ run) = ap (λ l. c ∷ l) (characters-run kind taken run)
  characters-run kind zero (c ∷ run) =
      elim (c == ampersand) as (λ b. characters (if b then record { character = c; told = (found_in_value rules kind run).errors } ∷ spell_run rules kind (found_in_value rules kind run).taken run
      else record { character = c; told = value_error rules.exact kind c } ∷ spell_run rules kind zero run) ≡ c ∷ run) [
        | true ↦ ap (λ l. c ∷ l) (characters-run kind (found_in_value rules kind run).taken run)
        | false ↦ ap (λ l. c ∷ l) (characters-run kind zero run)
      ]

  pub with_value-two : (tag : OpenTag) (xs ys : List ℕ) → with_value (with_value tag xs) ys ≡ with_value tag (xs ++ ys)
  with_value-two tag xs ys =
      ap (λ value. record tag { last_value = value })
      (append_assoc tag.last_value (flat_map value_bytes xs) (flat_map value_bytes ys) ∙ ap (λ l. tag.last_value ++ l) (sym (bytes-append xs ys)))

  -- a character that is not a reference
  pub step-in_value : (kind : AttrValueKind) (tag : OpenTag) (c : ℕ) → is_in_value kind c ≡ true → (c == ampersand) ≡ false
      → step_at rules.exact (InTag (InValue kind) tag) c ≡ Tells (value_error rules.exact kind c) (InTag (InValue kind) (with_value tag (c ∷ [])))
  unfolding is_in_value step_at tag_step quoted_step unquoted_step in_quoted in_unquoted
  step-in_value Unquoted tag c h other =
      let p = both-none (is_white_space c) (c == greater_than) (not-true (is_white_space c || (c == greater_than)) h) in
      rw (p.0, p.1, other) refl
  step-in_value SingleQuoted tag c h other = rw (not-true (c == quote_of SingleQuoted) h, other) refl
  step-in_value DoubleQuoted tag c h other = rw (not-true (c == quote_of DoubleQuoted) h, other) refl

  pub good-ampersand : bad_character_error rules.exact ampersand ≡ []
  unfolding is_bad_character
  good-ampersand = rw (and-false rules.exact) refl

  pub messages-reference : (input : Input) (before run : List ℕ) (errors : List Told) → list_all is_held_character run ≡ true
      → spelled_messages rules.exact input before (record { character = ampersand; told = errors } ∷ spell_silent run) ≡ on_line (line_after input (before ++ ampersand ∷ [])) errors
  unfolding spelled_messages
  messages-reference input before run errors held =
      rw (good-ampersand, spelled-nothing rules.exact input silent (λ c g. refl) (before ++ ampersand ∷ []) run (held-good run held))
      (append-nil (on_line (line_after input (before ++ ampersand ∷ [])) errors))

  pub line-reference : (input : Input) (before run : List ℕ) → list_all is_held_character run ≡ true → line_after input (before ++ ampersand ∷ run) ≡ line_after input (before ++ ampersand ∷ [])
  line-reference input before run held =
      ap (line_after input) (sym (append_assoc before (ampersand ∷ []) run))
      ∙ line_after-lines_past input (before ++ ampersand ∷ []) run
      ∙ lines-same means rules (line_after input (before ++ ampersand ∷ [])) run (λ c h. is-line means rules input (before ++ ampersand ∷ []) c h) held

  -- in a value, an `&` and what it takes
  passes-reference_at : (kind : AttrValueKind) (tag : OpenTag) (run : List ℕ) (e : ℕ) (rest : List ℕ) → All (λ entry. IsTrue (is_plain_name entry.name)) rules.references
      → (found : Found) (d : DecidedIn means rules (run ++ e ∷ rest)) → reference rules true (held_in rules.references (run ++ e ∷ rest)) (Some d.c) ≡ found
      → found.taken ≤ length run → list_all is_held_character (take found.taken run) ≡ true
      → Passes (InTag (InValue kind) tag) (record { character = ampersand; told = found.errors } ∷ spell_silent (take found.taken run)) (InTag (InValue kind) (with_value tag (characters_in found))) (drop found.taken run ++ e ∷ rest)
  passes-reference_at kind tag run e rest plain found d found_is fewer held = λ input before s last.
      let F : List ℕ = run ++ e ∷ rest in
      let front : List ℕ = take found.taken run in
      let line : ℕ = line_after input (before ++ ampersand ∷ []) in
      let M : List Message = on_line line found.errors in
      let later : Open = InTag (InValue kind) (with_value tag (characters_in found)) in
      let cells : List Spelled = record { character = ampersand; told = found.errors } ∷ spell_silent front in
      let text : characters (spell_silent front) ++ (drop found.taken run ++ e ∷ rest) ≡ F =
      ap (λ l. l ++ (drop found.taken run ++ e ∷ rest)) (characters-spell silent front)
      ∙ sym (append_assoc front (drop found.taken run) (e ∷ rest)) ∙ ap (λ l. l ++ e ∷ rest) (take-append-drop found.taken run) in
      ap (λ l. trace means.step means.reply means.foreign rules s (line_after input before) last (InTag (InValue kind) tag) (ampersand ∷ l)) text
      ∙ trace-ampersand_in kind tag s (line_after input before) last F
      ∙ ap (λ n. trace means.step means.reply means.foreign rules s n last (InReference (InAttribute kind tag) []) F) (sym (line_after-past input before ampersand))
      ∙ trace-reference means rules (InAttribute kind tag) s line last F d.c d.more refl (λ c h. is-line means rules input (before ++ ampersand ∷ []) c h) plain d.next
      ∙ ap (λ f. with_messages (on_line line (told_of (InAttribute kind tag) f)) (trace means.step means.reply means.foreign rules (stepped means.step s (on_line line (told_of (InAttribute kind tag) f))) line last (InTag (InValue kind) (with_value tag (characters_in f))) (drop f.taken F))) found_is
      ∙ ap (λ l. with_messages (on_line line l) (trace means.step means.reply means.foreign rules (stepped means.step s (on_line line l)) line last later (drop found.taken F))) (append-nil found.errors)
      ∙ ap (λ l. with_messages M (trace means.step means.reply means.foreign rules (stepped means.step s M) line last later l)) (drop-append-le found.taken run (e ∷ rest) fewer)
      ∙ ap (λ l. with_messages l (trace means.step means.reply means.foreign rules (stepped means.step s l) line last later (drop found.taken run ++ e ∷ rest))) (sym (messages-reference input before front found.errors held))
      ∙ ap (λ n. with_messages (spelled_messages rules.exact input before cells) (trace means.step means.reply means.foreign rules (stepped means.step s (spelled_messages rules.exact input before cells)) n last later (drop found.taken run ++ e ∷ rest)))
      (sym (ap (λ l. line_after input (before ++ ampersand ∷ l)) (characters-spell silent front) ∙ line-reference input before front held))

  -- a reference in a value, which something else ends
  passes-reference : (kind : AttrValueKind) (tag : OpenTag) (run : List ℕ) (e : ℕ) (rest : List ℕ) → All (λ entry. IsTrue (is_plain_name entry.name)) rules.references → IsStop e → IsStop (quote_of kind)
      → let found : Found = found_in_value rules kind run in
      (found.taken ≤ length run)
      × Passes (InTag (InValue kind) tag) (record { character = ampersand; told = found.errors } ∷ spell_silent (take found.taken run)) (InTag (InValue kind) (with_value tag (characters_in found))) (drop found.taken run ++ e ∷ rest)
  passes-reference kind tag run e rest plain stop quote =
      let F : List ℕ = run ++ e ∷ rest in
      let found : Found = found_in_value rules kind run in
      let n : ℕ = found.taken in
      let same : found_in rules true F ≡ found = found-stop rules true run e (quote_of kind) rest plain stop quote in
      let d : DecidedIn means rules F = decided-by means rules F _ refl (some-decides rules.references plain e (quote_of kind) rest stop quote run) in
      let held : list_all is_held_character (take n F) ≡ true = ap (λ f. list_all is_held_character (take f.taken F)) (sym same) ∙ taken-plain means rules true F d plain in
      let fewer : n ≤ length run = taken-before n run e rest held stop.other in
      let held_run : list_all is_held_character (take n run) ≡ true = ap (list_all is_held_character) (sym (take-append-le n run (e ∷ rest) fewer)) ∙ held in
      let found_is : reference rules true (held_in rules.references F) (Some d.c) ≡ found = sym (ap (reference rules true (held_in rules.references F)) d.is) ∙ same in
      (fewer, λ input before s last. passes-reference_at kind tag run e rest plain found d found_is fewer held_run input before s last)

  -- the walk reads a run of a value as its spelled characters say
  passes-run : (n : ℕ) (kind : AttrValueKind) (tag : OpenTag) (run : List ℕ) (e : ℕ) (rest : List ℕ) → length run ≤ n → All (λ entry. IsTrue (is_plain_name entry.name)) rules.references → IsStop e → IsStop (quote_of kind)
      → list_all (is_in_value kind) run ≡ true
      → Passes (InTag (InValue kind) tag) (spell_run rules kind zero run) (InTag (InValue kind) (with_value tag (decoded rules kind zero run))) (e ∷ rest)
  unfolding spell_run decoded Leads
  passes-run n kind tag [] e rest within plain stop quote all =
      passes-leads (InTag (InValue kind) tag) (InTag (InValue kind) (with_value tag [])) [] (e ∷ rest) (ap (InTag (InValue kind)) (sym (with_value-nil tag)))
  passes-run zero kind tag (c ∷ run) e rest within plain stop quote all = absurd (omega (arith, within))
  passes-run (suc n) kind tag (c ∷ run) e rest within plain stop quote all =
      let p = and_parts (is_in_value kind c) (list_all (is_in_value kind) run) all in
      let fewer : length run ≤ n = omega (arith, within) in
      by p.0 p.1 (λ t r h g. passes-run n kind t r e rest h plain stop quote g) fewer (c == ampersand) refl
    where
      all-drop : (k : ℕ) (text : List ℕ) → list_all (is_in_value kind) text ≡ true → list_all (is_in_value kind) (drop k text) ≡ true
      all-drop zero text h = h
      all-drop (suc k) [] h = refl
      all-drop (suc k) (d ∷ text) h = all-drop k text (and_parts (is_in_value kind d) (list_all (is_in_value kind) text) h).1

      less-drop : (k : ℕ) (text : List ℕ) → length (drop k text) ≤ length text
      less-drop zero text = omega arith
      less-drop (suc k) [] = omega arith
      less-drop (suc k) (d ∷ text) = let less : length (drop k text) ≤ length text = less-drop k text in omega (arith, less)

      by : is_in_value kind c ≡ true → list_all (is_in_value kind) run ≡ true
          → ((t : OpenTag) (r : List ℕ) → length r ≤ n → list_all (is_in_value kind) r ≡ true → Passes (InTag (InValue kind) t) (spell_run rules kind zero r) (InTag (InValue kind) (with_value t (decoded rules kind zero r))) (e ∷ rest))
          → length run ≤ n → (b : Bool) → (c == ampersand) ≡ b
          → Passes (InTag (InValue kind) tag)
          (if b then record { character = c; told = (found_in_value rules kind run).errors } ∷ spell_run rules kind (found_in_value rules kind run).taken run
          else record { character = c; told = value_error rules.exact kind c } ∷ spell_run rules kind zero run)
          (InTag (InValue kind) (with_value tag (if b then characters_in (found_in_value rules kind run) ++ decoded rules kind (found_in_value rules kind run).taken run
          else c ∷ decoded rules kind zero run))) (e ∷ rest)
      by here more further fewer true same =
          let found : Found = found_in_value rules kind run in
          let later : List ℕ = drop found.taken run in
          let one = passes-reference kind tag run e rest plain stop quote in
          let less : length later ≤ length run = less-drop found.taken run in
          let named : OpenTag = with_value tag (characters_in found) in
          let cell : Spelled = record { character = ampersand; told = found.errors } in
          subst (λ x. Passes (InTag (InValue kind) tag) (record { character = x; told = found.errors } ∷ spell_run rules kind found.taken run) (InTag (InValue kind) (with_value tag (characters_in found ++ decoded rules kind found.taken run))) (e ∷ rest)) (sym (eqb-true c ampersand same))
          (subst (λ cells. Passes (InTag (InValue kind) tag) (cell ∷ cells) (InTag (InValue kind) (with_value tag (characters_in found ++ decoded rules kind found.taken run))) (e ∷ rest)) (sym (spell-taken kind found.taken run))
          (subst (λ t. Passes (InTag (InValue kind) tag) ((cell ∷ spell_silent (take found.taken run)) ++ spell_run rules kind zero later) (InTag (InValue kind) t) (e ∷ rest))
          (with_value-two tag (characters_in found) (decoded rules kind zero later) ∙ ap (λ l. with_value tag (characters_in found ++ l)) (sym (decoded-taken kind found.taken run)))
          (passes-append (InTag (InValue kind) tag) (InTag (InValue kind) named) (InTag (InValue kind) (with_value named (decoded rules kind zero later))) (cell ∷ spell_silent (take found.taken run)) (spell_run rules kind zero later) (e ∷ rest)
          (subst (λ l. Passes (InTag (InValue kind) tag) (cell ∷ spell_silent (take found.taken run)) (InTag (InValue kind) named) (l ++ e ∷ rest)) (sym (characters-run kind zero later)) one.1)
          (further named later (omega (arith, less, fewer)) (all-drop found.taken run more)))))
      by here more further fewer false other =
          let named : OpenTag = with_value tag (c ∷ []) in
          subst (λ t. Passes (InTag (InValue kind) tag) (record { character = c; told = value_error rules.exact kind c } ∷ spell_run rules kind zero run) (InTag (InValue kind) t) (e ∷ rest))
          (with_value-two tag (c ∷ []) (decoded rules kind zero run))
          (passes-append (InTag (InValue kind) tag) (InTag (InValue kind) named) (InTag (InValue kind) (with_value named (decoded rules kind zero run))) (record { character = c; told = value_error rules.exact kind c } ∷ []) (spell_run rules kind zero run) (e ∷ rest)
          (passes-one (InTag (InValue kind) tag) (InTag (InValue kind) named) c (value_error rules.exact kind c) (characters (spell_run rules kind zero run) ++ e ∷ rest) refl (step-in_value kind tag c here other))
          (further named run fewer more))

  pub passes-value_run : (kind : AttrValueKind) (tag : OpenTag) (run : List ℕ) (e : ℕ) (rest : List ℕ) → All (λ entry. IsTrue (is_plain_name entry.name)) rules.references → IsStop e
      → list_all (is_in_value kind) run ≡ true
      → Passes (InTag (InValue kind) tag) (spell_run rules kind zero run) (InTag (InValue kind) (with_value tag (decoded rules kind zero run))) (e ∷ rest)
  passes-value_run kind tag run e rest plain stop all = passes-run (length run) kind tag run e rest (omega arith) plain stop (quote-stop kind) all
