-- Each answer follows one word to the settings that it says. The tactic doesn't unfold a list of words by one.
use Rattle.html5table.specs.Listed.{entries_in, listed}
use Rattle.html5cli.specs.Settings.{SettingsOf, said_by, unsaid, with_state, with_last, with_cut, with_table, state_said, cut_said, said_after, settings_said}
use Rattle.html5cli.proofs.SettingsLemmas.{some_from, none_from, some-entries, exact_said, keep_bom_said, foreign_said, state_word, last_word, cut_word, table_word, read-flag, read-unknown, read-no_value, read-value, read-bad_value, read-end}
use Rattle.std.specs.Option.{option_map}
use Rattle.std.specs.Prelude.{IsSome, codes}
use Rattle.std.specs.Slice.Iter.{iter_rest}
use Rattle.std.proofs.Common.{◌≡◌, None, Some, map, string_bytes, sym, ap, ◌∙◌, arith, rules}
use Rattle.std.proofs.lemmas.List.{nil_from_length}
use Rattle.html5cli.proofs.arguments.settings_of.Goals as goal

pub loop-word-init : goal.loop-word-init
unfolding settings_said
loop-word-init g c =
    let said : said_by c.unsaid-settings.result ≡ unsaid = c.unsaid-settings.ensures.said in (
      rw (ap (λ (s : SettingsOf). s.cut) said) (omega arith),
      rw (ap (λ (s : SettingsOf). s.opts.initial_state) said) tt,
      c.unsaid-settings.ensures.table,
      rw said (ap (λ l. said_after unsaid (map string_bytes l)) c.iter-words.ensures.rest),
    )

pub loop-word-preserved-then-str_eq : goal.loop-word-preserved-then-str_eq
loop-word-preserved-then-str_eq g c =
    (c.loop-word.invariant.0, c.loop-word.invariant.1, c.loop-word.invariant.2, read-flag (said_by c.loop-word.settings) (iter_rest c.loop-word.words) (iter_rest c.next.new.self) c.in-Some.word.now _ c.loop-word.invariant.3 c.in-Some.ensures.steps (codes "--exact") _ (sym c.as_str.ensures.value ∙ c.in-text.is) (exact_said (said_by c.loop-word.settings)))

pub loop-word-preserved-then-str_eq-2 : goal.loop-word-preserved-then-str_eq-2
loop-word-preserved-then-str_eq-2 g c =
    (c.loop-word.invariant.0, c.loop-word.invariant.1, c.loop-word.invariant.2, read-flag (said_by c.loop-word.settings) (iter_rest c.loop-word.words) (iter_rest c.next.new.self) c.in-Some.word.now _ c.loop-word.invariant.3 c.in-Some.ensures.steps (codes "--keep-bom") _ (sym c.as_str.ensures.value ∙ c.in-text-2.is) (keep_bom_said (said_by c.loop-word.settings)))

pub loop-word-preserved-then-str_eq-3 : goal.loop-word-preserved-then-str_eq-3
loop-word-preserved-then-str_eq-3 g c =
    (c.loop-word.invariant.0, c.loop-word.invariant.1, c.loop-word.invariant.2, read-flag (said_by c.loop-word.settings) (iter_rest c.loop-word.words) (iter_rest c.next.new.self) c.in-Some.word.now _ c.loop-word.invariant.3 c.in-Some.ensures.steps (codes "--foreign") _ (sym c.as_str.ensures.value ∙ c.in-text-3.is) (foreign_said (said_by c.loop-word.settings)))

pub returns-in_err-next-in-text-4-clause-said : goal.returns-in_err-next-in-text-4-clause-said
returns-in_err-next-in-text-4-clause-said g c =
    let none : c.from_residual.result ≡ None = search rules in
    ap (option_map said_by) none ∙ read-no_value (said_by c.loop-word.settings) (iter_rest c.loop-word.words) (iter_rest c.next.new.self) c.in-Some.word.now _ c.loop-word.invariant.3 c.in-Some.ensures.steps (codes "--state") (sym c.as_str.ensures.value ∙ c.in-text-4.is) (state_word (said_by c.loop-word.settings)).0 (nil_from_length (iter_rest c.next.new.self) c.in_err-next-in-text-4.ensures.steps.0)

pub returns-in_err-state_of-in-text-4-clause-said : goal.returns-in_err-state_of-in-text-4-clause-said
returns-in_err-state_of-in-text-4-clause-said g c =
    let none : c.from_residual-in_err-state_of-in-text-4.result ≡ None = search rules in
    ap (option_map said_by) none ∙ read-bad_value (said_by c.loop-word.settings) (iter_rest c.loop-word.words) (iter_rest c.next.new.self) c.in-Some.word.now _ c.loop-word.invariant.3 c.in-Some.ensures.steps (iter_rest c.next-in-text-4.new.self) c.in_ok-next-in-text-4.field-0.now c.in_ok-next-in-text-4.ensures.steps (codes "--state") (sym c.as_str.ensures.value ∙ c.in-text-4.is) (state_word (said_by c.loop-word.settings)).0 ((state_word (said_by c.loop-word.settings)).1 (string_bytes c.in_ok-next-in-text-4.field-0.now) ∙ ap (option_map (with_state (said_by c.loop-word.settings))) (ap state_said (sym c.deref.ensures) ∙ sym c.state_of.ensures.said ∙ c.in_err-state_of-in-text-4.was))

pub loop-word-preserved-then-str_eq-4 : goal.loop-word-preserved-then-str_eq-4
loop-word-preserved-then-str_eq-4 g c =
    (c.loop-word.invariant.0, rw c.in_ok-state_of-in-text-4.was at c.state_of.ensures.state, c.loop-word.invariant.2, read-value (said_by c.loop-word.settings) (iter_rest c.loop-word.words) (iter_rest c.next.new.self) c.in-Some.word.now _ c.loop-word.invariant.3 c.in-Some.ensures.steps (iter_rest c.next-in-text-4.new.self) c.in_ok-next-in-text-4.field-0.now c.in_ok-next-in-text-4.ensures.steps (codes "--state") (sym c.as_str.ensures.value ∙ c.in-text-4.is) (state_word (said_by c.loop-word.settings)).0 (with_state (said_by c.loop-word.settings) c.in_ok-state_of-in-text-4.field-0) ((state_word (said_by c.loop-word.settings)).1 (string_bytes c.in_ok-next-in-text-4.field-0.now) ∙ ap (option_map (with_state (said_by c.loop-word.settings))) (ap state_said (sym c.deref.ensures) ∙ sym c.state_of.ensures.said ∙ c.in_ok-state_of-in-text-4.was)))

pub returns-in_err-next-in-text-5-clause-said : goal.returns-in_err-next-in-text-5-clause-said
returns-in_err-next-in-text-5-clause-said g c =
    let none : c.from_residual-in_err-next-in-text-5.result ≡ None = search rules in
    ap (option_map said_by) none ∙ read-no_value (said_by c.loop-word.settings) (iter_rest c.loop-word.words) (iter_rest c.next.new.self) c.in-Some.word.now _ c.loop-word.invariant.3 c.in-Some.ensures.steps (codes "--last") (sym c.as_str.ensures.value ∙ c.in-text-5.is) (last_word (said_by c.loop-word.settings)).0 (nil_from_length (iter_rest c.next.new.self) c.in_err-next-in-text-5.ensures.steps.0)

pub loop-word-preserved-then-str_eq-5 : goal.loop-word-preserved-then-str_eq-5
loop-word-preserved-then-str_eq-5 g c =
    (c.loop-word.invariant.0, c.loop-word.invariant.1, c.loop-word.invariant.2, read-value (said_by c.loop-word.settings) (iter_rest c.loop-word.words) (iter_rest c.next.new.self) c.in-Some.word.now _ c.loop-word.invariant.3 c.in-Some.ensures.steps (iter_rest c.next-in-text-5.new.self) c.in_ok-next-in-text-5.field-0.now c.in_ok-next-in-text-5.ensures.steps (codes "--last") (sym c.as_str.ensures.value ∙ c.in-text-5.is) (last_word (said_by c.loop-word.settings)).0 (with_last (said_by c.loop-word.settings) c.deref-in_ok-next-in-text-5.result.now) ((last_word (said_by c.loop-word.settings)).1 (string_bytes c.in_ok-next-in-text-5.field-0.now) ∙ ap (λ v. Some (with_last (said_by c.loop-word.settings) v)) (sym c.deref-in_ok-next-in-text-5.ensures)))

pub returns-in_err-next-in-text-6-clause-said : goal.returns-in_err-next-in-text-6-clause-said
returns-in_err-next-in-text-6-clause-said g c =
    let none : c.from_residual-in_err-next-in-text-6.result ≡ None = search rules in
    ap (option_map said_by) none ∙ read-no_value (said_by c.loop-word.settings) (iter_rest c.loop-word.words) (iter_rest c.next.new.self) c.in-Some.word.now _ c.loop-word.invariant.3 c.in-Some.ensures.steps (codes "--cut") (sym c.as_str.ensures.value ∙ c.in-text-6.is) (cut_word (said_by c.loop-word.settings)).0 (nil_from_length (iter_rest c.next.new.self) c.in_err-next-in-text-6.ensures.steps.0)

pub returns-in_err-settings-in-text-6-clause-said : goal.returns-in_err-settings-in-text-6-clause-said
returns-in_err-settings-in-text-6-clause-said g c =
    let none : c.from_residual-in_err-settings-in-text-6.result ≡ None = search rules in
    ap (option_map said_by) none ∙ read-bad_value (said_by c.loop-word.settings) (iter_rest c.loop-word.words) (iter_rest c.next.new.self) c.in-Some.word.now _ c.loop-word.invariant.3 c.in-Some.ensures.steps (iter_rest c.next-in-text-6.new.self) c.in_ok-next-in-text-6.field-0.now c.in_ok-next-in-text-6.ensures.steps (codes "--cut") (sym c.as_str.ensures.value ∙ c.in-text-6.is) (cut_word (said_by c.loop-word.settings)).0 ((cut_word (said_by c.loop-word.settings)).1 (string_bytes c.in_ok-next-in-text-6.field-0.now) ∙ ap (option_map (with_cut (said_by c.loop-word.settings))) (ap cut_said (sym c.deref-in_ok-next-in-text-6.ensures) ∙ sym c.cut_of.ensures.said ∙ c.in_err-settings-in-text-6.was))

pub loop-word-preserved-then-str_eq-6 : goal.loop-word-preserved-then-str_eq-6
loop-word-preserved-then-str_eq-6 g c =
    (search rules, c.loop-word.invariant.1, c.loop-word.invariant.2, read-value (said_by c.loop-word.settings) (iter_rest c.loop-word.words) (iter_rest c.next.new.self) c.in-Some.word.now _ c.loop-word.invariant.3 c.in-Some.ensures.steps (iter_rest c.next-in-text-6.new.self) c.in_ok-next-in-text-6.field-0.now c.in_ok-next-in-text-6.ensures.steps (codes "--cut") (sym c.as_str.ensures.value ∙ c.in-text-6.is) (cut_word (said_by c.loop-word.settings)).0 (with_cut (said_by c.loop-word.settings) c.in_ok-settings-in-text-6.field-0) ((cut_word (said_by c.loop-word.settings)).1 (string_bytes c.in_ok-next-in-text-6.field-0.now) ∙ ap (option_map (with_cut (said_by c.loop-word.settings))) (ap cut_said (sym c.deref-in_ok-next-in-text-6.ensures) ∙ sym c.cut_of.ensures.said ∙ c.in_ok-settings-in-text-6.was)))

pub returns-in_err-next-in-text-7-clause-said : goal.returns-in_err-next-in-text-7-clause-said
returns-in_err-next-in-text-7-clause-said g c =
    let none : c.from_residual-in_err-next-in-text-7.result ≡ None = search rules in
    ap (option_map said_by) none ∙ read-no_value (said_by c.loop-word.settings) (iter_rest c.loop-word.words) (iter_rest c.next.new.self) c.in-Some.word.now _ c.loop-word.invariant.3 c.in-Some.ensures.steps (codes "--table") (sym c.as_str.ensures.value ∙ c.in-text-7.is) (table_word (said_by c.loop-word.settings)).0 (nil_from_length (iter_rest c.next.new.self) c.in_err-next-in-text-7.ensures.steps.0)

pub returns-in_err-settings-in-text-7-clause-said : goal.returns-in_err-settings-in-text-7-clause-said
returns-in_err-settings-in-text-7-clause-said g c =
    let none : c.from_residual-in_err-settings-in-text-7.result ≡ None = search rules in
    ap (option_map said_by) none ∙ read-bad_value (said_by c.loop-word.settings) (iter_rest c.loop-word.words) (iter_rest c.next.new.self) c.in-Some.word.now _ c.loop-word.invariant.3 c.in-Some.ensures.steps (iter_rest c.next-in-text-7.new.self) c.in_ok-next-in-text-7.field-0.now c.in_ok-next-in-text-7.ensures.steps (codes "--table") (sym c.as_str.ensures.value ∙ c.in-text-7.is) (table_word (said_by c.loop-word.settings)).0 ((table_word (said_by c.loop-word.settings)).1 (string_bytes c.in_ok-next-in-text-7.field-0.now) ∙ ap (option_map (with_table (said_by c.loop-word.settings))) (ap listed (sym c.deref-in_ok-next-in-text-7.ensures) ∙ none_from _ c.list_of.ensures.form c.in_err-settings-in-text-7.was))

pub loop-word-preserved : goal.loop-word-preserved
loop-word-preserved g c =
    let form : IsSome (listed c.deref-in_ok-next-in-text-7.result.now) = some_from _ c.list_of.ensures.form c.in_ok-settings-in-text-7.was in
    let same : c.in_ok-settings-in-text-7.field-0.now ≡ c.deref-in_ok-next-in-text-7.result.now = c.in_ok-settings-in-text-7.ensures.said in
    let own : IsSome (listed c.in_ok-settings-in-text-7.field-0.now) = rw same form in
    let entries : listed (string_bytes c.in_ok-next-in-text-7.field-0.now) ≡ Some (entries_in c.in_ok-settings-in-text-7.field-0.now) =
    ap listed (sym (same ∙ c.deref-in_ok-next-in-text-7.ensures)) ∙ some-entries (listed c.in_ok-settings-in-text-7.field-0.now) own in
    (c.loop-word.invariant.0, c.loop-word.invariant.1, own, read-value (said_by c.loop-word.settings) (iter_rest c.loop-word.words) (iter_rest c.next.new.self) c.in-Some.word.now _ c.loop-word.invariant.3 c.in-Some.ensures.steps (iter_rest c.next-in-text-7.new.self) c.in_ok-next-in-text-7.field-0.now c.in_ok-next-in-text-7.ensures.steps (codes "--table") (sym c.as_str.ensures.value ∙ c.in-text-7.is) (table_word (said_by c.loop-word.settings)).0 (with_table (said_by c.loop-word.settings) (entries_in c.in_ok-settings-in-text-7.field-0.now)) ((table_word (said_by c.loop-word.settings)).1 (string_bytes c.in_ok-next-in-text-7.field-0.now) ∙ ap (option_map (with_table (said_by c.loop-word.settings))) entries))

pub returns-in_default-as_str-clause-said : goal.returns-in_default-as_str-clause-said
returns-in_default-as_str-clause-said g c =
    read-unknown (said_by c.loop-word.settings) (iter_rest c.loop-word.words) (iter_rest c.next.new.self) c.in-Some.word.now _ c.loop-word.invariant.3 c.in-Some.ensures.steps (record {
      no_exact = λ e. c.in_default-as_str.not-text (c.as_str.ensures.value ∙ e);
      no_keep_bom = λ e. c.in_default-as_str.not-text-2 (c.as_str.ensures.value ∙ e);
      no_foreign = λ e. c.in_default-as_str.not-text-3 (c.as_str.ensures.value ∙ e);
      no_state = λ e. c.in_default-as_str.not-text-4 (c.as_str.ensures.value ∙ e);
      no_last = λ e. c.in_default-as_str.not-text-5 (c.as_str.ensures.value ∙ e);
      no_cut = λ e. c.in_default-as_str.not-text-6 (c.as_str.ensures.value ∙ e);
      no_table = λ e. c.in_default-as_str.not-text-7 (c.as_str.ensures.value ∙ e);
    })

pub returns-clause-said : goal.returns-clause-said
returns-clause-said g c =
    read-end (said_by c.loop-word.settings) (iter_rest c.loop-word.words) _ c.loop-word.invariant.3 (nil_from_length (iter_rest c.loop-word.words) c.in_default.ensures.steps.0)
