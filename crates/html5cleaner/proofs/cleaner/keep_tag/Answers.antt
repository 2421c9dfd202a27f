use Rattle.std.proofs.Common.{◌≡◌, ℕ, List, ◌++◌, chars, map, false, ap, sym, ◌∙◌}
use Rattle.markup5ever.specs.Names.{attribute_of}
use Rattle.html5policy.specs.Policy.{PolicyOf}
use Rattle.html5write.specs.Pieces.{NameAndValue}
use Rattle.html5write.specs.Writing as writing
use Rattle.html5cleaner.specs.Balance.{all_balanced, all_open_after}
use Rattle.html5cleaner.specs.Clean.{attribute_chars, kept_attributes, kept_of_run}
use Rattle.html5cleaner.proofs.KeepsLemmas.{keeps-plain, keeps-same}
use Rattle.html5cleaner.proofs.WrittenRuns.{open-by_rule, open-plain, written-by_rule, written-plain}
use Rattle.html5cleaner.proofs.cleaner.keep_tag.Goals as goal

attributes-same : (policy : PolicyOf) (a b : List ℕ) (x y : List NameAndValue) → a ≡ b → x ≡ y → kept_attributes policy a x ≡ kept_attributes policy b y
attributes-same policy a b x y element same = ap (λ e. kept_attributes policy e x) element ∙ ap (kept_attributes policy b) same

pub kept_tag-tag-requires : goal.kept_tag-tag-requires
kept_tag-tag-requires g c =
    ap (map writing.attribute_of) c.deref-3.ensures.value ∙ c.in_ok-attributes.ensures
    ∙ attributes-same c.args.policy.now _ _ _ _ (ap chars c.deref.ensures) (ap (λ l. map attribute_chars (map attribute_of l)) c.deref-2.ensures.value)

pub returns-then-balances : goal.returns-then-balances
returns-then-balances g c =
    let balance = c.args.policy.now.balance in
    let opened = c.args.opened.now in
    let tag = c.kept_tag-tag.ensures in
    let is = sym c.balances.ensures ∙ c.if-balances.true in
    keeps-same c.write_balanced.result c.args.page.now c.write_balanced.new.page opened c.write_balanced.new.opened _ _ _ _
    (ap (λ l. all_balanced opened (kept_of_run c.args.run.now ++ l)) tag ∙ sym (written-by_rule balance opened _ is))
    (ap (λ l. all_open_after opened (kept_of_run c.args.run.now ++ l)) tag ∙ sym (open-by_rule balance opened _ is))
    c.write_balanced.ensures

pub returns : goal.returns
returns g c =
    let balance = c.args.policy.now.balance in
    let opened = c.args.opened.now in
    let tag = c.kept_tag-tag.ensures in
    let is = sym c.balances.ensures ∙ c.if-balances.false in
    keeps-same c.write_plain.result c.args.page.now c.write_plain.new.page opened opened _ _ _ _
    (ap (λ l. kept_of_run c.args.run.now ++ l) tag ∙ sym (written-plain balance false opened _ is))
    (sym (open-plain balance false opened _ is))
    (keeps-plain c.write_plain.result c.args.page.now c.write_plain.new.page opened _ c.write_plain.ensures.written c.write_plain.ensures.unchanged c.write_plain.ensures.change)
