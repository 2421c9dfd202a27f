-- A run of characters of one class is processed as its first character is.
use Rattle.std.specs.Prelude.{ℕ, zero, suc, Bool, true, false, List, [], ◌∷◌, ◌+◌, ◌<◌, ◌≤◌, length, map, Option, None, Some, if◌then◌else◌}
use Rattle.std.specs.List.{list_all}
use Rattle.std.proofs.Common.{◌≡◌, refl, ap, arith, subst, sym, ◌∙◌}
use Rattle.std.proofs.lemmas.Bool.{and_parts}
use Rattle.std.proofs.lemmas.List.Elements.{All-head, All-tail}
use Rattle.tree_construction.specs.declared.kinds.Kind.{Kind}
use Rattle.tree_construction.specs.declared.kinds.Kind.TheVariants.{Anchor, Font, Formatting, NoBreak}
use Rattle.tree_construction.specs.declared.modes.Mode.{Mode}
use Rattle.tree_construction.specs.declared.modes.Mode.TheVariants.{Initial, BeforeHtml, BeforeHead, InHead, InHeadNoscript, AfterHead, InBody, Text, InTable, InTableText, InCaption, InColumnGroup, InTableBody, InRow, InCell, InTemplate, AfterBody, InFrameset, AfterFrameset, AfterAfterBody, AfterAfterFrameset}
use Rattle.tree_construction.specs.Construction.{dispatched, enough, is_ignored_newline, process, run, step}
use Rattle.tree_construction.specs.Formatting.{Listed, reconstructed, reopened, reopened_one, still_listed, to_reopen}
use Rattle.tree_construction.specs.Names.{is_column_group, is_fostering, namespace_of, takes_table_text}
use Rattle.tree_construction.specs.Page.{Open, Page, Place, made}
use Rattle.tree_construction.specs.Parser.{Again, Context, Options, Parser, adjusted_kind, associated_with, place_of, takes_form, insert_character, is_current, not_frameset_ok, unexpected}
use Rattle.tree_construction.specs.Tokens.Token.{Character}
use Rattle.tree_builder.specs.Built.{unfostered}
use Rattle.tree_builder.specs.Characters.{AllOf, IsOf, action_in, action_of, acted, acted_all, fostering, foreign_action, fresh, has_root, html_action, is_done, is_formatting_element, is_formatting_kind, TakesRun, is_reopening, moved_on, takes_characters}
use Rattle.tree_builder.specs.declared.characters.TextClass.{TextClass}
use Rattle.tree_builder.specs.declared.characters.TextClass.TheVariants.{Null, Space, Other}
use Rattle.tree_builder.specs.declared.characters.TextAction.{TextAction}
use Rattle.tree_builder.specs.declared.characters.TextAction.TheVariants.{Ignore, Refuse, Insert, InsertInBody, Collect, Foster, Replace, InsertForeign, Reprocess}
use Rattle.tree_builder.proofs.CharacterRows.{moved-clean, moved-lower, rank, row-acts, row-again}
use Rattle.tree_builder.proofs.RunActions.{IsStill, still-after, still-is}

-- ---- the action is the same for each byte

-- whether active formatting elements are reconstructed before such a character
abbrev reconstructs : TextClass → TextAction → Bool
reconstructs Null action = false
reconstructs class action = is_reopening action

-- then all are open
abbrev StillFor : TextClass → TextAction → Parser → Type 0
StillFor class action p = reconstructs class action ≡ true → IsStill p

-- the action leaves what decides about the next byte
record IsSteady (class : TextClass) (action : TextAction) (p : Parser) : Type 0 where
  same : action_of class p ≡ action
  clean : fresh p ≡ p
  still : StillFor class action p

in-body-still : (class : TextClass) (c : ℕ) (p : Parser) → IsOf class c → IsSteady class InsertInBody p
    → IsSteady class InsertInBody (acted InsertInBody c p)
in-body-still Null c p is steady =
    rw (is.null) (record { same = steady.same; clean = ap unexpected steady.clean; still = steady.still })
in-body-still Space c p is steady =
    rw (is.null, is.space, still-is p (steady.still refl))
    (record { same = steady.same; clean = ap (insert_character c) steady.clean; still = steady.still })
in-body-still Other c p is steady =
    rw (is.null, is.space, still-is p (steady.still refl))
    (record { same = steady.same; clean = ap (λ q. not_frameset_ok (insert_character c q)) steady.clean; still = steady.still })

foster-still : (class : TextClass) (c : ℕ) (p : Parser) → IsOf class c → IsSteady class Foster p → IsSteady class Foster (acted Foster c p)
foster-still Null c p is steady =
    rw (is.null)
    (record { same = steady.same; clean = ap (λ q. unfostered (unexpected (fostering (unexpected q)))) steady.clean; still = steady.still })
foster-still Space c p is steady =
    rw (is.null, is.space, still-is (fostering (unexpected p)) (steady.still refl))
    (record {
      same = steady.same;
      clean = ap (λ q. unfostered (insert_character c (fostering (unexpected q)))) steady.clean;
      still = steady.still;
    })
foster-still Other c p is steady =
    rw (is.null, is.space, still-is (fostering (unexpected p)) (steady.still refl))
    (record {
      same = steady.same;
      clean = ap (λ q. unfostered (not_frameset_ok (insert_character c (fostering (unexpected q))))) steady.clean;
      still = steady.still;
    })

none-reconstructs : (class : TextClass) (action : TextAction) → is_reopening action ≡ false → reconstructs class action ≡ false
none-reconstructs Null action none = refl
none-reconstructs Space action none = none
none-reconstructs Other action none = none

none-still : (class : TextClass) (action : TextAction) → is_reopening action ≡ false → (p : Parser) → StillFor class action p
none-still class action none p r =
    let never : reconstructs class action ≡ false = none-reconstructs class action none in
    cc

stays-steady : (class : TextClass) (action : TextAction) (c : ℕ) (p : Parser) → is_done action ≡ true → IsOf class c → IsSteady class action p
    → IsSteady class action (acted action c p)
stays-steady class Ignore c p done is steady = steady
stays-steady class Refuse c p done is steady =
    record { same = steady.same; clean = ap (acted Refuse c) steady.clean; still = none-still class Refuse refl (acted Refuse c p) }
stays-steady class Insert c p done is steady =
    record { same = steady.same; clean = ap (acted Insert c) steady.clean; still = none-still class Insert refl (acted Insert c p) }
stays-steady class InsertInBody c p done is steady = in-body-still class c p is steady
stays-steady class Collect c p done is steady =
    record { same = steady.same; clean = ap (acted Collect c) steady.clean; still = none-still class Collect refl (acted Collect c p) }
stays-steady class Foster c p done is steady = foster-still class c p is steady
stays-steady class Replace c p done is steady =
    record { same = steady.same; clean = ap (acted Replace c) steady.clean; still = none-still class Replace refl (acted Replace c p) }
stays-steady class InsertForeign c p done is steady =
    record { same = steady.same; clean = ap (acted InsertForeign c) steady.clean; still = none-still class InsertForeign refl (acted InsertForeign c p) }
stays-steady class Reprocess c p done is steady = cc

-- ---- the first byte: elements may be opened again

absurd-reprocess : {X : Type 0} (action : TextAction) → is_reopening action ≡ true → Reprocess ≡ action → X
absurd-reprocess action reopens e =
    let never : is_reopening Reprocess ≡ true = ap is_reopening e ∙ reopens in
    cc

-- an action that reconstructs does so by the mode alone
by-mode : (class : TextClass) (mode : Mode) (t g : Bool) (action : TextAction) → is_reopening action ≡ true
    → html_action class mode t g ≡ action → html_action class mode false false ≡ action
by-mode class Initial t g action reopens e = e
by-mode class BeforeHtml t g action reopens e = e
by-mode class BeforeHead t g action reopens e = e
by-mode class InHead t g action reopens e = e
by-mode class InHeadNoscript t g action reopens e = e
by-mode class AfterHead t g action reopens e = e
by-mode class InBody t g action reopens e = e
by-mode class Text t g action reopens e = e
by-mode class InTable true g action reopens e = absurd-reprocess action reopens e
by-mode class InTable false g action reopens e = e
by-mode class InTableText t g action reopens e = e
by-mode class InCaption t g action reopens e = e
by-mode Space InColumnGroup t g action reopens e = e
by-mode Null InColumnGroup t true action reopens e = absurd-reprocess action reopens e
by-mode Null InColumnGroup t false action reopens e = e
by-mode Other InColumnGroup t true action reopens e = absurd-reprocess action reopens e
by-mode Other InColumnGroup t false action reopens e = e
by-mode class InTableBody true g action reopens e = absurd-reprocess action reopens e
by-mode class InTableBody false g action reopens e = e
by-mode class InRow true g action reopens e = absurd-reprocess action reopens e
by-mode class InRow false g action reopens e = e
by-mode class InCell t g action reopens e = e
by-mode class InTemplate t g action reopens e = e
by-mode class AfterBody t g action reopens e = e
by-mode class InFrameset t g action reopens e = e
by-mode class AfterFrameset t g action reopens e = e
by-mode class AfterAfterBody t g action reopens e = e
by-mode class AfterAfterFrameset t g action reopens e = e

foreign-none : (class : TextClass) → is_reopening (foreign_action class) ≡ false
foreign-none Null = refl
foreign-none Space = refl
foreign-none Other = refl

-- the kind of a formatting element
formatting-html : (kind : Kind) → is_formatting_kind kind ≡ true → takes_characters kind ≡ true
unfolding namespace_of
formatting-html Anchor is = refl
formatting-html Font is = refl
formatting-html Formatting is = refl
formatting-html NoBreak is = refl
formatting-html other is = cc

formatting-text : (kind : Kind) → is_formatting_kind kind ≡ true → takes_table_text kind ≡ false
unfolding is_fostering
formatting-text Anchor is = refl
formatting-text Font is = refl
formatting-text Formatting is = refl
formatting-text NoBreak is = refl
formatting-text other is = cc

formatting-group : (kind : Kind) → is_formatting_kind kind ≡ true → is_column_group kind ≡ false
formatting-group Anchor is = refl
formatting-group Font is = refl
formatting-group Formatting is = refl
formatting-group NoBreak is = refl
formatting-group other is = cc

in-html : (class : TextClass) (action : TextAction) (p : Parser) → is_reopening action ≡ true → action_of class p ≡ action
    → html_action class p.mode (is_current takes_table_text p) (is_current is_column_group p) ≡ action
in-html class action p reopens same = by (takes_characters (adjusted_kind p.options.context p.page.opened)) refl
  where
    by : (html : Bool) → takes_characters (adjusted_kind p.options.context p.page.opened) ≡ html
        → html_action class p.mode (is_current takes_table_text p) (is_current is_column_group p) ≡ action
    by true e = rw e at same
    by false e =
        let foreign : foreign_action class ≡ action = rw e at same in
        let never : is_reopening (foreign_action class) ≡ false = foreign-none class in
        let yes : is_reopening (foreign_action class) ≡ true = ap is_reopening foreign ∙ reopens in
        cc

-- what elements that are opened again leave
reopened-options : (es : List Listed) (p : Parser) → (reopened es p).options ≡ p.options
unfolding reopened
reopened-options [] p = refl
reopened-options (e ∷ es) p = reopened-options es p

reopened-mode : (es : List Listed) (p : Parser) → (reopened es p).mode ≡ p.mode
unfolding reopened
reopened-mode [] p = refl
reopened-mode (e ∷ es) p = reopened-mode es p

reopened-fresh : (es : List Listed) (p : Parser) → fresh (reopened es p) ≡ reopened es (fresh p)
unfolding reopened
reopened-fresh [] p = refl
reopened-fresh (e ∷ es) p = ap (reopened_one e) (reopened-fresh es p)

reopened-root : (context : Option Context) (es : List Listed) (p : Parser) → has_root context p.page.opened ≡ true
    → has_root context (reopened es p).page.opened ≡ true
unfolding reopened
reopened-root context [] p root = root
reopened-root None (e ∷ es) p root = refl
reopened-root (Some context) (e ∷ es) p root = refl

adjusted-new : (context : Option Context) (e : Open) (es : List Open) → has_root context es ≡ true → adjusted_kind context (e ∷ es) ≡ e.kind
adjusted-new None e es root = refl
adjusted-new (Some context) e [] root = cc
adjusted-new (Some context) e (outer ∷ es) root = refl

associated-opened : (form : Option ℕ) (takes : Bool) (n : ℕ) (place : Place) (page : Page) → (associated_with form takes n place page).opened ≡ page.opened
associated-opened None takes n place page = refl
associated-opened (Some form) true n place page = refl
associated-opened (Some form) false n place page = refl

action-by : (class : TextClass) (context : Option Context) (mode : Mode) (opened : List Open) (kind : Kind) (t g : Bool) (action : TextAction)
    → adjusted_kind context opened ≡ kind → takes_characters kind ≡ true → t ≡ false → g ≡ false → html_action class mode false false ≡ action
    → action_in class context mode opened t g ≡ action
action-by class context mode opened kind t g action adjusted html text group same = rw (adjusted, html, text, group) same

reopened-action : (class : TextClass) (action : TextAction) (es : List Listed) (p : Parser) → is_reopening action ≡ true
    → action_of class p ≡ action → list_all is_formatting_element es ≡ true → has_root p.options.context p.page.opened ≡ true
    → action_of class (reopened es p) ≡ action
unfolding reopened
reopened-action class action [] p reopens same kinds root = same
reopened-action class action (e ∷ es) p reopens same kinds root =
    let r : Parser = reopened es p in
    let x : Open = record { node = r.page.next; kind = e.kind; name = e.name } in
    let kind : is_formatting_kind e.kind ≡ true = (and_parts (is_formatting_kind e.kind) (list_all is_formatting_element es) kinds).0 in
    let kept : has_root r.options.context r.page.opened ≡ true =
    ap (λ (o : Options). has_root o.context r.page.opened) (reopened-options es p) ∙ reopened-root p.options.context es p root in
    let page : Page = made e.kind e.name e.attributes r.page in
    let takes : Bool = takes_form r e.kind e.attributes in
    let outer : List Open = (associated_with r.form takes r.page.next (place_of 0 r) page).opened in
    let outer_is : outer ≡ r.page.opened = associated-opened r.form takes r.page.next (place_of 0 r) page in
    let adjusted : adjusted_kind r.options.context (x ∷ outer) ≡ e.kind =
    adjusted-new r.options.context x outer (ap (has_root r.options.context) outer_is ∙ kept) in
    action-by class r.options.context r.mode (x ∷ outer) e.kind (takes_table_text e.kind) (is_column_group e.kind) action adjusted
    (formatting-html e.kind kind) (formatting-text e.kind kind) (formatting-group e.kind kind)
    (ap (λ m. html_action class m false false) (reopened-mode es p)
    ∙ by-mode class p.mode (is_current takes_table_text p) (is_current is_column_group p) action reopens (in-html class action p reopens same))

reconstructed-fresh : (p : Parser) → fresh p ≡ p → fresh (reconstructed p) ≡ reconstructed p
reconstructed-fresh p clean =
    let es : List Listed = to_reopen p.page.opened p.formatting in
    let q : Parser = record p { formatting = still_listed p.page.opened p.formatting } in
    reopened-fresh es q ∙ ap (λ (r : Parser). reopened es (record r { formatting = still_listed p.page.opened p.formatting })) clean

reconstructed-steady : (class : TextClass) (action : TextAction) (p : Parser) → is_reopening action ≡ true → action_of class p ≡ action
    → fresh p ≡ p → list_all is_formatting_element (to_reopen p.page.opened p.formatting) ≡ true
    → has_root p.options.context p.page.opened ≡ true → IsSteady class action (reconstructed p)
reconstructed-steady class action p reopens same clean kinds root = record {
  same = reopened-action class action (to_reopen p.page.opened p.formatting) (record p { formatting = still_listed p.page.opened p.formatting })
      reopens same kinds root;
  clean = reconstructed-fresh p clean;
  still = λ r. still-after p;
}

steady-before : (class : TextClass) (action : TextAction) (p : Parser) → TakesRun class action p → is_reopening action ≡ false
    → IsSteady class action p
steady-before class action p takes none = record { same = takes.same; clean = takes.clean; still = none-still class action none p }

first-in-body : (class : TextClass) (c : ℕ) (p : Parser) → IsOf class c → TakesRun class InsertInBody p
    → IsSteady class InsertInBody (acted InsertInBody c p)
first-in-body Null c p is takes =
    rw (is.null) (record { same = takes.same; clean = ap unexpected takes.clean; still = λ r. cc })
first-in-body Space c p is takes =
    let steady = reconstructed-steady Space InsertInBody p refl takes.same takes.clean (takes.kinds refl) takes.root in
    rw (is.null, is.space) (record { same = steady.same; clean = ap (insert_character c) steady.clean; still = steady.still })
first-in-body Other c p is takes =
    let steady = reconstructed-steady Other InsertInBody p refl takes.same takes.clean (takes.kinds refl) takes.root in
    rw (is.null, is.space)
    (record { same = steady.same; clean = ap (λ q. not_frameset_ok (insert_character c q)) steady.clean; still = steady.still })

first-foster : (class : TextClass) (c : ℕ) (p : Parser) → IsOf class c → TakesRun class Foster p → IsSteady class Foster (acted Foster c p)
first-foster Null c p is takes =
    rw (is.null)
    (record { same = takes.same; clean = ap (λ q. unfostered (unexpected (fostering (unexpected q)))) takes.clean; still = λ r. cc })
first-foster Space c p is takes =
    let steady = reconstructed-steady Space Foster (fostering (unexpected p)) refl takes.same
    (ap (λ q. fostering (unexpected q)) takes.clean) (takes.kinds refl) takes.root in
    rw (is.null, is.space)
    (record { same = steady.same; clean = ap (λ q. unfostered (insert_character c q)) steady.clean; still = steady.still })
first-foster Other c p is takes =
    let steady = reconstructed-steady Other Foster (fostering (unexpected p)) refl takes.same
    (ap (λ q. fostering (unexpected q)) takes.clean) (takes.kinds refl) takes.root in
    rw (is.null, is.space)
    (record { same = steady.same; clean = ap (λ q. unfostered (not_frameset_ok (insert_character c q))) steady.clean; still = steady.still })

first-steady : (class : TextClass) (action : TextAction) (c : ℕ) (p : Parser) → IsOf class c → TakesRun class action p
    → IsSteady class action (acted action c p)
first-steady class InsertInBody c p is takes = first-in-body class c p is takes
first-steady class Foster c p is takes = first-foster class c p is takes
first-steady class Ignore c p is takes = stays-steady class Ignore c p refl is (steady-before class Ignore p takes refl)
first-steady class Refuse c p is takes = stays-steady class Refuse c p refl is (steady-before class Refuse p takes refl)
first-steady class Insert c p is takes = stays-steady class Insert c p refl is (steady-before class Insert p takes refl)
first-steady class Collect c p is takes = stays-steady class Collect c p refl is (steady-before class Collect p takes refl)
first-steady class Replace c p is takes = stays-steady class Replace c p refl is (steady-before class Replace p takes refl)
first-steady class InsertForeign c p is takes = stays-steady class InsertForeign c p refl is (steady-before class InsertForeign p takes refl)
first-steady class Reprocess c p is takes = absurd-done takes.done
  where
    absurd-done : {X : Type 0} → is_done Reprocess ≡ true → X
    absurd-done e = cc

-- ---- a run

enough-more : (p : Parser) → enough p ≡ suc (7 + length p.template_modes)
enough-more p = omega arith

step-acts : (class : TextClass) (action : TextAction) (c : ℕ) (p : Parser) → is_done action ≡ true → IsOf class c → IsSteady class action p
    → step (Character c) p ≡ acted action c p
unfolding step process
step-acts class action c p done is steady =
    let ignores : p.ignores_newline ≡ false = ap (λ (q : Parser). q.ignores_newline) (sym steady.clean) in
    let again : Again = λ later token. process (7 + length p.template_modes) token later in
    ap (λ b. if is_ignored_newline b (Character c) then fresh p else process (enough p) (Character c) (fresh p)) ignores
    ∙ (ap (λ n. process n (Character c) (fresh p)) (enough-more p)
    ∙ (ap (dispatched again (Character c)) steady.clean
    ∙ (row-acts again class c p is (ap is_done steady.same ∙ done) ∙ ap (λ a. acted a c p) steady.same)))

run-steady : (class : TextClass) (action : TextAction) (text : List ℕ) (p : Parser) → is_done action ≡ true → AllOf class text
    → IsSteady class action p → run (map (λ c. Character c) text) p ≡ acted_all action text p
unfolding run acted_all
run-steady class action [] p done all steady = refl
run-steady class action (c ∷ text) p done all steady =
    let is : IsOf class c = All-head (IsOf class) c text all in
    ap (run (map (λ c. Character c) text)) (step-acts class action c p done is steady)
    ∙ run-steady class action text (acted action c p) done (All-tail (IsOf class) c text all) (stays-steady class action c p done is steady)

-- a run that a parser takes after its first character was processed again for some times
pub run-taken : (class : TextClass) (action : TextAction) (c : ℕ) (text : List ℕ) (p q : Parser) (n : ℕ) → AllOf class (c ∷ text)
    → is_ignored_newline p.ignores_newline (Character c) ≡ false → process (enough p) (Character c) (fresh p) ≡ process (suc n) (Character c) q → TakesRun class action q
    → run (map (λ c. Character c) (c ∷ text)) p ≡ acted_all action (c ∷ text) q
unfolding run step process acted_all
run-taken class action c text p q n all ignores reached takes =
    let is : IsOf class c = All-head (IsOf class) c text all in
    let again : Again = λ later token. process n token later in
    let acts : dispatched again (Character c) q ≡ acted action c q =
    row-acts again class c q is (ap is_done takes.same ∙ takes.done) ∙ ap (λ a. acted a c q) takes.same in
    let first : step (Character c) p ≡ acted action c q =
    ap (λ b. if b then fresh p else process (enough p) (Character c) (fresh p)) ignores ∙ (reached ∙ acts) in
    ap (run (map (λ c. Character c) text)) first
    ∙ run-steady class action text (acted action c q) takes.done (All-tail (IsOf class) c text all) (first-steady class action c q is takes)

-- after a run no newline is ignored
all-clean : (class : TextClass) (action : TextAction) (text : List ℕ) (p : Parser) → is_done action ≡ true → AllOf class text
    → IsSteady class action p → fresh (acted_all action text p) ≡ acted_all action text p
unfolding acted_all
all-clean class action [] p done all steady = steady.clean
all-clean class action (c ∷ text) p done all steady =
    all-clean class action text (acted action c p) done (All-tail (IsOf class) c text all)
    (stays-steady class action c p done (All-head (IsOf class) c text all) steady)

pub no-newline : (class : TextClass) (action : TextAction) (text : List ℕ) (p : Parser) → 0 < length text → AllOf class text
    → TakesRun class action p → (acted_all action text p).ignores_newline ≡ false
unfolding acted_all
no-newline class action [] p some all takes = absurd (omega (arith, some))
no-newline class action (c ∷ text) p some all takes =
    let steady : IsSteady class action (acted action c p) = first-steady class action c p (All-head (IsOf class) c text all) takes in
    ap (λ (q : Parser). q.ignores_newline)
    (sym (all-clean class action text (acted action c p) takes.done (All-tail (IsOf class) c text all) steady))

-- ---- the rows that a character meets before its run is taken

rank-bound : (mode : Mode) → rank mode ≤ 5
rank-bound Initial = omega arith
rank-bound BeforeHtml = omega arith
rank-bound BeforeHead = omega arith
rank-bound InHead = omega arith
rank-bound InHeadNoscript = omega arith
rank-bound AfterHead = omega arith
rank-bound InBody = omega arith
rank-bound Text = omega arith
rank-bound InTable = omega arith
rank-bound InTableText = omega arith
rank-bound InCaption = omega arith
rank-bound InColumnGroup = omega arith
rank-bound InTableBody = omega arith
rank-bound InRow = omega arith
rank-bound InCell = omega arith
rank-bound InTemplate = omega arith
rank-bound AfterBody = omega arith
rank-bound InFrameset = omega arith
rank-bound AfterFrameset = omega arith
rank-bound AfterAfterBody = omega arith
rank-bound AfterAfterFrameset = omega arith

-- a parser after so many rows
pub record RunsOn (class : TextClass) (p : Parser) (rows : ℕ) (q : Parser) : Type 0 where
  pub clean : fresh q ≡ q
  pub low : rank q.mode + rows ≤ 5
  pub left : ℕ
  pub count : left + rows ≡ 8 + length p.template_modes
  pub reached : (c : ℕ) → IsOf class c → process (enough p) (Character c) (fresh p) ≡ process left (Character c) q

pub runs-first : (class : TextClass) (p : Parser) → RunsOn class p 0 (fresh p)
runs-first class p = record {
  clean = refl;
  low = omega (arith, rank-bound p.mode);
  left = enough p;
  count = omega arith;
  reached = λ c is. refl;
}

runs-by : (class : TextClass) (p q : Parser) (rows left : ℕ) → action_of class q ≡ Reprocess → fresh q ≡ q → rank q.mode + rows ≤ 5
    → left + rows ≡ 8 + length p.template_modes
    → ((c : ℕ) → IsOf class c → process (enough p) (Character c) (fresh p) ≡ process left (Character c) q)
    → RunsOn class p (rows + 1) (moved_on q.mode q)
unfolding process
runs-by class p q rows zero e clean low count reached = absurd (omega (arith, low, count))
runs-by class p q rows (suc left) e clean low count reached = record {
  clean = moved-clean q clean;
  low = omega (arith, low, moved-lower class q e);
  left = left;
  count = omega (arith, count);
  reached = λ c is. reached c is ∙ row-again (λ later token. process left token later) class c q is e;
}

pub runs-next : (class : TextClass) (p q : Parser) (rows : ℕ) → RunsOn class p rows q → action_of class q ≡ Reprocess
    → RunsOn class p (rows + 1) (moved_on q.mode q)
runs-next class p q rows on e = runs-by class p q rows on.left e on.clean on.low on.count on.reached

ends-by : (class : TextClass) (action : TextAction) (c : ℕ) (text : List ℕ) (p q : Parser) (rows left : ℕ) → AllOf class (c ∷ text)
    → is_ignored_newline p.ignores_newline (Character c) ≡ false → rank q.mode + rows ≤ 5 → left + rows ≡ 8 + length p.template_modes
    → process (enough p) (Character c) (fresh p) ≡ process left (Character c) q → TakesRun class action q
    → run (map (λ d. Character d) (c ∷ text)) p ≡ acted_all action (c ∷ text) q
ends-by class action c text p q rows zero all ignores low count reached takes = absurd (omega (arith, low, count))
ends-by class action c text p q rows (suc left) all ignores low count reached takes =
    run-taken class action c text p q left all ignores reached takes

pub runs-end : (class : TextClass) (action : TextAction) (text : List ℕ) (p q : Parser) (rows : ℕ) → 0 < length text → AllOf class text
    → ((c : ℕ) (rest : List ℕ) → text ≡ c ∷ rest → is_ignored_newline p.ignores_newline (Character c) ≡ false) → RunsOn class p rows q
    → TakesRun class action q → run (map (λ d. Character d) text) p ≡ acted_all action text q
runs-end class action [] p q rows some all ignores on takes = absurd (omega (arith, some))
runs-end class action (c ∷ text) p q rows some all ignores on takes =
    ends-by class action c text p q rows on.left all (ignores c text refl) on.low on.count
    (on.reached c (All-head (IsOf class) c text all)) takes

-- ---- as the loop of a run has them

pub first_on : (class : TextClass) (p q : Parser) → q ≡ fresh p → RunsOn class p 0 q
first_on class p q e = subst (RunsOn class p 0) (sym e) (runs-first class p)

pub next_on : (class : TextClass) (p q r : Parser) (rows : ℕ) → RunsOn class p rows q → action_of class q ≡ Reprocess → r ≡ moved_on q.mode q
    → RunsOn class p (rows + 1) r
next_on class p q r rows on e is = subst (RunsOn class p (rows + 1)) (sym is) (runs-next class p q rows on e)

pub none_on : {X : Type 0} (class : TextClass) (p q : Parser) (rows : ℕ) → 6 ≤ rows → RunsOn class p rows q → X
none_on class p q rows all on = absurd (omega (arith, all, on.low))
