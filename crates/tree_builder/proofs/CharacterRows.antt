-- What rows do with a character is what its class and the state of the parser say.
use Rattle.std.specs.Prelude.{ℕ, suc, Bool, true, false, ◌≤◌}
use Rattle.std.proofs.Common.{◌≡◌, refl, ap, sym, arith, ◌∙◌}
use Rattle.tree_construction.specs.declared.modes.Mode.{Mode}
use Rattle.tree_construction.specs.declared.modes.Mode.TheVariants.{Initial, BeforeHtml, BeforeHead, InHead, InHeadNoscript, AfterHead, InBody, Text, InTable, InTableText, InCaption, InColumnGroup, InTableBody, InRow, InCell, InTemplate, AfterBody, InFrameset, AfterFrameset, AfterAfterBody, AfterAfterFrameset}
use Rattle.tree_construction.specs.Construction.{dispatched, in_html_content}
use Rattle.tree_construction.specs.ForeignContent.{foreign_character}
use Rattle.tree_construction.specs.Names.{is_column_group, takes_table_text}
use Rattle.tree_construction.specs.Parser.{Again, Parser, adjusted_kind, is_current}
use Rattle.tree_construction.specs.Tokens.Token.{Character}
use Rattle.tree_builder.specs.Characters.{IsOf, action_of, acted, foreign_action, fresh, html_action, is_done, moved_on, takes_characters}
use Rattle.tree_builder.specs.declared.characters.TextClass.{TextClass}
use Rattle.tree_builder.specs.declared.characters.TextClass.TheVariants.{Null, Space, Other}
use Rattle.tree_builder.specs.declared.characters.TextAction.TheVariants.{Reprocess}

-- how often a character is processed again at most, by the mode
abbrev pub rank : Mode → ℕ
rank Initial = 5
rank BeforeHtml = 4
rank BeforeHead = 3
rank InHeadNoscript = 3
rank InHead = 2
rank InColumnGroup = 2
rank AfterHead = 1
rank InTable = 1
rank InTableBody = 1
rank InRow = 1
rank AfterBody = 1
rank AfterAfterBody = 1
rank other = 0

html-row : (again : Again) (mode : Mode) (class : TextClass) (t g : Bool) (c : ℕ) (p : Parser) → IsOf class c
    → is_done (html_action class mode t g) ≡ true → t ≡ is_current takes_table_text p → g ≡ is_current is_column_group p
    → in_html_content again mode (Character c) p ≡ acted (html_action class mode t g) c p
html-row again Initial Null t g c p is done current group = cc
html-row again Initial Space t g c p is done current group = rw is.space refl
html-row again Initial Other t g c p is done current group = cc
html-row again BeforeHtml Null t g c p is done current group = cc
html-row again BeforeHtml Space t g c p is done current group = rw is.space refl
html-row again BeforeHtml Other t g c p is done current group = cc
html-row again BeforeHead Null t g c p is done current group = cc
html-row again BeforeHead Space t g c p is done current group = rw is.space refl
html-row again BeforeHead Other t g c p is done current group = cc
html-row again InHead Null t g c p is done current group = cc
html-row again InHead Space t g c p is done current group = rw is.space refl
html-row again InHead Other t g c p is done current group = cc
html-row again InHeadNoscript Null t g c p is done current group = cc
html-row again InHeadNoscript Space t g c p is done current group = rw is.space refl
html-row again InHeadNoscript Other t g c p is done current group = cc
html-row again AfterHead Null t g c p is done current group = cc
html-row again AfterHead Space t g c p is done current group = rw is.space refl
html-row again AfterHead Other t g c p is done current group = cc
html-row again InBody class t g c p is done current group = refl
html-row again Text class t g c p is done current group = refl
html-row again InTable class true g c p is done current group = cc
html-row again InTable class false g c p is done current group = rw (sym current) refl
html-row again InTableText Null t g c p is done current group = rw is.null refl
html-row again InTableText Space t g c p is done current group = rw is.null refl
html-row again InTableText Other t g c p is done current group = rw is.null refl
html-row again InCaption class t g c p is done current group = refl
html-row again InColumnGroup Space t g c p is done current group = rw is.space refl
html-row again InColumnGroup Null t true c p is done current group = cc
html-row again InColumnGroup Null t false c p is done current group = rw (is.space, sym group) refl
html-row again InColumnGroup Other t true c p is done current group = cc
html-row again InColumnGroup Other t false c p is done current group = rw (is.space, sym group) refl
html-row again InTableBody class true g c p is done current group = cc
html-row again InTableBody class false g c p is done current group = rw (sym current) refl
html-row again InRow class true g c p is done current group = cc
html-row again InRow class false g c p is done current group = rw (sym current) refl
html-row again InCell class t g c p is done current group = refl
html-row again InTemplate class t g c p is done current group = refl
html-row again AfterBody Null t g c p is done current group = cc
html-row again AfterBody Space t g c p is done current group = rw is.space refl
html-row again AfterBody Other t g c p is done current group = cc
html-row again InFrameset Null t g c p is done current group = rw is.space refl
html-row again InFrameset Space t g c p is done current group = rw is.space refl
html-row again InFrameset Other t g c p is done current group = rw is.space refl
html-row again AfterFrameset Null t g c p is done current group = rw is.space refl
html-row again AfterFrameset Space t g c p is done current group = rw is.space refl
html-row again AfterFrameset Other t g c p is done current group = rw is.space refl
html-row again AfterAfterBody Null t g c p is done current group = cc
html-row again AfterAfterBody Space t g c p is done current group = rw is.space refl
html-row again AfterAfterBody Other t g c p is done current group = cc
html-row again AfterAfterFrameset Null t g c p is done current group = rw is.space refl
html-row again AfterAfterFrameset Space t g c p is done current group = rw is.space refl
html-row again AfterAfterFrameset Other t g c p is done current group = rw is.space refl

foreign-row : (class : TextClass) (c : ℕ) (p : Parser) → IsOf class c → foreign_character c p ≡ acted (foreign_action class) c p
foreign-row Null c p is = rw is.null refl
foreign-row Space c p is = rw (is.null, is.space) refl
foreign-row Other c p is = rw (is.null, is.space) refl

-- a row that does not reprocess a character does this with it
pub row-acts : (again : Again) (class : TextClass) (c : ℕ) (p : Parser) → IsOf class c → is_done (action_of class p) ≡ true
    → dispatched again (Character c) p ≡ acted (action_of class p) c p
row-acts again class c p is done = by (takes_characters (adjusted_kind p.options.context p.page.opened)) refl
  where
    by : (html : Bool) → takes_characters (adjusted_kind p.options.context p.page.opened) ≡ html
        → dispatched again (Character c) p ≡ acted (action_of class p) c p
    by true e = rw e (html-row again p.mode class (is_current takes_table_text p) (is_current is_column_group p) c p is (rw e at done) refl refl)
    by false e = rw e (foreign-row class c p is)

-- ---- rows that reprocess a character

html-again : (again : Again) (mode : Mode) (class : TextClass) (t g : Bool) (c : ℕ) (p : Parser) → IsOf class c
    → html_action class mode t g ≡ Reprocess → t ≡ is_current takes_table_text p → g ≡ is_current is_column_group p
    → in_html_content again mode (Character c) p ≡ again (moved_on mode p) (Character c)
html-again again Initial Space t g c p is e current group = cc
html-again again Initial Null t g c p is e current group = rw is.space refl
html-again again Initial Other t g c p is e current group = rw is.space refl
html-again again BeforeHtml Space t g c p is e current group = cc
html-again again BeforeHtml Null t g c p is e current group = rw is.space refl
html-again again BeforeHtml Other t g c p is e current group = rw is.space refl
html-again again BeforeHead Space t g c p is e current group = cc
html-again again BeforeHead Null t g c p is e current group = rw is.space refl
html-again again BeforeHead Other t g c p is e current group = rw is.space refl
html-again again InHead Space t g c p is e current group = cc
html-again again InHead Null t g c p is e current group = rw is.space refl
html-again again InHead Other t g c p is e current group = rw is.space refl
html-again again InHeadNoscript Space t g c p is e current group = cc
html-again again InHeadNoscript Null t g c p is e current group = rw is.space refl
html-again again InHeadNoscript Other t g c p is e current group = rw is.space refl
html-again again AfterHead Space t g c p is e current group = cc
html-again again AfterHead Null t g c p is e current group = rw is.space refl
html-again again AfterHead Other t g c p is e current group = rw is.space refl
html-again again InBody class t g c p is e current group = cc
html-again again Text class t g c p is e current group = cc
html-again again InTable class true g c p is e current group = rw (sym current) refl
html-again again InTable class false g c p is e current group = cc
html-again again InTableText Null t g c p is e current group = cc
html-again again InTableText Space t g c p is e current group = cc
html-again again InTableText Other t g c p is e current group = cc
html-again again InCaption class t g c p is e current group = cc
html-again again InColumnGroup Space t g c p is e current group = cc
html-again again InColumnGroup Null t true c p is e current group = rw (is.space, sym group) refl
html-again again InColumnGroup Null t false c p is e current group = cc
html-again again InColumnGroup Other t true c p is e current group = rw (is.space, sym group) refl
html-again again InColumnGroup Other t false c p is e current group = cc
html-again again InTableBody class true g c p is e current group = rw (sym current) refl
html-again again InTableBody class false g c p is e current group = cc
html-again again InRow class true g c p is e current group = rw (sym current) refl
html-again again InRow class false g c p is e current group = cc
html-again again InCell class t g c p is e current group = cc
html-again again InTemplate class t g c p is e current group = cc
html-again again AfterBody Space t g c p is e current group = cc
html-again again AfterBody Null t g c p is e current group = rw is.space refl
html-again again AfterBody Other t g c p is e current group = rw is.space refl
html-again again InFrameset Null t g c p is e current group = cc
html-again again InFrameset Space t g c p is e current group = cc
html-again again InFrameset Other t g c p is e current group = cc
html-again again AfterFrameset Null t g c p is e current group = cc
html-again again AfterFrameset Space t g c p is e current group = cc
html-again again AfterFrameset Other t g c p is e current group = cc
html-again again AfterAfterBody Space t g c p is e current group = cc
html-again again AfterAfterBody Null t g c p is e current group = rw is.space refl
html-again again AfterAfterBody Other t g c p is e current group = rw is.space refl
html-again again AfterAfterFrameset Null t g c p is e current group = cc
html-again again AfterAfterFrameset Space t g c p is e current group = cc
html-again again AfterAfterFrameset Other t g c p is e current group = cc

foreign-done : (class : TextClass) → is_done (foreign_action class) ≡ true
foreign-done Null = refl
foreign-done Space = refl
foreign-done Other = refl

html-reprocesses : (class : TextClass) (p : Parser) → action_of class p ≡ Reprocess
    → (takes_characters (adjusted_kind p.options.context p.page.opened) ≡ true)
    × (html_action class p.mode (is_current takes_table_text p) (is_current is_column_group p) ≡ Reprocess)
html-reprocesses class p e = by (takes_characters (adjusted_kind p.options.context p.page.opened)) refl
  where
    by : (html : Bool) → takes_characters (adjusted_kind p.options.context p.page.opened) ≡ html
        → (takes_characters (adjusted_kind p.options.context p.page.opened) ≡ true)
        × (html_action class p.mode (is_current takes_table_text p) (is_current is_column_group p) ≡ Reprocess)
    by true is = (is, rw is at e)
    by false is =
        let foreign : foreign_action class ≡ Reprocess = rw is at e in
        let done : is_done (foreign_action class) ≡ true = foreign-done class in
        let not_done : is_done (foreign_action class) ≡ false = ap is_done foreign in
        cc

-- a row that reprocesses a character does so in this state
pub row-again : (again : Again) (class : TextClass) (c : ℕ) (p : Parser) → IsOf class c → action_of class p ≡ Reprocess
    → dispatched again (Character c) p ≡ again (moved_on p.mode p) (Character c)
row-again again class c p is e =
    let html = html-reprocesses class p e in
    rw html.0 (html-again again p.mode class (is_current takes_table_text p) (is_current is_column_group p) c p is html.1 refl refl)

lower : (class : TextClass) (mode : Mode) (t g : Bool) (p : Parser) → html_action class mode t g ≡ Reprocess
    → suc (rank (moved_on mode p).mode) ≤ rank mode
lower class Initial t g p e = omega arith
lower class BeforeHtml t g p e = omega arith
lower class BeforeHead t g p e = omega arith
lower class InHead t g p e = omega arith
lower class InHeadNoscript t g p e = omega arith
lower class AfterHead t g p e = omega arith
lower class InBody t g p e = cc
lower class Text t g p e = cc
lower class InTable t g p e = omega arith
lower Null InTableText t g p e = cc
lower Space InTableText t g p e = cc
lower Other InTableText t g p e = cc
lower class InCaption t g p e = cc
lower class InColumnGroup t g p e = omega arith
lower class InTableBody t g p e = omega arith
lower class InRow t g p e = omega arith
lower class InCell t g p e = cc
lower class InTemplate t g p e = cc
lower class AfterBody t g p e = omega arith
lower Null InFrameset t g p e = cc
lower Space InFrameset t g p e = cc
lower Other InFrameset t g p e = cc
lower Null AfterFrameset t g p e = cc
lower Space AfterFrameset t g p e = cc
lower Other AfterFrameset t g p e = cc
lower class AfterAfterBody t g p e = omega arith
lower Null AfterAfterFrameset t g p e = cc
lower Space AfterAfterFrameset t g p e = cc
lower Other AfterAfterFrameset t g p e = cc

-- and the mode is one from which a character is processed again less often
pub moved-lower : (class : TextClass) (p : Parser) → action_of class p ≡ Reprocess → suc (rank (moved_on p.mode p).mode) ≤ rank p.mode
moved-lower class p e =
    lower class p.mode (is_current takes_table_text p) (is_current is_column_group p) p (html-reprocesses class p e).1

moved-fresh : (mode : Mode) (p : Parser) → fresh (moved_on mode p) ≡ moved_on mode (fresh p)
moved-fresh Initial p = by p.options.iframe_srcdoc refl
  where
    by : (srcdoc : Bool) → p.options.iframe_srcdoc ≡ srcdoc → fresh (moved_on Initial p) ≡ moved_on Initial (fresh p)
    by true e = rw e refl
    by false e = rw e refl
moved-fresh BeforeHtml p = refl
moved-fresh BeforeHead p = refl
moved-fresh InHead p = refl
moved-fresh InHeadNoscript p = refl
moved-fresh AfterHead p = refl
moved-fresh InBody p = refl
moved-fresh Text p = refl
moved-fresh InTable p = refl
moved-fresh InTableText p = refl
moved-fresh InCaption p = refl
moved-fresh InColumnGroup p = refl
moved-fresh InTableBody p = refl
moved-fresh InRow p = refl
moved-fresh InCell p = refl
moved-fresh InTemplate p = refl
moved-fresh AfterBody p = refl
moved-fresh InFrameset p = refl
moved-fresh AfterFrameset p = refl
moved-fresh AfterAfterBody p = refl
moved-fresh AfterAfterFrameset p = refl

-- and what is set before a token stays so
pub moved-clean : (p : Parser) → fresh p ≡ p → fresh (moved_on p.mode p) ≡ moved_on p.mode p
moved-clean p clean = moved-fresh p.mode p ∙ ap (moved_on p.mode) clean
