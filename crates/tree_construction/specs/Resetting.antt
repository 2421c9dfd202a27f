-- "Reset the insertion mode appropriately".
use Rattle.std.specs.Prelude.{ℕ, Bool, true, false, List, [], ◌∷◌, Option, Some, None}
use Rattle.tree_construction.specs.declared.kinds.Kind.{Kind}
use Rattle.tree_construction.specs.declared.kinds.Kind.TheVariants.{HtmlRoot, Head, Body, Template, Frameset, Table, Caption, ColumnGroup, TableBody, TableRow, Cell}
use Rattle.tree_construction.specs.declared.modes.Mode.{Mode}
use Rattle.tree_construction.specs.declared.modes.Mode.TheVariants.{BeforeHead, AfterHead, InHead, InBody, InTable, InCaption, InColumnGroup, InTableBody, InRow, InCell, InTemplate, InFrameset}
use Rattle.tree_construction.specs.Page.{Open}
use Rattle.tree_construction.specs.Parser.{Context, Parser, in_mode}

-- "the current template insertion mode"
abbrev pub current_template_mode : List Mode → Mode
current_template_mode [] = InTemplate
current_template_mode (mode ∷ modes) = mode

abbrev pub mode_by_head : Option ℕ → Mode
mode_by_head None = BeforeHead
mode_by_head (Some n) = AfterHead

-- what an element says, with what those outside it say; if `last` is true, it is the context element of a fragment, or the first on the stack
abbrev pub mode_at : Parser → (last : Bool) → Kind → Mode → Mode
mode_at p false Cell outer = InCell
mode_at p last TableRow outer = InRow
mode_at p last TableBody outer = InTableBody
mode_at p last Caption outer = InCaption
mode_at p last ColumnGroup outer = InColumnGroup
mode_at p last Table outer = InTable
mode_at p last Template outer = current_template_mode p.template_modes
mode_at p false Head outer = InHead
mode_at p last Body outer = InBody
mode_at p last Frameset outer = InFrameset
mode_at p last HtmlRoot outer = mode_by_head p.head
mode_at p last other outer = outer

abbrev pub last_kind : Option Context → Kind → Kind
last_kind None kind = kind
last_kind (Some context) kind = context.kind

unfoldable pub mode_of : Parser → List Open → Mode
mode_of p [] = InBody
mode_of p (e ∷ []) = mode_at p true (last_kind p.options.context e.kind) InBody
mode_of p (e ∷ es) = mode_at p false e.kind (mode_of p es)

abbrev pub mode_reset : Parser → Parser
mode_reset p = in_mode (mode_of p p.page.opened) p
