-- What a rewriter makes of tags, and what a rewriting handler does by that.
use Rattle.std.specs.Prelude.{ℕ, Bool, true, false, not, List, ◌&&◌, codes, if◌then◌else◌}
use Rattle.std.specs.Option.{is_none}
use Rattle.std.specs.Str.{bytes_eq}
use Rattle.html5elements.specs.Hidden.{has_content}
use Rattle.html5ever_interface.specs.Token.{TagOf}
use Rattle.html5ever_interface.specs.declared.interface.token.TagKind.{TagKind}
use Rattle.html5ever_interface.specs.declared.interface.token.TagKind.TheVariants.{StartTag, EndTag}
use Rattle.html5sinks.specs.Replies.{raw_text_in}
use Rattle.html5rewrite.specs.declared.rewriter.Keep.{Keep}
use Rattle.html5rewrite.specs.declared.rewriter.Keep.TheVariants as keep

-- what happens to a tag, and the tag that is written if it is kept
pub record Rewriter : Type 0 where
  pub keeps : TagOf → Keep
  pub rewritten : TagOf → TagOf

-- whether the text after a start tag of this name is read as markup, also by a reader with scripting, for whom a noscript is raw
-- text
abbrev pub reads_markup_after : List ℕ → Bool
reads_markup_after name = is_none (raw_text_in name) && not (bytes_eq name (codes "plaintext")) && not (bytes_eq name (codes "noscript"))

abbrev pub reads_markup_by_kind : TagKind → List ℕ → Bool
reads_markup_by_kind StartTag name = reads_markup_after name
reads_markup_by_kind EndTag name = true

-- an element whose text is not read as markup is dropped with it, whatever the rewriter says: its text could not be written as text
abbrev pub keep_of : Rewriter → TagOf → Keep
keep_of rewriter tag = if reads_markup_by_kind tag.kind tag.name then rewriter.keeps tag else keep.Nothing

abbrev pub drops_content : Keep → Bool
drops_content keep.Tag = false
drops_content keep.ContentOnly = false
drops_content keep.Nothing = true

-- whether a tag begins an element that is dropped with its content
abbrev pub opens : Rewriter → TagOf → Bool
opens rewriter tag = drops_content (keep_of rewriter tag) && has_content tag
