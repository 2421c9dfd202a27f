-- What is hidden: elements that are dropped with all that stands in them, each from its start tag to the end tag that closes it, by count.
use Rattle.std.specs.Prelude.{ℕ, ◌+◌, ◌-◌, Bool, false, not, List, [], ◌==◌, string_bytes, if◌then◌else◌}
use Rattle.std.specs.Str.{bytes_eq}
use Rattle.html5ever_interface.specs.Token.{Told, TagOf}
use Rattle.html5ever_interface.specs.Token.Told.{Tag}
use Rattle.html5ever_interface.specs.declared.interface.token.TagKind.{TagKind}
use Rattle.html5ever_interface.specs.declared.interface.token.TagKind.TheVariants.{StartTag, EndTag}
use Rattle.html5elements.specs.Elements.{is_empty_element}
use Rattle.html5elements.specs.declared.hidden.Hidden.{Hidden as RustHidden}

-- a name, and how many elements of that name are open and hide their content: if none is, the name says nothing
pub record Hidden : Type 0 where
  pub name : List ℕ
  pub depth : ℕ

abbrev pub hidden_of : {Z : Type 0} → RustHidden Z → Hidden
hidden_of hidden = record { name = string_bytes hidden.name; depth = hidden.depth }

abbrev pub nothing_hidden : Hidden
nothing_hidden = record { name = []; depth = 0 }

-- whether a tag begins an element in which something can stand; `<svg/>` and `<br>` have nothing in them
abbrev pub has_content_by_kind : TagKind → List ℕ → Bool → Bool
has_content_by_kind StartTag name self_closing = not (is_empty_element name self_closing)
has_content_by_kind EndTag name self_closing = false

abbrev pub has_content : TagOf → Bool
has_content tag = has_content_by_kind tag.kind tag.name tag.self_closing

-- ---- after a tag

-- outside, when nothing is hidden: one that opens hidden content begins the count, under its name
abbrev pub hidden_from : Bool → Hidden → TagOf → Hidden
hidden_from opens hidden tag = if opens then record { name = tag.name; depth = 1 } else hidden

abbrev pub count_of : Bool → ℕ
count_of content = if content then 1 else 0

-- how many are open after a tag of the same name: a start tag counts where its element has content
abbrev pub depth_by_kind : TagKind → Bool → ℕ → ℕ
depth_by_kind StartTag content depth = depth + count_of content
depth_by_kind EndTag content depth = depth - 1

abbrev pub depth_within : Hidden → TagOf → ℕ
depth_within hidden tag = if bytes_eq tag.name hidden.name then depth_by_kind tag.kind (has_content tag) hidden.depth else hidden.depth

-- within: only tags of the same name count
abbrev pub hidden_within : Hidden → TagOf → Hidden
hidden_within hidden tag = record { name = hidden.name; depth = depth_within hidden tag }

abbrev pub hidden_after_tag : Bool → Hidden → TagOf → Hidden
hidden_after_tag opens hidden tag = if hidden.depth == 0 then hidden_from opens hidden tag else hidden_within hidden tag

-- ---- after a token

-- what is hidden after a token, by which tags open what is hidden
abbrev pub hidden_after : (TagOf → Bool) → Hidden → Told → Hidden
hidden_after opens hidden (Tag tag) = hidden_after_tag (opens tag) hidden tag
hidden_after opens hidden other = hidden
