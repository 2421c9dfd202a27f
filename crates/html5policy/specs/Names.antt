-- Names, as the bytes of their UTF-8, of which no policy decides.
use Rattle.std.specs.Prelude.{ℕ, Bool, true, false, List, [], ◌∷◌, ◌||◌, ◌&&◌, ◌==◌, codes, nat_eq}
use Rattle.std.specs.Char.{is_ascii_lowercase, is_ascii_uppercase, is_ascii_digit}
use Rattle.std.specs.List.{list_all, list_any, starts_with}
use Rattle.std.specs.Str.{bytes_eq}
use Rattle.html5tree.specs.Names.{kind_of}
use Rattle.html5tree.specs.declared.kinds.Kind.{Kind}
use Rattle.html5tree.specs.declared.kinds.Kind.TheVariants.{Unknown}

-- whether a name is one of these
unfoldable pub is_one_of : List (List ℕ) → List ℕ → Bool
is_one_of names name = list_any (λ other. bytes_eq other name) names

-- ---- elements

-- elements that are dropped with their content, by each policy
unfoldable pub always_hides : List ℕ → Bool
always_hides name =
    bytes_eq name (codes "iframe") || bytes_eq name (codes "math") || bytes_eq name (codes "noembed") || bytes_eq name (codes "noframes")
    || bytes_eq name (codes "noscript") || bytes_eq name (codes "plaintext") || bytes_eq name (codes "script") || bytes_eq name (codes "style")
    || bytes_eq name (codes "svg") || bytes_eq name (codes "template") || bytes_eq name (codes "textarea") || bytes_eq name (codes "title")
    || bytes_eq name (codes "xmp")

-- elements that no policy keeps, since they act on more than the place where they stand. `meta` and `base` reload the page, or change
-- what its addresses are relative to; `link`, `object`, `embed`, `applet`, `param`, `frame` and `frameset` load styles, plug-ins and
-- documents; the attributes of `html`, `head` and `body` become those of the page; `image` is read as another element
unfoldable pub acts_on_page : List ℕ → Bool
acts_on_page name =
    bytes_eq name (codes "applet") || bytes_eq name (codes "base") || bytes_eq name (codes "body") || bytes_eq name (codes "embed")
    || bytes_eq name (codes "frame") || bytes_eq name (codes "frameset") || bytes_eq name (codes "head") || bytes_eq name (codes "html")
    || bytes_eq name (codes "image") || bytes_eq name (codes "link") || bytes_eq name (codes "meta") || bytes_eq name (codes "object")
    || bytes_eq name (codes "param")

abbrev pub is_of_kind : Kind → Bool
is_of_kind Unknown = false
is_of_kind kind = true

-- whether tree construction is defined for an element of this name: it is one of the 94 of html5tree
unfoldable pub has_place : List ℕ → Bool
has_place name = is_of_kind (kind_of name)

-- ---- attributes

-- an attribute that no policy keeps: it runs scripts, what it holds is no single address, or it changes what addresses are relative to
unfoldable pub is_never_kept : List ℕ → Bool
is_never_kept name =
    starts_with nat_eq name (codes "on") || bytes_eq name (codes "archive") || bytes_eq name (codes "attributionsrc")
    || bytes_eq name (codes "imagesrcset") || bytes_eq name (codes "ping") || bytes_eq name (codes "srcdoc")
    || bytes_eq name (codes "srcset") || bytes_eq name (codes "style") || bytes_eq name (codes "values") || bytes_eq name (codes "xml:base")

-- attributes of the standard that hold an address
unfoldable pub is_address_now : List ℕ → Bool
is_address_now name =
    bytes_eq name (codes "action") || bytes_eq name (codes "cite") || bytes_eq name (codes "data") || bytes_eq name (codes "formaction")
    || bytes_eq name (codes "href") || bytes_eq name (codes "itemid") || bytes_eq name (codes "poster") || bytes_eq name (codes "src")
    || bytes_eq name (codes "xlink:href")

-- and older ones
unfoldable pub is_address_of_old : List ℕ → Bool
is_address_of_old name =
    bytes_eq name (codes "background") || bytes_eq name (codes "classid") || bytes_eq name (codes "codebase") || bytes_eq name (codes "dynsrc")
    || bytes_eq name (codes "icon") || bytes_eq name (codes "longdesc") || bytes_eq name (codes "lowsrc") || bytes_eq name (codes "manifest")
    || bytes_eq name (codes "profile") || bytes_eq name (codes "usemap")

-- and those that hold one in some elements, or in another namespace
unfoldable pub is_address_somewhere : List ℕ → Bool
is_address_somewhere name =
    bytes_eq name (codes "by") || bytes_eq name (codes "code") || bytes_eq name (codes "content") || bytes_eq name (codes "from")
    || bytes_eq name (codes "to")

-- whether the value of an attribute of this name is an address
unfoldable pub is_address : List ℕ → Bool
is_address name = is_address_now name || is_address_of_old name || is_address_somewhere name

-- ---- words of `rel`

-- "ASCII alphanumeric, or U+002D (-)"
abbrev pub is_rel_byte : ℕ → Bool
is_rel_byte byte = is_ascii_lowercase byte || is_ascii_uppercase byte || is_ascii_digit byte || (byte == 0x2D)

-- one such byte at least
unfoldable pub is_rel_word : List ℕ → Bool
is_rel_word [] = false
is_rel_word (byte ∷ word) = is_rel_byte byte && list_all is_rel_byte word

-- ---- schemes

-- "ASCII alphanumeric, U+002B (+), U+002D (-), or U+002E (.)", in lower case
abbrev pub is_scheme_byte : ℕ → Bool
is_scheme_byte byte = is_ascii_lowercase byte || is_ascii_digit byte || (byte == 0x2B) || (byte == 0x2D) || (byte == 0x2E)

-- a small letter, and what can follow it
unfoldable pub is_scheme : List ℕ → Bool
is_scheme [] = false
is_scheme (letter ∷ scheme) = is_ascii_lowercase letter && list_all is_scheme_byte scheme

-- schemes whose addresses run their content, or name what a page made itself
unfoldable pub runs_address : List ℕ → Bool
runs_address scheme =
    bytes_eq scheme (codes "javascript") || bytes_eq scheme (codes "vbscript") || bytes_eq scheme (codes "data")
    || bytes_eq scheme (codes "blob") || bytes_eq scheme (codes "filesystem") || bytes_eq scheme (codes "view-source")
