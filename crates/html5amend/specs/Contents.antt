-- Contents that are put into a page: as text, or as they are.
use Rattle.std.specs.Prelude.{ℕ, List, encode_utf8_all}
use Rattle.std.specs.Str.{chars}
use Rattle.html5amend.specs.declared.content.Content.{Content}
use Rattle.html5amend.specs.declared.content.Content.TheVariants.{Html, Text}
use Rattle.html5write.specs.Escaped.{escaped_text}

-- a text is escaped, so that it is read as this text; HTML is written as it is
abbrev pub content_bytes : Content → List ℕ
content_bytes (Text text) = encode_utf8_all (escaped_text (chars text.now))
content_bytes (Html html) = html.now
