-- That a sink of tags keeps the laws of a sink.
use Rattle.std.specs.Prelude.{◌≡◌, ℕ, false, refl}
use Rattle.html5ever_interface.specs.Token.{Told, TagOf, Reply, is_tag}
use Rattle.html5ever_interface.specs.Token.Told.{Tag}
use Rattle.html5ever_interface.specs.Token.Reply.{KeepOn}
use Rattle.html5sinks.specs.Tags.{Tagged, tags_reply}

pub tags_keep_on : {S H : Type 0} → (reply : S → TagOf → ℕ → Reply H) (s : Tagged S) (told : Told) (line : ℕ)
    → is_tag told ≡ false → tags_reply reply s told line ≡ KeepOn
tags_keep_on reply s (Tag tag) line no_tag = absurd cc
tags_keep_on reply s other line no_tag = refl
