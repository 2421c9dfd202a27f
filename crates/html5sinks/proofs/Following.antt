-- With pauses a sink still follows the standard.
use Rattle.std.proofs.Common.{◌≡◌, ℕ, Bool, true, false, List, Option, None, Some, refl, ap}
use Rattle.std.specs.Prelude.{codes, if◌then◌else◌}
use Rattle.std.specs.Str.{bytes_eq}
use Rattle.markup5ever.specs.Names.{AttributeOf}
use Rattle.html5ever_interface.specs.Token.{Reply, keeps_state}
use Rattle.html5ever_interface.specs.Token.Reply.{KeepOn, RunScript}
use Rattle.html5ever_interface.specs.declared.interface.token.TagKind.{TagKind}
use Rattle.html5ever_interface.specs.declared.interface.token.TagKind.TheVariants.{StartTag, EndTag}
use Rattle.html5sinks.specs.Pausing.{charset_of, pausing_reply_by_kind, reply_to_charset, reply_to_end, reply_to_start}
use Rattle.html5sinks.specs.Replies.{reply_by_kind, standard_reply_to_start}

-- a start tag, by whether it is a `meta` and by what it names
keeps-start : (meta : Bool) (charset : Option (List ℕ)) (other : Reply (Unit {0})) → other ≡ KeepOn → keeps_state (if meta then reply_to_charset charset else other) ≡ true
keeps-start true None other keeps = refl
keeps-start true (Some charset) other keeps = refl
keeps-start false charset other keeps = ap (λ (r : Reply (Unit {0})). keeps_state r) keeps

-- an end tag, by whether it is that of a script
keeps-end : (script : Bool) → keeps_state {H = Unit {0}} (if script then RunScript tt else KeepOn) ≡ true
keeps-end true = refl
keeps-end false = refl

pub keeps-tag : (kind : TagKind) (name : List ℕ) (attributes : List AttributeOf) → reply_by_kind kind name ≡ KeepOn → keeps_state (pausing_reply_by_kind kind name attributes) ≡ true
unfolding reply_to_start reply_to_end
keeps-tag StartTag name attributes keeps = keeps-start (bytes_eq name (codes "meta")) (charset_of attributes) (standard_reply_to_start name) keeps
keeps-tag EndTag name attributes keeps = keeps-end (bytes_eq name (codes "script"))
