-- Raw text of each kind is read again.
use Rattle.std.proofs.Common.{◌≡◌, ℕ, true, List}
use Rattle.std.specs.Str.{IsUtf8}
use Rattle.std.proofs.lemmas.Bool.{and_parts, false≢true}
use Rattle.html5ever_interface.specs.Sink.{Means}
use Rattle.html5ever_interface.specs.declared.states.RawKind.{RawKind}
use Rattle.html5ever_interface.specs.declared.states.RawKind.TheVariants.{Rcdata, Rawtext, ScriptData, ScriptDataEscaped}
use Rattle.html5reading.specs.Start.{Start, Rules}
use Rattle.markup5ever.specs.NamedReferences.{IsTable}
use Rattle.html5serialize.specs.RawTexts.{IsOpenRaw, ReadsRaw, can_write_raw, is_raw_name}
use Rattle.html5serialize.proofs.RawBack.{plain-raw, script-raw}
use Rattle.html5serialize.proofs.RcdataBack.{rcdata-raw}

pub raw-text : {X S H : Type 0} (means : Means X S H) (rules : Rules) (K : Start) (s : S) (kind : RawKind) (name text : List ℕ) → IsTable rules.references → IsOpenRaw K kind name → IsUtf8 text
    → can_write_raw kind name text ≡ true → ReadsRaw means rules K s kind name text
unfolding can_write_raw
raw-text means rules K s Rcdata name text table here utf8 can = rcdata-raw means rules name K s text table here utf8 can
raw-text means rules K s Rawtext name text table here utf8 can = plain-raw means rules K s name text table here utf8 can
raw-text means rules K s ScriptData name text table here utf8 can = script-raw means rules K s name text table here utf8 can
raw-text means rules K s (ScriptDataEscaped kind) name text table here utf8 can = absurd (false≢true can)

-- such raw text has such a name
pub raw-name-of : (kind : RawKind) (name text : List ℕ) → can_write_raw kind name text ≡ true → is_raw_name name ≡ true
unfolding can_write_raw
raw-name-of Rcdata name text can = (and_parts (is_raw_name name) _ can).0
raw-name-of Rawtext name text can = (and_parts (is_raw_name name) _ can).0
raw-name-of ScriptData name text can = (and_parts (is_raw_name name) _ can).0
raw-name-of (ScriptDataEscaped kind) name text can = absurd (false≢true can)
