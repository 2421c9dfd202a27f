use Rattle.std.proofs.Common.{◌≡◌, Some, string_bytes, sym, ap, ◌∙◌, length}
use Rattle.std.specs.List.{slice_get}
use Rattle.std.proofs.lemmas.Bool.{ne_eqb}
use Rattle.html5reading.specs.Comment.{cdata_keyword, begins_cdata}
use Rattle.html5partial.proofs.Keywords.{get-is, starts-next, starts-not}
use Rattle.html5partial.proofs.declaration.depends_on_sink.Goals as goal

pub returns-then-c-from : goal.returns-then-c-from
unfolding begins_cdata
returns-then-c-from g c =
    let held = string_bytes c.args.at.now.comment in
    let next : slice_get cdata_keyword (length held) ≡ Some c.args.c =
    get-is cdata_keyword (length c.as_bytes-held.result.now) (length held) c.in-Some.next.now c.args.c (ap length c.as_bytes-held.ensures.value) c.in-Some.ensures.lookup.0 c.in-Some.ensures.lookup.1 (c.if-c-from.true ∙ c.from.ensures) in
    (c.begins_cdata.ensures ∙ ap begins_cdata c.as_bytes-held.ensures.value) ∙ starts-next cdata_keyword held c.args.c next

pub returns-else-c-from : goal.returns-else-c-from
unfolding begins_cdata
returns-else-c-from g c =
    let held = string_bytes c.args.at.now.comment in
    let next : slice_get cdata_keyword (length held) ≡ Some c.from.result =
    get-is cdata_keyword (length c.as_bytes-held.result.now) (length held) c.in-Some.next.now c.from.result (ap length c.as_bytes-held.ensures.value) c.in-Some.ensures.lookup.0 c.in-Some.ensures.lookup.1 c.from.ensures in
    let other = ne_eqb c.args.c c.from.result c.if-c-from.false in
    other ∙ sym (starts-not cdata_keyword held c.args.c c.from.result next other)
