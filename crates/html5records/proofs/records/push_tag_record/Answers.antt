use Rattle.std.proofs.Common.{map, ap}
use Rattle.std.proofs.lemmas.Result.{on_err_weaker}
use Rattle.html5ever_interface.specs.Token.{tag_of}
use Rattle.html5records.specs.Records.{attribute_records, tag_code, heading, heading_of, parts, record_of}
use Rattle.html5records.proofs.Written.{tag-begun, tag-whole}
use Rattle.markup5ever.specs.Names.{attribute_of}
use Rattle.markup5ever.proofs.Beginnings.{BeginsWith-less}
use Rattle.html5records.proofs.records.push_tag_record.Goals as goal

pub returns-clause-ok : goal.returns-clause-ok
unfolding record_of heading_of parts
returns-clause-ok g c =
    let tag = tag_of c.args.tag.now in
    let begun = tag-begun tag _ _ _ _ c.args.written.now.items _ _ _ c.tag_kind.ensures c.tag_flags.ensures c.as_bytes-name.ensures.value
    c.tag_beginning-beginning.ensures c.in_ok-extend_from_slice.ensures.items c.in_ok-push_bytes.ensures.ok in
    let attributes = ap (λ l. attribute_records (map attribute_of l)) c.deref.ensures.value in
    tag-whole c.push_attributes.result tag (heading (tag_code tag.kind) c.args.line) c.args.written.now.items _ _ _ begun attributes c.push_attributes.ensures.ok

pub returns-clause-err : goal.returns-clause-err
returns-clause-err g c =
    let begun = tag-begun (tag_of c.args.tag.now) _ _ _ _ c.args.written.now.items _ _ _ c.tag_kind.ensures c.tag_flags.ensures c.as_bytes-name.ensures.value
    c.tag_beginning-beginning.ensures c.in_ok-extend_from_slice.ensures.items c.in_ok-push_bytes.ensures.ok in
    on_err_weaker c.push_attributes.result (BeginsWith-less _ _ _ _ begun) c.push_attributes.ensures.err
