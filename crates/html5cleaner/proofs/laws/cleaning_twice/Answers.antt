use Rattle.std.proofs.Common.{List, [], ◌++◌, ap, sym, ◌∙◌, encode_utf8_all, append_assoc}
use Rattle.std.proofs.lemmas.List.{append-nil}
use Rattle.std.proofs.lemmas.Str.{encodes-append}
use Rattle.html5write.specs.Pieces.{pieces_text}
use Rattle.html5cleaner.specs.Balance.{end_tags}
use Rattle.html5cleaner.specs.Clean.{at_start, clean_step}
use Rattle.html5cleaner.specs.Cleaning.{page_bytes, page_messages, printed_of}
use Rattle.html5stream.specs.Pages.{runs_handed}
use Rattle.html5cleaner.proofs.NestedPages.{closed-page, none-handed}
use Rattle.html5cleaner.proofs.PagesAgain.{kept-twice, kept-whole}
use Rattle.html5cleaner.proofs.laws.cleaning_twice.Goals as goal

pub returns-clause-text : goal.returns-clause-text
returns-clause-text c = λ policy references others text sound table.
    ap encode_utf8_all (kept-whole policy others (page_messages references (record { policy = policy; printed = [] }) text) sound table (closed-page policy references text))

pub returns-clause-printed : goal.returns-clause-printed
returns-clause-printed c = λ s references M sound table.
    let pieces = (runs_handed clean_step (at_start s.policy) M).pieces in
    let closing = end_tags (runs_handed clean_step (at_start s.policy) M).opened in
    ap (λ text. record { policy = s.policy; printed = s.printed ++ encode_utf8_all text }) (kept-twice s.policy references M sound table)
    ∙ ap (λ bytes. record { policy = s.policy; printed = s.printed ++ bytes }) (encodes-append (pieces_text pieces) (pieces_text closing))
    ∙ ap (λ bytes. record { policy = s.policy; printed = bytes }) (sym (append_assoc s.printed (page_bytes pieces) (page_bytes closing)))

pub returns-clause-whole : goal.returns-clause-whole
returns-clause-whole c = λ s references bytes.
    let M = page_messages references s bytes in
    ap (λ (o : List (List _)). record { policy = s.policy; printed = (printed_of s M).printed ++ page_bytes (end_tags o) }) (closed-page s.policy references bytes)
    ∙ ap (λ l. record { policy = s.policy; printed = l }) (append-nil (printed_of s M).printed)

pub returns-clause-not_balanced : goal.returns-clause-not_balanced
returns-clause-not_balanced c = λ s M flat is.
    ap (λ (o : List (List _)). record { policy = s.policy; printed = (printed_of s M).printed ++ page_bytes (end_tags o) }) (none-handed s.policy M flat is)
    ∙ ap (λ l. record { policy = s.policy; printed = l }) (append-nil (printed_of s M).printed)
