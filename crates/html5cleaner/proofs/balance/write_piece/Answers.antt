use Rattle.std.proofs.Common.{map, refl, sym, ◌∙◌}
use Rattle.std.specs.Str.{chars}
use Rattle.html5write.specs.Writing.{attribute_of, piece_of}
use Rattle.html5cleaner.specs.Balance.{balanced, open_after}
use Rattle.html5cleaner.proofs.KeepsLemmas.{keeps-end_tag, keeps-piece, keeps-start_tag, void-after}
use Rattle.html5cleaner.proofs.balance.write_piece.Goals as goal

pub returns-in-Text : goal.returns-in-Text
unfolding balanced open_after
returns-in-Text g c =
    keeps-piece c.write_plain-in-Text.result c.args.page.now c.write_plain-in-Text.new.page c.args.opened.now c.args.run.now (piece_of c.args.tag) (rw (sym c.piece.ensures.same ∙ c.in-Text.is) refl) (rw (sym c.piece.ensures.same ∙ c.in-Text.is) refl)
    c.write_plain-in-Text.ensures.written c.write_plain-in-Text.ensures.unchanged c.write_plain-in-Text.ensures.change

pub returns-in-Comment : goal.returns-in-Comment
unfolding balanced open_after
returns-in-Comment g c =
    keeps-piece c.write_plain-in-Comment.result c.args.page.now c.write_plain-in-Comment.new.page c.args.opened.now c.args.run.now (piece_of c.args.tag) (rw (sym c.piece.ensures.same ∙ c.in-Comment.is) refl) (rw (sym c.piece.ensures.same ∙ c.in-Comment.is) refl)
    c.write_plain-in-Comment.ensures.written c.write_plain-in-Comment.ensures.unchanged c.write_plain-in-Comment.ensures.change

pub returns-then-is_void_name : goal.returns-then-is_void_name
unfolding balanced
returns-then-is_void_name g c =
    keeps-piece c.write_plain.result c.args.page.now c.write_plain.new.page c.args.opened.now c.args.run.now (piece_of c.args.tag) (rw (sym c.piece.ensures.same ∙ c.in-StartTag.is) refl) (rw (sym c.piece.ensures.same ∙ c.in-StartTag.is) (void-after c.args.opened.now (chars c.in-StartTag.name.now) (map attribute_of c.in-StartTag.attributes.now) (sym c.is_void_name.ensures ∙ c.if-is_void_name.true)))
    c.write_plain.ensures.written c.write_plain.ensures.unchanged c.write_plain.ensures.change

pub returns-in_ok-write_opened-in-StartTag : goal.returns-in_ok-write_opened-in-StartTag
returns-in_ok-write_opened-in-StartTag g c =
    let now = c.in_ok-write_opened-in-StartTag.ensures in
    rw (sym c.piece.ensures.same ∙ c.in-StartTag.is)
    (keeps-start_tag c.args.page.now c.write_opened.new.page c.args.opened.now c.write_opened.new.opened c.args.run.now (chars c.in-StartTag.name.now) (map attribute_of c.in-StartTag.attributes.now)
    (sym c.is_void_name.ensures ∙ c.if-is_void_name.false) (rw (sym c.piece.ensures.same ∙ c.in-StartTag.is) at now.written) now.opened)

pub returns-in_ok-write_closed-in-EndTag : goal.returns-in_ok-write_closed-in-EndTag
returns-in_ok-write_closed-in-EndTag g c =
    rw (sym c.piece.ensures.same ∙ c.in-EndTag.is)
    (keeps-end_tag c.args.page.now c.write_closed.new.page c.args.opened.now c.args.run.now (chars c.in-EndTag.name.now) c.closed_by-close.result c.closed_by-close.ensures
    c.in_ok-write_closed-in-EndTag.ensures.written)
