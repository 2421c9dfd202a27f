use Rattle.html5nested.specs.PageItems.{items_of}
use Rattle.html5tree.specs.Page.{names}
use Rattle.html5cleaner.specs.Cleaning.{kept_of_page}
use Rattle.html5cleaner.proofs.NestedTrees.{page-fits, page-no_comment}
use Rattle.html5cleaner.proofs.laws.cleaned_page_in_host.Goals as goal

pub returns-clause-in_place : goal.returns-clause-in_place
returns-clause-in_place c = λ policy references text exact input fresh p path tree host suit keeps.
    let pieces = kept_of_page policy references text in
    let fit = page-fits policy references text tree in
    c.tree_of_written_part.ensures.in_place exact input pieces fresh p path host (page-no_comment policy references text tree)
    (c.fits_in_host.ensures.fragment (names p.page.opened) (items_of pieces) suit fit) (c.fits_in_host.ensures.balanced (items_of pieces) fit) keeps

pub returns-clause-back : goal.returns-clause-back
returns-clause-back c = λ policy references text exact input fresh p path tree host suit.
    let pieces = kept_of_page policy references text in
    let fit = page-fits policy references text tree in
    c.tree_of_written_part.ensures.back exact input pieces fresh p path host
    (c.fits_in_host.ensures.fragment (names p.page.opened) (items_of pieces) suit fit) (c.fits_in_host.ensures.balanced (items_of pieces) fit)

pub returns-clause-as_read : goal.returns-clause-as_read
returns-clause-as_read c = λ policy references text exact input fresh p path tree host suit.
    let pieces = kept_of_page policy references text in
    let fit = page-fits policy references text tree in
    c.tree_of_written_part.ensures.as_read exact input pieces fresh p path host
    (c.fits_in_host.ensures.fragment (names p.page.opened) (items_of pieces) suit fit) (c.fits_in_host.ensures.balanced (items_of pieces) fit)
