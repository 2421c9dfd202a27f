use Rattle.html5nested.proofs.laws.tree_of_finished_page.Goals as goal

pub returns : goal.returns
returns g c = λ rules K s limit items table starts follows finished.
    let pieces = c.args.writer.now in
    c.tree_of_nested_page.ensures.tree rules K s limit pieces items
    (record {
      table = table;
      starts = starts;
      can = c.as_str-written.ensures.can;
      keeps = c.fitting_pieces_are_markup.ensures pieces (c.tree_of_nested_page.ensures.fits limit pieces items finished) follows;
    })
    finished
