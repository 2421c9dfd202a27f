-- Worked cases, by hand from the standard: trees that tree construction builds; items that fit, and others; hosts.
use Rattle.std.proofs.Common.{◌≡◌, true, false, List, [], ◌∷◌, refl}
use Rattle.std.specs.Prelude.{ℕ, codes, map, not}
use Rattle.std.specs.List.{list_all}
use Rattle.html5tree.specs.Names.{is_among, kind_in, all_names, kind_of}
use Rattle.html5tree.specs.Items.{in_front, whole_texts, without_newlines}
use Rattle.html5tree.specs.Items.Item.{Text}
use Rattle.html5tree.specs.Scopes.{near}
use Rattle.html5tree.specs.Fitting.{fits, open_after, each_fits, all_open_after, all_fit}
use Rattle.html5tree.specs.Hosts.{is_flow_host}
use Rattle.html5tree.specs.Document.{joined, changed, changed_before, found, without, applied, built, bare}
use Rattle.html5tree.specs.Parser.{has_node, inside, outside, without_node, is_bounded, popped_until, implied_ended, has_entry, without_entry, last_named, is_one_of, are_all_of, count_alike, without_earliest, pushed, cleared, last_table, lost, kept, reopened}
use Rattle.html5tree.specs.Adoption.{ended_by, furthest_block, replaced, inner_loop, added_after, adopted, outer_loop}
use Rattle.html5tree.specs.InBody.{innermost}
use Rattle.html5tree.specs.Tables.{mode_of, back_to, is_hidden, leading_space, after_space}
use Rattle.html5tree.specs.Normal.{count_inside, run_of, opened, plan_of, normal_above, normal}
use Rattle.html5tree.specs.Construction.{process, run, tree_of}
use Rattle.html5tree.proofs.Markup.{up_to, beyond, attributes_of, items_from, items_of, attributes_text, markup_of, shown}
use Rattle.html5tree.proofs.Shorthand.{start}

-- ---- trees: items, and what is built of them

record Case : Type 0 where
  items : List ℕ
  tree : List ℕ

case : List ℕ → List ℕ → Case
case items tree = record { items = items; tree = tree }

cases : List Case
cases =
    -- a `p` closes the one that is open
    case (codes "<p>1<p>2") (codes "<p>1</p><p>2</p>")
    -- so does a `li`, and `</ul>` closes both
    ∷ case (codes "<ul><li>a<li>b</ul>") (codes "<ul><li>a</li><li>b</li></ul>")
    -- a row has a body
    ∷ case (codes "<table><tr><td>x") (codes "<table><tbody><tr><td>x</td></tr></tbody></table>")
    -- text is put before the table; white space, too, unless it is all of the text
    ∷ case (codes "<table>x<tr>") (codes "x<table><tbody><tr></tr></tbody></table>")
    ∷ case (codes "<table>x <tr>") (codes "x <table><tbody><tr></tr></tbody></table>")
    ∷ case (codes "<table> <tr>") (codes "<table> <tbody><tr></tr></tbody></table>")
    -- so is an `a`, and `</a>` in a cell means none outside it
    ∷ case (codes "<table><a><tr><td></a>") (codes "<a></a><table><tbody><tr><td></td></tr></tbody></table>")
    -- an `a` closes the one that is open
    ∷ case (codes "<a href=u>1<a href=v>2") (codes "<a href=u>1</a><a href=v>2</a>")
    -- the adoption agency: the `b` is around the `p`, and then within it
    ∷ case (codes "<b><p>x</b>y</p>") (codes "<b></b><p><b>x</b>y</p>")
    -- so it goes on from block to block, the outermost first
    ∷ case (codes "<b><div><p>x</b>y") (codes "<b></b><div><b></b><p><b>x</b>y</p></div>")
    -- after eight blocks it goes no further
    ∷ case (codes "<i><div><div><div><div><div><div><div><div></i>x") (codes "<i></i><div><i></i><div><i></i><div><i></i><div><i></i><div><i></i><div><i></i><div><i></i><div><i>x</i></div></div></div></div></div></div></div></div>")
    -- of the elements between, the fourth is not made anew
    ∷ case (codes "<nobr><u><b><b><u><div></nobr>") (codes "<nobr><u><b><b><u></u></b></b></u></nobr><b><b><u><div><nobr></nobr></div></u></b></b>")
    -- by foster parenting, too
    ∷ case (codes "<table><b><div></b>x") (codes "<b></b><div><b></b>x</div><table></table>")
    -- a heading closes the one that it stands in
    ∷ case (codes "<h1>a<h2>b") (codes "<h1>a</h1><h2>b</h2>")
    -- a `dd` closes a `dt`
    ∷ case (codes "<dl><dt>a<dd>b</dl>") (codes "<dl><dt>a</dt><dd>b</dd></dl>")
    -- of end tags without an element `</p>` alone makes one
    ∷ case (codes "</div></p></td>x") (codes "<p></p>x")
    -- Noah's Ark: all four are open, and three of them are opened again
    ∷ case (codes "<b><b><b><b>x") (codes "<b><b><b><b>x</b></b></b></b>")
    ∷ case (codes "<p><b><b><b><b>x</p>y") (codes "<p><b><b><b><b>x</b></b></b></b></p><b><b><b>y</b></b></b>")
    -- alike are those of one name with the same attributes, in any order
    ∷ case (codes "<p><b><b id=1><b><b>x</p>y") (codes "<p><b><b id=1><b><b>x</b></b></b></b></p><b><b id=1><b><b>y</b></b></b></b>")
    ∷ case (codes "<p><b id=1 class=2><b class=2 id=1><b id=1 class=2><b id=1 class=2>x</p>y") (codes "<p><b id=1 class=2><b class=2 id=1><b id=1 class=2><b id=1 class=2>x</b></b></b></b></p><b class=2 id=1><b id=1 class=2><b id=1 class=2>y</b></b></b>")
    -- a `button` closes the one that is open
    ∷ case (codes "<button><button>") (codes "<button></button><button></button>")
    -- a second `form` is ignored
    ∷ case (codes "<form><form>") (codes "<form></form>")
    -- a newline after `<pre>` is ignored
    ∷ case (codes "<pre>\n\nx") (codes "<pre>\nx</pre>")
    -- an `rp` closes an `rt`
    ∷ case (codes "<ruby>a<rt>b<rp>") (codes "<ruby>a<rt>b</rt><rp></rp></ruby>")
    -- a `table` closes a `p`, as the document is not in quirks mode
    ∷ case (codes "<p><table>") (codes "<p></p><table></table>")
    ∷ []

built-by-hand : map (λ c. shown (tree_of (items_of c.items))) cases ≡ map (λ c. c.tree) cases
unfolding case cases up_to beyond attributes_of items_from is_among kind_in all_names kind_of near attributes_text shown in_front whole_texts without_newlines joined changed changed_before found without applied built bare has_node inside outside without_node is_bounded popped_until implied_ended has_entry without_entry last_named is_one_of are_all_of count_alike without_earliest pushed cleared last_table lost kept reopened ended_by furthest_block replaced inner_loop added_after adopted outer_loop innermost mode_of back_to is_hidden leading_space after_space process run
built-by-hand = refl

-- texts that stand side by side, and empty ones, are read as the whole texts that they make
cut-texts : map (λ items. shown (tree_of items))
    ((start (codes "table") ∷ Text (codes " ") ∷ Text (codes "x") ∷ []) ∷ (start (codes "pre") ∷ Text [] ∷ Text (codes "\n") ∷ Text (codes "\n") ∷ []) ∷ [])
    ≡ codes " x<table></table>" ∷ codes "<pre>\n</pre>" ∷ []
unfolding up_to beyond attributes_of items_from is_among kind_in all_names kind_of near attributes_text shown in_front whole_texts without_newlines joined changed changed_before found without applied built bare has_node inside outside without_node is_bounded popped_until implied_ended has_entry without_entry last_named is_one_of are_all_of count_alike without_earliest pushed cleared last_table lost kept reopened ended_by furthest_block replaced inner_loop added_after adopted outer_loop innermost mode_of back_to is_hidden leading_space after_space process run
cut-texts = refl

-- ---- what fits

fitting : List (List ℕ)
fitting =
    (codes "<p>1</p><p>2</p>")
    ∷ (codes "<a><b>x</b></a>")
    ∷ (codes "<a><table><tbody><tr><td><a>x</a></td></tr></tbody></table></a>")
    ∷ (codes "<ul><li>a<ul><li>b</li></ul></li></ul>")
    ∷ (codes "<table><tbody> <tr><td>x</td></tr></tbody></table>")
    ∷ (codes "<h1><b><h2>x</h2></b></h1>")
    ∷ (codes "<ruby>a<rt>b</rt></ruby>")
    ∷ (codes "a<br>b<hr>c<img>")
    ∷ (codes "<table><caption>x</caption><colgroup><col></colgroup><thead><tr><th>a</th></tr></thead></table>")
    ∷ (codes "<p><button><p>x</p></button></p>")
    ∷ (codes "<dl><dt>a</dt><dd>b<dl><dd>c</dd></dl></dd></dl>")
    ∷ []

all-of-these-fit : list_all (λ markup. all_fit [] (items_of markup)) fitting ≡ true
unfolding fitting up_to beyond attributes_of items_from is_among kind_in all_names kind_of near fits open_after each_fits all_open_after
all-of-these-fit = refl

unfit : List (List ℕ)
unfit =
    (codes "<p>1<p>2</p></p>")
    ∷ (codes "<a><b><a>x</a></b></a>")
    ∷ (codes "<ul><li>a<li>b</li></li></ul>")
    ∷ (codes "<li><div><li>b</li></div></li>")
    ∷ (codes "<table><tr><td>x</td></tr></table>")
    ∷ (codes "<table><tbody>x<tr><td>x</td></tr></tbody></table>")
    ∷ (codes "<h1><h2>x</h2></h1>")
    ∷ (codes "<ruby><rb>a<rt>b</rt></rb></ruby>")
    ∷ (codes "<form><div><form></form></div></form>")
    ∷ (codes "<button><b><button>x</button></b></button>")
    ∷ (codes "<b><i>x</b></i>")
    ∷ (codes "<div>x")
    ∷ (codes "<video></video>")
    ∷ (codes "<br></br>")
    ∷ (codes "<table><p>x</p></table>")
    ∷ (codes "<tr></tr>")
    ∷ (codes "<b></b></b>")
    ∷ (codes "<p><b><div>x</div></b></p>")
    ∷ (codes "<nobr><i><nobr>x</nobr></i></nobr>")
    ∷ (codes "<dl><dt>a<dd>b</dd></dt></dl>")
    ∷ []

none-of-these-fits : list_all (λ markup. not (all_fit [] (items_of markup))) unfit ≡ true
unfolding unfit up_to beyond attributes_of items_from is_among kind_in all_names kind_of near fits open_after each_fits all_open_after
none-of-these-fits = refl

-- ---- the normaliser: items, and what it makes of them

normal_cases : List Case
normal_cases =
    -- a `p` closes the one that is open
    case (codes "<p>1<p>2") (codes "<p>1</p><p>2</p>")
    -- so does a `li`, and `</ul>` closes both
    ∷ case (codes "<ul><li>a<li>b</ul>") (codes "<ul><li>a</li><li>b</li></ul>")
    -- with the elements open in it
    ∷ case (codes "<ul><li><div><p>a<li>b") (codes "<ul><li><div><p>a</p></div></li><li>b</li></ul>")
    -- but not one that a list bounds
    ∷ case (codes "<ul><li>a<ol><li>b<li>c</ul>") (codes "<ul><li>a<ol><li>b</li><li>c</li></ol></li></ul>")
    -- a row has a body
    ∷ case (codes "<table><tr><td>x") (codes "<table><tbody><tr><td>x</td></tr></tbody></table>")
    -- a `td` has a row, too
    ∷ case (codes "<table><td>x") (codes "<table><tbody><tr><td>x</td></tr></tbody></table>")
    -- and a `col` has a group
    ∷ case (codes "<table><col><td>x") (codes "<table><colgroup><col></colgroup><tbody><tr><td>x</td></tr></tbody></table>")
    -- a part closes the elements open in the table
    ∷ case (codes "<table><caption><b>x<tr><td><p>y<tfoot>") (codes "<table><caption><b>x</b></caption><tbody><tr><td><p>y</p></td></tr></tbody><tfoot></tfoot></table>")
    -- and without a table it is dropped
    ∷ case (codes "<tr><td>x</td></tr>") (codes "x")
    -- text is put in a cell
    ∷ case (codes "<table>x<tr>") (codes "<table><tbody><tr><td>x</td></tr><tr></tr></tbody></table>")
    -- except for the white space at its front
    ∷ case (codes "<table> x <tr>") (codes "<table> <tbody><tr><td>x </td></tr><tr></tr></tbody></table>")
    -- in a `colgroup`, too
    ∷ case (codes "<table><colgroup>\n x") (codes "<table><colgroup>\n </colgroup><tbody><tr><td>x</td></tr></tbody></table>")
    -- white space stays
    ∷ case (codes "<table> <tr> <td>") (codes "<table> <tbody><tr> <td></td></tr></tbody></table>")
    -- an `a` is put in a cell, and `</a>` in another cell means none outside it
    ∷ case (codes "<table><a><tr><td></a>") (codes "<table><tbody><tr><td><a></a></td></tr><tr><td></td></tr></tbody></table>")
    -- a `form` straight in a table is dropped, and the rest is put in a cell
    ∷ case (codes "<table><form><input></form>") (codes "<table><tbody><tr><td><input></td></tr></tbody></table>")
    -- a `table` straight in a table closes that
    ∷ case (codes "<table><tr><table>") (codes "<table><tbody><tr></tr></tbody></table><table></table>")
    -- an `a` closes the one that is open
    ∷ case (codes "<a href=u>1<a href=v>2") (codes "<a href=u>1</a><a href=v>2</a>")
    -- an end tag closes the elements open within; a `</p>` alone is an empty `p`
    ∷ case (codes "<b><p>x</b>y</p>") (codes "<b><p>x</p></b>y<p></p>")
    -- but a `</span>` closes no block
    ∷ case (codes "<span><div></span>x") (codes "<span><div>x</div></span>")
    -- and in a table `</p>` is dropped
    ∷ case (codes "<table></p>") (codes "<table></table>")
    -- a heading closes the one that it stands in
    ∷ case (codes "<h1>a<h2>b") (codes "<h1>a</h1><h2>b</h2>")
    -- and a `p` in that
    ∷ case (codes "<h1><p>a<h2>b</h3>c") (codes "<h1><p>a</p></h1><h2>b</h2>c")
    -- a `dd` closes a `dt`
    ∷ case (codes "<dl><dt>a<dd>b</dl>") (codes "<dl><dt>a</dt><dd>b</dd></dl>")
    -- end tags without an element
    ∷ case (codes "</div></p></td>x") (codes "<p></p>x")
    -- elements that are alike may all stay open
    ∷ case (codes "<b><b><b><b>x") (codes "<b><b><b><b>x</b></b></b></b>")
    -- a `button` closes the one that is open
    ∷ case (codes "<button><button>") (codes "<button></button><button></button>")
    -- a second `form` is dropped
    ∷ case (codes "<form><form>") (codes "<form></form>")
    -- newlines stay as they are
    ∷ case (codes "<pre>\n\nx") (codes "<pre>\n\nx</pre>")
    -- an `rp` closes an `rt`
    ∷ case (codes "<ruby>a<rt>b<rp>") (codes "<ruby>a<rt>b</rt><rp></rp></ruby>")
    -- but not an `rtc`
    ∷ case (codes "<ruby><rtc><rt>a<rt>b<rtc>") (codes "<ruby><rtc><rt>a</rt><rt>b</rt></rtc><rtc></rtc></ruby>")
    -- a `</br>` is a `br`
    ∷ case (codes "a</br>b") (codes "a<br>b")
    -- other void elements have no end tag, and other names are dropped
    ∷ case (codes "<video>a</hr></video>b") (codes "ab")
    ∷ []

made-by-hand : map (λ c. markup_of (normal 511 (items_of c.items))) normal_cases ≡ map (λ c. c.tree) normal_cases
unfolding case normal_cases up_to beyond attributes_of items_from is_among kind_in all_names kind_of near open_after attributes_text markup_of leading_space after_space count_inside run_of opened plan_of normal_above
made-by-hand = refl

-- with a limit of how many elements are open
record Limited : Type 0 where
  limit : ℕ
  items : List ℕ
  made : List ℕ

limited : ℕ → List ℕ → List ℕ → Limited
limited limit items made = record { limit = limit; items = items; made = made }

limited_cases : List Limited
limited_cases =
    -- too deep
    limited 3 (codes "<b><i><u><s>x</s></u>") (codes "<b><i><u>x</u></i></b>")
    -- the implied parents count
    ∷ limited 3 (codes "<table><td>x<tr>") (codes "<table><tbody><tr></tr></tbody></table>")
    -- void elements don't
    ∷ limited 0 (codes "<b>x</b><br></p>") (codes "x<br>")
    -- so does the `p` of a `</p>`
    ∷ limited 1 (codes "</p><div></p>") (codes "<p></p><div></div>")
    -- a cell is not too deep
    ∷ limited 4 (codes "<table> x y") (codes "<table> <tbody><tr><td>x y</td></tr></tbody></table>")
    -- of a text whose cell is, the white space stays
    ∷ limited 3 (codes "<table> x y") (codes "<table>  </table>")
    -- what closes another is as deep as that
    ∷ limited 1 (codes "<p>a<p>b") (codes "<p>a</p><p>b</p>")
    ∷ []

limited-by-hand : map (λ c. markup_of (normal c.limit (items_of c.items))) limited_cases ≡ map (λ c. c.made) limited_cases
unfolding limited limited_cases up_to beyond attributes_of items_from is_among kind_in all_names kind_of near open_after attributes_text markup_of leading_space after_space count_inside run_of opened plan_of normal_above
limited-by-hand = refl

-- ---- hosts, innermost element first

-- each fragment fits in a cell of a table in a `p`, in a `div` of a `section`, and when nothing is open
flow-hosts : (is_flow_host (codes "td" ∷ codes "tr" ∷ codes "tbody" ∷ codes "table" ∷ codes "p" ∷ []) ≡ true)
    × ((is_flow_host (codes "div" ∷ codes "section" ∷ []) ≡ true) × (is_flow_host [] ≡ true))
unfolding is_flow_host near is_among kind_in all_names kind_of
flow-hosts = (refl, (refl, refl))

-- but not in these, nor in a `b` of a `p`
other_hosts : List (List (List ℕ))
other_hosts =
    (codes "p" ∷ []) ∷ (codes "b" ∷ codes "p" ∷ []) ∷ (codes "a" ∷ []) ∷ (codes "nobr" ∷ []) ∷ (codes "button" ∷ []) ∷ (codes "li" ∷ codes "ul" ∷ [])
    ∷ (codes "dd" ∷ codes "dl" ∷ []) ∷ (codes "h1" ∷ []) ∷ (codes "form" ∷ []) ∷ (codes "td" ∷ codes "tr" ∷ codes "tbody" ∷ codes "table" ∷ codes "form" ∷ [])
    ∷ (codes "ruby" ∷ []) ∷ (codes "table" ∷ []) ∷ (codes "tr" ∷ codes "tbody" ∷ codes "table" ∷ []) ∷ []

others-are-no-hosts : list_all (λ stack. not (is_flow_host stack)) other_hosts ≡ true
unfolding other_hosts is_flow_host near is_among kind_in all_names kind_of
others-are-no-hosts = refl

-- by host what fits there, and what fits by itself and not there
in-paragraph : (each_fits (codes "p" ∷ []) (items_of (codes "<b>x</b><br>")) ≡ true)
    × (each_fits (codes "p" ∷ []) (items_of (codes "<div>x</div>")) ≡ false)
unfolding up_to beyond attributes_of items_from is_among kind_in all_names kind_of near fits open_after each_fits all_open_after
in-paragraph = (refl, refl)

in-anchor : (each_fits (codes "a" ∷ []) (items_of (codes "<p>x</p>")) ≡ true)
    × (each_fits (codes "a" ∷ []) (items_of (codes "<b><a>x</a></b>")) ≡ false)
unfolding up_to beyond attributes_of items_from is_among kind_in all_names kind_of near fits open_after each_fits all_open_after
in-anchor = (refl, refl)

in-item : (each_fits (codes "li" ∷ codes "ul" ∷ []) (items_of (codes "<ul><li>x</li></ul>")) ≡ true)
    × (each_fits (codes "li" ∷ codes "ul" ∷ []) (items_of (codes "<div><li>x</li></div>")) ≡ false)
unfolding up_to beyond attributes_of items_from is_among kind_in all_names kind_of near fits open_after each_fits all_open_after
in-item = (refl, refl)

in-cell : (each_fits (codes "td" ∷ codes "tr" ∷ codes "tbody" ∷ codes "table" ∷ codes "p" ∷ codes "a" ∷ codes "li" ∷ []) (items_of (codes "<p><a>x</a></p><li>y</li>")) ≡ true)
    × (each_fits (codes "td" ∷ codes "tr" ∷ codes "tbody" ∷ codes "table" ∷ codes "form" ∷ []) (items_of (codes "<form></form>")) ≡ false)
unfolding up_to beyond attributes_of items_from is_among kind_in all_names kind_of near fits open_after each_fits all_open_after
in-cell = (refl, refl)

-- in a table only its parts and white space
in-table : (each_fits (codes "table" ∷ []) (items_of (codes "<caption>x</caption> ")) ≡ true)
    × (each_fits (codes "table" ∷ []) (items_of (codes "<b>x</b>")) ≡ false)
unfolding up_to beyond attributes_of items_from is_among kind_in all_names kind_of near fits open_after each_fits all_open_after
in-table = (refl, refl)
