-- Items, with the trees that a model of the standard's tree construction builds of them, with whether they all fit, and
-- with what a model of the normaliser makes of them: by `python3 tools/gen/tree_cases.py`, and not by hand.
use Rattle.std.proofs.Common.{◌≡◌, Bool, true, false, List, [], ◌∷◌, refl}
use Rattle.std.specs.Prelude.{codes, map}
use Rattle.html5tree.specs.Items.Item.{StartTag, Text}
use Rattle.html5tree.specs.Tree.Tree.{Nothing, Element, Characters}
use Rattle.html5tree.specs.Adoption.{ended_by, furthest_block, replaced, inner_loop, added_after, adopted, outer_loop}
use Rattle.html5tree.specs.Construction.{process, run, tree_of}
use Rattle.html5tree.specs.Document.{joined, changed, changed_before, found, without, applied, built, bare}
use Rattle.html5tree.specs.Fitting.{fits, open_after, each_fits, all_open_after, all_fit}
use Rattle.html5tree.specs.InBody.{innermost}
use Rattle.html5tree.specs.Items.{in_front, whole_texts, without_newlines, Item}
use Rattle.html5tree.specs.Names.{is_among, kind_in, all_names, kind_of}
use Rattle.html5tree.specs.Normal.{count_inside, run_of, opened, plan_of, normal_above, normal}
use Rattle.html5tree.specs.Parser.{has_node, inside, outside, without_node, is_bounded, popped_until, implied_ended, has_entry, without_entry, last_named, is_one_of, are_all_of, count_alike, without_earliest, pushed, cleared, last_table, lost, kept, reopened}
use Rattle.html5tree.specs.Scopes.{near}
use Rattle.html5tree.specs.Tables.{mode_of, back_to, is_hidden, leading_space, after_space}
use Rattle.html5tree.specs.Tree.{Tree}
use Rattle.html5tree.proofs.Shorthand.{start, end, attribute}

-- ---- trees of random items

random_0_items : List (List Item)
random_0_items =
    (end (codes "b") ∷ end (codes "figure") ∷ Text (codes " x") ∷ end (codes "figure") ∷ StartTag (codes "figure") (attribute (codes "class") (codes "2") ∷ attribute (codes "id") (codes "1") ∷ []) ∷ StartTag (codes "button") (attribute (codes "class") (codes "1") ∷ []) ∷ Text (codes " ") ∷ StartTag (codes "figure") (attribute (codes "class") (codes "1") ∷ []) ∷ start (codes "figure") ∷ end (codes "b") ∷ [])
    ∷ (start (codes "i") ∷ start (codes "span") ∷ start (codes "div") ∷ start (codes "div") ∷ start (codes "span") ∷ start (codes "b") ∷ start (codes "span") ∷ start (codes "div") ∷ start (codes "b") ∷ Text (codes "y") ∷ end (codes "b") ∷ Text (codes "y") ∷ start (codes "i") ∷ start (codes "b") ∷ Text (codes "x") ∷ end (codes "u") ∷ end (codes "i") ∷ end (codes "i") ∷ Text (codes "x") ∷ [])
    ∷ (start (codes "dt") ∷ start (codes "table") ∷ Text (codes "\n\n") ∷ StartTag (codes "caption") (attribute (codes "class") (codes "1") ∷ []) ∷ Text (codes " x") ∷ start (codes "dt") ∷ end (codes "dt") ∷ start (codes "td") ∷ Text (codes "y") ∷ start (codes "button") ∷ Text (codes " ") ∷ end (codes "button") ∷ start (codes "dl") ∷ Text (codes "\nx") ∷ StartTag (codes "dt") (attribute (codes "id") (codes "1") ∷ attribute (codes "class") (codes "2") ∷ []) ∷ [])
    ∷ (start (codes "var") ∷ start (codes "var") ∷ Text (codes "\nx") ∷ Text (codes " x") ∷ Text (codes "x") ∷ Text (codes "x ") ∷ end (codes "var") ∷ Text (codes "x y") ∷ end (codes "var") ∷ Text (codes "\n\n") ∷ [])
    ∷ (Text (codes "\n\n") ∷ Text (codes "\n\n") ∷ end (codes "button") ∷ end (codes "search") ∷ end (codes "dd") ∷ StartTag (codes "button") (attribute (codes "class") (codes "2") ∷ attribute (codes "id") (codes "1") ∷ []) ∷ [])
    ∷ (start (codes "i") ∷ start (codes "i") ∷ start (codes "div") ∷ Text (codes "y") ∷ end (codes "div") ∷ Text (codes "x") ∷ start (codes "i") ∷ start (codes "i") ∷ start (codes "i") ∷ start (codes "p") ∷ start (codes "p") ∷ start (codes "div") ∷ Text (codes "x") ∷ end (codes "p") ∷ Text (codes "x") ∷ start (codes "i") ∷ start (codes "p") ∷ Text (codes "x") ∷ end (codes "div") ∷ end (codes "div") ∷ end (codes "i") ∷ Text (codes "x") ∷ start (codes "i") ∷ start (codes "p") ∷ start (codes "div") ∷ start (codes "div") ∷ start (codes "div") ∷ start (codes "p") ∷ start (codes "p") ∷ start (codes "div") ∷ start (codes "div") ∷ Text (codes "x") ∷ end (codes "i") ∷ Text (codes "x") ∷ [])
    ∷ (end (codes "mark") ∷ end (codes "td") ∷ StartTag (codes "form") (attribute (codes "class") (codes "1") ∷ []) ∷ start (codes "td") ∷ Text (codes "y") ∷ Text (codes "\nx") ∷ Text (codes "x y") ∷ start (codes "form") ∷ Text (codes "x y") ∷ end (codes "h6") ∷ Text (codes "\n\n") ∷ end (codes "figcaption") ∷ [])
    ∷ (StartTag (codes "a") (attribute (codes "class") (codes "2") ∷ attribute (codes "id") (codes "1") ∷ []) ∷ start (codes "form") ∷ Text (codes "\n\n") ∷ start (codes "var") ∷ start (codes "small") ∷ end (codes "small") ∷ Text (codes " ") ∷ end (codes "var") ∷ end (codes "form") ∷ end (codes "a") ∷ [])
    ∷ (Text (codes "y") ∷ Text (codes "x y") ∷ end (codes "table") ∷ Text [] ∷ Text (codes " x") ∷ end (codes "ul") ∷ Text (codes " ") ∷ [])
    ∷ (StartTag (codes "u") (attribute (codes "class") (codes "2") ∷ attribute (codes "id") (codes "1") ∷ []) ∷ StartTag (codes "u") (attribute (codes "id") (codes "1") ∷ attribute (codes "class") (codes "2") ∷ []) ∷ StartTag (codes "u") (attribute (codes "class") (codes "2") ∷ attribute (codes "id") (codes "1") ∷ []) ∷ start (codes "table") ∷ start (codes "table") ∷ Text (codes "y") ∷ end (codes "div") ∷ end (codes "u") ∷ Text (codes "x") ∷ StartTag (codes "u") (attribute (codes "id") (codes "1") ∷ attribute (codes "class") (codes "2") ∷ []) ∷ start (codes "table") ∷ Text (codes "x") ∷ end (codes "div") ∷ Text (codes "x") ∷ [])
    ∷ []

random_0_answers : List Tree
random_0_answers =
    (Element (Characters Nothing (codes " x")) (codes "figure") (attribute (codes "class") (codes "2") ∷ attribute (codes "id") (codes "1") ∷ []) (Element Nothing (codes "button") (attribute (codes "class") (codes "1") ∷ []) (Element (Characters Nothing (codes " ")) (codes "figure") (attribute (codes "class") (codes "1") ∷ []) (Element Nothing (codes "figure") [] Nothing))))
    ∷ (Element (Element Nothing (codes "i") [] (Element Nothing (codes "span") [] Nothing)) (codes "div") [] (Element (Element Nothing (codes "i") [] Nothing) (codes "div") [] (Element (Element Nothing (codes "i") [] (Element Nothing (codes "span") [] (Element Nothing (codes "b") [] (Element Nothing (codes "span") [] Nothing)))) (codes "b") [] (Element Nothing (codes "div") [] (Element (Element Nothing (codes "i") [] (Element (Characters (Element Nothing (codes "b") [] (Characters Nothing (codes "y"))) (codes "y")) (codes "i") [] (Element Nothing (codes "b") [] (Characters Nothing (codes "x"))))) (codes "b") [] (Characters Nothing (codes "x")))))))
    ∷ (Element Nothing (codes "dt") [] (Element Nothing (codes "table") [] (Element (Element (Characters Nothing (codes "\n\n")) (codes "caption") (attribute (codes "class") (codes "1") ∷ []) (Element (Characters Nothing (codes " x")) (codes "dt") [] Nothing)) (codes "tbody") [] (Element Nothing (codes "tr") [] (Element Nothing (codes "td") [] (Element (Element (Characters Nothing (codes "y")) (codes "button") [] (Characters Nothing (codes " "))) (codes "dl") [] (Element (Characters Nothing (codes "\nx")) (codes "dt") (attribute (codes "id") (codes "1") ∷ attribute (codes "class") (codes "2") ∷ []) Nothing)))))))
    ∷ (Characters (Element Nothing (codes "var") [] (Characters (Element Nothing (codes "var") [] (Characters Nothing (codes "\nx xxx "))) (codes "x y"))) (codes "\n\n"))
    ∷ (Element (Characters Nothing (codes "\n\n\n\n")) (codes "button") (attribute (codes "class") (codes "2") ∷ attribute (codes "id") (codes "1") ∷ []) Nothing)
    ∷ (Element Nothing (codes "i") [] (Element Nothing (codes "i") [] (Element (Characters (Element Nothing (codes "div") [] (Characters Nothing (codes "y"))) (codes "x")) (codes "i") [] (Element Nothing (codes "i") [] (Element Nothing (codes "i") [] (Element (Element (Characters (Element (Element (Element Nothing (codes "p") [] Nothing) (codes "p") [] Nothing) (codes "div") [] (Element (Characters (Element (Characters Nothing (codes "x")) (codes "p") [] Nothing) (codes "x")) (codes "i") [] (Element Nothing (codes "p") [] (Characters Nothing (codes "x"))))) (codes "x")) (codes "i") [] (Element Nothing (codes "p") [] Nothing)) (codes "div") [] (Element (Element Nothing (codes "i") [] Nothing) (codes "div") [] (Element (Element Nothing (codes "i") [] Nothing) (codes "div") [] (Element (Element Nothing (codes "i") [] (Element (Element Nothing (codes "p") [] Nothing) (codes "p") [] Nothing)) (codes "div") [] (Element (Element Nothing (codes "i") [] Nothing) (codes "div") [] (Characters (Element Nothing (codes "i") [] (Characters Nothing (codes "x"))) (codes "x"))))))))))))
    ∷ (Element Nothing (codes "form") (attribute (codes "class") (codes "1") ∷ []) (Characters Nothing (codes "y\nxx yx y\n\n")))
    ∷ (Element Nothing (codes "a") (attribute (codes "class") (codes "2") ∷ attribute (codes "id") (codes "1") ∷ []) (Element Nothing (codes "form") [] (Element (Characters Nothing (codes "\n\n")) (codes "var") [] (Characters (Element Nothing (codes "small") [] Nothing) (codes " ")))))
    ∷ (Characters Nothing (codes "yx y x "))
    ∷ (Element Nothing (codes "u") (attribute (codes "class") (codes "2") ∷ attribute (codes "id") (codes "1") ∷ []) (Element Nothing (codes "u") (attribute (codes "id") (codes "1") ∷ attribute (codes "class") (codes "2") ∷ []) (Element Nothing (codes "u") (attribute (codes "class") (codes "2") ∷ attribute (codes "id") (codes "1") ∷ []) (Element (Element (Element (Element (Characters (Element Nothing (codes "table") [] Nothing) (codes "yx")) (codes "u") (attribute (codes "id") (codes "1") ∷ attribute (codes "class") (codes "2") ∷ []) Nothing) (codes "table") [] Nothing) (codes "u") (attribute (codes "id") (codes "1") ∷ attribute (codes "class") (codes "2") ∷ []) (Characters Nothing (codes "xx"))) (codes "table") [] Nothing))))
    ∷ []

random_0 : map tree_of random_0_items ≡ random_0_answers
unfolding random_0_items random_0_answers is_among kind_in all_names kind_of near in_front whole_texts without_newlines joined changed changed_before found without applied built bare has_node inside outside without_node is_bounded popped_until implied_ended has_entry without_entry last_named is_one_of are_all_of count_alike without_earliest pushed cleared last_table lost kept reopened ended_by furthest_block replaced inner_loop added_after adopted outer_loop innermost mode_of back_to is_hidden leading_space after_space process run
random_0 = refl

random_1_items : List (List Item)
random_1_items =
    (StartTag (codes "nobr") (attribute (codes "class") (codes "1") ∷ []) ∷ Text (codes "x ") ∷ end (codes "nobr") ∷ start (codes "cite") ∷ StartTag (codes "table") (attribute (codes "id") (codes "1") ∷ attribute (codes "class") (codes "2") ∷ []) ∷ Text (codes "\n\n") ∷ end (codes "table") ∷ end (codes "form") ∷ end (codes "cite") ∷ end (codes "sup") ∷ [])
    ∷ (start (codes "samp") ∷ end (codes "samp") ∷ [])
    ∷ (end (codes "table") ∷ StartTag (codes "tr") (attribute (codes "id") (codes "1") ∷ attribute (codes "class") (codes "2") ∷ []) ∷ start (codes "pre") ∷ [])
    ∷ (StartTag (codes "i") (attribute (codes "class") (codes "2") ∷ attribute (codes "id") (codes "1") ∷ []) ∷ StartTag (codes "i") (attribute (codes "class") (codes "2") ∷ attribute (codes "id") (codes "1") ∷ []) ∷ start (codes "div") ∷ Text (codes "x") ∷ end (codes "div") ∷ end (codes "i") ∷ end (codes "i") ∷ Text (codes "x") ∷ StartTag (codes "i") (attribute (codes "id") (codes "1") ∷ attribute (codes "class") (codes "2") ∷ []) ∷ StartTag (codes "i") (attribute (codes "class") (codes "2") ∷ attribute (codes "id") (codes "1") ∷ []) ∷ StartTag (codes "i") (attribute (codes "id") (codes "1") ∷ attribute (codes "class") (codes "2") ∷ []) ∷ StartTag (codes "i") (attribute (codes "class") (codes "2") ∷ attribute (codes "id") (codes "1") ∷ []) ∷ StartTag (codes "i") (attribute (codes "id") (codes "1") ∷ attribute (codes "class") (codes "2") ∷ []) ∷ start (codes "div") ∷ start (codes "div") ∷ start (codes "div") ∷ Text (codes "x") ∷ end (codes "div") ∷ end (codes "i") ∷ Text (codes "y") ∷ [])
    ∷ (Text (codes "\nx") ∷ StartTag (codes "dl") (attribute (codes "class") (codes "2") ∷ attribute (codes "id") (codes "1") ∷ []) ∷ StartTag (codes "dl") (attribute (codes "id") (codes "1") ∷ attribute (codes "class") (codes "2") ∷ []) ∷ StartTag (codes "embed") (attribute (codes "class") (codes "1") ∷ []) ∷ start (codes "dl") ∷ end (codes "dl") ∷ [])
    ∷ (StartTag (codes "u") (attribute (codes "class") (codes "1") ∷ []) ∷ start (codes "listing") ∷ StartTag (codes "listing") (attribute (codes "id") (codes "1") ∷ attribute (codes "class") (codes "2") ∷ []) ∷ StartTag (codes "label") (attribute (codes "id") (codes "1") ∷ attribute (codes "class") (codes "2") ∷ []) ∷ Text (codes "x") ∷ StartTag (codes "u") (attribute (codes "id") (codes "1") ∷ attribute (codes "class") (codes "2") ∷ []) ∷ Text (codes "\n\n") ∷ end (codes "u") ∷ end (codes "label") ∷ end (codes "listing") ∷ end (codes "listing") ∷ end (codes "u") ∷ [])
    ∷ (start (codes "dir") ∷ start (codes "table") ∷ Text (codes "\n") ∷ [])
    ∷ (start (codes "u") ∷ StartTag (codes "b") (attribute (codes "id") (codes "1") ∷ []) ∷ start (codes "i") ∷ StartTag (codes "i") (attribute (codes "id") (codes "1") ∷ []) ∷ StartTag (codes "i") (attribute (codes "id") (codes "1") ∷ []) ∷ start (codes "p") ∷ start (codes "div") ∷ start (codes "div") ∷ Text (codes "x") ∷ end (codes "b") ∷ end (codes "i") ∷ Text (codes "x") ∷ [])
    ∷ (StartTag (codes "i") (attribute (codes "class") (codes "1") ∷ []) ∷ Text (codes "x y") ∷ StartTag (codes "rtc") (attribute (codes "id") (codes "1") ∷ attribute (codes "class") (codes "2") ∷ []) ∷ end (codes "rtc") ∷ StartTag (codes "i") (attribute (codes "class") (codes "1") ∷ []) ∷ Text (codes "x ") ∷ Text (codes "\n\n") ∷ start (codes "area") ∷ StartTag (codes "area") (attribute (codes "class") (codes "2") ∷ attribute (codes "id") (codes "1") ∷ []) ∷ end (codes "i") ∷ end (codes "i") ∷ [])
    ∷ (StartTag (codes "del") (attribute (codes "id") (codes "1") ∷ attribute (codes "class") (codes "2") ∷ []) ∷ StartTag (codes "area") (attribute (codes "id") (codes "1") ∷ attribute (codes "class") (codes "2") ∷ []) ∷ Text (codes "x y") ∷ Text (codes "\n") ∷ Text (codes "\n\n") ∷ start (codes "i") ∷ Text (codes " x") ∷ Text (codes "\n\n") ∷ Text (codes "x y") ∷ start (codes "pre") ∷ Text (codes "y") ∷ end (codes "pre") ∷ end (codes "i") ∷ end (codes "del") ∷ [])
    ∷ []

random_1_answers : List Tree
random_1_answers =
    (Element (Element Nothing (codes "nobr") (attribute (codes "class") (codes "1") ∷ []) (Characters Nothing (codes "x "))) (codes "cite") [] (Element Nothing (codes "table") (attribute (codes "id") (codes "1") ∷ attribute (codes "class") (codes "2") ∷ []) (Characters Nothing (codes "\n\n"))))
    ∷ (Element Nothing (codes "samp") [] Nothing)
    ∷ (Element Nothing (codes "pre") [] Nothing)
    ∷ (Element (Characters (Element Nothing (codes "i") (attribute (codes "class") (codes "2") ∷ attribute (codes "id") (codes "1") ∷ []) (Element Nothing (codes "i") (attribute (codes "class") (codes "2") ∷ attribute (codes "id") (codes "1") ∷ []) (Element Nothing (codes "div") [] (Characters Nothing (codes "x"))))) (codes "x")) (codes "i") (attribute (codes "id") (codes "1") ∷ attribute (codes "class") (codes "2") ∷ []) (Element Nothing (codes "i") (attribute (codes "class") (codes "2") ∷ attribute (codes "id") (codes "1") ∷ []) (Element Nothing (codes "i") (attribute (codes "id") (codes "1") ∷ attribute (codes "class") (codes "2") ∷ []) (Element Nothing (codes "i") (attribute (codes "class") (codes "2") ∷ attribute (codes "id") (codes "1") ∷ []) (Element (Element Nothing (codes "i") (attribute (codes "id") (codes "1") ∷ attribute (codes "class") (codes "2") ∷ []) Nothing) (codes "div") [] (Element (Element Nothing (codes "i") (attribute (codes "id") (codes "1") ∷ attribute (codes "class") (codes "2") ∷ []) Nothing) (codes "div") [] (Characters (Element Nothing (codes "i") (attribute (codes "id") (codes "1") ∷ attribute (codes "class") (codes "2") ∷ []) (Element Nothing (codes "div") [] (Characters Nothing (codes "x")))) (codes "y"))))))))
    ∷ (Element (Characters Nothing (codes "\nx")) (codes "dl") (attribute (codes "class") (codes "2") ∷ attribute (codes "id") (codes "1") ∷ []) (Element Nothing (codes "dl") (attribute (codes "id") (codes "1") ∷ attribute (codes "class") (codes "2") ∷ []) (Element (Element Nothing (codes "embed") (attribute (codes "class") (codes "1") ∷ []) Nothing) (codes "dl") [] Nothing)))
    ∷ (Element Nothing (codes "u") (attribute (codes "class") (codes "1") ∷ []) (Element Nothing (codes "listing") [] (Element Nothing (codes "listing") (attribute (codes "id") (codes "1") ∷ attribute (codes "class") (codes "2") ∷ []) (Element Nothing (codes "label") (attribute (codes "id") (codes "1") ∷ attribute (codes "class") (codes "2") ∷ []) (Element (Characters Nothing (codes "x")) (codes "u") (attribute (codes "id") (codes "1") ∷ attribute (codes "class") (codes "2") ∷ []) (Characters Nothing (codes "\n\n")))))))
    ∷ (Element Nothing (codes "dir") [] (Element Nothing (codes "table") [] (Characters Nothing (codes "\n"))))
    ∷ (Element Nothing (codes "u") [] (Element (Element Nothing (codes "b") (attribute (codes "id") (codes "1") ∷ []) (Element Nothing (codes "i") [] (Element Nothing (codes "i") (attribute (codes "id") (codes "1") ∷ []) (Element Nothing (codes "i") (attribute (codes "id") (codes "1") ∷ []) (Element Nothing (codes "p") [] Nothing))))) (codes "i") [] (Element Nothing (codes "i") (attribute (codes "id") (codes "1") ∷ []) (Element (Element Nothing (codes "i") (attribute (codes "id") (codes "1") ∷ []) Nothing) (codes "div") [] (Element (Element Nothing (codes "i") (attribute (codes "id") (codes "1") ∷ []) (Element Nothing (codes "b") (attribute (codes "id") (codes "1") ∷ []) Nothing)) (codes "div") [] (Characters (Element Nothing (codes "i") (attribute (codes "id") (codes "1") ∷ []) (Element Nothing (codes "b") (attribute (codes "id") (codes "1") ∷ []) (Characters Nothing (codes "x")))) (codes "x")))))))
    ∷ (Element Nothing (codes "i") (attribute (codes "class") (codes "1") ∷ []) (Element (Element (Characters Nothing (codes "x y")) (codes "rtc") (attribute (codes "id") (codes "1") ∷ attribute (codes "class") (codes "2") ∷ []) Nothing) (codes "i") (attribute (codes "class") (codes "1") ∷ []) (Element (Element (Characters Nothing (codes "x \n\n")) (codes "area") [] Nothing) (codes "area") (attribute (codes "class") (codes "2") ∷ attribute (codes "id") (codes "1") ∷ []) Nothing)))
    ∷ (Element Nothing (codes "del") (attribute (codes "id") (codes "1") ∷ attribute (codes "class") (codes "2") ∷ []) (Element (Characters (Element Nothing (codes "area") (attribute (codes "id") (codes "1") ∷ attribute (codes "class") (codes "2") ∷ []) Nothing) (codes "x y\n\n\n")) (codes "i") [] (Element (Characters Nothing (codes " x\n\nx y")) (codes "pre") [] (Characters Nothing (codes "y")))))
    ∷ []

random_1 : map tree_of random_1_items ≡ random_1_answers
unfolding random_1_items random_1_answers is_among kind_in all_names kind_of near in_front whole_texts without_newlines joined changed changed_before found without applied built bare has_node inside outside without_node is_bounded popped_until implied_ended has_entry without_entry last_named is_one_of are_all_of count_alike without_earliest pushed cleared last_table lost kept reopened ended_by furthest_block replaced inner_loop added_after adopted outer_loop innermost mode_of back_to is_hidden leading_space after_space process run
random_1 = refl

random_2_items : List (List Item)
random_2_items =
    (end (codes "sub") ∷ end (codes "section") ∷ StartTag (codes "td") (attribute (codes "id") (codes "1") ∷ attribute (codes "class") (codes "2") ∷ []) ∷ StartTag (codes "h3") (attribute (codes "class") (codes "1") ∷ []) ∷ start (codes "tr") ∷ end (codes "td") ∷ start (codes "td") ∷ end (codes "td") ∷ end (codes "tr") ∷ Text (codes " ") ∷ start (codes "section") ∷ [])
    ∷ (StartTag (codes "nobr") (attribute (codes "class") (codes "2") ∷ attribute (codes "id") (codes "1") ∷ []) ∷ StartTag (codes "nobr") (attribute (codes "class") (codes "2") ∷ attribute (codes "id") (codes "1") ∷ []) ∷ start (codes "span") ∷ start (codes "span") ∷ Text (codes "x") ∷ end (codes "span") ∷ end (codes "span") ∷ end (codes "nobr") ∷ Text (codes "x") ∷ StartTag (codes "nobr") (attribute (codes "id") (codes "1") ∷ attribute (codes "class") (codes "2") ∷ []) ∷ StartTag (codes "nobr") (attribute (codes "id") (codes "1") ∷ attribute (codes "class") (codes "2") ∷ []) ∷ StartTag (codes "nobr") (attribute (codes "class") (codes "2") ∷ attribute (codes "id") (codes "1") ∷ []) ∷ StartTag (codes "nobr") (attribute (codes "class") (codes "2") ∷ attribute (codes "id") (codes "1") ∷ []) ∷ StartTag (codes "nobr") (attribute (codes "class") (codes "2") ∷ attribute (codes "id") (codes "1") ∷ []) ∷ start (codes "div") ∷ start (codes "div") ∷ start (codes "div") ∷ Text (codes "x") ∷ end (codes "nobr") ∷ Text (codes "y") ∷ StartTag (codes "nobr") (attribute (codes "id") (codes "1") ∷ attribute (codes "class") (codes "2") ∷ []) ∷ start (codes "div") ∷ Text (codes "y") ∷ end (codes "nobr") ∷ end (codes "nobr") ∷ Text (codes "y") ∷ StartTag (codes "nobr") (attribute (codes "id") (codes "1") ∷ attribute (codes "class") (codes "2") ∷ []) ∷ StartTag (codes "nobr") (attribute (codes "id") (codes "1") ∷ attribute (codes "class") (codes "2") ∷ []) ∷ StartTag (codes "nobr") (attribute (codes "id") (codes "1") ∷ attribute (codes "class") (codes "2") ∷ []) ∷ start (codes "b") ∷ Text (codes "y") ∷ end (codes "div") ∷ end (codes "span") ∷ end (codes "b") ∷ Text (codes "x") ∷ StartTag (codes "nobr") (attribute (codes "id") (codes "1") ∷ attribute (codes "class") (codes "2") ∷ []) ∷ StartTag (codes "nobr") (attribute (codes "id") (codes "1") ∷ attribute (codes "class") (codes "2") ∷ []) ∷ StartTag (codes "nobr") (attribute (codes "id") (codes "1") ∷ attribute (codes "class") (codes "2") ∷ []) ∷ start (codes "b") ∷ Text (codes "x") ∷ end (codes "nobr") ∷ Text (codes "x") ∷ [])
    ∷ (start (codes "h4") ∷ start (codes "dd") ∷ Text (codes " x") ∷ end (codes "dd") ∷ start (codes "article") ∷ end (codes "article") ∷ start (codes "dd") ∷ end (codes "dd") ∷ Text (codes "\n\n") ∷ Text (codes "x y") ∷ [])
    ∷ (StartTag (codes "h4") (attribute (codes "id") (codes "1") ∷ attribute (codes "class") (codes "2") ∷ []) ∷ StartTag (codes "table") (attribute (codes "class") (codes "2") ∷ attribute (codes "id") (codes "1") ∷ []) ∷ start (codes "caption") ∷ Text (codes "y") ∷ Text (codes "x") ∷ end (codes "caption") ∷ StartTag (codes "tbody") (attribute (codes "id") (codes "1") ∷ attribute (codes "class") (codes "2") ∷ []) ∷ end (codes "tbody") ∷ end (codes "table") ∷ Text (codes "x") ∷ StartTag (codes "table") (attribute (codes "class") (codes "2") ∷ attribute (codes "id") (codes "1") ∷ []) ∷ start (codes "tbody") ∷ end (codes "tbody") ∷ end (codes "table") ∷ end (codes "h4") ∷ [])
    ∷ (start (codes "tr") ∷ end (codes "picture") ∷ start (codes "thead") ∷ StartTag (codes "table") (attribute (codes "id") (codes "1") ∷ attribute (codes "class") (codes "2") ∷ []) ∷ Text [] ∷ end (codes "thead") ∷ end (codes "tr") ∷ StartTag (codes "caption") (attribute (codes "class") (codes "1") ∷ []) ∷ start (codes "rb") ∷ end (codes "rb") ∷ start (codes "picture") ∷ end (codes "caption") ∷ Text (codes "x ") ∷ [])
    ∷ (StartTag (codes "nobr") (attribute (codes "id") (codes "1") ∷ []) ∷ StartTag (codes "nobr") (attribute (codes "id") (codes "1") ∷ []) ∷ start (codes "div") ∷ start (codes "span") ∷ start (codes "span") ∷ Text (codes "y") ∷ end (codes "nobr") ∷ end (codes "b") ∷ Text (codes "x") ∷ start (codes "nobr") ∷ StartTag (codes "nobr") (attribute (codes "id") (codes "1") ∷ []) ∷ start (codes "nobr") ∷ start (codes "nobr") ∷ StartTag (codes "nobr") (attribute (codes "id") (codes "1") ∷ []) ∷ start (codes "div") ∷ Text (codes "y") ∷ end (codes "div") ∷ Text (codes "y") ∷ StartTag (codes "nobr") (attribute (codes "id") (codes "1") ∷ []) ∷ StartTag (codes "nobr") (attribute (codes "id") (codes "1") ∷ []) ∷ StartTag (codes "nobr") (attribute (codes "id") (codes "1") ∷ []) ∷ StartTag (codes "nobr") (attribute (codes "id") (codes "1") ∷ []) ∷ StartTag (codes "nobr") (attribute (codes "id") (codes "1") ∷ []) ∷ start (codes "span") ∷ start (codes "span") ∷ start (codes "span") ∷ start (codes "span") ∷ start (codes "div") ∷ start (codes "span") ∷ start (codes "span") ∷ start (codes "b") ∷ Text (codes "y") ∷ end (codes "nobr") ∷ end (codes "nobr") ∷ Text (codes "x") ∷ [])
    ∷ (StartTag (codes "tfoot") (attribute (codes "class") (codes "2") ∷ attribute (codes "id") (codes "1") ∷ []) ∷ end (codes "tfoot") ∷ start (codes "listing") ∷ end (codes "listing") ∷ Text (codes "\n") ∷ end (codes "listing") ∷ start (codes "listing") ∷ end (codes "listing") ∷ Text (codes "y") ∷ Text (codes "x ") ∷ Text (codes "x") ∷ Text [] ∷ Text (codes " x") ∷ Text (codes " ") ∷ start (codes "listing") ∷ [])
    ∷ (StartTag (codes "small") (attribute (codes "class") (codes "1") ∷ []) ∷ end (codes "small") ∷ StartTag (codes "ul") (attribute (codes "class") (codes "1") ∷ []) ∷ StartTag (codes "a") (attribute (codes "class") (codes "2") ∷ attribute (codes "id") (codes "1") ∷ []) ∷ end (codes "a") ∷ end (codes "ul") ∷ start (codes "rt") ∷ Text (codes "x ") ∷ start (codes "form") ∷ StartTag (codes "dd") (attribute (codes "class") (codes "1") ∷ []) ∷ start (codes "ol") ∷ end (codes "ol") ∷ end (codes "dd") ∷ end (codes "form") ∷ end (codes "rt") ∷ [])
    ∷ (Text (codes "\n\n") ∷ start (codes "bdi") ∷ end (codes "bdi") ∷ start (codes "bdi") ∷ StartTag (codes "a") (attribute (codes "id") (codes "1") ∷ attribute (codes "class") (codes "2") ∷ []) ∷ [])
    ∷ (start (codes "a") ∷ start (codes "a") ∷ start (codes "a") ∷ start (codes "a") ∷ start (codes "a") ∷ start (codes "div") ∷ Text (codes "y") ∷ end (codes "span") ∷ end (codes "div") ∷ Text (codes "y") ∷ start (codes "a") ∷ start (codes "a") ∷ start (codes "a") ∷ start (codes "a") ∷ start (codes "a") ∷ start (codes "div") ∷ Text (codes "y") ∷ end (codes "div") ∷ end (codes "b") ∷ end (codes "a") ∷ Text (codes "y") ∷ [])
    ∷ []

random_2_answers : List Tree
random_2_answers =
    (Element Nothing (codes "h3") (attribute (codes "class") (codes "1") ∷ []) (Element (Characters Nothing (codes " ")) (codes "section") [] Nothing))
    ∷ (Element (Element (Element (Element (Element (Element (Characters (Element (Element Nothing (codes "nobr") (attribute (codes "class") (codes "2") ∷ attribute (codes "id") (codes "1") ∷ []) Nothing) (codes "nobr") (attribute (codes "class") (codes "2") ∷ attribute (codes "id") (codes "1") ∷ []) (Element Nothing (codes "span") [] (Element Nothing (codes "span") [] (Characters Nothing (codes "x"))))) (codes "x")) (codes "nobr") (attribute (codes "id") (codes "1") ∷ attribute (codes "class") (codes "2") ∷ []) Nothing) (codes "nobr") (attribute (codes "id") (codes "1") ∷ attribute (codes "class") (codes "2") ∷ []) Nothing) (codes "nobr") (attribute (codes "class") (codes "2") ∷ attribute (codes "id") (codes "1") ∷ []) Nothing) (codes "nobr") (attribute (codes "class") (codes "2") ∷ attribute (codes "id") (codes "1") ∷ []) Nothing) (codes "nobr") (attribute (codes "class") (codes "2") ∷ attribute (codes "id") (codes "1") ∷ []) Nothing) (codes "div") [] (Element (Element Nothing (codes "nobr") (attribute (codes "class") (codes "2") ∷ attribute (codes "id") (codes "1") ∷ []) Nothing) (codes "div") [] (Element (Element Nothing (codes "nobr") (attribute (codes "class") (codes "2") ∷ attribute (codes "id") (codes "1") ∷ []) Nothing) (codes "div") [] (Element (Element (Element (Element (Element (Element (Element (Characters (Element Nothing (codes "nobr") (attribute (codes "class") (codes "2") ∷ attribute (codes "id") (codes "1") ∷ []) (Characters Nothing (codes "x"))) (codes "y")) (codes "nobr") (attribute (codes "id") (codes "1") ∷ attribute (codes "class") (codes "2") ∷ []) Nothing) (codes "div") [] (Element (Element (Element (Characters (Element Nothing (codes "nobr") (attribute (codes "id") (codes "1") ∷ attribute (codes "class") (codes "2") ∷ []) (Characters Nothing (codes "y"))) (codes "y")) (codes "nobr") (attribute (codes "id") (codes "1") ∷ attribute (codes "class") (codes "2") ∷ []) Nothing) (codes "nobr") (attribute (codes "id") (codes "1") ∷ attribute (codes "class") (codes "2") ∷ []) Nothing) (codes "nobr") (attribute (codes "id") (codes "1") ∷ attribute (codes "class") (codes "2") ∷ []) (Element Nothing (codes "b") [] (Characters Nothing (codes "y"))))) (codes "nobr") (attribute (codes "id") (codes "1") ∷ attribute (codes "class") (codes "2") ∷ []) (Characters Nothing (codes "x"))) (codes "nobr") (attribute (codes "id") (codes "1") ∷ attribute (codes "class") (codes "2") ∷ []) Nothing) (codes "nobr") (attribute (codes "id") (codes "1") ∷ attribute (codes "class") (codes "2") ∷ []) Nothing) (codes "nobr") (attribute (codes "id") (codes "1") ∷ attribute (codes "class") (codes "2") ∷ []) (Element Nothing (codes "b") [] (Characters Nothing (codes "x")))) (codes "b") [] (Characters Nothing (codes "x"))))))
    ∷ (Element Nothing (codes "h4") [] (Characters (Element (Element (Element Nothing (codes "dd") [] (Characters Nothing (codes " x"))) (codes "article") [] Nothing) (codes "dd") [] Nothing) (codes "\n\nx y")))
    ∷ (Element Nothing (codes "h4") (attribute (codes "id") (codes "1") ∷ attribute (codes "class") (codes "2") ∷ []) (Element (Characters (Element Nothing (codes "table") (attribute (codes "class") (codes "2") ∷ attribute (codes "id") (codes "1") ∷ []) (Element (Element Nothing (codes "caption") [] (Characters Nothing (codes "yx"))) (codes "tbody") (attribute (codes "id") (codes "1") ∷ attribute (codes "class") (codes "2") ∷ []) Nothing)) (codes "x")) (codes "table") (attribute (codes "class") (codes "2") ∷ attribute (codes "id") (codes "1") ∷ []) (Element Nothing (codes "tbody") [] Nothing)))
    ∷ (Element (Characters Nothing (codes "x ")) (codes "table") (attribute (codes "id") (codes "1") ∷ attribute (codes "class") (codes "2") ∷ []) (Element Nothing (codes "caption") (attribute (codes "class") (codes "1") ∷ []) (Element (Element Nothing (codes "rb") [] Nothing) (codes "picture") [] Nothing)))
    ∷ (Element (Element (Element Nothing (codes "nobr") (attribute (codes "id") (codes "1") ∷ []) Nothing) (codes "nobr") (attribute (codes "id") (codes "1") ∷ []) Nothing) (codes "div") [] (Element (Element (Element (Element (Element (Element (Element (Element (Element (Element (Element (Characters (Element Nothing (codes "nobr") (attribute (codes "id") (codes "1") ∷ []) (Element Nothing (codes "span") [] (Element Nothing (codes "span") [] (Characters Nothing (codes "y"))))) (codes "x")) (codes "nobr") [] Nothing) (codes "nobr") (attribute (codes "id") (codes "1") ∷ []) Nothing) (codes "nobr") [] Nothing) (codes "nobr") [] Nothing) (codes "nobr") (attribute (codes "id") (codes "1") ∷ []) (Characters (Element Nothing (codes "div") [] (Characters Nothing (codes "y"))) (codes "y"))) (codes "nobr") (attribute (codes "id") (codes "1") ∷ []) Nothing) (codes "nobr") (attribute (codes "id") (codes "1") ∷ []) Nothing) (codes "nobr") (attribute (codes "id") (codes "1") ∷ []) Nothing) (codes "nobr") (attribute (codes "id") (codes "1") ∷ []) Nothing) (codes "nobr") (attribute (codes "id") (codes "1") ∷ []) (Element Nothing (codes "span") [] (Element Nothing (codes "span") [] (Element Nothing (codes "span") [] (Element Nothing (codes "span") [] Nothing))))) (codes "div") [] (Element (Element Nothing (codes "nobr") (attribute (codes "id") (codes "1") ∷ []) (Element Nothing (codes "span") [] (Element Nothing (codes "span") [] (Element Nothing (codes "b") [] (Characters Nothing (codes "y")))))) (codes "b") [] (Characters Nothing (codes "x")))))
    ∷ (Element (Characters (Element (Characters (Element Nothing (codes "listing") [] Nothing) (codes "\n")) (codes "listing") [] Nothing) (codes "yx x x ")) (codes "listing") [] Nothing)
    ∷ (Element (Element (Element Nothing (codes "small") (attribute (codes "class") (codes "1") ∷ []) Nothing) (codes "ul") (attribute (codes "class") (codes "1") ∷ []) (Element Nothing (codes "a") (attribute (codes "class") (codes "2") ∷ attribute (codes "id") (codes "1") ∷ []) Nothing)) (codes "rt") [] (Element (Characters Nothing (codes "x ")) (codes "form") [] (Element Nothing (codes "dd") (attribute (codes "class") (codes "1") ∷ []) (Element Nothing (codes "ol") [] Nothing))))
    ∷ (Element (Element (Characters Nothing (codes "\n\n")) (codes "bdi") [] Nothing) (codes "bdi") [] (Element Nothing (codes "a") (attribute (codes "id") (codes "1") ∷ attribute (codes "class") (codes "2") ∷ []) Nothing))
    ∷ (Characters (Element (Element (Element (Element (Element (Element (Element (Element (Element (Element Nothing (codes "a") [] Nothing) (codes "a") [] Nothing) (codes "a") [] Nothing) (codes "a") [] Nothing) (codes "a") [] (Characters (Element Nothing (codes "div") [] (Characters Nothing (codes "y"))) (codes "y"))) (codes "a") [] Nothing) (codes "a") [] Nothing) (codes "a") [] Nothing) (codes "a") [] Nothing) (codes "a") [] (Element Nothing (codes "div") [] (Characters Nothing (codes "y")))) (codes "y"))
    ∷ []

random_2 : map tree_of random_2_items ≡ random_2_answers
unfolding random_2_items random_2_answers is_among kind_in all_names kind_of near in_front whole_texts without_newlines joined changed changed_before found without applied built bare has_node inside outside without_node is_bounded popped_until implied_ended has_entry without_entry last_named is_one_of are_all_of count_alike without_earliest pushed cleared last_table lost kept reopened ended_by furthest_block replaced inner_loop added_after adopted outer_loop innermost mode_of back_to is_hidden leading_space after_space process run
random_2 = refl

random_3_items : List (List Item)
random_3_items =
    (StartTag (codes "nobr") (attribute (codes "class") (codes "2") ∷ attribute (codes "id") (codes "1") ∷ []) ∷ end (codes "nobr") ∷ start (codes "table") ∷ StartTag (codes "colgroup") (attribute (codes "class") (codes "2") ∷ attribute (codes "id") (codes "1") ∷ []) ∷ StartTag (codes "col") (attribute (codes "class") (codes "2") ∷ attribute (codes "id") (codes "1") ∷ []) ∷ end (codes "table") ∷ StartTag (codes "col") (attribute (codes "class") (codes "1") ∷ []) ∷ end (codes "colgroup") ∷ start (codes "rb") ∷ start (codes "rb") ∷ StartTag (codes "rb") (attribute (codes "class") (codes "2") ∷ attribute (codes "id") (codes "1") ∷ []) ∷ start (codes "nobr") ∷ StartTag (codes "nobr") (attribute (codes "class") (codes "1") ∷ []) ∷ StartTag (codes "table") (attribute (codes "id") (codes "1") ∷ attribute (codes "class") (codes "2") ∷ []) ∷ [])
    ∷ (start (codes "h3") ∷ end (codes "h3") ∷ [])
    ∷ (StartTag (codes "li") (attribute (codes "class") (codes "2") ∷ attribute (codes "id") (codes "1") ∷ []) ∷ end (codes "li") ∷ StartTag (codes "tr") (attribute (codes "class") (codes "2") ∷ attribute (codes "id") (codes "1") ∷ []) ∷ end (codes "table") ∷ [])
    ∷ (StartTag (codes "nobr") (attribute (codes "id") (codes "1") ∷ []) ∷ StartTag (codes "nobr") (attribute (codes "id") (codes "1") ∷ []) ∷ start (codes "div") ∷ start (codes "div") ∷ start (codes "div") ∷ start (codes "div") ∷ start (codes "div") ∷ start (codes "div") ∷ start (codes "div") ∷ start (codes "div") ∷ Text (codes "x") ∷ end (codes "nobr") ∷ Text (codes "x") ∷ StartTag (codes "nobr") (attribute (codes "id") (codes "1") ∷ []) ∷ start (codes "nobr") ∷ start (codes "div") ∷ start (codes "div") ∷ Text (codes "y") ∷ end (codes "nobr") ∷ end (codes "div") ∷ end (codes "div") ∷ Text (codes "x") ∷ [])
    ∷ (StartTag (codes "dd") (attribute (codes "class") (codes "1") ∷ []) ∷ start (codes "dd") ∷ end (codes "dd") ∷ StartTag (codes "tr") (attribute (codes "class") (codes "1") ∷ []) ∷ end (codes "tr") ∷ end (codes "dd") ∷ start (codes "tr") ∷ end (codes "tr") ∷ end (codes "tr") ∷ start (codes "tr") ∷ [])
    ∷ (start (codes "table") ∷ start (codes "tbody") ∷ Text (codes "\n") ∷ end (codes "tbody") ∷ end (codes "table") ∷ start (codes "table") ∷ end (codes "table") ∷ [])
    ∷ (start (codes "dt") ∷ StartTag (codes "small") (attribute (codes "id") (codes "1") ∷ attribute (codes "class") (codes "2") ∷ []) ∷ end (codes "small") ∷ start (codes "li") ∷ end (codes "small") ∷ StartTag (codes "dt") (attribute (codes "class") (codes "2") ∷ attribute (codes "id") (codes "1") ∷ []) ∷ Text (codes "x y") ∷ end (codes "dt") ∷ Text (codes "\n") ∷ end (codes "col") ∷ end (codes "li") ∷ [])
    ∷ (start (codes "a") ∷ StartTag (codes "a") (attribute (codes "id") (codes "1") ∷ []) ∷ start (codes "a") ∷ start (codes "a") ∷ start (codes "a") ∷ start (codes "table") ∷ start (codes "td") ∷ start (codes "table") ∷ start (codes "table") ∷ start (codes "tr") ∷ start (codes "tr") ∷ start (codes "td") ∷ start (codes "tr") ∷ Text (codes "y") ∷ end (codes "a") ∷ end (codes "tr") ∷ Text (codes "x") ∷ [])
    ∷ (Text [] ∷ start (codes "form") ∷ end (codes "form") ∷ [])
    ∷ (Text (codes "x") ∷ Text (codes "y") ∷ [])
    ∷ []

random_3_answers : List Tree
random_3_answers =
    (Element (Element (Element Nothing (codes "nobr") (attribute (codes "class") (codes "2") ∷ attribute (codes "id") (codes "1") ∷ []) Nothing) (codes "table") [] (Element Nothing (codes "colgroup") (attribute (codes "class") (codes "2") ∷ attribute (codes "id") (codes "1") ∷ []) (Element Nothing (codes "col") (attribute (codes "class") (codes "2") ∷ attribute (codes "id") (codes "1") ∷ []) Nothing))) (codes "rb") [] (Element Nothing (codes "rb") [] (Element Nothing (codes "rb") (attribute (codes "class") (codes "2") ∷ attribute (codes "id") (codes "1") ∷ []) (Element (Element Nothing (codes "nobr") [] Nothing) (codes "nobr") (attribute (codes "class") (codes "1") ∷ []) (Element Nothing (codes "table") (attribute (codes "id") (codes "1") ∷ attribute (codes "class") (codes "2") ∷ []) Nothing)))))
    ∷ (Element Nothing (codes "h3") [] Nothing)
    ∷ (Element Nothing (codes "li") (attribute (codes "class") (codes "2") ∷ attribute (codes "id") (codes "1") ∷ []) Nothing)
    ∷ (Element (Element (Element Nothing (codes "nobr") (attribute (codes "id") (codes "1") ∷ []) Nothing) (codes "nobr") (attribute (codes "id") (codes "1") ∷ []) Nothing) (codes "div") [] (Element (Element Nothing (codes "nobr") (attribute (codes "id") (codes "1") ∷ []) Nothing) (codes "div") [] (Element (Element Nothing (codes "nobr") (attribute (codes "id") (codes "1") ∷ []) Nothing) (codes "div") [] (Element (Element Nothing (codes "nobr") (attribute (codes "id") (codes "1") ∷ []) Nothing) (codes "div") [] (Element (Element Nothing (codes "nobr") (attribute (codes "id") (codes "1") ∷ []) Nothing) (codes "div") [] (Element (Element Nothing (codes "nobr") (attribute (codes "id") (codes "1") ∷ []) Nothing) (codes "div") [] (Element (Element Nothing (codes "nobr") (attribute (codes "id") (codes "1") ∷ []) Nothing) (codes "div") [] (Element (Element Nothing (codes "nobr") (attribute (codes "id") (codes "1") ∷ []) Nothing) (codes "div") [] (Characters (Element (Element (Element (Element Nothing (codes "nobr") (attribute (codes "id") (codes "1") ∷ []) (Characters Nothing (codes "xx"))) (codes "nobr") (attribute (codes "id") (codes "1") ∷ []) Nothing) (codes "nobr") [] Nothing) (codes "div") [] (Element (Element Nothing (codes "nobr") [] Nothing) (codes "div") [] (Element Nothing (codes "nobr") [] (Characters Nothing (codes "y"))))) (codes "x"))))))))))
    ∷ (Element (Element Nothing (codes "dd") (attribute (codes "class") (codes "1") ∷ []) Nothing) (codes "dd") [] Nothing)
    ∷ (Element (Element Nothing (codes "table") [] (Element Nothing (codes "tbody") [] (Characters Nothing (codes "\n")))) (codes "table") [] Nothing)
    ∷ (Element Nothing (codes "dt") [] (Element (Element Nothing (codes "small") (attribute (codes "id") (codes "1") ∷ attribute (codes "class") (codes "2") ∷ []) Nothing) (codes "li") [] (Characters (Element Nothing (codes "dt") (attribute (codes "class") (codes "2") ∷ attribute (codes "id") (codes "1") ∷ []) (Characters Nothing (codes "x y"))) (codes "\n"))))
    ∷ (Element (Element (Element (Element (Element Nothing (codes "a") [] Nothing) (codes "a") (attribute (codes "id") (codes "1") ∷ []) Nothing) (codes "a") [] Nothing) (codes "a") [] Nothing) (codes "a") [] (Element Nothing (codes "table") [] (Element Nothing (codes "tbody") [] (Element Nothing (codes "tr") [] (Element Nothing (codes "td") [] (Element (Characters (Element Nothing (codes "table") [] Nothing) (codes "yx")) (codes "table") [] (Element Nothing (codes "tbody") [] (Element (Element (Element Nothing (codes "tr") [] Nothing) (codes "tr") [] (Element Nothing (codes "td") [] Nothing)) (codes "tr") [] Nothing))))))))
    ∷ (Element Nothing (codes "form") [] Nothing)
    ∷ (Characters Nothing (codes "xy"))
    ∷ []

random_3 : map tree_of random_3_items ≡ random_3_answers
unfolding random_3_items random_3_answers is_among kind_in all_names kind_of near in_front whole_texts without_newlines joined changed changed_before found without applied built bare has_node inside outside without_node is_bounded popped_until implied_ended has_entry without_entry last_named is_one_of are_all_of count_alike without_earliest pushed cleared last_table lost kept reopened ended_by furthest_block replaced inner_loop added_after adopted outer_loop innermost mode_of back_to is_hidden leading_space after_space process run
random_3 = refl

random_4_items : List (List Item)
random_4_items =
    (Text (codes " ") ∷ Text (codes "x y") ∷ end (codes "pre") ∷ [])
    ∷ (StartTag (codes "a") (attribute (codes "class") (codes "2") ∷ attribute (codes "id") (codes "1") ∷ []) ∷ StartTag (codes "nobr") (attribute (codes "class") (codes "2") ∷ attribute (codes "id") (codes "1") ∷ []) ∷ StartTag (codes "nobr") (attribute (codes "class") (codes "2") ∷ attribute (codes "id") (codes "1") ∷ []) ∷ StartTag (codes "nobr") (attribute (codes "id") (codes "1") ∷ attribute (codes "class") (codes "2") ∷ []) ∷ StartTag (codes "nobr") (attribute (codes "class") (codes "2") ∷ attribute (codes "id") (codes "1") ∷ []) ∷ start (codes "table") ∷ Text (codes "y") ∷ end (codes "nobr") ∷ end (codes "table") ∷ Text (codes "y") ∷ StartTag (codes "a") (attribute (codes "id") (codes "1") ∷ attribute (codes "class") (codes "2") ∷ []) ∷ StartTag (codes "a") (attribute (codes "class") (codes "2") ∷ attribute (codes "id") (codes "1") ∷ []) ∷ StartTag (codes "a") (attribute (codes "id") (codes "1") ∷ attribute (codes "class") (codes "2") ∷ []) ∷ StartTag (codes "a") (attribute (codes "class") (codes "2") ∷ attribute (codes "id") (codes "1") ∷ []) ∷ StartTag (codes "nobr") (attribute (codes "class") (codes "2") ∷ attribute (codes "id") (codes "1") ∷ []) ∷ start (codes "div") ∷ Text (codes "x") ∷ end (codes "a") ∷ end (codes "nobr") ∷ Text (codes "x") ∷ StartTag (codes "nobr") (attribute (codes "id") (codes "1") ∷ attribute (codes "class") (codes "2") ∷ []) ∷ StartTag (codes "a") (attribute (codes "class") (codes "2") ∷ attribute (codes "id") (codes "1") ∷ []) ∷ StartTag (codes "a") (attribute (codes "class") (codes "2") ∷ attribute (codes "id") (codes "1") ∷ []) ∷ start (codes "div") ∷ start (codes "div") ∷ start (codes "table") ∷ start (codes "table") ∷ start (codes "div") ∷ start (codes "div") ∷ start (codes "table") ∷ start (codes "div") ∷ Text (codes "x") ∷ end (codes "a") ∷ end (codes "table") ∷ Text (codes "x") ∷ [])
    ∷ (end (codes "data") ∷ end (codes "data") ∷ start (codes "pre") ∷ start (codes "pre") ∷ start (codes "pre") ∷ start (codes "data") ∷ Text (codes "\n\n") ∷ end (codes "pre") ∷ end (codes "pre") ∷ Text (codes "x y") ∷ Text (codes "\n") ∷ StartTag (codes "pre") (attribute (codes "id") (codes "1") ∷ attribute (codes "class") (codes "2") ∷ []) ∷ start (codes "pre") ∷ end (codes "pre") ∷ StartTag (codes "data") (attribute (codes "class") (codes "1") ∷ []) ∷ Text (codes "\n") ∷ [])
    ∷ (start (codes "br") ∷ Text [] ∷ Text [] ∷ Text (codes "y") ∷ Text (codes "\n") ∷ Text (codes "\n\n") ∷ Text (codes "x ") ∷ Text (codes "\n") ∷ start (codes "br") ∷ StartTag (codes "i") (attribute (codes "class") (codes "2") ∷ attribute (codes "id") (codes "1") ∷ []) ∷ Text (codes "x y") ∷ end (codes "i") ∷ [])
    ∷ (Text (codes "x") ∷ end (codes "rtc") ∷ StartTag (codes "u") (attribute (codes "class") (codes "1") ∷ []) ∷ end (codes "dd") ∷ Text (codes " ") ∷ end (codes "u") ∷ end (codes "table") ∷ Text (codes "y") ∷ StartTag (codes "var") (attribute (codes "id") (codes "1") ∷ attribute (codes "class") (codes "2") ∷ []) ∷ Text (codes "y") ∷ Text (codes "x y") ∷ end (codes "var") ∷ [])
    ∷ (start (codes "i") ∷ start (codes "nobr") ∷ start (codes "nobr") ∷ start (codes "tr") ∷ Text (codes "x") ∷ end (codes "i") ∷ end (codes "i") ∷ end (codes "b") ∷ Text (codes "y") ∷ start (codes "b") ∷ start (codes "i") ∷ start (codes "b") ∷ start (codes "b") ∷ start (codes "b") ∷ start (codes "td") ∷ start (codes "td") ∷ start (codes "td") ∷ start (codes "td") ∷ start (codes "table") ∷ start (codes "table") ∷ start (codes "table") ∷ start (codes "td") ∷ Text (codes "y") ∷ end (codes "i") ∷ end (codes "i") ∷ end (codes "b") ∷ Text (codes "y") ∷ start (codes "nobr") ∷ start (codes "i") ∷ start (codes "tr") ∷ start (codes "table") ∷ start (codes "td") ∷ Text (codes "x") ∷ end (codes "b") ∷ end (codes "b") ∷ Text (codes "y") ∷ start (codes "i") ∷ start (codes "i") ∷ start (codes "i") ∷ start (codes "nobr") ∷ start (codes "b") ∷ start (codes "td") ∷ Text (codes "x") ∷ end (codes "table") ∷ Text (codes "x") ∷ start (codes "i") ∷ start (codes "table") ∷ start (codes "tr") ∷ start (codes "td") ∷ start (codes "td") ∷ start (codes "td") ∷ start (codes "table") ∷ start (codes "tr") ∷ start (codes "tr") ∷ Text (codes "y") ∷ end (codes "nobr") ∷ end (codes "td") ∷ Text (codes "y") ∷ [])
    ∷ (Text (codes "y") ∷ end (codes "wbr") ∷ StartTag (codes "li") (attribute (codes "class") (codes "2") ∷ attribute (codes "id") (codes "1") ∷ []) ∷ [])
    ∷ (start (codes "center") ∷ end (codes "center") ∷ [])
    ∷ (StartTag (codes "col") (attribute (codes "class") (codes "2") ∷ attribute (codes "id") (codes "1") ∷ []) ∷ StartTag (codes "div") (attribute (codes "id") (codes "1") ∷ attribute (codes "class") (codes "2") ∷ []) ∷ start (codes "col") ∷ Text (codes "x ") ∷ Text [] ∷ start (codes "rtc") ∷ end (codes "div") ∷ end (codes "rtc") ∷ end (codes "u") ∷ start (codes "ruby") ∷ Text (codes "x") ∷ end (codes "ruby") ∷ end (codes "col") ∷ start (codes "col") ∷ end (codes "col") ∷ Text (codes "x y") ∷ start (codes "b") ∷ [])
    ∷ (start (codes "u") ∷ start (codes "div") ∷ start (codes "div") ∷ start (codes "p") ∷ start (codes "div") ∷ start (codes "div") ∷ start (codes "p") ∷ start (codes "div") ∷ start (codes "div") ∷ Text (codes "y") ∷ end (codes "p") ∷ end (codes "p") ∷ Text (codes "y") ∷ start (codes "b") ∷ start (codes "p") ∷ start (codes "div") ∷ Text (codes "x") ∷ end (codes "u") ∷ Text (codes "x") ∷ start (codes "b") ∷ start (codes "u") ∷ start (codes "div") ∷ Text (codes "x") ∷ end (codes "div") ∷ end (codes "p") ∷ Text (codes "y") ∷ [])
    ∷ []

random_4_answers : List Tree
random_4_answers =
    (Characters Nothing (codes " x y"))
    ∷ (Element (Element (Element (Element (Element Nothing (codes "a") (attribute (codes "class") (codes "2") ∷ attribute (codes "id") (codes "1") ∷ []) (Element (Element (Element (Element Nothing (codes "nobr") (attribute (codes "class") (codes "2") ∷ attribute (codes "id") (codes "1") ∷ []) Nothing) (codes "nobr") (attribute (codes "class") (codes "2") ∷ attribute (codes "id") (codes "1") ∷ []) Nothing) (codes "nobr") (attribute (codes "id") (codes "1") ∷ attribute (codes "class") (codes "2") ∷ []) Nothing) (codes "nobr") (attribute (codes "class") (codes "2") ∷ attribute (codes "id") (codes "1") ∷ []) (Characters (Element (Characters Nothing (codes "y")) (codes "table") [] Nothing) (codes "y")))) (codes "nobr") (attribute (codes "class") (codes "2") ∷ attribute (codes "id") (codes "1") ∷ []) (Element (Element (Element (Element Nothing (codes "a") (attribute (codes "id") (codes "1") ∷ attribute (codes "class") (codes "2") ∷ []) Nothing) (codes "a") (attribute (codes "class") (codes "2") ∷ attribute (codes "id") (codes "1") ∷ []) Nothing) (codes "a") (attribute (codes "id") (codes "1") ∷ attribute (codes "class") (codes "2") ∷ []) Nothing) (codes "a") (attribute (codes "class") (codes "2") ∷ attribute (codes "id") (codes "1") ∷ []) Nothing)) (codes "a") (attribute (codes "class") (codes "2") ∷ attribute (codes "id") (codes "1") ∷ []) (Element Nothing (codes "nobr") (attribute (codes "class") (codes "2") ∷ attribute (codes "id") (codes "1") ∷ []) Nothing)) (codes "nobr") (attribute (codes "class") (codes "2") ∷ attribute (codes "id") (codes "1") ∷ []) Nothing) (codes "div") [] (Element (Characters (Element Nothing (codes "nobr") (attribute (codes "class") (codes "2") ∷ attribute (codes "id") (codes "1") ∷ []) (Element Nothing (codes "a") (attribute (codes "class") (codes "2") ∷ attribute (codes "id") (codes "1") ∷ []) (Characters Nothing (codes "x")))) (codes "x")) (codes "nobr") (attribute (codes "id") (codes "1") ∷ attribute (codes "class") (codes "2") ∷ []) (Element (Element Nothing (codes "a") (attribute (codes "class") (codes "2") ∷ attribute (codes "id") (codes "1") ∷ []) Nothing) (codes "a") (attribute (codes "class") (codes "2") ∷ attribute (codes "id") (codes "1") ∷ []) (Element Nothing (codes "div") [] (Element Nothing (codes "div") [] (Characters (Element (Element (Element (Element (Element Nothing (codes "table") [] Nothing) (codes "div") [] (Element Nothing (codes "div") [] Nothing)) (codes "table") [] Nothing) (codes "div") [] (Characters Nothing (codes "x"))) (codes "table") [] Nothing) (codes "x")))))))
    ∷ (Element Nothing (codes "pre") [] (Element (Characters (Element Nothing (codes "pre") [] (Element Nothing (codes "pre") [] (Element Nothing (codes "data") [] (Characters Nothing (codes "\n\n"))))) (codes "x y\n")) (codes "pre") (attribute (codes "id") (codes "1") ∷ attribute (codes "class") (codes "2") ∷ []) (Element (Element Nothing (codes "pre") [] Nothing) (codes "data") (attribute (codes "class") (codes "1") ∷ []) (Characters Nothing (codes "\n")))))
    ∷ (Element (Element (Characters (Element Nothing (codes "br") [] Nothing) (codes "y\n\n\nx \n")) (codes "br") [] Nothing) (codes "i") (attribute (codes "class") (codes "2") ∷ attribute (codes "id") (codes "1") ∷ []) (Characters Nothing (codes "x y")))
    ∷ (Element (Characters (Element (Characters Nothing (codes "x")) (codes "u") (attribute (codes "class") (codes "1") ∷ []) (Characters Nothing (codes " "))) (codes "y")) (codes "var") (attribute (codes "id") (codes "1") ∷ attribute (codes "class") (codes "2") ∷ []) (Characters Nothing (codes "yx y")))
    ∷ (Element (Element Nothing (codes "i") [] (Element (Element Nothing (codes "nobr") [] Nothing) (codes "nobr") [] (Characters Nothing (codes "x")))) (codes "nobr") [] (Element (Characters Nothing (codes "y")) (codes "b") [] (Element Nothing (codes "i") [] (Element Nothing (codes "b") [] (Element Nothing (codes "b") [] (Element Nothing (codes "b") [] (Element (Characters (Element (Element (Element (Element Nothing (codes "table") [] Nothing) (codes "table") [] Nothing) (codes "table") [] (Element Nothing (codes "tbody") [] (Element (Element Nothing (codes "tr") [] (Element Nothing (codes "td") [] (Element (Characters Nothing (codes "yy")) (codes "nobr") [] (Element Nothing (codes "i") [] Nothing)))) (codes "tr") [] Nothing))) (codes "table") [] (Element Nothing (codes "tbody") [] (Element Nothing (codes "tr") [] (Element (Element Nothing (codes "td") [] (Element (Characters Nothing (codes "xy")) (codes "i") [] (Element Nothing (codes "i") [] (Element Nothing (codes "i") [] (Element Nothing (codes "nobr") [] (Element Nothing (codes "b") [] Nothing)))))) (codes "td") [] (Characters Nothing (codes "x")))))) (codes "x")) (codes "i") [] (Element Nothing (codes "table") [] (Element Nothing (codes "tbody") [] (Element Nothing (codes "tr") [] (Element (Element (Element Nothing (codes "td") [] Nothing) (codes "td") [] Nothing) (codes "td") [] (Element (Characters Nothing (codes "yy")) (codes "table") [] (Element Nothing (codes "tbody") [] (Element (Element Nothing (codes "tr") [] Nothing) (codes "tr") [] Nothing))))))))))))))
    ∷ (Element (Characters Nothing (codes "y")) (codes "li") (attribute (codes "class") (codes "2") ∷ attribute (codes "id") (codes "1") ∷ []) Nothing)
    ∷ (Element Nothing (codes "center") [] Nothing)
    ∷ (Element (Characters (Element (Element Nothing (codes "div") (attribute (codes "id") (codes "1") ∷ attribute (codes "class") (codes "2") ∷ []) (Element (Characters Nothing (codes "x ")) (codes "rtc") [] Nothing)) (codes "ruby") [] (Characters Nothing (codes "x"))) (codes "x y")) (codes "b") [] Nothing)
    ∷ (Element (Element Nothing (codes "u") [] Nothing) (codes "div") [] (Element (Element Nothing (codes "u") [] Nothing) (codes "div") [] (Element (Element Nothing (codes "u") [] (Element Nothing (codes "p") [] Nothing)) (codes "div") [] (Element (Element Nothing (codes "u") [] Nothing) (codes "div") [] (Element (Element Nothing (codes "u") [] (Element Nothing (codes "p") [] Nothing)) (codes "div") [] (Element (Element Nothing (codes "u") [] Nothing) (codes "div") [] (Element (Element Nothing (codes "u") [] (Element (Characters (Element (Element (Characters Nothing (codes "y")) (codes "p") [] Nothing) (codes "p") [] Nothing) (codes "y")) (codes "b") [] (Element Nothing (codes "p") [] Nothing))) (codes "b") [] (Element Nothing (codes "div") [] (Element (Characters (Element Nothing (codes "u") [] (Characters Nothing (codes "x"))) (codes "x")) (codes "b") [] (Element Nothing (codes "u") [] (Characters (Element (Element Nothing (codes "div") [] (Characters Nothing (codes "x"))) (codes "p") [] Nothing) (codes "y"))))))))))))
    ∷ []

random_4 : map tree_of random_4_items ≡ random_4_answers
unfolding random_4_items random_4_answers is_among kind_in all_names kind_of near in_front whole_texts without_newlines joined changed changed_before found without applied built bare has_node inside outside without_node is_bounded popped_until implied_ended has_entry without_entry last_named is_one_of are_all_of count_alike without_earliest pushed cleared last_table lost kept reopened ended_by furthest_block replaced inner_loop added_after adopted outer_loop innermost mode_of back_to is_hidden leading_space after_space process run
random_4 = refl

random_5_items : List (List Item)
random_5_items =
    (Text (codes " x") ∷ end (codes "i") ∷ start (codes "i") ∷ start (codes "i") ∷ StartTag (codes "p") (attribute (codes "class") (codes "1") ∷ []) ∷ end (codes "p") ∷ end (codes "i") ∷ start (codes "i") ∷ StartTag (codes "p") (attribute (codes "class") (codes "2") ∷ attribute (codes "id") (codes "1") ∷ []) ∷ [])
    ∷ (Text (codes "\n\n") ∷ Text (codes "\n\n") ∷ StartTag (codes "main") (attribute (codes "class") (codes "2") ∷ attribute (codes "id") (codes "1") ∷ []) ∷ Text (codes "\n\n") ∷ end (codes "main") ∷ StartTag (codes "table") (attribute (codes "class") (codes "1") ∷ []) ∷ end (codes "table") ∷ start (codes "tt") ∷ start (codes "table") ∷ Text (codes "\n\n") ∷ start (codes "colgroup") ∷ end (codes "colgroup") ∷ end (codes "table") ∷ end (codes "tt") ∷ [])
    ∷ (Text (codes "x") ∷ start (codes "col") ∷ Text (codes "x ") ∷ StartTag (codes "td") (attribute (codes "class") (codes "1") ∷ []) ∷ StartTag (codes "sup") (attribute (codes "id") (codes "1") ∷ attribute (codes "class") (codes "2") ∷ []) ∷ [])
    ∷ (start (codes "nobr") ∷ start (codes "u") ∷ start (codes "i") ∷ start (codes "nobr") ∷ start (codes "u") ∷ start (codes "tr") ∷ Text (codes "y") ∷ end (codes "table") ∷ end (codes "tr") ∷ Text (codes "x") ∷ start (codes "u") ∷ start (codes "nobr") ∷ start (codes "tr") ∷ start (codes "td") ∷ Text (codes "x") ∷ end (codes "table") ∷ Text (codes "y") ∷ [])
    ∷ (end (codes "form") ∷ end (codes "em") ∷ Text (codes " x") ∷ end (codes "a") ∷ end (codes "a") ∷ end (codes "form") ∷ end (codes "form") ∷ start (codes "em") ∷ StartTag (codes "a") (attribute (codes "id") (codes "1") ∷ attribute (codes "class") (codes "2") ∷ []) ∷ end (codes "a") ∷ end (codes "em") ∷ [])
    ∷ (StartTag (codes "input") (attribute (codes "id") (codes "1") ∷ attribute (codes "class") (codes "2") ∷ []) ∷ start (codes "b") ∷ StartTag (codes "b") (attribute (codes "class") (codes "1") ∷ []) ∷ end (codes "b") ∷ Text (codes " x") ∷ Text (codes "x") ∷ StartTag (codes "b") (attribute (codes "id") (codes "1") ∷ attribute (codes "class") (codes "2") ∷ []) ∷ StartTag (codes "b") (attribute (codes "class") (codes "1") ∷ []) ∷ Text [] ∷ Text (codes "x") ∷ end (codes "b") ∷ start (codes "listing") ∷ end (codes "listing") ∷ end (codes "b") ∷ end (codes "b") ∷ [])
    ∷ (end (codes "header") ∷ StartTag (codes "samp") (attribute (codes "class") (codes "2") ∷ attribute (codes "id") (codes "1") ∷ []) ∷ Text (codes "\n") ∷ start (codes "h1") ∷ StartTag (codes "header") (attribute (codes "class") (codes "2") ∷ attribute (codes "id") (codes "1") ∷ []) ∷ end (codes "header") ∷ StartTag (codes "samp") (attribute (codes "class") (codes "1") ∷ []) ∷ start (codes "h1") ∷ start (codes "header") ∷ end (codes "header") ∷ start (codes "h1") ∷ StartTag (codes "h1") (attribute (codes "class") (codes "1") ∷ []) ∷ StartTag (codes "header") (attribute (codes "class") (codes "2") ∷ attribute (codes "id") (codes "1") ∷ []) ∷ start (codes "h1") ∷ StartTag (codes "header") (attribute (codes "id") (codes "1") ∷ attribute (codes "class") (codes "2") ∷ []) ∷ Text (codes "y") ∷ [])
    ∷ (start (codes "i") ∷ start (codes "nobr") ∷ start (codes "tr") ∷ Text (codes "y") ∷ end (codes "td") ∷ end (codes "u") ∷ end (codes "i") ∷ Text (codes "y") ∷ start (codes "nobr") ∷ start (codes "u") ∷ start (codes "u") ∷ start (codes "u") ∷ start (codes "nobr") ∷ start (codes "table") ∷ start (codes "tr") ∷ Text (codes "x") ∷ end (codes "i") ∷ end (codes "table") ∷ end (codes "nobr") ∷ Text (codes "y") ∷ start (codes "nobr") ∷ start (codes "u") ∷ start (codes "i") ∷ start (codes "u") ∷ start (codes "i") ∷ start (codes "table") ∷ start (codes "td") ∷ start (codes "td") ∷ Text (codes "y") ∷ end (codes "table") ∷ Text (codes "x") ∷ [])
    ∷ (start (codes "rp") ∷ end (codes "rp") ∷ end (codes "rp") ∷ Text (codes "\n") ∷ start (codes "ruby") ∷ end (codes "ruby") ∷ Text (codes "\n\n") ∷ end (codes "ins") ∷ end (codes "ruby") ∷ end (codes "td") ∷ Text (codes " ") ∷ [])
    ∷ (Text (codes "x ") ∷ Text (codes "\n") ∷ StartTag (codes "listing") (attribute (codes "id") (codes "1") ∷ attribute (codes "class") (codes "2") ∷ []) ∷ end (codes "listing") ∷ [])
    ∷ []

random_5_answers : List Tree
random_5_answers =
    (Element (Characters Nothing (codes " x")) (codes "i") [] (Element (Element Nothing (codes "i") [] (Element Nothing (codes "p") (attribute (codes "class") (codes "1") ∷ []) Nothing)) (codes "i") [] (Element Nothing (codes "p") (attribute (codes "class") (codes "2") ∷ attribute (codes "id") (codes "1") ∷ []) Nothing)))
    ∷ (Element (Element (Element (Characters Nothing (codes "\n\n\n\n")) (codes "main") (attribute (codes "class") (codes "2") ∷ attribute (codes "id") (codes "1") ∷ []) (Characters Nothing (codes "\n\n"))) (codes "table") (attribute (codes "class") (codes "1") ∷ []) Nothing) (codes "tt") [] (Element Nothing (codes "table") [] (Element (Characters Nothing (codes "\n\n")) (codes "colgroup") [] Nothing)))
    ∷ (Element (Characters Nothing (codes "xx ")) (codes "sup") (attribute (codes "id") (codes "1") ∷ attribute (codes "class") (codes "2") ∷ []) Nothing)
    ∷ (Element (Element Nothing (codes "nobr") [] (Element Nothing (codes "u") [] (Element Nothing (codes "i") [] Nothing))) (codes "u") [] (Element Nothing (codes "i") [] (Element (Element Nothing (codes "nobr") [] (Element Nothing (codes "u") [] (Element (Characters Nothing (codes "yx")) (codes "u") [] Nothing))) (codes "u") [] (Element Nothing (codes "u") [] (Element Nothing (codes "nobr") [] (Characters Nothing (codes "xy")))))))
    ∷ (Element (Characters Nothing (codes " x")) (codes "em") [] (Element Nothing (codes "a") (attribute (codes "id") (codes "1") ∷ attribute (codes "class") (codes "2") ∷ []) Nothing))
    ∷ (Element (Element Nothing (codes "input") (attribute (codes "id") (codes "1") ∷ attribute (codes "class") (codes "2") ∷ []) Nothing) (codes "b") [] (Element (Characters (Element Nothing (codes "b") (attribute (codes "class") (codes "1") ∷ []) Nothing) (codes " xx")) (codes "b") (attribute (codes "id") (codes "1") ∷ attribute (codes "class") (codes "2") ∷ []) (Element (Element Nothing (codes "b") (attribute (codes "class") (codes "1") ∷ []) (Characters Nothing (codes "x"))) (codes "listing") [] Nothing)))
    ∷ (Element Nothing (codes "samp") (attribute (codes "class") (codes "2") ∷ attribute (codes "id") (codes "1") ∷ []) (Element (Characters Nothing (codes "\n")) (codes "h1") [] (Element (Element Nothing (codes "header") (attribute (codes "class") (codes "2") ∷ attribute (codes "id") (codes "1") ∷ []) Nothing) (codes "samp") (attribute (codes "class") (codes "1") ∷ []) (Element (Element (Element Nothing (codes "h1") [] (Element Nothing (codes "header") [] Nothing)) (codes "h1") [] Nothing) (codes "h1") (attribute (codes "class") (codes "1") ∷ []) (Element Nothing (codes "header") (attribute (codes "class") (codes "2") ∷ attribute (codes "id") (codes "1") ∷ []) (Element Nothing (codes "h1") [] (Element Nothing (codes "header") (attribute (codes "id") (codes "1") ∷ attribute (codes "class") (codes "2") ∷ []) (Characters Nothing (codes "y")))))))))
    ∷ (Element (Element (Element (Element Nothing (codes "i") [] (Element Nothing (codes "nobr") [] (Characters Nothing (codes "y")))) (codes "nobr") [] (Characters Nothing (codes "y"))) (codes "nobr") [] (Element Nothing (codes "u") [] (Element Nothing (codes "u") [] (Element Nothing (codes "u") [] Nothing)))) (codes "u") [] (Element Nothing (codes "u") [] (Element Nothing (codes "u") [] (Element (Characters (Element Nothing (codes "nobr") [] (Element (Characters Nothing (codes "x")) (codes "table") [] (Element Nothing (codes "tbody") [] (Element Nothing (codes "tr") [] Nothing)))) (codes "y")) (codes "nobr") [] (Element Nothing (codes "u") [] (Element Nothing (codes "i") [] (Element Nothing (codes "u") [] (Element Nothing (codes "i") [] (Characters (Element Nothing (codes "table") [] (Element Nothing (codes "tbody") [] (Element Nothing (codes "tr") [] (Element (Element Nothing (codes "td") [] Nothing) (codes "td") [] (Characters Nothing (codes "y")))))) (codes "x"))))))))))
    ∷ (Characters (Element (Characters (Element Nothing (codes "rp") [] Nothing) (codes "\n")) (codes "ruby") [] Nothing) (codes "\n\n "))
    ∷ (Element (Characters Nothing (codes "x \n")) (codes "listing") (attribute (codes "id") (codes "1") ∷ attribute (codes "class") (codes "2") ∷ []) Nothing)
    ∷ []

random_5 : map tree_of random_5_items ≡ random_5_answers
unfolding random_5_items random_5_answers is_among kind_in all_names kind_of near in_front whole_texts without_newlines joined changed changed_before found without applied built bare has_node inside outside without_node is_bounded popped_until implied_ended has_entry without_entry last_named is_one_of are_all_of count_alike without_earliest pushed cleared last_table lost kept reopened ended_by furthest_block replaced inner_loop added_after adopted outer_loop innermost mode_of back_to is_hidden leading_space after_space process run
random_5 = refl

random_6_items : List (List Item)
random_6_items =
    (end (codes "details") ∷ StartTag (codes "td") (attribute (codes "id") (codes "1") ∷ attribute (codes "class") (codes "2") ∷ []) ∷ Text (codes "x y") ∷ Text (codes "x ") ∷ end (codes "td") ∷ end (codes "details") ∷ Text (codes "\nx") ∷ end (codes "summary") ∷ start (codes "details") ∷ end (codes "details") ∷ end (codes "th") ∷ start (codes "summary") ∷ Text (codes " ") ∷ [])
    ∷ (start (codes "nobr") ∷ start (codes "nobr") ∷ start (codes "li") ∷ Text (codes "x") ∷ end (codes "div") ∷ Text (codes "x") ∷ start (codes "nobr") ∷ start (codes "div") ∷ start (codes "div") ∷ Text (codes "x") ∷ end (codes "li") ∷ Text (codes "x") ∷ start (codes "nobr") ∷ start (codes "nobr") ∷ start (codes "nobr") ∷ start (codes "li") ∷ start (codes "div") ∷ start (codes "div") ∷ start (codes "div") ∷ start (codes "div") ∷ start (codes "div") ∷ start (codes "div") ∷ start (codes "li") ∷ Text (codes "x") ∷ end (codes "ul") ∷ end (codes "div") ∷ Text (codes "x") ∷ start (codes "nobr") ∷ start (codes "nobr") ∷ start (codes "nobr") ∷ start (codes "nobr") ∷ start (codes "nobr") ∷ start (codes "div") ∷ start (codes "ul") ∷ start (codes "ul") ∷ Text (codes "x") ∷ end (codes "li") ∷ Text (codes "y") ∷ start (codes "nobr") ∷ start (codes "nobr") ∷ start (codes "div") ∷ Text (codes "y") ∷ end (codes "nobr") ∷ end (codes "div") ∷ Text (codes "x") ∷ [])
    ∷ (end (codes "u") ∷ end (codes "ol") ∷ Text (codes "y") ∷ start (codes "u") ∷ StartTag (codes "dt") (attribute (codes "class") (codes "2") ∷ attribute (codes "id") (codes "1") ∷ []) ∷ Text (codes "x") ∷ start (codes "dt") ∷ end (codes "dt") ∷ start (codes "u") ∷ Text (codes "\n") ∷ StartTag (codes "u") (attribute (codes "class") (codes "1") ∷ []) ∷ StartTag (codes "dt") (attribute (codes "class") (codes "1") ∷ []) ∷ end (codes "dt") ∷ end (codes "u") ∷ Text (codes "x") ∷ Text (codes " ") ∷ [])
    ∷ (Text (codes "x") ∷ StartTag (codes "h2") (attribute (codes "id") (codes "1") ∷ attribute (codes "class") (codes "2") ∷ []) ∷ start (codes "table") ∷ end (codes "table") ∷ end (codes "h2") ∷ [])
    ∷ (start (codes "tr") ∷ Text (codes "\nx") ∷ start (codes "td") ∷ StartTag (codes "h5") (attribute (codes "class") (codes "1") ∷ []) ∷ end (codes "h5") ∷ [])
    ∷ (StartTag (codes "i") (attribute (codes "id") (codes "1") ∷ []) ∷ start (codes "p") ∷ start (codes "p") ∷ start (codes "div") ∷ Text (codes "x") ∷ end (codes "i") ∷ end (codes "p") ∷ Text (codes "x") ∷ start (codes "i") ∷ start (codes "i") ∷ StartTag (codes "i") (attribute (codes "id") (codes "1") ∷ []) ∷ start (codes "p") ∷ Text (codes "y") ∷ end (codes "div") ∷ end (codes "i") ∷ end (codes "i") ∷ Text (codes "y") ∷ [])
    ∷ (start (codes "p") ∷ end (codes "p") ∷ StartTag (codes "table") (attribute (codes "id") (codes "1") ∷ attribute (codes "class") (codes "2") ∷ []) ∷ Text (codes "x y") ∷ end (codes "table") ∷ start (codes "tr") ∷ StartTag (codes "tr") (attribute (codes "class") (codes "1") ∷ []) ∷ [])
    ∷ (StartTag (codes "b") (attribute (codes "class") (codes "1") ∷ []) ∷ Text (codes "\nx") ∷ end (codes "b") ∷ StartTag (codes "p") (attribute (codes "id") (codes "1") ∷ attribute (codes "class") (codes "2") ∷ []) ∷ end (codes "p") ∷ [])
    ∷ (Text [] ∷ end (codes "listing") ∷ StartTag (codes "dd") (attribute (codes "class") (codes "1") ∷ []) ∷ end (codes "dd") ∷ start (codes "u") ∷ StartTag (codes "listing") (attribute (codes "class") (codes "2") ∷ attribute (codes "id") (codes "1") ∷ []) ∷ Text [] ∷ start (codes "dd") ∷ Text (codes "x ") ∷ StartTag (codes "listing") (attribute (codes "class") (codes "2") ∷ attribute (codes "id") (codes "1") ∷ []) ∷ start (codes "listing") ∷ start (codes "td") ∷ end (codes "td") ∷ Text (codes "x ") ∷ end (codes "listing") ∷ end (codes "listing") ∷ [])
    ∷ (StartTag (codes "a") (attribute (codes "id") (codes "1") ∷ attribute (codes "class") (codes "2") ∷ []) ∷ StartTag (codes "u") (attribute (codes "id") (codes "1") ∷ attribute (codes "class") (codes "2") ∷ []) ∷ StartTag (codes "a") (attribute (codes "id") (codes "1") ∷ attribute (codes "class") (codes "2") ∷ []) ∷ StartTag (codes "u") (attribute (codes "class") (codes "2") ∷ attribute (codes "id") (codes "1") ∷ []) ∷ StartTag (codes "u") (attribute (codes "class") (codes "2") ∷ attribute (codes "id") (codes "1") ∷ []) ∷ start (codes "table") ∷ start (codes "table") ∷ start (codes "table") ∷ Text (codes "y") ∷ end (codes "a") ∷ end (codes "table") ∷ Text (codes "x") ∷ StartTag (codes "a") (attribute (codes "class") (codes "2") ∷ attribute (codes "id") (codes "1") ∷ []) ∷ StartTag (codes "u") (attribute (codes "class") (codes "2") ∷ attribute (codes "id") (codes "1") ∷ []) ∷ StartTag (codes "u") (attribute (codes "id") (codes "1") ∷ attribute (codes "class") (codes "2") ∷ []) ∷ start (codes "table") ∷ start (codes "div") ∷ start (codes "table") ∷ start (codes "table") ∷ start (codes "table") ∷ start (codes "div") ∷ start (codes "table") ∷ start (codes "div") ∷ Text (codes "x") ∷ end (codes "table") ∷ end (codes "a") ∷ end (codes "a") ∷ Text (codes "y") ∷ [])
    ∷ []

random_6_answers : List Tree
random_6_answers =
    (Element (Element (Characters Nothing (codes "x yx \nx")) (codes "details") [] Nothing) (codes "summary") [] (Characters Nothing (codes " ")))
    ∷ (Element (Element (Element (Element (Element (Element (Element (Element Nothing (codes "nobr") [] Nothing) (codes "nobr") [] Nothing) (codes "li") [] (Element (Element Nothing (codes "nobr") [] (Characters Nothing (codes "xx"))) (codes "nobr") [] (Element Nothing (codes "div") [] (Element Nothing (codes "div") [] (Characters Nothing (codes "x")))))) (codes "nobr") [] (Characters Nothing (codes "x"))) (codes "nobr") [] Nothing) (codes "nobr") [] Nothing) (codes "nobr") [] (Element Nothing (codes "li") [] (Element Nothing (codes "div") [] (Element Nothing (codes "div") [] (Element Nothing (codes "div") [] (Element Nothing (codes "div") [] (Element Nothing (codes "div") [] (Element Nothing (codes "div") [] Nothing)))))))) (codes "li") [] (Element (Element (Element (Element (Element (Element (Element Nothing (codes "nobr") [] (Characters Nothing (codes "xx"))) (codes "nobr") [] Nothing) (codes "nobr") [] Nothing) (codes "nobr") [] Nothing) (codes "nobr") [] Nothing) (codes "nobr") [] Nothing) (codes "div") [] (Element (Element Nothing (codes "nobr") [] Nothing) (codes "ul") [] (Element (Element Nothing (codes "nobr") [] Nothing) (codes "ul") [] (Characters (Element (Element (Element (Element Nothing (codes "nobr") [] (Characters Nothing (codes "xy"))) (codes "nobr") [] Nothing) (codes "nobr") [] Nothing) (codes "div") [] (Element Nothing (codes "nobr") [] (Characters Nothing (codes "y")))) (codes "x"))))))
    ∷ (Element (Characters Nothing (codes "y")) (codes "u") [] (Element (Element (Element Nothing (codes "dt") (attribute (codes "class") (codes "2") ∷ attribute (codes "id") (codes "1") ∷ []) (Characters Nothing (codes "x"))) (codes "dt") [] Nothing) (codes "u") [] (Characters (Element (Characters Nothing (codes "\n")) (codes "u") (attribute (codes "class") (codes "1") ∷ []) (Element Nothing (codes "dt") (attribute (codes "class") (codes "1") ∷ []) Nothing)) (codes "x "))))
    ∷ (Element (Characters Nothing (codes "x")) (codes "h2") (attribute (codes "id") (codes "1") ∷ attribute (codes "class") (codes "2") ∷ []) (Element Nothing (codes "table") [] Nothing))
    ∷ (Element (Characters Nothing (codes "\nx")) (codes "h5") (attribute (codes "class") (codes "1") ∷ []) Nothing)
    ∷ (Element (Element (Element Nothing (codes "i") (attribute (codes "id") (codes "1") ∷ []) (Element (Element Nothing (codes "p") [] Nothing) (codes "p") [] Nothing)) (codes "div") [] (Element (Characters (Element (Element Nothing (codes "i") (attribute (codes "id") (codes "1") ∷ []) (Characters Nothing (codes "x"))) (codes "p") [] Nothing) (codes "x")) (codes "i") [] (Element Nothing (codes "i") [] (Element Nothing (codes "i") (attribute (codes "id") (codes "1") ∷ []) (Element Nothing (codes "p") [] (Characters Nothing (codes "y"))))))) (codes "i") [] (Characters Nothing (codes "y")))
    ∷ (Element (Characters (Element Nothing (codes "p") [] Nothing) (codes "x y")) (codes "table") (attribute (codes "id") (codes "1") ∷ attribute (codes "class") (codes "2") ∷ []) Nothing)
    ∷ (Element (Element Nothing (codes "b") (attribute (codes "class") (codes "1") ∷ []) (Characters Nothing (codes "\nx"))) (codes "p") (attribute (codes "id") (codes "1") ∷ attribute (codes "class") (codes "2") ∷ []) Nothing)
    ∷ (Element (Element Nothing (codes "dd") (attribute (codes "class") (codes "1") ∷ []) Nothing) (codes "u") [] (Element Nothing (codes "listing") (attribute (codes "class") (codes "2") ∷ attribute (codes "id") (codes "1") ∷ []) (Element Nothing (codes "dd") [] (Element (Characters Nothing (codes "x ")) (codes "listing") (attribute (codes "class") (codes "2") ∷ attribute (codes "id") (codes "1") ∷ []) (Element Nothing (codes "listing") [] (Characters Nothing (codes "x ")))))))
    ∷ (Element (Element Nothing (codes "a") (attribute (codes "id") (codes "1") ∷ attribute (codes "class") (codes "2") ∷ []) (Element Nothing (codes "u") (attribute (codes "id") (codes "1") ∷ attribute (codes "class") (codes "2") ∷ []) Nothing)) (codes "u") (attribute (codes "id") (codes "1") ∷ attribute (codes "class") (codes "2") ∷ []) (Element (Element Nothing (codes "a") (attribute (codes "id") (codes "1") ∷ attribute (codes "class") (codes "2") ∷ []) (Element Nothing (codes "u") (attribute (codes "class") (codes "2") ∷ attribute (codes "id") (codes "1") ∷ []) (Element Nothing (codes "u") (attribute (codes "class") (codes "2") ∷ attribute (codes "id") (codes "1") ∷ []) (Characters (Element (Characters (Element (Element Nothing (codes "table") [] Nothing) (codes "table") [] Nothing) (codes "y")) (codes "table") [] Nothing) (codes "x"))))) (codes "u") (attribute (codes "class") (codes "2") ∷ attribute (codes "id") (codes "1") ∷ []) (Element Nothing (codes "u") (attribute (codes "class") (codes "2") ∷ attribute (codes "id") (codes "1") ∷ []) (Element (Element Nothing (codes "a") (attribute (codes "class") (codes "2") ∷ attribute (codes "id") (codes "1") ∷ []) (Element Nothing (codes "u") (attribute (codes "class") (codes "2") ∷ attribute (codes "id") (codes "1") ∷ []) (Element Nothing (codes "u") (attribute (codes "id") (codes "1") ∷ attribute (codes "class") (codes "2") ∷ []) (Element (Element (Element (Element (Element (Element (Element (Element Nothing (codes "div") [] Nothing) (codes "table") [] Nothing) (codes "table") [] Nothing) (codes "table") [] Nothing) (codes "div") [] Nothing) (codes "table") [] Nothing) (codes "div") [] (Characters Nothing (codes "x"))) (codes "table") [] Nothing)))) (codes "u") (attribute (codes "class") (codes "2") ∷ attribute (codes "id") (codes "1") ∷ []) (Element Nothing (codes "u") (attribute (codes "id") (codes "1") ∷ attribute (codes "class") (codes "2") ∷ []) (Characters Nothing (codes "y")))))))
    ∷ []

random_6 : map tree_of random_6_items ≡ random_6_answers
unfolding random_6_items random_6_answers is_among kind_in all_names kind_of near in_front whole_texts without_newlines joined changed changed_before found without applied built bare has_node inside outside without_node is_bounded popped_until implied_ended has_entry without_entry last_named is_one_of are_all_of count_alike without_earliest pushed cleared last_table lost kept reopened ended_by furthest_block replaced inner_loop added_after adopted outer_loop innermost mode_of back_to is_hidden leading_space after_space process run
random_6 = refl

random_7_items : List (List Item)
random_7_items =
    (end (codes "pre") ∷ end (codes "em") ∷ Text (codes "x ") ∷ Text (codes "\n\n") ∷ [])
    ∷ (StartTag (codes "dl") (attribute (codes "class") (codes "2") ∷ attribute (codes "id") (codes "1") ∷ []) ∷ StartTag (codes "form") (attribute (codes "class") (codes "2") ∷ attribute (codes "id") (codes "1") ∷ []) ∷ Text (codes " ") ∷ end (codes "form") ∷ end (codes "dl") ∷ [])
    ∷ (Text (codes " x") ∷ start (codes "dl") ∷ start (codes "h2") ∷ start (codes "h2") ∷ start (codes "table") ∷ [])
    ∷ (start (codes "u") ∷ start (codes "u") ∷ start (codes "b") ∷ start (codes "div") ∷ start (codes "div") ∷ start (codes "div") ∷ start (codes "div") ∷ start (codes "p") ∷ start (codes "div") ∷ start (codes "div") ∷ start (codes "div") ∷ Text (codes "x") ∷ end (codes "b") ∷ end (codes "p") ∷ Text (codes "x") ∷ start (codes "u") ∷ start (codes "u") ∷ start (codes "b") ∷ start (codes "p") ∷ start (codes "div") ∷ start (codes "div") ∷ start (codes "div") ∷ start (codes "div") ∷ start (codes "p") ∷ start (codes "p") ∷ start (codes "p") ∷ Text (codes "x") ∷ end (codes "p") ∷ end (codes "b") ∷ end (codes "p") ∷ Text (codes "y") ∷ [])
    ∷ (end (codes "h2") ∷ end (codes "rp") ∷ Text [] ∷ end (codes "h2") ∷ start (codes "table") ∷ StartTag (codes "rp") (attribute (codes "id") (codes "1") ∷ attribute (codes "class") (codes "2") ∷ []) ∷ StartTag (codes "table") (attribute (codes "class") (codes "1") ∷ []) ∷ start (codes "rp") ∷ Text (codes " x") ∷ end (codes "table") ∷ Text (codes "\n\n") ∷ Text [] ∷ Text (codes "x") ∷ start (codes "table") ∷ end (codes "rp") ∷ [])
    ∷ (Text (codes "\nx") ∷ start (codes "data") ∷ Text (codes " x") ∷ start (codes "table") ∷ Text [] ∷ end (codes "table") ∷ end (codes "data") ∷ [])
    ∷ (end (codes "pre") ∷ end (codes "listing") ∷ StartTag (codes "table") (attribute (codes "id") (codes "1") ∷ attribute (codes "class") (codes "2") ∷ []) ∷ start (codes "tfoot") ∷ StartTag (codes "tr") (attribute (codes "class") (codes "2") ∷ attribute (codes "id") (codes "1") ∷ []) ∷ start (codes "table") ∷ Text (codes "\nx") ∷ StartTag (codes "colgroup") (attribute (codes "id") (codes "1") ∷ attribute (codes "class") (codes "2") ∷ []) ∷ start (codes "hr") ∷ end (codes "colgroup") ∷ Text (codes "\n\n") ∷ Text (codes "\n") ∷ end (codes "tr") ∷ [])
    ∷ (start (codes "i") ∷ start (codes "b") ∷ start (codes "a") ∷ start (codes "a") ∷ start (codes "i") ∷ start (codes "div") ∷ Text (codes "x") ∷ end (codes "a") ∷ end (codes "b") ∷ Text (codes "x") ∷ start (codes "a") ∷ start (codes "a") ∷ start (codes "a") ∷ start (codes "div") ∷ Text (codes "y") ∷ end (codes "b") ∷ end (codes "b") ∷ Text (codes "x") ∷ start (codes "b") ∷ start (codes "b") ∷ start (codes "i") ∷ start (codes "div") ∷ start (codes "div") ∷ Text (codes "y") ∷ end (codes "i") ∷ Text (codes "x") ∷ start (codes "i") ∷ start (codes "a") ∷ start (codes "i") ∷ start (codes "i") ∷ start (codes "i") ∷ start (codes "div") ∷ start (codes "div") ∷ start (codes "div") ∷ Text (codes "y") ∷ end (codes "a") ∷ Text (codes "x") ∷ start (codes "b") ∷ start (codes "b") ∷ start (codes "i") ∷ start (codes "div") ∷ start (codes "div") ∷ start (codes "div") ∷ start (codes "div") ∷ start (codes "div") ∷ start (codes "div") ∷ start (codes "div") ∷ start (codes "div") ∷ Text (codes "y") ∷ end (codes "i") ∷ end (codes "div") ∷ end (codes "i") ∷ Text (codes "x") ∷ [])
    ∷ (StartTag (codes "br") (attribute (codes "class") (codes "2") ∷ attribute (codes "id") (codes "1") ∷ []) ∷ start (codes "bdi") ∷ Text (codes "y") ∷ start (codes "picture") ∷ [])
    ∷ (start (codes "mark") ∷ Text (codes " x") ∷ start (codes "table") ∷ start (codes "caption") ∷ StartTag (codes "h6") (attribute (codes "class") (codes "1") ∷ []) ∷ Text (codes " x") ∷ end (codes "h6") ∷ end (codes "caption") ∷ end (codes "table") ∷ end (codes "mark") ∷ [])
    ∷ []

random_7_answers : List Tree
random_7_answers =
    (Characters Nothing (codes "x \n\n"))
    ∷ (Element Nothing (codes "dl") (attribute (codes "class") (codes "2") ∷ attribute (codes "id") (codes "1") ∷ []) (Element Nothing (codes "form") (attribute (codes "class") (codes "2") ∷ attribute (codes "id") (codes "1") ∷ []) (Characters Nothing (codes " "))))
    ∷ (Element (Characters Nothing (codes " x")) (codes "dl") [] (Element (Element Nothing (codes "h2") [] Nothing) (codes "h2") [] (Element Nothing (codes "table") [] Nothing)))
    ∷ (Element Nothing (codes "u") [] (Element Nothing (codes "u") [] (Element (Element Nothing (codes "b") [] Nothing) (codes "div") [] (Element (Element Nothing (codes "b") [] Nothing) (codes "div") [] (Element (Element Nothing (codes "b") [] Nothing) (codes "div") [] (Element (Element Nothing (codes "b") [] Nothing) (codes "div") [] (Element (Element Nothing (codes "b") [] (Element Nothing (codes "p") [] Nothing)) (codes "div") [] (Element (Element Nothing (codes "b") [] Nothing) (codes "div") [] (Element (Element Nothing (codes "b") [] Nothing) (codes "div") [] (Element (Characters (Element (Element Nothing (codes "b") [] (Characters Nothing (codes "x"))) (codes "p") [] Nothing) (codes "x")) (codes "u") [] (Element Nothing (codes "u") [] (Element (Element Nothing (codes "b") [] (Element Nothing (codes "p") [] Nothing)) (codes "div") [] (Element (Element Nothing (codes "b") [] Nothing) (codes "div") [] (Element (Element Nothing (codes "b") [] Nothing) (codes "div") [] (Element (Element Nothing (codes "b") [] Nothing) (codes "div") [] (Characters (Element (Element Nothing (codes "b") [] (Element (Element (Element Nothing (codes "p") [] Nothing) (codes "p") [] Nothing) (codes "p") [] (Characters Nothing (codes "x")))) (codes "p") [] Nothing) (codes "y")))))))))))))))))
    ∷ (Element (Characters (Element (Element (Element (Element Nothing (codes "rp") (attribute (codes "id") (codes "1") ∷ attribute (codes "class") (codes "2") ∷ []) Nothing) (codes "table") [] Nothing) (codes "rp") [] (Characters Nothing (codes " x"))) (codes "table") (attribute (codes "class") (codes "1") ∷ []) Nothing) (codes "\n\nx")) (codes "table") [] Nothing)
    ∷ (Element (Characters Nothing (codes "\nx")) (codes "data") [] (Element (Characters Nothing (codes " x")) (codes "table") [] Nothing))
    ∷ (Element (Element (Characters (Element Nothing (codes "table") (attribute (codes "id") (codes "1") ∷ attribute (codes "class") (codes "2") ∷ []) (Element Nothing (codes "tfoot") [] (Element Nothing (codes "tr") (attribute (codes "class") (codes "2") ∷ attribute (codes "id") (codes "1") ∷ []) Nothing))) (codes "\nx")) (codes "hr") [] Nothing) (codes "table") [] (Characters (Element Nothing (codes "colgroup") (attribute (codes "id") (codes "1") ∷ attribute (codes "class") (codes "2") ∷ []) Nothing) (codes "\n\n\n")))
    ∷ (Element Nothing (codes "i") [] (Element (Element Nothing (codes "b") [] (Element (Element (Element Nothing (codes "a") [] Nothing) (codes "a") [] (Element Nothing (codes "i") [] Nothing)) (codes "i") [] Nothing)) (codes "i") [] (Element Nothing (codes "div") [] (Element (Element (Element (Element (Characters (Element Nothing (codes "b") [] (Element Nothing (codes "a") [] (Characters Nothing (codes "x")))) (codes "x")) (codes "a") [] Nothing) (codes "a") [] Nothing) (codes "a") [] Nothing) (codes "div") [] (Element (Element Nothing (codes "a") [] (Element (Characters Nothing (codes "yx")) (codes "b") [] (Element Nothing (codes "b") [] (Element Nothing (codes "i") [] Nothing)))) (codes "b") [] (Element Nothing (codes "b") [] (Element Nothing (codes "div") [] (Element (Element Nothing (codes "a") [] (Element Nothing (codes "i") [] Nothing)) (codes "div") [] (Element (Element Nothing (codes "a") [] (Element (Characters (Element Nothing (codes "i") [] (Characters Nothing (codes "y"))) (codes "x")) (codes "i") [] Nothing)) (codes "i") [] (Element (Element Nothing (codes "a") [] (Element Nothing (codes "i") [] (Element Nothing (codes "i") [] (Element Nothing (codes "i") [] Nothing)))) (codes "i") [] (Element Nothing (codes "i") [] (Element Nothing (codes "i") [] (Element Nothing (codes "div") [] (Element (Element Nothing (codes "a") [] Nothing) (codes "div") [] (Element (Element Nothing (codes "a") [] Nothing) (codes "div") [] (Element (Characters (Element Nothing (codes "a") [] (Characters Nothing (codes "y"))) (codes "x")) (codes "b") [] (Element Nothing (codes "b") [] (Element (Element Nothing (codes "i") [] Nothing) (codes "div") [] (Element (Element Nothing (codes "i") [] Nothing) (codes "div") [] (Element (Element Nothing (codes "i") [] Nothing) (codes "div") [] (Element (Element Nothing (codes "i") [] Nothing) (codes "div") [] (Element (Element Nothing (codes "i") [] Nothing) (codes "div") [] (Element (Element Nothing (codes "i") [] Nothing) (codes "div") [] (Element (Element Nothing (codes "i") [] Nothing) (codes "div") [] (Characters (Element (Element Nothing (codes "i") [] Nothing) (codes "div") [] (Element Nothing (codes "i") [] (Characters Nothing (codes "y")))) (codes "x"))))))))))))))))))))))))))
    ∷ (Element (Element Nothing (codes "br") (attribute (codes "class") (codes "2") ∷ attribute (codes "id") (codes "1") ∷ []) Nothing) (codes "bdi") [] (Element (Characters Nothing (codes "y")) (codes "picture") [] Nothing))
    ∷ (Element Nothing (codes "mark") [] (Element (Characters Nothing (codes " x")) (codes "table") [] (Element Nothing (codes "caption") [] (Element Nothing (codes "h6") (attribute (codes "class") (codes "1") ∷ []) (Characters Nothing (codes " x"))))))
    ∷ []

random_7 : map tree_of random_7_items ≡ random_7_answers
unfolding random_7_items random_7_answers is_among kind_in all_names kind_of near in_front whole_texts without_newlines joined changed changed_before found without applied built bare has_node inside outside without_node is_bounded popped_until implied_ended has_entry without_entry last_named is_one_of are_all_of count_alike without_earliest pushed cleared last_table lost kept reopened ended_by furthest_block replaced inner_loop added_after adopted outer_loop innermost mode_of back_to is_hidden leading_space after_space process run
random_7 = refl

random_8_items : List (List Item)
random_8_items =
    (StartTag (codes "hr") (attribute (codes "id") (codes "1") ∷ attribute (codes "class") (codes "2") ∷ []) ∷ end (codes "picture") ∷ start (codes "table") ∷ start (codes "colgroup") ∷ start (codes "hr") ∷ end (codes "table") ∷ start (codes "picture") ∷ StartTag (codes "hr") (attribute (codes "id") (codes "1") ∷ attribute (codes "class") (codes "2") ∷ []) ∷ Text (codes " ") ∷ Text (codes "\n\n") ∷ end (codes "colgroup") ∷ [])
    ∷ (StartTag (codes "a") (attribute (codes "id") (codes "1") ∷ attribute (codes "class") (codes "2") ∷ []) ∷ StartTag (codes "a") (attribute (codes "class") (codes "2") ∷ attribute (codes "id") (codes "1") ∷ []) ∷ StartTag (codes "i") (attribute (codes "id") (codes "1") ∷ attribute (codes "class") (codes "2") ∷ []) ∷ start (codes "div") ∷ start (codes "div") ∷ start (codes "div") ∷ Text (codes "y") ∷ end (codes "i") ∷ Text (codes "y") ∷ StartTag (codes "a") (attribute (codes "id") (codes "1") ∷ attribute (codes "class") (codes "2") ∷ []) ∷ StartTag (codes "i") (attribute (codes "class") (codes "2") ∷ attribute (codes "id") (codes "1") ∷ []) ∷ StartTag (codes "a") (attribute (codes "class") (codes "2") ∷ attribute (codes "id") (codes "1") ∷ []) ∷ StartTag (codes "i") (attribute (codes "class") (codes "2") ∷ attribute (codes "id") (codes "1") ∷ []) ∷ StartTag (codes "i") (attribute (codes "class") (codes "2") ∷ attribute (codes "id") (codes "1") ∷ []) ∷ start (codes "div") ∷ start (codes "div") ∷ start (codes "div") ∷ Text (codes "y") ∷ end (codes "i") ∷ Text (codes "y") ∷ [])
    ∷ (end (codes "td") ∷ Text (codes "x ") ∷ start (codes "col") ∷ end (codes "tr") ∷ end (codes "col") ∷ Text (codes "\n\n") ∷ [])
    ∷ (Text (codes "\n") ∷ StartTag (codes "rt") (attribute (codes "class") (codes "2") ∷ attribute (codes "id") (codes "1") ∷ []) ∷ end (codes "rt") ∷ Text (codes " x") ∷ start (codes "u") ∷ StartTag (codes "listing") (attribute (codes "class") (codes "2") ∷ attribute (codes "id") (codes "1") ∷ []) ∷ end (codes "listing") ∷ Text (codes "x y") ∷ StartTag (codes "u") (attribute (codes "class") (codes "1") ∷ []) ∷ end (codes "u") ∷ end (codes "u") ∷ [])
    ∷ (Text (codes "y") ∷ end (codes "ruby") ∷ end (codes "pre") ∷ StartTag (codes "th") (attribute (codes "class") (codes "1") ∷ []) ∷ end (codes "input") ∷ end (codes "th") ∷ end (codes "summary") ∷ Text (codes "\n\n") ∷ [])
    ∷ (StartTag (codes "u") (attribute (codes "class") (codes "2") ∷ attribute (codes "id") (codes "1") ∷ []) ∷ start (codes "td") ∷ start (codes "td") ∷ start (codes "tr") ∷ start (codes "td") ∷ start (codes "tr") ∷ start (codes "table") ∷ start (codes "td") ∷ start (codes "tr") ∷ Text (codes "x") ∷ end (codes "u") ∷ end (codes "td") ∷ Text (codes "x") ∷ StartTag (codes "u") (attribute (codes "id") (codes "1") ∷ attribute (codes "class") (codes "2") ∷ []) ∷ start (codes "tr") ∷ start (codes "table") ∷ start (codes "tr") ∷ Text (codes "y") ∷ end (codes "u") ∷ end (codes "td") ∷ Text (codes "x") ∷ StartTag (codes "b") (attribute (codes "class") (codes "2") ∷ attribute (codes "id") (codes "1") ∷ []) ∷ StartTag (codes "u") (attribute (codes "class") (codes "2") ∷ attribute (codes "id") (codes "1") ∷ []) ∷ start (codes "table") ∷ Text (codes "x") ∷ end (codes "u") ∷ end (codes "b") ∷ end (codes "tr") ∷ Text (codes "y") ∷ StartTag (codes "b") (attribute (codes "id") (codes "1") ∷ attribute (codes "class") (codes "2") ∷ []) ∷ StartTag (codes "b") (attribute (codes "class") (codes "2") ∷ attribute (codes "id") (codes "1") ∷ []) ∷ StartTag (codes "u") (attribute (codes "class") (codes "2") ∷ attribute (codes "id") (codes "1") ∷ []) ∷ start (codes "tr") ∷ Text (codes "x") ∷ end (codes "table") ∷ end (codes "u") ∷ end (codes "b") ∷ Text (codes "y") ∷ StartTag (codes "u") (attribute (codes "class") (codes "2") ∷ attribute (codes "id") (codes "1") ∷ []) ∷ StartTag (codes "u") (attribute (codes "class") (codes "2") ∷ attribute (codes "id") (codes "1") ∷ []) ∷ start (codes "table") ∷ start (codes "tr") ∷ start (codes "table") ∷ Text (codes "x") ∷ end (codes "tr") ∷ end (codes "b") ∷ end (codes "b") ∷ Text (codes "y") ∷ [])
    ∷ (Text (codes "x y") ∷ Text [] ∷ end (codes "br") ∷ end (codes "h1") ∷ end (codes "table") ∷ end (codes "h1") ∷ end (codes "tr") ∷ [])
    ∷ (start (codes "h2") ∷ start (codes "strong") ∷ Text (codes "x y") ∷ start (codes "sub") ∷ end (codes "sub") ∷ StartTag (codes "h2") (attribute (codes "id") (codes "1") ∷ attribute (codes "class") (codes "2") ∷ []) ∷ StartTag (codes "dt") (attribute (codes "id") (codes "1") ∷ attribute (codes "class") (codes "2") ∷ []) ∷ Text (codes "y") ∷ end (codes "dt") ∷ StartTag (codes "ul") (attribute (codes "id") (codes "1") ∷ attribute (codes "class") (codes "2") ∷ []) ∷ Text (codes " x") ∷ start (codes "li") ∷ end (codes "li") ∷ end (codes "ul") ∷ end (codes "h2") ∷ end (codes "strong") ∷ end (codes "h2") ∷ [])
    ∷ (end (codes "tr") ∷ Text (codes "\n") ∷ start (codes "th") ∷ start (codes "td") ∷ Text (codes "\n") ∷ start (codes "img") ∷ start (codes "th") ∷ start (codes "th") ∷ start (codes "th") ∷ [])
    ∷ (StartTag (codes "nobr") (attribute (codes "class") (codes "2") ∷ attribute (codes "id") (codes "1") ∷ []) ∷ start (codes "td") ∷ start (codes "tr") ∷ start (codes "tr") ∷ Text (codes "y") ∷ end (codes "nobr") ∷ Text (codes "x") ∷ [])
    ∷ []

random_8_answers : List Tree
random_8_answers =
    (Element (Element (Element (Element Nothing (codes "hr") (attribute (codes "id") (codes "1") ∷ attribute (codes "class") (codes "2") ∷ []) Nothing) (codes "hr") [] Nothing) (codes "table") [] (Element Nothing (codes "colgroup") [] Nothing)) (codes "picture") [] (Characters (Element Nothing (codes "hr") (attribute (codes "id") (codes "1") ∷ attribute (codes "class") (codes "2") ∷ []) Nothing) (codes " \n\n")))
    ∷ (Element (Element (Element Nothing (codes "a") (attribute (codes "id") (codes "1") ∷ attribute (codes "class") (codes "2") ∷ []) Nothing) (codes "a") (attribute (codes "class") (codes "2") ∷ attribute (codes "id") (codes "1") ∷ []) (Element Nothing (codes "i") (attribute (codes "id") (codes "1") ∷ attribute (codes "class") (codes "2") ∷ []) Nothing)) (codes "div") [] (Element (Element Nothing (codes "a") (attribute (codes "class") (codes "2") ∷ attribute (codes "id") (codes "1") ∷ []) (Element Nothing (codes "i") (attribute (codes "id") (codes "1") ∷ attribute (codes "class") (codes "2") ∷ []) Nothing)) (codes "div") [] (Element (Element Nothing (codes "a") (attribute (codes "class") (codes "2") ∷ attribute (codes "id") (codes "1") ∷ []) (Element Nothing (codes "i") (attribute (codes "id") (codes "1") ∷ attribute (codes "class") (codes "2") ∷ []) Nothing)) (codes "div") [] (Element (Element (Element Nothing (codes "a") (attribute (codes "class") (codes "2") ∷ attribute (codes "id") (codes "1") ∷ []) (Characters (Element Nothing (codes "i") (attribute (codes "id") (codes "1") ∷ attribute (codes "class") (codes "2") ∷ []) (Characters Nothing (codes "y"))) (codes "y"))) (codes "a") (attribute (codes "id") (codes "1") ∷ attribute (codes "class") (codes "2") ∷ []) (Element Nothing (codes "i") (attribute (codes "class") (codes "2") ∷ attribute (codes "id") (codes "1") ∷ []) Nothing)) (codes "i") (attribute (codes "class") (codes "2") ∷ attribute (codes "id") (codes "1") ∷ []) (Element Nothing (codes "a") (attribute (codes "class") (codes "2") ∷ attribute (codes "id") (codes "1") ∷ []) (Element Nothing (codes "i") (attribute (codes "class") (codes "2") ∷ attribute (codes "id") (codes "1") ∷ []) (Element (Element Nothing (codes "i") (attribute (codes "class") (codes "2") ∷ attribute (codes "id") (codes "1") ∷ []) Nothing) (codes "div") [] (Element (Element Nothing (codes "i") (attribute (codes "class") (codes "2") ∷ attribute (codes "id") (codes "1") ∷ []) Nothing) (codes "div") [] (Element (Element Nothing (codes "i") (attribute (codes "class") (codes "2") ∷ attribute (codes "id") (codes "1") ∷ []) Nothing) (codes "div") [] (Characters (Element Nothing (codes "i") (attribute (codes "class") (codes "2") ∷ attribute (codes "id") (codes "1") ∷ []) (Characters Nothing (codes "y"))) (codes "y")))))))))))
    ∷ (Characters Nothing (codes "x \n\n"))
    ∷ (Element (Characters (Element (Characters Nothing (codes "\n")) (codes "rt") (attribute (codes "class") (codes "2") ∷ attribute (codes "id") (codes "1") ∷ []) Nothing) (codes " x")) (codes "u") [] (Element (Characters (Element Nothing (codes "listing") (attribute (codes "class") (codes "2") ∷ attribute (codes "id") (codes "1") ∷ []) Nothing) (codes "x y")) (codes "u") (attribute (codes "class") (codes "1") ∷ []) Nothing))
    ∷ (Characters Nothing (codes "y\n\n"))
    ∷ (Element Nothing (codes "u") (attribute (codes "class") (codes "2") ∷ attribute (codes "id") (codes "1") ∷ []) (Element (Element (Element (Element (Characters (Element (Element (Element (Characters (Element (Element (Element (Characters Nothing (codes "xx")) (codes "u") (attribute (codes "id") (codes "1") ∷ attribute (codes "class") (codes "2") ∷ []) Nothing) (codes "table") [] (Element Nothing (codes "tbody") [] (Element (Element (Element Nothing (codes "tr") [] (Element Nothing (codes "td") [] Nothing)) (codes "tr") [] Nothing) (codes "tr") [] Nothing))) (codes "u") (attribute (codes "id") (codes "1") ∷ attribute (codes "class") (codes "2") ∷ []) (Characters Nothing (codes "y"))) (codes "x")) (codes "b") (attribute (codes "class") (codes "2") ∷ attribute (codes "id") (codes "1") ∷ []) (Element Nothing (codes "u") (attribute (codes "class") (codes "2") ∷ attribute (codes "id") (codes "1") ∷ []) Nothing)) (codes "table") [] (Element Nothing (codes "tbody") [] (Element Nothing (codes "tr") [] Nothing))) (codes "b") (attribute (codes "class") (codes "2") ∷ attribute (codes "id") (codes "1") ∷ []) (Element Nothing (codes "u") (attribute (codes "class") (codes "2") ∷ attribute (codes "id") (codes "1") ∷ []) (Characters Nothing (codes "x")))) (codes "y")) (codes "b") (attribute (codes "id") (codes "1") ∷ attribute (codes "class") (codes "2") ∷ []) (Element Nothing (codes "b") (attribute (codes "class") (codes "2") ∷ attribute (codes "id") (codes "1") ∷ []) (Element Nothing (codes "u") (attribute (codes "class") (codes "2") ∷ attribute (codes "id") (codes "1") ∷ []) Nothing))) (codes "b") (attribute (codes "id") (codes "1") ∷ attribute (codes "class") (codes "2") ∷ []) (Element Nothing (codes "b") (attribute (codes "class") (codes "2") ∷ attribute (codes "id") (codes "1") ∷ []) (Element Nothing (codes "u") (attribute (codes "class") (codes "2") ∷ attribute (codes "id") (codes "1") ∷ []) (Characters Nothing (codes "x"))))) (codes "table") [] (Element Nothing (codes "tbody") [] (Element Nothing (codes "tr") [] Nothing))) (codes "b") (attribute (codes "id") (codes "1") ∷ attribute (codes "class") (codes "2") ∷ []) (Element (Characters Nothing (codes "y")) (codes "u") (attribute (codes "class") (codes "2") ∷ attribute (codes "id") (codes "1") ∷ []) (Element Nothing (codes "u") (attribute (codes "class") (codes "2") ∷ attribute (codes "id") (codes "1") ∷ []) (Element (Characters (Element Nothing (codes "table") [] (Element Nothing (codes "tbody") [] (Element Nothing (codes "tr") [] Nothing))) (codes "xy")) (codes "table") [] Nothing)))))
    ∷ (Element (Characters Nothing (codes "x y")) (codes "br") [] Nothing)
    ∷ (Element Nothing (codes "h2") [] (Element Nothing (codes "strong") [] (Element (Element (Characters Nothing (codes "x y")) (codes "sub") [] Nothing) (codes "h2") (attribute (codes "id") (codes "1") ∷ attribute (codes "class") (codes "2") ∷ []) (Element (Element Nothing (codes "dt") (attribute (codes "id") (codes "1") ∷ attribute (codes "class") (codes "2") ∷ []) (Characters Nothing (codes "y"))) (codes "ul") (attribute (codes "id") (codes "1") ∷ attribute (codes "class") (codes "2") ∷ []) (Element (Characters Nothing (codes " x")) (codes "li") [] Nothing)))))
    ∷ (Element (Characters Nothing (codes "\n\n")) (codes "img") [] Nothing)
    ∷ (Characters (Element Nothing (codes "nobr") (attribute (codes "class") (codes "2") ∷ attribute (codes "id") (codes "1") ∷ []) (Characters Nothing (codes "y"))) (codes "x"))
    ∷ []

random_8 : map tree_of random_8_items ≡ random_8_answers
unfolding random_8_items random_8_answers is_among kind_in all_names kind_of near in_front whole_texts without_newlines joined changed changed_before found without applied built bare has_node inside outside without_node is_bounded popped_until implied_ended has_entry without_entry last_named is_one_of are_all_of count_alike without_earliest pushed cleared last_table lost kept reopened ended_by furthest_block replaced inner_loop added_after adopted outer_loop innermost mode_of back_to is_hidden leading_space after_space process run
random_8 = refl

random_9_items : List (List Item)
random_9_items =
    (end (codes "th") ∷ end (codes "table") ∷ StartTag (codes "area") (attribute (codes "id") (codes "1") ∷ attribute (codes "class") (codes "2") ∷ []) ∷ StartTag (codes "pre") (attribute (codes "class") (codes "1") ∷ []) ∷ end (codes "pre") ∷ end (codes "table") ∷ StartTag (codes "pre") (attribute (codes "class") (codes "2") ∷ attribute (codes "id") (codes "1") ∷ []) ∷ Text [] ∷ StartTag (codes "rp") (attribute (codes "class") (codes "1") ∷ []) ∷ end (codes "rp") ∷ Text (codes "\n") ∷ end (codes "pre") ∷ StartTag (codes "u") (attribute (codes "class") (codes "1") ∷ []) ∷ [])
    ∷ (Text (codes "\n\n") ∷ start (codes "nobr") ∷ start (codes "search") ∷ end (codes "search") ∷ end (codes "nobr") ∷ Text (codes "y") ∷ StartTag (codes "nobr") (attribute (codes "id") (codes "1") ∷ attribute (codes "class") (codes "2") ∷ []) ∷ end (codes "nobr") ∷ [])
    ∷ (start (codes "listing") ∷ start (codes "tt") ∷ StartTag (codes "cite") (attribute (codes "class") (codes "1") ∷ []) ∷ Text (codes "x") ∷ Text (codes "\n") ∷ Text (codes "x ") ∷ StartTag (codes "a") (attribute (codes "class") (codes "1") ∷ []) ∷ end (codes "a") ∷ end (codes "listing") ∷ StartTag (codes "h2") (attribute (codes "class") (codes "2") ∷ attribute (codes "id") (codes "1") ∷ []) ∷ start (codes "h2") ∷ Text (codes "\nx") ∷ [])
    ∷ (start (codes "a") ∷ start (codes "a") ∷ start (codes "u") ∷ start (codes "u") ∷ start (codes "nobr") ∷ start (codes "div") ∷ start (codes "div") ∷ Text (codes "y") ∷ end (codes "nobr") ∷ end (codes "a") ∷ end (codes "u") ∷ Text (codes "y") ∷ start (codes "nobr") ∷ start (codes "nobr") ∷ start (codes "a") ∷ start (codes "div") ∷ Text (codes "y") ∷ end (codes "a") ∷ end (codes "a") ∷ Text (codes "y") ∷ [])
    ∷ (Text (codes "\n") ∷ end (codes "tr") ∷ StartTag (codes "table") (attribute (codes "id") (codes "1") ∷ attribute (codes "class") (codes "2") ∷ []) ∷ Text (codes "x y") ∷ start (codes "wbr") ∷ end (codes "wbr") ∷ StartTag (codes "tfoot") (attribute (codes "class") (codes "2") ∷ attribute (codes "id") (codes "1") ∷ []) ∷ end (codes "table") ∷ StartTag (codes "pre") (attribute (codes "class") (codes "1") ∷ []) ∷ end (codes "pre") ∷ Text (codes " ") ∷ [])
    ∷ (Text (codes "\n") ∷ Text (codes "\n\n") ∷ start (codes "mark") ∷ start (codes "pre") ∷ StartTag (codes "button") (attribute (codes "class") (codes "1") ∷ []) ∷ end (codes "button") ∷ start (codes "pre") ∷ end (codes "pre") ∷ end (codes "pre") ∷ end (codes "mark") ∷ [])
    ∷ (end (codes "ruby") ∷ end (codes "dd") ∷ StartTag (codes "tt") (attribute (codes "id") (codes "1") ∷ attribute (codes "class") (codes "2") ∷ []) ∷ [])
    ∷ (start (codes "a") ∷ start (codes "u") ∷ start (codes "i") ∷ start (codes "u") ∷ start (codes "a") ∷ start (codes "p") ∷ start (codes "div") ∷ start (codes "p") ∷ Text (codes "y") ∷ end (codes "i") ∷ end (codes "i") ∷ Text (codes "x") ∷ [])
    ∷ (Text (codes "x y") ∷ end (codes "ol") ∷ StartTag (codes "dt") (attribute (codes "id") (codes "1") ∷ attribute (codes "class") (codes "2") ∷ []) ∷ Text (codes "x") ∷ Text (codes "x ") ∷ end (codes "dt") ∷ end (codes "dt") ∷ [])
    ∷ (StartTag (codes "i") (attribute (codes "id") (codes "1") ∷ attribute (codes "class") (codes "2") ∷ []) ∷ StartTag (codes "input") (attribute (codes "type") (codes "text") ∷ []) ∷ Text [] ∷ StartTag (codes "input") (attribute (codes "type") (codes "hidden") ∷ []) ∷ start (codes "i") ∷ end (codes "i") ∷ Text (codes " ") ∷ Text (codes "\nx") ∷ end (codes "i") ∷ Text (codes "y") ∷ start (codes "table") ∷ StartTag (codes "colgroup") (attribute (codes "id") (codes "1") ∷ attribute (codes "class") (codes "2") ∷ []) ∷ start (codes "col") ∷ start (codes "col") ∷ Text [] ∷ end (codes "colgroup") ∷ end (codes "table") ∷ [])
    ∷ []

random_9_answers : List Tree
random_9_answers =
    (Element (Element (Element (Element Nothing (codes "area") (attribute (codes "id") (codes "1") ∷ attribute (codes "class") (codes "2") ∷ []) Nothing) (codes "pre") (attribute (codes "class") (codes "1") ∷ []) Nothing) (codes "pre") (attribute (codes "class") (codes "2") ∷ attribute (codes "id") (codes "1") ∷ []) (Characters (Element Nothing (codes "rp") (attribute (codes "class") (codes "1") ∷ []) Nothing) (codes "\n"))) (codes "u") (attribute (codes "class") (codes "1") ∷ []) Nothing)
    ∷ (Element (Characters (Element (Characters Nothing (codes "\n\n")) (codes "nobr") [] (Element Nothing (codes "search") [] Nothing)) (codes "y")) (codes "nobr") (attribute (codes "id") (codes "1") ∷ attribute (codes "class") (codes "2") ∷ []) Nothing)
    ∷ (Element (Element (Element Nothing (codes "listing") [] (Element Nothing (codes "tt") [] (Element Nothing (codes "cite") (attribute (codes "class") (codes "1") ∷ []) (Element (Characters Nothing (codes "x\nx ")) (codes "a") (attribute (codes "class") (codes "1") ∷ []) Nothing)))) (codes "h2") (attribute (codes "class") (codes "2") ∷ attribute (codes "id") (codes "1") ∷ []) Nothing) (codes "h2") [] (Element Nothing (codes "tt") [] (Characters Nothing (codes "\nx"))))
    ∷ (Element (Element (Element Nothing (codes "a") [] Nothing) (codes "a") [] (Element Nothing (codes "u") [] (Element Nothing (codes "u") [] (Element Nothing (codes "nobr") [] Nothing)))) (codes "u") [] (Element (Element Nothing (codes "u") [] Nothing) (codes "div") [] (Element (Element Nothing (codes "u") [] (Element Nothing (codes "a") [] (Element Nothing (codes "nobr") [] Nothing))) (codes "div") [] (Element (Element (Characters (Element Nothing (codes "u") [] (Element Nothing (codes "a") [] (Element Nothing (codes "nobr") [] (Characters Nothing (codes "y"))))) (codes "y")) (codes "nobr") [] Nothing) (codes "nobr") [] (Element (Element Nothing (codes "a") [] Nothing) (codes "div") [] (Characters (Element Nothing (codes "a") [] (Characters Nothing (codes "y"))) (codes "y")))))))
    ∷ (Characters (Element (Element (Element (Characters Nothing (codes "\nx y")) (codes "wbr") [] Nothing) (codes "table") (attribute (codes "id") (codes "1") ∷ attribute (codes "class") (codes "2") ∷ []) (Element Nothing (codes "tfoot") (attribute (codes "class") (codes "2") ∷ attribute (codes "id") (codes "1") ∷ []) Nothing)) (codes "pre") (attribute (codes "class") (codes "1") ∷ []) Nothing) (codes " "))
    ∷ (Element (Characters Nothing (codes "\n\n\n")) (codes "mark") [] (Element Nothing (codes "pre") [] (Element (Element Nothing (codes "button") (attribute (codes "class") (codes "1") ∷ []) Nothing) (codes "pre") [] Nothing)))
    ∷ (Element Nothing (codes "tt") (attribute (codes "id") (codes "1") ∷ attribute (codes "class") (codes "2") ∷ []) Nothing)
    ∷ (Element (Element Nothing (codes "a") [] (Element Nothing (codes "u") [] (Element Nothing (codes "i") [] (Element Nothing (codes "u") [] Nothing)))) (codes "u") [] (Element (Element Nothing (codes "i") [] (Element Nothing (codes "u") [] (Element Nothing (codes "a") [] (Element Nothing (codes "p") [] Nothing)))) (codes "u") [] (Element Nothing (codes "a") [] (Element Nothing (codes "div") [] (Element (Element Nothing (codes "i") [] Nothing) (codes "p") [] (Characters (Element Nothing (codes "i") [] (Characters Nothing (codes "y"))) (codes "x")))))))
    ∷ (Element (Characters Nothing (codes "x y")) (codes "dt") (attribute (codes "id") (codes "1") ∷ attribute (codes "class") (codes "2") ∷ []) (Characters Nothing (codes "xx ")))
    ∷ (Element (Characters (Element Nothing (codes "i") (attribute (codes "id") (codes "1") ∷ attribute (codes "class") (codes "2") ∷ []) (Characters (Element (Element (Element Nothing (codes "input") (attribute (codes "type") (codes "text") ∷ []) Nothing) (codes "input") (attribute (codes "type") (codes "hidden") ∷ []) Nothing) (codes "i") [] Nothing) (codes " \nx"))) (codes "y")) (codes "table") [] (Element Nothing (codes "colgroup") (attribute (codes "id") (codes "1") ∷ attribute (codes "class") (codes "2") ∷ []) (Element (Element Nothing (codes "col") [] Nothing) (codes "col") [] Nothing)))
    ∷ []

random_9 : map tree_of random_9_items ≡ random_9_answers
unfolding random_9_items random_9_answers is_among kind_in all_names kind_of near in_front whole_texts without_newlines joined changed changed_before found without applied built bare has_node inside outside without_node is_bounded popped_until implied_ended has_entry without_entry last_named is_one_of are_all_of count_alike without_earliest pushed cleared last_table lost kept reopened ended_by furthest_block replaced inner_loop added_after adopted outer_loop innermost mode_of back_to is_hidden leading_space after_space process run
random_9 = refl

random_10_items : List (List Item)
random_10_items =
    (Text (codes " x") ∷ end (codes "table") ∷ StartTag (codes "rt") (attribute (codes "id") (codes "1") ∷ attribute (codes "class") (codes "2") ∷ []) ∷ Text (codes "\nx") ∷ end (codes "rt") ∷ StartTag (codes "ul") (attribute (codes "class") (codes "1") ∷ []) ∷ end (codes "ul") ∷ Text (codes " ") ∷ start (codes "ul") ∷ end (codes "ul") ∷ StartTag (codes "sup") (attribute (codes "class") (codes "1") ∷ []) ∷ StartTag (codes "tr") (attribute (codes "class") (codes "2") ∷ attribute (codes "id") (codes "1") ∷ []) ∷ [])
    ∷ (StartTag (codes "b") (attribute (codes "id") (codes "1") ∷ attribute (codes "class") (codes "2") ∷ []) ∷ start (codes "li") ∷ start (codes "div") ∷ start (codes "div") ∷ start (codes "div") ∷ start (codes "ul") ∷ start (codes "div") ∷ start (codes "li") ∷ start (codes "div") ∷ Text (codes "y") ∷ end (codes "u") ∷ end (codes "u") ∷ end (codes "ul") ∷ Text (codes "x") ∷ [])
    ∷ (end (codes "dl") ∷ end (codes "dt") ∷ end (codes "table") ∷ start (codes "dl") ∷ [])
    ∷ (Text (codes "\nx") ∷ Text (codes "y") ∷ StartTag (codes "embed") (attribute (codes "class") (codes "1") ∷ []) ∷ Text (codes "x ") ∷ Text (codes " x") ∷ Text (codes "\n") ∷ Text (codes " x") ∷ [])
    ∷ (end (codes "embed") ∷ Text (codes "y") ∷ start (codes "figure") ∷ start (codes "figure") ∷ Text (codes "x y") ∷ start (codes "h1") ∷ StartTag (codes "embed") (attribute (codes "class") (codes "2") ∷ attribute (codes "id") (codes "1") ∷ []) ∷ Text (codes "y") ∷ StartTag (codes "h1") (attribute (codes "class") (codes "1") ∷ []) ∷ end (codes "h1") ∷ end (codes "h1") ∷ start (codes "h3") ∷ end (codes "figure") ∷ start (codes "h3") ∷ StartTag (codes "h1") (attribute (codes "class") (codes "1") ∷ []) ∷ [])
    ∷ (StartTag (codes "b") (attribute (codes "id") (codes "1") ∷ attribute (codes "class") (codes "2") ∷ []) ∷ StartTag (codes "b") (attribute (codes "id") (codes "1") ∷ attribute (codes "class") (codes "2") ∷ []) ∷ StartTag (codes "b") (attribute (codes "id") (codes "1") ∷ attribute (codes "class") (codes "2") ∷ []) ∷ StartTag (codes "b") (attribute (codes "id") (codes "1") ∷ attribute (codes "class") (codes "2") ∷ []) ∷ StartTag (codes "b") (attribute (codes "class") (codes "2") ∷ attribute (codes "id") (codes "1") ∷ []) ∷ start (codes "div") ∷ Text (codes "x") ∷ end (codes "p") ∷ end (codes "b") ∷ Text (codes "x") ∷ [])
    ∷ (end (codes "rt") ∷ Text (codes "y") ∷ Text (codes "\nx") ∷ end (codes "rt") ∷ start (codes "rt") ∷ Text (codes "x y") ∷ StartTag (codes "rt") (attribute (codes "class") (codes "2") ∷ attribute (codes "id") (codes "1") ∷ []) ∷ end (codes "rt") ∷ StartTag (codes "rt") (attribute (codes "class") (codes "1") ∷ []) ∷ start (codes "rt") ∷ end (codes "rt") ∷ StartTag (codes "rt") (attribute (codes "id") (codes "1") ∷ attribute (codes "class") (codes "2") ∷ []) ∷ start (codes "area") ∷ StartTag (codes "area") (attribute (codes "id") (codes "1") ∷ attribute (codes "class") (codes "2") ∷ []) ∷ [])
    ∷ (Text (codes "\n\n") ∷ start (codes "pre") ∷ StartTag (codes "nav") (attribute (codes "class") (codes "2") ∷ attribute (codes "id") (codes "1") ∷ []) ∷ start (codes "nav") ∷ start (codes "ruby") ∷ end (codes "ruby") ∷ end (codes "nav") ∷ end (codes "nav") ∷ end (codes "pre") ∷ [])
    ∷ (Text (codes "\n\n") ∷ end (codes "h1") ∷ StartTag (codes "h1") (attribute (codes "id") (codes "1") ∷ attribute (codes "class") (codes "2") ∷ []) ∷ end (codes "h1") ∷ end (codes "nobr") ∷ end (codes "h1") ∷ end (codes "h1") ∷ Text (codes "\n\n") ∷ StartTag (codes "nobr") (attribute (codes "class") (codes "1") ∷ []) ∷ StartTag (codes "dl") (attribute (codes "class") (codes "2") ∷ attribute (codes "id") (codes "1") ∷ []) ∷ end (codes "nobr") ∷ start (codes "dl") ∷ StartTag (codes "nobr") (attribute (codes "class") (codes "1") ∷ []) ∷ end (codes "nobr") ∷ start (codes "h1") ∷ end (codes "h1") ∷ [])
    ∷ (start (codes "a") ∷ start (codes "a") ∷ start (codes "u") ∷ start (codes "div") ∷ start (codes "ul") ∷ Text (codes "y") ∷ end (codes "u") ∷ end (codes "u") ∷ end (codes "li") ∷ Text (codes "x") ∷ start (codes "u") ∷ start (codes "u") ∷ start (codes "a") ∷ start (codes "li") ∷ Text (codes "x") ∷ end (codes "a") ∷ end (codes "a") ∷ end (codes "a") ∷ Text (codes "y") ∷ start (codes "u") ∷ start (codes "a") ∷ start (codes "u") ∷ start (codes "a") ∷ start (codes "a") ∷ start (codes "li") ∷ Text (codes "x") ∷ end (codes "u") ∷ Text (codes "y") ∷ start (codes "u") ∷ start (codes "ul") ∷ Text (codes "x") ∷ end (codes "a") ∷ Text (codes "x") ∷ [])
    ∷ []

random_10_answers : List Tree
random_10_answers =
    (Element (Element (Characters (Element (Element (Characters Nothing (codes " x")) (codes "rt") (attribute (codes "id") (codes "1") ∷ attribute (codes "class") (codes "2") ∷ []) (Characters Nothing (codes "\nx"))) (codes "ul") (attribute (codes "class") (codes "1") ∷ []) Nothing) (codes " ")) (codes "ul") [] Nothing) (codes "sup") (attribute (codes "class") (codes "1") ∷ []) Nothing)
    ∷ (Element Nothing (codes "b") (attribute (codes "id") (codes "1") ∷ attribute (codes "class") (codes "2") ∷ []) (Element Nothing (codes "li") [] (Element Nothing (codes "div") [] (Element Nothing (codes "div") [] (Element Nothing (codes "div") [] (Characters (Element Nothing (codes "ul") [] (Element Nothing (codes "div") [] (Element Nothing (codes "li") [] (Element Nothing (codes "div") [] (Characters Nothing (codes "y")))))) (codes "x")))))))
    ∷ (Element Nothing (codes "dl") [] Nothing)
    ∷ (Characters (Element (Characters Nothing (codes "\nxy")) (codes "embed") (attribute (codes "class") (codes "1") ∷ []) Nothing) (codes "x  x\n x"))
    ∷ (Element (Characters Nothing (codes "y")) (codes "figure") [] (Element (Element (Element Nothing (codes "figure") [] (Element (Element (Element (Characters Nothing (codes "x y")) (codes "h1") [] (Characters (Element Nothing (codes "embed") (attribute (codes "class") (codes "2") ∷ attribute (codes "id") (codes "1") ∷ []) Nothing) (codes "y"))) (codes "h1") (attribute (codes "class") (codes "1") ∷ []) Nothing) (codes "h3") [] Nothing)) (codes "h3") [] Nothing) (codes "h1") (attribute (codes "class") (codes "1") ∷ []) Nothing))
    ∷ (Element Nothing (codes "b") (attribute (codes "id") (codes "1") ∷ attribute (codes "class") (codes "2") ∷ []) (Element Nothing (codes "b") (attribute (codes "id") (codes "1") ∷ attribute (codes "class") (codes "2") ∷ []) (Element Nothing (codes "b") (attribute (codes "id") (codes "1") ∷ attribute (codes "class") (codes "2") ∷ []) (Element Nothing (codes "b") (attribute (codes "id") (codes "1") ∷ attribute (codes "class") (codes "2") ∷ []) (Element (Element Nothing (codes "b") (attribute (codes "class") (codes "2") ∷ attribute (codes "id") (codes "1") ∷ []) Nothing) (codes "div") [] (Characters (Element Nothing (codes "b") (attribute (codes "class") (codes "2") ∷ attribute (codes "id") (codes "1") ∷ []) (Element (Characters Nothing (codes "x")) (codes "p") [] Nothing)) (codes "x")))))))
    ∷ (Element (Characters Nothing (codes "y\nx")) (codes "rt") [] (Element (Element (Characters Nothing (codes "x y")) (codes "rt") (attribute (codes "class") (codes "2") ∷ attribute (codes "id") (codes "1") ∷ []) Nothing) (codes "rt") (attribute (codes "class") (codes "1") ∷ []) (Element (Element Nothing (codes "rt") [] Nothing) (codes "rt") (attribute (codes "id") (codes "1") ∷ attribute (codes "class") (codes "2") ∷ []) (Element (Element Nothing (codes "area") [] Nothing) (codes "area") (attribute (codes "id") (codes "1") ∷ attribute (codes "class") (codes "2") ∷ []) Nothing))))
    ∷ (Element (Characters Nothing (codes "\n\n")) (codes "pre") [] (Element Nothing (codes "nav") (attribute (codes "class") (codes "2") ∷ attribute (codes "id") (codes "1") ∷ []) (Element Nothing (codes "nav") [] (Element Nothing (codes "ruby") [] Nothing))))
    ∷ (Element (Element (Characters (Element (Characters Nothing (codes "\n\n")) (codes "h1") (attribute (codes "id") (codes "1") ∷ attribute (codes "class") (codes "2") ∷ []) Nothing) (codes "\n\n")) (codes "nobr") (attribute (codes "class") (codes "1") ∷ []) Nothing) (codes "dl") (attribute (codes "class") (codes "2") ∷ attribute (codes "id") (codes "1") ∷ []) (Element (Element Nothing (codes "nobr") (attribute (codes "class") (codes "1") ∷ []) Nothing) (codes "dl") [] (Element (Element Nothing (codes "nobr") (attribute (codes "class") (codes "1") ∷ []) Nothing) (codes "h1") [] Nothing)))
    ∷ (Element (Element (Element Nothing (codes "a") [] Nothing) (codes "a") [] (Element Nothing (codes "u") [] Nothing)) (codes "div") [] (Element (Element Nothing (codes "a") [] (Element Nothing (codes "u") [] Nothing)) (codes "ul") [] (Element (Element Nothing (codes "a") [] (Element (Characters (Element Nothing (codes "u") [] (Characters Nothing (codes "y"))) (codes "x")) (codes "u") [] (Element Nothing (codes "u") [] Nothing))) (codes "u") [] (Element Nothing (codes "u") [] (Element (Element (Element Nothing (codes "a") [] Nothing) (codes "li") [] (Element (Characters (Element Nothing (codes "a") [] (Characters Nothing (codes "x"))) (codes "y")) (codes "u") [] (Element (Element Nothing (codes "a") [] (Element Nothing (codes "u") [] Nothing)) (codes "u") [] (Element (Element Nothing (codes "a") [] Nothing) (codes "a") [] Nothing)))) (codes "li") [] (Element Nothing (codes "u") [] (Element (Element (Element Nothing (codes "u") [] (Element Nothing (codes "a") [] (Characters Nothing (codes "x")))) (codes "a") [] (Element (Characters Nothing (codes "y")) (codes "u") [] Nothing)) (codes "u") [] (Element Nothing (codes "ul") [] (Characters (Element Nothing (codes "a") [] (Characters Nothing (codes "x"))) (codes "x"))))))))))
    ∷ []

random_10 : map tree_of random_10_items ≡ random_10_answers
unfolding random_10_items random_10_answers is_among kind_in all_names kind_of near in_front whole_texts without_newlines joined changed changed_before found without applied built bare has_node inside outside without_node is_bounded popped_until implied_ended has_entry without_entry last_named is_one_of are_all_of count_alike without_earliest pushed cleared last_table lost kept reopened ended_by furthest_block replaced inner_loop added_after adopted outer_loop innermost mode_of back_to is_hidden leading_space after_space process run
random_10 = refl

random_11_items : List (List Item)
random_11_items =
    (start (codes "br") ∷ Text (codes " x") ∷ end (codes "h2") ∷ end (codes "input") ∷ start (codes "h2") ∷ Text (codes "x") ∷ StartTag (codes "br") (attribute (codes "id") (codes "1") ∷ attribute (codes "class") (codes "2") ∷ []) ∷ start (codes "thead") ∷ Text (codes "\n\n") ∷ Text (codes " x") ∷ start (codes "tr") ∷ StartTag (codes "th") (attribute (codes "id") (codes "1") ∷ attribute (codes "class") (codes "2") ∷ []) ∷ end (codes "input") ∷ StartTag (codes "tr") (attribute (codes "id") (codes "1") ∷ attribute (codes "class") (codes "2") ∷ []) ∷ StartTag (codes "tr") (attribute (codes "id") (codes "1") ∷ attribute (codes "class") (codes "2") ∷ []) ∷ start (codes "h2") ∷ [])
    ∷ (Text (codes "x y") ∷ Text (codes "x y") ∷ start (codes "h2") ∷ Text [] ∷ end (codes "h2") ∷ Text (codes "x ") ∷ start (codes "table") ∷ start (codes "tbody") ∷ start (codes "tr") ∷ StartTag (codes "td") (attribute (codes "class") (codes "2") ∷ attribute (codes "id") (codes "1") ∷ []) ∷ StartTag (codes "ruby") (attribute (codes "id") (codes "1") ∷ attribute (codes "class") (codes "2") ∷ []) ∷ end (codes "ruby") ∷ StartTag (codes "table") (attribute (codes "id") (codes "1") ∷ attribute (codes "class") (codes "2") ∷ []) ∷ end (codes "table") ∷ end (codes "td") ∷ end (codes "tr") ∷ end (codes "tbody") ∷ end (codes "table") ∷ [])
    ∷ (end (codes "table") ∷ end (codes "del") ∷ start (codes "table") ∷ [])
    ∷ (StartTag (codes "nobr") (attribute (codes "id") (codes "1") ∷ attribute (codes "class") (codes "2") ∷ []) ∷ StartTag (codes "nobr") (attribute (codes "class") (codes "2") ∷ attribute (codes "id") (codes "1") ∷ []) ∷ StartTag (codes "nobr") (attribute (codes "class") (codes "2") ∷ attribute (codes "id") (codes "1") ∷ []) ∷ StartTag (codes "a") (attribute (codes "class") (codes "2") ∷ attribute (codes "id") (codes "1") ∷ []) ∷ StartTag (codes "i") (attribute (codes "id") (codes "1") ∷ attribute (codes "class") (codes "2") ∷ []) ∷ start (codes "li") ∷ start (codes "li") ∷ start (codes "ul") ∷ start (codes "div") ∷ start (codes "div") ∷ start (codes "li") ∷ start (codes "div") ∷ start (codes "div") ∷ Text (codes "y") ∷ end (codes "a") ∷ end (codes "i") ∷ Text (codes "y") ∷ [])
    ∷ (Text (codes "y") ∷ end (codes "s") ∷ start (codes "rtc") ∷ StartTag (codes "table") (attribute (codes "class") (codes "1") ∷ []) ∷ StartTag (codes "rtc") (attribute (codes "class") (codes "1") ∷ []) ∷ start (codes "td") ∷ start (codes "td") ∷ start (codes "td") ∷ end (codes "td") ∷ [])
    ∷ (Text (codes "x y") ∷ StartTag (codes "listing") (attribute (codes "class") (codes "1") ∷ []) ∷ end (codes "listing") ∷ Text (codes "x") ∷ Text (codes " x") ∷ Text (codes " ") ∷ [])
    ∷ (end (codes "rt") ∷ Text (codes " x") ∷ Text (codes "x y") ∷ end (codes "listing") ∷ StartTag (codes "strong") (attribute (codes "id") (codes "1") ∷ attribute (codes "class") (codes "2") ∷ []) ∷ end (codes "strong") ∷ end (codes "rt") ∷ start (codes "strong") ∷ Text (codes " ") ∷ end (codes "strong") ∷ StartTag (codes "strong") (attribute (codes "class") (codes "2") ∷ attribute (codes "id") (codes "1") ∷ []) ∷ end (codes "strong") ∷ Text (codes "x") ∷ [])
    ∷ (start (codes "a") ∷ start (codes "table") ∷ Text (codes "x") ∷ end (codes "a") ∷ end (codes "nobr") ∷ end (codes "nobr") ∷ Text (codes "x") ∷ start (codes "nobr") ∷ start (codes "a") ∷ start (codes "a") ∷ start (codes "table") ∷ start (codes "table") ∷ start (codes "table") ∷ Text (codes "y") ∷ end (codes "a") ∷ end (codes "div") ∷ Text (codes "x") ∷ start (codes "a") ∷ start (codes "nobr") ∷ start (codes "nobr") ∷ start (codes "a") ∷ start (codes "a") ∷ start (codes "div") ∷ Text (codes "x") ∷ end (codes "nobr") ∷ end (codes "div") ∷ end (codes "a") ∷ Text (codes "y") ∷ [])
    ∷ (start (codes "listing") ∷ end (codes "listing") ∷ Text (codes "y") ∷ StartTag (codes "td") (attribute (codes "class") (codes "1") ∷ []) ∷ end (codes "listing") ∷ end (codes "td") ∷ end (codes "listing") ∷ start (codes "listing") ∷ start (codes "listing") ∷ start (codes "td") ∷ Text (codes "x") ∷ end (codes "td") ∷ end (codes "td") ∷ [])
    ∷ (Text (codes "\n\n") ∷ Text [] ∷ StartTag (codes "h1") (attribute (codes "class") (codes "2") ∷ attribute (codes "id") (codes "1") ∷ []) ∷ end (codes "h1") ∷ start (codes "dd") ∷ Text (codes "\n\n") ∷ Text (codes "x ") ∷ end (codes "dd") ∷ Text (codes "\nx") ∷ [])
    ∷ []

random_11_answers : List Tree
random_11_answers =
    (Element (Element (Characters (Element Nothing (codes "br") [] Nothing) (codes " x")) (codes "h2") [] (Characters (Element (Characters Nothing (codes "x")) (codes "br") (attribute (codes "id") (codes "1") ∷ attribute (codes "class") (codes "2") ∷ []) Nothing) (codes "\n\n x"))) (codes "h2") [] Nothing)
    ∷ (Element (Characters (Element (Characters Nothing (codes "x yx y")) (codes "h2") [] Nothing) (codes "x ")) (codes "table") [] (Element Nothing (codes "tbody") [] (Element Nothing (codes "tr") [] (Element Nothing (codes "td") (attribute (codes "class") (codes "2") ∷ attribute (codes "id") (codes "1") ∷ []) (Element (Element Nothing (codes "ruby") (attribute (codes "id") (codes "1") ∷ attribute (codes "class") (codes "2") ∷ []) Nothing) (codes "table") (attribute (codes "id") (codes "1") ∷ attribute (codes "class") (codes "2") ∷ []) Nothing)))))
    ∷ (Element Nothing (codes "table") [] Nothing)
    ∷ (Element (Element (Element Nothing (codes "nobr") (attribute (codes "id") (codes "1") ∷ attribute (codes "class") (codes "2") ∷ []) Nothing) (codes "nobr") (attribute (codes "class") (codes "2") ∷ attribute (codes "id") (codes "1") ∷ []) Nothing) (codes "nobr") (attribute (codes "class") (codes "2") ∷ attribute (codes "id") (codes "1") ∷ []) (Element (Element (Element Nothing (codes "a") (attribute (codes "class") (codes "2") ∷ attribute (codes "id") (codes "1") ∷ []) (Element Nothing (codes "i") (attribute (codes "id") (codes "1") ∷ attribute (codes "class") (codes "2") ∷ []) (Element Nothing (codes "li") [] Nothing))) (codes "i") (attribute (codes "id") (codes "1") ∷ attribute (codes "class") (codes "2") ∷ []) Nothing) (codes "li") [] (Element (Element Nothing (codes "i") (attribute (codes "id") (codes "1") ∷ attribute (codes "class") (codes "2") ∷ []) (Element Nothing (codes "a") (attribute (codes "class") (codes "2") ∷ attribute (codes "id") (codes "1") ∷ []) Nothing)) (codes "ul") [] (Element (Element Nothing (codes "i") (attribute (codes "id") (codes "1") ∷ attribute (codes "class") (codes "2") ∷ []) (Element Nothing (codes "a") (attribute (codes "class") (codes "2") ∷ attribute (codes "id") (codes "1") ∷ []) Nothing)) (codes "div") [] (Element (Element Nothing (codes "i") (attribute (codes "id") (codes "1") ∷ attribute (codes "class") (codes "2") ∷ []) (Element Nothing (codes "a") (attribute (codes "class") (codes "2") ∷ attribute (codes "id") (codes "1") ∷ []) Nothing)) (codes "div") [] (Element (Element Nothing (codes "i") (attribute (codes "id") (codes "1") ∷ attribute (codes "class") (codes "2") ∷ []) (Element Nothing (codes "a") (attribute (codes "class") (codes "2") ∷ attribute (codes "id") (codes "1") ∷ []) Nothing)) (codes "li") [] (Element (Element Nothing (codes "i") (attribute (codes "id") (codes "1") ∷ attribute (codes "class") (codes "2") ∷ []) (Element Nothing (codes "a") (attribute (codes "class") (codes "2") ∷ attribute (codes "id") (codes "1") ∷ []) Nothing)) (codes "div") [] (Element (Element Nothing (codes "i") (attribute (codes "id") (codes "1") ∷ attribute (codes "class") (codes "2") ∷ []) (Element Nothing (codes "a") (attribute (codes "class") (codes "2") ∷ attribute (codes "id") (codes "1") ∷ []) Nothing)) (codes "div") [] (Characters (Element Nothing (codes "i") (attribute (codes "id") (codes "1") ∷ attribute (codes "class") (codes "2") ∷ []) (Element Nothing (codes "a") (attribute (codes "class") (codes "2") ∷ attribute (codes "id") (codes "1") ∷ []) (Characters Nothing (codes "y")))) (codes "y"))))))))))
    ∷ (Element (Characters Nothing (codes "y")) (codes "rtc") [] (Element (Element Nothing (codes "rtc") (attribute (codes "class") (codes "1") ∷ []) Nothing) (codes "table") (attribute (codes "class") (codes "1") ∷ []) (Element Nothing (codes "tbody") [] (Element Nothing (codes "tr") [] (Element (Element (Element Nothing (codes "td") [] Nothing) (codes "td") [] Nothing) (codes "td") [] Nothing)))))
    ∷ (Characters (Element (Characters Nothing (codes "x y")) (codes "listing") (attribute (codes "class") (codes "1") ∷ []) Nothing) (codes "x x "))
    ∷ (Characters (Element (Element (Element (Characters Nothing (codes " xx y")) (codes "strong") (attribute (codes "id") (codes "1") ∷ attribute (codes "class") (codes "2") ∷ []) Nothing) (codes "strong") [] (Characters Nothing (codes " "))) (codes "strong") (attribute (codes "class") (codes "2") ∷ attribute (codes "id") (codes "1") ∷ []) Nothing) (codes "x"))
    ∷ (Element (Characters (Element (Element (Element (Element (Element (Element (Element Nothing (codes "a") [] (Element (Element (Characters Nothing (codes "xx")) (codes "nobr") [] (Element (Element Nothing (codes "a") [] Nothing) (codes "a") [] Nothing)) (codes "table") [] Nothing)) (codes "table") [] Nothing) (codes "table") [] Nothing) (codes "nobr") [] (Element (Characters (Element Nothing (codes "a") [] (Characters Nothing (codes "y"))) (codes "x")) (codes "a") [] Nothing)) (codes "a") [] (Element (Element Nothing (codes "nobr") [] Nothing) (codes "nobr") [] Nothing)) (codes "nobr") [] (Element (Element Nothing (codes "a") [] Nothing) (codes "a") [] Nothing)) (codes "a") [] (Element Nothing (codes "div") [] (Element Nothing (codes "nobr") [] (Characters Nothing (codes "x"))))) (codes "y")) (codes "table") [] Nothing)
    ∷ (Element (Characters (Element Nothing (codes "listing") [] Nothing) (codes "y")) (codes "listing") [] (Element Nothing (codes "listing") [] (Characters Nothing (codes "x"))))
    ∷ (Characters (Element (Element (Characters Nothing (codes "\n\n")) (codes "h1") (attribute (codes "class") (codes "2") ∷ attribute (codes "id") (codes "1") ∷ []) Nothing) (codes "dd") [] (Characters Nothing (codes "\n\nx "))) (codes "\nx"))
    ∷ []

random_11 : map tree_of random_11_items ≡ random_11_answers
unfolding random_11_items random_11_answers is_among kind_in all_names kind_of near in_front whole_texts without_newlines joined changed changed_before found without applied built bare has_node inside outside without_node is_bounded popped_until implied_ended has_entry without_entry last_named is_one_of are_all_of count_alike without_earliest pushed cleared last_table lost kept reopened ended_by furthest_block replaced inner_loop added_after adopted outer_loop innermost mode_of back_to is_hidden leading_space after_space process run
random_11 = refl

-- ---- trees of items that were chosen

chosen_0_items : List (List Item)
chosen_0_items =
    (start (codes "p") ∷ start (codes "li") ∷ [])
    ∷ (start (codes "p") ∷ start (codes "form") ∷ [])
    ∷ (start (codes "p") ∷ start (codes "u") ∷ start (codes "p") ∷ start (codes "u") ∷ [])
    ∷ (start (codes "em") ∷ start (codes "dl") ∷ end (codes "em") ∷ [])
    ∷ (start (codes "table") ∷ start (codes "form") ∷ [])
    ∷ (start (codes "ruby") ∷ start (codes "rp") ∷ start (codes "rp") ∷ [])
    ∷ (start (codes "table") ∷ start (codes "col") ∷ Text (codes "\nx") ∷ [])
    ∷ (start (codes "table") ∷ start (codes "form") ∷ Text (codes " x") ∷ [])
    ∷ (start (codes "font") ∷ start (codes "h3") ∷ end (codes "font") ∷ [])
    ∷ (start (codes "table") ∷ start (codes "td") ∷ end (codes "td") ∷ Text (codes "y") ∷ [])
    ∷ []

chosen_0_answers : List Tree
chosen_0_answers =
    (Element (Element Nothing (codes "p") [] Nothing) (codes "li") [] Nothing)
    ∷ (Element (Element Nothing (codes "p") [] Nothing) (codes "form") [] Nothing)
    ∷ (Element (Element Nothing (codes "p") [] (Element Nothing (codes "u") [] Nothing)) (codes "p") [] (Element Nothing (codes "u") [] (Element Nothing (codes "u") [] Nothing)))
    ∷ (Element (Element Nothing (codes "em") [] Nothing) (codes "dl") [] (Element Nothing (codes "em") [] Nothing))
    ∷ (Element Nothing (codes "table") [] (Element Nothing (codes "form") [] Nothing))
    ∷ (Element Nothing (codes "ruby") [] (Element (Element Nothing (codes "rp") [] Nothing) (codes "rp") [] Nothing))
    ∷ (Element (Characters Nothing (codes "x")) (codes "table") [] (Element Nothing (codes "colgroup") [] (Characters (Element Nothing (codes "col") [] Nothing) (codes "\n"))))
    ∷ (Element (Characters Nothing (codes " x")) (codes "table") [] (Element Nothing (codes "form") [] Nothing))
    ∷ (Element (Element Nothing (codes "font") [] Nothing) (codes "h3") [] (Element Nothing (codes "font") [] Nothing))
    ∷ (Element (Characters Nothing (codes "y")) (codes "table") [] (Element Nothing (codes "tbody") [] (Element Nothing (codes "tr") [] (Element Nothing (codes "td") [] Nothing))))
    ∷ []

chosen_0 : map tree_of chosen_0_items ≡ chosen_0_answers
unfolding chosen_0_items chosen_0_answers is_among kind_in all_names kind_of near in_front whole_texts without_newlines joined changed changed_before found without applied built bare has_node inside outside without_node is_bounded popped_until implied_ended has_entry without_entry last_named is_one_of are_all_of count_alike without_earliest pushed cleared last_table lost kept reopened ended_by furthest_block replaced inner_loop added_after adopted outer_loop innermost mode_of back_to is_hidden leading_space after_space process run
chosen_0 = refl

chosen_1_items : List (List Item)
chosen_1_items =
    (start (codes "table") ∷ start (codes "tr") ∷ end (codes "tr") ∷ Text (codes "\n") ∷ [])
    ∷ (start (codes "nobr") ∷ start (codes "s") ∷ end (codes "nobr") ∷ Text (codes " x") ∷ [])
    ∷ (start (codes "p") ∷ start (codes "button") ∷ start (codes "table") ∷ [])
    ∷ (start (codes "table") ∷ start (codes "thead") ∷ start (codes "h6") ∷ [])
    ∷ (start (codes "table") ∷ start (codes "thead") ∷ start (codes "tr") ∷ [])
    ∷ (start (codes "table") ∷ start (codes "tr") ∷ start (codes "i") ∷ start (codes "td") ∷ [])
    ∷ (start (codes "button") ∷ start (codes "i") ∷ start (codes "button") ∷ [])
    ∷ (start (codes "table") ∷ start (codes "code") ∷ start (codes "tr") ∷ Text (codes "\nx") ∷ [])
    ∷ (start (codes "p") ∷ start (codes "strong") ∷ start (codes "p") ∷ start (codes "abbr") ∷ [])
    ∷ (start (codes "small") ∷ start (codes "pre") ∷ end (codes "small") ∷ [])
    ∷ []

chosen_1_answers : List Tree
chosen_1_answers =
    (Element Nothing (codes "table") [] (Element Nothing (codes "tbody") [] (Characters (Element Nothing (codes "tr") [] Nothing) (codes "\n"))))
    ∷ (Element (Element Nothing (codes "nobr") [] (Element Nothing (codes "s") [] Nothing)) (codes "s") [] (Characters Nothing (codes " x")))
    ∷ (Element Nothing (codes "p") [] (Element Nothing (codes "button") [] (Element Nothing (codes "table") [] Nothing)))
    ∷ (Element (Element Nothing (codes "h6") [] Nothing) (codes "table") [] (Element Nothing (codes "thead") [] Nothing))
    ∷ (Element Nothing (codes "table") [] (Element Nothing (codes "thead") [] (Element Nothing (codes "tr") [] Nothing)))
    ∷ (Element (Element Nothing (codes "i") [] Nothing) (codes "table") [] (Element Nothing (codes "tbody") [] (Element Nothing (codes "tr") [] (Element Nothing (codes "td") [] Nothing))))
    ∷ (Element (Element Nothing (codes "button") [] (Element Nothing (codes "i") [] Nothing)) (codes "i") [] (Element Nothing (codes "button") [] Nothing))
    ∷ (Element (Element (Element Nothing (codes "code") [] Nothing) (codes "code") [] (Characters Nothing (codes "\nx"))) (codes "table") [] (Element Nothing (codes "tbody") [] (Element Nothing (codes "tr") [] Nothing)))
    ∷ (Element (Element Nothing (codes "p") [] (Element Nothing (codes "strong") [] Nothing)) (codes "p") [] (Element Nothing (codes "strong") [] (Element Nothing (codes "abbr") [] Nothing)))
    ∷ (Element (Element Nothing (codes "small") [] Nothing) (codes "pre") [] (Element Nothing (codes "small") [] Nothing))
    ∷ []

chosen_1 : map tree_of chosen_1_items ≡ chosen_1_answers
unfolding chosen_1_items chosen_1_answers is_among kind_in all_names kind_of near in_front whole_texts without_newlines joined changed changed_before found without applied built bare has_node inside outside without_node is_bounded popped_until implied_ended has_entry without_entry last_named is_one_of are_all_of count_alike without_earliest pushed cleared last_table lost kept reopened ended_by furthest_block replaced inner_loop added_after adopted outer_loop innermost mode_of back_to is_hidden leading_space after_space process run
chosen_1 = refl

chosen_2_items : List (List Item)
chosen_2_items =
    (start (codes "table") ∷ start (codes "u") ∷ start (codes "tr") ∷ Text (codes "x") ∷ end (codes "tr") ∷ Text (codes "y") ∷ [])
    ∷ (start (codes "form") ∷ start (codes "rtc") ∷ end (codes "form") ∷ start (codes "ol") ∷ [])
    ∷ (start (codes "table") ∷ start (codes "i") ∷ start (codes "i") ∷ start (codes "tr") ∷ Text (codes "y") ∷ end (codes "i") ∷ Text (codes "y") ∷ [])
    ∷ (start (codes "table") ∷ start (codes "tr") ∷ end (codes "tfoot") ∷ start (codes "th") ∷ [])
    ∷ (start (codes "table") ∷ start (codes "tr") ∷ end (codes "tr") ∷ end (codes "i") ∷ start (codes "tr") ∷ [])
    ∷ (start (codes "table") ∷ start (codes "u") ∷ start (codes "u") ∷ start (codes "tr") ∷ Text (codes "x") ∷ end (codes "tr") ∷ Text (codes "y") ∷ [])
    ∷ (start (codes "b") ∷ start (codes "span") ∷ start (codes "div") ∷ end (codes "b") ∷ end (codes "div") ∷ Text (codes "x") ∷ [])
    ∷ (start (codes "table") ∷ StartTag (codes "input") (attribute (codes "type") (codes "HiDDen") ∷ []) ∷ [])
    ∷ (start (codes "table") ∷ start (codes "tfoot") ∷ end (codes "tfoot") ∷ start (codes "th") ∷ [])
    ∷ (start (codes "table") ∷ start (codes "tfoot") ∷ start (codes "tr") ∷ end (codes "tfoot") ∷ [])
    ∷ []

chosen_2_answers : List Tree
chosen_2_answers =
    (Element (Element (Element (Element Nothing (codes "u") [] Nothing) (codes "u") [] (Characters Nothing (codes "x"))) (codes "u") [] (Characters Nothing (codes "y"))) (codes "table") [] (Element Nothing (codes "tbody") [] (Element Nothing (codes "tr") [] Nothing)))
    ∷ (Element (Element Nothing (codes "form") [] (Element Nothing (codes "rtc") [] Nothing)) (codes "ol") [] Nothing)
    ∷ (Element (Element (Element Nothing (codes "i") [] (Element Nothing (codes "i") [] Nothing)) (codes "i") [] (Characters (Element Nothing (codes "i") [] (Characters Nothing (codes "y"))) (codes "y"))) (codes "table") [] (Element Nothing (codes "tbody") [] (Element Nothing (codes "tr") [] Nothing)))
    ∷ (Element Nothing (codes "table") [] (Element Nothing (codes "tbody") [] (Element Nothing (codes "tr") [] (Element Nothing (codes "th") [] Nothing))))
    ∷ (Element Nothing (codes "table") [] (Element Nothing (codes "tbody") [] (Element (Element Nothing (codes "tr") [] Nothing) (codes "tr") [] Nothing)))
    ∷ (Element (Element (Element (Element Nothing (codes "u") [] (Element Nothing (codes "u") [] Nothing)) (codes "u") [] (Element Nothing (codes "u") [] (Characters Nothing (codes "x")))) (codes "u") [] (Element Nothing (codes "u") [] (Characters Nothing (codes "y")))) (codes "table") [] (Element Nothing (codes "tbody") [] (Element Nothing (codes "tr") [] Nothing)))
    ∷ (Characters (Element (Element Nothing (codes "b") [] (Element Nothing (codes "span") [] Nothing)) (codes "div") [] (Element Nothing (codes "b") [] Nothing)) (codes "x"))
    ∷ (Element Nothing (codes "table") [] (Element Nothing (codes "input") (attribute (codes "type") (codes "HiDDen") ∷ []) Nothing))
    ∷ (Element Nothing (codes "table") [] (Element (Element Nothing (codes "tfoot") [] Nothing) (codes "tbody") [] (Element Nothing (codes "tr") [] (Element Nothing (codes "th") [] Nothing))))
    ∷ (Element Nothing (codes "table") [] (Element Nothing (codes "tfoot") [] (Element Nothing (codes "tr") [] Nothing)))
    ∷ []

chosen_2 : map tree_of chosen_2_items ≡ chosen_2_answers
unfolding chosen_2_items chosen_2_answers is_among kind_in all_names kind_of near in_front whole_texts without_newlines joined changed changed_before found without applied built bare has_node inside outside without_node is_bounded popped_until implied_ended has_entry without_entry last_named is_one_of are_all_of count_alike without_earliest pushed cleared last_table lost kept reopened ended_by furthest_block replaced inner_loop added_after adopted outer_loop innermost mode_of back_to is_hidden leading_space after_space process run
chosen_2 = refl

chosen_3_items : List (List Item)
chosen_3_items =
    (start (codes "nobr") ∷ start (codes "strike") ∷ end (codes "nobr") ∷ start (codes "nobr") ∷ [])
    ∷ (start (codes "table") ∷ start (codes "tfoot") ∷ start (codes "tr") ∷ end (codes "tfoot") ∷ start (codes "th") ∷ [])
    ∷ (start (codes "form") ∷ start (codes "table") ∷ end (codes "form") ∷ end (codes "table") ∷ start (codes "h2") ∷ [])
    ∷ (start (codes "i") ∷ start (codes "table") ∷ start (codes "i") ∷ start (codes "i") ∷ start (codes "i") ∷ end (codes "table") ∷ end (codes "i") ∷ Text (codes "y") ∷ [])
    ∷ (start (codes "a") ∷ start (codes "b") ∷ start (codes "u") ∷ start (codes "div") ∷ start (codes "div") ∷ start (codes "div") ∷ start (codes "div") ∷ start (codes "div") ∷ start (codes "div") ∷ start (codes "div") ∷ start (codes "div") ∷ end (codes "b") ∷ end (codes "a") ∷ end (codes "a") ∷ Text (codes "x") ∷ [])
    ∷ (start (codes "p") ∷ start (codes "hr") ∷ Text (codes "x") ∷ [])
    ∷ (start (codes "li") ∷ start (codes "ol") ∷ end (codes "li") ∷ Text (codes "x") ∷ [])
    ∷ (start (codes "li") ∷ start (codes "ul") ∷ end (codes "li") ∷ Text (codes "x") ∷ [])
    ∷ (start (codes "form") ∷ start (codes "li") ∷ end (codes "form") ∷ Text (codes "x") ∷ [])
    ∷ (start (codes "form") ∷ start (codes "dd") ∷ end (codes "form") ∷ Text (codes "x") ∷ [])
    ∷ []

chosen_3_answers : List Tree
chosen_3_answers =
    (Element (Element Nothing (codes "nobr") [] (Element Nothing (codes "strike") [] Nothing)) (codes "strike") [] (Element Nothing (codes "nobr") [] Nothing))
    ∷ (Element Nothing (codes "table") [] (Element (Element Nothing (codes "tfoot") [] (Element Nothing (codes "tr") [] Nothing)) (codes "tbody") [] (Element Nothing (codes "tr") [] (Element Nothing (codes "th") [] Nothing))))
    ∷ (Element Nothing (codes "form") [] (Element (Element Nothing (codes "table") [] Nothing) (codes "h2") [] Nothing))
    ∷ (Element (Element Nothing (codes "i") [] (Element (Element Nothing (codes "i") [] (Element Nothing (codes "i") [] (Element Nothing (codes "i") [] Nothing))) (codes "table") [] Nothing)) (codes "i") [] (Element Nothing (codes "i") [] (Element Nothing (codes "i") [] (Characters Nothing (codes "y")))))
    ∷ (Element (Element Nothing (codes "a") [] (Element (Element Nothing (codes "b") [] (Element Nothing (codes "u") [] Nothing)) (codes "u") [] Nothing)) (codes "u") [] (Element Nothing (codes "div") [] (Element (Element Nothing (codes "a") [] (Element Nothing (codes "b") [] Nothing)) (codes "div") [] (Element (Element Nothing (codes "a") [] (Element Nothing (codes "b") [] Nothing)) (codes "div") [] (Element (Element Nothing (codes "a") [] (Element Nothing (codes "b") [] Nothing)) (codes "div") [] (Element (Element Nothing (codes "a") [] (Element Nothing (codes "b") [] Nothing)) (codes "div") [] (Element (Element Nothing (codes "a") [] (Element Nothing (codes "b") [] Nothing)) (codes "div") [] (Element (Element Nothing (codes "a") [] (Element Nothing (codes "b") [] Nothing)) (codes "div") [] (Element (Element Nothing (codes "a") [] (Element Nothing (codes "b") [] Nothing)) (codes "div") [] (Element (Element Nothing (codes "a") [] (Element Nothing (codes "b") [] Nothing)) (codes "b") [] (Characters Nothing (codes "x"))))))))))))
    ∷ (Characters (Element (Element Nothing (codes "p") [] Nothing) (codes "hr") [] Nothing) (codes "x"))
    ∷ (Element Nothing (codes "li") [] (Element Nothing (codes "ol") [] (Characters Nothing (codes "x"))))
    ∷ (Element Nothing (codes "li") [] (Element Nothing (codes "ul") [] (Characters Nothing (codes "x"))))
    ∷ (Characters (Element Nothing (codes "form") [] (Element Nothing (codes "li") [] Nothing)) (codes "x"))
    ∷ (Characters (Element Nothing (codes "form") [] (Element Nothing (codes "dd") [] Nothing)) (codes "x"))
    ∷ []

chosen_3 : map tree_of chosen_3_items ≡ chosen_3_answers
unfolding chosen_3_items chosen_3_answers is_among kind_in all_names kind_of near in_front whole_texts without_newlines joined changed changed_before found without applied built bare has_node inside outside without_node is_bounded popped_until implied_ended has_entry without_entry last_named is_one_of are_all_of count_alike without_earliest pushed cleared last_table lost kept reopened ended_by furthest_block replaced inner_loop added_after adopted outer_loop innermost mode_of back_to is_hidden leading_space after_space process run
chosen_3 = refl

chosen_4_items : List (List Item)
chosen_4_items =
    (start (codes "form") ∷ start (codes "p") ∷ end (codes "form") ∷ Text (codes "x") ∷ [])
    ∷ (start (codes "form") ∷ start (codes "rb") ∷ end (codes "form") ∷ Text (codes "x") ∷ [])
    ∷ (start (codes "form") ∷ start (codes "rtc") ∷ end (codes "form") ∷ Text (codes "x") ∷ [])
    ∷ (start (codes "ruby") ∷ start (codes "rt") ∷ start (codes "rb") ∷ Text (codes "x") ∷ start (codes "rtc") ∷ Text (codes "y") ∷ start (codes "rt") ∷ Text (codes "z") ∷ start (codes "rp") ∷ [])
    ∷ (start (codes "table") ∷ StartTag (codes "input") (attribute (codes "type") (codes "hidden") ∷ []) ∷ start (codes "b") ∷ Text (codes "x") ∷ [])
    ∷ (start (codes "a") ∷ start (codes "table") ∷ start (codes "caption") ∷ start (codes "a") ∷ Text (codes "x") ∷ end (codes "caption") ∷ end (codes "table") ∷ Text (codes "y") ∷ [])
    ∷ (start (codes "table") ∷ start (codes "caption") ∷ start (codes "b") ∷ Text (codes "x") ∷ end (codes "caption") ∷ end (codes "table") ∷ Text (codes "z") ∷ [])
    ∷ (start (codes "b") ∷ start (codes "span") ∷ start (codes "b") ∷ start (codes "b") ∷ start (codes "b") ∷ end (codes "b") ∷ end (codes "b") ∷ end (codes "b") ∷ end (codes "b") ∷ Text (codes "x") ∷ [])
    ∷ (start (codes "a") ∷ start (codes "table") ∷ start (codes "tr") ∷ start (codes "td") ∷ start (codes "a") ∷ Text (codes "x") ∷ end (codes "td") ∷ end (codes "tr") ∷ end (codes "table") ∷ Text (codes "y") ∷ [])
    ∷ (start (codes "b") ∷ start (codes "i") ∷ start (codes "div") ∷ start (codes "div") ∷ start (codes "div") ∷ start (codes "div") ∷ start (codes "div") ∷ start (codes "div") ∷ start (codes "div") ∷ start (codes "div") ∷ start (codes "u") ∷ end (codes "b") ∷ end (codes "div") ∷ Text (codes "x") ∷ [])
    ∷ []

chosen_4_answers : List Tree
chosen_4_answers =
    (Characters (Element Nothing (codes "form") [] (Element Nothing (codes "p") [] Nothing)) (codes "x"))
    ∷ (Characters (Element Nothing (codes "form") [] (Element Nothing (codes "rb") [] Nothing)) (codes "x"))
    ∷ (Characters (Element Nothing (codes "form") [] (Element Nothing (codes "rtc") [] Nothing)) (codes "x"))
    ∷ (Element Nothing (codes "ruby") [] (Element (Element (Element Nothing (codes "rt") [] Nothing) (codes "rb") [] (Characters Nothing (codes "x"))) (codes "rtc") [] (Element (Element (Characters Nothing (codes "y")) (codes "rt") [] (Characters Nothing (codes "z"))) (codes "rp") [] Nothing)))
    ∷ (Element (Element Nothing (codes "b") [] (Characters Nothing (codes "x"))) (codes "table") [] (Element Nothing (codes "input") (attribute (codes "type") (codes "hidden") ∷ []) Nothing))
    ∷ (Element Nothing (codes "a") [] (Characters (Element Nothing (codes "table") [] (Element Nothing (codes "caption") [] (Element Nothing (codes "a") [] (Characters Nothing (codes "x"))))) (codes "y")))
    ∷ (Characters (Element Nothing (codes "table") [] (Element Nothing (codes "caption") [] (Element Nothing (codes "b") [] (Characters Nothing (codes "x"))))) (codes "z"))
    ∷ (Characters (Element Nothing (codes "b") [] (Element Nothing (codes "span") [] (Element Nothing (codes "b") [] (Element Nothing (codes "b") [] (Element Nothing (codes "b") [] Nothing))))) (codes "x"))
    ∷ (Element Nothing (codes "a") [] (Characters (Element Nothing (codes "table") [] (Element Nothing (codes "tbody") [] (Element Nothing (codes "tr") [] (Element Nothing (codes "td") [] (Element Nothing (codes "a") [] (Characters Nothing (codes "x"))))))) (codes "y")))
    ∷ (Element (Element Nothing (codes "b") [] (Element Nothing (codes "i") [] Nothing)) (codes "i") [] (Element Nothing (codes "div") [] (Element (Element Nothing (codes "b") [] Nothing) (codes "div") [] (Element (Element Nothing (codes "b") [] Nothing) (codes "div") [] (Element (Element Nothing (codes "b") [] Nothing) (codes "div") [] (Element (Element Nothing (codes "b") [] Nothing) (codes "div") [] (Element (Element Nothing (codes "b") [] Nothing) (codes "div") [] (Element (Element Nothing (codes "b") [] Nothing) (codes "div") [] (Element (Element (Element Nothing (codes "b") [] Nothing) (codes "div") [] (Element Nothing (codes "b") [] (Element Nothing (codes "u") [] Nothing))) (codes "b") [] (Element Nothing (codes "u") [] (Characters Nothing (codes "x"))))))))))))
    ∷ []

chosen_4 : map tree_of chosen_4_items ≡ chosen_4_answers
unfolding chosen_4_items chosen_4_answers is_among kind_in all_names kind_of near in_front whole_texts without_newlines joined changed changed_before found without applied built bare has_node inside outside without_node is_bounded popped_until implied_ended has_entry without_entry last_named is_one_of are_all_of count_alike without_earliest pushed cleared last_table lost kept reopened ended_by furthest_block replaced inner_loop added_after adopted outer_loop innermost mode_of back_to is_hidden leading_space after_space process run
chosen_4 = refl

chosen_5_items : List (List Item)
chosen_5_items =
    (start (codes "table") ∷ StartTag (codes "b") (attribute (codes "type") (codes "hidden") ∷ []) ∷ Text (codes "x") ∷ [])
    ∷ (start (codes "table") ∷ start (codes "tr") ∷ end (codes "tr") ∷ start (codes "i") ∷ start (codes "tr") ∷ [])
    ∷ (start (codes "table") ∷ start (codes "p") ∷ start (codes "b") ∷ end (codes "p") ∷ start (codes "p") ∷ Text (codes " ") ∷ [])
    ∷ []

chosen_5_answers : List Tree
chosen_5_answers =
    (Element (Element Nothing (codes "b") (attribute (codes "type") (codes "hidden") ∷ []) (Characters Nothing (codes "x"))) (codes "table") [] Nothing)
    ∷ (Element (Element Nothing (codes "i") [] Nothing) (codes "table") [] (Element Nothing (codes "tbody") [] (Element (Element Nothing (codes "tr") [] Nothing) (codes "tr") [] Nothing)))
    ∷ (Element (Element (Element Nothing (codes "p") [] (Element Nothing (codes "b") [] Nothing)) (codes "p") [] (Element Nothing (codes "b") [] (Characters Nothing (codes " ")))) (codes "table") [] Nothing)
    ∷ []

chosen_5 : map tree_of chosen_5_items ≡ chosen_5_answers
unfolding chosen_5_items chosen_5_answers is_among kind_in all_names kind_of near in_front whole_texts without_newlines joined changed changed_before found without applied built bare has_node inside outside without_node is_bounded popped_until implied_ended has_entry without_entry last_named is_one_of are_all_of count_alike without_earliest pushed cleared last_table lost kept reopened ended_by furthest_block replaced inner_loop added_after adopted outer_loop innermost mode_of back_to is_hidden leading_space after_space process run
chosen_5 = refl

-- ---- trees by name

names_0_items : List (List Item)
names_0_items =
    (start (codes "p") ∷ start (codes "a") ∷ Text (codes "0") ∷ end (codes "p") ∷ start (codes "b") ∷ start (codes "a") ∷ Text (codes "1") ∷ end (codes "b") ∷ Text (codes "2") ∷ end (codes "a") ∷ Text (codes "3") ∷ start (codes "li") ∷ start (codes "a") ∷ start (codes "li") ∷ start (codes "ruby") ∷ start (codes "a") ∷ start (codes "rt") ∷ end (codes "ruby") ∷ start (codes "table") ∷ start (codes "a") ∷ Text (codes "x") ∷ [])
    ∷ (start (codes "p") ∷ start (codes "abbr") ∷ Text (codes "0") ∷ end (codes "p") ∷ start (codes "b") ∷ start (codes "abbr") ∷ Text (codes "1") ∷ end (codes "b") ∷ Text (codes "2") ∷ end (codes "abbr") ∷ Text (codes "3") ∷ start (codes "li") ∷ start (codes "abbr") ∷ start (codes "li") ∷ start (codes "ruby") ∷ start (codes "abbr") ∷ start (codes "rt") ∷ end (codes "ruby") ∷ start (codes "table") ∷ start (codes "abbr") ∷ Text (codes "x") ∷ [])
    ∷ (start (codes "p") ∷ start (codes "address") ∷ Text (codes "0") ∷ end (codes "p") ∷ start (codes "b") ∷ start (codes "address") ∷ Text (codes "1") ∷ end (codes "b") ∷ Text (codes "2") ∷ end (codes "address") ∷ Text (codes "3") ∷ start (codes "li") ∷ start (codes "address") ∷ start (codes "li") ∷ start (codes "ruby") ∷ start (codes "address") ∷ start (codes "rt") ∷ end (codes "ruby") ∷ start (codes "table") ∷ start (codes "address") ∷ Text (codes "x") ∷ [])
    ∷ (start (codes "p") ∷ start (codes "area") ∷ Text (codes "0") ∷ end (codes "p") ∷ start (codes "b") ∷ start (codes "area") ∷ Text (codes "1") ∷ end (codes "b") ∷ Text (codes "2") ∷ end (codes "area") ∷ Text (codes "3") ∷ start (codes "li") ∷ start (codes "area") ∷ start (codes "li") ∷ start (codes "ruby") ∷ start (codes "area") ∷ start (codes "rt") ∷ end (codes "ruby") ∷ start (codes "table") ∷ start (codes "area") ∷ Text (codes "x") ∷ [])
    ∷ (start (codes "p") ∷ start (codes "article") ∷ Text (codes "0") ∷ end (codes "p") ∷ start (codes "b") ∷ start (codes "article") ∷ Text (codes "1") ∷ end (codes "b") ∷ Text (codes "2") ∷ end (codes "article") ∷ Text (codes "3") ∷ start (codes "li") ∷ start (codes "article") ∷ start (codes "li") ∷ start (codes "ruby") ∷ start (codes "article") ∷ start (codes "rt") ∷ end (codes "ruby") ∷ start (codes "table") ∷ start (codes "article") ∷ Text (codes "x") ∷ [])
    ∷ (start (codes "p") ∷ start (codes "aside") ∷ Text (codes "0") ∷ end (codes "p") ∷ start (codes "b") ∷ start (codes "aside") ∷ Text (codes "1") ∷ end (codes "b") ∷ Text (codes "2") ∷ end (codes "aside") ∷ Text (codes "3") ∷ start (codes "li") ∷ start (codes "aside") ∷ start (codes "li") ∷ start (codes "ruby") ∷ start (codes "aside") ∷ start (codes "rt") ∷ end (codes "ruby") ∷ start (codes "table") ∷ start (codes "aside") ∷ Text (codes "x") ∷ [])
    ∷ (start (codes "p") ∷ start (codes "b") ∷ Text (codes "0") ∷ end (codes "p") ∷ start (codes "b") ∷ start (codes "b") ∷ Text (codes "1") ∷ end (codes "b") ∷ Text (codes "2") ∷ end (codes "b") ∷ Text (codes "3") ∷ start (codes "li") ∷ start (codes "b") ∷ start (codes "li") ∷ start (codes "ruby") ∷ start (codes "b") ∷ start (codes "rt") ∷ end (codes "ruby") ∷ start (codes "table") ∷ start (codes "b") ∷ Text (codes "x") ∷ [])
    ∷ (start (codes "p") ∷ start (codes "bdi") ∷ Text (codes "0") ∷ end (codes "p") ∷ start (codes "b") ∷ start (codes "bdi") ∷ Text (codes "1") ∷ end (codes "b") ∷ Text (codes "2") ∷ end (codes "bdi") ∷ Text (codes "3") ∷ start (codes "li") ∷ start (codes "bdi") ∷ start (codes "li") ∷ start (codes "ruby") ∷ start (codes "bdi") ∷ start (codes "rt") ∷ end (codes "ruby") ∷ start (codes "table") ∷ start (codes "bdi") ∷ Text (codes "x") ∷ [])
    ∷ (start (codes "p") ∷ start (codes "bdo") ∷ Text (codes "0") ∷ end (codes "p") ∷ start (codes "b") ∷ start (codes "bdo") ∷ Text (codes "1") ∷ end (codes "b") ∷ Text (codes "2") ∷ end (codes "bdo") ∷ Text (codes "3") ∷ start (codes "li") ∷ start (codes "bdo") ∷ start (codes "li") ∷ start (codes "ruby") ∷ start (codes "bdo") ∷ start (codes "rt") ∷ end (codes "ruby") ∷ start (codes "table") ∷ start (codes "bdo") ∷ Text (codes "x") ∷ [])
    ∷ (start (codes "p") ∷ start (codes "big") ∷ Text (codes "0") ∷ end (codes "p") ∷ start (codes "b") ∷ start (codes "big") ∷ Text (codes "1") ∷ end (codes "b") ∷ Text (codes "2") ∷ end (codes "big") ∷ Text (codes "3") ∷ start (codes "li") ∷ start (codes "big") ∷ start (codes "li") ∷ start (codes "ruby") ∷ start (codes "big") ∷ start (codes "rt") ∷ end (codes "ruby") ∷ start (codes "table") ∷ start (codes "big") ∷ Text (codes "x") ∷ [])
    ∷ []

names_0_answers : List Tree
names_0_answers =
    (Element (Element (Characters (Element (Element (Element (Element Nothing (codes "p") [] (Element Nothing (codes "a") [] (Characters Nothing (codes "0")))) (codes "a") [] (Element Nothing (codes "b") [] Nothing)) (codes "b") [] (Element Nothing (codes "a") [] (Characters Nothing (codes "1")))) (codes "a") [] (Characters Nothing (codes "2"))) (codes "3")) (codes "li") [] (Element Nothing (codes "a") [] Nothing)) (codes "li") [] (Element (Element Nothing (codes "a") [] (Element Nothing (codes "ruby") [] Nothing)) (codes "a") [] (Element Nothing (codes "rt") [] (Element (Element Nothing (codes "a") [] (Characters Nothing (codes "x"))) (codes "table") [] Nothing))))
    ∷ (Element (Element (Characters (Element (Element Nothing (codes "p") [] (Element Nothing (codes "abbr") [] (Characters Nothing (codes "0")))) (codes "b") [] (Element Nothing (codes "abbr") [] (Characters Nothing (codes "1")))) (codes "23")) (codes "li") [] (Element Nothing (codes "abbr") [] Nothing)) (codes "li") [] (Element (Element (Element Nothing (codes "ruby") [] (Element Nothing (codes "abbr") [] (Element Nothing (codes "rt") [] Nothing))) (codes "abbr") [] (Characters Nothing (codes "x"))) (codes "table") [] Nothing))
    ∷ (Element (Element Nothing (codes "p") [] Nothing) (codes "address") [] (Element (Element (Characters (Element (Element (Element (Characters Nothing (codes "0")) (codes "p") [] Nothing) (codes "b") [] Nothing) (codes "address") [] (Characters (Element Nothing (codes "b") [] (Characters Nothing (codes "1"))) (codes "2"))) (codes "3")) (codes "li") [] (Element Nothing (codes "address") [] Nothing)) (codes "li") [] (Element Nothing (codes "ruby") [] (Element Nothing (codes "address") [] (Element Nothing (codes "rt") [] (Element (Element Nothing (codes "address") [] (Characters Nothing (codes "x"))) (codes "table") [] Nothing))))))
    ∷ (Element (Element (Characters (Element (Element Nothing (codes "p") [] (Characters (Element Nothing (codes "area") [] Nothing) (codes "0"))) (codes "b") [] (Characters (Element Nothing (codes "area") [] Nothing) (codes "1"))) (codes "23")) (codes "li") [] (Element Nothing (codes "area") [] Nothing)) (codes "li") [] (Element (Characters (Element (Element Nothing (codes "ruby") [] (Element (Element Nothing (codes "area") [] Nothing) (codes "rt") [] Nothing)) (codes "area") [] Nothing) (codes "x")) (codes "table") [] Nothing))
    ∷ (Element (Element Nothing (codes "p") [] Nothing) (codes "article") [] (Element (Characters (Element (Element (Element (Characters Nothing (codes "0")) (codes "p") [] Nothing) (codes "b") [] Nothing) (codes "article") [] (Characters (Element Nothing (codes "b") [] (Characters Nothing (codes "1"))) (codes "2"))) (codes "3")) (codes "li") [] (Element Nothing (codes "article") [] (Element Nothing (codes "li") [] (Element Nothing (codes "ruby") [] (Element Nothing (codes "article") [] (Element Nothing (codes "rt") [] (Element (Element Nothing (codes "article") [] (Characters Nothing (codes "x"))) (codes "table") [] Nothing))))))))
    ∷ (Element (Element Nothing (codes "p") [] Nothing) (codes "aside") [] (Element (Characters (Element (Element (Element (Characters Nothing (codes "0")) (codes "p") [] Nothing) (codes "b") [] Nothing) (codes "aside") [] (Characters (Element Nothing (codes "b") [] (Characters Nothing (codes "1"))) (codes "2"))) (codes "3")) (codes "li") [] (Element Nothing (codes "aside") [] (Element Nothing (codes "li") [] (Element Nothing (codes "ruby") [] (Element Nothing (codes "aside") [] (Element Nothing (codes "rt") [] (Element (Element Nothing (codes "aside") [] (Characters Nothing (codes "x"))) (codes "table") [] Nothing))))))))
    ∷ (Element (Element Nothing (codes "p") [] (Element Nothing (codes "b") [] (Characters Nothing (codes "0")))) (codes "b") [] (Element (Element (Characters (Element Nothing (codes "b") [] (Characters (Element Nothing (codes "b") [] (Characters Nothing (codes "1"))) (codes "2"))) (codes "3")) (codes "li") [] (Element Nothing (codes "b") [] Nothing)) (codes "li") [] (Element Nothing (codes "b") [] (Element (Element (Element Nothing (codes "ruby") [] (Element Nothing (codes "b") [] (Element Nothing (codes "rt") [] Nothing))) (codes "b") [] (Element Nothing (codes "b") [] (Characters Nothing (codes "x")))) (codes "table") [] Nothing))))
    ∷ (Element (Element (Characters (Element (Element Nothing (codes "p") [] (Element Nothing (codes "bdi") [] (Characters Nothing (codes "0")))) (codes "b") [] (Element Nothing (codes "bdi") [] (Characters Nothing (codes "1")))) (codes "23")) (codes "li") [] (Element Nothing (codes "bdi") [] Nothing)) (codes "li") [] (Element (Element (Element Nothing (codes "ruby") [] (Element Nothing (codes "bdi") [] (Element Nothing (codes "rt") [] Nothing))) (codes "bdi") [] (Characters Nothing (codes "x"))) (codes "table") [] Nothing))
    ∷ (Element (Element (Characters (Element (Element Nothing (codes "p") [] (Element Nothing (codes "bdo") [] (Characters Nothing (codes "0")))) (codes "b") [] (Element Nothing (codes "bdo") [] (Characters Nothing (codes "1")))) (codes "23")) (codes "li") [] (Element Nothing (codes "bdo") [] Nothing)) (codes "li") [] (Element (Element (Element Nothing (codes "ruby") [] (Element Nothing (codes "bdo") [] (Element Nothing (codes "rt") [] Nothing))) (codes "bdo") [] (Characters Nothing (codes "x"))) (codes "table") [] Nothing))
    ∷ (Element (Element Nothing (codes "p") [] (Element Nothing (codes "big") [] (Characters Nothing (codes "0")))) (codes "big") [] (Element (Element (Characters (Element (Element Nothing (codes "b") [] (Element Nothing (codes "big") [] (Characters Nothing (codes "1")))) (codes "big") [] (Characters Nothing (codes "2"))) (codes "3")) (codes "li") [] (Element Nothing (codes "big") [] Nothing)) (codes "li") [] (Element Nothing (codes "big") [] (Element (Element (Element Nothing (codes "ruby") [] (Element Nothing (codes "big") [] (Element Nothing (codes "rt") [] Nothing))) (codes "big") [] (Element Nothing (codes "big") [] (Characters Nothing (codes "x")))) (codes "table") [] Nothing))))
    ∷ []

names_0 : map tree_of names_0_items ≡ names_0_answers
unfolding names_0_items names_0_answers is_among kind_in all_names kind_of near in_front whole_texts without_newlines joined changed changed_before found without applied built bare has_node inside outside without_node is_bounded popped_until implied_ended has_entry without_entry last_named is_one_of are_all_of count_alike without_earliest pushed cleared last_table lost kept reopened ended_by furthest_block replaced inner_loop added_after adopted outer_loop innermost mode_of back_to is_hidden leading_space after_space process run
names_0 = refl

names_1_items : List (List Item)
names_1_items =
    (start (codes "p") ∷ start (codes "blockquote") ∷ Text (codes "0") ∷ end (codes "p") ∷ start (codes "b") ∷ start (codes "blockquote") ∷ Text (codes "1") ∷ end (codes "b") ∷ Text (codes "2") ∷ end (codes "blockquote") ∷ Text (codes "3") ∷ start (codes "li") ∷ start (codes "blockquote") ∷ start (codes "li") ∷ start (codes "ruby") ∷ start (codes "blockquote") ∷ start (codes "rt") ∷ end (codes "ruby") ∷ start (codes "table") ∷ start (codes "blockquote") ∷ Text (codes "x") ∷ [])
    ∷ (start (codes "p") ∷ start (codes "br") ∷ Text (codes "0") ∷ end (codes "p") ∷ start (codes "b") ∷ start (codes "br") ∷ Text (codes "1") ∷ end (codes "b") ∷ Text (codes "2") ∷ end (codes "br") ∷ Text (codes "3") ∷ start (codes "li") ∷ start (codes "br") ∷ start (codes "li") ∷ start (codes "ruby") ∷ start (codes "br") ∷ start (codes "rt") ∷ end (codes "ruby") ∷ start (codes "table") ∷ start (codes "br") ∷ Text (codes "x") ∷ [])
    ∷ (start (codes "p") ∷ start (codes "button") ∷ Text (codes "0") ∷ end (codes "p") ∷ start (codes "b") ∷ start (codes "button") ∷ Text (codes "1") ∷ end (codes "b") ∷ Text (codes "2") ∷ end (codes "button") ∷ Text (codes "3") ∷ start (codes "li") ∷ start (codes "button") ∷ start (codes "li") ∷ start (codes "ruby") ∷ start (codes "button") ∷ start (codes "rt") ∷ end (codes "ruby") ∷ start (codes "table") ∷ start (codes "button") ∷ Text (codes "x") ∷ [])
    ∷ (start (codes "p") ∷ start (codes "caption") ∷ Text (codes "0") ∷ end (codes "p") ∷ start (codes "b") ∷ start (codes "caption") ∷ Text (codes "1") ∷ end (codes "b") ∷ Text (codes "2") ∷ end (codes "caption") ∷ Text (codes "3") ∷ start (codes "li") ∷ start (codes "caption") ∷ start (codes "li") ∷ start (codes "ruby") ∷ start (codes "caption") ∷ start (codes "rt") ∷ end (codes "ruby") ∷ start (codes "table") ∷ start (codes "caption") ∷ Text (codes "x") ∷ [])
    ∷ (start (codes "p") ∷ start (codes "center") ∷ Text (codes "0") ∷ end (codes "p") ∷ start (codes "b") ∷ start (codes "center") ∷ Text (codes "1") ∷ end (codes "b") ∷ Text (codes "2") ∷ end (codes "center") ∷ Text (codes "3") ∷ start (codes "li") ∷ start (codes "center") ∷ start (codes "li") ∷ start (codes "ruby") ∷ start (codes "center") ∷ start (codes "rt") ∷ end (codes "ruby") ∷ start (codes "table") ∷ start (codes "center") ∷ Text (codes "x") ∷ [])
    ∷ (start (codes "p") ∷ start (codes "cite") ∷ Text (codes "0") ∷ end (codes "p") ∷ start (codes "b") ∷ start (codes "cite") ∷ Text (codes "1") ∷ end (codes "b") ∷ Text (codes "2") ∷ end (codes "cite") ∷ Text (codes "3") ∷ start (codes "li") ∷ start (codes "cite") ∷ start (codes "li") ∷ start (codes "ruby") ∷ start (codes "cite") ∷ start (codes "rt") ∷ end (codes "ruby") ∷ start (codes "table") ∷ start (codes "cite") ∷ Text (codes "x") ∷ [])
    ∷ (start (codes "p") ∷ start (codes "code") ∷ Text (codes "0") ∷ end (codes "p") ∷ start (codes "b") ∷ start (codes "code") ∷ Text (codes "1") ∷ end (codes "b") ∷ Text (codes "2") ∷ end (codes "code") ∷ Text (codes "3") ∷ start (codes "li") ∷ start (codes "code") ∷ start (codes "li") ∷ start (codes "ruby") ∷ start (codes "code") ∷ start (codes "rt") ∷ end (codes "ruby") ∷ start (codes "table") ∷ start (codes "code") ∷ Text (codes "x") ∷ [])
    ∷ (start (codes "p") ∷ start (codes "col") ∷ Text (codes "0") ∷ end (codes "p") ∷ start (codes "b") ∷ start (codes "col") ∷ Text (codes "1") ∷ end (codes "b") ∷ Text (codes "2") ∷ end (codes "col") ∷ Text (codes "3") ∷ start (codes "li") ∷ start (codes "col") ∷ start (codes "li") ∷ start (codes "ruby") ∷ start (codes "col") ∷ start (codes "rt") ∷ end (codes "ruby") ∷ start (codes "table") ∷ start (codes "col") ∷ Text (codes "x") ∷ [])
    ∷ (start (codes "p") ∷ start (codes "colgroup") ∷ Text (codes "0") ∷ end (codes "p") ∷ start (codes "b") ∷ start (codes "colgroup") ∷ Text (codes "1") ∷ end (codes "b") ∷ Text (codes "2") ∷ end (codes "colgroup") ∷ Text (codes "3") ∷ start (codes "li") ∷ start (codes "colgroup") ∷ start (codes "li") ∷ start (codes "ruby") ∷ start (codes "colgroup") ∷ start (codes "rt") ∷ end (codes "ruby") ∷ start (codes "table") ∷ start (codes "colgroup") ∷ Text (codes "x") ∷ [])
    ∷ (start (codes "p") ∷ start (codes "data") ∷ Text (codes "0") ∷ end (codes "p") ∷ start (codes "b") ∷ start (codes "data") ∷ Text (codes "1") ∷ end (codes "b") ∷ Text (codes "2") ∷ end (codes "data") ∷ Text (codes "3") ∷ start (codes "li") ∷ start (codes "data") ∷ start (codes "li") ∷ start (codes "ruby") ∷ start (codes "data") ∷ start (codes "rt") ∷ end (codes "ruby") ∷ start (codes "table") ∷ start (codes "data") ∷ Text (codes "x") ∷ [])
    ∷ []

names_1_answers : List Tree
names_1_answers =
    (Element (Element Nothing (codes "p") [] Nothing) (codes "blockquote") [] (Element (Characters (Element (Element (Element (Characters Nothing (codes "0")) (codes "p") [] Nothing) (codes "b") [] Nothing) (codes "blockquote") [] (Characters (Element Nothing (codes "b") [] (Characters Nothing (codes "1"))) (codes "2"))) (codes "3")) (codes "li") [] (Element Nothing (codes "blockquote") [] (Element Nothing (codes "li") [] (Element Nothing (codes "ruby") [] (Element Nothing (codes "blockquote") [] (Element Nothing (codes "rt") [] (Element (Element Nothing (codes "blockquote") [] (Characters Nothing (codes "x"))) (codes "table") [] Nothing))))))))
    ∷ (Element (Element (Characters (Element (Characters (Element (Element Nothing (codes "p") [] (Characters (Element Nothing (codes "br") [] Nothing) (codes "0"))) (codes "b") [] (Characters (Element Nothing (codes "br") [] Nothing) (codes "1"))) (codes "2")) (codes "br") [] Nothing) (codes "3")) (codes "li") [] (Element Nothing (codes "br") [] Nothing)) (codes "li") [] (Element (Characters (Element (Element Nothing (codes "ruby") [] (Element (Element Nothing (codes "br") [] Nothing) (codes "rt") [] Nothing)) (codes "br") [] Nothing) (codes "x")) (codes "table") [] Nothing))
    ∷ (Element (Element Nothing (codes "p") [] (Characters (Element (Element (Element Nothing (codes "button") [] (Element (Element (Characters Nothing (codes "0")) (codes "p") [] Nothing) (codes "b") [] Nothing)) (codes "b") [] Nothing) (codes "button") [] (Characters (Element Nothing (codes "b") [] (Characters Nothing (codes "1"))) (codes "2"))) (codes "3"))) (codes "li") [] (Element (Element Nothing (codes "button") [] (Element Nothing (codes "li") [] (Element Nothing (codes "ruby") [] Nothing))) (codes "button") [] (Element Nothing (codes "rt") [] (Element (Element Nothing (codes "button") [] (Characters Nothing (codes "x"))) (codes "table") [] Nothing))))
    ∷ (Element (Element (Characters (Element (Element Nothing (codes "p") [] (Characters Nothing (codes "0"))) (codes "b") [] (Characters Nothing (codes "1"))) (codes "23")) (codes "li") [] Nothing) (codes "li") [] (Element (Element Nothing (codes "ruby") [] (Element Nothing (codes "rt") [] Nothing)) (codes "table") [] (Element Nothing (codes "caption") [] (Characters Nothing (codes "x")))))
    ∷ (Element (Element Nothing (codes "p") [] Nothing) (codes "center") [] (Element (Characters (Element (Element (Element (Characters Nothing (codes "0")) (codes "p") [] Nothing) (codes "b") [] Nothing) (codes "center") [] (Characters (Element Nothing (codes "b") [] (Characters Nothing (codes "1"))) (codes "2"))) (codes "3")) (codes "li") [] (Element Nothing (codes "center") [] (Element Nothing (codes "li") [] (Element Nothing (codes "ruby") [] (Element Nothing (codes "center") [] (Element Nothing (codes "rt") [] (Element (Element Nothing (codes "center") [] (Characters Nothing (codes "x"))) (codes "table") [] Nothing))))))))
    ∷ (Element (Element (Characters (Element (Element Nothing (codes "p") [] (Element Nothing (codes "cite") [] (Characters Nothing (codes "0")))) (codes "b") [] (Element Nothing (codes "cite") [] (Characters Nothing (codes "1")))) (codes "23")) (codes "li") [] (Element Nothing (codes "cite") [] Nothing)) (codes "li") [] (Element (Element (Element Nothing (codes "ruby") [] (Element Nothing (codes "cite") [] (Element Nothing (codes "rt") [] Nothing))) (codes "cite") [] (Characters Nothing (codes "x"))) (codes "table") [] Nothing))
    ∷ (Element (Element Nothing (codes "p") [] (Element Nothing (codes "code") [] (Characters Nothing (codes "0")))) (codes "code") [] (Element (Element (Characters (Element (Element Nothing (codes "b") [] (Element Nothing (codes "code") [] (Characters Nothing (codes "1")))) (codes "code") [] (Characters Nothing (codes "2"))) (codes "3")) (codes "li") [] (Element Nothing (codes "code") [] Nothing)) (codes "li") [] (Element Nothing (codes "code") [] (Element (Element (Element Nothing (codes "ruby") [] (Element Nothing (codes "code") [] (Element Nothing (codes "rt") [] Nothing))) (codes "code") [] (Element Nothing (codes "code") [] (Characters Nothing (codes "x")))) (codes "table") [] Nothing))))
    ∷ (Element (Element (Characters (Element (Element Nothing (codes "p") [] (Characters Nothing (codes "0"))) (codes "b") [] (Characters Nothing (codes "1"))) (codes "23")) (codes "li") [] Nothing) (codes "li") [] (Element (Characters (Element Nothing (codes "ruby") [] (Element Nothing (codes "rt") [] Nothing)) (codes "x")) (codes "table") [] (Element Nothing (codes "colgroup") [] (Element Nothing (codes "col") [] Nothing))))
    ∷ (Element (Element (Characters (Element (Element Nothing (codes "p") [] (Characters Nothing (codes "0"))) (codes "b") [] (Characters Nothing (codes "1"))) (codes "23")) (codes "li") [] Nothing) (codes "li") [] (Element (Characters (Element Nothing (codes "ruby") [] (Element Nothing (codes "rt") [] Nothing)) (codes "x")) (codes "table") [] (Element Nothing (codes "colgroup") [] Nothing)))
    ∷ (Element (Element (Characters (Element (Element Nothing (codes "p") [] (Element Nothing (codes "data") [] (Characters Nothing (codes "0")))) (codes "b") [] (Element Nothing (codes "data") [] (Characters Nothing (codes "1")))) (codes "23")) (codes "li") [] (Element Nothing (codes "data") [] Nothing)) (codes "li") [] (Element (Element (Element Nothing (codes "ruby") [] (Element Nothing (codes "data") [] (Element Nothing (codes "rt") [] Nothing))) (codes "data") [] (Characters Nothing (codes "x"))) (codes "table") [] Nothing))
    ∷ []

names_1 : map tree_of names_1_items ≡ names_1_answers
unfolding names_1_items names_1_answers is_among kind_in all_names kind_of near in_front whole_texts without_newlines joined changed changed_before found without applied built bare has_node inside outside without_node is_bounded popped_until implied_ended has_entry without_entry last_named is_one_of are_all_of count_alike without_earliest pushed cleared last_table lost kept reopened ended_by furthest_block replaced inner_loop added_after adopted outer_loop innermost mode_of back_to is_hidden leading_space after_space process run
names_1 = refl

names_2_items : List (List Item)
names_2_items =
    (start (codes "p") ∷ start (codes "dd") ∷ Text (codes "0") ∷ end (codes "p") ∷ start (codes "b") ∷ start (codes "dd") ∷ Text (codes "1") ∷ end (codes "b") ∷ Text (codes "2") ∷ end (codes "dd") ∷ Text (codes "3") ∷ start (codes "li") ∷ start (codes "dd") ∷ start (codes "li") ∷ start (codes "ruby") ∷ start (codes "dd") ∷ start (codes "rt") ∷ end (codes "ruby") ∷ start (codes "table") ∷ start (codes "dd") ∷ Text (codes "x") ∷ [])
    ∷ (start (codes "p") ∷ start (codes "del") ∷ Text (codes "0") ∷ end (codes "p") ∷ start (codes "b") ∷ start (codes "del") ∷ Text (codes "1") ∷ end (codes "b") ∷ Text (codes "2") ∷ end (codes "del") ∷ Text (codes "3") ∷ start (codes "li") ∷ start (codes "del") ∷ start (codes "li") ∷ start (codes "ruby") ∷ start (codes "del") ∷ start (codes "rt") ∷ end (codes "ruby") ∷ start (codes "table") ∷ start (codes "del") ∷ Text (codes "x") ∷ [])
    ∷ (start (codes "p") ∷ start (codes "details") ∷ Text (codes "0") ∷ end (codes "p") ∷ start (codes "b") ∷ start (codes "details") ∷ Text (codes "1") ∷ end (codes "b") ∷ Text (codes "2") ∷ end (codes "details") ∷ Text (codes "3") ∷ start (codes "li") ∷ start (codes "details") ∷ start (codes "li") ∷ start (codes "ruby") ∷ start (codes "details") ∷ start (codes "rt") ∷ end (codes "ruby") ∷ start (codes "table") ∷ start (codes "details") ∷ Text (codes "x") ∷ [])
    ∷ (start (codes "p") ∷ start (codes "dfn") ∷ Text (codes "0") ∷ end (codes "p") ∷ start (codes "b") ∷ start (codes "dfn") ∷ Text (codes "1") ∷ end (codes "b") ∷ Text (codes "2") ∷ end (codes "dfn") ∷ Text (codes "3") ∷ start (codes "li") ∷ start (codes "dfn") ∷ start (codes "li") ∷ start (codes "ruby") ∷ start (codes "dfn") ∷ start (codes "rt") ∷ end (codes "ruby") ∷ start (codes "table") ∷ start (codes "dfn") ∷ Text (codes "x") ∷ [])
    ∷ (start (codes "p") ∷ start (codes "dialog") ∷ Text (codes "0") ∷ end (codes "p") ∷ start (codes "b") ∷ start (codes "dialog") ∷ Text (codes "1") ∷ end (codes "b") ∷ Text (codes "2") ∷ end (codes "dialog") ∷ Text (codes "3") ∷ start (codes "li") ∷ start (codes "dialog") ∷ start (codes "li") ∷ start (codes "ruby") ∷ start (codes "dialog") ∷ start (codes "rt") ∷ end (codes "ruby") ∷ start (codes "table") ∷ start (codes "dialog") ∷ Text (codes "x") ∷ [])
    ∷ (start (codes "p") ∷ start (codes "dir") ∷ Text (codes "0") ∷ end (codes "p") ∷ start (codes "b") ∷ start (codes "dir") ∷ Text (codes "1") ∷ end (codes "b") ∷ Text (codes "2") ∷ end (codes "dir") ∷ Text (codes "3") ∷ start (codes "li") ∷ start (codes "dir") ∷ start (codes "li") ∷ start (codes "ruby") ∷ start (codes "dir") ∷ start (codes "rt") ∷ end (codes "ruby") ∷ start (codes "table") ∷ start (codes "dir") ∷ Text (codes "x") ∷ [])
    ∷ (start (codes "p") ∷ start (codes "div") ∷ Text (codes "0") ∷ end (codes "p") ∷ start (codes "b") ∷ start (codes "div") ∷ Text (codes "1") ∷ end (codes "b") ∷ Text (codes "2") ∷ end (codes "div") ∷ Text (codes "3") ∷ start (codes "li") ∷ start (codes "div") ∷ start (codes "li") ∷ start (codes "ruby") ∷ start (codes "div") ∷ start (codes "rt") ∷ end (codes "ruby") ∷ start (codes "table") ∷ start (codes "div") ∷ Text (codes "x") ∷ [])
    ∷ (start (codes "p") ∷ start (codes "dl") ∷ Text (codes "0") ∷ end (codes "p") ∷ start (codes "b") ∷ start (codes "dl") ∷ Text (codes "1") ∷ end (codes "b") ∷ Text (codes "2") ∷ end (codes "dl") ∷ Text (codes "3") ∷ start (codes "li") ∷ start (codes "dl") ∷ start (codes "li") ∷ start (codes "ruby") ∷ start (codes "dl") ∷ start (codes "rt") ∷ end (codes "ruby") ∷ start (codes "table") ∷ start (codes "dl") ∷ Text (codes "x") ∷ [])
    ∷ (start (codes "p") ∷ start (codes "dt") ∷ Text (codes "0") ∷ end (codes "p") ∷ start (codes "b") ∷ start (codes "dt") ∷ Text (codes "1") ∷ end (codes "b") ∷ Text (codes "2") ∷ end (codes "dt") ∷ Text (codes "3") ∷ start (codes "li") ∷ start (codes "dt") ∷ start (codes "li") ∷ start (codes "ruby") ∷ start (codes "dt") ∷ start (codes "rt") ∷ end (codes "ruby") ∷ start (codes "table") ∷ start (codes "dt") ∷ Text (codes "x") ∷ [])
    ∷ (start (codes "p") ∷ start (codes "em") ∷ Text (codes "0") ∷ end (codes "p") ∷ start (codes "b") ∷ start (codes "em") ∷ Text (codes "1") ∷ end (codes "b") ∷ Text (codes "2") ∷ end (codes "em") ∷ Text (codes "3") ∷ start (codes "li") ∷ start (codes "em") ∷ start (codes "li") ∷ start (codes "ruby") ∷ start (codes "em") ∷ start (codes "rt") ∷ end (codes "ruby") ∷ start (codes "table") ∷ start (codes "em") ∷ Text (codes "x") ∷ [])
    ∷ []

names_2_answers : List Tree
names_2_answers =
    (Element (Characters (Element (Element (Element Nothing (codes "p") [] Nothing) (codes "dd") [] (Element (Element (Characters Nothing (codes "0")) (codes "p") [] Nothing) (codes "b") [] Nothing)) (codes "dd") [] (Characters (Element Nothing (codes "b") [] (Characters Nothing (codes "1"))) (codes "2"))) (codes "3")) (codes "li") [] (Element Nothing (codes "dd") [] (Element Nothing (codes "li") [] (Element (Element (Element Nothing (codes "ruby") [] (Element (Element Nothing (codes "dd") [] Nothing) (codes "rt") [] Nothing)) (codes "dd") [] (Characters Nothing (codes "x"))) (codes "table") [] Nothing))))
    ∷ (Element (Element (Characters (Element (Element Nothing (codes "p") [] (Element Nothing (codes "del") [] (Characters Nothing (codes "0")))) (codes "b") [] (Element Nothing (codes "del") [] (Characters Nothing (codes "1")))) (codes "23")) (codes "li") [] (Element Nothing (codes "del") [] Nothing)) (codes "li") [] (Element (Element (Element Nothing (codes "ruby") [] (Element Nothing (codes "del") [] (Element Nothing (codes "rt") [] Nothing))) (codes "del") [] (Characters Nothing (codes "x"))) (codes "table") [] Nothing))
    ∷ (Element (Element Nothing (codes "p") [] Nothing) (codes "details") [] (Element (Characters (Element (Element (Element (Characters Nothing (codes "0")) (codes "p") [] Nothing) (codes "b") [] Nothing) (codes "details") [] (Characters (Element Nothing (codes "b") [] (Characters Nothing (codes "1"))) (codes "2"))) (codes "3")) (codes "li") [] (Element Nothing (codes "details") [] (Element Nothing (codes "li") [] (Element Nothing (codes "ruby") [] (Element Nothing (codes "details") [] (Element Nothing (codes "rt") [] (Element (Element Nothing (codes "details") [] (Characters Nothing (codes "x"))) (codes "table") [] Nothing))))))))
    ∷ (Element (Element (Characters (Element (Element Nothing (codes "p") [] (Element Nothing (codes "dfn") [] (Characters Nothing (codes "0")))) (codes "b") [] (Element Nothing (codes "dfn") [] (Characters Nothing (codes "1")))) (codes "23")) (codes "li") [] (Element Nothing (codes "dfn") [] Nothing)) (codes "li") [] (Element (Element (Element Nothing (codes "ruby") [] (Element Nothing (codes "dfn") [] (Element Nothing (codes "rt") [] Nothing))) (codes "dfn") [] (Characters Nothing (codes "x"))) (codes "table") [] Nothing))
    ∷ (Element (Element (Characters (Element (Element Nothing (codes "p") [] Nothing) (codes "dialog") [] (Characters (Element (Element (Characters Nothing (codes "0")) (codes "p") [] Nothing) (codes "b") [] (Element Nothing (codes "dialog") [] (Characters Nothing (codes "1")))) (codes "2"))) (codes "3")) (codes "li") [] (Element Nothing (codes "dialog") [] Nothing)) (codes "li") [] (Element (Element (Element Nothing (codes "ruby") [] (Element Nothing (codes "dialog") [] (Element Nothing (codes "rt") [] Nothing))) (codes "dialog") [] (Characters Nothing (codes "x"))) (codes "table") [] Nothing))
    ∷ (Element (Element Nothing (codes "p") [] Nothing) (codes "dir") [] (Element (Characters (Element (Element (Element (Characters Nothing (codes "0")) (codes "p") [] Nothing) (codes "b") [] Nothing) (codes "dir") [] (Characters (Element Nothing (codes "b") [] (Characters Nothing (codes "1"))) (codes "2"))) (codes "3")) (codes "li") [] (Element Nothing (codes "dir") [] (Element Nothing (codes "li") [] (Element Nothing (codes "ruby") [] (Element Nothing (codes "dir") [] (Element Nothing (codes "rt") [] (Element (Element Nothing (codes "dir") [] (Characters Nothing (codes "x"))) (codes "table") [] Nothing))))))))
    ∷ (Element (Element Nothing (codes "p") [] Nothing) (codes "div") [] (Element (Element (Characters (Element (Element (Element (Characters Nothing (codes "0")) (codes "p") [] Nothing) (codes "b") [] Nothing) (codes "div") [] (Characters (Element Nothing (codes "b") [] (Characters Nothing (codes "1"))) (codes "2"))) (codes "3")) (codes "li") [] (Element Nothing (codes "div") [] Nothing)) (codes "li") [] (Element Nothing (codes "ruby") [] (Element Nothing (codes "div") [] (Element Nothing (codes "rt") [] (Element (Element Nothing (codes "div") [] (Characters Nothing (codes "x"))) (codes "table") [] Nothing))))))
    ∷ (Element (Element Nothing (codes "p") [] Nothing) (codes "dl") [] (Element (Characters (Element (Element (Element (Characters Nothing (codes "0")) (codes "p") [] Nothing) (codes "b") [] Nothing) (codes "dl") [] (Characters (Element Nothing (codes "b") [] (Characters Nothing (codes "1"))) (codes "2"))) (codes "3")) (codes "li") [] (Element Nothing (codes "dl") [] (Element Nothing (codes "li") [] (Element Nothing (codes "ruby") [] (Element Nothing (codes "dl") [] (Element Nothing (codes "rt") [] (Element (Element Nothing (codes "dl") [] (Characters Nothing (codes "x"))) (codes "table") [] Nothing))))))))
    ∷ (Element (Characters (Element (Element (Element Nothing (codes "p") [] Nothing) (codes "dt") [] (Element (Element (Characters Nothing (codes "0")) (codes "p") [] Nothing) (codes "b") [] Nothing)) (codes "dt") [] (Characters (Element Nothing (codes "b") [] (Characters Nothing (codes "1"))) (codes "2"))) (codes "3")) (codes "li") [] (Element Nothing (codes "dt") [] (Element Nothing (codes "li") [] (Element (Element (Element Nothing (codes "ruby") [] (Element (Element Nothing (codes "dt") [] Nothing) (codes "rt") [] Nothing)) (codes "dt") [] (Characters Nothing (codes "x"))) (codes "table") [] Nothing))))
    ∷ (Element (Element Nothing (codes "p") [] (Element Nothing (codes "em") [] (Characters Nothing (codes "0")))) (codes "em") [] (Element (Element (Characters (Element (Element Nothing (codes "b") [] (Element Nothing (codes "em") [] (Characters Nothing (codes "1")))) (codes "em") [] (Characters Nothing (codes "2"))) (codes "3")) (codes "li") [] (Element Nothing (codes "em") [] Nothing)) (codes "li") [] (Element Nothing (codes "em") [] (Element (Element (Element Nothing (codes "ruby") [] (Element Nothing (codes "em") [] (Element Nothing (codes "rt") [] Nothing))) (codes "em") [] (Element Nothing (codes "em") [] (Characters Nothing (codes "x")))) (codes "table") [] Nothing))))
    ∷ []

names_2 : map tree_of names_2_items ≡ names_2_answers
unfolding names_2_items names_2_answers is_among kind_in all_names kind_of near in_front whole_texts without_newlines joined changed changed_before found without applied built bare has_node inside outside without_node is_bounded popped_until implied_ended has_entry without_entry last_named is_one_of are_all_of count_alike without_earliest pushed cleared last_table lost kept reopened ended_by furthest_block replaced inner_loop added_after adopted outer_loop innermost mode_of back_to is_hidden leading_space after_space process run
names_2 = refl

names_3_items : List (List Item)
names_3_items =
    (start (codes "p") ∷ start (codes "embed") ∷ Text (codes "0") ∷ end (codes "p") ∷ start (codes "b") ∷ start (codes "embed") ∷ Text (codes "1") ∷ end (codes "b") ∷ Text (codes "2") ∷ end (codes "embed") ∷ Text (codes "3") ∷ start (codes "li") ∷ start (codes "embed") ∷ start (codes "li") ∷ start (codes "ruby") ∷ start (codes "embed") ∷ start (codes "rt") ∷ end (codes "ruby") ∷ start (codes "table") ∷ start (codes "embed") ∷ Text (codes "x") ∷ [])
    ∷ (start (codes "p") ∷ start (codes "fieldset") ∷ Text (codes "0") ∷ end (codes "p") ∷ start (codes "b") ∷ start (codes "fieldset") ∷ Text (codes "1") ∷ end (codes "b") ∷ Text (codes "2") ∷ end (codes "fieldset") ∷ Text (codes "3") ∷ start (codes "li") ∷ start (codes "fieldset") ∷ start (codes "li") ∷ start (codes "ruby") ∷ start (codes "fieldset") ∷ start (codes "rt") ∷ end (codes "ruby") ∷ start (codes "table") ∷ start (codes "fieldset") ∷ Text (codes "x") ∷ [])
    ∷ (start (codes "p") ∷ start (codes "figcaption") ∷ Text (codes "0") ∷ end (codes "p") ∷ start (codes "b") ∷ start (codes "figcaption") ∷ Text (codes "1") ∷ end (codes "b") ∷ Text (codes "2") ∷ end (codes "figcaption") ∷ Text (codes "3") ∷ start (codes "li") ∷ start (codes "figcaption") ∷ start (codes "li") ∷ start (codes "ruby") ∷ start (codes "figcaption") ∷ start (codes "rt") ∷ end (codes "ruby") ∷ start (codes "table") ∷ start (codes "figcaption") ∷ Text (codes "x") ∷ [])
    ∷ (start (codes "p") ∷ start (codes "figure") ∷ Text (codes "0") ∷ end (codes "p") ∷ start (codes "b") ∷ start (codes "figure") ∷ Text (codes "1") ∷ end (codes "b") ∷ Text (codes "2") ∷ end (codes "figure") ∷ Text (codes "3") ∷ start (codes "li") ∷ start (codes "figure") ∷ start (codes "li") ∷ start (codes "ruby") ∷ start (codes "figure") ∷ start (codes "rt") ∷ end (codes "ruby") ∷ start (codes "table") ∷ start (codes "figure") ∷ Text (codes "x") ∷ [])
    ∷ (start (codes "p") ∷ start (codes "font") ∷ Text (codes "0") ∷ end (codes "p") ∷ start (codes "b") ∷ start (codes "font") ∷ Text (codes "1") ∷ end (codes "b") ∷ Text (codes "2") ∷ end (codes "font") ∷ Text (codes "3") ∷ start (codes "li") ∷ start (codes "font") ∷ start (codes "li") ∷ start (codes "ruby") ∷ start (codes "font") ∷ start (codes "rt") ∷ end (codes "ruby") ∷ start (codes "table") ∷ start (codes "font") ∷ Text (codes "x") ∷ [])
    ∷ (start (codes "p") ∷ start (codes "footer") ∷ Text (codes "0") ∷ end (codes "p") ∷ start (codes "b") ∷ start (codes "footer") ∷ Text (codes "1") ∷ end (codes "b") ∷ Text (codes "2") ∷ end (codes "footer") ∷ Text (codes "3") ∷ start (codes "li") ∷ start (codes "footer") ∷ start (codes "li") ∷ start (codes "ruby") ∷ start (codes "footer") ∷ start (codes "rt") ∷ end (codes "ruby") ∷ start (codes "table") ∷ start (codes "footer") ∷ Text (codes "x") ∷ [])
    ∷ (start (codes "p") ∷ start (codes "form") ∷ Text (codes "0") ∷ end (codes "p") ∷ start (codes "b") ∷ start (codes "form") ∷ Text (codes "1") ∷ end (codes "b") ∷ Text (codes "2") ∷ end (codes "form") ∷ Text (codes "3") ∷ start (codes "li") ∷ start (codes "form") ∷ start (codes "li") ∷ start (codes "ruby") ∷ start (codes "form") ∷ start (codes "rt") ∷ end (codes "ruby") ∷ start (codes "table") ∷ start (codes "form") ∷ Text (codes "x") ∷ [])
    ∷ (start (codes "p") ∷ start (codes "h1") ∷ Text (codes "0") ∷ end (codes "p") ∷ start (codes "b") ∷ start (codes "h1") ∷ Text (codes "1") ∷ end (codes "b") ∷ Text (codes "2") ∷ end (codes "h1") ∷ Text (codes "3") ∷ start (codes "li") ∷ start (codes "h1") ∷ start (codes "li") ∷ start (codes "ruby") ∷ start (codes "h1") ∷ start (codes "rt") ∷ end (codes "ruby") ∷ start (codes "table") ∷ start (codes "h1") ∷ Text (codes "x") ∷ [])
    ∷ (start (codes "p") ∷ start (codes "h2") ∷ Text (codes "0") ∷ end (codes "p") ∷ start (codes "b") ∷ start (codes "h2") ∷ Text (codes "1") ∷ end (codes "b") ∷ Text (codes "2") ∷ end (codes "h2") ∷ Text (codes "3") ∷ start (codes "li") ∷ start (codes "h2") ∷ start (codes "li") ∷ start (codes "ruby") ∷ start (codes "h2") ∷ start (codes "rt") ∷ end (codes "ruby") ∷ start (codes "table") ∷ start (codes "h2") ∷ Text (codes "x") ∷ [])
    ∷ (start (codes "p") ∷ start (codes "h3") ∷ Text (codes "0") ∷ end (codes "p") ∷ start (codes "b") ∷ start (codes "h3") ∷ Text (codes "1") ∷ end (codes "b") ∷ Text (codes "2") ∷ end (codes "h3") ∷ Text (codes "3") ∷ start (codes "li") ∷ start (codes "h3") ∷ start (codes "li") ∷ start (codes "ruby") ∷ start (codes "h3") ∷ start (codes "rt") ∷ end (codes "ruby") ∷ start (codes "table") ∷ start (codes "h3") ∷ Text (codes "x") ∷ [])
    ∷ []

names_3_answers : List Tree
names_3_answers =
    (Element (Element (Characters (Element (Element Nothing (codes "p") [] (Characters (Element Nothing (codes "embed") [] Nothing) (codes "0"))) (codes "b") [] (Characters (Element Nothing (codes "embed") [] Nothing) (codes "1"))) (codes "23")) (codes "li") [] (Element Nothing (codes "embed") [] Nothing)) (codes "li") [] (Element (Characters (Element (Element Nothing (codes "ruby") [] (Element (Element Nothing (codes "embed") [] Nothing) (codes "rt") [] Nothing)) (codes "embed") [] Nothing) (codes "x")) (codes "table") [] Nothing))
    ∷ (Element (Element Nothing (codes "p") [] Nothing) (codes "fieldset") [] (Element (Characters (Element (Element (Element (Characters Nothing (codes "0")) (codes "p") [] Nothing) (codes "b") [] Nothing) (codes "fieldset") [] (Characters (Element Nothing (codes "b") [] (Characters Nothing (codes "1"))) (codes "2"))) (codes "3")) (codes "li") [] (Element Nothing (codes "fieldset") [] (Element Nothing (codes "li") [] (Element Nothing (codes "ruby") [] (Element Nothing (codes "fieldset") [] (Element Nothing (codes "rt") [] (Element (Element Nothing (codes "fieldset") [] (Characters Nothing (codes "x"))) (codes "table") [] Nothing))))))))
    ∷ (Element (Element Nothing (codes "p") [] Nothing) (codes "figcaption") [] (Element (Characters (Element (Element (Element (Characters Nothing (codes "0")) (codes "p") [] Nothing) (codes "b") [] Nothing) (codes "figcaption") [] (Characters (Element Nothing (codes "b") [] (Characters Nothing (codes "1"))) (codes "2"))) (codes "3")) (codes "li") [] (Element Nothing (codes "figcaption") [] (Element Nothing (codes "li") [] (Element Nothing (codes "ruby") [] (Element Nothing (codes "figcaption") [] (Element Nothing (codes "rt") [] (Element (Element Nothing (codes "figcaption") [] (Characters Nothing (codes "x"))) (codes "table") [] Nothing))))))))
    ∷ (Element (Element Nothing (codes "p") [] Nothing) (codes "figure") [] (Element (Characters (Element (Element (Element (Characters Nothing (codes "0")) (codes "p") [] Nothing) (codes "b") [] Nothing) (codes "figure") [] (Characters (Element Nothing (codes "b") [] (Characters Nothing (codes "1"))) (codes "2"))) (codes "3")) (codes "li") [] (Element Nothing (codes "figure") [] (Element Nothing (codes "li") [] (Element Nothing (codes "ruby") [] (Element Nothing (codes "figure") [] (Element Nothing (codes "rt") [] (Element (Element Nothing (codes "figure") [] (Characters Nothing (codes "x"))) (codes "table") [] Nothing))))))))
    ∷ (Element (Element Nothing (codes "p") [] (Element Nothing (codes "font") [] (Characters Nothing (codes "0")))) (codes "font") [] (Element (Element (Characters (Element (Element Nothing (codes "b") [] (Element Nothing (codes "font") [] (Characters Nothing (codes "1")))) (codes "font") [] (Characters Nothing (codes "2"))) (codes "3")) (codes "li") [] (Element Nothing (codes "font") [] Nothing)) (codes "li") [] (Element Nothing (codes "font") [] (Element (Element (Element Nothing (codes "ruby") [] (Element Nothing (codes "font") [] (Element Nothing (codes "rt") [] Nothing))) (codes "font") [] (Element Nothing (codes "font") [] (Characters Nothing (codes "x")))) (codes "table") [] Nothing))))
    ∷ (Element (Element Nothing (codes "p") [] Nothing) (codes "footer") [] (Element (Characters (Element (Element (Element (Characters Nothing (codes "0")) (codes "p") [] Nothing) (codes "b") [] Nothing) (codes "footer") [] (Characters (Element Nothing (codes "b") [] (Characters Nothing (codes "1"))) (codes "2"))) (codes "3")) (codes "li") [] (Element Nothing (codes "footer") [] (Element Nothing (codes "li") [] (Element Nothing (codes "ruby") [] (Element Nothing (codes "footer") [] (Element Nothing (codes "rt") [] (Element (Element Nothing (codes "footer") [] (Characters Nothing (codes "x"))) (codes "table") [] Nothing))))))))
    ∷ (Element (Characters (Element (Element Nothing (codes "p") [] Nothing) (codes "form") [] (Characters (Element (Element (Characters Nothing (codes "0")) (codes "p") [] Nothing) (codes "b") [] (Characters Nothing (codes "1"))) (codes "2"))) (codes "3")) (codes "li") [] (Element Nothing (codes "form") [] (Element Nothing (codes "li") [] (Element (Characters (Element Nothing (codes "ruby") [] (Element Nothing (codes "rt") [] Nothing)) (codes "x")) (codes "table") [] Nothing))))
    ∷ (Element (Element Nothing (codes "p") [] Nothing) (codes "h1") [] (Element (Characters (Element (Element (Element (Characters Nothing (codes "0")) (codes "p") [] Nothing) (codes "b") [] Nothing) (codes "h1") [] (Characters (Element Nothing (codes "b") [] (Characters Nothing (codes "1"))) (codes "2"))) (codes "3")) (codes "li") [] (Element Nothing (codes "h1") [] (Element Nothing (codes "li") [] (Element Nothing (codes "ruby") [] (Element Nothing (codes "h1") [] (Element Nothing (codes "rt") [] (Element (Element Nothing (codes "h1") [] (Characters Nothing (codes "x"))) (codes "table") [] Nothing))))))))
    ∷ (Element (Element Nothing (codes "p") [] Nothing) (codes "h2") [] (Element (Characters (Element (Element (Element (Characters Nothing (codes "0")) (codes "p") [] Nothing) (codes "b") [] Nothing) (codes "h2") [] (Characters (Element Nothing (codes "b") [] (Characters Nothing (codes "1"))) (codes "2"))) (codes "3")) (codes "li") [] (Element Nothing (codes "h2") [] (Element Nothing (codes "li") [] (Element Nothing (codes "ruby") [] (Element Nothing (codes "h2") [] (Element Nothing (codes "rt") [] (Element (Element Nothing (codes "h2") [] (Characters Nothing (codes "x"))) (codes "table") [] Nothing))))))))
    ∷ (Element (Element Nothing (codes "p") [] Nothing) (codes "h3") [] (Element (Characters (Element (Element (Element (Characters Nothing (codes "0")) (codes "p") [] Nothing) (codes "b") [] Nothing) (codes "h3") [] (Characters (Element Nothing (codes "b") [] (Characters Nothing (codes "1"))) (codes "2"))) (codes "3")) (codes "li") [] (Element Nothing (codes "h3") [] (Element Nothing (codes "li") [] (Element Nothing (codes "ruby") [] (Element Nothing (codes "h3") [] (Element Nothing (codes "rt") [] (Element (Element Nothing (codes "h3") [] (Characters Nothing (codes "x"))) (codes "table") [] Nothing))))))))
    ∷ []

names_3 : map tree_of names_3_items ≡ names_3_answers
unfolding names_3_items names_3_answers is_among kind_in all_names kind_of near in_front whole_texts without_newlines joined changed changed_before found without applied built bare has_node inside outside without_node is_bounded popped_until implied_ended has_entry without_entry last_named is_one_of are_all_of count_alike without_earliest pushed cleared last_table lost kept reopened ended_by furthest_block replaced inner_loop added_after adopted outer_loop innermost mode_of back_to is_hidden leading_space after_space process run
names_3 = refl

names_4_items : List (List Item)
names_4_items =
    (start (codes "p") ∷ start (codes "h4") ∷ Text (codes "0") ∷ end (codes "p") ∷ start (codes "b") ∷ start (codes "h4") ∷ Text (codes "1") ∷ end (codes "b") ∷ Text (codes "2") ∷ end (codes "h4") ∷ Text (codes "3") ∷ start (codes "li") ∷ start (codes "h4") ∷ start (codes "li") ∷ start (codes "ruby") ∷ start (codes "h4") ∷ start (codes "rt") ∷ end (codes "ruby") ∷ start (codes "table") ∷ start (codes "h4") ∷ Text (codes "x") ∷ [])
    ∷ (start (codes "p") ∷ start (codes "h5") ∷ Text (codes "0") ∷ end (codes "p") ∷ start (codes "b") ∷ start (codes "h5") ∷ Text (codes "1") ∷ end (codes "b") ∷ Text (codes "2") ∷ end (codes "h5") ∷ Text (codes "3") ∷ start (codes "li") ∷ start (codes "h5") ∷ start (codes "li") ∷ start (codes "ruby") ∷ start (codes "h5") ∷ start (codes "rt") ∷ end (codes "ruby") ∷ start (codes "table") ∷ start (codes "h5") ∷ Text (codes "x") ∷ [])
    ∷ (start (codes "p") ∷ start (codes "h6") ∷ Text (codes "0") ∷ end (codes "p") ∷ start (codes "b") ∷ start (codes "h6") ∷ Text (codes "1") ∷ end (codes "b") ∷ Text (codes "2") ∷ end (codes "h6") ∷ Text (codes "3") ∷ start (codes "li") ∷ start (codes "h6") ∷ start (codes "li") ∷ start (codes "ruby") ∷ start (codes "h6") ∷ start (codes "rt") ∷ end (codes "ruby") ∷ start (codes "table") ∷ start (codes "h6") ∷ Text (codes "x") ∷ [])
    ∷ (start (codes "p") ∷ start (codes "header") ∷ Text (codes "0") ∷ end (codes "p") ∷ start (codes "b") ∷ start (codes "header") ∷ Text (codes "1") ∷ end (codes "b") ∷ Text (codes "2") ∷ end (codes "header") ∷ Text (codes "3") ∷ start (codes "li") ∷ start (codes "header") ∷ start (codes "li") ∷ start (codes "ruby") ∷ start (codes "header") ∷ start (codes "rt") ∷ end (codes "ruby") ∷ start (codes "table") ∷ start (codes "header") ∷ Text (codes "x") ∷ [])
    ∷ (start (codes "p") ∷ start (codes "hgroup") ∷ Text (codes "0") ∷ end (codes "p") ∷ start (codes "b") ∷ start (codes "hgroup") ∷ Text (codes "1") ∷ end (codes "b") ∷ Text (codes "2") ∷ end (codes "hgroup") ∷ Text (codes "3") ∷ start (codes "li") ∷ start (codes "hgroup") ∷ start (codes "li") ∷ start (codes "ruby") ∷ start (codes "hgroup") ∷ start (codes "rt") ∷ end (codes "ruby") ∷ start (codes "table") ∷ start (codes "hgroup") ∷ Text (codes "x") ∷ [])
    ∷ (start (codes "p") ∷ start (codes "hr") ∷ Text (codes "0") ∷ end (codes "p") ∷ start (codes "b") ∷ start (codes "hr") ∷ Text (codes "1") ∷ end (codes "b") ∷ Text (codes "2") ∷ end (codes "hr") ∷ Text (codes "3") ∷ start (codes "li") ∷ start (codes "hr") ∷ start (codes "li") ∷ start (codes "ruby") ∷ start (codes "hr") ∷ start (codes "rt") ∷ end (codes "ruby") ∷ start (codes "table") ∷ start (codes "hr") ∷ Text (codes "x") ∷ [])
    ∷ (start (codes "p") ∷ start (codes "i") ∷ Text (codes "0") ∷ end (codes "p") ∷ start (codes "b") ∷ start (codes "i") ∷ Text (codes "1") ∷ end (codes "b") ∷ Text (codes "2") ∷ end (codes "i") ∷ Text (codes "3") ∷ start (codes "li") ∷ start (codes "i") ∷ start (codes "li") ∷ start (codes "ruby") ∷ start (codes "i") ∷ start (codes "rt") ∷ end (codes "ruby") ∷ start (codes "table") ∷ start (codes "i") ∷ Text (codes "x") ∷ [])
    ∷ (start (codes "p") ∷ start (codes "img") ∷ Text (codes "0") ∷ end (codes "p") ∷ start (codes "b") ∷ start (codes "img") ∷ Text (codes "1") ∷ end (codes "b") ∷ Text (codes "2") ∷ end (codes "img") ∷ Text (codes "3") ∷ start (codes "li") ∷ start (codes "img") ∷ start (codes "li") ∷ start (codes "ruby") ∷ start (codes "img") ∷ start (codes "rt") ∷ end (codes "ruby") ∷ start (codes "table") ∷ start (codes "img") ∷ Text (codes "x") ∷ [])
    ∷ (start (codes "p") ∷ start (codes "input") ∷ Text (codes "0") ∷ end (codes "p") ∷ start (codes "b") ∷ start (codes "input") ∷ Text (codes "1") ∷ end (codes "b") ∷ Text (codes "2") ∷ end (codes "input") ∷ Text (codes "3") ∷ start (codes "li") ∷ start (codes "input") ∷ start (codes "li") ∷ start (codes "ruby") ∷ start (codes "input") ∷ start (codes "rt") ∷ end (codes "ruby") ∷ start (codes "table") ∷ start (codes "input") ∷ Text (codes "x") ∷ [])
    ∷ (start (codes "p") ∷ start (codes "ins") ∷ Text (codes "0") ∷ end (codes "p") ∷ start (codes "b") ∷ start (codes "ins") ∷ Text (codes "1") ∷ end (codes "b") ∷ Text (codes "2") ∷ end (codes "ins") ∷ Text (codes "3") ∷ start (codes "li") ∷ start (codes "ins") ∷ start (codes "li") ∷ start (codes "ruby") ∷ start (codes "ins") ∷ start (codes "rt") ∷ end (codes "ruby") ∷ start (codes "table") ∷ start (codes "ins") ∷ Text (codes "x") ∷ [])
    ∷ []

names_4_answers : List Tree
names_4_answers =
    (Element (Element Nothing (codes "p") [] Nothing) (codes "h4") [] (Element (Characters (Element (Element (Element (Characters Nothing (codes "0")) (codes "p") [] Nothing) (codes "b") [] Nothing) (codes "h4") [] (Characters (Element Nothing (codes "b") [] (Characters Nothing (codes "1"))) (codes "2"))) (codes "3")) (codes "li") [] (Element Nothing (codes "h4") [] (Element Nothing (codes "li") [] (Element Nothing (codes "ruby") [] (Element Nothing (codes "h4") [] (Element Nothing (codes "rt") [] (Element (Element Nothing (codes "h4") [] (Characters Nothing (codes "x"))) (codes "table") [] Nothing))))))))
    ∷ (Element (Element Nothing (codes "p") [] Nothing) (codes "h5") [] (Element (Characters (Element (Element (Element (Characters Nothing (codes "0")) (codes "p") [] Nothing) (codes "b") [] Nothing) (codes "h5") [] (Characters (Element Nothing (codes "b") [] (Characters Nothing (codes "1"))) (codes "2"))) (codes "3")) (codes "li") [] (Element Nothing (codes "h5") [] (Element Nothing (codes "li") [] (Element Nothing (codes "ruby") [] (Element Nothing (codes "h5") [] (Element Nothing (codes "rt") [] (Element (Element Nothing (codes "h5") [] (Characters Nothing (codes "x"))) (codes "table") [] Nothing))))))))
    ∷ (Element (Element Nothing (codes "p") [] Nothing) (codes "h6") [] (Element (Characters (Element (Element (Element (Characters Nothing (codes "0")) (codes "p") [] Nothing) (codes "b") [] Nothing) (codes "h6") [] (Characters (Element Nothing (codes "b") [] (Characters Nothing (codes "1"))) (codes "2"))) (codes "3")) (codes "li") [] (Element Nothing (codes "h6") [] (Element Nothing (codes "li") [] (Element Nothing (codes "ruby") [] (Element Nothing (codes "h6") [] (Element Nothing (codes "rt") [] (Element (Element Nothing (codes "h6") [] (Characters Nothing (codes "x"))) (codes "table") [] Nothing))))))))
    ∷ (Element (Element Nothing (codes "p") [] Nothing) (codes "header") [] (Element (Characters (Element (Element (Element (Characters Nothing (codes "0")) (codes "p") [] Nothing) (codes "b") [] Nothing) (codes "header") [] (Characters (Element Nothing (codes "b") [] (Characters Nothing (codes "1"))) (codes "2"))) (codes "3")) (codes "li") [] (Element Nothing (codes "header") [] (Element Nothing (codes "li") [] (Element Nothing (codes "ruby") [] (Element Nothing (codes "header") [] (Element Nothing (codes "rt") [] (Element (Element Nothing (codes "header") [] (Characters Nothing (codes "x"))) (codes "table") [] Nothing))))))))
    ∷ (Element (Element Nothing (codes "p") [] Nothing) (codes "hgroup") [] (Element (Characters (Element (Element (Element (Characters Nothing (codes "0")) (codes "p") [] Nothing) (codes "b") [] Nothing) (codes "hgroup") [] (Characters (Element Nothing (codes "b") [] (Characters Nothing (codes "1"))) (codes "2"))) (codes "3")) (codes "li") [] (Element Nothing (codes "hgroup") [] (Element Nothing (codes "li") [] (Element Nothing (codes "ruby") [] (Element Nothing (codes "hgroup") [] (Element Nothing (codes "rt") [] (Element (Element Nothing (codes "hgroup") [] (Characters Nothing (codes "x"))) (codes "table") [] Nothing))))))))
    ∷ (Element (Element (Characters (Element (Element (Characters (Element (Element Nothing (codes "p") [] Nothing) (codes "hr") [] Nothing) (codes "0")) (codes "p") [] Nothing) (codes "b") [] (Characters (Element Nothing (codes "hr") [] Nothing) (codes "1"))) (codes "23")) (codes "li") [] (Element Nothing (codes "hr") [] Nothing)) (codes "li") [] (Element (Characters (Element (Element Nothing (codes "ruby") [] (Element (Element Nothing (codes "hr") [] Nothing) (codes "rt") [] Nothing)) (codes "hr") [] Nothing) (codes "x")) (codes "table") [] Nothing))
    ∷ (Element (Element Nothing (codes "p") [] (Element Nothing (codes "i") [] (Characters Nothing (codes "0")))) (codes "i") [] (Element (Element (Characters (Element (Element Nothing (codes "b") [] (Element Nothing (codes "i") [] (Characters Nothing (codes "1")))) (codes "i") [] (Characters Nothing (codes "2"))) (codes "3")) (codes "li") [] (Element Nothing (codes "i") [] Nothing)) (codes "li") [] (Element Nothing (codes "i") [] (Element (Element (Element Nothing (codes "ruby") [] (Element Nothing (codes "i") [] (Element Nothing (codes "rt") [] Nothing))) (codes "i") [] (Element Nothing (codes "i") [] (Characters Nothing (codes "x")))) (codes "table") [] Nothing))))
    ∷ (Element (Element (Characters (Element (Element Nothing (codes "p") [] (Characters (Element Nothing (codes "img") [] Nothing) (codes "0"))) (codes "b") [] (Characters (Element Nothing (codes "img") [] Nothing) (codes "1"))) (codes "23")) (codes "li") [] (Element Nothing (codes "img") [] Nothing)) (codes "li") [] (Element (Characters (Element (Element Nothing (codes "ruby") [] (Element (Element Nothing (codes "img") [] Nothing) (codes "rt") [] Nothing)) (codes "img") [] Nothing) (codes "x")) (codes "table") [] Nothing))
    ∷ (Element (Element (Characters (Element (Element Nothing (codes "p") [] (Characters (Element Nothing (codes "input") [] Nothing) (codes "0"))) (codes "b") [] (Characters (Element Nothing (codes "input") [] Nothing) (codes "1"))) (codes "23")) (codes "li") [] (Element Nothing (codes "input") [] Nothing)) (codes "li") [] (Element (Characters (Element (Element Nothing (codes "ruby") [] (Element (Element Nothing (codes "input") [] Nothing) (codes "rt") [] Nothing)) (codes "input") [] Nothing) (codes "x")) (codes "table") [] Nothing))
    ∷ (Element (Element (Characters (Element (Element Nothing (codes "p") [] (Element Nothing (codes "ins") [] (Characters Nothing (codes "0")))) (codes "b") [] (Element Nothing (codes "ins") [] (Characters Nothing (codes "1")))) (codes "23")) (codes "li") [] (Element Nothing (codes "ins") [] Nothing)) (codes "li") [] (Element (Element (Element Nothing (codes "ruby") [] (Element Nothing (codes "ins") [] (Element Nothing (codes "rt") [] Nothing))) (codes "ins") [] (Characters Nothing (codes "x"))) (codes "table") [] Nothing))
    ∷ []

names_4 : map tree_of names_4_items ≡ names_4_answers
unfolding names_4_items names_4_answers is_among kind_in all_names kind_of near in_front whole_texts without_newlines joined changed changed_before found without applied built bare has_node inside outside without_node is_bounded popped_until implied_ended has_entry without_entry last_named is_one_of are_all_of count_alike without_earliest pushed cleared last_table lost kept reopened ended_by furthest_block replaced inner_loop added_after adopted outer_loop innermost mode_of back_to is_hidden leading_space after_space process run
names_4 = refl

names_5_items : List (List Item)
names_5_items =
    (start (codes "p") ∷ start (codes "kbd") ∷ Text (codes "0") ∷ end (codes "p") ∷ start (codes "b") ∷ start (codes "kbd") ∷ Text (codes "1") ∷ end (codes "b") ∷ Text (codes "2") ∷ end (codes "kbd") ∷ Text (codes "3") ∷ start (codes "li") ∷ start (codes "kbd") ∷ start (codes "li") ∷ start (codes "ruby") ∷ start (codes "kbd") ∷ start (codes "rt") ∷ end (codes "ruby") ∷ start (codes "table") ∷ start (codes "kbd") ∷ Text (codes "x") ∷ [])
    ∷ (start (codes "p") ∷ start (codes "label") ∷ Text (codes "0") ∷ end (codes "p") ∷ start (codes "b") ∷ start (codes "label") ∷ Text (codes "1") ∷ end (codes "b") ∷ Text (codes "2") ∷ end (codes "label") ∷ Text (codes "3") ∷ start (codes "li") ∷ start (codes "label") ∷ start (codes "li") ∷ start (codes "ruby") ∷ start (codes "label") ∷ start (codes "rt") ∷ end (codes "ruby") ∷ start (codes "table") ∷ start (codes "label") ∷ Text (codes "x") ∷ [])
    ∷ (start (codes "p") ∷ start (codes "li") ∷ Text (codes "0") ∷ end (codes "p") ∷ start (codes "b") ∷ start (codes "li") ∷ Text (codes "1") ∷ end (codes "b") ∷ Text (codes "2") ∷ end (codes "li") ∷ Text (codes "3") ∷ start (codes "li") ∷ start (codes "li") ∷ start (codes "li") ∷ start (codes "ruby") ∷ start (codes "li") ∷ start (codes "rt") ∷ end (codes "ruby") ∷ start (codes "table") ∷ start (codes "li") ∷ Text (codes "x") ∷ [])
    ∷ (start (codes "p") ∷ start (codes "listing") ∷ Text (codes "0") ∷ end (codes "p") ∷ start (codes "b") ∷ start (codes "listing") ∷ Text (codes "1") ∷ end (codes "b") ∷ Text (codes "2") ∷ end (codes "listing") ∷ Text (codes "3") ∷ start (codes "li") ∷ start (codes "listing") ∷ start (codes "li") ∷ start (codes "ruby") ∷ start (codes "listing") ∷ start (codes "rt") ∷ end (codes "ruby") ∷ start (codes "table") ∷ start (codes "listing") ∷ Text (codes "x") ∷ [])
    ∷ (start (codes "p") ∷ start (codes "main") ∷ Text (codes "0") ∷ end (codes "p") ∷ start (codes "b") ∷ start (codes "main") ∷ Text (codes "1") ∷ end (codes "b") ∷ Text (codes "2") ∷ end (codes "main") ∷ Text (codes "3") ∷ start (codes "li") ∷ start (codes "main") ∷ start (codes "li") ∷ start (codes "ruby") ∷ start (codes "main") ∷ start (codes "rt") ∷ end (codes "ruby") ∷ start (codes "table") ∷ start (codes "main") ∷ Text (codes "x") ∷ [])
    ∷ (start (codes "p") ∷ start (codes "map") ∷ Text (codes "0") ∷ end (codes "p") ∷ start (codes "b") ∷ start (codes "map") ∷ Text (codes "1") ∷ end (codes "b") ∷ Text (codes "2") ∷ end (codes "map") ∷ Text (codes "3") ∷ start (codes "li") ∷ start (codes "map") ∷ start (codes "li") ∷ start (codes "ruby") ∷ start (codes "map") ∷ start (codes "rt") ∷ end (codes "ruby") ∷ start (codes "table") ∷ start (codes "map") ∷ Text (codes "x") ∷ [])
    ∷ (start (codes "p") ∷ start (codes "mark") ∷ Text (codes "0") ∷ end (codes "p") ∷ start (codes "b") ∷ start (codes "mark") ∷ Text (codes "1") ∷ end (codes "b") ∷ Text (codes "2") ∷ end (codes "mark") ∷ Text (codes "3") ∷ start (codes "li") ∷ start (codes "mark") ∷ start (codes "li") ∷ start (codes "ruby") ∷ start (codes "mark") ∷ start (codes "rt") ∷ end (codes "ruby") ∷ start (codes "table") ∷ start (codes "mark") ∷ Text (codes "x") ∷ [])
    ∷ (start (codes "p") ∷ start (codes "menu") ∷ Text (codes "0") ∷ end (codes "p") ∷ start (codes "b") ∷ start (codes "menu") ∷ Text (codes "1") ∷ end (codes "b") ∷ Text (codes "2") ∷ end (codes "menu") ∷ Text (codes "3") ∷ start (codes "li") ∷ start (codes "menu") ∷ start (codes "li") ∷ start (codes "ruby") ∷ start (codes "menu") ∷ start (codes "rt") ∷ end (codes "ruby") ∷ start (codes "table") ∷ start (codes "menu") ∷ Text (codes "x") ∷ [])
    ∷ (start (codes "p") ∷ start (codes "nav") ∷ Text (codes "0") ∷ end (codes "p") ∷ start (codes "b") ∷ start (codes "nav") ∷ Text (codes "1") ∷ end (codes "b") ∷ Text (codes "2") ∷ end (codes "nav") ∷ Text (codes "3") ∷ start (codes "li") ∷ start (codes "nav") ∷ start (codes "li") ∷ start (codes "ruby") ∷ start (codes "nav") ∷ start (codes "rt") ∷ end (codes "ruby") ∷ start (codes "table") ∷ start (codes "nav") ∷ Text (codes "x") ∷ [])
    ∷ (start (codes "p") ∷ start (codes "nobr") ∷ Text (codes "0") ∷ end (codes "p") ∷ start (codes "b") ∷ start (codes "nobr") ∷ Text (codes "1") ∷ end (codes "b") ∷ Text (codes "2") ∷ end (codes "nobr") ∷ Text (codes "3") ∷ start (codes "li") ∷ start (codes "nobr") ∷ start (codes "li") ∷ start (codes "ruby") ∷ start (codes "nobr") ∷ start (codes "rt") ∷ end (codes "ruby") ∷ start (codes "table") ∷ start (codes "nobr") ∷ Text (codes "x") ∷ [])
    ∷ []

names_5_answers : List Tree
names_5_answers =
    (Element (Element (Characters (Element (Element Nothing (codes "p") [] (Element Nothing (codes "kbd") [] (Characters Nothing (codes "0")))) (codes "b") [] (Element Nothing (codes "kbd") [] (Characters Nothing (codes "1")))) (codes "23")) (codes "li") [] (Element Nothing (codes "kbd") [] Nothing)) (codes "li") [] (Element (Element (Element Nothing (codes "ruby") [] (Element Nothing (codes "kbd") [] (Element Nothing (codes "rt") [] Nothing))) (codes "kbd") [] (Characters Nothing (codes "x"))) (codes "table") [] Nothing))
    ∷ (Element (Element (Characters (Element (Element Nothing (codes "p") [] (Element Nothing (codes "label") [] (Characters Nothing (codes "0")))) (codes "b") [] (Element Nothing (codes "label") [] (Characters Nothing (codes "1")))) (codes "23")) (codes "li") [] (Element Nothing (codes "label") [] Nothing)) (codes "li") [] (Element (Element (Element Nothing (codes "ruby") [] (Element Nothing (codes "label") [] (Element Nothing (codes "rt") [] Nothing))) (codes "label") [] (Characters Nothing (codes "x"))) (codes "table") [] Nothing))
    ∷ (Element (Element (Element (Element (Characters (Element (Element (Element Nothing (codes "p") [] Nothing) (codes "li") [] (Element (Element (Characters Nothing (codes "0")) (codes "p") [] Nothing) (codes "b") [] Nothing)) (codes "li") [] (Characters (Element Nothing (codes "b") [] (Characters Nothing (codes "1"))) (codes "2"))) (codes "3")) (codes "li") [] Nothing) (codes "li") [] Nothing) (codes "li") [] (Element Nothing (codes "ruby") [] Nothing)) (codes "li") [] (Element Nothing (codes "rt") [] (Element (Element Nothing (codes "li") [] (Characters Nothing (codes "x"))) (codes "table") [] Nothing)))
    ∷ (Element (Element Nothing (codes "p") [] Nothing) (codes "listing") [] (Element (Characters (Element (Element (Element (Characters Nothing (codes "0")) (codes "p") [] Nothing) (codes "b") [] Nothing) (codes "listing") [] (Characters (Element Nothing (codes "b") [] (Characters Nothing (codes "1"))) (codes "2"))) (codes "3")) (codes "li") [] (Element Nothing (codes "listing") [] (Element Nothing (codes "li") [] (Element Nothing (codes "ruby") [] (Element Nothing (codes "listing") [] (Element Nothing (codes "rt") [] (Element (Element Nothing (codes "listing") [] (Characters Nothing (codes "x"))) (codes "table") [] Nothing))))))))
    ∷ (Element (Element Nothing (codes "p") [] Nothing) (codes "main") [] (Element (Characters (Element (Element (Element (Characters Nothing (codes "0")) (codes "p") [] Nothing) (codes "b") [] Nothing) (codes "main") [] (Characters (Element Nothing (codes "b") [] (Characters Nothing (codes "1"))) (codes "2"))) (codes "3")) (codes "li") [] (Element Nothing (codes "main") [] (Element Nothing (codes "li") [] (Element Nothing (codes "ruby") [] (Element Nothing (codes "main") [] (Element Nothing (codes "rt") [] (Element (Element Nothing (codes "main") [] (Characters Nothing (codes "x"))) (codes "table") [] Nothing))))))))
    ∷ (Element (Element (Characters (Element (Element Nothing (codes "p") [] (Element Nothing (codes "map") [] (Characters Nothing (codes "0")))) (codes "b") [] (Element Nothing (codes "map") [] (Characters Nothing (codes "1")))) (codes "23")) (codes "li") [] (Element Nothing (codes "map") [] Nothing)) (codes "li") [] (Element (Element (Element Nothing (codes "ruby") [] (Element Nothing (codes "map") [] (Element Nothing (codes "rt") [] Nothing))) (codes "map") [] (Characters Nothing (codes "x"))) (codes "table") [] Nothing))
    ∷ (Element (Element (Characters (Element (Element Nothing (codes "p") [] (Element Nothing (codes "mark") [] (Characters Nothing (codes "0")))) (codes "b") [] (Element Nothing (codes "mark") [] (Characters Nothing (codes "1")))) (codes "23")) (codes "li") [] (Element Nothing (codes "mark") [] Nothing)) (codes "li") [] (Element (Element (Element Nothing (codes "ruby") [] (Element Nothing (codes "mark") [] (Element Nothing (codes "rt") [] Nothing))) (codes "mark") [] (Characters Nothing (codes "x"))) (codes "table") [] Nothing))
    ∷ (Element (Element Nothing (codes "p") [] Nothing) (codes "menu") [] (Element (Characters (Element (Element (Element (Characters Nothing (codes "0")) (codes "p") [] Nothing) (codes "b") [] Nothing) (codes "menu") [] (Characters (Element Nothing (codes "b") [] (Characters Nothing (codes "1"))) (codes "2"))) (codes "3")) (codes "li") [] (Element Nothing (codes "menu") [] (Element Nothing (codes "li") [] (Element Nothing (codes "ruby") [] (Element Nothing (codes "menu") [] (Element Nothing (codes "rt") [] (Element (Element Nothing (codes "menu") [] (Characters Nothing (codes "x"))) (codes "table") [] Nothing))))))))
    ∷ (Element (Element Nothing (codes "p") [] Nothing) (codes "nav") [] (Element (Characters (Element (Element (Element (Characters Nothing (codes "0")) (codes "p") [] Nothing) (codes "b") [] Nothing) (codes "nav") [] (Characters (Element Nothing (codes "b") [] (Characters Nothing (codes "1"))) (codes "2"))) (codes "3")) (codes "li") [] (Element Nothing (codes "nav") [] (Element Nothing (codes "li") [] (Element Nothing (codes "ruby") [] (Element Nothing (codes "nav") [] (Element Nothing (codes "rt") [] (Element (Element Nothing (codes "nav") [] (Characters Nothing (codes "x"))) (codes "table") [] Nothing))))))))
    ∷ (Element (Element (Characters (Element (Element (Element (Element Nothing (codes "p") [] (Element Nothing (codes "nobr") [] (Characters Nothing (codes "0")))) (codes "nobr") [] (Element Nothing (codes "b") [] Nothing)) (codes "b") [] (Element Nothing (codes "nobr") [] (Characters Nothing (codes "1")))) (codes "nobr") [] (Characters Nothing (codes "2"))) (codes "3")) (codes "li") [] (Element Nothing (codes "nobr") [] Nothing)) (codes "li") [] (Element (Element Nothing (codes "nobr") [] (Element Nothing (codes "ruby") [] Nothing)) (codes "nobr") [] (Element Nothing (codes "rt") [] (Element (Element Nothing (codes "nobr") [] (Characters Nothing (codes "x"))) (codes "table") [] Nothing))))
    ∷ []

names_5 : map tree_of names_5_items ≡ names_5_answers
unfolding names_5_items names_5_answers is_among kind_in all_names kind_of near in_front whole_texts without_newlines joined changed changed_before found without applied built bare has_node inside outside without_node is_bounded popped_until implied_ended has_entry without_entry last_named is_one_of are_all_of count_alike without_earliest pushed cleared last_table lost kept reopened ended_by furthest_block replaced inner_loop added_after adopted outer_loop innermost mode_of back_to is_hidden leading_space after_space process run
names_5 = refl

names_6_items : List (List Item)
names_6_items =
    (start (codes "p") ∷ start (codes "ol") ∷ Text (codes "0") ∷ end (codes "p") ∷ start (codes "b") ∷ start (codes "ol") ∷ Text (codes "1") ∷ end (codes "b") ∷ Text (codes "2") ∷ end (codes "ol") ∷ Text (codes "3") ∷ start (codes "li") ∷ start (codes "ol") ∷ start (codes "li") ∷ start (codes "ruby") ∷ start (codes "ol") ∷ start (codes "rt") ∷ end (codes "ruby") ∷ start (codes "table") ∷ start (codes "ol") ∷ Text (codes "x") ∷ [])
    ∷ (start (codes "p") ∷ start (codes "p") ∷ Text (codes "0") ∷ end (codes "p") ∷ start (codes "b") ∷ start (codes "p") ∷ Text (codes "1") ∷ end (codes "b") ∷ Text (codes "2") ∷ end (codes "p") ∷ Text (codes "3") ∷ start (codes "li") ∷ start (codes "p") ∷ start (codes "li") ∷ start (codes "ruby") ∷ start (codes "p") ∷ start (codes "rt") ∷ end (codes "ruby") ∷ start (codes "table") ∷ start (codes "p") ∷ Text (codes "x") ∷ [])
    ∷ (start (codes "p") ∷ start (codes "picture") ∷ Text (codes "0") ∷ end (codes "p") ∷ start (codes "b") ∷ start (codes "picture") ∷ Text (codes "1") ∷ end (codes "b") ∷ Text (codes "2") ∷ end (codes "picture") ∷ Text (codes "3") ∷ start (codes "li") ∷ start (codes "picture") ∷ start (codes "li") ∷ start (codes "ruby") ∷ start (codes "picture") ∷ start (codes "rt") ∷ end (codes "ruby") ∷ start (codes "table") ∷ start (codes "picture") ∷ Text (codes "x") ∷ [])
    ∷ (start (codes "p") ∷ start (codes "pre") ∷ Text (codes "0") ∷ end (codes "p") ∷ start (codes "b") ∷ start (codes "pre") ∷ Text (codes "1") ∷ end (codes "b") ∷ Text (codes "2") ∷ end (codes "pre") ∷ Text (codes "3") ∷ start (codes "li") ∷ start (codes "pre") ∷ start (codes "li") ∷ start (codes "ruby") ∷ start (codes "pre") ∷ start (codes "rt") ∷ end (codes "ruby") ∷ start (codes "table") ∷ start (codes "pre") ∷ Text (codes "x") ∷ [])
    ∷ (start (codes "p") ∷ start (codes "q") ∷ Text (codes "0") ∷ end (codes "p") ∷ start (codes "b") ∷ start (codes "q") ∷ Text (codes "1") ∷ end (codes "b") ∷ Text (codes "2") ∷ end (codes "q") ∷ Text (codes "3") ∷ start (codes "li") ∷ start (codes "q") ∷ start (codes "li") ∷ start (codes "ruby") ∷ start (codes "q") ∷ start (codes "rt") ∷ end (codes "ruby") ∷ start (codes "table") ∷ start (codes "q") ∷ Text (codes "x") ∷ [])
    ∷ (start (codes "p") ∷ start (codes "rb") ∷ Text (codes "0") ∷ end (codes "p") ∷ start (codes "b") ∷ start (codes "rb") ∷ Text (codes "1") ∷ end (codes "b") ∷ Text (codes "2") ∷ end (codes "rb") ∷ Text (codes "3") ∷ start (codes "li") ∷ start (codes "rb") ∷ start (codes "li") ∷ start (codes "ruby") ∷ start (codes "rb") ∷ start (codes "rt") ∷ end (codes "ruby") ∷ start (codes "table") ∷ start (codes "rb") ∷ Text (codes "x") ∷ [])
    ∷ (start (codes "p") ∷ start (codes "rp") ∷ Text (codes "0") ∷ end (codes "p") ∷ start (codes "b") ∷ start (codes "rp") ∷ Text (codes "1") ∷ end (codes "b") ∷ Text (codes "2") ∷ end (codes "rp") ∷ Text (codes "3") ∷ start (codes "li") ∷ start (codes "rp") ∷ start (codes "li") ∷ start (codes "ruby") ∷ start (codes "rp") ∷ start (codes "rt") ∷ end (codes "ruby") ∷ start (codes "table") ∷ start (codes "rp") ∷ Text (codes "x") ∷ [])
    ∷ (start (codes "p") ∷ start (codes "rt") ∷ Text (codes "0") ∷ end (codes "p") ∷ start (codes "b") ∷ start (codes "rt") ∷ Text (codes "1") ∷ end (codes "b") ∷ Text (codes "2") ∷ end (codes "rt") ∷ Text (codes "3") ∷ start (codes "li") ∷ start (codes "rt") ∷ start (codes "li") ∷ start (codes "ruby") ∷ start (codes "rt") ∷ start (codes "rt") ∷ end (codes "ruby") ∷ start (codes "table") ∷ start (codes "rt") ∷ Text (codes "x") ∷ [])
    ∷ (start (codes "p") ∷ start (codes "rtc") ∷ Text (codes "0") ∷ end (codes "p") ∷ start (codes "b") ∷ start (codes "rtc") ∷ Text (codes "1") ∷ end (codes "b") ∷ Text (codes "2") ∷ end (codes "rtc") ∷ Text (codes "3") ∷ start (codes "li") ∷ start (codes "rtc") ∷ start (codes "li") ∷ start (codes "ruby") ∷ start (codes "rtc") ∷ start (codes "rt") ∷ end (codes "ruby") ∷ start (codes "table") ∷ start (codes "rtc") ∷ Text (codes "x") ∷ [])
    ∷ (start (codes "p") ∷ start (codes "ruby") ∷ Text (codes "0") ∷ end (codes "p") ∷ start (codes "b") ∷ start (codes "ruby") ∷ Text (codes "1") ∷ end (codes "b") ∷ Text (codes "2") ∷ end (codes "ruby") ∷ Text (codes "3") ∷ start (codes "li") ∷ start (codes "ruby") ∷ start (codes "li") ∷ start (codes "ruby") ∷ start (codes "ruby") ∷ start (codes "rt") ∷ end (codes "ruby") ∷ start (codes "table") ∷ start (codes "ruby") ∷ Text (codes "x") ∷ [])
    ∷ []

names_6_answers : List Tree
names_6_answers =
    (Element (Element Nothing (codes "p") [] Nothing) (codes "ol") [] (Element (Characters (Element (Element (Element (Characters Nothing (codes "0")) (codes "p") [] Nothing) (codes "b") [] Nothing) (codes "ol") [] (Characters (Element Nothing (codes "b") [] (Characters Nothing (codes "1"))) (codes "2"))) (codes "3")) (codes "li") [] (Element Nothing (codes "ol") [] (Element Nothing (codes "li") [] (Element Nothing (codes "ruby") [] (Element Nothing (codes "ol") [] (Element Nothing (codes "rt") [] (Element (Element Nothing (codes "ol") [] (Characters Nothing (codes "x"))) (codes "table") [] Nothing))))))))
    ∷ (Element (Element (Characters (Element (Element (Element (Element Nothing (codes "p") [] Nothing) (codes "p") [] (Characters Nothing (codes "0"))) (codes "b") [] Nothing) (codes "p") [] (Characters (Element Nothing (codes "b") [] (Characters Nothing (codes "1"))) (codes "2"))) (codes "3")) (codes "li") [] (Element Nothing (codes "p") [] Nothing)) (codes "li") [] (Element (Element (Element Nothing (codes "ruby") [] (Element (Element Nothing (codes "p") [] Nothing) (codes "rt") [] Nothing)) (codes "p") [] (Characters Nothing (codes "x"))) (codes "table") [] Nothing))
    ∷ (Element (Element (Characters (Element (Element Nothing (codes "p") [] (Element Nothing (codes "picture") [] (Characters Nothing (codes "0")))) (codes "b") [] (Element Nothing (codes "picture") [] (Characters Nothing (codes "1")))) (codes "23")) (codes "li") [] (Element Nothing (codes "picture") [] Nothing)) (codes "li") [] (Element (Element (Element Nothing (codes "ruby") [] (Element Nothing (codes "picture") [] (Element Nothing (codes "rt") [] Nothing))) (codes "picture") [] (Characters Nothing (codes "x"))) (codes "table") [] Nothing))
    ∷ (Element (Element Nothing (codes "p") [] Nothing) (codes "pre") [] (Element (Characters (Element (Element (Element (Characters Nothing (codes "0")) (codes "p") [] Nothing) (codes "b") [] Nothing) (codes "pre") [] (Characters (Element Nothing (codes "b") [] (Characters Nothing (codes "1"))) (codes "2"))) (codes "3")) (codes "li") [] (Element Nothing (codes "pre") [] (Element Nothing (codes "li") [] (Element Nothing (codes "ruby") [] (Element Nothing (codes "pre") [] (Element Nothing (codes "rt") [] (Element (Element Nothing (codes "pre") [] (Characters Nothing (codes "x"))) (codes "table") [] Nothing))))))))
    ∷ (Element (Element (Characters (Element (Element Nothing (codes "p") [] (Element Nothing (codes "q") [] (Characters Nothing (codes "0")))) (codes "b") [] (Element Nothing (codes "q") [] (Characters Nothing (codes "1")))) (codes "23")) (codes "li") [] (Element Nothing (codes "q") [] Nothing)) (codes "li") [] (Element (Element (Element Nothing (codes "ruby") [] (Element Nothing (codes "q") [] (Element Nothing (codes "rt") [] Nothing))) (codes "q") [] (Characters Nothing (codes "x"))) (codes "table") [] Nothing))
    ∷ (Element (Element (Characters (Element (Element Nothing (codes "p") [] (Element Nothing (codes "rb") [] (Characters Nothing (codes "0")))) (codes "b") [] (Element Nothing (codes "rb") [] (Characters Nothing (codes "1")))) (codes "23")) (codes "li") [] (Element Nothing (codes "rb") [] Nothing)) (codes "li") [] (Element (Element (Element Nothing (codes "ruby") [] (Element (Element Nothing (codes "rb") [] Nothing) (codes "rt") [] Nothing)) (codes "rb") [] (Characters Nothing (codes "x"))) (codes "table") [] Nothing))
    ∷ (Element (Element (Characters (Element (Element Nothing (codes "p") [] (Element Nothing (codes "rp") [] (Characters Nothing (codes "0")))) (codes "b") [] (Element Nothing (codes "rp") [] (Characters Nothing (codes "1")))) (codes "23")) (codes "li") [] (Element Nothing (codes "rp") [] Nothing)) (codes "li") [] (Element (Element (Element Nothing (codes "ruby") [] (Element (Element Nothing (codes "rp") [] Nothing) (codes "rt") [] Nothing)) (codes "rp") [] (Characters Nothing (codes "x"))) (codes "table") [] Nothing))
    ∷ (Element (Element (Characters (Element (Element Nothing (codes "p") [] (Element Nothing (codes "rt") [] (Characters Nothing (codes "0")))) (codes "b") [] (Element Nothing (codes "rt") [] (Characters Nothing (codes "1")))) (codes "23")) (codes "li") [] (Element Nothing (codes "rt") [] Nothing)) (codes "li") [] (Element (Element (Element Nothing (codes "ruby") [] (Element (Element Nothing (codes "rt") [] Nothing) (codes "rt") [] Nothing)) (codes "rt") [] (Characters Nothing (codes "x"))) (codes "table") [] Nothing))
    ∷ (Element (Element (Characters (Element (Element Nothing (codes "p") [] (Element Nothing (codes "rtc") [] (Characters Nothing (codes "0")))) (codes "b") [] (Element Nothing (codes "rtc") [] (Characters Nothing (codes "1")))) (codes "23")) (codes "li") [] (Element Nothing (codes "rtc") [] Nothing)) (codes "li") [] (Element (Element (Element Nothing (codes "ruby") [] (Element Nothing (codes "rtc") [] (Element Nothing (codes "rt") [] Nothing))) (codes "rtc") [] (Characters Nothing (codes "x"))) (codes "table") [] Nothing))
    ∷ (Element (Element (Characters (Element (Element Nothing (codes "p") [] (Element Nothing (codes "ruby") [] (Characters Nothing (codes "0")))) (codes "b") [] (Element Nothing (codes "ruby") [] (Characters Nothing (codes "1")))) (codes "23")) (codes "li") [] (Element Nothing (codes "ruby") [] Nothing)) (codes "li") [] (Element Nothing (codes "ruby") [] (Element (Element (Element Nothing (codes "ruby") [] (Element Nothing (codes "rt") [] Nothing)) (codes "ruby") [] (Characters Nothing (codes "x"))) (codes "table") [] Nothing)))
    ∷ []

names_6 : map tree_of names_6_items ≡ names_6_answers
unfolding names_6_items names_6_answers is_among kind_in all_names kind_of near in_front whole_texts without_newlines joined changed changed_before found without applied built bare has_node inside outside without_node is_bounded popped_until implied_ended has_entry without_entry last_named is_one_of are_all_of count_alike without_earliest pushed cleared last_table lost kept reopened ended_by furthest_block replaced inner_loop added_after adopted outer_loop innermost mode_of back_to is_hidden leading_space after_space process run
names_6 = refl

names_7_items : List (List Item)
names_7_items =
    (start (codes "p") ∷ start (codes "s") ∷ Text (codes "0") ∷ end (codes "p") ∷ start (codes "b") ∷ start (codes "s") ∷ Text (codes "1") ∷ end (codes "b") ∷ Text (codes "2") ∷ end (codes "s") ∷ Text (codes "3") ∷ start (codes "li") ∷ start (codes "s") ∷ start (codes "li") ∷ start (codes "ruby") ∷ start (codes "s") ∷ start (codes "rt") ∷ end (codes "ruby") ∷ start (codes "table") ∷ start (codes "s") ∷ Text (codes "x") ∷ [])
    ∷ (start (codes "p") ∷ start (codes "samp") ∷ Text (codes "0") ∷ end (codes "p") ∷ start (codes "b") ∷ start (codes "samp") ∷ Text (codes "1") ∷ end (codes "b") ∷ Text (codes "2") ∷ end (codes "samp") ∷ Text (codes "3") ∷ start (codes "li") ∷ start (codes "samp") ∷ start (codes "li") ∷ start (codes "ruby") ∷ start (codes "samp") ∷ start (codes "rt") ∷ end (codes "ruby") ∷ start (codes "table") ∷ start (codes "samp") ∷ Text (codes "x") ∷ [])
    ∷ (start (codes "p") ∷ start (codes "search") ∷ Text (codes "0") ∷ end (codes "p") ∷ start (codes "b") ∷ start (codes "search") ∷ Text (codes "1") ∷ end (codes "b") ∷ Text (codes "2") ∷ end (codes "search") ∷ Text (codes "3") ∷ start (codes "li") ∷ start (codes "search") ∷ start (codes "li") ∷ start (codes "ruby") ∷ start (codes "search") ∷ start (codes "rt") ∷ end (codes "ruby") ∷ start (codes "table") ∷ start (codes "search") ∷ Text (codes "x") ∷ [])
    ∷ (start (codes "p") ∷ start (codes "section") ∷ Text (codes "0") ∷ end (codes "p") ∷ start (codes "b") ∷ start (codes "section") ∷ Text (codes "1") ∷ end (codes "b") ∷ Text (codes "2") ∷ end (codes "section") ∷ Text (codes "3") ∷ start (codes "li") ∷ start (codes "section") ∷ start (codes "li") ∷ start (codes "ruby") ∷ start (codes "section") ∷ start (codes "rt") ∷ end (codes "ruby") ∷ start (codes "table") ∷ start (codes "section") ∷ Text (codes "x") ∷ [])
    ∷ (start (codes "p") ∷ start (codes "small") ∷ Text (codes "0") ∷ end (codes "p") ∷ start (codes "b") ∷ start (codes "small") ∷ Text (codes "1") ∷ end (codes "b") ∷ Text (codes "2") ∷ end (codes "small") ∷ Text (codes "3") ∷ start (codes "li") ∷ start (codes "small") ∷ start (codes "li") ∷ start (codes "ruby") ∷ start (codes "small") ∷ start (codes "rt") ∷ end (codes "ruby") ∷ start (codes "table") ∷ start (codes "small") ∷ Text (codes "x") ∷ [])
    ∷ (start (codes "p") ∷ start (codes "span") ∷ Text (codes "0") ∷ end (codes "p") ∷ start (codes "b") ∷ start (codes "span") ∷ Text (codes "1") ∷ end (codes "b") ∷ Text (codes "2") ∷ end (codes "span") ∷ Text (codes "3") ∷ start (codes "li") ∷ start (codes "span") ∷ start (codes "li") ∷ start (codes "ruby") ∷ start (codes "span") ∷ start (codes "rt") ∷ end (codes "ruby") ∷ start (codes "table") ∷ start (codes "span") ∷ Text (codes "x") ∷ [])
    ∷ (start (codes "p") ∷ start (codes "strike") ∷ Text (codes "0") ∷ end (codes "p") ∷ start (codes "b") ∷ start (codes "strike") ∷ Text (codes "1") ∷ end (codes "b") ∷ Text (codes "2") ∷ end (codes "strike") ∷ Text (codes "3") ∷ start (codes "li") ∷ start (codes "strike") ∷ start (codes "li") ∷ start (codes "ruby") ∷ start (codes "strike") ∷ start (codes "rt") ∷ end (codes "ruby") ∷ start (codes "table") ∷ start (codes "strike") ∷ Text (codes "x") ∷ [])
    ∷ (start (codes "p") ∷ start (codes "strong") ∷ Text (codes "0") ∷ end (codes "p") ∷ start (codes "b") ∷ start (codes "strong") ∷ Text (codes "1") ∷ end (codes "b") ∷ Text (codes "2") ∷ end (codes "strong") ∷ Text (codes "3") ∷ start (codes "li") ∷ start (codes "strong") ∷ start (codes "li") ∷ start (codes "ruby") ∷ start (codes "strong") ∷ start (codes "rt") ∷ end (codes "ruby") ∷ start (codes "table") ∷ start (codes "strong") ∷ Text (codes "x") ∷ [])
    ∷ (start (codes "p") ∷ start (codes "sub") ∷ Text (codes "0") ∷ end (codes "p") ∷ start (codes "b") ∷ start (codes "sub") ∷ Text (codes "1") ∷ end (codes "b") ∷ Text (codes "2") ∷ end (codes "sub") ∷ Text (codes "3") ∷ start (codes "li") ∷ start (codes "sub") ∷ start (codes "li") ∷ start (codes "ruby") ∷ start (codes "sub") ∷ start (codes "rt") ∷ end (codes "ruby") ∷ start (codes "table") ∷ start (codes "sub") ∷ Text (codes "x") ∷ [])
    ∷ (start (codes "p") ∷ start (codes "summary") ∷ Text (codes "0") ∷ end (codes "p") ∷ start (codes "b") ∷ start (codes "summary") ∷ Text (codes "1") ∷ end (codes "b") ∷ Text (codes "2") ∷ end (codes "summary") ∷ Text (codes "3") ∷ start (codes "li") ∷ start (codes "summary") ∷ start (codes "li") ∷ start (codes "ruby") ∷ start (codes "summary") ∷ start (codes "rt") ∷ end (codes "ruby") ∷ start (codes "table") ∷ start (codes "summary") ∷ Text (codes "x") ∷ [])
    ∷ []

names_7_answers : List Tree
names_7_answers =
    (Element (Element Nothing (codes "p") [] (Element Nothing (codes "s") [] (Characters Nothing (codes "0")))) (codes "s") [] (Element (Element (Characters (Element (Element Nothing (codes "b") [] (Element Nothing (codes "s") [] (Characters Nothing (codes "1")))) (codes "s") [] (Characters Nothing (codes "2"))) (codes "3")) (codes "li") [] (Element Nothing (codes "s") [] Nothing)) (codes "li") [] (Element Nothing (codes "s") [] (Element (Element (Element Nothing (codes "ruby") [] (Element Nothing (codes "s") [] (Element Nothing (codes "rt") [] Nothing))) (codes "s") [] (Element Nothing (codes "s") [] (Characters Nothing (codes "x")))) (codes "table") [] Nothing))))
    ∷ (Element (Element (Characters (Element (Element Nothing (codes "p") [] (Element Nothing (codes "samp") [] (Characters Nothing (codes "0")))) (codes "b") [] (Element Nothing (codes "samp") [] (Characters Nothing (codes "1")))) (codes "23")) (codes "li") [] (Element Nothing (codes "samp") [] Nothing)) (codes "li") [] (Element (Element (Element Nothing (codes "ruby") [] (Element Nothing (codes "samp") [] (Element Nothing (codes "rt") [] Nothing))) (codes "samp") [] (Characters Nothing (codes "x"))) (codes "table") [] Nothing))
    ∷ (Element (Element Nothing (codes "p") [] Nothing) (codes "search") [] (Element (Characters (Element (Element (Element (Characters Nothing (codes "0")) (codes "p") [] Nothing) (codes "b") [] Nothing) (codes "search") [] (Characters (Element Nothing (codes "b") [] (Characters Nothing (codes "1"))) (codes "2"))) (codes "3")) (codes "li") [] (Element Nothing (codes "search") [] (Element Nothing (codes "li") [] (Element Nothing (codes "ruby") [] (Element Nothing (codes "search") [] (Element Nothing (codes "rt") [] (Element (Element Nothing (codes "search") [] (Characters Nothing (codes "x"))) (codes "table") [] Nothing))))))))
    ∷ (Element (Element Nothing (codes "p") [] Nothing) (codes "section") [] (Element (Characters (Element (Element (Element (Characters Nothing (codes "0")) (codes "p") [] Nothing) (codes "b") [] Nothing) (codes "section") [] (Characters (Element Nothing (codes "b") [] (Characters Nothing (codes "1"))) (codes "2"))) (codes "3")) (codes "li") [] (Element Nothing (codes "section") [] (Element Nothing (codes "li") [] (Element Nothing (codes "ruby") [] (Element Nothing (codes "section") [] (Element Nothing (codes "rt") [] (Element (Element Nothing (codes "section") [] (Characters Nothing (codes "x"))) (codes "table") [] Nothing))))))))
    ∷ (Element (Element Nothing (codes "p") [] (Element Nothing (codes "small") [] (Characters Nothing (codes "0")))) (codes "small") [] (Element (Element (Characters (Element (Element Nothing (codes "b") [] (Element Nothing (codes "small") [] (Characters Nothing (codes "1")))) (codes "small") [] (Characters Nothing (codes "2"))) (codes "3")) (codes "li") [] (Element Nothing (codes "small") [] Nothing)) (codes "li") [] (Element Nothing (codes "small") [] (Element (Element (Element Nothing (codes "ruby") [] (Element Nothing (codes "small") [] (Element Nothing (codes "rt") [] Nothing))) (codes "small") [] (Element Nothing (codes "small") [] (Characters Nothing (codes "x")))) (codes "table") [] Nothing))))
    ∷ (Element (Element (Characters (Element (Element Nothing (codes "p") [] (Element Nothing (codes "span") [] (Characters Nothing (codes "0")))) (codes "b") [] (Element Nothing (codes "span") [] (Characters Nothing (codes "1")))) (codes "23")) (codes "li") [] (Element Nothing (codes "span") [] Nothing)) (codes "li") [] (Element (Element (Element Nothing (codes "ruby") [] (Element Nothing (codes "span") [] (Element Nothing (codes "rt") [] Nothing))) (codes "span") [] (Characters Nothing (codes "x"))) (codes "table") [] Nothing))
    ∷ (Element (Element Nothing (codes "p") [] (Element Nothing (codes "strike") [] (Characters Nothing (codes "0")))) (codes "strike") [] (Element (Element (Characters (Element (Element Nothing (codes "b") [] (Element Nothing (codes "strike") [] (Characters Nothing (codes "1")))) (codes "strike") [] (Characters Nothing (codes "2"))) (codes "3")) (codes "li") [] (Element Nothing (codes "strike") [] Nothing)) (codes "li") [] (Element Nothing (codes "strike") [] (Element (Element (Element Nothing (codes "ruby") [] (Element Nothing (codes "strike") [] (Element Nothing (codes "rt") [] Nothing))) (codes "strike") [] (Element Nothing (codes "strike") [] (Characters Nothing (codes "x")))) (codes "table") [] Nothing))))
    ∷ (Element (Element Nothing (codes "p") [] (Element Nothing (codes "strong") [] (Characters Nothing (codes "0")))) (codes "strong") [] (Element (Element (Characters (Element (Element Nothing (codes "b") [] (Element Nothing (codes "strong") [] (Characters Nothing (codes "1")))) (codes "strong") [] (Characters Nothing (codes "2"))) (codes "3")) (codes "li") [] (Element Nothing (codes "strong") [] Nothing)) (codes "li") [] (Element Nothing (codes "strong") [] (Element (Element (Element Nothing (codes "ruby") [] (Element Nothing (codes "strong") [] (Element Nothing (codes "rt") [] Nothing))) (codes "strong") [] (Element Nothing (codes "strong") [] (Characters Nothing (codes "x")))) (codes "table") [] Nothing))))
    ∷ (Element (Element (Characters (Element (Element Nothing (codes "p") [] (Element Nothing (codes "sub") [] (Characters Nothing (codes "0")))) (codes "b") [] (Element Nothing (codes "sub") [] (Characters Nothing (codes "1")))) (codes "23")) (codes "li") [] (Element Nothing (codes "sub") [] Nothing)) (codes "li") [] (Element (Element (Element Nothing (codes "ruby") [] (Element Nothing (codes "sub") [] (Element Nothing (codes "rt") [] Nothing))) (codes "sub") [] (Characters Nothing (codes "x"))) (codes "table") [] Nothing))
    ∷ (Element (Element Nothing (codes "p") [] Nothing) (codes "summary") [] (Element (Characters (Element (Element (Element (Characters Nothing (codes "0")) (codes "p") [] Nothing) (codes "b") [] Nothing) (codes "summary") [] (Characters (Element Nothing (codes "b") [] (Characters Nothing (codes "1"))) (codes "2"))) (codes "3")) (codes "li") [] (Element Nothing (codes "summary") [] (Element Nothing (codes "li") [] (Element Nothing (codes "ruby") [] (Element Nothing (codes "summary") [] (Element Nothing (codes "rt") [] (Element (Element Nothing (codes "summary") [] (Characters Nothing (codes "x"))) (codes "table") [] Nothing))))))))
    ∷ []

names_7 : map tree_of names_7_items ≡ names_7_answers
unfolding names_7_items names_7_answers is_among kind_in all_names kind_of near in_front whole_texts without_newlines joined changed changed_before found without applied built bare has_node inside outside without_node is_bounded popped_until implied_ended has_entry without_entry last_named is_one_of are_all_of count_alike without_earliest pushed cleared last_table lost kept reopened ended_by furthest_block replaced inner_loop added_after adopted outer_loop innermost mode_of back_to is_hidden leading_space after_space process run
names_7 = refl

names_8_items : List (List Item)
names_8_items =
    (start (codes "p") ∷ start (codes "sup") ∷ Text (codes "0") ∷ end (codes "p") ∷ start (codes "b") ∷ start (codes "sup") ∷ Text (codes "1") ∷ end (codes "b") ∷ Text (codes "2") ∷ end (codes "sup") ∷ Text (codes "3") ∷ start (codes "li") ∷ start (codes "sup") ∷ start (codes "li") ∷ start (codes "ruby") ∷ start (codes "sup") ∷ start (codes "rt") ∷ end (codes "ruby") ∷ start (codes "table") ∷ start (codes "sup") ∷ Text (codes "x") ∷ [])
    ∷ (start (codes "p") ∷ start (codes "table") ∷ Text (codes "0") ∷ end (codes "p") ∷ start (codes "b") ∷ start (codes "table") ∷ Text (codes "1") ∷ end (codes "b") ∷ Text (codes "2") ∷ end (codes "table") ∷ Text (codes "3") ∷ start (codes "li") ∷ start (codes "table") ∷ start (codes "li") ∷ start (codes "ruby") ∷ start (codes "table") ∷ start (codes "rt") ∷ end (codes "ruby") ∷ start (codes "table") ∷ start (codes "table") ∷ Text (codes "x") ∷ [])
    ∷ (start (codes "p") ∷ start (codes "tbody") ∷ Text (codes "0") ∷ end (codes "p") ∷ start (codes "b") ∷ start (codes "tbody") ∷ Text (codes "1") ∷ end (codes "b") ∷ Text (codes "2") ∷ end (codes "tbody") ∷ Text (codes "3") ∷ start (codes "li") ∷ start (codes "tbody") ∷ start (codes "li") ∷ start (codes "ruby") ∷ start (codes "tbody") ∷ start (codes "rt") ∷ end (codes "ruby") ∷ start (codes "table") ∷ start (codes "tbody") ∷ Text (codes "x") ∷ [])
    ∷ (start (codes "p") ∷ start (codes "td") ∷ Text (codes "0") ∷ end (codes "p") ∷ start (codes "b") ∷ start (codes "td") ∷ Text (codes "1") ∷ end (codes "b") ∷ Text (codes "2") ∷ end (codes "td") ∷ Text (codes "3") ∷ start (codes "li") ∷ start (codes "td") ∷ start (codes "li") ∷ start (codes "ruby") ∷ start (codes "td") ∷ start (codes "rt") ∷ end (codes "ruby") ∷ start (codes "table") ∷ start (codes "td") ∷ Text (codes "x") ∷ [])
    ∷ (start (codes "p") ∷ start (codes "tfoot") ∷ Text (codes "0") ∷ end (codes "p") ∷ start (codes "b") ∷ start (codes "tfoot") ∷ Text (codes "1") ∷ end (codes "b") ∷ Text (codes "2") ∷ end (codes "tfoot") ∷ Text (codes "3") ∷ start (codes "li") ∷ start (codes "tfoot") ∷ start (codes "li") ∷ start (codes "ruby") ∷ start (codes "tfoot") ∷ start (codes "rt") ∷ end (codes "ruby") ∷ start (codes "table") ∷ start (codes "tfoot") ∷ Text (codes "x") ∷ [])
    ∷ (start (codes "p") ∷ start (codes "th") ∷ Text (codes "0") ∷ end (codes "p") ∷ start (codes "b") ∷ start (codes "th") ∷ Text (codes "1") ∷ end (codes "b") ∷ Text (codes "2") ∷ end (codes "th") ∷ Text (codes "3") ∷ start (codes "li") ∷ start (codes "th") ∷ start (codes "li") ∷ start (codes "ruby") ∷ start (codes "th") ∷ start (codes "rt") ∷ end (codes "ruby") ∷ start (codes "table") ∷ start (codes "th") ∷ Text (codes "x") ∷ [])
    ∷ (start (codes "p") ∷ start (codes "thead") ∷ Text (codes "0") ∷ end (codes "p") ∷ start (codes "b") ∷ start (codes "thead") ∷ Text (codes "1") ∷ end (codes "b") ∷ Text (codes "2") ∷ end (codes "thead") ∷ Text (codes "3") ∷ start (codes "li") ∷ start (codes "thead") ∷ start (codes "li") ∷ start (codes "ruby") ∷ start (codes "thead") ∷ start (codes "rt") ∷ end (codes "ruby") ∷ start (codes "table") ∷ start (codes "thead") ∷ Text (codes "x") ∷ [])
    ∷ (start (codes "p") ∷ start (codes "time") ∷ Text (codes "0") ∷ end (codes "p") ∷ start (codes "b") ∷ start (codes "time") ∷ Text (codes "1") ∷ end (codes "b") ∷ Text (codes "2") ∷ end (codes "time") ∷ Text (codes "3") ∷ start (codes "li") ∷ start (codes "time") ∷ start (codes "li") ∷ start (codes "ruby") ∷ start (codes "time") ∷ start (codes "rt") ∷ end (codes "ruby") ∷ start (codes "table") ∷ start (codes "time") ∷ Text (codes "x") ∷ [])
    ∷ (start (codes "p") ∷ start (codes "tr") ∷ Text (codes "0") ∷ end (codes "p") ∷ start (codes "b") ∷ start (codes "tr") ∷ Text (codes "1") ∷ end (codes "b") ∷ Text (codes "2") ∷ end (codes "tr") ∷ Text (codes "3") ∷ start (codes "li") ∷ start (codes "tr") ∷ start (codes "li") ∷ start (codes "ruby") ∷ start (codes "tr") ∷ start (codes "rt") ∷ end (codes "ruby") ∷ start (codes "table") ∷ start (codes "tr") ∷ Text (codes "x") ∷ [])
    ∷ (start (codes "p") ∷ start (codes "tt") ∷ Text (codes "0") ∷ end (codes "p") ∷ start (codes "b") ∷ start (codes "tt") ∷ Text (codes "1") ∷ end (codes "b") ∷ Text (codes "2") ∷ end (codes "tt") ∷ Text (codes "3") ∷ start (codes "li") ∷ start (codes "tt") ∷ start (codes "li") ∷ start (codes "ruby") ∷ start (codes "tt") ∷ start (codes "rt") ∷ end (codes "ruby") ∷ start (codes "table") ∷ start (codes "tt") ∷ Text (codes "x") ∷ [])
    ∷ []

names_8_answers : List Tree
names_8_answers =
    (Element (Element (Characters (Element (Element Nothing (codes "p") [] (Element Nothing (codes "sup") [] (Characters Nothing (codes "0")))) (codes "b") [] (Element Nothing (codes "sup") [] (Characters Nothing (codes "1")))) (codes "23")) (codes "li") [] (Element Nothing (codes "sup") [] Nothing)) (codes "li") [] (Element (Element (Element Nothing (codes "ruby") [] (Element Nothing (codes "sup") [] (Element Nothing (codes "rt") [] Nothing))) (codes "sup") [] (Characters Nothing (codes "x"))) (codes "table") [] Nothing))
    ∷ (Element (Characters (Element (Characters (Element (Element (Element (Element (Characters (Element Nothing (codes "p") [] Nothing) (codes "0")) (codes "p") [] Nothing) (codes "b") [] Nothing) (codes "table") [] Nothing) (codes "b") [] (Characters Nothing (codes "1"))) (codes "2")) (codes "table") [] Nothing) (codes "3")) (codes "li") [] (Element (Characters (Element (Element (Element (Element (Element Nothing (codes "li") [] (Element Nothing (codes "ruby") [] Nothing)) (codes "table") [] Nothing) (codes "rt") [] Nothing) (codes "table") [] Nothing) (codes "table") [] Nothing) (codes "x")) (codes "table") [] Nothing))
    ∷ (Element (Element (Characters (Element (Element Nothing (codes "p") [] (Characters Nothing (codes "0"))) (codes "b") [] (Characters Nothing (codes "1"))) (codes "23")) (codes "li") [] Nothing) (codes "li") [] (Element (Characters (Element Nothing (codes "ruby") [] (Element Nothing (codes "rt") [] Nothing)) (codes "x")) (codes "table") [] (Element Nothing (codes "tbody") [] Nothing)))
    ∷ (Element (Element (Characters (Element (Element Nothing (codes "p") [] (Characters Nothing (codes "0"))) (codes "b") [] (Characters Nothing (codes "1"))) (codes "23")) (codes "li") [] Nothing) (codes "li") [] (Element (Element Nothing (codes "ruby") [] (Element Nothing (codes "rt") [] Nothing)) (codes "table") [] (Element Nothing (codes "tbody") [] (Element Nothing (codes "tr") [] (Element Nothing (codes "td") [] (Characters Nothing (codes "x")))))))
    ∷ (Element (Element (Characters (Element (Element Nothing (codes "p") [] (Characters Nothing (codes "0"))) (codes "b") [] (Characters Nothing (codes "1"))) (codes "23")) (codes "li") [] Nothing) (codes "li") [] (Element (Characters (Element Nothing (codes "ruby") [] (Element Nothing (codes "rt") [] Nothing)) (codes "x")) (codes "table") [] (Element Nothing (codes "tfoot") [] Nothing)))
    ∷ (Element (Element (Characters (Element (Element Nothing (codes "p") [] (Characters Nothing (codes "0"))) (codes "b") [] (Characters Nothing (codes "1"))) (codes "23")) (codes "li") [] Nothing) (codes "li") [] (Element (Element Nothing (codes "ruby") [] (Element Nothing (codes "rt") [] Nothing)) (codes "table") [] (Element Nothing (codes "tbody") [] (Element Nothing (codes "tr") [] (Element Nothing (codes "th") [] (Characters Nothing (codes "x")))))))
    ∷ (Element (Element (Characters (Element (Element Nothing (codes "p") [] (Characters Nothing (codes "0"))) (codes "b") [] (Characters Nothing (codes "1"))) (codes "23")) (codes "li") [] Nothing) (codes "li") [] (Element (Characters (Element Nothing (codes "ruby") [] (Element Nothing (codes "rt") [] Nothing)) (codes "x")) (codes "table") [] (Element Nothing (codes "thead") [] Nothing)))
    ∷ (Element (Element (Characters (Element (Element Nothing (codes "p") [] (Element Nothing (codes "time") [] (Characters Nothing (codes "0")))) (codes "b") [] (Element Nothing (codes "time") [] (Characters Nothing (codes "1")))) (codes "23")) (codes "li") [] (Element Nothing (codes "time") [] Nothing)) (codes "li") [] (Element (Element (Element Nothing (codes "ruby") [] (Element Nothing (codes "time") [] (Element Nothing (codes "rt") [] Nothing))) (codes "time") [] (Characters Nothing (codes "x"))) (codes "table") [] Nothing))
    ∷ (Element (Element (Characters (Element (Element Nothing (codes "p") [] (Characters Nothing (codes "0"))) (codes "b") [] (Characters Nothing (codes "1"))) (codes "23")) (codes "li") [] Nothing) (codes "li") [] (Element (Characters (Element Nothing (codes "ruby") [] (Element Nothing (codes "rt") [] Nothing)) (codes "x")) (codes "table") [] (Element Nothing (codes "tbody") [] (Element Nothing (codes "tr") [] Nothing))))
    ∷ (Element (Element Nothing (codes "p") [] (Element Nothing (codes "tt") [] (Characters Nothing (codes "0")))) (codes "tt") [] (Element (Element (Characters (Element (Element Nothing (codes "b") [] (Element Nothing (codes "tt") [] (Characters Nothing (codes "1")))) (codes "tt") [] (Characters Nothing (codes "2"))) (codes "3")) (codes "li") [] (Element Nothing (codes "tt") [] Nothing)) (codes "li") [] (Element Nothing (codes "tt") [] (Element (Element (Element Nothing (codes "ruby") [] (Element Nothing (codes "tt") [] (Element Nothing (codes "rt") [] Nothing))) (codes "tt") [] (Element Nothing (codes "tt") [] (Characters Nothing (codes "x")))) (codes "table") [] Nothing))))
    ∷ []

names_8 : map tree_of names_8_items ≡ names_8_answers
unfolding names_8_items names_8_answers is_among kind_in all_names kind_of near in_front whole_texts without_newlines joined changed changed_before found without applied built bare has_node inside outside without_node is_bounded popped_until implied_ended has_entry without_entry last_named is_one_of are_all_of count_alike without_earliest pushed cleared last_table lost kept reopened ended_by furthest_block replaced inner_loop added_after adopted outer_loop innermost mode_of back_to is_hidden leading_space after_space process run
names_8 = refl

names_9_items : List (List Item)
names_9_items =
    (start (codes "p") ∷ start (codes "u") ∷ Text (codes "0") ∷ end (codes "p") ∷ start (codes "b") ∷ start (codes "u") ∷ Text (codes "1") ∷ end (codes "b") ∷ Text (codes "2") ∷ end (codes "u") ∷ Text (codes "3") ∷ start (codes "li") ∷ start (codes "u") ∷ start (codes "li") ∷ start (codes "ruby") ∷ start (codes "u") ∷ start (codes "rt") ∷ end (codes "ruby") ∷ start (codes "table") ∷ start (codes "u") ∷ Text (codes "x") ∷ [])
    ∷ (start (codes "p") ∷ start (codes "ul") ∷ Text (codes "0") ∷ end (codes "p") ∷ start (codes "b") ∷ start (codes "ul") ∷ Text (codes "1") ∷ end (codes "b") ∷ Text (codes "2") ∷ end (codes "ul") ∷ Text (codes "3") ∷ start (codes "li") ∷ start (codes "ul") ∷ start (codes "li") ∷ start (codes "ruby") ∷ start (codes "ul") ∷ start (codes "rt") ∷ end (codes "ruby") ∷ start (codes "table") ∷ start (codes "ul") ∷ Text (codes "x") ∷ [])
    ∷ (start (codes "p") ∷ start (codes "var") ∷ Text (codes "0") ∷ end (codes "p") ∷ start (codes "b") ∷ start (codes "var") ∷ Text (codes "1") ∷ end (codes "b") ∷ Text (codes "2") ∷ end (codes "var") ∷ Text (codes "3") ∷ start (codes "li") ∷ start (codes "var") ∷ start (codes "li") ∷ start (codes "ruby") ∷ start (codes "var") ∷ start (codes "rt") ∷ end (codes "ruby") ∷ start (codes "table") ∷ start (codes "var") ∷ Text (codes "x") ∷ [])
    ∷ (start (codes "p") ∷ start (codes "wbr") ∷ Text (codes "0") ∷ end (codes "p") ∷ start (codes "b") ∷ start (codes "wbr") ∷ Text (codes "1") ∷ end (codes "b") ∷ Text (codes "2") ∷ end (codes "wbr") ∷ Text (codes "3") ∷ start (codes "li") ∷ start (codes "wbr") ∷ start (codes "li") ∷ start (codes "ruby") ∷ start (codes "wbr") ∷ start (codes "rt") ∷ end (codes "ruby") ∷ start (codes "table") ∷ start (codes "wbr") ∷ Text (codes "x") ∷ [])
    ∷ []

names_9_answers : List Tree
names_9_answers =
    (Element (Element Nothing (codes "p") [] (Element Nothing (codes "u") [] (Characters Nothing (codes "0")))) (codes "u") [] (Element (Element (Characters (Element (Element Nothing (codes "b") [] (Element Nothing (codes "u") [] (Characters Nothing (codes "1")))) (codes "u") [] (Characters Nothing (codes "2"))) (codes "3")) (codes "li") [] (Element Nothing (codes "u") [] Nothing)) (codes "li") [] (Element Nothing (codes "u") [] (Element (Element (Element Nothing (codes "ruby") [] (Element Nothing (codes "u") [] (Element Nothing (codes "rt") [] Nothing))) (codes "u") [] (Element Nothing (codes "u") [] (Characters Nothing (codes "x")))) (codes "table") [] Nothing))))
    ∷ (Element (Element Nothing (codes "p") [] Nothing) (codes "ul") [] (Element (Characters (Element (Element (Element (Characters Nothing (codes "0")) (codes "p") [] Nothing) (codes "b") [] Nothing) (codes "ul") [] (Characters (Element Nothing (codes "b") [] (Characters Nothing (codes "1"))) (codes "2"))) (codes "3")) (codes "li") [] (Element Nothing (codes "ul") [] (Element Nothing (codes "li") [] (Element Nothing (codes "ruby") [] (Element Nothing (codes "ul") [] (Element Nothing (codes "rt") [] (Element (Element Nothing (codes "ul") [] (Characters Nothing (codes "x"))) (codes "table") [] Nothing))))))))
    ∷ (Element (Element (Characters (Element (Element Nothing (codes "p") [] (Element Nothing (codes "var") [] (Characters Nothing (codes "0")))) (codes "b") [] (Element Nothing (codes "var") [] (Characters Nothing (codes "1")))) (codes "23")) (codes "li") [] (Element Nothing (codes "var") [] Nothing)) (codes "li") [] (Element (Element (Element Nothing (codes "ruby") [] (Element Nothing (codes "var") [] (Element Nothing (codes "rt") [] Nothing))) (codes "var") [] (Characters Nothing (codes "x"))) (codes "table") [] Nothing))
    ∷ (Element (Element (Characters (Element (Element Nothing (codes "p") [] (Characters (Element Nothing (codes "wbr") [] Nothing) (codes "0"))) (codes "b") [] (Characters (Element Nothing (codes "wbr") [] Nothing) (codes "1"))) (codes "23")) (codes "li") [] (Element Nothing (codes "wbr") [] Nothing)) (codes "li") [] (Element (Characters (Element (Element Nothing (codes "ruby") [] (Element (Element Nothing (codes "wbr") [] Nothing) (codes "rt") [] Nothing)) (codes "wbr") [] Nothing) (codes "x")) (codes "table") [] Nothing))
    ∷ []

names_9 : map tree_of names_9_items ≡ names_9_answers
unfolding names_9_items names_9_answers is_among kind_in all_names kind_of near in_front whole_texts without_newlines joined changed changed_before found without applied built bare has_node inside outside without_node is_bounded popped_until implied_ended has_entry without_entry last_named is_one_of are_all_of count_alike without_earliest pushed cleared last_table lost kept reopened ended_by furthest_block replaced inner_loop added_after adopted outer_loop innermost mode_of back_to is_hidden leading_space after_space process run
names_9 = refl

-- ---- which random items all fit

fitting_0_items : List (List Item)
fitting_0_items =
    (start (codes "th") ∷ start (codes "q") ∷ end (codes "th") ∷ [])
    ∷ (Text (codes "x y") ∷ start (codes "p") ∷ Text (codes "\n") ∷ Text (codes " x") ∷ end (codes "p") ∷ [])
    ∷ (start (codes "li") ∷ Text (codes "y") ∷ start (codes "strike") ∷ end (codes "strike") ∷ Text (codes "\n\n") ∷ StartTag (codes "pre") (attribute (codes "class") (codes "2") ∷ attribute (codes "id") (codes "1") ∷ []) ∷ start (codes "tt") ∷ StartTag (codes "h3") (attribute (codes "class") (codes "2") ∷ attribute (codes "id") (codes "1") ∷ []) ∷ StartTag (codes "strike") (attribute (codes "id") (codes "1") ∷ attribute (codes "class") (codes "2") ∷ []) ∷ end (codes "strike") ∷ Text [] ∷ start (codes "nobr") ∷ StartTag (codes "tt") (attribute (codes "class") (codes "2") ∷ attribute (codes "id") (codes "1") ∷ []) ∷ Text (codes "x ") ∷ Text (codes " x") ∷ start (codes "strike") ∷ start (codes "tt") ∷ end (codes "tt") ∷ end (codes "strike") ∷ end (codes "tt") ∷ end (codes "nobr") ∷ end (codes "h3") ∷ end (codes "tt") ∷ end (codes "pre") ∷ end (codes "li") ∷ [])
    ∷ (start (codes "ul") ∷ start (codes "h3") ∷ Text (codes "x y") ∷ end (codes "h3") ∷ end (codes "ul") ∷ start (codes "h3") ∷ Text [] ∷ end (codes "h3") ∷ StartTag (codes "ul") (attribute (codes "class") (codes "2") ∷ attribute (codes "id") (codes "1") ∷ []) ∷ Text (codes "x y") ∷ Text [] ∷ end (codes "ul") ∷ StartTag (codes "h3") (attribute (codes "class") (codes "2") ∷ attribute (codes "id") (codes "1") ∷ []) ∷ StartTag (codes "ul") (attribute (codes "id") (codes "1") ∷ attribute (codes "class") (codes "2") ∷ []) ∷ end (codes "ul") ∷ Text (codes "y") ∷ end (codes "h3") ∷ [])
    ∷ (StartTag (codes "tt") (attribute (codes "class") (codes "2") ∷ attribute (codes "id") (codes "1") ∷ []) ∷ start (codes "ul") ∷ end (codes "sub") ∷ end (codes "ul") ∷ StartTag (codes "ul") (attribute (codes "class") (codes "2") ∷ attribute (codes "id") (codes "1") ∷ []) ∷ StartTag (codes "ol") (attribute (codes "class") (codes "1") ∷ []) ∷ StartTag (codes "tt") (attribute (codes "class") (codes "1") ∷ []) ∷ start (codes "ul") ∷ end (codes "ul") ∷ Text (codes "\nx") ∷ Text (codes "x y") ∷ start (codes "ul") ∷ end (codes "tt") ∷ [])
    ∷ (StartTag (codes "center") (attribute (codes "id") (codes "1") ∷ attribute (codes "class") (codes "2") ∷ []) ∷ start (codes "ol") ∷ start (codes "s") ∷ end (codes "s") ∷ end (codes "ol") ∷ end (codes "center") ∷ [])
    ∷ (start (codes "rtc") ∷ Text (codes "x y") ∷ end (codes "rtc") ∷ start (codes "rtc") ∷ Text (codes "\n") ∷ start (codes "nav") ∷ StartTag (codes "rtc") (attribute (codes "class") (codes "1") ∷ []) ∷ end (codes "rtc") ∷ end (codes "nav") ∷ end (codes "rtc") ∷ [])
    ∷ (StartTag (codes "nobr") (attribute (codes "id") (codes "1") ∷ attribute (codes "class") (codes "2") ∷ []) ∷ Text (codes "\nx") ∷ end (codes "nobr") ∷ start (codes "small") ∷ end (codes "small") ∷ Text (codes "\nx") ∷ StartTag (codes "nobr") (attribute (codes "id") (codes "1") ∷ attribute (codes "class") (codes "2") ∷ []) ∷ Text (codes "\n\n") ∷ end (codes "nobr") ∷ [])
    ∷ (Text (codes "x y") ∷ Text (codes "\n\n") ∷ end (codes "tr") ∷ Text (codes " ") ∷ end (codes "pre") ∷ [])
    ∷ (StartTag (codes "b") (attribute (codes "id") (codes "1") ∷ attribute (codes "class") (codes "2") ∷ []) ∷ start (codes "b") ∷ start (codes "listing") ∷ end (codes "listing") ∷ StartTag (codes "listing") (attribute (codes "id") (codes "1") ∷ attribute (codes "class") (codes "2") ∷ []) ∷ start (codes "samp") ∷ end (codes "samp") ∷ StartTag (codes "b") (attribute (codes "class") (codes "1") ∷ []) ∷ StartTag (codes "listing") (attribute (codes "class") (codes "2") ∷ attribute (codes "id") (codes "1") ∷ []) ∷ end (codes "listing") ∷ end (codes "b") ∷ end (codes "listing") ∷ end (codes "b") ∷ end (codes "b") ∷ [])
    ∷ []

fitting_0_answers : List Bool
fitting_0_answers =
    false
    ∷ true
    ∷ true
    ∷ true
    ∷ false
    ∷ true
    ∷ true
    ∷ true
    ∷ false
    ∷ true
    ∷ []

fitting_0 : map (all_fit []) fitting_0_items ≡ fitting_0_answers
unfolding fitting_0_items fitting_0_answers is_among kind_in all_names kind_of near fits open_after each_fits all_open_after
fitting_0 = refl

fitting_1_items : List (List Item)
fitting_1_items =
    (start (codes "area") ∷ start (codes "h1") ∷ Text (codes "\n") ∷ Text (codes " x") ∷ Text [] ∷ end (codes "h1") ∷ Text (codes "\n\n") ∷ StartTag (codes "h1") (attribute (codes "id") (codes "1") ∷ attribute (codes "class") (codes "2") ∷ []) ∷ end (codes "h1") ∷ [])
    ∷ (start (codes "ol") ∷ start (codes "dd") ∷ end (codes "dd") ∷ end (codes "ol") ∷ start (codes "ol") ∷ Text [] ∷ end (codes "ol") ∷ start (codes "tr") ∷ start (codes "th") ∷ StartTag (codes "summary") (attribute (codes "id") (codes "1") ∷ attribute (codes "class") (codes "2") ∷ []) ∷ start (codes "summary") ∷ StartTag (codes "li") (attribute (codes "class") (codes "1") ∷ []) ∷ Text (codes "y") ∷ StartTag (codes "ol") (attribute (codes "id") (codes "1") ∷ attribute (codes "class") (codes "2") ∷ []) ∷ end (codes "ol") ∷ end (codes "li") ∷ end (codes "summary") ∷ end (codes "summary") ∷ end (codes "th") ∷ end (codes "tr") ∷ [])
    ∷ (start (codes "dt") ∷ Text (codes " x") ∷ start (codes "button") ∷ Text (codes "\n\n") ∷ Text (codes "y") ∷ Text (codes "y") ∷ StartTag (codes "button") (attribute (codes "class") (codes "1") ∷ []) ∷ end (codes "button") ∷ end (codes "button") ∷ Text (codes " x") ∷ Text [] ∷ end (codes "dt") ∷ Text (codes "x y") ∷ Text (codes " ") ∷ StartTag (codes "a") (attribute (codes "class") (codes "2") ∷ attribute (codes "id") (codes "1") ∷ []) ∷ start (codes "tr") ∷ start (codes "dt") ∷ [])
    ∷ (Text (codes "y") ∷ StartTag (codes "q") (attribute (codes "class") (codes "2") ∷ attribute (codes "id") (codes "1") ∷ []) ∷ end (codes "q") ∷ start (codes "q") ∷ end (codes "q") ∷ StartTag (codes "strong") (attribute (codes "id") (codes "1") ∷ attribute (codes "class") (codes "2") ∷ []) ∷ StartTag (codes "nobr") (attribute (codes "class") (codes "1") ∷ []) ∷ end (codes "strong") ∷ start (codes "table") ∷ StartTag (codes "tfoot") (attribute (codes "class") (codes "1") ∷ []) ∷ StartTag (codes "tr") (attribute (codes "id") (codes "1") ∷ attribute (codes "class") (codes "2") ∷ []) ∷ end (codes "tr") ∷ end (codes "tfoot") ∷ end (codes "table") ∷ end (codes "nobr") ∷ [])
    ∷ (Text (codes " ") ∷ StartTag (codes "table") (attribute (codes "class") (codes "1") ∷ []) ∷ end (codes "table") ∷ [])
    ∷ (Text (codes " x") ∷ Text [] ∷ Text (codes "x y") ∷ [])
    ∷ (StartTag (codes "td") (attribute (codes "class") (codes "2") ∷ attribute (codes "id") (codes "1") ∷ []) ∷ Text (codes " ") ∷ Text (codes "\n") ∷ [])
    ∷ (StartTag (codes "data") (attribute (codes "class") (codes "2") ∷ attribute (codes "id") (codes "1") ∷ []) ∷ StartTag (codes "data") (attribute (codes "class") (codes "1") ∷ []) ∷ end (codes "data") ∷ Text (codes " x") ∷ end (codes "data") ∷ Text (codes "y") ∷ Text (codes "x ") ∷ start (codes "data") ∷ end (codes "data") ∷ Text (codes "x ") ∷ [])
    ∷ (Text (codes "\n") ∷ Text (codes "y") ∷ start (codes "ol") ∷ end (codes "ol") ∷ StartTag (codes "picture") (attribute (codes "class") (codes "1") ∷ []) ∷ end (codes "picture") ∷ [])
    ∷ (StartTag (codes "dt") (attribute (codes "class") (codes "1") ∷ []) ∷ Text (codes "x ") ∷ start (codes "figcaption") ∷ end (codes "figcaption") ∷ end (codes "dt") ∷ start (codes "figcaption") ∷ Text (codes "y") ∷ start (codes "dt") ∷ Text (codes "x") ∷ end (codes "dt") ∷ end (codes "figcaption") ∷ start (codes "dt") ∷ end (codes "dt") ∷ [])
    ∷ []

fitting_1_answers : List Bool
fitting_1_answers =
    true
    ∷ false
    ∷ false
    ∷ false
    ∷ true
    ∷ true
    ∷ false
    ∷ true
    ∷ true
    ∷ true
    ∷ []

fitting_1 : map (all_fit []) fitting_1_items ≡ fitting_1_answers
unfolding fitting_1_items fitting_1_answers is_among kind_in all_names kind_of near fits open_after each_fits all_open_after
fitting_1 = refl

fitting_2_items : List (List Item)
fitting_2_items =
    (end (codes "dl") ∷ Text (codes "y") ∷ Text (codes "x") ∷ end (codes "pre") ∷ [])
    ∷ (Text (codes "\n\n") ∷ start (codes "nobr") ∷ end (codes "nobr") ∷ [])
    ∷ (start (codes "sub") ∷ end (codes "sub") ∷ StartTag (codes "table") (attribute (codes "id") (codes "1") ∷ attribute (codes "class") (codes "2") ∷ []) ∷ end (codes "table") ∷ start (codes "table") ∷ start (codes "colgroup") ∷ end (codes "colgroup") ∷ end (codes "table") ∷ [])
    ∷ (StartTag (codes "dt") (attribute (codes "id") (codes "1") ∷ attribute (codes "class") (codes "2") ∷ []) ∷ end (codes "dt") ∷ StartTag (codes "big") (attribute (codes "class") (codes "1") ∷ []) ∷ Text (codes " ") ∷ start (codes "a") ∷ end (codes "a") ∷ end (codes "big") ∷ start (codes "table") ∷ end (codes "table") ∷ [])
    ∷ (StartTag (codes "strong") (attribute (codes "class") (codes "2") ∷ attribute (codes "id") (codes "1") ∷ []) ∷ start (codes "kbd") ∷ start (codes "s") ∷ Text (codes "x") ∷ start (codes "kbd") ∷ end (codes "kbd") ∷ start (codes "kbd") ∷ start (codes "div") ∷ end (codes "div") ∷ end (codes "kbd") ∷ Text (codes " x") ∷ [])
    ∷ (StartTag (codes "b") (attribute (codes "class") (codes "1") ∷ []) ∷ end (codes "b") ∷ Text (codes "y") ∷ start (codes "dt") ∷ StartTag (codes "b") (attribute (codes "class") (codes "2") ∷ attribute (codes "id") (codes "1") ∷ []) ∷ Text (codes "\n\n") ∷ StartTag (codes "table") (attribute (codes "class") (codes "2") ∷ attribute (codes "id") (codes "1") ∷ []) ∷ end (codes "table") ∷ end (codes "b") ∷ end (codes "dt") ∷ [])
    ∷ (StartTag (codes "dd") (attribute (codes "id") (codes "1") ∷ attribute (codes "class") (codes "2") ∷ []) ∷ Text (codes "\nx") ∷ StartTag (codes "div") (attribute (codes "id") (codes "1") ∷ attribute (codes "class") (codes "2") ∷ []) ∷ end (codes "div") ∷ Text [] ∷ end (codes "dd") ∷ Text (codes "\n") ∷ StartTag (codes "dd") (attribute (codes "class") (codes "2") ∷ attribute (codes "id") (codes "1") ∷ []) ∷ end (codes "dd") ∷ [])
    ∷ (Text (codes "\nx") ∷ Text (codes "y") ∷ start (codes "ul") ∷ Text (codes "\nx") ∷ start (codes "table") ∷ end (codes "table") ∷ Text (codes "x") ∷ end (codes "ul") ∷ Text (codes "\n\n") ∷ [])
    ∷ (end (codes "b") ∷ StartTag (codes "table") (attribute (codes "class") (codes "1") ∷ []) ∷ end (codes "table") ∷ start (codes "b") ∷ Text (codes "\n\n") ∷ end (codes "b") ∷ end (codes "tbody") ∷ StartTag (codes "tbody") (attribute (codes "id") (codes "1") ∷ attribute (codes "class") (codes "2") ∷ []) ∷ end (codes "b") ∷ end (codes "tbody") ∷ [])
    ∷ (start (codes "h1") ∷ end (codes "h1") ∷ StartTag (codes "ins") (attribute (codes "id") (codes "1") ∷ attribute (codes "class") (codes "2") ∷ []) ∷ StartTag (codes "ul") (attribute (codes "class") (codes "2") ∷ attribute (codes "id") (codes "1") ∷ []) ∷ start (codes "table") ∷ end (codes "table") ∷ end (codes "ul") ∷ end (codes "ins") ∷ [])
    ∷ []

fitting_2_answers : List Bool
fitting_2_answers =
    false
    ∷ true
    ∷ true
    ∷ true
    ∷ false
    ∷ true
    ∷ true
    ∷ true
    ∷ false
    ∷ true
    ∷ []

fitting_2 : map (all_fit []) fitting_2_items ≡ fitting_2_answers
unfolding fitting_2_items fitting_2_answers is_among kind_in all_names kind_of near fits open_after each_fits all_open_after
fitting_2 = refl

fitting_3_items : List (List Item)
fitting_3_items =
    (StartTag (codes "table") (attribute (codes "class") (codes "2") ∷ attribute (codes "id") (codes "1") ∷ []) ∷ start (codes "tfoot") ∷ end (codes "tfoot") ∷ end (codes "table") ∷ [])
    ∷ (StartTag (codes "dl") (attribute (codes "class") (codes "2") ∷ attribute (codes "id") (codes "1") ∷ []) ∷ StartTag (codes "a") (attribute (codes "class") (codes "2") ∷ attribute (codes "id") (codes "1") ∷ []) ∷ Text (codes "x") ∷ StartTag (codes "nobr") (attribute (codes "class") (codes "1") ∷ []) ∷ start (codes "a") ∷ StartTag (codes "dl") (attribute (codes "class") (codes "2") ∷ attribute (codes "id") (codes "1") ∷ []) ∷ start (codes "bdi") ∷ end (codes "bdi") ∷ end (codes "dl") ∷ end (codes "a") ∷ end (codes "nobr") ∷ end (codes "a") ∷ end (codes "dl") ∷ [])
    ∷ (StartTag (codes "i") (attribute (codes "class") (codes "1") ∷ []) ∷ start (codes "h1") ∷ start (codes "i") ∷ [])
    ∷ (Text (codes "\n") ∷ Text (codes "\nx") ∷ StartTag (codes "table") (attribute (codes "class") (codes "2") ∷ attribute (codes "id") (codes "1") ∷ []) ∷ StartTag (codes "tfoot") (attribute (codes "class") (codes "1") ∷ []) ∷ Text (codes " ") ∷ Text [] ∷ end (codes "tfoot") ∷ end (codes "table") ∷ [])
    ∷ (start (codes "code") ∷ Text (codes "\nx") ∷ end (codes "code") ∷ Text (codes "x y") ∷ start (codes "code") ∷ end (codes "code") ∷ start (codes "b") ∷ start (codes "code") ∷ Text (codes "\n\n") ∷ Text (codes " x") ∷ end (codes "code") ∷ end (codes "b") ∷ [])
    ∷ (start (codes "ruby") ∷ end (codes "ruby") ∷ start (codes "table") ∷ end (codes "table") ∷ Text (codes "\nx") ∷ StartTag (codes "table") (attribute (codes "class") (codes "1") ∷ []) ∷ StartTag (codes "caption") (attribute (codes "class") (codes "1") ∷ []) ∷ Text [] ∷ Text (codes "x") ∷ Text (codes "\n") ∷ end (codes "caption") ∷ end (codes "table") ∷ [])
    ∷ (StartTag (codes "dd") (attribute (codes "class") (codes "2") ∷ attribute (codes "id") (codes "1") ∷ []) ∷ StartTag (codes "i") (attribute (codes "class") (codes "1") ∷ []) ∷ end (codes "dd") ∷ StartTag (codes "dd") (attribute (codes "id") (codes "1") ∷ attribute (codes "class") (codes "2") ∷ []) ∷ StartTag (codes "i") (attribute (codes "id") (codes "1") ∷ attribute (codes "class") (codes "2") ∷ []) ∷ Text (codes "x") ∷ end (codes "i") ∷ Text (codes "\nx") ∷ StartTag (codes "dd") (attribute (codes "class") (codes "1") ∷ []) ∷ Text (codes "x ") ∷ StartTag (codes "i") (attribute (codes "id") (codes "1") ∷ attribute (codes "class") (codes "2") ∷ []) ∷ end (codes "dd") ∷ start (codes "dd") ∷ end (codes "dd") ∷ start (codes "i") ∷ start (codes "dd") ∷ start (codes "i") ∷ [])
    ∷ (start (codes "figcaption") ∷ start (codes "nobr") ∷ StartTag (codes "em") (attribute (codes "class") (codes "2") ∷ attribute (codes "id") (codes "1") ∷ []) ∷ Text (codes "y") ∷ start (codes "figcaption") ∷ start (codes "div") ∷ start (codes "em") ∷ StartTag (codes "em") (attribute (codes "class") (codes "2") ∷ attribute (codes "id") (codes "1") ∷ []) ∷ Text (codes "\n\n") ∷ Text (codes "\n\n") ∷ start (codes "ol") ∷ StartTag (codes "em") (attribute (codes "class") (codes "2") ∷ attribute (codes "id") (codes "1") ∷ []) ∷ end (codes "em") ∷ end (codes "ol") ∷ end (codes "em") ∷ end (codes "em") ∷ end (codes "div") ∷ end (codes "figcaption") ∷ end (codes "em") ∷ end (codes "nobr") ∷ end (codes "figcaption") ∷ [])
    ∷ (Text (codes "\n") ∷ StartTag (codes "br") (attribute (codes "class") (codes "1") ∷ []) ∷ [])
    ∷ (StartTag (codes "b") (attribute (codes "class") (codes "1") ∷ []) ∷ StartTag (codes "b") (attribute (codes "class") (codes "2") ∷ attribute (codes "id") (codes "1") ∷ []) ∷ Text (codes "\n") ∷ start (codes "b") ∷ start (codes "ruby") ∷ StartTag (codes "ruby") (attribute (codes "class") (codes "1") ∷ []) ∷ start (codes "table") ∷ Text (codes " ") ∷ start (codes "thead") ∷ StartTag (codes "tr") (attribute (codes "class") (codes "2") ∷ attribute (codes "id") (codes "1") ∷ []) ∷ start (codes "td") ∷ start (codes "ruby") ∷ StartTag (codes "ruby") (attribute (codes "class") (codes "1") ∷ []) ∷ Text (codes "x ") ∷ StartTag (codes "ruby") (attribute (codes "class") (codes "1") ∷ []) ∷ end (codes "ruby") ∷ end (codes "ruby") ∷ end (codes "ruby") ∷ end (codes "td") ∷ end (codes "tr") ∷ end (codes "thead") ∷ end (codes "table") ∷ end (codes "ruby") ∷ end (codes "ruby") ∷ end (codes "b") ∷ end (codes "b") ∷ end (codes "b") ∷ [])
    ∷ []

fitting_3_answers : List Bool
fitting_3_answers =
    true
    ∷ false
    ∷ false
    ∷ true
    ∷ true
    ∷ true
    ∷ false
    ∷ true
    ∷ true
    ∷ true
    ∷ []

fitting_3 : map (all_fit []) fitting_3_items ≡ fitting_3_answers
unfolding fitting_3_items fitting_3_answers is_among kind_in all_names kind_of near fits open_after each_fits all_open_after
fitting_3 = refl

fitting_4_items : List (List Item)
fitting_4_items =
    (end (codes "table") ∷ StartTag (codes "td") (attribute (codes "id") (codes "1") ∷ attribute (codes "class") (codes "2") ∷ []) ∷ Text [] ∷ StartTag (codes "p") (attribute (codes "id") (codes "1") ∷ attribute (codes "class") (codes "2") ∷ []) ∷ start (codes "table") ∷ end (codes "p") ∷ start (codes "tfoot") ∷ start (codes "tr") ∷ StartTag (codes "th") (attribute (codes "class") (codes "1") ∷ []) ∷ StartTag (codes "table") (attribute (codes "class") (codes "1") ∷ []) ∷ [])
    ∷ (Text (codes "\n\n") ∷ Text (codes " x") ∷ Text (codes "\n") ∷ [])
    ∷ (Text (codes "y") ∷ Text (codes " ") ∷ start (codes "rp") ∷ StartTag (codes "dl") (attribute (codes "class") (codes "2") ∷ attribute (codes "id") (codes "1") ∷ []) ∷ end (codes "dl") ∷ end (codes "rp") ∷ [])
    ∷ (StartTag (codes "table") (attribute (codes "class") (codes "1") ∷ []) ∷ end (codes "table") ∷ start (codes "table") ∷ StartTag (codes "caption") (attribute (codes "class") (codes "2") ∷ attribute (codes "id") (codes "1") ∷ []) ∷ end (codes "caption") ∷ end (codes "table") ∷ [])
    ∷ (end (codes "p") ∷ StartTag (codes "p") (attribute (codes "class") (codes "2") ∷ attribute (codes "id") (codes "1") ∷ []) ∷ end (codes "p") ∷ StartTag (codes "hr") (attribute (codes "id") (codes "1") ∷ attribute (codes "class") (codes "2") ∷ []) ∷ end (codes "p") ∷ Text (codes "\n") ∷ start (codes "hr") ∷ end (codes "p") ∷ end (codes "p") ∷ end (codes "p") ∷ end (codes "hr") ∷ [])
    ∷ (Text [] ∷ StartTag (codes "table") (attribute (codes "id") (codes "1") ∷ attribute (codes "class") (codes "2") ∷ []) ∷ end (codes "table") ∷ Text (codes "x ") ∷ StartTag (codes "img") (attribute (codes "class") (codes "2") ∷ attribute (codes "id") (codes "1") ∷ []) ∷ Text (codes " ") ∷ Text (codes "\n") ∷ [])
    ∷ (Text (codes "x y") ∷ Text (codes "x y") ∷ Text (codes " x") ∷ [])
    ∷ (start (codes "dl") ∷ end (codes "dl") ∷ start (codes "dt") ∷ end (codes "dt") ∷ StartTag (codes "h4") (attribute (codes "class") (codes "1") ∷ []) ∷ Text (codes "y") ∷ end (codes "h4") ∷ [])
    ∷ (start (codes "table") ∷ end (codes "table") ∷ end (codes "table") ∷ Text (codes "y") ∷ StartTag (codes "strike") (attribute (codes "class") (codes "1") ∷ []) ∷ end (codes "strike") ∷ Text (codes "x ") ∷ [])
    ∷ (Text (codes "y") ∷ start (codes "table") ∷ Text (codes "\n") ∷ end (codes "table") ∷ StartTag (codes "s") (attribute (codes "class") (codes "2") ∷ attribute (codes "id") (codes "1") ∷ []) ∷ Text (codes " x") ∷ StartTag (codes "li") (attribute (codes "class") (codes "1") ∷ []) ∷ start (codes "table") ∷ start (codes "tfoot") ∷ Text [] ∷ start (codes "tr") ∷ end (codes "tr") ∷ end (codes "tfoot") ∷ end (codes "table") ∷ end (codes "li") ∷ end (codes "s") ∷ [])
    ∷ []

fitting_4_answers : List Bool
fitting_4_answers =
    false
    ∷ true
    ∷ true
    ∷ true
    ∷ false
    ∷ true
    ∷ true
    ∷ true
    ∷ false
    ∷ true
    ∷ []

fitting_4 : map (all_fit []) fitting_4_items ≡ fitting_4_answers
unfolding fitting_4_items fitting_4_answers is_among kind_in all_names kind_of near fits open_after each_fits all_open_after
fitting_4 = refl

fitting_5_items : List (List Item)
fitting_5_items =
    (StartTag (codes "button") (attribute (codes "class") (codes "1") ∷ []) ∷ Text [] ∷ end (codes "button") ∷ [])
    ∷ (Text (codes "\nx") ∷ end (codes "sup") ∷ Text (codes "x y") ∷ [])
    ∷ (start (codes "img") ∷ Text (codes "\nx") ∷ end (codes "h1") ∷ [])
    ∷ (end (codes "p") ∷ StartTag (codes "em") (attribute (codes "class") (codes "1") ∷ []) ∷ StartTag (codes "em") (attribute (codes "class") (codes "2") ∷ attribute (codes "id") (codes "1") ∷ []) ∷ StartTag (codes "em") (attribute (codes "class") (codes "1") ∷ []) ∷ Text (codes "y") ∷ end (codes "em") ∷ Text (codes "\n\n") ∷ StartTag (codes "ins") (attribute (codes "class") (codes "2") ∷ attribute (codes "id") (codes "1") ∷ []) ∷ Text [] ∷ start (codes "ins") ∷ start (codes "p") ∷ start (codes "ins") ∷ end (codes "ins") ∷ StartTag (codes "ins") (attribute (codes "id") (codes "1") ∷ attribute (codes "class") (codes "2") ∷ []) ∷ end (codes "ins") ∷ end (codes "p") ∷ end (codes "ins") ∷ end (codes "ins") ∷ end (codes "em") ∷ end (codes "em") ∷ [])
    ∷ (start (codes "table") ∷ StartTag (codes "colgroup") (attribute (codes "id") (codes "1") ∷ attribute (codes "class") (codes "2") ∷ []) ∷ StartTag (codes "col") (attribute (codes "class") (codes "2") ∷ attribute (codes "id") (codes "1") ∷ []) ∷ start (codes "col") ∷ Text (codes "\n\n") ∷ start (codes "col") ∷ StartTag (codes "col") (attribute (codes "class") (codes "2") ∷ attribute (codes "id") (codes "1") ∷ []) ∷ StartTag (codes "col") (attribute (codes "class") (codes "1") ∷ []) ∷ end (codes "colgroup") ∷ start (codes "tfoot") ∷ start (codes "tr") ∷ end (codes "tr") ∷ end (codes "tfoot") ∷ end (codes "table") ∷ [])
    ∷ (StartTag (codes "nobr") (attribute (codes "class") (codes "1") ∷ []) ∷ StartTag (codes "p") (attribute (codes "class") (codes "1") ∷ []) ∷ end (codes "p") ∷ end (codes "nobr") ∷ [])
    ∷ (Text (codes "\n\n") ∷ end (codes "li") ∷ StartTag (codes "li") (attribute (codes "class") (codes "1") ∷ []) ∷ start (codes "li") ∷ start (codes "li") ∷ end (codes "li") ∷ Text (codes " x") ∷ Text (codes "x y") ∷ Text (codes "\nx") ∷ StartTag (codes "li") (attribute (codes "class") (codes "1") ∷ []) ∷ [])
    ∷ (StartTag (codes "p") (attribute (codes "id") (codes "1") ∷ attribute (codes "class") (codes "2") ∷ []) ∷ Text (codes "y") ∷ end (codes "p") ∷ [])
    ∷ (Text (codes " x") ∷ Text (codes " x") ∷ start (codes "h1") ∷ end (codes "h1") ∷ start (codes "area") ∷ [])
    ∷ (StartTag (codes "a") (attribute (codes "class") (codes "1") ∷ []) ∷ Text (codes "\n") ∷ end (codes "a") ∷ start (codes "img") ∷ Text (codes " x") ∷ StartTag (codes "img") (attribute (codes "id") (codes "1") ∷ attribute (codes "class") (codes "2") ∷ []) ∷ StartTag (codes "img") (attribute (codes "class") (codes "1") ∷ []) ∷ StartTag (codes "rt") (attribute (codes "class") (codes "1") ∷ []) ∷ end (codes "rt") ∷ Text (codes "\n\n") ∷ Text (codes "\n\n") ∷ Text (codes "\nx") ∷ [])
    ∷ []

fitting_5_answers : List Bool
fitting_5_answers =
    true
    ∷ false
    ∷ false
    ∷ false
    ∷ true
    ∷ true
    ∷ false
    ∷ true
    ∷ true
    ∷ true
    ∷ []

fitting_5 : map (all_fit []) fitting_5_items ≡ fitting_5_answers
unfolding fitting_5_items fitting_5_answers is_among kind_in all_names kind_of near fits open_after each_fits all_open_after
fitting_5 = refl

fitting_6_items : List (List Item)
fitting_6_items =
    (Text (codes "y") ∷ StartTag (codes "a") (attribute (codes "class") (codes "1") ∷ []) ∷ start (codes "tr") ∷ Text (codes "\n") ∷ end (codes "tr") ∷ end (codes "a") ∷ [])
    ∷ (start (codes "cite") ∷ end (codes "cite") ∷ Text (codes " ") ∷ start (codes "cite") ∷ end (codes "cite") ∷ [])
    ∷ (Text [] ∷ Text [] ∷ StartTag (codes "br") (attribute (codes "class") (codes "1") ∷ []) ∷ Text (codes " ") ∷ start (codes "dir") ∷ Text (codes "\nx") ∷ end (codes "dir") ∷ start (codes "br") ∷ [])
    ∷ (start (codes "button") ∷ start (codes "h4") ∷ Text (codes "\n") ∷ Text (codes "x y") ∷ Text (codes "\nx") ∷ Text (codes "y") ∷ Text [] ∷ Text (codes "x") ∷ end (codes "h4") ∷ Text (codes "\n") ∷ end (codes "button") ∷ [])
    ∷ (StartTag (codes "pre") (attribute (codes "class") (codes "1") ∷ []) ∷ Text (codes "\nx") ∷ StartTag (codes "hr") (attribute (codes "class") (codes "1") ∷ []) ∷ start (codes "hr") ∷ StartTag (codes "hr") (attribute (codes "id") (codes "1") ∷ attribute (codes "class") (codes "2") ∷ []) ∷ Text (codes "y") ∷ [])
    ∷ (StartTag (codes "img") (attribute (codes "class") (codes "1") ∷ []) ∷ Text (codes "\nx") ∷ StartTag (codes "listing") (attribute (codes "class") (codes "1") ∷ []) ∷ Text (codes "x y") ∷ end (codes "listing") ∷ [])
    ∷ (StartTag (codes "input") (attribute (codes "type") (codes "text") ∷ []) ∷ StartTag (codes "input") (attribute (codes "type") (codes "HiDDen") ∷ []) ∷ Text (codes "x y") ∷ StartTag (codes "dt") (attribute (codes "id") (codes "1") ∷ attribute (codes "class") (codes "2") ∷ []) ∷ end (codes "dt") ∷ [])
    ∷ (Text (codes "x") ∷ Text (codes " x") ∷ start (codes "fieldset") ∷ start (codes "table") ∷ end (codes "table") ∷ Text (codes " x") ∷ StartTag (codes "fieldset") (attribute (codes "id") (codes "1") ∷ attribute (codes "class") (codes "2") ∷ []) ∷ Text (codes "y") ∷ end (codes "fieldset") ∷ end (codes "fieldset") ∷ [])
    ∷ (StartTag (codes "p") (attribute (codes "class") (codes "1") ∷ []) ∷ end (codes "p") ∷ StartTag (codes "embed") (attribute (codes "class") (codes "1") ∷ []) ∷ [])
    ∷ (start (codes "data") ∷ StartTag (codes "table") (attribute (codes "id") (codes "1") ∷ attribute (codes "class") (codes "2") ∷ []) ∷ start (codes "thead") ∷ start (codes "tr") ∷ end (codes "tr") ∷ start (codes "tr") ∷ start (codes "td") ∷ Text (codes "\n") ∷ Text (codes "y") ∷ Text (codes "\n") ∷ end (codes "td") ∷ end (codes "tr") ∷ end (codes "thead") ∷ end (codes "table") ∷ end (codes "data") ∷ [])
    ∷ []

fitting_6_answers : List Bool
fitting_6_answers =
    false
    ∷ true
    ∷ true
    ∷ true
    ∷ false
    ∷ true
    ∷ true
    ∷ true
    ∷ true
    ∷ true
    ∷ []

fitting_6 : map (all_fit []) fitting_6_items ≡ fitting_6_answers
unfolding fitting_6_items fitting_6_answers is_among kind_in all_names kind_of near fits open_after each_fits all_open_after
fitting_6 = refl

fitting_7_items : List (List Item)
fitting_7_items =
    (Text (codes "\nx") ∷ StartTag (codes "ol") (attribute (codes "class") (codes "1") ∷ []) ∷ end (codes "ol") ∷ [])
    ∷ (start (codes "map") ∷ StartTag (codes "map") (attribute (codes "class") (codes "2") ∷ attribute (codes "id") (codes "1") ∷ []) ∷ Text (codes " ") ∷ StartTag (codes "h2") (attribute (codes "id") (codes "1") ∷ attribute (codes "class") (codes "2") ∷ []) ∷ StartTag (codes "ul") (attribute (codes "class") (codes "2") ∷ attribute (codes "id") (codes "1") ∷ []) ∷ Text (codes "x ") ∷ Text [] ∷ start (codes "ul") ∷ end (codes "ul") ∷ Text [] ∷ end (codes "ul") ∷ end (codes "h2") ∷ end (codes "map") ∷ end (codes "map") ∷ [])
    ∷ (start (codes "th") ∷ StartTag (codes "th") (attribute (codes "class") (codes "2") ∷ attribute (codes "id") (codes "1") ∷ []) ∷ start (codes "form") ∷ StartTag (codes "td") (attribute (codes "class") (codes "2") ∷ attribute (codes "id") (codes "1") ∷ []) ∷ Text [] ∷ Text (codes " x") ∷ end (codes "td") ∷ start (codes "td") ∷ end (codes "form") ∷ Text (codes " x") ∷ [])
    ∷ (start (codes "table") ∷ end (codes "table") ∷ Text [] ∷ [])
    ∷ (Text (codes "y") ∷ start (codes "hgroup") ∷ Text (codes " x") ∷ end (codes "hgroup") ∷ Text (codes "\nx") ∷ [])
    ∷ (StartTag (codes "nobr") (attribute (codes "class") (codes "2") ∷ attribute (codes "id") (codes "1") ∷ []) ∷ Text (codes "x") ∷ Text (codes "y") ∷ Text (codes "x") ∷ end (codes "nobr") ∷ Text (codes " x") ∷ Text (codes " x") ∷ Text (codes "\n") ∷ start (codes "p") ∷ start (codes "big") ∷ end (codes "big") ∷ start (codes "ruby") ∷ start (codes "big") ∷ StartTag (codes "nobr") (attribute (codes "class") (codes "2") ∷ attribute (codes "id") (codes "1") ∷ []) ∷ Text (codes "x ") ∷ end (codes "nobr") ∷ end (codes "big") ∷ end (codes "ruby") ∷ end (codes "p") ∷ [])
    ∷ (end (codes "dl") ∷ start (codes "dl") ∷ end (codes "dl") ∷ Text (codes " ") ∷ start (codes "img") ∷ Text (codes "\n\n") ∷ Text (codes "x") ∷ Text [] ∷ end (codes "form") ∷ start (codes "form") ∷ start (codes "dl") ∷ StartTag (codes "img") (attribute (codes "class") (codes "1") ∷ []) ∷ StartTag (codes "dl") (attribute (codes "class") (codes "2") ∷ attribute (codes "id") (codes "1") ∷ []) ∷ end (codes "dl") ∷ Text (codes "x ") ∷ [])
    ∷ (Text (codes "\nx") ∷ start (codes "dir") ∷ StartTag (codes "dir") (attribute (codes "id") (codes "1") ∷ attribute (codes "class") (codes "2") ∷ []) ∷ Text (codes "\n") ∷ end (codes "dir") ∷ Text (codes "y") ∷ end (codes "dir") ∷ [])
    ∷ (start (codes "mark") ∷ Text (codes "x ") ∷ end (codes "mark") ∷ StartTag (codes "q") (attribute (codes "class") (codes "2") ∷ attribute (codes "id") (codes "1") ∷ []) ∷ start (codes "article") ∷ Text (codes " x") ∷ Text (codes "\n") ∷ Text (codes "x y") ∷ end (codes "article") ∷ end (codes "q") ∷ start (codes "article") ∷ start (codes "q") ∷ StartTag (codes "mark") (attribute (codes "class") (codes "1") ∷ []) ∷ end (codes "mark") ∷ end (codes "q") ∷ end (codes "article") ∷ [])
    ∷ (StartTag (codes "table") (attribute (codes "class") (codes "1") ∷ []) ∷ end (codes "table") ∷ Text (codes "\n\n") ∷ start (codes "dl") ∷ end (codes "dl") ∷ start (codes "table") ∷ end (codes "table") ∷ Text [] ∷ StartTag (codes "table") (attribute (codes "class") (codes "2") ∷ attribute (codes "id") (codes "1") ∷ []) ∷ start (codes "colgroup") ∷ end (codes "colgroup") ∷ end (codes "table") ∷ [])
    ∷ []

fitting_7_answers : List Bool
fitting_7_answers =
    true
    ∷ true
    ∷ false
    ∷ true
    ∷ true
    ∷ true
    ∷ false
    ∷ true
    ∷ true
    ∷ true
    ∷ []

fitting_7 : map (all_fit []) fitting_7_items ≡ fitting_7_answers
unfolding fitting_7_items fitting_7_answers is_among kind_in all_names kind_of near fits open_after each_fits all_open_after
fitting_7 = refl

fitting_8_items : List (List Item)
fitting_8_items =
    (end (codes "button") ∷ StartTag (codes "tr") (attribute (codes "class") (codes "2") ∷ attribute (codes "id") (codes "1") ∷ []) ∷ StartTag (codes "th") (attribute (codes "class") (codes "2") ∷ attribute (codes "id") (codes "1") ∷ []) ∷ Text (codes "x") ∷ StartTag (codes "ol") (attribute (codes "id") (codes "1") ∷ attribute (codes "class") (codes "2") ∷ []) ∷ start (codes "table") ∷ start (codes "i") ∷ StartTag (codes "tr") (attribute (codes "class") (codes "2") ∷ attribute (codes "id") (codes "1") ∷ []) ∷ [])
    ∷ (Text (codes "y") ∷ Text (codes "y") ∷ Text (codes "\n\n") ∷ Text (codes " x") ∷ StartTag (codes "input") (attribute (codes "type") (codes "text") ∷ []) ∷ [])
    ∷ (start (codes "rp") ∷ start (codes "rp") ∷ start (codes "strike") ∷ end (codes "strike") ∷ end (codes "rp") ∷ end (codes "rp") ∷ [])
    ∷ (Text (codes "\n\n") ∷ Text (codes " ") ∷ StartTag (codes "table") (attribute (codes "id") (codes "1") ∷ attribute (codes "class") (codes "2") ∷ []) ∷ Text [] ∷ end (codes "table") ∷ [])
    ∷ (end (codes "a") ∷ start (codes "table") ∷ Text (codes "x ") ∷ start (codes "pre") ∷ StartTag (codes "ol") (attribute (codes "id") (codes "1") ∷ attribute (codes "class") (codes "2") ∷ []) ∷ Text (codes "\n\n") ∷ end (codes "ol") ∷ start (codes "td") ∷ Text (codes "\n\n") ∷ start (codes "a") ∷ end (codes "a") ∷ end (codes "input") ∷ StartTag (codes "tr") (attribute (codes "id") (codes "1") ∷ attribute (codes "class") (codes "2") ∷ []) ∷ Text [] ∷ [])
    ∷ (Text (codes "x") ∷ Text [] ∷ start (codes "dt") ∷ Text [] ∷ end (codes "dt") ∷ [])
    ∷ (Text (codes "\n") ∷ start (codes "form") ∷ end (codes "form") ∷ [])
    ∷ (start (codes "table") ∷ Text (codes "\n\n") ∷ Text (codes "\n\n") ∷ end (codes "table") ∷ StartTag (codes "big") (attribute (codes "class") (codes "2") ∷ attribute (codes "id") (codes "1") ∷ []) ∷ end (codes "details") ∷ end (codes "big") ∷ [])
    ∷ (start (codes "nav") ∷ StartTag (codes "table") (attribute (codes "id") (codes "1") ∷ attribute (codes "class") (codes "2") ∷ []) ∷ start (codes "caption") ∷ end (codes "caption") ∷ Text (codes "\nx") ∷ end (codes "tr") ∷ start (codes "dialog") ∷ StartTag (codes "nav") (attribute (codes "class") (codes "1") ∷ []) ∷ end (codes "nav") ∷ [])
    ∷ (Text (codes "\nx") ∷ Text (codes "y") ∷ Text (codes "\n\n") ∷ StartTag (codes "li") (attribute (codes "class") (codes "2") ∷ attribute (codes "id") (codes "1") ∷ []) ∷ Text [] ∷ end (codes "li") ∷ start (codes "listing") ∷ end (codes "listing") ∷ [])
    ∷ []

fitting_8_answers : List Bool
fitting_8_answers =
    false
    ∷ true
    ∷ true
    ∷ true
    ∷ false
    ∷ true
    ∷ true
    ∷ false
    ∷ false
    ∷ true
    ∷ []

fitting_8 : map (all_fit []) fitting_8_items ≡ fitting_8_answers
unfolding fitting_8_items fitting_8_answers is_among kind_in all_names kind_of near fits open_after each_fits all_open_after
fitting_8 = refl

fitting_9_items : List (List Item)
fitting_9_items =
    (Text (codes " ") ∷ start (codes "bdo") ∷ Text (codes " x") ∷ Text (codes "\n") ∷ Text (codes "\nx") ∷ StartTag (codes "bdo") (attribute (codes "class") (codes "2") ∷ attribute (codes "id") (codes "1") ∷ []) ∷ StartTag (codes "bdo") (attribute (codes "class") (codes "2") ∷ attribute (codes "id") (codes "1") ∷ []) ∷ end (codes "bdo") ∷ end (codes "bdo") ∷ end (codes "bdo") ∷ [])
    ∷ (StartTag (codes "ol") (attribute (codes "class") (codes "1") ∷ []) ∷ end (codes "ol") ∷ start (codes "rp") ∷ end (codes "rp") ∷ StartTag (codes "ol") (attribute (codes "class") (codes "1") ∷ []) ∷ Text (codes "x y") ∷ StartTag (codes "small") (attribute (codes "class") (codes "2") ∷ attribute (codes "id") (codes "1") ∷ []) ∷ end (codes "small") ∷ end (codes "ol") ∷ [])
    ∷ (StartTag (codes "input") (attribute (codes "type") (codes "hidden") ∷ []) ∷ end (codes "aside") ∷ start (codes "main") ∷ end (codes "li") ∷ end (codes "main") ∷ end (codes "picture") ∷ [])
    ∷ (Text (codes "x y") ∷ [])
    ∷ (Text (codes "x ") ∷ Text (codes " ") ∷ start (codes "table") ∷ StartTag (codes "colgroup") (attribute (codes "class") (codes "1") ∷ []) ∷ end (codes "colgroup") ∷ end (codes "table") ∷ [])
    ∷ (StartTag (codes "i") (attribute (codes "id") (codes "1") ∷ attribute (codes "class") (codes "2") ∷ []) ∷ start (codes "i") ∷ start (codes "p") ∷ start (codes "i") ∷ end (codes "i") ∷ end (codes "p") ∷ end (codes "i") ∷ end (codes "i") ∷ [])
    ∷ (end (codes "fieldset") ∷ Text (codes " x") ∷ Text (codes " x") ∷ end (codes "pre") ∷ StartTag (codes "listing") (attribute (codes "id") (codes "1") ∷ attribute (codes "class") (codes "2") ∷ []) ∷ end (codes "listing") ∷ StartTag (codes "dt") (attribute (codes "class") (codes "1") ∷ []) ∷ StartTag (codes "listing") (attribute (codes "id") (codes "1") ∷ attribute (codes "class") (codes "2") ∷ []) ∷ Text (codes " x") ∷ StartTag (codes "dd") (attribute (codes "id") (codes "1") ∷ attribute (codes "class") (codes "2") ∷ []) ∷ StartTag (codes "fieldset") (attribute (codes "class") (codes "2") ∷ attribute (codes "id") (codes "1") ∷ []) ∷ end (codes "listing") ∷ end (codes "fieldset") ∷ [])
    ∷ (Text (codes " ") ∷ Text (codes " ") ∷ Text (codes "x ") ∷ start (codes "a") ∷ StartTag (codes "img") (attribute (codes "class") (codes "1") ∷ []) ∷ start (codes "s") ∷ start (codes "img") ∷ start (codes "img") ∷ end (codes "s") ∷ end (codes "a") ∷ [])
    ∷ (Text (codes "y") ∷ Text (codes "x y") ∷ start (codes "table") ∷ end (codes "table") ∷ Text (codes "x ") ∷ start (codes "nobr") ∷ StartTag (codes "i") (attribute (codes "class") (codes "2") ∷ attribute (codes "id") (codes "1") ∷ []) ∷ Text (codes " ") ∷ end (codes "i") ∷ end (codes "nobr") ∷ [])
    ∷ (start (codes "rt") ∷ start (codes "b") ∷ start (codes "b") ∷ StartTag (codes "input") (attribute (codes "id") (codes "1") ∷ attribute (codes "class") (codes "2") ∷ []) ∷ end (codes "b") ∷ Text (codes " x") ∷ StartTag (codes "input") (attribute (codes "type") (codes "hidden") ∷ []) ∷ end (codes "b") ∷ Text (codes "x ") ∷ start (codes "ruby") ∷ start (codes "b") ∷ end (codes "b") ∷ end (codes "ruby") ∷ end (codes "rt") ∷ [])
    ∷ []

fitting_9_answers : List Bool
fitting_9_answers =
    true
    ∷ true
    ∷ false
    ∷ true
    ∷ true
    ∷ true
    ∷ false
    ∷ true
    ∷ true
    ∷ true
    ∷ []

fitting_9 : map (all_fit []) fitting_9_items ≡ fitting_9_answers
unfolding fitting_9_items fitting_9_answers is_among kind_in all_names kind_of near fits open_after each_fits all_open_after
fitting_9 = refl

fitting_10_items : List (List Item)
fitting_10_items =
    (Text (codes "x ") ∷ StartTag (codes "p") (attribute (codes "class") (codes "1") ∷ []) ∷ end (codes "button") ∷ end (codes "button") ∷ StartTag (codes "tr") (attribute (codes "id") (codes "1") ∷ attribute (codes "class") (codes "2") ∷ []) ∷ [])
    ∷ (Text (codes " ") ∷ Text (codes "x y") ∷ start (codes "figure") ∷ start (codes "button") ∷ end (codes "button") ∷ end (codes "figure") ∷ [])
    ∷ (Text (codes " ") ∷ Text (codes "x") ∷ Text (codes " ") ∷ start (codes "pre") ∷ start (codes "pre") ∷ end (codes "pre") ∷ end (codes "pre") ∷ start (codes "pre") ∷ Text [] ∷ Text (codes " ") ∷ Text (codes "x ") ∷ end (codes "pre") ∷ Text (codes "x ") ∷ StartTag (codes "samp") (attribute (codes "id") (codes "1") ∷ attribute (codes "class") (codes "2") ∷ []) ∷ end (codes "samp") ∷ [])
    ∷ (start (codes "rb") ∷ start (codes "mark") ∷ Text (codes "x") ∷ start (codes "rb") ∷ start (codes "mark") ∷ start (codes "ol") ∷ end (codes "ol") ∷ start (codes "rb") ∷ end (codes "rb") ∷ start (codes "bdi") ∷ Text (codes " ") ∷ Text (codes "x") ∷ end (codes "bdi") ∷ end (codes "mark") ∷ end (codes "rb") ∷ end (codes "mark") ∷ end (codes "rb") ∷ [])
    ∷ (start (codes "listing") ∷ end (codes "dir") ∷ start (codes "td") ∷ start (codes "sup") ∷ StartTag (codes "td") (attribute (codes "class") (codes "2") ∷ attribute (codes "id") (codes "1") ∷ []) ∷ end (codes "td") ∷ StartTag (codes "listing") (attribute (codes "class") (codes "1") ∷ []) ∷ StartTag (codes "listing") (attribute (codes "class") (codes "2") ∷ attribute (codes "id") (codes "1") ∷ []) ∷ end (codes "dir") ∷ end (codes "listing") ∷ end (codes "listing") ∷ start (codes "dir") ∷ start (codes "sup") ∷ [])
    ∷ (Text (codes "x") ∷ start (codes "section") ∷ StartTag (codes "table") (attribute (codes "class") (codes "1") ∷ []) ∷ StartTag (codes "tfoot") (attribute (codes "id") (codes "1") ∷ attribute (codes "class") (codes "2") ∷ []) ∷ start (codes "tr") ∷ start (codes "td") ∷ end (codes "td") ∷ end (codes "tr") ∷ end (codes "tfoot") ∷ end (codes "table") ∷ end (codes "section") ∷ [])
    ∷ (Text [] ∷ StartTag (codes "dl") (attribute (codes "class") (codes "1") ∷ []) ∷ Text (codes " ") ∷ start (codes "dl") ∷ end (codes "dl") ∷ end (codes "dl") ∷ [])
    ∷ (start (codes "p") ∷ start (codes "tt") ∷ end (codes "tt") ∷ end (codes "p") ∷ [])
    ∷ (end (codes "tr") ∷ Text (codes "y") ∷ StartTag (codes "table") (attribute (codes "class") (codes "2") ∷ attribute (codes "id") (codes "1") ∷ []) ∷ end (codes "table") ∷ start (codes "form") ∷ start (codes "h2") ∷ start (codes "form") ∷ start (codes "form") ∷ Text (codes "\n\n") ∷ start (codes "table") ∷ start (codes "tbody") ∷ start (codes "tr") ∷ start (codes "table") ∷ end (codes "table") ∷ start (codes "h2") ∷ [])
    ∷ (start (codes "font") ∷ start (codes "font") ∷ start (codes "font") ∷ StartTag (codes "font") (attribute (codes "id") (codes "1") ∷ attribute (codes "class") (codes "2") ∷ []) ∷ end (codes "font") ∷ end (codes "font") ∷ start (codes "pre") ∷ end (codes "pre") ∷ end (codes "font") ∷ end (codes "font") ∷ [])
    ∷ []

fitting_10_answers : List Bool
fitting_10_answers =
    false
    ∷ true
    ∷ true
    ∷ true
    ∷ false
    ∷ true
    ∷ true
    ∷ true
    ∷ false
    ∷ true
    ∷ []

fitting_10 : map (all_fit []) fitting_10_items ≡ fitting_10_answers
unfolding fitting_10_items fitting_10_answers is_among kind_in all_names kind_of near fits open_after each_fits all_open_after
fitting_10 = refl

fitting_11_items : List (List Item)
fitting_11_items =
    (start (codes "ruby") ∷ end (codes "ruby") ∷ start (codes "pre") ∷ end (codes "pre") ∷ start (codes "area") ∷ start (codes "q") ∷ StartTag (codes "pre") (attribute (codes "class") (codes "2") ∷ attribute (codes "id") (codes "1") ∷ []) ∷ Text (codes "x y") ∷ start (codes "rt") ∷ Text (codes "\nx") ∷ Text (codes "\n\n") ∷ end (codes "rt") ∷ end (codes "pre") ∷ end (codes "q") ∷ [])
    ∷ []
    ∷ (StartTag (codes "input") (attribute (codes "type") (codes "text") ∷ []) ∷ start (codes "b") ∷ start (codes "input") ∷ start (codes "b") ∷ end (codes "b") ∷ start (codes "ul") ∷ StartTag (codes "ul") (attribute (codes "class") (codes "1") ∷ []) ∷ Text (codes "x y") ∷ start (codes "b") ∷ end (codes "b") ∷ Text (codes " x") ∷ StartTag (codes "input") (attribute (codes "id") (codes "1") ∷ attribute (codes "class") (codes "2") ∷ []) ∷ StartTag (codes "input") (attribute (codes "class") (codes "2") ∷ attribute (codes "id") (codes "1") ∷ []) ∷ end (codes "ul") ∷ start (codes "ul") ∷ StartTag (codes "input") (attribute (codes "id") (codes "1") ∷ attribute (codes "class") (codes "2") ∷ []) ∷ [])
    ∷ (Text (codes "\n\n") ∷ StartTag (codes "cite") (attribute (codes "id") (codes "1") ∷ attribute (codes "class") (codes "2") ∷ []) ∷ end (codes "cite") ∷ Text (codes " x") ∷ start (codes "ul") ∷ end (codes "ul") ∷ [])
    ∷ (start (codes "menu") ∷ Text (codes "\nx") ∷ StartTag (codes "ul") (attribute (codes "id") (codes "1") ∷ attribute (codes "class") (codes "2") ∷ []) ∷ end (codes "ul") ∷ Text (codes "y") ∷ StartTag (codes "input") (attribute (codes "class") (codes "1") ∷ []) ∷ end (codes "menu") ∷ [])
    ∷ (Text (codes "x y") ∷ Text [] ∷ Text (codes "\n") ∷ Text (codes "\nx") ∷ Text (codes "x y") ∷ Text (codes "\n") ∷ Text [] ∷ StartTag (codes "dt") (attribute (codes "class") (codes "1") ∷ []) ∷ end (codes "dt") ∷ [])
    ∷ (start (codes "article") ∷ end (codes "article") ∷ end (codes "table") ∷ start (codes "q") ∷ Text (codes "\n") ∷ start (codes "pre") ∷ start (codes "pre") ∷ start (codes "p") ∷ StartTag (codes "table") (attribute (codes "class") (codes "2") ∷ attribute (codes "id") (codes "1") ∷ []) ∷ Text (codes "y") ∷ start (codes "tfoot") ∷ end (codes "tfoot") ∷ Text (codes " ") ∷ start (codes "pre") ∷ start (codes "q") ∷ Text [] ∷ [])
    ∷ (StartTag (codes "area") (attribute (codes "class") (codes "1") ∷ []) ∷ start (codes "tt") ∷ start (codes "area") ∷ start (codes "tt") ∷ start (codes "tt") ∷ end (codes "tt") ∷ StartTag (codes "area") (attribute (codes "id") (codes "1") ∷ attribute (codes "class") (codes "2") ∷ []) ∷ StartTag (codes "tt") (attribute (codes "id") (codes "1") ∷ attribute (codes "class") (codes "2") ∷ []) ∷ StartTag (codes "area") (attribute (codes "id") (codes "1") ∷ attribute (codes "class") (codes "2") ∷ []) ∷ end (codes "tt") ∷ end (codes "tt") ∷ Text (codes "\n") ∷ Text (codes "\nx") ∷ end (codes "tt") ∷ [])
    ∷ (start (codes "ruby") ∷ end (codes "ruby") ∷ Text (codes "y") ∷ start (codes "dl") ∷ start (codes "table") ∷ end (codes "table") ∷ start (codes "dl") ∷ StartTag (codes "dl") (attribute (codes "class") (codes "1") ∷ []) ∷ StartTag (codes "form") (attribute (codes "id") (codes "1") ∷ attribute (codes "class") (codes "2") ∷ []) ∷ end (codes "form") ∷ end (codes "dl") ∷ end (codes "dl") ∷ end (codes "dl") ∷ [])
    ∷ (StartTag (codes "data") (attribute (codes "class") (codes "1") ∷ []) ∷ start (codes "table") ∷ start (codes "colgroup") ∷ StartTag (codes "col") (attribute (codes "class") (codes "2") ∷ attribute (codes "id") (codes "1") ∷ []) ∷ StartTag (codes "col") (attribute (codes "class") (codes "2") ∷ attribute (codes "id") (codes "1") ∷ []) ∷ Text [] ∷ end (codes "colgroup") ∷ start (codes "tbody") ∷ end (codes "tbody") ∷ end (codes "table") ∷ end (codes "data") ∷ [])
    ∷ []

fitting_11_answers : List Bool
fitting_11_answers =
    true
    ∷ true
    ∷ false
    ∷ true
    ∷ true
    ∷ true
    ∷ false
    ∷ true
    ∷ true
    ∷ true
    ∷ []

fitting_11 : map (all_fit []) fitting_11_items ≡ fitting_11_answers
unfolding fitting_11_items fitting_11_answers is_among kind_in all_names kind_of near fits open_after each_fits all_open_after
fitting_11 = refl

-- ---- random items made fit

normal_0_items : List (List Item)
normal_0_items =
    (start (codes "li") ∷ end (codes "li") ∷ start (codes "rb") ∷ end (codes "rb") ∷ end (codes "h5") ∷ end (codes "kbd") ∷ start (codes "caption") ∷ StartTag (codes "caption") (attribute (codes "id") (codes "1") ∷ attribute (codes "class") (codes "2") ∷ []) ∷ start (codes "h5") ∷ start (codes "kbd") ∷ end (codes "li") ∷ Text (codes "x y") ∷ end (codes "h5") ∷ end (codes "caption") ∷ [])
    ∷ (start (codes "bdo") ∷ end (codes "bdo") ∷ start (codes "map") ∷ Text [] ∷ start (codes "map") ∷ end (codes "map") ∷ start (codes "area") ∷ Text (codes "x ") ∷ end (codes "map") ∷ [])
    ∷ (Text (codes "\n\n") ∷ start (codes "form") ∷ start (codes "rtc") ∷ end (codes "table") ∷ Text (codes " ") ∷ [])
    ∷ (StartTag (codes "i") (attribute (codes "id") (codes "1") ∷ attribute (codes "class") (codes "2") ∷ []) ∷ StartTag (codes "b") (attribute (codes "class") (codes "2") ∷ attribute (codes "id") (codes "1") ∷ []) ∷ StartTag (codes "a") (attribute (codes "class") (codes "2") ∷ attribute (codes "id") (codes "1") ∷ []) ∷ start (codes "div") ∷ start (codes "li") ∷ start (codes "li") ∷ Text (codes "x") ∷ end (codes "a") ∷ end (codes "i") ∷ Text (codes "x") ∷ StartTag (codes "i") (attribute (codes "class") (codes "2") ∷ attribute (codes "id") (codes "1") ∷ []) ∷ StartTag (codes "b") (attribute (codes "id") (codes "1") ∷ attribute (codes "class") (codes "2") ∷ []) ∷ StartTag (codes "a") (attribute (codes "id") (codes "1") ∷ attribute (codes "class") (codes "2") ∷ []) ∷ start (codes "div") ∷ start (codes "li") ∷ Text (codes "x") ∷ end (codes "a") ∷ end (codes "b") ∷ end (codes "i") ∷ Text (codes "y") ∷ StartTag (codes "a") (attribute (codes "class") (codes "2") ∷ attribute (codes "id") (codes "1") ∷ []) ∷ StartTag (codes "i") (attribute (codes "id") (codes "1") ∷ attribute (codes "class") (codes "2") ∷ []) ∷ StartTag (codes "a") (attribute (codes "class") (codes "2") ∷ attribute (codes "id") (codes "1") ∷ []) ∷ start (codes "div") ∷ start (codes "ul") ∷ Text (codes "x") ∷ end (codes "a") ∷ Text (codes "y") ∷ StartTag (codes "a") (attribute (codes "id") (codes "1") ∷ attribute (codes "class") (codes "2") ∷ []) ∷ StartTag (codes "a") (attribute (codes "class") (codes "2") ∷ attribute (codes "id") (codes "1") ∷ []) ∷ start (codes "ul") ∷ start (codes "ul") ∷ Text (codes "x") ∷ end (codes "i") ∷ end (codes "i") ∷ Text (codes "x") ∷ StartTag (codes "a") (attribute (codes "class") (codes "2") ∷ attribute (codes "id") (codes "1") ∷ []) ∷ start (codes "div") ∷ Text (codes "y") ∷ end (codes "b") ∷ end (codes "div") ∷ end (codes "a") ∷ Text (codes "y") ∷ [])
    ∷ (Text (codes "x ") ∷ Text (codes " x") ∷ start (codes "sub") ∷ end (codes "sub") ∷ [])
    ∷ (start (codes "pre") ∷ start (codes "listing") ∷ StartTag (codes "listing") (attribute (codes "id") (codes "1") ∷ attribute (codes "class") (codes "2") ∷ []) ∷ end (codes "listing") ∷ StartTag (codes "td") (attribute (codes "class") (codes "2") ∷ attribute (codes "id") (codes "1") ∷ []) ∷ Text (codes "x y") ∷ start (codes "pre") ∷ start (codes "listing") ∷ StartTag (codes "listing") (attribute (codes "class") (codes "2") ∷ attribute (codes "id") (codes "1") ∷ []) ∷ start (codes "dl") ∷ end (codes "td") ∷ Text (codes "\n\n") ∷ end (codes "dl") ∷ start (codes "listing") ∷ Text (codes " x") ∷ Text (codes "x y") ∷ [])
    ∷ (start (codes "embed") ∷ Text (codes "\n\n") ∷ Text (codes "x") ∷ StartTag (codes "li") (attribute (codes "class") (codes "1") ∷ []) ∷ start (codes "button") ∷ start (codes "table") ∷ end (codes "table") ∷ end (codes "button") ∷ end (codes "li") ∷ [])
    ∷ (StartTag (codes "tr") (attribute (codes "class") (codes "2") ∷ attribute (codes "id") (codes "1") ∷ []) ∷ end (codes "tr") ∷ start (codes "table") ∷ Text (codes " x") ∷ start (codes "colgroup") ∷ start (codes "col") ∷ StartTag (codes "col") (attribute (codes "class") (codes "1") ∷ []) ∷ StartTag (codes "table") (attribute (codes "class") (codes "1") ∷ []) ∷ [])
    ∷ (start (codes "b") ∷ start (codes "b") ∷ start (codes "td") ∷ start (codes "tr") ∷ Text (codes "y") ∷ end (codes "a") ∷ end (codes "a") ∷ Text (codes "x") ∷ [])
    ∷ (StartTag (codes "table") (attribute (codes "class") (codes "2") ∷ attribute (codes "id") (codes "1") ∷ []) ∷ StartTag (codes "tfoot") (attribute (codes "id") (codes "1") ∷ attribute (codes "class") (codes "2") ∷ []) ∷ StartTag (codes "tr") (attribute (codes "class") (codes "2") ∷ attribute (codes "id") (codes "1") ∷ []) ∷ end (codes "tr") ∷ end (codes "tfoot") ∷ end (codes "table") ∷ [])
    ∷ []

normal_0_answers : List (List Item)
normal_0_answers =
    (start (codes "li") ∷ end (codes "li") ∷ start (codes "rb") ∷ end (codes "rb") ∷ start (codes "h5") ∷ start (codes "kbd") ∷ Text (codes "x y") ∷ end (codes "kbd") ∷ end (codes "h5") ∷ [])
    ∷ (start (codes "bdo") ∷ end (codes "bdo") ∷ start (codes "map") ∷ Text [] ∷ start (codes "map") ∷ end (codes "map") ∷ start (codes "area") ∷ Text (codes "x ") ∷ end (codes "map") ∷ [])
    ∷ (Text (codes "\n\n") ∷ start (codes "form") ∷ start (codes "rtc") ∷ Text (codes " ") ∷ end (codes "rtc") ∷ end (codes "form") ∷ [])
    ∷ (StartTag (codes "i") (attribute (codes "id") (codes "1") ∷ attribute (codes "class") (codes "2") ∷ []) ∷ StartTag (codes "b") (attribute (codes "class") (codes "2") ∷ attribute (codes "id") (codes "1") ∷ []) ∷ StartTag (codes "a") (attribute (codes "class") (codes "2") ∷ attribute (codes "id") (codes "1") ∷ []) ∷ start (codes "div") ∷ start (codes "li") ∷ end (codes "li") ∷ start (codes "li") ∷ Text (codes "x") ∷ end (codes "li") ∷ end (codes "div") ∷ end (codes "a") ∷ end (codes "b") ∷ end (codes "i") ∷ Text (codes "x") ∷ StartTag (codes "i") (attribute (codes "class") (codes "2") ∷ attribute (codes "id") (codes "1") ∷ []) ∷ StartTag (codes "b") (attribute (codes "id") (codes "1") ∷ attribute (codes "class") (codes "2") ∷ []) ∷ StartTag (codes "a") (attribute (codes "id") (codes "1") ∷ attribute (codes "class") (codes "2") ∷ []) ∷ start (codes "div") ∷ start (codes "li") ∷ Text (codes "x") ∷ end (codes "li") ∷ end (codes "div") ∷ end (codes "a") ∷ end (codes "b") ∷ end (codes "i") ∷ Text (codes "y") ∷ StartTag (codes "a") (attribute (codes "class") (codes "2") ∷ attribute (codes "id") (codes "1") ∷ []) ∷ StartTag (codes "i") (attribute (codes "id") (codes "1") ∷ attribute (codes "class") (codes "2") ∷ []) ∷ end (codes "i") ∷ end (codes "a") ∷ StartTag (codes "a") (attribute (codes "class") (codes "2") ∷ attribute (codes "id") (codes "1") ∷ []) ∷ start (codes "div") ∷ start (codes "ul") ∷ Text (codes "x") ∷ end (codes "ul") ∷ end (codes "div") ∷ end (codes "a") ∷ Text (codes "y") ∷ StartTag (codes "a") (attribute (codes "id") (codes "1") ∷ attribute (codes "class") (codes "2") ∷ []) ∷ end (codes "a") ∷ StartTag (codes "a") (attribute (codes "class") (codes "2") ∷ attribute (codes "id") (codes "1") ∷ []) ∷ start (codes "ul") ∷ start (codes "ul") ∷ Text (codes "x") ∷ Text (codes "x") ∷ end (codes "ul") ∷ end (codes "ul") ∷ end (codes "a") ∷ StartTag (codes "a") (attribute (codes "class") (codes "2") ∷ attribute (codes "id") (codes "1") ∷ []) ∷ start (codes "div") ∷ Text (codes "y") ∷ end (codes "div") ∷ end (codes "a") ∷ Text (codes "y") ∷ [])
    ∷ (Text (codes "x ") ∷ Text (codes " x") ∷ start (codes "sub") ∷ end (codes "sub") ∷ [])
    ∷ (start (codes "pre") ∷ start (codes "listing") ∷ StartTag (codes "listing") (attribute (codes "id") (codes "1") ∷ attribute (codes "class") (codes "2") ∷ []) ∷ end (codes "listing") ∷ Text (codes "x y") ∷ start (codes "pre") ∷ start (codes "listing") ∷ StartTag (codes "listing") (attribute (codes "class") (codes "2") ∷ attribute (codes "id") (codes "1") ∷ []) ∷ start (codes "dl") ∷ Text (codes "\n\n") ∷ end (codes "dl") ∷ start (codes "listing") ∷ Text (codes " x") ∷ Text (codes "x y") ∷ end (codes "listing") ∷ end (codes "listing") ∷ end (codes "listing") ∷ end (codes "pre") ∷ end (codes "listing") ∷ end (codes "pre") ∷ [])
    ∷ (start (codes "embed") ∷ Text (codes "\n\n") ∷ Text (codes "x") ∷ StartTag (codes "li") (attribute (codes "class") (codes "1") ∷ []) ∷ start (codes "button") ∷ start (codes "table") ∷ end (codes "table") ∷ end (codes "button") ∷ end (codes "li") ∷ [])
    ∷ (start (codes "table") ∷ Text (codes " ") ∷ start (codes "tbody") ∷ start (codes "tr") ∷ start (codes "td") ∷ Text (codes "x") ∷ end (codes "td") ∷ end (codes "tr") ∷ end (codes "tbody") ∷ start (codes "colgroup") ∷ start (codes "col") ∷ StartTag (codes "col") (attribute (codes "class") (codes "1") ∷ []) ∷ end (codes "colgroup") ∷ end (codes "table") ∷ StartTag (codes "table") (attribute (codes "class") (codes "1") ∷ []) ∷ end (codes "table") ∷ [])
    ∷ (start (codes "b") ∷ start (codes "b") ∷ Text (codes "y") ∷ Text (codes "x") ∷ end (codes "b") ∷ end (codes "b") ∷ [])
    ∷ (StartTag (codes "table") (attribute (codes "class") (codes "2") ∷ attribute (codes "id") (codes "1") ∷ []) ∷ StartTag (codes "tfoot") (attribute (codes "id") (codes "1") ∷ attribute (codes "class") (codes "2") ∷ []) ∷ StartTag (codes "tr") (attribute (codes "class") (codes "2") ∷ attribute (codes "id") (codes "1") ∷ []) ∷ end (codes "tr") ∷ end (codes "tfoot") ∷ end (codes "table") ∷ [])
    ∷ []

normal_0 : map (normal 511) normal_0_items ≡ normal_0_answers
unfolding normal_0_items normal_0_answers is_among kind_in all_names kind_of near open_after leading_space after_space count_inside run_of opened plan_of normal_above
normal_0 = refl

normal_1_items : List (List Item)
normal_1_items =
    (end (codes "td") ∷ StartTag (codes "td") (attribute (codes "class") (codes "1") ∷ []) ∷ start (codes "td") ∷ Text (codes "\n\n") ∷ start (codes "form") ∷ Text (codes "\n") ∷ start (codes "td") ∷ end (codes "td") ∷ [])
    ∷ (Text (codes "x") ∷ start (codes "pre") ∷ end (codes "pre") ∷ Text (codes "x") ∷ StartTag (codes "p") (attribute (codes "class") (codes "1") ∷ []) ∷ Text (codes "x ") ∷ end (codes "p") ∷ Text (codes "x") ∷ Text (codes "x") ∷ StartTag (codes "input") (attribute (codes "type") (codes "HiDDen") ∷ []) ∷ [])
    ∷ (Text (codes "\nx") ∷ start (codes "form") ∷ StartTag (codes "tr") (attribute (codes "class") (codes "1") ∷ []) ∷ start (codes "td") ∷ start (codes "table") ∷ Text (codes "x y") ∷ end (codes "table") ∷ Text (codes "\n") ∷ start (codes "tr") ∷ end (codes "tr") ∷ end (codes "td") ∷ Text [] ∷ StartTag (codes "tr") (attribute (codes "class") (codes "2") ∷ attribute (codes "id") (codes "1") ∷ []) ∷ end (codes "form") ∷ StartTag (codes "form") (attribute (codes "class") (codes "2") ∷ attribute (codes "id") (codes "1") ∷ []) ∷ StartTag (codes "table") (attribute (codes "id") (codes "1") ∷ attribute (codes "class") (codes "2") ∷ []) ∷ [])
    ∷ (start (codes "b") ∷ start (codes "b") ∷ start (codes "b") ∷ start (codes "b") ∷ start (codes "b") ∷ Text (codes "y") ∷ end (codes "div") ∷ end (codes "b") ∷ end (codes "b") ∷ Text (codes "y") ∷ start (codes "b") ∷ start (codes "b") ∷ start (codes "div") ∷ start (codes "b") ∷ Text (codes "y") ∷ end (codes "div") ∷ end (codes "b") ∷ Text (codes "y") ∷ start (codes "b") ∷ StartTag (codes "b") (attribute (codes "id") (codes "1") ∷ []) ∷ StartTag (codes "b") (attribute (codes "id") (codes "1") ∷ []) ∷ start (codes "div") ∷ Text (codes "y") ∷ end (codes "span") ∷ end (codes "b") ∷ Text (codes "y") ∷ start (codes "b") ∷ start (codes "b") ∷ StartTag (codes "b") (attribute (codes "id") (codes "1") ∷ []) ∷ StartTag (codes "b") (attribute (codes "id") (codes "1") ∷ []) ∷ StartTag (codes "b") (attribute (codes "id") (codes "1") ∷ []) ∷ start (codes "b") ∷ Text (codes "y") ∷ end (codes "b") ∷ end (codes "b") ∷ end (codes "div") ∷ Text (codes "y") ∷ [])
    ∷ (start (codes "li") ∷ Text (codes "\n\n") ∷ Text [] ∷ start (codes "h1") ∷ end (codes "h1") ∷ end (codes "li") ∷ [])
    ∷ (end (codes "a") ∷ Text (codes " ") ∷ Text (codes "x") ∷ StartTag (codes "rb") (attribute (codes "id") (codes "1") ∷ attribute (codes "class") (codes "2") ∷ []) ∷ start (codes "a") ∷ end (codes "rb") ∷ Text (codes "\nx") ∷ StartTag (codes "rb") (attribute (codes "id") (codes "1") ∷ attribute (codes "class") (codes "2") ∷ []) ∷ [])
    ∷ (Text (codes "x") ∷ Text (codes "x") ∷ start (codes "h1") ∷ StartTag (codes "a") (attribute (codes "class") (codes "1") ∷ []) ∷ Text (codes "\n") ∷ end (codes "a") ∷ end (codes "h1") ∷ [])
    ∷ (end (codes "table") ∷ end (codes "table") ∷ start (codes "tr") ∷ end (codes "tr") ∷ end (codes "h2") ∷ end (codes "h1") ∷ start (codes "h2") ∷ start (codes "h1") ∷ start (codes "p") ∷ StartTag (codes "tr") (attribute (codes "id") (codes "1") ∷ attribute (codes "class") (codes "2") ∷ []) ∷ end (codes "tr") ∷ StartTag (codes "tr") (attribute (codes "class") (codes "2") ∷ attribute (codes "id") (codes "1") ∷ []) ∷ [])
    ∷ (start (codes "nobr") ∷ StartTag (codes "nobr") (attribute (codes "id") (codes "1") ∷ []) ∷ StartTag (codes "u") (attribute (codes "id") (codes "1") ∷ []) ∷ start (codes "span") ∷ start (codes "div") ∷ start (codes "div") ∷ Text (codes "y") ∷ end (codes "u") ∷ Text (codes "y") ∷ [])
    ∷ (start (codes "map") ∷ Text (codes "x ") ∷ start (codes "rt") ∷ StartTag (codes "rt") (attribute (codes "class") (codes "1") ∷ []) ∷ start (codes "map") ∷ StartTag (codes "map") (attribute (codes "class") (codes "1") ∷ []) ∷ end (codes "map") ∷ end (codes "map") ∷ end (codes "rt") ∷ start (codes "map") ∷ Text (codes " ") ∷ StartTag (codes "map") (attribute (codes "class") (codes "1") ∷ []) ∷ Text (codes "x") ∷ Text (codes " ") ∷ end (codes "map") ∷ end (codes "map") ∷ end (codes "rt") ∷ end (codes "map") ∷ [])
    ∷ []

normal_1_answers : List (List Item)
normal_1_answers =
    (Text (codes "\n\n") ∷ start (codes "form") ∷ Text (codes "\n") ∷ end (codes "form") ∷ [])
    ∷ (Text (codes "x") ∷ start (codes "pre") ∷ end (codes "pre") ∷ Text (codes "x") ∷ StartTag (codes "p") (attribute (codes "class") (codes "1") ∷ []) ∷ Text (codes "x ") ∷ end (codes "p") ∷ Text (codes "x") ∷ Text (codes "x") ∷ StartTag (codes "input") (attribute (codes "type") (codes "HiDDen") ∷ []) ∷ [])
    ∷ (Text (codes "\nx") ∷ start (codes "form") ∷ start (codes "table") ∷ start (codes "tbody") ∷ start (codes "tr") ∷ start (codes "td") ∷ Text (codes "x y") ∷ end (codes "td") ∷ end (codes "tr") ∷ end (codes "tbody") ∷ end (codes "table") ∷ Text (codes "\n") ∷ Text [] ∷ end (codes "form") ∷ StartTag (codes "form") (attribute (codes "class") (codes "2") ∷ attribute (codes "id") (codes "1") ∷ []) ∷ StartTag (codes "table") (attribute (codes "id") (codes "1") ∷ attribute (codes "class") (codes "2") ∷ []) ∷ end (codes "table") ∷ end (codes "form") ∷ [])
    ∷ (start (codes "b") ∷ start (codes "b") ∷ start (codes "b") ∷ start (codes "b") ∷ start (codes "b") ∷ Text (codes "y") ∷ end (codes "b") ∷ end (codes "b") ∷ Text (codes "y") ∷ start (codes "b") ∷ start (codes "b") ∷ start (codes "div") ∷ start (codes "b") ∷ Text (codes "y") ∷ end (codes "b") ∷ end (codes "div") ∷ end (codes "b") ∷ Text (codes "y") ∷ start (codes "b") ∷ StartTag (codes "b") (attribute (codes "id") (codes "1") ∷ []) ∷ StartTag (codes "b") (attribute (codes "id") (codes "1") ∷ []) ∷ start (codes "div") ∷ Text (codes "y") ∷ end (codes "div") ∷ end (codes "b") ∷ Text (codes "y") ∷ start (codes "b") ∷ start (codes "b") ∷ StartTag (codes "b") (attribute (codes "id") (codes "1") ∷ []) ∷ StartTag (codes "b") (attribute (codes "id") (codes "1") ∷ []) ∷ StartTag (codes "b") (attribute (codes "id") (codes "1") ∷ []) ∷ start (codes "b") ∷ Text (codes "y") ∷ end (codes "b") ∷ end (codes "b") ∷ Text (codes "y") ∷ end (codes "b") ∷ end (codes "b") ∷ end (codes "b") ∷ end (codes "b") ∷ end (codes "b") ∷ end (codes "b") ∷ end (codes "b") ∷ end (codes "b") ∷ end (codes "b") ∷ end (codes "b") ∷ [])
    ∷ (start (codes "li") ∷ Text (codes "\n\n") ∷ Text [] ∷ start (codes "h1") ∷ end (codes "h1") ∷ end (codes "li") ∷ [])
    ∷ (Text (codes " ") ∷ Text (codes "x") ∷ StartTag (codes "rb") (attribute (codes "id") (codes "1") ∷ attribute (codes "class") (codes "2") ∷ []) ∷ start (codes "a") ∷ end (codes "a") ∷ end (codes "rb") ∷ Text (codes "\nx") ∷ StartTag (codes "rb") (attribute (codes "id") (codes "1") ∷ attribute (codes "class") (codes "2") ∷ []) ∷ end (codes "rb") ∷ [])
    ∷ (Text (codes "x") ∷ Text (codes "x") ∷ start (codes "h1") ∷ StartTag (codes "a") (attribute (codes "class") (codes "1") ∷ []) ∷ Text (codes "\n") ∷ end (codes "a") ∷ end (codes "h1") ∷ [])
    ∷ (start (codes "h2") ∷ end (codes "h2") ∷ start (codes "h1") ∷ start (codes "p") ∷ end (codes "p") ∷ end (codes "h1") ∷ [])
    ∷ (start (codes "nobr") ∷ end (codes "nobr") ∷ StartTag (codes "nobr") (attribute (codes "id") (codes "1") ∷ []) ∷ StartTag (codes "u") (attribute (codes "id") (codes "1") ∷ []) ∷ start (codes "span") ∷ start (codes "div") ∷ start (codes "div") ∷ Text (codes "y") ∷ end (codes "div") ∷ end (codes "div") ∷ end (codes "span") ∷ end (codes "u") ∷ Text (codes "y") ∷ end (codes "nobr") ∷ [])
    ∷ (start (codes "map") ∷ Text (codes "x ") ∷ start (codes "rt") ∷ StartTag (codes "rt") (attribute (codes "class") (codes "1") ∷ []) ∷ start (codes "map") ∷ StartTag (codes "map") (attribute (codes "class") (codes "1") ∷ []) ∷ end (codes "map") ∷ end (codes "map") ∷ end (codes "rt") ∷ start (codes "map") ∷ Text (codes " ") ∷ StartTag (codes "map") (attribute (codes "class") (codes "1") ∷ []) ∷ Text (codes "x") ∷ Text (codes " ") ∷ end (codes "map") ∷ end (codes "map") ∷ end (codes "rt") ∷ end (codes "map") ∷ [])
    ∷ []

normal_1 : map (normal 511) normal_1_items ≡ normal_1_answers
unfolding normal_1_items normal_1_answers is_among kind_in all_names kind_of near open_after leading_space after_space count_inside run_of opened plan_of normal_above
normal_1 = refl

normal_2_items : List (List Item)
normal_2_items =
    (Text (codes "x") ∷ start (codes "li") ∷ StartTag (codes "li") (attribute (codes "class") (codes "2") ∷ attribute (codes "id") (codes "1") ∷ []) ∷ [])
    ∷ (Text (codes "x") ∷ Text (codes "\n") ∷ start (codes "p") ∷ StartTag (codes "p") (attribute (codes "id") (codes "1") ∷ attribute (codes "class") (codes "2") ∷ []) ∷ end (codes "p") ∷ StartTag (codes "pre") (attribute (codes "class") (codes "2") ∷ attribute (codes "id") (codes "1") ∷ []) ∷ end (codes "pre") ∷ end (codes "p") ∷ [])
    ∷ (Text (codes "x") ∷ end (codes "ruby") ∷ Text (codes " x") ∷ StartTag (codes "ruby") (attribute (codes "class") (codes "2") ∷ attribute (codes "id") (codes "1") ∷ []) ∷ end (codes "ruby") ∷ [])
    ∷ (start (codes "a") ∷ start (codes "a") ∷ start (codes "a") ∷ start (codes "a") ∷ start (codes "a") ∷ start (codes "li") ∷ start (codes "ul") ∷ Text (codes "y") ∷ end (codes "ul") ∷ end (codes "a") ∷ end (codes "a") ∷ Text (codes "y") ∷ start (codes "a") ∷ start (codes "a") ∷ start (codes "a") ∷ start (codes "ul") ∷ Text (codes "x") ∷ end (codes "a") ∷ end (codes "div") ∷ Text (codes "y") ∷ start (codes "a") ∷ start (codes "a") ∷ start (codes "a") ∷ start (codes "ul") ∷ start (codes "ul") ∷ Text (codes "y") ∷ end (codes "a") ∷ Text (codes "y") ∷ start (codes "a") ∷ start (codes "a") ∷ start (codes "a") ∷ start (codes "a") ∷ start (codes "a") ∷ start (codes "ul") ∷ start (codes "ul") ∷ Text (codes "x") ∷ end (codes "div") ∷ end (codes "ul") ∷ Text (codes "y") ∷ start (codes "a") ∷ start (codes "a") ∷ start (codes "div") ∷ Text (codes "y") ∷ end (codes "a") ∷ end (codes "div") ∷ Text (codes "y") ∷ [])
    ∷ (start (codes "ul") ∷ Text (codes "x y") ∷ end (codes "ul") ∷ StartTag (codes "footer") (attribute (codes "id") (codes "1") ∷ attribute (codes "class") (codes "2") ∷ []) ∷ end (codes "footer") ∷ StartTag (codes "footer") (attribute (codes "class") (codes "1") ∷ []) ∷ StartTag (codes "ul") (attribute (codes "id") (codes "1") ∷ attribute (codes "class") (codes "2") ∷ []) ∷ end (codes "ul") ∷ end (codes "footer") ∷ [])
    ∷ (end (codes "table") ∷ end (codes "h2") ∷ Text [] ∷ StartTag (codes "table") (attribute (codes "id") (codes "1") ∷ attribute (codes "class") (codes "2") ∷ []) ∷ Text [] ∷ end (codes "table") ∷ start (codes "h2") ∷ end (codes "h2") ∷ start (codes "table") ∷ end (codes "table") ∷ [])
    ∷ (Text (codes " x") ∷ Text (codes "x") ∷ start (codes "br") ∷ Text (codes " x") ∷ start (codes "br") ∷ Text (codes " x") ∷ [])
    ∷ (end (codes "tr") ∷ end (codes "tr") ∷ start (codes "tr") ∷ end (codes "tr") ∷ end (codes "wbr") ∷ Text (codes "\n") ∷ start (codes "wbr") ∷ [])
    ∷ (start (codes "a") ∷ start (codes "div") ∷ start (codes "div") ∷ Text (codes "y") ∷ end (codes "p") ∷ end (codes "div") ∷ Text (codes "x") ∷ start (codes "a") ∷ start (codes "a") ∷ start (codes "a") ∷ start (codes "div") ∷ Text (codes "x") ∷ end (codes "a") ∷ end (codes "a") ∷ end (codes "div") ∷ Text (codes "x") ∷ start (codes "a") ∷ start (codes "div") ∷ start (codes "p") ∷ start (codes "div") ∷ start (codes "p") ∷ start (codes "p") ∷ start (codes "div") ∷ start (codes "div") ∷ start (codes "p") ∷ Text (codes "x") ∷ end (codes "p") ∷ end (codes "p") ∷ end (codes "div") ∷ Text (codes "y") ∷ [])
    ∷ (Text (codes " ") ∷ Text [] ∷ start (codes "h1") ∷ start (codes "map") ∷ end (codes "map") ∷ start (codes "nobr") ∷ end (codes "nobr") ∷ Text [] ∷ end (codes "h1") ∷ StartTag (codes "aside") (attribute (codes "id") (codes "1") ∷ attribute (codes "class") (codes "2") ∷ []) ∷ StartTag (codes "h1") (attribute (codes "class") (codes "1") ∷ []) ∷ end (codes "h1") ∷ end (codes "aside") ∷ [])
    ∷ []

normal_2_answers : List (List Item)
normal_2_answers =
    (Text (codes "x") ∷ start (codes "li") ∷ end (codes "li") ∷ StartTag (codes "li") (attribute (codes "class") (codes "2") ∷ attribute (codes "id") (codes "1") ∷ []) ∷ end (codes "li") ∷ [])
    ∷ (Text (codes "x") ∷ Text (codes "\n") ∷ start (codes "p") ∷ end (codes "p") ∷ StartTag (codes "p") (attribute (codes "id") (codes "1") ∷ attribute (codes "class") (codes "2") ∷ []) ∷ end (codes "p") ∷ StartTag (codes "pre") (attribute (codes "class") (codes "2") ∷ attribute (codes "id") (codes "1") ∷ []) ∷ end (codes "pre") ∷ start (codes "p") ∷ end (codes "p") ∷ [])
    ∷ (Text (codes "x") ∷ Text (codes " x") ∷ StartTag (codes "ruby") (attribute (codes "class") (codes "2") ∷ attribute (codes "id") (codes "1") ∷ []) ∷ end (codes "ruby") ∷ [])
    ∷ (start (codes "a") ∷ end (codes "a") ∷ start (codes "a") ∷ end (codes "a") ∷ start (codes "a") ∷ end (codes "a") ∷ start (codes "a") ∷ end (codes "a") ∷ start (codes "a") ∷ start (codes "li") ∷ start (codes "ul") ∷ Text (codes "y") ∷ end (codes "ul") ∷ end (codes "li") ∷ end (codes "a") ∷ Text (codes "y") ∷ start (codes "a") ∷ end (codes "a") ∷ start (codes "a") ∷ end (codes "a") ∷ start (codes "a") ∷ start (codes "ul") ∷ Text (codes "x") ∷ end (codes "ul") ∷ end (codes "a") ∷ Text (codes "y") ∷ start (codes "a") ∷ end (codes "a") ∷ start (codes "a") ∷ end (codes "a") ∷ start (codes "a") ∷ start (codes "ul") ∷ start (codes "ul") ∷ Text (codes "y") ∷ end (codes "ul") ∷ end (codes "ul") ∷ end (codes "a") ∷ Text (codes "y") ∷ start (codes "a") ∷ end (codes "a") ∷ start (codes "a") ∷ end (codes "a") ∷ start (codes "a") ∷ end (codes "a") ∷ start (codes "a") ∷ end (codes "a") ∷ start (codes "a") ∷ start (codes "ul") ∷ start (codes "ul") ∷ Text (codes "x") ∷ end (codes "ul") ∷ Text (codes "y") ∷ end (codes "ul") ∷ end (codes "a") ∷ start (codes "a") ∷ end (codes "a") ∷ start (codes "a") ∷ start (codes "div") ∷ Text (codes "y") ∷ end (codes "div") ∷ end (codes "a") ∷ Text (codes "y") ∷ [])
    ∷ (start (codes "ul") ∷ Text (codes "x y") ∷ end (codes "ul") ∷ StartTag (codes "footer") (attribute (codes "id") (codes "1") ∷ attribute (codes "class") (codes "2") ∷ []) ∷ end (codes "footer") ∷ StartTag (codes "footer") (attribute (codes "class") (codes "1") ∷ []) ∷ StartTag (codes "ul") (attribute (codes "id") (codes "1") ∷ attribute (codes "class") (codes "2") ∷ []) ∷ end (codes "ul") ∷ end (codes "footer") ∷ [])
    ∷ (Text [] ∷ StartTag (codes "table") (attribute (codes "id") (codes "1") ∷ attribute (codes "class") (codes "2") ∷ []) ∷ Text [] ∷ end (codes "table") ∷ start (codes "h2") ∷ end (codes "h2") ∷ start (codes "table") ∷ end (codes "table") ∷ [])
    ∷ (Text (codes " x") ∷ Text (codes "x") ∷ start (codes "br") ∷ Text (codes " x") ∷ start (codes "br") ∷ Text (codes " x") ∷ [])
    ∷ (Text (codes "\n") ∷ start (codes "wbr") ∷ [])
    ∷ (start (codes "a") ∷ start (codes "div") ∷ start (codes "div") ∷ Text (codes "y") ∷ start (codes "p") ∷ end (codes "p") ∷ end (codes "div") ∷ Text (codes "x") ∷ end (codes "div") ∷ end (codes "a") ∷ start (codes "a") ∷ end (codes "a") ∷ start (codes "a") ∷ end (codes "a") ∷ start (codes "a") ∷ start (codes "div") ∷ Text (codes "x") ∷ end (codes "div") ∷ end (codes "a") ∷ Text (codes "x") ∷ start (codes "a") ∷ start (codes "div") ∷ start (codes "p") ∷ end (codes "p") ∷ start (codes "div") ∷ start (codes "p") ∷ end (codes "p") ∷ start (codes "p") ∷ end (codes "p") ∷ start (codes "div") ∷ start (codes "div") ∷ start (codes "p") ∷ Text (codes "x") ∷ end (codes "p") ∷ start (codes "p") ∷ end (codes "p") ∷ end (codes "div") ∷ Text (codes "y") ∷ end (codes "div") ∷ end (codes "div") ∷ end (codes "div") ∷ end (codes "a") ∷ [])
    ∷ (Text (codes " ") ∷ Text [] ∷ start (codes "h1") ∷ start (codes "map") ∷ end (codes "map") ∷ start (codes "nobr") ∷ end (codes "nobr") ∷ Text [] ∷ end (codes "h1") ∷ StartTag (codes "aside") (attribute (codes "id") (codes "1") ∷ attribute (codes "class") (codes "2") ∷ []) ∷ StartTag (codes "h1") (attribute (codes "class") (codes "1") ∷ []) ∷ end (codes "h1") ∷ end (codes "aside") ∷ [])
    ∷ []

normal_2 : map (normal 511) normal_2_items ≡ normal_2_answers
unfolding normal_2_items normal_2_answers is_among kind_in all_names kind_of near open_after leading_space after_space count_inside run_of opened plan_of normal_above
normal_2 = refl

normal_3_items : List (List Item)
normal_3_items =
    (start (codes "ol") ∷ end (codes "ol") ∷ end (codes "p") ∷ [])
    ∷ (Text (codes "x") ∷ Text (codes "x") ∷ Text (codes "x") ∷ Text (codes "x") ∷ StartTag (codes "area") (attribute (codes "id") (codes "1") ∷ attribute (codes "class") (codes "2") ∷ []) ∷ Text (codes "y") ∷ [])
    ∷ (start (codes "tr") ∷ StartTag (codes "pre") (attribute (codes "class") (codes "2") ∷ attribute (codes "id") (codes "1") ∷ []) ∷ Text (codes "y") ∷ Text (codes "x y") ∷ Text (codes "x") ∷ start (codes "p") ∷ [])
    ∷ (start (codes "u") ∷ start (codes "u") ∷ start (codes "div") ∷ start (codes "div") ∷ start (codes "div") ∷ start (codes "p") ∷ start (codes "p") ∷ start (codes "p") ∷ start (codes "div") ∷ start (codes "p") ∷ Text (codes "x") ∷ end (codes "p") ∷ Text (codes "x") ∷ [])
    ∷ (Text [] ∷ start (codes "listing") ∷ StartTag (codes "dl") (attribute (codes "class") (codes "2") ∷ attribute (codes "id") (codes "1") ∷ []) ∷ start (codes "listing") ∷ Text [] ∷ Text (codes "\nx") ∷ Text (codes " ") ∷ end (codes "listing") ∷ end (codes "dl") ∷ end (codes "listing") ∷ [])
    ∷ (end (codes "a") ∷ StartTag (codes "kbd") (attribute (codes "id") (codes "1") ∷ attribute (codes "class") (codes "2") ∷ []) ∷ start (codes "area") ∷ [])
    ∷ (Text (codes "x") ∷ StartTag (codes "q") (attribute (codes "id") (codes "1") ∷ attribute (codes "class") (codes "2") ∷ []) ∷ Text (codes "x") ∷ end (codes "q") ∷ [])
    ∷ (Text (codes "x y") ∷ start (codes "area") ∷ start (codes "tr") ∷ start (codes "td") ∷ end (codes "tr") ∷ StartTag (codes "area") (attribute (codes "class") (codes "1") ∷ []) ∷ end (codes "td") ∷ start (codes "p") ∷ start (codes "p") ∷ [])
    ∷ (start (codes "a") ∷ start (codes "ul") ∷ start (codes "ul") ∷ Text (codes "x") ∷ end (codes "a") ∷ end (codes "li") ∷ end (codes "ul") ∷ Text (codes "y") ∷ start (codes "nobr") ∷ start (codes "a") ∷ start (codes "a") ∷ start (codes "nobr") ∷ start (codes "nobr") ∷ start (codes "ul") ∷ start (codes "li") ∷ Text (codes "x") ∷ end (codes "nobr") ∷ end (codes "nobr") ∷ end (codes "a") ∷ Text (codes "x") ∷ start (codes "a") ∷ start (codes "nobr") ∷ start (codes "a") ∷ start (codes "li") ∷ start (codes "ul") ∷ start (codes "div") ∷ start (codes "div") ∷ start (codes "li") ∷ start (codes "ul") ∷ start (codes "div") ∷ start (codes "li") ∷ Text (codes "y") ∷ end (codes "li") ∷ end (codes "div") ∷ Text (codes "x") ∷ start (codes "nobr") ∷ start (codes "nobr") ∷ start (codes "div") ∷ Text (codes "x") ∷ end (codes "nobr") ∷ end (codes "div") ∷ Text (codes "y") ∷ [])
    ∷ (StartTag (codes "li") (attribute (codes "class") (codes "1") ∷ []) ∷ end (codes "li") ∷ start (codes "li") ∷ StartTag (codes "form") (attribute (codes "id") (codes "1") ∷ attribute (codes "class") (codes "2") ∷ []) ∷ StartTag (codes "ol") (attribute (codes "id") (codes "1") ∷ attribute (codes "class") (codes "2") ∷ []) ∷ Text (codes " x") ∷ end (codes "ol") ∷ StartTag (codes "li") (attribute (codes "class") (codes "2") ∷ attribute (codes "id") (codes "1") ∷ []) ∷ Text (codes "\n\n") ∷ end (codes "li") ∷ end (codes "form") ∷ end (codes "li") ∷ [])
    ∷ []

normal_3_answers : List (List Item)
normal_3_answers =
    (start (codes "ol") ∷ end (codes "ol") ∷ start (codes "p") ∷ end (codes "p") ∷ [])
    ∷ (Text (codes "x") ∷ Text (codes "x") ∷ Text (codes "x") ∷ Text (codes "x") ∷ StartTag (codes "area") (attribute (codes "id") (codes "1") ∷ attribute (codes "class") (codes "2") ∷ []) ∷ Text (codes "y") ∷ [])
    ∷ (StartTag (codes "pre") (attribute (codes "class") (codes "2") ∷ attribute (codes "id") (codes "1") ∷ []) ∷ Text (codes "y") ∷ Text (codes "x y") ∷ Text (codes "x") ∷ start (codes "p") ∷ end (codes "p") ∷ end (codes "pre") ∷ [])
    ∷ (start (codes "u") ∷ start (codes "u") ∷ start (codes "div") ∷ start (codes "div") ∷ start (codes "div") ∷ start (codes "p") ∷ end (codes "p") ∷ start (codes "p") ∷ end (codes "p") ∷ start (codes "p") ∷ end (codes "p") ∷ start (codes "div") ∷ start (codes "p") ∷ Text (codes "x") ∷ end (codes "p") ∷ Text (codes "x") ∷ end (codes "div") ∷ end (codes "div") ∷ end (codes "div") ∷ end (codes "div") ∷ end (codes "u") ∷ end (codes "u") ∷ [])
    ∷ (Text [] ∷ start (codes "listing") ∷ StartTag (codes "dl") (attribute (codes "class") (codes "2") ∷ attribute (codes "id") (codes "1") ∷ []) ∷ start (codes "listing") ∷ Text [] ∷ Text (codes "\nx") ∷ Text (codes " ") ∷ end (codes "listing") ∷ end (codes "dl") ∷ end (codes "listing") ∷ [])
    ∷ (StartTag (codes "kbd") (attribute (codes "id") (codes "1") ∷ attribute (codes "class") (codes "2") ∷ []) ∷ start (codes "area") ∷ end (codes "kbd") ∷ [])
    ∷ (Text (codes "x") ∷ StartTag (codes "q") (attribute (codes "id") (codes "1") ∷ attribute (codes "class") (codes "2") ∷ []) ∷ Text (codes "x") ∷ end (codes "q") ∷ [])
    ∷ (Text (codes "x y") ∷ start (codes "area") ∷ StartTag (codes "area") (attribute (codes "class") (codes "1") ∷ []) ∷ start (codes "p") ∷ end (codes "p") ∷ start (codes "p") ∷ end (codes "p") ∷ [])
    ∷ (start (codes "a") ∷ start (codes "ul") ∷ start (codes "ul") ∷ Text (codes "x") ∷ end (codes "ul") ∷ end (codes "ul") ∷ end (codes "a") ∷ Text (codes "y") ∷ start (codes "nobr") ∷ start (codes "a") ∷ end (codes "a") ∷ start (codes "a") ∷ end (codes "a") ∷ end (codes "nobr") ∷ start (codes "nobr") ∷ end (codes "nobr") ∷ start (codes "nobr") ∷ start (codes "ul") ∷ start (codes "li") ∷ Text (codes "x") ∷ end (codes "li") ∷ end (codes "ul") ∷ end (codes "nobr") ∷ Text (codes "x") ∷ start (codes "a") ∷ start (codes "nobr") ∷ end (codes "nobr") ∷ end (codes "a") ∷ start (codes "a") ∷ start (codes "li") ∷ start (codes "ul") ∷ start (codes "div") ∷ start (codes "div") ∷ start (codes "li") ∷ start (codes "ul") ∷ start (codes "div") ∷ start (codes "li") ∷ Text (codes "y") ∷ end (codes "li") ∷ end (codes "div") ∷ Text (codes "x") ∷ start (codes "nobr") ∷ end (codes "nobr") ∷ start (codes "nobr") ∷ start (codes "div") ∷ Text (codes "x") ∷ end (codes "div") ∷ end (codes "nobr") ∷ end (codes "ul") ∷ end (codes "li") ∷ end (codes "div") ∷ Text (codes "y") ∷ end (codes "div") ∷ end (codes "ul") ∷ end (codes "li") ∷ end (codes "a") ∷ [])
    ∷ (StartTag (codes "li") (attribute (codes "class") (codes "1") ∷ []) ∷ end (codes "li") ∷ start (codes "li") ∷ StartTag (codes "form") (attribute (codes "id") (codes "1") ∷ attribute (codes "class") (codes "2") ∷ []) ∷ StartTag (codes "ol") (attribute (codes "id") (codes "1") ∷ attribute (codes "class") (codes "2") ∷ []) ∷ Text (codes " x") ∷ end (codes "ol") ∷ StartTag (codes "li") (attribute (codes "class") (codes "2") ∷ attribute (codes "id") (codes "1") ∷ []) ∷ Text (codes "\n\n") ∷ end (codes "li") ∷ end (codes "form") ∷ end (codes "li") ∷ [])
    ∷ []

normal_3 : map (normal 511) normal_3_items ≡ normal_3_answers
unfolding normal_3_items normal_3_answers is_among kind_in all_names kind_of near open_after leading_space after_space count_inside run_of opened plan_of normal_above
normal_3 = refl

-- ---- the same with five open elements at most

normal_within_5_0_items : List (List Item)
normal_within_5_0_items =
    (Text (codes "\n\n") ∷ StartTag (codes "section") (attribute (codes "class") (codes "2") ∷ attribute (codes "id") (codes "1") ∷ []) ∷ Text (codes "y") ∷ Text (codes "x y") ∷ Text (codes "x") ∷ Text [] ∷ end (codes "section") ∷ start (codes "section") ∷ end (codes "section") ∷ [])
    ∷ (StartTag (codes "col") (attribute (codes "class") (codes "1") ∷ []) ∷ Text (codes "x") ∷ start (codes "div") ∷ start (codes "nobr") ∷ start (codes "rb") ∷ end (codes "rb") ∷ end (codes "nobr") ∷ StartTag (codes "col") (attribute (codes "class") (codes "2") ∷ attribute (codes "id") (codes "1") ∷ []) ∷ end (codes "div") ∷ [])
    ∷ (end (codes "rp") ∷ end (codes "em") ∷ Text (codes "\nx") ∷ StartTag (codes "p") (attribute (codes "class") (codes "1") ∷ []) ∷ Text (codes "x y") ∷ StartTag (codes "em") (attribute (codes "id") (codes "1") ∷ attribute (codes "class") (codes "2") ∷ []) ∷ start (codes "pre") ∷ Text (codes " x") ∷ [])
    ∷ (StartTag (codes "b") (attribute (codes "class") (codes "2") ∷ attribute (codes "id") (codes "1") ∷ []) ∷ StartTag (codes "b") (attribute (codes "class") (codes "2") ∷ attribute (codes "id") (codes "1") ∷ []) ∷ start (codes "td") ∷ start (codes "table") ∷ Text (codes "x") ∷ end (codes "b") ∷ end (codes "b") ∷ end (codes "a") ∷ Text (codes "y") ∷ StartTag (codes "a") (attribute (codes "id") (codes "1") ∷ attribute (codes "class") (codes "2") ∷ []) ∷ start (codes "tr") ∷ Text (codes "x") ∷ end (codes "table") ∷ end (codes "a") ∷ Text (codes "y") ∷ StartTag (codes "a") (attribute (codes "id") (codes "1") ∷ attribute (codes "class") (codes "2") ∷ []) ∷ StartTag (codes "b") (attribute (codes "class") (codes "2") ∷ attribute (codes "id") (codes "1") ∷ []) ∷ StartTag (codes "a") (attribute (codes "id") (codes "1") ∷ attribute (codes "class") (codes "2") ∷ []) ∷ StartTag (codes "a") (attribute (codes "class") (codes "2") ∷ attribute (codes "id") (codes "1") ∷ []) ∷ StartTag (codes "a") (attribute (codes "class") (codes "2") ∷ attribute (codes "id") (codes "1") ∷ []) ∷ start (codes "td") ∷ Text (codes "x") ∷ end (codes "a") ∷ end (codes "tr") ∷ Text (codes "x") ∷ StartTag (codes "b") (attribute (codes "class") (codes "2") ∷ attribute (codes "id") (codes "1") ∷ []) ∷ StartTag (codes "b") (attribute (codes "class") (codes "2") ∷ attribute (codes "id") (codes "1") ∷ []) ∷ StartTag (codes "a") (attribute (codes "class") (codes "2") ∷ attribute (codes "id") (codes "1") ∷ []) ∷ start (codes "tr") ∷ Text (codes "x") ∷ end (codes "b") ∷ end (codes "tr") ∷ Text (codes "y") ∷ StartTag (codes "b") (attribute (codes "id") (codes "1") ∷ attribute (codes "class") (codes "2") ∷ []) ∷ start (codes "td") ∷ start (codes "td") ∷ start (codes "td") ∷ Text (codes "y") ∷ end (codes "a") ∷ Text (codes "x") ∷ [])
    ∷ (start (codes "bdo") ∷ Text (codes "x") ∷ StartTag (codes "h3") (attribute (codes "id") (codes "1") ∷ attribute (codes "class") (codes "2") ∷ []) ∷ Text (codes "x y") ∷ end (codes "h3") ∷ end (codes "bdo") ∷ [])
    ∷ (end (codes "b") ∷ StartTag (codes "b") (attribute (codes "id") (codes "1") ∷ attribute (codes "class") (codes "2") ∷ []) ∷ start (codes "hr") ∷ start (codes "s") ∷ StartTag (codes "ruby") (attribute (codes "class") (codes "2") ∷ attribute (codes "id") (codes "1") ∷ []) ∷ StartTag (codes "b") (attribute (codes "class") (codes "2") ∷ attribute (codes "id") (codes "1") ∷ []) ∷ Text (codes "x ") ∷ end (codes "ruby") ∷ StartTag (codes "s") (attribute (codes "id") (codes "1") ∷ attribute (codes "class") (codes "2") ∷ []) ∷ StartTag (codes "thead") (attribute (codes "class") (codes "2") ∷ attribute (codes "id") (codes "1") ∷ []) ∷ Text (codes "\n") ∷ start (codes "col") ∷ end (codes "caption") ∷ Text (codes "y") ∷ [])
    ∷ (start (codes "table") ∷ start (codes "dd") ∷ start (codes "table") ∷ end (codes "table") ∷ start (codes "map") ∷ end (codes "map") ∷ end (codes "dd") ∷ start (codes "dd") ∷ end (codes "dd") ∷ end (codes "table") ∷ [])
    ∷ (Text (codes "y") ∷ end (codes "table") ∷ Text (codes "y") ∷ Text [] ∷ start (codes "pre") ∷ [])
    ∷ (StartTag (codes "nobr") (attribute (codes "id") (codes "1") ∷ attribute (codes "class") (codes "2") ∷ []) ∷ start (codes "div") ∷ start (codes "div") ∷ Text (codes "x") ∷ end (codes "nobr") ∷ Text (codes "y") ∷ [])
    ∷ (Text (codes " ") ∷ start (codes "dl") ∷ start (codes "dl") ∷ StartTag (codes "wbr") (attribute (codes "class") (codes "2") ∷ attribute (codes "id") (codes "1") ∷ []) ∷ end (codes "dl") ∷ Text (codes " x") ∷ end (codes "dl") ∷ [])
    ∷ []

normal_within_5_0_answers : List (List Item)
normal_within_5_0_answers =
    (Text (codes "\n\n") ∷ StartTag (codes "section") (attribute (codes "class") (codes "2") ∷ attribute (codes "id") (codes "1") ∷ []) ∷ Text (codes "y") ∷ Text (codes "x y") ∷ Text (codes "x") ∷ Text [] ∷ end (codes "section") ∷ start (codes "section") ∷ end (codes "section") ∷ [])
    ∷ (Text (codes "x") ∷ start (codes "div") ∷ start (codes "nobr") ∷ start (codes "rb") ∷ end (codes "rb") ∷ end (codes "nobr") ∷ end (codes "div") ∷ [])
    ∷ (Text (codes "\nx") ∷ StartTag (codes "p") (attribute (codes "class") (codes "1") ∷ []) ∷ Text (codes "x y") ∷ StartTag (codes "em") (attribute (codes "id") (codes "1") ∷ attribute (codes "class") (codes "2") ∷ []) ∷ end (codes "em") ∷ end (codes "p") ∷ start (codes "pre") ∷ Text (codes " x") ∷ end (codes "pre") ∷ [])
    ∷ (StartTag (codes "b") (attribute (codes "class") (codes "2") ∷ attribute (codes "id") (codes "1") ∷ []) ∷ StartTag (codes "b") (attribute (codes "class") (codes "2") ∷ attribute (codes "id") (codes "1") ∷ []) ∷ start (codes "table") ∷ Text [] ∷ end (codes "table") ∷ end (codes "b") ∷ end (codes "b") ∷ Text (codes "y") ∷ StartTag (codes "a") (attribute (codes "id") (codes "1") ∷ attribute (codes "class") (codes "2") ∷ []) ∷ Text (codes "x") ∷ end (codes "a") ∷ Text (codes "y") ∷ StartTag (codes "a") (attribute (codes "id") (codes "1") ∷ attribute (codes "class") (codes "2") ∷ []) ∷ StartTag (codes "b") (attribute (codes "class") (codes "2") ∷ attribute (codes "id") (codes "1") ∷ []) ∷ end (codes "b") ∷ end (codes "a") ∷ StartTag (codes "a") (attribute (codes "id") (codes "1") ∷ attribute (codes "class") (codes "2") ∷ []) ∷ end (codes "a") ∷ StartTag (codes "a") (attribute (codes "class") (codes "2") ∷ attribute (codes "id") (codes "1") ∷ []) ∷ end (codes "a") ∷ StartTag (codes "a") (attribute (codes "class") (codes "2") ∷ attribute (codes "id") (codes "1") ∷ []) ∷ Text (codes "x") ∷ end (codes "a") ∷ Text (codes "x") ∷ StartTag (codes "b") (attribute (codes "class") (codes "2") ∷ attribute (codes "id") (codes "1") ∷ []) ∷ StartTag (codes "b") (attribute (codes "class") (codes "2") ∷ attribute (codes "id") (codes "1") ∷ []) ∷ StartTag (codes "a") (attribute (codes "class") (codes "2") ∷ attribute (codes "id") (codes "1") ∷ []) ∷ Text (codes "x") ∷ end (codes "a") ∷ end (codes "b") ∷ Text (codes "y") ∷ StartTag (codes "b") (attribute (codes "id") (codes "1") ∷ attribute (codes "class") (codes "2") ∷ []) ∷ Text (codes "y") ∷ Text (codes "x") ∷ end (codes "b") ∷ end (codes "b") ∷ [])
    ∷ (start (codes "bdo") ∷ Text (codes "x") ∷ StartTag (codes "h3") (attribute (codes "id") (codes "1") ∷ attribute (codes "class") (codes "2") ∷ []) ∷ Text (codes "x y") ∷ end (codes "h3") ∷ end (codes "bdo") ∷ [])
    ∷ (StartTag (codes "b") (attribute (codes "id") (codes "1") ∷ attribute (codes "class") (codes "2") ∷ []) ∷ start (codes "hr") ∷ start (codes "s") ∷ StartTag (codes "ruby") (attribute (codes "class") (codes "2") ∷ attribute (codes "id") (codes "1") ∷ []) ∷ StartTag (codes "b") (attribute (codes "class") (codes "2") ∷ attribute (codes "id") (codes "1") ∷ []) ∷ Text (codes "x ") ∷ end (codes "b") ∷ end (codes "ruby") ∷ StartTag (codes "s") (attribute (codes "id") (codes "1") ∷ attribute (codes "class") (codes "2") ∷ []) ∷ Text (codes "\n") ∷ Text (codes "y") ∷ end (codes "s") ∷ end (codes "s") ∷ end (codes "b") ∷ [])
    ∷ (start (codes "table") ∷ start (codes "tbody") ∷ start (codes "tr") ∷ start (codes "td") ∷ start (codes "dd") ∷ end (codes "dd") ∷ end (codes "td") ∷ end (codes "tr") ∷ end (codes "tbody") ∷ end (codes "table") ∷ start (codes "map") ∷ end (codes "map") ∷ start (codes "dd") ∷ end (codes "dd") ∷ [])
    ∷ (Text (codes "y") ∷ Text (codes "y") ∷ Text [] ∷ start (codes "pre") ∷ end (codes "pre") ∷ [])
    ∷ (StartTag (codes "nobr") (attribute (codes "id") (codes "1") ∷ attribute (codes "class") (codes "2") ∷ []) ∷ start (codes "div") ∷ start (codes "div") ∷ Text (codes "x") ∷ end (codes "div") ∷ end (codes "div") ∷ end (codes "nobr") ∷ Text (codes "y") ∷ [])
    ∷ (Text (codes " ") ∷ start (codes "dl") ∷ start (codes "dl") ∷ StartTag (codes "wbr") (attribute (codes "class") (codes "2") ∷ attribute (codes "id") (codes "1") ∷ []) ∷ end (codes "dl") ∷ Text (codes " x") ∷ end (codes "dl") ∷ [])
    ∷ []

normal_within_5_0 : map (normal 5) normal_within_5_0_items ≡ normal_within_5_0_answers
unfolding normal_within_5_0_items normal_within_5_0_answers is_among kind_in all_names kind_of near open_after leading_space after_space count_inside run_of opened plan_of normal_above
normal_within_5_0 = refl

-- ---- and with three

normal_within_3_0_items : List (List Item)
normal_within_3_0_items =
    (end (codes "p") ∷ end (codes "p") ∷ Text (codes " ") ∷ end (codes "p") ∷ StartTag (codes "p") (attribute (codes "class") (codes "1") ∷ []) ∷ start (codes "table") ∷ start (codes "caption") ∷ Text (codes " ") ∷ start (codes "table") ∷ end (codes "caption") ∷ StartTag (codes "tr") (attribute (codes "id") (codes "1") ∷ attribute (codes "class") (codes "2") ∷ []) ∷ StartTag (codes "th") (attribute (codes "id") (codes "1") ∷ attribute (codes "class") (codes "2") ∷ []) ∷ start (codes "tr") ∷ end (codes "tr") ∷ StartTag (codes "tt") (attribute (codes "class") (codes "2") ∷ attribute (codes "id") (codes "1") ∷ []) ∷ start (codes "button") ∷ StartTag (codes "table") (attribute (codes "id") (codes "1") ∷ attribute (codes "class") (codes "2") ∷ []) ∷ [])
    ∷ (Text (codes "x") ∷ Text [] ∷ StartTag (codes "cite") (attribute (codes "class") (codes "1") ∷ []) ∷ Text (codes "\n") ∷ start (codes "dt") ∷ end (codes "dt") ∷ Text (codes "y") ∷ start (codes "cite") ∷ end (codes "cite") ∷ Text (codes "x y") ∷ end (codes "cite") ∷ [])
    ∷ (Text (codes "\n\n") ∷ Text (codes " x") ∷ Text (codes "x y") ∷ end (codes "i") ∷ Text (codes "x y") ∷ StartTag (codes "listing") (attribute (codes "id") (codes "1") ∷ attribute (codes "class") (codes "2") ∷ []) ∷ StartTag (codes "dt") (attribute (codes "class") (codes "2") ∷ attribute (codes "id") (codes "1") ∷ []) ∷ [])
    ∷ (start (codes "u") ∷ start (codes "u") ∷ start (codes "b") ∷ start (codes "u") ∷ start (codes "a") ∷ start (codes "div") ∷ Text (codes "y") ∷ end (codes "p") ∷ end (codes "p") ∷ end (codes "u") ∷ Text (codes "x") ∷ [])
    ∷ (Text (codes "\nx") ∷ Text (codes "\n") ∷ Text (codes "\nx") ∷ start (codes "dl") ∷ Text (codes "\nx") ∷ start (codes "table") ∷ start (codes "tfoot") ∷ Text (codes "\n") ∷ StartTag (codes "tr") (attribute (codes "id") (codes "1") ∷ attribute (codes "class") (codes "2") ∷ []) ∷ end (codes "tr") ∷ end (codes "tfoot") ∷ end (codes "table") ∷ end (codes "dl") ∷ [])
    ∷ (StartTag (codes "menu") (attribute (codes "class") (codes "1") ∷ []) ∷ start (codes "ins") ∷ StartTag (codes "menu") (attribute (codes "class") (codes "2") ∷ attribute (codes "id") (codes "1") ∷ []) ∷ end (codes "menu") ∷ end (codes "ins") ∷ start (codes "form") ∷ start (codes "p") ∷ end (codes "menu") ∷ Text (codes "y") ∷ start (codes "button") ∷ StartTag (codes "col") (attribute (codes "class") (codes "2") ∷ attribute (codes "id") (codes "1") ∷ []) ∷ start (codes "col") ∷ Text (codes " x") ∷ StartTag (codes "form") (attribute (codes "class") (codes "1") ∷ []) ∷ [])
    ∷ (Text (codes "x") ∷ Text (codes "y") ∷ start (codes "div") ∷ Text (codes "\n\n") ∷ end (codes "div") ∷ Text (codes "x") ∷ Text (codes "x") ∷ start (codes "td") ∷ StartTag (codes "table") (attribute (codes "class") (codes "2") ∷ attribute (codes "id") (codes "1") ∷ []) ∷ end (codes "table") ∷ start (codes "button") ∷ end (codes "button") ∷ end (codes "td") ∷ [])
    ∷ (start (codes "p") ∷ end (codes "p") ∷ end (codes "p") ∷ start (codes "p") ∷ Text (codes "\nx") ∷ end (codes "p") ∷ end (codes "p") ∷ start (codes "p") ∷ end (codes "p") ∷ end (codes "rb") ∷ Text (codes "\n\n") ∷ StartTag (codes "p") (attribute (codes "class") (codes "1") ∷ []) ∷ start (codes "rb") ∷ [])
    ∷ (start (codes "a") ∷ start (codes "a") ∷ start (codes "a") ∷ start (codes "li") ∷ start (codes "div") ∷ Text (codes "y") ∷ end (codes "li") ∷ end (codes "a") ∷ Text (codes "y") ∷ start (codes "a") ∷ start (codes "a") ∷ start (codes "a") ∷ start (codes "a") ∷ start (codes "a") ∷ start (codes "div") ∷ start (codes "ul") ∷ Text (codes "y") ∷ end (codes "a") ∷ end (codes "a") ∷ Text (codes "x") ∷ start (codes "a") ∷ start (codes "div") ∷ start (codes "li") ∷ Text (codes "x") ∷ end (codes "ul") ∷ Text (codes "x") ∷ start (codes "a") ∷ start (codes "li") ∷ start (codes "div") ∷ start (codes "ul") ∷ start (codes "div") ∷ start (codes "li") ∷ start (codes "li") ∷ start (codes "ul") ∷ start (codes "ul") ∷ Text (codes "y") ∷ end (codes "a") ∷ Text (codes "x") ∷ start (codes "a") ∷ start (codes "a") ∷ start (codes "a") ∷ start (codes "div") ∷ start (codes "ul") ∷ start (codes "li") ∷ start (codes "ul") ∷ start (codes "div") ∷ start (codes "div") ∷ start (codes "ul") ∷ start (codes "ul") ∷ Text (codes "x") ∷ end (codes "li") ∷ Text (codes "y") ∷ [])
    ∷ (Text (codes "\n") ∷ StartTag (codes "figure") (attribute (codes "class") (codes "1") ∷ []) ∷ Text (codes "y") ∷ start (codes "dl") ∷ start (codes "details") ∷ StartTag (codes "table") (attribute (codes "id") (codes "1") ∷ attribute (codes "class") (codes "2") ∷ []) ∷ end (codes "table") ∷ start (codes "figure") ∷ Text (codes "x ") ∷ Text (codes "y") ∷ Text [] ∷ start (codes "table") ∷ start (codes "tbody") ∷ end (codes "tbody") ∷ end (codes "table") ∷ end (codes "figure") ∷ end (codes "details") ∷ end (codes "dl") ∷ end (codes "figure") ∷ [])
    ∷ []

normal_within_3_0_answers : List (List Item)
normal_within_3_0_answers =
    (start (codes "p") ∷ end (codes "p") ∷ start (codes "p") ∷ end (codes "p") ∷ Text (codes " ") ∷ start (codes "p") ∷ end (codes "p") ∷ StartTag (codes "p") (attribute (codes "class") (codes "1") ∷ []) ∷ end (codes "p") ∷ start (codes "table") ∷ start (codes "caption") ∷ Text (codes " ") ∷ start (codes "table") ∷ end (codes "table") ∷ StartTag (codes "table") (attribute (codes "id") (codes "1") ∷ attribute (codes "class") (codes "2") ∷ []) ∷ end (codes "table") ∷ end (codes "caption") ∷ end (codes "table") ∷ [])
    ∷ (Text (codes "x") ∷ Text [] ∷ StartTag (codes "cite") (attribute (codes "class") (codes "1") ∷ []) ∷ Text (codes "\n") ∷ start (codes "dt") ∷ end (codes "dt") ∷ Text (codes "y") ∷ start (codes "cite") ∷ end (codes "cite") ∷ Text (codes "x y") ∷ end (codes "cite") ∷ [])
    ∷ (Text (codes "\n\n") ∷ Text (codes " x") ∷ Text (codes "x y") ∷ Text (codes "x y") ∷ StartTag (codes "listing") (attribute (codes "id") (codes "1") ∷ attribute (codes "class") (codes "2") ∷ []) ∷ StartTag (codes "dt") (attribute (codes "class") (codes "2") ∷ attribute (codes "id") (codes "1") ∷ []) ∷ end (codes "dt") ∷ end (codes "listing") ∷ [])
    ∷ (start (codes "u") ∷ start (codes "u") ∷ start (codes "b") ∷ Text (codes "y") ∷ end (codes "b") ∷ end (codes "u") ∷ Text (codes "x") ∷ end (codes "u") ∷ [])
    ∷ (Text (codes "\nx") ∷ Text (codes "\n") ∷ Text (codes "\nx") ∷ start (codes "dl") ∷ Text (codes "\nx") ∷ start (codes "table") ∷ start (codes "tfoot") ∷ Text (codes "\n") ∷ end (codes "tfoot") ∷ end (codes "table") ∷ end (codes "dl") ∷ [])
    ∷ (StartTag (codes "menu") (attribute (codes "class") (codes "1") ∷ []) ∷ start (codes "ins") ∷ StartTag (codes "menu") (attribute (codes "class") (codes "2") ∷ attribute (codes "id") (codes "1") ∷ []) ∷ end (codes "menu") ∷ end (codes "ins") ∷ start (codes "form") ∷ start (codes "p") ∷ end (codes "p") ∷ end (codes "form") ∷ end (codes "menu") ∷ Text (codes "y") ∷ start (codes "button") ∷ Text (codes " x") ∷ StartTag (codes "form") (attribute (codes "class") (codes "1") ∷ []) ∷ end (codes "form") ∷ end (codes "button") ∷ [])
    ∷ (Text (codes "x") ∷ Text (codes "y") ∷ start (codes "div") ∷ Text (codes "\n\n") ∷ end (codes "div") ∷ Text (codes "x") ∷ Text (codes "x") ∷ StartTag (codes "table") (attribute (codes "class") (codes "2") ∷ attribute (codes "id") (codes "1") ∷ []) ∷ end (codes "table") ∷ start (codes "button") ∷ end (codes "button") ∷ [])
    ∷ (start (codes "p") ∷ end (codes "p") ∷ start (codes "p") ∷ end (codes "p") ∷ start (codes "p") ∷ Text (codes "\nx") ∷ end (codes "p") ∷ start (codes "p") ∷ end (codes "p") ∷ start (codes "p") ∷ end (codes "p") ∷ Text (codes "\n\n") ∷ StartTag (codes "p") (attribute (codes "class") (codes "1") ∷ []) ∷ start (codes "rb") ∷ end (codes "rb") ∷ end (codes "p") ∷ [])
    ∷ (start (codes "a") ∷ end (codes "a") ∷ start (codes "a") ∷ end (codes "a") ∷ start (codes "a") ∷ start (codes "li") ∷ start (codes "div") ∷ Text (codes "y") ∷ end (codes "div") ∷ end (codes "li") ∷ end (codes "a") ∷ Text (codes "y") ∷ start (codes "a") ∷ end (codes "a") ∷ start (codes "a") ∷ end (codes "a") ∷ start (codes "a") ∷ end (codes "a") ∷ start (codes "a") ∷ end (codes "a") ∷ start (codes "a") ∷ start (codes "div") ∷ start (codes "ul") ∷ Text (codes "y") ∷ end (codes "ul") ∷ end (codes "div") ∷ end (codes "a") ∷ Text (codes "x") ∷ start (codes "a") ∷ start (codes "div") ∷ start (codes "li") ∷ Text (codes "x") ∷ Text (codes "x") ∷ end (codes "li") ∷ end (codes "div") ∷ end (codes "a") ∷ start (codes "a") ∷ start (codes "li") ∷ start (codes "div") ∷ end (codes "div") ∷ end (codes "li") ∷ start (codes "li") ∷ end (codes "li") ∷ start (codes "li") ∷ start (codes "ul") ∷ Text (codes "y") ∷ end (codes "ul") ∷ end (codes "li") ∷ end (codes "a") ∷ Text (codes "x") ∷ start (codes "a") ∷ end (codes "a") ∷ start (codes "a") ∷ end (codes "a") ∷ start (codes "a") ∷ start (codes "div") ∷ start (codes "ul") ∷ Text (codes "x") ∷ Text (codes "y") ∷ end (codes "ul") ∷ end (codes "div") ∷ end (codes "a") ∷ [])
    ∷ (Text (codes "\n") ∷ StartTag (codes "figure") (attribute (codes "class") (codes "1") ∷ []) ∷ Text (codes "y") ∷ start (codes "dl") ∷ start (codes "details") ∷ Text (codes "x ") ∷ Text (codes "y") ∷ Text [] ∷ end (codes "details") ∷ end (codes "dl") ∷ end (codes "figure") ∷ [])
    ∷ []

normal_within_3_0 : map (normal 3) normal_within_3_0_items ≡ normal_within_3_0_answers
unfolding normal_within_3_0_items normal_within_3_0_answers is_among kind_in all_names kind_of near open_after leading_space after_space count_inside run_of opened plan_of normal_above
normal_within_3_0 = refl
