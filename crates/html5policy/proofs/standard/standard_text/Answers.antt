-- the search doesn't read a text
use Rattle.std.proofs.Common.{refl}
use Rattle.std.specs.Str.{chars}
use Rattle.html5reading.specs.Characters.{is_white_space}
use Rattle.html5tree.specs.Names.{all_names, is_among, kind_in, kind_of}
use Rattle.html5write.specs.Pieces.{is_attribute_character, is_attribute_name, is_name_character, is_tag_name}
use Rattle.html5policy.specs.Names.{acts_on_page, always_hides, has_place, is_never_kept, is_one_of, is_rel_word, is_scheme, runs_address}
use Rattle.html5policy.specs.Policy.{implied_elements, with_word}
use Rattle.html5policy.specs.Rules.{fault_of, rule_added, with_rule}
use Rattle.html5policy.specs.Standard.{standard_elements, standard_own, standard_policy}
use Rattle.html5policy.specs.Text.{allow_said, balance_said, each_said, line_added, lines, lines_added, noopener_said, policy_said, rules_added, rules_by_word, rules_said, tree_said, words}
use Rattle.html5policy.proofs.standard.standard_text.Goals as goal

pub returns : goal.returns
unfolding policy_said lines lines_added line_added words rules_said rules_by_word allow_said each_said noopener_said balance_said tree_said rules_added rule_added fault_of with_rule with_word is_one_of is_rel_word has_place kind_of kind_in all_names is_among implied_elements acts_on_page always_hides is_never_kept is_scheme runs_address is_tag_name is_attribute_name is_name_character is_attribute_character is_white_space chars standard_policy standard_elements standard_own
returns c = refl
