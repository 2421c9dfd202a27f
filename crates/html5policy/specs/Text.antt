-- The text form of a policy: a rule a line, its words separated by white space.
use Rattle.std.specs.Prelude.{ℕ, ◌+◌, ◌^◌, ◌==◌, ◌&&◌, ◌||◌, nat_lt, Bool, true, false, List, [], ◌∷◌, Option, Some, None, Result, Ok, Err, codes, filter, map, if◌then◌else◌}
use Rattle.std.specs.List.{slice_split}
use Rattle.std.specs.Str.{all_ascii_digits, bytes_eq}
use Rattle.std.specs.Str.Parse.{digits_value}
use Rattle.html5policy.specs.Policy.{PolicyOf, nothing_kept}
use Rattle.html5policy.specs.Rules.{RuleOf, rule_added}
use Rattle.html5policy.specs.Rules.RuleOf.{Element, Attribute, Everywhere, Scheme, Hidden, Rel, Balance, Tree, Depth}
use Rattle.html5policy.specs.declared.error.RuleError.{RuleError}
use Rattle.html5policy.specs.declared.error.RuleError.TheVariants.{Depth as DepthError, NoName, UnknownRule, WordTooMany}
use Rattle.html5policy.specs.declared.error.PolicyError.{PolicyError}

-- ---- lines and words

abbrev pub is_line_feed : ℕ → Bool
is_line_feed byte = byte == 10

-- a space, a tab, or the CR before a line feed
abbrev pub is_space : ℕ → Bool
is_space byte = (byte == 32) || ((byte == 9) || (byte == 13))

abbrev pub is_word : List ℕ → Bool
is_word [] = false
is_word (byte ∷ word) = true

-- the words between them
unfoldable pub words : List ℕ → List (List ℕ)
words line = filter is_word (slice_split is_space line)

unfoldable pub lines : List ℕ → List (List ℕ)
lines text = slice_split is_line_feed text

-- ---- the rules of a line

-- a line that begins with `#` says nothing
abbrev pub begins_remark : List ℕ → Bool
begins_remark [] = false
begins_remark (byte ∷ word) = byte == 35

-- `allow ELEMENT [ATTRIBUTE..]`
unfoldable pub allow_said : List (List ℕ) → Result (List RuleOf) RuleError
allow_said [] = Err NoName
allow_said (element ∷ attributes) = Ok (Element element ∷ map (Attribute element) attributes)

-- a rule for each name, and one at least
unfoldable pub each_said : (List ℕ → RuleOf) → List (List ℕ) → Result (List RuleOf) RuleError
each_said rule [] = Err NoName
each_said rule (name ∷ names) = Ok (map rule (name ∷ names))

-- `noopener`, which is `rel noopener`
unfoldable pub noopener_said : List (List ℕ) → Result (List RuleOf) RuleError
noopener_said [] = Ok (Rel (codes "noopener") ∷ [])
noopener_said (name ∷ names) = Err WordTooMany

-- `balance`
unfoldable pub balance_said : List (List ℕ) → Result (List RuleOf) RuleError
balance_said [] = Ok (Balance ∷ [])
balance_said (name ∷ names) = Err WordTooMany

-- `tree`
unfoldable pub tree_said : List (List ℕ) → Result (List RuleOf) RuleError
tree_said [] = Ok (Tree ∷ [])
tree_said (name ∷ names) = Err WordTooMany

-- a number in decimal digits, at least 1 and below 2 ^ 32
unfoldable pub number_said : List ℕ → Option ℕ
number_said digits =
    let number = digits_value 10 digits in
    if all_ascii_digits digits && nat_lt number (2 ^ 32) && nat_lt 0 number then Some number else None

abbrev pub depth_rule : Option ℕ → Result (List RuleOf) RuleError
depth_rule (Some depth) = Ok (Depth depth ∷ [])
depth_rule None = Err DepthError

-- `depth NUMBER`
unfoldable pub depth_said : List (List ℕ) → Result (List RuleOf) RuleError
depth_said [] = Err NoName
depth_said (number ∷ []) = depth_rule (number_said number)
depth_said (number ∷ name ∷ names) = Err WordTooMany

-- what the words of a line say after the first
unfoldable pub rules_by_word : List ℕ → List (List ℕ) → Result (List RuleOf) RuleError
rules_by_word word names =
    if begins_remark word then Ok []
    else if bytes_eq word (codes "allow") then allow_said names
    else if bytes_eq word (codes "everywhere") then each_said Everywhere names
    else if bytes_eq word (codes "schemes") then each_said Scheme names
    else if bytes_eq word (codes "hide") then each_said Hidden names
    else if bytes_eq word (codes "rel") then each_said Rel names
    else if bytes_eq word (codes "noopener") then noopener_said names
    else if bytes_eq word (codes "balance") then balance_said names
    else if bytes_eq word (codes "tree") then tree_said names
    else if bytes_eq word (codes "depth") then depth_said names
    else Err UnknownRule

unfoldable pub rules_said : List (List ℕ) → Result (List RuleOf) RuleError
rules_said [] = Ok []
rules_said (word ∷ names) = rules_by_word word names

-- ---- the policy

-- the result of the next rule, if nothing was wrong with the policy so far
abbrev pub after_rule : (PolicyOf → Result PolicyOf RuleError) → Result PolicyOf RuleError → Result PolicyOf RuleError
after_rule later (Ok policy) = later policy
after_rule later (Err fault) = Err fault

-- a policy with these rules too, one after the other
unfoldable pub rules_added : PolicyOf → List RuleOf → Result PolicyOf RuleError
rules_added policy [] = Ok policy
rules_added policy (rule ∷ rules) = after_rule (λ next. rules_added next rules) (rule_added policy rule)

-- a policy with the rules of a line
abbrev pub said_added : PolicyOf → Result (List RuleOf) RuleError → Result PolicyOf RuleError
said_added policy (Ok rules) = rules_added policy rules
said_added policy (Err fault) = Err fault

unfoldable pub line_added : PolicyOf → List ℕ → Result PolicyOf RuleError
line_added policy line = said_added policy (rules_said (words line))

-- the result of the next line, if nothing was wrong with the line of this number
abbrev pub after_line : ℕ → (PolicyOf → Result PolicyOf PolicyError) → Result PolicyOf RuleError → Result PolicyOf PolicyError
after_line number later (Ok policy) = later policy
after_line number later (Err fault) = Err (record { line = number; fault = fault })

-- a policy with those of lines, which are counted from `line`; a fault has the line where it stands
unfoldable pub lines_added : PolicyOf → ℕ → List (List ℕ) → Result PolicyOf PolicyError
lines_added policy number [] = Ok policy
lines_added policy number (line ∷ lines) = after_line number (λ next. lines_added next (number + 1) lines) (line_added policy line)

-- what a text says: the policy of its lines, or the first fault
unfoldable pub policy_said : List ℕ → Result PolicyOf PolicyError
policy_said text = lines_added nothing_kept 1 (lines text)
