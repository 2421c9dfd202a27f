-- No log of SARIF is asked for by a command without that format.
use Rattle.std.proofs.Common.{◌≡◌, ℕ, Bool, true, false, List, Option, None, Some, codes, subst, sym}
use Rattle.std.specs.Prelude.{◌&&◌, if◌then◌else◌}
use Rattle.std.specs.Str.{bytes_eq}
use Rattle.html5commands.specs.Commands.{InFormat, PrintsBy, format_asked, format_named, format_of, no_file, options_of}
use Rattle.html5commands.specs.declared.command.Command.{Command}
use Rattle.html5commands.specs.declared.command.Command.TheVariants.{Links, Tokens}
use Rattle.html5commands.specs.declared.format.Format.TheVariants.{Json, Lines, Sarif}
use Rattle.html5extract.specs.Asked.{link_settings_said, token_settings_said}
use Rattle.html5extract.specs.Makings.{links_made, tokens_made}
use Rattle.html5json.specs.Makings.{json_links_made, json_tokens_made}
use Rattle.html5programs.specs.Ending.{AsksNoText, PrintsAsked}
use Rattle.html5programs.specs.Words.{Asked, KnownOption, value_of, words_asked}
use Rattle.html5programs.specs.declared.ending.Ending.{Ending}
use Rattle.html5programs.specs.declared.ending.Ending.TheVariants.{Done}

by-names : (is_lines is_json : Bool) (lines json log : Type 0)
    → InFormat (if is_lines then Some Lines else if is_json then Some Json else if false && false then Some Sarif else None) lines json log
    → InFormat (if is_lines then Some Lines else if is_json then Some Json else if false && false then Some Sarif else None) lines json ⊥
by-names true is_json lines json log holds = holds
by-names false true lines json log holds = holds
by-names false false lines json log holds = holds

by-word : (word : Option (List ℕ)) (lines json log : Type 0) → InFormat (format_of false word) lines json log → InFormat (format_of false word) lines json ⊥
unfolding format_named
by-word None lines json log holds = holds
by-word (Some word) lines json log holds = by-names (bytes_eq word (codes "lines")) (bytes_eq word (codes "json")) lines json log holds

pub no-logs : (asked : Asked) (lines json log : Type 0) → InFormat (format_asked false asked) lines json log → InFormat (format_asked false asked) lines json ⊥
no-logs asked lines json log holds = by-word (value_of (codes "--format") asked.given) lines json log holds

-- what a run by these options prints, is what the command prints that has them
pub prints-tokens : (command : Command) (words : List (List ℕ)) (known : List KnownOption) (unread left : Option (List ℕ)) (written : List ℕ) (ending : Ending)
    → command ≡ Tokens → known ≡ options_of command
    → (AsksNoText (words_asked known words) → ending ≡ Done
    → InFormat (format_asked false (words_asked known words)) (PrintsAsked tokens_made no_file token_settings_said (words_asked known words) unread left written false)
    (PrintsAsked json_tokens_made no_file token_settings_said (words_asked known words) unread left written false)
    (PrintsAsked json_tokens_made no_file token_settings_said (words_asked known words) unread left written false))
    → AsksNoText (words_asked (options_of command) words) → ending ≡ Done
    → PrintsBy command (words_asked (options_of command) words) unread left written false
prints-tokens command words known unread left written ending is same prints no_text done =
    let known_text = subst (λ o. AsksNoText (words_asked o words)) (sym same) no_text in
    let printed = no-logs (words_asked known words) _ _ _ (prints known_text done) in
    subst (λ o. PrintsBy command (words_asked o words) unread left written false) same
    (subst (λ k. PrintsBy k (words_asked known words) unread left written false) (sym is) printed)

pub prints-links : (command : Command) (words : List (List ℕ)) (known : List KnownOption) (unread left : Option (List ℕ)) (written : List ℕ) (ending : Ending)
    → command ≡ Links → known ≡ options_of command
    → (AsksNoText (words_asked known words) → ending ≡ Done
    → InFormat (format_asked false (words_asked known words)) (PrintsAsked links_made no_file link_settings_said (words_asked known words) unread left written false)
    (PrintsAsked json_links_made no_file link_settings_said (words_asked known words) unread left written false)
    (PrintsAsked json_links_made no_file link_settings_said (words_asked known words) unread left written false))
    → AsksNoText (words_asked (options_of command) words) → ending ≡ Done
    → PrintsBy command (words_asked (options_of command) words) unread left written false
prints-links command words known unread left written ending is same prints no_text done =
    let known_text = subst (λ o. AsksNoText (words_asked o words)) (sym same) no_text in
    let printed = no-logs (words_asked known words) _ _ _ (prints known_text done) in
    subst (λ o. PrintsBy command (words_asked o words) unread left written false) same
    (subst (λ k. PrintsBy k (words_asked known words) unread left written false) (sym is) printed)
