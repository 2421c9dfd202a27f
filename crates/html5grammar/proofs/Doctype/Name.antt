-- What the machine does at one doctype up to its name and the white space after it.
use Rattle.std.proofs.Common.{◌≡◌, ℕ, Bool, true, false, List, [], ◌∷◌, ◌++◌, refl, sym, subst}
use Rattle.std.specs.Prelude.{◌==◌, ◌||◌, not, flat_map, codes, None}
use Rattle.std.specs.List.{list_all}
use Rattle.std.specs.Str.{bytes_eq}
use Rattle.std.proofs.lemmas.Bool.{false≢true, and_parts}
use Rattle.std.proofs.lemmas.List.{map-append}
use Rattle.html5ever_interface.specs.Token.{DoctypeOf, empty_doctype}
use Rattle.html5ever_interface.specs.Token.Told.{Doctype}
use Rattle.html5ever_interface.specs.declared.states.State.TheVariants as state
use Rattle.html5reading.specs.Characters.{greater_than, is_white_space, name_bytes, lower_case, is_letter}
use Rattle.html5reading.specs.Doctype.{with_quirks, with_doctype_name, with_first_of_name, in_doctype_name}
use Rattle.html5reading.specs.ErrorText.{error_in}
use Rattle.html5grammar.specs.Doctype.{opening, after_space, direct_error, spell_name}
use Rattle.html5grammar.specs.Spelled.{Spelled, spell, spell_silent}
use Rattle.html5reading.specs.Reading.Here.{Tells}
use Rattle.html5reading.specs.Start.{Open, Rules, is_undecided_open}
use Rattle.html5reading.specs.Start.DoctypePlace.{AfterWord, BeforeName, InDoctypeName, AfterName}
use Rattle.html5reading.specs.Start.Mode.{Data}
use Rattle.html5reading.specs.Start.Open.{Between, LessThan, InDeclaration, InDoctype}
use Rattle.html5reading.specs.Tag.{null_error}
use Rattle.html5grammar.proofs.Leading.{Leads, Leads-append, leads-goes}
use Rattle.html5reading.specs.Machine.{step_at, brought_at, data_step, less_than_step, doctype_step, space_step, wanted_name_step, doctype_name_step}
use Rattle.html5grammar.proofs.Doctype.Held.{leads-doctype_word}
use Rattle.html5grammar.proofs.Doctype.Steps.{named_doctype, white-no_end, goes-space}
use Rattle.html5grammar.proofs.Goes.{Goes, Goes-append, goes-run}
use Rattle.html5reading.proofs.Slices.{with_doctype_name-nil, with_doctype_name-cons}

no_either : (a b : Bool) → not (a || b) ≡ true → (a ≡ false) × (b ≡ false)
no_either true b h = absurd (false≢true h)
no_either false true h = absurd (false≢true h)
no_either false false h = (refl, refl)

module _ (rules : Rules) where
  silent-append : (X Y : List ℕ) → spell_silent (X ++ Y) ≡ spell_silent X ++ spell_silent Y
  silent-append X Y = map-append _ X Y

  abbrev pub after_word : List ℕ → Open
  after_word space = after_space space (InDoctype AfterWord empty_doctype) (InDoctype BeforeName empty_doctype)

  pub decided-after_word : (space : List ℕ) → is_undecided_open (after_word space) ≡ false
  decided-after_word [] = refl
  decided-after_word (c ∷ space) = refl

  goes-space_after_word : (space : List ℕ) → list_all is_white_space space ≡ true
      → Goes rules.exact (InDoctype AfterWord empty_doctype) (spell_silent space) (after_word space)
  unfolding step_at doctype_step space_step
  goes-space_after_word space all =
      goes-space rules.exact (InDoctype AfterWord empty_doctype) (InDoctype BeforeName empty_doctype) (λ c h. rw h refl) (λ c h. rw h refl) space all

  pub leads-opening : (word space : List ℕ) → bytes_eq (lower_case word) (codes "doctype") ≡ true → list_all is_white_space space ≡ true
      → Leads rules (Between Data) (spell_silent (opening word space)) (after_word space)
  unfolding Leads brought_at step_at data_step less_than_step is_letter
  leads-opening word space is_word all =
      let leads : Leads rules (InDeclaration []) (spell_silent word ++ spell_silent space) (after_word space) =
      Leads-append rules (InDeclaration []) (InDoctype AfterWord empty_doctype) (after_word space) (spell_silent word) (spell_silent space) (leads-doctype_word rules word is_word)
      (leads-goes rules (InDoctype AfterWord empty_doctype) (after_word space) (spell_silent space) (decided-after_word space) (goes-space_after_word space all)) in
      (LessThan, λ foreign. refl, (InDeclaration [], λ foreign. refl, subst (λ cells. Leads rules (InDeclaration []) cells (after_word space)) (sym (silent-append word space)) leads))

  pub step-no_name : (space : List ℕ)
      → step_at rules.exact (after_word space) greater_than
      ≡ Tells (error_in rules.exact state.BeforeDoctypeName greater_than ∷ Doctype (with_quirks empty_doctype) ∷ []) (Between Data)
  unfolding step_at doctype_step space_step wanted_name_step is_white_space
  step-no_name [] = refl
  step-no_name (c ∷ space) = refl

  step-first : (space : List ℕ) (c : ℕ) → in_doctype_name c ≡ true
      → step_at rules.exact (after_word space) c
      ≡ Tells (direct_error space (error_in rules.exact state.Doctype c) ++ null_error rules.exact state.BeforeDoctypeName c) (InDoctype InDoctypeName (with_first_of_name empty_doctype c))
  unfolding step_at doctype_step space_step wanted_name_step in_doctype_name
  step-first [] c h = let p = no_either (is_white_space c) (c == greater_than) h in rw (p.0, p.1) refl
  step-first (b ∷ space) c h = let p = no_either (is_white_space c) (c == greater_than) h in rw (p.0, p.1) refl

  abbrev pub after_name : DoctypeOf → List ℕ → Open
  after_name d space = after_space space (InDoctype InDoctypeName d) (InDoctype AfterName d)

  decided-after_name : (d : DoctypeOf) (space : List ℕ) → is_undecided_open (after_name d space) ≡ false
  decided-after_name d [] = refl
  decided-after_name d (c ∷ space) = refl

  goes-space_after_name : (d : DoctypeOf) (space : List ℕ) → list_all is_white_space space ≡ true
      → Goes rules.exact (InDoctype InDoctypeName d) (spell_silent space) (after_name d space)
  unfolding step_at doctype_step doctype_name_step space_step in_doctype_name
  goes-space_after_name d space all =
      goes-space rules.exact (InDoctype InDoctypeName d) (InDoctype AfterName d) (λ c h. rw (h, white-no_end c h) refl) (λ c h. rw h refl) space all

  goes-rest_of_name : (d : DoctypeOf) (run : List ℕ) → list_all in_doctype_name run ≡ true
      → Goes rules.exact (InDoctype InDoctypeName d) (spell (null_error rules.exact state.DoctypeName) run) (InDoctype InDoctypeName (with_doctype_name d run))
  unfolding step_at doctype_step doctype_name_step
  goes-rest_of_name d run all =
      goes-run rules.exact (InDoctype InDoctypeName) with_doctype_name in_doctype_name (null_error rules.exact state.DoctypeName) with_doctype_name-nil with_doctype_name-cons (λ e c h. rw h refl) d run all

  -- a doctype with this name
  abbrev pub named : ℕ → List ℕ → DoctypeOf
  named first rest = named_doctype (flat_map name_bytes (first ∷ rest)) None None false

  -- a doctype up to its name and the white space after it
  pub leads-name : (word space : List ℕ) (first : ℕ) (rest later : List ℕ)
      → bytes_eq (lower_case word) (codes "doctype") ≡ true → list_all is_white_space space ≡ true
      → list_all in_doctype_name (first ∷ rest) ≡ true → list_all is_white_space later ≡ true
      → Leads rules (Between Data) (spell_name rules.exact word space first rest later) (after_name (named first rest) later)
  unfolding Goes
  leads-name word space first rest later is_word all is_name all_later =
      let p = and_parts (in_doctype_name first) (list_all in_doctype_name rest) is_name in
      let begun : DoctypeOf = with_first_of_name empty_doctype first in
      let whole : with_doctype_name begun rest ≡ named first rest = sym (with_doctype_name-cons (named_doctype [] None None false) first rest) in
      let runs : Goes rules.exact (InDoctype InDoctypeName begun) (spell (null_error rules.exact state.DoctypeName) rest) (InDoctype InDoctypeName (named first rest)) =
      subst (λ d. Goes rules.exact (InDoctype InDoctypeName begun) (spell (null_error rules.exact state.DoctypeName) rest) (InDoctype InDoctypeName d)) whole
      (goes-rest_of_name begun rest p.1) in
      let cells : List Spelled = spell (null_error rules.exact state.DoctypeName) rest ++ spell_silent later in
      let here : Spelled = record { character = first; told = direct_error space (error_in rules.exact state.Doctype first) ++ null_error rules.exact state.BeforeDoctypeName first } in
      let goes : Goes rules.exact (after_word space) (here ∷ cells) (after_name (named first rest) later) = (
        InDoctype InDoctypeName begun,
        step-first space first p.0,
        Goes-append rules.exact (InDoctype InDoctypeName begun) (InDoctype InDoctypeName (named first rest)) (after_name (named first rest) later)
            (spell (null_error rules.exact state.DoctypeName) rest) (spell_silent later) runs (goes-space_after_name (named first rest) later all_later),
      ) in
      Leads-append rules (Between Data) (after_word space) (after_name (named first rest) later) (spell_silent (opening word space)) (here ∷ cells)
      (leads-opening word space is_word all)
      (leads-goes rules (after_word space) (after_name (named first rest) later) (here ∷ cells) (decided-after_name (named first rest) later) goes)
