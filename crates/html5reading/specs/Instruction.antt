-- Processing instructions: a rule of this project's own. The standard has a bogus comment in their place.
-- The slices below are vocabulary of proofs: `html5grammar/specs/Instruction` says how one is written.
use Rattle.std.specs.Prelude.{ℕ, Bool, List, [], ◌∷◌, ◌++◌, ◌==◌, flat_map, not}
use Rattle.html5ever_interface.specs.Token.Told.{Instruction}
use Rattle.html5ever_interface.specs.declared.states.State.TheVariants as state
use Rattle.html5reading.specs.Characters.{greater_than, value_bytes}
use Rattle.html5reading.specs.Slice.{Slice, cut_off, one_character, with_run, run_of, after_run}
use Rattle.html5reading.specs.Start.Mode.{Data}
use Rattle.html5reading.specs.Start.Open.{Between, InInstruction}
use Rattle.html5reading.specs.Tag.{null_error}

-- whether a character goes on with an instruction
unfoldable pub in_instruction : ℕ → Bool
in_instruction c = not (c == greater_than)

-- the `>` of an instruction
unfoldable pub after_instruction : List ℕ → List ℕ → Slice
after_instruction content [] = cut_off (InInstruction content)
after_instruction content (c ∷ text) = one_character (Instruction content ∷ []) (Between Data)

-- a processing instruction, of which `before` was read after its `<?`, runs to `>`
unfoldable pub instruction : Bool → List ℕ → List ℕ → Slice
instruction exact before text =
    let run : List ℕ = run_of in_instruction text in
    with_run (null_error exact state.ProcessingInstruction) run
    (after_instruction (before ++ flat_map value_bytes run) (after_run in_instruction text))
