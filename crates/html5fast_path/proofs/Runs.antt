-- A run of a name or a value tells nothing.
use Rattle.std.proofs.Common.{inl, ◌≡◌, ◌≢◌, ℕ, ◌<◌, zero, suc, true, false, List, [], ◌∷◌, Option, Some, None, refl, sym, ap, ◌∙◌, subst, arith, length, take}
use Rattle.std.specs.Prelude.{All, Contains, is_some, IfSome, ◌↔◌}
use Rattle.std.specs.Str.{IsUtf8, chars}
use Rattle.std.proofs.lemmas.Bool.{false≢true}
use Rattle.std.proofs.lemmas.List.{length-take-le}
use Rattle.std.proofs.lemmas.List.Elements.{All-head, All-tail, All-weaker}
use Rattle.std.proofs.lemmas.Str.{IsUtf8-take, IsCharBoundary-from_drop}
use Rattle.html5ever_interface.specs.Token.{Told}
use Rattle.html5reading.specs.Reading.Here.{Tells}
use Rattle.html5reading.specs.Start.{Open, nothing_open, is_undecided_open}
use Rattle.html5reading.specs.Start.Open.{Between, LessThan, LessThanSolidus, InTag, InRaw, InDeclaration, InComment, InBogusComment, InInstruction, InDoctype, InDoctypeKeyword, InCdata, InReference}
use Rattle.html5reading.specs.Start.Place.{InName, BeforeAttribute, InAttributeName, AfterAttributeName, BeforeValue, InValue, AfterQuotedValue, AfterSolidus}
use Rattle.html5partial.specs.Runs.{IsRunAt, other_run_ends, run_ends, run_tokens, opened_after_run}
use Rattle.html5partial.proofs.RunSteps.{step-run, opened_after_run-nil, opened_after_run-cons, other_run_ends-after, no_line_feed, no_carriage_return}
use Rattle.markup5ever.specs.SmallCharSet.{IsMember, BeginsOutside}
use Rattle.markup5ever.proofs.TextLemmas.{filled_chars}
use Rattle.html5fast_path.specs.Quiet.{ReadsQuietly}

-- nothing is undecided where runs are read
pub run-decided : (opened : Open) (others : List ℕ) → other_run_ends opened ≡ Some others → is_undecided_open opened ≡ false
run-decided (InReference stand held) others has = cc
run-decided (InDeclaration held) others has = cc
run-decided (InDoctypeKeyword held d) others has = cc
run-decided opened others has = refl

-- within a tag or a comment a run tells nothing
pub run_tokens-open : (opened : Open) (run : List ℕ) → nothing_open opened ≡ false → run_tokens opened run ≡ []
run_tokens-open (Between mode) run within = absurd (false≢true (sym within))
run_tokens-open LessThan run within = refl
run_tokens-open LessThanSolidus run within = refl
run_tokens-open (InTag place tag) run within = refl
run_tokens-open (InRaw place name) run within = refl
run_tokens-open (InDeclaration held) run within = refl
run_tokens-open (InComment text) run within = refl
run_tokens-open (InBogusComment text) run within = refl
run_tokens-open (InInstruction content) run within = refl
run_tokens-open (InCdata text) run within = refl
run_tokens-open (InDoctype place doctype) run within = refl
run_tokens-open (InDoctypeKeyword held doctype) run within = refl
run_tokens-open (InReference stand held) run within = refl

-- and leaves something within
pub open-after : (opened : Open) (run : List ℕ) → nothing_open opened ≡ false → nothing_open (opened_after_run opened run) ≡ false
open-after (Between mode) run within = within
open-after LessThan run within = within
open-after LessThanSolidus run within = within
open-after (InTag InName tag) run within = refl
open-after (InTag BeforeAttribute tag) run within = refl
open-after (InTag InAttributeName tag) run within = refl
open-after (InTag AfterAttributeName tag) run within = refl
open-after (InTag BeforeValue tag) run within = refl
open-after (InTag (InValue kind) tag) run within = refl
open-after (InTag AfterQuotedValue tag) run within = refl
open-after (InTag AfterSolidus tag) run within = refl
open-after (InRaw place name) run within = within
open-after (InDeclaration held) run within = within
open-after (InComment text) run within = refl
open-after (InBogusComment text) run within = refl
open-after (InInstruction content) run within = refl
open-after (InCdata text) run within = refl
open-after (InDoctype place doctype) run within = within
open-after (InDoctypeKeyword held doctype) run within = within
open-after (InReference stand held) run within = within

-- a text of characters that end no run
pub reads-ordinary : (opened : Open) (others run : List ℕ) → other_run_ends opened ≡ Some others → nothing_open opened ≡ false
    → All (λ c. ¬ Contains (run_ends others) c) run → ReadsQuietly opened run (opened_after_run opened run)
unfolding ReadsQuietly
reads-ordinary opened others [] has within all = sym (opened_after_run-nil opened)
reads-ordinary opened others (c ∷ run) has within all =
    let out : ¬ Contains (run_ends others) c = All-head (λ d. ¬ Contains (run_ends others) d) c run all in
    let next : Open = opened_after_run opened (c ∷ []) in (
      next,
      (
        record {
          decided = run-decided opened others has;
          steps = step-run false opened others c (inl refl) has out ∙ ap (λ (told : List Told). Tells told next) (run_tokens-open opened (c ∷ []) within);
          no_line_feed = no_line_feed opened others c within has out;
          no_carriage_return = no_carriage_return others c out;
        },
        subst (ReadsQuietly next run) (sym (opened_after_run-cons opened c run))
            (reads-ordinary next others run (other_run_ends-after opened others c has out ∙ has) (open-after opened (c ∷ []) within) (All-tail (λ d. ¬ Contains (run_ends others) d) c run all)),
      ),
    )

pub reads-run : (opened : Open) (run : List ℕ) → IsRunAt opened run → nothing_open opened ≡ false → ReadsQuietly opened run (opened_after_run opened run)
reads-run opened run is_run within = reads-ordinary opened is_run.others run is_run.has_runs within is_run.ordinary

-- ---- the beginning of a text that is outside the set is a run, where the set has what ends one

pub some_of : {X : Type 0} (o : Option X) → is_some o ≡ true → (x : X) × (o ≡ Some x)
some_of (Some x) has = (x, refl)
some_of None has = absurd (false≢true has)

positive : (n : ℕ) → n ≢ 0 → 0 < n
positive zero some = absurd (some refl)
positive (suc n) some = omega arith

pub run-begins : (opened : Open) (set : ℕ) (text : List ℕ) (len : ℕ) → is_some (other_run_ends opened) ≡ true
    → IfSome (other_run_ends opened) (λ others. (c : ℕ) → IsMember set c ↔ Contains (run_ends others) c)
    → IsUtf8 text → BeginsOutside set text len → len ≢ 0 → IsRunAt opened (chars (take len text))
run-begins opened set text len has ends utf8 begins some =
    let found = some_of (other_run_ends opened) has in
    let same : (c : ℕ) → IsMember set c ↔ Contains (run_ends found.0) c = rw found.1 at ends in
    let run_utf8 : IsUtf8 (take len text) = IsUtf8-take text len utf8 (IsCharBoundary-from_drop text len begins.within begins.rest_utf8) in
    let width : length (take len text) ≡ len = length-take-le len text begins.within in
    record {
      others = found.0;
      has_runs = found.1;
      filled = λ none. absurd (omega (arith, filled_chars (take len text) run_utf8 (rw width (positive len some)), ap length none));
      ordinary = All-weaker (λ c. ¬ IsMember set c) (λ c. ¬ Contains (run_ends found.0) c) (λ c out. λ contained. out ((same c).1 contained)) (chars (take len text)) begins.outside;
    }
