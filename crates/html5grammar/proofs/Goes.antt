-- Characters that tell what they spell, and lead from one open item to the next.
use Rattle.std.proofs.Common.{◌≡◌, ℕ, Bool, true, false, List, [], ◌∷◌, ◌++◌, refl, ap, sym, ◌∙◌, subst}
use Rattle.std.specs.Prelude.{map}
use Rattle.std.specs.List.{list_all}
use Rattle.std.proofs.lemmas.Bool.{false≢true, and_parts}
use Rattle.html5ever_interface.specs.Token.{Told, TagOf}
use Rattle.html5grammar.specs.Spelled.{Spelled, spell}
use Rattle.html5reading.specs.Reading.Here.{Tells, TellsTag}
use Rattle.html5reading.specs.Reading.{Here}
use Rattle.html5reading.specs.Start.{Open, is_undecided_open}
use Rattle.html5reading.specs.Start.Open.{Between, InReference, InDeclaration, InDoctypeKeyword}
use Rattle.html5reading.specs.Start.Mode.{Data}
use Rattle.html5reading.specs.Machine.{step_at}
use Rattle.std.proofs.lemmas.List.{map-append}

-- the characters that are spelled

abbrev pub characters : List Spelled → List ℕ
characters cells = map (λ (here : Spelled). here.character) cells

pub characters-append : (xs ys : List Spelled) → characters (xs ++ ys) ≡ characters xs ++ characters ys
characters-append xs ys = map-append (λ (here : Spelled). here.character) xs ys

pub characters-spell : (tells : ℕ → List Told) (run : List ℕ) → characters (spell tells run) ≡ run
characters-spell tells [] = refl
characters-spell tells (c ∷ run) = ap (λ l. c ∷ l) (characters-spell tells run)

-- two pieces after one another
pub characters-two : (xs ys : List Spelled) (X Y : List ℕ) → characters xs ≡ X → characters ys ≡ Y → characters (xs ++ ys) ≡ X ++ Y
characters-two xs ys X Y e f = characters-append xs ys ∙ rw (e, f) refl

abbrev after_step : Here Open → Open
after_step (Tells told later) = later
after_step (TellsTag told tag) = Between Data

abbrev tells_tag : Here Open → Bool
tells_tag (Tells told later) = false
tells_tag (TellsTag told tag) = true

module _ (exact : Bool) where
  -- each character tells what it spells, and leads from one open item to the next
  unfoldable pub Goes : Open → List Spelled → Open → Type 0
  Goes opened [] later = opened ≡ later
  Goes opened (here ∷ more) later =
      (next : Open) × (step_at exact opened here.character ≡ Tells here.told next) × Goes next more later

  pub Goes-append : (a b c : Open) (xs ys : List Spelled) → Goes a xs b → Goes b ys c → Goes a (xs ++ ys) c
  unfolding Goes
  Goes-append a b c [] ys f g = subst (λ x. Goes x ys c) (sym f) g
  Goes-append a b c (x ∷ xs) ys f g = (f.0, f.1, Goes-append f.0 b c xs ys f.2 g)

  pub Goes-one : (a b : Open) (c : ℕ) (told : List Told) → step_at exact a c ≡ Tells told b → Goes a (record { character = c; told = told } ∷ []) b
  unfolding Goes
  Goes-one a b c told e = (b, e, refl)

  -- what is undecided stays open, so that nothing is undecided before what is decided
  stays_decided : (opened next : Open) (c : ℕ) (told : List Told) → step_at exact opened c ≡ Tells told next → is_undecided_open next ≡ false
      → is_undecided_open opened ≡ false
  unfolding step_at
  stays_decided (InReference stand held) next c told e h = ap (λ here. is_undecided_open (after_step here)) e ∙ h
  stays_decided (InDeclaration held) next c told e h = ap (λ here. is_undecided_open (after_step here)) e ∙ h
  stays_decided (InDoctypeKeyword held d) next c told e h = ap (λ here. is_undecided_open (after_step here)) e ∙ h
  stays_decided opened next c told e h = refl

  pub Goes-decided : (a b : Open) (cells : List Spelled) → Goes a cells b → is_undecided_open b ≡ false → is_undecided_open a ≡ false
  unfolding Goes
  Goes-decided a b [] goes h = ap is_undecided_open goes ∙ h
  Goes-decided a b (here ∷ more) goes h = stays_decided a goes.0 here.character here.told goes.1 (Goes-decided goes.0 b more goes.2 h)

  -- nor where a tag is sent
  pub tag-decided : (opened : Open) (c : ℕ) (told : List Told) (tag : TagOf) → step_at exact opened c ≡ TellsTag told tag → is_undecided_open opened ≡ false
  unfolding step_at
  tag-decided (InReference stand held) c told tag e = absurd (false≢true (ap tells_tag e))
  tag-decided (InDeclaration held) c told tag e = absurd (false≢true (ap tells_tag e))
  tag-decided (InDoctypeKeyword held d) c told tag e = absurd (false≢true (ap tells_tag e))
  tag-decided opened c told tag e = refl

  -- a run of characters that only make the open item grow
  pub goes-run : {X : Type 0} → (opened : X → Open) (more : X → List ℕ → X) (is_kind : ℕ → Bool) (tells : ℕ → List Told)
      → ((x : X) → more x [] ≡ x)
      → ((x : X) (c : ℕ) (run : List ℕ) → more x (c ∷ run) ≡ more (more x (c ∷ [])) run)
      → ((x : X) (c : ℕ) → is_kind c ≡ true → step_at exact (opened x) c ≡ Tells (tells c) (opened (more x (c ∷ []))))
      → (x : X) (run : List ℕ) → list_all is_kind run ≡ true → Goes (opened x) (spell tells run) (opened (more x run))
  unfolding Goes
  goes-run opened more is_kind tells none cons step x [] all = ap opened (sym (none x))
  goes-run opened more is_kind tells none cons step x (c ∷ run) all =
      let p = and_parts (is_kind c) (list_all is_kind run) all in (
        opened (more x (c ∷ [])),
        step x c p.0,
        subst (λ y. Goes (opened (more x (c ∷ []))) (spell tells run) (opened y)) (sym (cons x c run))
            (goes-run opened more is_kind tells none cons step (more x (c ∷ [])) run p.1),
      )
