-- Tokens that are handed on, one after the other.
use Rattle.std.proofs.Common.{◌≡◌, ℕ, ◌+◌, Bool, List, [], ◌∷◌, ◌++◌, length, refl, ap, sym, ◌∙◌, subst}
use Rattle.std.specs.Prelude.{encode_utf8}
use Rattle.std.proofs.lemmas.List.{append-nil, append_assoc}
use Rattle.html5places.specs.Marks.{Marks, Placed, waits}
use Rattle.html5places.specs.Placed.{Beginning, handed_on, has_token, placed_at_end, placed_by}
use Rattle.html5places.specs.Readers.{IsPart, Reader, Reading, Reads, ReadsEnd, StandsAfter, StopsAtEnd, StopsWithin, TellsToken, reading_of}
use Rattle.html5places.proofs.Pieces.{marks_from-one}
use Rattle.html5places.proofs.ManyCharacters.{stands-at_beginning, to-past, waiting-all}
use Rattle.html5places.proofs.Stepping.{handed_on-append, part-none}

-- some of all tokens were handed on, and the rest is left
pub record HandedSome {S : Type 0} (step : S → Placed → S) (h i : S) (all rest : List Placed) : Type 0 where
  pub front : List Placed
  pub parts : all ≡ front ++ rest
  pub state : i ≡ handed_on step h front

-- ---- what waited in the sink

waited : (t0 : Reader) (tokens all : List Placed) → tokens ≡ handed_on waits t0.sink.handler all → t0.sink.handler ≡ [] → tokens ≡ all
waited t0 tokens all kept none = kept ∙ ap (λ l. handed_on waits l all) none ∙ waiting-all [] all

-- whether a token is among what waited
pub token-handed : (t0 u : Reader) (text : List ℕ) (told : Bool)
    → Reads waits (reading_of t0) (reading_of u) t0.sink.handler u.sink.handler text → t0.sink.handler ≡ []
    → told ≡ has_token u.sink.handler → TellsToken (reading_of t0) text told
token-handed t0 u text told reads none is B before there =
    is ∙ ap has_token (waited t0 u.sink.handler (placed_by t0.rules B before text) (reads B before there).handler none)

module _ {S : Type 0} (step : S → Placed → S) where
  pub handed-none : (h : S) (all : List Placed) → HandedSome step h h all all
  unfolding handed_on
  handed-none h all = record { front = []; parts = refl; state = refl }

  pub handed-more : (h i j : S) (all rest : List Placed) (p : Placed) → HandedSome step h i all (p ∷ rest) → j ≡ step i p → HandedSome step h j all rest
  unfolding handed_on
  handed-more h i j all rest p some one = record {
    front = some.front ++ p ∷ [];
    parts = some.parts ∙ sym (append_assoc some.front (p ∷ []) rest);
    state = one ∙ ap (λ s. step s p) some.state ∙ sym (handed_on-append step h some.front (p ∷ []));
  }

  pub handed-next : (h i j : S) (all rest : List Placed) (p : Placed) (run : List ℕ) → HandedSome step h i all (p ∷ rest) → run ≡ p.run
      → j ≡ step i (record p { run = run }) → HandedSome step h j all rest
  handed-next h i j all rest p run some same one = handed-more h i j all rest p some (one ∙ ap (λ r. step i (record p { run = r })) same)

  pub handed-all : (h i : S) (all : List Placed) → HandedSome step h i all [] → i ≡ handed_on step h all
  handed-all h i all some = some.state ∙ ap (handed_on step h) (sym (append-nil some.front) ∙ sym some.parts)

  -- ---- what waited in the sink is handed on

  pub reads-handed : (t0 u v : Reader) (h i : S) (text : List ℕ)
      → Reads waits (reading_of t0) (reading_of u) t0.sink.handler u.sink.handler text → t0.sink.handler ≡ []
      → i ≡ handed_on step h u.sink.handler → v ≡ record u { sink = record u.sink { handler = [] } }
      → Reads step (reading_of t0) (reading_of v) h i text
  reads-handed t0 u v h i text reads none all left B before there =
      let one = reads B before there in
      record {
        stands = subst (λ (w : Reader). StandsAfter (reading_of w) B (before ++ text)) (sym left) (record { position = one.stands.position; marks = one.stands.marks });
        handler = all ∙ ap (handed_on step h) (waited t0 u.sink.handler (placed_by t0.rules B before text) one.handler none);
      }

  pub stops-handed : (t0 u : Reader) (h i : S) (text : List ℕ)
      → Reads waits (reading_of t0) (reading_of u) t0.sink.handler u.sink.handler text → t0.sink.handler ≡ []
      → IsPart step h u.sink.handler i → StopsWithin step (reading_of t0) h i text
  stops-handed t0 u h i text reads none part B before there =
      subst (λ l. IsPart step h l i) (waited t0 u.sink.handler (placed_by t0.rules B before text) (reads B before there).handler none) part

  -- the end, likewise

  pub end-handed : (t0 : Reader) (tokens : List Placed) (h i : S) → ReadsEnd waits (reading_of t0) t0.sink.handler tokens → t0.sink.handler ≡ []
      → i ≡ handed_on step h tokens → ReadsEnd step (reading_of t0) h i
  end-handed t0 tokens h i reads none all B before there =
      all ∙ ap (handed_on step h) (waited t0 tokens (placed_at_end t0.rules B before) (reads B before there) none)

  pub end-part : (t0 : Reader) (tokens : List Placed) (h i : S) → ReadsEnd waits (reading_of t0) t0.sink.handler tokens → t0.sink.handler ≡ []
      → IsPart step h tokens i → StopsAtEnd step (reading_of t0) h i
  end-part t0 tokens h i reads none part B before there =
      subst (λ l. IsPart step h l i) (waited t0 tokens (placed_at_end t0.rules B before) (reads B before there) none) part

  -- nothing was handed on
  pub nothing-handed : (h i : S) (all : List Placed) → i ≡ h → IsPart step h all i
  nothing-handed h i all same = part-none step h all i same

-- ---- the place after a character

pub place-after : {S : Type 0} (step : S → Placed → S) (r q : Reading) (h i : S) (c : ℕ) → Reads step r q h i (c ∷ [])
    → q.marks.to ≡ r.marks.to + length (encode_utf8 c)
place-after step r q h i c reads =
    let B : Beginning = record { start = r.position; marks = r.marks } in
    let one = reads B [] (stands-at_beginning r B refl refl) in
    ap (λ (m : Marks). m.to) (one.stands.marks ∙ marks_from-one q.rules r.position r.marks [] c) ∙ to-past q.rules r.position r.marks [] c

pub handed-nothing : {S : Type 0} (step : S → Placed → S) (h : S) → handed_on step h [] ≡ h
unfolding handed_on
handed-nothing step h = refl
