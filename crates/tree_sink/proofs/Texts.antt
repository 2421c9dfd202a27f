-- A text that is put byte by byte is as one that is put at once.
use Rattle.std.specs.Prelude.{◌≡◌, ℕ, zero, suc, Bool, true, false, List, [], ◌∷◌, ◌++◌, Option, Some, length, ◌-◌, ◌==◌, refl}
use Rattle.std.proofs.Common.{ap, arith, sym, ◌∙◌}
use Rattle.std.proofs.lemmas.Bool.{eqb-true}
use Rattle.tree_construction.specs.Page.{Edit, Place}
use Rattle.tree_construction.specs.Page.Edit.{PutText, ParseError}
use Rattle.tree_construction.specs.declared.mistakes.Mistake.{Mistake}
use Rattle.tree_sink.specs.Edited.{IsTold}
use Rattle.tree_sink.specs.Sinks.{TreeMeans, erred, mistaken_text_put, next_after, parted_text_put, stepped, text_put}

module _ {S : Type 0} (step : S → Edit → S) (place : Place)
    (joins : (s : S) (place : Place) (a b : List ℕ) → step (step s (PutText place a)) (PutText place b) ≡ step s (PutText place (a ++ b))) where
  pub stepped-text : (s : S) (c : ℕ) (text : List ℕ) (edits : List Edit)
      → stepped step s (text_put place (c ∷ text) edits) ≡ step (stepped step s edits) (PutText place (c ∷ text))
  unfolding text_put stepped
  stepped-text s c [] edits = refl
  stepped-text s c (d ∷ text) edits =
      stepped-text s d text (PutText place (c ∷ []) ∷ edits) ∙ joins (stepped step s edits) place (c ∷ []) (d ∷ text)

-- ---- a text with a parse error before each byte

module _ {S : Type 0} (step : S → Edit → S) (mistake : Mistake) where
  erred-later : (n : ℕ) (s : S) → erred step mistake n (step s (ParseError mistake)) ≡ erred step mistake (suc n) s
  unfolding erred
  erred-later zero s = refl
  erred-later (suc n) s = ap (λ t. step t (ParseError mistake)) (erred-later n s)

module _ {S : Type 0} (step : S → Edit → S) (mistake : Mistake) (place : Place)
    (joins : (s : S) (place : Place) (a b : List ℕ) → step (step s (PutText place a)) (PutText place b) ≡ step s (PutText place (a ++ b)))
    (apart : (s : S) (place : Place) (text : List ℕ) (mistake : Mistake)
    → step (step s (ParseError mistake)) (PutText place text) ≡ step (step s (PutText place text)) (ParseError mistake)) where
  -- the errors may come first
  erred-apart : (n : ℕ) (text : List ℕ) (s : S) → erred step mistake n (step s (PutText place text)) ≡ step (erred step mistake n s) (PutText place text)
  unfolding erred
  erred-apart zero text s = refl
  erred-apart (suc n) text s =
      ap (λ t. step t (ParseError mistake)) (erred-apart n text s) ∙ sym (apart (erred step mistake n s) place text mistake)

  stepped-mistaken : (c : ℕ) (text : List ℕ) (s : S) (edits : List Edit)
      → stepped step s (mistaken_text_put mistake place (c ∷ text) edits)
      ≡ step (erred step mistake (length (c ∷ text)) (stepped step s edits)) (PutText place (c ∷ text))
  unfolding mistaken_text_put stepped erred
  stepped-mistaken c [] s edits = refl
  stepped-mistaken c (d ∷ text) s edits =
      let before : S = stepped step s edits in
      let n : ℕ = length (d ∷ text) in
      stepped-mistaken d text s (PutText place (c ∷ []) ∷ ParseError mistake ∷ edits)
      ∙ ap (λ t. step t (PutText place (d ∷ text))) (erred-apart n (c ∷ []) (step before (ParseError mistake)))
      ∙ joins (erred step mistake n (step before (ParseError mistake))) place (c ∷ []) (d ∷ text)
      ∙ ap (λ t. step t (PutText place (c ∷ d ∷ text))) (erred-later step mistake n before)

  pub stepped-parted : (c : ℕ) (text : List ℕ) (s : S) (edits : List Edit)
      → stepped step s (parted_text_put mistake place (c ∷ text) edits)
      ≡ step (erred step mistake (length text) (stepped step s edits)) (PutText place (c ∷ text))
  unfolding mistaken_text_put stepped erred
  stepped-parted c [] s edits = refl
  stepped-parted c (d ∷ text) s edits =
      let before : S = stepped step s edits in
      let n : ℕ = length (d ∷ text) in
      stepped-mistaken d text s (PutText place (c ∷ []) ∷ edits)
      ∙ ap (λ t. step t (PutText place (d ∷ text))) (erred-apart n (c ∷ []) before)
      ∙ joins (erred step mistake n before) place (c ∷ []) (d ∷ text)

-- no error changes which node is the next
pub erred-next : {Q S : Type 0} (means : TreeMeans Q S) → ((s : S) (edit : Edit) → means.next (means.step s edit) ≡ next_after edit (means.next s))
    → (mistake : Mistake) (n : ℕ) (s : S) → means.next (erred means.step mistake n s) ≡ means.next s
unfolding erred
erred-next means counts mistake zero s = refl
erred-next means counts mistake (suc n) s =
    counts (erred means.step mistake n s) (ParseError mistake) ∙ erred-next means counts mistake n s

pub parted-none : (mistake : Mistake) (place : Place) (text : List ℕ) (edits : List Edit) → (length text == 0) ≡ true
    → parted_text_put mistake place text edits ≡ edits
parted-none mistake place [] edits none = refl
parted-none mistake place (c ∷ text) edits none = absurd (omega (arith, eqb-true (length (c ∷ text)) 0 none))

pub text-none : (place : Place) (text : List ℕ) (edits : List Edit) → (length text == 0) ≡ true → text_put place text edits ≡ edits
unfolding text_put
text-none place [] edits none = refl
text-none place (c ∷ text) edits none = absurd (omega (arith, eqb-true (length (c ∷ text)) 0 none))

-- ---- what an editor has told its sink

-- after an edit that was told and noted
pub told_after : {Q S : Type 0} (means : TreeMeans Q S) (start : Option Q) (edits later : List Edit) (before after : Q) (edit : Edit) (failed : Bool)
    → (failed ≡ false → IsTold means start edits before) → means.state after ≡ means.step (means.state before) edit → later ≡ edit ∷ edits
    → (failed ≡ false → IsTold means start later after)
unfolding stepped
told_after means start edits later before after edit failed told steps noted well first is =
    steps ∙ (ap (λ s. means.step s edit) (told well first is) ∙ ap (stepped means.step (means.state first)) (sym noted))

-- after an edit that made a node, which was noted by the node's handle
pub told_made : {Q S : Type 0} (means : TreeMeans Q S) (start : Option Q) (edits later : List Edit) (before after : Q) (edit : ℕ → Edit) (n next : ℕ)
    (failed : Bool) → (failed ≡ false → IsTold means start edits before) → n ≡ next
    → means.state after ≡ means.step (means.state before) (edit next) → later ≡ edit n ∷ edits → (failed ≡ false → IsTold means start later after)
told_made means start edits later before after edit n next failed told names steps noted =
    told_after means start edits later before after (edit next) failed told steps (noted ∙ ap (λ m. edit m ∷ edits) names)

-- before any edit
pub told_first : {Q S : Type 0} (means : TreeMeans Q S) (start : Option Q) (edits : List Edit) (sink : Q) (failed : Bool) → start ≡ Some sink → edits ≡ []
    → (failed ≡ false → IsTold means start edits sink)
unfolding stepped
told_first means start edits sink failed begins none well first is =
    let is_some : Some sink ≡ Some first = sym begins ∙ is in
    let same : sink ≡ first = cc in
    ap means.state same ∙ ap (stepped means.step (means.state first)) (sym none)

-- after a text that is not empty
pub told_text : {Q S : Type 0} (means : TreeMeans Q S) (start : Option Q) (edits later : List Edit) (before after : Q) (place : Place) (text : List ℕ) (failed : Bool)
    → ((s : S) (place : Place) (a b : List ℕ) → means.step (means.step s (PutText place a)) (PutText place b) ≡ means.step s (PutText place (a ++ b)))
    → (length text == 0) ≡ false → (failed ≡ false → IsTold means start edits before)
    → means.state after ≡ means.step (means.state before) (PutText place text) → later ≡ text_put place text edits
    → (failed ≡ false → IsTold means start later after)
told_text means start edits later before after place [] failed joins some told steps noted well first is = cc
told_text means start edits later before after place (c ∷ text) failed joins some told steps noted well first is =
    steps
    ∙ (ap (λ s. means.step s (PutText place (c ∷ text))) (told well first is)
    ∙ (sym (stepped-text means.step place joins (means.state first) c text edits) ∙ ap (stepped means.step (means.state first)) (sym noted)))

-- after a text that is not empty, with a parse error before each byte but the first
pub told_parted : {Q S : Type 0} (means : TreeMeans Q S) (start : Option Q) (edits later : List Edit) (before after : Q) (mistake : Mistake)
    (place : Place) (text : List ℕ) (failed : Bool)
    → ((s : S) (place : Place) (a b : List ℕ) → means.step (means.step s (PutText place a)) (PutText place b) ≡ means.step s (PutText place (a ++ b)))
    → ((s : S) (place : Place) (text : List ℕ) (mistake : Mistake)
    → means.step (means.step s (ParseError mistake)) (PutText place text) ≡ means.step (means.step s (PutText place text)) (ParseError mistake))
    → (length text == 0) ≡ false → (failed ≡ false → IsTold means start edits before)
    → means.state after ≡ means.step (erred means.step mistake (length text - 1) (means.state before)) (PutText place text)
    → later ≡ parted_text_put mistake place text edits
    → (failed ≡ false → IsTold means start later after)
told_parted means start edits later before after mistake place [] failed joins apart some told steps noted well first is = cc
told_parted means start edits later before after mistake place (c ∷ text) failed joins apart some told steps noted well first is =
    let less : length (c ∷ text) - 1 ≡ length text = omega arith in
    steps
    ∙ (ap (λ n. means.step (erred means.step mistake n (means.state before)) (PutText place (c ∷ text))) less
    ∙ (ap (λ s. means.step (erred means.step mistake (length text) s) (PutText place (c ∷ text))) (told well first is)
    ∙ (sym (stepped-parted means.step mistake place joins apart c text (means.state first) edits)
    ∙ ap (stepped means.step (means.state first)) (sym noted))))
