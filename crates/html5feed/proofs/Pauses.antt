-- Where a feed pauses: what was sent before says it, and so does the start after that.
use Rattle.std.proofs.Common.{◌≡◌, ℕ, Bool, true, false, List, [], ◌∷◌, ◌++◌, refl, ap, sym, ◌∙◌, length, drop, ◌<◌, suc, arith}
use Rattle.std.specs.Prelude.{if◌then◌else◌}
use Rattle.std.proofs.Math.Seq.{drop-append_seam}
use Rattle.std.proofs.lemmas.Bool.{false≢true}
use Rattle.std.proofs.lemmas.List.{append-nil, append_assoc}
use Rattle.html5ever_interface.proofs.Steppings.{stepped-append}
use Rattle.html5ever_interface.specs.Sink.{Means, Message, stepped, on_line}
use Rattle.html5ever_interface.specs.Token.{Told, Reply, is_tag}
use Rattle.html5ever_interface.specs.Token.Reply.{KeepOn}
use Rattle.html5reading.proofs.NoTags.{NoTags}
use Rattle.markup5ever.specs.declared.tokenizer_result.TokenizerResult.{TokenizerResult}
use Rattle.markup5ever.specs.declared.tokenizer_result.TokenizerResult.TheVariants.{Done, Script, EncodingIndicator}
use Rattle.html5reading.proofs.ReadingLemmas.{told-nil, told-append, after-nil, after-append}
use Rattle.html5reading.specs.Reading.{messages_so_far, state_after, start_after}
use Rattle.html5reading.specs.Start.{Start, Rules}
use Rattle.html5feed.specs.Feed.{Feed, pauses, takes_before, up_to_pause, reply_in, told_beyond, first_pause, pause_at, feed}

unfoldable pub NoTagMessages : List Message → Type 0
NoTagMessages [] = Unit {0}
NoTagMessages (m ∷ M) = (is_tag m.token ≡ false) × NoTagMessages M

pub no_tag_messages : (line : ℕ) (tokens : List Told) → NoTags tokens → NoTagMessages (on_line line tokens)
unfolding NoTagMessages NoTags
no_tag_messages line [] none = tt
no_tag_messages line (t ∷ ts) none = (none.0, no_tag_messages line ts none.1)

-- a choice that is made twice
pauses-if : {H : Type 0} → (p : Bool) (r a b c : Reply H) → pauses r ≡ p → a ≡ (if pauses b then b else c)
    → (if p then r else a) ≡ (if pauses (if p then r else b) then (if p then r else b) else c)
pauses-if true r a b c h e = rw h refl
pauses-if false r a b c h e = e

module _ {X S H : Type 0} (means : Means X S H) where
  pub first_pause-none : (s : S) → first_pause means s [] ≡ KeepOn
  unfolding first_pause
  first_pause-none s = refl

  pub first_pause-append : (s : S) (M N : List Message)
      → first_pause means s (M ++ N)
      ≡ (if pauses (first_pause means s M) then first_pause means s M else first_pause means (stepped means.step s M) N)
  unfolding first_pause stepped
  first_pause-append s [] N = refl
  first_pause-append s (m ∷ M) N =
      pauses-if (pauses (means.reply s m.token m.line)) (means.reply s m.token m.line) _ _ _ refl (first_pause-append (means.step s m.token m.line) M N)

  -- messages that get no other reply than to keep on
  pub first_pause-no_tags : ((s : S) (told : Told) (line : ℕ) → is_tag told ≡ false → means.reply s told line ≡ KeepOn)
      → (s : S) (M : List Message) → NoTagMessages M → first_pause means s M ≡ KeepOn
  unfolding first_pause NoTagMessages
  first_pause-no_tags keeps_on s [] none = refl
  first_pause-no_tags keeps_on s (m ∷ M) none =
      rw (keeps_on s m.token m.line none.0) (first_pause-no_tags keeps_on (means.step s m.token m.line) M none.1)

-- an answer that isn't `Done` is a pause
pub reply_in-pauses : {H T : Type 0} → (bytes : T → List ℕ) (answer : TokenizerResult H T) → (answer ≡ Done → ⊥) → pauses (reply_in bytes answer) ≡ true
reply_in-pauses bytes Done other = absurd (other refl)
reply_in-pauses bytes (Script handle) other = refl
reply_in-pauses bytes (EncodingIndicator text) other = refl

-- when nothing pauses in two texts, nothing pauses in each
pauses-parts : {H : Type 0} → (p : Bool) (r q : Reply H) → pauses r ≡ p → pauses (if pauses r then r else q) ≡ false
    → (pauses r ≡ false) × (pauses q ≡ false)
pauses-parts true r q h none = absurd (false≢true (sym none ∙ rw h h))
pauses-parts false r q h none = (h, rw h at none)

-- a feed after a pause, and one that goes on
up_to_pause-pauses : {H : Type 0} → (r : Reply H) (c : ℕ) (text : List ℕ) (rest : Feed H) → pauses r ≡ true
    → up_to_pause r c text rest ≡ record { taken = c ∷ []; left = text; answer = r }
unfolding up_to_pause
up_to_pause-pauses r c text rest h = rw h refl

up_to_pause-goes_on : {H : Type 0} → (r : Reply H) (c : ℕ) (text : List ℕ) (rest : Feed H) → pauses r ≡ false
    → up_to_pause r c text rest ≡ takes_before (c ∷ []) rest
unfolding up_to_pause
up_to_pause-goes_on r c text rest h = rw h refl

-- it takes the first character, whatever the reply
up_to_pause-takes : {H : Type 0} → (p : Bool) (r : Reply H) (c : ℕ) (text : List ℕ) (rest : Feed H) → pauses r ≡ p
    → (more : List ℕ) × ((up_to_pause r c text rest).taken ≡ c ∷ more)
up_to_pause-takes true r c text rest h = ([], ap (λ (f : Feed _). f.taken) (up_to_pause-pauses r c text rest h))
up_to_pause-takes false r c text rest h = (rest.taken, ap (λ (f : Feed _). f.taken) (up_to_pause-goes_on r c text rest h))

up_to_pause-parts : {H : Type 0} → (p : Bool) (r : Reply H) (c : ℕ) (text : List ℕ) (rest : Feed H) → pauses r ≡ p
    → rest.taken ++ rest.left ≡ text → (up_to_pause r c text rest).taken ++ (up_to_pause r c text rest).left ≡ c ∷ text
up_to_pause-parts true r c text rest h e = rw (up_to_pause-pauses r c text rest h) refl
up_to_pause-parts false r c text rest h e = rw (up_to_pause-goes_on r c text rest h) (ap (λ l. c ∷ l) e)

-- where it hands on no reply that pauses, nothing is left
up_to_pause-done : {H : Type 0} → (p : Bool) (r : Reply H) (c : ℕ) (text : List ℕ) (rest : Feed H) → pauses r ≡ p
    → (pauses rest.answer ≡ false → rest.left ≡ []) → pauses (up_to_pause r c text rest).answer ≡ false → (up_to_pause r c text rest).left ≡ []
up_to_pause-done true r c text rest h e =
    rw (up_to_pause-pauses r c text rest h) (λ done. absurd (false≢true (sym done ∙ h)))
up_to_pause-done false r c text rest h e = rw (up_to_pause-goes_on r c text rest h) e

up_to_pause-shorter : {H : Type 0} → (p : Bool) (r : Reply H) (c : ℕ) (text : List ℕ) (rest : Feed H) → pauses r ≡ p
    → (pauses rest.answer ≡ true → length rest.left < length text) → pauses (up_to_pause r c text rest).answer ≡ true
    → length (up_to_pause r c text rest).left < suc (length text)
up_to_pause-shorter true r c text rest h e = rw (up_to_pause-pauses r c text rest h) (λ pausing. omega arith)
up_to_pause-shorter false r c text rest h e = rw (up_to_pause-goes_on r c text rest h) (λ pausing. omega (arith, e pausing))

module _ {X S H : Type 0} (means : Means X S H) (rules : Rules) where
  -- what is sent beyond X is what the rest tells from the start after X
  pub told_beyond-after : (K : Start) (s : S) (X Z : List ℕ)
      → told_beyond means rules K s X Z ≡ messages_so_far means rules (start_after means rules K s X) (state_after means rules K s X) Z
  told_beyond-after K s X Z =
      ap (drop (length (messages_so_far means rules K s X))) (told-append means.step means.reply means.foreign rules K s X Z)
      ∙ drop-append_seam (messages_so_far means rules K s X) (messages_so_far means rules (start_after means rules K s X) (state_after means rules K s X) Z)

  -- the reply that pauses at a character, from the start at it
  unfoldable pub pause_here : Start → S → ℕ → Reply H
  pause_here K s c = first_pause means s (messages_so_far means rules K s (c ∷ []))

  pub pause_at-after : (K : Start) (s : S) (X : List ℕ) (c : ℕ)
      → pause_at means rules K s X c ≡ pause_here (start_after means rules K s X) (state_after means rules K s X) c
  unfolding pause_here
  pause_at-after K s X c = ap (first_pause means (state_after means rules K s X)) (told_beyond-after K s X (c ∷ []))

  -- the state after two texts
  pub state_beyond-append : (K : Start) (s : S) (X Y : List ℕ)
      → state_after means rules K s (X ++ Y)
      ≡ state_after means rules (start_after means rules K s X) (state_after means rules K s X) Y
  state_beyond-append K s X Y =
      ap (stepped means.step s) (told-append means.step means.reply means.foreign rules K s X Y) ∙ stepped-append means.step s _ _

  -- a feed after two texts is one after the second, from the start after the first
  pub feed-after : (K : Start) (s : S) (X Y Q : List ℕ)
      → feed means rules K s (X ++ Y) Q
      ≡ feed means rules (start_after means rules K s X) (state_after means rules K s X) Y Q
  unfolding feed
  feed-after K s X Y [] = refl
  feed-after K s X Y (c ∷ Q) =
      let here : pause_at means rules K s (X ++ Y) c ≡ pause_at means rules (start_after means rules K s X) (state_after means rules K s X) Y c =
      pause_at-after K s (X ++ Y) c
      ∙ ap (λ P. pause_here P (state_after means rules K s (X ++ Y)) c) (after-append means.step means.reply means.foreign rules K s X Y)
      ∙ ap (λ t. pause_here (start_after means rules (start_after means rules K s X) (state_after means rules K s X) Y) t c) (state_beyond-append K s X Y)
      ∙ sym (pause_at-after (start_after means rules K s X) (state_after means rules K s X) Y c) in
      ap (λ r. up_to_pause r c Q (feed means rules K s ((X ++ Y) ++ c ∷ []) Q)) here
      ∙ ap (λ l. up_to_pause (pause_at means rules (start_after means rules K s X) (state_after means rules K s X) Y c) c Q (feed means rules K s l Q)) (append_assoc X Y (c ∷ []))
      ∙ ap (up_to_pause (pause_at means rules (start_after means rules K s X) (state_after means rules K s X) Y c) c Q) (feed-after K s X (Y ++ c ∷ []) Q)

  -- a feed after X is one from the start after X
  pub feed-anew : (K : Start) (s : S) (X Q : List ℕ)
      → feed means rules K s X Q
      ≡ feed means rules (start_after means rules K s X) (state_after means rules K s X) [] Q
  feed-anew K s X Q = ap (λ l. feed means rules K s l Q) (sym (append-nil X)) ∙ feed-after K s X [] Q

  -- a feed whose first character is c
  pub feed-cons : (K : Start) (s : S) (c : ℕ) (Q : List ℕ)
      → feed means rules K s [] (c ∷ Q)
      ≡ up_to_pause (pause_here K s c) c Q (feed means rules (start_after means rules K s (c ∷ [])) (state_after means rules K s (c ∷ [])) [] Q)
  unfolding feed stepped
  feed-cons K s c Q =
      let state : state_after means rules K s [] ≡ s = ap (stepped means.step s) (told-nil means.step means.reply means.foreign rules K s) in
      ap (λ r. up_to_pause r c Q (feed means rules K s (c ∷ []) Q))
      (pause_at-after K s [] c ∙ ap (λ P. pause_here P (state_after means rules K s []) c) (after-nil means.step means.reply means.foreign rules K s) ∙ ap (λ t. pause_here K t c) state)
      ∙ ap (up_to_pause (pause_here K s c) c Q) (feed-anew K s (c ∷ []) Q)

  pub feed-pauses : (K : Start) (s : S) (c : ℕ) (Q : List ℕ) → pauses (pause_here K s c) ≡ true
      → feed means rules K s [] (c ∷ Q) ≡ record { taken = c ∷ []; left = Q; answer = pause_here K s c }
  feed-pauses K s c Q h = feed-cons K s c Q ∙ up_to_pause-pauses _ c Q _ h

  pub feed-takes : (K : Start) (s : S) (c : ℕ) (Q : List ℕ) → (more : List ℕ) × ((feed means rules K s [] (c ∷ Q)).taken ≡ c ∷ more)
  feed-takes K s c Q = rw (feed-cons K s c Q) (up_to_pause-takes (pauses (pause_here K s c)) _ c Q _ refl)

  -- a feed takes what nothing pauses in, and goes on after it
  pub feed-goes_on : (K : Start) (s : S) (Y Q : List ℕ) → pauses (first_pause means s (messages_so_far means rules K s Y)) ≡ false
      → feed means rules K s [] (Y ++ Q)
      ≡ takes_before Y (feed means rules (start_after means rules K s Y) (state_after means rules K s Y) [] Q)
  unfolding stepped pause_here first_pause
  feed-goes_on K s [] Q h =
      sym (ap (λ P. takes_before [] (feed means rules P (state_after means rules K s []) [] Q)) (after-nil means.step means.reply means.foreign rules K s)
      ∙ ap (λ t. takes_before [] (feed means rules K t [] Q)) (ap (stepped means.step s) (told-nil means.step means.reply means.foreign rules K s)))
  feed-goes_on K s (c ∷ Y) Q h =
      let P : Start = start_after means rules K s (c ∷ []) in
      let t : S = state_after means rules K s (c ∷ []) in
      let both = pauses-parts (pauses (pause_here K s c)) (pause_here K s c) (first_pause means t (messages_so_far means rules P t Y)) refl
      (sym (ap pauses (ap (first_pause means s) (told-append means.step means.reply means.foreign rules K s (c ∷ []) Y) ∙ first_pause-append means s _ _)) ∙ h) in
      feed-cons K s c (Y ++ Q)
      ∙ up_to_pause-goes_on _ c (Y ++ Q) _ both.0
      ∙ ap (takes_before (c ∷ [])) (feed-goes_on P t Y Q both.1)
      ∙ ap (λ N. takes_before (c ∷ Y) (feed means rules N (state_after means rules P t Y) [] Q)) (sym (after-append means.step means.reply means.foreign rules K s (c ∷ []) Y))
      ∙ ap (λ v. takes_before (c ∷ Y) (feed means rules (start_after means rules K s (c ∷ Y)) v [] Q)) (sym (state_beyond-append K s (c ∷ []) Y))

  -- a feed takes a prefix of the queue's text
  pub feed-parts : (K : Start) (s : S) (X Q : List ℕ) → (feed means rules K s X Q).taken ++ (feed means rules K s X Q).left ≡ Q
  unfolding feed
  feed-parts K s X [] = refl
  feed-parts K s X (c ∷ Q) = up_to_pause-parts (pauses (pause_at means rules K s X c)) _ c Q _ refl (feed-parts K s (X ++ c ∷ []) Q)

  pub feed-done : (K : Start) (s : S) (X Q : List ℕ) → pauses (feed means rules K s X Q).answer ≡ false → (feed means rules K s X Q).left ≡ []
  unfolding feed
  feed-done K s X [] done = refl
  feed-done K s X (c ∷ Q) done = up_to_pause-done (pauses (pause_at means rules K s X c)) _ c Q _ refl (feed-done K s (X ++ c ∷ []) Q) done

  pub feed-shorter : (K : Start) (s : S) (X Q : List ℕ) → pauses (feed means rules K s X Q).answer ≡ true
      → length (feed means rules K s X Q).left < length Q
  unfolding feed
  feed-shorter K s X [] pausing = absurd (false≢true pausing)
  feed-shorter K s X (c ∷ Q) pausing =
      up_to_pause-shorter (pauses (pause_at means rules K s X c)) _ c Q _ refl (feed-shorter K s (X ++ c ∷ []) Q) pausing
