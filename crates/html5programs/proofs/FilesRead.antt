-- Files that are read one after the other.
use Rattle.std.proofs.Common.{◌≡◌, ℕ, ◌+◌, ◌<◌, List, [], ◌∷◌, ◌++◌, length, map, take, get_or, Option, refl, sym, ap, ◌∙◌, subst}
use Rattle.std.specs.Borrow.{Bor}
use Rattle.std.proofs.lemmas.List.{take_more, map-append}
use Rattle.html5programs.specs.declared.encoded.PageDecoding.{PageDecoding}
use Rattle.html5programs.specs.Filtering.{Making, ReadsFile, ReadsFiles}
use Rattle.markup5ever.specs.NamedReferences.{NamedReference}

module _ {T M S : Type 0} (means : Making T M S) (references : List NamedReference) (decoding : PageDecoding) where
  pub reads-none : (known : Option (List ℕ)) (s : S) → ReadsFiles means references decoding [] known known s s
  unfolding ReadsFiles
  reads-none known s = (refl, refl)

  pub reads-last : (files : List (List ℕ)) (file : List ℕ) (unread now left : Option (List ℕ)) (before between after : S)
      → ReadsFiles means references decoding files unread now before between → ReadsFile means references decoding file now left between after
      → ReadsFiles means references decoding (files ++ file ∷ []) unread left before after
  unfolding ReadsFiles
  reads-last [] file unread now left before between after (same, still) read = (
    left,
    after,
    subst (λ s. ReadsFile means references decoding file unread left s after) still (subst (λ k. ReadsFile means references decoding file k left between after) same read),
    (refl, refl),
  )
  reads-last (first ∷ files) file unread now left before between after (known, s, one, others) read =
      (known, s, one, reads-last files file known now left s between after others read)

  -- the file at a place was read after those before it
  pub reads-more : (files : List (Bor (List ℕ))) (i : ℕ) (other : Bor (List ℕ)) (unread now left : Option (List ℕ)) (before between after : S) → i < length files
      → ReadsFiles means references decoding (map (λ file. file.now) (take i files)) unread now before between
      → ReadsFile means references decoding (get_or files i other).now now left between after
      → ReadsFiles means references decoding (map (λ file. file.now) (take (i + 1) files)) unread left before after
  reads-more files i other unread now left before between after inside had read =
      let more : map (λ (file : Bor (List ℕ)). file.now) (take (i + 1) files) ≡ map (λ (file : Bor (List ℕ)). file.now) (take i files) ++ (get_or files i other).now ∷ [] =
      ap (map (λ (file : Bor (List ℕ)). file.now)) (take_more files i other inside)
      ∙ map-append (λ (file : Bor (List ℕ)). file.now) (take i files) (get_or files i other ∷ []) in
      subst (λ l. ReadsFiles means references decoding l unread left before after) (sym more)
      (reads-last (map (λ file. file.now) (take i files)) (get_or files i other).now unread now left before between after had read)
