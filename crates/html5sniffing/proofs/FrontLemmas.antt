-- The front of a page is known once it is whole, whatever follows it.
use Rattle.std.proofs.Common.{◌≡◌, ℕ, ◌+◌, ◌<◌, ◌≤◌, min, Bool, true, false, List, [], ◌∷◌, ◌++◌, length, length-take, take, drop, take-append-drop, nat_le, ⊎_elim, Option, None, Some, IfSome, refl, sym, ap, ◌∙◌, subst, inl, inr, arith, append-nil}
use Rattle.std.specs.Prelude.{◌⊎◌, ◌&&◌, ◌||◌, not, if◌then◌else◌}
use Rattle.std.specs.Io.KnownBytes.{Consumes, IsAtEnd, prepend_known}
use Rattle.std.specs.List.{list_all, prefix_len}
use Rattle.std.proofs.lemmas.Bool.{and_parts, cases_lt, false≢true, leb-true}
use Rattle.std.proofs.lemmas.List.{take-append-le, take_all}
use Rattle.std.proofs.lemmas.List.Folds.{list_all-append}
use Rattle.html5encodings.specs.Iso2022Jp.{is_plain}
use Rattle.html5encodings.specs.declared.encoding.Encoding.{Encoding}
use Rattle.html5sniffing.specs.PageEncoding.{IsWhole, encoding_by, encoding_of_page, front_of, looks_further}
use Rattle.markup5ever.specs.NamedReferences.{NamedReference}

-- how many bytes at the front are plain
abbrev plain : List ℕ → ℕ
plain bytes = prefix_len is_plain bytes

step-stop : (t : Bool) (x : ℕ) (xs ys : List ℕ) → is_plain x ≡ t → (list_all is_plain xs ≡ false → plain (xs ++ ys) ≡ plain xs)
    → (t && list_all is_plain xs) ≡ false → plain (x ∷ (xs ++ ys)) ≡ plain (x ∷ xs)
step-stop true x xs ys here later is = rw here (ap (λ n. 1 + n) (later is))
step-stop false x xs ys here later is = rw here refl

-- if one of them is not, the rest counts for nothing
plain-stop : (xs ys : List ℕ) → list_all is_plain xs ≡ false → plain (xs ++ ys) ≡ plain xs
plain-stop [] ys is = absurd (false≢true (sym is))
plain-stop (x ∷ xs) ys is = step-stop (is_plain x) x xs ys refl (plain-stop xs ys) is

step-all : (t : Bool) (x : ℕ) (xs ys : List ℕ) → is_plain x ≡ t → (list_all is_plain xs ≡ true → length xs ≤ plain (xs ++ ys))
    → (t && list_all is_plain xs) ≡ true → length (x ∷ xs) ≤ plain (x ∷ (xs ++ ys))
step-all true x xs ys here later is = rw here (omega (arith, later is))
step-all false x xs ys here later is = absurd (false≢true is)

-- where all are, they all count
plain-all : (xs ys : List ℕ) → list_all is_plain xs ≡ true → length xs ≤ plain (xs ++ ys)
plain-all [] ys is = omega arith
plain-all (x ∷ xs) ys is = step-all (is_plain x) x xs ys refl (plain-all xs ys) is

step-within : (t : Bool) (x : ℕ) (xs : List ℕ) → is_plain x ≡ t → plain xs ≤ length xs → plain (x ∷ xs) ≤ length (x ∷ xs)
step-within true x xs here later = rw here (omega (arith, later))
step-within false x xs here later = rw here (omega arith)

plain-within : (xs : List ℕ) → plain xs ≤ length xs
plain-within [] = omega arith
plain-within (x ∷ xs) = step-within (is_plain x) x xs refl (plain-within xs)

-- the plain bytes at the front, at most 65,536
abbrev long_front : List ℕ → List ℕ
long_front bytes = take (min (plain bytes) 65536) bytes

min-within : (m n : ℕ) → m ≤ n → min m 65536 ≤ n
min-within m n within = omega (arith, within)

long-stop : (bytes rest : List ℕ) → list_all is_plain bytes ≡ false → long_front (bytes ++ rest) ≡ long_front bytes
long-stop bytes rest stops =
    ap (λ n. take (min n 65536) (bytes ++ rest)) (plain-stop bytes rest stops)
    ∙ take-append-le (min (plain bytes) 65536) bytes rest (min-within (plain bytes) (length bytes) (plain-within bytes))

min-full : (m n : ℕ) → n ≤ m → 65536 ≤ n → min m 65536 ≡ 65536
min-full m n many full = omega (arith, many, full)

long-full : (bytes rest : List ℕ) → 65536 ≤ length bytes → (t : Bool) → list_all is_plain bytes ≡ t → long_front (bytes ++ rest) ≡ long_front bytes
long-full bytes rest full false is = long-stop bytes rest is
long-full bytes rest full true is =
    let own : length bytes ≤ plain bytes = subst (λ (l : List ℕ). length bytes ≤ plain l) (append-nil bytes) (plain-all bytes [] is) in
    ap (λ n. take n (bytes ++ rest)) (min-full (plain (bytes ++ rest)) (length bytes) (plain-all bytes rest is) full)
    ∙ take-append-le 65536 bytes rest full
    ∙ sym (ap (λ n. take n bytes) (min-full (plain bytes) (length bytes) own full))

abbrev pick : Bool → List ℕ → List ℕ → List ℕ
pick b x y = if b then x else y

module _ (references : List NamedReference) (said fallback : Option Encoding) where
  longer : (bytes rest : List ℕ) (b : Bool) → (b ≡ true → (65536 ≤ length bytes) ⊎ (list_all is_plain bytes ≡ false))
      → pick b (long_front (bytes ++ rest)) (take 1024 bytes) ≡ pick b (long_front bytes) (take 1024 bytes)
  longer bytes rest false further = refl
  longer bytes rest true further = by (further refl) where
    by : (65536 ≤ length bytes) ⊎ (list_all is_plain bytes ≡ false) → long_front (bytes ++ rest) ≡ long_front bytes
    by (inl full) = long-full bytes rest full (list_all is_plain bytes) refl
    by (inr stops) = long-stop bytes rest stops

  pub front-whole : (bytes rest : List ℕ) → IsWhole references said fallback bytes
      → front_of references said fallback (bytes ++ rest) ≡ front_of references said fallback bytes
  unfolding front_of
  front-whole bytes rest whole =
      ap (λ l. pick (looks_further references said fallback l) (long_front (bytes ++ rest)) l) (take-append-le 1024 bytes rest whole.first)
      ∙ longer bytes rest (looks_further references said fallback (take 1024 bytes)) whole.further

  pub by-whole : (bytes rest : List ℕ) → IsWhole references said fallback bytes
      → encoding_by references said fallback (bytes ++ rest) ≡ encoding_by references said fallback bytes
  by-whole bytes rest whole = ap (encoding_of_page references said fallback) (front-whole bytes rest whole)

  -- bytes that a source gave first, up to its end or as many as have the front, tell the encoding of all
  pub by-read : (before after : Option (List ℕ)) (front : List ℕ) (e : Encoding) → Consumes before after front
      → IsWhole references said fallback front ⊎ IsAtEnd after → e ≡ encoding_by references said fallback front
      → IfSome before (λ bytes. e ≡ encoding_by references said fallback bytes)
  by-read None after front e given enough is = tt
  by-read (Some xs) None front e given enough is = absurd given
  by-read (Some xs) (Some ys) front e given (inl whole) is =
      is ∙ sym (by-whole front ys whole) ∙ ap (encoding_by references said fallback) (sym given)
  by-read (Some xs) (Some ys) front e given (inr end) is =
      is ∙ ap (encoding_by references said fallback) (sym (given ∙ ap (λ l. front ++ l) end ∙ append-nil front))

-- a front of which more is looked at, with the bytes that came last
pub long-whole : (references : List NamedReference) (said fallback : Option Encoding) (bytes : List ℕ) (before n : ℕ) (goes_on past : Bool) → 1024 ≤ length bytes
    → n ≡ length bytes → goes_on ≡ list_all is_plain (drop before bytes) → past ≡ (nat_le 65536 n || not goes_on) → past ≡ true
    → IsWhole references said fallback bytes
long-whole references said fallback bytes before n goes_on past first len plain_is is whole = record {
  first = first;
  further = λ _. why (nat_le 65536 (length bytes)) (list_all is_plain (drop before bytes)) (list_all is_plain bytes) refl refl refl
      (sym (is ∙ ap (λ m. nat_le 65536 m || not goes_on) len ∙ ap (λ g. nat_le 65536 (length bytes) || not g) plain_is) ∙ whole);
} where
  all-drop : list_all is_plain bytes ≡ true → list_all is_plain (drop before bytes) ≡ true
  all-drop all = (and_parts (list_all is_plain (take before bytes)) (list_all is_plain (drop before bytes))
      (sym (list_all-append is_plain (take before bytes) (drop before bytes)) ∙ ap (list_all is_plain) (take-append-drop before bytes) ∙ all)).1

  why : (long rest all : Bool) → nat_le 65536 (length bytes) ≡ long → list_all is_plain (drop before bytes) ≡ rest → list_all is_plain bytes ≡ all
      → (long || not rest) ≡ true → (65536 ≤ length bytes) ⊎ (list_all is_plain bytes ≡ false)
  why true rest all l r a is = inl (leb-true 65536 (length bytes) l)
  why false true all l r a is = absurd (false≢true is)
  why false false false l r a is = inr a
  why false false true l r a is = absurd (false≢true (sym r ∙ all-drop a))

-- as many bytes as there are, at most
pub take-min : (n : ℕ) (xs : List ℕ) → take (min n (length xs)) xs ≡ take n xs
take-min n xs = ⊎_elim
    (λ (below : n < length xs). ap (λ m. take m xs) (omega (arith, below)))
    (λ (beyond : length xs ≤ n). ap (λ m. take m xs) (min-beyond beyond) ∙ take_all (length xs) xs (omega arith) ∙ sym (take_all n xs beyond))
    (cases_lt n (length xs)) where
      min-beyond : length xs ≤ n → min n (length xs) ≡ length xs
      min-beyond beyond = omega (arith, beyond)

abbrev looks : List NamedReference → Option Encoding → Option Encoding → List ℕ → Bool
looks references said fallback bytes = looks_further references said fallback (take 1024 bytes)

looks-is : (references : List NamedReference) (said fallback : Option Encoding) (bytes first : List ℕ) (b t : Bool) → first ≡ take 1024 bytes
    → b ≡ looks_further references said fallback first → b ≡ t → looks references said fallback bytes ≡ t
looks-is references said fallback bytes first b t is by same = sym (ap (looks_further references said fallback) is) ∙ sym by ∙ same

-- the front, by its length
pub front-further : (references : List NamedReference) (said fallback : Option Encoding) (bytes first : List ℕ) (b : Bool) (p n : ℕ) → first ≡ take 1024 bytes
    → b ≡ looks_further references said fallback first → b ≡ true → p ≡ plain bytes → n ≡ min p 65536
    → take n bytes ≡ front_of references said fallback bytes
unfolding front_of
front-further references said fallback bytes first b p n is by so counted len =
    ap (λ m. take m bytes) (len ∙ ap (λ m. min m 65536) counted)
    ∙ sym (ap (λ t. pick t (long_front bytes) (take 1024 bytes)) (looks-is references said fallback bytes first b true is by so))

pub further-within : (bytes : List ℕ) (p n : ℕ) → p ≡ plain bytes → n ≡ min p 65536 → n ≤ length bytes
further-within bytes p n counted len =
    subst (λ m. m ≤ length bytes) (sym (len ∙ ap (λ m. min m 65536) counted)) (min-within (plain bytes) (length bytes) (plain-within bytes))

pub front-first : (references : List NamedReference) (said fallback : Option Encoding) (bytes first : List ℕ) (b : Bool) → first ≡ take 1024 bytes
    → b ≡ looks_further references said fallback first → b ≡ false → take (length first) bytes ≡ front_of references said fallback bytes
unfolding front_of
front-first references said fallback bytes first b is by not_so =
    ap (λ l. take (length l) bytes) is ∙ ap (λ m. take m bytes) (length-take 1024 bytes) ∙ take-min 1024 bytes
    ∙ sym (ap (λ t. pick t (long_front bytes) (take 1024 bytes)) (looks-is references said fallback bytes first b false is by not_so))

pub first-within : (bytes first : List ℕ) → first ≡ take 1024 bytes → length first ≤ length bytes
first-within bytes first is =
    subst (λ l. length l ≤ length bytes) (sym is) (subst (λ m. m ≤ length bytes) (sym (length-take 1024 bytes)) (omega arith))

-- the front is whole, or the source is at its end
pub enough : (references : List NamedReference) (said fallback : Option Encoding) (front : List ℕ) (after : Option (List ℕ)) (ended : Bool)
    → (ended ≡ true → IsAtEnd after) → (ended ≡ false → IsWhole references said fallback front)
    → IsWhole references said fallback front ⊎ IsAtEnd after
enough references said fallback front after true end whole = inr (end refl)
enough references said fallback front after false end whole = inl (whole refl)

-- what is still given where the source isn't asked again at its end
pub still-known : (ended : Bool) (waiting : List ℕ) (known : Option (List ℕ)) → (ended ≡ true → IsAtEnd known)
    → IfSome known (λ rest. (if ended then Some waiting else prepend_known waiting known) ≡ Some (waiting ++ rest))
still-known ended waiting None end = tt
still-known false waiting (Some rest) end = refl
still-known true waiting (Some rest) end = ap Some (sym (append-nil waiting)) ∙ ap (λ l. Some (waiting ++ l)) (sym (end refl))
