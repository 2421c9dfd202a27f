-- Lists that begin with another.
use Rattle.std.proofs.Common.{◌≡◌, ℕ, List, [], ◌++◌, sym, ◌∙◌}
use Rattle.std.proofs.lemmas.List.{append-nil, append_assoc}
use Rattle.markup5ever.specs.Lists.{BeginsWith}

pub BeginsWith-equal : (xs ys : List ℕ) → xs ≡ ys → BeginsWith xs ys
BeginsWith-equal xs ys e = record { rest = []; parts = e ∙ sym (append-nil ys) }

pub BeginsWith-append : (xs ys zs : List ℕ) → xs ≡ ys ++ zs → BeginsWith xs ys
BeginsWith-append xs ys zs e = record { rest = zs; parts = e }

pub BeginsWith-trans : (xs ys zs : List ℕ) → BeginsWith xs ys → BeginsWith ys zs → BeginsWith xs zs
BeginsWith-trans xs ys zs a b = record {
  rest = b.rest ++ a.rest;
  parts = a.parts ∙ rw b.parts (append_assoc zs b.rest a.rest);
}

-- a list that begins with another and more begins with the other
pub BeginsWith-less : (xs ys zs ws : List ℕ) → ys ≡ zs ++ ws → BeginsWith xs ys → BeginsWith xs zs
BeginsWith-less xs ys zs ws e b = BeginsWith-trans xs ys zs b (BeginsWith-append ys zs ws e)
