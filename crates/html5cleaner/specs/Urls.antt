-- Where an address leads: to the URL that the URL Standard's parser makes of it and of a base, as the toolchain's `url`
-- has it (`parse_url`).
use Rattle.std.specs.Prelude.{◌≡◌, ℕ, true, List, Option, IsSomeAnd}
use Rattle.url.specs.Parts.{Parts}
use Rattle.html5policy.specs.Names.{is_one_of}

-- the base has this scheme
abbrev pub HasBaseScheme : Option Parts → List ℕ → Type 0
HasBaseScheme base scheme = IsSomeAnd base (λ url. url.scheme ≡ scheme)

-- the scheme is the base's, or one of these
pub data HasSafeScheme (schemes : List (List ℕ)) (base : Option Parts) (scheme : List ℕ) : Type 0 where
  OfBase : HasBaseScheme base scheme → HasSafeScheme schemes base scheme
  Listed : is_one_of schemes scheme ≡ true → HasSafeScheme schemes base scheme
