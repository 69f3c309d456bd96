-- The names by which the server is asked, and the origins of its pages.
use Rattle.std.specs.Prelude.{◌≡◌, ◌⊎◌, ◌++◌, ℕ, List, Contains, codes, decimal}

-- the port, and the names that were added
pub record Named : Type 0 where
  pub port : ℕ
  pub added : List (List ℕ)

abbrev pub named : ℕ → List (List ℕ) → Named
named port added = record { port = port; added = added }

-- a name that was added
abbrev pub IsAdded : Named → List ℕ → Type 0
IsAdded names host = Contains names.added host

-- one of the names
abbrev pub IsName : Named → List ℕ → Type 0
IsName names host =
    (host ≡ codes "127.0.0.1:" ++ decimal names.port)
    ⊎ ((host ≡ codes "localhost:" ++ decimal names.port) ⊎ IsAdded names host)

-- the origin of a page under this name: over HTTPS too, if the name was added
abbrev pub IsOrigin : Named → List ℕ → List ℕ → Type 0
IsOrigin names host origin =
    (origin ≡ codes "http://" ++ host)
    ⊎ ((origin ≡ codes "https://" ++ host) × IsAdded names host)
