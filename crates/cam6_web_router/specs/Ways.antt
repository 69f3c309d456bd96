-- Where a socket leads, by its path.
use Rattle.std.specs.Prelude.{◌≡◌, ◌⊎◌, ◌++◌, ◌<◌, ◌≤◌, ◌+◌, ℕ, List, codes, decimal, length}
use Rattle.std.specs.Prelude.{slice_index_or}
use Rattle.cam6_web_router.specs.declared.ways.Way.{Way}
use Rattle.cam6_web_router.specs.declared.ways.Way.TheVariants.{Own, Host}

-- the path without a host's number, and the path with one
abbrev pub path_to_socket : List ℕ
path_to_socket = codes "/ws"

abbrev pub path_to_host : ℕ → List ℕ
path_to_host k = codes "/ws/" ++ decimal k

-- the paths to the hosts, from the first one on
abbrev pub ArePaths : List (List ℕ) → Type 0
ArePaths paths =
    (k : ℕ) (d : List ℕ) → k < length paths → slice_index_or paths k d ≡ path_to_host (k + 1)

-- where the socket at a path leads, if there are so many hosts
abbrev pub LeadsTo : ℕ → List ℕ → Way → Type 0
LeadsTo hosts path Own = (path ≡ path_to_socket) × (hosts ≡ 0)
LeadsTo hosts path (Host k) =
    (0 < k) × (k ≤ hosts) × (((path ≡ path_to_socket) × (k ≡ 1)) ⊎ (path ≡ path_to_host k))

-- no socket is at the path
abbrev pub IsNoWay : ℕ → List ℕ → Type 0
IsNoWay hosts path = (way : Way) → ¬ (LeadsTo hosts path way)
