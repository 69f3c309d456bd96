-- The text of what a band leaves, and what it is read as.
use Rattle.std.proofs.Common.{◌≡◌, ℕ, ◌<◌, ◌^◌, ◌++◌, codes, decimal, Some, refl, rules}
use Rattle.serde_json.specs.Read.{read}
use Rattle.serde_json.proofs.OnLiterals.{serde_json_on_literals}
use Rattle.cam6_commands.specs.declared.outcomes.Outcome.TheVariants.{Banded}
use Rattle.cam6_wire.specs.Outcomes.{outcome_bytes, outcome_data}
use Rattle.cam6_wire.proofs.Flat.{flat_outcome}
use Rattle.cam6_wire.proofs.ReadBack.{read_back}

pub band_bytes : (n : ℕ) →
    codes "{\"left\":" ++ decimal n ++ codes ",\"ok\":\"band\"}" ≡ outcome_bytes (Banded n)
unfolding outcome_bytes serde_json_on_literals
band_bytes n = search rules

pub band_read : (n : ℕ) → n < 2 ^ 64 → read (outcome_bytes (Banded n)) ≡ Some (outcome_data (Banded n))
unfolding outcome_bytes
band_read n whole =
    read_back (outcome_data (Banded n)) (whole, (refl, tt), (tt, tt, tt)) (flat_outcome (Banded n))
