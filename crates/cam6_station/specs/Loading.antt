-- What filling the tables of a lease makes of them, and of the cache that they come through.
use Rattle.std.specs.Prelude.{◌≡◌, ◌≢◌, ◌<◌, ◌⊎◌, ℕ, zero, suc, List, []}
use Rattle.std.specs.Prelude.{Bool, false, slice_index_or}
use Rattle.cam6_cache.specs.Cached.{Cached, is_cached, with_first}
use Rattle.cam6_cache.specs.Keys.{TableKey, IsTrueFor}
use Rattle.cam6_slot.specs.Needs.{needs_of, wiring_told, IsNeed, IsTableNeeded}
use Rattle.cam6_slot.specs.Works.{StoredWork}
use Rattle.cam6_slot.specs.declared.needs.Need.{Need}

-- the key by which the table of a need is asked for
abbrev pub key_of : Need → TableKey
key_of need = record {
  wiring = wiring_told need;
  text = need.text.now;
  inverted = need.inverted;
}

-- after the load of a key its true table goes first; or it was not there, memory ran out for it, and
-- nothing changes
abbrev pub IsAfterLoad : TableKey → Cached → Cached → Type 0
IsAfterLoad key old new =
    (entries : List ℕ) × IsTrueFor key entries
    × ((new ≡ with_first key entries old) ⊎ ((is_cached key old.tables ≡ false) × (new ≡ old)))

-- the table at a place is that of the use of its index, and the others stay
pub record FillsOne (w : StoredWork) (index : ℕ) (old new : List (List ℕ)) : Type 0 where
  pub table : IsTableNeeded w index (slice_index_or new index [])
  pub others : (k : ℕ) → k ≢ index → slice_index_or new k [] ≡ slice_index_or old k []

-- the tables of the first n uses are the true ones
abbrev pub FitUpTo : StoredWork → ℕ → List (List ℕ) → Type 0
FitUpTo w n tables = (k : ℕ) → k < n → IsTableNeeded w k (slice_index_or tables k [])

-- what is loaded for one use, whether it was there, and what the cache is after the load
pub record LoadsOne (w : StoredWork) (index : ℕ) (hit : Bool) (old new : Cached) : Type 0 where
  pub need : Need
  pub is : IsNeed w index need
  pub hits : hit ≡ is_cached (key_of need) old.tables
  pub load : IsAfterLoad (key_of need) old new

-- after the loads of the first n tables that steps need, in the order of their uses
abbrev pub IsAfterLoadsOf : StoredWork → ℕ → Cached → Cached → Type 0
IsAfterLoadsOf w zero old new = new ≡ old
IsAfterLoadsOf w (suc n) old new =
    (between : Cached) × (need : Need) × IsAfterLoadsOf w n old between × IsNeed w n need
    × IsAfterLoad (key_of need) between new

-- after all of them
abbrev pub IsAfterLoads : StoredWork → Cached → Cached → Type 0
IsAfterLoads w old new = IsAfterLoadsOf w (needs_of w) old new
