-- What a cache keeps: tables by their keys, the one that was used last first.
use Rattle.std.specs.Prelude.{ℕ, ◌-◌, ◌==◌, ◌||◌, Bool, false, List, [], ◌∷◌, take, length}
use Rattle.std.specs.Prelude.{map, if◌then◌else◌}
use Rattle.std.specs.List.{AllByRecursion, IsDistinct}
use Rattle.cam6_cache.specs.Keys.{TableKey, IsTrueFor, is_same_key}

-- tables by their keys, and how many there may be
pub record Cached : Type 0 where
  pub tables : List (TableKey × List ℕ)
  pub capacity : ℕ

-- each table is its key's true one
abbrev pub AreTrue : List (TableKey × List ℕ) → Type 0
AreTrue tables = AllByRecursion (λ t. IsTrueFor t.0 t.1) tables

-- no two tables have one key
abbrev pub AreApart : List (TableKey × List ℕ) → Type 0
AreApart tables = IsDistinct is_same_key (map (λ t. t.0) tables)

-- whether there is a table of this key
abbrev pub is_cached : TableKey → List (TableKey × List ℕ) → Bool
is_cached key [] = false
is_cached key (table ∷ tables) = is_same_key key table.0 || is_cached key tables

-- the tables but for the one of this key
abbrev pub without : TableKey → List (TableKey × List ℕ) → List (TableKey × List ℕ)
without key [] = []
without key (table ∷ tables) =
    if is_same_key key table.0 then tables else table ∷ without key tables

-- a key's table goes first: one that was cached leaves where it was, and before a new one the last
-- leaves a full cache
abbrev pub with_first : TableKey → List ℕ → Cached → Cached
with_first key table cached =
    record cached {
      tables = (key, table)
          ∷ (if is_cached key cached.tables then without key cached.tables
          else take (cached.capacity - 1) cached.tables);
    }

-- the table that was used longest ago leaves
abbrev pub without_last : Cached → Cached
without_last cached = record cached { tables = take (length cached.tables - 1) cached.tables }

abbrev pub is_empty : List (TableKey × List ℕ) → Bool
is_empty tables = length tables == 0
