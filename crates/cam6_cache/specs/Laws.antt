-- Laws of keys and their tables.
use Rattle.std.specs.Prelude.{◌≡◌, ℕ, true, List}
use Rattle.cam6_table.specs.RuleTexts.{IsTableOf}
use Rattle.cam6_block.specs.BlockMaps.{by_table, IsReversible}
use Rattle.cam6_cache.specs.Keys.{TableKey, IsReversibleKey, IsTrueFor, is_same_key}

-- a key is the same as itself, and as no other
abbrev pub KeysAreThemselves : Type 0
KeysAreThemselves =
    (first second : TableKey) →
    (is_same_key first second ≡ true → first ≡ second) ×
    (first ≡ second → is_same_key first second ≡ true)

-- a key has one true table
abbrev pub IsTheOnlyTable : Type 0
IsTheOnlyTable =
    (key : TableKey) (first second : List ℕ) → IsTrueFor key first → IsTrueFor key second →
    first ≡ second

-- if the straight table of a key has a reversible block map, the key is reversible
abbrev pub TableMakesReversible : Type 0
TableMakesReversible =
    (key : TableKey) (entries : List ℕ) → IsTableOf key.wiring key.text entries →
    IsReversible (by_table key.wiring.hood key.wiring.minor entries) key.wiring.hood
    key.wiring.minor → IsReversibleKey key
