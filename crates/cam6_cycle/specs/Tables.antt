-- The tables that the steps of a cycle use: one for each use of a rule.
use Rattle.std.specs.Prelude.{ℕ, List, [], ◌∷◌, ◌++◌, length, take, Option, Some, None}
use Rattle.cam6_wiring.specs.declared.names.Half.{Half}
use Rattle.cam6_wiring.specs.declared.names.Half.TheVariants.{A, B}
use Rattle.cam6_cycle.specs.declared.entries.Entry.{Entry}
use Rattle.cam6_cycle.specs.declared.entries.HalfRule.{HalfRule}
use Rattle.cam6_cycle.specs.declared.tables.Direction.{Direction}
use Rattle.cam6_cycle.specs.declared.tables.Direction.TheVariants.{Forward}
use Rattle.cam6_cycle.specs.declared.tables.NeededTable.{NeededTable}

-- the rule of a half of an entry, if it has one
abbrev pub rule_in : Half → Entry → Option HalfRule
rule_in A entry = entry.a
rule_in B entry = entry.b

-- the table of a half's rule, if it has one
abbrev pub needed_for : Direction → Half → Option HalfRule → List NeededTable
needed_for direction half None = []
needed_for direction half (Some rule) =
    record { half = half; rule = rule; direction = direction } ∷ []

-- the tables of entries in their order: half A's of each entry before its half B's
abbrev pub tables_needed : Direction → List Entry → List NeededTable
tables_needed direction [] = []
tables_needed direction (entry ∷ entries) =
    needed_for direction A entry.a ++ needed_for direction B entry.b
    ++ tables_needed direction entries

-- how many tables stand before those of the entry at a position, in either direction
abbrev pub count_before : List Entry → ℕ → ℕ
count_before entries position = length (tables_needed Forward (take position entries))
