-- What a table of entries is to a rule, and the least address at which a rule stops.
use Rattle.std.specs.Prelude.{◌≡◌, ℕ, zero, suc, ◌<◌, List, slice_index}
use Rattle.std.specs.Prelude.{Option, Some, None, Result, Ok, Err, IsOk}
use Rattle.cam6_wiring.specs.declared.wirings.Wiring.{Wiring}
use Rattle.cam6_forth.specs.Tree.{Part}
use Rattle.cam6_table.specs.declared.faults.RuleFault.{RuleFault}
use Rattle.cam6_entries.specs.Limits.{addresses}
use Rattle.cam6_table.specs.Meaning.{at_address}

-- at each address an entry, or a fault
abbrev pub Results : Type 0
Results = ℕ → Result ℕ RuleFault

-- each entry is the result at its address
abbrev pub AreEntries : Results → List ℕ → Type 0
AreEntries results entries =
    (address : ℕ) → address < addresses → results address ≡ Ok (slice_index entries address)

-- the least address at which any fault comes, with the fault there
pub record IsLeastStop (results : Results) (address : ℕ) (fault : RuleFault) : Type 0 where
  pub within : address < addresses
  pub stops : results address ≡ Err fault
  pub least : (before : ℕ) → before < address → IsOk (results before)

-- the table of a rule
abbrev pub IsTrueTable : Wiring → List Part → List ℕ → Type 0
IsTrueTable wiring parts entries = AreEntries (at_address wiring parts) entries

abbrev pub or_at_later_address :
    Result ℕ RuleFault → ℕ → Option (ℕ × RuleFault) → Option (ℕ × RuleFault)
or_at_later_address (Ok entry) address later = later
or_at_later_address (Err fault) address later = Some (address, fault)

-- the first of n addresses, from one on, at which any fault comes, with the fault there
abbrev pub first_stop : Results → ℕ → ℕ → Option (ℕ × RuleFault)
first_stop results zero address = None
first_stop results (suc n) address =
    or_at_later_address (results address) address (first_stop results n (suc address))

-- the least address at which any fault comes, if one does
unfoldable pub least_stop : Results → Option (ℕ × RuleFault)
least_stop results = first_stop results addresses 0
