-- How a table is filled: at the addresses of many lanes at once, among those that show nothing but
-- lines of a mask.
use Rattle.std.specs.Prelude.{◌≡◌, ◌≤◌, ◌<◌, ◌⊎◌, ℕ, List, Ok, Err, IsOk, slice_index, bit_and}
use Rattle.cam6_table.specs.declared.faults.RuleFault.{RuleFault}
use Rattle.cam6_entries.specs.Limits.{addresses}
use Rattle.cam6_table.specs.Tables.{Results}

-- what stands where no entry is filled: no entry, since it has a third bit
abbrev pub unfilled : ℕ
unfilled = 4

-- the entry at an address is the result there
abbrev pub IsRight : Results → List ℕ → ℕ → Type 0
IsRight results entries address = results address ≡ Ok (slice_index entries address)

-- each entry that is filled is the result there
abbrev pub AreRightIfFilled : Results → List ℕ → Type 0
AreRightIfFilled results entries =
    (a : ℕ) → a < addresses → (slice_index entries a ≡ unfilled) ⊎ IsRight results entries a

-- an address is among the first count of these
pub record IsAmong (some : List ℕ) (count address : ℕ) : Type 0 where
  pub position : ℕ
  pub counts : position < count
  pub is : slice_index some position ≡ address

-- the first count of these rise and stand before the end. They include all addresses from one on
-- and before the end that show nothing but lines of a mask and have no entry
pub record AreNext (mask from : ℕ) (entries some : List ℕ) (count end : ℕ) : Type 0 where
  pub before : (k : ℕ) → k < count → slice_index some k < end
  pub rising : (j k : ℕ) → j < k → k < count → slice_index some j < slice_index some k
  pub all : (a : ℕ) → from ≤ a → a < end → bit_and a mask ≡ a →
      slice_index entries a ≡ unfilled → IsAmong some count a

-- an address among the first count of these at which there is this fault, and none before it among
-- them has a fault
pub record IsFirstStop (some : List ℕ) (count : ℕ) (results : Results) (address : ℕ)
    (fault : RuleFault) : Type 0 where
  pub position : ℕ
  pub counts : position < count
  pub is : slice_index some position ≡ address
  pub stops : results address ≡ Err fault
  pub before : (k : ℕ) → k < position → IsOk (results (slice_index some k))

-- an address at which there is this fault. No address before it, from one on, has a fault if it
-- shows nothing but lines of a mask
pub record IsStopFrom (mask from : ℕ) (results : Results) (address : ℕ) (fault : RuleFault)
    : Type 0 where
  pub within : address < addresses
  pub stops : results address ≡ Err fault
  pub least : (a : ℕ) → from ≤ a → a < address → bit_and a mask ≡ a → IsOk (results a)
