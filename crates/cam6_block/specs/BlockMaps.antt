-- What a rule or a table makes of a block, and when this can be undone.
use Rattle.std.specs.Prelude.{◌≡◌, ◌≢◌, ◌<◌, ℕ, zero, suc, ◌==◌, Bool, true}
use Rattle.std.specs.Prelude.{List, slice_index, Result, Ok, Err, if◌then◌else◌}
use Rattle.cam6_wiring.specs.Seen.{Sees, address_of}
use Rattle.cam6_wiring.specs.Wiring.{is_margolus}
use Rattle.cam6_wiring.specs.declared.names.Phase.{Phase}
use Rattle.cam6_wiring.specs.declared.wirings.Hood.{Hood}
use Rattle.cam6_wiring.specs.declared.wirings.Minor.{Minor}
use Rattle.cam6_wiring.specs.declared.wirings.Minor.TheVariants.{Centers}
use Rattle.cam6_wiring.specs.declared.wirings.Wiring.{Wiring}
use Rattle.cam6_forth.specs.Tree.{Part}
use Rattle.cam6_forth.specs.Trees.{tree_of}
use Rattle.cam6_table.specs.declared.faults.RuleFault.{RuleFault}
use Rattle.cam6_table.specs.Meaning.{meaning}
use Rattle.cam6_entries.specs.NewBits.{bit_for}
use Rattle.cam6_block.specs.Blocks.{block_states, state_of, corner_sees}

-- two new bits, as a number, by what is seen
abbrev pub Reading : Type 0
Reading = Sees → ℕ

-- a table is read at the address of what is seen
abbrev pub by_table : Hood → Minor → List ℕ → Reading
by_table hood minor entries sees = slice_index entries (address_of hood minor sees)

-- a rule that stops makes no bits
abbrev pub made : Result ℕ RuleFault → ℕ
made (Ok bits) = bits
made (Err fault) = 0

-- a rule is read by its words
abbrev pub by_words : Wiring → List Part → Reading
by_words wiring parts sees = made (meaning wiring parts sees)

-- what the words of a rule's text make of what is seen
abbrev pub reading_of : Wiring → List ℕ → Reading
reading_of wiring text = by_words wiring (tree_of text)

-- what becomes of a block's state: each corner takes the bits of what it sees
unfoldable pub block_map : Reading → Phase → ℕ → ℕ
block_map read phase state =
    state_of (λ level corner. bit_for level (read (corner_sees phase state corner)))

-- no two block states have one successor
abbrev pub IsOneToOne : (ℕ → ℕ) → Type 0
IsOneToOne f = (a b : ℕ) → a < block_states → b < block_states → f a ≡ f b → a ≡ b

-- the first of n numbers, from k on, at which p holds, or the one after them all
abbrev pub first_from : (ℕ → Bool) → ℕ → ℕ → ℕ
first_from p zero k = k
first_from p (suc n) k = if p k then k else first_from p n (suc k)

-- the least state with this successor
unfoldable pub preimage : (ℕ → ℕ) → ℕ → ℕ
preimage f successor = first_from (λ state. f state == successor) block_states 0

-- blocks see nothing but themselves, and at no phase do two block states have one successor
pub record IsReversible (read : Reading) (hood : Hood) (minor : Minor) : Type 0 where
  pub blocks : is_margolus hood ≡ true
  pub alone : minor ≢ Centers
  pub one_to_one : (phase : Phase) → IsOneToOne (block_map read phase)
