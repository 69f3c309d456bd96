-- Masks of 16 bits, of which all are 1 or all are 0, choose values.
use Rattle.std.proofs.Common.{◌≡◌, ◌∙◌, ◌<◌, ◌≤◌, ◌-◌, ◌^◌, ℕ, Bool, true, false, if◌then◌else◌}
use Rattle.std.proofs.Common.{bit_and, bit_or, arith}
use Rattle.std.proofs.lemmas.Nat.{and_le_l, and_le_r, and_mask, le_or_r, or_disjoint, or_comm}

none : (v : ℕ) → bit_and v 0 ≡ 0
none v = let least = and_le_r v 0 in omega arith

all : (v : ℕ) → v < 2 ^ 16 → bit_and v 65535 ≡ v
all v fits = let same = and_mask v 16 in omega arith

or_none : (v : ℕ) → bit_or v 0 ≡ v
or_none v = let same = or_disjoint v 0 (none v) in omega arith

none_or : (v : ℕ) → bit_or 0 v ≡ v
none_or v = or_comm 0 v ∙ or_none v

pub kept_in : (v set : ℕ) → set ≡ 65535 → bit_or v (65535 - set) ≡ v
kept_in v set is = rw is (or_none v)

pub chosen_new : (set new old : ℕ) → new < 2 ^ 16 → set ≡ 65535 →
    bit_or (bit_and new set) (bit_and old (65535 - set)) ≡ new
chosen_new set new old fits is = rw (is, all new fits, none old) (or_none new)

pub chosen_old : (set new old : ℕ) → old < 2 ^ 16 → set ≡ 0 →
    bit_or (bit_and new set) (bit_and old (65535 - set)) ≡ old
chosen_old set new old fits is = rw (is, none new, all old fits) (none_or old)

-- a value stays where a test holds, and where it doesn't
pub kept_if : (v mask : ℕ) (test : Bool) → v < 2 ^ 16 →
    mask ≡ (if test then 65535 else 0) → bit_and v mask ≡ (if test then v else 0)
kept_if v mask true fits is = rw is (all v fits)
kept_if v mask false fits is = rw is (none v)

pub kept_unless : (v mask : ℕ) (test : Bool) → v < 2 ^ 16 →
    mask ≡ (if test then 65535 else 0) → bit_and v (65535 - mask) ≡ (if test then 0 else v)
kept_unless v mask true fits is = rw is (none v)
kept_unless v mask false fits is = rw is (all v fits)

-- both of two masks
module _ (a b : ℕ) where
  pub both_in : a ≡ 65535 → b ≡ 65535 → bit_and a b ≡ 65535
  both_in first second = rw (first, second) (all 65535 (omega arith))

  pub first_none : a ≡ 0 → bit_and a b ≡ 0
  first_none first = rw first (let least = and_le_l 0 b in omega arith)

  pub second_none : b ≡ 0 → bit_and a b ≡ 0
  second_none second = rw second (none a)

-- a mask lets a value be, and lets it be 0
pub value_in : (v set : ℕ) → v < 2 ^ 16 → set ≡ 65535 → bit_and v set ≡ v
value_in v set fits is = rw is (all v fits)

pub value_out : (v set : ℕ) → set ≡ 0 → bit_and v set ≡ 0
value_out v set is = rw is (none v)

pub limit_out : (v set : ℕ) → set ≡ 0 → 65535 ≤ bit_or v (65535 - set)
limit_out v set is = rw is (le_or_r v 65535)
