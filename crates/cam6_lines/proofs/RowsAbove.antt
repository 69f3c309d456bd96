-- The row above a row, counted round the torus.
use Rattle.std.proofs.Common.{◌≡◌, ℕ, ◌+◌, ◌-◌, ◌%◌, ◌<◌, ◌≤◌, ◌∙◌, ap, arith}
use Rattle.std.proofs.Math.Nat.{add-mod_right}
use Rattle.cam6_planes.specs.Row.{west_of, east_of}
use Rattle.cam6_planes.proofs.WordByWord.{west_of-suc}

-- above the row below a row is the row itself
pub above_below : (s y r : ℕ) → 0 < r → y + r ≤ s → west_of s (y + r) ≡ y + r - 1
above_below s y r some within =
    let place : y + r ≡ y + r - 1 + 1 = omega arith in
    ap (west_of s) place ∙ west_of-suc s (y + r - 1) (omega arith)

-- above the row two below a row is the one below it
pub above_two : (s y : ℕ) → 0 < s → west_of s (y + 2) ≡ east_of s y
above_two s y some =
    let place : y + 2 + (s - 1) ≡ y + 1 + s = omega arith in
    ap (λ n. n % s) place ∙ add-mod_right (y + 1) s
