-- What a stack word leaves of a lane's stack.
use Rattle.std.proofs.Common.{◌≡◌, ◌∙◌, ◌<◌, ◌≤◌, ◌+◌, ◌-◌, ◌==◌, ℕ, List, ◌∷◌}
use Rattle.std.proofs.Common.{Ok, length, ap, sym}
use Rattle.std.proofs.Common.{arith}
use Rattle.std.proofs.lemmas.Bool.Decides.{nat_tests}
use Rattle.cam6_planes.specs.Row.{bit_number}
use Rattle.cam6_forth.specs.declared.words.StackWord.TheVariants as word
use Rattle.cam6_table.specs.Words.{Values, with_room, on_stack}
use Rattle.cam6_table.specs.Internal.Lanes.{column, value_at}
use Rattle.cam6_table.proofs.Columns.{column_at, length_values}

-- a stack that is low enough has room
pub in_room : (values : Values) → length values ≤ 32 → with_room values ≡ Ok values
in_room values low = grind (arith, nat_tests)

pub room_for_one : (lane v floor top : ℕ) (rows : List (List ℕ)) → top < floor + 32 →
    with_room (v ∷ column lane rows floor top) ≡ Ok (v ∷ column lane rows floor top)
room_for_one lane v floor top rows low =
    let is = length_values lane floor (top - floor) rows in
    in_room (v ∷ column lane rows floor top) (omega arith)

module _ (lane floor len : ℕ) (rows : List (List ℕ)) where
  top_one : 1 + floor ≤ len → column lane rows floor len ≡ value_at lane rows (len - 1) ∷ column lane rows floor (len - 1)
  top_one some = column_at lane rows floor len (len - 1) (omega arith) (omega arith)

  pub top_two : 2 + floor ≤ len → column lane rows floor len
      ≡ value_at lane rows (len - 1) ∷ value_at lane rows (len - 2) ∷ column lane rows floor (len - 2)
  top_two some =
      top_one (omega arith) ∙ ap (λ (c : Values). value_at lane rows (len - 1) ∷ c)
      (column_at lane rows floor (len - 1) (len - 2) (omega arith) (omega arith))

  top_three : 3 + floor ≤ len → column lane rows floor len
      ≡ value_at lane rows (len - 1) ∷ value_at lane rows (len - 2) ∷ value_at lane rows (len - 3) ∷
      column lane rows floor (len - 3)
  top_three some =
      top_two (omega arith) ∙
      ap (λ (c : Values). value_at lane rows (len - 1) ∷ value_at lane rows (len - 2) ∷ c)
      (column_at lane rows floor (len - 2) (len - 3) (omega arith) (omega arith))

  pub dup_leaves : 1 + floor ≤ len → len < floor + 32 → on_stack word.Dup (column lane rows floor len)
      ≡ Ok (value_at lane rows (len - 1) ∷ column lane rows floor len)
  dup_leaves some low =
      ap (on_stack word.Dup) (top_one some) ∙
      ap (λ (c : Values). with_room (value_at lane rows (len - 1) ∷ c)) (sym (top_one some)) ∙
      room_for_one lane (value_at lane rows (len - 1)) floor len rows low

  pub drop_leaves : 1 + floor ≤ len → on_stack word.Drop (column lane rows floor len)
      ≡ Ok (column lane rows floor (len - 1))
  drop_leaves some = ap (on_stack word.Drop) (top_one some)

  pub swap_leaves : 2 + floor ≤ len → on_stack word.Swap (column lane rows floor len)
      ≡ Ok (value_at lane rows (len - 2) ∷ value_at lane rows (len - 1) ∷ column lane rows floor (len - 2))
  swap_leaves some = ap (on_stack word.Swap) (top_two some)

  pub over_leaves : 2 + floor ≤ len → len < floor + 32 → on_stack word.Over (column lane rows floor len)
      ≡ Ok (value_at lane rows (len - 2) ∷ column lane rows floor len)
  over_leaves some low =
      ap (on_stack word.Over) (top_two some) ∙
      ap (λ (c : Values). with_room (value_at lane rows (len - 2) ∷ c)) (sym (top_two some)) ∙
      room_for_one lane (value_at lane rows (len - 2)) floor len rows low

  pub rot_leaves : 3 + floor ≤ len → on_stack word.Rot (column lane rows floor len)
      ≡ Ok (value_at lane rows (len - 3) ∷ value_at lane rows (len - 1) ∷
      value_at lane rows (len - 2) ∷ column lane rows floor (len - 3))
  rot_leaves some = ap (on_stack word.Rot) (top_three some)

  pub is_zero_leaves : 1 + floor ≤ len → on_stack word.IsZero (column lane rows floor len)
      ≡ Ok (bit_number (value_at lane rows (len - 1) == 0) ∷ column lane rows floor (len - 1))
  is_zero_leaves some = ap (on_stack word.IsZero) (top_one some)
