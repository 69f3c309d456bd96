-- A machine as it is saved, and the machine that was saved.
use Rattle.std.specs.Prelude.{ℕ, ◌/◌, List, [], ◌∷◌, map, slice_index_or}
use Rattle.std.specs.List.{range_with_len}
use Rattle.cam6_planes.specs.Side.{side_number}
use Rattle.cam6_planes.specs.declared.sides.Side.{Side}
use Rattle.cam6_planes.specs.Row.{byte_column}
use Rattle.cam6_planes.specs.Digits.{row_bytes}
use Rattle.cam6_planes.specs.Cells.{Cells, torus}
use Rattle.cam6_model.specs.Machine.{Machine}
use Rattle.cam6_commands.specs.declared.saved.SavedMachine.{SavedMachine}

-- the bytes of each row of a plane of s rows and columns, from row 0 on
unfoldable pub plane_bytes : ℕ → Cells → ℕ → List (List ℕ)
plane_bytes s f p = map (λ y. row_bytes (s / 8) (λ x. f p x y)) (range_with_len 0 s)

-- those of four planes
abbrev pub four_planes : ℕ → Cells → List (List (List ℕ))
four_planes s f =
    plane_bytes s f 0 ∷ plane_bytes s f 1 ∷ plane_bytes s f 2 ∷ plane_bytes s f 3 ∷ []

-- what is saved of a machine: all of it but its limit
abbrev pub saved_of : Machine → SavedMachine
saved_of m = record {
  colours = m.colours;
  cycle = m.cycle;
  planes = four_planes (side_number m.side) m.planes;
  position = m.position;
  rules = m.rules;
  side = side_number m.side;
}

-- the bit that the rows of planes hold
abbrev pub saved_bit : List (List (List ℕ)) → Cells
saved_bit planes p x y = byte_column (slice_index_or (slice_index_or planes p []) y []) x

-- the machine of this side and this limit that was saved so
abbrev pub restored : Side → Side → SavedMachine → Machine
restored side limit saved = record {
  side = side;
  limit = limit;
  planes = torus (side_number side) (saved_bit saved.planes);
  rules = saved.rules;
  cycle = saved.cycle;
  position = saved.position;
  colours = saved.colours;
}
