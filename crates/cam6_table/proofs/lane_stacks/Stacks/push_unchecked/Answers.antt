use Rattle.std.proofs.Common.{◌+◌, List, ℕ, [], slice_index, ap, refl, arith}
use Rattle.std.proofs.lemmas.List.{get_or-set_other}
use Rattle.cam6_table.proofs.Columns.{column_kept, column_more}
use Rattle.cam6_table.proofs.lane_stacks.Stacks.push_unchecked.Goals as goal

pub returns-clause-put : goal.returns-clause-put
returns-clause-put c = λ lane below inside floor low.
    let s = c.args.self.now in
    column_more lane s.rows s.len c.chosen.result floor (s.len + 1)
    (slice_index c.args.values.now lane) (omega arith) low refl
    (c.chosen.ensures.inside lane below inside)

pub returns-clause-others : goal.returns-clause-others
returns-clause-others c = λ lane below outside floor top.
    let s = c.args.self.now in
    column_kept lane s.rows s.len c.chosen.result (omega arith)
    (c.chosen.ensures.outside lane below outside) floor top

pub returns-clause-below : goal.returns-clause-below
returns-clause-below c = λ lane row low.
    let s = c.args.self.now in
    ap (λ (r : List ℕ). slice_index r lane)
    (get_or-set_other s.rows s.len row c.chosen.result [] (omega (arith, low)))
