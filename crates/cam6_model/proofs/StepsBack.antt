-- Steps that are undone change planes and position alone, and leave a machine.
use Rattle.std.proofs.Common.{◌≡◌, ◌<◌, ℕ, zero, suc, List, [], ◌∷◌, length, Option, Some, None}
use Rattle.std.proofs.Common.{refl, sym, subst, ◌∙◌, ap, arith, slice_get}
use Rattle.cam6_cycle.specs.Along.{previous}
use Rattle.cam6_model.specs.Machine.{Machine, unstepped_by, unstepped, unsteps}
use Rattle.cam6_model.specs.Always.{IsPosition, IsMachine}
use Rattle.cam6_commands.specs.declared.commands.NamedEntry.{NamedEntry}
use Rattle.cam6_model.proofs.StepsOfATorus.{AreWhole, unsteps_whole}

-- one step undone changes these alone
moved : (position : ℕ) (o : Option NamedEntry) (m : Machine) →
    unstepped_by position o m
    ≡ record m {
      planes = (unstepped_by position o m).planes;
      position = (unstepped_by position o m).position;
    }
moved position None m = refl
moved position (Some entry) m = refl

pub only_these_back : (m : Machine) (n : ℕ) →
    unsteps n m ≡ record m { planes = (unsteps n m).planes; position = (unsteps n m).position }
only_these_back m zero = refl
only_these_back m (suc n) =
    let before = unsteps n m in
    let after = unstepped before in
    let index = previous (length before.cycle) before.position in
    moved index (slice_get before.cycle index) before ∙
    ap {B = Machine}
    (λ (k : Machine). record k { planes = after.planes; position = after.position })
    (only_these_back m n)

pub previous-lt : (n position : ℕ) → position < n → previous n position < n
previous-lt n zero within = omega (arith, within)
previous-lt n (suc position) within = omega (arith, within)

-- the position before one is one
previous_is : (cycle : List NamedEntry) (position : ℕ) → IsPosition cycle position →
    IsPosition cycle (previous (length cycle) position)
previous_is [] position is = ap (previous 0) is
previous_is (entry ∷ cycle) position is = previous-lt (length (entry ∷ cycle)) position is

position_back : (m : Machine) (o : Option NamedEntry) → IsPosition m.cycle m.position →
    IsPosition m.cycle (unstepped_by (previous (length m.cycle) m.position) o m).position
position_back m None is = is
position_back m (Some entry) is = previous_is m.cycle m.position is

pub unsteps_position : (n : ℕ) (m : Machine) → IsPosition m.cycle m.position →
    IsPosition m.cycle (unsteps n m).position
unsteps_position zero m is = is
unsteps_position (suc n) m is =
    let before = unsteps n m in
    let index = previous (length before.cycle) before.position in
    let same : before.cycle ≡ m.cycle = ap (λ (k : Machine). k.cycle) (only_these_back m n) in
    subst (λ cycle. IsPosition cycle (unstepped before).position) same
    (position_back before (slice_get before.cycle index)
    (subst (λ cycle. IsPosition cycle before.position) (sym same) (unsteps_position n m is)))

-- so a machine stays one
pub unsteps_is : (m : Machine) (n : ℕ) → IsMachine m → IsMachine (unsteps n m)
unsteps_is m n is =
    subst IsMachine (sym (only_these_back m n)) (record {
      within = is.within;
      planes = subst AreWhole (only_these_back m n) (unsteps_whole n m is.planes);
      rules = is.rules;
      short = is.short;
      entries = is.entries;
      position = unsteps_position n m is.position;
      coloured = is.coloured;
      colours = is.colours;
    })
