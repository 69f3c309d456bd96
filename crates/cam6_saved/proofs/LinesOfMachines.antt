-- A machine's line gives it back, and no other line loads one.
use Rattle.std.proofs.Common.{ℕ, zero, suc, List, [], ◌∷◌, ap, ◌∙◌, subst, arith, get_or}
use Rattle.std.specs.List.{AllByRecursion}
use Rattle.hex.specs.Hex.{IsBytes}
use Rattle.cam6_planes.specs.Side.{side_number}
use Rattle.cam6_commands.specs.declared.commands.Command.TheVariants.{Load}
use Rattle.cam6_commands.specs.declared.saved.SavedMachine.{SavedMachine}
use Rattle.cam6_model.specs.Machine.{Machine}
use Rattle.cam6_model.specs.Saved.{saved_of}
use Rattle.cam6_model.specs.Alone.{after}
use Rattle.cam6_model.specs.Laws.{AreBytes}
use Rattle.cam6_model.proofs.SavedLaws.{load_gives_back, load_takes_saved, saved_of_one}
use Rattle.cam6_wire.specs.Saved.{load_bytes}
use Rattle.cam6_wire.specs.Laws.{AreRowBytes, IsSideIn}
use Rattle.cam6_wire.specs.declared.saved.Version.{Version}
use Rattle.cam6_wire.specs.declared.saved.Version.TheVariants.{First, Second}
use Rattle.cam6_wire.proofs.LoadLines.{load_has_one_line, one_line_loads}
use Rattle.cam6_wire.proofs.LoadLines.{one_text_one_saved}
use Rattle.cam6_saved.specs.Texts.{saved_text, IsOfVersion}
use Rattle.cam6_saved.specs.Laws.{LineIsSaid, LineGivesBack, NoOtherLineLoads}
use Rattle.cam6_saved.specs.Laws.{OneTextOneMachine}
use Rattle.cam6_saved.proofs.Sayable.{all_then, sayable}
use Rattle.cam6_saved.proofs.Fitting.{line_fits}

-- what holds of all in a list, and of what stands for one past its end
at_each : {A : Type 0} (P : A → Type 0) (xs : List A) (past : A) (i : ℕ) →
    AllByRecursion P xs → P past → P (get_or xs i past)
at_each P [] past i are none = none
at_each P (x ∷ xs) past zero are none = are.0
at_each P (x ∷ xs) past (suc i) are none = at_each P xs past i are.1 none

-- rows that can be said are of bytes
are_bytes : (planes : List (List (List ℕ))) →
    AllByRecursion (AllByRecursion AreRowBytes) planes → AreBytes planes
are_bytes planes are p y =
    let rows = all_then (AllByRecursion AreRowBytes) (AllByRecursion IsBytes)
    (all_then AreRowBytes IsBytes (λ row is. is.2)) planes are in
    at_each IsBytes (get_or planes p []) [] y (at_each (AllByRecursion IsBytes) planes [] p rows tt)
    (λ i. omega arith)

of_version : (version : Version) (m : Machine) → IsSideIn version (side_number m.side) →
    IsOfVersion version m
of_version First m is = is
of_version Second m is = tt

pub line_is_said : LineIsSaid
line_is_said m version is of =
    one_line_loads version (saved_of m) (sayable version m is of) (line_fits version m is)

pub line_gives_back : LineGivesBack
line_gives_back m n version is of within =
    let back = load_gives_back m n is within in
    (Load (saved_of m), line_is_said m version is of, back.0, back.1)

pub no_other_line_loads : NoOtherLineLoads
no_other_line_loads line n saved said accepted =
    let (version, is, same) = load_has_one_line line saved said in
    let (machine, back) =
    load_takes_saved n saved (are_bytes saved.planes is.planes) is.texts accepted in
    let side = subst (λ (k : SavedMachine). IsSideIn version k.side) back is.side in
    let its_line = same ∙ ap (load_bytes version) back in
    (machine, (version, of_version version (after n (Load saved)) side, its_line))

pub one_text_one_machine : OneTextOneMachine
unfolding saved_text
one_text_one_machine m n is also same =
    saved_of_one m n is also
    (one_text_one_saved Second (saved_of m) (saved_of n) (sayable Second m is tt)
    (sayable Second n also tt) same)
