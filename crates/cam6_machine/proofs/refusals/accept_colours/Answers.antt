use Rattle.std.proofs.Common.{◌≡◌, ◌∙◌, ◌&&◌, Bool, length, nat_le, arith, ap, sym}
use Rattle.std.specs.List.{list_all}
use Rattle.std.proofs.lemmas.Bool.{eq-eqb}
use Rattle.std.proofs.lemmas.Grind.{same_number_lists, get_or_default_zero}
use Rattle.std.proofs.lemmas.List.Sums.{list_all-from_AllPass}
use Rattle.cam6_commands.specs.Limits.{max_colour, cell_states}
use Rattle.cam6_commands.specs.Checks.{unless}
use Rattle.cam6_commands.specs.declared.faults.Fault.TheVariants.{OutOfRange}
use Rattle.cam6_machine.proofs.refusals.accept_colours.Goals as goal

pub returns-clause-colours : goal.returns-clause-colours
returns-clause-colours c =
    same_number_lists c.loop-state.kept c.args.colours.now (omega (arith, c.loop-state.invariant.long))
    (λ i within. c.loop-state.invariant.same i (omega (arith, within, c.loop-state.invariant.long)))

pub returns-clause-refusal : goal.returns-clause-refusal
returns-clause-refusal c =
    let colours = c.args.colours.now in
    let sixteen : length colours ≡ cell_states = omega arith in
    sym (ap (λ (b : Bool). unless (b && list_all (λ colour. nat_le colour max_colour) colours) OutOfRange)
    (eq-eqb (length colours) cell_states sixteen) ∙
    ap (λ (b : Bool). unless b OutOfRange)
    (list_all-from_AllPass (λ colour. nat_le colour max_colour) colours
    (λ k d within. ap (λ n. nat_le n max_colour) (get_or_default_zero colours k d within) ∙
    c.loop-state.invariant.small k (omega (arith, within)))))
