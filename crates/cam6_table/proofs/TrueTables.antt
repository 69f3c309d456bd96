-- A true table, read at the address of what is seen, is the rule.
use Rattle.std.proofs.Common.{◌≡◌, ◌∙◌, ℕ, List, Result, IsOk, sym, subst}
use Rattle.cam6_wiring.specs.Seen.{Sees, environment, address_of, shown}
use Rattle.cam6_wiring.specs.declared.wirings.Wiring.{Wiring}
use Rattle.cam6_wiring.proofs.LinesOfNames.{shows_what_is_seen, address_of-lt}
use Rattle.cam6_forth.specs.Tree.{Part, IsRule}
use Rattle.cam6_table.specs.declared.faults.RuleFault.{RuleFault}
use Rattle.cam6_table.specs.Meaning.{meaning, at_address}
use Rattle.cam6_table.specs.Laws.{TrueTableIsRule, RunsEverywhere}
use Rattle.cam6_table.proofs.Correct.{tree_does, agrees}
use Rattle.cam6_table.proofs.Stops.{runs_at}

-- what a rule means is what it means at the address of what is seen
pub at_seen : (wiring : Wiring) (parts : List Part) (sees : Sees) → IsRule wiring parts →
    meaning wiring parts sees
    ≡ at_address wiring parts (address_of wiring.hood wiring.minor sees)
at_seen wiring parts sees rule =
    let address = address_of wiring.hood wiring.minor sees in
    sym (tree_does wiring parts sees (shown address) rule
    (shows_what_is_seen wiring.hood wiring.minor sees)) ∙
    tree_does wiring parts (environment wiring.hood wiring.minor address) (shown address) rule
    (agrees wiring address)

pub true_table : TrueTableIsRule
true_table wiring parts entries sees rule true =
    at_seen wiring parts sees rule ∙
    true (address_of wiring.hood wiring.minor sees)
    (address_of-lt wiring.hood wiring.minor sees)

pub runs_everywhere : RunsEverywhere
runs_everywhere wiring parts sees rule none =
    subst (λ (r : Result ℕ RuleFault). IsOk r) (sym (at_seen wiring parts sees rule))
    (runs_at (at_address wiring parts) (address_of wiring.hood wiring.minor sees) none
    (address_of-lt wiring.hood wiring.minor sees))
