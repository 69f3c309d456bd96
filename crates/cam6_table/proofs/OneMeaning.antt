-- Trees of one rule mean the same.
use Rattle.std.proofs.Common.{◌≡◌, ◌∙◌, ap, sym, [], List, None}
use Rattle.cam6_wiring.specs.Seen.{address_of, shown}
use Rattle.cam6_wiring.specs.declared.wirings.Wiring.{Wiring}
use Rattle.cam6_wiring.proofs.LinesOfNames.{shows_what_is_seen}
use Rattle.cam6_forth.specs.Tree.{Part, IsRule, rule_of}
use Rattle.cam6_table.specs.Internal.Emitting.{all_codes}
use Rattle.cam6_table.specs.Laws.{TreesMeanTheSame}
use Rattle.cam6_table.specs.Outputs.{untouched}
use Rattle.cam6_table.specs.Codes.{exec}
use Rattle.cam6_table.proofs.BodyCodes.{Agree}
use Rattle.cam6_table.proofs.Emission.{rule_codes}
use Rattle.cam6_table.proofs.Correct.{tree_does, tree_code, last_code, entry_by}

-- the code is of the rule's words alone
code_is : (wiring : Wiring) (parts : List Part) → IsRule wiring parts →
    tree_code wiring parts ≡ last_code (all_codes wiring [] (rule_of wiring parts).definitions)
code_is wiring parts rule = ap last_code (sym (rule_codes wiring parts rule))

pub trees_mean_the_same : TreesMeanTheSame
trees_mean_the_same wiring first second sees first_is second_is same =
    let shows = shown (address_of wiring.hood wiring.minor sees) in
    let agree : Agree wiring sees shows = shows_what_is_seen wiring.hood wiring.minor sees in
    let one : tree_code wiring first ≡ tree_code wiring second =
    code_is wiring first first_is ∙
    ap (λ r. last_code (all_codes wiring [] r.definitions)) same ∙
    sym (code_is wiring second second_is) in
    sym (tree_does wiring first sees shows first_is agree) ∙
    ap (λ code. entry_by shows (exec shows code 0 None untouched)) one ∙
    tree_does wiring second sees shows second_is agree
