-- The code of a rule does what the rule means.
use Rattle.std.proofs.Common.{◌≡◌, ◌-◌, ◌/◌, ◌==◌, ℕ, List, [], length, refl}
use Rattle.std.proofs.Common.{sym, ap, ◌∙◌, append-nil, None, Result, Ok, Err}
use Rattle.std.proofs.lemmas.Nat.Bits.{bit_at-suc, bit_at_lowest}
use Rattle.cam6_wiring.specs.Seen.{Sees, shown, environment, shown_under}
use Rattle.cam6_wiring.specs.declared.wirings.Wiring.{Wiring}
use Rattle.cam6_wiring.specs.declared.names.Name.TheVariants.{Beside}
use Rattle.cam6_wiring.specs.declared.names.Compass.TheVariants.{Center}
use Rattle.cam6_wiring.specs.declared.names.Level.TheVariants.{Lower, Upper}
use Rattle.cam6_wiring.proofs.LinesOfNames.{line_of-center, line_of-center_upper}
use Rattle.cam6_forth.specs.Tree.{Part, IsRule}
use Rattle.cam6_table.specs.declared.faults.RuleFault.{RuleFault}
use Rattle.cam6_table.specs.declared.outputs.State.{State}
use Rattle.cam6_entries.specs.NewBits.{is_odd}
use Rattle.cam6_table.specs.Outputs.{untouched, entry_of}
use Rattle.cam6_table.specs.Meaning.{meaning_at, meanings, last_meaning}
use Rattle.cam6_table.specs.Meaning.{entry_in, meaning, at_address}
use Rattle.cam6_table.specs.Codes.{Lines, exec, entry_at, result_at}
use Rattle.cam6_table.specs.Internal.Emitting.{Instructions, code_at}
use Rattle.cam6_table.proofs.BodyCodes.{tree_codes, Agree}
use Rattle.cam6_table.proofs.Segments.{then_do-ok}
use Rattle.cam6_table.proofs.BodiesDo.{codes_do}

-- the last of the codes
abbrev pub last_code : List Instructions → Instructions
last_code codes = code_at codes (length codes - 1)

-- the code of a tree
abbrev pub tree_code : Wiring → List Part → Instructions
tree_code wiring parts = last_code (tree_codes wiring [] [] parts)

abbrev pub entry_by : Lines → Result State RuleFault → Result ℕ RuleFault
entry_by shows (Ok s) = Ok (entry_of (shows 0) (shows 1) s)
entry_by shows (Err fault) = Err fault

entry-same : (wiring : Wiring) (sees : Sees) (shows : Lines) → Agree wiring sees shows →
    (r : Result State RuleFault) → entry_by shows r ≡ entry_in sees r
entry-same wiring sees shows agree (Ok s) =
    ap (λ b. Ok (entry_of b (shows 1) s))
    (agree (Beside Center Lower) 0 (line_of-center wiring.hood wiring.minor)) ∙
    ap (λ b. Ok (entry_of (sees (Beside Center Lower)) b s))
    (agree (Beside Center Upper) 1 (line_of-center_upper wiring.hood wiring.minor))
entry-same wiring sees shows agree (Err fault) = refl

-- the code answers as the rule does, whatever lines and names show
pub tree_does : (wiring : Wiring) (parts : List Part) (sees : Sees) (shows : Lines) →
    IsRule wiring parts → Agree wiring sees shows →
    entry_by shows (exec shows (tree_code wiring parts) 0 None untouched) ≡ meaning wiring parts sees
unfolding meaning
tree_does wiring parts sees shows rule agree =
    let codes = tree_codes wiring [] [] parts in
    let all = meanings sees wiring [] [] parts in
    let (are, long) = codes_do wiring sees shows agree parts [] [] [] rule.each refl
    (λ position later s. refl) in
    let last : meaning_at all (length codes - 1) untouched ≡ last_meaning all untouched =
    ap (λ n. meaning_at all (n - 1) untouched) long in
    ap (λ c. entry_by shows (exec shows c 0 None untouched)) (sym (append-nil (last_code codes))) ∙
    ap (entry_by shows) (are (length codes - 1) [] untouched ∙ then_do-ok _ ∙ last) ∙
    entry-same wiring sees shows agree (last_meaning all untouched)

-- an address shows the same on a line and under the line's name
pub agrees : (wiring : Wiring) (address : ℕ) →
    Agree wiring (environment wiring.hood wiring.minor address) (shown address)
agrees wiring address name line e = sym (ap (shown_under address) e)

entry-at : (address : ℕ) (r : Result State RuleFault) →
    entry_at address r ≡ entry_by (shown address) r
entry-at address (Ok s) =
    ap (λ n. Ok (entry_of (n == 1) (is_odd (address / 2)) s)) (sym (bit_at_lowest address)) ∙
    ap (λ n. Ok (entry_of (shown address 0) (n == 1) s))
    (sym (bit_at-suc address 0 ∙ bit_at_lowest (address / 2)))
entry-at address (Err fault) = refl

-- the code's answer at an address is what the rule means there
pub answers_rule : (wiring : Wiring) (parts : List Part) (address : ℕ) → IsRule wiring parts →
    result_at (tree_code wiring parts) address ≡ at_address wiring parts address
answers_rule wiring parts address rule =
    entry-at address (exec (shown address) (tree_code wiring parts) 0 None untouched) ∙
    tree_does wiring parts (environment wiring.hood wiring.minor address) (shown address) rule
    (agrees wiring address)
