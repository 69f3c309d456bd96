-- The last code of a rule's definitions is the rule's code.
use Rattle.std.proofs.Common.{◌≡◌, ℕ, ◌+◌, ◌-◌, ◌<◌, ◌≤◌, List, [], ◌∷◌, length, ap}
use Rattle.std.proofs.Common.{◌∙◌, ◌++◌, sym, length-append, arith, Option, Some, None}
use Rattle.std.proofs.Common.{MatchOption, slice_index_or}
use Rattle.cam6_wiring.specs.declared.wirings.Wiring.{Wiring}
use Rattle.cam6_forth.specs.Defined.{Defined, RuleWords}
use Rattle.cam6_forth.specs.Tree.{Part, IsRule, IsOfTree, rule_of}
use Rattle.cam6_table.specs.Codes.{result_at, IsCodeOf}
use Rattle.cam6_table.specs.Internal.Emitting.{Instructions, code_at, words_code, all_codes}
use Rattle.cam6_forth.proofs.Runs.{length-all}
use Rattle.cam6_table.proofs.BodyCodes.{tree_codes}
use Rattle.cam6_table.proofs.Emission.{rule_codes}
use Rattle.cam6_table.proofs.Lengths.{code_length}
use Rattle.cam6_table.proofs.Correct.{last_code, answers_rule}

some_code : (code last : Instructions) → Some code ≡ Some last → code ≡ last
some_code code last is = cc

-- what is taken off is the last code
pub popped_last : (codes : List Instructions) (popped : Option Instructions) (code : Instructions)
    (count left : ℕ) → count ≡ length codes →
    MatchOption popped ((count ≡ 0) × (left ≡ 0)) (λ code. left + 1 ≡ count) →
    ((d : Instructions) → 0 < count → popped ≡ Some (slice_index_or codes (count - 1) d)) →
    popped ≡ Some code → code ≡ last_code codes
popped_last codes None code count left long cases value is = cc is
popped_last codes (Some last) code count left long cases value is =
    some_code code last (sym is)
    ∙ some_code last (code_at codes (count - 1)) (value [] (omega (arith, cases)))
    ∙ ap (λ n. code_at codes (n - 1)) long

-- a code for each definition
codes_for_each : (wiring : Wiring) (codes : List Instructions) (definitions : List Defined) →
    length (all_codes wiring codes definitions) ≡ length codes + length definitions
codes_for_each wiring codes [] = omega arith
codes_for_each wiring codes (definition ∷ later) =
    let code = words_code wiring codes definition.words in
    codes_for_each wiring (codes ++ code ∷ []) later
    ∙ ap (λ n. n + length later) (length-append codes (code ∷ []))
    ∙ omega arith

has_definitions : (rule : RuleWords) (parts : List Part) → IsRule rule.wiring parts →
    rule ≡ rule_of rule.wiring parts → 0 < length rule.definitions
has_definitions rule parts is same =
    let each = ap (λ (r : RuleWords). length r.definitions) same ∙ length-all rule.wiring parts in
    omega (arith, each, is.some)

-- there is one: a rule has a definition
pub never_without : (rule : RuleWords) (codes : List Instructions) (popped : Option Instructions)
    (count : ℕ) → codes ≡ all_codes rule.wiring [] rule.definitions → IsOfTree rule →
    count ≡ length codes →
    ((d : Instructions) → 0 < count → popped ≡ Some (slice_index_or codes (count - 1) d)) →
    popped ≡ None → ⊥
never_without rule codes popped count made tree long value none =
    let some = has_definitions rule tree.0 tree.1 tree.2 in
    let each = ap length made ∙ codes_for_each rule.wiring [] rule.definitions in
    let contrary : None ≡ Some (code_at codes (count - 1)) =
    sym none ∙ value [] (omega (arith, long, each, some)) in
    cc contrary

-- the codes that were made of a rule's definitions
pub made_of : (rule : RuleWords) (wiring : Wiring) (definitions : List Defined)
    (codes : List Instructions) → wiring ≡ rule.wiring → definitions ≡ rule.definitions →
    codes ≡ all_codes wiring [] definitions → codes ≡ all_codes rule.wiring [] rule.definitions
made_of rule wiring definitions codes same_wiring same made =
    made
    ∙ ap (λ w. all_codes w [] definitions) same_wiring
    ∙ ap (all_codes rule.wiring []) same

-- the codes of a rule's definitions are those of its tree
codes_are : (rule : RuleWords) (codes : List Instructions) (parts : List Part) →
    codes ≡ all_codes rule.wiring [] rule.definitions → IsRule rule.wiring parts →
    rule ≡ rule_of rule.wiring parts → codes ≡ tree_codes rule.wiring [] [] parts
codes_are rule codes parts made is_rule same =
    made
    ∙ ap (λ (r : RuleWords). all_codes rule.wiring [] r.definitions) same
    ∙ rule_codes rule.wiring parts is_rule

-- it is at most 4,096 instructions
pub last-length : (rule : RuleWords) (codes : List Instructions) (code : Instructions) →
    codes ≡ all_codes rule.wiring [] rule.definitions → code ≡ last_code codes →
    IsOfTree rule → length code ≤ 4096
last-length rule codes code made last tree =
    let parts = tree.0 in
    let of_tree = codes_are rule codes parts made tree.1 tree.2 in
    let at_tree : code ≡ code_at (tree_codes rule.wiring [] [] parts) (length codes - 1) =
    last ∙ ap (λ cs. code_at cs (length codes - 1)) of_tree in
    omega (arith, ap length at_tree, code_length rule.wiring parts (length codes - 1) tree.1)

-- it answers what the rule means
pub last-is_code : (rule : RuleWords) (codes : List Instructions) (code : Instructions) →
    codes ≡ all_codes rule.wiring [] rule.definitions → code ≡ last_code codes →
    IsCodeOf code rule
last-is_code rule codes code made last parts is_rule same address =
    let of_tree = codes_are rule codes parts made is_rule same in
    ap (λ x. result_at x address) (last ∙ ap last_code of_tree)
    ∙ answers_rule rule.wiring parts address is_rule
