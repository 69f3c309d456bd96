-- What code of the rule that a text was accepted as is to the text.
use Rattle.std.proofs.Common.{◌≡◌, ◌∙◌, ℕ, List, Result, Ok, slice_index, refl, sym, ap, subst}
use Rattle.std.specs.Result.{IsOk}
use Rattle.cam6_wiring.specs.declared.wirings.Wiring.{Wiring}
use Rattle.cam6_forth.specs.Defined.{RuleWords}
use Rattle.cam6_forth.specs.Outcome.{IsAccepted}
use Rattle.cam6_forth.specs.Texts.{IsTextOf}
use Rattle.cam6_forth.specs.Tree.{rule_of}
use Rattle.cam6_forth.specs.Trees.{tree_of}
use Rattle.cam6_forth.proofs.OneTree.{tree_is_read}
use Rattle.cam6_table.specs.declared.codes.Instruction.{Instruction}
use Rattle.cam6_table.specs.declared.faults.RuleFault.{RuleFault}
use Rattle.cam6_table.specs.Codes.{result_at, IsCodeOf}
use Rattle.cam6_table.specs.Meaning.{at_address}
use Rattle.cam6_table.specs.Laws.{FilledIsOfTheText}

-- the text spells its tree, and the code answers what the tree means, wherever it may stop
pub record IsOfTheText (wiring : Wiring) (text : List ℕ) (code : List Instruction) : Type 0 where
  pub spells : IsTextOf wiring (tree_of text) text
  pub means : (address : ℕ) → result_at code address ≡ at_address wiring (tree_of text) address

pub of_the_text : (wiring : Wiring) (text : List ℕ) (rule : RuleWords)
    (code : List Instruction) → IsAccepted wiring text (Ok rule) → IsCodeOf code rule →
    IsOfTheText wiring text code
of_the_text wiring text rule code accepted is =
    let parts = accepted.0 in
    let same : parts ≡ tree_of text = sym (tree_is_read wiring parts text accepted.1) in
    let of_parts : IsCodeOf code (rule_of wiring parts) = subst (IsCodeOf code) accepted.2 is in
    record {
      spells = subst (λ tree. IsTextOf wiring tree text) same accepted.1;
      means = λ address.
          of_parts parts accepted.1.all.rule refl address ∙
          ap (λ tree. at_address wiring tree address) same;
    }

is_entry : (said : Result ℕ RuleFault) (entry : ℕ) → said ≡ Ok entry → IsOk said
is_entry said entry e = subst (λ (r : Result ℕ RuleFault). IsOk r) (sym e) refl

pub filled_is_of_the_text : FilledIsOfTheText
filled_is_of_the_text wiring text rule code entries accepted is whole are =
    let its = of_the_text wiring text rule code accepted is in (
      record {
        spells = its.spells;
        means = its.means;
        runs = λ address within.
            is_entry (result_at code address) (slice_index entries address) (are address within);
      },
      record {
        rule = its.spells.all.rule;
        whole = whole;
        holds = λ address within. sym (its.means address) ∙ are address within;
      },
    )
