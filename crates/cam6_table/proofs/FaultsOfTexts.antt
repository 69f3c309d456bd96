-- What the trial of a text's code says of the text.
use Rattle.std.proofs.Common.{◌≡◌, ◌∙◌, ℕ, List, Option, Some, None, Result, Ok, sym, ap, subst}
use Rattle.std.specs.Result.{IsOk}
use Rattle.cam6_wiring.specs.declared.wirings.Wiring.{Wiring}
use Rattle.cam6_forth.specs.Defined.{RuleWords}
use Rattle.cam6_forth.specs.Outcome.{IsReadAs, IsAccepted}
use Rattle.cam6_forth.specs.Reading.{read_text}
use Rattle.cam6_forth.specs.Trees.{tree_of}
use Rattle.cam6_table.specs.declared.codes.Instruction.{Instruction}
use Rattle.cam6_table.specs.declared.compiling.NotCompiled.TheVariants.{Stops}
use Rattle.cam6_table.specs.declared.faults.RuleFault.{RuleFault}
use Rattle.cam6_table.specs.Codes.{result_at, IsCodeOf}
use Rattle.cam6_table.specs.Compiling.{fault_in, fault_of_stop, fault_read}
use Rattle.cam6_table.specs.Meaning.{at_address}
use Rattle.cam6_table.specs.RuleTexts.{IsCodeFor}
use Rattle.cam6_table.specs.Tables.{IsLeastStop, least_stop}
use Rattle.cam6_table.proofs.RuleTexts.{of_the_text}
use Rattle.cam6_table.proofs.Stops.{least_is_found, none_is_found}

-- code of the rule that a text was read as
module _ (wiring : Wiring) (text : List ℕ) (rule : RuleWords) (code : List Instruction)
    (accepted : IsAccepted wiring text (Ok rule))
    (exact : IsReadAs (read_text wiring text) wiring (Ok rule)) (is : IsCodeOf code rule) where
  abbrev at : ℕ → Result ℕ RuleFault
  at = at_address wiring (tree_of text)

  means : (address : ℕ) → result_at code address ≡ at address
  means = (of_the_text wiring text rule code accepted is).means

  runs : (address : ℕ) → IsOk (result_at code address) → IsOk (at address)
  runs address ok = subst (λ (r : Result ℕ RuleFault). IsOk r) (means address) ok

  by_stop : (stop : Option (ℕ × RuleFault)) → least_stop at ≡ stop →
      fault_in wiring text ≡ fault_of_stop stop
  by_stop stop found = ap (fault_read wiring text) exact.0 ∙ ap fault_of_stop found

  -- nothing is wrong where it runs everywhere
  pub nothing_wrong : IsCodeFor wiring text code → fault_in wiring text ≡ None
  nothing_wrong tried =
      by_stop None (none_is_found at (λ address within. runs address (tried.runs address within)))

  -- and where it stops, its least stop is
  pub its_stop : (address : ℕ) (fault : RuleFault) → IsLeastStop (result_at code) address fault →
      fault_in wiring text ≡ Some (Stops address fault)
  its_stop address fault first =
      by_stop (Some (address, fault)) (least_is_found at address fault (record {
        within = first.within;
        stops = sym (means address) ∙ first.stops;
        least = λ before below. runs before (first.least before below);
      }))
