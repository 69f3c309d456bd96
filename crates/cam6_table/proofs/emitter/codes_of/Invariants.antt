-- the definitions before have their codes, and each word of the others what it needs
use Rattle.std.proofs.Common.{◌≡◌, [], drop}
use Rattle.cam6_table.specs.Internal.Emitting.{all_codes, AllHaveTheirs}
use Rattle.cam6_table.proofs.emitter.codes_of.Given as goal

abbrev pub invariant-loop-definition : goal.invariant-loop-definition
invariant-loop-definition l = record {
  made : all_codes l.wiring l.codes.items (drop l.definition-index l.definitions)
      ≡ all_codes l.wiring [] l.definitions;
  needs : AllHaveTheirs l.wiring l.codes.items (drop l.definition-index l.definitions);
}
