-- No reply nests deep, and no outcome.
use Rattle.std.proofs.Common.{◌≡◌, ◌≤◌, ℕ, List, [], ◌∷◌, Some, None, refl, arith}
use Rattle.serde_json.specs.Data.{depth, items_depth}
use Rattle.serde_json.specs.Read.{max_depth}
use Rattle.cam6_commands.specs.declared.refusals.Refusal.{Refusal}
use Rattle.cam6_commands.specs.declared.refusals.Refusal.TheVariants.{Fault, Text, Stops}
use Rattle.cam6_commands.specs.declared.refusals.Refusal.TheVariants.{NotReversible}
use Rattle.cam6_commands.specs.declared.replies.Reply.{Reply}
use Rattle.cam6_commands.specs.declared.replies.Reply.TheVariants.{Done, Refused}
use Rattle.cam6_commands.specs.declared.replies.Done.{Done as WhatIsDone}
use Rattle.cam6_commands.specs.declared.replies.Done.TheVariants.{Set, Rule, Cycle, Side, Run}
use Rattle.cam6_commands.specs.declared.replies.Done.TheVariants.{Back, Row, Plane, Clear}
use Rattle.cam6_commands.specs.declared.replies.Done.TheVariants.{Drop, Rules, Map, Colours, Count}
use Rattle.cam6_commands.specs.declared.replies.Done.TheVariants.{Save, Load}
use Rattle.cam6_commands.specs.declared.outcomes.Outcome.{Outcome}
use Rattle.cam6_commands.specs.declared.outcomes.Outcome.TheVariants as outcome
use Rattle.cam6_block.specs.declared.refusals.NotReversible.TheVariants as cause
use Rattle.cam6_wire.specs.Replies.{done_data, refusal_data, reply_data}
use Rattle.cam6_wire.specs.Numbers.{texts}
use Rattle.cam6_wire.specs.Outcomes.{outcome_data}
use Rattle.cam6_wire.specs.declared.saved.Version.TheVariants.{Second}
use Rattle.cam6_wire.proofs.SavedValues.{flat_saved}

flat_texts : (rows : List (List ℕ)) → items_depth (texts rows) ≡ 0
flat_texts [] = refl
flat_texts (row ∷ rows) = omega (arith, flat_texts rows)

flat_done : (done : WhatIsDone) → depth (done_data done) ≤ 4
flat_done Set = omega arith
flat_done Clear = omega arith
flat_done Rule = omega arith
flat_done Drop = omega arith
flat_done (Rules names) = omega (arith, flat_texts names)
flat_done Map = omega arith
flat_done (Colours colours) = omega arith
flat_done (Count count) = omega arith
flat_done Cycle = omega arith
flat_done Side = omega arith
flat_done (Run position) = omega arith
flat_done (Back position) = omega arith
flat_done (Row bits) = omega arith
flat_done (Plane rows) = omega (arith, flat_texts rows)
flat_done (Save machine) = omega (arith, flat_saved Second machine)
flat_done Load = omega arith

flat_refusal : (refusal : Refusal) → depth (refusal_data refusal) ≤ 2
flat_refusal (Fault fault) = omega arith
flat_refusal (Text fault) = omega arith
flat_refusal (Stops address fault) = omega arith
flat_refusal (NotReversible entry half cause.Hood) = omega arith
flat_refusal (NotReversible entry half cause.Centres) = omega arith
flat_refusal (NotReversible entry half (cause.Meeting phase a b)) = omega arith

four_deep : (reply : Reply) → depth (reply_data reply) ≤ 4
four_deep (Done done) = flat_done done
four_deep (Refused refusal) = omega (arith, flat_refusal refusal)

pub flat_reply : (reply : Reply) → depth (reply_data reply) ≤ max_depth
flat_reply reply = omega (arith, four_deep reply)

-- a reply that is collected stands one deeper
pub flat_outcome : (o : Outcome) → depth (outcome_data o) ≤ max_depth
flat_outcome outcome.NoMemory = omega arith
flat_outcome (outcome.Refused reason) = omega arith
flat_outcome (outcome.Asked left) = omega arith
flat_outcome (outcome.Leased left) = omega arith
flat_outcome (outcome.Banded left) = omega arith
flat_outcome (outcome.Preempted left) = omega arith
flat_outcome (outcome.Failed (Some left)) = omega arith
flat_outcome (outcome.Failed None) = omega arith
flat_outcome outcome.Repaired = omega arith
flat_outcome outcome.Evicted = omega arith
flat_outcome (outcome.Collected reply) = omega (arith, four_deep reply)
