-- No reply has a float in it, and no outcome.
use Rattle.std.proofs.Common.{◌≡◌, ℕ, List, [], ◌∷◌, false, Some, None, refl}
use Rattle.serde_json.specs.Written.{has_float, items_have_float}
use Rattle.cam6_commands.specs.declared.refusals.Refusal.{Refusal}
use Rattle.cam6_commands.specs.declared.refusals.Refusal.TheVariants.{Fault, Text, Stops}
use Rattle.cam6_commands.specs.declared.refusals.Refusal.TheVariants.{NotReversible}
use Rattle.cam6_commands.specs.declared.replies.Reply.{Reply}
use Rattle.cam6_commands.specs.declared.replies.Reply.TheVariants.{Done, Refused}
use Rattle.cam6_commands.specs.declared.replies.Done.{Done as WhatIsDone}
use Rattle.cam6_commands.specs.declared.replies.Done.TheVariants.{Set, Rule, Cycle, Side, Run}
use Rattle.cam6_commands.specs.declared.replies.Done.TheVariants.{Back, Row, Plane, Clear}
use Rattle.cam6_commands.specs.declared.replies.Done.TheVariants.{Drop, Rules, Map, Colours, Count}
use Rattle.cam6_commands.specs.declared.replies.Done.TheVariants.{Save, Load}
use Rattle.cam6_commands.specs.declared.outcomes.Outcome.{Outcome}
use Rattle.cam6_commands.specs.declared.outcomes.Outcome.TheVariants as outcome
use Rattle.cam6_block.specs.declared.refusals.NotReversible.TheVariants as cause
use Rattle.cam6_wire.specs.Replies.{done_data, refusal_data, reply_data}
use Rattle.cam6_wire.specs.Numbers.{texts}
use Rattle.cam6_wire.specs.Outcomes.{outcome_data}
use Rattle.cam6_wire.specs.declared.saved.Version.TheVariants.{Second}
use Rattle.cam6_wire.proofs.SavedValues.{saved_without_float}

texts_without_float : (rows : List (List ℕ)) → items_have_float (texts rows) ≡ false
texts_without_float [] = refl
texts_without_float (row ∷ rows) = texts_without_float rows

done_without_float : (done : WhatIsDone) → has_float (done_data done) ≡ false
done_without_float Set = refl
done_without_float Clear = refl
done_without_float Rule = refl
done_without_float Drop = refl
done_without_float (Rules names) = rw (texts_without_float names)
done_without_float Map = refl
done_without_float (Colours colours) = refl
done_without_float (Count count) = refl
done_without_float Cycle = refl
done_without_float Side = refl
done_without_float (Run position) = refl
done_without_float (Back position) = refl
done_without_float (Row bits) = refl
done_without_float (Plane rows) = rw (texts_without_float rows)
done_without_float (Save machine) = rw (saved_without_float Second machine)
done_without_float Load = refl

refusal_without_float : (refusal : Refusal) → has_float (refusal_data refusal) ≡ false
refusal_without_float (Fault fault) = refl
refusal_without_float (Text fault) = refl
refusal_without_float (Stops address fault) = refl
refusal_without_float (NotReversible entry half cause.Hood) = refl
refusal_without_float (NotReversible entry half cause.Centres) = refl
refusal_without_float (NotReversible entry half (cause.Meeting phase a b)) = refl

pub reply_without_float : (reply : Reply) → has_float (reply_data reply) ≡ false
reply_without_float (Done done) = done_without_float done
reply_without_float (Refused refusal) = refusal_without_float refusal

pub outcome_without_float : (o : Outcome) → has_float (outcome_data o) ≡ false
outcome_without_float outcome.NoMemory = refl
outcome_without_float (outcome.Refused reason) = refl
outcome_without_float (outcome.Asked left) = refl
outcome_without_float (outcome.Leased left) = refl
outcome_without_float (outcome.Banded left) = refl
outcome_without_float (outcome.Preempted left) = refl
outcome_without_float (outcome.Failed (Some left)) = refl
outcome_without_float (outcome.Failed None) = refl
outcome_without_float outcome.Repaired = refl
outcome_without_float outcome.Evicted = refl
outcome_without_float (outcome.Collected reply) = rw (reply_without_float reply)
