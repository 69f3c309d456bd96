-- The machine after a command, by what is stored then.
use Rattle.std.proofs.Common.{◌≡◌, ◌∙◌, ℕ, List, Some, None, sym, ap}
use Rattle.cam6_planes.specs.Row.{byte_column}
use Rattle.cam6_planes.specs.Side.{side_number, side_of}
use Rattle.cam6_planes.specs.Stored.{Stored, AreAlike}
use Rattle.cam6_planes.specs.declared.sides.Side.{Side}
use Rattle.cam6_planes.specs.Cells.{Cells, cells, torus, with_row, without_plane}
use Rattle.cam6_wiring.specs.declared.wirings.Wiring.{Wiring}
use Rattle.cam6_model.specs.Rules as rule
use Rattle.cam6_model.specs.Machine.{Machine}
use Rattle.cam6_model.specs.Refusals.{set_refusal, cycle_refusal, definition_refusal}
use Rattle.cam6_model.specs.Refusals.{fault_refusal, refusal, drop_refusal, load_refusal}
use Rattle.cam6_model.specs.Saved.{restored, saved_bit}
use Rattle.cam6_commands.specs.declared.saved.SavedMachine.{SavedMachine}
use Rattle.cam6_commands.specs.Checks.{plane_refusal}
use Rattle.cam6_model.specs.Effects.{with_rule, without_rule, with_saved}
use Rattle.cam6_model.specs.Alone.{reply, after, command_of}
use Rattle.cam6_rules.specs.Numbers.{named_entries}
use Rattle.cam6_machine.specs.Internal.Images.{stored_as}
use Rattle.cam6_model.specs.Moves.{moved}
use Rattle.cam6_machine.specs.Internal.Ways.{reply_at}
use Rattle.cam6_commands.specs.declared.commands.Command.TheVariants.{Set, Rule, Cycle, Run, Back}
use Rattle.cam6_commands.specs.declared.commands.Command.TheVariants.{Clear, Drop, Load}
use Rattle.cam6_cycle.specs.declared.tables.Direction.{Direction}
use Rattle.cam6_cycle.specs.declared.tables.Direction.TheVariants.{Forward, Backward}
use Rattle.cam6_commands.specs.declared.commands.NamedEntry.{NamedEntry}
use Rattle.cam6_cycle.specs.declared.entries.Entry.{Entry}
use Rattle.cam6_commands.specs.declared.replies.Done.TheVariants as done
use Rattle.cam6_commands.specs.declared.replies.Reply.TheVariants as replies
use Rattle.cam6_model.proofs.Refusing.{reply-accepted, after-accepted}

module _ (planes : Stored) (limit : Side) (rules : List rule.Rule) (cycle : List Entry) (position : ℕ)
    (colours : List ℕ) where
  abbrev pub before : Machine
  before = stored_as planes limit rules cycle position colours

  -- a machine after a row was set
  pub after-set : (new : Stored) (plane row : ℕ) (bits : List ℕ) → AreAlike planes new →
      None ≡ set_refusal planes.side plane row bits →
      cells new ≡ with_row (side_number planes.side) (cells planes) plane row (byte_column bits) →
      stored_as new limit rules cycle position colours ≡ after before (Set plane row bits)
  after-set new plane row bits alike within set =
      let m = stored_as planes limit rules cycle position colours in
      ap {B = Machine} (λ s. record m { side = s; planes = cells new }) alike.side ∙
      ap {B = Machine} (λ (f : Cells). record m { planes = f }) set ∙
      sym (after-accepted m (Set plane row bits) (ap fault_refusal (sym within)))

  -- after a plane was cleared
  pub after-clear : (new : Stored) (plane : ℕ) → AreAlike planes new →
      None ≡ plane_refusal plane →
      cells new ≡ without_plane (side_number planes.side) (cells planes) plane →
      stored_as new limit rules cycle position colours ≡ after before (Clear plane)
  after-clear new plane alike within cleared =
      let m = stored_as planes limit rules cycle position colours in
      ap {B = Machine} (λ s. record m { side = s; planes = cells new }) alike.side ∙
      ap {B = Machine} (λ (f : Cells). record m { planes = f }) cleared ∙
      sym (after-accepted m (Clear plane) (ap fault_refusal (sym within)))

  -- after a rule was dropped
  pub after-drop : (name : List ℕ) (new : List rule.Rule) (closed : List Entry) →
      drop_refusal rules (named_entries rules cycle) name ≡ None → new ≡ without_rule name rules →
      named_entries new closed ≡ named_entries rules cycle →
      stored_as planes limit new closed position colours ≡ after before (Drop name)
  after-drop name new closed accepted dropped named =
      let m = before in
      ap {B = Machine} (λ l. record m { rules = new; cycle = l }) named ∙
      ap {B = Machine} (λ l. record m { rules = l }) dropped ∙
      sym (after-accepted m (Drop name) (ap fault_refusal accepted))

  -- after a rule was put
  pub after-rule : (name text : List ℕ) (wiring : Wiring) (new : List rule.Rule) →
      definition_refusal rules (named_entries rules cycle) name wiring text ≡ None →
      new ≡ with_rule (record { name = name; wiring = wiring; text = text }) rules →
      named_entries new cycle ≡ named_entries rules cycle →
      stored_as planes limit new cycle position colours ≡ after before (Rule name wiring text)
  after-rule name text wiring new accepted put named =
      let m = before in
      ap {B = Machine} (λ l. record m { rules = new; cycle = l }) named ∙
      ap {B = Machine} (λ l. record m { rules = l }) put ∙
      sym (after-accepted m (Rule name wiring text) accepted)

  -- after a cycle was set
  pub after-cycle : (entries : List NamedEntry) (new : List Entry) →
      cycle_refusal rules entries ≡ None → named_entries rules new ≡ entries →
      stored_as planes limit rules new 0 colours ≡ after before (Cycle entries)
  after-cycle entries new accepted named =
      let m = before in
      ap {B = Machine} (λ l. record m { cycle = l; position = 0 }) named ∙
      sym (after-accepted m (Cycle entries) (ap fault_refusal accepted))

  -- after a machine was loaded
  pub after-load : (saved : SavedMachine) (side : Side) (new : Stored) (other : List rule.Rule)
      (entries : List Entry) (place : ℕ) (map : List ℕ) →
      load_refusal limit saved ≡ None → side_of saved.side ≡ Some side → new.side ≡ side →
      cells new ≡ torus (side_number side) (saved_bit saved.planes) →
      other ≡ saved.rules → named_entries other entries ≡ saved.cycle → place ≡ saved.position →
      map ≡ saved.colours →
      stored_as new limit other entries place map ≡ after before (Load saved)
  after-load saved side new other entries place map accepted found same_side same_cells same_rules
      same_cycle same_position same_colours =
      let f = torus (side_number side) (saved_bit saved.planes) in
      let m = stored_as new limit other entries place map in
      ap {B = Machine} (λ s. record m { side = s }) same_side ∙
      ap {B = Machine} (λ (g : Cells). record m { side = side; planes = g }) same_cells ∙
      ap {B = Machine} (λ l. record m { side = side; planes = f; rules = l }) same_rules ∙
      ap {B = Machine} (λ l. record m { side = side; planes = f; rules = saved.rules; cycle = l })
      same_cycle ∙
      ap {B = Machine} (λ n. record (restored side limit saved) { position = n; colours = map })
      same_position ∙
      ap {B = Machine} (λ l. record (restored side limit saved) { colours = l }) same_colours ∙
      sym (ap (λ o. with_saved o saved before) found) ∙
      sym (after-accepted before (Load saved) (ap fault_refusal accepted))

  -- the machine after steps that were done
  pub after-moves : (new : Stored) (last n : ℕ) (direction : Direction) →
      stored_as new limit rules cycle last colours ≡ moved direction n before →
      refusal before (command_of n direction) ≡ None →
      stored_as new limit rules cycle last colours ≡ after before (command_of n direction)
  after-moves new last n Forward made accepted =
      made ∙ sym (after-accepted before (Run n) accepted)
  after-moves new last n Backward made accepted =
      made ∙ sym (after-accepted before (Back n) accepted)

  -- the reply to them
  pub reply-moves : (new : Stored) (last n : ℕ) (direction : Direction) →
      stored_as new limit rules cycle last colours ≡ moved direction n before →
      refusal before (command_of n direction) ≡ None →
      reply_at direction last ≡ reply before (command_of n direction)
  reply-moves new last n Forward made accepted =
      ap (λ (m : Machine). replies.Done (done.Run m.position)) made ∙
      sym (reply-accepted before (Run n) accepted)
  reply-moves new last n Backward made accepted =
      ap (λ (m : Machine). replies.Done (done.Back m.position)) made ∙
      sym (reply-accepted before (Back n) accepted)
