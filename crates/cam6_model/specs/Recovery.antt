-- A machine that is lost: another one loads what was saved of it, and is given the commands since.
use Rattle.std.specs.Prelude.{◌≡◌, List, [], ◌∷◌, ◌++◌, None, ⊤}
use Rattle.std.specs.List.{AllByRecursion}
use Rattle.cam6_planes.specs.declared.sides.Side.{Side}
use Rattle.cam6_commands.specs.RuleTexts.{HasText}
use Rattle.cam6_commands.specs.declared.commands.Command.{Command}
use Rattle.cam6_commands.specs.declared.commands.Command.TheVariants.{Load}
use Rattle.cam6_commands.specs.declared.replies.Reply.{Reply}
use Rattle.cam6_model.specs.Machine.{Machine, blank}
use Rattle.cam6_model.specs.Saved.{saved_of}
use Rattle.cam6_model.specs.Refusals.{refusal}
use Rattle.cam6_model.specs.Alone.{after, replies, after_all}

-- the texts of rules in commands are UTF-8
abbrev pub HaveTexts : List Command → Type 0
HaveTexts commands = AllByRecursion HasText commands

-- the load of what is saved of a blank machine of this limit after these commands
abbrev pub load_after : Side → List Command → Command
load_after limit saved = Load (saved_of (after_all (blank limit) saved))

-- another machine takes the place of one that was saved after some commands and then lost; it is
-- given the commands since the save
pub record IsRecovered (limit : Side) (saved since : List Command) (other : Machine) : Type 0 where
  -- it doesn't refuse to load what was saved
  pub loads : refusal other (load_after limit saved) ≡ None
  -- it replies to the commands since as the lost machine would have
  pub alike :
      replies (after other (load_after limit saved)) since
      ≡ replies (after_all (blank limit) saved) since
  -- it ends as the machine that was given all commands in one list
  pub machine :
      after_all (after other (load_after limit saved)) since
      ≡ after_all (blank limit) (saved ++ since)
  -- the replies of that one are those of both, one after the other
  pub whole :
      replies (blank limit) (saved ++ since)
      ≡ replies (blank limit) saved ++ replies (after other (load_after limit saved)) since

-- a part of a journal: the machine that takes over, as it was before, and the commands that it is
-- given until it is saved
pub record Part : Type 0 where
  pub other : Machine
  pub commands : List Command

-- a part is on a machine of this limit, and its texts of rules are UTF-8
abbrev pub IsPart : Side → Part → Type 0
IsPart limit part = (part.other.limit ≡ limit) × HaveTexts part.commands

-- the machine of a part once it has loaded what was saved of m
abbrev pub taken_over : Machine → Part → Machine
taken_over m part = after part.other (Load (saved_of m))

-- the machine that is saved after a part
abbrev pub part_done : Machine → Part → Machine
part_done m part = after_all (taken_over m part) part.commands

-- and after some parts, each of which begins by loading what was saved after the one before
abbrev pub parts_done : Machine → List Part → Machine
parts_done m [] = m
parts_done m (part ∷ later) = parts_done (part_done m part) later

-- none of their machines refuses its load
abbrev pub AreTakenOver : Machine → List Part → Type 0
AreTakenOver m [] = ⊤
AreTakenOver m (part ∷ later) =
    (refusal part.other (Load (saved_of m)) ≡ None) × AreTakenOver (part_done m part) later

-- the replies of the parts, one part after the other
abbrev pub replies_of_parts : Machine → List Part → List Reply
replies_of_parts m [] = []
replies_of_parts m (part ∷ later) =
    replies (taken_over m part) part.commands ++ replies_of_parts (part_done m part) later

-- their commands in one list
abbrev pub commands_of_parts : List Part → List Command
commands_of_parts [] = []
commands_of_parts (part ∷ later) = part.commands ++ commands_of_parts later

-- a journal of parts has the machine and the replies of all its commands in one list
pub record IsOneList (limit : Side) (parts : List Part) : Type 0 where
  pub loads : AreTakenOver (blank limit) parts
  pub machine : parts_done (blank limit) parts ≡ after_all (blank limit) (commands_of_parts parts)
  pub whole :
      replies_of_parts (blank limit) parts ≡ replies (blank limit) (commands_of_parts parts)
