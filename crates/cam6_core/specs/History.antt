-- A private machine over the commands of its user. Lists have the newest first.
use Rattle.std.specs.Prelude.{List, [], ◌∷◌}
use Rattle.cam6_planes.specs.declared.sides.Side.{Side}
use Rattle.cam6_commands.specs.declared.commands.Command.{Command}
use Rattle.cam6_commands.specs.declared.replies.Reply.{Reply}
use Rattle.cam6_model.specs.Alone.{reply, after}
use Rattle.cam6_model.specs.Machine.{Machine, blank}

-- a private machine of this limit, after these commands
abbrev pub alone : Side → List Command → Machine
alone limit [] = blank limit
alone limit (c ∷ earlier) = after (alone limit earlier) c

-- what it has replied to them
abbrev pub replies_of : Side → List Command → List Reply
replies_of limit [] = []
replies_of limit (c ∷ earlier) = reply (alone limit earlier) c ∷ replies_of limit earlier
