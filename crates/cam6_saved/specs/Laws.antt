-- What follows: a machine's line gives it back, and no other line does.
use Rattle.std.specs.Prelude.{◌≡◌, ◌≤◌, ℕ, List, None, Ok}
use Rattle.cam6_planes.specs.Side.{side_number}
use Rattle.cam6_commands.specs.declared.commands.Command.{Command}
use Rattle.cam6_commands.specs.declared.commands.Command.TheVariants.{Load}
use Rattle.cam6_commands.specs.declared.saved.SavedMachine.{SavedMachine}
use Rattle.cam6_model.specs.Machine.{Machine}
use Rattle.cam6_model.specs.Saved.{saved_of}
use Rattle.cam6_model.specs.Refusals.{refusal}
use Rattle.cam6_model.specs.Alone.{after}
use Rattle.cam6_model.specs.Always.{IsMachine}
use Rattle.cam6_wire.specs.Commands.{command}
use Rattle.cam6_wire.specs.declared.saved.Version.{Version}
use Rattle.cam6_wire.specs.declared.saved.Version.TheVariants.{Second}
use Rattle.cam6_saved.specs.Texts.{saved_text, load_line, IsOfVersion}

-- the line of a machine is within the limit of lines, and is a load of what was saved of it
abbrev pub LineIsSaid : Type 0
LineIsSaid =
    (m : Machine) (version : Version) → IsMachine m → IsOfVersion version m →
    command (load_line m version) ≡ Ok (Load (saved_of m))

-- every machine with a limit of at least the side does the line, and becomes the machine that was
-- saved, except for its limit
abbrev pub LineGivesBack : Type 0
LineGivesBack =
    (m n : Machine) (version : Version) → IsMachine m → IsOfVersion version m →
    side_number m.side ≤ side_number n.limit →
    (c : Command) × (command (load_line m version) ≡ Ok c) × (refusal n c ≡ None)
    × (after n c ≡ record m { limit = n.limit })

-- a line of a load that is done is the line of the resulting machine
abbrev pub NoOtherLineLoads : Type 0
NoOtherLineLoads =
    (line : List ℕ) (n : Machine) (saved : SavedMachine) → command line ≡ Ok (Load saved) →
    refusal n (Load saved) ≡ None →
    IsMachine (after n (Load saved))
    × ((version : Version) × IsOfVersion version (after n (Load saved))
    × (line ≡ load_line (after n (Load saved)) version))

-- two machines with one text differ in their limits alone
abbrev pub OneTextOneMachine : Type 0
OneTextOneMachine =
    (m n : Machine) → IsMachine m → IsMachine n → saved_text m Second ≡ saved_text n Second →
    n ≡ record m { limit = n.limit }
