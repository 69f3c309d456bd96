-- What a line says where its spelling is looked at too.
use Rattle.std.proofs.Common.{◌≡◌, ℕ, List, Bool, true, false, cond, Result, Ok, Err}
use Rattle.std.proofs.Common.{refl, sym, ap, ◌∙◌}
use Rattle.cam6_commands.specs.declared.commands.Command.{Command}
use Rattle.cam6_wire.specs.Commands.{command_in, said_by, is_spelled, if_spelled, command}
use Rattle.cam6_wire.specs.Commands.{IsFaultOf}
use Rattle.cam6_wire.specs.declared.faults.LineFault.{LineFault}
use Rattle.cam6_wire.specs.declared.faults.LineFault.TheVariants.{NoMemory, TooLong}
use Rattle.cam6_wire.specs.declared.faults.LineFault.TheVariants.{NoJson, NoCommand, OtherSpelling}

by_spelling : (line : List ℕ) (c : Command) (is : Bool) → said_by command_in line ≡ Ok c →
    is_spelled line c ≡ is → command line ≡ cond is (Ok c) (Err OtherSpelling)
by_spelling line c is said spelled =
    ap (if_spelled line) said ∙ ap (λ b. cond b (Ok c) (Err OtherSpelling)) spelled

-- a line says a command in its spelling
pub said_if_spelled : (line : List ℕ) (c : Command) → said_by command_in line ≡ Ok c →
    is_spelled line c ≡ true → command line ≡ Ok c
said_if_spelled line c said spelled = by_spelling line c true said spelled

-- and in no other
pub not_if_other : (line : List ℕ) (c : Command) → said_by command_in line ≡ Ok c →
    is_spelled line c ≡ false → command line ≡ Err OtherSpelling
not_if_other line c said other = by_spelling line c false said other

-- a fault is told before the spelling is looked at
pub fault_stays : (line : List ℕ) (fault : LineFault) (said : Result Command LineFault) →
    IsFaultOf fault said → IsFaultOf fault (if_spelled line said)
fault_stays line NoMemory said is = tt
fault_stays line TooLong said is = ap (if_spelled line) is
fault_stays line NoJson said is = ap (if_spelled line) is
fault_stays line NoCommand said is = ap (if_spelled line) is
fault_stays line OtherSpelling said is = ap (if_spelled line) is

by_test : (line : List ℕ) (x c : Command) (b : Bool) → is_spelled line x ≡ b →
    cond b (Ok x) (Err OtherSpelling) ≡ Ok c → (x ≡ c) × (is_spelled line c ≡ true)
by_test line x c false is e = let never : ⊥ = cc in absurd never
by_test line x c true is e =
    let same : x ≡ c = cc in (same, ap (is_spelled line) (sym same) ∙ is)

by_said : (line : List ℕ) (r : Result Command LineFault) (c : Command) →
    if_spelled line r ≡ Ok c → (r ≡ Ok c) × (is_spelled line c ≡ true)
by_said line (Err fault) c e = let never : ⊥ = cc in absurd never
by_said line (Ok x) c e =
    let found = by_test line x c (is_spelled line x) refl e in (ap Ok found.0, found.1)

-- a line that says a command has its spelling
pub spelled_as_said : (line : List ℕ) (c : Command) → command line ≡ Ok c →
    (said_by command_in line ≡ Ok c) × (is_spelled line c ≡ true)
spelled_as_said line c said = by_said line (said_by command_in line) c said
