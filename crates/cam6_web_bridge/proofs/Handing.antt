-- A host at the other end of two streams answers a line, or fails to.
use Rattle.std.proofs.Common.{ℕ, List, refl}
use Rattle.std.specs.Prelude.{Option, Ok, Err}
use Rattle.cam6_web_bridge.specs.HostLines.{FailsLine, Hands, Misses}
use Rattle.cam6_web_bridge.specs.declared.hosts.Silence.{Silence}
use Rattle.cam6_web_bridge.specs.declared.hosts.Silence.TheVariants as silence

-- a line that wasn't handed over whole
pub not_handed : (told new left : Option (List ℕ)) (line : List ℕ) (s : Silence)
    → Hands (Err s) told line new
    → FailsLine (record { told = told; left = left }) line s (record { told = new; left = left })
not_handed told new left line silence.Unwritten is = (is, refl)
not_handed told new left line silence.Unread is = absurd is
not_handed told new left line silence.Ended is = absurd is
not_handed told new left line silence.NoMemory is = (is, refl)

-- a line that was handed over, and whose answer was missed
pub missed : (told new left rest : Option (List ℕ)) (line : List ℕ) (s : Silence)
    → Hands (Ok tt) told line new → Misses left s rest
    → FailsLine (record { told = told; left = left }) line s (record { told = new; left = rest })
missed told new left rest line silence.Unwritten handed is = absurd is
missed told new left rest line silence.Unread handed is = (handed, is)
missed told new left rest line silence.Ended handed is = (handed, is)
missed told new left rest line silence.NoMemory handed is = absurd is
