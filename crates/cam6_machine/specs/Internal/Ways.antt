-- The replies to steps along a cycle.
use Rattle.std.specs.Prelude.{ℕ, zero, suc}
use Rattle.cam6_cycle.specs.declared.tables.Direction.{Direction}
use Rattle.cam6_cycle.specs.declared.tables.Direction.TheVariants.{Forward, Backward}
use Rattle.cam6_commands.specs.declared.replies.Done.TheVariants as done
use Rattle.cam6_machine.specs.declared.replies.Now.{Now}
use Rattle.cam6_machine.specs.declared.replies.Now.TheVariants as now
use Rattle.cam6_commands.specs.declared.replies.Reply.{Reply}
use Rattle.cam6_commands.specs.declared.replies.Reply.TheVariants as reply

-- the reply once a position is reached
abbrev pub reply_at : Direction → ℕ → Reply
reply_at Forward position = reply.Done (done.Run position)
reply_at Backward position = reply.Done (done.Back position)

-- so many steps are left to do, or there are none and the position is replied
abbrev pub work_or_reply : ℕ → Direction → ℕ → Now
work_or_reply zero direction position = now.Reply (reply_at direction position)
work_or_reply (suc n) direction position = now.Work (suc n) direction
