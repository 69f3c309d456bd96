use Rattle.std.proofs.KnownBytes.{Appends-kept}
use Rattle.cam6_writing.proofs.Writes.{front_at_fault, whole_and_no_flush}
use Rattle.cam6_writing.proofs.writers.send.Goals as goal

pub returns-in_err-write_bytes : goal.returns-in_err-write_bytes
returns-in_err-write_bytes g c =
    front_at_fault _ _ _ _ c.from_residual.ensures.0 c.in_err-write_bytes.ensures

pub returns-in-Ok : goal.returns-in-Ok
returns-in-Ok g c =
    Appends-kept _ _ _ _ c.in_ok-write_bytes.ensures c.flush.ensures.bytes

pub returns-in-Err : goal.returns-in-Err
returns-in-Err g c =
    whole_and_no_flush _ _ _ _ c.in_ok-write_bytes.ensures c.flush.ensures.bytes
