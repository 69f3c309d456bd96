-- The bytes of answers on their way to a writer, if the writer's are known.
use Rattle.std.specs.Prelude.{ℕ, List, Option}
use Rattle.std.specs.Io.Buffered.{writer_contents, writer_inner}
use Rattle.cam6_server.specs.declared.outboxes.Outbox.{Outbox}

-- those that have gone to the writer
abbrev pub gone : {W : Type 0} → (W → Option (List ℕ)) → Outbox W → Option (List ℕ)
gone contents outbox = contents (writer_inner outbox.held)

-- those that were written: the ones that have gone, and then the ones that are held back
abbrev pub written : {W : Type 0} → (W → Option (List ℕ)) → Outbox W → Option (List ℕ)
written contents outbox = writer_contents contents outbox.held
