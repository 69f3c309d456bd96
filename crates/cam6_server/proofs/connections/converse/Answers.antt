use Rattle.std.proofs.Common.{rules, ℕ, Result, subst}
use Rattle.cam6_wire.specs.declared.faults.LineFault.{LineFault}
use Rattle.cam6_server.specs.Connections.{FirstSays}
use Rattle.cam6_server.proofs.Refusing.{by_fault, by_seating, not_seated, refused}
use Rattle.cam6_server.proofs.Seating.{seated}
use Rattle.cam6_server.proofs.connections.converse.Goals as goal

pub returns-in-Ok : goal.returns-in-Ok
returns-in-Ok g c =
    let read = g.R.Read.remaining c.args.reader.now in
    let after = g.R.Read.remaining c.first_line.new.reader in
    let own = c.in-Ok.ensures.free.own in
    seated c.serve_at_desk.result c.in-Ok-Ok.user c.in-Ok.desk read after _ _ _ own
    (subst (λ (said : Result ℕ LineFault). FirstSays said read after) c.in-Ok-Ok.field-0-is
    c.in-Ok-Ok.ensures.read)
    (c.serve_at_desk.ensures c.in-Ok-Ok.user own)

pub returns-in-Ok-Err : goal.returns-in-Ok-Err
returns-in-Ok-Err g c =
    let read = g.R.Read.remaining c.args.reader.now in
    let remaining = g.R.Read.remaining c.first_line.new.reader in
    refused _ _ _ read remaining _ _ c.fault_line.ensures
    (by_fault c.in-Ok-Err.fault read remaining (search rules)
    (subst (λ (said : Result ℕ LineFault). FirstSays said read remaining) c.in-Ok-Err.field-0-is
    c.in-Ok-Err.ensures.read))
    c.refuse.ensures

pub returns-in-Err-taken : goal.returns-in-Err-taken
returns-in-Err-taken g c =
    let read = g.R.Read.remaining c.args.reader.now in
    let remaining = g.R.Read.remaining c.first_line.new.reader in
    refused _ _ _ read remaining _ _ c.seating_line.ensures
    (by_seating c.in-Ok-Ok.user c.in-Err-taken.seating read remaining
    (not_seated _ _ c.in-Ok-Ok.user c.in-Err-taken.seating c.in-Err-taken.ensures)
    (subst (λ (said : Result ℕ LineFault). FirstSays said read remaining) c.in-Ok-Ok.field-0-is
    c.in-Ok-Ok.ensures.read))
    c.refuse-in-Err-taken.ensures
