use Rattle.std.proofs.Common.{◌≡◌, ◌+◌, get_or, is_some, arith}
use Rattle.std.proofs.lemmas.List.{take_all}
use Rattle.channel_plan.specs.Tables.{owner_of}
use Rattle.station.specs.Faults.{told_by}
use Rattle.station.specs.Hearing.{event}
use Rattle.station.specs.Sending.{one_if}
use Rattle.station.proofs.Runs.{going_more, going_none}
use Rattle.station.proofs.line.Line.receive.Goals as goal

pub loop-bit-init : goal.loop-bit-init
loop-bit-init g c = going_none (owner_of c.args.plan.now.table) g.B.Bank.meaning c.args.run.now c.args.self.now (g.B.Bank.account c.args.bank.now) (told_by c.args.faults.now)

pub loop-bit-preserved : goal.loop-bit-preserved
loop-bit-preserved g c =
    let bank = g.B.Bank in
    let owner = owner_of c.args.plan.now.table in
    let at = c.loop-bit in
    let says = c.receive_bit.ensures in
    let count : c.if-receive_bit.given ≡ at.given + one_if (is_some (event owner at.self (get_or c.args.run.now at.bit-index 0)).given) = grind arith in
    rw (says.line, says.accounts, says.faults, count)
    (going_more owner bank.meaning c.args.run.now c.args.self.now (bank.account c.args.bank.now) (told_by c.args.faults.now) at.self (bank.account at.bank) (told_by at.faults) at.given at.bit-index c.loop-bit-test.true at.invariant)

pub returns : goal.returns
returns g c =
    let all = take_all c.loop-bit.bit-index c.args.run.now c.loop-bit-test.false in
    let so = c.loop-bit.invariant in
    record { count = rw all at so.count; line = rw all at so.line; accounts = rw all at so.accounts; faults = rw all at so.faults }
