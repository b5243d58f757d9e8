use Rattle.channel_plan.specs.Tables.{owner_of}
use Rattle.station.specs.Faults.{told_by}
use Rattle.station.proofs.Runs.{Going}
use Rattle.station.proofs.line.Line.receive.Given as goal

abbrev pub invariant-loop-bit : goal.invariant-loop-bit
invariant-loop-bit g l =
    let bank = g.B.Bank in
    Going (owner_of l.fn.plan.table) bank.meaning l.run l.fn.self (bank.account l.fn.bank) (told_by l.fn.faults) l.self (bank.account l.bank) (told_by l.faults) l.given l.bit-index
