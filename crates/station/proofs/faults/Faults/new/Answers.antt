use Rattle.std.proofs.Common.{◌≡◌, replicate, arith}
use Rattle.std.proofs.lemmas.Bool.Decides.{nat_tests}
use Rattle.reception.specs.declared.receiver.FaultKind.TheVariants.{Lost}
use Rattle.ring.specs.Held.{queue}
use Rattle.ring.specs.Queue.{empty}
use Rattle.ring.proofs.Rings.{queue_fresh}
use Rattle.station.proofs.faults.Faults.new.Goals as goal

pub returns : goal.returns
returns c =
    let memory = replicate 64 (record { kind = Lost; channel = 0; bits = 0 }) in
    let waiting : queue c.new.result memory ≡ empty 64 = grind (arith, nat_tests, queue_fresh c.new.result memory c.new.ensures.waiting) in
    λ i. record { waiting = waiting i; lost = 0 }
