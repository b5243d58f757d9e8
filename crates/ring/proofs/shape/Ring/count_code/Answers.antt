use Rattle.std.proofs.Common.{◌≡◌, ◌+◌, eqb, count_by, arith}
use Rattle.std.proofs.lemmas.Grind.{common_steps}
use Rattle.std.proofs.lemmas.List.Sums.{count_by-le-length}
use Rattle.ring.specs.Held.{queue}
use Rattle.ring.proofs.Rings.{length_queue}
use Rattle.ring.proofs.shape.Ring.count_code.Goals as goal

pub returns-clause-within : goal.returns-clause-within
returns-clause-within g c =
    let waits = (queue c.args.self.now c.args.memory.now).waiting in
    let count : c.count_in.result + c.count_in-2.result ≡ count_by (λ x. eqb (g.T.Coded.coded x) c.args.code) waits = grind (arith, common_steps) in
    omega (arith, count_by-le-length (λ x. eqb (g.T.Coded.coded x) c.args.code) waits, length_queue c.args.self.now c.args.memory.now)
