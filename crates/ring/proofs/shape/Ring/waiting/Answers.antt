use Rattle.std.proofs.Common.{sym}
use Rattle.ring.proofs.Rings.{length_long, length_short}
use Rattle.ring.proofs.shape.Ring.waiting.Goals as goal

pub returns-then-reaches-clause-is : goal.returns-then-reaches-clause-is
returns-then-reaches-clause-is g c = sym (length_long c.args.self.now c.args.memory.now (sym c.if-reaches.ensures))

pub returns-else-reaches-clause-is : goal.returns-else-reaches-clause-is
returns-else-reaches-clause-is g c = sym (length_short c.args.self.now c.args.memory.now (sym c.if-reaches.ensures))
