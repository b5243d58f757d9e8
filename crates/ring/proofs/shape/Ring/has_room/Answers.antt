use Rattle.std.proofs.Common.{sym, ◌∙◌}
use Rattle.ring.proofs.Rings.{room_long, room_short}
use Rattle.ring.proofs.shape.Ring.has_room.Goals as goal

pub returns-then-reaches-clause-is : goal.returns-then-reaches-clause-is
returns-then-reaches-clause-is g c = sym (room_long c.args.self.now c.args.memory.now (sym c.if-reaches.ensures))

pub returns-else-reaches-clause-is : goal.returns-else-reaches-clause-is
returns-else-reaches-clause-is g c = c.if-reaches.false ∙ sym (room_short c.args.self.now c.args.memory.now (sym c.if-reaches.ensures))
