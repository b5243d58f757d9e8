use Rattle.std.proofs.Common.{length}
use Rattle.station.specs.Faults.{told_by}
use Rattle.receive_vectors.proofs.report.Given as goal

abbrev pub decreases-loop-fault : goal.decreases-loop-fault
decreases-loop-fault g l = length (told_by l.faults).waiting.waiting
