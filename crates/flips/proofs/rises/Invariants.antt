use Rattle.std.proofs.Common.{◌≡◌, drop}
use Rattle.flips.specs.Flips.{rises}
use Rattle.flips.proofs.rises.Given as goal

abbrev pub invariant-loop-flip : goal.invariant-loop-flip
invariant-loop-flip l = rises l.low l.length (drop l.flip-index l.flips) ≡ rises 0 l.length l.flips
