use Rattle.std.proofs.Common.{◌≡◌, drop}
use Rattle.flips.specs.Flips.{inverted}
use Rattle.flips.proofs.invert.Given as goal

abbrev pub invariant-loop-flip : goal.invariant-loop-flip
invariant-loop-flip l = inverted l.bits (drop l.flip-index l.flips) ≡ inverted l.initial.bits l.flips
