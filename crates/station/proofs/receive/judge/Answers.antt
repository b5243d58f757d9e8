use Rattle.std.proofs.Common.{ltb, refl, arith}
use Rattle.std.proofs.lemmas.Bool.Decides.{nat_tests}
use Rattle.std.proofs.lemmas.List.Recursion.{and_fails_at, and_from_places}
use Rattle.station.specs.Receiving.{only_bits}
use Rattle.station.proofs.receive.judge.Goals as goal

pub returns-then-byte-gt1 : goal.returns-then-byte-gt1
returns-then-byte-gt1 c = grind (arith, nat_tests, and_fails_at only_bits (λ b. ltb b 2) refl (λ _ _. refl))

pub returns : goal.returns
returns c = grind (arith, nat_tests, and_from_places only_bits (λ b. ltb b 2) refl (λ _ _. refl) c.args.run.now 0, c.loop-byte.invariant)
