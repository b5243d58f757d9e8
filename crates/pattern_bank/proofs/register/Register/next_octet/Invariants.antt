use Rattle.std.proofs.Common.{◌≡◌, ◌-◌, ◌^◌, ◌<◌}
use Rattle.pattern_bank.specs.Register.{stages, bits_from, octet_from}
use Rattle.pattern_bank.proofs.register.Register.next_octet.Given as goal

abbrev pub invariant-loop : goal.invariant-loop
invariant-loop l =
    (l.octet < 2 ^ l.counter) × (bits_from (8 - l.counter) l.octet (stages l.self.bits) ≡ octet_from (stages l.fn.self.bits))
