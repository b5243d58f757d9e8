use Rattle.std.proofs.Common.{◌≡◌, ◌<◌, drop}
use Rattle.std.specs.Str.{all_ascii_digits}
use Rattle.plan_text.specs.Numbers.{reading}
use Rattle.plan_text.proofs.text.digits.Given as goal

abbrev pub invariant-loop-byte : goal.invariant-loop-byte
invariant-loop-byte l =
    (l.value < 65536)
    × (reading l.value (drop l.byte-index l.field) ≡ reading 0 l.field)
    × (all_ascii_digits (drop l.byte-index l.field) ≡ all_ascii_digits l.field)
