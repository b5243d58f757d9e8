-- What the padding bits P1 to P40 of the subframes 1 to 4 hold.
use Rattle.std.specs.Prelude.{ℕ, ◌+◌, ◌-◌, ◌*◌, cond, nat_le}
use Rattle.frame.specs.declared.mode.Mode.{Mode}
use Rattle.frame.specs.declared.mode.Mode.TheVariants.{Synchronous, Justified}
use Rattle.frame.specs.declared.padding.Padding.{Padding}
use Rattle.frame.specs.declared.padding.Padding.TheVariants.{Alarm, One, Check, Pattern, Number, Service, Zero}

-- P37 to P40: in synchronous mode E to H, in justified mode the service word and a zero
abbrev pub tail : Mode → ℕ → Padding
tail Synchronous i = One
tail Justified i = cond (nat_le i 39) (Service (i - 37)) Zero

abbrev pub padding : Mode → ℕ → ℕ → Padding
padding mode s i =
    cond (nat_le i 1) Alarm
    (cond (nat_le i 4) One
    (cond (nat_le i 8) (Check (4 * (s - 1) + (i - 5)))
    (cond (nat_le i 20) One
    (cond (nat_le i 34) (Pattern (i - 21))
    (cond (nat_le i 36) (Number (i - 35)) (tail mode i))))))
