-- The check of a frame that is being received.
use Rattle.std.specs.Prelude.{ℕ, Bool, false, cond, not, ◌&&◌, Some, None, Option, ◌==◌}
use Rattle.frame.specs.declared.mode.Mode.{Mode}
use Rattle.frame.specs.declared.mode.Mode.TheVariants.{Synchronous, Justified}
use Rattle.frame.specs.Checks.{divide}
use Rattle.reception.specs.declared.state.Checking.{Checking}
use Rattle.reception.specs.Registers.{shift}

-- before the first bit that is received of a frame
abbrev pub checking : Bool → Option ℕ → Checking
checking w e = record { received = 0; remainder = 0; whole = w; expected = e }

-- with one check bit more
abbrev pub checked_on : Checking → ℕ → Checking
checked_on k b = record { received = shift 16 k.received b; remainder = k.remainder; whole = k.whole; expected = k.expected }

-- with one bit more of the frame
abbrev pub divided_on : Checking → ℕ → Checking
divided_on k b = record { received = k.received; remainder = divide k.remainder b; whole = k.whole; expected = k.expected }

abbrev pub differs : Option ℕ → ℕ → Bool
differs None n = false
differs (Some e) n = not (n == e)

-- whether check bit i is the last, and the check is known to be wrong
abbrev pub is_wrong : Checking → ℕ → ℕ → Bool
is_wrong k i b = i == 15 && differs k.expected (shift 16 k.received b)

-- what the check bits of the next frame should be: in synchronous mode the remainder of this one, if all of it was received
abbrev pub expected_after : Mode → Checking → Option ℕ
expected_after Synchronous k = cond k.whole (Some k.remainder) None
expected_after Justified k = None
