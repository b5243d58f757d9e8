-- The hunt for the frame alignment pattern, and the wait for the subframe's number.
use Rattle.std.specs.Prelude.{ℕ, ◌+◌, ◌*◌, ◌%◌, Bool, cond, replicate, Some, None, Option, ◌==◌, nat_lt, slice_index, slice_set}
use Rattle.reception.specs.declared.state.Hunt.{Hunt}
use Rattle.reception.specs.declared.state.Wait.{Wait}
use Rattle.reception.specs.Registers.{shift}

-- no bit was received
abbrev pub fresh : Hunt
fresh = record { registers = replicate 16 0; count = 0 }

-- the last fourteen bits of the phase of the next bit, once that is b
abbrev pub phase_with : Hunt → ℕ → ℕ
phase_with h b = shift 14 (slice_index h.registers (h.count % 16)) b

abbrev pub hunted_on : Hunt → ℕ → Hunt
hunted_on h b = record { registers = slice_set h.registers (h.count % 16) (phase_with h b); count = (h.count + 1) % 256 }

-- whether bit b completes the pattern
abbrev pub found : Hunt → ℕ → Bool
found h b = phase_with h b == 0b11111001101010

-- the bits 16 and 32 after the pattern name the subframe
abbrev pub waited_on : Wait → ℕ → Wait
waited_on w b = cond (nat_lt w.since 31) (record { since = w.since + 1; high = cond (w.since == 15) (b == 1) w.high }) w

-- how many subframes stand before the one named, once it is
abbrev pub subframe_after : Wait → ℕ → Option ℕ
subframe_after w b = cond (nat_lt w.since 31) None (Some (2 * cond w.high 1 0 + b))
