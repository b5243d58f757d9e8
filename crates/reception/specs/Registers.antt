-- Bits that are gathered one after another.
use Rattle.std.specs.Prelude.{ℕ, ◌+◌, ◌*◌, ◌%◌, ◌^◌}

-- a register of n bits with one bit more, the oldest going out
abbrev pub shift : ℕ → ℕ → ℕ → ℕ
shift n x b = (x * 2 + b) % 2 ^ n
