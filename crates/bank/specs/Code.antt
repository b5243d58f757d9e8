-- The code of 16 bits that an envelope tells.
use Rattle.std.specs.Prelude.{ℕ, ◌+◌, ◌*◌, cond}
use Rattle.bank.specs.declared.Envelope.{Envelope}

abbrev pub bit : Envelope → ℕ
bit e = cond e.status 1 0

abbrev pub code_of : Envelope → ℕ
code_of e = 256 * bit e + e.octet
