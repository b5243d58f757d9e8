-- Sums modulo 2 of registers, and the fronts of words.
use Rattle.std.proofs.Common.{◌≡◌, ℕ, ◌+◌, ◌-◌, ◌*◌, ◌/◌, ◌%◌, ◌^◌, ◌<◌, eqb, mod-eq_of_lt, arith}
use lib.Bits.{bit_xor, xor_mod}
use Rattle.std.proofs.lemmas.Nat.{shr_le, shr-shr}
use Rattle.std.proofs.lemmas.Bool.Decides.{nat_tests}
use Rattle.frame.specs.Checks.{divide}
use Rattle.frame.specs.Frames.{sent_bit}
use Rattle.frame.proofs.Division.{cancel, divide_linear, shift_linear}
use Rattle.reception.specs.Registers.{shift}

pub divide_sum : (r s a b : ℕ) → a < 2 → b < 2 → divide (bit_xor r s) (bit_xor a b) ≡ bit_xor (divide r a) (divide s b)
divide_sum r s a b h k = grind (arith, divide_linear r s a b)

pub eqb_sum : (k x y : ℕ) → eqb (bit_xor k x) (bit_xor k y) ≡ eqb x y
eqb_sum k x y = grind (arith, nat_tests, cancel k x, cancel k y)

register_sum : (n r s a b : ℕ) → a < 2 → b < 2 → shift n (bit_xor r s) (bit_xor a b) ≡ bit_xor (shift n r a) (shift n s b)
register_sum n r s a b h k = rw (shift_linear r s a b h k) (xor_mod (r * 2 + a) (s * 2 + b) n)

-- the first k bits of w and its next bit are its first k + 1 bits
front : (n w k : ℕ) → k < n → w < 2 ^ n → shift n (w / 2 ^ (n - k)) (w / 2 ^ (n - 1 - k) % 2) ≡ w / 2 ^ (n - (k + 1))
front n w k h low =
    let at : n - k ≡ n - 1 - k + 1 = omega arith in
    let next : n - (k + 1) ≡ n - 1 - k = omega arith in
    let sum : w / 2 ^ (n - 1 - k + 1) * 2 + w / 2 ^ (n - 1 - k) % 2 ≡ w / 2 ^ (n - 1 - k) = omega (arith, shr-shr w (n - 1 - k) 1) in
    rw (at, next, sum) (mod-eq_of_lt (omega (arith, shr_le w (n - 1 - k))))

-- a register with the first k bits of w in it takes up the next
pub front_sum : (n w a a' k s b : ℕ) → w < 2 ^ n → k < n → a ≡ k → a' ≡ k + 1 → b < 2 → shift n (bit_xor (w / 2 ^ (n - a)) s) (bit_xor (sent_bit n w k) b) ≡ bit_xor (w / 2 ^ (n - a')) (shift n s b)
front_sum n w a a' k s b low h e g small = rw (e, g, register_sum n (w / 2 ^ (n - k)) s (sent_bit n w k) b (omega arith) small, front n w k h low)
