-- The check: the remainder of bits, the first of the highest power, by x^16 + x^12 + x^5 + 1 modulo 2.
use Rattle.std.specs.Prelude.{◌≡◌, ℕ, ◌+◌, ◌*◌, ◌/◌, ◌%◌, ◌<◌, List, [], ◌∷◌, length, bit_xor}

-- a dividend of 17 bits less the divisor, whose bits 16, 12, 5 and 0 are set, where its own bit 16 is
abbrev pub reduce : ℕ → ℕ
reduce t = bit_xor t (t / 65536 % 2 * 0x11021)

-- one bit more
unfoldable pub divide : ℕ → ℕ → ℕ
divide r b = reduce (r * 2 + b % 2)

unfoldable pub remainder_after : ℕ → List ℕ → ℕ
remainder_after r [] = r
remainder_after r (b ∷ bs) = remainder_after (divide r b) bs

abbrev pub remainder : List ℕ → ℕ
remainder bits = remainder_after 0 bits

-- the polynomial with these bits, as a number
unfoldable pub polynomial_after : ℕ → List ℕ → ℕ
polynomial_after v [] = v
polynomial_after v (b ∷ bs) = polynomial_after (v * 2 + b % 2) bs

abbrev pub polynomial : List ℕ → ℕ
polynomial bits = polynomial_after 0 bits

-- the product modulo 2 of the polynomial with these bits and the divisor
unfoldable pub product_after : ℕ → List ℕ → ℕ
product_after m [] = m
product_after m (b ∷ bs) = product_after (bit_xor (m * 2) (b % 2 * 0x11021)) bs

abbrev pub product : List ℕ → ℕ
product bits = product_after 0 bits

-- r is a remainder of the bits: they are a multiple of the divisor and r, which is of lower degree
pub record Remainder (bits : List ℕ) (r : ℕ) : Type 0 where
  pub quotient : List ℕ
  pub long : length quotient ≡ length bits
  pub sum : polynomial bits ≡ bit_xor (product quotient) r
  pub lower : r < 65536

-- bits with some of them inverted: where the flip is 1
unfoldable pub flipped : List ℕ → List ℕ → List ℕ
flipped [] fs = []
flipped (b ∷ bs) [] = b ∷ bs
flipped (b ∷ bs) (f ∷ fs) = bit_xor (b % 2) (f % 2) ∷ flipped bs fs

-- r is the one remainder of the bits, and each set of flips changes it by its own remainder
pub record CheckOf (bits : List ℕ) (r : ℕ) : Type 0 where
  pub is : Remainder bits r
  pub only : (q : ℕ) → Remainder bits q → q ≡ r
  pub linear : (flips : List ℕ) → length flips ≡ length bits → remainder (flipped bits flips) ≡ bit_xor r (remainder flips)
