-- Numbers in plain digits: no sign, no leading zero, no other byte, at most 65,535.
use Rattle.std.specs.Prelude.{◌≡◌, ℕ, ◌+◌, ◌-◌, ◌*◌, ◌<◌, Bool, cond, not, ◌&&◌, List, [], ◌∷◌, length, Some, None, decimal, Option, ◌==◌, nat_lt, slice_index}
use Rattle.std.specs.Str.{all_ascii_digits}

-- the number that digits write, after n
abbrev pub reading : ℕ → List ℕ → ℕ
reading n [] = n
reading n (d ∷ ds) = reading (n * 10 + (d - 48)) ds

-- a byte at least, and no zero before another
abbrev pub opens : List ℕ → Bool
opens ds = nat_lt 0 (length ds) && not (slice_index ds 0 == 48 && nat_lt 1 (length ds))

-- the number that digits write, if it fits 16 bits
abbrev pub digits_of : List ℕ → Option ℕ
digits_of ds = cond (all_ascii_digits ds && nat_lt (reading 0 ds) 65536) (Some (reading 0 ds)) None

-- the number that a field writes
unfoldable pub number_of : List ℕ → Option ℕ
number_of ds = cond (opens ds) (digits_of ds) None

-- a field is the number n exactly if it is what is written of n
pub record Writes (field : List ℕ) (answer : Option ℕ) (n : ℕ) : Type 0 where
  pub written : answer ≡ Some n → (n < 65536) × (field ≡ decimal n)
  pub only : n < 65536 → field ≡ decimal n → answer ≡ Some n
