-- A shift register of nine stages, as the list of their bits, stage 1 first.
use Rattle.std.specs.Prelude.{ℕ, zero, suc, ◌+◌, ◌-◌, ◌*◌, ◌/◌, ◌%◌, List, [], ◌∷◌, take, replicate, slice_index}

abbrev pub stage : ℕ → List ℕ → ℕ
stage k r = slice_index r (k - 1)

abbrev pub all_ones : List ℕ
all_ones = replicate 9 1

abbrev pub next_bit : List ℕ → ℕ
next_bit r = (stage 5 r + stage 9 r) % 2

-- the next bit enters stage 1, and every bit moves one stage up
abbrev pub shifted : List ℕ → List ℕ
shifted r = next_bit r ∷ take 8 r

-- n more bits after those that made o
unfoldable pub bits_from : ℕ → ℕ → List ℕ → ℕ × List ℕ
bits_from zero o r = (o, r)
bits_from (suc n) o r = bits_from n (o * 2 + next_bit r) (shifted r)

-- eight bits make an octet, most significant first; with the register after them
abbrev pub octet_from : List ℕ → ℕ × List ℕ
octet_from r = bits_from 8 0 r

-- the stages that a number holds, stage 1 in its lowest bit
abbrev pub stages : ℕ → List ℕ
stages x =
    x % 2
    ∷ x / 2 % 2
    ∷ x / 4 % 2
    ∷ x / 8 % 2
    ∷ x / 16 % 2
    ∷ x / 32 % 2
    ∷ x / 64 % 2
    ∷ x / 128 % 2
    ∷ x / 256 % 2
    ∷ []
