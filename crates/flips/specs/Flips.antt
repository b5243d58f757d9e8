-- Bits that are inverted at listed places.
use Rattle.std.specs.Prelude.{◌≡◌, ℕ, ◌+◌, ◌<◌, Bool, true, cond, ◌&&◌, List, [], ◌∷◌, length, ◌==◌, nat_le, nat_lt, bit_xor, slice_index_or, slice_set}
use Rattle.std.specs.List.{list_any}

-- the places rise strictly, from `low` on, and lie below n
abbrev pub rises : ℕ → ℕ → List ℕ → Bool
rises low n [] = true
rises low n (p ∷ ps) = nat_le low p && (nat_lt p n && rises (p + 1) n ps)

-- the other bit at one place
abbrev pub inverted_at : List ℕ → ℕ → List ℕ
inverted_at bits p = slice_set bits p (bit_xor (slice_index_or bits p 0) 1)

-- at each place of a list, one after another
abbrev pub inverted : List ℕ → List ℕ → List ℕ
inverted bits [] = bits
inverted bits (p ∷ ps) = inverted (inverted_at bits p) ps

abbrev pub listed : ℕ → List ℕ → Bool
listed p ps = list_any (λ q. q == p) ps

-- the other bit where a place is listed, and the same elsewhere
abbrev pub ByPlace : List ℕ → List ℕ → List ℕ → Type 0
ByPlace old ps new = (p : ℕ) → p < length old → slice_index_or new p 0 ≡ cond (listed p ps) (bit_xor (slice_index_or old p 0) 1) (slice_index_or old p 0)
