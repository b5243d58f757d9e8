-- Whose the bit at each place of a frame is: each place has one role, and each role one place.
use Rattle.std.specs.Prelude.{◌≡◌, ℕ, ◌+◌, ◌-◌, ◌*◌, ◌/◌, ◌%◌, ◌≤◌, cond, ◌&&◌, Some, None, Option, ◌==◌, nat_le, nat_lt}
use Rattle.frame.specs.declared.place.Role.{Role}
use Rattle.frame.specs.declared.place.Role.TheVariants.{Padding, Payload, Added}

-- after each 15 payload bits stands a padding bit; 40 of these make a subframe, and ten payload bits a slot
abbrev pub role : ℕ → Role
role p =
    cond (nat_lt p 2560)
    (cond (p % 16 == 15) (Padding (p / 16 / 40 + 1) (p / 16 % 40 + 1)) (Payload ((p - p / 16) / 10) ((p - p / 16) % 10)))
    Added

-- where payload bit m stands
abbrev pub payload_place : ℕ → ℕ
payload_place m = m + m / 15

abbrev pub place_of : Role → Option ℕ
place_of (Padding s i) =
    cond ((nat_le 1 s && nat_le s 4) && (nat_le 1 i && nat_le i 40)) (Some (16 * (40 * (s - 1) + (i - 1)) + 15)) None
place_of (Payload k j) = cond (nat_le k 239 && nat_le j 9) (Some (payload_place (10 * k + j))) None
place_of Added = Some 2560

-- the role at a place has that place and no other
abbrev pub OneRole : ℕ → Role → Type 0
OneRole p r = p ≤ 2560 → place_of r ≡ Some p

-- the place of a role has that role and no other
abbrev pub OnePlace : Role → Option ℕ → Type 0
OnePlace r answer = (p : ℕ) → answer ≡ Some p → (p ≤ 2560) × (role p ≡ r)
