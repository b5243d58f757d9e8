-- A queue of a fixed number of places, first in, first out: what a ring is to those who use it.
use Rattle.std.specs.Prelude.{ℕ, Bool, cond, List, [], ◌∷◌, ◌++◌, length, drop, Option, nat_lt}
use Rattle.std.specs.List.{slice_get}

-- what waits stands oldest first
pub record Queue (T : Type 0) : Type 0 where
  pub places : ℕ
  pub waiting : List T

module _ {T : Type 0} where
  abbrev pub empty : ℕ → Queue T
  empty p = record { places = p; waiting = [] }

  -- whether a place is free
  abbrev pub has_room : Queue T → Bool
  has_room q = nat_lt (length q.waiting) q.places

  -- with one more, where a place is free for it
  abbrev pub put_into : Queue T → T → Queue T
  put_into q x = cond (has_room q) (record { places = q.places; waiting = q.waiting ++ x ∷ [] }) q

  abbrev pub oldest : Queue T → Option T
  oldest q = slice_get q.waiting 0

  abbrev pub without_oldest : Queue T → Queue T
  without_oldest q = record { places = q.places; waiting = drop 1 q.waiting }
