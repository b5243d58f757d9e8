-- The queue that a ring holds in a memory, and what the calls on a ring leave of both.
use Rattle.std.specs.Prelude.{◌≡◌, ℕ, ◌+◌, ◌-◌, Bool, false, cond, List, ◌++◌, length, take, drop, None, Option, nat_le, nat_lt}
use Rattle.ring.specs.declared.shape.Ring.{Ring}
use Rattle.ring.specs.Queue.{Queue, empty, has_room, put_into, oldest, without_oldest}

-- where the place that is k after the oldest lies: past the last place comes the first
abbrev pub place_at : ℕ → ℕ → ℕ → ℕ
place_at head places k = cond (nat_lt k (places - head)) (head + k) (k - (places - head))

-- whether a memory of n elements reaches to the ring's last place
abbrev pub reaches : Ring → ℕ → Bool
reaches r n = nat_le (r.base + r.places) n

-- a ring in which nothing waits
pub record Fresh (b p : ℕ) (r : Ring) : Type 0 where
  pub base : r.base ≡ b
  pub places : r.places ≡ p
  pub waiting : r.waiting ≡ 0

-- a ring that lies where it lay
pub record SamePart (r r' : Ring) : Type 0 where
  pub base : r'.base ≡ r.base
  pub places : r'.places ≡ r.places

module _ {T : Type 0} where
  -- the part of the memory that has p elements from b on
  abbrev pub part : ℕ → ℕ → List T → List T
  part b p m = take p (drop b m)

  -- the memory before that part, and after it
  abbrev pub around : ℕ → ℕ → List T → List T × List T
  around b p m = (take b m, drop (b + p) m)

  -- a list from place h on, and then from its start
  abbrev pub turned : ℕ → List T → List T
  turned h s = drop h s ++ take h s

  -- over a memory that does not reach to its last place, a ring has 0 places
  unfoldable pub queue : Ring → List T → Queue T
  queue r m =
      cond
      (reaches r (length m))
      (record { places = r.places; waiting = take r.waiting (turned r.head (part r.base r.places m)) })
      (empty 0)

  -- after a put of x
  pub record Put (x : T) (r : Ring) (m : List T) (done : Bool) (r' : Ring) (m' : List T) : Type 0 where
    pub answer : done ≡ has_room (queue r m)
    pub left : queue r' m' ≡ put_into (queue r m) x
    pub same : SamePart r r'
    pub outside : around r.base r.places m' ≡ around r.base r.places m
    pub refused : done ≡ false → (r' ≡ r) × (m' ≡ m)

  -- after a take, which writes nothing to the memory
  pub record Taken (r : Ring) (m : List T) (answered : Option T) (r' : Ring) : Type 0 where
    pub answer : answered ≡ oldest (queue r m)
    pub left : queue r' m ≡ without_oldest (queue r m)
    pub same : SamePart r r'
    pub none : answered ≡ None → r' ≡ r
