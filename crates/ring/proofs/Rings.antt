-- The queue that a ring holds, by whether the memory reaches to its last place.
use Rattle.std.proofs.Common.{◌≡◌, ℕ, ◌+◌, ◌-◌, ◌<◌, ◌≤◌, Bool, true, false, cond, ltb, ◌⊎◌, List, length, take, drop, set, sym, refl, ap, ◌∙◌, ap₂, ⊎_elim, arith, drop-set-lt}
use lib.Seq.{take-set-le}
use Rattle.std.proofs.lemmas.List.{drop-take, take-take, drop-drop}
use Rattle.std.proofs.lemmas.Bool.{cond-true, cond-false, leb-true}
use Rattle.ring.specs.declared.shape.Ring.{Ring}
use Rattle.ring.specs.Queue.{empty, has_room}
use Rattle.ring.specs.Held.{part, around, turned, reaches, queue}
use Rattle.ring.proofs.Turning.{length_list}

module _ {T : Type 0} where
  -- what waits, where the memory reaches
  abbrev pub held : Ring → List T → List T
  held r m = take r.waiting (turned r.head (part r.base r.places m))

  pub queue_long : (r : Ring) (m : List T) → reaches r (length m) ≡ true → queue r m ≡ record { places = r.places; waiting = held r m }
  unfolding queue
  queue_long r m t = cond-true (reaches r (length m)) _ _ t

  pub queue_short : (r : Ring) (m : List T) → reaches r (length m) ≡ false → queue r m ≡ empty 0
  unfolding queue
  queue_short r m t = cond-false (reaches r (length m)) _ _ t

  pub length_held : (r : Ring) (m : List T) → r.base + r.places ≤ length m → length (held r m) ≡ r.waiting
  length_held r m fit =
      let i = r.inside in
      let w = r.fits in
      length_list r.base r.places r.head r.waiting m fit (omega arith) w

  pub room_long : (r : Ring) (m : List T) → reaches r (length m) ≡ true → has_room (queue r m) ≡ ltb r.waiting r.places
  room_long r m t = ap has_room (queue_long r m t) ∙ ap (λ w. ltb w r.places) (length_held r m (leb-true (r.base + r.places) (length m) t))

  pub room_short : (r : Ring) (m : List T) → reaches r (length m) ≡ false → has_room (queue r m) ≡ false
  room_short r m t = ap has_room (queue_short r m t)

  -- how many wait
  pub length_long : (r : Ring) (m : List T) → reaches r (length m) ≡ true → length (queue r m).waiting ≡ r.waiting
  length_long r m t = ap (λ q. length q.waiting) (queue_long r m t) ∙ length_held r m (leb-true (r.base + r.places) (length m) t)

  pub length_short : (r : Ring) (m : List T) → reaches r (length m) ≡ false → length (queue r m).waiting ≡ 0
  length_short r m t = ap (λ q. length q.waiting) (queue_short r m t)

  pub length_queue : (r : Ring) (m : List T) → length (queue r m).waiting ≤ r.places
  length_queue r m = at (reaches r (length m)) refl
    where
      at : (b : Bool) → reaches r (length m) ≡ b → length (queue r m).waiting ≤ r.places
      at true t = let f = r.fits in omega (arith, length_long r m t)
      at false t = omega (arith, length_short r m t)

  -- something waits only where the memory reaches
  pub some_wait : (r : Ring) (m : List T) → 0 < length (queue r m).waiting → (reaches r (length m) ≡ true) × (0 < r.waiting)
  some_wait r m lt = at (reaches r (length m)) refl
    where
      at : (b : Bool) → reaches r (length m) ≡ b → (reaches r (length m) ≡ true) × (0 < r.waiting)
      at true t = (t, omega (arith, length_long r m t))
      at false t = absurd (omega (arith, length_short r m t))

  -- and there the oldest stands within it
  pub oldest_within : (r : Ring) (m : List T) → 0 < length (queue r m).waiting → (r.base + r.places ≤ length m) × (r.head < r.places)
  oldest_within r m lt =
      let some = some_wait r m lt in
      let f = r.fits in
      let i = r.inside in
      let wait : 0 < r.waiting = some.1 in
      (leb-true (r.base + r.places) (length m) some.0, omega arith)

  -- nothing waits
  pub queue_fresh : (r : Ring) (m : List T) → r.waiting ≡ 0 → queue r m ≡ empty (cond (reaches r (length m)) r.places 0)
  unfolding queue
  queue_fresh r m e =
      ap (λ w. cond (reaches r (length m)) (record { places = r.places; waiting = take w (turned r.head (part r.base r.places m)) }) (empty 0)) e
      ∙ joined (reaches r (length m))
    where
      joined : (b : Bool) → cond b (empty r.places) (empty 0) ≡ empty {T = T} (cond b r.places 0)
      joined true = refl
      joined false = refl

  -- a write between b and b + p leaves what lies around
  pub around_set : (b p a : ℕ) (m : List T) (x : T) → a < p → around b p (set m (b + a) x) ≡ around b p m
  around_set b p a m x lt = ap₂ (λ (f g : List T). (f, g)) (take-set-le b m (b + a) x (omega arith)) (drop-set-lt (b + p) m (b + a) x (omega arith))

  -- and around a larger part
  pub around_wider : (b p c q : ℕ) (m m' : List T) → around b p m' ≡ around b p m → c ≤ b → b + p ≤ c + q → around c q m' ≡ around c q m
  around_wider b p c q m m' same low high =
      let before : (l : List T) → take c l ≡ take c (take b l) = λ l. sym (take-take c b l low) in
      let i : b + p + (c + q - (b + p)) ≡ c + q = omega arith in
      let after : (l : List T) → drop (c + q) l ≡ drop (c + q - (b + p)) (drop (b + p) l) = λ l. ap (λ k. drop k l) (sym i) ∙ sym (drop-drop (c + q - (b + p)) (b + p) l) in
      ap₂
      (λ (f g : List T). (f, g))
      (before m' ∙ ap (λ (s : List T × List T). take c s.0) same ∙ sym (before m))
      (after m' ∙ ap (λ (s : List T × List T). drop (c + q - (b + p)) s.1) same ∙ sym (after m))

  -- a ring on another part holds what it held
  pub queue_apart : (r : Ring) (b p : ℕ) (m m' : List T) → around b p m' ≡ around b p m → length m' ≡ length m → (r.base + r.places ≤ b) ⊎ (b + p ≤ r.base) → queue r m' ≡ queue r m
  unfolding queue
  queue_apart r b p m m' same len away =
      ap₂
      (λ (n : ℕ) (s : List T). cond (reaches r n) (record { places = r.places; waiting = take r.waiting (turned r.head s) }) (empty 0))
      len
      (⊎_elim
      (λ (low : r.base + r.places ≤ b).
      let by : (l : List T) → part r.base r.places l ≡ drop r.base (take (r.base + r.places) (take b l)) = λ l. sym (drop-take r.base r.places l) ∙ ap (drop r.base) (sym (take-take (r.base + r.places) b l low)) in
      by m' ∙ ap (λ (s : List T × List T). drop r.base (take (r.base + r.places) s.0)) same ∙ sym (by m))
      (λ (high : b + p ≤ r.base).
      let i : b + p + (r.base - (b + p)) ≡ r.base = omega arith in
      let by : (l : List T) → part r.base r.places l ≡ take r.places (drop (r.base - (b + p)) (drop (b + p) l)) = λ l. ap (λ k. take r.places (drop k l)) (sym i) ∙ ap (take r.places) (sym (drop-drop (r.base - (b + p)) (b + p) l)) in
      by m' ∙ ap (λ (s : List T × List T). take r.places (drop (r.base - (b + p)) s.1)) same ∙ sym (by m))
      away)
