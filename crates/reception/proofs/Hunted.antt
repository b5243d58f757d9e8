-- The registers of a hunt hold the last bits of each phase, so it finds what was received and nothing else.
use Rattle.std.proofs.Common.{◌≡◌, ℕ, zero, suc, ◌+◌, ◌-◌, ◌*◌, ◌/◌, ◌%◌, ◌^◌, ◌<◌, ◌≤◌, Bool, true, false, cond, ◌≢◌, List, [], ◌∷◌, ◌++◌, reverse, length, get_or, drop, Decides, fold, sym, refl, ap, ◌∙◌, inl, inr, pow-suc, arith}
use mathlib.Core.List.{reverse_aux}
use Rattle.std.proofs.lemmas.Nat.{shr-shr}
use Rattle.std.proofs.lemmas.List.{drop_all, get_or-drop, get_or_past, get_or-replicate, get_or-reverse, get_or-set_other, get_or-set_same, length-reverse, length-set, reverse-append}
use Rattle.std.proofs.lemmas.List.Sums.{fold_push}
use Rattle.std.proofs.lemmas.Bool.{cases_lt, eq-eqb, eqb-true, false≢true}
use Rattle.frame.specs.declared.mode.Mode.{Mode}
use Rattle.reception.specs.declared.state.Hunt.{Hunt}
use Rattle.reception.specs.declared.state.Receiver.{Receiver}
use Rattle.reception.specs.declared.state.Reception.TheVariants.{Hunting, Pending}
use Rattle.reception.specs.Hunted.{HuntComesTo, HuntsOn, PatternReceived, hunt_after}
use Rattle.reception.specs.Hunts.{found, fresh, hunted_on, phase_with}
use Rattle.reception.specs.Steps.{counted, hunted_state, step_in, stepped}

-- the number of m bits 16 apart, the first the lowest
abbrev spaced : ℕ → List ℕ → ℕ
spaced zero rs = 0
spaced (suc m) rs = get_or rs 0 0 % 2 + 2 * spaced m (drop 16 rs)

-- the next of them
next_bit : (rs : List ℕ) (k : ℕ) → get_or (drop 16 rs) (16 * k) 0 ≡ get_or rs (16 * suc k) 0
next_bit rs k = get_or-drop 16 rs (16 * k) 0 ∙ ap (λ i. get_or rs i 0) (omega arith)

next_place : (w k : ℕ) → w / 2 / 2 ^ k ≡ w / 2 ^ suc k
next_place w k = shr-shr w 1 k ∙ ap (λ i. w / 2 ^ i) (omega arith)

-- it is w exactly if each bit is that of w
bit_of : (m k w : ℕ) (rs : List ℕ) → spaced m rs ≡ w → k < m → get_or rs (16 * k) 0 % 2 ≡ w / 2 ^ k % 2
bit_of zero k w rs e h = absurd (omega arith)
bit_of (suc m) zero w rs e h = omega arith
bit_of (suc m) (suc k) w rs e h =
    let rest = bit_of m k (w / 2) (drop 16 rs) (omega arith) (omega arith) in
    omega (arith, rest, next_bit rs k, next_place w k)

spaced_is : (m w : ℕ) (rs : List ℕ) → w < 2 ^ m → ((k : ℕ) → k < m → get_or rs (16 * k) 0 % 2 ≡ w / 2 ^ k % 2) → spaced m rs ≡ w
spaced_is zero w rs h each = omega arith
spaced_is (suc m) w rs h each =
    let rest = spaced_is m (w / 2) (drop 16 rs) (omega (arith, pow-suc 2 m)) (λ k l. omega (arith, each (suc k) (omega arith), next_bit rs k, next_place w k)) in
    omega (arith, rest, each 0 (omega arith))

-- h has had the bits rs, the newest first
record Had (rs : List ℕ) (h : Hunt) : Type 0 where
  count : h.count ≡ length rs % 256
  long : length h.registers ≡ 16
  phases : (d : ℕ) → d < 16 → get_or h.registers ((length rs + 15 - d) % 16) 0 ≡ spaced 14 (drop d rs)

had_none : Had [] fresh
had_none = record {
  count = refl;
  long = refl;
  phases = λ d l. get_or-replicate 16 ((15 - d) % 16) 0 0 (omega arith) ∙ ap (spaced 14) (sym (drop_all d [] (omega arith)));
}

-- the register of the next bit, once that is b
phase_with_lem : (rs : List ℕ) (h : Hunt) (b : ℕ) → Had rs h → phase_with h (b % 2) ≡ spaced 14 (b ∷ rs)
phase_with_lem rs h b had =
    let place : (length rs + 15 - 15) % 16 ≡ h.count % 16 = omega arith in
    let held : get_or h.registers (h.count % 16) 0 ≡ spaced 14 (drop 15 rs) = rw place at (had.phases 15 (omega arith)) in
    omega arith

had_more : (rs : List ℕ) (h : Hunt) (b : ℕ) → Had rs h → Had (b ∷ rs) (hunted_on h (b % 2))
had_more rs h b had = record { count = omega arith; long = rw length-set had.long; phases = at }
  where
    at : (d : ℕ) → d < 16 → get_or (hunted_on h (b % 2)).registers ((length (b ∷ rs) + 15 - d) % 16) 0 ≡ spaced 14 (drop d (b ∷ rs))
    at zero l =
        let place : (length (b ∷ rs) + 15 - 0) % 16 ≡ h.count % 16 = omega arith in
        let inside : h.count % 16 < length h.registers = omega arith in
        rw (place, get_or-set_same) (phase_with_lem rs h b had)
    at (suc d) l =
        let place : (length (b ∷ rs) + 15 - suc d) % 16 ≡ (length rs + 15 - d) % 16 = omega arith in
        let other : (length rs + 15 - d) % 16 ≢ h.count % 16 = omega arith in
        rw (place, get_or-set_other) (had.phases d (omega arith))

had_all : (bs rs : List ℕ) (h : Hunt) → Had rs h → Had (reverse_aux bs rs) (fold (λ g b. hunted_on g (b % 2)) h bs)
had_all [] rs h had = had
had_all (b ∷ bs) rs h had = had_all bs (b ∷ rs) (hunted_on h (b % 2)) (had_more rs h b had)

phase_after : (bs : List ℕ) (b : ℕ) → phase_with (hunt_after bs) (b % 2) ≡ spaced 14 (reverse (bs ++ b ∷ []))
phase_after bs b = rw reverse-append (phase_with_lem (reverse bs) (hunt_after bs) b (had_all bs [] fresh had_none))

-- where bit j of the pattern stands, from the newest and from the oldest
same_bit : (bs : List ℕ) (j : ℕ) → j < 14 → 209 ≤ length bs → get_or (reverse bs) (16 * (13 - j)) 0 % 2 ≡ get_or bs (length bs - 209 + 16 * j) 0 % 2
same_bit bs j l long =
    let inside : 16 * (13 - j) < length bs = omega arith in
    let place : length bs - 1 - 16 * (13 - j) ≡ length bs - 209 + 16 * j = omega arith in
    rw (get_or-reverse, place)

-- the first bit of the pattern is 1, so that it was received
received : (bs : List ℕ) → spaced 14 (reverse bs) ≡ 0b11111001101010 → PatternReceived bs
received bs e =
    let first = bit_of 14 13 0b11111001101010 (reverse bs) e (omega arith) in
    let long : 209 ≤ length bs =
    elim (cases_lt 208 (length bs)) [ inl h ↦ h | inr h ↦ absurd (omega (arith, get_or_past (reverse bs) 208 0 (omega (arith, length-reverse bs)))) ] in
    record { long = long; bits = λ j l. sym (same_bit bs j l long) ∙ bit_of 14 (13 - j) 0b11111001101010 (reverse bs) e (omega arith) }

is_pattern : (bs : List ℕ) → PatternReceived bs → spaced 14 (reverse bs) ≡ 0b11111001101010
is_pattern bs p =
    spaced_is 14 0b11111001101010 (reverse bs) (omega arith)
    (λ k l.
    let back : 13 - (13 - k) ≡ k = omega arith in
    rw back at (same_bit bs (13 - k) (omega arith) p.long ∙ p.bits (13 - k) (omega arith)))

finds_only : (bs : List ℕ) (b : ℕ) → Decides (found (hunt_after bs) (b % 2)) (PatternReceived (bs ++ b ∷ []))
finds_only bs b =
    (λ e. received (bs ++ b ∷ []) (sym (phase_after bs b) ∙ eqb-true _ _ e), λ p. eq-eqb _ _ (phase_after bs b ∙ is_pattern (bs ++ b ∷ []) p))

-- the state after a bit, by whether it completes the pattern
state_by : (t : Bool) (h : Hunt) (bs : List ℕ) → Decides t (PatternReceived bs) → h ≡ hunt_after bs → HuntComesTo bs (cond t (Pending (record { since = 0; high = false })) (Hunting h))
state_by true h bs d e = record { finds = λ _. refl; only = λ _. d.0 refl; goes_on = λ n. absurd (n (d.0 refl)) }
state_by false h bs d e = record { finds = λ p. absurd (false≢true (d.1 p)); only = λ z. absurd (omega arith); goes_on = λ _. ap Hunting e }

pub hunts_on : (mode : Mode) (x y : Receiver) (b : ℕ) → y ≡ stepped mode x b → HuntsOn x b y
unfolding stepped
hunts_on mode x y b e bs at =
    let is : y.state ≡ hunted_state (hunt_after bs) (b % 2) = ap (λ r. r.state) e ∙ ap (λ s. (step_in mode s (counted x) (b % 2)).state) at in
    rw is (state_by _ (hunted_on (hunt_after bs) (b % 2)) (bs ++ b ∷ []) (finds_only bs b) (sym (fold_push _ fresh bs b)))
