-- A bit received of a frame and of the bare frame: the two receivers stay beside each other within the frame.
use Rattle.std.proofs.Common.{◌≡◌, ℕ, ◌+◌, ◌-◌, ◌/◌, ◌%◌, ◌^◌, ◌<◌, Bool, true, false, cond, not, eqb, ltb, List, get_or, Some, None, Option, sym, refl, ap, ◌∙◌, subst, ⊎_elim, div-one, add-one, arith}
use native.Mathlib.Nat.{div-eq_of_lt}
use lib.Bits.{bit_xor, xor_zero_l, xor_zero_r}
use Rattle.std.proofs.lemmas.Bool.{cases_eq, cond_both, eq-eqb, ne_eqb}
use Rattle.std.proofs.lemmas.Bool.Decides.{nat_tests}
use Rattle.frame.specs.declared.content.Content.{Content}
use Rattle.frame.specs.declared.mode.Justification.{Justification}
use Rattle.frame.specs.declared.mode.Justification.TheVariants.{Deleted, Unchanged, Added as Longer}
use Rattle.frame.specs.declared.mode.Mode.{Mode}
use Rattle.frame.specs.declared.padding.Padding.{Padding as Held}
use Rattle.frame.specs.declared.padding.Padding.TheVariants.{Check, Service}
use Rattle.frame.specs.declared.place.Role.{Role}
use Rattle.frame.specs.declared.place.Role.TheVariants.{Padding, Payload, Added}
use Rattle.frame.specs.Checks.{divide}
use Rattle.frame.specs.Frames.{sent_bit}
use Rattle.frame.specs.Modes.{frame_length}
use Rattle.frame.specs.Paddings.{padding}
use Rattle.frame.specs.Places.{role}
use Rattle.reception.specs.declared.progress.Heard.{Heard}
use Rattle.reception.specs.declared.progress.Heard.TheVariants as heard
use Rattle.reception.specs.declared.state.Progress.{Progress}
use Rattle.reception.specs.declared.state.Receiver.{Receiver}
use Rattle.reception.specs.declared.state.Reception.{Reception}
use Rattle.reception.specs.declared.state.Reception.TheVariants.{Aligned}
use Rattle.reception.specs.Checks.{checking, differs, expected_after, is_wrong}
use Rattle.reception.specs.Progresses.{filled, heard_in, moved_on, padded, seen, with_word, word_in}
use Rattle.reception.specs.Registers.{shift}
use Rattle.reception.specs.Steps.{aligned_at, aligned_by, aligned_fault, aligned_shows, with_state, word_told}
use Rattle.reception.specs.Words.{justification_by, no_words, with_bit}
use Rattle.bearer.proofs.Laden.{Valid, check_front, laden, laden_bit, laden_padding, laden_word, own_remainder, progress_with, summed, sums_in, word_front}
use Rattle.bearer.proofs.Places.{InPadding, InPayload, Place, bit_at, checks, payloads, slot_at}
use Rattle.bearer.proofs.Sums.{divide_sum, eqb_sum, front_sum}

-- the place moves on within the frame
abbrev pub goes_on : Mode → Progress → Bool
goes_on mode q = ltb q.place (frame_length (justification_by mode q.service.words) - 1)

-- whatever the words, it does before the last two places
pub far : (mode : Mode) (ws : List (Option ℕ)) (p : ℕ) → p < 2558 → ltb p (frame_length (justification_by mode ws) - 1) ≡ true
far mode ws p h = grind (arith, nat_tests)

-- what a bit holds of the words and the check is that beside a zero bit
laden_sum : (mode : Mode) (c : Content) (r : Role) (b : ℕ) → laden_bit mode c r b ≡ bit_xor (laden_bit mode c r 0) b
laden_sum mode c r b = grind (arith, xor_zero_l, xor_zero_r)

laden_lt : (mode : Mode) (c : Content) (r : Role) → laden_bit mode c r 0 < 2
laden_lt mode c r = grind (arith, xor_zero_r)

-- the remainder of the frame is the sum of that of the bare frame and of what words and check hold
pub remainder_sum : (mode : Mode) (c : Content) (p m b : ℕ) (r : Role) → role p ≡ r → b < 2 → divide (bit_xor (own_remainder mode c p) m) (laden_bit mode c r b) ≡ bit_xor (own_remainder mode c (p + 1)) (divide m b)
unfolding own_remainder
remainder_sum mode c p m b r e h = rw (add-one p, e, laden_sum mode c r b) (divide_sum (own_remainder mode c p) m (laden_bit mode c r 0) b (laden_lt mode c r) h)

module _ (mode : Mode) (c : Content) (v : Valid c) where
  -- the check
  check_kept : (p : ℕ) → checks ((p + 1) / 16) ≡ checks (p / 16) → check_front c p ≡ check_front c (p + 1)
  unfolding check_front
  check_kept p e = ap (λ n. c.check / 2 ^ (16 - n)) (sym e)

  check_sum : (p k s b : ℕ) → b < 2 → InPadding p (Check k) → shift 16 (bit_xor (check_front c p) s) (bit_xor (sent_bit 16 c.check k) b) ≡ bit_xor (check_front c (p + 1)) (shift 16 s b)
  unfolding check_front
  check_sum p k s b small h = front_sum 16 c.check (checks (p / 16)) (checks ((p + 1) / 16)) k s b v.check h.padded.2 h.padded.0 (ap checks h.row ∙ h.padded.1) small

  check_whole : (p k : ℕ) → InPadding p (Check k) → k ≡ 15 → check_front c (p + 1) ≡ c.check
  unfolding check_front
  check_whole p k h e = ap (λ n. c.check / 2 ^ (16 - n)) (ap checks h.row ∙ h.padded.1 ∙ ap (λ n. n + 1) e) ∙ div-one c.check

  -- the words
  word_sum : (p k j s b : ℕ) → b < 2 → InPayload p k j → shift 10 (bit_xor (word_front c p) s) (bit_xor (sent_bit 10 (get_or c.words k 0) j) b) ≡ bit_xor (get_or c.words k 0 / 2 ^ (10 - (j + 1))) (shift 10 s b)
  unfolding word_front
  word_sum p k j s b small h = rw (h.slot) (front_sum 10 (get_or c.words k 0) (bit_at p) (j + 1) j s b (v.word k) h.small h.bit refl small)

  pub word_kept : (p : ℕ) (h : Held) → InPadding p h → word_front c p ≡ word_front c (p + 1)
  unfolding word_front
  word_kept p h i = ap (λ m. get_or c.words (m / 10) 0 / 2 ^ (10 - m % 10)) (sym i.kept)

  -- what a payload bit leaves of the word
  word_square : (p k j s b : ℕ) → b < 2 → InPayload p k j → cond (eqb j 9) 0 (shift 10 (bit_xor (word_front c p) s) (bit_xor (sent_bit 10 (get_or c.words k 0) j) b)) ≡ bit_xor (word_front c (p + 1)) (cond (eqb j 9) 0 (shift 10 s b))
  unfolding word_front
  word_square p k j s b small h =
      ⊎_elim
      (λ e. rw (eq-eqb j 9 e, xor_zero_r, h.start e) (sym (div-eq_of_lt (v.word (slot_at (p + 1))))))
      (λ ne. rw (ne_eqb j 9 ne, word_sum p k j s b small h, h.same (omega arith), h.next (omega arith))) (cases_eq j 9)

  -- a bit of the frame itself moves both on
  moved : (w k b b' : ℕ) (q : Progress) → goes_on mode q ≡ true → w ≡ word_front c (q.place + 1) → k ≡ check_front c (q.place + 1) → divide (bit_xor (own_remainder mode c q.place) q.check.remainder) b' ≡ bit_xor (own_remainder mode c (q.place + 1)) (divide q.check.remainder b) → moved_on mode (sums_in w k (own_remainder mode c q.place) c.check q) b' ≡ laden mode c (moved_on mode q b)
  moved w k b b' q on w-is k-is sum = rw (on, w-is, k-is, sum)

  module _ (q : Progress) (on : goes_on mode q ≡ true) (b : ℕ) (small : b < 2) where
    abbrev p : ℕ
    p = q.place

    filled_square : (k j : ℕ) → role p ≡ Payload k j → InPayload p k j → filled mode (laden mode c q) j (laden_bit mode c (Payload k j) b) ≡ laden mode c (filled mode q j b)
    filled_square k j at h =
        let b' = laden_bit mode c (Payload k j) b in
        ap (λ w. moved_on mode (with_word w (laden mode c q)) b') (word_square p k j q.word b small h)
        ∙ moved (word_front c (p + 1)) (check_front c p) b b' (with_word (cond (eqb j 9) 0 (shift 10 q.word b)) q) on refl (check_kept p (ap checks h.row)) (remainder_sum mode c p q.check.remainder b (Payload k j) at small)

    -- what padding leaves of the two
    padded_square : (s : ℕ) (h : Held) → InPadding p h → divide (bit_xor (own_remainder mode c p) q.check.remainder) (laden_padding c h b) ≡ bit_xor (own_remainder mode c (p + 1)) (divide q.check.remainder b) → padded mode (laden mode c q) s h (laden_padding c h b) ≡ laden mode c (padded mode q s h b)
    padded_square s (Check k) pad sum =
        rw (check_sum p k q.check.received b small pad)
        (moved (word_front c p) (check_front c (p + 1)) b (laden_padding c (Check k) b) (seen q s (Check k) b) on (word_kept p (Check k) pad) refl sum)
    padded_square s (Service j) pad sum =
        moved (word_front c p) (check_front c p) b b (seen q s (Service j) b) (far mode (with_bit q.service s j b).words p (omega (arith, pad.padded.1))) (word_kept p (Service j) pad) (check_kept p (ap checks pad.row ∙ pad.padded.0)) sum
    padded_square s h pad sum = moved (word_front c p) (check_front c p) b b (seen q s h b) on (word_kept p h pad) (check_kept p (ap checks pad.row ∙ pad.padded)) sum

  -- what padding shows, and what a slot holds
  module _ (q : Progress) (b : ℕ) (small : b < 2) where
    differs_sum : (o : Option ℕ) (n : ℕ) → differs (summed c.check o) (bit_xor c.check n) ≡ differs o n
    differs_sum None n = refl
    differs_sum (Some m) n = ap not (eqb_sum c.check n m)

    wrong_square : (k : ℕ) → InPadding q.place (Check k) → is_wrong (laden mode c q).check k (laden_padding c (Check k) b) ≡ is_wrong q.check k b
    wrong_square k pad =
        ⊎_elim (λ e. rw (check_sum q.place k q.check.received b small pad, check_whole q.place k pad e, differs_sum q.check.expected (shift 16 q.check.received b)))
        (λ ne. rw (ne_eqb k 15 ne)) (cases_eq k 15)

    heard_square : (s : ℕ) (h : Held) → InPadding q.place h → heard_in (laden mode c q) s h (laden_padding c h b) ≡ heard_in q s h b
    heard_square s (Check k) pad = rw (wrong_square k pad)
    heard_square s h pad = refl

    told_square : (k j : ℕ) → InPayload q.place k j → word_told k (word_in (laden mode c q) j (laden_bit mode c (Payload k j) b)) ≡ laden_word c (word_told k (word_in q j b))
    unfolding laden_word
    told_square k j h =
        ⊎_elim (λ e. rw (eq-eqb j 9 e, word_sum q.place k j q.word b small h, e, div-one (get_or c.words k 0)))
        (λ ne. rw (ne_eqb j 9 ne)) (cases_eq j 9)

-- a verdict leaves the same beside each other
aligned_square : (f : Progress → Progress) (g : Option Heard) (q : Progress) (n : ℕ) (s : Reception) (x : Receiver) (b : ℕ) → aligned_by g (f q) n (with_state s x) b ≡ progress_with f (aligned_by g q n x b)
unfolding progress_with
aligned_square f g q n s x b = grind arith

fault_square : (c : Content) (g : Option Heard) (n : ℕ) (s : Reception) (x : Receiver) (b : ℕ) → aligned_fault g n (with_state s x) b ≡ laden_word c (aligned_fault g n x b)
unfolding laden_word
fault_square c g n s x b = grind arith

-- only the far alarm bit itself is looked at
same_bit : (c : Content) (q : Progress) (s : ℕ) (h : Held) (b : ℕ) {A : Type 0} (f : Option Heard → ℕ → A) → ((d : ℕ) → f (Some heard.WrongCheck) d ≡ f (Some heard.WrongCheck) b) → ((d : ℕ) → f None d ≡ f None b) → f (heard_in q s h b) (laden_padding c h b) ≡ f (heard_in q s h b) b
same_bit c q s (Check k) b f w z = cond_both (is_wrong q.check k b) (Some heard.WrongCheck) None (λ g. f g (laden_padding c (Check k) b) ≡ f g b) (λ _. w _) (λ _. z _)
same_bit c q s h b f w z = refl

module _ (mode : Mode) (c : Content) (v : Valid c) (q : Progress) (n b : ℕ) (small : b < 2) (s : Reception) (x : Receiver) where
  pub step_square : goes_on mode q ≡ true → (r : Role) → role q.place ≡ r → Place mode q.place r → aligned_at mode r (laden mode c q) n (with_state s x) (laden_bit mode c r b) ≡ progress_with (laden mode c) (aligned_at mode r q n x b)
  unfolding progress_with
  step_square on (Padding u i) at pad =
      let h = padding mode u i in
      rw (heard_square mode c v q b small u h pad, padded_square mode c v q on b small u h pad (remainder_sum mode c q.place q.check.remainder b (Padding u i) at small))
      (same_bit c q u h b (λ g d. aligned_by g (laden mode c (padded mode q u h b)) n (with_state s x) d) (λ _. refl) (λ _. refl)
      ∙ aligned_square (laden mode c) (heard_in q u h b) (padded mode q u h b) n s x b)
  step_square on (Payload k j) at h = rw (filled_square mode c v q on b small k j at h)
  step_square on Added at h = let below : q.place < 2560 = grind (arith, nat_tests) in absurd (omega arith)

  pub shows_square : (r : Role) → Place mode q.place r → aligned_shows mode r (laden mode c q) n (with_state s x) (laden_bit mode c r b) ≡ laden_word c (aligned_shows mode r q n x b)
  unfolding laden_word
  shows_square (Padding u i) pad =
      let h = padding mode u i in
      rw (heard_square mode c v q b small u h pad) (same_bit c q u h b (λ g d. aligned_fault g n (with_state s x) d) (λ _. refl) (λ _. refl) ∙ fault_square c (heard_in q u h b) n s x b)
  shows_square (Payload k j) h = told_square mode c v q b small k j h
  shows_square Added h = refl

-- the last bit of a frame
expected_sum : (mode : Mode) (r m : ℕ) (whole : Bool) (k k' : ℕ) (o o' : Option ℕ) → expected_after mode (record { received = k'; remainder = bit_xor r m; whole = whole; expected = o' }) ≡ summed r (expected_after mode (record { received = k; remainder = m; whole = whole; expected = o }))
expected_sum mode r m whole k k' o o' = grind arith

module _ (mode : Mode) (c : Content) (v : Valid c) (q : Progress) (off : goes_on mode q ≡ false) (b : ℕ) (small : b < 2) where
  -- what is expected of the next frame differs by what the words and the check leave
  abbrev pub next_frame : Progress → Progress
  next_frame x = sums_in 0 0 0 (own_remainder mode c (q.place + 1)) x

  moved_end : (u w : ℕ) → w ≡ 0 → (r : Role) → role q.place ≡ r → moved_on mode (sums_in w (check_front c q.place) (own_remainder mode c q.place) c.check (with_word u q)) (laden_bit mode c r b) ≡ next_frame (moved_on mode (with_word u q) b)
  moved_end u w none r is =
      rw (off, none, remainder_sum mode c q.place q.check.remainder b r is small)
      (ap (λ e. record { place = 0; word = bit_xor 0 u; right = q.right; service = no_words; check = checking true e })
      (expected_sum mode (own_remainder mode c (q.place + 1)) (divide q.check.remainder b) q.check.whole q.check.received (bit_xor (check_front c q.place) q.check.received) q.check.expected (summed c.check q.check.expected)))

  -- behind the last slot there is no word
  word_past : payloads q.place ≡ 2400 → word_front c q.place ≡ 0
  unfolding word_front
  word_past e = rw e (div-eq_of_lt (v.word 240))

  module _ (n : ℕ) (s : Reception) (x : Receiver) where
    abbrev Ends : Role → Type 0
    Ends r = aligned_at mode r (laden mode c q) n (with_state s x) (laden_bit mode c r b) ≡ progress_with next_frame (aligned_at mode r q n x b)

    last_padding : moved_on mode (laden mode c q) (laden_bit mode c (Padding 4 40) b) ≡ next_frame (moved_on mode q b) → Ends (Padding 4 40)
    unfolding progress_with
    last_padding e = grind arith

    -- the last bit is the last of a slot, padding that shows nothing, or the place beyond
    pub end_square : (j : Justification) → q.place + 1 ≡ frame_length j → Ends (role q.place)
    unfolding progress_with
    end_square Deleted e =
        let is : role q.place ≡ Payload 239 9 = let at : q.place ≡ 2558 = omega arith in ap role at in
        subst Ends (sym is) (ap (λ y. with_state (Aligned y n) x) (moved_end 0 0 refl (Payload 239 9) is))
    end_square Unchanged e =
        let is : role q.place ≡ Padding 4 40 = let at : q.place ≡ 2559 = omega arith in ap role at in
        subst Ends (sym is) (last_padding (moved_end q.word (word_front c q.place) (word_past (omega arith)) (Padding 4 40) is))
    end_square Longer e =
        let is : role q.place ≡ Added = let at : q.place ≡ 2560 = omega arith in ap role at in
        subst Ends (sym is) (ap (λ y. with_state (Aligned y n) x) (moved_end q.word (word_front c q.place) (word_past (omega arith)) Added is))
