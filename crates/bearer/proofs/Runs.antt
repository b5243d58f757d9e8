-- A whole frame received, beside the bare frame.
use Rattle.std.proofs.Common.{◌≡◌, ℕ, zero, suc, ◌+◌, ◌<◌, Bool, true, false, List, [], ◌∷◌, map, Option, refl, ap, ◌∙◌, mod-eq_of_lt, arith}
use lib.Bits.{bit_xor, xor_zero_r}
use Rattle.std.specs.List.{range_with_len}
use Rattle.std.proofs.lemmas.Nat.Bits.{bit_at-zero}
use Rattle.frame.specs.declared.content.Content.{Content}
use Rattle.frame.specs.declared.mode.Mode.{Mode}
use Rattle.frame.specs.declared.place.Role.{Role}
use Rattle.frame.specs.Checks.{divide, remainder, remainder_after}
use Rattle.frame.specs.Frames.{frame, frame_bit, role_bit}
use Rattle.frame.specs.Modes.{frame_length}
use Rattle.frame.specs.Places.{role}
use Rattle.reception.specs.declared.receiver.Conclusion.{Conclusion}
use Rattle.reception.specs.declared.state.Progress.{Progress}
use Rattle.reception.specs.declared.state.Receiver.{Receiver}
use Rattle.reception.specs.declared.state.Reception.{Reception}
use Rattle.reception.specs.declared.state.Reception.TheVariants.{Aligned}
use Rattle.reception.specs.Steps.{aligned_at, aligned_shows, conclusion, counted, stepped, with_state}
use Rattle.bearer.proofs.Laden.{Valid, bare, laden, laden_bit, laden_word, own_remainder, progress_with, state_with, sums_in}
use Rattle.bearer.proofs.Places.{place}
use Rattle.bearer.proofs.Square.{end_square, goes_on, remainder_sum, shows_square, step_square}

-- bits received one after another
unfoldable pub receiver_after : Mode → Receiver → List ℕ → Receiver
receiver_after mode x [] = x
receiver_after mode x (b ∷ bs) = receiver_after mode (stepped mode x b) bs

unfoldable pub shown : Mode → Receiver → List ℕ → List (Option Conclusion)
shown mode x [] = []
shown mode x (b ∷ bs) = conclusion mode x b ∷ shown mode (stepped mode x b) bs

-- reception is aligned at place p, and the frame goes on, or ends
pub record At (mode : Mode) (on : Bool) (p : ℕ) (s : Reception) : Type 0 where
  pub progress : Progress
  pub wrong : ℕ
  pub is : s ≡ Aligned progress wrong
  pub place : progress.place ≡ p
  pub goes : goes_on mode progress ≡ on

-- reception stays aligned over n bits from place p on, the last of which ends the frame
unfoldable pub StaysOver : Mode → (ℕ → ℕ) → Receiver → ℕ → ℕ → Type 0
StaysOver mode b x p zero = ⊥
StaysOver mode b x p (suc zero) = At mode false p x.state
StaysOver mode b x p (suc (suc n)) = At mode true p x.state × StaysOver mode b (stepped mode x (b p)) (p + 1) (suc n)

-- an aligned receiver, by its progress
step_is : (mode : Mode) (x : Receiver) (q : Progress) (n d : ℕ) → x.state ≡ Aligned q n → d < 2 → stepped mode x d ≡ aligned_at mode (role q.place) q n (counted x) d
unfolding stepped
step_is mode x q n d is small = rw (mod-eq_of_lt small, is)

shows_is : (mode : Mode) (x : Receiver) (q : Progress) (n d : ℕ) → x.state ≡ Aligned q n → d < 2 → conclusion mode x d ≡ aligned_shows mode (role q.place) q n x d
unfolding conclusion
shows_is mode x q n d is small = rw (mod-eq_of_lt small, is)

-- a frame's bits are bits
pub frame_lt : (mode : Mode) (c : Content) (p : ℕ) → frame_bit mode c p < 2
unfolding frame_bit
frame_lt mode c p = grind arith

-- those of the frame, beside those of the bare frame
frame_laden : (mode : Mode) (c : Content) (p : ℕ) → frame_bit mode c p ≡ laden_bit mode c (role p) (frame_bit mode (bare c) p)
unfolding frame_bit
frame_laden mode c p = at_role (role p)
  where
    at_role : (r : Role) → role_bit mode c r ≡ laden_bit mode c r (role_bit mode (bare c) r)
    at_role r = grind (arith, bit_at-zero, xor_zero_r)

module _ (mode : Mode) (c : Content) (v : Valid c) where
  abbrev bit : ℕ → ℕ
  bit = frame_bit mode (bare c)

  module _ (x : Receiver) (p : ℕ) (on : Bool) (h : At mode on p x.state) where
    abbrev q : Progress
    q = h.progress

    laden_is : (f : Progress → Progress) → (progress_with f x).state ≡ Aligned (f q) h.wrong
    unfolding progress_with
    laden_is f = ap (state_with f) h.is

    bit_is : frame_bit mode c p ≡ laden_bit mode c (role q.place) (bit p)
    bit_is = rw (h.place) (frame_laden mode c p)

    laden_step : stepped mode (progress_with (laden mode c) x) (frame_bit mode c p) ≡ aligned_at mode (role q.place) (laden mode c q) h.wrong (with_state (state_with (laden mode c) x.state) (counted x)) (laden_bit mode c (role q.place) (bit p))
    unfolding progress_with
    laden_step = rw (← bit_is) (step_is mode (progress_with (laden mode c) x) (laden mode c q) h.wrong (frame_bit mode c p) (laden_is (laden mode c)) (frame_lt mode c p))

    laden_shows : conclusion mode (progress_with (laden mode c) x) (frame_bit mode c p) ≡ laden_word c (conclusion mode x (bit p))
    unfolding progress_with
    laden_shows =
        rw (shows_is mode x q h.wrong (bit p) h.is (frame_lt mode (bare c) p))
        (shows_is mode (progress_with (laden mode c) x) (laden mode c q) h.wrong (frame_bit mode c p) (laden_is (laden mode c)) (frame_lt mode c p)
        ∙ rw (bit_is) (shows_square mode c v q h.wrong (bit p) (frame_lt mode (bare c) p) (state_with (laden mode c) x.state) x (role q.place) (place mode q.place)))

  inner_bit : (x : Receiver) (p : ℕ) → At mode true p x.state → stepped mode (progress_with (laden mode c) x) (frame_bit mode c p) ≡ progress_with (laden mode c) (stepped mode x (bit p))
  inner_bit x p h =
      rw (step_is mode x h.progress h.wrong (bit p) h.is (frame_lt mode (bare c) p))
      (laden_step x p true h ∙ step_square mode c v h.progress h.wrong (bit p) (frame_lt mode (bare c) p) (state_with (laden mode c) x.state) (counted x) h.goes (role h.progress.place) refl (place mode h.progress.place))

  -- after the frame what is expected differs by this
  abbrev pub leaves : ℕ
  leaves = own_remainder mode c (frame_length c.justification)

  last_bit : (x : Receiver) (p : ℕ) → p + 1 ≡ frame_length c.justification → At mode false p x.state → stepped mode (progress_with (laden mode c) x) (frame_bit mode c p) ≡ progress_with (sums_in 0 0 0 leaves) (stepped mode x (bit p))
  last_bit x p size h =
      let end : h.progress.place + 1 ≡ frame_length c.justification = omega (arith, h.place) in
      rw (step_is mode x h.progress h.wrong (bit p) h.is (frame_lt mode (bare c) p), ← end)
      (laden_step x p false h ∙ end_square mode c v h.progress h.goes (bit p) (frame_lt mode (bare c) p) h.wrong (state_with (laden mode c) x.state) (counted x) c.justification end)

  after_from : (n p : ℕ) (x : Receiver) → p + n ≡ frame_length c.justification → StaysOver mode bit x p n → receiver_after mode (progress_with (laden mode c) x) (map (frame_bit mode c) (range_with_len p n)) ≡ progress_with (sums_in 0 0 0 leaves) (receiver_after mode x (map bit (range_with_len p n)))
  unfolding receiver_after StaysOver
  after_from zero p x e stays = absurd stays
  after_from (suc zero) p x e stays = last_bit x p e stays
  after_from (suc (suc n)) p x e stays =
      ap (λ y. receiver_after mode y (map (frame_bit mode c) (range_with_len (p + 1) (suc n)))) (inner_bit x p stays.0) ∙ after_from (suc n) (p + 1) (stepped mode x (bit p)) (omega arith) stays.1

  shown_from : (n p : ℕ) (x : Receiver) → StaysOver mode bit x p n → shown mode (progress_with (laden mode c) x) (map (frame_bit mode c) (range_with_len p n)) ≡ map (laden_word c) (shown mode x (map bit (range_with_len p n)))
  unfolding shown StaysOver
  shown_from zero p x stays = absurd stays
  shown_from (suc zero) p x stays = ap (λ y. y ∷ []) (laden_shows x p false stays)
  shown_from (suc (suc n)) p x stays = rw (laden_shows x p true stays.0, inner_bit x p stays.0, shown_from (suc n) (p + 1) (stepped mode x (bit p)) stays.1)

  module _ (x : Receiver) (stays : StaysOver mode bit x 0 (frame_length c.justification)) where
    pub frame_after : receiver_after mode (progress_with (laden mode c) x) (frame mode c) ≡ progress_with (sums_in 0 0 0 leaves) (receiver_after mode x (frame mode (bare c)))
    unfolding frame
    frame_after = after_from (frame_length c.justification) 0 x (omega arith) stays

    pub frame_shown : shown mode (progress_with (laden mode c) x) (frame mode c) ≡ map (laden_word c) (shown mode x (frame mode (bare c)))
    unfolding frame
    frame_shown = shown_from (frame_length c.justification) 0 x stays

  remainder_from : (n p r : ℕ) → remainder_after (bit_xor (own_remainder mode c p) r) (map (frame_bit mode c) (range_with_len p n)) ≡ bit_xor (own_remainder mode c (p + n)) (remainder_after r (map bit (range_with_len p n)))
  unfolding remainder_after
  remainder_from zero p r = let same : p + 0 ≡ p = omega arith in rw same
  remainder_from (suc n) p r =
      let same : p + suc n ≡ p + 1 + n = omega arith in
      rw (frame_laden mode c p, remainder_sum mode c p r (bit p) (role p) refl (frame_lt mode (bare c) p), same) (remainder_from n (p + 1) (divide r (bit p)))

  pub frame_remainder : remainder (frame mode c) ≡ bit_xor leaves (remainder (frame mode (bare c)))
  unfolding frame own_remainder
  frame_remainder = let same : 0 + frame_length c.justification ≡ frame_length c.justification = omega arith in rw same at (remainder_from (frame_length c.justification) 0 0)
