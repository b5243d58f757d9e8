-- A receiver of a frame beside a receiver of the bare frame, which has neither words nor check: the one's registers are the
-- other's with sums of what the words and the check hold.
use Rattle.std.proofs.Common.{ℕ, zero, suc, ◌-◌, ◌/◌, ◌^◌, ◌<◌, [], get_or, Some, None, Option}
use lib.Bits.{bit_xor}
use Rattle.frame.specs.declared.content.Content.{Content}
use Rattle.frame.specs.declared.mode.Mode.{Mode}
use Rattle.frame.specs.declared.padding.Padding.{Padding as Held}
use Rattle.frame.specs.declared.padding.Padding.TheVariants.{Check}
use Rattle.frame.specs.declared.place.Role.{Role}
use Rattle.frame.specs.declared.place.Role.TheVariants.{Padding, Payload, Added}
use Rattle.frame.specs.Checks.{divide}
use Rattle.frame.specs.Frames.{sent_bit}
use Rattle.frame.specs.Paddings.{padding}
use Rattle.frame.specs.Places.{role}
use Rattle.reception.specs.declared.receiver.Conclusion.{Conclusion}
use Rattle.reception.specs.declared.receiver.Conclusion.TheVariants.{Word}
use Rattle.reception.specs.declared.state.Progress.{Progress}
use Rattle.reception.specs.declared.state.Receiver.{Receiver}
use Rattle.reception.specs.declared.state.Reception.{Reception}
use Rattle.reception.specs.declared.state.Reception.TheVariants.{Aligned}
use Rattle.reception.specs.Steps.{with_state}
use Rattle.bearer.proofs.Places.{bit_at, checks, slot_at}

-- the frame without words and check
abbrev pub bare : Content → Content
bare c = record { blocked = c.blocked; check = 0; justification = c.justification; words = [] }

-- what fits into a frame
pub record Valid (c : Content) : Type 0 where
  pub check : c.check < 65536
  pub word : (k : ℕ) → get_or c.words k 0 < 1024

-- the bit of the frame, where b is that of the bare frame
abbrev pub laden_padding : Content → Held → ℕ → ℕ
laden_padding c (Check k) b = bit_xor (sent_bit 16 c.check k) b
laden_padding c _ b = b

abbrev pub laden_bit : Mode → Content → Role → ℕ → ℕ
laden_bit mode c (Padding s i) b = laden_padding c (padding mode s i) b
laden_bit mode c (Payload k j) b = bit_xor (sent_bit 10 (get_or c.words k 0) j) b
laden_bit mode c Added b = b

-- the front of the slot that place p stands in, the front of the check, and the remainder of what stands before it
unfoldable pub word_front : Content → ℕ → ℕ
word_front c p = get_or c.words (slot_at p) 0 / 2 ^ (10 - bit_at p)

unfoldable pub check_front : Content → ℕ → ℕ
check_front c p = c.check / 2 ^ (16 - checks (p / 16))

unfoldable pub own_remainder : Mode → Content → ℕ → ℕ
own_remainder mode c zero = 0
own_remainder mode c (suc p) = divide (own_remainder mode c p) (laden_bit mode c (role p) 0)

abbrev pub summed : ℕ → Option ℕ → Option ℕ
summed n None = None
summed n (Some m) = Some (bit_xor n m)

-- with the sums w, k, r and e in the registers
abbrev pub sums_in : ℕ → ℕ → ℕ → ℕ → Progress → Progress
sums_in w k r e q = record {
  place = q.place;
  word = bit_xor w q.word;
  right = q.right;
  service = q.service;
  check = record {
    received = bit_xor k q.check.received;
    remainder = bit_xor r q.check.remainder;
    whole = q.check.whole;
    expected = summed e q.check.expected;
  };
}

abbrev pub laden : Mode → Content → Progress → Progress
laden mode c q = sums_in (word_front c q.place) (check_front c q.place) (own_remainder mode c q.place) c.check q

-- an aligned receiver with f of its progress
abbrev pub state_with : (Progress → Progress) → Reception → Reception
state_with f (Aligned q n) = Aligned (f q) n
state_with f s = s

unfoldable pub progress_with : (Progress → Progress) → Receiver → Receiver
progress_with f x = with_state (state_with f x.state) x

-- what is concluded of the frame, where this is concluded of the bare one
unfoldable pub laden_word : Content → Option Conclusion → Option Conclusion
laden_word c (Some (Word k w)) = Some (Word k (bit_xor (get_or c.words k 0) w))
laden_word c o = o
