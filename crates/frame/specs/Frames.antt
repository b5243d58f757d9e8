-- The frame by its places: which bit stands at each, from what the sender puts into it.
use Rattle.std.specs.Prelude.{ℕ, ◌-◌, ◌/◌, ◌%◌, ◌^◌, cond, List, map, slice_index}
use Rattle.std.specs.List.{range_with_len}
use Rattle.frame.specs.declared.content.Content.{Content}
use Rattle.frame.specs.declared.mode.Mode.{Mode}
use Rattle.frame.specs.declared.padding.Padding.{Padding as Held}
use Rattle.frame.specs.declared.padding.Padding.TheVariants.{Alarm, One, Check, Pattern, Number, Service, Zero}
use Rattle.frame.specs.declared.place.Role.{Role}
use Rattle.frame.specs.declared.place.Role.TheVariants.{Padding, Payload, Added}
use Rattle.frame.specs.Modes.{frame_length, service_word}
use Rattle.frame.specs.Paddings.{padding}
use Rattle.frame.specs.Places.{role}

-- bit k of a number, bit 0 the lowest
abbrev pub bit : ℕ → ℕ → ℕ
bit n k = n / 2 ^ k % 2

-- bit j, counted from the first sent, of a word of n bits
abbrev pub sent_bit : ℕ → ℕ → ℕ → ℕ
sent_bit n word j = bit word (n - 1 - j)

-- what a padding bit of subframe s is
abbrev pub padding_bit : Content → ℕ → Held → ℕ
padding_bit c s Alarm = cond c.blocked 0 1
padding_bit c s One = 1
padding_bit c s (Check k) = sent_bit 16 c.check k
padding_bit c s (Pattern j) = sent_bit 14 0b11111001101010 j
padding_bit c s (Number j) = sent_bit 2 (s - 1) j
padding_bit c s (Service j) = sent_bit 3 (service_word c.justification) j
padding_bit c s Zero = 0

abbrev pub role_bit : Mode → Content → Role → ℕ
role_bit mode c (Padding s i) = padding_bit c s (padding mode s i)
role_bit mode c (Payload k j) = sent_bit 10 (slice_index c.words k) j
role_bit mode c Added = 0

-- the bit at place p
unfoldable pub frame_bit : Mode → Content → ℕ → ℕ
frame_bit mode c p = role_bit mode c (role p)

-- the frame, one bit a number
unfoldable pub frame : Mode → Content → List ℕ
frame mode c = map (frame_bit mode c) (range_with_len 0 (frame_length c.justification))
