-- A frame that is being received: what each bit does to it, and what it shows.
use Rattle.std.specs.Prelude.{ℕ, ◌+◌, ◌-◌, ◌*◌, ◌%◌, Bool, true, false, cond, ◌&&◌, Some, None, Option, ◌==◌, nat_lt}
use Rattle.frame.specs.declared.mode.Mode.{Mode}
use Rattle.frame.specs.declared.padding.Padding.{Padding}
use Rattle.frame.specs.declared.padding.Padding.TheVariants as held
use Rattle.frame.specs.Frames.{sent_bit}
use Rattle.frame.specs.Modes.{frame_length}
use Rattle.reception.specs.declared.progress.Heard.{Heard}
use Rattle.reception.specs.declared.progress.Heard.TheVariants.{Alarm, RightPattern, WrongPattern, WrongCheck, Words}
use Rattle.reception.specs.declared.state.Checking.{Checking}
use Rattle.reception.specs.declared.state.Progress.{Progress}
use Rattle.reception.specs.declared.state.Service.{Service}
use Rattle.reception.specs.Checks.{checked_on, checking, divided_on, expected_after, is_wrong}
use Rattle.reception.specs.Registers.{shift}
use Rattle.reception.specs.Words.{justification_by, no_words, told, with_bit}

abbrev pub from : ℕ → Checking → Progress
from p k = record { place = p; word = 0; right = true; service = no_words; check = k }

-- before the first bit of a frame, with none before it
abbrev pub placed : Progress
placed = from 0 (checking true None)

-- after P36 of the subframe that has k before it
abbrev pub joined : ℕ → Progress
joined k = from (640 * (k % 4) + 576) (checking false None)

-- parts replaced
abbrev pub with_word : ℕ → Progress → Progress
with_word w p = record { place = p.place; word = w; right = p.right; service = p.service; check = p.check }

abbrev pub with_right : Bool → Progress → Progress
with_right r p = record { place = p.place; word = p.word; right = r; service = p.service; check = p.check }

abbrev pub with_service : Service → Progress → Progress
with_service v p = record { place = p.place; word = p.word; right = p.right; service = v; check = p.check }

abbrev pub with_check : Checking → Progress → Progress
with_check k p = record { place = p.place; word = p.word; right = p.right; service = p.service; check = k }

-- the next place, or the next frame
abbrev pub next : Mode → Progress → Progress
next mode p =
    cond (nat_lt p.place (frame_length (justification_by mode p.service.words) - 1))
    (record { place = p.place + 1; word = p.word; right = p.right; service = p.service; check = p.check })
    (record { place = 0; word = p.word; right = p.right; service = no_words; check = checking true (expected_after mode p.check) })

-- every bit of the frame is divided, and the place moves on
abbrev pub moved_on : Mode → Progress → ℕ → Progress
moved_on mode p b = next mode (with_check (divided_on p.check b) p)

-- whether the bits of pattern and number are right, with one of which this is the right value
abbrev pub still_right : Progress → ℕ → ℕ → Bool
still_right p e b = p.right && b == e

-- what a padding bit of subframe s leaves before the place moves on; the second bit of the number ends the pattern
abbrev pub seen : Progress → ℕ → Padding → ℕ → Progress
seen p s held.Alarm b = p
seen p s held.One b = p
seen p s (held.Check k) b = with_check (checked_on p.check b) p
seen p s (held.Pattern j) b = with_right (still_right p (sent_bit 14 0b11111001101010 j) b) p
seen p s (held.Number j) b = with_right (cond (j == 1) true (still_right p (sent_bit 2 (s - 1) j) b)) p
seen p s (held.Service j) b = with_service (with_bit p.service s j b) p
seen p s held.Zero b = p

abbrev pub padded : Mode → Progress → ℕ → Padding → ℕ → Progress
padded mode p s h b = moved_on mode (seen p s h b) b

-- whether a pattern and the subframe's number were right
abbrev pub pattern : Bool → Heard
pattern right = cond right RightPattern WrongPattern

-- the last bit of the last service word tells the justification
abbrev pub words_heard : Service → ℕ → ℕ → Option Heard
words_heard v s j = cond (s == 4 && j == 2) (Some (Words (told v.words))) None

-- what a padding bit of subframe s shows
abbrev pub heard_in : Progress → ℕ → Padding → ℕ → Option Heard
heard_in p s held.Alarm b = Some Alarm
heard_in p s held.One b = None
heard_in p s (held.Check k) b = cond (is_wrong p.check k b) (Some WrongCheck) None
heard_in p s (held.Pattern j) b = None
heard_in p s (held.Number j) b = cond (j == 1) (Some (pattern (still_right p (sent_bit 2 (s - 1) j) b))) None
heard_in p s (held.Service j) b = words_heard (with_bit p.service s j b) s j
heard_in p s held.Zero b = None

-- bit j of a slot; the tenth completes its word
abbrev pub filled : Mode → Progress → ℕ → ℕ → Progress
filled mode p j b = moved_on mode (with_word (cond (j == 9) 0 (shift 10 p.word b)) p) b

abbrev pub word_in : Progress → ℕ → ℕ → Option ℕ
word_in p j b = cond (j == 9) (Some (shift 10 p.word b)) None
