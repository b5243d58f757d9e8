-- The service words of a frame, and the justification that they tell.
use Rattle.std.specs.Prelude.{ℕ, ◌+◌, ◌-◌, ◌%◌, Bool, cond, not, ◌&&◌, List, replicate, is_some, Some, None, Option, ◌==◌, nat_le, slice_index_or, slice_set}
use Rattle.frame.specs.declared.mode.Justification.{Justification}
use Rattle.frame.specs.declared.mode.Justification.TheVariants.{Deleted, Unchanged, Added}
use Rattle.frame.specs.declared.mode.Mode.{Mode}
use Rattle.frame.specs.declared.mode.Mode.TheVariants.{Synchronous, Justified}
use Rattle.reception.specs.declared.state.Service.{Service}
use Rattle.reception.specs.Registers.{shift}

-- none was received
abbrev pub no_words : Service
no_words = record { partial = 0; words = replicate 4 None }

-- with bit i of the word of subframe s; the third bit completes it
abbrev pub with_bit : Service → ℕ → ℕ → ℕ → Service
with_bit v s i b =
    cond (i == 2)
    (record { partial = 0; words = slice_set v.words ((s - 1) % 4) (Some (shift 3 v.partial b)) })
    (record { partial = shift 3 v.partial b; words = v.words })

-- 1 where a word was received and is w
abbrev pub is_word : Option ℕ → ℕ → ℕ
is_word None w = 0
is_word (Some v) w = cond (v == w) 1 0

-- how many of the four words are w
abbrev pub shown : List (Option ℕ) → ℕ → ℕ
shown ws w = is_word (slice_index_or ws 0 None) w + is_word (slice_index_or ws 1 None) w + is_word (slice_index_or ws 2 None) w + is_word (slice_index_or ws 3 None) w

unfoldable pub has_majority : List (Option ℕ) → ℕ → Bool
has_majority ws w = nat_le 3 (shown ws w)

-- the justification whose service word at least three of the four words show
abbrev pub majority : List (Option ℕ) → Option Justification
majority ws = cond (has_majority ws 0b001) (Some Deleted) (cond (has_majority ws 0b100) (Some Added) (cond (has_majority ws 0b010) (Some Unchanged) None))

-- the service word that at least three of the four words show, or else none
abbrev pub taken : List (Option ℕ) → Justification
taken ws = cond (has_majority ws 0b001) Deleted (cond (has_majority ws 0b100) Added Unchanged)

-- the justification of the frame: in synchronous mode always none
abbrev pub justification_by : Mode → List (Option ℕ) → Justification
justification_by Synchronous ws = Unchanged
justification_by Justified ws = taken ws

abbrev pub are_complete : List (Option ℕ) → Bool
are_complete ws = is_some (slice_index_or ws 0 None) && (is_some (slice_index_or ws 1 None) && (is_some (slice_index_or ws 2 None) && is_some (slice_index_or ws 3 None)))

-- four words were received, and no service word has a majority of them
abbrev pub is_disputed : List (Option ℕ) → Bool
is_disputed ws = are_complete ws && (not (has_majority ws 0b001) && (not (has_majority ws 0b010) && not (has_majority ws 0b100)))

-- the justification that the words tell: none where they dispute it
abbrev pub told : List (Option ℕ) → Option Justification
told ws = cond (is_disputed ws) None (Some (taken ws))
