-- How long a frame is, and how a justified one tells it.
use Rattle.std.specs.Prelude.{ℕ, zero, suc, ℤ, pos, negsuc, Some, None, Option}
use Rattle.frame.specs.declared.mode.Justification.{Justification}
use Rattle.frame.specs.declared.mode.Justification.TheVariants.{Deleted, Unchanged, Added}

-- by the number -1, 0 or 1
abbrev pub justification_of : ℤ → Option Justification
justification_of (negsuc zero) = Some Deleted
justification_of (negsuc (suc n)) = None
justification_of (pos zero) = Some Unchanged
justification_of (pos (suc zero)) = Some Added
justification_of (pos (suc (suc n))) = None

-- 2,560 bits and that many
abbrev pub frame_length : Justification → ℕ
frame_length Deleted = 2559
frame_length Unchanged = 2560
frame_length Added = 2561

-- 001, 010 or 100
abbrev pub service_word : Justification → ℕ
service_word Deleted = 0b001
service_word Unchanged = 0b010
service_word Added = 0b100
