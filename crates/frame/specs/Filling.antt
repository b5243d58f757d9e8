-- A buffer into which a frame is written: the frame, and then what was there.
use Rattle.std.specs.Prelude.{ℕ, cond, List, ◌++◌, length, drop, Some, None, Option, nat_lt}
use Rattle.frame.specs.declared.content.Content.{Content}
use Rattle.frame.specs.declared.mode.Mode.{Mode}
use Rattle.frame.specs.Frames.{frame}
use Rattle.frame.specs.Modes.{frame_length}

abbrev pub filled_length : Content → List ℕ → Option ℕ
filled_length c buffer = cond (nat_lt (length buffer) 2561) None (Some (frame_length c.justification))

abbrev pub filled : Mode → Content → List ℕ → List ℕ
filled mode c buffer = cond (nat_lt (length buffer) 2561) buffer (frame mode c ++ drop (frame_length c.justification) buffer)
