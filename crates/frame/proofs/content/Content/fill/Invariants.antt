use Rattle.std.proofs.Common.{◌≡◌, ℕ, ◌<◌, slice_index}
use Rattle.frame.specs.Frames.{frame_bit}
use Rattle.frame.proofs.content.Content.fill.Given as goal

abbrev pub invariant-loop-place : goal.invariant-loop-place
invariant-loop-place l = (k : ℕ) → k < l.place → slice_index l.bit-items k ≡ frame_bit l.mode l.self k
