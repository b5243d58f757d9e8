use Rattle.std.proofs.Common.{rules}
use Rattle.std.proofs.lemmas.List.FromFn.{fill_by_all}
use Rattle.frame.specs.Frames.{frame, frame_bit}
use Rattle.frame.proofs.content.Content.fill.Goals as goal

pub returns-clause-buffer : goal.returns-clause-buffer
unfolding frame
returns-clause-buffer c =
    let is = fill_by_all (frame_bit c.args.mode c.args.self.now) c.loop-place.bit-items c.frame_length-length.result 0 (search rules) (λ k h. c.loop-place.invariant k (search rules)) in
    search rules
