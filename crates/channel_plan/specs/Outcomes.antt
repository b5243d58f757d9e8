-- What a call that may refuse answers and leaves, from the outcome that its definition gives.
use Rattle.std.specs.Prelude.{Ok, Err, Result}

module _ {X E : Type 0} where
  -- the answer tells only whether it was refused
  abbrev pub answer : Result X E → Result Unit E
  answer (Ok x) = Ok tt
  answer (Err e) = Err e

  -- a refusal leaves what was there
  abbrev pub left : Result X E → X → X
  left (Ok x) old = x
  left (Err e) old = old
