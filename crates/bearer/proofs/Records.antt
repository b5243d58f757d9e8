-- A run received changes of a line only its receiver and its records.
use Rattle.std.proofs.Common.{◌≡◌, ℕ, List, [], ◌∷◌, Option, refl, ap, ◌∙◌, arith}
use Rattle.reception.specs.declared.receiver.Conclusion.{Conclusion}
use Rattle.reception.specs.Steps.{conclusion}
use Rattle.station.specs.declared.line.Line.{Line}
use Rattle.station.specs.Hearing.{concluded_line, heard_line, stepped_line}
use Rattle.station.specs.Lines.{with_receiver, with_records}
use Rattle.station.specs.Receiving.{line_after}
use Rattle.station.specs.Sending.{Owners}
use Rattle.bearer.proofs.Runs.{receiver_after}

module _ (owner : Owners) where
  pub only_records : (l : Line) (c : Option Conclusion) → concluded_line owner l c ≡ with_records (concluded_line owner l c).records l
  only_records l c = grind arith

  pub line_over : (bs : List ℕ) (l : Line) → line_after owner l bs ≡ with_records (line_after owner l bs).records (with_receiver (receiver_after l.mode l.receiver bs) l)
  unfolding line_after receiver_after stepped_line
  line_over [] l = refl
  line_over (b ∷ bs) l =
      line_over bs (stepped_line owner l b)
      ∙ ap (λ x. with_records (line_after owner (stepped_line owner l b) bs).records (with_receiver (receiver_after x.mode x.receiver bs) x)) (only_records (heard_line owner l b) (conclusion l.mode l.receiver b))
