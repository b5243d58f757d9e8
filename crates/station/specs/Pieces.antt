-- A run received in two pieces is the run received whole.
use Rattle.std.specs.Prelude.{◌≡◌, ℕ, List, ◌++◌}
use Rattle.bank.specs.Meaning.{Accounts, Meaning}
use Rattle.station.specs.declared.line.Line.{Line}
use Rattle.station.specs.Faults.{Told}
use Rattle.station.specs.Receiving.{events, faults_in, give_all, given, line_after, note_all}
use Rattle.station.specs.Sending.{Owners}

-- the line left, the events, and so what is given and recorded, and what that leaves of accounts and faults
pub record InTwo (owner : Owners) (l : Line) (xs ys : List ℕ) : Type 0 where
  pub line : line_after owner l (xs ++ ys) ≡ line_after owner (line_after owner l xs) ys
  pub concluded : events owner l (xs ++ ys) ≡ events owner l xs ++ events owner (line_after owner l xs) ys
  pub delivered : given owner l (xs ++ ys) ≡ given owner l xs ++ given owner (line_after owner l xs) ys
  pub recorded : faults_in owner l (xs ++ ys) ≡ faults_in owner l xs ++ faults_in owner (line_after owner l xs) ys
  pub accounts : (m : Meaning) (f : Accounts) → give_all m f (given owner l (xs ++ ys)) ≡ give_all m (give_all m f (given owner l xs)) (given owner (line_after owner l xs) ys)
  pub told : (t : Told) → note_all t (faults_in owner l (xs ++ ys)) ≡ note_all (note_all t (faults_in owner l xs)) (faults_in owner (line_after owner l xs) ys)

-- wherever it is cut
abbrev pub Pieces : Owners → Line → List ℕ → Type 0
Pieces owner l run = (xs ys : List ℕ) → run ≡ xs ++ ys → InTwo owner l xs ys
