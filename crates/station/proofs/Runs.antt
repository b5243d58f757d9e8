-- What the bits received so far of a run have left.
use Rattle.std.proofs.Common.{◌≡◌, ℕ, ◌+◌, ◌<◌, ◌≤◌, List, [], ◌∷◌, ◌++◌, length, get_or, take, is_some, Option, sym, refl, arith}
use Rattle.std.specs.Option.{option_to_list}
use Rattle.std.proofs.lemmas.List.{length-append, take_more}
use Rattle.bank.specs.Meaning.{Accounts, Meaning}
use Rattle.station.specs.declared.event.Delivery.{Delivery}
use Rattle.station.specs.declared.event.Fault.{Fault}
use Rattle.station.specs.declared.line.Line.{Line}
use Rattle.station.specs.Faults.{Told}
use Rattle.station.specs.Hearing.{event, given_if, noted_if, stepped_line}
use Rattle.station.specs.Receiving.{events, faults_in, give_all, given, line_after, note_all, parts}
use Rattle.station.specs.Sending.{Owners, one_if}
use Rattle.station.proofs.Pieces.{in_two}

pub record Going (owner : Owners) (m : Meaning) (xs : List ℕ) (l₀ : Line) (f₀ : Accounts) (t₀ : Told) (l : Line) (f : Accounts) (t : Told) (n i : ℕ) : Type 0 where
  pub line : l ≡ line_after owner l₀ (take i xs)
  pub accounts : f ≡ give_all m f₀ (given owner l₀ (take i xs))
  pub faults : t ≡ note_all t₀ (faults_in owner l₀ (take i xs))
  pub count : n ≡ length (given owner l₀ (take i xs))
  pub few : n ≤ i

module _ (o : Option Delivery) where
  give_one : (m : Meaning) (f : Accounts) → give_all m f (option_to_list o ++ []) ≡ given_if m o f
  give_one m f = grind arith

  count_one : length (option_to_list o ++ []) ≡ one_if (is_some o)
  count_one = grind arith

note_one : (o : Option Fault) (t : Told) → note_all t (option_to_list o ++ []) ≡ noted_if o t
note_one o t = grind arith

pub going_none : (owner : Owners) (m : Meaning) (xs : List ℕ) (l : Line) (f : Accounts) (t : Told) → Going owner m xs l f t l f t 0 0
unfolding line_after events parts
going_none owner m xs l f t = record { line = refl; accounts = refl; faults = refl; count = refl; few = omega arith }

pub going_more : (owner : Owners) (m : Meaning) (xs : List ℕ) (l₀ : Line) (f₀ : Accounts) (t₀ : Told) (l : Line) (f : Accounts) (t : Told) (n i : ℕ) → i < length xs → Going owner m xs l₀ f₀ t₀ l f t n i
    → Going owner m xs l₀ f₀ t₀ (stepped_line owner l (get_or xs i 0)) (given_if m (event owner l (get_or xs i 0)).given f) (noted_if (event owner l (get_or xs i 0)).fault t) (n + one_if (is_some (event owner l (get_or xs i 0)).given)) (i + 1)
unfolding line_after events parts
going_more owner m xs l₀ f₀ t₀ l f t n i inside so =
    let b = get_or xs i 0 in
    let two = in_two owner l₀ (take i xs) (b ∷ []) in
    record {
      line = rw (take_more xs i 0 inside, two.line, so.line);
      accounts = rw (take_more xs i 0 inside, two.accounts m f₀, ← so.accounts, ← so.line) (sym (give_one (event owner l b).given m f));
      faults = rw (take_more xs i 0 inside, two.told t₀, ← so.faults, ← so.line) (sym (note_one (event owner l b).fault t));
      count = rw (take_more xs i 0 inside, two.delivered, length-append, ← so.count, ← so.line, count_one);
      few = grind (arith, so.few);
    }
