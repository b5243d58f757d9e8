-- A run received in two pieces is the run received whole.
use Rattle.std.proofs.Common.{◌≡◌, ℕ, List, [], ◌∷◌, ◌++◌, Option, refl, ap, ◌∙◌, append_assoc}
use Rattle.std.proofs.lemmas.Grind.{fold-append}
use Rattle.station.specs.declared.event.Event.{Event}
use Rattle.station.specs.declared.line.Line.{Line}
use Rattle.station.specs.Faults.{noted}
use Rattle.station.specs.Hearing.{event, given_to, stepped_line}
use Rattle.station.specs.Pieces.{InTwo, Pieces}
use Rattle.station.specs.Receiving.{events, faults_in, given, line_after, parts}
use Rattle.station.specs.Sending.{Owners}

parts_append : {A : Type 0} (of : Event → Option A) (es fs : List Event) → parts of (es ++ fs) ≡ parts of es ++ parts of fs
unfolding parts
parts_append of [] fs = refl
parts_append of (e ∷ es) fs = rw (parts_append of es fs, append_assoc)

module _ (owner : Owners) where
  line_append : (xs ys : List ℕ) (l : Line) → line_after owner l (xs ++ ys) ≡ line_after owner (line_after owner l xs) ys
  unfolding line_after
  line_append [] ys l = refl
  line_append (x ∷ xs) ys l = line_append xs ys (stepped_line owner l x)

  events_append : (xs ys : List ℕ) (l : Line) → events owner l (xs ++ ys) ≡ events owner l xs ++ events owner (line_after owner l xs) ys
  unfolding events line_after
  events_append [] ys l = refl
  events_append (x ∷ xs) ys l = ap (λ es. event owner l x ∷ es) (events_append xs ys (stepped_line owner l x))

  pub in_two : (l : Line) (xs ys : List ℕ) → InTwo owner l xs ys
  in_two l xs ys =
      let both = events_append xs ys l in
      let deliveries = ap (parts (λ e. e.given)) both ∙ parts_append (λ e. e.given) (events owner l xs) (events owner (line_after owner l xs) ys) in
      let faults = ap (parts (λ e. e.fault)) both ∙ parts_append (λ e. e.fault) (events owner l xs) (events owner (line_after owner l xs) ys) in
      record {
        line = line_append xs ys l;
        concluded = both;
        delivered = deliveries;
        recorded = faults;
        accounts = λ m f. rw deliveries (fold-append (given_to m) f (given owner l xs) (given owner (line_after owner l xs) ys));
        told = λ t. rw faults (fold-append noted t (faults_in owner l xs) (faults_in owner (line_after owner l xs) ys));
      }

  pub in_pieces : (l : Line) (run : List ℕ) → Pieces owner l run
  in_pieces l run xs ys e = in_two l xs ys
