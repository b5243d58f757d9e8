use Rattle.std.proofs.Common.{◌≡◌, ◌+◌, ◌≤◌, true, [], ◌∷◌, ◌++◌, length, take, set, sym, refl, ap, ◌∙◌, arith, length-set}
use borrow.Author.Tests.{clash}
use Rattle.std.proofs.lemmas.Bool.{cond-true, le-leb}
use Rattle.ring.specs.Queue.{has_room}
use Rattle.ring.specs.Held.{part, turned, reaches, queue}
use Rattle.ring.proofs.Turning.{put_list}
use Rattle.ring.proofs.Rings.{queue_long, around_set}
use Rattle.ring.proofs.shape.Ring.put.Goals as goal

pub returns : goal.returns
returns g c =
    let r = c.args.self.now in
    let m = c.args.memory.now in
    let x = c.args.x in
    let at = c.place.result in
    let m' = set m (r.base + at) x in
    let fit : r.base + r.places ≤ length m = c.if-not-has_room.ensures.within refl in
    let t : reaches r (length m) ≡ true = le-leb (r.base + r.places) (length m) fit in
    let t' : reaches r (length m') ≡ true = ap (reaches r) (length-set m (r.base + at) x) ∙ t in
    let room : has_room (queue r m) ≡ true = sym c.if-not-has_room.ensures.is in
    let i = r.inside in
    let low : r.head ≤ r.places = omega arith in
    let held =
    ap (λ i. take (r.waiting + 1) (turned r.head (part r.base r.places (set m (r.base + i) x)))) c.place.ensures.is
    ∙ put_list r.base r.places r.head r.waiting m x fit low (c.if-not-has_room.ensures.free refl) in
    record {
      answer = sym room;
      left =
          queue_long _ m' t'
          ∙ (λ i. record { places = r.places; waiting = held i })
          ∙ ap (λ q. record { places = q.places; waiting = q.waiting ++ x ∷ [] }) (sym (queue_long r m t))
          ∙ sym (cond-true (has_room (queue r m)) _ (queue r m) room);
      same = record { base = refl; places = refl };
      outside = around_set r.base r.places at m x c.place.ensures.within;
      refused = λ e. absurd (clash (sym e));
    }
