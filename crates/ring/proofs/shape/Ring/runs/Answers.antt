use Rattle.std.proofs.Common.{◌≡◌, ◌+◌, ◌-◌, ◌++◌, length, take, drop, arith, rules, sym, ap, ◌∙◌, length-take}
use Rattle.std.proofs.lemmas.Bool.{leb-true}
use Rattle.std.specs.List.{slice_get}
use Rattle.ring.specs.Queue.{oldest}
use Rattle.ring.specs.Held.{queue, part}
use Rattle.ring.proofs.Turning.{runs_list, first_of_two, length_part}
use Rattle.ring.proofs.Rings.{queue_short, queue_long}
use Rattle.ring.proofs.shape.Ring.runs.Goals as goal

pub returns-then-not-reaches : goal.returns-then-not-reaches
returns-then-not-reaches g c =
    let none = queue_short c.args.self.now c.args.memory.now (sym c.if-not-reaches.ensures) in
    record {
      is = sym (ap (λ q. q.waiting) none);
      within = search rules;
      first = sym (ap oldest none);
    }

pub returns : goal.returns
returns g c =
    let r = c.args.self.now in
    let m = c.args.memory.now in
    let e = c.min-until_end.result in
    let early = c.split_at.result.1.now in
    let late = c.split_at.result.0.now in
    let t = sym c.if-not-reaches.ensures in
    let fit = leb-true (r.base + r.places) (length m) t in
    let p = length_part r.base r.places m fit in
    let a = length-take e early in
    let b = length-take (r.waiting - e) late in
    let i = r.inside in
    let f = r.fits in
    let len : r.base + r.places - r.base ≡ r.places = omega arith in
    let own = ap (λ n. take n (drop r.base m)) len in
    let q = ap length own in
    let all : take e early ++ take (r.waiting - e) late ≡ (queue r m).waiting =
    runs_list r.head r.waiting e (part r.base r.places m) early late (c.split_at.ensures.back ∙ ap (drop r.head) own) (c.split_at.ensures.front ∙ ap (take r.head) own) c.min-until_end.ensures
    ∙ sym (ap (λ q. q.waiting) (queue_long r m t)) in
    record {
      is = all;
      within = omega arith;
      first = first_of_two (take e early) (take (r.waiting - e) late) (λ z. omega arith) ∙ ap (λ l. slice_get l 0) all;
    }
