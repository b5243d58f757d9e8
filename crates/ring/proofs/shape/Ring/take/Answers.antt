use Rattle.std.proofs.Common.{◌≡◌, ℕ, ◌-◌, ◌<◌, true, List, ◌∷◌, length, get_or, take, sym, refl, ap, ◌∙◌, arith, rules}
use Rattle.ring.specs.Queue.{oldest, without_oldest}
use Rattle.ring.specs.Held.{part, turned, reaches, queue}
use Rattle.ring.proofs.Turning.{take_list, length_part, get_or_part}
use Rattle.ring.proofs.Rings.{queue_long, length_long, some_wait, oldest_within, held}
use Rattle.ring.proofs.shape.Ring.take.Goals as goal

pub returns : goal.returns
returns g c =
    let r = c.args.self.now in
    let m = c.args.memory.now in
    let x = c.index-memory-self.result in
    let s = part r.base r.places m in
    let next = c.if-self.self in
    let waits : 0 < length (queue r m).waiting = omega (arith, c.waiting.ensures.is, c.in_ok-left.ensures) in
    let some = some_wait r m waits in
    let here = oldest_within r m waits in
    let t : reaches r (length m) ≡ true = some.0 in
    let wait : 0 < r.waiting = some.1 in
    let lt : r.head < r.places = here.1 in
    let f = r.fits in
    let less : c.in_ok-left.left ≡ r.waiting - 1 = omega (arith, length_long r m t, c.waiting.ensures.is, c.in_ok-left.ensures) in
    let first : get_or s r.head x ≡ x = get_or_part r.base r.places m r.head x lt ∙ sym c.index-memory-self.is in
    let rest : List g.row.T.Denot = take c.in_ok-left.left (turned next s) in
    let split : held r m ≡ x ∷ rest =
    take_list r.places r.head r.waiting s next x (length_part r.base r.places m here.0) lt (omega arith) (omega arith) (search rules) (search rules)
    ∙ (λ i. first i ∷ take (sym less i) (turned next s)) in
    let old : queue r m ≡ record { places = r.places; waiting = x ∷ rest } = queue_long r m t ∙ (λ i. record { places = r.places; waiting = split i }) in
    record {
      answer = sym (ap oldest old);
      left = queue_long _ m t ∙ sym (ap without_oldest old);
      same = record { base = refl; places = refl };
      none = λ e. let z : ◌≡◌ {A = ℕ} 0 1 = cc in absurd (omega arith);
    }
