-- What a call on one channel does to the queues of that channel, and of every other.
use Rattle.std.proofs.Common.{◌≡◌, ℕ, ◌+◌, ◌*◌, ◌<◌, ◌≤◌, Bool, ltb, ◌⊎◌, List, length, get_or, set, length-set, sym, refl, ap, ◌∙◌, ap₂, inl, inr, ⊎_elim, arith}
use Rattle.std.proofs.lemmas.Bool.{cond-true, cond-false, lt-ltb, le-ltb, le-leb, cases_lt, cases_eq, cond_both}
use Rattle.std.proofs.lemmas.List.{get_or-set_same, get_or-set_other}
use Rattle.queue_bank.specs.Laid.{Laid}
use Rattle.bank.specs.declared.Envelope.{Envelope}
use Rattle.ring.specs.declared.shape.Ring.{Ring}
use Rattle.ring.specs.Queue.{empty}
use Rattle.ring.specs.Held.{queue, around, reaches, Put, Fresh}
use Rattle.ring.proofs.Rings.{queue_apart, queue_fresh, around_wider}
use Rattle.queue_bank.specs.declared.channel.Channel.{Channel}
use Rattle.queue_bank.specs.Queues.{empty_queues}
use Rattle.queue_bank.specs.Standing.{queues_of, places_over, FreshChannel}

-- a put into the queue to the line leaves the queue from it, and the other way round
pub incoming_left : (c : Channel) (r' : Ring) (m m' : List Envelope) (e : Envelope) (done : Bool) → Put e c.outgoing m done r' m' → length m' ≡ length m → queue c.incoming m' ≡ queue c.incoming m
incoming_left c r' m m' e done put len =
    let f = c.out_fits in
    let b = c.beside in
    queue_apart c.incoming c.outgoing.base c.outgoing.places m m' put.outside len (inr (omega arith))

pub outgoing_left : (c : Channel) (r' : Ring) (m m' : List Envelope) (e : Envelope) (done : Bool) → Put e c.incoming m done r' m' → length m' ≡ length m → queue c.outgoing m' ≡ queue c.outgoing m
outgoing_left c r' m m' e done put len =
    let f = c.out_fits in
    let b = c.beside in
    queue_apart c.outgoing c.incoming.base c.incoming.places m m' put.outside len (inl (omega arith))

-- either queue lies within the channel's 128 places
pub within_channel : (c : Channel) (r : Ring) (m m' : List Envelope) → (r ≡ c.outgoing) ⊎ (r ≡ c.incoming) → around r.base r.places m' ≡ around r.base r.places m → around c.outgoing.base 128 m' ≡ around c.outgoing.base 128 m
within_channel c r m m' which same =
    let f = c.out_fits in
    let g = c.in_fits in
    let b = c.beside in
    ⊎_elim
    (λ (o : r ≡ c.outgoing).
    let x : r.base ≡ c.outgoing.base = ap (λ q. q.base) o in
    let y : r.places ≡ c.outgoing.places = ap (λ q. q.places) o in
    around_wider r.base r.places c.outgoing.base 128 m m' same (omega arith) (omega arith))
    (λ (i : r ≡ c.incoming).
    let x : r.base ≡ c.incoming.base = ap (λ q. q.base) i in
    let y : r.places ≡ c.incoming.places = ap (λ q. q.places) i in
    around_wider r.base r.places c.outgoing.base 128 m m' same (omega arith) (omega arith))
    which

-- a write to the 128 places of another channel leaves both queues
pub queues_apart : (c : Channel) (b : ℕ) (m m' : List Envelope) → around b 128 m' ≡ around b 128 m → length m' ≡ length m → (c.outgoing.base + 128 ≤ b) ⊎ (b + 128 ≤ c.outgoing.base) → queues_of m' c ≡ queues_of m c
queues_apart c b m m' same len away =
    let f = c.out_fits in
    let g = c.in_fits in
    let h = c.beside in
    let o : (c.outgoing.base + c.outgoing.places ≤ b) ⊎ (b + 128 ≤ c.outgoing.base) = ⊎_elim (λ (l : c.outgoing.base + 128 ≤ b). inl (omega arith)) inr away in
    let i : (c.incoming.base + c.incoming.places ≤ b) ⊎ (b + 128 ≤ c.incoming.base) = ⊎_elim (λ (l : c.outgoing.base + 128 ≤ b). inl (omega arith)) (λ (l : b + 128 ≤ c.outgoing.base). inr (omega arith)) away in
    ap₂
    (λ x y. record { outgoing = x; incoming = y; dropped = c.dropped })
    (queue_apart c.outgoing b 128 m m' same len o)
    (queue_apart c.incoming b 128 m m' same len i)

module _ (m : List Envelope) where
  fresh_queue : (b : ℕ) (r : Ring) → Fresh b (places_over (length m)) r → b + 64 ≤ 10240 → queue r m ≡ empty (places_over (length m))
  fresh_queue b r f low =
      let p = f.base in
      let q = f.places in
      queue_fresh r m f.waiting
      ∙ ap
      empty
      (⊎_elim
      (λ (short : length m < 10240).
      let none : places_over (length m) ≡ 0 = cond-true (ltb (length m) 10240) 0 64 (lt-ltb (length m) 10240 short) in
      cond_both (reaches r (length m)) r.places 0 (λ n. n ≡ places_over (length m)) (λ _. q) (λ _. sym none))
      (λ (long : 10240 ≤ length m).
      let all : places_over (length m) ≡ 64 = cond-false (ltb (length m) 10240) 0 64 (le-ltb (length m) 10240 long) in
      cond-true (reaches r (length m)) r.places 0 (le-leb (r.base + r.places) (length m) (omega arith)) ∙ q)
      (cases_lt (length m) 10240))

  -- a channel in which nothing waits
  pub fresh_queues : (b : ℕ) (c : Channel) → FreshChannel b (places_over (length m)) c → b + 128 ≤ 10240 → queues_of m c ≡ empty_queues (places_over (length m))
  fresh_queues b c f low =
      let o = fresh_queue b c.outgoing f.outgoing (omega arith) in
      let i = fresh_queue (b + 64) c.incoming f.incoming (omega arith) in
      λ j. record { outgoing = o j; incoming = i j; dropped = f.dropped j }

-- a channel to stand past the end of a list
spare_ring : ℕ → Ring
spare_ring b = record { base = b; places = 0; head = 0; waiting = 0; inside = omega arith; fits = omega arith }

pub spare : Channel
unfolding spare_ring
spare = record { outgoing = spare_ring 0; incoming = spare_ring 64; dropped = 0; out_fits = omega arith; in_fits = omega arith; beside = refl }

-- a channel that lies where the one before it lay
pub laid_set : (cs : List Channel) (i : ℕ) (c : Channel) → i < length cs → Laid cs → c.outgoing.base ≡ 128 * i → Laid (set cs i c)
laid_set cs i c lt laid here k d in_set =
    ⊎_elim
    (λ (e : k ≡ i). ap (λ j. (get_or (set cs i c) j d).outgoing.base) e ∙ ap (λ x. x.outgoing.base) (get_or-set_same cs i c d lt) ∙ here ∙ ap (λ j. 128 * j) (sym e))
    (λ (ne : k ≡ i → ⊥).
    let len : length (set cs i c) ≡ length cs = length-set cs i c in
    ap (λ x. x.outgoing.base) (get_or-set_other cs i k c d ne) ∙ laid k d (omega arith))
    (cases_eq k i)
