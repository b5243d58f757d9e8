-- What the calls make of the account of two queues.
use Rattle.std.proofs.Common.{◌≡◌, ℕ, Bool, true, false, cond, eqb, List, [], ◌∷◌, ◌++◌, length, take, drop, refl, ap, ◌∙◌}
use Rattle.std.proofs.lemmas.List.{take_at, drop_at}
use Rattle.std.specs.List.{slice_get}
use Rattle.bank.specs.declared.Envelope.{Envelope}
use Rattle.ring.specs.Queue.{Queue, has_room, oldest}
use Rattle.queue_bank.specs.Queues.{Queues, offer_to, take_from, collect_from, give_to}
use Rattle.queue_bank.specs.Account.{numbers, envelopes, as_account, as_queues}
use Rattle.queue_bank.specs.Meaning.{answered, queue_each}

read_bit : (b : Bool) → eqb (cond b 1 0) 1 ≡ b
read_bit true = refl
read_bit false = refl

envelopes_numbers : (es : List Envelope) → envelopes (numbers es) ≡ es
envelopes_numbers [] = refl
envelopes_numbers (e ∷ es) = λ i. record { status = read_bit e.status i; octet = e.octet } ∷ envelopes_numbers es i

-- an account tells both queues
pub queues_account : (q : Queues) → as_queues (as_account q) ≡ q
unfolding as_queues as_account
queues_account q =
    let o = q.outgoing.waiting in
    let i = q.incoming.waiting in
    let n = length o in
    let all = envelopes_numbers (o ++ i) in
    let out = ap (take n) all ∙ take_at o i n refl in
    let inn = ap (drop n) all ∙ drop_at o i n refl in
    λ j. record {
      outgoing = record { places = q.outgoing.places; waiting = out j };
      incoming = record { places = q.incoming.places; waiting = inn j };
      dropped = q.dropped;
    }

-- the queues with other outgoing ones, or other incoming ones
abbrev sending : Queues → Queue Envelope → Queues
sending q out = record { outgoing = out; incoming = q.incoming; dropped = q.dropped }

abbrev receiving : Queues → Queue Envelope → Queues
receiving q inn = record { outgoing = q.outgoing; incoming = inn; dropped = q.dropped }

offered_settled : (q : Queues) (out : Queue Envelope) (b : Bool) → cond {A = Bool × List ℕ} b (true, as_account (sending q (cond b out q.outgoing))) (false, as_account q) ≡ (b, as_account (sending q (cond b out q.outgoing)))
offered_settled q out true = refl
offered_settled q out false = refl

pub offered_account : (q : Queues) (e : Envelope) → queue_each.offered (as_account q) e ≡ (has_room q.outgoing, as_account (offer_to q e))
offered_account q e =
    ap (λ s. cond (has_room s.outgoing) (true, as_account (offer_to s e)) (false, as_account q)) (queues_account q)
    ∙ offered_settled q (record { places = q.outgoing.places; waiting = q.outgoing.waiting ++ e ∷ [] }) (has_room q.outgoing)

answered_settled : (f : Queue Envelope → List ℕ) (p : ℕ) (es : List Envelope) → answered (slice_get es 0) (f (record { places = p; waiting = drop 1 es })) (f (record { places = p; waiting = es })) ≡ (slice_get es 0, f (record { places = p; waiting = drop 1 es }))
answered_settled f p [] = refl
answered_settled f p (e ∷ es) = refl

pub taken_account : (q : Queues) → queue_each.taken (as_account q) ≡ (oldest q.outgoing, as_account (take_from q))
taken_account q =
    ap (λ s. answered (oldest s.outgoing) (as_account (take_from s)) (as_account q)) (queues_account q)
    ∙ answered_settled (λ out. as_account (sending q out)) q.outgoing.places q.outgoing.waiting

pub collected_account : (q : Queues) → queue_each.collected (as_account q) ≡ (oldest q.incoming, as_account (collect_from q))
collected_account q =
    ap (λ s. answered (oldest s.incoming) (as_account (collect_from s)) (as_account q)) (queues_account q)
    ∙ answered_settled (λ inn. as_account (receiving q inn)) q.incoming.places q.incoming.waiting

pub given_account : (q : Queues) (e : Envelope) → queue_each.given (as_account q) e ≡ as_account (give_to q e)
given_account q e = ap (λ s. as_account (give_to s e)) (queues_account q)
