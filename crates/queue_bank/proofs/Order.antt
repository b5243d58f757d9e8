-- Over any list of calls nothing overtakes: one call keeps the order, and so do all, by induction.
use Rattle.std.proofs.Common.{◌≡◌, ℕ, ◌+◌, min, Bool, true, false, cond, List, [], ◌∷◌, ◌++◌, drop, sym, refl, ap, ◌∙◌, subst, arith}
use Rattle.std.specs.List.{slice_get}
use Rattle.std.specs.Option.{option_to_list}
use Rattle.std.proofs.lemmas.List.{append-nil, append_assoc}
use Rattle.std.proofs.lemmas.Bool.{cond-true}
use Rattle.bank.specs.declared.Envelope.{Envelope}
use Rattle.bank.specs.Meaning.{is_channel}
use Rattle.bank.specs.Channels.{on_each}
use Rattle.bank.specs.Runs.{Call, Offer, Collect, Take, Give, after_call, after_calls, passed, accepted_by, taken_by, given_by, collected_by}
use Rattle.ring.specs.Queue.{Queue, has_room, put_into, oldest}
use Rattle.queue_bank.specs.Queues.{Queues, empty_queues, offer_to, take_from, collect_from, give_to}
use Rattle.queue_bank.specs.Account.{as_account, as_queues}
use Rattle.queue_bank.specs.Meaning.{queue_meaning}
use Rattle.queue_bank.specs.Order.{InOrder, AllInOrder}
use Rattle.queue_bank.proofs.Accounts.{queues_account, offered_account, taken_account, collected_account, given_account}

-- a queue that has room takes one more, and one that has none is left
put_waiting : (q : Queue Envelope) (e : Envelope) → q.waiting ++ cond (has_room q) (e ∷ []) [] ≡ (put_into q e).waiting
put_waiting q e = settled (has_room q)
  where
    settled : (b : Bool) → q.waiting ++ cond b (e ∷ []) [] ≡ (cond b (record { places = q.places; waiting = q.waiting ++ e ∷ [] }) q).waiting
    settled true = refl
    settled false = append-nil q.waiting

oldest_first : (es : List Envelope) → es ≡ option_to_list (slice_get es 0) ++ drop 1 es
oldest_first [] = refl
oldest_first (e ∷ es) = refl

-- a count that found no room is not 0
counted : (b : Bool) (d : ℕ) → cond b d (min 65535 (d + 1)) ≡ 0 → (b ≡ true) × (d ≡ 0)
counted true d z = (refl, z)
counted false d z = absurd (omega arith)

abbrev on_queues : Queues → Call → Queues
on_queues q (Offer e) = offer_to q e
on_queues q Collect = collect_from q
on_queues q Take = take_from q
on_queues q (Give e) = give_to q e

module _ (n : ℕ) (t : is_channel n ≡ true) where
  -- what each call means on the account of two queues
  offer_is : (q : Queues) (e : Envelope) → queue_meaning.offered n (as_account q) e ≡ (has_room q.outgoing, as_account (offer_to q e))
  offer_is q e = cond-true (is_channel n) _ _ t ∙ offered_account q e

  take_is : (q : Queues) → queue_meaning.taken n (as_account q) ≡ (oldest q.outgoing, as_account (take_from q))
  take_is q = cond-true (is_channel n) _ _ t ∙ taken_account q

  collect_is : (q : Queues) → queue_meaning.collected n (as_account q) ≡ (oldest q.incoming, as_account (collect_from q))
  collect_is q = cond-true (is_channel n) _ _ t ∙ collected_account q

  call_is : (q : Queues) (c : Call) → after_call queue_meaning n (as_account q) c ≡ as_account (on_queues q c)
  call_is q (Offer e) = ap (λ p. p.1) (offer_is q e)
  call_is q Collect = ap (λ p. p.1) (collect_is q)
  call_is q Take = ap (λ p. p.1) (take_is q)
  call_is q (Give e) = cond-true (is_channel n) _ _ t ∙ given_account q e

  -- D holds at the end only if it held before; in and out are what one call brings and takes; w is what waits
  module _ (D : Queues → Type 0) (back : (q : Queues) (c : Call) → D (on_queues q c) → D q) where
    ends : (cs : List Call) (q : Queues) → D (as_queues (after_calls queue_meaning n (as_account q) cs)) → D q
    unfolding after_calls
    ends [] q d = subst D (queues_account q) d
    ends (c ∷ cs) q d = back q c (ends cs (on_queues q c) (subst (λ a. D (as_queues (after_calls queue_meaning n a cs))) (call_is q c) d))

    module _ (f g : List ℕ → Call → List Envelope) (w : Queues → List Envelope) (step : (q : Queues) (c : Call) → D (on_queues q c) → w q ++ f (as_account q) c ≡ g (as_account q) c ++ w (on_queues q c)) where
      passes : (cs : List Call) (q : Queues) → D (as_queues (after_calls queue_meaning n (as_account q) cs)) → w q ++ passed queue_meaning n f (as_account q) cs ≡ passed queue_meaning n g (as_account q) cs ++ w (as_queues (after_calls queue_meaning n (as_account q) cs))
      unfolding after_calls passed
      passes [] q d = append-nil (w q) ∙ sym (ap w (queues_account q))
      passes (c ∷ cs) q d =
          let a = as_account q in
          let q' = on_queues q c in
          let d' = subst (λ b. D (as_queues (after_calls queue_meaning n b cs))) (call_is q c) d in
          subst
          (λ b. w q ++ (f a c ++ passed queue_meaning n f b cs) ≡ (g a c ++ passed queue_meaning n g b cs) ++ w (as_queues (after_calls queue_meaning n b cs)))
          (sym (call_is q c))
          (sym (append_assoc (w q) (f a c) _)
          ∙ ap (λ l. l ++ passed queue_meaning n f (as_account q') cs) (step q c (ends cs q' d'))
          ∙ append_assoc (g a c) (w q') _
          ∙ ap (λ l. g a c ++ l) (passes cs q' d')
          ∙ sym (append_assoc (g a c) _ _))

  out_step : (q : Queues) (c : Call) → q.outgoing.waiting ++ accepted_by queue_meaning n (as_account q) c ≡ taken_by queue_meaning n (as_account q) c ++ (on_queues q c).outgoing.waiting
  out_step q (Offer e) = ap (λ p. q.outgoing.waiting ++ cond p.0 (e ∷ []) []) (offer_is q e) ∙ put_waiting q.outgoing e
  out_step q Collect = append-nil q.outgoing.waiting
  out_step q Take = append-nil q.outgoing.waiting ∙ oldest_first q.outgoing.waiting ∙ sym (ap (λ p. option_to_list p.0 ++ drop 1 q.outgoing.waiting) (take_is q))
  out_step q (Give e) = append-nil q.outgoing.waiting

  in_step : (q : Queues) (c : Call) → (on_queues q c).dropped ≡ 0 → q.incoming.waiting ++ given_by queue_meaning n (as_account q) c ≡ collected_by queue_meaning n (as_account q) c ++ (on_queues q c).incoming.waiting
  in_step q (Offer e) z = append-nil q.incoming.waiting
  in_step q Collect z = append-nil q.incoming.waiting ∙ oldest_first q.incoming.waiting ∙ sym (ap (λ p. option_to_list p.0 ++ drop 1 q.incoming.waiting) (collect_is q))
  in_step q Take z = append-nil q.incoming.waiting
  in_step q (Give e) z = ap (λ b. q.incoming.waiting ++ cond b (e ∷ []) []) (sym (counted (has_room q.incoming) q.dropped z).0) ∙ put_waiting q.incoming e

  dropped_back : (q : Queues) (c : Call) → (on_queues q c).dropped ≡ 0 → q.dropped ≡ 0
  dropped_back q (Offer e) z = z
  dropped_back q Collect z = z
  dropped_back q Take z = z
  dropped_back q (Give e) z = (counted (has_room q.incoming) q.dropped z).1

pub all_in_order : (p : ℕ) → AllInOrder (on_each (as_account (empty_queues p)))
all_in_order p n t cs =
    subst
    (λ a. InOrder n a cs)
    (sym (cond-true (is_channel n) (as_account (empty_queues p)) [] t))
    (record {
      outgoing = passes n t (λ _. Unit {0}) (λ _ _ u. u) (accepted_by queue_meaning n) (taken_by queue_meaning n) (λ q. q.outgoing.waiting) (λ q c _. out_step n t q c) cs (empty_queues p) tt;
      incoming = passes n t (λ q. q.dropped ≡ 0) (dropped_back n t) (given_by queue_meaning n) (collected_by queue_meaning n) (λ q. q.incoming.waiting) (in_step n t) cs (empty_queues p);
    })
