-- What the calls make of the account of two registers.
use Rattle.std.proofs.Common.{◌≡◌, ℕ, zero, suc, ◌+◌, ◌-◌, ◌*◌, true, false, cond, List, [], ◌∷◌, ◌++◌, length, take, Some, None, Option, sym, refl, ap, ◌∙◌, arith}
use Rattle.std.proofs.lemmas.List.{take_at, drop_at, get_or-append_right, length-take-le}
use Rattle.std.proofs.lemmas.Bool.{cond-true, eq-eqb}
use Rattle.bank.specs.declared.Envelope.{Envelope}
use Rattle.bank.specs.Meaning.{Accounts, is_channel, put_at}
use Rattle.bank.specs.Channels.{table, on_each}
use Rattle.bank.proofs.Tables.{channel_low, channel_high, put_at_left, table_set, table_at}
use Rattle.std.specs.Borrow.{MutBor}
use Rattle.std.specs.Fn.{Once, FnOnceReturnsAtMut}
use Rattle.std.proofs.lemmas.Option.{get_or_from_slice_get}
use Rattle.pattern_bank.specs.Called.{Called}
use Rattle.pattern_bank.specs.declared.channel.Channel.{Channel}
use Rattle.pattern_bank.specs.Register.{all_ones, next_bit, shifted, bits_from, octet_from}
use Rattle.pattern_bank.specs.Pattern.{Pattern, fresh, marked, take_from, give_to}
use Rattle.pattern_bank.specs.Meaning.{as_account, as_pattern, pattern_each, pattern_meaning}
use Rattle.pattern_bank.specs.Standing.{pattern_of, FirstTakes, given_back, looped, LoopedBack}

-- an account tells both registers of nine stages
pub pattern_account : (p : Pattern) → length p.sending ≡ 9 → length p.comparing ≡ 9 → as_pattern (as_account p) ≡ p
unfolding as_pattern as_account
pattern_account p s c =
    let rest = p.comparing ++ p.wrong ∷ [] in
    let back = drop_at p.sending rest 9 s in
    let first = take_at p.sending rest 9 s in
    let second = ap (take 9) back ∙ take_at p.comparing (p.wrong ∷ []) 9 c in
    let third = get_or-append_right p.sending rest 9 18 0 s (omega arith) ∙ get_or-append_right p.comparing (p.wrong ∷ []) 9 9 0 c (omega arith) in
    λ i. record { sending = first i; comparing = second i; wrong = third i }

-- a register keeps its nine stages
pub length_after : (n o : ℕ) (r : List ℕ) → length r ≡ 9 → length (bits_from n o r).1 ≡ 9
unfolding bits_from
length_after zero o r e = e
length_after (suc n) o r e =
    let shorter : length (take 8 r) ≡ 8 = length-take-le 8 r (omega arith) in
    length_after n (o * 2 + next_bit r) (shifted r) (omega arith)

-- what the calls mean on the account of a channel
pub collected_account : (c : Channel) → pattern_each.collected (as_account (pattern_of c)) ≡ (Some (marked c.wrong), as_account (pattern_of c))
collected_account c = ap (λ p. (Some (marked p.wrong), as_account (pattern_of c))) (pattern_account (pattern_of c) refl refl)

pub taken_account : (c : Channel) → pattern_each.taken (as_account (pattern_of c)) ≡ (Some (marked (octet_from (pattern_of c).sending).0), as_account (take_from (pattern_of c)))
taken_account c = ap (λ p. (Some (marked (octet_from p.sending).0), as_account (take_from p))) (pattern_account (pattern_of c) refl refl)

pub given_account : (c : Channel) (e : Envelope) → pattern_each.given (as_account (pattern_of c)) e ≡ as_account (give_to (pattern_of c) e)
given_account c e = ap (λ p. as_account (give_to p e)) (pattern_account (pattern_of c) refl refl)

-- the accounts of the channels
abbrev accounts : List Channel → Accounts
accounts cs = table (λ c. as_account (pattern_of c)) cs

module _ {F R A : Type 0} {g : Once F (MutBor Channel × Unit {0}) (R × (MutBor Channel × Unit {0}))} {call : F} (n : ℕ) (cs cs' : List Channel) (len : length cs ≡ 80) (to : Option R → A) (m : List ℕ → A × List ℕ) where
  -- a call on channel n means m, if it answers and leaves what m has on the channel that it finds
  pub called_means : (o : Option R) → Called g call n cs o cs' → ((a : List ℕ) → is_channel n ≡ false → m a ≡ (to None, a)) → ((c : Channel) (x : R) (c' : Channel) → is_channel n ≡ true → FnOnceReturnsAtMut g call c x c' → m (as_account (pattern_of c)) ≡ (to (Some x), as_account (pattern_of c'))) → (to o ≡ (m (accounts cs n)).0) × (accounts cs' ≡ put_at n (m (accounts cs n)).1 (accounts cs))
  called_means None k out on =
      let e = out (accounts cs n) k.outside in
      (sym (ap (λ p. p.0) e), ap accounts k.rows ∙ sym (put_at_left n _ (accounts cs) (ap (λ p. p.1) e)))
  called_means (Some x) k out on =
      let low = channel_low n k.inside in
      let high = channel_high n k.inside in
      let stands : accounts cs n ≡ as_account (pattern_of k.found) =
      table_at (λ c. as_account (pattern_of c)) cs n k.found low (omega arith)
      ∙ ap (λ c. as_account (pattern_of c)) (get_or_from_slice_get cs (n - 1) k.found k.found k.here) in
      let e = ap m stands ∙ on k.found x k.left k.inside k.called in
      (sym (ap (λ p. p.0) e), ap accounts k.rows ∙ table_set (λ c. as_account (pattern_of c)) cs n k.left low (omega arith) ∙ ap (λ a. put_at n a (accounts cs)) (sym (ap (λ p. p.1) e)))

module _ (n : ℕ) (t : is_channel n ≡ true) where
  -- what an offer means on channel n, whatever its account
  pub offered_is : (a : List ℕ) (e : Envelope) → pattern_meaning.offered n a e ≡ (true, as_account fresh)
  offered_is a e = cond-true (is_channel n) _ _ t

  abbrev alike : List ℕ → Pattern
  alike r = record { sending = r; comparing = r; wrong = 0 }

  round : (r : List ℕ) → length r ≡ 9 → given_back n (pattern_meaning.taken n (as_account (alike r))) ≡ as_account (alike (octet_from r).1)
  round r nine =
      let o = (octet_from r).0 in
      let r' = (octet_from r).1 in
      let between : Pattern = record { sending = r'; comparing = r; wrong = 0 } in
      let took : pattern_meaning.taken n (as_account (alike r)) ≡ (Some (marked o), as_account between) =
      cond-true (is_channel n) _ _ t ∙ ap (λ p. (Some (marked (octet_from p.sending).0), as_account (take_from p))) (pattern_account (alike r) nine nine) in
      ap (given_back n) took
      ∙ cond-true (is_channel n) _ _ t
      ∙ ap (λ p. as_account (give_to p (marked o))) (pattern_account between (length_after 8 0 r nine) nine)
      ∙ ap (λ b. as_account (record { sending = r'; comparing = r'; wrong = cond b 0 1 })) (eq-eqb o o refl)

  none_wrong : (k : ℕ) (r : List ℕ) → length r ≡ 9 → (pattern_meaning.collected n (looped n k (as_account (alike r)))).0 ≡ Some (marked 0)
  unfolding looped
  none_wrong zero r nine = ap (λ (p : Option Envelope × List ℕ). p.0) (cond-true (is_channel n) _ _ t) ∙ ap (λ p. Some (marked p.wrong)) (pattern_account (alike r) nine nine)
  none_wrong (suc k) r nine = ap (λ a. (pattern_meaning.collected n (looped n k a)).0) (round r nine) ∙ none_wrong k (octet_from r).1 (length_after 8 0 r nine)

pub first_takes : FirstTakes (on_each (as_account fresh))
unfolding as_account as_pattern bits_from
first_takes = record {
  first = λ n t. ap (λ a. (pattern_meaning.taken n a).0) (on n t) ∙ ap (λ p. p.0) (takes n t (as_account fresh));
  second = λ n t.
      ap (λ a. (pattern_meaning.taken n (pattern_meaning.taken n a).1).0) (on n t)
      ∙ ap (λ p. (pattern_meaning.taken n p.1).0) (takes n t (as_account fresh))
      ∙ ap (λ p. p.0) (takes n t (as_account (take_from fresh)));
}
  where
    on : (n : ℕ) → is_channel n ≡ true → on_each (as_account fresh) n ≡ as_account fresh
    on n t = cond-true (is_channel n) (as_account fresh) [] t

    takes : (n : ℕ) → is_channel n ≡ true → (a : List ℕ) → pattern_meaning.taken n a ≡ pattern_each.taken a
    takes n t a = cond-true (is_channel n) _ _ t

pub looped_back : LoopedBack (on_each (as_account fresh))
looped_back n t k =
    ap (λ a. (pattern_meaning.collected n (looped n k a)).0) (cond-true (is_channel n) (as_account fresh) [] t) ∙ none_wrong n t k all_ones refl
