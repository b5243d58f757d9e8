-- A bank in which all 80 channels behave alike: its meaning, its law and its accounts.
use Rattle.std.specs.Prelude.{◌≡◌, ℕ, Bool, false, cond, List, [], ◌∷◌, map, None, Option, slice_index_or, refl}
use Rattle.std.proofs.lemmas.Bool.{cond-false, cond_both}
use Rattle.bank.specs.declared.Envelope.{Envelope}
use Rattle.bank.specs.Meaning.{Accounts, Meaning, Laws, is_channel}

-- what the calls answer and leave on one channel
pub record Each : Type 0 where
  pub offered : List ℕ → Envelope → Bool × List ℕ
  pub collected : List ℕ → Option Envelope × List ℕ
  pub taken : List ℕ → Option Envelope × List ℕ
  pub given : List ℕ → Envelope → List ℕ

-- the same on each channel, and elsewhere no, nothing and the account left
abbrev pub on_channels : Each → Meaning
on_channels c = record {
  offered = λ n a e. cond (is_channel n) (c.offered a e) (false, a);
  collected = λ n a. cond (is_channel n) (c.collected a) (None, a);
  taken = λ n a. cond (is_channel n) (c.taken a) (None, a);
  given = λ n a e. cond (is_channel n) (c.given a e) a;
}

-- the law needs a proof only of the calls on one channel
pub lawful : (c : Each) → ((a : List ℕ) (e : Envelope) → (c.offered a e).0 ≡ false → (c.offered a e).1 ≡ a) → ((a : List ℕ) → (c.collected a).0 ≡ None → (c.collected a).1 ≡ a) → Laws (on_channels c)
lawful c refused nothing = record {
  refused = λ n a e. cond_both (is_channel n) (c.offered a e) (false, a) (λ (p : Bool × List ℕ). p.0 ≡ false → p.1 ≡ a) (λ _. refused a e) (λ _ _. refl);
  nothing = λ n a. cond_both (is_channel n) (c.collected a) (None, a) (λ (p : Option Envelope × List ℕ). p.0 ≡ None → p.1 ≡ a) (λ _. nothing a) (λ _ _. refl);
  no_offer = λ n a e out. cond-false (is_channel n) (c.offered a e) (false, a) out;
  no_collect = λ n a out. cond-false (is_channel n) (c.collected a) (None, a) out;
  no_take = λ n a out. cond-false (is_channel n) (c.taken a) (None, a) out;
  no_give = λ n a e out. cond-false (is_channel n) (c.given a e) a out;
}

-- the accounts of a row of channels, from 1 on; a number that is no channel has the empty list
abbrev pub table : {X : Type 0} → (X → List ℕ) → List X → Accounts
table f xs n = slice_index_or ([] ∷ map f xs) n []

-- the accounts of a bank that has the account a on each channel
abbrev pub on_each : List ℕ → Accounts
on_each a n = cond (is_channel n) a []
