-- What the calls of a bank answer and leave, and the law that every bank shows.
use Rattle.std.specs.Prelude.{◌≡◌, ℕ, ◌-◌, Bool, false, cond, ◌&&◌, List, Some, None, Option, ◌==◌, nat_le}
use Rattle.bank.specs.declared.Envelope.{Envelope}

-- what stands on each channel
abbrev pub Accounts : Type 0
Accounts = ℕ → List ℕ

-- the answer and the account left, by the channel, its account and the envelope handed in
pub record Meaning : Type 0 where
  pub offered : ℕ → List ℕ → Envelope → Bool × List ℕ
  pub collected : ℕ → List ℕ → Option Envelope × List ℕ
  pub taken : ℕ → List ℕ → Option Envelope × List ℕ
  pub given : ℕ → List ℕ → Envelope → List ℕ

abbrev pub is_channel : ℕ → Bool
is_channel n = nat_le 1 n && nat_le n 80

-- where the row of channel n stands among those of all channels
abbrev pub index_of : ℕ → Option ℕ
index_of n = cond (is_channel n) (Some (n - 1)) None

-- an offer answered no and a collect answered nothing leave the account; so does every call outside 1 to 80, answered no or nothing
pub record Laws (m : Meaning) : Type 0 where
  pub refused : (n : ℕ) (a : List ℕ) (e : Envelope) → (m.offered n a e).0 ≡ false → (m.offered n a e).1 ≡ a
  pub nothing : (n : ℕ) (a : List ℕ) → (m.collected n a).0 ≡ None → (m.collected n a).1 ≡ a
  pub no_offer : (n : ℕ) (a : List ℕ) (e : Envelope) → is_channel n ≡ false → m.offered n a e ≡ (false, a)
  pub no_collect : (n : ℕ) (a : List ℕ) → is_channel n ≡ false → m.collected n a ≡ (None, a)
  pub no_take : (n : ℕ) (a : List ℕ) → is_channel n ≡ false → m.taken n a ≡ (None, a)
  pub no_give : (n : ℕ) (a : List ℕ) (e : Envelope) → is_channel n ≡ false → m.given n a e ≡ a

-- the accounts with a on channel n, and every other as it was
abbrev pub put_at : ℕ → List ℕ → Accounts → Accounts
put_at n a f k = cond (k == n) a (f k)

-- the accounts after a call on channel n
abbrev pub after_offer : Meaning → ℕ → Envelope → Accounts → Accounts
after_offer m n e f = put_at n (m.offered n (f n) e).1 f

abbrev pub after_collect : Meaning → ℕ → Accounts → Accounts
after_collect m n f = put_at n (m.collected n (f n)).1 f

abbrev pub after_take : Meaning → ℕ → Accounts → Accounts
after_take m n f = put_at n (m.taken n (f n)).1 f

abbrev pub after_give : Meaning → ℕ → Envelope → Accounts → Accounts
after_give m n e f = put_at n (m.given n (f n) e) f
