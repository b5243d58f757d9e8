-- What stands on the channels of a pattern bank, and what it sends and counts from the start.
use Rattle.std.specs.Prelude.{◌≡◌, ℕ, zero, suc, true, List, Some, None, Option}
use Rattle.bank.specs.declared.Envelope.{Envelope}
use Rattle.bank.specs.Meaning.{Accounts, is_channel}
use Rattle.bank.specs.Channels.{table}
use Rattle.pattern_bank.specs.declared.PatternBank.{PatternBank}
use Rattle.pattern_bank.specs.declared.channel.Channel.{Channel}
use Rattle.pattern_bank.specs.Register.{stages}
use Rattle.pattern_bank.specs.Pattern.{Pattern, marked}
use Rattle.pattern_bank.specs.Meaning.{as_account, pattern_meaning}

abbrev pub pattern_of : Channel → Pattern
pattern_of c = record { sending = stages c.sending.bits; comparing = stages c.comparing.bits; wrong = c.wrong }

abbrev pub account_of : PatternBank → Accounts
account_of b = table (λ c. as_account (pattern_of c)) b.channels

-- on each channel take answers 7 and then 190
pub record FirstTakes (f : Accounts) : Type 0 where
  pub first : (n : ℕ) → is_channel n ≡ true → (pattern_meaning.taken n (f n)).0 ≡ Some (marked 7)
  pub second : (n : ℕ) → is_channel n ≡ true → (pattern_meaning.taken n (pattern_meaning.taken n (f n)).1).0 ≡ Some (marked 190)

-- the account after what take answers is given to the same channel
abbrev pub given_back : ℕ → Option Envelope × List ℕ → List ℕ
given_back n (None, a) = a
given_back n (Some e, a) = pattern_meaning.given n a e

unfoldable pub looped : ℕ → ℕ → List ℕ → List ℕ
looped n zero a = a
looped n (suc k) a = looped n k (given_back n (pattern_meaning.taken n a))

-- on each channel, nothing that take answered and was given back is counted wrong
abbrev pub LoopedBack : Accounts → Type 0
LoopedBack f = (n : ℕ) → is_channel n ≡ true → (k : ℕ) → (pattern_meaning.collected n (looped n k (f n))).0 ≡ Some (marked 0)
