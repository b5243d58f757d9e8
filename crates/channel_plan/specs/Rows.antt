-- What a row of a plan gives to its channel.
use Rattle.std.specs.Prelude.{ℕ, zero, suc, ◌+◌, ◌%◌, Bool, false, cond, not, ◌&&◌, ◌||◌, ◌==◌, nat_lt}
use Rattle.channel_plan.specs.declared.row.Assignment.{Assignment}
use Rattle.channel_plan.specs.Rates.{period, same}

-- the slot is one of those that leave the first slot when divided by the period
abbrev pub owns : Assignment → ℕ → Bool
owns a s = s % period a.rate == a.first

-- slots fall into five groups
abbrev pub group : Assignment → ℕ
group a = a.first % 5

-- two rates in one group
abbrev pub mixes : Assignment → Assignment → Bool
mixes a b = group a == group b && not (same a.rate b.rate)

-- some number below n passes the test
abbrev pub some_below : (ℕ → Bool) → ℕ → Bool
some_below p zero = false
some_below p (suc n) = p n || some_below p n

-- how many numbers below n pass the test
abbrev pub count_below : (ℕ → Bool) → ℕ → ℕ
count_below p zero = 0
count_below p (suc n) = cond (p n) 1 0 + count_below p n

-- how many slots of the frame it gives
unfoldable pub slots : Assignment → ℕ
slots a = count_below (owns a) 240

-- some slot of the frame goes to both
unfoldable pub shares : Assignment → Assignment → Bool
shares a b = some_below (λ s. owns a s && owns b s) 240

-- the first slot of a is one of the slots of b
abbrev pub lies_in : Assignment → Assignment → Bool
lies_in a b = nat_lt a.first (period a.rate) && owns b a.first
