-- What becomes of a row that is added to a table: the refusals, in their order, or the table with it.
use Rattle.std.specs.Prelude.{ℕ, ◌-◌, cond, is_some, Some, None, Ok, Err, Option, Result, nat_lt, slice_set}
use Rattle.channel_plan.specs.declared.rate.Rate.{Rate}
use Rattle.channel_plan.specs.declared.refusal.RowRefusal.{RowRefusal}
use Rattle.channel_plan.specs.declared.refusal.RowRefusal.TheVariants.{NoChannel, UnknownRate, FirstSlot, ChannelPresent, GroupRate, SlotTaken}
use Rattle.channel_plan.specs.declared.row.Assignment.{Assignment}
use Rattle.channel_plan.specs.Rates.{period, rate_of}
use Rattle.channel_plan.specs.Rows.{mixes, shares}
use Rattle.channel_plan.specs.Entries.{Entries, is_channel, row_at, some_row}

-- what the rows that are there say of one more
abbrev pub conflict : Entries → Assignment → Option RowRefusal
conflict t a = cond (some_row (mixes a) t) (Some GroupRate) (cond (some_row (shares a) t) (Some SlotTaken) None)

abbrev pub unless : Option RowRefusal → Assignment → Result Assignment RowRefusal
unless None a = Ok a
unless (Some e) a = Err e

abbrev pub admitted_at : Option Rate → Entries → ℕ → ℕ → Result Assignment RowRefusal
admitted_at None t channel first = Err UnknownRate
admitted_at (Some r) t channel first =
    cond (nat_lt first (period r))
    (cond (is_some (row_at t channel)) (Err ChannelPresent)
    (let a : Assignment = record { rate = r; first = first } in unless (conflict t a) a))
    (Err FirstSlot)

-- what a row assigns to its channel, or the first refusal that it meets
abbrev pub admitted : Entries → ℕ → ℕ → ℕ → Result Assignment RowRefusal
admitted t channel rate first = cond (is_channel channel) (admitted_at (rate_of rate) t channel first) (Err NoChannel)

abbrev pub assigned : Result Assignment RowRefusal → Entries → ℕ → Result Entries RowRefusal
assigned (Ok a) t channel = Ok (slice_set t (channel - 1) (Some a))
assigned (Err e) t channel = Err e

-- the table with the row, or the refusal
abbrev pub with_row : Entries → ℕ → ℕ → ℕ → Result Entries RowRefusal
with_row t channel rate first = assigned (admitted t channel rate first) t channel
