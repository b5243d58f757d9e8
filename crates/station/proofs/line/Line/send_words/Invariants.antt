use Rattle.std.proofs.Common.{◌≡◌, ℕ, ◌<◌, length, get_or}
use Rattle.channel_plan.specs.Tables.{owner_of}
use Rattle.station.specs.Lines.{with_records}
use Rattle.station.specs.Sending.{OfByte, records_for, taken_for, word_at}
use Rattle.station.proofs.line.Line.send_words.Given as goal

-- the slots so far were taken for, and their words written
abbrev pub invariant-loop-slot : goal.invariant-loop-slot
invariant-loop-slot g l =
    let bank = g.B.Bank in
    let owner = owner_of l.initial.plan.table in
    let f = bank.account l.initial.bank in
    let rs = l.initial.self.records in
    (length l.word-items ≡ 240)
    × ((s : ℕ) → s < l.slot → get_or l.word-items s 0 ≡ word_at bank.meaning owner f rs s)
    × ((s : ℕ) → s < l.slot → OfByte bank.meaning (taken_for bank.meaning owner f s) (owner s))
    × (bank.account l.bank ≡ taken_for bank.meaning owner f l.slot)
    × (l.self ≡ with_records (records_for owner rs l.slot) l.initial.self)
