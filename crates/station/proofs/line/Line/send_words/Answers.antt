use Rattle.std.proofs.Common.{◌≡◌, sym, ap, arith, rules}
use borrow.Author.Count.{below_more}
use Rattle.std.proofs.lemmas.List.FromFn.{fill_by_all}
use Rattle.std.proofs.lemmas.List.Edits.{fill_by_more}
use Rattle.channel_plan.specs.Tables.{owner_of}
use Rattle.station.specs.Lines.{with_records}
use Rattle.station.specs.Sending.{OfByte, taken_for, word_at, words}
use Rattle.station.proofs.Counted.{records_more, records_none, taken_more, taken_none}
use Rattle.station.proofs.line.Line.send_words.Goals as goal

pub loop-slot-init : goal.loop-slot-init
loop-slot-init g c =
    let l = c.args.self.now in
    let owner = owner_of c.args.plan.now.table in (
      search rules,
      grind arith,
      grind arith,
      sym (taken_none g.B.Bank.meaning owner (g.B.Bank.account c.args.bank.now)),
      sym (ap (λ rs. with_records rs l) (records_none owner 1 l.records)),
    )

pub loop-slot-preserved : goal.loop-slot-preserved
unfolding word_at
loop-slot-preserved g c =
    let m = g.B.Bank.meaning in
    let owner = owner_of c.args.plan.now.table in
    let f = g.B.Bank.account c.args.bank.now in
    let l = c.args.self.now in
    let at = c.loop-slot in
    let accounts = at.invariant.3 in
    let line = at.invariant.4 in
    let says = c.send_slot.ensures in
    let word : c.send_slot.result ≡ word_at m owner f l.records at.slot = rw (accounts, line) at says.word in (
      search rules,
      rw word (fill_by_more (word_at m owner f l.records) at.word-items at.slot 0 (search rules) at.invariant.1),
      below_more (λ s. OfByte m (taken_for m owner f s) (owner s)) at.slot at.invariant.2 (rw accounts at says.byte),
      rw (says.accounts, accounts) (taken_more m owner f at.slot),
      rw (says.line, line) (records_more owner l.records at.slot says.known l),
    )

pub returns-clause-words : goal.returns-clause-words
unfolding words
returns-clause-words g c = fill_by_all (word_at g.B.Bank.meaning (owner_of c.args.plan.now.table) (g.B.Bank.account c.args.bank.now) c.args.self.now.records) c.loop-slot.word-items 240 0 c.loop-slot.invariant.0 (λ k h. c.loop-slot.invariant.1 k (omega arith))

pub returns-clause-bytes : goal.returns-clause-bytes
returns-clause-bytes g c k h = c.loop-slot.invariant.2 k (omega arith)
