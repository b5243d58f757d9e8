use Rattle.std.proofs.Common.{◌≡◌, ◌-◌, ◌<◌, length, get_or, set, sym, ap, ◌∙◌, refl, arith, length-set}
use Rattle.std.proofs.lemmas.Option.{slice_get_read}
use Rattle.bank.proofs.Tables.{index_is, channel_low, channel_high}
use Rattle.queue_bank.specs.Called.{Answers}
use Rattle.queue_bank.proofs.Channels.{laid_set}
use Rattle.queue_bank.proofs.QueueBank.on_channel.Goals as goal

pub invariant_of-self : goal.invariant_of-self
invariant_of-self g c =
    let rows = c.args.self.now.rows in
    let cs = rows.channels in
    let i = c.in_ok-i.i in
    let s = c.index-self-i.result in
    let s' = c.call-answer.new.arg2 in
    let m = c.args.self.now.memory.now in
    let m' = c.call-answer.new.arg3 in
    let len : length cs ≡ 80 = rows.eighty in
    let same : length (set cs i s') ≡ length cs = length-set cs i s' in
    let did : Answers g.F.FnOnce c.args.call s m c.call-answer.result s' m' = record { channel = _; memory = _; channel_after = _; memory_after = _; shows = (sym c.index-self-i.is, refl); met = c.call-answer.ensures; leaves = (refl, refl) } in
    let base = c.requires.stays s m c.call-answer.result s' m' did in
    let at = index_is c.args.channel i (sym c.index_of.ensures ∙ c.in_ok-i.was) in
    let low = channel_low c.args.channel at.0 in
    let high = channel_high c.args.channel at.0 in
    let lt : i < length cs = omega arith in
    (same ∙ len, (laid_set cs i s' lt rows.laid (base ∙ ap (λ x. x.outgoing.base) c.index-self-i.is ∙ rows.laid i s lt), tt))

pub returns : goal.returns
returns g c =
    let cs = c.args.self.now.rows.channels in
    let i = c.in_ok-i.i in
    let n = c.args.channel in
    let s = c.index-self-i.result in
    let s' = c.call-answer.new.arg2 in
    let m = c.args.self.now.memory.now in
    let m' = c.call-answer.new.arg3 in
    let at = index_is n i (sym c.index_of.ensures ∙ c.in_ok-i.was) in
    let did : Answers g.F.FnOnce c.args.call s m c.call-answer.result s' m' = record { channel = _; memory = _; channel_after = _; memory_after = _; shows = (sym c.index-self-i.is, refl); met = c.call-answer.ensures; leaves = (refl, refl) } in
    let low = channel_low n at.0 in
    let high = channel_high n at.0 in
    let len : length cs ≡ 80 = c.args.self.now.rows.eighty in
    record {
      found = s;
      left = s';
      at = record { inside = at.0; here = slice_get_read cs 80 (n - 1) s (sym len) (omega arith) (c.index-self-i.is ∙ ap (λ j. get_or cs j s) at.1) };
      called = did;
      rows = ap (λ j. set cs j s') at.1;
    }
