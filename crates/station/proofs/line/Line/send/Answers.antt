use Rattle.std.proofs.Common.{◌≡◌, ◌++◌, drop, take, sym, ap, ◌∙◌, rules}
use Rattle.std.proofs.lemmas.Bool.{le-ltb}
use Rattle.std.proofs.lemmas.List.{take_at}
use Rattle.std.proofs.lemmas.List.FromFn.{length-map-range_with_len}
use Rattle.channel_plan.specs.Tables.{owner_of}
use Rattle.frame.specs.declared.content.Content.{Content}
use Rattle.frame.specs.Frames.{frame, frame_bit}
use Rattle.frame.specs.Modes.{frame_length}
use Rattle.station.specs.Frames.{next_check, sent_frame}
use Rattle.station.specs.Sending.{content_of}
use Rattle.station.proofs.line.Line.send.Goals as goal

pub returns : goal.returns
unfolding sent_frame frame
returns g c =
    let m = g.B.Bank.meaning in
    let owner = owner_of c.args.plan.now.table in
    let f = g.B.Bank.account c.args.bank.now in
    let l = c.args.self.now in
    let j = c.args.justification in
    let old = c.args.buffer.now in
    let new = c.fill.new.buffer in
    let sent = sent_frame m owner f l j in
    let content : Content = record { blocked = c.is_blocked-blocked.result; check = l.check; justification = j; words = c.send_words-words.result } in
    let is : content ≡ content_of m owner f l j = λ i. record { blocked = c.is_blocked-blocked.ensures i; check = l.check; justification = j; words = c.send_words-words.ensures.words i } in
    let put : new ≡ sent ++ drop (frame_length j) old = rw (is, le-ltb _ 2561 c.requires) at c.fill.ensures.buffer in
    let size : c.unwrap-length.result ≡ frame_length j = search rules in
    let front : take c.unwrap-length.result new ≡ sent = rw put (take_at sent (drop (frame_length j) old) _ (length-map-range_with_len (frame_bit l.mode (content_of m owner f l j)) 0 (frame_length j) ∙ sym size)) in
    let left = c.send_words-words.ensures.line in
    let check = c.next_check-self.ensures ∙ ap (next_check l.mode) front in
    record {
      answer = size;
      buffer = put;
      bytes = c.send_words-words.ensures.bytes;
      line = λ i. record { mode = (left i).mode; number = (left i).number; check = check i; records = (left i).records; receiver = (left i).receiver };
      accounts = c.send_words-words.ensures.accounts;
    }
