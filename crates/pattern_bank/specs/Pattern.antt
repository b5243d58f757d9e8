-- The two registers of a channel and its count of wrong envelopes, and what the calls do to them.
use Rattle.std.specs.Prelude.{ℕ, ◌+◌, min, true, cond, ◌&&◌, List, ◌==◌}
use Rattle.bank.specs.declared.Envelope.{Envelope}
use Rattle.pattern_bank.specs.Register.{all_ones, octet_from}

-- take reads the sending register, and give compares with the other
pub record Pattern : Type 0 where
  pub sending : List ℕ
  pub comparing : List ℕ
  pub wrong : ℕ

abbrev pub fresh : Pattern
fresh = record { sending = all_ones; comparing = all_ones; wrong = 0 }

-- an octet with S = 1
abbrev pub marked : ℕ → Envelope
marked o = record { status = true; octet = o }

-- one more is wrong unless it is S = 1 and the octet expected; the count stays at 255
abbrev pub wrong_after : Envelope → ℕ → ℕ → ℕ
wrong_after e expected wrong = cond (e.status && e.octet == expected) wrong (min 255 (wrong + 1))

abbrev pub take_from : Pattern → Pattern
take_from p = record { sending = (octet_from p.sending).1; comparing = p.comparing; wrong = p.wrong }

abbrev pub give_to : Pattern → Envelope → Pattern
give_to p e = record {
  sending = p.sending;
  comparing = (octet_from p.comparing).1;
  wrong = wrong_after e (octet_from p.comparing).0 p.wrong;
}
