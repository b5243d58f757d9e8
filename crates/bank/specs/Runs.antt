-- A list of calls on one channel: the account that it leaves, and the envelopes that pass.
use Rattle.std.specs.Prelude.{ℕ, cond, List, [], ◌∷◌, ◌++◌}
use Rattle.std.specs.Option.{option_to_list}
use Rattle.bank.specs.declared.Envelope.{Envelope}
use Rattle.bank.specs.Meaning.{Meaning}

pub data Call : Type 0 where
  Offer : Envelope → Call
  Collect : Call
  Take : Call
  Give : Envelope → Call

module _ (m : Meaning) (n : ℕ) where
  abbrev pub after_call : List ℕ → Call → List ℕ
  after_call a (Offer e) = (m.offered n a e).1
  after_call a Collect = (m.collected n a).1
  after_call a Take = (m.taken n a).1
  after_call a (Give e) = m.given n a e

  -- the account after a list of calls
  unfoldable pub after_calls : List ℕ → List Call → List ℕ
  after_calls a [] = a
  after_calls a (c ∷ cs) = after_calls (after_call a c) cs

  -- the envelopes that `of` tells of each call, in order
  unfoldable pub passed : (List ℕ → Call → List Envelope) → List ℕ → List Call → List Envelope
  passed of a [] = []
  passed of a (c ∷ cs) = of a c ++ passed of (after_call a c) cs

  -- an envelope offered that was answered yes
  abbrev pub accepted_by : List ℕ → Call → List Envelope
  accepted_by a (Offer e) = cond (m.offered n a e).0 (e ∷ []) []
  accepted_by a Collect = []
  accepted_by a Take = []
  accepted_by a (Give e) = []

  -- an envelope that take answered
  abbrev pub taken_by : List ℕ → Call → List Envelope
  taken_by a (Offer e) = []
  taken_by a Collect = []
  taken_by a Take = option_to_list (m.taken n a).0
  taken_by a (Give e) = []

  -- an envelope that give handed in
  abbrev pub given_by : List ℕ → Call → List Envelope
  given_by a (Offer e) = []
  given_by a Collect = []
  given_by a Take = []
  given_by a (Give e) = e ∷ []

  -- an envelope that collect answered
  abbrev pub collected_by : List ℕ → Call → List Envelope
  collected_by a (Offer e) = []
  collected_by a Collect = option_to_list (m.collected n a).0
  collected_by a Take = []
  collected_by a (Give e) = []
