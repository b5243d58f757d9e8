-- What the iterator over the lines of a text gives.
use Rattle.std.specs.Prelude.{◌≡◌, ℕ, ◌+◌, List, length, Some, None, Option}
use Rattle.channel_plan.specs.declared.lines.Line.{Line}
use Rattle.channel_plan.specs.declared.lines.Lines.{Lines}
use Rattle.plan_text.specs.Pieces.{Split, Without}

-- the text is left, from the line of this number on, which begins at this byte
pub record From (text : List ℕ) (number byte : ℕ) (s : Lines) : Type 0 where
  pub left : s.rest.now ≡ text
  pub line : s.number ≡ number
  pub start : s.byte ≡ byte

-- a line, and what is left behind it
pub record Next (s : Lines) (l : Line) (t : Lines) : Type 0 where
  pub cut : Split 10 s.rest.now l.text.now t.rest.now
  pub number : l.number ≡ s.number
  pub byte : l.byte ≡ s.byte
  pub number_after : t.number ≡ s.number + 1
  pub byte_after : t.byte ≡ s.byte + (length l.text.now + 1)

-- a call gives the next line, if there is one
abbrev pub GaveLine : Lines → Option Line → Lines → Type 0
GaveLine s None t = Without 10 s.rest.now
GaveLine s (Some l) t = Next s l t
