-- A text in pieces: the lines that a byte ends, the fields that a byte separates.
use Rattle.std.specs.Prelude.{◌≡◌, ℕ, ◌<◌, cond, List, [], ◌∷◌, ◌++◌, length, Some, None, Option, ◌==◌, ◌≢◌, slice_index}

-- a byte more in front of the first piece; where nothing ends the text there is no piece
abbrev pub longer : ℕ → List (List ℕ) → List (List ℕ)
longer b [] = []
longer b (p ∷ ps) = (b ∷ p) ∷ ps

-- the pieces before each separator, with those of an empty text at the end
abbrev pub cut : ℕ → List (List ℕ) → List ℕ → List (List ℕ)
cut sep end [] = end
cut sep end (b ∷ bs) = cond (b == sep) ([] ∷ cut sep end bs) (longer b (cut sep end bs))

-- the lines of a text, each ended by byte 10
abbrev pub lines : List ℕ → List (List ℕ)
lines text = cut 10 [] text

-- the fields of a line, separated by commas: an empty line has one
abbrev pub fields : List ℕ → List (List ℕ)
fields line = cut 44 ([] ∷ []) line

-- the byte does not stand in the text
abbrev pub Without : ℕ → List ℕ → Type 0
Without sep text = (k : ℕ) → k < length text → slice_index text k ≢ sep

-- the text before the first separator, and the text after it
pub record Split (sep : ℕ) (text before after : List ℕ) : Type 0 where
  pub whole : text ≡ before ++ (sep ∷ after)
  pub first : Without sep before

-- three pieces and no more
abbrev pub Three : Type 0
Three = List ℕ × List ℕ × List ℕ

abbrev pub three : List (List ℕ) → Option Three
three [] = None
three (a ∷ []) = None
three (a ∷ b ∷ []) = None
three (a ∷ b ∷ c ∷ []) = Some (a, b, c)
three (a ∷ b ∷ c ∷ d ∷ ps) = None
