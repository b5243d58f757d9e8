-- The cases of a script, and what it is to play them.
use Rattle.std.specs.Prelude.{◌≡◌, ◌≤◌, ℕ, Bool, cond, ◌==◌, ◌⊎◌, List, [], ◌∷◌, ◌++◌, codes, Ok, Result, IsErr, String, string_bytes, Vec, vec_capacity, vec_len}
use Rattle.std.specs.Fn.{CalledAt, Mut}
use Rattle.std.specs.List.{onto_first, starts_with}
use denote.Ref.{Bor}
use Rattle.frame.specs.declared.Mode.{Mode}
use Rattle.frame.specs.declared.Mode.TheVariants.{Synchronous, Justified}
use Rattle.script.specs.Words.{is_word, word_at}

-- a case begins at a line whose first word is `case`
unfoldable pub begins : {Z : Type 0} → String Z → Bool
begins line = is_word (word_at (string_bytes line) 0) (codes "case")

-- a named case begins at a line that starts with `case` and a space
unfoldable pub begins_named : {Z : Type 0} → String Z → Bool
begins_named line = starts_with (λ a b. a == b) (string_bytes line) (codes "case ")

-- where a case begins at each line of which `starts` holds
module _ {Z : Type 0} (starts : String Z → Bool) where
  -- a line in front of the cases of those after it
  abbrev pub before_by : String Z → List (String Z) → List (List (String Z)) → List (List (String Z))
  before_by line [] cs = (line ∷ []) ∷ []
  before_by line (next ∷ lines) cs = cond (starts next) ((line ∷ []) ∷ cs) (onto_first line cs)

  -- the first case begins at the first line
  abbrev pub cases_by : List (String Z) → List (List (String Z))
  cases_by [] = []
  cases_by (line ∷ lines) = before_by line lines (cases_by lines)

module _ {Z : Type 0} where
  -- where a case begins at the word `case`
  abbrev pub before : String Z → List (String Z) → List (List (String Z)) → List (List (String Z))
  before line lines cs = before_by begins line lines cs

  abbrev pub cases : List (String Z) → List (List (String Z))
  cases lines = cases_by begins lines

  -- the mode of a case whose first line is `case NAME MODE ..`
  abbrev pub mode_of : List (String Z) → Mode
  mode_of [] = Synchronous
  mode_of (line ∷ lines) = cond (is_word (word_at (string_bytes line) 2) (codes "justified")) Justified Synchronous

  -- where a case begins at `case` and a space
  abbrev pub named_cases : List (String Z) → List (List (String Z))
  named_cases lines = cases_by begins_named lines

  -- the cases that end with the lines where the next line comes: all where a named case begins at it, else none
  abbrev pub ended : List (String Z) → String Z → List (List (String Z))
  ended lines line = cond (begins_named line) (named_cases lines) []

  -- the lines of the case that it belongs to
  abbrev pub kept : List (String Z) → String Z → List (String Z)
  kept lines line = cond (begins_named line) [] lines

  -- whatever comes after the line, a script may be cut there: its cases are those that end, and then those of the lines kept and what comes
  abbrev pub Cut : List (String Z) → String Z → Type 0
  Cut lines line = (after : List (String Z)) → named_cases (lines ++ line ∷ after) ≡ ended lines line ++ named_cases (kept lines line ++ line ∷ after)

  -- the bytes of the first line, if there is one
  abbrev pub first_line : List (String Z) → List ℕ
  first_line [] = []
  first_line (line ∷ lines) = string_bytes line

-- the text ends with the bytes
abbrev pub EndsWith : List ℕ → List ℕ → Type 0
EndsWith text bytes = (front : List ℕ) × (text ≡ front ++ bytes)

-- the mode is justified just where it holds
abbrev pub JustifiedWhere : Type 0 → Mode → Type 0
JustifiedWhere P Justified = P
JustifiedWhere P Synchronous = ¬ P

-- it was called at each of the cases in turn, up to the first that it refused, whose error is the answer
module _ {F C E : Type 0} (g : Mut F (Bor C × Unit {0}) (Result Unit E)) where
  abbrev pub Plays : F → List C → Result Unit E → Type 0
  Plays f [] r = r ≡ Ok tt
  Plays f (c ∷ cs) r = (f' : F) × ((CalledAt g f c (Ok tt) f' × Plays f' cs r) ⊎ (IsErr r × CalledAt g f c r f'))

-- a line was not taken: a case that ended was refused, and all is left; or none was, and there was no room for the line
module _ {F Z A E : Type 0} (g : Mut F (Bor (List (String Z)) × Unit {0}) (Result Unit E)) where
  abbrev pub NotTaken : F → Vec (String Z) A → String Z → Vec (String Z) A → Result Unit E → Type 0
  NotTaken f old line new r =
      (Plays g f (ended old.items line) r × (new ≡ old))
      ⊎ (Plays g f (ended old.items line) (Ok tt) × (new.items ≡ kept old.items line) × (vec_capacity old ≤ vec_len new))
