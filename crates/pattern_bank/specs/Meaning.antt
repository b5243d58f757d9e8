-- What the pattern bank answers and leaves, and that it shows the law of banks.
use Rattle.std.specs.Prelude.{ℕ, true, List, [], ◌∷◌, ◌++◌, take, drop, Some, slice_index, refl}
use Rattle.std.proofs.lemmas.Bool.{true≢false}
use Rattle.bank.specs.Meaning.{Meaning, Laws}
use Rattle.bank.specs.Channels.{Each, on_channels, lawful}
use Rattle.pattern_bank.specs.Register.{octet_from}
use Rattle.pattern_bank.specs.Pattern.{Pattern, fresh, marked, take_from, give_to}

-- the nine stages of the sending register, the nine of the other, and the count
unfoldable pub as_account : Pattern → List ℕ
as_account p = p.sending ++ (p.comparing ++ p.wrong ∷ [])

unfoldable pub as_pattern : List ℕ → Pattern
as_pattern a = record { sending = take 9 a; comparing = take 9 (drop 9 a); wrong = slice_index a 18 }

abbrev pub pattern_each : Each
pattern_each = record {
  offered = λ a e. (true, as_account fresh);
  collected = λ a. (Some (marked (as_pattern a).wrong), a);
  taken = λ a. (Some (marked (octet_from (as_pattern a).sending).0), as_account (take_from (as_pattern a)));
  given = λ a e. as_account (give_to (as_pattern a) e);
}

abbrev pub pattern_meaning : Meaning
pattern_meaning = on_channels pattern_each

pub pattern_laws : Laws pattern_meaning
pattern_laws = lawful pattern_each (λ a e yes. absurd (true≢false yes)) (λ a _. refl)
