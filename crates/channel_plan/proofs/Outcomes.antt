-- What an answer tells of the outcome behind it.
use Rattle.std.proofs.Common.{◌≡◌, Ok, Err, Result, refl}
use Rattle.channel_plan.specs.Outcomes.{answer, left}

module _ {X E : Type 0} where
  pub ok_same : {x y : X} → ◌≡◌ {A = Result X E} (Ok x) (Ok y) → x ≡ y
  ok_same p = cc

  pub err_same : {e f : E} → ◌≡◌ {A = Result X E} (Err e) (Err f) → e ≡ f
  err_same p = cc

  pub was_ok : (o : Result X E) (old : X) → Ok tt ≡ answer o → o ≡ Ok (left o old)
  was_ok (Ok x) old p = refl
  was_ok (Err e) old p = cc

  pub was_err : (o : Result X E) (e : E) → Err e ≡ answer o → o ≡ Err e
  was_err (Ok x) e p = cc
  was_err (Err f) e p = cc
