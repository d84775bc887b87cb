-- What a result was before `map_err` gave m; Q is what its closure makes of an error.
use Rattle.std.proofs.Common.{◌≡◌, Result, Ok, Err, refl, sym, ◌∙◌}
use Rattle.std.specs.Result.{MatchResult, IsErrAnd}

pub record WasErr {T E D : Type 0} (r : Result T E) (Q : E → D → Type 0) (d : D) : Type 0 where
  pub error : E
  pub was : r ≡ Err error
  pub made : Q error d

module _ {T E D : Type 0} where
  pub was_err : (r : Result T E) (m : Result T D) (Q : E → D → Type 0) (d : D) → MatchResult r (λ x. m ≡ Ok x) (λ e. IsErrAnd m (Q e)) → m ≡ Err d
      → WasErr r Q d
  was_err (Ok x) m Q d h e = absurd (let z : Ok x ≡ Err d = sym h ∙ e in (cc))
  was_err (Err y) m Q d h e = record { error = y; was = refl; made = rw e at h }

  pub was_ok : (r : Result T E) (m : Result T D) (Q : E → D → Type 0) (x : T) → MatchResult r (λ x. m ≡ Ok x) (λ e. IsErrAnd m (Q e)) → m ≡ Ok x
      → r ≡ Ok x
  was_ok (Ok y) m Q x h e = let z : Ok y ≡ Ok x = sym h ∙ e in (cc)
  was_ok (Err y) m Q x h e = absurd (rw e at h)
