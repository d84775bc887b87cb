-- What a line's function promises of the bytes that it is lent.
use Rattle.std.specs.Prelude.{ℕ, ◌≤◌, ◌≡◌, List, length, take}
use Rattle.std.proofs.Common.{sym, ◌∙◌}
use Rattle.lines.specs.Put.{place}

-- bs at the start, r bytes, with the bytes past them untouched; fits and part are what &out[..r] asks
pub record Shown (bs before after : List ℕ) (r : ℕ) : Type 0 where
  pub count : r ≡ length bs
  pub text : after ≡ place before 0 bs
  pub fits : r ≤ length after
  pub part : r ≡ length (take r after)

-- so the promise allows one length and one text
pub one_shown : (bs before : List ℕ) {x y : List ℕ} {r q : ℕ} → Shown bs before x r → Shown bs before y q → (r ≡ q) × (x ≡ y)
one_shown bs before p q = (p.count ∙ sym q.count, p.text ∙ sym q.text)
