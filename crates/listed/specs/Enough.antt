-- As many events are looked for as there are bytes, and more would print the same.
use Rattle.std.specs.Prelude.{ℕ, zero, suc, ◌+◌, ◌≤◌, ◌≡◌, refl, List, [], ◌++◌, cond, eqb, length, drop, Ok, Err}
use Rattle.std.proofs.Common.{sym, ap, arith, length-drop, eq-eqb}
use Rattle.wire.specs.Event.{next_event}
use Rattle.wire.specs.Question.{WholeRecord}
use Rattle.wire.specs.laws.Reader.{event_whole}
use Rattle.wire.specs.NextEvent.{NextEvent}
use Rattle.system.specs.declared.System.{System}
use Rattle.system.specs.Events.{apply_of}
use Rattle.listed.specs.Output.{Print, events_seen, events_from}

-- nothing is printed where no byte is left
pub events_end : (print : Print) (n : ℕ) (s : System) (position at : ℕ) (bytes : List ℕ) → length bytes ≡ 0
    → events_from print n s position at bytes ≡ []
unfolding events_from
events_end print zero s position at bytes e = refl
events_end print (suc n) s position at bytes e = rw (eq-eqb (length bytes) 0 e)

-- m turns print what n turns do, where both are enough
abbrev Enough : Print → ℕ → ℕ → Type 0
Enough print n m = (s : System) (position at : ℕ) (bytes : List ℕ) → length bytes ≤ n → length bytes ≤ m
    → events_from print n s position at bytes ≡ events_from print m s position at bytes

module _ (print : Print) (n m : ℕ) (rest : Enough print n m) (s : System) (position at : ℕ) (bytes : List ℕ)
    (a : length bytes ≤ suc n) (b : length bytes ≤ suc m) where
  seen_enough : (x : NextEvent) → next_event bytes ≡ x
      → events_seen print (events_from print n) s position at bytes x ≡ events_seen print (events_from print m) s position at bytes x
  seen_enough (Ok seen) f =
      let w : WholeRecord bytes 0 seen.next = event_whole bytes f in
      ap (λ (l : List ℕ). print position seen.found (apply_of s seen.found) ++ l)
      (rest (apply_of s seen.found).system (position + 1) (at + seen.next) (drop seen.next bytes)
      (simp length-drop (omega arith))
      (simp length-drop (omega arith)))
  seen_enough (Err refusal) f = refl

pub events_enough : (print : Print) (n m : ℕ) → Enough print n m
unfolding events_from
events_enough print zero m s position at bytes a b = sym (events_end print m s position at bytes (omega arith))
events_enough print (suc n) zero s position at bytes a b = events_end print (suc n) s position at bytes (omega arith)
events_enough print (suc n) (suc m) s position at bytes a b =
    ap (λ (l : List ℕ). cond (eqb (length bytes) 0) [] l)
    (seen_enough print n m (events_enough print n m) s position at bytes a b (next_event bytes) refl)
