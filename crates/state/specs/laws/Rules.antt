-- The tests of the threads' states and of the kept counts say just what `StatesOk` and `CountsOk` do; and what keeps each.
use Rattle.std.specs.Prelude.{ℕ, ◌≤◌, ◌<◌, true, ◌≡◌, List, length, set, replicate}
use Rattle.std.proofs.Common.{◌∙◌, ⊎_elim, arith}
use Rattle.lists.specs.laws.Bounded.{bounded, make_bounded, bounded_none, bounded_set}
use Rattle.table.specs.Numbers.{finished, waiting, max_cores, max_threads}
use Rattle.state.specs.Allowance.{max_traffic, sum_of}
use Rattle.state.specs.Rules.{state_ok, states_ok, count_ok, counts_ok, StatesOk, CountsOk}
use Rattle.state.specs.Threads.{readied}
use Rattle.state.specs.laws.Threads.{readied_past, readied_or}

-- ---- the threads' states

module _ (n : ℕ) (state : List ℕ) where
  pub states_ok_lem : length state ≡ max_threads → states_ok n state ≡ true → StatesOk n state
  unfolding states_ok state_ok
  states_ok_lem room e = bounded n waiting state max_threads room e

  pub ok_states : StatesOk n state → states_ok n state ≡ true
  unfolding states_ok state_ok
  ok_states w = make_bounded n waiting state max_threads w

-- at first every thread is finished
pub states_none : (n : ℕ) → StatesOk n (replicate max_threads finished)
states_none n = bounded_none n waiting max_threads

pub states_set : {n : ℕ} {state : List ℕ} (t v : ℕ) → StatesOk n state → t < n → t < length state → v ≤ waiting → StatesOk n (set state t v)
states_set t v w l k h = bounded_set t v w l k h

-- a gang's threads become ready
pub states_readied : {n : ℕ} {state : List ℕ} (gang : List ℕ) (g : ℕ) → StatesOk n state → StatesOk n (readied gang g n state)
states_readied {n} {state} gang g w = record {
  used = λ t l. ⊎_elim (λ e. omega arith) (λ e. let o = w.used t l in omega arith) (readied_or gang g n state t);
  unused = λ t l. readied_past gang g n state t l ∙ w.unused t l;
}

-- ---- the kept counts

module _ (n : ℕ) (kept : List ℕ) where
  pub counts_ok_lem : length kept ≡ max_cores → counts_ok n kept ≡ true → CountsOk n kept
  unfolding counts_ok count_ok
  counts_ok_lem room e = bounded n max_traffic kept max_cores room e

  pub ok_counts : CountsOk n kept → counts_ok n kept ≡ true
  unfolding counts_ok count_ok
  ok_counts w = make_bounded n max_traffic kept max_cores w

-- at first, and at each TICK, every count is zero
pub counts_none : (n : ℕ) → CountsOk n (replicate max_cores 0)
counts_none n = bounded_none n max_traffic max_cores

-- a count is kept at 1,000,000 at most
sum_fits : (k m : ℕ) → sum_of k m ≤ max_traffic
unfolding sum_of
sum_fits k m = omega arith

pub counts_set : {n : ℕ} {kept : List ℕ} (c k m : ℕ) → CountsOk n kept → c < n → c < length kept → CountsOk n (set kept c (sum_of k m))
counts_set c k m w l i = bounded_set c (sum_of k m) w l i (sum_fits k m)
