-- The kept count "is kept as the smaller of 1,000,000 and the true sum since the last TICK, which changes no stop": at every reached state,
-- against the history of the way to it.
use Rattle.std.specs.Prelude.{ℕ, ◌+◌, min, Bool, ◌≡◌, refl, List, [], ◌∷◌, ◌++◌}
use Rattle.std.proofs.Math.Path.{ap}
use Rattle.std.proofs.Common.{◌∙◌}
use Rattle.std.proofs.lemmas.Bool.{eq-eqb}
use Rattle.lists.specs.laws.Lists.{same_throughout}
use Rattle.table.specs.declared.Table.{Table}
use Rattle.table.specs.Numbers.{max_cores}
use Rattle.wire.specs.declared.answer.Answer.TheVariants.{Counted}
use Rattle.wire.specs.declared.event.Event.{Event}
use Rattle.wire.specs.declared.event.Event.TheVariants as event
use Rattle.system.specs.System.{fresh_system, kept_in}
use Rattle.system.specs.Stop.{stopped}
use Rattle.system.specs.Events.{step_of}
use Rattle.effects.specs.WellFormedLaws.{formed_well}
use Rattle.effects.specs.Applied.{apply_well}
use Rattle.effects.specs.Run.{system_after, history_by}
use Rattle.reached.specs.Reached.{Accepted, after}
use Rattle.reached.specs.History.{entry_of, history}
use Rattle.reached.specs.laws.Runs.{start_shaped, start_formed, run_formed, after_append, entry_next}
use Rattle.reached.specs.TrueSum.{true_sum, truly_stopped}
use Rattle.reached.proofs.Sums.{sum_is, sum_after, run_keeps, stops_alike, counted_tells}
use Rattle.reached.specs.Allowed.{traffic_after}

-- ---- core c at the state that some events lead to from an accepted table, against their history

module _ (b : Table) (a : Accepted b) (c : ℕ) where
  -- "kept as the smaller of 1,000,000 and the true sum since the last TICK"
  pub kept_is : (es : List Event) → kept_in (after (fresh_system b) es) c ≡ min 1000000 (true_sum c (history (fresh_system b) es))
  kept_is es =
      rw (sum_is c (history (fresh_system b) es)) at
      (run_keeps c (fresh_system b) (start_shaped b a) (start_formed b a) 0 (same_throughout max_cores c 0) es)

  -- ", which changes no stop": stopped by the kept count exactly where by the true sum
  pub same_stops : (es : List Event)
      → stopped (after (fresh_system b) es) c ≡ truly_stopped (after (fresh_system b) es) (history (fresh_system b) es) c
  same_stops es = stops_alike (after (fresh_system b) es) (run_formed b a es) c (history (fresh_system b) es) (kept_is es)

  -- an accepted TRAFFIC: its answer's value and number are by the true sum after it
  pub traffic_tells : (before : List Event) (n : ℕ) (stop : Bool) (count : ℕ) → traffic_after b before c n ≡ Counted stop count
      → (stop ≡ truly_stopped (after (fresh_system b) (before ++ (event.Traffic c n ∷ [])))
      (history (fresh_system b) (before ++ (event.Traffic c n ∷ []))) c)
      × (count ≡ min 1000000 (true_sum c (history (fresh_system b) (before ++ (event.Traffic c n ∷ [])))))
  unfolding system_after
  traffic_tells before n stop count q =
      let told = counted_tells (after (fresh_system b) before) (run_formed b a before) c n stop count q in
      let then = after_append (fresh_system b) before (event.Traffic c n ∷ []) in
      (told.0 ∙ rw (← then) (same_stops (before ++ (event.Traffic c n ∷ []))), told.1 ∙ rw (← then) (kept_is (before ++ (event.Traffic c n ∷ []))))

  -- "the core's count for the interval grows"
  pub traffic_adds : (before : List Event) (n : ℕ) (stop : Bool) (count : ℕ) → traffic_after b before c n ≡ Counted stop count
      → true_sum c (history (fresh_system b) (before ++ (event.Traffic c n ∷ []))) ≡ true_sum c (history (fresh_system b) before) + n
  unfolding history_by
  traffic_adds before n stop count q =
      ap (true_sum c) (entry_next (fresh_system b) before (event.Traffic c n) [])
      ∙ sum_after c (history (fresh_system b) before) (entry_of (after (fresh_system b) before) (event.Traffic c n))
      ∙ rw (q, eq-eqb c c refl)

  -- TICK: "all counts become 0"
  pub tick_clears : (before : List Event) → true_sum c (history (fresh_system b) (before ++ (event.Tick ∷ []))) ≡ 0
  unfolding history_by step_of
  tick_clears before =
      ap (true_sum c) (entry_next (fresh_system b) before event.Tick [])
      ∙ sum_after c (history (fresh_system b) before) (entry_of (after (fresh_system b) before) event.Tick)
      ∙ rw (apply_well (after (fresh_system b) before) event.Tick (formed_well (after (fresh_system b) before) (run_formed b a before)))
