-- Each service of an owing core takes from that core's count, and adds to no other's.
use Rattle.std.specs.Prelude.{ℕ, ◌<◌, ◌≤◌, ◌≡◌}
use Rattle.lock.specs.declared.Lock.{Lock}
use Rattle.lock.specs.World.{World}
use Rattle.lock.specs.ServicesLeft.{services_left}

pub record Falls (W : World) (l : Lock) (c : ℕ) (r : Lock) : Type 0 where
  pub here : services_left W r c < services_left W l c
  pub there : (d : ℕ) → (d ≡ c → ⊥) → services_left W r d ≤ services_left W l d
