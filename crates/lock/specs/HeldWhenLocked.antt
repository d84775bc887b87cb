-- Document 01: "the lock is held exactly when some core is locked".
use Rattle.std.specs.Prelude.{◌≡◌}
use Rattle.lock.specs.declared.Lock.{Lock}

pub record HeldWhenLocked (l : Lock) : Type 0 where
  pub free : l.holder ≡ 255 → l.locked ≡ 0
  pub busy : l.locked ≡ 0 → l.holder ≡ 255
