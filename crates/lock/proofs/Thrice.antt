-- While only owing cores are served, no core is served more than three times, and every order that ends rests in one state.
use Rattle.std.specs.Prelude.{ℕ, suc, ◌+◌, ◌<◌, ◌≤◌, Bool, true, false, cond, ◌≡◌, refl, List, eqb}
use Rattle.std.proofs.Common.{arith, eqb-true}
use Rattle.std.proofs.lemmas.Bool.{eqb-false}
use Rattle.lock.specs.declared.Lock.{Lock}
use Rattle.lock.specs.World.{World, serve}
use Rattle.lock.specs.Good.{Good}
use Rattle.lock.proofs.GoodKept.{good_serve}
use Rattle.lock.specs.laws.AtRest.{AtRest, rest_unique}
use Rattle.lock.specs.ServicesLeft.{services_left}
use Rattle.lock.specs.laws.ServicesLeft.{services_left_le}
use Rattle.lock.specs.Falls.{Falls}
use Rattle.lock.proofs.Falls.{falls}
use Rattle.lock.specs.Times.{times}
use Rattle.lock.specs.laws.Thrice.{Serving, serving_done, serving_then}

good_serving : (W : World) {l r : Lock} {cs : List ℕ} → Good W l → Serving W l cs r → Good W r
good_serving W G serving_done = G
good_serving W {l = l} G (serving_then {c = c} h o s) = good_serving W (good_serve W l c h G) s

-- each service is paid for by the core's count
counted : (W : World) {l r : Lock} {cs : List ℕ} → Good W l → Serving W l cs r → (d : ℕ)
    → times d cs + services_left W r d ≤ services_left W l d
unfolding times
counted W G serving_done d = omega arith
counted W {l = l} {r = r} G (serving_then {c = c} {cs = cs} h o s) d =
    go (eqb d c) refl (counted W (good_serve W l c h G) s d) (falls W l c G o)
  where
    go : (x : Bool) → eqb d c ≡ x → times d cs + services_left W r d ≤ services_left W (serve W l c) d → Falls W l c (serve W l c)
        → cond x (suc (times d cs)) (times d cs) + services_left W r d ≤ services_left W l d
    go true e i F = let f : services_left W (serve W l c) d < services_left W l d = rw (eqb-true d c e) F.here in omega arith
    go false e i F = let f : services_left W (serve W l c) d ≤ services_left W l d = F.there d (eqb-false d c e) in omega arith

pub thrice : (W : World) {l r : Lock} {cs : List ℕ} → Good W l → Serving W l cs r → (d : ℕ) → times d cs ≤ 3
thrice W {l = l} G s d = let h = counted W G s d in let k : services_left W l d ≤ 3 = services_left_le W l d in omega (arith, h)

pub one_lock : (W : World) {l r r' : Lock} {cs cs' : List ℕ} → Good W l → Serving W l cs r → Serving W l cs' r'
    → r.owing ≡ 0 → r'.owing ≡ 0 → r ≡ r'
one_lock W {r = r} {r' = r'} G s s' e e' = rest_unique W r r' (rests G s e) (rests G s' e')
  where
    rests : {l r : Lock} {cs : List ℕ} → Good W l → Serving W l cs r → r.owing ≡ 0 → AtRest W r
    rests G s e = record { good = good_serving W G s; none_owes = e }
