-- Bytes put one after the other are put together.
use Rattle.std.specs.Prelude.{ℕ, suc, ◌+◌, ◌≤◌, ◌<◌, ◌≡◌, refl, List, [], ◌∷◌, ◌++◌, length, get_or, take, drop, set}
use Rattle.std.proofs.Common.{sym, ap, ◌∙◌, append_assoc, length-append, length-drop, length-take, take-append-drop, drop-drop, take_at, drop_at}
use Rattle.std.proofs.Common.{drop-cons, arith, add-zero, add_assoc}
use Rattle.std.proofs.lemmas.List.{set_at}
use Rattle.lines.specs.Put.{place, Put}

-- nothing put changes nothing
pub place_none : (o : List ℕ) (at : ℕ) → place o at [] ≡ o
unfolding place
place_none o at = rw (add-zero, take-append-drop)

-- one byte is stored
pub place_one : (o : List ℕ) (at v : ℕ) → at < length o → set o at v ≡ place o at (v ∷ [])
unfolding place
place_one o at v h =
    let l : length (take at o) ≡ at = simp length-take (omega arith) in
    let e : at + 1 ≡ suc at = omega arith in
    rw (e, ← set_at (take at o) (get_or o at 0) (drop (suc at) o) v at l, ← drop-cons o at 0 h, take-append-drop)

-- up to its end, a place holds what came before it and then what was put
pub take_placed : (o : List ℕ) (at : ℕ) (bs : List ℕ) → at ≤ length o → take (at + length bs) (place o at bs) ≡ take at o ++ bs
unfolding place
take_placed o at bs h =
    let l : length (take at o ++ bs) ≡ at + length bs = simp (length-append, length-take) (omega arith) in
    rw (← append_assoc (take at o) bs (drop (at + length bs) o)) (take_at (take at o ++ bs) (drop (at + length bs) o) (at + length bs) l)

-- past its end, nothing changes
pub drop_placed : (o : List ℕ) (at : ℕ) (bs : List ℕ) → at ≤ length o → drop (at + length bs) (place o at bs) ≡ drop (at + length bs) o
unfolding place
drop_placed o at bs h =
    let l : length (take at o ++ bs) ≡ at + length bs = simp (length-append, length-take) (omega arith) in
    rw (← append_assoc (take at o) bs (drop (at + length bs) o)) (drop_at (take at o ++ bs) (drop (at + length bs) o) (at + length bs) l)

-- what is put right after bs is put with them
pub place_place : (o : List ℕ) (at : ℕ) (bs ds : List ℕ) → at ≤ length o
    → place (place o at bs) (at + length bs) ds ≡ place o at (bs ++ ds)
unfolding place
place_place o at bs ds h =
    let k = at + length bs in
    let past : drop (k + length ds) (place o at bs) ≡ drop (k + length ds) o =
    rw (← drop-drop (length ds) k (place o at bs), drop_placed o at bs h) (drop-drop (length ds) k o) in
    rw (take_placed o at bs h, past, length-append bs ds, add_assoc) (simp append_assoc)

-- no byte comes or goes
pub length_place : (o : List ℕ) (at : ℕ) (bs : List ℕ) → at + length bs ≤ length o → length (place o at bs) ≡ length o
unfolding place
length_place o at bs h = simp (length-append, length-take, length-drop) (omega arith)

-- nothing is put
pub put_none : (o : List ℕ) (at : ℕ) → Put [] 0 o o at at
put_none o at = record { count = omega arith; bound = omega arith; text = sym (place_none o at) }

-- a store puts one byte
pub put_byte : (o : List ℕ) (at v : ℕ) → at < length o → Put (v ∷ []) 1 o (set o at v) at (at + 1)
put_byte o at v h = record { count = refl; bound = omega arith; text = place_one o at v h }

-- the length is the same before and after
pub put_length : {bs before after : List ℕ} {most at next : ℕ}
    → Put bs most before after at next → at + most ≤ length before → length after ≡ length before
put_length {bs} {before} {after} {most} {at} {next} p h =
    ap length p.text ∙ length_place before at bs (omega (arith, p.count, p.bound))

-- bs, and ds from where they end, are bs and ds
pub put_put : {bs ds first second third : List ℕ} {most more at next end : ℕ}
    → Put bs most first second at next → Put ds more second third next end → at + (most + more) ≤ length first
    → Put (bs ++ ds) (most + more) first third at end
put_put {bs} {ds} {first} {second} {third} {most} {more} {at} {next} {end} p q h =
    record {
      count = rw length-append (omega (arith, p.count, q.count));
      bound = omega (arith, p.bound, q.bound);
      text =
          q.text
          ∙ rw (p.text, p.count) (place_place first at bs ds (omega (arith, p.count, p.bound, q.count, q.bound)));
    }

-- the same bytes under another name, and a wider bound
pub put_as : {bs cs before after : List ℕ} {most more at next : ℕ}
    → Put bs most before after at next → bs ≡ cs → most ≤ more → Put cs more before after at next
put_as {bs} {cs} {before} {after} {most} {more} {at} {next} p e h =
    record { count = rw e at p.count; bound = omega (arith, p.bound); text = rw e at p.text }
