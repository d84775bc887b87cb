-- Words put into a part of the bytes: that part is theirs, and the rest is as it was.
use Rattle.std.specs.Prelude.{ℕ, ◌+◌, ◌-◌, ◌≤◌, ◌≡◌, List, length, take, drop, min}
use Rattle.std.proofs.Common.{sym, ◌∙◌, arith, append_assoc, take-append-drop, length-take}
use Rattle.std.proofs.lemmas.List.{take_min}
use Rattle.std.proofs.lemmas.Slice.{take-put_mid, drop-put_mid}
use borrow.Rule.Slice.PartMut.{put_mid}
use Rattle.lines.specs.Put.{place, Put}

pub part_put : (o words : List ℕ) (at k : ℕ) → at + k ≤ length o → length words ≡ k → put_mid at k o words ≡ place o at words
unfolding place
part_put o words at k h e =
    let front = take-put_mid at k o words (at + k) (omega arith) (omega arith) in
    let back = drop-put_mid at k o words (at + k) (omega arith) (omega arith) e in
    sym (take-append-drop (at + k) (put_mid at k o words)) ∙ rw (front, back, e) (append_assoc (take at o) words (drop (at + k) o))

pub words_put : (o words copied : List ℕ) (at most n : ℕ) → n ≡ min most (length words) → at + most ≤ length o → copied ≡ take n words
    → Put (take most words) most o (put_mid at (at + n - at) o copied) at (at + n)
words_put o words copied at most n e h c =
    let same : take n words ≡ take most words = rw e (take_min most words) in
    let l : length (take most words) ≡ n = simp length-take (omega arith) in
    let k : at + n - at ≡ n = omega arith in
    record {
      count = omega arith;
      bound = omega arith;
      text = rw (k, c, same) (part_put o (take most words) at n (omega arith) l);
    }
