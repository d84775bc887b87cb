-- `read_full` fills the buffer with the bytes that the reader gives: what a turn reads stands right after what the turns before it read.
use Rattle.std.proofs.Common.{rules, ◌≡◌, ℕ, ◌+◌, ◌-◌, ◌≤◌, List, ◌++◌, length, take, drop, sym, ap, ◌∙◌, subst, le_refl}
use Rattle.std.proofs.Common.{drop_at, take-add, length-take-le}
use Rattle.std.proofs.lemmas.Slice.{take-put_mid_below}
use Rattle.std.specs.Io.KnownBytes.{Consumes}
use Rattle.std.proofs.KnownBytes.{Consumes-trans}
use borrow.Rule.Slice.PartMut.{put_mid, post_of}
use Rattle.std.proofs.lemmas.List.{take-append-le}
use Rattle.input.proofs.read_full.Goals as goal

-- the first n of what is put at a place are the part from there on
put_part : (at room n : ℕ) (xs ys : List ℕ) → at ≤ length xs → n ≤ length ys → take n (drop at (put_mid at room xs ys)) ≡ take n ys
put_part at room n xs ys within fits =
    ap (take n) (drop_at (take at xs) (ys ++ post_of at room xs) at (length-take-le at xs within)) ∙ take-append-le n ys (post_of at room xs) fits

pub loop-n-preserved : goal.loop-n-preserved
loop-n-preserved g c =
    let at = c.loop-n.n in
    let n = c.in_ok-more.more in
    let room = length c.loop-n.buffer - at in
    let within = c.loop-n.invariant.0 in
    let read = c.in_ok-more.ensures in
    let front = take-put_mid_below _ _ _ _ _ (le_refl _) within in
    let part = put_part at room n c.loop-n.buffer c.read.new.buf within read.bound.0 in
    let joined : take at c.loop-n.buffer ++ take n c.read.new.buf ≡ take (at + n) (put_mid at room c.loop-n.buffer c.read.new.buf) =
    ap (λ (l : List ℕ). l ++ take n c.read.new.buf) (sym front)
    ∙ ap (λ (l : List ℕ). take at (put_mid at room c.loop-n.buffer c.read.new.buf) ++ l) (sym part)
    ∙ sym (take-add at n (put_mid at room c.loop-n.buffer c.read.new.buf)) in
    (search rules, subst (Consumes _ _) joined (Consumes-trans _ _ _ _ _ c.loop-n.invariant.1 read.bytes.0))
