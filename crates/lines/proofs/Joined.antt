-- The fields of a line, each put where the one before it ends, are the line:
-- of the 80 bytes that it is lent an event's takes 58 with all the places, a message 79, a thread's all.
use Rattle.std.specs.Prelude.{ℕ, ◌+◌, ◌≤◌, ◌<◌, ◌≡◌, true, List, [], ◌∷◌, ◌++◌, length, set, take}
use Rattle.std.proofs.Common.{sym, subst, ◌∙◌, append_assoc, arith, zero-add}
use Rattle.std.proofs.lemmas.List.{length-take-le}
use Rattle.lines.specs.Chars.{line_feed, ten, places8, places16, places32, hex_places, room, most_words}
use Rattle.lines.specs.Put.{Put}
use Rattle.lines.specs.laws.Put.{put_byte, put_put, put_length}
use Rattle.lines.specs.Listing.{decimal_of, hex_of, holder_of, line_of}
use Rattle.lines.specs.Message.{words_line_of, refusal_at, refusal_line_of}
use Rattle.lines.specs.Number.{numeral}
use Rattle.lines.specs.Text.{bytes_in}
use Rattle.lines.specs.ThreadLine.{which_of, thread_line_of}
use Rattle.lines.specs.Shown.{Shown}
use Rattle.lines.specs.declared.Line.{Line}

-- a line feed at the end, where there is a place for it
ended : {bs o s : List ℕ} {most r : ℕ} → Put bs most o s 0 r → most < length o → Shown (bs ++ (line_feed ∷ [])) o (set s r line_feed) (r + 1)
ended {s = s} {r = r} q n =
    let l = put_length q (omega arith) in
    let e = put_put q (put_byte s r line_feed (omega (arith, q.bound))) (omega arith) in
    let k = put_length e (omega arith) in
    let h : r + 1 ≤ length (set s r line_feed) = omega (arith, e.bound) in
    record { count = e.count ∙ zero-add _; text = e.text; fits = h; part = sym (length-take-le _ _ h) }

pub joined : (line : Line) {o s1 s2 s3 s4 s5 s6 s7 s8 : List ℕ} {r1 r2 r3 r4 r5 r6 r7 r8 : ℕ} →
    length o ≡ room →
    Put (decimal_of places32 line.position) (places32 + 1) o s1 0 r1 →
    Put (decimal_of places16 line.kind) (places16 + 1) s1 s2 r1 r2 →
    Put (decimal_of places8 line.refusal) (places8 + 1) s2 s3 r2 r3 →
    Put (decimal_of places8 line.value) (places8 + 1) s3 s4 r3 r4 →
    Put (decimal_of places32 line.number) (places32 + 1) s4 s5 r4 r5 →
    Put (hex_of line.owing) (hex_places + 1) s5 s6 r5 r6 →
    Put (hex_of line.locked) (hex_places + 1) s6 s7 r6 r7 →
    Put (holder_of line.holder) places8 s7 s8 r7 r8 →
    Shown (line_of line) o (set s8 r8 line_feed) (r8 + 1)
unfolding line_of
joined line n p1 p2 p3 p4 p5 p6 p7 p8 =
    let q2 = put_put p1 p2 (omega arith) in
    let q3 = put_put q2 p3 (omega arith) in
    let q4 = put_put q3 p4 (omega arith) in
    let q5 = put_put q4 p5 (omega arith) in
    let q6 = put_put q5 p6 (omega arith) in
    let q7 = put_put q6 p7 (omega arith) in
    let q8 = put_put q7 p8 (omega arith) in
    ended q8 (omega arith)

pub joined_thread : (position thread : ℕ) (words : List ℕ) (which : ℕ) {o s1 s2 s3 s4 : List ℕ} {r1 r2 r3 r4 : ℕ} →
    length o ≡ room →
    Put (decimal_of places32 position) (places32 + 1) o s1 0 r1 →
    Put (decimal_of places8 thread) (places8 + 1) s1 s2 r1 r2 →
    Put (take most_words words) most_words s2 s3 r2 r3 →
    Put (which_of which) places8 s3 s4 r3 r4 →
    Shown (thread_line_of position thread words which) o (set s4 r4 line_feed) (r4 + 1)
unfolding thread_line_of
joined_thread position thread words which n p1 p2 p3 p4 =
    let q2 = put_put p1 p2 (omega arith) in
    let q3 = put_put q2 p3 (omega arith) in
    let q4 = put_put q3 p4 (omega arith) in
    ended q4 (omega arith)

pub joined_words : (words : List ℕ) {o s : List ℕ} {r : ℕ} →
    length o ≡ room →
    Put (take most_words words) most_words o s 0 r →
    Shown (words_line_of words) o (set s r line_feed) (r + 1)
unfolding words_line_of
joined_words words n p = ended p (omega arith)

pub joined_refusal : (words : List ℕ) (number place : ℕ) {o s1 s2 s3 s4 : List ℕ} {r1 r2 r3 r4 : ℕ} →
    length o ≡ room →
    Put (take most_words words) most_words o s1 0 r1 →
    Put (numeral ten true places8 number) places8 s1 s2 r1 r2 →
    Put (bytes_in " at ") 4 s2 s3 r2 r3 →
    Put (numeral ten true places32 place) places32 s3 s4 r3 r4 →
    Shown (refusal_line_of words number place) o (set s4 r4 line_feed) (r4 + 1)
unfolding refusal_line_of
joined_refusal words number place {o} {s4 = s4} {r4 = r4} n p1 p2 p3 p4 =
    let q2 = put_put p1 p2 (omega arith) in
    let q3 = put_put q2 p3 (omega arith) in
    let q4 = put_put q3 p4 (omega arith) in
    let parts = take most_words words ++ numeral ten true places8 number ++ bytes_in " at " ++ numeral ten true places32 place in
    let same : parts ++ (line_feed ∷ []) ≡ take most_words words ++ refusal_at number place = simp append_assoc in
    subst (λ (l : List ℕ). Shown l o (set s4 r4 line_feed) (r4 + 1)) same (ended q4 (omega arith))
