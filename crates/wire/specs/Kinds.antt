-- Document 01, "Records": the kinds, the one list of each kind's length, and which stream a kind belongs to.
use Rattle.std.specs.Prelude.{ℕ, List, [], ◌∷◌, Bool, true, false, cond, ◌&&◌, leb, eqb}
use Rattle.wire.specs.declared.kinds.Pair.{Pair}
use Rattle.wire.specs.declared.kinds.Stream.{Stream}
use Rattle.wire.specs.declared.kinds.Stream.TheVariants.{Table, Events, Answers}

abbrev pub kind_cores : ℕ
kind_cores = 1

abbrev pub kind_gang : ℕ
kind_gang = 2

abbrev pub kind_thread : ℕ
kind_thread = 3

abbrev pub kind_release : ℕ
kind_release = 16

abbrev pub kind_finish : ℕ
kind_finish = 17

abbrev pub kind_wait : ℕ
kind_wait = 18

abbrev pub kind_wake : ℕ
kind_wake = 19

abbrev pub kind_serve : ℕ
kind_serve = 20

abbrev pub kind_traffic : ℕ
kind_traffic = 21

abbrev pub kind_tick : ℕ
kind_tick = 22

abbrev pub kind_answer : ℕ
kind_answer = 64

abbrev pair : ℕ → ℕ → Pair
pair k n = record { kind = k; len = n }

-- "The length of each kind comes from one fixed list." GANG has two lengths
unfoldable pub lengths : List Pair
lengths =
    pair kind_cores 3
    ∷ pair kind_gang 7
    ∷ pair kind_gang 3
    ∷ pair kind_thread 4
    ∷ pair kind_release 3
    ∷ pair kind_finish 3
    ∷ pair kind_wait 3
    ∷ pair kind_wake 3
    ∷ pair kind_serve 3
    ∷ pair kind_traffic 7
    ∷ pair kind_tick 2
    ∷ pair kind_answer 16
    ∷ []

-- a walk over a list of lengths: what the first pair that passes a test says, or what is said where none does
abbrev pub first_pair : {A : Type 0} → (Pair → Bool) → (Pair → A) → A → List Pair → A
first_pair passes says other [] = other
first_pair passes says other (p ∷ ps) = cond (passes p) (says p) (first_pair passes says other ps)

abbrev pub is_pair : ℕ → ℕ → Pair → Bool
is_pair k n p = eqb p.kind k && eqb p.len n

-- n is a length of kind k
abbrev pub fits_in : ℕ → ℕ → List Pair → Bool
fits_in k n ps = first_pair (is_pair k n) (λ p. true) false ps

abbrev pub is_of_kind : ℕ → Pair → Bool
is_of_kind k p = eqb p.kind k

-- the first length of kind k: a writer's
abbrev pub length_in : ℕ → List Pair → ℕ
length_in k ps = first_pair (is_of_kind k) (λ p. p.len) 0 ps

-- "A table holds kinds 1 to 3"; events are kinds 16 to 22; an answer is kind 64
unfoldable pub in_stream : Stream → ℕ → Bool
in_stream Table k = leb kind_cores k && leb k kind_thread
in_stream Events k = leb kind_release k && leb k kind_tick
in_stream Answers k = eqb k kind_answer
