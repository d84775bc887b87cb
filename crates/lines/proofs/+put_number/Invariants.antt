-- `put_number` meets its contract, by recursion on the places: they fall with each call.
use Rattle.lines.proofs.+put_number.Given as goal

abbrev pub decreases-put_number : goal.decreases-put_number
decreases-put_number l = l.places
