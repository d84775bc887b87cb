-- What a loop has at the start, after one turn more, and at the end: the laws that its proof goes by.
use Rattle.ranges.specs.laws.Pass.{upto_all}
use Rattle.pick.specs.laws.Pick.{pick_more}
use Rattle.table.specs.laws.Occurs.{make_occurs, occurs_none, occurs_other}

-- the first of the threads passed
pub ruleset first_so_far = (upto_all, pick_more)

-- whether a gang passed has the priority
pub ruleset taken_so_far = (upto_all, occurs_none, occurs_other, make_occurs)
