use Rattle.text.proofs.Places.{both}
use Rattle.text.proofs.output.put_bound.Goals as goal

pub returns-in-Included : goal.returns-in-Included
returns-in-Included c = rw c.in-Included.is (both c.put-here.ensures (rw c.from.ensures at c.put_number.ensures))

pub returns-in-Excluded : goal.returns-in-Excluded
returns-in-Excluded c = rw c.in-Excluded.is (both c.put-here-in-Excluded.ensures (rw c.from-in-Excluded.ensures at c.put_number-in-Excluded.ensures))
