use Rattle.std.proofs.Common.{◌≡◌, to_z, of_z, w32, rules}
use Rattle.text.proofs.Places.{both}
use Rattle.text.proofs.output.put_value.Goals as goal

pub returns-in-Integer : goal.returns-in-Integer
returns-in-Integer c =
    let e : to_z w32 (of_z w32 c.in-Integer.n) ≡ c.in-Integer.n = search rules in
    rw c.in-Integer.is (both c.put-here.ensures (rw e at c.put_integer.ensures))
