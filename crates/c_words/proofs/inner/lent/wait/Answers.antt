use Rattle.std.proofs.Common.{rules, ◌≡◌, true}
use Rattle.laws.specs.Ladder.{unless}
use Rattle.c_words.specs.Lent.{moved_as, run_fits}
use Rattle.c_words.proofs.LentLaws.{wait_left}
use Rattle.c_words.proofs.inner.lent.wait.Goals as goal

pub returns : goal.returns
unfolding moved_as unless
returns c =
    let fit : run_fits c.args.t.now c.args.r.now ≡ true = search rules in
    rw fit (wait_left _ _ fit _ _ _ c.wait_on.ensures)
