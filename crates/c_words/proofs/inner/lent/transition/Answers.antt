use Rattle.std.proofs.Common.{rules, ◌≡◌, true}
use Rattle.laws.specs.Ladder.{unless}
use Rattle.c_words.specs.Lent.{moved_as, run_fits}
use Rattle.c_words.proofs.LentLaws.{transition_left}
use Rattle.c_words.proofs.inner.lent.transition.Goals as goal

pub returns : goal.returns
unfolding moved_as unless
returns c =
    let fit : run_fits c.args.t.now c.args.r.now ≡ true = search rules in
    rw fit (transition_left _ _ fit _ _ _ _ _ c.step.ensures)
