use Rattle.std.proofs.Common.{rules, ◌≡◌, true}
use Rattle.laws.specs.Ladder.{unless}
use Rattle.c_words.specs.Lent.{moved_as, run_fits, said_at}
use Rattle.c_words.proofs.LentLaws.{send_left}
use Rattle.c_words.proofs.inner.lent.send.Goals as goal

pub returns : goal.returns
unfolding moved_as said_at unless
returns c =
    let fit : run_fits c.args.t.now c.args.r.now ≡ true = search rules in
    rw fit (send_left _ _ fit _ _ _ _ _ c.send_on.ensures)
