-- The event is the longest result that a call tells, and its equality is rewritten rather than searched.
use Rattle.std.proofs.Common.{length, refl}
use Rattle.std.proofs.lemmas.Bool.{le-leb}
use Rattle.laws.specs.Ladder.{unless}
use Rattle.c_words.specs.Given.{answering}
use Rattle.export.proofs.running.njn_state_transition.Goals as goal

pub returns : goal.returns
unfolding answering unless
returns c =
    rw (c.told.ensures.0, c.told.ensures.1, c.transition.ensures.0, c.transition.ensures.1, le-leb 12 (length c.args.out.now) c.if-out-lt-EVENT.false) (refl, refl, refl)
