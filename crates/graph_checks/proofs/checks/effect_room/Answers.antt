use Rattle.std.proofs.Common.{arith, sym}
use borrow.Author.Tests.{ltb-true}
use Rattle.graph_checks.proofs.CheckLaws.{unless_on}
use Rattle.graph_checks.proofs.checks.effect_room.Goals as goal

pub all_draws-requires : goal.all_draws-requires
all_draws-requires c =
    let f = c.requires.0 in (
      f.words,
      omega (arith, f.counts.actions, c.requires.1),
      omega (arith, ltb-true _ _ (unless_on _ _ _ (sym c.in_ok-room_for.ensures)).0),
      λ e l. (((f.action _ c.requires.1).plain c.requires.2).effect e (omega (arith, l, c.effect_count-n.ensures))).expression.short,
    )
