use Rattle.std.proofs.Common.{arith, sym, true}
use Rattle.graph_checks.proofs.ReadyParts.{transition_ready}
use Rattle.graph_builder.proofs.BuildingLaws.{words_of, counted_of}
use Rattle.graph_builder.proofs.add_timed_transition.Goals as goal

pub key_with-key-requires : goal.key_with-key-requires
key_with-key-requires c =
    let r = transition_ready _ _ _ _ _ _ _ (sym c.in_ok-transition_check.ensures) in
    let m = (counted_of _ true r.formed).locations in
    (omega (arith, r.from, m), omega (arith, r.to, m))

pub put_transition-requires : goal.put_transition-requires
put_transition-requires c =
    let r = transition_ready _ _ _ _ _ _ _ (sym c.in_ok-transition_check.ensures) in
    (words_of _ true r.formed, r.room, (r.guard c.if-guarded.true).short, r.limits.0)

pub put_transition-requires-2 : goal.put_transition-requires-2
put_transition-requires-2 c =
    let r = transition_ready _ _ _ _ _ _ _ (sym c.in_ok-transition_check.ensures) in
    (words_of _ true r.formed, r.room, omega arith, r.limits.0)
