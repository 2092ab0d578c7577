use Rattle.std.proofs.Common.{sym, ◌∙◌}
use Rattle.graph_builder.specs.Building.{new_action_of}
use Rattle.system_builder.proofs.ActionLaws.{action_puts, checked_word}
use Rattle.system_builder.proofs.on_graph.new_action.Goals as goal

pub tell-requires : goal.tell-requires
tell-requires c = λ n e.
    let w = checked_word new_action_of action_puts c.args.t.now c.args.g.0 n (sym c.plain_action-placed.ensures.0 ∙ e) in
    (rw c.plain_action-placed.ensures.1 w.0, w.1, w.2)
