use Rattle.std.proofs.Common.{ℕ, List, sym, ◌∙◌}
use Rattle.graph_builder.specs.Building.{new_send_of}
use Rattle.graph_edits.specs.Edits.{chosen}
use Rattle.system_builder.proofs.ActionLaws.{has_word, send_puts}
use Rattle.system_builder.proofs.MessageLaws.{known_both, known_member, send_known}
use Rattle.system_builder.proofs.messages.new_send.Goals as goal

pub send_on-placed-requires : goal.send_on-placed-requires
send_on-placed-requires c = let f = known_both _ _ _ (send_known _ _ _ _ _ (sym c.in_ok-send_check.ensures)) in (f.words, f.graph)

pub tell-requires : goal.tell-requires
tell-requires c = λ n h.
    let a = c.args in
    let known = known_member _ _ _ (send_known _ _ _ _ _ (sym c.in_ok-send_check.ensures)) in
    let w = has_word (λ (G : List ℕ). new_send_of G (chosen a.w.now a.x.now a.y.now a.z.now) a.count) (send_puts _ _) a.t.now a.g.0 known n (sym c.send_on-placed.ensures.0 ∙ h) in
    (rw c.send_on-placed.ensures.1 w.0, w.1, w.2)
