use Rattle.std.proofs.Common.{ℕ, List, sym, ◌∙◌}
use Rattle.graph_builder.specs.Building.{new_receive_of}
use Rattle.system_builder.proofs.ActionLaws.{has_word, receive_puts}
use Rattle.system_builder.proofs.MessageLaws.{known_both, known_member, receive_known}
use Rattle.system_builder.proofs.messages.new_receive.Goals as goal

pub receive_on-placed-requires : goal.receive_on-placed-requires
receive_on-placed-requires c = let f = known_both _ _ _ (receive_known _ _ _ _ (sym c.in_ok-receive_check.ensures)) in (f.words, f.graph)

pub tell-requires : goal.tell-requires
tell-requires c = λ n h.
    let a = c.args in
    let known = known_member _ _ _ (receive_known _ _ _ _ (sym c.in_ok-receive_check.ensures)) in
    let w = has_word (λ (G : List ℕ). new_receive_of G a.vars) (receive_puts _) a.t.now a.g.0 known n (sym c.receive_on-placed.ensures.0 ∙ h) in
    (rw c.receive_on-placed.ensures.1 w.0, w.1, w.2)
