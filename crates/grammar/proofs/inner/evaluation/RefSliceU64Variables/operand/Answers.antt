use Prim.Native.Nat.{ℕ, ◌*◌, ◌+◌, ◌<◌}
use mathlib.Core.Path.{sym, ap, ◌∙◌}
use native.Mathlib.Omega.{arith}
use lib.ListN.{length, get_or}
use Rattle.std.specs.Prelude.{Some}
use Rattle.grammar.specs.declared.values.Val.{Val}
use Rattle.grammar.specs.Slots.{slots_of}
use Rattle.grammar.specs.Evaluation.{blank}
use Rattle.grammar.proofs.SlotLaws.{slots_at}
use Rattle.grammar.proofs.ItemLaws.{slot_small}
use Rattle.grammar.proofs.HeldLaws.{present}
use Rattle.grammar.proofs.inner.evaluation.RefSliceU64Variables.operand.Goals as goal

pub returns-then-w-lt16 : goal.returns-then-w-lt16
returns-then-w-lt16 c =
    let n = c.slot-n.result in
    let ws = c.args.self.now.now in
    let h : 2 * n + 1 < length ws = omega (arith, c.slot-n.ensures, slot_small c.args.w, c.requires) in
    c.of_value.ensures
    ∙ ap (λ (x : Val). Some x) (c.value_of.ensures ∙ sym (slots_at ws n h) ∙ ap (λ (k : ℕ). (get_or (slots_of ws) k blank).value) c.slot-n.ensures)
    ∙ present _ _ c.if-w-lt16.true
