use Prim.Native.Nat.{ℕ, ◌/◌}
use mathlib.Core.Path.{◌≡◌, ap, ◌∙◌}
use Rattle.grammar.specs.Typing.{type_of}
use Rattle.grammar.specs.Draws.{draws_of}
use Rattle.grammar.specs.Inner.{typed_in}
use Rattle.grammar.specs.declared.typing.Judged.{Judged}
use Rattle.grammar.specs.declared.typing.Typed.{Typed}
use Rattle.grammar.proofs.CodeLaws.{typed_back, told_back}
use Rattle.grammar.proofs.typing.judge.Goals as goal

both : {t u : Typed} {m n : ℕ} → t ≡ u → m ≡ n → ◌≡◌ {A = Judged} (record { typed = t; draws = m }) (record { typed = u; draws = n })
both e f = cc

pub returns : goal.returns
returns c =
    let s = c.before.before.before.before in
    let t = type_of s.args.kinds.now s.args.items.now in
    let n = draws_of s.args.items.now in
    let e = c.code_of-code.ensures in
    both (c.typed_in.ensures ∙ ap typed_in e ∙ typed_back t n) (ap (λ (k : ℕ). k / 8) e ∙ told_back t n)
