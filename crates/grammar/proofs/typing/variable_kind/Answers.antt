use lib.ListN.{get_or-eq_default}
use Rattle.grammar.proofs.KindLaws.{kinded_ill, get_d_any}
use Rattle.grammar.specs.Typing.{kinded_at}
use Rattle.grammar.specs.Inner.{kinded_word}
use Prim.Native.Nat.{ℕ}
use mathlib.Core.Path.{sym, ap, ◌∙◌}
use Rattle.grammar.proofs.typing.variable_kind.Goals as goal

pub returns-then-k-eq0 : goal.returns-then-k-eq0
returns-then-k-eq0 c =
    let s = c.before.before.before in
    ap (λ (k : ℕ). kinded_word (kinded_at k))
    (sym c.if-k-eq0.true ∙ get_d_any s.args.kinds.now s.args.n 0 2 c.if-i-kinds.true)

pub returns-then-k-eq1 : goal.returns-then-k-eq1
returns-then-k-eq1 c =
    let s = c.before.before.before.before in
    ap (λ (k : ℕ). kinded_word (kinded_at k))
    (sym c.if-k-eq1.true ∙ get_d_any s.args.kinds.now s.args.n 0 2 c.if-i-kinds.true)

pub returns-else-k-eq1 : goal.returns-else-k-eq1
returns-else-k-eq1 c =
    let s = c.before.before.before.before in
    ap kinded_word
    (sym (kinded_ill _ c.if-k-eq0.false c.if-k-eq1.false)
    ∙ ap kinded_at (get_d_any s.args.kinds.now s.args.n 0 2 c.if-i-kinds.true))

pub returns-else-i-kinds : goal.returns-else-i-kinds
returns-else-i-kinds c =
    ap (λ (k : ℕ). kinded_word (kinded_at k))
    (sym (get_or-eq_default c.args.kinds.now 2 {n = c.args.n} c.if-i-kinds.false))
