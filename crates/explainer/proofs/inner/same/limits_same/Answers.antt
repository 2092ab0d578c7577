use Prim.Native.Nat.{◌+◌, ◌-◌, ◌*◌}
use mathlib.Core.Path.{◌≡◌, sym, ◌∙◌}
use native.Mathlib.Omega.{arith}
use Rattle.graph_tables.specs.Layout.{limit_width}
use Rattle.explainer.specs.Same.{limits_same}
use Rattle.explainer.proofs.SameLaws.{group_lent, group_built}
use Rattle.explainer.proofs.inner.same.limits_same.Goals as goal

pub group_at-from-requires : goal.group_at-from-requires
group_at-from-requires c = (c.requires.2, c.requires.3)

pub overflow_mul-to : goal.overflow_mul-to
overflow_mul-to c = omega (arith, c.requires.4)

pub overflow_add-to : goal.overflow_add-to
overflow_add-to c = omega (arith, c.requires.2, c.requires.3, c.requires.4, c.group_at-from.ensures)

pub group_start-built-requires : goal.group_start-built-requires
group_start-built-requires c = omega (arith, c.requires.3)

pub overflow_mul-end : goal.overflow_mul-end
overflow_mul-end c = omega (arith, c.requires.4)

pub overflow_add-end : goal.overflow_add-end
overflow_add-end c = omega (arith, c.requires.3, c.requires.4, c.group_start-built.ensures)

pub all_same-requires : goal.all_same-requires
all_same-requires c =
    let n = c.args.n in
    let from = c.group_at-from.result in
    let built = c.group_start-built.result in
    let e : from + limit_width * n - from ≡ limit_width * n = omega arith in
    let f : built + limit_width * n - built ≡ limit_width * n = omega arith in
    rw (e, f, c.group_at-from.ensures, c.group_start-built.ensures)
    (group_lent c.args.limits.now c.args.g c.args.group n c.requires.1 c.requires.2 c.requires.3 c.requires.4
    ∙ sym (group_built c.args.t.now c.args.group n c.requires.0.words c.requires.3 c.requires.4))

pub returns : goal.returns
unfolding limits_same
returns c =
    let n = c.args.n in
    let from = c.group_at-from.result in
    let built = c.group_start-built.result in
    let e : from + limit_width * n - from ≡ limit_width * n = omega arith in
    let f : built + limit_width * n - built ≡ limit_width * n = omega arith in
    c.all_same.ensures ∙ rw (e, f, c.group_at-from.ensures, c.group_start-built.ensures)
