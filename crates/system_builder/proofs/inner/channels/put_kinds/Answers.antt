use mathlib.Core.Path.{◌≡◌, ◌∙◌}
use native.Mathlib.Omega.{arith}
use native.Mathlib.Numerals.{add-one}
use borrow.Author.Rules.{rules}
use Rattle.system_builder.specs.Systems.{with_kinds}
use Rattle.system_builder.proofs.inner.channels.put_kinds.Goals as goal

pub loop-e-init : goal.loop-e-init
unfolding with_kinds
loop-e-init c = search rules

pub loop-e-preserved : goal.loop-e-preserved
unfolding with_kinds
loop-e-preserved c =
    let p = c.before.before in
    let l = c.before.before.before.before.before.before.before in
    (omega arith, (omega arith, rw (p.set_channel_kind.ensures, p.word-word.ensures, l.loop-e.invariant.1.1, add-one)))

pub returns : goal.returns
returns c =
    let e : c.loop-e.e ≡ c.args.kinds.count = omega arith in
    c.loop-e.invariant.1.1 ∙ rw e
