use Prim.Native.Nat.{◌+◌, ◌≤◌, ◌<◌}
use mathlib.Core.Path.{◌≡◌, refl, sym, ap, subst, ◌∙◌}
use mathlib.Core.Bool.{true}
use native.Mathlib.Omega.{arith}
use native.Mathlib.Numerals.{add-one}
use borrow.Author.Rules.{rules}
use Rattle.system_tables.specs.Words.{graph_count}
use Rattle.system_state.specs.Fits.{StateSound}
use Rattle.channel_system.specs.Waits.{clocks_fit, later_on, later_below}
use Rattle.channel_system.proofs.LaterLaws.{moving, still_fits}
use Rattle.channel_system.proofs.inner.waits.later_graphs.Goals as goal

pub loop-g-init : goal.loop-g-init
unfolding later_below
loop-g-init c = (search rules, c.graph_count-g-end.ensures, c.requires.1, refl)

pub later_on-requires : goal.later_on-requires
later_on-requires c =
    let known : c.loop-g.g < graph_count c.args.t.now = rw c.loop-g.invariant.1 at c.loop-g-test.true in
    let fits = still_fits c.args.t.now c.requires.0 c.args.s.now c.requires.1 c.args.delta c.requires.2 c.loop-g.g known in (
      record { table = c.requires.0; state = c.loop-g.invariant.2; known = known },
      subst (λ x. clocks_fit x c.args.delta c.loop-g.g ≡ true) (sym c.loop-g.invariant.3) fits,
    )

pub loop-g-preserved : goal.loop-g-preserved
unfolding later_below
loop-g-preserved c =
    let t = c.args.t.now in
    let n : c.loop-g.g + 1 ≤ graph_count t = omega (arith, c.loop-g-test.true, c.loop-g.invariant.1) in
    let step : c.later_on.new.s ≡ later_below t c.args.s.now c.args.delta (c.loop-g.g + 1) =
    rw add-one (c.later_on.ensures ∙ ap (λ x. later_on t x c.args.delta c.loop-g.g) c.loop-g.invariant.3)
    in (
      omega arith,
      c.loop-g.invariant.1,
      subst (StateSound t) (sym step)
          (moving t c.requires.0 c.args.s.now c.requires.1 c.args.delta c.requires.2 (c.loop-g.g + 1) n).state,
      step,
    )

pub returns : goal.returns
returns c =
    let e : c.loop-g.g ≡ graph_count c.args.t.now = omega (arith, c.loop-g.invariant.1) in
    c.loop-g.invariant.3 ∙ ap (later_below c.args.t.now c.args.s.now c.args.delta) e
