use Rattle.std.proofs.Common.{ℕ, ◌%◌, ◌≡◌, ◌<◌, ap, sym, ◌∙◌, arith}
use lib.ListN.{length-set}
use Rattle.std.proofs.lemmas.List.{get_or-take, length-take-le}
use Rattle.graph_tables.specs.Sizes.{word32}
use Rattle.channel_system.specs.Steps.{locations_of}
use Rattle.channel_system.proofs.PostLaws.{locations_length, location_at, copied_more, take_copied}
use Rattle.channel_system.proofs.inner.posts.locations.Goals as goal

pub loop-i-preserved : goal.loop-i-preserved
loop-i-preserved c =
    let ps = c.args.posts.now in
    let i = c.loop-i.i in
    let l : i < c.args.n = omega (arith, length-take-le c.args.n ps c.requires.0) in (
      simp length-set c.loop-i.invariant.0,
      copied_more c.loop-i.to (locations_of ps) i _ c.loop-i.invariant.1 (omega arith)
          (ap (λ (w : ℕ). w % word32) (get_or-take c.args.n ps i 0 l) ∙ sym (location_at ps i (omega arith))),
    )

pub returns : goal.returns
returns c =
    let ps = c.args.posts.now in
    let n = c.args.n in
    let e : c.loop-i.i ≡ n = omega (arith, length-take-le n ps c.requires.0) in (
      take_copied c.loop-i.to (locations_of ps) n (rw e at c.loop-i.invariant.1) (omega arith)
          (omega (arith, locations_length ps)),
      c.loop-i.invariant.0,
    )
