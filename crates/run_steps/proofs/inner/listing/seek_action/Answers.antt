use Prim.Native.Nat.{ℕ}
use mathlib.Core.Path.{sym, ap, ◌∙◌}
use mathlib.Core.List.{List}
use lib.ListN.{length}
use Rattle.laws.proofs.Tests.{held, failed}
use Rattle.run_steps.specs.Listing.{clocks_by, shared_entries}
use Rattle.run_steps.proofs.ListingLaws.{clocks_by_length}
use Rattle.run_steps.proofs.inner.listing.seek_action.Goals as goal

pub returns-then-not-is_shared : goal.returns-then-not-is_shared
unfolding shared_entries
returns-then-not-is_shared c = rw (failed c.is_shared.ensures c.if-not-is_shared.true)

pub copy-requires : goal.copy-requires
copy-requires c = sym c.requires.2

pub reset_by-requires : goal.reset_by-requires
reset_by-requires c =
    (c.requires.0, rw c.copy.ensures c.requires.2)

pub seek_processes-requires : goal.seek_processes-requires
seek_processes-requires c =
    let moved = c.reset_by.ensures ∙ ap (λ (x : List ℕ). clocks_by c.args.t.now c.args.action x) c.copy.ensures in (
      c.requires.0,
      c.requires.1,
      c.requires.2,
      ap length moved ∙ clocks_by_length c.args.t.now c.args.clocks.now c.args.action
          ∙ c.requires.2,
      moved,
      c.requires.3,
    )

pub returns : goal.returns
unfolding shared_entries
returns c =
    rw (held c.is_shared.ensures c.if-not-is_shared.false) c.seek_processes.ensures
