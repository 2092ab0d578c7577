use Prim.Native.Nat.{ℕ}
use mathlib.Core.Path.{◌≡◌, sym, ap, ◌∙◌}
use native.Mathlib.Omega.{arith}
use lib.ListN.{get_or}
use borrow.Author.Rules.{rules}
use Rattle.grammar.specs.Slots.{slots_of}
use Rattle.run_steps.specs.Listing.{seek, clocks_by, process_entries}
use Rattle.run_steps.proofs.KeyLaws.{asked}
use Rattle.run_steps.proofs.ListingLaws.{join_none, join_more, join_found, join_done, process_sought}
use Rattle.run_steps.proofs.inner.listing.seek_processes.Goals as goal
use Rattle.run_steps.proofs.inner.listing.seek_processes.Goals.{After-seek_process-sought}

pub loop-p-init : goal.loop-p-init
loop-p-init c = (search rules, join_none _ _)

pub key_with-first-requires : goal.key_with-first-requires
key_with-first-requires c =
    (omega (arith, c.requires.5 c.loop-p.p (omega arith), c.requires.0.counts.locations), omega arith)

pub seek_process-sought-requires : goal.seek_process-sought-requires
seek_process-sought-requires c =
    let k = asked _ _ _ 0 c.key_with-first.ensures (omega arith) (omega arith) in (
      c.requires.0,
      c.requires.1,
      c.requires.2,
      c.requires.3,
      c.requires.4
          ∙ ap (λ (a : ℕ). clocks_by c.args.t.now a c.args.clocks.now) (sym k.action),
      k.post,
    )

-- what was sought, by the place and the action
module _ (c : After-seek_process-sought) where
  there :
      c.seek_process-sought.result
      ≡ seek (process_entries c.args.t.now (slots_of c.args.vars.now) c.args.clocks.now
      (get_or c.args.places.now c.loop-p.p 0) c.args.action c.loop-p.p) c.loop-p.left
  there =
      process_sought c.args.t.now (slots_of c.args.vars.now) c.args.clocks.now
      (asked _ _ _ 0 c.key_with-first.ensures (omega arith) (omega arith)) c.loop-p.p c.loop-p.left c.seek_process-sought.ensures

pub returns-in_default : goal.returns-in_default
returns-in_default c =
    let l = c.loop-p in
    join_found _ _ _ l.p (omega arith) l.invariant.1 (there (goal.at.returns-in_default c).After-seek_process-sought) c.in_default.is

pub loop-p-preserved : goal.loop-p-preserved
loop-p-preserved c =
    let l = c.loop-p in
    (omega arith, join_more _ _ l.p l.invariant.1 (there (goal.at.loop-p-preserved c).After-seek_process-sought) c.in-Left.is)

pub returns : goal.returns
returns c = let l = c.loop-p in sym (join_done _ _ _ l.p (omega arith) (omega arith) l.invariant.1)
