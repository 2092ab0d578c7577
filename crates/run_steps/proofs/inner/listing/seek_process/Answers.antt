use mathlib.Core.Path.{refl, sym, ap, ◌∙◌}
use native.Mathlib.Omega.{arith}
use borrow.Author.Rules.{rules}
use Rattle.run_steps.specs.declared.inner.listing.Sought.TheVariants.{Found, Left}
use Rattle.run_steps.proofs.ListingLaws.{join_none, join_more, join_found, join_done, one_found, one_passed, none_passed}
use Rattle.run_steps.proofs.ListingLaws.{opens_entry}
use Rattle.run_steps.proofs.inner.listing.seek_process.Goals as goal
use Rattle.run_steps.proofs.inner.listing.seek_process.Goals.{then-opens_by+else-left-eq0, else-opens_by}

pub loop-k-init : goal.loop-k-init
loop-k-init c = (search rules, join_none _ _)

pub returns-then-left-eq0 : goal.returns-then-left-eq0
returns-then-left-eq0 c =
    let opens = sym c.opens_by.ensures ∙ c.if-opens_by.true in
    join_found _ _ _ c.loop-k.k (omega arith) c.loop-k.invariant.1
    (ap Found (c.entry.ensures ∙ opens_entry _ _ _ _ _ c.args.p _ opens) ∙ one_found _ _ opens c.if-left-eq0.true)
    refl

pub loop-k-preserved : goal.loop-k-preserved
loop-k-preserved c =
    let opens = sym c.opens_by.ensures in
    let more = join_more _ _ c.loop-k.k c.loop-k.invariant.1 in (
      omega arith,
      elim c.if-opens_by.branch [
        | then-opens_by+else-left-eq0 w ↦ more (ap Left w.left-is ∙ one_passed _ _ (opens ∙ w.if-opens_by.true) w.if-left-eq0.false) refl
        | else-opens_by w ↦ more (ap Left w.left-is ∙ none_passed _ _ (opens ∙ w.if-opens_by.false)) refl
      ],
    )

pub returns : goal.returns
returns c = let l = c.loop-k in sym (join_done _ _ _ l.k (omega arith) (omega arith) l.invariant.1)
