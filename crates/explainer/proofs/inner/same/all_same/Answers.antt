use Rattle.std.proofs.lemmas.Bool.Decides.{Decides-eqb}
use Rattle.std.proofs.lemmas.Slice.Eq.{slice_eq-Decides}
use Rattle.explainer.proofs.SameLaws.{same_decides}
use Rattle.explainer.proofs.inner.same.all_same.Goals as goal

pub returns : goal.returns
returns c = same_decides _ _ c.requires c.eq.result (slice_eq-Decides Decides-eqb _ _ _ c.eq.ensures)
