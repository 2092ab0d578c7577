use Rattle.grammar.proofs.PassLaws.{Pass}
use Rattle.grammar.proofs.typing.code_of_run.Given as goal

abbrev pub invariant-loop-w : goal.invariant-loop-w
invariant-loop-w l = Pass l.items l.kinds l.depth l.integers l.most l.draws l.w-index
