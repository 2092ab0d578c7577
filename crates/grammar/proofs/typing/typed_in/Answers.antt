use mathlib.Core.Path.{sym}
use native.Mathlib.Omega.{arith}
use Rattle.grammar.proofs.CodeLaws.{at, past}
use Rattle.grammar.proofs.typing.typed_in.Goals as goal

pub returns-in-0 : goal.returns-in-0
returns-in-0 c = sym (at c.args.code 0 c.in-0.is)

pub returns-in-1 : goal.returns-in-1
returns-in-1 c = sym (at c.args.code 1 c.in-1.is)

pub returns-in-2 : goal.returns-in-2
returns-in-2 c = sym (at c.args.code 2 c.in-2.is)

pub returns-in-3 : goal.returns-in-3
returns-in-3 c = sym (at c.args.code 3 c.in-3.is)

pub returns-in-4 : goal.returns-in-4
returns-in-4 c = sym (at c.args.code 4 c.in-4.is)

pub returns-in_default : goal.returns-in_default
returns-in_default c =
    let n = c.in_default.in_default-own.rest in
    sym (past c.args.code (omega (arith, n.0.0.0.0.1, n.0.0.0.1, n.0.0.1, n.0.1, n.1)))
