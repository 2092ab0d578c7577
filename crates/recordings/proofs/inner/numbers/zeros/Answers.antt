use Rattle.std.proofs.Common.{◌+◌, ◌-◌, ◌≡◌, nat_eq, arith, rules}
use borrow.Author.Tests.{tests}
use Rattle.laws.proofs.Chains.{all_in_part}
use Rattle.recordings.specs.Numbers.{zeros_at}
use Rattle.recordings.proofs.inner.numbers.zeros.Goals as goal

pub returns : goal.returns
unfolding zeros_at
returns c =
    let at = c.args.at in
    let n = c.args.n in
    let e : at + n - at ≡ n = omega arith in
    all_in_part (λ b. nat_eq b 0) 0 c.args.bytes.now at n c.all.ensures.ran (rw e at c.iter.ensures.rest) c.requires
    (λ x b t k. search (rules, tests))
