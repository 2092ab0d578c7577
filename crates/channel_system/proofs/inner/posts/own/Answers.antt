use Rattle.std.proofs.Common.{rules, zero-add, ℕ, ◌/◌, ◌∙◌, sym, arith, length, eqb}
use Rattle.std.proofs.lemmas.List.{take_all}
use Rattle.graph_tables.specs.Sizes.{word32}
use Rattle.laws.proofs.Chains.{all_in_part}
use Rattle.channel_system.specs.Steps.{own_post}
use Rattle.channel_system.proofs.inner.posts.own.Goals as goal

pub returns : goal.returns
unfolding own_post
returns c =
    let ps = c.args.posts.now in
    simp zero-add at
    (all_in_part (λ (w : ℕ). eqb (w / word32) c.args.g) 0 ps 0 (length ps) c.all.ensures.ran (c.iter.ensures.rest ∙ sym (take_all (length ps) ps (omega arith)))
    (omega arith) (λ x b t k. search rules))
