use native.Mathlib.Omega.{arith}
use Rattle.run_steps.proofs.inner.listing.entry.Goals as goal

pub returns : goal.returns
returns c = rw (c.post_of-post.ensures, c.action_of-action.ensures, c.key_of-key.ensures)

pub overflow_cast-post : goal.overflow_cast-post
overflow_cast-post c =
    omega (arith, c.post_of-post.ensures)
