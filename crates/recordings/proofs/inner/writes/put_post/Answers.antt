use mathlib.Core.Path.{sym, ap, ◌∙◌}
use native.Mathlib.Omega.{arith}
use lib.Seq.{sets}
use Rattle.recordings.specs.Numbers.{bytes_of}
use Rattle.recordings.proofs.PartLaws.{part_past}
use Rattle.recordings.proofs.StoreLaws.{part_number}
use Rattle.recordings.proofs.inner.writes.put_post.Goals as goal

pub returns-then-j-posts : goal.returns-then-j-posts
returns-then-j-posts c =
    c.put_number.ensures ∙ ap (sets c.args.bytes.now c.args.at) (sym (part_number 2 c.args.posts.now c.args.j (omega arith)))

pub returns : goal.returns
returns c =
    c.put_zeros.ensures ∙ ap (sets c.args.bytes.now c.args.at) (sym (part_past (bytes_of 2) 2 c.args.posts.now c.args.j (omega arith)))
