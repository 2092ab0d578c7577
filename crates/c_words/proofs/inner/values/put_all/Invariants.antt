use Rattle.std.proofs.Common.{◌≡◌, drop}
use Rattle.c_words.specs.Told.{put, put_from}
use Rattle.c_words.proofs.inner.values.put_all.Given as goal

abbrev pub invariant-loop-i : goal.invariant-loop-i
invariant-loop-i l = put_from l.i (drop l.i l.words) l.out ≡ put l.words l.initial.out
