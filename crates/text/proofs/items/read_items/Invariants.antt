use Rattle.text.proofs.Readings.{Way}
use Rattle.text.proofs.items.read_items.Given as goal

abbrev pub invariant-loop-count : goal.invariant-loop-count
invariant-loop-count l = Way l.line l.at l.initial.words l.words l.here l.count
