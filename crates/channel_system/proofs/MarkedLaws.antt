-- The marked examples, all of them.
use mathlib.Core.Path.{refl}
use Rattle.laws.specs.Ladder.{unless}
use Rattle.laws.specs.Below.{◌and◌}
use Rattle.laws.specs.Examples.{Examples, end, gives, Hold}
use Rattle.program_graph.specs.Marked.{both, examples as graph_examples}
use Rattle.program_graph.proofs.MarkedLaws.{marked as graph_marked}
use Rattle.queues.specs.Queues.{stored_of, pushed, emptied, slots_for, pushed_below}
use Rattle.channel_system.specs.Channels.{send_test, receive_test, empty_test, full_test}
use Rattle.channel_system.specs.Waits.{all_fit, passed_of}
use Rattle.channel_system.specs.Marked.{system_examples, examples}

hold_both : (a b : Examples) → Hold a → Hold b → Hold (both a b)
hold_both end b h k = k
hold_both (gives x y rest) b h k = (h.0, hold_both rest b h.1 k)

system_marked : Hold system_examples
unfolding
    unless ◌and◌ stored_of pushed emptied slots_for pushed_below send_test receive_test empty_test full_test all_fit passed_of
system_marked = (refl, (refl, (refl, (refl, (refl, (refl, (refl, (refl, tt))))))))

-- Each gives what it must.
pub marked : Hold examples
marked = hold_both system_examples graph_examples system_marked graph_marked
