-- Marked examples of a system; and with those of the crates below, one list.
use Rattle.std.specs.Prelude.{ℕ, zero, suc, cond, List, [], ◌∷◌, pos, replicate, Ok, Err, ⊤}
use Rattle.channel_system.specs.declared.answers.WaitError.TheVariants as WaitError
use Rattle.laws.specs.Examples.{Examples, end, gives}
use Rattle.grammar.specs.declared.values.Val.TheVariants.{Integer}
use Rattle.graph_tables.specs.Sizes.{last_time}
use Rattle.graph_tables.specs.Answers.{Answer, answer_number}
use Rattle.graph_tables.specs.Refusals.{refusal}
use Rattle.graph_tables.specs.declared.handed.Message.{Message}
use Rattle.program_graph.specs.Marked.{both, examples as graph_examples}
use Rattle.queues.specs.Layout.{queue_words}
use Rattle.queues.specs.Queues.{stored_of, pushed_all, emptied}
use Rattle.system_tables.specs.declared.ids.ChannelCapacity.{ChannelCapacity}
use Rattle.system_tables.specs.declared.ids.ChannelCapacity.TheVariants.{Bounded, Sink}
use Rattle.channel_system.specs.Channels.{send_test, receive_test, empty_test, full_test}
use Rattle.channel_system.specs.Steps.{stores}
use Rattle.channel_system.specs.Waits.{passed_of}

-- a message of two values
abbrev pair : Message
pair =
    record {
      values = record { value = Integer (pos 1) } ∷ record { value = Integer (pos 2) } ∷ [];
      count = 2;
    }

-- a send to a queue of a capacity: the queue afterwards, the same where it is refused, or where nothing is stored
abbrev send_of : ChannelCapacity → List ℕ → Answer ⊤
send_of c q = send_test (stored_of q) pair.count c

abbrev left_if : Answer ⊤ → List ℕ → List ℕ → List ℕ
left_if (Ok _) q after = after
left_if (Err r) q after = q

abbrev sent_to : ChannelCapacity → List ℕ → List ℕ
sent_to c q = left_if (send_of c q) q (cond (stores c) (pushed_all q pair) q)

-- an empty queue after so many sends
abbrev after : ChannelCapacity → ℕ → List ℕ
after c zero = emptied (replicate queue_words 0)
after c (suc n) = sent_to c (after c n)

-- a state of a system without graphs, at this time: no more of a state is read
abbrev at_time : ℕ → List ℕ
at_time n = n ∷ []

abbrev pub system_examples : Examples
system_examples =
    -- W10 w = 2, capacity 3: stored 0, 2, 4, then 20
    gives (stored_of (after (Bounded 3) 0)) 0
    (gives (stored_of (after (Bounded 3) 1)) 2
    (gives (stored_of (after (Bounded 3) 2)) 4
    (gives (answer_number (send_of (Bounded 3) (after (Bounded 3) 2))) 20
    -- W11 probe at capacity 0: 24
    (gives (answer_number (empty_test (stored_of (after (Bounded 0) 0)) (Bounded 0))) 24
    (gives (answer_number (full_test (stored_of (after (Bounded 0) 0)) (Bounded 0))) 24
    -- W12 receive from a sink: 21
    (gives (answer_number (receive_test (stored_of (after Sink 1)))) 21
    -- W14 time 4294967295, wait 1: 26
    (gives (passed_of [] (at_time last_time) 1).answer (Err (WaitError.Refused (refusal 26)))
    end)))))))

-- W1 to W9 and W13 are examples of one graph, of time ranges and of expressions
abbrev pub examples : Examples
examples = both system_examples graph_examples
