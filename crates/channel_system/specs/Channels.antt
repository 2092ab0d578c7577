-- What a channel asks of a communication (docs/RULES.md, 'Systems'): of one that is stepped, and of one that is listed. The two differ,
-- so they
-- stand beside each other. `stored` is how many slots of the queue are taken, `width` how many values a message has.
use Rattle.std.specs.Prelude.{ℕ, ◌+◌, Bool, true, false, not, eqb, leb, ltb, ⊤}
use Rattle.graph_tables.specs.Answers.{Answer, admitted}
use Rattle.laws.specs.Ladder.{unless}
use Rattle.graph_checks.specs.Checks.{refused_by}
use Rattle.queues.specs.Layout.{slot_room}
use Rattle.queues.specs.Queues.{slots_for}
use Rattle.system_tables.specs.declared.ids.ChannelCapacity.{ChannelCapacity}
use Rattle.system_tables.specs.declared.ids.ChannelCapacity.TheVariants.{Bounded, Unbounded, Sink}
use Rattle.system_tables.specs.declared.ids.Message.{Message}
use Rattle.system_tables.specs.declared.ids.Message.TheVariants.{Send, Receive, ProbeEmptyQueue, ProbeFullQueue}

-- a queue of capacity 0
abbrev pub handshake : ChannelCapacity → Bool
handshake (Bounded n) = eqb n 0
handshake Unbounded = false
handshake Sink = false

-- ---- a step
-- a send: 20 once the bound is reached; without a bound 27 if there is no room for a message more; a sink takes everything
unfoldable pub send_test : ℕ → ℕ → ChannelCapacity → Answer ⊤
send_test stored width (Bounded n) = unless (ltb stored n) (refused_by 20) admitted
send_test stored width Unbounded = unless (leb (stored + slots_for width) slot_room) (refused_by 27) admitted
send_test stored width Sink = admitted

-- a receive: 21 if nothing is stored
unfoldable pub receive_test : ℕ → Answer ⊤
receive_test stored = unless (ltb 0 stored) (refused_by 21) admitted

-- a probe of an empty queue: 24 at capacity 0, then 22 if anything is stored
unfoldable pub empty_test : ℕ → ChannelCapacity → Answer ⊤
empty_test stored c = unless (not (handshake c)) (refused_by 24) (unless (eqb stored 0) (refused_by 22) admitted)

-- a probe of a full one: 24 at capacity 0, then 23 until the bound is reached; 25 without a bound; 23 of a sink
abbrev pub reached : ℕ → ChannelCapacity → Answer ⊤
reached stored (Bounded n) = unless (leb n stored) (refused_by 23) admitted
reached stored Unbounded = refused_by 25
reached stored Sink = refused_by 23

unfoldable pub full_test : ℕ → ChannelCapacity → Answer ⊤
full_test stored c = unless (not (handshake c)) (refused_by 24) (reached stored c)

abbrev pub step_test : Message → ℕ → ℕ → ChannelCapacity → Answer ⊤
step_test Send stored width c = send_test stored width c
step_test Receive stored width c = receive_test stored
step_test ProbeEmptyQueue stored width c = empty_test stored c
step_test ProbeFullQueue stored width c = full_test stored c

-- ---- the listing
-- a send while the bound is not reached, whether there is room or not
abbrev pub send_listed : ℕ → ChannelCapacity → Bool
send_listed stored (Bounded n) = ltb stored n
send_listed stored Unbounded = true
send_listed stored Sink = true

-- a receive if something is stored
abbrev pub receive_listed : ℕ → ChannelCapacity → Bool
receive_listed stored (Bounded n) = ltb 0 stored
receive_listed stored Unbounded = ltb 0 stored
receive_listed stored Sink = false

-- a probe of an empty queue if nothing is stored, at capacity 0 too
abbrev pub empty_listed : ℕ → ChannelCapacity → Bool
empty_listed stored (Bounded n) = eqb stored 0
empty_listed stored Unbounded = eqb stored 0
empty_listed stored Sink = true

-- a probe of a full one if just as many values as the capacity are stored
abbrev pub full_listed : ℕ → ChannelCapacity → Bool
full_listed stored (Bounded n) = eqb stored n
full_listed stored Unbounded = false
full_listed stored Sink = false

unfoldable pub list_test : Message → ℕ → ChannelCapacity → Bool
list_test Send stored c = send_listed stored c
list_test Receive stored c = receive_listed stored c
list_test ProbeEmptyQueue stored c = empty_listed stored c
list_test ProbeFullQueue stored c = full_listed stored c
