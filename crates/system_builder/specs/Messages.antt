-- Actions of a graph that communicate on a channel of its system (docs/RULES.md, 'Systems'): 17, 30, then 28 for a long list and 6 or
-- 4 as the graph's own, then 5, then 28.
use Rattle.std.specs.Prelude.{ℕ, Bool, cond, List, [], eqb, leb, ltb, Err, ⊤}
use Rattle.graph_tables.specs.Answers.{Answer, admitted}
use Rattle.laws.specs.Ladder.{unless}
use Rattle.laws.specs.Below.{all_below}
use Rattle.grammar.specs.Typing.{type_of, kinded, kinded_as}
use Rattle.graph_tables.specs.Sizes.{message_room}
use Rattle.graph_tables.specs.Words.{kind_at, kinds_of}
use Rattle.graph_tables.specs.Handed.{handed_var}
use Rattle.graph_tables.specs.declared.handed.Vars.{Vars}
use Rattle.graph_edits.specs.Edits.{chosen}
use Rattle.graph_checks.specs.Checks.{refused_by, ◌then◌, var_known}
use Rattle.graph_builder.specs.Building.{Outcome, new_send_of, new_receive_of}
use Rattle.system_tables.specs.Words.{channel_count, width_of, channel_kind, graph_part}
use Rattle.system_tables.specs.declared.ids.Channel.{Channel}
use Rattle.system_tables.specs.declared.ids.Message.{Message}
use Rattle.system_tables.specs.declared.ids.Message.TheVariants.{Send, Receive}
use Rattle.system_tables.specs.declared.ids.Communication.TheVariants.{On}
use Rattle.system_builder.specs.Graphs.{member_check, only_if, on_part, telling}

-- 32, 17, then 30 if there is no channel q
unfoldable pub known_check : List ℕ → ℕ → ℕ → Answer ⊤
known_check t g q = member_check t g then unless (ltb q (channel_count t)) (refused_by 30) admitted

-- 5 unless the values are as many as the channel is wide, and of its kinds
abbrev pub fit_check : ℕ → ℕ → Bool → Answer ⊤
fit_check count width fit = unless (eqb count width) (refused_by 5) (unless fit (refused_by 5) admitted)

-- it is asked where the graph has nothing against the list: there are few values, and each has a kind. Else the graph's own answer comes first
unfoldable pub if_read : Bool → Bool → Answer ⊤ → Answer ⊤
if_read few each check = cond few (cond each check admitted) admitted

-- ---- a send: m has the expressions, count says how many; G is the words of the graph
unfoldable pub sent_typed : List ℕ → (ℕ → List ℕ) → ℕ → Bool
sent_typed G m e = kinded (type_of (kinds_of G) (m e))

unfoldable pub sent_fits : List ℕ → ℕ → List ℕ → (ℕ → List ℕ) → ℕ → Bool
sent_fits t q G m e = kinded_as (channel_kind t q e) (type_of (kinds_of G) (m e))

unfoldable pub sent_check : List ℕ → ℕ → List ℕ → (ℕ → List ℕ) → ℕ → Answer ⊤
sent_check t q G m count =
    if_read (leb count message_room) (all_below count (sent_typed G m))
    (fit_check count (width_of t q) (all_below count (sent_fits t q G m)))

unfoldable pub send_check_on : List ℕ → ℕ → ℕ → (ℕ → List ℕ) → ℕ → Answer ⊤
send_check_on t g q m count = known_check t g q then sent_check t q (graph_part t g) m count

abbrev pub send_part : List ℕ → ℕ → (ℕ → List ℕ) → ℕ → Outcome (Answer ℕ)
send_part t g m count = on_part (λ (G : List ℕ). new_send_of G m count) t g

unfoldable pub new_send_on : List ℕ → ℕ → Channel → (ℕ → List ℕ) → ℕ → Outcome (Answer ℕ)
new_send_on t g q m count =
    only_if Err (send_check_on t g q.0 m count) t
    (telling g (On Send q) (send_part t g m count))

-- ---- a receive into these variables
unfoldable pub received_fits : List ℕ → ℕ → List ℕ → Vars → ℕ → Bool
received_fits t q G v e = eqb (kind_at G (handed_var v e)) (channel_kind t q e)

unfoldable pub received_check : List ℕ → ℕ → List ℕ → Vars → Answer ⊤
received_check t q G v =
    if_read (leb v.count message_room) (all_below v.count (var_known G v))
    (fit_check v.count (width_of t q) (all_below v.count (received_fits t q G v)))

unfoldable pub receive_check_on : List ℕ → ℕ → ℕ → Vars → Answer ⊤
receive_check_on t g q v = known_check t g q then received_check t q (graph_part t g) v

abbrev pub receive_part : List ℕ → ℕ → Vars → Outcome (Answer ℕ)
receive_part t g v = on_part (λ (G : List ℕ). new_receive_of G v) t g

unfoldable pub new_receive_on : List ℕ → ℕ → Channel → Vars → Outcome (Answer ℕ)
new_receive_on t g q v =
    only_if Err (receive_check_on t g q.0 v) t
    (telling g (On Receive q) (receive_part t g v))

-- ---- a probe, of an empty queue or of a full one, carries no values: in its graph it is a send of none
abbrev pub no_values : ℕ → List ℕ
no_values = chosen [] [] [] []

unfoldable pub new_probe_on : List ℕ → ℕ → Message → Channel → Outcome (Answer ℕ)
new_probe_on t g k q =
    only_if Err (known_check t g q.0) t (telling g (On k q) (send_part t g no_values 0))
