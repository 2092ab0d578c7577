-- Actions that a call puts in a graph of a system: what the graph's own calls say of them, and their communications.
use Rattle.graph_tables.specs.Answers.{Answer, admitted}
use Rattle.std.specs.Prelude.{Ok, Err, ⊤}
use Prim.Native.Nat.{ℕ, ◌<◌}
use mathlib.Core.Path.{◌≡◌, refl, ap, ◌∙◌}
use mathlib.Core.Bool.{true}
use mathlib.Core.List.{List}
use native.Mathlib.Omega.{arith}
use Rattle.graph_tables.specs.Sizes.{action_room}
use Rattle.graph_tables.specs.Formed.{well_formed}
use Rattle.graph_tables.proofs.SoundLaws.{sound}
use Rattle.graph_tables.specs.declared.handed.Vars.{Vars}
use Rattle.graph_checks.specs.Checks.{action_check, send_check, receive_check}
use Rattle.graph_checks.proofs.ReadyParts.{action_ready}
use Rattle.graph_checks.proofs.ReadyActions.{send_ready, receive_ready}
use Rattle.graph_builder.specs.Building.{Outcome, placed_if, new_action_of, new_send_of, new_receive_of}
use Rattle.graph_builder.proofs.FormedCalls.{action_stays, send_stays, receive_stays}
use Rattle.system_tables.specs.Sizes.{graph_room}
use Rattle.system_tables.specs.Words.{SystemWords, graph_count, graph_part}
use Rattle.system_tables.specs.Formed.{graph_formed}
use Rattle.system_tables.proofs.FrameLaws.{with_graph_elsewhere}
use Rattle.system_tables.proofs.KeptLaws.{Formed, apart}
use Rattle.system_builder.specs.Graphs.{member_check, on_part, placed_on}
use Rattle.system_builder.proofs.SystemLaws.{member_ready}

-- the number of a part that was placed
abbrev number_in : Answer ℕ → ℕ
number_in (Ok n) = n
number_in (Err r) = 0

pub placed_at : (c : Answer ⊤) (t : List ℕ) (n : ℕ) (u : List ℕ) (a : ℕ) → (placed_if c t n u).answer ≡ Ok a → (c ≡ admitted) × (n ≡ a)
placed_at (Ok _) t n u a e = (refl, ap number_in e)
placed_at (Err r) t n u a e = let z : ◌≡◌ {A = ℕ} 0 1 = cc in absurd (omega arith)

-- ---- a graph's call that puts an action in it leaves as many words, and the action is one of those that there is room for
abbrev pub PutsAction : (List ℕ → Outcome (Answer ℕ)) → Type 0
PutsAction call = (G : List ℕ) → well_formed G true ≡ true
    → (well_formed (call G).table true ≡ true) × ((a : ℕ) → (call G).answer ≡ Ok a → a < action_room)

pub action_puts : PutsAction new_action_of
unfolding new_action_of
action_puts G h =
    (action_stays G h, λ a e. let p = placed_at (action_check G) _ _ _ a e in omega (arith, p.1, (action_ready G p.0).1))

pub send_puts : (m : ℕ → List ℕ) (count : ℕ) → PutsAction (λ (G : List ℕ). new_send_of G m count)
unfolding new_send_of
send_puts m count G h =
    (send_stays G h m count, λ a e. let p = placed_at (send_check G m count) _ _ _ a e in omega (arith, p.1, (send_ready G m count p.0).room))

pub receive_puts : (v : Vars) → PutsAction (λ (G : List ℕ). new_receive_of G v)
unfolding new_receive_of
receive_puts v G h =
    (receive_stays G h v, λ a e. let p = placed_at (receive_check G v) _ _ _ a e in omega (arith, p.1, (receive_ready G v p.0).room))

-- ---- so in a system its communication has a word
pub part_formed : (t : List ℕ) (g : ℕ) → Formed t true → g < graph_count t → well_formed (graph_part t g) true ≡ true
unfolding graph_formed
part_formed t g f l = f.graph g l

abbrev pub HasWord : List ℕ → ℕ → Answer ℕ → Type 0
HasWord t g placed = (a : ℕ) → placed ≡ Ok a → SystemWords t × (g < graph_room) × (a < action_room)

pub has_word : (call : List ℕ → Outcome (Answer ℕ)) → PutsAction call → (t : List ℕ) (g : ℕ) → member_check t g ≡ admitted
    → HasWord (on_part call t g).table g (on_part call t g).answer
has_word call puts t g h a e =
    let r = member_ready t g h in
    let f = apart t true r.0 in
    let p = puts (graph_part t g) (part_formed t g f r.1) in
    let small : g < graph_room = omega (arith, r.1, f.graphs) in
    ((with_graph_elsewhere t (call (graph_part t g)).table f.words g small (sound _ true p.0).words).sizes ∙ f.words, small, p.1 a e)

-- of a call that asks for the graph first
pub checked_word : (call : List ℕ → Outcome (Answer ℕ)) → PutsAction call → (t : List ℕ) (g : ℕ)
    → HasWord (placed_on call t g).table g (placed_on call t g).answer
checked_word call puts t g = by (member_check t g) refl
  where
    by : (c : Answer ⊤) → member_check t g ≡ c → HasWord (placed_on call t g).table g (placed_on call t g).answer
    by (Ok _) h = rw h (has_word call puts t g h)
    by (Err r) h = rw h (λ a e. let z : ◌≡◌ {A = ℕ} 0 1 = cc in absurd (omega arith))
