-- What a replay answers is so, over the public calls alone; and what is demanded of a chain of calls holds where some of them are replays.
use Rattle.graph_tables.specs.Answers.{answer_number}
use Rattle.replays.specs.declared.answers.ReplayError.{ReplayError}
use Rattle.std.specs.declared.result.Result.{Result}
use Rattle.std.specs.Prelude.{Ok, Err}
use Prim.Native.Nat.{ℕ, suc, ◌+◌, ◌<◌}
use mathlib.Core.Path.{◌≡◌, refl, sym, ap, ◌∙◌, subst}
use mathlib.Core.Bool.{true, false, cond}
use mathlib.Core.List.{List, [], ◌∷◌, ◌++◌}
use native.Mathlib.Omega.{arith}
use lib.ListN.{length}
use Rattle.laws.proofs.Ladder.{stopped}
use Rattle.graph_tables.specs.Refusals.{refusal}
use Rattle.graph_tables.specs.declared.refusals.Refusal.{Refusal}
use Rattle.program_graph.specs.Facts.{Accepted}
use Rattle.channel_system.specs.Steps.{system_fits}
use Rattle.channel_system.specs.Instances.{new_instance_of}
use Rattle.channel_system.specs.Readers.{now_of}
use Rattle.channel_system.specs.Chains.{Call, read, time, state_after, state_after_all}
use Rattle.channel_system.specs.Demand.{Demanded}
use Rattle.channel_system.proofs.Demand.{demand_from_new}
use Rattle.recordings.specs.Blocks.{blocks_in, good_at, entries_from, entries_in}
use Rattle.replays.specs.Replay.{given_to, Played, played, is_finished, blocks_played, all_played, replay_of}
use Rattle.replays.specs.Recorded.{calls_of, after_all, Agreed, Says}
use Rattle.replays.specs.Made.{Made, call, replay, state_after_made, calls_made, state_after_made_all, calls_made_all}
use Rattle.replays.proofs.PlayLaws.{replay_known, replay_unknown}
use Rattle.replays.proofs.Walks.{Goods, goods_at, BlocksSay, blocks_say, by_test}

-- ---- what a replay says
good_below : (bytes : List ℕ) (n : ℕ) → Goods bytes 0 n → (k : ℕ) → k < n → good_at bytes k ≡ true
good_below bytes n h k l = let e : 0 + k ≡ k = omega arith in ap (λ (j : ℕ). good_at bytes j) (sym e) ∙ goods_at bytes 0 n h k l

from_front : (t s bytes : List ℕ) (r : Result ℕ ReplayError) (u : List ℕ) → BlocksSay t s bytes 0 0 (blocks_in (length bytes)) r u
    → Says t s bytes r (cond (is_finished r) u s)
from_front t s bytes (Ok n) u k =
    record { good = good_below bytes (blocks_in (length bytes)) k.0; agreed = k.1; count = omega (arith, k.2); state = k.3 }
from_front t s bytes (Err (ReplayError.BadBlock b)) u k =
    let e : k.past ≡ b = omega (arith, k.place) in (
      refl,
      record {
        there = omega (arith, k.there, k.place);
        good = λ j l. good_below bytes k.past k.good j (omega (arith, e));
        agreed = subst (λ (n : ℕ). Agreed t s (entries_from bytes 0 n)) e k.agreed;
        bad = k.bad;
      },
    )
from_front t s bytes (Err (ReplayError.Differs d)) u k =
    let e : k.past ≡ d.block = omega (arith, k.place) in (
      refl,
      record {
        there = omega (arith, k.there, k.place);
        good = λ j l. good_below bytes (suc k.past) k.good j (omega (arith, e));
        earlier = k.earlier;
        named = k.named;
        later = k.later;
        split = k.split;
        place = k.entry;
        agreed = subst (λ (n : ℕ). Agreed t s (entries_from bytes 0 n ++ k.earlier)) e k.agreed;
        recorded = k.recorded;
        given = k.given ∙ ap (λ (n : ℕ). given_to t (after_all t s (entries_from bytes 0 n ++ k.earlier)) k.named) e;
        differ = k.differ;
      },
    )
from_front t s bytes (Err (ReplayError.Refused r)) u k = absurd k

-- A replay that finishes has made the calls that the bytes read as, one after the other, each answering as recorded. A bad block is the first
-- one, and the records before it answer as recorded. A difference is the first one. A finding leaves every word of the state, and 32 is
-- given exactly where a call would give it.
pub replay_says : (t s bytes : List ℕ) → Says t s bytes (replay_of t s bytes).answer (replay_of t s bytes).state
replay_says t s bytes =
    by_test (system_fits t s)
    (λ h. subst (λ (p : Played). Says t s bytes p.answer p.state) (sym (replay_known t s bytes h))
    (from_front t s bytes (all_played t s bytes).answer (all_played t s bytes).state
    (blocks_say t s bytes 0 0 (blocks_in (length bytes)))))
    (λ h. subst (λ (p : Played). Says t s bytes p.answer p.state) (sym (replay_unknown t s bytes h)) (refl, refl, h))

-- No bytes: accepted, and nothing moves.
pub replay_empty : (t s : List ℕ) → system_fits t s ≡ true → replay_of t s [] ≡ played (Ok 0) s
unfolding blocks_played blocks_in
replay_empty t s h = replay_known t s [] h

-- ---- chains
after_joined : (t s : List ℕ) (xs ys : List Call) → state_after_all t s (xs ++ ys) ≡ state_after_all t (state_after_all t s xs) ys
after_joined t s [] ys = refl
after_joined t s (x ∷ xs) ys = after_joined t (state_after t s x) xs ys

replayed_calls : (t s bytes : List ℕ) (r : Result ℕ ReplayError) (u : List ℕ) → Says t s bytes r u
    → u ≡ state_after_all t s (cond (is_finished r) (calls_of (entries_in bytes)) [])
replayed_calls t s bytes (Ok n) u k = k.state
replayed_calls t s bytes (Err (ReplayError.BadBlock b)) u k = k.0
replayed_calls t s bytes (Err (ReplayError.Differs d)) u k = k.0
replayed_calls t s bytes (Err (ReplayError.Refused r)) u k = k.0

-- A call or a replay leaves the state of the calls that it makes,
pub one_made : (t s : List ℕ) (m : Made) → state_after_made t s m ≡ state_after_all t s (calls_made t s m)
one_made t s (call c) = refl
one_made t s (replay bytes) = replayed_calls t s bytes (replay_of t s bytes).answer (replay_of t s bytes).state (replay_says t s bytes)

-- and so does a chain.
pub made_state : (t s : List ℕ) (ms : List Made) → state_after_made_all t s ms ≡ state_after_all t s (calls_made_all t s ms)
made_state t s [] = refl
made_state t s (m ∷ ms) =
    made_state t (state_after_made t s m) ms
    ∙ (ap (λ (u : List ℕ). state_after_all t u (calls_made_all t (state_after_made t s m) ms)) (one_made t s m)
    ∙ sym (after_joined t s (calls_made t s m) (calls_made_all t (state_after_made t s m) ms)))

-- From whatever state `new_instance` makes, after any calls and replays with any arguments, all that is demanded of the calls that they make
-- holds of the state that they leave.
pub demand_with_replays : (t s : List ℕ) → Accepted (new_instance_of t s).answer → (ms : List Made)
    → (state_after_made_all t (new_instance_of t s).state ms
    ≡ state_after_all t (new_instance_of t s).state (calls_made_all t (new_instance_of t s).state ms))
    × Demanded t (new_instance_of t s).state (calls_made_all t (new_instance_of t s).state ms)
demand_with_replays t s ok ms =
    let u = (new_instance_of t s).state in
    (made_state t u ms, demand_from_new t s ok (calls_made_all t u ms))

-- a state at which the time is told passes the test behind 32
told_fits : (t s : List ℕ) → system_fits t s ≡ false → answer_number (now_of t s) ≡ 32
unfolding now_of
told_fits t s h = ap answer_number (sym (stopped (Err (refusal 32)) (Ok _) h))

refused_only : (t s bytes : List ℕ) (r : Result ℕ ReplayError) (u : List ℕ) → Says t s bytes r u → {x : Refusal} → r ≡ Err (ReplayError.Refused x) → system_fits t s ≡ false
refused_only t s bytes (Ok n) u k e = let z : ◌≡◌ {A = ℕ} 0 1 = cc in absurd (omega arith)
refused_only t s bytes (Err (ReplayError.BadBlock b)) u k e = let z : ◌≡◌ {A = ℕ} 0 1 = cc in absurd (omega arith)
refused_only t s bytes (Err (ReplayError.Differs d)) u k e = let z : ◌≡◌ {A = ℕ} 0 1 = cc in absurd (omega arith)
refused_only t s bytes (Err (ReplayError.Refused r)) u k e = k.2

-- After them no replay answers 32, whatever its bytes.
pub replay_not_refused : (t s : List ℕ) → Accepted (new_instance_of t s).answer → (ms : List Made) (bytes : List ℕ) (r : Refusal)
    → (replay_of t (state_after_made_all t (new_instance_of t s).state ms) bytes).answer ≡ Err (ReplayError.Refused r) → ⊥
replay_not_refused t s ok ms bytes r e =
    let u = (new_instance_of t s).state in
    let v = state_after_made_all t u ms in
    let known = (demand_from_new t s ok (calls_made_all t u ms)).known (read time) in
    known (ap (λ (x : List ℕ). answer_number (now_of t x)) (sym (made_state t u ms))
    ∙ told_fits t v (refused_only t v bytes (replay_of t v bytes).answer (replay_of t v bytes).state (replay_says t v bytes) e))
