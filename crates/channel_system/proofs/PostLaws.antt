-- Laws of the posts of a step: their locations, and that of more posts than a run ever has processes the number alone counts.
use Prim.Native.Nat.{ℕ, zero, suc, ◌+◌, ◌%◌, ◌<◌, ◌≤◌}
use mathlib.Core.Path.{◌≡◌, refl, sym, ap, ◌∙◌}
use mathlib.Core.Bool.{Bool, true, false, not, cond}
use mathlib.Core.List.{List, [], ◌∷◌}
use native.Mathlib.Omega.{arith}
use native.Mathlib.Decide.{dec_lt}
use lib.Dec.{eqb, leb}
use lib.ListN.{length, get_or, set, take}
use lib.Seq.{ext_get_or, get_or-take, length-take-le, take-length, get_or-set_same, get_or-set_other}
use borrow.Author.Tests.{le-leb, lt-leb, leb-true, leb-false, ne_eqb}
use Rattle.laws.specs.Ladder.{unless}
use Rattle.laws.proofs.Ladder.{stopped}
use Rattle.laws.proofs.Copies.{one_more}
use Rattle.graph_tables.specs.Sizes.{process_room, word32}
use Rattle.graph_tables.specs.Words.{epsilon}
use Rattle.graph_tables.specs.declared.handed.Message.{Message}
use Rattle.run_steps.specs.Messages.{no_message}
use Rattle.program_graph.specs.declared.record.ProgramGraphRun.{ProgramGraphRun}
use Rattle.program_graph.specs.Running.{refused}
use Rattle.program_graph.specs.Outcomes.{RunOutcome, Sent}
use Rattle.program_graph.specs.Running.{step_of}
use Rattle.program_graph.specs.Messaging.{refused_send, sent_of, received_of}
use Rattle.system_tables.specs.Words as System
use Rattle.system_tables.specs.declared.ids.Communication.{Communication}
use Rattle.system_tables.specs.declared.ids.Communication.TheVariants.{Plain, On}
use Rattle.system_tables.specs.declared.ids.Message as Kind
use Rattle.system_tables.specs.declared.ids.Message.TheVariants.{Send, Receive, ProbeEmptyQueue, ProbeFullQueue}
use Rattle.channel_system.specs.Steps.{locations_of, few_posts, few_of, run_of, ran_to}
use Rattle.channel_system.specs.Steps.{sent_into, oldest_in, taken_from, no_event, event_of}
use Rattle.channel_system.specs.Steps.{told_if, plain_step, send_step, receive_step}
use Rattle.channel_system.specs.Steps.{probe_step, message_step, open_if, channel_answer, step_as}

-- ---- locations, one for each post
pub locations_length : (ps : List ℕ) → length (locations_of ps) ≡ length ps
unfolding locations_of
locations_length [] = refl
locations_length (p ∷ ps) = ap suc (locations_length ps)

pub location_at : (ps : List ℕ) (i : ℕ) → i < length ps → get_or (locations_of ps) i 0 ≡ get_or ps i 0 % word32
unfolding locations_of
location_at [] i l = absurd (omega arith)
location_at (p ∷ ps) zero l = refl
location_at (p ∷ ps) (suc i) l = location_at ps i (omega arith)

-- ---- the first n elements are those of another list
abbrev pub Copied : List ℕ → List ℕ → ℕ → Type 0
Copied to from n = (j : ℕ) → j < n → get_or to j 0 ≡ get_or from j 0

pub copied_more : (to from : List ℕ) (n x : ℕ) → Copied to from n → n < length to → x ≡ get_or from n 0 → Copied (set to n x) from (n + 1)
copied_more to from n x f l e =
    one_more (λ j. get_or (set to n x) j 0 ≡ get_or from j 0) n (λ j m. get_or-set_other to n j x 0 (λ q. omega arith) ∙ f j m)
    (get_or-set_same to n x 0 l ∙ e)

pub take_copied : (to from : List ℕ) (n : ℕ) → Copied to from n → n ≤ length to → n ≤ length from → take n to ≡ take n from
take_copied to from n f a b =
    ext_get_or 0 (take n to) (take n from) (length-take-le n to a ∙ sym (length-take-le n from b))
    (λ i l.
    let m : i < n = omega (arith, length-take-le n to a) in
    get_or-take n to i 0 m ∙ f i m ∙ sym (get_or-take n from i 0 m))

-- ---- no more posts than there are, and no more than there is room for
few_cases : (n : ℕ) (b : Bool) → leb few_posts n ≡ b → (cond b few_posts n ≤ n) × (cond b few_posts n ≤ few_posts)
few_cases n true e = (leb-true few_posts n e, omega arith)
few_cases n false e = (omega arith, omega (arith, leb-false few_posts n e))

pub few_bounds : (n : ℕ) → (few_of n ≤ n) × (few_of n ≤ few_posts)
unfolding few_of
few_bounds n = few_cases n (leb few_posts n) refl

-- ---- of few posts all are looked at, of many one more than there are processes
module _ (ps : List ℕ) where
  abbrev pub looked : List ℕ
  looked = take (few_of (length ps)) ps

  few_all : length ps < few_posts → looked ≡ ps
  unfolding few_of
  few_all l = rw (lt-leb few_posts (length ps) l) (take-length ps)

  few_long : few_posts ≤ length ps → length looked ≡ few_posts
  unfolding few_of
  few_long l = rw (le-leb few_posts (length ps) l) (length-take-le few_posts ps l)

  -- what is the same for every list of another length than there are processes is the same for the posts that are looked at
  pub few_same : {A : Type 0} (f : List ℕ → A) (n : ℕ) (x : A) → n ≤ process_room → ((qs : List ℕ) → (length qs ≡ n → ⊥) → f qs ≡ x)
      → f looked ≡ f ps
  few_same f n x h stop = by (dec_lt (length ps) few_posts)
    where
      by : Dec (length ps < few_posts) → f looked ≡ f ps
      by (yes l) = ap f (few_all l)
      by (no m) =
          stop looked (λ e. omega (arith, few_long (omega arith), h)) ∙ sym (stop ps (λ e. omega (arith, h)))

-- ---- so a graph's calls answer the same
module _ (t : List ℕ) (run : ProgramGraphRun) (few : run.processes ≤ process_room) (a : ℕ) (ps : List ℕ) where
  step_few : (word : ℕ) → step_of t run a (looked ps) word ≡ step_of t run a ps word
  unfolding step_of
  step_few word = few_same ps (λ qs. step_of t run a qs word) run.processes _ few (λ qs h. sym (stopped _ _ (ne_eqb _ _ h)))

  send_few : (word : ℕ) → sent_of t run a (looked ps) word ≡ sent_of t run a ps word
  unfolding sent_of
  send_few word =
      few_same ps (λ qs. sent_of t run a qs word) run.processes _ few
      (λ qs h. ap (unless (not (eqb a epsilon)) (refused_send 14 run)) (sym (stopped (refused_send 7 run) _ (ne_eqb _ _ h))))

  receive_few : (m : Message) → received_of t run a (looked ps) m ≡ received_of t run a ps m
  unfolding received_of
  receive_few m =
      few_same ps (λ qs. received_of t run a qs m) run.processes _ few
      (λ qs h. ap (unless (not (eqb a epsilon)) (refused 15 run)) (sym (stopped (refused 7 run) _ (ne_eqb _ _ h))))

-- ---- and so does a step of the system
module _ (t s : List ℕ) (g : ℕ) (few : (run_of s g).processes ≤ process_room) (a : ℕ) (ps : List ℕ) (word : ℕ) where
  abbrev G : List ℕ
  G = System.graph_part t g

  plain_few : plain_step t s g a (looked ps) word ≡ plain_step t s g a ps word
  unfolding plain_step
  plain_few = ap (λ (d : RunOutcome). told_if d.answer g s (no_event g) (ran_to t s g d.run)) (step_few G (run_of s g) few a ps word)

  message_few : (q : ℕ) (m : Kind.Message) → message_step t s g a (looked ps) word q m ≡ message_step t s g a ps word q m
  unfolding send_step receive_step probe_step
  message_few q Send =
      ap (λ (d : Sent). told_if d.answer g s (event_of g Send q d.message) (sent_into t (ran_to t s g d.run) q d.message))
      (send_few G (run_of s g) few a ps word)
  message_few q Receive =
      ap (λ (d : RunOutcome). told_if d.answer g s (event_of g Receive q (oldest_in t s q)) (taken_from t (ran_to t s g d.run) q))
      (receive_few G (run_of s g) few a ps (oldest_in t s q))
  message_few q ProbeEmptyQueue =
      ap (λ (d : Sent). told_if d.answer g s (event_of g ProbeEmptyQueue q no_message) (ran_to t s g d.run))
      (send_few G (run_of s g) few a ps word)
  message_few q ProbeFullQueue =
      ap (λ (d : Sent). told_if d.answer g s (event_of g ProbeFullQueue q no_message) (ran_to t s g d.run))
      (send_few G (run_of s g) few a ps word)

  pub few_posts_lem : (c : Communication) → step_as t s g a (looked ps) word c ≡ step_as t s g a ps word c
  few_posts_lem Plain = plain_few
  few_posts_lem (On m q) = ap (open_if (channel_answer t s q.0 m) g s) (message_few q.0 m)
