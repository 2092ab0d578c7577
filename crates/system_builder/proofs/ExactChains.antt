-- The calls of a graph's own, made on it one after the other, make it in the system as they make it alone.
use Prim.Native.Nat.{ℕ, ◌+◌, ◌<◌, ◌≤◌}
use mathlib.Core.Path.{◌≡◌, refl, sym, ap, subst, ◌∙◌}
use mathlib.Core.Bool.{true}
use mathlib.Core.List.{List, [], ◌∷◌}
use native.Mathlib.Nat.{le_refl, lt_of_lt_of_le}
use native.Mathlib.Decide.{ℕ_discrete}
use native.Mathlib.Omega.{arith}
use Rattle.graph_tables.specs.Words.{action_count}
use Rattle.graph_tables.specs.Formed.{well_formed}
use Rattle.graph_tables.proofs.SoundLaws.{sound}
use Rattle.graph_builder.specs.Chains as Own
use Rattle.graph_builder.specs.Built.{AllAccepted as OwnAccepted}
use Rattle.graph_builder.specs.Reading.{graph_of}
use Rattle.graph_builder.proofs.KeptParts.{counts_kept}
use Rattle.graph_builder.proofs.Theorems as own
use Rattle.system_tables.specs.Words.{graph_count, channel_count, graph_part, communication_at, communication_of, channel_part}
use Rattle.system_tables.specs.Formed.{system_formed}
use Rattle.system_tables.specs.Sound.{MessageSound, ProbeSound, CommunicationSound}
use Rattle.system_tables.proofs.FrameLaws.{CommunicationsSame, GraphSame}
use Rattle.system_tables.proofs.KeptLaws.{Formed, apart, MessageSame, ActionSame, same_action}
use Rattle.system_builder.specs.Chains.{OnGraph, after_on, answer_on, Fits, own_call, Call, call_on_graph, after_all, AllFit}
use Rattle.system_builder.specs.Built.{AllAccepted, made_on, actions_after, all_on}
use Rattle.system_builder.proofs.ActionLaws.{part_formed}
use Rattle.system_builder.proofs.Theorems.{others_stay}
use Rattle.system_builder.proofs.SameActions.{after_same}
use Rattle.system_builder.proofs.StaysLaws.{ChannelStays, action_then, channel_then}
use Rattle.system_builder.proofs.KeptTheorems.{keeps_formed}
use Rattle.system_builder.proofs.AfterCalls.{After, refused, acted, after_on_lem, told_word}
use Rattle.system_builder.proofs.MeaningTheorems.{meaning_stays}
use Rattle.system_builder.proofs.ExactLifts.{count_after, Telling, none, one, Lifts, lifts}

-- ---- the same action: either way, and what its communication says
message_back_lem : {G H : List ℕ} {a : ℕ} → MessageSame G H a → MessageSame H G a
message_back_lem x = record { count = sym x.count; kind = λ e l. sym (x.kind e (rw (sym x.count) l)) }

action_back : {G H : List ℕ} {a : ℕ} → ActionSame G H a → ActionSame H G a
action_back x = record {
  plain = sym x.plain;
  send = sym x.send;
  receive = sym x.receive;
  sent = λ h. message_back_lem (x.sent (sym x.send ∙ h));
  received = λ h. message_back_lem (x.received (sym x.receive ∙ h));
}

module _ {G H : List ℕ} {a : ℕ} (act : ActionSame G H a) where
  message_too : (t : List ℕ) (q : ℕ) → MessageSame G H a → MessageSound t q G a → MessageSound t q H a
  message_too t q same x = record {
    count = same.count ∙ x.count;
    kind = λ e l. same.kind e (rw x.count l) ∙ x.kind e l;
  }

  probe_too : ProbeSound G a → ProbeSound H a
  probe_too x = record { send = act.send ∙ x.send; none = (act.sent x.send).count ∙ x.none }

  pub sound_too : (t : List ℕ) (w : ℕ) → CommunicationSound t w G a → CommunicationSound t w H a
  sound_too t w s = record {
    plain = λ e. act.plain ∙ s.plain e;
    channel = s.channel;
    low = s.low;
    high = s.high;
    send = λ e. let x = s.send e in (act.send ∙ x.0, message_too t (channel_part w) (act.sent x.0) x.1);
    receive = λ e. let x = s.receive e in (act.receive ∙ x.0, message_too t (channel_part w) (act.received x.0) x.1);
    empty = λ e. probe_too (s.empty e);
    full = λ e. probe_too (s.full e);
  }

-- an action stays what it is, whatever calls come
actions_stay : (G : List ℕ) (calls : List Own.Call) → Own.AllFit calls → well_formed G true ≡ true → (a : ℕ) → a < action_count G
    → (a < action_count (Own.after_all G calls)) × ActionSame G (Own.after_all G calls) a
actions_stay G [] fit h a l = (l, same_action G a)
actions_stay G (c ∷ calls) fit h a l =
    let more : action_count G ≤ action_count (Own.after G c) = (counts_kept G (Own.after G c) (own.parts_stay G c fit.0)).3 in
    let rest = actions_stay (Own.after G c) calls fit.1 (own.stays_formed G c fit.0 h) a (lt_of_lt_of_le l more) in
    (rest.0, action_then (after_same G h c fit.0 a l) rest.1)

-- ---- numbers
before_last : (a n m : ℕ) → a < m → m ≡ n + 1 → (a ≡ n → ⊥) → a < n
before_last a n m l e other = omega (arith, other)

one_less : (n m : ℕ) → m ≡ n + 1 → n < m
one_less n m e = omega arith

-- ---- u has graph g of t: it reads the same, and has the same communications
pub record GraphHas (t u : List ℕ) (g : ℕ) : Type 0 where
  pub parts : graph_of (graph_part u g) ≡ graph_of (graph_part t g)
  pub told : (a : ℕ) → a < action_count (graph_part t g) → communication_at u g a ≡ communication_at t g a

-- u is a well-formed system that has the first m channels of t, no others, and its first n graphs
pub record Has (t u : List ℕ) (m n : ℕ) : Type 0 where
  pub formed : system_formed u true ≡ true
  pub channels : channel_count u ≡ m
  pub channel : (q : ℕ) → q < m → ChannelStays t u q
  pub graph : (g : ℕ) → g < n → GraphHas t u g

-- the actions of graph g in u have communications as in t
abbrev pub Told : List ℕ → List ℕ → ℕ → Type 0
Told t u g = (a : ℕ) → a < action_count (graph_part u g) → communication_at u g a ≡ communication_at t g a

-- they are as they would be to the actions of F
abbrev pub Ends : List ℕ → ℕ → List ℕ → Type 0
Ends t g F = (a : ℕ) → a < action_count F → CommunicationSound t (communication_at t g a) F a

module _ (t : List ℕ) (f : Formed t true) where
  -- a graph whose words and communications are the same
  pub graph_has : (u v : List ℕ) (g : ℕ) → g < graph_count t → GraphSame u v g → CommunicationsSame u v g → GraphHas t u g → GraphHas t v g
  graph_has u v g l same each x = record {
    parts = ap graph_of same ∙ x.parts;
    told = λ a k. each a (lt_of_lt_of_le k (sound (graph_part t g) true (part_formed t g f l)).counts.actions) ∙ x.told a k;
  }

  -- ---- a call on a graph behind those
  on_has : (u : List ℕ) (m n g : ℕ) (c : OnGraph) → Fits c → n ≤ graph_count t → n ≤ g → Has t u m n → Has t (after_on u g c) m n
  on_has u m n g c fit low out x =
      let o = others_stay u g c fit (apart u true x.formed).words in
      record {
        formed = keeps_formed u (call_on_graph g c) fit x.formed;
        channels = o.counts.channels ∙ x.channels;
        channel = λ q l.
            channel_then q (x.channel q l) ((meaning_stays u (call_on_graph g c) fit x.formed).channel q (omega (arith, l, x.channels)));
        graph = λ i l.
            let other : i ≡ g → ⊥ = λ e. omega (arith, l, out, e) in
            let known : i < graph_count t = omega (arith, l, low) in
            graph_has u (after_on u g c) i known (o.graph i (lt_of_lt_of_le known f.graphs) other) (o.communications i other)
            (x.graph i l);
      }

  module _ (g : ℕ) (low : g ≤ graph_count t) where
    -- ---- one call
    pub record Moves (u : List ℕ) (c : Own.Call) (d : OnGraph) : Type 0 where
      pub part : graph_part (after_on u g d) g ≡ Own.after (graph_part u g) c
      pub told : Told t (after_on u g d) g

    moves : (u : List ℕ) (c : Own.Call) (d : OnGraph) → system_formed u true ≡ true → Told t u g → Lifts t u g c d → Moves u c d
    moves u c d h before x = by (after_on_lem u (apart u true h) g d x.fit)
      where
        by : After u (after_on u g d) g (own_call d) (answer_on u g d) → Moves u c d
        by (refused e m) = absurd (omega (arith, m, x.ok))
        by (acted k part old e) = record { part = part ∙ x.same; told = each x.tells }
          where
            same : action_count (graph_part (after_on u g d) g) ≡ action_count (Own.after (graph_part u g) c)
            same = ap action_count (part ∙ x.same)

            each : Telling t u g c d → Told t (after_on u g d) g
            each (none count) a l = let k = subst (λ (n : ℕ). a < n) (same ∙ count) l in old a k ∙ before a k
            each (one count m tells word) a l = here (ℕ_discrete a (action_count (graph_part u g)))
              where
                here : Dec (a ≡ action_count (graph_part u g)) → communication_at (after_on u g d) g a ≡ communication_at t g a
                here (yes p) = rw p (told_word u (apart u true h) g d m tells x.ok ∙ word)
                here (no other) =
                    let k = before_last a (action_count (graph_part u g)) _ l (same ∙ count) other in
                    old a k ∙ before a k

    -- ---- one after the other
    -- u is ready for these calls: they are what is left of those that make graph g
    pub record Ready (u : List ℕ) (n : ℕ) (alone : List Own.Call) : Type 0 where
      pub has : Has t u (channel_count t) g
      pub there : g < graph_count u
      pub told : Told t u g
      pub count : n ≡ action_count (graph_part u g)
      pub fit : Own.AllFit alone
      pub accepted : OwnAccepted (graph_part u g) alone
      pub ends : Ends t g (Own.after_all (graph_part u g) alone)

    -- they have been made
    pub record Made (u : List ℕ) (alone : List Own.Call) (calls : List Call) : Type 0 where
      pub fit : AllFit calls
      pub accepted : AllAccepted u calls
      pub has : Has t (after_all u calls) (channel_count t) g
      pub count : graph_count (after_all u calls) ≡ graph_count u
      pub part : graph_part (after_all u calls) g ≡ Own.after_all (graph_part u g) alone
      pub told : Told t (after_all u calls) g

    module _ (u : List ℕ) (n : ℕ) (c : Own.Call) (alone : List Own.Call) (r : Ready u n (c ∷ alone)) where
      abbrev G : List ℕ
      G = graph_part u g

      abbrev d : OnGraph
      d = made_on (communication_of t g n) c

      formed : well_formed G true ≡ true
      formed = part_formed u g (apart u true r.has.formed) r.there

      counted : action_count (Own.after G c) ≡ actions_after (action_count G) c
      counted = count_after G c r.fit.0 r.accepted.0

      -- the action that is added stays what it is to the end
      told_of_lem : actions_after (action_count G) c ≡ action_count G + 1
          → CommunicationSound t (communication_at t g (action_count G)) (Own.after G c) (action_count G)
      told_of_lem more =
          let new : action_count G < action_count (Own.after G c) = one_less _ _ (counted ∙ more) in
          let end = actions_stay (Own.after G c) alone r.fit.1 (own.stays_formed G c r.fit.0 formed) (action_count G) new in
          sound_too (action_back end.1) t (communication_at t g (action_count G)) (r.ends (action_count G) end.0)

      step : Lifts t u g c d
      step =
          subst (λ (k : ℕ). Lifts t u g c (made_on (communication_of t g k) c)) (sym r.count)
          (lifts t u g r.has.formed r.there r.has.channels r.has.channel c r.fit.0 r.accepted.0 told_of_lem)

      move : Moves u c d
      move = moves u c d r.has.formed r.told step

      stay : graph_count (after_on u g d) ≡ graph_count u
      stay = (others_stay u g d step.fit (apart u true r.has.formed).words).counts.graphs

      then_ready : Ready (after_on u g d) (actions_after n c) alone
      then_ready = record {
        has = on_has u (channel_count t) g g d step.fit low (le_refl g) r.has;
        there = subst (λ (k : ℕ). g < k) (sym stay) r.there;
        told = move.told;
        count = ap (λ (k : ℕ). actions_after k c) r.count ∙ sym counted ∙ sym (ap action_count move.part);
        fit = r.fit.1;
        accepted = subst (λ (H : List ℕ). OwnAccepted H alone) (sym move.part) r.accepted.1;
        ends = subst (λ (H : List ℕ). Ends t g (Own.after_all H alone)) (sym move.part) r.ends;
      }

      then_made : Made (after_on u g d) alone (all_on t g (actions_after n c) alone) → Made u (c ∷ alone) (all_on t g n (c ∷ alone))
      then_made rest = record {
        fit = (step.fit, rest.fit);
        accepted = (step.ok, rest.accepted);
        has = rest.has;
        count = rest.count ∙ stay;
        part = rest.part ∙ ap (λ (H : List ℕ). Own.after_all H alone) move.part;
        told = rest.told;
      }

    pub all_made : (alone : List Own.Call) (u : List ℕ) (n : ℕ) → Ready u n alone → Made u alone (all_on t g n alone)
    all_made [] u n r = record { fit = tt; accepted = tt; has = r.has; count = refl; part = refl; told = r.told }
    all_made (c ∷ alone) u n r =
        then_made u n c alone r
        (all_made alone (after_on u g (made_on (communication_of t g n) c)) (actions_after n c) (then_ready u n c alone r))
