-- The calls of a well-formed system's channels and graphs make them.
use Rattle.graph_tables.specs.Answers.{Answer, admitted}
use Rattle.std.specs.Prelude.{⊤}
use Prim.Native.Nat.{ℕ, zero, suc, ◌+◌, ◌<◌, ◌≤◌}
use mathlib.Core.Path.{◌≡◌, refl, sym, ap, subst, ◌∙◌}
use mathlib.Core.Bool.{Bool, true, false, cond}
use mathlib.Core.List.{List, [], ◌∷◌, ◌++◌}
use native.Mathlib.Nat.{le_refl, lt_of_lt_of_le}
use native.Mathlib.Numerals.{add-one}
use native.Mathlib.Decide.{ℕ_discrete}
use native.Mathlib.Omega.{arith}
use borrow.Author.Tests.{eqb-true, eqb-false, lt-ltb, le-leb, lt-leb}
use lib.Dec.{eqb}
use Rattle.laws.specs.Ladder.{unless}
use Rattle.grammar.specs.Values.{kind_word}
use Rattle.grammar.specs.declared.values.«Type».TheVariants as Kinded
use Rattle.graph_tables.specs.Sizes.{message_room, word32, no_kind}
use Rattle.graph_tables.specs.Words.{Words, action_count}
use Rattle.graph_tables.specs.Formed.{well_formed}
use Rattle.graph_tables.proofs.SoundLaws.{sound}
use Rattle.graph_tables.proofs.KeptLaws as own-parts
use Rattle.graph_edits.specs.Lists.{action_at}
use Rattle.graph_builder.specs.Building.{placed_if, empty_of}
use Rattle.graph_builder.specs.Chains as Own
use Rattle.graph_builder.specs.Built.{AllAccepted as OwnAccepted, calls_of as ownCallsOf}
use Rattle.graph_builder.specs.Reading.{Graph, graph_of}
use Rattle.graph_builder.proofs.Theorems as own
use Rattle.graph_builder.proofs.ExactLaws.{same_count}
use Rattle.graph_builder.proofs.ExactWords.{same_words}
use Rattle.graph_builder.proofs.ExactTheorems.{calls_fit, calls_accepted, calls_read}
use Rattle.system_tables.specs.Sizes.{graph_room, channel_room, bounded_sort, unbounded_sort}
use Rattle.system_tables.specs.Words.{graph_count, channel_count, width_of, channel_kind, capacity_as, capacity_of, graph_part, communication_at}
use Rattle.system_tables.specs.Ceiling.{has_room}
use Rattle.system_tables.specs.Formed.{system_formed}
use Rattle.system_tables.specs.Sound.{SystemSound}
use Rattle.system_tables.specs.declared.ids.ChannelCapacity.TheVariants.{Bounded, Unbounded, Sink}
use Rattle.system_tables.proofs.SoundLaws.{system_sound}
use Rattle.system_tables.proofs.KeptLaws.{Formed, apart}
use Rattle.system_builder.specs.Systems.{graph_check, new_graph_of, with_new_graph, handed_kind, channel_check, new_channel_of, kind_in, kinds_in}
use Rattle.system_builder.specs.Chains.{CapacityFits, Call, new_graph, new_channel, after, answer_of, after_all, AllFit}
use Rattle.system_builder.specs.Built.{each_of, AllAccepted, channel_calls, all_on, graph_calls}
use Rattle.system_builder.proofs.SystemLaws.{channel_ready, part_size}
use Rattle.system_builder.proofs.ActionLaws.{part_formed}
use Rattle.system_builder.proofs.NewMembers.{graphs_more, graph_channels, graph_same_lem, graph_messages, part, none, channel_graphs}
use Rattle.system_builder.proofs.StaysLaws.{ChannelStays, channel_then}
use Rattle.system_builder.proofs.KeptTheorems.{keeps_formed}
use Rattle.system_builder.proofs.MeaningTheorems.{meaning_stays, new_channel_reads}
use Rattle.system_builder.proofs.ExactUsed.{used_action}
use Rattle.system_builder.proofs.ExactChains.{sound_too, GraphHas, Has, Ends, graph_has, Ready, Made, all_made}

-- ---- chains
fit_both : (xs ys : List Call) → AllFit xs → AllFit ys → AllFit (xs ++ ys)
fit_both [] ys f g = g
fit_both (c ∷ xs) ys f g = (f.0, fit_both xs ys f.1 g)

after_both : (u : List ℕ) (xs ys : List Call) → after_all u (xs ++ ys) ≡ after_all (after_all u xs) ys
after_both u [] ys = refl
after_both u (c ∷ xs) ys = after_both (after u c) xs ys

accepted_both : (u : List ℕ) (xs ys : List Call) → AllAccepted u xs → AllAccepted (after_all u xs) ys → AllAccepted u (xs ++ ys)
accepted_both u [] ys f g = g
accepted_both u (c ∷ xs) ys f g = (f.0, accepted_both (after u c) xs ys f.1 g)

-- calls that are accepted from u on, and lead to a system that has the first m channels and n graphs of t, and no others
pub record Reached (t u : List ℕ) (calls : List Call) (m n : ℕ) : Type 0 where
  pub fit : AllFit calls
  pub accepted : AllAccepted u calls
  pub has : Has t (after_all u calls) m n
  pub count : graph_count (after_all u calls) ≡ n

pub reached_both : {t u : List ℕ} (xs ys : List Call) {m n p q : ℕ} → Reached t u xs m n → Reached t (after_all u xs) ys p q
    → Reached t u (xs ++ ys) p q
reached_both {t} {u} xs ys {p = p} {q} x y = record {
  fit = fit_both xs ys x.fit y.fit;
  accepted = accepted_both u xs ys x.accepted y.accepted;
  has = subst (λ (v : List ℕ). Has t v p q) (sym (after_both u xs ys)) y.has;
  count = ap graph_count (after_both u xs ys) ∙ y.count;
}

-- what a call leaves whose check is passed
placed_there : (c : Answer ⊤) (t : List ℕ) (n : ℕ) (u : List ℕ) → c ≡ admitted → (placed_if c t n u).table ≡ u
placed_there c t n u e = rw e

-- ---- what is stored of a channel is what is handed
capacity_fits : (sort bound : ℕ) → (sort ≡ bounded_sort → bound < word32) → CapacityFits (capacity_as sort bound)
capacity_fits sort bound h = by (eqb sort bounded_sort) refl (eqb sort unbounded_sort)
  where
    by : (b : Bool) → eqb sort bounded_sort ≡ b → (c : Bool) → CapacityFits (cond b (Bounded bound) (cond c Unbounded Sink))
    by true e c = h (eqb-true _ _ e)
    by false e true = tt
    by false e false = tt

kind_back : (t : List ℕ) (q e : ℕ) → e < width_of t q → channel_kind t q e < no_kind → kind_word (kind_in t q e).kind ≡ channel_kind t q e
unfolding kind_in
kind_back t q e l k = by (eqb (channel_kind t q e) (kind_word Kinded.Boolean)) refl
  where
    by : (b : Bool) → eqb (channel_kind t q e) (kind_word Kinded.Boolean) ≡ b → kind_word (kind_in t q e).kind ≡ channel_kind t q e
    by true p = rw (lt-leb (width_of t q) e l, p) (sym (eqb-true _ _ p))
    by false p =
        let other = eqb-false (channel_kind t q e) (kind_word Kinded.Boolean) p in
        rw (lt-leb (width_of t q) e l, p) (omega (arith, k, other))

handed_back : (t : List ℕ) (q e : ℕ) → e < message_room → handed_kind (kinds_in t q) e ≡ kind_word (kind_in t q e).kind
handed_back t q zero l = refl
handed_back t q (suc zero) l = refl
handed_back t q (suc (suc zero)) l = refl
handed_back t q (suc (suc (suc zero))) l = refl
handed_back t q (suc (suc (suc (suc e)))) l = absurd (omega arith)

module _ (t : List ℕ) (h : system_formed t true ≡ true) where
  s : SystemSound t
  s = system_sound t true h

  f : Formed t true
  f = apart t true h

  -- ---- a channel
  module _ (u : List ℕ) (q : ℕ) (l : q < channel_count t) (x : Has t u q 0) (empty : graph_count u ≡ 0) where
    abbrev c : Call
    c = new_channel (kinds_in t q) (capacity_of t q)

    fits : CapacityFits (capacity_of t q)
    fits = capacity_fits _ _ (s.channel q l).bound

    channel_ok : channel_check u (kinds_in t q) (capacity_of t q) ≡ admitted
    unfolding channel_check has_room unless
    channel_ok =
        rw (
          x.formed,
          le-leb _ _ (s.channel q l).width,
          le-leb _ _ (s.channel q l).room,
          lt-ltb (channel_count u) channel_room (omega (arith, x.channels, l, s.channels)),
        )

    answer : answer_of u c ≡ 0
    unfolding new_channel_of
    answer = rw channel_ok

    fresh : ChannelStays t (after u c) q
    fresh =
        let a = new_channel_reads u (kinds_in t q) (capacity_of t q) fits x.formed answer in
        let at = x.channels in
        record {
          width = ap (width_of (after u c)) (sym at) ∙ a.width;
          kind = λ e k.
              ap (λ (p : ℕ). channel_kind (after u c) p e) (sym at) ∙ a.kind e k
              ∙ handed_back t q e (lt_of_lt_of_le k (s.channel q l).width) ∙ kind_back t q e k ((s.channel q l).kind e k);
          capacity = ap (capacity_of (after u c)) (sym at) ∙ a.capacity;
        }

    none_added : graph_count (after u c) ≡ 0
    unfolding new_channel_of
    none_added =
        ap graph_count (placed_there (channel_check u (kinds_in t q) (capacity_of t q)) u _ _ channel_ok)
        ∙ channel_graphs u (apart u true x.formed) (kinds_in t q) (capacity_of t q) fits (channel_ready u _ _ channel_ok)
        ∙ empty

    makes_channel : Reached t u (channel_calls t q) (suc q) 0
    makes_channel = record {
      fit = (fits, tt);
      accepted = (answer, tt);
      has = record {
        formed = keeps_formed u c fits x.formed;
        channels =
            (new_channel_reads u (kinds_in t q) (capacity_of t q) fits x.formed answer).count
            ∙ ap (λ (n : ℕ). n + 1) x.channels ∙ add-one q;
        channel = λ p k. by p k (ℕ_discrete p q);
        graph = λ g k. absurd (omega arith);
      };
      count = none_added;
    }
      where
        by : (p : ℕ) → p < suc q → Dec (p ≡ q) → ChannelStays t (after u c) p
        by p k (yes e) = rw e fresh
        by p k (no other) =
            let before : p < q = omega (arith, other) in
            channel_then p (x.channel p before) ((meaning_stays u c fits x.formed).channel p (omega (arith, x.channels)))

  -- ---- a graph, behind those that there are
  module _ (u : List ℕ) (x : Has t u (channel_count t) (graph_count u)) (l : graph_count u < graph_count t) where
    abbrev g : ℕ
    g = graph_count u

    -- as it is in t, and what its place in u has before
    abbrev P : List ℕ
    P = graph_part t g

    abbrev S : List ℕ
    S = graph_part u g

    abbrev F : List ℕ
    F = Own.after_all (empty_of S).table (ownCallsOf P)

    abbrev v : List ℕ
    v = with_new_graph u

    r : Formed u true
    r = apart u true x.formed

    small : g < graph_room
    small = lt_of_lt_of_le l f.graphs

    size : Words S
    size = part_size u g r.words small

    formed : well_formed P true ≡ true
    formed = part_formed t g f l

    graph_ok : graph_check u ≡ admitted
    unfolding graph_check unless
    graph_ok = rw (x.formed, lt-ltb _ _ small)

    answer_new : answer_of u new_graph ≡ 0
    unfolding new_graph_of
    answer_new = rw graph_ok

    is_new : after u new_graph ≡ v
    unfolding new_graph_of
    is_new = placed_there (graph_check u) u _ _ graph_ok

    reads : graph_of F ≡ graph_of P
    reads = calls_read S P size formed

    actions_same : action_count F ≡ action_count P
    actions_same = same_count (action_at F) (action_at P) _ _ (ap (λ (i : Graph). i.actions) reads)

    left : well_formed F true ≡ true
    left = own.chain_stays_formed (empty_of S).table (ownCallsOf P) (calls_fit S P size formed) (own.empty_formed S size)

    -- its actions are those of t, which their communications fit
    ends : Ends t g F
    ends a k =
        let known : a < action_count P = subst (λ (n : ℕ). a < n) actions_same k in
        let fP = own-parts.apart P true formed in
        let fF = own-parts.apart F true left in
        sound_too (used_action P F fP (sound F true left).words (same_words P F fP fF reads) a known) t (communication_at t g a)
        (s.communication g a l known)

    new_has : Has t v (channel_count t) g
    new_has = record {
      formed = subst (λ (y : List ℕ). system_formed y true ≡ true) is_new (keeps_formed u new_graph tt x.formed);
      channels = graph_channels u r small ∙ x.channels;
      channel = λ q k.
          subst (λ (y : List ℕ). ChannelStays t y q) is_new
          (channel_then q (x.channel q k) ((meaning_stays u new_graph tt x.formed).channel q (omega (arith, x.channels))));
      graph = λ i k.
          graph_has t f u v i (omega (arith, l)) (graph_same_lem u r small i k) (graph_messages u r small i) (x.graph i k);
    }

    no_actions : action_count (graph_part v g) ≡ 0
    no_actions = ap action_count (part u r small) ∙ none u r small

    ready : Ready t f g (omega (arith, l)) v 0 (ownCallsOf P)
    ready = record {
      has = new_has;
      there = omega (arith, graphs_more u r small);
      told = λ a k. absurd (omega (arith, no_actions));
      count = sym no_actions;
      fit = calls_fit S P size formed;
      accepted = subst (λ (y : List ℕ). OwnAccepted y (ownCallsOf P)) (sym (part u r small)) (calls_accepted S P size formed);
      ends = subst (λ (y : List ℕ). Ends t g (Own.after_all y (ownCallsOf P))) (sym (part u r small)) ends;
    }

    abbrev rest : List Call
    rest = all_on t g 0 (ownCallsOf P)

    made : Made t f g (omega (arith, l)) v (ownCallsOf P) rest
    made = all_made t f g (omega (arith, l)) (ownCallsOf P) v 0 ready

    built : graph_part (after_all v rest) g ≡ F
    built = made.part ∙ ap (λ (y : List ℕ). Own.after_all y (ownCallsOf P)) (part u r small)

    reached : Reached t v rest (channel_count t) (g + 1)
    reached = record {
      fit = made.fit;
      accepted = made.accepted;
      has = record {
        formed = made.has.formed;
        channels = made.has.channels;
        channel = made.has.channel;
        graph = λ i k. by i k (ℕ_discrete i g);
      };
      count = made.count ∙ graphs_more u r small;
    }
      where
        by : (i : ℕ) → i < g + 1 → Dec (i ≡ g) → GraphHas t (after_all v rest) i
        by i k (yes e) = rw e (record {
          parts = ap graph_of built ∙ reads;
          told = λ a m. made.told a (subst (λ (n : ℕ). a < n) (sym (ap action_count built ∙ actions_same)) m);
        })
        by i k (no other) = made.has.graph i (omega (arith, k, other))

    makes_graph : Reached t u (graph_calls t g) (channel_count t) (g + 1)
    makes_graph =
        let y = subst (λ (y : List ℕ). Reached t y rest (channel_count t) (g + 1)) (sym is_new) reached in
        record { fit = (tt, y.fit); accepted = (answer_new, y.accepted); has = y.has; count = y.count }

  -- ---- all of them
  makes_channels : (u : List ℕ) → Has t u 0 0 → graph_count u ≡ 0 → (n : ℕ) → n ≤ channel_count t → Reached t u (each_of (channel_calls t) n) n 0
  unfolding each_of
  makes_channels u x empty zero l = record { fit = tt; accepted = tt; has = x; count = empty }
  makes_channels u x empty (suc n) l =
      let first = makes_channels u x empty n (omega arith) in
      reached_both (each_of (channel_calls t) n) (channel_calls t n) first
      (makes_channel (after_all u (each_of (channel_calls t) n)) n (omega arith) first.has first.count)

  makes_graphs : (u : List ℕ) → Has t u (channel_count t) 0 → graph_count u ≡ 0 → (n : ℕ) → n ≤ graph_count t
      → Reached t u (each_of (graph_calls t) n) (channel_count t) n
  unfolding each_of
  makes_graphs u x empty zero l = record { fit = tt; accepted = tt; has = x; count = empty }
  makes_graphs u x empty (suc n) l =
      let first = makes_graphs u x empty n (omega arith) in
      let y = after_all u (each_of (graph_calls t) n) in
      let same : graph_count y ≡ n = first.count in
      let step = makes_graph y (subst (Has t y (channel_count t)) (sym same) first.has) (omega (arith, same)) in
      let moved : Reached t y (graph_calls t n) (channel_count t) (n + 1) =
      subst (λ (k : ℕ). Reached t y (graph_calls t k) (channel_count t) (k + 1)) same step
      in
      reached_both (each_of (graph_calls t) n) (graph_calls t n) first
      (subst (Reached t y (graph_calls t n) (channel_count t)) (add-one n) moved)

  pub makes_all : (u : List ℕ) → Has t u 0 0 → graph_count u ≡ 0
      → Reached t u (each_of (channel_calls t) (channel_count t) ++ each_of (graph_calls t) (graph_count t)) (channel_count t) (graph_count t)
  makes_all u x empty =
      let first = makes_channels u x empty (channel_count t) (le_refl _) in
      reached_both (each_of (channel_calls t) (channel_count t)) (each_of (graph_calls t) (graph_count t)) first
      (makes_graphs (after_all u (each_of (channel_calls t) (channel_count t))) first.has first.count (graph_count t) (le_refl _))
