-- What the listing of a system lists, and how it differs from what a step takes: exactly when.
use Prim.Native.Nat.{ℕ, zero, suc, ◌+◌, ◌*◌, ◌<◌, ◌≤◌}
use mathlib.Core.Path.{◌≡◌, refl, sym, ap, subst, ◌∙◌}
use mathlib.Core.Bool.{Bool, true, false, cond}
use mathlib.Core.List.Memᴰ
use mathlib.Core.List.{List, [], ◌∷◌, ◌++◌, map, Memᴰ}
use mathlib.Core.Logic.{◌↔◌, ◌⊎◌, inl, inr, ⊎_elim}
use native.Mathlib.Nat.{eq-or-lt_of_le, le_of_suc-le-suc, not-suc-le-zero}
use native.Mathlib.Decide.{ℕ_discrete}
use native.Mathlib.Omega.{arith}
use borrow.Author.Tests.{ltb-true, lt-ltb, leb-true, leb-false, eqb-true, eq-eqb}
use lib.Dec.{eqb, leb, ltb}
use Rattle.laws.proofs.Tests.{never}
use Rattle.graph_tables.specs.Words.{action_count, epsilon}
use Rattle.graph_tables.specs.Sound.{Sound}
use Rattle.graph_tables.specs.declared.answers.Entry.{Entry}
use Rattle.run_steps.specs.Listing.{seek, join_below}
use Rattle.run_steps.specs.Rows.{Row, entry_for, Before, AtMost, Ascending, Catalog}
use Rattle.run_steps.proofs.Catalogs.{in_map, ascending_map, catalog_same, catalog_two}
use Rattle.run_steps.proofs.ListingLaws.{in_found}
use Rattle.run_steps.proofs.ListingTheorems.{action_listed, listing, listed_ascend}
use Rattle.run_steps.specs.declared.inner.listing.Sought.TheVariants.{Found}
use Rattle.program_graph.specs.Transitions.{listed, listed_by}
use Rattle.program_graph.proofs.RunReady.{through}
use Rattle.queues.specs.Layout.{slot_room}
use Rattle.queues.specs.Queues.{stored_of, slots_for}
use Rattle.queues.proofs.QueueLaws.{queue_length}
use Rattle.system_tables.specs.Ceiling.{rounded_up, ceiling}
use Rattle.system_tables.specs.Words.{graph_count, channel_count, width_of, capacity_of, graph_part}
use Rattle.system_tables.specs.Sound.{SystemSound}
use Rattle.system_tables.specs.declared.ids.ChannelCapacity.{ChannelCapacity}
use Rattle.system_tables.specs.declared.ids.ChannelCapacity.TheVariants.{Bounded, Unbounded, Sink}
use Rattle.system_tables.specs.declared.ids.Message.{Message}
use Rattle.system_tables.specs.declared.ids.Message.TheVariants.{Send, Receive, ProbeEmptyQueue, ProbeFullQueue}
use Rattle.system_tables.specs.declared.ids.Communication.TheVariants.{On}
use Rattle.system_tables.proofs.CeilingLaws.{no_slots, bounded_ceiling, up_most}
use Rattle.system_state.specs.Words.{queue_part}
use Rattle.system_state.specs.Fits.{StateSound}
use Rattle.system_state.proofs.ChannelLaws.{one_message}
use Rattle.channel_system.specs.Channels.{handshake, list_test}
use Rattle.channel_system.specs.Steps.{run_of, spoken_by}
use Rattle.channel_system.specs.Listing.{listed_as, entries_by, listed_on, Possible, of_graph, listed_below}
use Rattle.channel_system.specs.Asked.{stored_in, Over, Crowded, Roomy, Handshake, Probe, Takes, ChannelTakes, Lists}
use Rattle.channel_system.specs.Rows.{kept, let_through, OpenOn, SystemRow, OpenIn, possible_for, Earlier, NotAfter}
use Rattle.channel_system.proofs.RungLaws.{both_so, not_so}
use Rattle.channel_system.proofs.TestLaws.{same_bound, other_sort, other_message, handshake_so, below_so}
use Rattle.channel_system.proofs.ChannelExactly.{sink_empty}

-- ---- the listing's test in plain logic
module _ (stored : ℕ) where
  some_so : (0 < stored) ↔ (ltb 0 stored ≡ true)
  some_so = (λ l. lt-ltb 0 stored l, λ e. ltb-true _ _ e)

  none_so : (eqb stored 0 ≡ true) ↔ (stored ≡ 0)
  none_so = (λ e. eqb-true _ _ e, λ e. eq-eqb stored 0 e)

  -- The listing's test passes exactly when the listing has the message.
  pub list_passes : (m : Message) (c : ChannelCapacity) → (list_test m stored c ≡ true) ↔ Lists m stored c
  unfolding list_test
  list_passes Send (Bounded n) =
      through (λ e. ltb-true _ _ e, λ l. lt-ltb stored n l) (
        λ l. inl ((below_so n stored).0 l),
        ⊎_elim (below_so n stored).1
            (⊎_elim (λ e. absurd (other_sort (λ x. omega arith) e)) (λ e. absurd (other_sort (λ x. omega arith) e))),
      )
  list_passes Send Unbounded = (λ e. inr (inl refl), λ k. refl)
  list_passes Send Sink = (λ e. inr (inr refl), λ k. refl)
  list_passes Receive (Bounded n) = (λ e. (other_sort (λ x. omega arith), some_so.1 e), λ p. some_so.0 p.1)
  list_passes Receive Unbounded = (λ e. (other_sort (λ x. omega arith), some_so.1 e), λ p. some_so.0 p.1)
  list_passes Receive Sink = (λ e. never e, λ p. absurd (p.0 refl))
  list_passes ProbeEmptyQueue (Bounded n) =
      through none_so (λ e. inr e, ⊎_elim (λ e. absurd (other_sort (λ x. omega arith) e)) (λ e. e))
  list_passes ProbeEmptyQueue Unbounded =
      through none_so (λ e. inr e, ⊎_elim (λ e. absurd (other_sort (λ x. omega arith) e)) (λ e. e))
  list_passes ProbeEmptyQueue Sink = (λ e. inl refl, λ k. refl)
  list_passes ProbeFullQueue (Bounded n) = (λ e. ap Bounded (sym (eqb-true _ _ e)), λ e. eq-eqb stored n (sym (same_bound e)))
  list_passes ProbeFullQueue Unbounded = (λ e. never e, λ e. absurd (other_sort (λ x. omega arith) e))
  list_passes ProbeFullQueue Sink = (λ e. never e, λ e. absurd (other_sort (λ x. omega arith) e))

-- ---- the two tests beside each other
-- of a queue that is empty if it is a sink's or has capacity 0
module _ (stored width : ℕ) (c : ChannelCapacity) (sink : c ≡ Sink → stored ≡ 0) (none : Handshake c → stored ≡ 0) where
  -- capacity 0 or not
  by_handshake : {P : Type 0} → (Handshake c → P) → ((Handshake c → ⊥) → P) → P
  by_handshake {P} f g = by (handshake c) refl
    where
      by : (b : Bool) → handshake c ≡ b → P
      by true e = f ((handshake_so c).0 e)
      by false e = g ((not_so (handshake c) (handshake_so c)).0 e)

  crowded_or_room : c ≡ Unbounded → (Roomy stored width c → ⊥) → Crowded stored width c
  crowded_or_room u f = by (leb (stored + slots_for width) slot_room) refl
    where
      by : (b : Bool) → leb (stored + slots_for width) slot_room ≡ b → Crowded stored width c
      by true e = absurd (f (record { unbounded = u; room = leb-true _ _ e }))
      by false e = record { unbounded = u; over = leb-false _ _ e }

  abbrev Refused : Message → Type 0
  Refused m = (Probe m × Handshake c) ⊎ ((m ≡ Send) × Crowded stored width c)

  so_refused : (m : Message) → Lists m stored c × (Takes m stored width c → ⊥) → Refused m
  so_refused Send p =
      ⊎_elim (λ b. absurd (p.1 (inl b)))
      (⊎_elim (λ u. inr (refl, crowded_or_room u (λ r. p.1 (inr (inl r))))) (λ k. absurd (p.1 (inr (inr k))))) p.0
  so_refused Receive p = absurd (p.1 p.0.1)
  so_refused ProbeEmptyQueue p =
      by_handshake (λ k. inl (inl refl, k)) (λ n. absurd (p.1 (n, ⊎_elim sink (λ e. e) p.0)))
  so_refused ProbeFullQueue p =
      by_handshake (λ k. inl (inr refl, k))
      (λ n. absurd (p.1 (n, record { bound = stored; bounded = p.0; reached = omega arith })))

  not_taken : Crowded stored width c → Takes Send stored width c → ⊥
  not_taken w (inl b) = other_sort (λ x. omega arith) (sym b.bounded ∙ w.unbounded)
  not_taken w (inr (inl r)) = let over = w.over in let room = r.room in omega arith
  not_taken w (inr (inr e)) = other_sort (λ x. omega arith) (sym e ∙ w.unbounded)

  no_probe : {m : Message} → (m ≡ ProbeEmptyQueue → ⊥) → (m ≡ ProbeFullQueue → ⊥) → Probe m → ⊥
  no_probe f g = ⊎_elim f g

  refused_so : (m : Message) → Refused m → Lists m stored c × (Takes m stored width c → ⊥)
  refused_so Send =
      ⊎_elim (λ p. absurd (no_probe (other_message (λ e. omega arith)) (other_message (λ e. omega arith)) p.0))
      (λ p. (inr (inl p.1.unbounded), not_taken p.1))
  refused_so Receive =
      ⊎_elim (λ p. absurd (no_probe (other_message (λ e. omega arith)) (other_message (λ e. omega arith)) p.0))
      (λ p. absurd (other_message (λ e. omega arith) p.0))
  refused_so ProbeEmptyQueue =
      ⊎_elim (λ p. (inr (none p.1), λ k. k.0 p.1)) (λ p. absurd (other_message (λ e. omega arith) p.0))
  refused_so ProbeFullQueue =
      ⊎_elim (λ p. (p.1 ∙ ap Bounded (sym (none p.1)), λ k. k.0 p.1)) (λ p. absurd (other_message (λ e. omega arith) p.0))

  -- The listing has a message, and a step does not take it, exactly when it is a probe at capacity 0, or a send without room to a queue
  -- without a bound.
  pub listed_not_taken : (m : Message)
      → (Lists m stored c × (Takes m stored width c → ⊥)) ↔ ((Probe m × Handshake c) ⊎ ((m ≡ Send) × Crowded stored width c))
  listed_not_taken m = (so_refused m, refused_so m)

  so_over : (m : Message) → Takes m stored width c × (Lists m stored c → ⊥) → (m ≡ ProbeFullQueue) × Over stored c
  so_over Send p =
      absurd (p.1 (⊎_elim (λ b. inl b) (⊎_elim (λ (r : Roomy stored width c). inr (inl r.unbounded)) (λ k. inr (inr k))) p.0))
  so_over Receive p = let l = p.0 in absurd (p.1 (λ e. let z = sink e in omega arith, l))
  so_over ProbeEmptyQueue p = absurd (p.1 (inr p.0.1))
  so_over ProbeFullQueue p =
      let r = p.0.1 in (
        refl,
        record {
          bound = r.bound;
          bounded = r.bounded;
          over = ⊎_elim (λ (e : r.bound ≡ stored). absurd (p.1 (r.bounded ∙ ap Bounded e))) (λ (l : r.bound < stored). l)
              (eq-or-lt_of_le r.reached);
        },
      )

  over_so : (m : Message) → m ≡ ProbeFullQueue → Over stored c → Takes m stored width c × (Lists m stored c → ⊥)
  over_so Send e v = absurd (other_message (λ x. omega arith) e)
  over_so Receive e v = absurd (other_message (λ x. omega arith) e)
  over_so ProbeEmptyQueue e v = absurd (other_message (λ x. omega arith) e)
  over_so ProbeFullQueue e v =
      let more = v.over in (
        (
          λ k. let a : v.bound ≡ 0 = same_bound (sym v.bounded ∙ k) in let b : stored ≡ 0 = none k in omega arith,
          record { bound = v.bound; bounded = v.bounded; reached = omega arith },
        ),
        λ k. let a : v.bound ≡ stored = same_bound (sym v.bounded ∙ k) in omega arith,
      )

  -- A step takes a message, and the listing does not have it, exactly when it is a probe of a full queue in which more values are stored
  -- than the bound.
  pub taken_not_listed : (m : Message) → (Takes m stored width c × (Lists m stored c → ⊥)) ↔ ((m ≡ ProbeFullQueue) × Over stored c)
  taken_not_listed m = (so_over m, λ p. over_so m p.0 p.1)

-- ---- a channel of a system
module _ {t s : List ℕ} (sound : SystemSound t) (h : StateSound t s) (q : ℕ) (known : q < channel_count t) where
  -- At capacity 0 nothing is stored.
  pub handshake_empty : Handshake (capacity_of t q) → stored_in s q ≡ 0
  handshake_empty e = queue_length (queue_part s q) ∙ by (ℕ_discrete (stored_of (queue_part s q)) 0)
    where
      by : Dec (stored_of (queue_part s q) ≡ 0) → stored_of (queue_part s q) ≡ 0
      by (yes z) = z
      by (no some) =
          let one : slots_for (width_of t q) ≤ stored_of (queue_part s q) = one_message sound q known h some in
          let low : stored_of (queue_part s q) ≤ ceiling (width_of t q) (capacity_of t q) = (h.queue q known).low in
          let wide : 0 < slots_for (width_of t q) = positive (slots_for (width_of t q))
          (λ z. some (nothing (stored_of (queue_part s q)) low (no_slots (width_of t q) (capacity_of t q) z))) in
          let same : ceiling (width_of t q) (capacity_of t q) ≡ slots_for (width_of t q) * rounded_up 0 (slots_for (width_of t q))
          = ap (ceiling (width_of t q)) e ∙ bounded_ceiling (width_of t q) wide 0 in
          let high = up_most 0 (slots_for (width_of t q)) wide in
          absurd (over one low same high)
        where
          positive : (n : ℕ) → (n ≡ 0 → ⊥) → 0 < n
          positive n f = omega arith

          nothing : (n : ℕ) {k : ℕ} → n ≤ k → k ≡ 0 → n ≡ 0
          nothing n l e = omega arith

          over : {slots n k c : ℕ} → slots ≤ n → n ≤ c → c ≡ k → k < 0 + slots → ⊥
          over a b e l = omega arith

  lists_so : (m : Message) → (listed_as t s (On m (record { 0 = q })) ≡ true) ↔ Lists m (stored_in s q) (capacity_of t q)
  lists_so m =
      subst (λ (k : ℕ). (listed_as t s (On m (record { 0 = q })) ≡ true) ↔ Lists m k (capacity_of t q)) (sym (queue_length (queue_part s q)))
      (list_passes (stored_of (queue_part s q)) m (capacity_of t q))

  -- The listing lets a message through that a step refuses exactly where a step answers 24, a probe at capacity 0, or 27, a send without
  -- room to a queue without a bound.
  pub listed_refused : (m : Message)
      → ((listed_as t s (On m (record { 0 = q })) ≡ true) × (ChannelTakes t s q m → ⊥))
      ↔ ((Probe m × Handshake (capacity_of t q)) ⊎ ((m ≡ Send) × Crowded (stored_in s q) (width_of t q) (capacity_of t q)))
  listed_refused m =
      through (both_so (lists_so m) (λ n. n, λ n. n))
      (listed_not_taken (stored_in s q) (width_of t q) (capacity_of t q) (sink_empty sound h q known) handshake_empty m)

  -- A step takes a message that the listing drops exactly where more values are stored than the bound, and it is a probe of a full queue.
  pub taken_dropped : (m : Message)
      → (ChannelTakes t s q m × (listed_as t s (On m (record { 0 = q })) ≡ false))
      ↔ ((m ≡ ProbeFullQueue) × Over (stored_in s q) (capacity_of t q))
  taken_dropped m =
      through (both_so (λ k. k, λ k. k) (not_so _ (lists_so m)))
      (taken_not_listed (stored_in s q) (width_of t q) (capacity_of t q) (sink_empty sound h q known) handshake_empty m)

-- ---- what a test keeps of a list
module _ {A : Type 0} (keep : A → Bool) where
  kept_append : (xs ys : List A) → kept keep (xs ++ ys) ≡ kept keep xs ++ kept keep ys
  kept_append [] ys = refl
  kept_append (x ∷ xs) ys = by (keep x) (kept_append xs ys)
    where
      by : (b : Bool) → kept keep (xs ++ ys) ≡ kept keep xs ++ kept keep ys
          → cond b (x ∷ kept keep (xs ++ ys)) (kept keep (xs ++ ys)) ≡ cond b (x ∷ kept keep xs) (kept keep xs) ++ kept keep ys
      by true e = ap (λ (l : List A). x ∷ l) e
      by false e = e

  kept_all : (xs : List A) → ((y : A) → Memᴰ y xs → keep y ≡ true) → kept keep xs ≡ xs
  kept_all [] f = refl
  kept_all (x ∷ xs) f =
      ap (λ (b : Bool). cond b (x ∷ kept keep xs) (kept keep xs)) (f x (Memᴰ.head refl))
      ∙ ap (λ (l : List A). x ∷ l) (kept_all xs (λ y m. f y (Memᴰ.tail m)))

  kept_none : (xs : List A) → ((y : A) → Memᴰ y xs → keep y ≡ false) → kept keep xs ≡ []
  kept_none [] f = refl
  kept_none (x ∷ xs) f =
      ap (λ (b : Bool). cond b (x ∷ kept keep xs) (kept keep xs)) (f x (Memᴰ.head refl))
      ∙ kept_none xs (λ y m. f y (Memᴰ.tail m))

  -- where it is the same of all
  kept_same : (b : Bool) (xs : List A) → ((y : A) → Memᴰ y xs → keep y ≡ b) → cond b xs [] ≡ kept keep xs
  kept_same true xs f = sym (kept_all xs f)
  kept_same false xs f = sym (kept_none xs f)

  -- its members are those that the test keeps
  kept_only : (x : A) (xs : List A) → Memᴰ x (kept keep xs) → Memᴰ x xs × (keep x ≡ true)
  kept_only x [] m = absurd (Memᴰ.not-nil m)
  kept_only x (y ∷ xs) m = by (keep y) refl (λ k. kept_only x xs k) m
    where
      by : (b : Bool) → keep y ≡ b → (Memᴰ x (kept keep xs) → Memᴰ x xs × (keep x ≡ true))
          → Memᴰ x (cond b (y ∷ kept keep xs) (kept keep xs)) → Memᴰ x (y ∷ xs) × (keep x ≡ true)
      by true e f (Memᴰ.head p) = (Memᴰ.head p, ap keep p ∙ e)
      by true e f (Memᴰ.tail m) = let k = f m in (Memᴰ.tail k.0, k.1)
      by false e f m = let k = f m in (Memᴰ.tail k.0, k.1)

  kept_every : (x : A) (xs : List A) → Memᴰ x xs → keep x ≡ true → Memᴰ x (kept keep xs)
  kept_every x [] m e = absurd (Memᴰ.not-nil m)
  kept_every x (y ∷ xs) (Memᴰ.head p) e =
      subst (λ (b : Bool). Memᴰ x (cond b (y ∷ kept keep xs) (kept keep xs))) (sym (ap keep (sym p) ∙ e)) (Memᴰ.head p)
  kept_every x (y ∷ xs) (Memᴰ.tail m) e = by (keep y) (kept_every x xs m e)
    where
      by : (b : Bool) → Memᴰ x (kept keep xs) → Memᴰ x (cond b (y ∷ kept keep xs) (kept keep xs))
      by true k = Memᴰ.tail k
      by false k = k

  -- and they stay in order
  kept_ascending : (Before : A → A → Type 0) (xs : List A) → Ascending Before xs → Ascending Before (kept keep xs)
  kept_ascending Before [] a = tt
  kept_ascending Before (x ∷ xs) a = by (keep x) (kept_ascending Before xs a.1)
    where
      by : (b : Bool) → Ascending Before (kept keep xs) → Ascending Before (cond b (x ∷ kept keep xs) (kept keep xs))
      by true k = (λ y m. a.0 y (kept_only y xs m).0, k)
      by false k = k

module _ {A B : Type 0} (Before : A → A → Type 0) (image : A → B) (keep : B → Bool) where
  kept_map : (xs : List A) → kept keep (map image xs) ≡ map image (kept (λ x. keep (image x)) xs)
  kept_map [] = refl
  kept_map (x ∷ xs) = by (keep (image x)) (kept_map xs)
    where
      rest : List A
      rest = kept (λ y. keep (image y)) xs

      by : (b : Bool) → kept keep (map image xs) ≡ map image rest
          → cond b (image x ∷ kept keep (map image xs)) (kept keep (map image xs)) ≡ map image (cond b (x ∷ rest) rest)
      by true e = ap (λ (l : List B). image x ∷ l) e
      by false e = e

  -- a catalog of which a part is kept
  catalog_kept : {P : A → Type 0} {list : List B} → Catalog Before image P list
      → Catalog Before image (λ r. P r × (keep (image r) ≡ true)) (kept keep list)
  catalog_kept c =
      record {
        rows = kept (λ x. keep (image x)) c.rows;
        entries = ap (kept keep) c.entries ∙ kept_map c.rows;
        only = λ r m. let k = kept_only (λ x. keep (image x)) r c.rows m in (c.only r k.0, k.1);
        every = λ r p. kept_every (λ x. keep (image x)) r c.rows (c.every r p.0) p.1;
        ascending = kept_ascending (λ x. keep (image x)) Before c.rows c.ascending;
      }

-- ---- lists joined
join_same : (f h : ℕ → List Entry) (n : ℕ) → ((i : ℕ) → f i ≡ h i) → join_below n f ≡ join_below n h
unfolding join_below
join_same f h zero e = refl
join_same f h (suc n) e = cc (join_same f h n e, e n)

join_kept : (keep : Entry → Bool) (f : ℕ → List Entry) (n : ℕ) → kept keep (join_below n f) ≡ join_below n (λ i. kept keep (f i))
unfolding join_below
join_kept keep f zero = refl
join_kept keep f (suc n) =
    kept_append keep (join_below n f) (f n) ∙ ap (λ (l : List Entry). l ++ kept keep (f n)) (join_kept keep f n)

-- ---- the list of one graph
module _ (t s : List ℕ) (g : ℕ) where
  -- each entry of an action's list is by that action
  by_action : (a : ℕ) (e : Entry) → Memᴰ e (listed_by (graph_part t g) (run_of s g) a) → e.action.0 ≡ a
  by_action a e m =
      let i = in_found m in
      let run = run_of s g in
      let x = action_listed (graph_part t g) run.vars run.times run.places run.processes a i.0 e i.1 in
      ap (λ (d : Entry). d.action.0) x.3 ∙ x.2

  by_channel : (a : ℕ) → entries_by t s g a ≡ kept (let_through t s g) (listed_by (graph_part t g) (run_of s g) a)
  unfolding entries_by
  by_channel a =
      kept_same (let_through t s g) (listed_as t s (spoken_by t g a)) (listed_by (graph_part t g) (run_of s g) a)
      (λ e m. ap (λ (k : ℕ). listed_as t s (spoken_by t g k)) (by_action a e m))

  -- The list of graph g is the graph's own list without the entries whose channel does not let them through.
  pub listed_kept : listed_on t s g ≡ kept (let_through t s g) (listed (graph_part t g) (run_of s g))
  listed_kept =
      let G = graph_part t g in
      let run = run_of s g in
      let keep = let_through t s g in
      ap (λ (l : List Entry). l ++ entries_by t s g epsilon)
      (join_same (entries_by t s g) (λ a. kept keep (listed_by G run a)) (action_count G) by_channel
      ∙ sym (join_kept keep (listed_by G run) (action_count G)))
      ∙ ap (λ (l : List Entry). kept keep (join_below (action_count G) (listed_by G run)) ++ l) (by_channel epsilon)
      ∙ sym (kept_append keep (join_below (action_count G) (listed_by G run)) (listed_by G run epsilon))

  -- Its entries are those of the rows that may be taken and whose channel lets them through, each once, in order.
  pub graph_lists : Sound (graph_part t g) → Catalog Before (entry_for (graph_part t g)) (OpenOn t s g) (listed_on t s g)
  graph_lists sound =
      subst (λ (l : List Entry). Catalog Before (entry_for (graph_part t g)) (OpenOn t s g) l) (sym listed_kept)
      (catalog_same Before (entry_for (graph_part t g)) (λ r p. record { row = p.0; channel = p.1 }) (λ r p. (p.row, p.channel))
      (catalog_kept Before (entry_for (graph_part t g)) (let_through t s g)
      (listing (graph_part t g) (run_of s g).vars (run_of s g).times (run_of s g).places (run_of s g).processes sound)))

-- ---- the lists of all graphs
abbrev row_on : ℕ → Row → SystemRow
row_on g r = record { graph = g; row = r }

module _ (t : List ℕ) (g : ℕ) where
  of_map : (rows : List Row) → of_graph g (map (entry_for (graph_part t g)) rows) ≡ map (possible_for t) (map (row_on g) rows)
  of_map [] = refl
  of_map (r ∷ rows) = ap (λ (l : List Possible). possible_for t (row_on g r) ∷ l) (of_map rows)

  catalog_on : {P : Row → Type 0} {list : List Entry} → Catalog Before (entry_for (graph_part t g)) P list
      → Catalog Earlier (possible_for t) (λ r. (r.graph ≡ g) × P r.row) (of_graph g list)
  catalog_on {P} c =
      record {
        rows = map (row_on g) c.rows;
        entries = ap (of_graph g) c.entries ∙ of_map c.rows;
        only = λ r m.
            let x = in_map (row_on g) c.rows m in (
              ap (λ (y : SystemRow). y.graph) x.2,
              subst (λ (y : SystemRow). P y.row) (sym x.2) (c.only x.0 x.1),
            );
        every = λ r p.
            subst (λ (k : ℕ). Memᴰ (row_on k r.row) (map (row_on g) c.rows)) (sym p.0)
            (Memᴰ.map (row_on g) (c.every r.row p.1));
        ascending = ascending_map Before Earlier (row_on g) c.rows (λ r q m k b. inr (refl, b)) c.ascending;
      }

module _ (t s : List ℕ) (sound : SystemSound t) where
  one_more : (n : ℕ) (r : SystemRow) → OpenIn t s n r ⊎ ((r.graph ≡ n) × OpenOn t s n r.row) → OpenIn t s (suc n) r
  one_more n r (inl p) = let l = p.known in record { known = omega arith; row = p.row }
  one_more n r (inr p) =
      let e = p.0 in record { known = omega arith; row = subst (λ (k : ℕ). OpenOn t s k r.row) (sym p.0) p.1 }

  one_less : (n : ℕ) (r : SystemRow) → OpenIn t s (suc n) r → OpenIn t s n r ⊎ ((r.graph ≡ n) × OpenOn t s n r.row)
  one_less n r p =
      ⊎_elim (λ (e : r.graph ≡ n). inr (e, subst (λ (k : ℕ). OpenOn t s k r.row) e p.row))
      (λ (l : r.graph < n). inl (record { known = l; row = p.row })) (eq-or-lt_of_le (le_of_suc-le-suc p.known))

  lists_below : (n : ℕ) → n ≤ graph_count t → Catalog Earlier (possible_for t) (OpenIn t s n) (listed_below t s n)
  unfolding listed_below
  lists_below zero l =
      record {
        rows = [];
        entries = refl;
        only = λ r m. absurd (Memᴰ.not-nil m);
        every = λ r p. absurd (not-suc-le-zero p.known);
        ascending = tt;
      }
  lists_below (suc n) l =
      catalog_same Earlier (possible_for t) (one_more n) (one_less n)
      (catalog_two Earlier (possible_for t) (lists_below n (omega arith)) (catalog_on t n (graph_lists t s n (sound.graph n l)))
      (λ r q x y. let a = x.known in let b = y.0 in inl (omega arith)))

  -- The list of a system has the entries of every graph's rows that may be taken and whose channel lets them through, each once, graph by
  -- graph, each graph's in order.
  pub system_lists : Catalog Earlier (possible_for t) (OpenIn t s (graph_count t)) (listed_below t s (graph_count t))
  system_lists = lists_below (graph_count t) (omega arith)

-- ---- the order of entries
-- a list whose entries ascend by their numbers, ascends
ascending_from : (list : List Entry)
    → ((i j : ℕ) (d e : Entry) → i < j → seek list i ≡ Found d → seek list j ≡ Found e → AtMost d e) → Ascending AtMost list
ascending_from [] h = tt
ascending_from (x ∷ list) h = (
  λ y m. let k = in_found m in h zero (suc k.0) x y (omega arith) refl k.1,
  ascending_from list (λ i j d e l a b. h (suc i) (suc j) d e (omega arith) a b),
)

-- two lists in a row ascend
both_ascend : (xs ys : List Possible) → Ascending NotAfter xs → Ascending NotAfter ys
    → ((p q : Possible) → Memᴰ p xs → Memᴰ q ys → NotAfter p q) → Ascending NotAfter (xs ++ ys)
both_ascend [] ys a b h = b
both_ascend (x ∷ xs) ys a b h = (
  λ y m. ⊎_elim (a.0 y) (h x y (Memᴰ.head refl)) (Memᴰ.append_cases xs m),
  both_ascend xs ys a.1 b (λ u v m. h u v (Memᴰ.tail m)),
)

-- the entries of one graph
of_graph_lem : (g : ℕ) (list : List Entry) (p : Possible) → Memᴰ p (of_graph g list) → (p.graph ≡ g) × Memᴰ p.entry list
of_graph_lem g [] p m = absurd (Memᴰ.not-nil m)
of_graph_lem g (x ∷ list) p (Memᴰ.head q) =
    (ap (λ (y : Possible). y.graph) q, Memᴰ.head (ap (λ (y : Possible). y.entry) q))
of_graph_lem g (x ∷ list) p (Memᴰ.tail m) = let k = of_graph_lem g list p m in (k.0, Memᴰ.tail k.1)

graph_ascending : (g : ℕ) (list : List Entry) → Ascending AtMost list → Ascending NotAfter (of_graph g list)
graph_ascending g [] a = tt
graph_ascending g (x ∷ list) a = (
  λ p m. let k = of_graph_lem g list p m in inr (sym k.0, a.0 p.entry k.1),
  graph_ascending g list a.1,
)

module _ (t s : List ℕ) (sound : SystemSound t) where
  -- The entries of one graph ascend by action, process and post.
  pub graph_ascends : (g : ℕ) → g < graph_count t → Ascending AtMost (listed_on t s g)
  graph_ascends g l =
      let run = run_of s g in
      subst (Ascending AtMost) (sym (listed_kept t s g))
      (kept_ascending (let_through t s g) AtMost (listed (graph_part t g) run)
      (ascending_from (listed (graph_part t g) run)
      (listed_ascend (graph_part t g) run.vars run.times run.places run.processes (sound.graph g l))))

  below_graph : (n : ℕ) (p : Possible) → Memᴰ p (listed_below t s n) → p.graph < n
  unfolding listed_below
  below_graph zero p m = absurd (Memᴰ.not-nil m)
  below_graph (suc n) p m =
      ⊎_elim (λ k. let l = below_graph n p k in omega arith) (λ k. let e = (of_graph_lem n (listed_on t s n) p k).0 in omega arith)
      (Memᴰ.append_cases (listed_below t s n) m)

  all_ascend : (n : ℕ) → n ≤ graph_count t → Ascending NotAfter (listed_below t s n)
  unfolding listed_below
  all_ascend zero l = tt
  all_ascend (suc n) l =
      both_ascend (listed_below t s n) (of_graph n (listed_on t s n)) (all_ascend n (omega arith))
      (graph_ascending n (listed_on t s n) (graph_ascends n l))
      (λ p q m k. let a = below_graph n p m in let b = (of_graph_lem n (listed_on t s n) q k).0 in inl (omega arith))

  -- The entries of a system ascend by graph, action, process and post.
  pub system_ascends : Ascending NotAfter (listed_below t s (graph_count t))
  system_ascends = all_ascend (graph_count t) (omega arith)
