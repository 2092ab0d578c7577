-- What the calls that list answer: an entry for each row that may be taken and that its channel lets through, and no other.
use Rattle.graph_tables.specs.Answers.{Answer}
use Rattle.system_tables.specs.declared.ids.PgId.{PgId}
use Rattle.std.specs.declared.option.Option.{Option}
use Rattle.std.specs.Prelude.{Ok, Err, Some, None}
use Prim.Native.Nat.{ℕ, zero, suc, ◌<◌, ◌≤◌}
use mathlib.Core.Path.{◌≡◌, refl, sym, ap, subst, ◌∙◌}
use mathlib.Core.Bool.{true, false}
use mathlib.Core.List.Memᴰ
use mathlib.Core.List.{List, [], ◌∷◌, Memᴰ}
use mathlib.Core.Logic.{◌↔◌}
use native.Mathlib.Omega.{arith}
use borrow.Author.Tests.{lt-ltb, le-ltb, eq-eqb, ne_eqb}
use lib.ListN.{length}
use Rattle.laws.proofs.Ladder.{passed, stopped}
use Rattle.graph_tables.specs.Refusals.{refusal}
use Rattle.graph_tables.specs.declared.answers.Entry.{Entry}
use Rattle.run_steps.specs.Listing.{seek}
use Rattle.run_steps.specs.Rows.{Row, entry_for, AtMost, Ascending}
use Rattle.run_steps.specs.declared.inner.listing.Sought.{Sought}
use Rattle.run_steps.specs.declared.inner.listing.Sought.TheVariants.{Found, Left}
use Rattle.run_steps.proofs.Catalogs.{in_map}
use Rattle.run_steps.proofs.ListingLaws.{found_in, in_found, found_ascending}
use Rattle.program_graph.specs.Transitions.{entry_or_end}
use Rattle.system_tables.specs.Words.{graph_count, graph_part}
use Rattle.system_tables.specs.Sound.{SystemSound}
use Rattle.channel_system.specs.Steps.{system_fits, run_of}
use Rattle.channel_system.specs.Listing.{listed_on, possible_on, nosync_on, Possible, listed_below, entry_at, possible_of}
use Rattle.channel_system.specs.Rows.{OpenOn, SystemRow, OpenIn, possible_for, NotAfter}
use Rattle.channel_system.proofs.ListedExactly.{graph_lists, system_lists, graph_ascends, system_ascends}

-- ---- an answer that names an entry
abbrev entry_in : Entry → Answer (Option Entry) → Entry
entry_in d (Ok (Some e)) = e
entry_in d (Ok None) = d
entry_in d (Err r) = d

found : (s : Sought) (e : Entry) → entry_or_end s ≡ Ok (Some e) → s ≡ Found e
found (Found d) e h = ap Found (ap (entry_in d) h)
found (Left k) e h = let z : ◌≡◌ {A = ℕ} 0 1 = cc in absurd (omega arith)

abbrev possible_in : Possible → Answer (Option (PgId × Entry)) → Possible
possible_in d (Ok (Some (g, e))) = record { graph = g.0; entry = e }
possible_in d (Ok None) = d
possible_in d (Err r) = d

abbrev told : Possible → Answer (Option (PgId × Entry))
told p = Ok (Some ((record { 0 = p.graph }), p.entry))

at_in : (p : Possible) (ps : List Possible) (k : ℕ) → entry_at ps k ≡ told p → Memᴰ p ps
at_in p [] k h = let z : ◌≡◌ {A = ℕ} 0 1 = cc in absurd (omega arith)
at_in p (x ∷ ps) zero h = Memᴰ.head (sym (ap (possible_in x) h))
at_in p (x ∷ ps) (suc k) h = Memᴰ.tail (at_in p ps k h)

in_at : (p : Possible) (ps : List Possible) → Memᴰ p ps → (k : ℕ) × (entry_at ps k ≡ told p)
in_at p [] x' = elim x' [ ]
in_at p (x ∷ ps) (Memᴰ.head q) = (zero, ap told (sym q))
in_at p (x ∷ ps) (Memᴰ.tail m) = let r = in_at p ps m in (suc r.0, r.1)

at_ascending : (ps : List Possible) → Ascending NotAfter ps → (i j : ℕ) (p q : Possible) → i < j → entry_at ps i ≡ told p
    → entry_at ps j ≡ told q → NotAfter p q
at_ascending [] a i j p q l h k = let z : ◌≡◌ {A = ℕ} 0 1 = cc in absurd (omega arith)
at_ascending (x ∷ ps) a i zero p q l h k = absurd (omega arith)
at_ascending (x ∷ ps) a zero (suc j) p q l h k =
    subst (λ (y : Possible). NotAfter y q) (ap (possible_in x) h) (a.0 q (at_in q ps j k))
at_ascending (x ∷ ps) a (suc i) (suc j) p q l h k = at_ascending ps a.1 i j p q (omega arith) h k

-- ---- past the end
list_end : (ps : List Possible) (k : ℕ) → (entry_at ps k ≡ Ok None) ↔ (length ps ≤ k)
list_end [] k = (λ e. omega arith, λ l. refl)
list_end (x ∷ ps) zero = (λ e. let z : ◌≡◌ {A = ℕ} 0 1 = cc in absurd (omega arith), λ l. absurd (omega arith))
list_end (x ∷ ps) (suc k) = (λ e. let l = (list_end ps k).0 e in omega arith, λ l. (list_end ps k).1 (omega arith))

seek_end : (es : List Entry) (k : ℕ) → (entry_or_end (seek es k) ≡ Ok None) ↔ (length es ≤ k)
seek_end [] k = (λ e. omega arith, λ l. refl)
seek_end (x ∷ es) zero = (λ e. let z : ◌≡◌ {A = ℕ} 0 1 = cc in absurd (omega arith), λ l. absurd (omega arith))
seek_end (x ∷ es) (suc k) = (λ e. let l = (seek_end es k).0 e in omega arith, λ l. (seek_end es k).1 (omega arith))

-- ---- refusals
module _ (t s : List ℕ) where
  -- On a table and a state that do not fit, the listings answer 32.
  pub bad_listing : system_fits t s ≡ false → (k : ℕ) → possible_of t s k ≡ Err (refusal 32)
  unfolding possible_of
  bad_listing f k = sym (stopped (Err (refusal 32)) _ f)

  pub bad_graph_listing : system_fits t s ≡ false → (g k : ℕ)
      → (possible_on t s g k ≡ Err (refusal 32)) × (nosync_on t s g k ≡ Err (refusal 32))
  unfolding possible_on nosync_on
  bad_graph_listing f g k =
      (sym (stopped (Err (refusal 32)) _ f), sym (stopped (Err (refusal 32)) _ f))

  -- Where they fit, those of a graph that is not there answer 17.
  pub no_graph : system_fits t s ≡ true → (g k : ℕ) → graph_count t ≤ g
      → (possible_on t s g k ≡ Err (refusal 17)) × (nosync_on t s g k ≡ Err (refusal 17))
  unfolding possible_on nosync_on
  no_graph f g k l = (
    sym (passed (Err (refusal 32)) f (stopped (Err (refusal 17)) _ (le-ltb g (graph_count t) l))),
    sym (passed (Err (refusal 32)) f (stopped (Err (refusal 17)) _ (le-ltb g (graph_count t) l))),
  )

-- ---- one graph
module _ (t s : List ℕ) (fits : system_fits t s ≡ true) (g : ℕ) (known : g < graph_count t) where
  pub on_graph_lem : (k : ℕ) → possible_on t s g k ≡ entry_or_end (seek (listed_on t s g) k)
  unfolding possible_on
  on_graph_lem k = sym (passed (Err (refusal 32)) fits (passed (Err (refusal 17)) (lt-ltb _ _ known) refl))

  -- It says that k is past the end exactly when the list of graph g has no entry k.
  pub graph_end : (k : ℕ) → (possible_on t s g k ≡ Ok None) ↔ (length (listed_on t s g) ≤ k)
  graph_end k =
      subst (λ (x : Answer (Option Entry)). (x ≡ Ok None) ↔ (length (listed_on t s g) ≤ k)) (sym (on_graph_lem k)) (seek_end (listed_on t s g) k)

  module _ (sound : SystemSound t) where
    -- Every entry that is listed for graph g is of a row that may be taken and that its channel lets through.
    pub entry_open : (k : ℕ) (e : Entry) → possible_on t s g k ≡ Ok (Some e)
        → (r : Row) × OpenOn t s g r × (e ≡ entry_for (graph_part t g) r)
    entry_open k e h =
        let c = graph_lists t s g (sound.graph g known) in
        let m = found_in (listed_on t s g) k (found (seek (listed_on t s g) k) e (sym (on_graph_lem k) ∙ h)) in
        let x = in_map (entry_for (graph_part t g)) c.rows (subst (λ (l : List Entry). Memᴰ e l) c.entries m) in
        (x.0, c.only x.0 x.1, x.2)

    -- Every such row is listed.
    pub open_listed : (r : Row) → OpenOn t s g r → (k : ℕ) × (possible_on t s g k ≡ Ok (Some (entry_for (graph_part t g) r)))
    open_listed r h =
        let c = graph_lists t s g (sound.graph g known) in
        let m = subst (λ (l : List Entry). Memᴰ (entry_for (graph_part t g) r) l) (sym c.entries)
        (Memᴰ.map (entry_for (graph_part t g)) (c.every r h)) in
        let x = in_found m in
        (x.0, on_graph_lem x.0 ∙ ap entry_or_end x.1)

    -- Later entries are not before earlier ones, by action, process and post.
    pub entries_ascend : (i j : ℕ) (d e : Entry) → i < j → possible_on t s g i ≡ Ok (Some d) → possible_on t s g j ≡ Ok (Some e)
        → AtMost d e
    entries_ascend i j d e l h k =
        found_ascending AtMost (listed_on t s g) (graph_ascends t s sound g known) i j l
        (found (seek (listed_on t s g) i) d (sym (on_graph_lem i) ∙ h)) (found (seek (listed_on t s g) j) e (sym (on_graph_lem j) ∙ k))

  -- With one process the listing for one process lists the same.
  pub one_process : (k : ℕ) → (run_of s g).processes ≡ 1 → nosync_on t s g k ≡ possible_on t s g k
  unfolding nosync_on
  one_process k e =
      sym
      (passed (Err (refusal 32)) fits
      (passed (Err (refusal 17)) (lt-ltb _ _ known)
      (passed (Err (refusal 16)) (eq-eqb _ _ e) (on_graph_lem k))))

  -- With any other number it answers 16.
  pub not_one_process : (k : ℕ) → ((run_of s g).processes ≡ 1 → ⊥) → nosync_on t s g k ≡ Err (refusal 16)
  unfolding nosync_on
  not_one_process k n =
      sym
      (passed (Err (refusal 32)) fits
      (passed (Err (refusal 17)) (lt-ltb _ _ known) (stopped (Err (refusal 16)) _ (ne_eqb _ _ n))))

-- ---- all graphs
module _ (t s : List ℕ) (fits : system_fits t s ≡ true) (sound : SystemSound t) where
  in_system : (k : ℕ) → possible_of t s k ≡ entry_at (listed_below t s (graph_count t)) k
  unfolding possible_of
  in_system k = sym (passed (Err (refusal 32)) fits refl)

  -- It says that k is past the end exactly when the list of all graphs has no entry k.
  pub possible_end : (k : ℕ) → (possible_of t s k ≡ Ok None) ↔ (length (listed_below t s (graph_count t)) ≤ k)
  possible_end k =
      subst (λ (x : Answer (Option (PgId × Entry))). (x ≡ Ok None) ↔ (length (listed_below t s (graph_count t)) ≤ k)) (sym (in_system k))
      (list_end (listed_below t s (graph_count t)) k)

  -- Every entry that is listed is of a row of its graph that may be taken and that its channel lets through.
  pub possible_open : (k : ℕ) (p : Possible) → possible_of t s k ≡ Ok (Some ((record { 0 = p.graph }), p.entry))
      → (r : SystemRow) × OpenIn t s (graph_count t) r × (p ≡ possible_for t r)
  possible_open k p h =
      let c = system_lists t s sound in
      let m = at_in p (listed_below t s (graph_count t)) k (sym (in_system k) ∙ h) in
      let x = in_map (possible_for t) c.rows (subst (λ (l : List Possible). Memᴰ p l) c.entries m) in
      (x.0, c.only x.0 x.1, x.2)

  -- Every such row of every graph is listed.
  pub open_possible : (r : SystemRow) → OpenIn t s (graph_count t) r
      → (k : ℕ) × (possible_of t s k ≡ Ok (Some ((record { 0 = r.graph }), (possible_for t r).entry)))
  open_possible r h =
      let c = system_lists t s sound in
      let m = subst (λ (l : List Possible). Memᴰ (possible_for t r) l) (sym c.entries) (Memᴰ.map (possible_for t) (c.every r h)) in
      let x = in_at (possible_for t r) (listed_below t s (graph_count t)) m in
      (x.0, in_system x.0 ∙ x.1)

  -- Later entries are not before earlier ones, by graph, action, process and post.
  pub possible_ascend : (i j : ℕ) (p q : Possible) → i < j → possible_of t s i ≡ Ok (Some ((record { 0 = p.graph }), p.entry))
      → possible_of t s j ≡ Ok (Some ((record { 0 = q.graph }), q.entry)) → NotAfter p q
  possible_ascend i j p q l h k =
      at_ascending (listed_below t s (graph_count t)) (system_ascends t s sound) i j p q l (sym (in_system i) ∙ h) (sym (in_system j) ∙ k)
