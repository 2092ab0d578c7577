-- The listing in plain logic: its entries are those of the transitions that may be taken, each once, in order.
use Prim.Native.Nat.{ℕ, zero, suc, ◌+◌, ◌<◌, ◌≤◌}
use mathlib.Core.Path.{◌≡◌, refl, sym, ap, subst, ◌∙◌}
use mathlib.Core.Bool.{true, cond}
use mathlib.Core.List.Memᴰ
use mathlib.Core.List.{List, [], ◌∷◌, ◌++◌, map}
use mathlib.Core.Logic.{◌⊎◌, inl, inr, ⊎_elim, ◌↔◌}
use native.Mathlib.Nat.{le_of_suc-le-suc, le_trans, not-suc-le-zero, eq-or-lt_of_le}
use native.Mathlib.Decide.{ℕ_discrete}
use native.Mathlib.Numerals.{add-one}
use native.Mathlib.Omega.{arith}
use lib.ListN.{length, get_or}
use borrow.Author.Tests.{eqb-true, eq-eqb}
use Rattle.laws.proofs.BelowLaws.{and_first, and_rest, and_both, all_at, all_from}
use Rattle.grammar.specs.declared.values.Slot.{Slot}
use Rattle.graph_tables.specs.Sizes.{action_room, plain_kind}
use Rattle.graph_tables.specs.Words.{action_count, transition_count, action_kind, key_of, pre_of, action_of, post_of, epsilon}
use Rattle.graph_tables.specs.Sound.{Sound}
use Rattle.graph_tables.specs.declared.answers.Entry.{Entry}
use Rattle.run_steps.specs.Steps.{clocks_after, leaves_by, leads_of, process_ready, ready_of}
use Rattle.run_steps.specs.Rows.{Row, entry_for, Has, Open, Before, AtMost, Catalog}
use Rattle.run_steps.specs.Waiting.{place_has, shared_of}
use Rattle.run_steps.specs.Listing.{seek, join_below, opens_by, entry_of, process_entries, shared_entries, listing_of}
use Rattle.run_steps.specs.declared.inner.listing.Sought.TheVariants.{Found, Left}
use Rattle.run_steps.proofs.AnyLaws.{any_some, any_found}
use Rattle.run_steps.proofs.Catalogs.{ascending_map, in_map, catalog_one, catalog_if, catalog_same, catalog_two, catalog_join}
use Rattle.run_steps.proofs.ListingLaws.{found_in, in_found, found_ascending, left_past, past_left, clocks_by_plain}

-- no row is before itself: rows that ascend are each there once
pub not_before_itself : (r : Row) → Before r r → ⊥
not_before_itself r (inl l) = omega arith
not_before_itself r (inr (a, inl l)) = omega arith
not_before_itself r (inr (a, inr (p, l))) = omega arith

-- ---- a transition's action is one of the table's, or the reserved one
known_or_reserved : (t : List ℕ) → Sound t → (k : ℕ) → k < transition_count t
    → (action_of (key_of t k) < action_count t) ⊎ (action_of (key_of t k) ≡ epsilon)
known_or_reserved t s k l = by (ℕ_discrete (action_of (key_of t k)) epsilon)
  where
    by : Dec (action_of (key_of t k) ≡ epsilon) → (action_of (key_of t k) < action_count t) ⊎ (action_of (key_of t k) ≡ epsilon)
    by (yes e) = inr e
    by (no h) = inl ((s.transition k l).action h)

-- ---- what the tests say
module _ (t : List ℕ) where
  leaves : (pre action k : ℕ) → (leaves_by t pre action k ≡ true) ↔ ((pre_of (key_of t k) ≡ pre) × (action_of (key_of t k) ≡ action))
  unfolding leaves_by
  leaves pre action k =
      (λ h. (eqb-true _ _ (and_first _ _ h), eqb-true _ _ (and_rest _ _ h)), λ h. and_both (eq-eqb _ _ h.0) (eq-eqb _ _ h.1))

  has : (places : List ℕ) (action p : ℕ) → (place_has t places action p ≡ true) ↔ Has t (get_or places p 0) action
  unfolding place_has
  has places action p = (
    λ h.
        let x = any_some (leaves_by t (get_or places p 0) action) (transition_count t) h in
        let l = (leaves (get_or places p 0) action x.0).0 x.2 in
        record { transition = x.0; known = x.1; pre = l.0; by = l.1 },
    λ h.
        any_found (leaves_by t (get_or places p 0) action) (transition_count t) h.transition h.known
        ((leaves (get_or places p 0) action h.transition).1 (h.pre, h.by)),
  )

  -- an action counts exactly when every process's location has it
  pub shared_by : (places : List ℕ) (n action : ℕ)
      → (shared_of t places n action ≡ true) ↔ ((q : ℕ) → q < n → Has t (get_or places q 0) action)
  unfolding shared_of
  shared_by places n action = (
    λ h q l. (has places action q).0 (all_at (place_has t places action) n q h l),
    λ h. all_from (place_has t places action) n (λ q l. (has places action q).1 (h q l)),
  )

-- ---- the order of keys
keys_ascend : (t : List ℕ) → Sound t → (i j : ℕ) → i < j → j < transition_count t → key_of t i ≤ key_of t j
keys_ascend t s i zero l m = absurd (not-suc-le-zero l)
keys_ascend t s i (suc j) l m =
    let next : key_of t j ≤ key_of t (suc j) = rw add-one at (s.ordered j (omega arith)) in
    ⊎_elim
    (λ (e : i ≡ j). rw e next)
    (λ (q : i < j). le_trans (keys_ascend t s i j q (omega arith)) next)
    (eq-or-lt_of_le (le_of_suc-le-suc l))

posts_ascend : (x y : ℕ) → pre_of x ≡ pre_of y → action_of x ≡ action_of y → x ≤ y → post_of x ≤ post_of y
posts_ascend x y p a l = omega arith

-- ---- entries of a catalog are sought and found
module _ {A : Type 0} (Before : A → A → Type 0) (image : A → Entry) {P : A → Type 0} {list : List Entry}
    (c : Catalog Before image P list) where
  catalog_found : (i : ℕ) (e : Entry) → seek list i ≡ Found e → (r : A) × P r × (e ≡ image r)
  catalog_found i e h =
      let x = in_map image c.rows (found_in (map image c.rows) i (rw c.entries at h)) in
      (x.0, c.only x.0 x.1, x.2)

  catalog_seeks : (r : A) → P r → (i : ℕ) × (seek list i ≡ Found (image r))
  catalog_seeks r p =
      let x = in_found (Memᴰ.map image (c.every r p)) in
      (x.0, rw c.entries x.1)

-- ---- the listing is a catalog
module _ (t : List ℕ) (vars : List Slot) (clocks places : List ℕ) (n : ℕ) where
  abbrev Opens : ℕ → ℕ → ℕ → Row → Type 0
  Opens action p k r =
      (opens_by t vars clocks (get_or places p 0) action k ≡ true) × (r ≡ record { action = action; process = p; transition = k })

  abbrev OfProcess : ℕ → ℕ → Row → Type 0
  OfProcess action p r = (k : ℕ) × (k < transition_count t) × Opens action p k r

  abbrev OfAction : ℕ → Row → Type 0
  OfAction action r = (shared_of t places n action ≡ true) × ((p : ℕ) × (p < n) × OfProcess action p r)

  abbrev Listed : Row → Type 0
  Listed r = ((a : ℕ) × (a < action_count t) × OfAction a r) ⊎ OfAction epsilon r

  abbrev Lists : (Row → Type 0) → List Entry → Type 0
  Lists = Catalog Before (entry_for t)

  process_catalog : (action p : ℕ) → Lists (OfProcess action p) (process_entries t vars clocks (get_or places p 0) action p)
  process_catalog action p =
      catalog_join Before (entry_for t) (λ k. cond (opens_by t vars clocks (get_or places p 0) action k) (entry_of t action p k ∷ []) [])
      (Opens action p) (transition_count t)
      (λ k l.
      catalog_if Before (entry_for t) (opens_by t vars clocks (get_or places p 0) action k)
      (catalog_one Before (entry_for t) (record { action = action; process = p; transition = k })))
      (λ i j l m r s x y. rw (x.1, y.1) (inr (refl, inr (refl, l))))

  action_catalog : (action : ℕ) → Lists (OfAction action) (shared_entries t vars clocks places n action)
  unfolding shared_entries
  action_catalog action =
      catalog_if Before (entry_for t) (shared_of t places n action)
      (catalog_join Before (entry_for t) (λ p. process_entries t vars clocks (get_or places p 0) action p) (OfProcess action) n
      (λ p l. process_catalog action p)
      (λ i j l m r s x y. rw (x.2.1, y.2.1) (inr (refl, inl l))))

  listing_catalog : action_count t ≤ action_room → Lists Listed (listing_of t vars clocks places n)
  listing_catalog few =
      catalog_two Before (entry_for t)
      (catalog_join Before (entry_for t) (shared_entries t vars clocks places n) OfAction (action_count t) (λ a l. action_catalog a)
      (λ i j l m r s x y. rw (x.1.2.2.1, y.1.2.2.1) (inl l)))
      (action_catalog epsilon)
      (λ r s x y. let last : x.0 < epsilon = omega (arith, x.1, few) in rw (x.2.1.2.2.1, y.1.2.2.1) (inl last))

  of_action_is_open : (a : ℕ) (r : Row) → OfAction a r → Open t vars clocks places n r
  unfolding opens_by
  of_action_is_open a r (shared, (p, process, (k, known, (opens, same)))) =
      let leaving = (leaves t (get_or places p 0) a k).0 (and_first _ _ opens) in
      rw same
      (record {
        process = process;
        known = known;
        pre = leaving.0;
        by = leaving.1;
        shared = (shared_by t places n a).0 shared;
        passes = and_rest _ _ opens;
      })

  listed_is_open : (r : Row) → Listed r → Open t vars clocks places n r
  listed_is_open r = ⊎_elim (λ x. of_action_is_open x.0 r x.2) (of_action_is_open epsilon r)

  open_of_action : (r : Row) → Open t vars clocks places n r → OfAction r.action r
  unfolding opens_by
  open_of_action r h =
      let leaving = (leaves t (get_or places r.process 0) r.action r.transition).1 (h.pre, h.by) in (
        (shared_by t places n r.action).1 h.shared,
        (r.process, h.process, (r.transition, h.known, (and_both leaving h.passes, refl))),
      )

  open_is_listed : Sound t → (r : Row) → Open t vars clocks places n r → Listed r
  open_is_listed s r h =
      ⊎_elim
      (λ (l : action_of (key_of t r.transition) < action_count t). inl (r.action, rw h.by at l, open_of_action r h))
      (λ (e : action_of (key_of t r.transition) ≡ epsilon). inr (subst (λ (a : ℕ). OfAction a r) (sym h.by ∙ e) (open_of_action r h)))
      (known_or_reserved t s r.transition h.known)

  -- The rows that are open, each once, ascending by action, process and transition: the listing has their entries.
  pub listing : Sound t → Catalog Before (entry_for t) (Open t vars clocks places n) (listing_of t vars clocks places n)
  listing s = catalog_same Before (entry_for t) listed_is_open (open_is_listed s) (listing_catalog s.counts.actions)

  -- The list is by action: that of every action of the table, and last that of the reserved one (ListingLaws says how an entry is sought in
  -- lists in a row).
  pub listing_by_action :
      listing_of t vars clocks places n
      ≡ join_below (action_count t) (shared_entries t vars clocks places n) ++ shared_entries t vars clocks places n epsilon
  listing_by_action = refl

  -- every entry of an action's list is of an open row by that action
  pub action_listed :
      (a i : ℕ) (e : Entry) → seek (shared_entries t vars clocks places n a) i ≡ Found e →
      (r : Row) × Open t vars clocks places n r × (r.action ≡ a) × (e ≡ entry_for t r)
  action_listed a i e h =
      let x = catalog_found Before (entry_for t) (action_catalog a) i e h in
      (x.0, of_action_is_open a x.0 x.1, ap (λ (r : Row). r.action) x.1.1.2.2.1, x.2)

  -- every open row has an entry in its action's list
  pub action_lists : (r : Row) → Open t vars clocks places n r
      → (i : ℕ) × (seek (shared_entries t vars clocks places n r.action) i ≡ Found (entry_for t r))
  action_lists r h = catalog_seeks Before (entry_for t) (action_catalog r.action) r (open_of_action r h)

  -- every entry is of an open row
  pub listed_passes : Sound t → (i : ℕ) (e : Entry) → seek (listing_of t vars clocks places n) i ≡ Found e
      → (r : Row) × Open t vars clocks places n r × (e ≡ entry_for t r)
  listed_passes s i e h = catalog_found Before (entry_for t) (listing s) i e h

  -- every open row has an entry
  pub passes_listed : Sound t → (r : Row) → Open t vars clocks places n r
      → (i : ℕ) × (seek (listing_of t vars clocks places n) i ≡ Found (entry_for t r))
  passes_listed s r h = catalog_seeks Before (entry_for t) (listing s) r h

  -- rows in order have entries in order
  in_order_lem : Sound t → (r s : Row) → Open t vars clocks places n r → Open t vars clocks places n s → Before r s
      → AtMost (entry_for t r) (entry_for t s)
  in_order_lem sound r s p q (inl l) = inl l
  in_order_lem sound r s p q (inr (a, inl l)) = inr (a, inl l)
  in_order_lem sound r s p q (inr (a, inr (e, l))) =
      inr (
        a,
        inr (
          e,
          posts_ascend (key_of t r.transition) (key_of t s.transition) (p.pre ∙ ap (λ (x : ℕ). get_or places x 0) e ∙ sym q.pre)
              (p.by ∙ a ∙ sym q.by)
              (keys_ascend t sound r.transition s.transition l q.known),
        ),
      )

  -- entries ascend by action, process and post
  pub listed_ascend : Sound t → (i j : ℕ) (d e : Entry) → i < j → seek (listing_of t vars clocks places n) i ≡ Found d
      → seek (listing_of t vars clocks places n) j ≡ Found e → AtMost d e
  listed_ascend s i j d e l h k =
      let c = listing s in
      found_ascending AtMost (map (entry_for t) c.rows)
      (ascending_map Before AtMost (entry_for t) c.rows (λ r q m w. in_order_lem s r q (c.only r m) (c.only q w)) c.ascending) i j l
      (rw c.entries at h) (rw c.entries at k)

  -- past the end it says so, and how far
  pub past_the_end : (i m : ℕ) → (seek (listing_of t vars clocks places n) i ≡ Left m) ↔ (i ≡ length (listing_of t vars clocks places n) + m)
  past_the_end i m = (left_past (listing_of t vars clocks places n) i, past_left m (listing_of t vars clocks places n) i)

-- ---- With one process, `transition` gets past its guards with a plain action that is listed.
module _ (t : List ℕ) (vars : List Slot) (clocks places : List ℕ) where
  open_ready :
      (r : Row) → Open t vars clocks places 1 r → r.action < action_count t → action_kind t r.action ≡ plain_kind →
      ready_of t vars clocks (clocks_after t r.action clocks) places 1 r.action (post_of (key_of t r.transition) ∷ []) ≡ true
  unfolding ready_of process_ready leads_of leaves_by
  open_ready r h known plain = all_from _ 1 ready
    where
      ready : (p : ℕ) → p < 1
          → process_ready t vars clocks (clocks_after t r.action clocks) places r.action (post_of (key_of t r.transition) ∷ []) p
          ≡ true
      ready zero l =
          let first : r.process ≡ 0 = omega arith in
          let leaves = and_both (eq-eqb _ _ (rw first at h.pre)) (eq-eqb _ _ h.by) in
          any_found _ (transition_count t) r.transition h.known
          (and_both leaves
          (and_both (eq-eqb (post_of (key_of t r.transition)) _ refl)
          (rw (clocks_by_plain t clocks r.action known plain) at h.passes)))
      ready (suc p) l = absurd (omega arith)

  pub plain_ready :
      Sound t → (i : ℕ) (e : Entry) → seek (listing_of t vars clocks places 1) i ≡ Found e → e.action.0 < action_count t → action_kind t
      e.action.0 ≡ plain_kind →
      ready_of t vars clocks (clocks_after t e.action.0 clocks) places 1 e.action.0 (e.post ∷ []) ≡ true
  plain_ready s i e h known plain =
      let x = listed_passes t vars clocks places 1 s i e h in
      rw x.2 (open_ready x.0 x.1 (rw x.2 at known) (rw x.2 at plain))
