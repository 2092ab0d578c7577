-- A table stays well formed if words are written that no part of it uses, and if a count is raised over a part that is well formed.
use Prim.Native.Nat.{ℕ, ◌+◌, ◌≤◌, ◌<◌}
use mathlib.Core.Path.{◌≡◌, refl, sym, subst, ◌∙◌}
use mathlib.Core.Bool.{Bool, true, false}
use mathlib.Core.List.{List}
use mathlib.Core.Logic.{◌⊎◌, inl, inr}
use native.Mathlib.Omega.{arith}
use borrow.Author.Tests.{eqb-true, eqb-false}
use lib.Dec.{eqb}
use lib.ListN.{get_or, set, length-set}
use lib.Seq.{get_or-set_same, get_or-set_other}
use Rattle.graph_tables.specs.Layout.{variables_cell, clocks_cell, locations_cell, actions_cell, processes_cell, transitions_cell, kinds_start}
use Rattle.graph_tables.specs.Layout.{action_width, transition_width, group_width, kind_cell, value_cell, place_cell, invariants_cell, action_row}
use Rattle.graph_tables.specs.Layout.{transition_row, group_start, guard_slot, effect_slot}
use Rattle.graph_tables.specs.Sizes.{process_room, location_room, action_room, variable_room, clock_room, effect_room, item_room}
use Rattle.graph_tables.specs.Words.{Words, variable_count, clock_count, location_count, action_count, process_count, transition_count}
use Rattle.graph_tables.specs.Words.{invariant_group}
use Rattle.graph_tables.specs.Formed.{variable_formed, location_formed, process_formed, action_formed}
use Rattle.graph_tables.specs.Sound.{Counted}
use Rattle.graph_tables.proofs.KeptLaws.{Formed, Grown, variable_kept, location_kept, action_kept}
use Rattle.graph_edits.proofs.GrownFormed.{LocationStands, Stands, both_sides, action_stands, transitions_stand, process_stands}
use Rattle.graph_edits.proofs.GrownFormed.{grown_formed}

-- ---- word i is used by no part of t
pub record Spare (t : List ℕ) (i : ℕ) : Type 0 where
  pub counts : kinds_start ≤ i
  pub kinds : (v : ℕ) → v < variable_count t → kind_cell v ≡ i → ⊥
  pub values : (v : ℕ) → v < variable_count t → value_cell v ≡ i → ⊥
  pub places : (p : ℕ) → p < process_count t → place_cell p ≡ i → ⊥
  pub invariants : (l : ℕ) → l < location_count t → invariants_cell l ≡ i → ⊥
  pub actions : (a j : ℕ) → a < action_count t → j < action_width → action_row a + j ≡ i → ⊥
  pub transitions : (k j : ℕ) → k < transition_count t → j < transition_width → transition_row k + j ≡ i → ⊥
  pub limits : (k j : ℕ) → k < transition_count t → j < group_width → group_start k + j ≡ i → ⊥
  pub groups : (l j : ℕ) → l < location_count t → j < group_width → group_start (invariant_group l) + j ≡ i → ⊥
  pub guards : (k j : ℕ) → k < transition_count t → j < item_room → guard_slot k + j ≡ i → ⊥
  pub items : (a e j : ℕ) → a < action_count t → e < effect_room → j < item_room → effect_slot a e + j ≡ i → ⊥

-- the words of a part more
module _ (t : List ℕ) (counts : Counted t) where
  pub spare_kind_lem : variable_count t < variable_room → Spare t (kind_cell (variable_count t))
  spare_kind_lem room = omega arith

  pub spare_value : variable_count t < variable_room → Spare t (value_cell (variable_count t))
  spare_value room = omega arith

  pub spare_place : process_count t < process_room → Spare t (place_cell (process_count t))
  spare_place room = omega arith

  pub spare_action : action_count t < action_room → (i : ℕ) → i < action_width → Spare t (action_row (action_count t) + i)
  spare_action room i l = omega arith

  pub spare_item : action_count t < action_room → (e j : ℕ) → e < effect_room → j < item_room → Spare t (effect_slot (action_count t) e + j)
  spare_item room e j l m = omega arith

  pub spare_invariants : location_count t < location_room → Spare t (invariants_cell (location_count t))
  spare_invariants room = omega arith

  pub spare_group : location_count t < location_room → (j : ℕ) → j < group_width → Spare t (group_start (invariant_group (location_count t)) + j)
  spare_group room j l = omega arith

-- ---- u has the words of t that are not spare
abbrev pub Agrees : List ℕ → List ℕ → Type 0
Agrees t u = (j : ℕ) → (Spare t j → ⊥) → get_or u j 0 ≡ get_or t j 0

-- so it has after a spare word is written
pub set_agrees : (t u : List ℕ) (i x : ℕ) → Spare t i → Agrees t u → Agrees t (set u i x)
set_agrees t u i x spare agrees j used = get_or-set_other u i j x 0 (λ e. used (subst (Spare t) (sym e) spare)) ∙ agrees j used

module _ (t u : List ℕ) (formed : Formed t) (words : Words u) (agrees : Agrees t u) where
  count_agrees : (i : ℕ) → i < kinds_start → get_or u i 0 ≡ get_or t i 0
  count_agrees i l = agrees i (λ s. omega arith)

  pub locations_agree : (l : ℕ) → l < location_count t → LocationStands t u l
  locations_agree i l = record { count = agrees _ (λ s. s.invariants i l refl); group = λ j m. agrees _ (λ s. s.groups i j l m refl) }

  pub agrees_formed : Formed u
  agrees_formed =
      let v : variable_count u ≡ variable_count t = count_agrees variables_cell (omega arith) in
      let c : clock_count u ≡ clock_count t = count_agrees clocks_cell (omega arith) in
      let l : location_count u ≡ location_count t = count_agrees locations_cell (omega arith) in
      let a : action_count u ≡ action_count t = count_agrees actions_cell (omega arith) in
      let p : process_count u ≡ process_count t = count_agrees processes_cell (omega arith) in
      let k : transition_count u ≡ transition_count t = count_agrees transitions_cell (omega arith) in
      let grown : Grown t u = record {
        words = formed.words;
        grown_words = words;
        variables = omega arith;
        few = omega arith;
        kinds = λ i m. agrees _ (λ s. s.kinds i m refl);
        clocks = omega arith;
        locations = omega arith;
        actions = omega arith;
      } in
      let stands : Stands t u =
      record {
        values = λ i m. agrees _ (λ s. s.values i m refl);
        locations = locations_agree;
        places = λ i m. agrees _
            (λ s. s.places i m refl);
      } in
      grown_formed t u formed grown (omega arith) stands
      (λ i n m. absurd (omega arith))
      (λ i n m. absurd (omega arith))
      (λ i n m. absurd (omega arith))
      (λ i m. action_stands t u formed grown i (omega arith) record {
        row = λ j n. agrees _ (λ s. s.actions i j (omega arith) n refl);
        items = λ e n j o. agrees _ (λ s. s.items i e j (omega arith) n o refl);
      })
      (λ i m.
      transitions_stand t u formed grown
      (λ i m. record {
        row = λ j n. agrees _ (λ s. s.transitions i j m n refl);
        group = λ j n. agrees _ (λ s. s.limits i j m n refl);
        guard = λ j n. agrees _ (λ s. s.guards i j m n refl);
      })
      i (omega arith))

-- ---- count c of t is n, and may be one more if part n is well formed
pub record Room (c n : ℕ) : Type 0 where
  pub variables : c ≡ variables_cell → n < variable_room
  pub clocks : c ≡ clocks_cell → n < clock_room
  pub locations : c ≡ locations_cell → n < location_room
  pub actions : c ≡ actions_cell → n < action_room
  pub processes : c ≡ processes_cell → n < process_room

module _ (t : List ℕ) (c n : ℕ) (formed : Formed t) (known : c < transitions_cell) (is : get_or t c 0 ≡ n) where
  abbrev u : List ℕ
  u = set t c (n + 1)

  same : (j : ℕ) → transitions_cell ≤ j → get_or u j 0 ≡ get_or t j 0
  same j l = get_or-set_other t c j (n + 1) 0 (λ e. omega arith)

  -- count i is this one, or stays
  abbrev Either : ℕ → Type 0
  Either i = ((c ≡ i) × (get_or t i 0 ≡ n) × (get_or u i 0 ≡ n + 1)) ⊎ (get_or u i 0 ≡ get_or t i 0)

  which : (i : ℕ) → Either i
  which i = by (eqb c i) refl
    where
      by : (b : Bool) → eqb c i ≡ b → Either i
      by true e = let q : c ≡ i = eqb-true c i e in inl (q, (cc), (cc (get_or-set_same t c (n + 1) 0 (omega arith))))
      by false e = inr (get_or-set_other t c i (n + 1) 0 (λ f. eqb-false c i e (sym f)))

  count_raised : (i size : ℕ) → get_or t i 0 ≤ size → (c ≡ i → n < size) → (get_or t i 0 ≤ get_or u i 0) × (get_or u i 0 ≤ size)
  count_raised i size fits room = by (which i)
    where
      by : Either i → (get_or t i 0 ≤ get_or u i 0) × (get_or u i 0 ≤ size)
      by (inl w) = omega (arith, room w.0)
      by (inr e) = omega arith

  -- a part beyond count i is part n, and i is c
  new_part : (i : ℕ) (p : ℕ → Bool) → (c ≡ i → p n ≡ true) → (v : ℕ) → get_or t i 0 ≤ v → v < get_or u i 0 → p v ≡ true
  new_part i p h v low high = by (which i)
    where
      by : Either i → p v ≡ true
      by (inl w) = let e : v ≡ n = omega arith in rw e (h w.0)
      by (inr e) = absurd (omega arith)

  pub raised_formed : Room c n → (c ≡ variables_cell → variable_formed t n ≡ true) → (c ≡ locations_cell → location_formed t n ≡ true)
      → (c ≡ actions_cell → action_formed t n ≡ true)
      → (c ≡ processes_cell → process_formed t n ≡ true) → Formed u
  raised_formed room variable location action process =
      let v : (variable_count t ≤ variable_count u) × (variable_count u ≤ variable_room) =
      count_raised variables_cell variable_room formed.counts.variables room.variables in
      let k : (clock_count t ≤ clock_count u) × (clock_count u ≤ clock_room) =
      count_raised clocks_cell clock_room formed.counts.clocks room.clocks in
      let l : (location_count t ≤ location_count u) × (location_count u ≤ location_room) =
      count_raised locations_cell location_room formed.counts.locations room.locations in
      let a : (action_count t ≤ action_count u) × (action_count u ≤ action_room) =
      count_raised actions_cell action_room formed.counts.actions room.actions in
      let p : (process_count t ≤ process_count u) × (process_count u ≤ process_room) =
      count_raised processes_cell process_room formed.counts.processes room.processes in
      let x : transition_count u ≡ transition_count t = same transitions_cell (omega arith) in
      let grown : Grown t u = record {
        words = formed.words;
        grown_words = length-set t c (n + 1) ∙ formed.words;
        variables = v.0;
        few = v.1;
        kinds = λ i m. same _ (omega arith);
        clocks = k.0;
        locations = l.0;
        actions = a.0;
      } in
      let place : (i : ℕ) → LocationStands t u i = λ i. record { count = same _ (omega arith); group = λ j m. same _ (omega arith) } in
      grown_formed t u formed grown (omega arith)
      (record { values = λ i m. same _ (omega arith); locations = λ i m. place i; places = λ i m. same _ (omega arith) })
      (λ i m h. variable_kept t u i (same _ (omega arith)) (same _ (omega arith))
      (new_part variables_cell (variable_formed t) variable i m h))
      (λ i m h. location_kept grown i (place i).count (place i).group (new_part locations_cell (location_formed t) location i m h))
      (λ i m h. process_stands t u formed grown i (same _ (omega arith)) (λ j o. place j)
      (new_part processes_cell (process_formed t) process i m h))
      (λ i m. action_kept grown i (omega arith) (λ j o. same _ (omega arith)) (λ e o j q. same _ (omega arith))
      (both_sides (action_formed t) (action_count t) (action_count u) formed.action (new_part actions_cell (action_formed t) action) i m))
      (λ i m.
      transitions_stand t u formed grown
      (λ j o. record { row = λ q r. same _ (omega arith); group = λ q r. same _ (omega arith); guard = λ q r. same _ (omega arith) })
      i (omega arith))
