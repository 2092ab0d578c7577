-- What holds of `new` and of `build`.
use Prim.Native.Nat.{ℕ, zero, suc, ◌<◌}
use mathlib.Core.Path.{◌≡◌, refl, ap, ◌∙◌}
use mathlib.Core.Logic.{◌↔◌}
use mathlib.Core.Bool.{Bool, true, false}
use mathlib.Core.List.{List}
use native.Mathlib.Omega.{arith}
use borrow.Author.Tests.{eq-eqb, eqb-true, lt-ltb, ltb-true, ltb-false}
use lib.Dec.{eqb}
use lib.ListN.{length, set, length-set}
use lib.Seq.{get_or-set_same, get_or-set_other}
use Rattle.laws.specs.Ladder.{unless}
use Rattle.laws.specs.Below.{◌and◌, all_below}
use Rattle.laws.proofs.BelowLaws.{all_at, all_from, all_fails}
use Rattle.graph_tables.specs.Words.{process_count}
use Rattle.graph_tables.specs.Formed.{well_formed}
use Rattle.graph_tables.specs.Answers.{admitted, answer_number}
use Rattle.graph_tables.proofs.KeptLaws as own-parts
use Rattle.graph_checks.specs.Checks.{refused_by}
use Rattle.graph_checks.proofs.CheckLaws.{unless_on}
use Rattle.graph_builder.specs.Building.{build_of}
use Rattle.graph_builder.proofs.Theorems as own
use Rattle.system_tables.specs.Layout.{system_words, graphs_cell, channels_cell}
use Rattle.system_tables.specs.Words.{SystemWords, graph_count, channel_count, graph_part}
use Rattle.system_tables.specs.Formed.{system_formed, graph_formed}
use Rattle.system_tables.proofs.SoundLaws.{system_started}
use Rattle.system_tables.proofs.KeptLaws.{Formed, apart, together}
use Rattle.system_builder.specs.Systems.{no_members, empty_system_of, started, build_system_of}

-- ---- an empty system: it has no graph and no channel
module _ (t : List ℕ) (words : SystemWords t) where
  pub no_graphs : graph_count (no_members t) ≡ 0
  no_graphs =
      get_or-set_other (set t graphs_cell 0) channels_cell graphs_cell 0 0 (λ e. omega arith) ∙ get_or-set_same t graphs_cell 0 0 (omega arith)

  pub no_channels : channel_count (no_members t) ≡ 0
  no_channels = get_or-set_same (set t graphs_cell 0) channels_cell 0 0 (simp length-set (omega arith))

  none_formed : Formed (no_members t) true
  none_formed =
      record {
        words = simp length-set words;
        graphs = omega (arith, no_graphs);
        channels = omega (arith, no_channels);
        graph = λ g l. absurd (omega (arith, no_graphs));
        channel = λ q l. absurd (omega (arith, no_channels));
        communications = λ g l. absurd (omega (arith, no_graphs));
      }

  -- `new` makes a well-formed system of any table of its length.
  pub new_formed : system_formed (empty_system_of t).table true ≡ true
  unfolding empty_system_of unless
  new_formed = rw (eq-eqb _ _ words) (together (no_members t) true none_formed)

-- `new` accepts exactly a table of its length, and answers 32 exactly to any other.
pub new_accepts : (t : List ℕ) → ((empty_system_of t).answer ≡ admitted) ↔ SystemWords t
unfolding empty_system_of unless
new_accepts t = (by (eqb (length t) system_words) refl, λ words. rw (eq-eqb _ _ words))
  where
    by : (b : Bool) → eqb (length t) system_words ≡ b → (empty_system_of t).answer ≡ admitted → SystemWords t
    by true e h = eqb-true _ _ e
    by false e h = let z : ◌≡◌ {A = ℕ} 32 0 = ap answer_number (rw e at h) in absurd (omega arith)

pub new_refuses : (t : List ℕ) → ((empty_system_of t).answer ≡ refused_by 32) ↔ (SystemWords t → ⊥)
unfolding empty_system_of unless
new_refuses t = (onto, by (eqb (length t) system_words) refl)
  where
    onto : (empty_system_of t).answer ≡ refused_by 32 → SystemWords t → ⊥
    onto h words = let z : ◌≡◌ {A = ℕ} 0 32 = ap answer_number (rw (eq-eqb _ _ words) at h) in absurd (omega arith)

    by : (b : Bool) → eqb (length t) system_words ≡ b → (SystemWords t → ⊥) → (empty_system_of t).answer ≡ refused_by 32
    by true e h = absurd (h (eqb-true _ _ e))
    by false e h = rw e

-- ---- a graph is well formed for a run when it is for building, and has a process
runnable : (G : List ℕ) → well_formed G true ≡ true → 0 < process_count G → well_formed G false ≡ true
unfolding build_of unless
runnable G h some = (own.build_exactly G).0 (rw (h, lt-ltb 0 (process_count G) some))

module _ (t : List ℕ) where
  -- so is a system, of which each graph has one
  pub all_started : system_formed t false ≡ true → (system_formed t true ≡ true) × (all_below (graph_count t) (started t) ≡ true)
  unfolding graph_formed started
  all_started h =
      let f = apart t false h in (
        together t true (record {
          words = f.words;
          graphs = f.graphs;
          channels = f.channels;
          graph = λ g l. own-parts.together (graph_part t g) (own-parts.apart (graph_part t g) false (f.graph g l));
          channel = f.channel;
          communications = f.communications;
        }),
        all_from (started t) _ (λ g l. lt-ltb _ _ (system_started t h g l)),
      )

  pub for_a_run : system_formed t true ≡ true → all_below (graph_count t) (started t) ≡ true → system_formed t false ≡ true
  unfolding graph_formed started
  for_a_run h all =
      let f = apart t true h in
      together t false (record {
        words = f.words;
        graphs = f.graphs;
        channels = f.channels;
        graph = λ g l. runnable (graph_part t g) (f.graph g l) (ltb-true _ _ (all_at (started t) (graph_count t) g all l));
        channel = f.channel;
        communications = f.communications;
      })

  -- `build` accepts exactly the tables that are well formed for a run.
  pub build_exactly : (build_system_of t ≡ admitted) ↔ (system_formed t false ≡ true)
  unfolding build_system_of unless
  build_exactly = (onto, back)
    where
      onto : build_system_of t ≡ admitted → system_formed t false ≡ true
      onto e = let a = unless_on _ _ _ e in for_a_run a.0 (unless_on _ _ _ a.1).0

      back : system_formed t false ≡ true → build_system_of t ≡ admitted
      back h = let k = all_started h in rw (k.0, k.1)

  -- it answers 32 exactly to those that are not well formed for building
  pub build_bad : (build_system_of t ≡ refused_by 32) ↔ (system_formed t true ≡ false)
  unfolding build_system_of unless
  build_bad = (by (system_formed t true) refl (all_below (graph_count t) (started t)) refl, λ e. rw e)
    where
      by : (b : Bool) → system_formed t true ≡ b → (s : Bool) → all_below (graph_count t) (started t) ≡ s
          → build_system_of t ≡ refused_by 32 → system_formed t true ≡ false
      by true e true f h = let z : ◌≡◌ {A = ℕ} 0 32 = ap answer_number (rw (e, f) at h) in absurd (omega arith)
      by true e false f h = let z : ◌≡◌ {A = ℕ} 29 32 = ap answer_number (rw (e, f) at h) in absurd (omega arith)
      by false e s f h = e

-- ---- a test that fails below a bound fails of some number
one_fails : (p : ℕ → Bool) (n : ℕ) → all_below n p ≡ false → (i : ℕ) × ((i < n) × (p i ≡ false))
unfolding all_below ◌and◌
one_fails p zero h = let z : ◌≡◌ {A = ℕ} 0 1 = cc in absurd (omega arith)
one_fails p (suc n) h = by (λ e. one_fails p n e) (all_below n p) refl h
  where
    by : (all_below n p ≡ false → (i : ℕ) × ((i < n) × (p i ≡ false)))
        → (b : Bool) → all_below n p ≡ b → (b and p n) ≡ false → (i : ℕ) × ((i < suc n) × (p i ≡ false))
    by before true e f = (n, (omega arith, f))
    by before false e f = let r = before e in (r.0, (omega (arith, r.1.0), r.1.1))

-- some graph has no process
abbrev Unstarted : List ℕ → Type 0
Unstarted t = (g : ℕ) × ((g < graph_count t) × (process_count (graph_part t g) ≡ 0))

-- `build` answers 29 exactly to a system that is well formed for building, of which some graph has no process.
pub build_unstarted : (t : List ℕ) → (build_system_of t ≡ refused_by 29) ↔ ((system_formed t true ≡ true) × Unstarted t)
unfolding build_system_of unless started
build_unstarted t = (by (system_formed t true) refl (all_below (graph_count t) (started t)) refl, back)
  where
    by : (b : Bool) → system_formed t true ≡ b → (s : Bool) → all_below (graph_count t) (started t) ≡ s
        → build_system_of t ≡ refused_by 29 → (system_formed t true ≡ true) × Unstarted t
    by true e true f h = let z : ◌≡◌ {A = ℕ} 0 29 = ap answer_number (rw (e, f) at h) in absurd (omega arith)
    by true e false f h =
        let one = one_fails (started t) (graph_count t) f in
        (e, (one.0, (one.1.0, omega (arith, ltb-false 0 (process_count (graph_part t one.0)) one.1.1))))
    by false e s f h = let z : ◌≡◌ {A = ℕ} 32 29 = ap answer_number (rw e at h) in absurd (omega arith)

    back : (system_formed t true ≡ true) × Unstarted t → build_system_of t ≡ refused_by 29
    back h =
        let one = h.1 in
        let none : started t one.0 ≡ false = rw one.1.1 in
        rw (h.0, all_fails (started t) (graph_count t) one.0 one.1.0 none)
