-- Laws of what the explainer finds: by the answer of the step, by few posts, and where the part stands.
use Prim.Native.Nat.{ℕ, ◌+◌, ◌<◌, ◌≤◌}
use mathlib.Core.Path.{◌≡◌, refl, sym, ap}
use mathlib.Core.Bool.{Bool, true, false, cond}
use mathlib.Core.List.{List}
use native.Mathlib.Omega.{arith}
use borrow.Author.Tests.{eqb-true, eq-eqb, ne_eqb, ltb-true}
use lib.Dec.{eqb, ltb}
use lib.ListN.{length}
use Rattle.laws.specs.Below.{all_below}
use Rattle.laws.proofs.Ladder.{stopped, rung}
use Rattle.laws.proofs.BelowLaws.{and_first, and_rest}
use Rattle.graph_tables.specs.Answers.{answer_number}
use Rattle.graph_tables.specs.Sizes.{process_room}
use Rattle.graph_tables.specs.Layout.{limit_width}
use Rattle.graph_tables.specs.Words.{key_of, post_of, guard_length, invariant_group}
use Rattle.graph_tables.specs.Sound.{Sound}
use Rattle.run_steps.specs.Steps.{guard_fails, limit_fails, invariant_fails}
use Rattle.run_steps.proofs.LimitLaws.{invariants_of_location}
use Rattle.program_graph.specs.Running.{step_of, refused}
use Rattle.program_graph.specs.Outcomes.{RunOutcome}
use Rattle.system_tables.specs.Sizes.{graph_room}
use Rattle.system_tables.specs.Words.{graph_count, graph_part}
use Rattle.channel_system.specs.Steps.{system_fits, own_post, locations_of, run_of}
use Rattle.channel_system.specs.Facts.{Fitting}
use Rattle.channel_system.proofs.RunLaws.{small, part_sound}
use Rattle.channel_system.proofs.PostLaws.{looked, few_same}
use Rattle.channel_system.proofs.FittingLaws.{fits_both}
use Rattle.explainer.specs.Layout.{all_guards, all_limits, guard_at, limit_at}
use Rattle.explainer.specs.Cause.{cause_of, place_of, no_part}
use Rattle.explainer.specs.Same.{tables_same}
use Rattle.explainer.specs.Why.{unsatisfied, answered, caused, why_by, graph_why, plain_why, found_of}
use Rattle.explainer.specs.Facts.{Standing, Within}
use Rattle.explainer.specs.declared.causes.Cause.{Cause}
use Rattle.explainer.specs.declared.causes.Part.{Part}
use Rattle.explainer.specs.declared.causes.Found.{Found}
use Rattle.explainer.proofs.EightLaws.{eight_asked}
use Rattle.explainer.proofs.CauseTheorems.{cause_real, real_stands}

-- ---- by the answer
pub why_other : (n : ℕ) (why : Found) → (n ≡ unsatisfied → ⊥) → answered n ≡ why_by n why
why_other n why h = rw (ne_eqb n unsatisfied h)

pub why_eight : (n : ℕ) (why : Found) → n ≡ unsatisfied → why ≡ why_by n why
why_eight n why e = rw (eq-eqb n unsatisfied e)

-- ---- of many posts few are looked at
pub why_few : (t s : List ℕ) (g a : ℕ) (posts : List ℕ) (word : ℕ) → (run_of s g).processes ≤ process_room
    → graph_why t s g a (looked posts) word ≡ graph_why t s g a posts word
unfolding graph_why step_of
why_few t s g a posts word few =
    few_same posts (λ (qs : List ℕ). graph_why t s g a qs word) (run_of s g).processes (answered 7) few
    (λ qs h.
    ap (λ (st : RunOutcome). why_by (answer_number st.answer) (caused (graph_part t g) g (cause_of (graph_part t g) (run_of s g) a qs)))
    (sym (stopped (refused 7 (run_of s g)) _ (ne_eqb _ _ h))))

-- ---- where the part stands
module _ (guards limits : List ℕ) (eg : length guards ≡ all_guards) (el : length limits ≡ all_limits) where
  module _ (t : List ℕ) (sound : Sound t) (g : ℕ) (l : g < graph_room) (c : Cause) (h : Standing t c) where
    abbrev with : Part → Found
    with p = record { answer = unsatisfied; cause = c; part = p }

    placed : (a b d : Bool) → eqb c.failing guard_fails ≡ a → eqb c.failing limit_fails ≡ b → eqb c.failing invariant_fails ≡ d
        → Within guards limits
        (with (cond a (record { start = guard_at g c.transition; length = guard_length t c.transition })
        (cond b (record { start = limit_at g c.transition c.number; length = limit_width })
        (cond d (record { start = limit_at g (invariant_group (post_of (key_of t c.transition))) c.number; length = limit_width }) no_part))))
    placed true b d ea eb ed =
        let k = h.guard (eqb-true _ _ ea) in
        let short = (sound.transition _ k).guard.short in
        let few = sound.counts.transitions in
        let all : guard_at g c.transition + guard_length t c.transition ≤ all_guards = omega arith in
        record { low = all; guard = λ e. omega arith; limit = λ no. absurd (no (eqb-true _ _ ea)) }
    placed false true d ea eb ed =
        let k = h.limit (eqb-true _ _ eb) in
        let few = (sound.transition _ k.0).limits.few in
        let n = sound.counts.transitions in
        let all : limit_at g c.transition c.number + limit_width ≤ all_limits = omega (arith, k.0, k.1) in
        let f : c.failing ≡ limit_fails = eqb-true _ _ eb in
        record { low = omega arith; guard = λ e. absurd (omega arith); limit = λ no. omega arith }
    placed false false true ea eb ed =
        let k = h.invariant (eqb-true _ _ ed) in
        let group = invariants_of_location sound (sound.transition _ k.0).post in
        let few = group.2.few in
        let all : limit_at g (invariant_group (post_of (key_of t c.transition))) c.number + limit_width ≤ all_limits =
        omega (arith, k.1, group.1) in
        let f : c.failing ≡ invariant_fails = eqb-true _ _ ed in
        record { low = omega arith; guard = λ e. absurd (omega arith); limit = λ no. omega arith }
    placed false false false ea eb ed = record { low = omega arith; guard = λ e. omega arith; limit = λ no. omega arith }

    caused_within : Within guards limits (caused t g c)
    unfolding place_of
    caused_within = placed (eqb c.failing guard_fails) (eqb c.failing limit_fails) (eqb c.failing invariant_fails) refl refl refl

  answered_within : (n : ℕ) → Within guards limits (answered n)
  answered_within n = record { low = omega arith; guard = λ e. omega arith; limit = λ no. omega arith }

  graph_within : (t s : List ℕ) (g a : ℕ) (posts : List ℕ) (word : ℕ) → Fitting t s g → Within guards limits (graph_why t s g a posts word)
  unfolding graph_why
  graph_within t s g a posts word f = by (eqb (answer_number (step_of (graph_part t g) (run_of s g) a posts word).answer) unsatisfied) refl
    where
      by : (b : Bool) → eqb (answer_number (step_of (graph_part t g) (run_of s g) a posts word).answer) unsatisfied ≡ b
          → Within guards limits
          (cond b (caused (graph_part t g) g (cause_of (graph_part t g) (run_of s g) a posts))
          (answered (answer_number (step_of (graph_part t g) (run_of s g) a posts word).answer)))
      by true e =
          caused_within (graph_part t g) (part_sound f) g (small f) (cause_of (graph_part t g) (run_of s g) a posts)
          (real_stands
          (cause_real (graph_part t g) (run_of s g) a posts
          (eight_asked (graph_part t g) (part_sound f) (run_of s g) posts a word (eqb-true _ _ e))))
      by false e = answered_within (answer_number (step_of (graph_part t g) (run_of s g) a posts word).answer)

answered_anywhere : (guards limits : List ℕ) (n : ℕ) → Within guards limits (answered n)
answered_anywhere guards limits n = record { low = omega arith; guard = λ e. omega arith; limit = λ no. omega arith }

pub why_within : (t s guards limits : List ℕ) (g o a : ℕ) (posts : List ℕ) (word : ℕ)
    → Within guards limits (found_of t s guards limits g o a posts word)
unfolding found_of plain_why tables_same
why_within t s guards limits g o a posts word =
    rung (Within guards limits) (system_fits t s) _ _ (answered_anywhere guards limits 32)
    (λ fits.
    rung (Within guards limits) (tables_same t guards limits) _ _ (answered_anywhere guards limits 5)
    (λ same.
    let eg : length guards ≡ all_guards = eqb-true _ _ (and_first _ _ same) in
    let el : length limits ≡ all_limits = eqb-true _ _ (and_first _ _ (and_rest _ _ same)) in
    rung (Within guards limits) (ltb g (graph_count t)) _ _ (answered_anywhere guards limits 17)
    (λ known.
    rung (Within guards limits) (eqb o g) _ _ (answered_anywhere guards limits 18)
    (λ own.
    rung (Within guards limits) (all_below (length posts) (own_post posts g)) _ _ (answered_anywhere guards limits 19)
    (λ each.
    let both = fits_both t s fits in
    graph_within guards limits eg el t s g a (locations_of posts) word
    (record { table = both.0; state = both.1; known = ltb-true _ _ known }))))))
