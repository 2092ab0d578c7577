-- What holds of the explainer (docs/RULES.md, 'Why a step answered 8').
use Rattle.std.specs.Prelude.{⊤}
use Prim.Native.Nat.{ℕ, ◌<◌}
use mathlib.Core.Path.{◌≡◌, refl, sym, ap, subst, ◌∙◌}
use mathlib.Core.Bool.{Bool, true, false, cond}
use mathlib.Core.List.{List}
use mathlib.Core.Logic.{⊎_elim, ◌↔◌}
use native.Mathlib.Omega.{arith}
use native.Mathlib.Decide.{ℕ_discrete}
use borrow.Author.Tests.{eqb-true, eq-eqb, ltb-true, lt-ltb}
use Rattle.laws.proofs.BelowLaws.{all_from}
use lib.Dec.{eqb, ltb}
use lib.ListN.{length}
use Rattle.laws.specs.Ladder.{unless}
use Rattle.laws.specs.Below.{all_below}
use Rattle.laws.proofs.Ladder.{passed, stopped, rung}
use Rattle.graph_tables.specs.Answers.{Answer, answer_number}
use Rattle.graph_tables.specs.Words.{key_of, post_of, invariant_group}
use Rattle.graph_tables.specs.Sound.{Sound}
use Rattle.run_steps.specs.Steps.{nothing_fails}
use Rattle.run_steps.proofs.LimitLaws.{limits_of_transition, invariants_of_location}
use Rattle.program_graph.specs.Running.{step_of}
use Rattle.program_graph.specs.declared.record.ProgramGraphRun.{ProgramGraphRun}
use Rattle.system_tables.specs.Sizes.{graph_room}
use Rattle.system_tables.specs.Words.{graph_count, graph_part}
use Rattle.system_tables.specs.declared.ids.Communication.TheVariants.{Plain}
use Rattle.channel_system.specs.Asked.{Answers, answer_of, Asked}
use Rattle.channel_system.specs.Facts.{Fitting}
use Rattle.channel_system.specs.Steps.{system_fits, own_post, locations_of, run_of, Moved, refused_step, plain_step, spoken_by, moved_of, transition_of}
use Rattle.channel_system.proofs.RunLaws.{small, part_sound}
use Rattle.channel_system.proofs.FittingLaws.{fits_both}
use Rattle.explainer.specs.Cause.{cause_of, place_of}
use Rattle.explainer.specs.Same.{tables_same}
use Rattle.explainer.specs.Why.{unsatisfied, answered, caused, why_by, graph_why, plain_why, found_of, part_of}
use Rattle.explainer.specs.Facts.{Real, Equal, GraphEqual, built_of}
use Rattle.explainer.specs.declared.causes.Cause.{Cause}
use Rattle.explainer.specs.declared.causes.Found.{Found}
use Rattle.explainer.proofs.EightLaws.{eight_asked}
use Rattle.explainer.proofs.CauseTheorems.{cause_real, real_names}
use Rattle.explainer.proofs.WhyLaws.{why_eight}
use Rattle.explainer.proofs.EqualLaws.{tables_exactly, limit_words_lem}

-- ---- the part that is handed back has the words of the built table
module _ (t : List ℕ) (sound : Sound t) (g : ℕ) (l : g < graph_room) (guards limits : List ℕ) (el : length limits ≡ 30720)
    (same : GraphEqual t guards limits g) where
  part_built : (run : ProgramGraphRun) (a : ℕ) (posts : List ℕ) (c : Cause) → Real t run a posts c
      → part_of guards limits (caused t g c) ≡ built_of t c
  unfolding place_of
  part_built run a posts c r =
      ⊎_elim
      (λ n. rw n.0)
      (λ n.
      let known = n.0.candidate.known in
      ⊎_elim
      (λ w. rw w.0 (same.guard c.transition known))
      (⊎_elim
      (λ w.
      let s = limits_of_transition sound known in
      rw w.0
      (limit_words_lem t limits g c.transition _ c.number el l s.1 s.2.few w.2.there (same.limit c.transition known)))
      (λ w.
      let s = invariants_of_location sound (sound.transition _ known).post in
      rw w.0
      (limit_words_lem t limits g (invariant_group (post_of (key_of t c.transition))) _ c.number el l s.1 s.2.few w.3.there
      (same.invariant (post_of (key_of t c.transition)) (sound.transition _ known).post))))
      n.1)
      r.what

-- ---- a ladder whose end is an 8
passed_on : (b : Bool) (refusal rest : Found) → (unless b refusal rest).answer ≡ unsatisfied → (refusal.answer ≡ unsatisfied → ⊥)
    → (b ≡ true) × (unless b refusal rest ≡ rest) × (rest.answer ≡ unsatisfied)
unfolding unless
passed_on true refusal rest h n = (refl, refl, h)
passed_on false refusal rest h n = absurd (n h)

-- what is told is the answer, whether there is a cause or not
why_answer : (n : ℕ) (why : Found) → why.answer ≡ unsatisfied → (why_by n why).answer ≡ n
why_answer n why e = by (eqb n unsatisfied) refl
  where
    by : (b : Bool) → eqb n unsatisfied ≡ b → (cond b why (answered n)).answer ≡ n
    by true q = e ∙ sym (eqb-true n unsatisfied q)
    by false q = refl

-- an answer that is no 8 has no cause
abbrev Quiet : Found → Type 0
Quiet f = (f.answer ≡ unsatisfied → ⊥) → f.cause.failing ≡ nothing_fails

why_quiet : (n : ℕ) (why : Found) → why.answer ≡ unsatisfied → Quiet (why_by n why)
why_quiet n why e = by (eqb n unsatisfied)
  where
    by : (b : Bool) → Quiet (cond b why (answered n))
    by true m = absurd (m e)
    by false m = refl

-- ---- two ladders of the same tests give the same number
abbrev number : Moved → ℕ
number m = answer_number (answer_of m)

short : (f : Found) (m : Moved) (f' : Found) (m' : Moved) → f.answer ≡ number m → (unless false f f').answer ≡ number (unless false m m')
unfolding unless
short f m f' m' e = e

long : (f : Found) (m : Moved) (f' : Found) (m' : Moved) → f'.answer ≡ number m' → (unless true f f').answer ≡ number (unless true m m')
unfolding unless
long f m f' m' e = e

ladders : (b : Bool) (f : Found) (m : Moved) (f' : Found) (m' : Moved) → f.answer ≡ number m → f'.answer ≡ number m'
    → (unless b f f').answer ≡ number (unless b m m')
ladders true f m f' m' e k = long f m f' m' k
ladders false f m f' m' e k = short f m f' m' e

module _ (t s guards limits : List ℕ) (g o a : ℕ) (posts : List ℕ) (word : ℕ) where
  abbrev found : Found
  found = found_of t s guards limits g o a posts word

  abbrev step : Answer ⊤
  step = answer_of (transition_of t s g o a posts word)

  -- ---- the answers in their order
  -- 32 comes first.
  pub bad_state : system_fits t s ≡ false → found ≡ answered 32
  unfolding found_of
  bad_state h = sym (stopped _ _ h)

  -- Then 5, unless the lent tables are the built ones.
  pub other_tables : system_fits t s ≡ true → (Equal t guards limits → ⊥) → found ≡ answered 5
  unfolding found_of
  other_tables h n = by (tables_same t guards limits) refl
    where
      by : (b : Bool) → tables_same t guards limits ≡ b
          → unless (system_fits t s) (answered 32) (unless b (answered 5) (plain_why t s g o a posts word)) ≡ answered 5
      by true e = absurd (n ((tables_exactly t guards limits (fits_both t s h).0).0 e))
      by false e = sym (passed _ h (stopped _ _ refl))

  -- ---- what is known once the answer is 8
  record Eighth : Type 0 where
    fits : system_fits t s ≡ true
    same : tables_same t guards limits ≡ true
    known : ltb g (graph_count t) ≡ true
    is : found ≡ graph_why t s g a (locations_of posts) word
    eight : (graph_why t s g a (locations_of posts) word).answer ≡ unsatisfied

  eighth : found.answer ≡ unsatisfied → Eighth
  unfolding found_of plain_why
  eighth h =
      let r1 = passed_on (system_fits t s) _ _ h (λ e. omega arith) in
      let r2 = passed_on (tables_same t guards limits) _ _ r1.2 (λ e. omega arith) in
      let r3 = passed_on (ltb g (graph_count t)) _ _ r2.2 (λ e. omega arith) in
      let r4 = passed_on (eqb o g) _ _ r3.2 (λ e. omega arith) in
      let r5 = passed_on (all_below (length posts) (own_post posts g)) _ _ r4.2 (λ e. omega arith) in
      record {
        fits = r1.0;
        same = r2.0;
        known = r3.0;
        is = r1.1 ∙ r2.1 ∙ r3.1 ∙ r4.1 ∙ r5.1;
        eight = r5.2;
      }

  abbrev G : List ℕ
  G = graph_part t g

  abbrev own : ℕ
  own = answer_number (step_of G (run_of s g) a (locations_of posts) word).answer

  own_eight : Eighth → own ≡ unsatisfied
  unfolding graph_why
  own_eight h = sym (why_answer own (caused G g (cause_of G (run_of s g) a (locations_of posts))) refl) ∙ h.eight

  fitting : Eighth → Fitting t s g
  fitting h = let both = fits_both t s h.fits in record { table = both.0; state = both.1; known = ltb-true _ _ h.known }

  is_caused : (h : Eighth) → found ≡ caused G g (cause_of G (run_of s g) a (locations_of posts))
  unfolding graph_why
  is_caused h = h.is ∙ sym (why_eight own _ (own_eight h))

  named : (h : Eighth) → Real G (run_of s g) a (locations_of posts) (cause_of G (run_of s g) a (locations_of posts))
  named h =
      let f = fitting h in
      cause_real G (run_of s g) a (locations_of posts) (eight_asked G (part_sound f) (run_of s g) (locations_of posts) a word (own_eight h))

  -- ---- The cause that is told with an 8 is the real one.
  pub real_cause : found.answer ≡ unsatisfied → Real G (run_of s g) a (locations_of posts) found.cause
  real_cause e =
      let h = eighth e in
      subst (λ (f : Found). Real G (run_of s g) a (locations_of posts) f.cause) (sym (is_caused h)) (named h)

  -- ---- The part that is handed back has the words that the built table has there.
  pub real_part : found.answer ≡ unsatisfied → part_of guards limits found ≡ built_of G found.cause
  real_part e =
      let h = eighth e in
      let f = fitting h in
      let equal = (tables_exactly t guards limits f.table).0 h.same in
      subst (λ (x : Found). part_of guards limits x ≡ built_of G x.cause) (sym (is_caused h))
      (part_built G (part_sound f) g (small f) guards limits equal.limits_whole (equal.graph g f.known) (run_of s g) a (locations_of posts) _
      (named h))

  -- ---- There is a cause exactly where the answer is 8.
  no_cause_lem : (found.answer ≡ unsatisfied → ⊥) → found.cause.failing ≡ nothing_fails
  unfolding found_of plain_why graph_why
  no_cause_lem =
      rung Quiet (system_fits t s) _ _ (λ n. refl)
      (λ _.
      rung Quiet (tables_same t guards limits) _ _ (λ n. refl)
      (λ _.
      rung Quiet (ltb g (graph_count t)) _ _ (λ n. refl)
      (λ _.
      rung Quiet (eqb o g) _ _ (λ n. refl)
      (λ _.
      rung Quiet (all_below (length posts) (own_post posts g)) _ _ (λ n. refl)
      (λ _. why_quiet own (caused G g (cause_of G (run_of s g) a (locations_of posts))) refl)))))

  pub cause_with_8 : (found.cause.failing ≡ nothing_fails → ⊥) ↔ (found.answer ≡ unsatisfied)
  cause_with_8 = (λ n. by (ℕ_discrete found.answer unsatisfied) n, λ e z. real_names (real_cause e) z)
    where
      by : Dec (found.answer ≡ unsatisfied) → (found.cause.failing ≡ nothing_fails → ⊥) → found.answer ≡ unsatisfied
      by (yes e) n = e
      by (no m) n = absurd (n (no_cause_lem m))

  -- ---- Once 17, 18 and 19 are passed the answer is that of the graph's own plain step, also of a communication.
  pub as_the_graph : system_fits t s ≡ true → Equal t guards limits → Asked t g o posts → found.answer ≡ own
  unfolding found_of plain_why graph_why own_post
  as_the_graph fits equal asked =
      sym (ap (λ (f : Found). f.answer)
      (passed _ fits
      (passed _ ((tables_exactly t guards limits (fits_both t s fits).0).1 equal)
      (passed _ (lt-ltb _ _ asked.graph)
      (passed _ (eq-eqb _ _ asked.own)
      (passed _ (all_from (own_post posts g) (length posts) (λ i l. eq-eqb _ _ (asked.each i l))) refl))))))
      ∙ why_answer own (caused G g (cause_of G (run_of s g) a (locations_of posts))) refl

  -- ---- Every answer of a plain action is the step's.
  plain_same : spoken_by t g a ≡ Plain → (plain_why t s g o a posts word).answer ≡ answer_number (answer_of (moved_of t s g o a posts word))
  unfolding plain_why graph_why moved_of plain_step
  plain_same plain =
      ladders (ltb g (graph_count t)) _ _ _ _ refl
      (ladders (eqb o g) _ _ _ _ refl
      (ladders (all_below (length posts) (own_post posts g)) _ _ _ _ refl
      (rw plain (why_answer own (caused G g (cause_of G (run_of s g) a (locations_of posts))) refl))))

  pub as_the_step : spoken_by t g a ≡ Plain → (system_fits t s ≡ true → Equal t guards limits) → found.answer ≡ answer_number step
  unfolding found_of transition_of
  as_the_step plain equal = by (system_fits t s) refl
    where
      by : (b : Bool) → system_fits t s ≡ b
          → (unless b (answered 32) (unless (tables_same t guards limits) (answered 5) (plain_why t s g o a posts word))).answer
          ≡ answer_number (answer_of (unless b (refused_step 32 g s) (moved_of t s g o a posts word)))
      by false e = short (answered 32) (refused_step 32 g s) _ _ refl
      by true e =
          long (answered 32) (refused_step 32 g s) _ _
          (ap (λ (f : Found). f.answer) (sym (passed _ ((tables_exactly t guards limits (fits_both t s e).0).1 (equal e)) refl))
          ∙ plain_same plain)

  -- ---- So a cause is told of a plain action, on the tables that are the built ones, exactly when the step answers 8.
  pub cause_exactly : spoken_by t g a ≡ Plain → (system_fits t s ≡ true → Equal t guards limits)
      → (found.cause.failing ≡ nothing_fails → ⊥) ↔ Answers unsatisfied step
  cause_exactly plain equal =
      let same = as_the_step plain equal in
      (λ n. sym same ∙ cause_with_8.0 n, λ e. cause_with_8.1 (same ∙ e))
