-- Laws of what a call leaves in a run's words.
use Prim.Native.Nat.{ℕ, ◌*◌, ◌<◌, ◌≤◌}
use mathlib.Core.Path.{◌≡◌, refl, sym, ap, ◌∙◌, subst}
use mathlib.Core.Bool.{Bool, true, false, cond}
use mathlib.Core.List.{List}
use native.Mathlib.Omega.{arith}
use lib.ListN.{length, get_or, take, drop}
use lib.Seq.{get_or-take}
use Rattle.std.specs.Prelude.{Err}
use Rattle.graph_tables.specs.Refusals.{refusal}
use borrow.Author.Tests.{eqb-true, ltb-true}
use Rattle.laws.specs.Ladder.{unless}
use Rattle.laws.specs.Below.{all_below}
use Rattle.laws.proofs.Ladder.{passed, stopped}
use Rattle.laws.proofs.BelowLaws.{and_first, and_rest, all_at}
use Rattle.grammar.specs.Slots.{slots_of}
use Rattle.grammar.specs.declared.values.Slot.{Slot}
use Rattle.graph_tables.specs.Words.{variable_count, clock_count, process_count, location_count, effect_count}
use Rattle.graph_tables.specs.Sizes.{process_room, variable_room, clock_room}
use Rattle.graph_tables.specs.Sound.{Sound}
use Rattle.graph_tables.specs.RunWords.{RunWords, run_places_start, run_values_start, run_processes, run_variables, run_clocks, places_in, vars_in}
use Rattle.graph_tables.specs.RunWords.{clocks_in}
use Rattle.run_steps.specs.Steps.{ready_of, Effected, unchanged, effected_of, placed_below, place_holds}
use Rattle.run_steps.specs.Waiting.{waiting_of}
use Rattle.run_steps.specs.Listing.{shared_entries, listing_of}
use Rattle.run_steps.specs.Inner.{VarsLeft}
use Rattle.run_steps.proofs.StepLaws.{effects_single}
use Rattle.run_steps.proofs.AgreeLaws.{ready_places, hold_places}
use Rattle.run_steps.proofs.UsedLaws.{used_at, waiting_same, shared_entries_same, listing_same}
use Rattle.run_steps.proofs.VarLaws.{vars_same, left_back}
use Rattle.program_graph.specs.Running.{place_known, counts_same, run_formed, moved_to}
use Rattle.program_graph.specs.Inner.{run_at, RunOf, Leaves, DidSend, Parts, Effects}
use Rattle.program_graph.specs.Messaging.{refused_send}
use Rattle.program_graph.specs.declared.record.ProgramGraphRun.{ProgramGraphRun}
use Rattle.program_graph.proofs.PartLaws.{anew}
use Rattle.program_graph.proofs.WordLaws.{vars_length, vars_anew, used_length, parts_run, laid}

-- ---- rungs: what is so of the refusal, or of the rest, is so of the rung
pub rung_stopped : {A : Type 0} (P : A → Type 0) {ok : Bool} (refusal rest : A) → ok ≡ false → P refusal → P (unless ok refusal rest)
rung_stopped P refusal rest e h = subst P (stopped refusal rest e) h

pub rung_passed : {A : Type 0} (P : A → Type 0) {ok : Bool} (refusal rest : A) → ok ≡ true → P rest → P (unless ok refusal rest)
rung_passed P refusal rest e h = subst P (passed refusal e refl) h

pub cond_taken : {A : Type 0} (P : A → Type 0) {b : Bool} (x y : A) → b ≡ true → P x → P (cond b x y)
cond_taken P x y e h = subst (λ (b : Bool). P (cond b x y)) (sym e) h

pub cond_left : {A : Type 0} (P : A → Type 0) {b : Bool} (x y : A) → b ≡ false → P y → P (cond b x y)
cond_left P x y e h = subst (λ (b : Bool). P (cond b x y)) (sym e) h

-- ---- what a run that is the table's has
module _ (t : List ℕ) (run : ProgramGraphRun) (h : run_formed t run ≡ true) where
  pub processes_same : run.processes ≡ process_count t
  unfolding run_formed counts_same
  processes_same = eqb-true run.processes (process_count t) (and_first _ _ (and_first _ _ h))

  pub variables_same : run.variables ≡ variable_count t
  unfolding run_formed counts_same
  variables_same = eqb-true run.variables (variable_count t) (and_first _ _ (and_rest _ _ (and_first _ _ h)))

  pub clocks_same : run.clocks ≡ clock_count t
  unfolding run_formed counts_same
  clocks_same = eqb-true run.clocks (clock_count t) (and_rest _ _ (and_rest _ _ (and_first _ _ h)))

  pub places_known : (p : ℕ) → p < run.processes → get_or run.places p 0 < location_count t
  unfolding run_formed place_known
  places_known p l = ltb-true _ _ (all_at (place_known t run.places) run.processes p (and_first _ _ (and_rest _ _ h)) l)

pub few_clocks : (t r : List ℕ) → Sound t → RunOf t r → run_clocks r ≤ clock_room
few_clocks t r sound h = omega (arith, clocks_same t (run_at r) h.formed, sound.counts.clocks)

-- ---- words left
pub leaves_same : (t r : List ℕ) → RunOf t r → Leaves t r (run_at r) r
leaves_same t r h = record { words = h.words; reads = refl; used = h.used; spare = refl }

-- a send that is refused says nothing and leaves every word
pub unsaid : (t r : List ℕ) → RunOf t r → (n : ℕ) → DidSend t r (Err (refusal n)) r (refused_send n (run_at r))
unsaid t r h n = record { answer = refl; message = refl; words = leaves_same t r h }

-- the parts afterwards make the run
pub leaves_parts :
    (t r after places vars times : List ℕ) (values : List Slot) → RunOf t r → Parts after (take run_places_start r) places vars times →
    VarsLeft (variable_count t) (vars_in r) vars values
    → Leaves t r
    (record {
      places = places;
      vars = values;
      times = times;
      processes = run_processes r;
      variables = run_variables r;
      clocks = run_clocks r;
    }) after
leaves_parts t r after places vars times values h p v =
    let count : (i : ℕ) → i < run_places_start → get_or (take run_places_start r) i 0 ≡ get_or r i 0 = λ i l. get_or-take run_places_start r i 0 l in
    record {
      words = p.words;
      reads = parts_run p ∙ cc (v.slots, count 0 (omega arith), count 1 (omega arith), count 2 (omega arith));
      used = rw p.vars (v.canonical h.used);
      spare = ap (drop (2 * variable_count t)) p.vars ∙ v.frame;
    }

-- every process at its post
pub leaves_moved :
    (t r after posts vars times : List ℕ) (values : List Slot) → RunOf t r → length posts ≡ run_processes r →
    Parts after (take run_places_start r) (placed_below (places_in r) posts (length posts)) vars times →
    VarsLeft (variable_count t) (vars_in r) vars values → Leaves t r (moved_to (run_at r) posts values times) after
leaves_moved t r after posts vars times values h e p v =
    leaves_parts t r after _ vars times values h
    (subst (λ (n : ℕ). Parts after (take run_places_start r) (placed_below (places_in r) posts n) vars times) e p) v

-- ---- the used places are lent alone: n of them
module _ (t r : List ℕ) (sound : Sound t) (h : RunOf t r) (n : ℕ) (e : n ≡ run_processes r) where
  pub few_places : n ≤ process_room
  few_places = omega (arith, processes_same t (run_at r) h.formed, sound.counts.processes)

  abbrev lent : List ℕ
  lent = take n (drop run_places_start r)

  pub lent_length : length lent ≡ n
  lent_length = used_length r h.words n few_places

  lent_at : (p : ℕ) → p < n → get_or lent p 0 ≡ get_or (places_in r) p 0
  lent_at p l = used_at (drop run_places_start r) n p l ∙ sym (used_at (drop run_places_start r) process_room p (omega (arith, few_places)))

  pub lent_known : (p : ℕ) → p < length lent → get_or lent p 0 < location_count t
  lent_known p l =
      let m : p < n = rw lent_length at l in
      rw (lent_at p m) (places_known t (run_at r) h.formed p (omega arith))

  pub ready_lent : (vars : List Slot) (clocks after : List ℕ) (action : ℕ) (posts : List ℕ)
      → ready_of t vars clocks after lent (length lent) action posts
      ≡ ready_of t vars clocks after (places_in r) (run_processes r) action posts
  ready_lent vars clocks after action posts =
      ap (λ (k : ℕ). ready_of t vars clocks after lent k action posts) lent_length
      ∙ ready_places t lent (places_in r) n lent_at vars clocks after action posts
      ∙ ap (λ (k : ℕ). ready_of t vars clocks after (places_in r) k action posts) e

  pub waiting_lent : (clocks : List ℕ) → waiting_of t clocks lent (length lent) ≡ waiting_of t clocks (places_in r) (run_processes r)
  waiting_lent clocks =
      ap (waiting_of t clocks lent) lent_length ∙ waiting_same t clocks lent (places_in r) n lent_at ∙ ap (waiting_of t clocks (places_in r)) e

  pub shared_lent : (vars : List Slot) (clocks : List ℕ) (action : ℕ)
      → shared_entries t vars clocks lent (length lent) action ≡ shared_entries t vars clocks (places_in r) (run_processes r) action
  shared_lent vars clocks action =
      ap (λ (k : ℕ). shared_entries t vars clocks lent k action) lent_length
      ∙ shared_entries_same t clocks lent (places_in r) n lent_at vars action
      ∙ ap (λ (k : ℕ). shared_entries t vars clocks (places_in r) k action) e

  pub listing_lent : (vars : List Slot) (clocks : List ℕ)
      → listing_of t vars clocks lent (length lent) ≡ listing_of t vars clocks (places_in r) (run_processes r)
  listing_lent vars clocks =
      ap (λ (k : ℕ). listing_of t vars clocks lent k) lent_length
      ∙ listing_same t clocks lent (places_in r) n lent_at vars
      ∙ ap (λ (k : ℕ). listing_of t vars clocks (places_in r) k) e

  pub holds_lent : (clocks : List ℕ)
      → all_below (length lent) (place_holds t lent clocks) ≡ all_below (run_processes r) (place_holds t (places_in r) clocks)
  holds_lent clocks =
      ap (λ (k : ℕ). all_below k (place_holds t lent clocks)) lent_length
      ∙ hold_places t lent (places_in r) n lent_at clocks
      ∙ ap (λ (k : ℕ). all_below k (place_holds t (places_in r) clocks)) e

-- ---- a call that leaves a run as it was leaves every word
pub leaves_back : {t r after : List ℕ} → RunOf t r → Leaves t r (run_at r) after → after ≡ r
leaves_back {t} {r} {after} h l =
    let left : VarsLeft (variable_count t) (vars_in r) (vars_in after) (slots_of (vars_in r)) =
    record {
      words = l.used.words ∙ sym h.used.words;
      slots = ap (λ (x : ProgramGraphRun). x.vars) l.reads;
      canonical = λ w. l.used;
      frame = l.spare;
    }
    in
    let places = ap (λ (x : ProgramGraphRun). x.places) l.reads in
    let times = ap (λ (x : ProgramGraphRun). x.times) l.reads in
    let a = ap (λ (x : ProgramGraphRun). x.processes) l.reads in
    let b = ap (λ (x : ProgramGraphRun). x.variables) l.reads in
    let d = ap (λ (x : ProgramGraphRun). x.clocks) l.reads in
    laid after l.words ∙ cc (places, times, a, b, d, left_back h.used left) ∙ sym (laid r h.words)

-- ---- effects in place
module _ (t : List ℕ) (a word : ℕ) (r ws : List ℕ) (h : RunWords r) where
  abbrev given : Effected
  given = effected_of t a (slots_of (vars_in r)) word

  pub effects_ran : (fits : Bool) → fits ≡ given.fits → fits ≡ true → VarsLeft (variable_count t) (vars_in r) ws given.vars
      → Effects t a word r true (anew r run_values_start (2 * variable_room) ws)
  effects_ran fits e q v =
      let p = vars_anew r h ws (v.words ∙ vars_length r h) in
      let ok : given.fits ≡ true = sym e ∙ q in
      record {
        answer = sym ok;
        parts = record { words = p.words; counts = p.counts; places = p.places; vars = refl; times = p.times };
        vars = rw (p.vars, ok) v;
      }

  -- one effect at most
  pub effects_one : (fits : Bool) → fits ≡ given.fits → effect_count t a ≤ 1 → VarsLeft (variable_count t) (vars_in r) ws given.vars
      → Effects t a word r fits (anew r run_values_start (2 * variable_room) ws)
  effects_one true e few v = effects_ran true e refl v
  effects_one false e few v =
      let p = vars_anew r h ws (v.words ∙ vars_length r h) in
      let ok : given.fits ≡ false = sym e in
      let none : given.vars ≡ slots_of (vars_in r) =
      effects_single t a (unchanged (slots_of (vars_in r)) word) (effect_count t a) few refl ok in
      record {
        answer = e;
        parts = record { words = p.words; counts = p.counts; places = p.places; vars = refl; times = p.times };
        vars = rw (p.vars, ok) (rw none at v);
      }

  pub effects_undone : (fits : Bool) → fits ≡ given.fits → fits ≡ false → length ws ≡ 2 * variable_room → (saved : List ℕ)
      → saved ≡ vars_in r
      → Effects t a word r false (anew (anew r run_values_start (2 * variable_room) ws) run_values_start (2 * variable_room) saved)
  effects_undone fits e f size saved same =
      let p = vars_anew r h ws size in
      let q = vars_anew (anew r run_values_start (2 * variable_room) ws) p.words saved (ap length same ∙ vars_length r h) in
      let ok : given.fits ≡ false = sym e ∙ f in
      let back = q.vars ∙ same in
      record {
        answer = sym ok;
        parts =
            record {
              words = q.words;
              counts = q.counts ∙ p.counts;
              places = q.places ∙ p.places;
              vars = refl;
              times = q.times
                  ∙ p.times;
            };
        vars = rw (back, ok) (vars_same (variable_count t) (vars_in r));
      }

-- a step by a plain action: its variables put back, or its effects, its times and its places in the words
module _ (t : List ℕ) (a word : ℕ) (r : List ℕ) (h : RunOf t r) {fits : Bool} {after : List ℕ} (e : Effects t a word r fits after) where
  pub effects_left : (effected_of t a (slots_of (vars_in r)) word).fits ≡ false → Leaves t r (run_at r) after
  effects_left f = leaves_parts t r after (places_in r) (vars_in after) (clocks_in r) (slots_of (vars_in r)) h e.parts (rw f at e.vars)

  pub effects_moved :
      (posts times r₂ r₃ : List ℕ) → length posts ≡ run_processes r → (effected_of t a (slots_of (vars_in r)) word).fits ≡ true →
      Parts r₂ (take run_places_start after) (places_in after) (vars_in after) times →
      Parts r₃ (take run_places_start r₂) (placed_below (places_in r₂) posts (length posts)) (vars_in r₂) (clocks_in r₂)
      → Leaves t r (moved_to (run_at r) posts (effected_of t a (slots_of (vars_in r)) word).vars times) r₃
  effects_moved posts times r₂ r₃ each f p q =
      let parts : Parts r₃ (take run_places_start r) (placed_below (places_in r) posts (length posts)) (vars_in after) times =
      record {
        words = q.words;
        counts = q.counts ∙ p.counts ∙ e.parts.counts;
        places = q.places ∙ ap (λ (x : List ℕ). placed_below x posts (length posts)) (p.places ∙ e.parts.places);
        vars = q.vars ∙ p.vars;
        times = q.times ∙ p.times;
      }
      in
      leaves_moved t r r₃ posts (vars_in after) times _ h each parts (rw f at e.vars)

-- ---- a wait: the clocks alone
pub leaves_later : (t r after times : List ℕ) → RunOf t r → Parts after (take run_places_start r) (places_in r) (vars_in r) times
    → Leaves t r
    (record {
      places = places_in r;
      vars = slots_of (vars_in r);
      times = times;
      processes = run_processes r;
      variables = run_variables r;
      clocks = run_clocks r;
    })
    after
leaves_later t r after times h p =
    leaves_parts t r after (places_in r) (vars_in r) times (slots_of (vars_in r)) h p (vars_same (variable_count t) (vars_in r))

-- ---- a receive: its variables, then its places
pub taken_moved :
    (t r posts r₂ r₃ : List ℕ) (values : List Slot) → RunOf t r → length posts ≡ run_processes r →
    Parts r₂ (take run_places_start r) (places_in r) (vars_in r₂) (clocks_in r) → VarsLeft (variable_count t) (vars_in r) (vars_in r₂) values →
    Parts r₃ (take run_places_start r₂) (placed_below (places_in r₂) posts (length posts)) (vars_in r₂) (clocks_in r₂)
    → Leaves t r (moved_to (run_at r) posts values (clocks_in r)) r₃
taken_moved t r posts r₂ r₃ values h each p v q =
    leaves_moved t r r₃ posts (vars_in r₂) (clocks_in r) values h each
    (record {
      words = q.words;
      counts = q.counts ∙ p.counts;
      places = q.places ∙ ap (λ (x : List ℕ). placed_below x posts (length posts)) p.places;
      vars = q.vars;
      times = q.times ∙ p.times;
    })
    v

-- variables written
pub vars_left : (t r ws : List ℕ) (values : List Slot) → RunWords r → VarsLeft (variable_count t) (vars_in r) ws values
    → Parts (anew r run_values_start (2 * variable_room) ws) (take run_places_start r) (places_in r)
    (vars_in (anew r run_values_start (2 * variable_room) ws)) (clocks_in r)
    × VarsLeft (variable_count t) (vars_in r) (vars_in (anew r run_values_start (2 * variable_room) ws)) values
vars_left t r ws values h v =
    let p = vars_anew r h ws (v.words ∙ vars_length r h) in
    (record { words = p.words; counts = p.counts; places = p.places; vars = refl; times = p.times }, rw p.vars v)
