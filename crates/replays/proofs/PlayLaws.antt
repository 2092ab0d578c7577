-- One record more, one block more, and that the state stays one of the table's.
use Rattle.replays.specs.declared.answers.ReplayError.{ReplayError}
use Rattle.std.specs.declared.result.Result.{Result}
use Rattle.std.specs.Result.{is_ok}
use Rattle.std.specs.Prelude.{Ok, Err, ⊤}
use Prim.Native.Nat.{ℕ, zero, suc, ◌+◌, ◌-◌, ◌*◌, ◌≤◌, ◌<◌}
use mathlib.Core.Path.{◌≡◌, refl, sym, ap, ◌∙◌}
use mathlib.Core.Bool.{Bool, true, false, cond}
use mathlib.Core.List.{List, [], ◌∷◌, ◌++◌}
use native.Mathlib.Omega.{arith}
use lib.Dec.{eqb, leb}
use lib.ListN.{length, take, drop}
use borrow.Author.Tests.{eq-eqb, ne_eqb}
use Rattle.laws.proofs.Tests.{never}
use Rattle.laws.proofs.Ladder.{passed, stopped, rung}
use Rattle.laws.proofs.BelowLaws.{and_first}
use Rattle.graph_tables.specs.Sizes.{word32}
use Rattle.program_graph.proofs.RunLaws.{either_way}
use Rattle.graph_tables.specs.Answers.{Answer, answer_number}
use Rattle.graph_tables.specs.Refusals.{refusal}
use Rattle.channel_system.specs.Steps.{carrying, system_fits, moved_of, transition_of}
use Rattle.channel_system.proofs.FittingLaws.{fits_state}
use Rattle.channel_system.proofs.SystemChains.{call_sound, step_inner}
use Rattle.recordings.specs.Numbers.{row}
use Rattle.recordings.specs.Records.{Entry, recorded_in}
use Rattle.recordings.specs.Layout.{record_room}
use Rattle.recordings.specs.Blocks.{count_in, entry_at, entries_of, block_at, last_at, good_block, good_at}
use Rattle.recordings.proofs.BlockLaws.{good_parts}
use Rattle.replays.specs.Facts.{Ready}
use Rattle.replays.specs.Replay.{post_words, call_of, given_to, after_entry, Played, played, differs_at, records_played, block_played}
use Rattle.replays.specs.Replay.{is_finished, stepped_by, go_on, blocks_played, all_played, or_undone, replay_of}

-- ---- posts
-- one post more, at the end
pub words_more : (g : ℕ) (ps : List ℕ) (p : ℕ) → post_words g (ps ++ (p ∷ [])) ≡ post_words g ps ++ ((g * word32 + p) ∷ [])
unfolding post_words
words_more g [] p = refl
words_more g (q ∷ ps) p = ap (λ (l : List ℕ). (g * word32 + q) ∷ l) (words_more g ps p)

-- ---- what is left of a row at its element i, and at its end
pub row_next : {A : Type 0} (f : ℕ → A) (i n : ℕ) → i < n → row f i (n - i) ≡ f i ∷ row f (i + 1) (n - (i + 1))
unfolding row
row_next f i n l =
    let e : n - i ≡ suc (n - (i + 1)) = omega arith in
    ap (row f i) e

pub row_end : {A : Type 0} (f : ℕ → A) (i n : ℕ) → n ≤ i → row f i (n - i) ≡ []
unfolding row
row_end f i n l =
    let e : n - i ≡ 0 = omega arith in
    ap (row f i) e

-- ---- a table that can be run, and a state of it, after a call
pub after_ready : (t s : List ℕ) → Ready t s → (e : Entry) → Ready t (after_entry t s e)
after_ready t s h e = record { table = h.table; state = call_sound t h.table s h.state (call_of e) }

-- ---- the number of an answer is the same with what was asked for
pub carried_number : {A : Type 0} (d : Answer ⊤) (x : A) → answer_number (carrying d x) ≡ answer_number d
carried_number (Ok _) x = refl
carried_number (Err r) x = refl

-- ---- a step that is made of a record is the public one
pub step_made : (t s : List ℕ) → Ready t s → (g a : ℕ) (ps : List ℕ) (w : ℕ) {a' : ℕ} {ps' : List ℕ} {w' : ℕ}
    → a' ≡ a → ps' ≡ ps → w' ≡ w → moved_of t s g g a' ps' w' ≡ transition_of t s g g a ps w
step_made t s h g a ps w {ps' = ps'} {w' = w'} p q r =
    ap (λ (x : ℕ). moved_of t s g g x ps' w') p
    ∙ (ap (λ (x : List ℕ). moved_of t s g g a x w') q
    ∙ (ap (λ (x : ℕ). moved_of t s g g a ps x) r ∙ sym (step_inner t h.table s h.state g g a ps w)))

-- ---- records
module _ (t s : List ℕ) (b i done : ℕ) where
  pub records_end : records_played t s b i done [] ≡ played (Ok done) s
  unfolding records_played
  records_end = refl

  module _ (e : Entry) (es : List Entry) where
    pub records_same : eqb (given_to t s e) (recorded_in e) ≡ true
        → records_played t s b i done (e ∷ es) ≡ records_played t (after_entry t s e) b (i + 1) (done + 1) es
    unfolding records_played
    records_same k =
        ap (λ (x : Bool). cond x (records_played t (after_entry t s e) b (i + 1) (done + 1) es)
        (played (differs_at b i (recorded_in e) (given_to t s e)) (after_entry t s e))) k

    pub records_differ : eqb (given_to t s e) (recorded_in e) ≡ false
        → records_played t s b i done (e ∷ es) ≡ played (differs_at b i (recorded_in e) (given_to t s e)) (after_entry t s e)
    unfolding records_played
    records_differ k =
        ap (λ (x : Bool). cond x (records_played t (after_entry t s e) b (i + 1) (done + 1) es)
        (played (differs_at b i (recorded_in e) (given_to t s e)) (after_entry t s e))) k

-- ---- a walk of the records that f gives, at record i of n
module _ (t : List ℕ) (b done : ℕ) (f : ℕ → Entry) (n : ℕ) where
  pub records_start : (s : List ℕ) → records_played t s b 0 (done + 0) (row f 0 (n - 0)) ≡ records_played t s b 0 done (row f 0 n)
  records_start s =
      let e : done + 0 ≡ done = omega arith in
      let k : n - 0 ≡ n = omega arith in
      ap (λ (d : ℕ). records_played t s b 0 d (row f 0 (n - 0))) e ∙ ap (λ (m : ℕ). records_played t s b 0 done (row f 0 m)) k

  module _ (s : List ℕ) (i : ℕ) where
    pub records_turn : i < n → given_to t s (f i) ≡ recorded_in (f i)
        → records_played t s b i (done + i) (row f i (n - i))
        ≡ records_played t (after_entry t s (f i)) b (i + 1) (done + (i + 1)) (row f (i + 1) (n - (i + 1)))
    records_turn l h =
        let e : done + i + 1 ≡ done + (i + 1) = omega arith in
        ap (records_played t s b i (done + i)) (row_next f i n l)
        ∙ (records_same t s b i (done + i) (f i) (row f (i + 1) (n - (i + 1))) (eq-eqb _ _ h)
        ∙ ap (λ (d : ℕ). records_played t (after_entry t s (f i)) b (i + 1) d (row f (i + 1) (n - (i + 1)))) e)

    pub records_found : i < n → (given_to t s (f i) ≡ recorded_in (f i) → ⊥)
        → records_played t s b i (done + i) (row f i (n - i))
        ≡ played (differs_at b i (recorded_in (f i)) (given_to t s (f i))) (after_entry t s (f i))
    records_found l h =
        ap (records_played t s b i (done + i)) (row_next f i n l)
        ∙ records_differ t s b i (done + i) (f i) (row f (i + 1) (n - (i + 1))) (ne_eqb _ _ h)

    pub records_over : n ≤ i → records_played t s b i (done + i) (row f i (n - i)) ≡ played (Ok (done + i)) s
    records_over l = ap (records_played t s b i (done + i)) (row_end f i n l) ∙ records_end t s b i (done + i)

-- the answer and the state of a difference, as they are found
pub as_found : {p : Played} {b i x y : ℕ} {u : List ℕ} → p ≡ played (differs_at b i x y) u
    → {recorded given : ℕ} {v : List ℕ} → recorded ≡ x → given ≡ y → v ≡ u
    → (differs_at b i recorded given ≡ p.answer) × (v ≡ p.state)
as_found {b = b} {i = i} {x = x} e {given = given} h k l = (
  ap (λ (z : ℕ). differs_at b i z given) h ∙ (ap (λ (z : ℕ). differs_at b i x z) k ∙ sym (ap (λ (q : Played). q.answer) e)),
  l ∙ sym (ap (λ (q : Played). q.state) e),
)

-- ---- what holds of every state that a call leaves holds of the one that records leave
pub records_keep : (P : List ℕ → Type 0) (t : List ℕ) → ((s : List ℕ) → P s → (e : Entry) → P (after_entry t s e))
    → (s : List ℕ) → P s → (b i done : ℕ) (es : List Entry) → P (records_played t s b i done es).state
unfolding records_played
records_keep P t one s h b i done [] = h
records_keep P t one s h b i done (e ∷ es) =
    either_way (λ (p : Played). P p.state) (eqb (given_to t s e) (recorded_in e)) _ _
    (λ f. records_keep P t one (after_entry t s e) (one s h e) b (i + 1) (done + 1) es) (λ f. one s h e)

-- a finished walk has stepped every record
pub records_count : (t s : List ℕ) (b i done : ℕ) (es : List Entry) → is_finished (records_played t s b i done es).answer ≡ true
    → stepped_by (records_played t s b i done es).answer ≡ done + length es
unfolding records_played
records_count t s b i done [] = λ h. omega arith
records_count t s b i done (e ∷ es) =
    either_way (λ (p : Played). is_finished p.answer ≡ true → stepped_by p.answer ≡ done + suc (length es))
    (eqb (given_to t s e) (recorded_in e)) _ _
    (λ f h. let k = records_count t (after_entry t s e) b (i + 1) (done + 1) es h in omega (arith, k))
    (λ f h. never h)

pub row_length : {A : Type 0} (f : ℕ → A) (i n : ℕ) → length (row f i n) ≡ n
unfolding row
row_length f i zero = refl
row_length f i (suc n) = ap suc (row_length f (i + 1) n)

-- ---- block b of lent bytes, as it is cut out, and its test
pub block_cut : (bytes : List ℕ) (b : ℕ) → take (512 * b + 512 - 512 * b) (drop (512 * b) bytes) ≡ block_at bytes b
block_cut bytes b = let e : 512 * b + 512 - 512 * b ≡ 512 = omega arith in ap (λ (n : ℕ). take n (drop (512 * b) bytes)) e

pub block_tested : (bytes : List ℕ) (b : ℕ)
    → good_block (take (512 * b + 512 - 512 * b) (drop (512 * b) bytes)) b (leb (length bytes) (512 * b + 512)) ≡ good_at bytes b
block_tested bytes b =
    let e : 512 * b + 512 ≡ 512 * (b + 1) = omega arith in
    ap (λ (l : List ℕ). good_block l b (leb (length bytes) (512 * b + 512))) (block_cut bytes b)
    ∙ ap (λ (n : ℕ). good_block (block_at bytes b) b (leb (length bytes) n)) e

-- ---- a block
module _ (t s bytes : List ℕ) (b done : ℕ) where
  pub block_good : good_at bytes b ≡ true → block_played t s bytes b done ≡ records_played t s b 0 done (entries_of (block_at bytes b))
  unfolding block_played
  block_good h = sym (passed (played (Err (ReplayError.BadBlock b)) s) h refl)

  pub block_bad : good_at bytes b ≡ false → block_played t s bytes b done ≡ played (Err (ReplayError.BadBlock b)) s
  unfolding block_played
  block_bad h = sym (stopped (played (Err (ReplayError.BadBlock b)) s) _ h)

  pub block_keeps : (P : List ℕ → Type 0) → ((u : List ℕ) → P u → (e : Entry) → P (after_entry t u e)) → P s
      → P (block_played t s bytes b done).state
  unfolding block_played
  block_keeps P one h =
      rung (λ (p : Played). P p.state) (good_at bytes b) (played (Err (ReplayError.BadBlock b)) s) _ h
      (λ g. records_keep P t one s h b 0 done (entries_of (block_at bytes b)))

  -- it steps no more records than there is room for
  pub block_few : is_finished (block_played t s bytes b done).answer ≡ true
      → stepped_by (block_played t s bytes b done).answer ≤ done + record_room
  unfolding block_played
  block_few =
      rung (λ (p : Played). is_finished p.answer ≡ true → stepped_by p.answer ≤ done + record_room) (good_at bytes b)
      (played (Err (ReplayError.BadBlock b)) s) _ (λ h. never h)
      (λ g h. omega (
        arith,
        records_count t s b 0 done (entries_of (block_at bytes b)) h,
        row_length (entry_at (block_at bytes b)) 0 (count_in (block_at bytes b)),
        (good_parts (block_at bytes b) b (last_at bytes b) g).count,
      ))

pub block_ready : (t s bytes : List ℕ) (b done : ℕ) → Ready t s → Ready t (block_played t s bytes b done).state
block_ready t s bytes b done h = block_keeps t s bytes b done (Ready t) (λ u k e. after_ready t u k e) h

-- ---- a walk of blocks, at block b of n
module _ (t bytes : List ℕ) (n : ℕ) where
  pub blocks_start : (s : List ℕ) → blocks_played t s bytes 0 0 (n - 0) ≡ blocks_played t s bytes 0 0 n
  blocks_start s = let k : n - 0 ≡ n = omega arith in ap (blocks_played t s bytes 0 0) k

  module _ (s : List ℕ) (b done : ℕ) where
    blocks_next : b < n → blocks_played t s bytes b done (n - b)
        ≡ go_on (block_played t s bytes b done) (λ m u. blocks_played t u bytes (b + 1) m (n - (b + 1)))
    unfolding blocks_played
    blocks_next l =
        let e : n - b ≡ suc (n - (b + 1)) = omega arith in
        ap (blocks_played t s bytes b done) e

    pub blocks_turn : b < n → is_finished (block_played t s bytes b done).answer ≡ true
        → blocks_played t s bytes b done (n - b)
        ≡ blocks_played t (block_played t s bytes b done).state bytes (b + 1) (stepped_by (block_played t s bytes b done).answer) (n - (b + 1))
    blocks_turn l h =
        blocks_next l
        ∙ ap (λ (x : Bool). cond x (blocks_played t (block_played t s bytes b done).state bytes (b + 1)
        (stepped_by (block_played t s bytes b done).answer) (n - (b + 1))) (block_played t s bytes b done)) h

    pub blocks_found : b < n → is_finished (block_played t s bytes b done).answer ≡ false
        → blocks_played t s bytes b done (n - b) ≡ block_played t s bytes b done
    blocks_found l h =
        blocks_next l
        ∙ ap (λ (x : Bool). cond x (blocks_played t (block_played t s bytes b done).state bytes (b + 1)
        (stepped_by (block_played t s bytes b done).answer) (n - (b + 1))) (block_played t s bytes b done)) h

    pub blocks_over : n ≤ b → blocks_played t s bytes b done (n - b) ≡ played (Ok done) s
    unfolding blocks_played
    blocks_over l =
        let e : n - b ≡ 0 = omega arith in
        ap (blocks_played t s bytes b done) e

-- what every call keeps, the blocks keep
pub blocks_keep : (P : List ℕ → Type 0) (t bytes : List ℕ) → ((s : List ℕ) → P s → (e : Entry) → P (after_entry t s e))
    → (s : List ℕ) → P s → (b done n : ℕ) → P (blocks_played t s bytes b done n).state
unfolding blocks_played
blocks_keep P t bytes one s h b done zero = h
blocks_keep P t bytes one s h b done (suc n) =
    either_way (λ (p : Played). P p.state) (is_finished (block_played t s bytes b done).answer) _ _
    (λ f. blocks_keep P t bytes one (block_played t s bytes b done).state (block_keeps t s bytes b done P one h) (b + 1)
    (stepped_by (block_played t s bytes b done).answer) n)
    (λ f. block_keeps t s bytes b done P one h)

pub blocks_ready : (t bytes s : List ℕ) (b done n : ℕ) → Ready t s → Ready t (blocks_played t s bytes b done n).state
blocks_ready t bytes s b done n h = blocks_keep (Ready t) t bytes (λ u k e. after_ready t u k e) s h b done n

-- ---- the whole
pub fits_ready : (t s : List ℕ) → system_fits t s ≡ true → Ready t s
unfolding system_fits
fits_ready t s h = record { table = and_first _ _ h; state = fits_state t s h }

pub replay_known : (t s bytes : List ℕ) → system_fits t s ≡ true → replay_of t s bytes ≡ or_undone s (all_played t s bytes)
unfolding replay_of
replay_known t s bytes h = sym (passed (played (Err (ReplayError.Refused (refusal 32))) s) h refl)

pub replay_unknown : (t s bytes : List ℕ) → system_fits t s ≡ false → replay_of t s bytes ≡ played (Err (ReplayError.Refused (refusal 32))) s
unfolding replay_of
replay_unknown t s bytes h = sym (stopped (played (Err (ReplayError.Refused (refusal 32))) s) _ h)

-- a replay finished where it is ok
pub finished_ok : (r : Result ℕ ReplayError) → is_ok r ≡ is_finished r
finished_ok (Ok n) = refl
finished_ok (Err e) = refl

pub finished_state : (s : List ℕ) (p : Played) → is_finished p.answer ≡ true → (or_undone s p).state ≡ p.state
finished_state s p h = ap (λ (x : Bool). cond x p.state s) h

pub undone_state : (s : List ℕ) (p : Played) → is_finished p.answer ≡ false → (or_undone s p).state ≡ s
undone_state s p h = ap (λ (x : Bool). cond x p.state s) h
