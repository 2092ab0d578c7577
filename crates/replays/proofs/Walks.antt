-- What a walk of records, and one of blocks, says when it ends.
use Rattle.replays.specs.declared.answers.ReplayError.{ReplayError}
use Rattle.std.specs.declared.result.Result.{Result}
use Rattle.std.specs.Prelude.{Ok, Err}
use Prim.Native.Nat.{ℕ, zero, suc, ◌+◌, ◌<◌}
use mathlib.Core.Path.{◌≡◌, refl, sym, ap, ◌∙◌, subst}
use mathlib.Core.Bool.{Bool, true, false}
use mathlib.Core.List.{List, [], ◌∷◌, ◌++◌, append_assoc}
use native.Mathlib.Omega.{arith}
use borrow.Author.Tests.{eqb-true, eqb-false}
use lib.Dec.{eqb}
use lib.ListN.{length, length-append}
use Rattle.laws.proofs.Tests.{never}
use Rattle.program_graph.proofs.RunLaws.{either_way}
use Rattle.recordings.specs.Records.{Entry, recorded_in}
use Rattle.recordings.specs.Blocks.{entries_of, block_at, good_at, entries_from}
use Rattle.replays.specs.declared.answers.Difference.{Difference}
use Rattle.replays.specs.Replay.{given_to, after_entry, Played, is_finished, stepped_by, records_played, block_played, go_on}
use Rattle.replays.specs.Replay.{blocks_played}
use Rattle.replays.specs.Recorded.{after_all, Agreed}
use Rattle.replays.proofs.PlayLaws.{block_good, block_bad}

-- ---- records after records
pub after_append : (t s : List ℕ) (xs ys : List Entry) → after_all t s (xs ++ ys) ≡ after_all t (after_all t s xs) ys
after_append t s [] ys = refl
after_append t s (x ∷ xs) ys = after_append t (after_entry t s x) xs ys

pub agreed_append : (t s : List ℕ) (xs ys : List Entry) → Agreed t s xs → Agreed t (after_all t s xs) ys → Agreed t s (xs ++ ys)
agreed_append t s [] ys h k = k
agreed_append t s (x ∷ xs) ys h k = (h.0, agreed_append t (after_entry t s x) xs ys h.1 k)

-- ---- the records of block b from record i on
-- the one that is named, and those before it
pub record Named (t s : List ℕ) (b i : ℕ) (es : List Entry) (d : Difference) : Type 0 where
  pub block : d.block ≡ b
  pub earlier : List Entry
  pub named : Entry
  pub later : List Entry
  pub split : es ≡ earlier ++ (named ∷ later)
  pub place : d.entry ≡ i + length earlier
  pub agreed : Agreed t s earlier
  pub recorded : d.recorded ≡ recorded_in named
  pub given : d.given ≡ given_to t (after_all t s earlier) named
  pub differ : d.given ≡ d.recorded → ⊥

abbrev pub RecordsSay : List ℕ → List ℕ → ℕ → ℕ → ℕ → List Entry → Result ℕ ReplayError → List ℕ → Type 0
RecordsSay t s b i done es (Ok n) u = Agreed t s es × (n ≡ done + length es) × (u ≡ after_all t s es)
RecordsSay t s b i done es (Err (ReplayError.BadBlock k)) u = ⊥
RecordsSay t s b i done es (Err (ReplayError.Differs d)) u = Named t s b i es d
RecordsSay t s b i done es (Err (ReplayError.Refused r)) u = ⊥

-- one record more in front, that answers as recorded
one_before : (t s : List ℕ) (b i done : ℕ) (e : Entry) (es : List Entry) → given_to t s e ≡ recorded_in e → (r : Result ℕ ReplayError) (u : List ℕ)
    → RecordsSay t (after_entry t s e) b (i + 1) (done + 1) es r u → RecordsSay t s b i done (e ∷ es) r u
one_before t s b i done e es h (Ok n) u k = ((h, k.0), omega (arith, k.1), k.2)
one_before t s b i done e es h (Err (ReplayError.BadBlock n)) u k = k
one_before t s b i done e es h (Err (ReplayError.Differs d)) u k =
    record {
      block = k.block;
      earlier = e ∷ k.earlier;
      named = k.named;
      later = k.later;
      split = ap (λ (l : List Entry). e ∷ l) k.split;
      place = omega (arith, k.place);
      agreed = (h, k.agreed);
      recorded = k.recorded;
      given = k.given;
      differ = k.differ;
    }
one_before t s b i done e es h (Err (ReplayError.Refused r)) u k = k

pub records_say : (t s : List ℕ) (b i done : ℕ) (es : List Entry)
    → RecordsSay t s b i done es (records_played t s b i done es).answer (records_played t s b i done es).state
unfolding records_played
records_say t s b i done [] = (tt, omega arith, refl)
records_say t s b i done (e ∷ es) =
    either_way (λ (p : Played). RecordsSay t s b i done (e ∷ es) p.answer p.state) (eqb (given_to t s e) (recorded_in e)) _ _
    (λ f. one_before t s b i done e es (eqb-true _ _ f) (records_played t (after_entry t s e) b (i + 1) (done + 1) es).answer
    (records_played t (after_entry t s e) b (i + 1) (done + 1) es).state (records_say t (after_entry t s e) b (i + 1) (done + 1) es))
    (λ f. record {
      block = refl;
      earlier = [];
      named = e;
      later = es;
      split = refl;
      place = omega arith;
      agreed = tt;
      recorded = refl;
      given = refl;
      differ = eqb-false _ _ f;
    })

-- ---- n blocks from block b on
abbrev pub Goods : List ℕ → ℕ → ℕ → Type 0
Goods bytes b zero = Unit {0}
Goods bytes b (suc n) = (good_at bytes b ≡ true) × Goods bytes (b + 1) n

pub goods_at : (bytes : List ℕ) (b n : ℕ) → Goods bytes b n → (j : ℕ) → j < n → good_at bytes (b + j) ≡ true
goods_at bytes b zero h j l = absurd (omega arith)
goods_at bytes b (suc n) h zero l = let e : b + 0 ≡ b = omega arith in ap (λ (k : ℕ). good_at bytes k) e ∙ h.0
goods_at bytes b (suc n) h (suc j) l =
    let e : b + suc j ≡ b + 1 + j = omega arith in
    ap (λ (k : ℕ). good_at bytes k) e ∙ goods_at bytes (b + 1) n h.1 j (omega arith)

pub record BadFrom (t s bytes : List ℕ) (b n k : ℕ) : Type 0 where
  pub past : ℕ
  pub there : past < n
  pub place : k ≡ b + past
  pub good : Goods bytes b past
  pub agreed : Agreed t s (entries_from bytes b past)
  pub bad : good_at bytes k ≡ false

pub record DiffersFrom (t s bytes : List ℕ) (b n : ℕ) (d : Difference) : Type 0 where
  pub past : ℕ
  pub there : past < n
  pub place : d.block ≡ b + past
  pub good : Goods bytes b (suc past)
  pub earlier : List Entry
  pub named : Entry
  pub later : List Entry
  pub split : entries_of (block_at bytes d.block) ≡ earlier ++ (named ∷ later)
  pub entry : d.entry ≡ length earlier
  pub agreed : Agreed t s (entries_from bytes b past ++ earlier)
  pub recorded : d.recorded ≡ recorded_in named
  pub given : d.given ≡ given_to t (after_all t s (entries_from bytes b past ++ earlier)) named
  pub differ : d.given ≡ d.recorded → ⊥

abbrev pub BlocksSay : List ℕ → List ℕ → List ℕ → ℕ → ℕ → ℕ → Result ℕ ReplayError → List ℕ → Type 0
BlocksSay t s bytes b done n (Ok m) u =
    Goods bytes b n × Agreed t s (entries_from bytes b n) × (m ≡ done + length (entries_from bytes b n))
    × (u ≡ after_all t s (entries_from bytes b n))
BlocksSay t s bytes b done n (Err (ReplayError.BadBlock k)) u = BadFrom t s bytes b n k
BlocksSay t s bytes b done n (Err (ReplayError.Differs d)) u = DiffersFrom t s bytes b n d
BlocksSay t s bytes b done n (Err (ReplayError.Refused r)) u = ⊥

-- a walk of records that finished
all_agreed : (t s : List ℕ) (b i done : ℕ) (es : List Entry) (r : Result ℕ ReplayError) (u : List ℕ) → is_finished r ≡ true
    → RecordsSay t s b i done es r u → Agreed t s es × (stepped_by r ≡ done + length es) × (u ≡ after_all t s es)
all_agreed t s b i done es (Ok n) u f k = k
all_agreed t s b i done es (Err (ReplayError.BadBlock n)) u f k = never f
all_agreed t s b i done es (Err (ReplayError.Differs d)) u f k = never f
all_agreed t s b i done es (Err (ReplayError.Refused r)) u f k = never f

module _ (t s bytes : List ℕ) (b done n : ℕ) (h : good_at bytes b ≡ true) where
  -- one that found a difference
  found_here : (r : Result ℕ ReplayError) (u : List ℕ) → is_finished r ≡ false → RecordsSay t s b 0 done (entries_of (block_at bytes b)) r u
      → BlocksSay t s bytes b done (suc n) r u
  unfolding entries_from
  found_here (Ok m) u f k = never (sym f)
  found_here (Err (ReplayError.BadBlock m)) u f k = absurd k
  found_here (Err (ReplayError.Differs d)) u f k =
      record {
        past = 0;
        there = omega arith;
        place = omega (arith, k.block);
        good = (h, tt);
        earlier = k.earlier;
        named = k.named;
        later = k.later;
        split = ap (λ (x : ℕ). entries_of (block_at bytes x)) k.block ∙ k.split;
        entry = omega (arith, k.place);
        agreed = k.agreed;
        recorded = k.recorded;
        given = k.given;
        differ = k.differ;
      }
  found_here (Err (ReplayError.Refused m)) u f k = absurd k

  -- a good block in front, whose records answer as recorded
  block_before : Agreed t s (entries_of (block_at bytes b)) → (r : Result ℕ ReplayError) (u : List ℕ)
      → BlocksSay t (after_all t s (entries_of (block_at bytes b))) bytes (b + 1) (done + length (entries_of (block_at bytes b))) n r u
      → BlocksSay t s bytes b done (suc n) r u
  unfolding entries_from
  block_before a (Ok m) u k =
      let es = entries_of (block_at bytes b) in
      let rest = entries_from bytes (b + 1) n in
      ((h, k.0), agreed_append t s es rest a k.1, omega (arith, k.2, length-append es rest), k.3 ∙ sym (after_append t s es rest))
  block_before a (Err (ReplayError.BadBlock m)) u k =
      let es = entries_of (block_at bytes b) in
      record {
        past = suc k.past;
        there = omega (arith, k.there);
        place = omega (arith, k.place);
        good = (h, k.good);
        agreed = agreed_append t s es (entries_from bytes (b + 1) k.past) a k.agreed;
        bad = k.bad;
      }
  block_before a (Err (ReplayError.Differs d)) u k =
      let es = entries_of (block_at bytes b) in
      let rest = entries_from bytes (b + 1) k.past in
      let joined = append_assoc es rest k.earlier in
      record {
        past = suc k.past;
        there = omega (arith, k.there);
        place = omega (arith, k.place);
        good = (h, k.good);
        earlier = k.earlier;
        named = k.named;
        later = k.later;
        split = k.split;
        entry = k.entry;
        agreed = subst (λ (l : List Entry). Agreed t s l) (sym joined) (agreed_append t s es (rest ++ k.earlier) a k.agreed);
        recorded = k.recorded;
        given = k.given ∙ ap (λ (x : List ℕ). given_to t x k.named)
            (sym (after_append t s es (rest ++ k.earlier)) ∙ ap (λ (l : List Entry). after_all t s l) (sym joined));
        differ = k.differ;
      }
  block_before a (Err (ReplayError.Refused m)) u k = k

bad_here : (t s bytes : List ℕ) (b done n : ℕ) → good_at bytes b ≡ false → BlocksSay t s bytes b done (suc n) (Err (ReplayError.BadBlock b)) s
unfolding entries_from
bad_here t s bytes b done n h =
    record { past = 0; there = omega arith; place = omega arith; good = tt; agreed = tt; bad = h }

-- by what a test says
pub by_test : {A : Type 0} (x : Bool) → (x ≡ true → A) → (x ≡ false → A) → A
by_test true h k = h refl
by_test false h k = k refl

pub blocks_say : (t s bytes : List ℕ) (b done n : ℕ)
    → BlocksSay t s bytes b done n (blocks_played t s bytes b done n).answer (blocks_played t s bytes b done n).state
unfolding blocks_played entries_from
blocks_say t s bytes b done zero = (tt, tt, omega arith, refl)
blocks_say t s bytes b done (suc n) =
    let es = entries_of (block_at bytes b) in
    let p = block_played t s bytes b done in
    let next : ℕ → List ℕ → Played = λ m u. blocks_played t u bytes (b + 1) m n in
    by_test (good_at bytes b)
    (λ h. let said = subst (λ (q : Played). RecordsSay t s b 0 done es q.answer q.state) (sym (block_good t s bytes b done h))
    (records_say t s b 0 done es) in
    either_way (λ (q : Played). BlocksSay t s bytes b done (suc n) q.answer q.state) (is_finished p.answer) _ _
    (λ f. let k = all_agreed t s b 0 done es p.answer p.state f said in
    block_before t s bytes b done n h k.0 (next (stepped_by p.answer) p.state).answer (next (stepped_by p.answer) p.state).state
    (subst (λ (x : List ℕ). BlocksSay t x bytes (b + 1) (done + length es) n (next (stepped_by p.answer) p.state).answer
    (next (stepped_by p.answer) p.state).state) k.2
    (subst (λ (x : ℕ). BlocksSay t p.state bytes (b + 1) x n (next (stepped_by p.answer) p.state).answer
    (next (stepped_by p.answer) p.state).state) k.1
    (blocks_say t p.state bytes (b + 1) (stepped_by p.answer) n))))
    (λ f. found_here t s bytes b done n h p.answer p.state f said))
    (λ h. subst (λ (q : Played). BlocksSay t s bytes b done (suc n) (go_on q next).answer (go_on q next).state)
    (sym (block_bad t s bytes b done h)) (bad_here t s bytes b done n h))
