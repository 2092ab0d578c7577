-- Laws of draws, for loops over the words.
use Prim.Native.Nat.{ℕ, ◌+◌, ◌/◌, ◌^◌, ◌<◌, ◌≤◌}
use mathlib.Core.Path.{◌≡◌, sym, ap, ◌∙◌}
use mathlib.Core.List.{List, [], ◌∷◌}
use lib.Dec.{lit≤}
use native.Mathlib.Nat.{div-div-eq-div-mul, div-one}
use lib.Pow.{pow-add}
use lib.ListN.{length, get_or, drop}
use native.Mathlib.Omega.{arith}
use mathlib.Core.Path.{refl}
use mathlib.Core.Bool.{true, ◌||◌}
use native.Mathlib.Decide.{ℕ_discrete}
use native.Mathlib.Nat.{zero-add}
use borrow.Author.Tests.{lt-ltb, ne_eqb, ltb-true}
use lib.Dec.{ltb, eqb}
use Rattle.std.specs.List.{sum_by, list_any, fold}
use Rattle.std.proofs.lemmas.List.Recursion.{is_sum_by}
use Rattle.laws.proofs.Lists.{next, done}
use Rattle.grammar.specs.Items.{item_of}
use Rattle.grammar.specs.Draws.{draws_in, draws_of}
use Rattle.grammar.proofs.ItemLaws.{draws_most, no_draw}

module _ (ws : List ℕ) (at : ℕ) where
  pub draws_next : at < length ws → draws_of (drop at ws) ≡ draws_in (item_of (get_or ws at 0)) + draws_of (drop (at + 1) ws)
  unfolding draws_of
  draws_next h = ap draws_of (next 0 ws at h)

  pub draws_done : length ws ≤ at → draws_of (drop at ws) ≡ 0
  unfolding draws_of
  draws_done h = ap draws_of (done ws at h)

  -- what an item leaves and then the items after it
  pub left_next : (left : ℕ) → at < length ws
      → left / 2 ^ draws_in (item_of (get_or ws at 0)) / 2 ^ draws_of (drop (at + 1) ws) ≡ left / 2 ^ draws_of (drop at ws)
  left_next left h =
      div-div-eq-div-mul left (2 ^ draws_in (item_of (get_or ws at 0))) (2 ^ draws_of (drop (at + 1) ws))
      ∙ ap (λ (n : ℕ). left / n) (sym (pow-add 2 (draws_in (item_of (get_or ws at 0))) (draws_of (drop (at + 1) ws))))
      ∙ ap (λ (n : ℕ). left / 2 ^ n) (sym (draws_next h))

  pub left_done : (left : ℕ) → length ws ≤ at → left / 2 ^ draws_of (drop at ws) ≡ left
  left_done left h = ap (λ (n : ℕ). left / 2 ^ n) (draws_done h) ∙ div-one left

-- the draws in std's words: a sum, and a search for one
pub draws_sum : (ws : List ℕ) → draws_of ws ≡ sum_by (λ (w : ℕ). draws_in (item_of w)) ws
unfolding draws_of
draws_sum ws = is_sum_by draws_of (λ (w : ℕ). draws_in (item_of w)) refl (λ w vs. refl) ws

drawn : ltb 0 (draws_in (item_of 13)) ≡ true
unfolding item_of
drawn = refl

pub draws_any : (ws : List ℕ) → ltb 0 (draws_of ws) ≡ list_any (λ (w : ℕ). eqb w 13) ws
unfolding draws_of
draws_any [] = refl
draws_any (w ∷ ws) = step (draws_any ws) (ℕ_discrete w 13)
  where
    one : draws_in (item_of 13) ≡ 1
    one = omega (arith, draws_most (item_of 13), ltb-true _ _ drawn)

    step : ltb 0 (draws_of ws) ≡ list_any (λ (v : ℕ). eqb v 13) ws → Dec (w ≡ 13) → ltb 0 (draws_in (item_of w) + draws_of ws) ≡ (eqb w 13 || list_any (λ (v : ℕ). eqb v 13) ws)
    step k (yes e) = rw (e, one) (lt-ltb 0 (1 + draws_of ws) (omega arith))
    step k (no h) = rw (no_draw w h, ne_eqb w 13 h) (ap (ltb 0) (zero-add (draws_of ws)) ∙ k)

-- no more draws than items
pub draws_few : (ws : List ℕ) → draws_of ws ≤ length ws
unfolding draws_of
draws_few [] = lit≤ tt
draws_few (w ∷ ws) = omega (arith, draws_most (item_of w), draws_few ws)

pub draws_fit : (ws : List ℕ) → sum_by (λ (w : ℕ). draws_in (item_of w)) ws ≤ length ws
draws_fit ws = omega (arith, draws_sum ws, draws_few ws)

-- what the items leave of a word, one after the other
pub left_fold : (ws : List ℕ) (word : ℕ) → word / 2 ^ draws_of ws ≡ fold (λ (left w : ℕ). left / 2 ^ draws_in (item_of w)) word ws
unfolding draws_of
left_fold [] word = div-one word
left_fold (w ∷ ws) word =
    ap (λ (n : ℕ). word / n) (pow-add 2 (draws_in (item_of w)) (draws_of ws))
    ∙ sym (div-div-eq-div-mul word (2 ^ draws_in (item_of w)) (2 ^ draws_of ws))
    ∙ left_fold ws (word / 2 ^ draws_in (item_of w))
