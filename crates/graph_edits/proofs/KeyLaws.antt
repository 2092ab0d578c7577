-- A key has its three parts, and the order of keys is the order of the parts.
use Prim.Native.Nat.{ℕ, ◌+◌, ◌*◌, ◌/◌, ◌<◌}
use mathlib.Core.Path.{◌≡◌}
use mathlib.Core.Logic.{inl, inr, ◌↔◌}
use native.Mathlib.Omega.{arith}
use Rattle.graph_tables.specs.Layout.{post_span}
use Rattle.graph_tables.specs.Sizes.{word32}
use Rattle.graph_tables.specs.Words.{pre_of, action_of, post_of, key_with}
use Rattle.graph_edits.specs.Lists.{Before}
use Rattle.graph_edits.proofs.LimitLaws.{sides}

-- the parts of a key make it
pub key_back : (key : ℕ) → key_with (pre_of key) (action_of key) (post_of key) ≡ key
key_back key =
    let x : ℕ = key / post_span in
    let e : pre_of key ≡ x / word32 = omega arith in
    rw e (omega arith)

-- what makes a key comes back
module _ (pre a post : ℕ) (q : a < word32) (r : post < post_span) where
  pub key_pre : pre_of (key_with pre a post) ≡ pre
  key_pre = omega arith

  pub key_action : action_of (key_with pre a post) ≡ a
  key_action =
      let e : key_with pre a post / post_span ≡ pre * word32 + a = omega arith in
      rw e (omega arith)

  pub key_post : post_of (key_with pre a post) ≡ post
  key_post = omega arith

-- One `<` orders by pre-location, then by action, then by post-location.
pub key_order : (pre a post from by to : ℕ) → a < word32 → post < post_span → by < word32 → to < post_span
    → (key_with pre a post < key_with from by to) ↔ Before pre a post from by to
key_order pre a post from by to p q r s = (onto, back)
  where
    onto : key_with pre a post < key_with from by to → Before pre a post from by to
    onto h =
        sides pre from inl
        (λ e. inr (e, sides a by inl (λ d. inr (d, omega arith)) (λ m. absurd (omega arith))))
        (λ m. absurd (omega arith))

    back : Before pre a post from by to → key_with pre a post < key_with from by to
    back (inl h) = omega arith
    back (inr (e, inl h)) = omega arith
    back (inr (e, inr (d, h))) = omega arith
