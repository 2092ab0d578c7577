-- Bounds and their words are one to one, and so are the three parts of a transition and its key.
use Prim.Native.Nat.{ℕ, zero, suc, ◌+◌, ◌*◌, ◌/◌, ◌%◌, ◌<◌}
use mathlib.Core.Path.{◌≡◌, refl, sym, ap, ◌∙◌}
use mathlib.Core.Logic.{◌↔◌}
use mathlib.Core.Bool.{Bool, true, false, cond}
use native.Mathlib.Omega.{arith}
use borrow.Author.Tests.{eqb-true, eqb-false}
use lib.Dec.{eqb, ltb}
use Rattle.graph_tables.specs.Sizes.{word32}
use Rattle.graph_tables.specs.Layout.{post_span, bound_span, unbounded_kind, included_kind, excluded_kind, spare_kind}
use Rattle.graph_tables.specs.Words.{pre_of, action_of, post_of, key_with, bound_of, bound_word}
use Rattle.graph_tables.specs.Formed.{bound_formed}
use Rattle.time.specs.declared.Bound.{Bound}
use Rattle.time.specs.declared.Bound.TheVariants.{Included, Excluded, Unbounded}

-- ---- bounds
-- The word of a bound says that bound.
pub bound_read_back : (b : Bound) → bound_of (bound_word b) ≡ b
bound_read_back (Included n) =
    let kind : (n * bound_span + included_kind) % bound_span ≡ included_kind = omega arith in
    let time : (n * bound_span + included_kind) / bound_span ≡ n = omega arith in
    rw (kind, time)
bound_read_back (Excluded n) =
    let kind : (n * bound_span + excluded_kind) % bound_span ≡ excluded_kind = omega arith in
    let time : (n * bound_span + excluded_kind) / bound_span ≡ n = omega arith in
    rw (kind, time)
bound_read_back Unbounded = refl

-- Two bounds are equal exactly when their words are.
pub same_bounds : (b c : Bound) → (bound_word b ≡ bound_word c) ↔ (b ≡ c)
same_bounds b c = ((λ e. sym (bound_read_back b) ∙ ap bound_of e ∙ bound_read_back c), ap bound_word)

-- the tests of a word, one by one
included_word : (w : ℕ) (other : Bound) (t : Bool) → eqb (w % bound_span) included_kind ≡ t → (t ≡ false → bound_word other ≡ w)
    → bound_word (cond t (Included (w / bound_span)) other) ≡ w
included_word w other true e h = omega (arith, eqb-true (w % bound_span) included_kind e)
included_word w other false e h = h refl

excluded_word : (w : ℕ) (t : Bool) → eqb (w % bound_span) excluded_kind ≡ t → (t ≡ false → w ≡ unbounded_kind)
    → bound_word (cond t (Excluded (w / bound_span)) Unbounded) ≡ w
excluded_word w true e h = omega (arith, eqb-true (w % bound_span) excluded_kind e)
excluded_word w false e h = sym (h refl)

-- there is no other kind than the four
no_other : (k : ℕ) → k < bound_span → (k ≡ unbounded_kind → ⊥) → (k ≡ included_kind → ⊥) → (k ≡ excluded_kind → ⊥) → (k ≡ spare_kind → ⊥) → ⊥
no_other zero l u i e s = u refl
no_other (suc zero) l u i e s = i refl
no_other (suc (suc zero)) l u i e s = e refl
no_other (suc (suc (suc zero))) l u i e s = s refl
no_other (suc (suc (suc (suc k)))) l u i e s = absurd (omega arith)

-- a word that is formed is no bound, or one of the two kinds
formed_kinds : (w : ℕ) → bound_formed w ≡ true → (w % bound_span ≡ included_kind → ⊥) → (w % bound_span ≡ excluded_kind → ⊥) → w ≡ unbounded_kind
unfolding bound_formed
formed_kinds w f i e =
    by (eqb w unbounded_kind) refl (eqb (w % bound_span) unbounded_kind) refl (eqb (w % bound_span) spare_kind) refl f
  where
    by : (t : Bool) → eqb w unbounded_kind ≡ t → (u : Bool) → eqb (w % bound_span) unbounded_kind ≡ u
        → (s : Bool) → eqb (w % bound_span) spare_kind ≡ s
        → cond t true (cond u false (cond s false (ltb (w / bound_span) word32))) ≡ true → w ≡ unbounded_kind
    by true p u q s r h = eqb-true w unbounded_kind p
    by false p true q s r h = let z : ◌≡◌ {A = ℕ} 0 1 = cc in absurd (omega arith)
    by false p false q true r h = let z : ◌≡◌ {A = ℕ} 0 1 = cc in absurd (omega arith)
    by false p false q false r h =
        let k : ℕ = w % bound_span in
        absurd (no_other k (omega arith) (eqb-false k unbounded_kind q) i e (eqb-false k spare_kind r))

-- A word of a well-formed table that stands for a bound is the word of that bound.
pub bound_word_back : (w : ℕ) → bound_formed w ≡ true → bound_word (bound_of w) ≡ w
bound_word_back w f =
    included_word w (cond (eqb (w % bound_span) excluded_kind) (Excluded (w / bound_span)) Unbounded) (eqb (w % bound_span) included_kind) refl
    (λ i. excluded_word w (eqb (w % bound_span) excluded_kind) refl
    (λ e. formed_kinds w f (eqb-false (w % bound_span) included_kind i) (eqb-false (w % bound_span) excluded_kind e)))

-- Two such words are equal exactly when they stand for the same bound.
pub same_bound_words : (v w : ℕ) → bound_formed v ≡ true → bound_formed w ≡ true → (bound_of v ≡ bound_of w) ↔ (v ≡ w)
same_bound_words v w f g = ((λ e. sym (bound_word_back v f) ∙ ap bound_word e ∙ bound_word_back w g), ap bound_of)

-- ---- keys
-- A key is the key of its three parts,
pub key_read_back : (key : ℕ) → key_with (pre_of key) (action_of key) (post_of key) ≡ key
key_read_back key =
    let x : ℕ = key / post_span in
    let e : pre_of key ≡ x / word32 = omega arith in
    rw e (omega arith)

-- so two keys are equal exactly when their parts are;
pub same_keys : (k l : ℕ) → ((pre_of k ≡ pre_of l) × ((action_of k ≡ action_of l) × (post_of k ≡ post_of l))) ↔ (k ≡ l)
same_keys k l = (onto, (λ e. (ap pre_of e, (ap action_of e, ap post_of e))))
  where
    onto : (pre_of k ≡ pre_of l) × ((action_of k ≡ action_of l) × (post_of k ≡ post_of l)) → k ≡ l
    onto e =
        sym (key_read_back k) ∙ ap (λ (n : ℕ). key_with n (action_of k) (post_of k)) e.0
        ∙ ap (λ (n : ℕ). key_with (pre_of l) n (post_of k)) e.1.0
        ∙ ap (key_with (pre_of l) (action_of l)) e.1.1
        ∙ key_read_back l

-- what makes a key comes back,
module _ (pre a post : ℕ) (q : a < word32) (r : post < post_span) where
  pre_back : pre_of (key_with pre a post) ≡ pre
  pre_back = omega arith

  action_back : action_of (key_with pre a post) ≡ a
  action_back =
      let e : key_with pre a post / post_span ≡ pre * word32 + a = omega arith in
      rw e (omega arith)

  post_back : post_of (key_with pre a post) ≡ post
  post_back = omega arith

-- and so the three parts, where the action and the post-location are within their spans, are equal exactly when their keys are.
pub same_parts : (pre a post from by to : ℕ) → a < word32 → post < post_span → by < word32 → to < post_span
    → (key_with pre a post ≡ key_with from by to) ↔ ((pre ≡ from) × ((a ≡ by) × (post ≡ to)))
same_parts pre a post from by to p q r s = (onto, back)
  where
    onto : key_with pre a post ≡ key_with from by to → (pre ≡ from) × ((a ≡ by) × (post ≡ to))
    onto e = (
      sym (pre_back pre a post p q) ∙ ap pre_of e ∙ pre_back from by to r s,
      (
        sym (action_back pre a post p q) ∙ ap action_of e ∙ action_back from by to r s,
        sym (post_back pre a post p q) ∙ ap post_of e ∙ post_back from by to r s,
      ),
    )

    back : (pre ≡ from) × ((a ≡ by) × (post ≡ to)) → key_with pre a post ≡ key_with from by to
    back e =
        ap (λ (n : ℕ). key_with n a post) e.0 ∙ ap (λ (n : ℕ). key_with from n post) e.1.0 ∙ ap (key_with from by) e.1.1
