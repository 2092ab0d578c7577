-- A well-formed system that reads as another has its words in use.
use Prim.Native.Nat.{ℕ, zero, suc, ◌+◌, ◌<◌, ◌≤◌}
use mathlib.Core.Path.{◌≡◌, refl, sym, ap, subst, ◌∙◌}
use mathlib.Core.Bool.{true}
use mathlib.Core.List.{List}
use native.Mathlib.Omega.{arith}
use lib.ListN.{get_or, drop}
use lib.Seq.{get_or-take, get_or-drop}
use Rattle.graph_tables.specs.Layout.{table_words}
use Rattle.graph_tables.specs.Words.{action_count}
use Rattle.graph_tables.proofs.KeptLaws as own-parts
use Rattle.graph_edits.specs.Lists.{action_at}
use Rattle.graph_builder.specs.Used as Own
use Rattle.graph_builder.specs.Reading.{Graph}
use Rattle.graph_builder.proofs.ExactLaws.{same_count}
use Rattle.graph_builder.proofs.ExactWords.{same_words}
use Rattle.system_tables.specs.Sizes.{bounded_sort, unbounded_sort, sink_sort}
use Rattle.system_tables.specs.Layout.{channels_start, graph_start}
use Rattle.system_tables.specs.Words.{graph_count, channel_count, sort_of, bound_of, capacity_as, graph_part}
use Rattle.system_tables.specs.Formed.{system_formed}
use Rattle.system_tables.specs.declared.ids.ChannelCapacity.{ChannelCapacity}
use Rattle.system_tables.specs.declared.ids.ChannelCapacity.TheVariants.{Bounded, Unbounded, Sink}
use Rattle.system_tables.proofs.SoundLaws.{system_sound}
use Rattle.system_tables.proofs.KeptLaws.{apart}
use Rattle.system_builder.specs.Used.{count, width, kind, sort, bound, communication, own, HasWords}
use Rattle.system_builder.proofs.ActionLaws.{part_formed}
use Rattle.system_builder.proofs.ExactChains.{Has}

-- ---- the words of a capacity
abbrev sort_in : ChannelCapacity → ℕ
sort_in (Bounded n) = bounded_sort
sort_in Unbounded = unbounded_sort
sort_in Sink = sink_sort

abbrev bound_in : ChannelCapacity → ℕ
bound_in (Bounded n) = n
bound_in Unbounded = 0
bound_in Sink = 0

sort_back : (k n : ℕ) → k ≤ sink_sort → sort_in (capacity_as k n) ≡ k
sort_back zero n l = refl
sort_back (suc zero) n l = refl
sort_back (suc (suc zero)) n l = refl
sort_back (suc (suc (suc k))) n l = absurd (omega arith)

bound_back : (k n : ℕ) → k ≡ bounded_sort → bound_in (capacity_as k n) ≡ n
bound_back k n e = rw e

-- ---- a table that has what t has uses no word that t does not have
module _ (t u : List ℕ) (h : system_formed t true ≡ true) (x : Has t u (channel_count t) (graph_count t)) (graphs : graph_count u ≡ graph_count t) where
  sort_same : (q : ℕ) → q < channel_count t → sort_of t q ≡ sort_of u q
  sort_same q l =
      sym (sort_back (sort_of t q) (bound_of t q) ((system_sound t true h).channel q l).sort)
      ∙ ap sort_in (sym (x.channel q l).capacity)
      ∙ sort_back (sort_of u q) (bound_of u q) ((system_sound u true x.formed).channel q (subst (λ (n : ℕ). q < n) (sym x.channels) l)).sort

  bound_same : (q : ℕ) → q < channel_count t → sort_of u q ≡ bounded_sort → bound_of t q ≡ bound_of u q
  bound_same q l e =
      sym (bound_back (sort_of t q) (bound_of t q) (sort_same q l ∙ e))
      ∙ ap bound_in (sym (x.channel q l).capacity)
      ∙ bound_back (sort_of u q) (bound_of u q) e

  known : (q : ℕ) → q < channel_count u → q < channel_count t
  known q l = subst (λ (n : ℕ). q < n) x.channels l

  there : (g : ℕ) → g < graph_count u → g < graph_count t
  there g l = subst (λ (n : ℕ). g < n) graphs l

  own_word : (g i : ℕ) → g < graph_count u → i < table_words → Own.Uses (graph_part u g) i
      → get_or t (graph_start g + i) 0 ≡ get_or u (graph_start g + i) 0
  own_word g i l inside used =
      let G = graph_part u g in
      let P = graph_part t g in
      let formed = own-parts.apart G true (part_formed u g (apart u true x.formed) l) in
      let formed-too = own-parts.apart P true (part_formed t g (apart t true h) (there g l)) in
      sym (get_or-take table_words (drop (graph_start g) t) i 0 inside ∙ get_or-drop (graph_start g) t i 0)
      ∙ same_words G P formed formed-too (sym (x.graph g (there g l)).parts) i used
      ∙ get_or-take table_words (drop (graph_start g) u) i 0 inside ∙ get_or-drop (graph_start g) u i 0

  count_word : (c : ℕ) → c < channels_start → get_or t c 0 ≡ get_or u c 0
  count_word zero l = sym graphs
  count_word (suc zero) l = sym x.channels
  count_word (suc (suc c)) l = absurd (omega arith)

  pub has_words : HasWords u t
  has_words i (count c l) = count_word c l
  has_words i (width q l) = sym (x.channel q (known q l)).width
  has_words i (kind q e l m) =
      let c = x.channel q (known q l) in
      sym (c.kind e (subst (λ (n : ℕ). e < n) c.width m))
  has_words i (sort q l) = sort_same q (known q l)
  has_words i (bound q l e) = bound_same q (known q l) e
  has_words i (communication g a l m) =
      let y = x.graph g (there g l) in
      let same : action_count (graph_part u g) ≡ action_count (graph_part t g) =
      same_count (action_at (graph_part u g)) (action_at (graph_part t g)) _ _ (ap (λ (G : Graph). G.actions) y.parts)
      in
      sym (y.told a (subst (λ (n : ℕ). a < n) same m))
  has_words i (own g j l inside used) = own_word g j l inside used
