-- What the listing of a run lists.
use Rattle.graph_tables.specs.Answers.{Answer}
use Rattle.std.specs.declared.option.Option.{Option}
use Rattle.std.specs.Prelude.{Ok, Err, Some, None}
use Prim.Native.Nat.{ℕ, zero, suc, ◌<◌}
use mathlib.Core.Path.{◌≡◌, refl, sym, ap, subst}
use mathlib.Core.Bool.{true}
use mathlib.Core.List.{List, [], ◌∷◌}
use native.Mathlib.Omega.{arith}
use lib.ListN.{length, get_or}
use Rattle.laws.proofs.Ladder.{passed}
use Rattle.graph_tables.specs.Sizes.{plain_kind}
use Rattle.graph_tables.specs.Words.{location_count, action_count, action_kind}
use Rattle.graph_tables.specs.Sound.{Sound}
use Rattle.graph_tables.specs.Refusals.{refusal}
use Rattle.graph_tables.specs.declared.answers.Entry.{Entry}
use Rattle.run_steps.specs.Listing.{seek, listing_of}
use Rattle.run_steps.specs.Rows.{Row, entry_for, Open}
use Rattle.run_steps.specs.Steps.{clocks_after}
use Rattle.run_steps.specs.declared.inner.listing.Sought.{Sought}
use Rattle.run_steps.specs.declared.inner.listing.Sought.TheVariants.{Found, Left}
use Rattle.run_steps.proofs.ListingTheorems.{listed_passes, passes_listed, plain_ready}
use Rattle.program_graph.specs.Facts.{PastGuards, PlainAsked}
use Rattle.program_graph.specs.Running.{fits_table, transition_of}
use Rattle.program_graph.specs.Transitions.{listed, entry_or_end, possible_of}
use Rattle.program_graph.specs.declared.record.ProgramGraphRun.{ProgramGraphRun}
use Rattle.program_graph.proofs.RunLaws.{fitting}
use Rattle.program_graph.proofs.RunReady.{all_pass, plain_exactly}

-- ---- an answer that names an entry
abbrev entry_of : Entry → Answer (Option Entry) → Entry
entry_of d (Ok (Some e)) = e
entry_of d (Ok None) = d
entry_of d (Err r) = d

found : (s : Sought) (e : Entry) → entry_or_end s ≡ Ok (Some e) → s ≡ Found e
found (Found d) e h = ap Found (ap (entry_of d) h)
found (Left k) e h = let z : ◌≡◌ {A = ℕ} 0 1 = cc in absurd (omega arith)

module _ (t : List ℕ) (run : ProgramGraphRun) (fits : fits_table t run ≡ true) where
  -- what is listed, as the answer and as the list
  answered : (i : ℕ) → entry_or_end (seek (listed t run) i) ≡ possible_of t run i
  unfolding possible_of
  answered i = passed (Err (refusal 32)) fits refl

  told : (i : ℕ) (e : Entry) → possible_of t run i ≡ Ok (Some e) → seek (listed t run) i ≡ Found e
  told i e h = found (seek (listed t run) i) e (subst (λ (x : Answer (Option Entry)). x ≡ Ok (Some e)) (sym (answered i)) h)

  -- Every listed entry is a transition that its process passes.
  pub entry_passes : (i : ℕ) (e : Entry) → possible_of t run i ≡ Ok (Some e)
      → (r : Row) × Open t run.vars run.times run.places run.processes r × (e ≡ entry_for t r)
  entry_passes i e h = listed_passes t run.vars run.times run.places run.processes (fitting t run fits).0 i e (told i e h)

  -- Every transition that a process passes, by an action that every process's location has, is listed.
  pub passing_listed : (r : Row) → Open t run.vars run.times run.places run.processes r
      → (i : ℕ) × (possible_of t run i ≡ Ok (Some (entry_for t r)))
  passing_listed r p =
      let x = passes_listed t run.vars run.times run.places run.processes (fitting t run fits).0 r p in
      (x.0, subst (λ (y : Answer (Option Entry)). y ≡ Ok (Some (entry_for t r))) (answered x.0) (ap entry_or_end x.1))

  -- With one process, `transition` gets past its guards with a listed entry of a plain action.
  pub listed_steps : run.processes ≡ 1 → (i : ℕ) (e : Entry) → possible_of t run i ≡ Ok (Some e)
      → e.action.0 < action_count t → action_kind t e.action.0 ≡ plain_kind
      → (word : ℕ) → PastGuards (transition_of t run e.action.0 (e.post ∷ []) word).answer
  listed_steps one i e h known plain word =
      let s : Sound t = (fitting t run fits).0 in
      let x = entry_passes i e h in
      let post : e.post < location_count t
      = subst (λ (d : Entry). d.post < location_count t) (sym x.2) (s.transition x.0.transition x.1.known).post in
      let asked : PlainAsked t run e.action.0 (e.post ∷ [])
      = record { step = record { fits = fits; one_each = sym one; known = at_first post }; action = known; plain = plain } in
      let found : seek (listing_of t run.vars run.times run.places 1) i ≡ Found e
      = subst (λ (n : ℕ). seek (listing_of t run.vars run.times run.places n) i ≡ Found e) one (told i e h) in
      (plain_exactly t run (e.post ∷ []) e.action.0 word asked).1
      ((all_pass t run (e.post ∷ []) e.action.0 (clocks_after t e.action.0 run.times)).0
      (rw one (plain_ready t run.vars run.times run.places s i e found known plain)))
    where
      at_first : {n : ℕ} → e.post < n → (p : ℕ) → p < length (e.post ∷ []) → get_or (e.post ∷ []) p 0 < n
      at_first l zero m = l
      at_first l (suc p) m = absurd (omega arith)
