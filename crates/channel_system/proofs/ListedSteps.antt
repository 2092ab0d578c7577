-- What is listed may be stepped, and what may be stepped is listed, process by process.
use Rattle.std.specs.Prelude.{Ok, Some}
use Prim.Native.Nat.{ℕ, ◌<◌}
use mathlib.Core.Path.{◌≡◌, refl, sym, ap, subst, ◌∙◌}
use mathlib.Core.Bool.{true}
use mathlib.Core.List.{List}
use mathlib.Core.Logic.{◌↔◌, ◌⊎◌}
use native.Mathlib.Omega.{arith}
use borrow.Author.Tests.{le-ltb}
use lib.ListN.{length, get_or}
use Rattle.laws.proofs.BelowLaws.{and_first, and_rest, and_both, all_at, all_from}
use Rattle.graph_tables.specs.Sizes.{plain_kind}
use Rattle.graph_tables.specs.Words.{action_count, action_kind, key_of, post_of, epsilon}
use Rattle.graph_tables.specs.Messages.{is_send, is_receive}
use Rattle.graph_tables.specs.declared.answers.Entry.{Entry}
use Rattle.graph_tables.proofs.MessageLaws.{send_kind_lem, receive_kind_lem}
use Rattle.run_steps.specs.Steps.{limit_holds, limits_hold, passes_of, clocks_after}
use Rattle.run_steps.specs.Listing.{clocks_by}
use Rattle.run_steps.specs.Rows.{Row, entry_for, Open}
use Rattle.run_steps.proofs.ListingLaws.{clocks_by_known, clocks_by_message, clocks_by_epsilon}
use Rattle.program_graph.specs.Facts.{Accepted, InvariantsAt, Passing, AllPass}
use Rattle.program_graph.specs.declared.record.ProgramGraphRun.{ProgramGraphRun}
use Rattle.program_graph.proofs.RunLaws.{left_over}
use Rattle.program_graph.proofs.RunReady.{invariant_at, invariants_from, through}
use Rattle.system_tables.specs.Words.{graph_count, channel_count, graph_part, communication_of}
use Rattle.system_tables.specs.Sound.{SystemSound}
use Rattle.system_tables.specs.declared.ids.Message.{Message}
use Rattle.system_tables.specs.declared.ids.Message.TheVariants.{Send, Receive, ProbeEmptyQueue, ProbeFullQueue}
use Rattle.system_tables.specs.declared.ids.Communication.TheVariants.{Plain, On}
use Rattle.system_tables.proofs.CommunicationLaws.{Says, message_says}
use Rattle.system_state.specs.Fits.{StateSound}
use Rattle.channel_system.specs.Steps.{system_fits, locations_of, run_of, spoken_by, moved_of}
use Rattle.channel_system.specs.Facts.{Speaks}
use Rattle.channel_system.specs.Listing.{listed_as}
use Rattle.channel_system.specs.Asked.{Answers, answer_of, Asked, ChannelTakes}
use Rattle.channel_system.specs.Taken.{Handed, PlainHanded, Ready, PlainReady}
use Rattle.channel_system.specs.Rows.{AllListed}
use Rattle.channel_system.proofs.RungLaws.{both_so, where_so}
use Rattle.channel_system.proofs.ChannelExactly.{spoken_is}
use Rattle.channel_system.proofs.StepExactly.{plain_past_guards, message_past_guards, autonomous_accepted}
use Rattle.channel_system.proofs.ListedAnswers.{entry_open, open_listed}

-- ---- one graph
module _ (t : List ℕ) (run : ProgramGraphRun) (a : ℕ) (posts : List ℕ) (after : List ℕ) (same : clocks_by t a run.times ≡ after) where
  -- the entry of process p
  abbrev entry_on : ℕ → Entry
  entry_on p = record { action = record { 0 = a }; process = p; post = get_or posts p 0 }

  -- an open row that has it
  abbrev RowOn : ℕ → Type 0
  RowOn p = (r : Row) × Open t run.vars run.times run.places run.processes r × (entry_for t r ≡ entry_on p)

  passes_from : (pre post k : ℕ) → Passing t run.vars run.times after pre a post k
      → passes_of t run.vars run.times (clocks_by t a run.times) k ≡ true
  unfolding passes_of limits_hold limit_holds
  passes_from pre post k h =
      and_both h.guard
      (and_both (all_from (limit_holds t k run.times) _ h.limits)
      (invariants_from t (clocks_by t a run.times) (post_of (key_of t k))
      (subst (λ (c : List ℕ). InvariantsAt t c (post_of (key_of t k))) (sym same)
      (subst (λ (l : ℕ). InvariantsAt t after l) (sym h.to) h.invariants))))

  rows_from : AllPass t run a posts after → (p : ℕ) → p < run.processes → RowOn p
  rows_from f p l =
      let k = (f p l).0 in
      let h = (f p l).1 in (
        record { action = a; process = p; transition = k },
        record {
          process = l;
          known = h.known;
          pre = h.from;
          by = h.by;
          shared = λ q m. let x = (f q m).1 in record { transition = (f q m).0; known = x.known; pre = x.from; by = x.by };
          passes = passes_from (get_or run.places p 0) (get_or posts p 0) k h;
        },
        ap (λ (n : ℕ). record { action = record { 0 = a }; process = p; post = n }) h.to,
      )

  passing_from : (p : ℕ) (r : Row) → Open t run.vars run.times run.places run.processes r → r.action ≡ a → r.process ≡ p
      → post_of (key_of t r.transition) ≡ get_or posts p 0
      → Passing t run.vars run.times after (get_or run.places p 0) a (get_or posts p 0) r.transition
  unfolding passes_of limits_hold limit_holds
  passing_from p r h e f to =
      let k = r.transition in
      let rest = and_rest _ _ h.passes in
      record {
        known = h.known;
        from = h.pre ∙ ap (λ (x : ℕ). get_or run.places x 0) f;
        by = h.by ∙ e;
        to = to;
        guard = and_first _ _ h.passes;
        limits = λ i m. all_at (limit_holds t k run.times) _ i (and_first _ _ rest) m;
        invariants =
            subst (λ (l : ℕ). InvariantsAt t after l) to
            (subst (λ (c : List ℕ). InvariantsAt t c (post_of (key_of t k))) (ap (λ (x : ℕ). clocks_by t x run.times) e ∙ same)
            (invariant_at t (clocks_by t r.action run.times) (post_of (key_of t k)) (and_rest _ _ rest)));
      }

  -- each process has a transition that passes exactly when each has an open row
  rows_exactly : AllPass t run a posts after ↔ ((p : ℕ) → p < run.processes → RowOn p)
  rows_exactly = (
    rows_from,
    λ f p l.
        let x = f p l in
        let e = x.2 in (
          x.0.transition,
          passing_from p x.0 x.1 (ap (λ (d : Entry). d.action.0) e) (ap (λ (d : Entry). d.process) e)
              (ap (λ (d : Entry). d.post) e),
        ),
  )

-- ---- a graph of a system
module _ (t s : List ℕ) (fits : system_fits t s ≡ true) (sound : SystemSound t) (g : ℕ) (known : g < graph_count t) (a : ℕ)
    (posts : List ℕ) where
  abbrev G : List ℕ
  G = graph_part t g

  abbrev run : ProgramGraphRun
  run = run_of s g

  -- the rows of an action whose channel lets it be listed are listed
  rows_listed : (after : List ℕ) (same : clocks_by G a run.times ≡ after) → listed_as t s (spoken_by t g a) ≡ true
      → AllPass G run a (locations_of posts) after ↔ AllListed t s g a posts
  rows_listed after same through-channel = through (rows_exactly G run a (locations_of posts) after same) (
    λ f p l.
        let x = f p l in
        let act = ap (λ (d : Entry). d.action.0) x.2 in
        let found = open_listed t s fits g known sound x.0
        (record { row = x.1; channel = ap (λ (n : ℕ). listed_as t s (spoken_by t g n)) act ∙ through-channel }) in
        (found.0, found.1 ∙ ap (λ (e : Entry). Ok (Some e)) x.2),
    λ f p l.
        let x = f p l in
        let y = entry_open t s fits g known sound x.0 _ x.1 in
        (y.0, y.1.row, sym y.2),
  )

  -- By an action that is on no channel each process has a transition that passes exactly when each has its entry in the list.
  pub plain_listed : a < action_count (graph_part t g) → spoken_by t g a ≡ Plain → PlainReady t s g a posts ↔ AllListed t s g a posts
  plain_listed action plain =
      rows_listed (clocks_after G a run.times) (clocks_by_known G run.times (sound.graph g known) a action)
      (ap (listed_as t s) plain)

  -- So by a communication that its channel lets be listed.
  pub message_listed : (m : Message) (q : ℕ) → Speaks t g a m q → listed_as t s (On m (record { 0 = q })) ≡ true
      → Ready t s g a posts ↔ AllListed t s g a posts
  message_listed m q speaks lets =
      rows_listed run.times (clocks_by_message G run.times a (not_plain m says.1))
      (ap (listed_as t s) (spoken_is t s g g a posts 0 m q speaks) ∙ lets)
    where
      says : (q < channel_count t) × Says t q G a m
      says = message_says (sound.communication g a known speaks.action) m (record { 0 = q }) speaks.word

      sends : is_send G a ≡ true → action_kind G a ≡ plain_kind → ⊥
      sends e f = let k = send_kind_lem G a e in omega arith

      receives : is_receive G a ≡ true → action_kind G a ≡ plain_kind → ⊥
      receives e f = let k = receive_kind_lem G a e in omega arith

      not_plain : (n : Message) → Says t q G a n → action_kind G a ≡ plain_kind → ⊥
      not_plain Send x = sends x.0
      not_plain Receive x = receives x.0
      not_plain ProbeEmptyQueue x = sends x.send
      not_plain ProbeFullQueue x = sends x.send

  -- ---- steps
  module _ (o word : ℕ) (asked : Asked t g o posts) where
    -- A plain step with a location for each process is accepted or answers 26 exactly when each process has its entry in the list.
    pub plain_steps : (a ≡ epsilon → ⊥) → spoken_by t g a ≡ Plain
        → (Accepted (answer_of (moved_of t s g o a posts word)) ⊎ Answers 26 (answer_of (moved_of t s g o a posts word)))
        ↔ (PlainHanded t s g a posts × AllListed t s g a posts)
    plain_steps named plain =
        through (plain_past_guards t s g o a posts word asked named plain) (where_so (λ h. plain_listed h.action plain))

    -- A communication that its channel takes and lets be listed, with a post for each process, likewise.
    pub message_steps : StateSound t s → (m : Message) (q : ℕ) → Speaks t g a m q → listed_as t s (On m (record { 0 = q })) ≡ true
        → (Accepted (answer_of (moved_of t s g o a posts word)) ⊎ Answers 26 (answer_of (moved_of t s g o a posts word)))
        ↔ (ChannelTakes t s q m × ((length (locations_of posts) ≡ (run_of s g).processes) × AllListed t s g a posts))
    message_steps h m q speaks lets =
        through (message_past_guards t s g o a posts word asked m q speaks sound h)
        (both_so (λ k. k, λ k. k) (both_so (λ k. k, λ k. k) (message_listed m q speaks lets)))

-- A step by EPSILON is accepted exactly when there is a location for each process, and each has its entry in the list.
pub autonomous_steps : (t s : List ℕ) → system_fits t s ≡ true → (sound : SystemSound t) (g o : ℕ) (posts : List ℕ) (word : ℕ)
    → Asked t g o posts
    → Accepted (answer_of (moved_of t s g o epsilon posts word)) ↔ (Handed t s g posts × AllListed t s g epsilon posts)
autonomous_steps t s fits sound g o posts word asked =
    let few = (sound.graph g asked.graph).counts.actions in
    let silent : spoken_by t g epsilon ≡ Plain
    = sym (left_over (communication_of t g epsilon) (le-ltb epsilon (action_count (graph_part t g)) (omega arith)) refl) in
    through (autonomous_accepted t s g o posts word asked sound)
    (both_so (λ k. k, λ k. k)
    (rows_listed t s fits sound g asked.graph epsilon posts (run_of s g).times
    (clocks_by_epsilon (graph_part t g) (run_of s g).times (sound.graph g asked.graph)) (ap (listed_as t s) silent)))
