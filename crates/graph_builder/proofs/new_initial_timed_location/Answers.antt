use Rattle.std.proofs.Common.{ℕ, ◌+◌, ◌≡◌, List, length, arith, sym, ap, true, ◌∙◌}
use lib.ListN.{set, length-set}
use lib.Seq.{get_or-set_other}
use Rattle.graph_tables.specs.Layout.{locations_cell, processes_cell, place_cell}
use Rattle.graph_tables.specs.Words.{location_count, process_count}
use Rattle.graph_checks.proofs.ReadyParts.{initial_ready}
use Rattle.graph_builder.proofs.BuildingLaws.{words_of}
use Rattle.graph_builder.proofs.new_initial_timed_location.Goals as goal

-- a process leaves the number of locations, and of words
process_locations : (t : List ℕ) (p l : ℕ) → location_count (set (set t (place_cell p) l) processes_cell (p + 1)) ≡ location_count t
process_locations t p l =
    get_or-set_other (set t (place_cell p) l) processes_cell locations_cell (p + 1) 0 (λ e. absurd (omega arith))
    ∙ get_or-set_other t (place_cell p) locations_cell l 0 (λ e. absurd (omega arith))

process_words : (t : List ℕ) (p l : ℕ) → length (set (set t (place_cell p) l) processes_cell (p + 1)) ≡ length t
process_words t p l = length-set (set t (place_cell p) l) processes_cell (p + 1) ∙ length-set t (place_cell p) l

pub location_count-n-requires : goal.location_count-n-requires
location_count-n-requires c = words_of _ true (initial_ready _ _ (sym c.in_ok-initial_check.ensures)).location.formed

pub put_process-requires : goal.put_process-requires
put_process-requires c =
    let r = initial_ready _ _ (sym c.in_ok-initial_check.ensures) in
    (words_of _ true r.location.formed, r.room)

pub put_location-requires : goal.put_location-requires
put_location-requires c =
    let t = c.args.t.now in
    let r = initial_ready _ _ (sym c.in_ok-initial_check.ensures) in
    let u = c.put_process.ensures in
    let more : location_count c.put_process.new.t ≡ location_count t =
    ap location_count u ∙ process_locations t (process_count t) c.location_count-n.result in (
      ap length u ∙ process_words t (process_count t) c.location_count-n.result ∙ words_of _ true r.location.formed,
      omega (arith, more, r.location.room),
      r.location.limits.0,
    )

pub overflow_cast-result : goal.overflow_cast-result
overflow_cast-result c =
    let r = initial_ready _ _ (sym c.in_ok-initial_check.ensures) in
    omega (arith, c.location_count-n.ensures, r.location.room)
