-- The marked examples.
use mathlib.Core.Path.{refl}
use Rattle.laws.specs.Ladder.{unless}
use Rattle.laws.specs.Below.{◌and◌, all_below, any_below, sum_below}
use Rattle.laws.specs.Examples.{Examples, end, gives, Hold}
use Rattle.time.specs.Marked.{examples as time-examples}
use Rattle.time.proofs.Theorems.{marked as time-marked}
use Rattle.grammar.specs.Items.{item_of, deepest}
use Rattle.grammar.specs.Draws.{draws_of}
use Rattle.grammar.specs.Run.{run_of}
use Rattle.grammar.specs.Typing.{kind_steps, type_of}
use Rattle.grammar.specs.Evaluation.{value_steps, value_of, evaluation_of}
use Rattle.grammar.specs.Marked.{examples as grammar-examples}
use Rattle.grammar.proofs.Theorems.{marked as grammar-marked}
use Rattle.graph_tables.specs.Formed.{well_formed, counts_formed, started_of, parts_formed, variable_formed, bound_formed, limit_formed}
use Rattle.graph_tables.specs.Formed.{limits_formed, location_formed, zero_inside, process_formed, reset_formed, resets_formed, effect_formed}
use Rattle.graph_tables.specs.Formed.{effect_draws, plain_formed, action_formed, action_known, key_formed, guard_formed, transition_formed}
use Rattle.graph_edits.specs.Edits.{with_limit, with_limits, with_expression, with_row, with_group, with_guard, transition_at}
use Rattle.graph_checks.specs.Checks.{var_check, clock_check, action_check, clock_known, clocks_known, starts_inside, all_start_inside}
use Rattle.graph_checks.specs.Checks.{limits_check, location_check, start_check, initial_check, plain_check, room_for_reset, reset_check}
use Rattle.graph_checks.specs.Checks.{room_for_effect, assigned_check, action_effect_check, known_effect_check, effect_check, ends_check, guard_room}
use Rattle.graph_checks.specs.Checks.{conditions_check, transition_check}
use Rattle.run_steps.specs.Steps.{limit_holds, limits_hold, invariants_hold, guard_holds, passes_of, leaves_by, leads_of, process_ready, ready_of}
use Rattle.run_steps.specs.Steps.{reset_below, effect_next, effects_below, placed_below, post_known, clock_fits, shifted_below, place_holds}
use Rattle.graph_builder.specs.Building.{empty_of, new_var_of, new_clock_of, new_action_of, new_initial_of, new_timed_location_of, add_reset_of}
use Rattle.graph_builder.specs.Building.{add_effect_of, add_transition_of}
use Rattle.program_graph.specs.Running.{place_known, var_fits, counts_same, run_formed, fits_table, plain_of, acted_of, step_of, transition_of}
use Rattle.program_graph.specs.Running.{waited_of, wait_of, start_places, start_vars, new_run_of, value_in}
use Rattle.program_graph.specs.Marked.{both, graph_examples, examples}

hold_both : (a b : Examples) → Hold a → Hold b → Hold (both a b)
hold_both end b h k = k
hold_both (gives x y rest) b h k = (h.0, hold_both rest b h.1 k)

graph_marked : Hold graph_examples
unfolding
    unless ◌and◌ all_below any_below sum_below
    item_of deepest draws_of run_of kind_steps type_of value_steps value_of evaluation_of
    well_formed counts_formed started_of parts_formed variable_formed bound_formed limit_formed limits_formed location_formed zero_inside
    process_formed reset_formed resets_formed effect_formed effect_draws plain_formed action_formed action_known key_formed guard_formed
    transition_formed with_limit with_limits with_expression with_row with_group with_guard transition_at clock_known clocks_known
    starts_inside all_start_inside
    var_check clock_check action_check limits_check location_check start_check initial_check plain_check room_for_reset reset_check
    room_for_effect assigned_check action_effect_check known_effect_check effect_check ends_check guard_room conditions_check transition_check
    limit_holds limits_hold invariants_hold guard_holds passes_of leaves_by leads_of process_ready ready_of reset_below effect_next
    effects_below placed_below post_known clock_fits shifted_below place_holds
    empty_of new_var_of new_clock_of new_action_of new_initial_of new_timed_location_of add_reset_of add_effect_of add_transition_of
    place_known var_fits counts_same run_formed fits_table plain_of acted_of step_of transition_of waited_of wait_of
    start_places start_vars new_run_of value_in
graph_marked = (refl, (refl, (refl, (refl, (refl, (refl, (refl, tt)))))))

-- Each gives what it must.
pub marked : Hold examples
marked =
    hold_both graph_examples (both time-examples grammar-examples) graph_marked
    (hold_both time-examples grammar-examples time-marked grammar-marked)
