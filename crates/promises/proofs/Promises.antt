-- Every promise is kept: each field is the proof that its own crate has.
use Rattle.isa.proofs.Words.{round_trips}
use Rattle.machine.proofs.Theorems.{unmade_changes_nothing, past_top_stops, step_then_run}
use Rattle.checker.proofs.Equivalence.{accepted_exactly}
use Rattle.checker.proofs.Shown.{order_shown}
use Rattle.guarded.proofs.Theorems.{guards_put_in}
use Rattle.guarded.proofs.Shown.{rewrites_shown}
use Rattle.integrity.proofs.Demand.{demand_3, stop_four_at_jumps}
use Rattle.integrity.proofs.Traversal.{run_is_its_steps}
use Rattle.integrity.proofs.Home.{returns_home}
use Rattle.integrity.proofs.Shown.{programs_accepted, calls_made, stop_four_shown, returns_shown, stack_stops_shown}
use Rattle.parcel.proofs.RoundTrips.{read_written, written_read}
use Rattle.parcel.proofs.Calls.{written_where_rising, read_after_write, write_after_read}
use Rattle.editions.proofs.Theorems.{two_editions}
use Rattle.line.proofs.Theorems.{prefix_suffices}
use Rattle.line.proofs.Canonical.{accepted_parcels_canonical}
use Rattle.table.proofs.Table.{table}
use Rattle.table.proofs.PastTop.{past_top_shown}
use Rattle.report.proofs.ByKind.{kinds_add_up}
use Rattle.report.proofs.AsListed.{edges_as_listed}
use Rattle.report.proofs.Examples.{reports_shown}
use Rattle.totals.proofs.Lists.{counted_exactly, totals_of_list}
use Rattle.totals.proofs.Examples.{totals_shown}
use Rattle.capi.proofs.Unchanged.{refused_changes_nothing}
use Rattle.capi.proofs.Apart.{stops_apart}
use Rattle.owner.proofs.Unchanged.{refused_reports_change_nothing}
use Rattle.wide.proofs.Unchanged.{refused_wide_calls_change_nothing}
use Rattle.installer.proofs.Unchanged.{refused_rewriting_changes_nothing}
use Rattle.integrity.proofs.Ways.{ways_are_paths}
use Rattle.paths.proofs.Answers.{one_answer, start_alone}
use Rattle.paths.proofs.Examples.{paths_shown}
use Rattle.arrivals.proofs.Arrivals.{never_arrives}
use Rattle.manager.proofs.Told.{path_answers_told}
use Rattle.promises.specs.Promises.{Promises}

pub kept : Promises
kept =
    record {
      words = round_trips;
      parcel_read_back = read_written;
      parcel_written_back = written_read;
      read_after_write = read_after_write;
      write_after_read = write_after_read;
      prefix_suffices = prefix_suffices;
      accepted_exactly = accepted_exactly;
      order_shown = order_shown;
      step_then_run = step_then_run;
      run_is_its_steps = run_is_its_steps;
      unmade_changes_nothing = unmade_changes_nothing;
      refused_changes_nothing = refused_changes_nothing;
      demand_3 = demand_3;
      programs_accepted = programs_accepted;
      calls_made = calls_made;
      kinds_add_up = kinds_add_up;
      counted_exactly = counted_exactly;
      totals_of_list = totals_of_list;
      refused_reports_change_nothing = refused_reports_change_nothing;
      reports_shown = reports_shown;
      totals_shown = totals_shown;
      stop_four_at_jumps = stop_four_at_jumps;
      stop_four_shown = stop_four_shown;
      accepted_parcels_canonical = accepted_parcels_canonical;
      written_where_rising = written_where_rising;
      edges_as_listed = edges_as_listed;
      past_top_stops = past_top_stops;
      past_top_shown = past_top_shown;
      two_editions = two_editions;
      refused_wide_calls_change_nothing = refused_wide_calls_change_nothing;
      guards_put_in = guards_put_in;
      rewrites_shown = rewrites_shown;
      refused_rewriting_changes_nothing = refused_rewriting_changes_nothing;
      returns_home = returns_home;
      returns_shown = returns_shown;
      stack_stops_shown = stack_stops_shown;
      stops_apart = stops_apart;
      one_answer = one_answer;
      start_alone = start_alone;
      paths_shown = paths_shown;
      ways_are_paths = ways_are_paths;
      never_arrives = never_arrives;
      path_answers_told = path_answers_told;
      rows = table;
    }
