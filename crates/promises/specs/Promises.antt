-- The whole promise on one page: what is proved of the definitions that the contracts cite. Each field is a statement of another
-- crate, and nothing is stated here anew; `proofs/Promises.antt` has the term that holds them all.
--
-- That every call ends, does nothing undefined and answers what its definition says is each function's own contract, in `src/`:
-- `decode` is `decode_of`, `check` and `check_wide` are `verdict_of`, `step` is `step_of`, `run` is `run_of`, `read_parcel` is `read_of 2` for edge
-- numbers of 16 bits and `read_of 4` for those of 32, `report` is `report_of`, `rewrite` is `rewrite_of`, and so on;
-- `shortest_path` answers what `Shortest` says.
use Rattle.std.specs.Prelude.{ℕ, List}
use Rattle.isa.specs.declared.Technique.{Technique}
use Rattle.isa.specs.Theorems.{RoundTrips}
use Rattle.machine.specs.declared.State.{State}
use Rattle.machine.specs.Theorems.{UnmadeChangesNothing, PastTopStops, StepThenRun}
use Rattle.checker.specs.Theorems.{AcceptedExactly}
use Rattle.checker.specs.Examples.{OrderShown}
use Rattle.guarded.specs.Theorems.{GuardsPutIn}
use Rattle.guarded.specs.Examples.{RewritesShown}
use Rattle.integrity.specs.Demand.{Demand3, StopFourAtJumps, RunIsItsSteps}
use Rattle.integrity.specs.Home.{ReturnsHome}
use Rattle.integrity.specs.Examples.{ProgramsAccepted, CallsMade, StopFourShown, ReturnsShown, StackStopsShown}
use Rattle.parcel.specs.Theorems.{ReadWritten, WrittenRead, WrittenWhereRising, ReadAfterWrite, WriteAfterRead}
use Rattle.editions.specs.Theorems.{TwoEditions}
use Rattle.line.specs.Theorems.{PrefixSuffices}
use Rattle.line.specs.Canonical.{AcceptedParcelsCanonical}
use Rattle.table.specs.Table.{Table}
use Rattle.table.specs.PastTop.{PastTopShown}
use Rattle.report.specs.Theorems.{KindsAddUp, EdgesAsListed}
use Rattle.report.specs.Examples.{ReportsShown}
use Rattle.totals.specs.Theorems.{CountedExactly, TotalsOfList}
use Rattle.totals.specs.Examples.{TotalsShown}
use Rattle.capi.specs.Theorems.{RefusedChangesNothing, StopsApart}
use Rattle.owner.specs.Theorems.{RefusedReportsChangeNothing}
use Rattle.wide.specs.Theorems.{RefusedWideCallsChangeNothing}
use Rattle.installer.specs.Theorems.{RefusedRewritingChangesNothing}
use Rattle.integrity.specs.Ways.{WaysArePaths}
use Rattle.paths.specs.Theorems.{OneAnswer, StartAlone}
use Rattle.paths.specs.Examples.{PathsShown}
use Rattle.arrivals.specs.Arrivals.{NeverArrives}
use Rattle.manager.specs.Theorems.{PathAnswersTold}

pub record Promises : Type 0 where
  -- Instruction words, written and read, give back each other.
  pub words : RoundTrips
  -- Parcels, written and read, give back each other, in both editions (an edge number has w bytes: 2 or 4): what their bytes hold,
  pub parcel_read_back : ReadWritten
  pub parcel_written_back : WrittenRead
  -- and the two calls, whatever else stands in the places lent to them. What was written and is read gives back; what was read and is
  -- written gives back exactly where the edges of the bytes rise (K3), and is 18 where they don't.
  pub read_after_write : ReadAfterWrite
  pub write_after_read : (w : ℕ) → WriteAfterRead w
  -- The first 40,973 bytes of an input decide what `verdict` prints.
  pub prefix_suffices : PrefixSuffices
  -- Code is accepted exactly where it meets the published conditions, plain (with the clause of K2) or with memory guards, and its edges
  -- rise (the clause of K3).
  pub accepted_exactly : AcceptedExactly
  -- Of two faults that are neighbours in the order of the numbers, the verdict is the first.
  pub order_shown : OrderShown
  -- A run of one step more is a step and then the run;
  pub step_then_run : (t : Technique) (n : ℕ) (memory : List ℕ) (s : State) (k : ℕ) → StepThenRun t n memory s k
  -- its count, its end and what it leaves are those of its steps one by one.
  pub run_is_its_steps : RunIsItsSteps
  -- A step that is not made changes nothing,
  pub unmade_changes_nothing : (t : Technique) (n : ℕ) (memory : List ℕ) (s : State) → UnmadeChangesNothing t n memory s
  -- and a refused call from C or Rust changes nothing that was lent.
  pub refused_changes_nothing : RefusedChangesNothing
  -- For every list of steps, runs and bus writes over an accepted program: each step made is an edge of the claimed graph, the code
  -- words stay as checked, plain a step that gives stop 4 stands at a jmp, and with memory guards a step that cannot be made stands at an
  -- illegal word or at a load outside memory, or finds the stack full or empty.
  pub demand_3 : Demand3
  -- That is about something: programs that are accepted, and calls over them that are made.
  pub programs_accepted : ProgramsAccepted
  pub calls_made : (registers : ℕ → ℕ) (word : ℕ) → CallsMade registers word
  -- K1: the words of each kind add up to the words of the code;
  pub kinds_add_up : KindsAddUp
  -- over a list of at most 65,535 programs and parcels, the sums are those of the counted ones, which are the accepted ones that
  -- have a jump, and the largest is the first whose freedom no other's passes, or none.
  pub counted_exactly : CountedExactly
  pub totals_of_list : TotalsOfList
  -- A report or an addition from C or Rust that is refused leaves figures and totals as they were.
  pub refused_reports_change_nothing : RefusedReportsChangeNothing
  -- Those too are about something: reports and totals of the post program.
  pub reports_shown : ReportsShown
  pub totals_shown : TotalsShown
  -- K2: over an accepted plain program a step gives stop 4 at a jmp only, whatever the calls. Demand 3 has this claim too;
  pub stop_four_at_jumps : StopFourAtJumps
  -- a branch past the code is refused, and a jmp that meets stop 4 is shown.
  pub stop_four_shown : (registers : ℕ → ℕ) → StopFourShown registers
  -- K3: two accepted parcels of one edition with the same code, graph and data are the same bytes;
  pub accepted_parcels_canonical : AcceptedParcelsCanonical
  -- a memory and a graph of the right shape are written exactly where the edges rise, and 18 elsewhere;
  pub written_where_rising : (w : ℕ) → WrittenWhereRising w
  -- and the distinct edges of K1 are, of an accepted program, its edges as listed.
  pub edges_as_listed : EdgesAsListed
  -- K5: a load or a store whose exact sum is two to the 64 or more is stop 3, and changes nothing;
  pub past_top_stops : (t : Technique) (n : ℕ) (memory : List ℕ) (s : State) → PastTopStops t n memory s
  -- shown in an accepted program whose store would come round to the first data word.
  pub past_top_shown : PastTopShown
  -- K6: widening loses nothing, and narrowing and widening give back each other's bytes; where a parcel converts, it gets the same verdict in
  -- both editions, and what 19 turns away, the checkers refuse with 7 or 8.
  pub two_editions : TwoEditions
  -- A call on the second edition from C or Rust that is refused changes nothing that was lent.
  pub refused_wide_calls_change_nothing : RefusedWideCallsChangeNothing
  -- K7: what comes out of the rewriter is always accepted, whatever data comes to stand after it; its length is the old one plus five per
  -- jump, one per destination and one; one edge more in the claim adds at most one word, and one edge changed moves it by at most one; the
  -- map rises, and at the entry of each old address stands its label, then its guard, or the old word with its branch target moved; the
  -- edges are the old ones, moved, and the ID of a set is the map of the old one. Of the definitions with memory guards the same is
  -- proved, with the length that K13 gives.
  pub guards_put_in : GuardsPutIn
  -- That is about something: two programs and what comes of them, word by word.
  pub rewrites_shown : RewritesShown
  -- A rewriting from C or Rust that is refused leaves code, edges, map and counts as they were.
  pub refused_rewriting_changes_nothing : RefusedRewritingChangesNothing
  -- K8: over an accepted program, in every list of steps, runs and bus writes, each ret made goes to the word after the latest call not
  -- yet returned from.
  pub returns_home : ReturnsHome
  -- That is about something: a routine that is called from two places, and programs that meet stops 5 and 6.
  pub returns_shown : (t : Technique) (registers : ℕ → ℕ) → ReturnsShown t registers
  pub stack_stops_shown : (t : Technique) (registers : ℕ → ℕ) → StackStopsShown t registers
  -- What C and Rust get for these two stops is no number of a refusal.
  pub stops_apart : StopsApart
  -- K9: the paths of the graph determine the answer, and the path itself; the path from 0 to 0 is 0 alone.
  pub one_answer : OneAnswer
  pub start_alone : StartAlone
  -- That is about something: the lower of two equally short ways, and an address that nothing leads to.
  pub paths_shown : PathsShown
  -- Over an accepted program, in every list of steps, runs and bus writes, the addresses where the machine stood are a path from 0;
  pub ways_are_paths : WaysArePaths
  -- so where the answer is "unreachable", no run arrives.
  pub never_arrives : NeverArrives
  -- From C or Rust, an answer that is not 0 has put nothing, and 258 is "unreachable".
  pub path_answers_told : PathAnswersTold
  -- The starred rows of document 01.
  pub rows : Table
