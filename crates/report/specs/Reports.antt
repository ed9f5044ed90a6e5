-- The report on a program, and on the bytes of a parcel: the figures where it is accepted, and else its first fault.
use Rattle.std.specs.Prelude.{ℕ, List, ◌++◌, length, Option, None, Result, Ok, Err}
use Rattle.answers.specs.declared.Place.{Place}
use Rattle.answers.specs.declared.Fault.{Fault}
use Rattle.answers.specs.Faults.{fault, Verdict}
use Rattle.isa.specs.declared.Technique.{Technique}
use Rattle.checker.specs.Verdicts.{verdict_of}
use Rattle.parcel.specs.Parcel.{Content, holds, refused, read_of}
use Rattle.report.specs.declared.Freedom.{Freedom}
use Rattle.report.specs.declared.Figures.{Figures}
use Rattle.report.specs.Figures.{figures_of}

abbrev pub Report : Type 0
Report = Result Figures Fault

-- the freedom in a report: a refused program has none
abbrev pub freedom_in : Report → Option Freedom
freedom_in (Ok figures) = figures.freedom
freedom_in (Err f) = None

abbrev pub report_by : Verdict → Figures → Report
report_by (Ok x) figures = Ok figures
report_by (Err f) figures = Err f

-- where the checker refuses, its refusal with its place; where it accepts, the figures
unfoldable pub report_of : Technique → List ℕ → ℕ → List ℕ → Report
report_of t memory n edges = report_by (verdict_of t memory n edges) (figures_of memory n edges)

-- the same of what a parcel holds: a parcel that the reader refuses is a refused one like any other
unfoldable pub content_report : Technique → Content → Report
content_report t (holds code edges words) = report_of t (code ++ words) (length code) edges
content_report t (refused why) = Err (fault why Place.Nowhere)

abbrev pub parcel_report : Technique → List ℕ → Report
parcel_report t bytes = content_report t (read_of 2 bytes)
