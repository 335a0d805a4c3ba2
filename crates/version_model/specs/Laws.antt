-- Laws of the versions of a grammar: what a version tells, the grammar tells too.
use Rattle.std.specs.Prelude.{◌≡◌, ◌≢◌, ◌↔◌, ◌⊎◌, ℕ, ◌<◌, false, List, ◌++◌, None}
use Rattle.wf_model.specs.Lists.{IsIn}
use Rattle.wf_model.specs.Grammar.{Grammar, Assignment, inputs_of, outputs_of, IsComposite, alternative_of}
use Rattle.wf_model.specs.WellFormed.{IsWellFormed}
use Rattle.wf_model.specs.Proper.{IsProper}
use Rattle.wf_model.specs.Linear.{Continues, IsLinear, IsOnCycle}
use Rattle.wf_model.specs.View.{View, expands, shows, IsShownByDefault}
use Rattle.wf_model.specs.Safe.{IsSafe, IsInduced}
use Rattle.wf_model.specs.declared.event.Event.{Event}
use Rattle.wf_model.specs.Run.{made, IsRun, IsAccepted}
use Rattle.wf_model.specs.Finishing.{ExpandsComposites, IsFinishing}
use Rattle.wf_model.specs.Items.{Item, items, IsVisible, Depends}
use Rattle.wf_model.specs.Reach.{Step, module_along, Reaches}
use Rattle.wf_model.specs.Routes.{IsRoute, Agree}
use Rattle.wf_model.specs.OpenRoutes.{IsOpenRoute}
use Rattle.label_model.specs.Continuing.{continuing}
use Rattle.report_model.specs.Reports.{Report}
use Rattle.report_model.specs.Intake.{Intake, GoesOn, intake}
use Rattle.label_model.specs.Labels.{Label, IsLabel}
use Rattle.label_model.specs.RunLabels.{HasLabel}
use Rattle.label_model.specs.Files.{entries_of, label_file}
use Rattle.verdict_model.specs.declared.verdict.Verdict.{Verdict}
use Rattle.verdict_model.specs.Telling.{Tells}
use Rattle.verdict_model.specs.Verdicts.{IsVerdict}
use Rattle.wf_model.specs.Versions.{version_of, IsVersion, GetsOnCycle, KeepsCycles}
use Rattle.version_model.specs.Versions.{GoesOnWithin, ShowAlike, AreBuiltAlike}

-- Given pairs decide nothing of runs and of labels. Grammars that are built alike accept the same runs, take the same reports, and write the same label files but for the digest
abbrev pub GivenPairsLaw : Type 0
GivenPairsLaw =
    (g h : Grammar) → AreBuiltAlike g h →
    record {
      accepted : (limit : ℕ) (events : List Event) → IsAccepted g limit events → IsAccepted h limit events;
      reports : (most : ℕ) (reports : List Report) → intake g most reports ≡ intake h most reports;
      entries : (events : List Event) → entries_of g events ≡ entries_of h events;
      file : (digest : List ℕ) (events : List Event) → label_file g digest events ≡ label_file h digest events;
    }

-- a version of a well-formed grammar is well-formed, and that of a strictly linear one is strictly linear
abbrev pub VersionFormedLaw : Type 0
VersionFormedLaw = (g : Grammar) (m p : ℕ) → IsVersion g m p → (IsWellFormed g → IsWellFormed (version_of g m p)) × (IsLinear g → IsLinear (version_of g m p))

-- a run of a version is one of the grammar, with the same instances and items, each in the same order
pub record IsRunOfBoth (g : Grammar) (m p k : ℕ) (events : List Event) : Type 0 where
  pub run : IsRun g k events
  pub instances : made g k events ≡ made (version_of g m p) k events
  pub items : items g k events ≡ items (version_of g m p) k events

-- so is each run from a module of the version, and one that the version accepts with a limit, the grammar accepts with it
abbrev pub VersionRunLaw : Type 0
VersionRunLaw =
    (g : Grammar) (m p : ℕ) → IsVersion g m p →
    record {
      each : (k : ℕ) → k < m → (events : List Event) → IsRun (version_of g m p) k events → IsRunOfBoth g m p k events;
      accepted : (limit : ℕ) (events : List Event) → IsAccepted (version_of g m p) limit events → IsAccepted g limit events;
    }

-- reports that the intake of a version takes whole, that of the grammar takes whole, to the same state
abbrev pub VersionReportsLaw : Type 0
VersionReportsLaw =
    (g : Grammar) (m p most : ℕ) → IsVersion g m p → (reports : List Report) (s : Intake) → intake (version_of g m p) most reports ≡ GoesOn s → intake g most reports ≡ GoesOn s

-- a route of a version is one of the grammar, and leads to the same module
abbrev pub VersionRouteLaw : Type 0
VersionRouteLaw =
    (g : Grammar) (m p : ℕ) → IsVersion g m p → (k : ℕ) → k < m → (a : List Step) → IsRoute (version_of g m p) k a →
    IsRoute g k a × (module_along (version_of g m p) k a ≡ module_along g k a) × (module_along g k a < m)

-- Where a version keeps its cycles, the continuing steps of its composite modules are those that they have in the grammar. Alternatives have the same numbers in both, whatever cycles are kept
abbrev pub VersionStepLaw : Type 0
VersionStepLaw =
    (g : Grammar) (m p : ℕ) → IsVersion g m p → IsWellFormed g → IsLinear g →
    record {
      continues : KeepsCycles g m p → (k : ℕ) → IsComposite (version_of g m p) k → (s : Step) → Continues (version_of g m p) k s ↔ Continues g k s;
      alternative : (q : ℕ) → q < p → alternative_of (version_of g m p) q ≡ alternative_of g q;
    }

-- A module is on a cycle of a version exactly if it is on one of the grammar, and the steps of that cycle are by productions of the version. So the cycles of the grammar tell which modules get on one later
abbrev pub VersionCyclesLaw : Type 0
VersionCyclesLaw =
    (g : Grammar) (m p : ℕ) → IsVersion g m p → IsWellFormed g → IsLinear g → (k : ℕ) →
    record {
      on_cycle : IsOnCycle (version_of g m p) k ↔ (IsOnCycle g k × GoesOnWithin g p k);
      gets_on : GetsOnCycle g m p k ↔ (IsComposite (version_of g m p) k × (continuing g k ≢ None) × (GoesOnWithin g p k → ⊥));
    }

-- what is reached along open routes of a version is reached along them in the grammar, with the pairs that the productions of either induce
abbrev pub VersionReachLaw : Type 0
VersionReachLaw =
    (g : Grammar) (m p : ℕ) → IsVersion g m p → IsProper (version_of g m p) →
    (u w : View) → ExpandsComposites (version_of g m p) u → ShowAlike (version_of g m p) u w →
    (d e : Assignment) → IsInduced (version_of g m p) u d → IsInduced g w e →
    (a b : List Step) → IsOpenRoute (version_of g m p) u g.start a → IsOpenRoute (version_of g m p) u g.start b → Agree a b →
    (i o : ℕ) → i < inputs_of (version_of g m p) (module_along (version_of g m p) g.start a) → o < outputs_of (version_of g m p) (module_along (version_of g m p) g.start b) →
    Reaches (version_of g m p) d g.start a b i o ↔ Reaches g e g.start a b i o

-- a view that shows a version as a safe view of the grammar does is safe
abbrev pub VersionSafeLaw : Type 0
VersionSafeLaw =
    (g : Grammar) (m p : ℕ) → IsVersion g m p → IsWellFormed g → IsProper g → (u w : View) → ExpandsComposites g w → ShowAlike (version_of g m p) u w → IsSafe g w → IsSafe (version_of g m p) u

-- Two views show a version alike where they expand the same modules of it, and each other module of it has the same pairs by both, or no pairs of its own by either.
-- So a view that is written down is read for the version and for the grammar alike, if it expands none of the modules that are composite in the grammar alone
abbrev pub VersionViewLaw : Type 0
VersionViewLaw =
    (g : Grammar) (m p : ℕ) → IsVersion g m p → IsWellFormed g → (u w : View) →
    ((k : ℕ) → k < m → expands w k ≡ expands u k) →
    ((k : ℕ) → k < m → expands u k ≡ false →
    ((i o : ℕ) → i < inputs_of g k → o < outputs_of g k → shows w k i o ≡ shows u k i o) ⊎ (IsShownByDefault (version_of g m p) u k × IsShownByDefault g w k)) →
    ShowAlike (version_of g m p) u w

-- the same items of a run of a version are visible in the grammar, under views that show the version alike
abbrev pub VersionVisibleLaw : Type 0
VersionVisibleLaw =
    (g : Grammar) (m p : ℕ) → IsVersion g m p → (u w : View) → ShowAlike (version_of g m p) u w → (events : List Event) → IsRun (version_of g m p) g.start events → (t : Item) →
    IsVisible (version_of g m p) u g.start events t ↔ IsVisible g w g.start events t

-- Of two visible items of a run of a version, the second depends on the first in any finishing of the run by the version, under the one view, exactly if it does in any finishing of it by the grammar, under the other
abbrev pub VersionDependsLaw : Type 0
VersionDependsLaw =
    (g : Grammar) (m p : ℕ) → IsVersion g m p → IsWellFormed g → IsProper (version_of g m p) →
    (u w : View) → ExpandsComposites (version_of g m p) u → ShowAlike (version_of g m p) u w →
    (d e : Assignment) → IsInduced (version_of g m p) u d → IsInduced g w e → (events : List Event) → IsRun (version_of g m p) g.start events →
    (s t : Item) → IsIn s (items (version_of g m p) g.start events) → IsIn t (items (version_of g m p) g.start events) →
    IsVisible (version_of g m p) u g.start events s → IsVisible (version_of g m p) u g.start events t →
    (more later : List Event) → IsFinishing (version_of g m p) u g.start events more → IsFinishing g w g.start events later →
    Depends (version_of g m p) u (events ++ more) s t ↔ Depends g w (events ++ later) s t

-- a label of the version in the grammar: it is a label of the grammar, tells the same there, and is that of the same item in each run of the version
pub record IsLabelOfBoth (g : Grammar) (m p : ℕ) (l : Label) : Type 0 where
  pub label : IsLabel g l
  pub tells : (a : List Step) (q n : ℕ) → Tells (version_of g m p) l a q n ↔ Tells g l a q n
  pub has : (events : List Event) → IsRun (version_of g m p) g.start events → (t : Item) → HasLabel (version_of g m p) events t l ↔ HasLabel g events t l

-- so it is with each label of a version that keeps its cycles
abbrev pub VersionLabelLaw : Type 0
VersionLabelLaw =
    (g : Grammar) (m p : ℕ) → IsVersion g m p → IsWellFormed g → IsLinear g → KeepsCycles g m p → (l : Label) → IsLabel (version_of g m p) l → IsLabelOfBoth g m p l

-- The entries of a run of a version that keeps its cycles are those of the run in the grammar. So a label file stays as it is, but for the digest in its head
abbrev pub VersionEntriesLaw : Type 0
VersionEntriesLaw =
    (g : Grammar) (m p : ℕ) → IsVersion g m p → IsWellFormed g → IsLinear g → KeepsCycles g m p → (events : List Event) → IsRun (version_of g m p) g.start events →
    record {
      entries : entries_of (version_of g m p) events ≡ entries_of g events;
      file : (digest : List ℕ) → label_file (version_of g m p) digest events ≡ label_file g digest events;
    }

-- Two labels of a version that keeps its cycles have the same verdict in the version and in the grammar, under views that show the version alike and of which that of the grammar is safe
abbrev pub VersionVerdictLaw : Type 0
VersionVerdictLaw =
    (g : Grammar) (m p : ℕ) → IsVersion g m p → IsWellFormed g → IsLinear g → KeepsCycles g m p → IsProper (version_of g m p) → IsProper g →
    (u w : View) → ExpandsComposites (version_of g m p) u → ExpandsComposites g w → IsSafe g w → ShowAlike (version_of g m p) u w →
    (x y : Label) → IsLabel (version_of g m p) x → IsLabel (version_of g m p) y → (v : Verdict) → IsVerdict (version_of g m p) u x y v ↔ IsVerdict g w x y v
