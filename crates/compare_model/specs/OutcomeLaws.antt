-- Laws of what the comparison of two views comes to.
use Rattle.std.specs.Prelude.{◌≡◌, ℕ, ◌<◌, ◌≤◌, ◌^◌, ◌⊎◌, List}
use Rattle.wf_model.specs.Lists.{IsIn}
use Rattle.wf_model.specs.Grammar.{Grammar, Assignment}
use Rattle.wf_model.specs.WellFormed.{IsWellFormed}
use Rattle.wf_model.specs.View.{View}
use Rattle.wf_model.specs.Safe.{IsFull}
use Rattle.wf_model.specs.Finishing.{ExpandsComposites}
use Rattle.wf_model.specs.declared.event.Event.{Event}
use Rattle.wf_model.specs.Run.{IsAccepted, seen_in}
use Rattle.compare_model.specs.declared.compared.Compared.{Compared}
use Rattle.compare_model.specs.Coarser.{IsCoarser, IsFirstExpandedAlone}
use Rattle.compare_model.specs.Comparison.{IsShownBy, IsCompared}
use Rattle.compare_model.specs.Laws.{AreCompared}

-- a view is coarser than another, or it expands some first module alone, and not both
abbrev pub CoarserLaw : Type 0
CoarserLaw =
    (g : Grammar) (c u : View) → IsWellFormed g → ExpandsComposites g c →
    record {
      either : IsCoarser c u ⊎ ((m : ℕ) × IsFirstExpandedAlone c u m);
      not_both : (m : ℕ) → IsFirstExpandedAlone c u m → IsCoarser c u → ⊥;
      one : (m k : ℕ) → IsFirstExpandedAlone c u m → IsFirstExpandedAlone c u k → m ≡ k;
    }

-- the run that shows a pair is accepted, and both views see its instance, which has the module
pub record IsSeenRun (g : Grammar) (c u : View) (m limit : ℕ) (instance : List ℕ) (events : List Event) : Type 0 where
  pub accepted : IsAccepted g limit events
  pub coarse : IsIn (record { name = instance; module_no = m }) (seen_in g c g.start events)
  pub fine : IsIn (record { name = instance; module_no = m }) (seen_in g u g.start events)

-- so it is where a run may have 65,536 instances or more
abbrev pub ShownLaw : Type 0
ShownLaw =
    (g : Grammar) (c u : View) → IsWellFormed g → IsCoarser c u → (m limit : ℕ) → 65536 ≤ limit → limit < 2 ^ 64 →
    (instance : List ℕ) (events : List Event) → IsShownBy g c m instance events → IsSeenRun g c u m limit instance events

-- each two views, of which one is coarser, have something to which their comparison comes
abbrev pub SomeOutcomeLaw : Type 0
SomeOutcomeLaw = (g : Grammar) (c u : View) (d : Assignment) → AreCompared g c u d → (v : Compared) × IsCompared g c d v

-- and nothing else, by whichever full assignment of the fine view
abbrev pub OneOutcomeLaw : Type 0
OneOutcomeLaw =
    (g : Grammar) (c u : View) (d e : Assignment) → AreCompared g c u d → IsFull g u e → (v w : Compared) → IsCompared g c d v → IsCompared g c e w → v ≡ w
