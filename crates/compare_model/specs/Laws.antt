-- Laws of the comparison of two views: what a coarse view keeps of what a fine one tells, and what a denied pair means.
use Rattle.std.specs.Prelude.{◌↔◌, ◌≡◌, ◌<◌, ℕ, List, ◌++◌}
use Rattle.wf_model.specs.Lists.{IsIn}
use Rattle.wf_model.specs.Grammar.{Grammar, Assignment, inputs_of, outputs_of}
use Rattle.wf_model.specs.WellFormed.{IsWellFormed}
use Rattle.wf_model.specs.Proper.{IsProper}
use Rattle.wf_model.specs.View.{View, IsSeenModule}
use Rattle.wf_model.specs.Safe.{IsSafe, IsFull}
use Rattle.wf_model.specs.declared.event.Event.{Event}
use Rattle.wf_model.specs.Run.{Instance, IsRun, seen_in}
use Rattle.wf_model.specs.Links.{input, output, links, Path}
use Rattle.wf_model.specs.Finishing.{ExpandsComposites, IsFinishing}
use Rattle.wf_model.specs.Items.{Item, items, IsVisible, Depends}
use Rattle.wf_model.specs.Reach.{Step, module_along, Reaches}
use Rattle.wf_model.specs.Routes.{Agree}
use Rattle.wf_model.specs.OpenRoutes.{IsOpenRoute}
use Rattle.label_model.specs.Labels.{Label, IsLabel}
use Rattle.verdict_model.specs.declared.verdict.Verdict.{Verdict}
use Rattle.verdict_model.specs.declared.verdict.Verdict.TheVariants.{Yes}
use Rattle.verdict_model.specs.Verdicts.{IsHidden, AreShown, AreClashing, IsVerdict}
use Rattle.compare_model.specs.Coarser.{IsCoarser}
use Rattle.compare_model.specs.Pairs.{ModulePair, IsDenied, IsAdded, DeniesNone, AddsNone}

-- two views of one grammar, both safe, of which c is coarser, and d is the full assignment of the other
pub record AreCompared (g : Grammar) (c u : View) (d : Assignment) : Type 0 where
  pub formed : IsWellFormed g
  pub proper : IsProper g
  pub coarse_composites : ExpandsComposites g c
  pub fine_composites : ExpandsComposites g u
  pub coarser : IsCoarser c u
  pub safe : IsSafe g c
  pub full : IsFull g u d

-- What the coarse view sees, the fine view sees too: modules, instances of runs, items, and labels
pub record SeesNoMore (g : Grammar) (c u : View) : Type 0 where
  pub modules : (m : ℕ) → IsSeenModule g c m → IsSeenModule g u m
  pub instances : (m : ℕ) (events : List Event) (n : Instance) → IsIn n (seen_in g c m events) → IsIn n (seen_in g u m events)
  pub visible : (m : ℕ) (events : List Event) (t : Item) → IsVisible g c m events t → IsVisible g u m events t
  pub labels : (l : Label) → IsHidden g u l → IsHidden g c l

abbrev pub SeesNoMoreLaw : Type 0
SeesNoMoreLaw = (g : Grammar) (c u : View) → IsCoarser c u → SeesNoMore g c u

-- Between addresses that the coarse view does not hide: if it denies no pair, it reaches whatever the fine view reaches; if it adds none, it reaches no more
abbrev pub ReachAgreementLaw : Type 0
ReachAgreementLaw =
    (g : Grammar) (c u : View) (d e : Assignment) → AreCompared g c u d → IsFull g c e →
    (a b : List Step) → IsOpenRoute g c g.start a → IsOpenRoute g c g.start b → Agree a b →
    (i o : ℕ) → i < inputs_of g (module_along g g.start a) → o < outputs_of g (module_along g g.start b) →
    record {
      kept : DeniesNone g c d → Reaches g d g.start a b i o → Reaches g e g.start a b i o;
      no_more : AddsNone g c d → Reaches g e g.start a b i o → Reaches g d g.start a b i o;
    }

-- so it is with the items of runs: for two that are visible under the coarse view, whichever way the run is finished under either view
abbrev pub RunAgreementLaw : Type 0
RunAgreementLaw =
    (g : Grammar) (c u : View) (d : Assignment) → AreCompared g c u d →
    (events : List Event) → IsRun g g.start events → (x y : Item) → IsIn x (items g g.start events) → IsIn y (items g g.start events) →
    IsVisible g c g.start events x → IsVisible g c g.start events y →
    (fine_more coarse_more : List Event) → IsFinishing g u g.start events fine_more → IsFinishing g c g.start events coarse_more →
    record {
      kept : DeniesNone g c d → Depends g u (events ++ fine_more) x y → Depends g c (events ++ coarse_more) x y;
      no_more : AddsNone g c d → Depends g c (events ++ coarse_more) x y → Depends g u (events ++ fine_more) x y;
    }

-- and with labels of the grammar that the coarse view does not hide and that do not clash: if it denies no pair, a yes of the fine view is a yes of the coarse one; if it adds none either, the verdicts are equal
abbrev pub VerdictAgreementLaw : Type 0
VerdictAgreementLaw =
    (g : Grammar) (c u : View) (d : Assignment) → AreCompared g c u d →
    (x y : Label) → IsLabel g x → IsLabel g y → AreShown g c x y → (AreClashing g x y → ⊥) →
    record {
      kept : DeniesNone g c d → IsVerdict g u x y Yes → IsVerdict g c x y Yes;
      equal : DeniesNone g c d → AddsNone g c d → (v : Verdict) → IsVerdict g u x y v ↔ IsVerdict g c x y v;
    }

-- a path joins the two ports of an instance in each finishing of the run under the view
abbrev pub AlwaysJoins : Grammar → View → List Event → List ℕ → ModulePair → Type 0
AlwaysJoins g u events n x = (more : List Event) → IsFinishing g u g.start events more → Path (links g u g.start (events ++ more)) (input n x.input) (output n x.output)

-- it does in none
abbrev pub NeverJoins : Grammar → View → List Event → List ℕ → ModulePair → Type 0
NeverJoins g u events n x = (more : List Event) → IsFinishing g u g.start events more → Path (links g u g.start (events ++ more)) (input n x.input) (output n x.output) → ⊥

-- In each run with an instance that the coarse view sees, of the module of a pair: a denied pair is always joined under the fine view and never under the coarse one, and an added pair the other way round
abbrev pub PairLaw : Type 0
PairLaw =
    (g : Grammar) (c u : View) (d : Assignment) → AreCompared g c u d → (x : ModulePair) →
    (events : List Event) → IsRun g g.start events → (n : Instance) → IsIn n (seen_in g c g.start events) → n.module_no ≡ x.module_no →
    record {
      denied : IsDenied g c d x → AlwaysJoins g u events n.name x × NeverJoins g c events n.name x;
      added : IsAdded g c d x → NeverJoins g u events n.name x × AlwaysJoins g c events n.name x;
    }
