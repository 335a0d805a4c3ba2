-- In a run an item depends on another, or not.
use Rattle.std.proofs.Common.{ℕ, List, Option, Some, None, inr}
use Rattle.wf_model.specs.Grammar.{Grammar}
use Rattle.wf_model.specs.View.{View}
use Rattle.wf_model.specs.declared.event.Event.{Event}
use Rattle.wf_model.specs.Links.{Port, links}
use Rattle.wf_model.specs.Items.{Item, PathBetween, Depends}
use Rattle.wf_model.proofs.Deciding.{Either, bytes_either}
use Rattle.wf_laws.proofs.PathTests.{path_either}

between_either : (g : Grammar) (u : View) (m : ℕ) (e : List Event) (x y : Option (Port (List ℕ))) → Either (PathBetween g u m e x y)
between_either g u m e None y = inr (λ h. h)
between_either g u m e (Some x) None = inr (λ h. h)
between_either g u m e (Some x) (Some y) = path_either bytes_either (links g u m e) x y

pub depends_either : (g : Grammar) (u : View) (e : List Event) (s t : Item) → Either (Depends g u e s t)
depends_either g u e s t = between_either g u g.start e s.consumed t.produced
