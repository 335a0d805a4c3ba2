-- Laws that follow from what addresses and pairs tell: what one expansion joins, every expansion joins at the same addresses.
use Rattle.std.specs.Prelude.{◌↔◌, ◌<◌, ℕ, IsTrue, List}
use Rattle.wf_model.specs.Grammar.{Grammar, Assignment, inputs_of, outputs_of}
use Rattle.wf_model.specs.WellFormed.{IsWellFormed}
use Rattle.wf_model.specs.View.{View, IsSeenModule}
use Rattle.wf_model.specs.declared.event.Event.{Event}
use Rattle.wf_model.specs.Run.{root_of}
use Rattle.wf_model.specs.Links.{input, output, links, Path}
use Rattle.wf_model.specs.Safe.{IsExpansion, IsInduced}
use Rattle.wf_model.specs.Reach.{Step, module_along, IsAlong}
use Rattle.wf_model.specs.Items.{Item, Depends}
use Rattle.wf_model.specs.Depends.{IsConsumedAt, IsProducedAt}

-- in an expansion a path leads from an input of an instance to an output of it exactly if the pair is assigned to its module
abbrev pub OwnPairsLaw : Type 0
OwnPairsLaw =
    (g : Grammar) (u : View) (d : Assignment) → IsWellFormed g → IsInduced g u d →
    (m : ℕ) → IsSeenModule g u m → (e : List Event) → IsExpansion g u m e → (a : List Step) (n : List ℕ) → IsAlong g u e (root_of e) a n →
    (i o : ℕ) → i < inputs_of g (module_along g m a) → o < outputs_of g (module_along g m a) →
    Path (links g u m e) (input n i) (output n o) ↔ IsTrue (d (module_along g m a) i o)

-- two items of a finished run depend on one another as two items at the same addresses do in any other
abbrev pub AlikeLaw : Type 0
AlikeLaw =
    (g : Grammar) (u : View) (d : Assignment) → IsWellFormed g → IsInduced g u d → (e f : List Event) → IsExpansion g u g.start e → IsExpansion g u g.start f →
    (a b : List Step) (i o : ℕ) (s t : Item) → IsConsumedAt g u g.start e s a i → IsProducedAt g u g.start e t b o →
    (x y : Item) → IsConsumedAt g u g.start f x a i → IsProducedAt g u g.start f y b o → Depends g u e s t ↔ Depends g u f x y
