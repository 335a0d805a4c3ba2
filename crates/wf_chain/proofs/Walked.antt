-- Ways inward, one behind the other.
use Rattle.wf_model.specs.declared.numbers.Side.{Side}
use Rattle.wf_model.specs.declared.numbers.Side.TheVariants.{Input, Output}
use Rattle.wf_model.specs.Lists.{here}
use Rattle.wf_model.proofs.Walks.{walk-append}
use Rattle.wf_flat.specs.declared.graph.Port.{Port as PortHeld}
use Rattle.wf_chain.specs.ViewedRuns.{ViewedRunValue}
use Rattle.wf_chain.specs.Steps.{LeadsInward}

pub inward_none : (v : ViewedRunValue) (s : Side) (p : PortHeld) → LeadsInward v s p p
inward_none v Input p = here
inward_none v Output p = here

pub inward_more : (v : ViewedRunValue) (s : Side) (p q r : PortHeld) → LeadsInward v s p q → LeadsInward v s q r → LeadsInward v s p r
inward_more v Input p q r a b = walk-append a b
inward_more v Output p q r a b = walk-append b a
