-- The sizes of a grammar, and all that makes it well-formed.
use Rattle.std.proofs.Common.{subst}
use Rattle.wf_model.specs.Lists.{IsIn}
use Rattle.wf_model.specs.Grammar.{Grammar, Production}
use Rattle.wf_model.specs.WellFormed.{IsWellFormed}
use Rattle.wf_form.specs.Bodies.{IsBody}
use Rattle.wf_form.proofs.Bodies.{body_gives}
use Rattle.wf_model.proofs.Composites.{production_no}

pub formed_bodies : (g : Grammar) → IsWellFormed g → (r : Production) → IsIn r g.productions → IsBody g.modules r
formed_bodies g w r i = let k = production_no g r i in subst (IsBody g.modules) k.2 (body_gives g k.0 (w.bodies k.0 k.1))
