use Rattle.std.proofs.Common.{rules, tests}
use Rattle.std.proofs.lemmas.Iterator.{YieldsList-from_slice}
use Rattle.std.proofs.lemmas.Iterator.Search.{position_from_yields_List}
use Rattle.wf_model.specs.declared.parts.DepsPart.{DepsPart}
use Rattle.wf_model.specs.Faults.{is_one_of}
use Rattle.wf_form.proofs.Heads.{first_composite}
use Rattle.wf_form.proofs.links.atomic.first_on_composite.Goals as goal

pub returns : goal.returns
returns c =
    first_composite c.args.productions.now c.args.deps.now c.in_ok-heads.heads c.position.result c.in_ok-heads.ensures
    (position_from_yields_List (λ (d : DepsPart). is_one_of c.in_ok-heads.heads d.«module») _ _ c.position.result c.position.ensures.ran (YieldsList-from_slice c.args.deps.now cc) (λ x b q k. search (rules, tests)))
