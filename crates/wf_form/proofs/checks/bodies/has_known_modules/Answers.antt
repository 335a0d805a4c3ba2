use Rattle.std.proofs.Common.{◌∙◌, rules, tests}
use Rattle.std.proofs.lemmas.Iterator.{YieldsList-from_slice}
use Rattle.std.proofs.lemmas.Iterator.Search.{all_from_yields_List}
use Rattle.wf_model.specs.declared.parts.PosPart.{PosPart}
use Rattle.wf_model.specs.Faults.{is_one_of}
use Rattle.wf_form.proofs.KnownModules.{known_tested}
use Rattle.wf_form.proofs.checks.bodies.has_known_modules.Goals as goal

pub returns-then-holds : goal.returns-then-holds
returns-then-holds c =
    all_from_yields_List (λ (q : PosPart). is_one_of c.args.names.now q.«module») _ _ c.all.result c.all.ensures.ran (YieldsList-from_slice c.items.result.now cc) (λ x b q k. search (rules, tests))
    ∙ known_tested c.args.names.now c.args.rule.now c.bytes.result.now c.items.result.now c.bytes.ensures c.items.ensures c.if-holds.ensures
