use Rattle.std.proofs.Common.{ap, sym, subst, ◌∙◌, true≢false, arith}
use Rattle.std.specs.Prelude.{is_some, option_map}
use Rattle.wf_model.specs.WellFormed.{IsWellFormed}
use Rattle.wf_run.specs.declared.node.NodeNo.{NodeNo}
use Rattle.wf_run.specs.Runs.{RunSeen, IsRunOf}
use Rattle.run_faults.specs.NewNames.{twice_fault}
use Rattle.wf_run.specs.Growing.{IsExpandFault}
use Rattle.wf_run.proofs.NamedInstances.{its_name, found_there}
use Rattle.wf_run.proofs.run.Run.expansion.Goals as goal

pub fault_of_expand-requires : goal.fault_of_expand-requires
fault_of_expand-requires c =
    let events = c.self.invariant.events in
    let run = subst (λ q. IsRunOf q events) c.self.view_is c.self.invariant.run in
    found_there c.args.self.now events run c.args.instance.now c.args.found (c.requires.found events run)

pub returns-in-Some-clause-refused : goal.returns-in-Some-clause-refused
returns-in-Some-clause-refused c events run = c.in-Some.ensures.fault c.args.instance.now (c.requires.found events run) events run

pub unreachable-requires : goal.unreachable-requires
unreachable-requires c = true≢false (sym c.in_default.ensures.there ∙ ap is_some c.in_default-found.is)

pub overflow_cast-result : goal.overflow_cast-result
overflow_cast-result c =
    let formed = subst (λ (q : RunSeen). IsWellFormed q.grammar.core) c.self.view_is c.start-formed.ensures.formed in
    omega (arith, c.in_default.ensures.fits.in_range, formed.few_productions)

pub returns-clause-left : goal.returns-clause-left
returns-clause-left c events run = c.in_default.ensures.left c.args.instance.now (c.requires.found events run) events run

pub returns-clause-opens : goal.returns-clause-opens
returns-clause-opens c =
    let r = c.args.self.now in
    let name = c.args.instance.now in
    let events = c.self.invariant.events in
    let run = subst (λ q. IsRunOf q events) c.self.view_is c.self.invariant.run in
    let place = c.requires.found events run in
    let its = its_name r events run name c.in-Some-found.k.0 (sym place ∙ ap (option_map (λ (n : NodeNo). n.0)) c.in-Some-found.is) in
    record {
      there = its.0;
      fits = c.in_default.ensures.fits;
      room = c.in_default.ensures.room;
      left = subst (λ n. IsExpandFault r n c.args.production c.args.names.now (twice_fault r.names c.args.names.now)) its.1 (c.in_default.ensures.left name place);
    }
