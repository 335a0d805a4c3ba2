use Rattle.std.proofs.lemmas.Result.{err_from_is_err_and}
use Rattle.wf_stage.specs.Stages.{OfWhole}
use Rattle.wf_accept.specs.Accepted.{AcceptedValue}
use Rattle.wf_inputs.specs.Specification.{TellsGrammar, RefusesSpec}
use Rattle.wf_stage.proofs.Reading.{reads_on, reads_stop}
use Rattle.wf_inputs.proofs.specification.spec_stage.Goals as goal

pub returns-in_err-bytes : goal.returns-in_err-bytes
returns-in_err-bytes g c = record {
  reads =
      reads_stop g.H.Shelf.at_last TellsGrammar (λ (s : AcceptedValue). s.grammar) (OfWhole RefusesSpec) _ _ c.in_err-bytes.field-0.0 c.from_residual.result
      (err_from_is_err_and c.from_residual.result c.from_residual.ensures.1) c.in_err-bytes.ensures.reads;
}

pub returns : goal.returns
returns g c = record {
  reads =
      reads_on g.H.Shelf.at_last TellsGrammar (λ (s : AcceptedValue). s.grammar) (OfWhole RefusesSpec) _ _ _ c.deref.result.now c.in_ok-bytes.ensures.reads c.deref.ensures.value c.spec_of_bytes.result c.spec_of_bytes.ensures.ok c.spec_of_bytes.ensures.declines;
}
