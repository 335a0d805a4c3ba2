use Rattle.std.proofs.Common.{◌++◌, map, sym, ap, ◌∙◌}
use Rattle.wf_model.specs.Lists.{numbers_from}
use Rattle.words_model.specs.Lifting.{port_name}
use Rattle.wf_lift.proofs.SetPairs.{numbers_more}
use Rattle.wf_lift.proofs.names.lifted_names.Goals as goal

pub loop-p-preserved : goal.loop-p-preserved
loop-p-preserved c =
    c.in_ok-add_names.ensures ∙ (ap (λ l. l ++ map (port_name c.args.letter c.loop-p.p) (numbers_from 0 c.args.states)) c.loop-p.invariant
    ∙ sym (numbers_more (λ p. map (port_name c.args.letter p) (numbers_from 0 c.args.states)) c.loop-p.p))
