use Rattle.std.proofs.Common.{ap, ◌∙◌}
use Rattle.wf_model.specs.Grammar.{Production}
use Rattle.wf_safe.proofs.FirstWitness.{first_witness}
use Rattle.wf_view.proofs.KnownViews.{held}
use Rattle.wf_safe.proofs.safety.telling.witness_of.Goals as goal

pub returns : goal.returns
returns c =
    first_witness c.args.v.grammar.now.core c.args.v.view.now c.args.proper.now c.args.found c.in_ok-choice.choice c.production.ensures.formed c.requires.ranking (held c.args.v.grammar.now.core c.args.v.view.now c.args.v.held) c.requires.found c.in_ok-choice.ensures.choice c.in_ok-choice.ensures.ranked
    c.head-module.result c.choice.result (c.head-module.ensures ∙ ap (λ (r : Production). r.head) c.production.ensures.core) c.choice.ensures
