use Rattle.std.proofs.Common.{◌<◌, ◌∙◌, subst, arith, length}
use Rattle.wf_model.specs.declared.numbers.Side.{Side}
use Rattle.wf_flat.proofs.Named.{module_formed}
use Rattle.wf_chain.specs.HeldItems.{side_names, module_of}
use Rattle.wf_chain.specs.ViewedRuns.{ViewedRunValue, IsViewedRun, grammar_in}
use Rattle.wf_chain.proofs.UnopenedPairs.{full_joins}
use Rattle.wf_chain.proofs.viewed_run.ViewedRun.joins.Goals as goal

pub has_pair-requires-clause-column : goal.has_pair-requires-clause-column
has_pair-requires-clause-column c =
    let v = c.args.self.now in
    let kept = subst (λ (w : ViewedRunValue). IsViewedRun w c.self.inside.flags.items) c.self.view_is c.self.invariant in
    let out = c.args.output in
    let few = (module_formed (grammar_in v) v.run kept.run kept.safe.accepted.formed out.instance c.requires.output.port.there).few_outputs in
    let low = subst (λ (s : Side). out.port.0 < length (side_names s (module_of (grammar_in v) v.run out.instance))) c.requires.output.side c.requires.output.port.in_range in
    omega arith

pub returns : goal.returns
returns c =
    let v = c.args.self.now in
    let kept = subst (λ (w : ViewedRunValue). IsViewedRun w c.self.inside.flags.items) c.self.view_is c.self.invariant in
    c.has_pair.ensures ∙ full_joins v kept.run kept.safe c.args.input c.args.output c.requires.input c.requires.output c.requires.same
