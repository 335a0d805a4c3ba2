use Rattle.std.proofs.Common.{ap, sym, ◌∙◌}
use Rattle.std.proofs.lemmas.Result.{err_from_is_err_and}
use Rattle.wf_accept.specs.Accepted.{AcceptedValue}
use Rattle.wf_stage.proofs.Obeying.{obeys_passed, obeys_writing}
use Rattle.wf_inputs.specs.Inputs.{coarse_kind}
use Rattle.wf_inputs.proofs.Taking.{view_file_stops, view_file_goes, with_grammar}
use Rattle.cmd_share.specs.Told.{ComparesViews}
use Rattle.cmd_share.specs.Does.{ComparesWith}
use Rattle.cmd_share.proofs.compare.CompareWordsUnderView.obey_under.Goals as goal

pub returns-in_err-coarse-clause-obeys : goal.returns-in_err-coarse-clause-obeys
returns-in_err-coarse-clause-obeys g c =
    let u = c.args.v.now.view.core in
    obeys_passed _ _ _ _ _ _ c.from_residual.result c.in_err-coarse.field-0.0 (err_from_is_err_and c.from_residual.result c.from_residual.ensures.1)
    (with_grammar _ (λ f h. ComparesWith h.core u (f c.args.self.now.coarse.now)) _ _ _ _ _ _ _ (ap (λ (a : AcceptedValue). a.grammar) c.accepted.ensures.accepted)
    (view_file_stops c.accepted.result.now.grammar.core coarse_kind _ _ _ _ _ c.in_err-coarse.ensures.reads))

pub put_comparison-requires : goal.put_comparison-requires
put_comparison-requires g c = record { same = c.in_ok-coarse.ensures.accepted ∙ c.accepted.ensures.accepted }

pub returns-clause-obeys : goal.returns-clause-obeys
returns-clause-obeys g c =
    let u = c.args.v.now.view.core in
    let same = ap (λ (a : AcceptedValue). a.grammar) c.accepted.ensures.accepted in
    with_grammar _ (λ f h. ComparesWith h.core u (f c.args.self.now.coarse.now)) _ _ _ _ _ _ _ same
    (view_file_goes c.accepted.result.now.grammar.core coarse_kind _ _ _ _ _ _ _ _ c.in_ok-coarse.ensures.reads
    (with_grammar _ (λ f h. ComparesViews h.core u c.in_ok-coarse.coarse.view.core) _ _ _ _ _ _ _ (sym same) (obeys_writing _ _ _ _ _ _ c.put_comparison.ensures.writes)))
