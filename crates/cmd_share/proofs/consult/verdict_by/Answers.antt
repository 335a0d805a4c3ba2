use Rattle.std.proofs.Common.{subst}
use Rattle.std.proofs.lemmas.Result.{IfOk-weaker}
use Rattle.wf_loops.specs.Looped.{loop_in}
use Rattle.wf_translate.specs.Translated.{IsTranslatedAs}
use Rattle.cmd_share.proofs.ConsultedTexts.{label_bits_of, first_outside, second_outside, both_inside}
use Rattle.cmd_share.proofs.consult.verdict_by.Goals as goal

pub verdict_inside-requires-clause-first : goal.verdict_inside-requires-clause-first
verdict_inside-requires-clause-first c =
    let g = c.args.held.now.accepted.grammar.core in
    let loop = loop_in c.args.held.now.steps in
    label_bits_of g loop c.requires.first.0 _ (subst (IsTranslatedAs g loop c.requires.first.0) c.in-Inside-Inside.is-0 c.requires.first.1)

pub verdict_inside-requires-clause-second : goal.verdict_inside-requires-clause-second
verdict_inside-requires-clause-second c =
    let g = c.args.held.now.accepted.grammar.core in
    let loop = loop_in c.args.held.now.steps in
    label_bits_of g loop c.requires.second.0 _ (subst (IsTranslatedAs g loop c.requires.second.0) c.in-Inside-Inside.is-1 c.requires.second.1)

pub returns-in-Outside-default-clause-verdict : goal.returns-in-Outside-default-clause-verdict
returns-in-Outside-default-clause-verdict c x y h k =
    let g = c.args.held.now.accepted.grammar.core in
    let loop = loop_in c.args.held.now.steps in
    first_outside g loop x y c.args.second.now (subst (IsTranslatedAs g loop x) c.in-Outside-default.is-0 h) k

pub returns-in-Inside-Outside-clause-verdict : goal.returns-in-Inside-Outside-clause-verdict
returns-in-Inside-Outside-clause-verdict c x y h k =
    let g = c.args.held.now.accepted.grammar.core in
    let loop = loop_in c.args.held.now.steps in
    second_outside g loop x y _ (subst (IsTranslatedAs g loop x) c.in-Inside-Outside.is-0 h) (subst (IsTranslatedAs g loop y) c.in-Inside-Outside.is-1 k)

pub returns-in-Inside-Inside-clause-verdict : goal.returns-in-Inside-Inside-clause-verdict
returns-in-Inside-Inside-clause-verdict c =
    let g = c.args.held.now.accepted.grammar.core in
    let loop = loop_in c.args.held.now.steps in
    IfOk-weaker c.verdict_inside.result _ _
    (λ v told x y h k. both_inside g loop x y _ _ (subst (IsTranslatedAs g loop x) c.in-Inside-Inside.is-0 h) (subst (IsTranslatedAs g loop y) c.in-Inside-Inside.is-1 k) v told)
    c.verdict_inside.ensures.verdict
