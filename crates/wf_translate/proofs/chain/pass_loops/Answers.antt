use Rattle.std.proofs.Common.{◌≡◌, ◌≢◌, ◌<◌, ◌∙◌, None, length, sym, subst}
use Rattle.label_model.specs.Continuing.{continuing, after}
use Rattle.wf_spec.specs.Held.{HeldGrammar}
use Rattle.wf_translate.specs.Chains.{steps_seen}
use Rattle.wf_translate.proofs.Walking.{told_on}
use Rattle.wf_model.proofs.Taking.{not_some}
use Rattle.wf_translate.proofs.ChainEnds.{holds_some, end_told}
use Rattle.wf_translate.proofs.chain.pass_loops.Goals as goal

pub is_on_cycle-requires : goal.is_on_cycle-requires
is_on_cycle-requires c =
    record { in_range = subst (λ (h : HeldGrammar). c.in_ok-walked.walked.0.0 < length h.core.modules) (sym c.linear-g.ensures.grammar) c.in_ok-walked.ensures.walked.in_range }

pub passed-module-requires-clause-module_no : goal.passed-module-requires-clause-module_no
passed-module-requires-clause-module_no c = subst (λ (h : HeldGrammar). c.in_ok-walked.walked.0.0 < length h.core.modules) (sym c.linear-g.ensures.grammar) c.in_ok-walked.ensures.walked.in_range

pub passed-module-requires-clause-on_cycle : goal.passed-module-requires-clause-on_cycle
passed-module-requires-clause-on_cycle c = holds_some (continuing c.linear-g.result.grammar.now.core c.in_ok-walked.walked.0.0) (sym c.is_on_cycle.ensures ∙ c.if-is_on_cycle.true)

pub returns-then-is_on_cycle : goal.returns-then-is_on_cycle
returns-then-is_on_cycle c =
    let k = c.in_ok-walked.walked.0.0 in
    let left = c.in_ok-walked.walked.1 in
    let j = c.passed-module.result.0 in
    let same = c.linear-g.ensures.grammar in
    let on = subst (λ (h : HeldGrammar). continuing h.core k ≢ None) same (holds_some (continuing c.linear-g.result.grammar.now.core k) (sym c.is_on_cycle.ensures ∙ c.if-is_on_cycle.true)) in
    told_on c.args.looped.now c.linear-g.ensures.good c.args.m.0 c.args.count (steps_seen c.args.steps.now.items) (steps_seen c.walk.new.steps.items) k left j c.requires.loops c.requires.few c.in_ok-walked.ensures.walked on
    (subst (λ (h : HeldGrammar). j ≡ after h.core left k) same c.passed-module.ensures.to) (subst (λ (h : HeldGrammar). j < length h.core.modules) same c.passed-module.ensures.in_range)

pub end_at-requires : goal.end_at-requires
end_at-requires c = subst (λ (h : HeldGrammar). c.in_ok-walked.walked.0.0 < length h.core.modules) (sym c.linear-g.ensures.grammar) c.in_ok-walked.ensures.walked.in_range

pub returns : goal.returns
returns c =
    let k = c.in_ok-walked.walked.0 in
    let left = c.in_ok-walked.walked.1 in
    let same = c.linear-g.ensures.grammar in
    let off = subst (λ (h : HeldGrammar). continuing h.core k.0 ≡ None) same (not_some (continuing c.linear-g.result.grammar.now.core k.0) (sym c.is_on_cycle.ensures ∙ c.if-is_on_cycle.false)) in
    end_told c.args.looped.now c.linear-g.ensures.good c.linear-g.result.grammar.now same c.end_at.result k c.args.m.0 c.args.count (steps_seen c.args.steps.now.items) (steps_seen c.walk.new.steps.items) left c.end_at.ensures
    c.requires.loops c.requires.few c.in_ok-walked.ensures.walked c.in_ok-walked.ensures.end off
