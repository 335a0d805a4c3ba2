use Rattle.std.proofs.Common.{◌≡◌, ◌≢◌, ◌∙◌, None, sym, subst, inl, inr, arith}
use Rattle.label_model.specs.Continuing.{continuing}
use Rattle.wf_spec.specs.Held.{HeldGrammar}
use Rattle.wf_model.proofs.Taking.{not_some}
use Rattle.wf_translate.proofs.ChainEnds.{holds_some, next_told}
use Rattle.wf_translate.proofs.chain.next_loop.Goals as goal

pub returns-then-is_on_cycle : goal.returns-then-is_on_cycle
returns-then-is_on_cycle c =
    inr (inl (subst (λ (h : HeldGrammar). continuing h.core c.args.m.0 ≢ None) c.linear-g.ensures.grammar (holds_some (continuing c.linear-g.result.grammar.now.core c.args.m.0) (sym c.is_on_cycle.ensures ∙ c.if-is_on_cycle.true))))

pub returns : goal.returns
returns c =
    let off = subst (λ (h : HeldGrammar). continuing h.core c.args.m.0 ≡ None) c.linear-g.ensures.grammar (not_some (continuing c.linear-g.result.grammar.now.core c.args.m.0) (sym c.is_on_cycle.ensures ∙ c.if-is_on_cycle.false)) in
    next_told c.args.looped.now c.linear-g.ensures.good c.args.m.0 c.args.left c.loop_step.result c.loop_step.ensures off (omega arith)
