use Rattle.std.proofs.Common.{◌≡◌, ◌<◌, ◌∙◌, ap, sym, subst, map, length}
use Rattle.wf_model.specs.declared.numbers.ProdNo.{ProdNo}
use Rattle.wf_spec.specs.Held.{HeldGrammar}
use Rattle.wf_spec.specs.Tables.{productions_of}
use Rattle.wf_spec.proofs.Tables.{listed}
use Rattle.wf_spec.proofs.grammar.Grammar.alternatives.Goals as goal

pub returns : goal.returns
returns c =
    subst (λ (g : HeldGrammar). map (λ (p : ProdNo). p.0) c.as_slice.result.now ≡ productions_of g.core c.args.m.0) c.self.view_is
    (ap (map (λ (p : ProdNo). p.0)) c.as_slice.ensures.value
    ∙ listed _ _ _ c.args.m.0 c.self.inside.by_head.items c.index.result.now c.self.invariant.0.by_head
    (subst (λ (g : HeldGrammar). c.args.m.0 < length g.core.modules) (sym c.self.view_is) c.requires)
    c.index.ensures)
