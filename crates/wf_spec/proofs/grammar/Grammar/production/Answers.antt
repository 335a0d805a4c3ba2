use Rattle.std.proofs.Common.{◌≡◌, ◌<◌, sym, subst, refl, length, List, get_or}
use Rattle.wf_model.specs.Grammar.{alternative_of}
use Rattle.wf_spec.specs.Held.{HeldGrammar, HeldProduction}
use Rattle.wf_spec.specs.contracts.grammar.Grammar.{the_view}
use Rattle.wf_spec.proofs.Tables.{alternative_is}
use Rattle.wf_spec.proofs.grammar.Grammar.production.Goals as goal

pub returns-clause-alternative : goal.returns-clause-alternative
returns-clause-alternative c =
    let g = the_view c.self.inside in
    subst (λ (h : HeldGrammar). c.index-items-p.result.alternative ≡ alternative_of h.core c.args.p.0) c.self.view_is
    (alternative_is g.core c.args.p.0 c.self.inside.productions c.index-items-p.result c.self.invariant.0.places refl
    (subst (λ (h : HeldGrammar). c.args.p.0 < length h.core.productions) (sym c.self.view_is) c.requires)
    (subst (λ (ps : List HeldProduction). c.index-items-p.result ≡ get_or ps c.args.p.0 c.index-items-p.result) c.items.ensures c.index-items-p.is))
