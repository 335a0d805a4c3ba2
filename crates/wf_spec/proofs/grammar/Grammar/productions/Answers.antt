use Rattle.std.proofs.Common.{◌≡◌, ◌∙◌, subst, ap, map, length}
use Rattle.wf_model.specs.Grammar.{alternative_of}
use Rattle.wf_model.specs.Lists.{numbers_from}
use Rattle.wf_spec.specs.Held.{HeldGrammar, HeldProduction}
use Rattle.wf_spec.proofs.grammar.Grammar.productions.Goals as goal

pub returns-clause-alternatives : goal.returns-clause-alternatives
returns-clause-alternatives c =
    subst (λ (g : HeldGrammar). map (λ (p : HeldProduction). p.alternative) c.items.result.now ≡ map (alternative_of g.core) (numbers_from 0 (length g.core.productions))) c.self.view_is
    (ap (map (λ (p : HeldProduction). p.alternative)) c.items.ensures ∙ c.self.invariant.0.places)
