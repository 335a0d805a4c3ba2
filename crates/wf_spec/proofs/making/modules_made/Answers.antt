use Rattle.std.proofs.Common.{◌↔◌, ◌∙◌, List, ℕ, map, flat_map, ap, sym, subst}
use Rattle.std.proofs.lemmas.List.{take_all}
use Rattle.wf_model.specs.Lists.{IsIn}
use Rattle.wf_model.specs.Grammar.{body_of}
use Rattle.wf_model.specs.Proper.{Makes}
use Rattle.wf_model.specs.declared.numbers.ProdNo.{ProdNo}
use Rattle.wf_spec.proofs.Heads.{headed_at, bodies_make}
use Rattle.wf_spec.proofs.making.modules_made.Goals as goal

pub production-requires : goal.production-requires
production-requires c = (headed_at c.args.g.now.core c.args.m.0 c.alternatives-p-items.result.now c.loop-p.p-index _ c.alternatives-p-items.ensures c.loop-p-test.true).0

pub returns : goal.returns
returns c = λ k.
    let ps = c.alternatives-p-items.result.now in
    let e = c.loop-p.invariant
    ∙ ap (λ (l : List ProdNo). flat_map (body_of c.args.g.now.core) (map (λ (p : ProdNo). p.0) l)) (take_all c.loop-p.p-index ps c.loop-p-test.false)
    ∙ ap (flat_map (body_of c.args.g.now.core)) c.alternatives-p-items.ensures in
    subst (λ (l : List ℕ). IsIn k l ↔ Makes c.args.g.now.core c.args.m.0 k) (sym e) (bodies_make c.args.g.now.core c.args.m.0 k)
