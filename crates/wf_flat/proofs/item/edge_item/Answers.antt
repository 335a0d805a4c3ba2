use Rattle.std.proofs.Common.{◌-◌, ◌<◌, ◌∙◌, refl, ap, subst, arith, length}
use Rattle.wf_model.specs.Lists.{IsIn}
use Rattle.wf_model.specs.Grammar.{Production, production_at, body_of}
use Rattle.wf_model.specs.Meaning.{edge_of, inner_of}
use Rattle.wf_model.proofs.Lists.{in_map, at_below}
use Rattle.wf_flat.proofs.Leaving.{none_leaves}
use Rattle.wf_flat.proofs.item.edge_item.Goals as goal

pub overflow_cast-from : goal.overflow_cast-from
overflow_cast-from c =
    let few = c.production-rule.ensures.formed.few_positions c.args.production.0 c.requires.in_range in
    let a = c.requires.first in
    let b = c.requires.last in
    omega arith

pub returns-in_default-clause-none : goal.returns-in_default-clause-none
returns-in_default-clause-none c =
    let g = c.args.g.now.core in
    let p = c.args.production.0 in
    let rule = c.production-rule.ensures.core in
    λ z e h s. none_leaves c.edges.result.now (production_at g p).edges _ (record { position = c.args.k - c.args.first; port = c.args.o }) (c.edges.ensures ∙ ap (λ (r : Production). r.edges) rule) refl (c.in_default.ensures.none refl) e h s

pub overflow_add-result : goal.overflow_add-result
overflow_add-result c =
    let g = c.args.g.now.core in
    let p = c.args.production.0 in
    let rule = c.production-rule.ensures.core in
    let e = c.in-Some.e in
    let inside : IsIn (edge_of e) (production_at g p).edges = subst (IsIn (edge_of e)) (c.edges.ensures ∙ ap (λ (r : Production). r.edges) rule) (in_map edge_of e c.edges.result.now c.in-Some.ensures.found.0) in
    let to = (c.production-rule.ensures.formed.bodies p c.requires.in_range).edges_to (edge_of e) inside in
    let low : e.to.pos.0 < length (body_of g p) = at_below to.0 e.to.pos.0 (body_of g p) to.1 in
    let room = c.requires.room in
    omega arith

pub returns-clause-found : goal.returns-clause-found
returns-clause-found c =
    let g = c.args.g.now.core in
    let p = c.args.production.0 in
    let rule = c.production-rule.ensures.core in
    let e = c.in-Some.e in (
      edge_of e,
      subst (IsIn (edge_of e)) (c.edges.ensures ∙ ap (λ (r : Production). r.edges) rule) (in_map edge_of e c.edges.result.now c.in-Some.ensures.found.0),
      record { leaves = ap inner_of c.in-Some.ensures.found.1; maker = refl; from = refl; to = refl },
    )
