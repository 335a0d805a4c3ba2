use Rattle.std.proofs.Common.{◌<◌, ◌∙◌, ap, map, get_or, subst, sym}
use Rattle.wf_model.specs.Grammar.{Position, Production}
use Rattle.wf_model.specs.Lists.{IsIn}
use Rattle.wf_model.proofs.Lists.{in_map}
use Rattle.wf_model.specs.Meaning.{position_of, inner_of, edge_of}
use Rattle.package_model.specs.Packages.{package_positions}
use Rattle.wf_package.proofs.PlacedBodies.{places_held, production_is}
use Rattle.wf_package.proofs.productions.placed_production.Goals as goal

pub placed_positions-requires-clause-in_range : goal.placed_positions-requires-clause-in_range
placed_positions-requires-clause-in_range c = λ q h.
    let there = subst (IsIn (position_of q)) (c.positions.ensures ∙ ap (λ (r : Production). r.positions) c.production-production.ensures.core) (in_map position_of q c.positions.result.now h) in
    subst (λ n. q.module.0 < n) (sym c.requires.one_each)
    ((c.production-production.ensures.formed.bodies c.args.p.0 c.requires.in_range).modules q.module.0 (in_map (λ (z : Position). z.module_no) (position_of q) _ there))

pub returns : goal.returns
returns c =
    let core = c.production-production.ensures.core in
    production_is c.args.g.now.core (λ m. get_or c.args.places.now m 0) c.args.p.0 c.new.result
    (c.new.ensures.head ∙ ap (λ n. get_or c.args.places.now n 0) (c.head.ensures ∙ ap (λ (r : Production). r.head) core))
    (c.new.ensures.positions ∙ ap (map position_of) c.from_vec.ensures ∙ c.in_ok-positions.ensures ∙ ap (package_positions 0) (places_held (λ m. get_or c.args.places.now m 0) _ _ (c.positions.ensures ∙ ap (λ (r : Production). r.positions) core)))
    (c.new.ensures.edges ∙ ap (map edge_of) (c.from_vec-2.ensures ∙ c.in_ok-edges.ensures.items) ∙ c.edges.ensures ∙ ap (λ (r : Production). r.edges) core)
    (c.new.ensures.entries ∙ ap (map inner_of) (c.from_vec-3.ensures ∙ c.in_ok-entries.ensures.items) ∙ c.entries.ensures ∙ ap (λ (r : Production). r.entries) core)
    (c.new.ensures.exits ∙ ap (map inner_of) (c.from_vec-4.ensures ∙ c.in_ok-exits.ensures.items) ∙ c.exits.ensures ∙ ap (λ (r : Production). r.exits) core)
