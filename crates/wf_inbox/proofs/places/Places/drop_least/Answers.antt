use Rattle.std.proofs.Common.{◌∷◌, ℕ, IsPermutation, heap_items, map, length, subst, arith}
use Rattle.std.specs.Prelude.{◌≤◌}
use Rattle.std.specs.List.{AllByRecursion}
use Rattle.wf_inbox.specs.Places.{IsFirst}
use Rattle.wf_inbox.proofs.Least.{first_out, first_least, none_in, where_some}
use Rattle.wf_inbox.proofs.places.Places.drop_least.Goals as goal

pub returns-clause-taken : goal.returns-clause-taken
returns-clause-taken c =
    subst (λ v. (p : ℕ) → IsFirst v.places p → IsPermutation v.places (p ∷ map (λ r. r.0) (heap_items c.pop.new.self))) c.self.view_is
    (λ p first. first_out (λ r. r.0) p _ c.pop.result _ first (none_in c.pop.result c.self.inside.heap.data.len (length (heap_items c.self.inside.heap)) (let k = c.self.inside.heap.data.ok.0 in omega arith) c.pop.ensures.none) c.pop.ensures.top c.pop.ensures.permutation)

pub returns-clause-least : goal.returns-clause-least
returns-clause-least c =
    subst (λ v. (p : ℕ) → IsFirst v.places p → AllByRecursion (λ q. p ≤ q) (map (λ r. r.0) (heap_items c.pop.new.self))) c.self.view_is
    (λ p first. first_least (λ r. r.0) p _ c.pop.result _ first (none_in c.pop.result c.self.inside.heap.data.len (length (heap_items c.self.inside.heap)) (let k = c.self.inside.heap.data.ok.0 in omega arith) c.pop.ensures.none) c.pop.ensures.top (where_some c.pop.result _ _ c.pop.ensures.below_top c.self.invariant))
