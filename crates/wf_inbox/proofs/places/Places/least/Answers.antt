use Rattle.std.proofs.Common.{ℕ, ◌≤◌, heap_items, map, subst}
use Rattle.std.specs.List.{AllByRecursion}
use Rattle.wf_inbox.proofs.Least.{least_of}
use Rattle.wf_inbox.proofs.places.Places.least.Goals as goal

pub returns-clause-least : goal.returns-clause-least
returns-clause-least c = subst (λ v. AllByRecursion (λ q. c.in_ok-place.field-0.now.0 ≤ q) v.places) c.self.view_is (least_of (λ r. r.0) _ _ (c.in_ok-place.ensures.greatest c.self.invariant))
