use Rattle.std.proofs.Common.{◌∷◌, subst, IsPermutation, heap_items, map}
use Rattle.std.proofs.lemmas.List.Sorted.{IsPermutation-map}
use Rattle.wf_inbox.proofs.places.Places.push.Goals as goal

pub returns-clause-added : goal.returns-clause-added
returns-clause-added c = subst (λ v. IsPermutation (c.args.place ∷ v.places) (map (λ r. r.0) (heap_items c.push.new.self))) c.self.view_is (IsPermutation-map (λ r. r.0) _ _ c.in-Ok.ensures.permutation)
