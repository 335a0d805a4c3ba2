-- Names and their places among names.
use Rattle.wf_spec.proofs.Finding.{place_at, place_within, same_name}
use Rattle.std.proofs.Common.{◌≡◌, ◌↔◌, ℕ, ◌<◌, List, [], length, get_or, map, sym, subst}
use Rattle.wf_model.specs.Lists.{IsIn, AllDiffer}
use Rattle.wf_model.proofs.Lists.{in_map, in_map_from}
use Rattle.wf_spec.specs.Naming.{place_of}
use Rattle.wf_form.proofs.LinkEnds.{differ_before, differ_after}
use Rattle.wf_spec.proofs.Tables.{get_in}

-- names that are there differ exactly if their numbers do
pub numbers_differ : (names ns : List (List ℕ)) (ks : List ℕ) → ks ≡ map (place_of names) ns → ((n : List ℕ) → IsIn n ns → IsIn n names) → AllDiffer ks ↔ AllDiffer ns
numbers_differ names ns ks is known = (
  λ d. differ_before (place_of names) ns (subst AllDiffer is d),
  λ d. subst AllDiffer (sym is) (differ_after (place_of names) ns (λ a b i j e. same_name names a b (known a i) (known b j) e) d),
)

-- all names are there exactly if all their numbers are
pub numbers_all : (names ns : List (List ℕ)) (ks : List ℕ) → ks ≡ map (place_of names) ns → AllDiffer names → ((n : List ℕ) → IsIn n ns → IsIn n names)
    → ((k : ℕ) → k < length names → IsIn k ks) ↔ ((n : List ℕ) → IsIn n names → IsIn n ns)
numbers_all names ns ks is d known = (
  λ h n i.
      (let r = in_map_from (place_of names) (place_of names n) ns (subst (IsIn (place_of names n)) is (h (place_of names n) (place_within names n i))) in
      subst (λ m. IsIn m ns) (sym (same_name names n r.0 i (known r.0 r.1) r.2)) r.1),
  λ h k l.
      (let i = in_map (place_of names) (get_or names k []) ns (h (get_or names k []) (get_in k names [] l)) in
      subst (IsIn k) (sym is) (subst (λ j. IsIn j (map (place_of names) ns)) (place_at names k d l) i)),
)
