-- Names that are looked up among those of modules.
use Rattle.std.proofs.Common.{◌≡◌, ℕ, ◌≤◌, Bool, true, false, List, length, Option, Some, None, bytes_eq, refl, sym, ap}
use Rattle.std.specs.Prelude.{position, option_map, is_some, IsSome}
use Rattle.wf_model.specs.declared.numbers.ModNo.{ModNo}
use Rattle.wf_model.specs.Faults.{is_one_of}
use Rattle.wf_model.specs.Lists.{IsIn}
use Rattle.wf_model.proofs.Lists.{among_gives, among_from}
use Rattle.wf_spec.specs.Naming.{place_of}
use Rattle.wf_spec.proofs.Finding.{absent, not_found, found_there}

module _ (names : List (List ℕ)) (name : List ℕ) (answer : Option ModNo) (is : option_map (λ (m : ModNo). m.0) answer ≡ position (bytes_eq name) names) where
  -- a name that is not found is not there
  pub none_there : answer ≡ None → IsIn name names → ⊥
  none_there none = not_found names name (option_map (λ (m : ModNo). m.0) answer) is (ap (option_map (λ (m : ModNo). m.0)) none)

  -- and its place is past the end
  pub none_place : answer ≡ None → length names ≤ place_of names name
  none_place none = absent names name (option_map (λ (m : ModNo). m.0) answer) is (ap (option_map (λ (m : ModNo). m.0)) none)

  -- a name that is found is there
  pub one_there : (m : ModNo) → answer ≡ Some m → (m.0 ≡ place_of names name) × IsIn name names
  one_there m some = found_there names name (option_map (λ (n : ModNo). n.0) answer) m.0 is (ap (option_map (λ (n : ModNo). n.0)) some)

  -- so what a search answers tells whether a name is there
  pub tells : is_some answer ≡ is_one_of names name
  tells = by answer refl (is_one_of names name) refl
    where
      by : (o : Option ModNo) → answer ≡ o → (b : Bool) → is_one_of names name ≡ b → is_some o ≡ is_one_of names name
      by None e true t = absurd (none_there e (among_gives name names t))
      by None e false t = sym t
      by (Some m) e b t = sym (among_from name names (one_there m e).1)

  -- a name that is there is found
  pub is_some_there : IsIn name names → IsSome answer
  is_some_there here = by answer refl
    where
      by : (o : Option ModNo) → answer ≡ o → IsSome o
      by None e = absurd (none_there e here)
      by (Some m) e = refl
