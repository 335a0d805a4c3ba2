-- Pairs of parts, by numbers.
use Rattle.std.proofs.Common.{◌≡◌, ℕ, ◌<◌, List, length, get_or, sym, ap, ◌∙◌, subst}
use Rattle.std.proofs.lemmas.List.{length-map, get_or_default}
use Rattle.wf_model.specs.declared.parts.DepsPart.{DepsPart}
use Rattle.wf_model.specs.declared.parts.PairPart.{PairPart}
use Rattle.wf_model.specs.Lists.{IsIn}
use Rattle.wf_model.specs.Grammar.{Module}
use Rattle.wf_spec.specs.Naming.{place_of, names_of, module_in}
use Rattle.wf_spec.specs.Pairs.{HasKnownPairs}

-- the module of a name, as it is read
pub read_module : (modules : List Module) (names : List (List ℕ)) (name told : List ℕ) (k : ℕ) (m : Module) → names ≡ names_of modules → told ≡ name → k ≡ place_of names told → k < length names
    → m ≡ get_or modules k m → (m ≡ module_in modules (place_of (names_of modules) name)) × (k ≡ place_of (names_of modules) name) × (k < length modules)
read_module modules names name told k m names_are same place inside was = (was ∙ get_or_default modules k m _ below ∙ ap (module_in modules) at, at, below)
  where
    at : k ≡ place_of (names_of modules) name
    at = place ∙ ap (place_of names) same ∙ ap (λ ns. place_of ns name) names_are

    below : k < length modules
    below = subst (λ n. k < n) (ap length names_are ∙ length-map modules (λ (r : Module). r.name)) inside

-- the pairs of a part, as they are read
pub read_pairs : (modules : List Module) (d : DepsPart) (m : Module) (pairs : List PairPart) → m ≡ module_in modules (place_of (names_of modules) d.module) → pairs ≡ d.pairs → HasKnownPairs modules d
    → (e : PairPart) → IsIn e pairs → IsIn e.input m.inputs × IsIn e.output m.outputs
read_pairs modules d m pairs at same known e here =
    subst (λ (x : Module). IsIn e.input x.inputs × IsIn e.output x.outputs) (sym at) (known e (subst (IsIn e) same here))
