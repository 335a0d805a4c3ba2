-- What parts give, as it is made.
use Rattle.std.proofs.Common.{◌≡◌, List, map, ap, ◌∙◌}
use Rattle.wf_model.specs.declared.parts.DepsPart.{DepsPart}
use Rattle.wf_model.specs.declared.parts.PairPart.{PairPart}
use Rattle.wf_model.specs.Grammar.{Module, Given}
use Rattle.wf_spec.specs.Naming.{place_of, names_of, module_in}
use Rattle.wf_form.specs.Forming.{given_in}
use Rattle.wf_spec.specs.Pairs.{pair_in}

-- what a part gives, as it is made
pub made_given : (modules : List Module) (d : DepsPart) (given : Given) (m : Module) (pairs : List PairPart) → m ≡ module_in modules (place_of (names_of modules) d.module) → pairs ≡ d.pairs
    → given.module_no ≡ place_of (names_of modules) d.module → given.pairs ≡ map (pair_in m) pairs → given ≡ given_in modules d
made_given modules d given m pairs at same number are =
    ap (λ n. let r : Given = record { module_no = n; pairs = given.pairs } in r) number
    ∙ ap (λ ps. let r : Given = record { module_no = place_of (names_of modules) d.module; pairs = ps } in r)
    (are ∙ (ap (map (pair_in m)) same ∙ ap (λ (x : Module). map (pair_in x) d.pairs) at))
