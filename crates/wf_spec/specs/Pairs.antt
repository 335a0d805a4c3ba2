-- Pairs of ports that are given by name.
use Rattle.std.specs.Prelude.{ℕ, List}
use Rattle.wf_model.specs.declared.parts.DepsPart.{DepsPart}
use Rattle.wf_model.specs.declared.parts.PairPart.{PairPart}
use Rattle.wf_model.specs.Lists.{IsIn}
use Rattle.wf_model.specs.Grammar.{Module}
use Rattle.wf_spec.specs.Naming.{place_of, names_of, module_in}

-- what the pairs of a part name is there: inputs and outputs of its module
abbrev pub HasKnownPairs : List Module → DepsPart → Type 0
HasKnownPairs modules d =
    let m = module_in modules (place_of (names_of modules) d.module) in
    (e : PairPart) → IsIn e d.pairs → IsIn e.input m.inputs × IsIn e.output m.outputs

-- a pair of names, by numbers
abbrev pub pair_in : Module → PairPart → ℕ × ℕ
pair_in m e = (place_of m.inputs e.input, place_of m.outputs e.output)
