-- The form of a specification.
use Rattle.std.specs.Prelude.{ℕ, List, Option, option_map, option_and_then, codes}
use Rattle.std.specs.declared.result.Result.{Result}
use Rattle.std.specs.declared.result.Result.TheVariants.{Ok}
use Rattle.serde_json.specs.Data.{Data}
use Rattle.serde_json.specs.Find.{as_object}
use Rattle.wf_model.specs.declared.parts.Parts.{Parts}
use Rattle.wf_model.specs.declared.parts.ModulePart.{ModulePart}
use Rattle.wf_model.specs.declared.parts.ProdPart.{ProdPart}
use Rattle.wf_model.specs.declared.parts.PosPart.{PosPart}
use Rattle.wf_model.specs.declared.parts.EdgePart.{EdgePart}
use Rattle.wf_model.specs.declared.parts.EntryPart.{EntryPart}
use Rattle.wf_model.specs.declared.parts.ExitPart.{ExitPart}
use Rattle.wf_model.specs.declared.parts.DepsPart.{DepsPart}
use Rattle.wf_model.specs.declared.parts.PairPart.{PairPart}
use Rattle.wf_model.specs.declared.parts.VersionPart.{VersionPart}
use Rattle.wf_json.specs.declared.fault.JsonFault.{JsonFault}
use Rattle.wf_json.specs.declared.fault.Member.{Member}
use Rattle.wf_json.specs.declared.fault.Member.TheVariants.{Top, Start, Modules, Productions, DepsList, Versions}
use Rattle.wf_json.specs.Forms.{text_form, whole_form, list_form, pair_form, port_form, member_form, list_member}
use Rattle.wf_json.specs.Telling.{require, IsRefusalBy, IsSaidBy}

-- an object with `name`, `in` and `out`
abbrev pub module_form : Data → Option ModulePart
module_form d =
    option_and_then (λ n. option_and_then (λ i. option_map (λ o. record { name = n; inputs = i; outputs = o })
    (list_member (codes "out") text_form d))
    (list_member (codes "in") text_form d))
    (member_form (codes "name") text_form d)

-- `[position, module]`
abbrev pub position_form : Data → Option PosPart
position_form d = option_map (λ p. record { name = p.0; «module» = p.1 }) (pair_form text_form text_form d)

-- `[from, to]`
abbrev pub edge_form : Data → Option EdgePart
edge_form d = option_map (λ p. record { from = p.0; to = p.1 }) (pair_form port_form port_form d)

-- `[head input, to]`
abbrev pub entry_form : Data → Option EntryPart
entry_form d = option_map (λ p. record { port = p.0; to = p.1 }) (pair_form text_form port_form d)

-- `[from, head output]`
abbrev pub exit_form : Data → Option ExitPart
exit_form d = option_map (λ p. record { from = p.0; port = p.1 }) (pair_form port_form text_form d)

-- an object with `head`, `body`, `edges`, `in` and `out`
abbrev pub production_form : Data → Option ProdPart
production_form d =
    option_and_then (λ h. option_and_then (λ b. option_and_then (λ e. option_and_then (λ i. option_map (λ o. record { head = h; body = b; edges = e; entries = i; exits = o })
    (list_member (codes "out") exit_form d))
    (list_member (codes "in") entry_form d))
    (list_member (codes "edges") edge_form d))
    (member_form (codes "body") (list_form position_form) d))
    (member_form (codes "head") text_form d)

-- `[input, output]`
abbrev pub ports_form : Data → Option PairPart
ports_form d = option_map (λ p. record { input = p.0; output = p.1 }) (pair_form text_form text_form d)

-- an object with `module` and `pairs`
abbrev pub deps_form : Data → Option DepsPart
deps_form d =
    option_and_then (λ m. option_map (λ ps. record { «module» = m; pairs = ps })
    (member_form (codes "pairs") (list_form ports_form) d))
    (member_form (codes "module") text_form d)

-- `[modules, productions]`
abbrev pub version_form : Data → Option VersionPart
version_form d = option_map (λ p. record { modules = p.0; productions = p.1 }) (pair_form whole_form whole_form d)

-- the specification that a value is, or the first member that has not its form
abbrev pub spec_of : Data → Result Parts Member
spec_of d =
    require Top (as_object d) (λ _.
    require Start (member_form (codes "start") text_form d) (λ s.
    require Modules (member_form (codes "modules") (list_form module_form) d) (λ ms.
    require Productions (list_member (codes "productions") production_form d) (λ ps.
    require DepsList (list_member (codes "deps") deps_form d) (λ ds.
    require Versions (list_member (codes "versions") version_form d) (λ vs.
    Ok (record { start = s; modules = ms; productions = ps; deps = ds; versions = vs })))))))

-- what a refusal of a specification says of its bytes
abbrev pub IsRefusal : List ℕ → JsonFault → Type 0
IsRefusal bytes f = IsRefusalBy spec_of bytes f

-- a result says what specification the value is; want of memory says nothing
abbrev pub IsToldBy : Data → Result Parts JsonFault → Type 0
IsToldBy d r = IsSaidBy spec_of d r
