-- Names of parts that are short, as tests.
use Rattle.std.proofs.Common.{◌≡◌, Bool, true, ◌&&◌}
use Rattle.std.specs.List.{list_all}
use Rattle.wf_model.specs.declared.parts.ModulePart.{ModulePart}
use Rattle.wf_model.specs.declared.parts.PosPart.{PosPart}
use Rattle.wf_model.specs.declared.parts.ProdPart.{ProdPart}
use Rattle.wf_model.specs.Faults.{is_short_name}
use Rattle.wf_form.specs.Rules.{HasShortNames, HasShortPositions}
use Rattle.wf_spec.proofs.Tests.{all_gives, all_from}
use Rattle.wf_form.proofs.Sides.{short_name, name_short}
use Rattle.std.proofs.lemmas.Bool.{and_from}
use Rattle.wf_model.proofs.Tests.{and_left, and_right}

-- the names of a module and of its ports are short, as a test
abbrev pub is_short_part : ModulePart → Bool
is_short_part m = is_short_name m.name && list_all is_short_name m.inputs && list_all is_short_name m.outputs

-- and so are the names of the positions of a body
abbrev pub has_short_body : ProdPart → Bool
has_short_body p = list_all (λ (q : PosPart). is_short_name q.name) p.body

pub short_part : (m : ModulePart) → is_short_part m ≡ true → HasShortNames m
short_part m e =
    let names = and_left (is_short_name m.name && list_all is_short_name m.inputs) (list_all is_short_name m.outputs) e in
    record {
      name = short_name m.name (and_left (is_short_name m.name) (list_all is_short_name m.inputs) names);
      inputs = λ n i. short_name n (all_gives is_short_name m.inputs (and_right (is_short_name m.name) (list_all is_short_name m.inputs) names) n i);
      outputs = λ n i. short_name n (all_gives is_short_name m.outputs (and_right (is_short_name m.name && list_all is_short_name m.inputs) (list_all is_short_name m.outputs) e) n i);
    }

pub part_short : (m : ModulePart) → HasShortNames m → is_short_part m ≡ true
part_short m h =
    and_from (is_short_name m.name && list_all is_short_name m.inputs) (list_all is_short_name m.outputs)
    (and_from (is_short_name m.name) (list_all is_short_name m.inputs) (name_short m.name h.name) (all_from is_short_name m.inputs (λ n i. name_short n (h.inputs n i))))
    (all_from is_short_name m.outputs (λ n i. name_short n (h.outputs n i)))

pub short_body : (p : ProdPart) → has_short_body p ≡ true → HasShortPositions p
short_body p e q i = short_name q.name (all_gives (λ (r : PosPart). is_short_name r.name) p.body e q i)

pub body_short : (p : ProdPart) → HasShortPositions p → has_short_body p ≡ true
body_short p h = all_from (λ (r : PosPart). is_short_name r.name) p.body (λ q i. name_short q.name (h q i))
