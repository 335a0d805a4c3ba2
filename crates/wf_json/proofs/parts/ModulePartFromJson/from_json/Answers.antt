use Rattle.std.specs.Prelude.{Some, None, codes}
use Rattle.serde_json.specs.View.{view}
use Rattle.wf_json.specs.Forms.{text_form, member_form}
use Rattle.wf_json.specs.SpecForm.{module_form}
use Rattle.wf_json.proofs.Told.{without_first, by_second, ends_in, module_of, module_by}
use Rattle.wf_json.proofs.parts.ModulePartFromJson.from_json.Goals as goal

pub returns-in_default : goal.returns-in_default
returns-in_default c =
    let d = view c.args.value.now in
    without_first (module_form d) (member_form (codes "name") text_form d) c.in_ok-name.field-0 (ends_in d) module_of (module_by d) c.in_ok-name.ensures c.in_default.is

pub returns-in_default-2 : goal.returns-in_default-2
returns-in_default-2 c =
    let d = view c.args.value.now in
    by_second (module_form d) (member_form (codes "name") text_form d) c.in_ok-name.field-0 (ends_in d) c.in_ok-ends.field-0 module_of c.in-Some.name None (module_by d) c.in_ok-name.ensures c.in-Some.is c.in_ok-ends.ensures c.in_default-2.is

pub returns : goal.returns
returns c =
    let d = view c.args.value.now in
    by_second (module_form d) (member_form (codes "name") text_form d) c.in_ok-name.field-0 (ends_in d) c.in_ok-ends.field-0 module_of c.in-Some.name (Some c.in-Some-2.ends) (module_by d) c.in_ok-name.ensures c.in-Some.is c.in_ok-ends.ensures c.in-Some-2.is
