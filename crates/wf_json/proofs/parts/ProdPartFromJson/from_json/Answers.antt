use Rattle.std.specs.Prelude.{Some, None}
use Rattle.serde_json.specs.View.{view}
use Rattle.wf_json.specs.SpecForm.{production_form}
use Rattle.wf_json.proofs.Told.{without_first, by_second, head_in, links_in, production_of, production_by}
use Rattle.wf_json.proofs.parts.ProdPartFromJson.from_json.Goals as goal

pub returns-in_default : goal.returns-in_default
returns-in_default c =
    let d = view c.args.value.now in
    without_first (production_form d) (head_in d) c.in_ok-front.field-0 (links_in d) production_of (production_by d) c.in_ok-front.ensures c.in_default.is

pub returns-in_default-2 : goal.returns-in_default-2
returns-in_default-2 c =
    let d = view c.args.value.now in
    by_second (production_form d) (head_in d) c.in_ok-front.field-0 (links_in d) c.in_ok-links.field-0 production_of c.in-Some.front None (production_by d) c.in_ok-front.ensures c.in-Some.is c.in_ok-links.ensures c.in_default-2.is

pub returns : goal.returns
returns c =
    let d = view c.args.value.now in
    by_second (production_form d) (head_in d) c.in_ok-front.field-0 (links_in d) c.in_ok-links.field-0 production_of c.in-Some.front (Some c.in-Some-2.links) (production_by d) c.in_ok-front.ensures c.in-Some.is c.in_ok-links.ensures c.in-Some-2.is
