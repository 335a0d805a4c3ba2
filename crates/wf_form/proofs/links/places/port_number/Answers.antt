use Rattle.wf_spec.proofs.Finding.{not_found, found_there}
use Rattle.wf_form.proofs.links.places.port_number.Goals as goal

pub returns-in_default : goal.returns-in_default
returns-in_default c = not_found c.args.ports.now c.args.name.now c.port_place.result c.port_place.ensures c.in_default.is

pub returns : goal.returns
returns c = found_there c.args.ports.now c.args.name.now c.port_place.result c.in-Some.place c.port_place.ensures c.in-Some.is
