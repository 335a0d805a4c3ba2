use Rattle.wf_spec.proofs.Finding.{is_found}
use Rattle.wf_view.proofs.assemble.rows.port_place.Goals as goal

pub unwrap-requires : goal.unwrap-requires
unwrap-requires c = is_found c.args.ports.now c.args.name.now c.place_among.result c.place_among.ensures c.requires
