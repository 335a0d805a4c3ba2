use Rattle.wf_spec.specs.GivenRows.{table_of}
use Rattle.wf_spec.proofs.GivenRows.{part_added, part_inputs, part_outputs, part_module}
use Rattle.wf_spec.proofs.lists.rows.add_part.Goals as goal

pub bounds-table-module : goal.bounds-table-module
bounds-table-module c = part_module c.args.table.now c.args.part.now c.module.result.0 c.module.ensures c.requires

pub add_pairs-requires-clause-inputs : goal.add_pairs-requires-clause-inputs
add_pairs-requires-clause-inputs c =
    part_inputs c.args.table.now c.args.part.now c.module.result.0 c.index-table-module.result c.pairs.result.now c.deref_mut.result.now c.module.ensures c.requires
    (part_module c.args.table.now c.args.part.now c.module.result.0 c.module.ensures c.requires) c.deref_mut.ensures.value c.pairs.ensures

pub add_pairs-requires-clause-outputs : goal.add_pairs-requires-clause-outputs
add_pairs-requires-clause-outputs c = part_outputs (table_of c.args.table.now) c.args.part.now c.pairs.result.now c.requires c.pairs.ensures

pub returns : goal.returns
returns c =
    part_added c.args.table.now c.args.part.now c.module.result.0 c.index-table-module.result c.pairs.result.now c.deref_mut.result.now c.add_pairs.new.rows c.module.ensures
    (part_module c.args.table.now c.args.part.now c.module.result.0 c.module.ensures c.requires) c.deref_mut.ensures.value
    c.pairs.ensures c.add_pairs.ensures.added c.add_pairs.ensures.as_many
