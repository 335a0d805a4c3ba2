use Rattle.std.proofs.Common.{◌∙◌}
use Rattle.wf_form.proofs.Placing.{few_there}
use Rattle.wf_spec.proofs.PairsOf.{read_module, read_pairs}
use Rattle.wf_form.proofs.PairsOf.{made_given}
use Rattle.wf_form.proofs.assemble.pairs.part_from.Goals as goal

pub pairs_from-requires-clause-few_ports : goal.pairs_from-requires-clause-few_ports
pairs_from-requires-clause-few_ports c =
    let at = read_module c.args.modules.now c.args.names.now c.args.part.now.module c.bytes.result.now c.module_number-number.result.0 c.index-modules-number.result c.requires.names c.bytes.ensures
    c.module_number-number.ensures.place c.module_number-number.ensures.within c.index-modules-number.is in
    few_there c.args.modules.now c.module_number-number.result.0 c.index-modules-number.result c.requires.few_ports at.2 c.index-modules-number.is

pub pairs_from-requires-clause-known : goal.pairs_from-requires-clause-known
pairs_from-requires-clause-known c =
    let at = read_module c.args.modules.now c.args.names.now c.args.part.now.module c.bytes.result.now c.module_number-number.result.0 c.index-modules-number.result c.requires.names c.bytes.ensures
    c.module_number-number.ensures.place c.module_number-number.ensures.within c.index-modules-number.is in
    read_pairs c.args.modules.now c.args.part.now c.index-modules-number.result c.items.result.now at.0 c.items.ensures c.requires.pairs

pub returns : goal.returns
returns c =
    let at = read_module c.args.modules.now c.args.names.now c.args.part.now.module c.bytes.result.now c.module_number-number.result.0 c.index-modules-number.result c.requires.names c.bytes.ensures
    c.module_number-number.ensures.place c.module_number-number.ensures.within c.index-modules-number.is in
    made_given c.args.modules.now c.args.part.now c.new.result c.index-modules-number.result c.items.result.now at.0 c.items.ensures (c.new.ensures.module_no ∙ at.1)
    (c.new.ensures.pairs ∙ c.in_ok-pairs.ensures)
