use Rattle.std.proofs.Common.{[], get_or}
use Rattle.wf_flat.proofs.RootItems.{of_input, of_output, of_neither}
use Rattle.wf_flat.proofs.item.root_item.Goals as goal

pub returns-in-Some-clause-found : goal.returns-in-Some-clause-found
returns-in-Some-clause-found c =
    λ names. of_input (get_or names c.args.k []) c.args.port.now c.in-Some.i c.args.rule.now.inputs c.args.rule.now.outputs c.inputs.result.now c.inputs.ensures c.in-Some.ensures.place

pub returns-in_default-port_of-clause-none : goal.returns-in_default-port_of-clause-none
returns-in_default-port_of-clause-none c =
    λ z h. of_neither c.args.port.now c.args.rule.now.inputs c.args.rule.now.outputs c.inputs.result.now c.outputs.result.now c.inputs.ensures c.outputs.ensures c.in_default.ensures.place c.in_default-port_of.ensures.place h

pub returns-clause-found : goal.returns-clause-found
returns-clause-found c =
    λ names. of_output (get_or names c.args.k []) c.args.port.now c.in-Some-port_of.o c.args.rule.now.inputs c.args.rule.now.outputs c.outputs.result.now c.outputs.ensures c.in-Some-port_of.ensures.place
