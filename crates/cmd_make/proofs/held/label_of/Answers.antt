use Rattle.cmd_make.proofs.LabelsHeld.{is_told, bits_told}
use Rattle.cmd_make.proofs.held.label_of.Goals as goal

pub unreachable-requires : goal.unreachable-requires
unreachable-requires c = c.in-Err.ensures.malformed (is_told c.args.g.grammar.now.core c.requires.held.0 c.args.labels.now c.requires.held.1 c.args.i c.requires.in_range c.label.result.now c.label.ensures)

pub returns-clause-bits : goal.returns-clause-bits
returns-clause-bits c ls held = bits_told c.args.g.grammar.now.core ls c.args.labels.now held c.args.i c.requires.in_range c.label.result.now c.in-Ok.label c.label.ensures c.in-Ok.ensures.label
