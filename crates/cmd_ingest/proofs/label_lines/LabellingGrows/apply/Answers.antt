use Rattle.cmd_ingest.proofs.Labelling.{found_for, written_on}
use Rattle.cmd_ingest.proofs.label_lines.LabellingGrows.apply.Goals as goal

pub write-requires : goal.write-requires
write-requires c = record { found = found_for c.args.self.now.labeller c.args.event.now c.args.number c.node_of.result c.node_of.ensures c.requires }

pub returns-in-Ok-clause-text : goal.returns-in-Ok-clause-text
returns-in-Ok-clause-text c = λ events run.
    let e = c.in-Ok.ensures in
    written_on c.args.self.now.labeller c.write.new.self e.goes_on.grammar events c.args.event.now (e.taken events run) c.args.self.now.text.items c.write.new.into.items (e.entries events run)
