use Rattle.label_file.specs.Keys.{held}
use Rattle.label_file.proofs.NamedEntries.{tells_held}
use Rattle.label_file.proofs.table.holds.Goals as goal

pub returns : goal.returns
returns c = tells_held (held c.args.bytes.now c.args.entries.now.keys) c.args.name.bytes.now c.is_some.result c.find.result c.is_some.ensures c.find.ensures.found c.find.ensures.none
