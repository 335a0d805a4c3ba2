use Rattle.label_file.proofs.NamedEntries.{got_key, got_one, got_none}
use Rattle.label_file.proofs.table.key_of.Goals as goal

pub returns-clause-some : goal.returns-clause-some
returns-clause-some c = got_key c.new.result c.args.number c.args.entries.now.keys c.new.ensures.number c.get.result c.get.ensures.key

pub returns-clause-one : goal.returns-clause-one
returns-clause-one c = got_one c.new.result c.args.number c.args.entries.now.keys c.new.ensures.number c.len-count.ensures.unique c.get.result c.get.ensures.key

pub returns-clause-none : goal.returns-clause-none
returns-clause-none c = got_none c.new.result c.args.number c.args.entries.now.keys c.new.ensures.number c.get.result c.get.ensures.key
