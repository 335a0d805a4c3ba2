use Rattle.label_file.proofs.NamedEntries.{put_new, put_taken}
use Rattle.label_file.proofs.table.put_key.Goals as goal

pub returns-clause-new : goal.returns-clause-new
returns-clause-new c = put_new c.args.key c.args.entries.now.keys c.insert.new.self.keys c.in_ok-is_new.is_new c.in_ok-is_new.ensures.added c.in_ok-is_new.ensures.keys

pub returns-clause-taken : goal.returns-clause-taken
returns-clause-taken c = put_taken c.args.key c.args.entries.now.keys c.insert.new.self.keys c.in_ok-is_new.is_new c.in_ok-is_new.ensures.added c.in_ok-is_new.ensures.keys
