use Rattle.package_file.proofs.SmallNumbers.{large_not_good, none_numbered, some_numbered}
use Rattle.package_file.proofs.entries.small_entries.Goals as goal

pub returns-in_default-clause-refused : goal.returns-in_default-clause-refused
returns-in_default-clause-refused c =
    large_not_good c.args.accepted.now.grammar.core c.grammar-formed.ensures.accepted.formed c.args.loops.now (none_numbered _ c.args.loops.now c.in_ok-entries.field-0 c.in_ok-entries.ensures c.in_default.is)

pub returns-clause-entries : goal.returns-clause-entries
returns-clause-entries c = some_numbered _ c.args.loops.now c.in_ok-entries.field-0 c.in-Some.entries c.in_ok-entries.ensures c.in-Some.is
