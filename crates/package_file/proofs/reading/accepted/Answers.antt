use Rattle.package_file.proofs.BadParts.{accept_said}
use Rattle.package_file.proofs.reading.accepted.Goals as goal

pub returns-in-Err : goal.returns-in-Err
returns-in-Err c = record {
  grammar = tt;
  proper = tt;
  refused = accept_said c.args.grammar c.in-Err.unaccepted.grammar c.in-Err.unaccepted.fault c.accept_fault.result c.requires c.in-Err.ensures.refused c.accept_fault.ensures.memory c.accept_fault.ensures.told;
}
