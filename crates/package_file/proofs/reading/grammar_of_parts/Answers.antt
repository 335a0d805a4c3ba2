use Rattle.package_file.proofs.BadParts.{form_said}
use Rattle.package_file.proofs.reading.grammar_of_parts.Goals as goal

pub returns-in-Err : goal.returns-in-Err
returns-in-Err c = record {
  grammar = tt;
  formed = tt;
  refused = form_said c.args.parts c.in-Err.fault c.form_fault.result c.requires c.in-Err.ensures.refused c.form_fault.ensures.memory c.form_fault.ensures.told;
}
