use Rattle.package_laws.proofs.ConsultWritten
use Rattle.package_laws.proofs.law.consult_written_law.Goals as goal

pub returns : goal.returns
returns c = ConsultWritten.consult_written c.read_back_law.ensures c.consult_law.ensures
