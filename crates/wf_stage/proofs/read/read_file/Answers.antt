use Rattle.std.proofs.Common.{refl, ap, Err}
use Rattle.wf_stage.proofs.read.read_file.Goals as goal

pub returns-in-Ok-clause-reads : goal.returns-in-Ok-clause-reads
returns-in-Ok-clause-reads g c = record {
  told = λ f told. let r = c.in-Ok.ensures.ok f told in record { short = r.2; whole = r.1; tells = r.0 };
  count = c.in-Ok.ensures.count;
  same = c.in-Ok.ensures.same;
  once = c.read_all.ensures.once;
}

pub returns-in-Err-Fault-clause-reads : goal.returns-in-Err-Fault-clause-reads
returns-in-Err-Fault-clause-reads g c =
    let is = ap Err c.in-Err-Fault.field-0-is in
    record {
      stops = λ f told. let r = c.in-Err-Fault.ensures.broken is f told in (refl, r.1, r.0);
      cause = c.in-Err-Fault.ensures.fault is;
      same = c.in-Err-Fault.ensures.same;
      once = c.read_all.ensures.once;
      later = c.in-Err-Fault.ensures.later;
    }
