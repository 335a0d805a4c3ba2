-- The worked reports, by computation.
use Rattle.std.proofs.Common.{refl}
use Rattle.report_model.specs.Examples.{ReportsAreWorked}

pub reports_are_worked : ReportsAreWorked
reports_are_worked = record {
  in_order = refl;
  exchanged = refl;
  repeated = refl;
  repeated_held = refl;
  shuffled = refl;
  none = refl;
  orphan = refl;
  two_orphans = refl;
  no_start = refl;
  wrong_head = refl;
  name_twice = refl;
  too_many = refl;
  conflict = refl;
  conflict_held = refl;
  conflict_start = refl;
  conflict_first = refl;
}
