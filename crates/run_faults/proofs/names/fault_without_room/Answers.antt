use Rattle.std.proofs.Common.{◌+◌, ◌<◌, length, arith}
use Rattle.run_faults.proofs.NewNames.{faulty_without_room, told_some}
use Rattle.run_faults.proofs.names.fault_without_room.Goals as goal

pub returns-clause-fault : goal.returns-clause-fault
returns-clause-fault g c = told_some _ _ c.fault_of_names.ensures

pub returns-clause-room : goal.returns-clause-room
returns-clause-room g c =
    let past : c.args.most < length c.args.taken.now + length c.args.names.now = omega arith in
    faulty_without_room c.args.most c.args.taken.now c.args.names.now _ c.fault_of_names.ensures past _
