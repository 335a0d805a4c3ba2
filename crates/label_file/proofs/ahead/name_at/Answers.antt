use Rattle.std.proofs.Common.{arith}
use Rattle.label_file.proofs.NamesAhead.{next_ahead}
use Rattle.label_file.proofs.ahead.name_at.Goals as goal

pub returns : goal.returns
returns c =
    let size = c.told-names in
    let low = c.requires.at in
    next_ahead c.args.keyed.now c.args.rest.now c.args.names.now c.args.at _ (omega arith) c.requires.ahead
