use Rattle.std.proofs.lemmas.Nat.{mod_below}
use Rattle.std.proofs.Common.{◌/◌, length}
use Rattle.wf_gen.proofs.Choices.{some_listed}
use Rattle.wf_gen.proofs.choice.alternative.Goals as goal

pub nonzero_rem-place : goal.nonzero_rem-place
nonzero_rem-place c = some_listed c.args.g.now.core c.args.m.0 c.alternatives-all.result.now c.alternatives-all.ensures c.requires.composite

pub bounds-all-place : goal.bounds-all-place
bounds-all-place c = mod_below (c.args.e / 4) (length c.alternatives-all.result.now) (some_listed c.args.g.now.core c.args.m.0 c.alternatives-all.result.now c.alternatives-all.ensures c.requires.composite)
