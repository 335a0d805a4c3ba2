use Rattle.std.proofs.Common.{arith}
use Rattle.wf_version.proofs.FirstProductions.{first_by_held, none_by_held}
use Rattle.wf_version.proofs.change.is_composite.Goals as goal

pub returns-in-empty : goal.returns-in-empty
returns-in-empty c =
    none_by_held c.args.g.now.core c.args.version.modules c.args.version.productions c.requires.version c.args.m.0 c.alternatives.result.now (omega arith) c.alternatives.ensures

pub returns-in-len1-up : goal.returns-in-len1-up
returns-in-len1-up c =
    first_by_held c.args.g.now.core c.args.version.modules c.args.version.productions c.requires.version c.args.m.0 c.alternatives.result.now _ (omega arith) c.alternatives.ensures
