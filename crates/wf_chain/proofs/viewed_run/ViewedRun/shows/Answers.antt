use Rattle.wf_chain.specs.ViewedRuns.{grammar_in, view_in}
use Rattle.wf_chain.proofs.Viewed.{none_made, some_made, maker_there}
use Rattle.std.proofs.Common.{length}
use Rattle.wf_chain.proofs.viewed_run.ViewedRun.shows.Goals as goal

pub returns-in_default : goal.returns-in_default
returns-in_default c = none_made (grammar_in c.args.self.now) (view_in c.args.self.now) c.args.self.now.run c.args.item.now.maker c.in_default.is

pub opens-requires : goal.opens-requires
opens-requires c = maker_there (length c.args.self.now.run.instances) c.args.item.now.maker c.in-Some.k c.in-Some.is c.requires.within.maker

pub returns : goal.returns
returns c = some_made (grammar_in c.args.self.now) (view_in c.args.self.now) c.args.self.now.run c.args.item.now.maker c.in-Some.k c.in-Some.is c.opens.result c.opens.ensures
