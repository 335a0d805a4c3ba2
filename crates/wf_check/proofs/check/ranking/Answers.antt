use Rattle.wf_check.proofs.Settled.{settled}
use Rattle.wf_check.proofs.check.ranking.Goals as goal

pub returns : goal.returns
returns c = settled c.args.g.now.core c.args.ranks.now c.in_ok-numbers.numbers.items c.in_ok-choices.choices.items c.of_tables.result c.requires.ranks c.requires.productive c.in_ok-numbers.ensures c.in_ok-choices.ensures.one_each c.in_ok-choices.ensures.choices c.of_tables.ensures.ranks c.of_tables.ensures.choices
