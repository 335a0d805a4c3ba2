use Rattle.wf_body.proofs.Listing.{list_more}
use Rattle.wf_body.proofs.leading.add_edge.Goals as goal

pub returns-clause-added : goal.returns-clause-added
returns-clause-added c = list_more c.args.lists.now.items c.args.at c.args.e c.index_mut-list.result.now c.push.new.self c.requires c.index_mut-list.ensures.value c.in_ok-push.ensures.items
