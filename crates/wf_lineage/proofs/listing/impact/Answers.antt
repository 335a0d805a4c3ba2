use Rattle.wf_lineage.proofs.listing.impact.Goals as goal

pub list-requires : goal.list-requires
list-requires g c = record { store = c.requires.store; of = c.requires.of; room = c.requires.room }

pub returns : goal.returns
returns g c = record {
  ok = c.list.ensures.ok;
  err = c.list.ensures.err;
  room = c.list.ensures.room;
  cost = c.list.ensures.cost;
  same = c.list.ensures.same;
  later = c.list.ensures.later;
  cause = c.list.ensures.cause;
}
