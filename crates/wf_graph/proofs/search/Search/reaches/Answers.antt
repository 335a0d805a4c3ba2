use Rattle.std.proofs.Common.{sym, subst}
use Rattle.wf_model.proofs.Tests.{marked_below}
use Rattle.wf_graph.specs.declared.search.Search.{Search}
use Rattle.wf_graph.specs.Search.{IsSearch, IsBegun}
use Rattle.wf_graph.proofs.Searching.{search_one}
use Rattle.wf_graph.proofs.search.Search.reaches.Goals.{then-not-is_from+in_ok-restart, else-not-is_from}
use Rattle.wf_graph.proofs.search.Search.reaches.Goals as goal

pub restart-requires-clause-below : goal.restart-requires-clause-below
restart-requires-clause-below g c = λ v i. marked_below c.args.self.now.marks.items v (c.requires.search.queued v i)

pub finds-requires-clause-search : goal.finds-requires-clause-search
finds-requires-clause-search g c =
    let row = g.G.Graph.leads c.args.graph.now in
    let n = g.G.Graph.size c.args.graph.now in
    elim c.if-not-is_from.branch [
      | then-not-is_from+in_ok-restart w ↦ subst (λ (s : Search). IsSearch row n s.marks.items s.queue.items s.done) (sym w.self-is)
          (search_one row n c.args.from _ _ _ (subst (λ k. IsBegun k c.args.from w.restart.new.self.marks.items w.restart.new.self.queue.items w.restart.new.self.done) c.requires.search.count w.in_ok-restart.ensures.begun))
      | else-not-is_from w ↦ subst (λ (s : Search). IsSearch row n s.marks.items s.queue.items s.done) (sym w.self-is) c.requires.search
    ]
