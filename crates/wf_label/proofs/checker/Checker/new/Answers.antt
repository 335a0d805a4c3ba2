use Rattle.std.proofs.Common.{false, arith}
use Rattle.std.proofs.lemmas.List.Elements.{All-replicate}
use Rattle.wf_label.specs.Checkpoints.{IsCheckpoint}
use Rattle.wf_label.proofs.Shared.{first_checkpoint}
use Rattle.wf_label.proofs.checker.Checker.new.Goals as goal

pub invariant_of-result : goal.invariant_of-result
invariant_of-result c =
    let g = c.args.g.grammar.now.core in (
      omega arith,
      All-replicate (IsCheckpoint g) 32 (record { front = 1; bits = 1; chained = false; at = c.start.result }) (first_checkpoint g c.start.result c.start.ensures.start c.start.ensures.formed.start),
    )
