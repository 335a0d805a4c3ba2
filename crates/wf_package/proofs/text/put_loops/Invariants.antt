use Rattle.std.proofs.Common.{codes, get_or, map}
use Rattle.std.specs.List.{join_by}
use Rattle.wf_model.specs.Lists.{numbers_from}
use Rattle.wf_json.specs.Writing.{Takes}
use Rattle.wf_package.specs.PackageText.{loop_text}
use Rattle.wf_package.specs.Parts.{loop_entry_of, no_loop_entry}
use Rattle.wf_package.proofs.text.put_loops.Given as goal

-- the items so far
abbrev pub invariant-loop-k : goal.invariant-loop-k
invariant-loop-k g l = Takes g.S.TextSink.holds l.initial.out l.out (join_by (λ k. loop_text (get_or (map loop_entry_of l.loops) k no_loop_entry)) (codes ",") (numbers_from 0 l.k))
