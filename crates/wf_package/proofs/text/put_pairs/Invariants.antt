use Rattle.std.proofs.Common.{codes, get_or, map}
use Rattle.std.specs.List.{join_by}
use Rattle.wf_model.specs.Lists.{numbers_from}
use Rattle.wf_json.specs.Writing.{Takes}
use Rattle.wf_spec.specs.GivenRows.{pair_of}
use Rattle.wf_package.specs.PackageText.{named_pair}
use Rattle.wf_package.proofs.text.put_pairs.Given as goal

-- the items so far
abbrev pub invariant-loop-k : goal.invariant-loop-k
invariant-loop-k g l = Takes g.S.TextSink.holds l.initial.out l.out (join_by (λ k. named_pair (get_or (map pair_of l.pairs) k (0, 0))) (codes ",") (numbers_from 0 l.k))
