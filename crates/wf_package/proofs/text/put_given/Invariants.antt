use Rattle.std.proofs.Common.{codes, get_or}
use Rattle.std.specs.List.{join_by}
use Rattle.wf_model.specs.Lists.{numbers_from}
use Rattle.wf_json.specs.Writing.{Takes}
use Rattle.wf_package.specs.PackageText.{given_text}
use Rattle.wf_package.specs.Parts.{no_given_part}
use Rattle.wf_package.proofs.text.put_given.Given as goal

-- the items so far
abbrev pub invariant-loop-k : goal.invariant-loop-k
invariant-loop-k g l = Takes g.S.TextSink.holds l.initial.out l.out (join_by (λ k. given_text (get_or (l.given) k no_given_part)) (codes ",") (numbers_from 0 l.k))
