use Rattle.std.proofs.Common.{◌++◌, codes}
use Rattle.wf_json.specs.Canonical.{text_in_quotes}
use Rattle.wf_gen.proofs.Lines.{name_more}
use Rattle.wf_gen.proofs.text.append_others.Goals as goal

pub loop-k-preserved : goal.loop-k-preserved
loop-k-preserved c = name_more (λ n. codes "," ++ text_in_quotes n) c.args.first c.loop-k.k _ _ _ c.loop-k.invariant c.in_ok-append_other.ensures.ok
