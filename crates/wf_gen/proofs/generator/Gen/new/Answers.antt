use Rattle.std.proofs.Common.{ap}
use Rattle.wf_gen.specs.Turns.{started}
use Rattle.wf_gen.specs.Coming.{all_of}
use Rattle.wf_gen.proofs.Drawing.{is_seeded}
use Rattle.wf_gen.proofs.generator.Gen.new.Goals as goal

pub returns : goal.returns
returns c = ap (λ r. all_of (started c.args.linear.grammar.now.core c.args.most c.args.n r)) (is_seeded _ c.args.seed c.seed_from_u64.ensures)
