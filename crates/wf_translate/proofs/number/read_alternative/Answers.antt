use Rattle.std.proofs.Common.{◌≡◌, ◌+◌, ◌++◌, refl, sym, subst}
use Rattle.bit_pack.specs.Gamma.{gamma}
use Rattle.wf_spec.proofs.Heads.{headed_at}
use Rattle.wf_label.proofs.AlternativeNumbers.{listed_alternative, none_listed}
use Rattle.wf_translate.proofs.number.read_alternative.Goals as goal

pub returns-in_err-a-clause-malformed : goal.returns-in_err-a-clause-malformed
returns-in_err-a-clause-malformed c = λ _.
    none_listed c.args.g.now.core c.args.m.0 c.alternatives-alternatives.result.now c.args.reader.now.left c.alternatives-alternatives.ensures (c.in_err-a.ensures.malformed refl)

pub returns-clause-production : goal.returns-clause-production
returns-clause-production c = headed_at c.args.g.now.core c.args.m.0 c.alternatives-alternatives.result.now c.in_ok-a.a _ c.alternatives-alternatives.ensures c.in_ok-a.ensures.below

pub returns-clause-read : goal.returns-clause-read
returns-clause-read c =
    subst (λ n. c.args.reader.now.left ≡ gamma (n + 1) ++ c.read_number.new.reader.left)
    (sym (listed_alternative c.args.g.now.core c.args.m.0 c.in_ok-a.a c.alternatives-alternatives.result.now _ c.alternatives-alternatives.ensures c.in_ok-a.ensures.below)) c.in_ok-a.ensures.read
