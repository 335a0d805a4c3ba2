use Rattle.std.proofs.Common.{List, Bool, IfOk, sym, subst}
use Rattle.bit_pack.specs.Bits.{packed}
use Rattle.bit_pack.specs.Written.{IsFilled}
use Rattle.bit_pack.proofs.Filling.{packed_filled}
use Rattle.wf_run.specs.Runs.{node_at}
use Rattle.wf_labeller.specs.declared.group.Maker.{Maker}
use Rattle.wf_labeller.specs.Groups.{IsMeasureOf, bits_by}
use Rattle.wf_labeller.proofs.MadeBits.{bits_read}
use Rattle.wf_labeller.proofs.labelled_run.measure.Goals as goal

pub measure_edges-requires-clause-filled : goal.measure_edges-requires-clause-filled
measure_edges-requires-clause-filled c =
    let bits = (node_at c.args.run.now c.in-Expansion.instance.0).bits in
    subst (λ b. IsFilled b c.prefix.result.length) (sym c.prefix.ensures.bytes) (subst (λ n. IsFilled (packed bits) n) (sym c.prefix.ensures.length) (packed_filled bits))

pub returns-in-Expansion : goal.returns-in-Expansion
returns-in-Expansion c =
    let r = c.args.run.now in
    let same = bits_read r c.grammar-g.result.now c.in-Expansion.production.0 c.in-Expansion.instance.0 c.prefix.result.bytes.now c.prefix.result.length c.prefix.result.chain c.grammar-g.ensures.grammar c.prefix.ensures.bytes c.prefix.ensures.length c.prefix.ensures.chain in
    subst (λ (m : Maker). IfOk c.measure_edges.result (IsMeasureOf (bits_by r m))) (sym c.in-Expansion.is) (subst (λ (l : List (List Bool)). IfOk c.measure_edges.result (IsMeasureOf l)) same c.measure_edges.ensures)
