use Rattle.std.proofs.Common.{arith}
use Rattle.label_file.proofs.EntryFronts.{label_first}
use Rattle.label_file.proofs.front.cut_label.Goals as goal

pub returns-clause-label : goal.returns-clause-label
returns-clause-label c =
    let h = c.in_ok-length.ensures.cases in
    label_first c.args.bytes.now c.in_ok-length.length.now c.in_ok-length.behind.now _ c.split_at_checked.result (omega (arith, h.2)) (λ i. let fits = c.type_inv.bytes i in omega arith) h.0 h.1 c.from_be_bytes.ensures c.split_at_checked.ensures.cases
