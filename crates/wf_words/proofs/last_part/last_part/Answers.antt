use Rattle.std.proofs.Common.{◌-◌, arith}
use Rattle.wf_words.proofs.LastParts.{last_part_is, code_within, few_label_bits}
use Rattle.wf_words.proofs.last_part.last_part.Goals as goal

pub overflow_sub-result : goal.overflow_sub-result
overflow_sub-result c =
    let l = c.requires in
    let within = code_within l.0 c.args.label.now c.port_or_edge-number.result l.2 (c.port_or_edge-number.ensures l.0 l.1 l.2) in
    omega (arith, within, c.code_length.ensures, c.length.ensures)

pub returns-clause-part : goal.returns-clause-part
returns-clause-part c = λ l of e.
    last_part_is l c.args.label.now c.port_or_edge-number.result (c.length.result - c.code_length.result) e (c.port_or_edge-number.ensures l of e) (omega (arith, c.code_length.ensures, c.length.ensures))

pub returns-clause-few : goal.returns-clause-few
returns-clause-few c =
    let few = few_label_bits c.args.g.grammar.now.core c.args.label.now c.start-formed.ensures.formed c.args.g.linear c.requires in
    omega (arith, few, c.length.ensures)
