use Rattle.std.proofs.Common.{◌≡◌, ◌<◌, ◌∙◌, ◌+◌, sym, ap, length, arith, false, nat_eq}
use Rattle.std.proofs.lemmas.Bool.Decides.{nat_tests}
use Rattle.wf_model.specs.Grammar.{inputs_of, outputs_of}
use Rattle.wf_chain.proofs.Counts.{root_count}
use Rattle.wf_chain.proofs.items.count_root.Goals as goal

pub returns-clause-count : goal.returns-clause-count
returns-clause-count c =
    let g = c.args.g.now.core in
    let none : nat_eq (length c.args.run.now.instances) 0 ≡ false = ap (λ xs. nat_eq (length xs) 0) (sym c.instances.ensures.instances) ∙ (sym c.is_empty.ensures ∙ c.if-is_empty.false) in
    let some : 0 < length c.args.run.now.instances = grind (arith, nat_tests) in
    let ins = c.input_count.ensures.count ∙ ap (inputs_of g) c.start.ensures.start in
    let outs = c.output_count.ensures.count ∙ ap (outputs_of g) c.start-2.ensures.start in
    (λ z. ins z + outs z) ∙ sym (root_count g c.args.run.now some)
