use Rattle.std.proofs.Common.{◌≡◌, ◌∙◌, ap, sym, length, get_or, take, [], arith, length-take}
use Rattle.wf_model.specs.Grammar.{body_of, inputs_of}
use Rattle.wf_model.proofs.Lists.{at_is}
use Rattle.wf_body.proofs.leads.input_words.Goals as goal

pub returns-clause-words : goal.returns-clause-words
returns-clause-words c =
    let count = c.input_count-count.ensures.count ∙ ap (inputs_of c.args.g.now.core) (sym (at_is c.standing.result.0 c.args.k.0 (body_of c.args.g.now.core c.args.p.0) 0 c.standing.ensures.stands)) in
    ap (λ n. take n (get_or c.args.ins.now c.args.k.0 [])) count

pub returns-clause-count : goal.returns-clause-count
returns-clause-count c =
    let count = c.input_count-count.ensures.count ∙ ap (inputs_of c.args.g.now.core) (sym (at_is c.standing.result.0 c.args.k.0 (body_of c.args.g.now.core c.args.p.0) 0 c.standing.ensures.stands)) in
    let few = c.input_count-count.ensures.few in
    let same = c.requires.ins in
    let position = c.requires.position in
    let room = c.told-ins c.args.k.0 (omega arith) in
    let taken = length-take c.input_count-count.result (get_or c.args.ins.now c.args.k.0 []) in
    let whole : length (take c.input_count-count.result (get_or c.args.ins.now c.args.k.0 [])) ≡ c.input_count-count.result = omega arith in
    whole ∙ count
