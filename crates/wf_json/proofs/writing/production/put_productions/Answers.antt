use Rattle.std.proofs.Common.{rules, [], get_or, subst, sym, OnOk, take}
use Rattle.std.proofs.lemmas.List.{get_or-take, length-take-le}
use Rattle.wf_model.specs.Grammar.{Production}
use Rattle.wf_json.specs.Canonical.{production_text}
use Rattle.wf_json.specs.Writing.{Takes}
use Rattle.wf_json.proofs.Joined.{list_taken}
use Rattle.wf_json.proofs.writing.production.put_productions.Goals as goal

pub returns : goal.returns
returns g c =
    let all = c.args.g.now.core.productions in
    let first = take c.args.count all in
    let none : Production = record { head = 0; positions = []; edges = []; entries = []; exits = [] } in
    let text = production_text c.args.g.now.core in
    list_taken _ _ _ text first none _ _ (sym (length-take-le c.args.count all c.requires))
    (c.put_list.ensures (λ k. text (get_or first k none)) (λ v k r w below met. subst (λ q. OnOk r (Takes g.S.TextSink.holds v.now w.now (text q))) (sym (get_or-take c.args.count all k none below)) (search rules)))
