use Rattle.std.proofs.Common.{◌≡◌, ◌+◌, ◌≤◌, length, Some, ap, sym, subst, ◌∙◌, arith}
use Rattle.std.proofs.lemmas.List.{length-map}
use Rattle.std.proofs.lemmas.Option.{IfSome_then}
use Rattle.run_faults.specs.Standing.{Fits}
use Rattle.run_faults.specs.Order.{names_fault, HasFault, IsLeftToNames}
use Rattle.wf_run.specs.Runs.{RunSeen, IsRunOf}
use Rattle.run_faults.specs.NewNames.{twice_fault}
use Rattle.wf_run.specs.Growing.{IsFaultAt}
use Rattle.wf_run.proofs.NamedInstances.{names_count}
use Rattle.run_faults.proofs.NewNames.{fault_with_room, if_none}
use Rattle.wf_run.proofs.EventFaults.{has_fault, left_to_names}
use Rattle.wf_run.proofs.run.Run.fault_of_expand.Goals as goal

pub returns-in-Some-clause-fault : goal.returns-in-Some-clause-fault
returns-in-Some-clause-fault c name place events run =
    let each = subst (λ (r : RunSeen). HasFault r.grammar.core c.len-count.result c.found-found.result c.args.production c.args.names.now c.in-Some.fault) c.self.view_is c.in-Some.ensures.first in
    let counted = c.len-count.ensures ∙ (c.self.inside.nodes.ok.0 ∙ (sym (length-map _ _) ∙ ap (λ (r : RunSeen). length r.nodes) c.self.view_is)) in
    has_fault c.args.self.now events run c.len-count.result counted c.found-found.result name (c.found-found.ensures.found events name run place) c.args.production c.args.names.now _ each

pub returns-clause-fault : goal.returns-clause-fault
returns-clause-fault c =
    let i = c.self.inside in
    let r = c.args.self.now in
    let names = c.args.names.now in
    let each = subst (λ (r : RunSeen). IsLeftToNames r.grammar.core c.len-count.result c.found-found.result c.args.production names) c.self.view_is c.in_default.ensures.left in
    let counted = c.len-count.ensures ∙ (c.self.inside.nodes.ok.0 ∙ (sym (length-map _ _) ∙ ap (λ (r : RunSeen). length r.nodes) c.self.view_is)) in
    let same = ap (λ (r : RunSeen). names_fault r.most r.names names) c.self.view_is in
    IfSome_then _ {P = λ f. names_fault i.most i.names names ≡ Some f} {Q = λ f. IsFaultAt r c.args.n c.args.production names (Some f)} c.fault_without_room.ensures.fault
    (λ f e name place events run. left_to_names r events run c.len-count.result counted c.found-found.result name (c.found-found.ensures.found events name run place) c.args.production names each ∙ (sym same ∙ e))

pub returns-clause-left : goal.returns-clause-left
returns-clause-left c =
    let i = c.self.inside in
    let r = c.args.self.now in
    let names = c.args.names.now in
    let each = subst (λ (r : RunSeen). IsLeftToNames r.grammar.core c.len-count.result c.found-found.result c.args.production names) c.self.view_is c.in_default.ensures.left in
    let counted = c.len-count.ensures ∙ (c.self.inside.nodes.ok.0 ∙ (sym (length-map _ _) ∙ ap (λ (r : RunSeen). length r.nodes) c.self.view_is)) in
    if_none _ (length i.names + length names ≤ i.most) (IsFaultAt r c.args.n c.args.production names (twice_fault r.names names))
    (λ room name place events run. left_to_names r events run c.len-count.result counted c.found-found.result name (c.found-found.ensures.found events name run place) c.args.production names each
    ∙ fault_with_room r.most r.names names (subst (λ (r : RunSeen). length r.names + length names ≤ r.most) c.self.view_is room))
    c.fault_without_room.ensures.room

pub returns-clause-room : goal.returns-clause-room
returns-clause-room c =
    let i = c.self.inside in
    let r = c.args.self.now in
    let names = c.args.names.now in
    let events = c.self.invariant.events in
    let run = subst (λ z. IsRunOf z events) c.self.view_is c.self.invariant.run in
    if_none _ (length i.names + length names ≤ i.most) (length r.nodes + length names ≤ r.most)
    (λ room. subst (λ n. n + length names ≤ r.most) (names_count r events run) (subst (λ (r : RunSeen). length r.names + length names ≤ r.most) c.self.view_is room))
    c.fault_without_room.ensures.room

pub returns-clause-there : goal.returns-clause-there
returns-clause-there c = if_none _ _ _ (λ room. sym c.found-found.ensures.there ∙ c.in_default.ensures.there) c.fault_without_room.ensures.room

pub returns-clause-fits : goal.returns-clause-fits
returns-clause-fits c = if_none _ _ _ (λ room. subst (λ (r : RunSeen). Fits r.grammar.core c.args.production c.args.names.now) c.self.view_is c.in_default.ensures.fits) c.fault_without_room.ensures.room
