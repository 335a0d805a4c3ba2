use Rattle.std.proofs.Common.{◌≡◌, ◌+◌, ◌≤◌, length, Some, ap, sym, ◌∙◌, arith}
use Rattle.std.proofs.lemmas.List.{length-map}
use Rattle.std.proofs.lemmas.Option.{IfSome_then}
use Rattle.wf_model.specs.declared.event.Event.TheVariants.{Expand}
use Rattle.wf_model.specs.Faults.{fault_of}
use Rattle.run_faults.specs.Order.{names_fault}
use Rattle.run_faults.proofs.NewNames.{fault_with_room, if_none}
use Rattle.wf_flat.specs.declared.table.Inst.{Inst}
use Rattle.wf_flat.specs.Table.{Table, names_in, events_of}
use Rattle.wf_flat.specs.Opening.{CanOpen}
use Rattle.wf_flat.proofs.Opening.{has_fault, left_to_names}
use Rattle.wf_flat.proofs.table.PlainRun.expand_fault.Goals as goal

pub returns-in-Some-clause-fault : goal.returns-in-Some-clause-fault
returns-in-Some-clause-fault c =
    let g = c.args.g.now.core in
    let t = c.args.self.now in
    let counted = c.len-count.ensures ∙ (c.self.inside.instances.ok.0 ∙ ap (λ (t : Table). length t.instances) c.self.view_is) in
    has_fault g t c.requires.run _ counted _ c.args.name.now (c.found-found.ensures.found g c.requires.run) c.args.production c.args.names.now _ c.in-Some.ensures.first

pub returns-clause-fault : goal.returns-clause-fault
returns-clause-fault c =
    let g = c.args.g.now.core in
    let t = c.args.self.now in
    let names = c.args.names.now in
    let counted = c.len-count.ensures ∙ (c.self.inside.instances.ok.0 ∙ ap (λ (t : Table). length t.instances) c.self.view_is) in
    let i = c.self.inside in
    let same = ap (λ l. names_fault i.most l names) c.self.invariant.same_names ∙ ap (λ (t : Table). names_fault t.most (names_in t.instances) names) c.self.view_is in
    IfSome_then _ {P = λ f. names_fault i.most i.names names ≡ Some f} {Q = λ f. fault_of g t.most (events_of t) (Expand c.args.name.now c.args.production names) ≡ Some f} c.fault_without_room.ensures.fault
    (λ f e. left_to_names g t c.requires.run _ counted _ c.args.name.now (c.found-found.ensures.found g c.requires.run) c.args.production names c.in_default.ensures.left ∙ (sym same ∙ e))

pub returns-clause-opens : goal.returns-clause-opens
returns-clause-opens c =
    let g = c.args.g.now.core in
    let t = c.args.self.now in
    let names = c.args.names.now in
    let counted = c.len-count.ensures ∙ (c.self.inside.instances.ok.0 ∙ ap (λ (t : Table). length t.instances) c.self.view_is) in
    let left = left_to_names g t c.requires.run _ counted _ c.args.name.now (c.found-found.ensures.found g c.requires.run) c.args.production names c.in_default.ensures.left in
    let i = c.self.inside in
    let named = ap length c.self.invariant.same_names ∙ ap (λ (t : Table). length (names_in t.instances)) c.self.view_is in
    let most = ap (λ (t : Table). t.most) c.self.view_is in
    if_none _ (length i.names + length names ≤ i.most) (CanOpen g t c.args.name.now c.args.production names)
    (λ room. record {
      fits = c.in_default.ensures.fits;
      room = omega (arith, room, named, most, length-map t.instances (λ (x : Inst). x.name));
      left = left ∙ fault_with_room t.most (names_in t.instances) names (omega (arith, room, named, most));
    })
    c.fault_without_room.ensures.room

pub returns-clause-there : goal.returns-clause-there
returns-clause-there c = if_none _ _ _ (λ room. sym c.found-found.ensures.there ∙ c.in_default.ensures.there) c.fault_without_room.ensures.room
