use Rattle.std.proofs.lemmas.List.{take_all}
use Rattle.std.proofs.Common.{map, ◌<◌, ◌∙◌, List, ℕ, sym, subst, ap, length}
use Rattle.wf_model.specs.declared.body.Position.{Position}
use Rattle.wf_model.specs.Lists.{IsIn}
use Rattle.wf_model.specs.Meaning.{position_of}
use Rattle.wf_spec.specs.Naming.{place_of}
use Rattle.wf_form.specs.Forming.{placed}
use Rattle.wf_form.proofs.Placing.{same_position}
use Rattle.wf_spec.proofs.Listing.{made_more, all_push, read_in}
use Rattle.wf_form.proofs.wiring.positions_from.Goals as goal

pub module_number-number-requires-clause-known : goal.module_number-number-requires-clause-known
module_number-number-requires-clause-known c =
    subst (λ (n : List ℕ). IsIn n c.args.names.now) (sym c.bytes.ensures)
    (c.requires.known c.part-item.result (read_in c.args.parts.now c.loop-part.part-index c.part-item.result c.part-item.is c.loop-part-test.true))

pub loop-part-preserved : goal.loop-part-preserved
loop-part-preserved c = record {
  made = made_more position_of (placed c.args.names.now) c.loop-part.list.items c.push.new.self.items (record { name = c.in_ok-name.name; «module» = c.module_number-number.result }) c.args.parts.now c.loop-part.part-index c.part-item.result
      c.loop-part.invariant.made
      (same_position c.args.names.now (record { name = c.in_ok-name.name; «module» = c.module_number-number.result }) c.part-item.result (c.in_ok-name.ensures ∙ c.bytes-in-loop-part.ensures) (c.module_number-number.ensures.place ∙ ap (place_of c.args.names.now) c.bytes.ensures))
      c.part-item.is c.loop-part-test.true c.in_ok-push.ensures.items;
  known = all_push (λ (q : Position). q.module.0 < length c.args.names.now) c.loop-part.list.items c.push.new.self.items (record { name = c.in_ok-name.name; «module» = c.module_number-number.result })
      c.loop-part.invariant.known c.module_number-number.ensures.within c.in_ok-push.ensures.items;
}

pub returns-clause-positions : goal.returns-clause-positions
returns-clause-positions c =
    c.loop-part.invariant.made ∙ ap (map (placed c.args.names.now)) (take_all c.loop-part.part-index c.args.parts.now c.loop-part-test.false)

pub returns-clause-known : goal.returns-clause-known
returns-clause-known c = c.loop-part.invariant.known
