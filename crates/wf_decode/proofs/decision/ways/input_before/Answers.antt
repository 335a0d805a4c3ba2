use Rattle.std.proofs.Common.{sym, ◌∙◌, true≢false}
use Rattle.decode_model.specs.Legs.{leg_down}
use Rattle.bool_mat.proofs.Rows.{has_none}
use Rattle.wf_vlabel.specs.Seen.{matrices_of}
use Rattle.wf_decode.specs.HeldLegs.{leg_of}
use Rattle.wf_decode.proofs.HeldColumns.{leads_one, leads_within}
use Rattle.wf_decode.proofs.decision.ways.input_before.Goals as goal

pub returns-then-meet-clause-leads : goal.returns-then-meet-clause-leads
returns-then-meet-clause-leads g c i =
    let ms = leg_down (matrices_of c.args.vl.now) (leg_of c.args.vl.now c.args.leg) in
    let one = c.single-one.ensures.columns in
    let leads = leads_one ms c.args.column c.args.input c.single-one.result c.down_leg-below.result one c.down_leg-below.ensures.through in
    ((λ h. ((one i).0 h, leads.0 (c.meet.ensures.0 c.if-meet.true))), λ p. (one i).1 p.0)

pub returns-then-meet-clause-within : goal.returns-then-meet-clause-within
returns-then-meet-clause-within g c =
    let ms = leg_down (matrices_of c.args.vl.now) (leg_of c.args.vl.now c.args.leg) in
    leads_within ms c.args.input c.single-one.result c.down_leg-below.result c.single-one.ensures.columns c.down_leg-below.ensures.through c.down_leg-below.type_inv

pub returns-else-meet-clause-leads : goal.returns-else-meet-clause-leads
returns-else-meet-clause-leads g c i =
    let ms = leg_down (matrices_of c.args.vl.now) (leg_of c.args.vl.now c.args.leg) in
    let leads = leads_one ms c.args.column c.args.input c.single-one.result c.down_leg-below.result c.single-one.ensures.columns c.down_leg-below.ensures.through in
    ((λ h. absurd (has_none i h)), λ p. absurd (true≢false (sym (c.meet.ensures.1 (leads.1 p.1)) ∙ c.if-meet.false)))

pub returns-else-meet-clause-within : goal.returns-else-meet-clause-within
returns-else-meet-clause-within g c =
    let ms = leg_down (matrices_of c.args.vl.now) (leg_of c.args.vl.now c.args.leg) in
    leads_within ms c.args.input c.single-one.result c.down_leg-below.result c.single-one.ensures.columns c.down_leg-below.ensures.through c.down_leg-below.type_inv
