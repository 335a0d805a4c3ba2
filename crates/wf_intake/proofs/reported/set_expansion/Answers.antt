use Rattle.std.proofs.Common.{arith}
use Rattle.wf_intake.proofs.Adding.{set_none, set_at_place, set_no_place}
use Rattle.wf_intake.proofs.reported.set_expansion.Goals as goal

pub returns-in_default : goal.returns-in_default
returns-in_default c = set_none c.args.places.now.items c.args.count c.args.number c.args.by c.in_default.is

pub returns-then-place-saturating_sub : goal.returns-then-place-saturating_sub
returns-then-place-saturating_sub c = set_at_place c.args.places.now.items c.args.count c.in-Some.number c.args.number c.args.by c.in-Some.is (omega arith)

pub returns-else-place-saturating_sub : goal.returns-else-place-saturating_sub
returns-else-place-saturating_sub c = set_no_place c.args.places.now.items c.args.count c.in-Some.number c.args.number c.args.by c.in-Some.is (omega arith)
