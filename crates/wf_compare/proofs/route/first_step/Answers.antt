use Rattle.std.proofs.Common.{length, sym, ◌∙◌, refl, subst, ap, arith}
use Rattle.std.proofs.lemmas.List.{take_rest}
use Rattle.wf_model.specs.Lists.{IsIn}
use Rattle.wf_compare.proofs.Heads.{first_and_rest, none_left}
use Rattle.wf_compare.proofs.FirstSteps.{found_here, found_later, there_later}
use Rattle.wf_compare.proofs.route.first_step.Goals as goal

pub loop-left-init : goal.loop-left-init
loop-left-init c = record { same = refl; there = c.requires }

pub returns-then-from-to : goal.returns-then-from-to
returns-then-from-to c =
    found_here c.args.to c.args.row.now c.loop-left.left.now _ _
    (first_and_rest c.loop-left.left.now _ _ c.in-len1-up.len_at_least refl)
    c.loop-left.invariant.same (sym c.from.ensures ∙ c.if-from-to.true)

pub loop-left-smaller : goal.loop-left-smaller
loop-left-smaller c =
    let h = c.in-len1-up.len_at_least in
    let e = ap length (take_rest c.loop-left.left.now 1) in
    let d = Rattle.std.proofs.lemmas.List.length-drop 1 c.loop-left.left.now in
    omega arith

pub loop-left-preserved : goal.loop-left-preserved
loop-left-preserved c =
    let split = first_and_rest c.loop-left.left.now _ _ c.in-len1-up.len_at_least (take_rest c.loop-left.left.now 1) in
    record {
      same = found_later c.args.to c.args.row.now c.loop-left.left.now _ _ split c.loop-left.invariant.same (λ e. c.if-from-to.false (c.from.ensures ∙ e));
      there = there_later c.args.to c.loop-left.left.now _ _ split (λ e. c.if-from-to.false (c.from.ensures ∙ e)) c.loop-left.invariant.there;
    }

pub unreachable-requires : goal.unreachable-requires
unreachable-requires c =
    let there = c.loop-left.invariant.there in
    subst (IsIn there.0) (none_left c.loop-left.left.now (λ h. let l = c.in_default.len_below in absurd (omega arith))) there.1
