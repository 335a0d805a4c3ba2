use Rattle.std.proofs.Common.{Some, ap, sym, subst, ◌∙◌, inl, inr, ⊎_elim}
use Rattle.wf_model.proofs.Taking.{taking_law}
use Rattle.wf_model.specs.declared.event.Event.TheVariants.{Expand}
use Rattle.run_faults.proofs.NewNames.{none_twice, one_twice}
use Rattle.wf_flat.specs.Table.{events_of, IsTableOf}
use Rattle.wf_flat.proofs.Instances.{its_name}
use Rattle.wf_flat.proofs.Steps.{run_expanded, kept_of, same_modules}
use Rattle.wf_flat.proofs.table.PlainRun.take_expand.Goals as goal

pub returns-in-Err-clause-refused : goal.returns-in-Err-clause-refused
returns-in-Err-clause-refused c =
    let left = c.in_ok-k.ensures.opens.left in
    ⊎_elim (λ none. inl none) (λ twice. inr (left ∙ (one_twice _ c.args.names.now twice.1 ∙ ap Some (sym twice.0)))) c.in-Err.ensures.refused

pub returns-clause-extends : goal.returns-clause-extends
returns-clause-extends c = c.in_ok-k.ensures.opens.left ∙ none_twice _ c.args.names.now c.in_default.ensures.fresh

pub returns-clause-taken : goal.returns-clause-taken
returns-clause-taken c =
    let g = c.args.g.now.core in
    let t = c.args.self.now in
    let p = c.args.production in
    let e = Expand c.args.instance.now p c.args.names.now in
    let next = (taking_law g t.most (events_of t) e c.requires.run.accepted).0 (c.in_ok-k.ensures.opens.left ∙ none_twice _ c.args.names.now c.in_default.ensures.fresh) in
    let its = its_name g t c.requires.run c.args.instance.now c.in_ok-k.k c.in_ok-k.ensures.place in
    let body = same_modules g p _ c.positions-body.result.now c.positions-body.ensures c.production.ensures.core in
    let kept = kept_of t _ _ _ _ c.self.invariant c.self.view_is in
    let r = run_expanded g t c.requires.run kept c.in_ok-k.k (record { 0 = p }) c.args.names.now c.positions-body.result.now c.args.instance.now its.0 its.1 body next in
    ap events_of c.in_default.ensures.opened ∙ r.0

pub returns-clause-run : goal.returns-clause-run
returns-clause-run c =
    let g = c.args.g.now.core in
    let t = c.args.self.now in
    let p = c.args.production in
    let e = Expand c.args.instance.now p c.args.names.now in
    let next = (taking_law g t.most (events_of t) e c.requires.run.accepted).0 (c.in_ok-k.ensures.opens.left ∙ none_twice _ c.args.names.now c.in_default.ensures.fresh) in
    let its = its_name g t c.requires.run c.args.instance.now c.in_ok-k.k c.in_ok-k.ensures.place in
    let body = same_modules g p _ c.positions-body.result.now c.positions-body.ensures c.production.ensures.core in
    let kept = kept_of t _ _ _ _ c.self.invariant c.self.view_is in
    let r = run_expanded g t c.requires.run kept c.in_ok-k.k (record { 0 = p }) c.args.names.now c.positions-body.result.now c.args.instance.now its.0 its.1 body next in
    subst (IsTableOf g) (sym c.in_default.ensures.opened) r.1
