use Rattle.std.proofs.Common.{◌<◌, ◌∙◌, List, ap, sym, subst, length, get_or, refl}
use Rattle.std.proofs.lemmas.Result.{err_from_is_err_and}
use Rattle.std.specs.Prelude.{flat_map}
use Rattle.wf_model.specs.Lists.{IsIn}
use Rattle.wf_model.proofs.Lists.{at_in, is_at}
use Rattle.wf_flat.specs.declared.table.Inst.{Inst}
use Rattle.wf_flat.specs.declared.table.Opened.{Opened}
use Rattle.wf_export.specs.Shown.{IsReady, expansion_lines}
use Rattle.wf_export.proofs.Texts.{first_more, first_passed}
use Rattle.wf_export.proofs.ItemLines.{ready}
use Rattle.wf_export.proofs.item_lines.put_expansions.Goals as goal

pub put_expansion-requires : goal.put_expansion-requires
put_expansion-requires g c =
    let no_opened : Opened = record { instance = 0; production = record { 0 = 0 }; first = 0; count = 0 } in
    let os = c.order-o-items.result.now in
    let o = get_or os c.loop-o.o-index no_opened in
    let i = subst (IsIn o) c.order-o-items.ensures (at_in o c.loop-o.o-index os (is_at c.loop-o.o-index os no_opened c.loop-o-test.true)) in
    subst (λ (l : List Inst). IsReady c.args.g.now.core (length l) o) (sym c.instances-instances.ensures.instances)
    (ready c.args.g.now.core c.start-formed.ensures.formed c.args.run.now c.requires o i (c.instances-instances.ensures.opened o i))

pub returns-in_err-put_expansion : goal.returns-in_err-put_expansion
returns-in_err-put_expansion g c =
    let h = c.args.g.now.core in
    let t = c.args.run.now in
    let flags = c.args.shown.now.opens in
    let no_opened : Opened = record { instance = 0; production = record { 0 = 0 }; first = 0; count = 0 } in
    let os = c.order-o-items.result.now in
    let o = get_or os c.loop-o.o-index no_opened in
    first_passed g.O.Sink.put_bytes g.O.Sink.faults g.O.Sink.at_last (expansion_lines h t.instances flags) t.order (flat_map (expansion_lines h t.instances flags) t.order) refl
    c.loop-o.o-index no_opened (expansion_lines h c.instances-instances.result.now flags o) (subst (λ (l : List Opened). c.loop-o.o-index < length l) c.order-o-items.ensures c.loop-o-test.true)
    (ap (λ (l : List Inst). expansion_lines h l flags o) c.instances-instances.ensures.instances ∙ ap (λ (l : List Opened). expansion_lines h t.instances flags (get_or l c.loop-o.o-index no_opened)) c.order-o-items.ensures)
    c.args.due.now c.loop-o.due c.put_expansion.new.due c.args.out.now c.loop-o.out c.put_expansion.new.out c.from_residual.result c.in_err-put_expansion.field-0.0 (err_from_is_err_and c.from_residual.result c.from_residual.ensures.1)
    c.loop-o.invariant c.in_err-put_expansion.ensures

pub loop-o-preserved : goal.loop-o-preserved
loop-o-preserved g c =
    let h = c.args.g.now.core in
    let t = c.args.run.now in
    let flags = c.args.shown.now.opens in
    let no_opened : Opened = record { instance = 0; production = record { 0 = 0 }; first = 0; count = 0 } in
    let os = c.order-o-items.result.now in
    let o = get_or os c.loop-o.o-index no_opened in
    first_more g.O.Sink.put_bytes g.O.Sink.faults g.O.Sink.at_last (expansion_lines h t.instances flags) t.order
    c.loop-o.o-index no_opened (expansion_lines h c.instances-instances.result.now flags o) (subst (λ (l : List Opened). c.loop-o.o-index < length l) c.order-o-items.ensures c.loop-o-test.true)
    (ap (λ (l : List Inst). expansion_lines h l flags o) c.instances-instances.ensures.instances ∙ ap (λ (l : List Opened). expansion_lines h t.instances flags (get_or l c.loop-o.o-index no_opened)) c.order-o-items.ensures)
    c.args.due.now c.loop-o.due c.put_expansion.new.due c.args.out.now c.loop-o.out c.put_expansion.new.out c.loop-o.invariant c.in_ok-put_expansion.ensures
