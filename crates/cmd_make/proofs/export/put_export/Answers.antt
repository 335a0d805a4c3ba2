use Rattle.std.proofs.Common.{ap₂}
use Rattle.wf_spec.specs.Held.{HeldGrammar}
use Rattle.wf_view.specs.Held.{HeldView}
use Rattle.wf_flat.specs.Table.{events_of}
use Rattle.wf_export.specs.ExportText.{export_text}
use Rattle.wf_stage.proofs.Writing.{writes_text, writes_whole, writes_part}
use Rattle.cmd_make.proofs.MakingDue.{writes_begun}
use Rattle.cmd_make.proofs.export.put_export.Goals as goal

pub returns-in-Ok : goal.returns-in-Ok
returns-in-Ok g c =
    let is = ap₂ (λ (h : HeldGrammar) (u : HeldView). export_text h.core u.core (events_of c.args.run.now)) c.sight.ensures.grammar c.sight.ensures.view in
    record { writes = writes_text _ _ is _ _ _ (writes_whole _ _ _ c.in-Ok.ensures.ok c.in-Ok.ensures.same) }

pub returns-in-Err-WriteFault : goal.returns-in-Err-WriteFault
returns-in-Err-WriteFault g c =
    let is = ap₂ (λ (h : HeldGrammar) (u : HeldView). export_text h.core u.core (events_of c.args.run.now)) c.sight.ensures.grammar c.sight.ensures.view in
    let e = c.in-Err-WriteFault.ensures in
    record { writes = writes_text _ _ is _ _ _ (writes_part _ _ _ (e.some c.in-Err-WriteFault.field-0-is) e.begun (e.cause c.in-Err-WriteFault.field-0-is) e.later) }

pub returns-in-Err-NoMemory : goal.returns-in-Err-NoMemory
returns-in-Err-NoMemory g c =
    let is = ap₂ (λ (h : HeldGrammar) (u : HeldView). export_text h.core u.core (events_of c.args.run.now)) c.sight.ensures.grammar c.sight.ensures.view in
    let e = c.in-Err-NoMemory.ensures in
    record { writes = writes_text _ _ is _ _ _ (writes_begun _ _ _ e.begun (e.memory c.in-Err-NoMemory.field-0-is)) }
