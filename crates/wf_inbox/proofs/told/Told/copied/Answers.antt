use Rattle.std.proofs.Common.{◌∙◌, sym}
use Rattle.wf_inbox.proofs.PackedNames.{event_read}
use Rattle.wf_inbox.proofs.told.Told.copied.Goals as goal

pub returns-in_ok-text-in-Expand : goal.returns-in_ok-text-in-Expand
returns-in_ok-text-in-Expand c =
    let instance = c.in_ok-push_name-in-Expand.ensures in
    let names = c.in_ok-push_names-in-Expand.ensures in
    event_read _ _ _ c.in_ok-text-in-Expand.field-0.now c.bytes-in-Expand.result.now c.in-Expand.production c.items.result.now c.clear.ensures.items instance.written names.written (c.in_ok-text-in-Expand.ensures ∙ c.deref.ensures.value)
    instance.short names.short c.in-Expand.instance c.in-Expand.names c.bytes-in-Expand.ensures c.items.ensures ∙
    sym c.in-Expand.is
