use Rattle.std.proofs.Common.{◌≡◌, ◌++◌, length, take, drop, sym, ap, ◌∙◌}
use Rattle.std.proofs.lemmas.List.{take_at}
use Rattle.wf_model.specs.Items.{dotted}
use Rattle.label_model.specs.Files.{entry_bytes}
use Rattle.label_file.proofs.append.append_short.Goals as goal

pub returns-clause-entry : goal.returns-clause-entry
returns-clause-entry c =
    let old = c.args.to.now.items in
    let begin = c.len-begin.result in
    let end = c.lay_item-end.result in
    let room = c.extend_from_slice.new.self in
    let new = c.lay_item-end.new.out in
    let entry = entry_bytes (record { name = dotted c.args.instance.now c.args.port.now; label = c.args.label.now }) in
    let long : length new ≡ length room.items = c.lay_item-end.auto.out ∙ ap length c.deref_mut.ensures.value in
    let whole = take_at new (drop (length new) room.items) room.len (long ∙ sym room.ok.0) in
    let first : take begin room.items ≡ old = ap (take begin) c.in_ok-extend_from_slice.ensures.items ∙ take_at old _ begin (sym (c.len-begin.ensures ∙ c.args.to.now.ok.0)) in
    c.truncate.ensures.items ∙ (ap (take end) whole ∙ (c.lay_item-end.ensures ∙ ap (λ z. z ++ entry) (ap (take begin) c.deref_mut.ensures.value ∙ first)))
