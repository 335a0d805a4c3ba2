use Rattle.std.proofs.Common.{◌∙◌, get_or, sym, ap}
use Rattle.label_file.specs.Stored.{EntryHeld, no_entry}
use Rattle.label_file.proofs.NamedEntries.{entry_at, key_at}
use Rattle.label_file.proofs.store.Store.name_at.Goals as goal

pub front_of-requires : goal.front_of-requires
front_of-requires c =
    let a = c.self.invariant.1 c.index.result.now (key_at c.self.inside.entries.keys c.args.entry c.index.result.now c.index.ensures) in
    (a.entry, a.placed)

pub returns : goal.returns
returns c =
    sym (ap (λ (h : EntryHeld). h.name) (entry_at c.self.inside.bytes.now c.self.inside.entries.keys c.args.entry c.index.result.now c.index.ensures ∙ c.front_of.ensures.held))
    ∙ ap (λ hs. (get_or hs c.args.entry no_entry).name) c.self.view_is
