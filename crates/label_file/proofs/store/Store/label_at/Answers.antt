use Rattle.std.proofs.Common.{◌≡◌, ◌∙◌, ◌-◌, ◌*◌, length, get_or, sym, ap}
use Rattle.bit_pack.specs.Written.{first_bits}
use Rattle.label_file.specs.Stored.{EntryHeld, no_entry}
use Rattle.label_file.proofs.NamedEntries.{entry_at, key_at}
use Rattle.label_file.proofs.store.Store.label_at.Goals as goal

pub front_of-requires : goal.front_of-requires
front_of-requires c =
    let a = c.self.invariant.1 c.index-key.result.now (key_at c.self.inside.entries.keys c.args.entry c.index-key.result.now c.index-key.ensures) in
    (a.entry, a.placed)

pub returns : goal.returns
returns c =
    let label = c.front_of.result.label.now in
    let bits : c.label_of.result ≡ first_bits label (8 * length label - c.index-key.result.now.padding) = c.label_of.ensures ∙ ap (λ n. first_bits label (8 * length label - n)) c.padding.ensures in
    bits
    ∙ (sym (ap (λ (h : EntryHeld). h.bits) (entry_at c.self.inside.bytes.now c.self.inside.entries.keys c.args.entry c.index-key.result.now c.index-key.ensures ∙ c.front_of.ensures.held))
    ∙ ap (λ hs. (get_or hs c.args.entry no_entry).bits) c.self.view_is)
