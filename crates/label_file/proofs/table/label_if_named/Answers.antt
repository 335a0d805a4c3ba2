use Rattle.std.proofs.Common.{◌≡◌, ◌∙◌, ◌-◌, ◌*◌, length, sym, ap, subst}
use Rattle.std.proofs.lemmas.Bool.Decides.{Decides-eqb}
use Rattle.std.proofs.lemmas.Slice.Eq.{slice_eq-Decides}
use Rattle.wf_model.specs.Lists.{IsIn}
use Rattle.bit_pack.specs.Written.{first_bits}
use Rattle.label_file.specs.Stored.{EntryHeld}
use Rattle.label_file.specs.Keys.{held}
use Rattle.label_file.proofs.NamedEntries.{key_is_held, key_at}
use Rattle.label_file.proofs.table.label_if_named.Goals as goal

pub front_of-front-requires : goal.front_of-front-requires
front_of-front-requires c = let a = c.requires.entries c.in-Some.key.now (key_at c.args.entries.now.keys c.args.number c.in-Some.key.now (sym c.in-Some.ensures.key)) in (a.entry, a.placed)

pub returns-then-eq : goal.returns-then-eq
returns-then-eq c =
    let bytes = c.args.bytes.now in
    let ks = c.args.entries.now.keys in
    let label = c.front_of-front.result.label.now in
    let i = key_at ks c.args.number c.in-Some.key.now (sym c.in-Some.ensures.key) in
    let named = (slice_eq-Decides Decides-eqb c.front_of-front.result.name.now c.args.name.now c.eq.result c.eq.ensures).0 c.if-eq.true in
    let bits : c.label_of.result ≡ first_bits label (8 * length label - c.in-Some.key.now.padding) = c.label_of.ensures ∙ ap (λ n. first_bits label (8 * length label - n)) c.padding.ensures in
    subst (λ (h : EntryHeld). IsIn h (held bytes ks)) (c.front_of-front.ensures.held ∙ (λ j. record { name = named j; bits = sym bits j })) (key_is_held bytes ks c.in-Some.key.now i)
