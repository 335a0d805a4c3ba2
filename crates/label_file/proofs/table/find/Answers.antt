use Rattle.std.proofs.Common.{◌≡◌, ◌∙◌, ◌-◌, ◌*◌, length, sym, ap, subst, true≢false}
use Rattle.std.proofs.lemmas.Bool.Decides.{Decides-eqb}
use Rattle.std.proofs.lemmas.Slice.Eq.{slice_eq-Decides}
use Rattle.wf_model.specs.Lists.{IsIn}
use Rattle.bit_pack.specs.Written.{first_bits}
use Rattle.label_file.specs.Stored.{EntryHeld}
use Rattle.label_file.specs.Keys.{numbers, held, held_at}
use Rattle.label_file.specs.Hashed.{HasNone, turned}
use Rattle.label_file.proofs.NamedEntries.{key_is_held, none_named, none_anywhere, one_turn}
use Rattle.label_file.proofs.table.find.Goals as goal

pub returns-in_default-clause-none : goal.returns-in_default-clause-none
returns-in_default-clause-none c =
    let ks = c.args.entries.now.keys in
    none_named c.args.bytes.now ks c.args.keyed.now c.requires.entries c.args.name.hash c.args.name.bytes.now c.requires.name c.loop-turn.turn c.loop-turn.invariant
    (subst (λ n. IsIn n (numbers ks) → ⊥) c.number_at.ensures.number c.in_default.ensures.none)

pub front_of-front-requires : goal.front_of-front-requires
front_of-front-requires c = let a = c.requires.entries c.in-Some.key.now c.in-Some.ensures.some.0 in (a.entry, a.placed)

pub returns-then-eq-clause-found : goal.returns-then-eq-clause-found
returns-then-eq-clause-found c =
    let bytes = c.args.bytes.now in
    let ks = c.args.entries.now.keys in
    let label = c.front_of-front.result.label.now in
    let named = (slice_eq-Decides Decides-eqb c.front_of-front.result.name.now c.args.name.bytes.now c.eq.result c.eq.ensures).0 c.if-eq.true in
    let bits : c.label_of.result ≡ first_bits label (8 * length label - c.in-Some.key.now.padding) = c.label_of.ensures ∙ ap (λ n. first_bits label (8 * length label - n)) c.padding.ensures in
    subst (λ (h : EntryHeld). IsIn h (held bytes ks)) (c.front_of-front.ensures.held ∙ (λ i. record { name = named i; bits = sym bits i })) (key_is_held bytes ks c.in-Some.key.now c.in-Some.ensures.some.0)

pub loop-turn-preserved : goal.loop-turn-preserved
loop-turn-preserved c =
    let bytes = c.args.bytes.now in
    let ks = c.args.entries.now.keys in
    let name = c.args.name.bytes.now in
    let none : HasNone bytes ks name (turned c.args.name.hash c.loop-turn.turn) = λ k i is named.
    let one = c.in-Some.ensures.one k i (is ∙ sym c.number_at.ensures.number) in
    let same = sym (ap (λ (h : EntryHeld). h.name) c.front_of-front.ensures.held) ∙ (ap (λ z. (held_at bytes z).name) (sym one) ∙ named) in
    true≢false (sym ((slice_eq-Decides Decides-eqb c.front_of-front.result.name.now name c.eq.result c.eq.ensures).1 same) ∙ c.if-eq.false) in
    one_turn bytes ks c.args.name.hash name c.loop-turn.turn c.loop-turn.invariant none

pub returns-clause-none : goal.returns-clause-none
returns-clause-none c =
    none_anywhere c.args.bytes.now c.args.entries.now.keys c.args.keyed.now c.requires.entries c.args.name.hash c.args.name.bytes.now c.requires.name c.loop-turn.turn c.loop-turn-test.false c.loop-turn.invariant
