use Rattle.std.proofs.Common.{◌∙◌, sym, ap, subst, true≢false}
use Rattle.std.proofs.lemmas.Bool.Decides.{Decides-eqb}
use Rattle.std.proofs.lemmas.Slice.Eq.{slice_eq-Decides}
use Rattle.wf_model.specs.Lists.{IsIn}
use Rattle.wf_model.proofs.Lists.{in_map}
use Rattle.label_file.specs.Stored.{EntryHeld, names_held}
use Rattle.label_file.specs.Keys.{EntryAt, numbers, held, held_at}
use Rattle.label_file.proofs.NamedEntries.{key_is_held, name_is_held}
use Rattle.label_file.proofs.table.is_named.Goals as goal

pub returns-in_default-clause-no : goal.returns-in_default-clause-no
returns-in_default-clause-no c = λ _ k i is named. c.in_default.ensures.none (subst (λ n. IsIn n (numbers c.args.entries.now.keys)) is (in_map (λ (z : EntryAt). z.number) k c.args.entries.now.keys i))

pub front_of-requires : goal.front_of-requires
front_of-requires c = let a = c.requires.entries c.in-Some.key.now c.in-Some.ensures.some.0 in (a.entry, a.placed)

pub returns-clause-yes : goal.returns-clause-yes
returns-clause-yes c = λ t.
    let bytes = c.args.bytes.now in
    let ks = c.args.entries.now.keys in
    let same = (slice_eq-Decides Decides-eqb c.front_of.result.name.now c.args.name.now c.eq.result c.eq.ensures).0 t in
    let named = ap (λ (h : EntryHeld). h.name) c.front_of.ensures.held ∙ same in
    subst (λ n. IsIn n (names_held (held bytes ks))) named (name_is_held bytes ks (held_at bytes c.in-Some.key.now) (key_is_held bytes ks c.in-Some.key.now c.in-Some.ensures.some.0))

pub returns-clause-no : goal.returns-clause-no
returns-clause-no c = λ f k i is named.
    let bytes = c.args.bytes.now in
    let one = c.in-Some.ensures.one k i is in
    let same = sym (ap (λ (h : EntryHeld). h.name) c.front_of.ensures.held) ∙ (ap (λ z. (held_at bytes z).name) (sym one) ∙ named) in
    true≢false (sym ((slice_eq-Decides Decides-eqb c.front_of.result.name.now c.args.name.now c.eq.result c.eq.ensures).1 same) ∙ f)
