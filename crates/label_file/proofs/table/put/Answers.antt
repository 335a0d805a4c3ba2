use Rattle.std.proofs.Common.{◌∙◌, ℕ, List, [], ◌∷◌, ◌++◌, sym, ap, subst}
use Rattle.wf_model.specs.Lists.{IsIn}
use Rattle.label_file.specs.Keys.{EntryAt, numbers, held, held_of}
use Rattle.label_file.specs.Hashed.{name_hash, AreKeysIn, HasNone, turned}
use Rattle.label_file.proofs.NamedEntries.{none_named, one_turn, one_taken, key_behind, held_behind, placed_key}
use Rattle.label_file.proofs.table.put.Goals as goal

pub returns-then-branch-clause-free : goal.returns-then-branch-clause-free
returns-then-branch-clause-free c = λ _.
    let ks = c.args.entries.now.keys in
    let inv = c.loop-turn.invariant in
    let free = (c.in_ok-put_key.ensures.new c.if-branch.true).1 in
    let number = c.new.ensures.number ∙ c.number_at-number.ensures.number in
    none_named c.args.bytes.now ks c.args.keyed.now c.requires.entries c.args.name.hash c.args.name.bytes.now c.requires.name c.loop-turn.turn inv.1
    (λ i. free (subst (λ (z : ℕ × List EntryAt). IsIn z.0 (numbers z.1)) (λ j. (sym number j, sym inv.0 j)) i))

pub returns-then-branch-clause-added : goal.returns-then-branch-clause-added
returns-then-branch-clause-added c = λ _ e is.
    let ks = c.args.entries.now.keys in
    let key = c.new.result in
    let new = (c.in_ok-put_key.ensures.new c.if-branch.true).0 ∙ ap (λ z. z ++ key ∷ []) c.loop-turn.invariant.0 in
    held_behind c.args.bytes.now ks c.put_key.new.entries.keys key e new (placed_key c.args.bytes.now key e _ _ c.new.ensures.place c.new.ensures.padding is)
    ∙ ap (λ n. held c.args.bytes.now ks ++ held_of e n ∷ []) c.new.ensures.padding

pub returns-then-branch-clause-entries : goal.returns-then-branch-clause-entries
returns-then-branch-clause-entries c =
    let ks = c.args.entries.now.keys in
    let key = c.new.result in
    let at = c.requires.placed in
    let new = (c.in_ok-put_key.ensures.new c.if-branch.true).0 ∙ ap (λ z. z ++ key ∷ []) c.loop-turn.invariant.0 in
    subst (AreKeysIn c.args.keyed.now c.args.bytes.now) (sym new)
    (key_behind c.args.keyed.now c.args.bytes.now ks c.requires.entries key at.0 (placed_key c.args.bytes.now key at.0 _ _ c.new.ensures.place c.new.ensures.padding at.1)
    c.args.name.hash c.loop-turn.turn (c.requires.name ∙ ap (name_hash c.args.keyed.now) at.2) c.loop-turn-test.true (c.new.ensures.number ∙ c.number_at-number.ensures.number) c.loop-turn.invariant.2)

pub loop-turn-preserved : goal.loop-turn-preserved
loop-turn-preserved c =
    let ks = c.args.entries.now.keys in
    let name = c.args.name.bytes.now in
    let inv = c.loop-turn.invariant in
    let taken = c.in_ok-put_key.ensures.taken c.if-branch.false in
    let same = taken.0 ∙ inv.0 in
    let number = c.number_at-number.ensures.number in
    let none : HasNone c.args.bytes.now ks name (turned c.args.name.hash c.loop-turn.turn) = subst (λ (z : ℕ × List EntryAt). HasNone c.args.bytes.now z.1 name z.0) (λ j. (number j, same j)) (c.is_named.ensures.no c.if-is_named.false) in (
      same,
      one_turn c.args.bytes.now ks c.args.name.hash name c.loop-turn.turn inv.1 none,
      one_taken ks c.args.name.hash c.loop-turn.turn inv.2 (subst (λ (z : ℕ × List EntryAt). IsIn z.0 (numbers z.1)) (λ j. ((c.new.ensures.number ∙ number) j, inv.0 j)) taken.1),
    )
