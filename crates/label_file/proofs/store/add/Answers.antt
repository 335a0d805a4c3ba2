use Rattle.std.proofs.Common.{◌≡◌, ◌∙◌, ◌-◌, ◌*◌, [], ◌∷◌, ◌++◌, length, sym, ap, subst, rules}
use Rattle.wf_model.specs.Lists.{IsIn}
use Rattle.bit_pack.specs.Written.{first_bits, IsFilled}
use Rattle.bit_pack.proofs.Filling.{holds_filled}
use Rattle.bit_pack.proofs.Packing.{held_law}
use Rattle.label_file.specs.Stored.{names_held}
use Rattle.label_file.specs.Keys.{held as keys}
use Rattle.label_file.proofs.EntryParts.{placed_at}
use Rattle.label_file.proofs.store.add.Goals as goal

pub padding_behind-padding-requires-clause-filled : goal.padding_behind-padding-requires-clause-filled
padding_behind-padding-requires-clause-filled c = subst (IsFilled c.args.front.label.now) (sym c.length.ensures) (holds_filled c.args.front.label.now c.in-Ok.label c.in-Ok.ensures.label.1)

pub put-requires-clause-placed : goal.put-requires-clause-placed
put-requires-clause-placed c =
    let front = c.args.front in
    let filled = subst (IsFilled front.label.now) (sym c.length.ensures) (holds_filled front.label.now c.in-Ok.label c.in-Ok.ensures.label.1) in
    (_, placed_at c.args.bytes.now c.args.place _ _ front.rest.now _ c.requires.front filled c.padding_behind-padding.ensures.bits c.padding_behind-padding.ensures.padded, c.requires.name)

pub returns-clause-added : goal.returns-clause-added
returns-clause-added c =
    let front = c.args.front in
    let padding = c.padding_behind-padding.ensures in
    let filled = subst (IsFilled front.label.now) (sym c.length.ensures) (holds_filled front.label.now c.in-Ok.label c.in-Ok.ensures.label.1) in
    let placed = placed_at c.args.bytes.now c.args.place _ _ front.rest.now _ c.requires.front filled padding.bits padding.padded in
    let bits : first_bits front.label.now (8 * length front.label.now - c.padding_behind-padding.result) ≡ c.in-Ok.label = ap (first_bits front.label.now) (padding.bits ∙ c.length.ensures) ∙ (held_law front.label.now c.in-Ok.label c.in-Ok.ensures.label.1).first in
    let old = keys c.args.bytes.now c.args.entries.now.keys in
    record {
      named = search rules;
      first = λ i. c.in_ok-put.ensures.free c.if-not-branch.false (subst (λ n. IsIn n (names_held old)) (sym c.requires.name) i);
      bits = c.in-Ok.label;
      label = c.in-Ok.ensures.label.0;
      bytes = c.in-Ok.ensures.label.1;
      is = c.in_ok-put.ensures.added c.if-not-branch.false _ placed ∙ (λ i. old ++ record { name = front.name.now; bits = bits i } ∷ []);
    }
