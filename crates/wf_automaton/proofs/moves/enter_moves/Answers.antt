use Rattle.std.proofs.Common.{◌∙◌, length, sym, refl, inl, arith}
use Rattle.std.proofs.lemmas.List.{length-set}
use Rattle.wf_automaton.proofs.Leading.{bound, fits_byte, place_within, taken, new_more, table_next}
use Rattle.wf_automaton.proofs.moves.enter_moves.Goals as goal

pub overflow_cast-from : goal.overflow_cast-from
overflow_cast-from c =
    let v = c.index-moves-k.result in
    let b = bound c.args.states c.args.moves.now c.requires.below c.loop-k.k v c.index-moves-k.is c.loop-k-test.true in
    fits_byte c.from.result v.from c.args.states c.from.ensures b.0 c.requires.few

pub offset_bounds-table-place : goal.offset_bounds-table-place
offset_bounds-table-place c =
    let inside = place_within c.args.states c.args.moves.now c.requires.below c.loop-k.k c.index-moves-k.result c.index-moves-k.is c.loop-k-test.true (length c.args.table.now) c.requires.places c.loop-k.table c.loop-k.invariant.count c.loop-k.invariant.table c.loop-k.invariant.new
    c.place_in-place.result c.from.result c.module.result.0 c.place_in-place.ensures c.from.ensures c.module.ensures in
    let count = c.loop-k.invariant.count in
    let small = c.requires.small in
    omega arith

pub bounds-table-place : goal.bounds-table-place
bounds-table-place c =
    place_within c.args.states c.args.moves.now c.requires.below c.loop-k.k c.index-moves-k.result c.index-moves-k.is c.loop-k-test.true (length c.args.table.now) c.requires.places c.loop-k.table c.loop-k.invariant.count c.loop-k.invariant.table c.loop-k.invariant.new
    c.place_in-place.result c.from.result c.module.result.0 c.place_in-place.ensures c.from.ensures c.module.ensures

pub returns-then-is_some-clause-refused : goal.returns-then-is_some-clause-refused
returns-then-is_some-clause-refused c =
    inl (
      c.loop-k.k,
      taken c.args.states c.args.moves.now c.requires.below c.loop-k.k c.index-moves-k.result c.index-moves-k.is c.loop-k-test.true (length c.args.table.now) c.requires.places c.loop-k.table c.loop-k.invariant.count c.loop-k.invariant.table c.loop-k.invariant.new
          c.place_in-place.result c.from.result c.module.result.0 c.place_in-place.ensures c.from.ensures c.module.ensures (sym c.is_some.ensures ∙ c.if-is_some.true),
      refl,
    )

pub overflow_cast-table : goal.overflow_cast-table
overflow_cast-table c =
    let v = c.index-moves-k.result in
    let b = bound c.args.states c.args.moves.now c.requires.below c.loop-k.k v c.index-moves-k.is c.loop-k-test.true in
    fits_byte c.to.result v.to c.args.states c.to.ensures b.1 c.requires.few

pub offset_bounds-table-place-in-loop-k : goal.offset_bounds-table-place-in-loop-k
offset_bounds-table-place-in-loop-k c =
    let inside = place_within c.args.states c.args.moves.now c.requires.below c.loop-k.k c.index-moves-k.result c.index-moves-k.is c.loop-k-test.true (length c.args.table.now) c.requires.places c.loop-k.table c.loop-k.invariant.count c.loop-k.invariant.table c.loop-k.invariant.new
    c.place_in-place.result c.from.result c.module.result.0 c.place_in-place.ensures c.from.ensures c.module.ensures in
    let count = c.loop-k.invariant.count in
    let small = c.requires.small in
    omega arith

pub bounds-table-place-in-loop-k : goal.bounds-table-place-in-loop-k
bounds-table-place-in-loop-k c =
    place_within c.args.states c.args.moves.now c.requires.below c.loop-k.k c.index-moves-k.result c.index-moves-k.is c.loop-k-test.true (length c.args.table.now) c.requires.places c.loop-k.table c.loop-k.invariant.count c.loop-k.invariant.table c.loop-k.invariant.new
    c.place_in-place.result c.from.result c.module.result.0 c.place_in-place.ensures c.from.ensures c.module.ensures

pub loop-k-preserved : goal.loop-k-preserved
loop-k-preserved c = record {
  count = length-set c.loop-k.table c.place_in-place.result _ ∙ c.loop-k.invariant.count;
  table = table_next c.args.states c.args.moves.now c.requires.below c.loop-k.k c.index-moves-k.result c.index-moves-k.is c.loop-k-test.true (length c.args.table.now) c.requires.places c.loop-k.table c.loop-k.invariant.count c.loop-k.invariant.table c.loop-k.invariant.new
      c.place_in-place.result c.from.result c.module.result.0 c.place_in-place.ensures c.from.ensures c.module.ensures (sym c.is_some.ensures ∙ c.if-is_some.false) c.to.result c.to.ensures;
  new = new_more c.args.states c.args.moves.now c.requires.below c.loop-k.k c.index-moves-k.result c.index-moves-k.is c.loop-k-test.true (length c.args.table.now) c.requires.places c.loop-k.table c.loop-k.invariant.count c.loop-k.invariant.table c.loop-k.invariant.new
      c.place_in-place.result c.from.result c.module.result.0 c.place_in-place.ensures c.from.ensures c.module.ensures (sym c.is_some.ensures ∙ c.if-is_some.false);
}
