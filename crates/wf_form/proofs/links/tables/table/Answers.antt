use Rattle.std.proofs.lemmas.List.{take_all}
use Rattle.wf_model.specs.declared.body.Inner.{Inner as InnerHeld}
use Rattle.std.proofs.Common.{List, ◌+◌, ◌<◌, map, get_or, set, sym, subst, ◌∙◌, false, true}
use Rattle.std.proofs.lemmas.List.{get_or_read}
use Rattle.wf_model.specs.Meaning.{inner_of}
use Rattle.wf_form.specs.Ends.{IsTable, place_of}
use Rattle.wf_form.proofs.Ends.{table_more, table_twice, there, one_more}
use Rattle.wf_form.proofs.Meeting.{place_small}
use Rattle.wf_model.proofs.Absent.{no_inner}
use Rattle.wf_form.proofs.links.tables.table.Goals as goal

pub index-requires : goal.index-requires
index-requires c =
    let xs = c.args.ends.now in
    let k = c.loop-i.i-index in
    let r = place_small c.args.positions (inner_of (get_or xs k no_inner)) (c.requires.small (inner_of (get_or xs k no_inner)) (there xs k no_inner c.loop-i-test.true)) in
    subst (λ n. place_of (inner_of (get_or xs k no_inner)) < n) (sym c.loop-i.invariant.count ∙ sym c.loop-i.marks.ok.0) r

pub index_mut-requires : goal.index_mut-requires
index_mut-requires c =
    let xs = c.args.ends.now in
    let k = c.loop-i.i-index in
    let r = place_small c.args.positions (inner_of (get_or xs k no_inner)) (c.requires.small (inner_of (get_or xs k no_inner)) (there xs k no_inner c.loop-i-test.true)) in
    subst (λ n. place_of (inner_of (get_or xs k no_inner)) < n) (sym c.loop-i.invariant.count ∙ sym c.loop-i.marks.ok.0) r

pub returns-then-index : goal.returns-then-index
returns-then-index c =
    let xs = c.args.ends.now in
    let k = c.loop-i.i-index in
    let i = inner_of (get_or xs k no_inner) in
    let h = there xs k no_inner c.loop-i-test.true in
    let low = subst (λ n. place_of i < n) (sym c.loop-i.invariant.count) (place_small c.args.positions i (c.requires.small i h)) in
    let e = get_or_read c.loop-i.marks.items (place_of i) c.index.result.now low c.index.ensures false in
    table_twice c.args.positions c.loop-i.marks.items _ (map inner_of xs) i (k + 1) c.loop-i.invariant (sym e ∙ c.if-index.true) (one_more xs k no_inner c.loop-i-test.true).1 h

pub loop-i-preserved : goal.loop-i-preserved
loop-i-preserved c =
    let xs = c.args.ends.now in
    let k = c.loop-i.i-index in
    let i = inner_of (get_or xs k no_inner) in
    let h = there xs k no_inner c.loop-i-test.true in
    let low = subst (λ n. place_of i < n) (sym c.loop-i.invariant.count) (place_small c.args.positions i (c.requires.small i h)) in
    let e = get_or_read c.loop-i.marks.items (place_of i) c.index.result.now low c.index.ensures false in
    subst (IsTable c.args.positions (set c.loop-i.marks.items (place_of i) true)) (sym (one_more xs k no_inner c.loop-i-test.true).0) (table_more c.args.positions c.loop-i.marks.items _ i c.loop-i.invariant low (sym e ∙ c.if-index.false))

pub returns : goal.returns
returns c = subst (λ (l : List InnerHeld). IsTable c.args.positions c.loop-i.marks.items (map inner_of l)) (take_all c.loop-i.i-index c.args.ends.now c.loop-i-test.false) c.loop-i.invariant
