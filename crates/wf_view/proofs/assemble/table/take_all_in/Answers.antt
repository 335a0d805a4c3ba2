use Rattle.std.proofs.Common.{◌<◌, sym, subst}
use Rattle.std.proofs.lemmas.List.{length-map}
use Rattle.wf_model.specs.declared.parts.DepsPart.{DepsPart}
use Rattle.wf_spec.proofs.Listing.{read_in}
use Rattle.wf_view.proofs.Keeping.{take_more_in}
use Rattle.wf_view.proofs.Places.{new_read}
use Rattle.wf_view.proofs.assemble.table.take_all_in.Goals as goal

pub take_in-requires-clause-known : goal.take_in-requires-clause-known
take_in-requires-clause-known c = c.requires.sound.known c.part-item.result (read_in c.args.deps.now c.loop-part.part-index c.part-item.result c.part-item.is c.loop-part-test.true)

pub take_in-requires-clause-pairs : goal.take_in-requires-clause-pairs
take_in-requires-clause-pairs c = c.requires.sound.pairs c.part-item.result (read_in c.args.deps.now c.loop-part.part-index c.part-item.result c.part-item.is c.loop-part-test.true)

pub loop-part-preserved : goal.loop-part-preserved
loop-part-preserved c =
    let deps = c.args.deps.now in
    let k = c.loop-part.part-index in
    let d = c.part-item.result in
    take_more_in c.args.g.now.core c.args.marks.now deps k d c.loop-part.table c.take_in.new.table c.part-item.is c.loop-part-test.true
    (c.requires.sound.not_expanded d (read_in deps k d c.part-item.is c.loop-part-test.true))
    (new_read (λ (p : DepsPart). p.«module») deps k d (c.requires.sound.differ k (subst (λ n. k < n) (sym (length-map deps (λ (p : DepsPart). p.«module»))) c.loop-part-test.true)) c.part-item.is c.loop-part-test.true)
    c.loop-part.invariant c.in_ok-take_in.ensures
