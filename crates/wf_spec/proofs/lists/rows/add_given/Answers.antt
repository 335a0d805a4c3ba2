use Rattle.std.proofs.Common.{◌∙◌, sym, take}
use Rattle.std.proofs.lemmas.List.{length-map}
use Rattle.wf_spec.specs.GivenRows.{table_of}
use Rattle.wf_spec.proofs.Listing.{read_in}
use Rattle.wf_spec.proofs.GivenRows.{all_more, still_placed}
use Rattle.wf_spec.proofs.lists.rows.add_given.Goals as goal

pub add_part-requires : goal.add_part-requires
add_part-requires c =
    still_placed c.args.given.now (take c.loop-part.part-index c.args.given.now) c.part-item.result (table_of c.args.table.now) (table_of c.loop-part.table) c.requires c.loop-part.invariant
    (length-map c.loop-part.table (λ v. v.items) ∙ (c.loop-part.auto.table ∙ sym (length-map c.args.table.now (λ v. v.items))))
    (read_in c.args.given.now c.loop-part.part-index c.part-item.result c.part-item.is c.loop-part-test.true)

pub loop-part-preserved : goal.loop-part-preserved
loop-part-preserved c =
    all_more c.args.given.now c.loop-part.part-index c.part-item.result (table_of c.args.table.now) (table_of c.loop-part.table) (table_of c.add_part.new.table) c.part-item.is c.loop-part-test.true
    c.loop-part.invariant c.add_part.ensures
