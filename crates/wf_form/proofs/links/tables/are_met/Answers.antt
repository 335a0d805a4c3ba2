use Rattle.std.proofs.Common.{map, length, get_or, false, ap, sym, ◌∙◌}
use Rattle.wf_model.specs.Meaning.{inner_of}
use Rattle.wf_model.specs.Grammar.{Inner}
use Rattle.wf_form.specs.Ends.{place_of}
use Rattle.wf_form.proofs.Meeting.{some_table, all_met, met_set}
use Rattle.wf_form.proofs.links.tables.are_met.Goals as goal

pub unwrap-marks-requires : goal.unwrap-marks-requires
unwrap-marks-requires c = some_table (length c.args.counts.now) (map inner_of c.args.ends.now) c.in_ok-table.field-0 (λ i h. (c.requires.small i h).1) c.requires.once c.in_ok-table.ensures

pub all_are_set-requires-clause-count : goal.all_are_set-requires-clause-count
all_are_set-requires-clause-count c =
    let t = rw c.unwrap-marks.ensures at c.in_ok-table.ensures in
    ap length c.deref.ensures.value ∙ t.count

pub returns : goal.returns
returns c =
    let ends = map inner_of c.args.ends.now in
    let t = rw c.unwrap-marks.ensures at c.in_ok-table.ensures in
    let read = λ (i : Inner). ap (λ l. get_or l (place_of i) false) c.deref.ensures.value in (
      λ z. all_met (length c.args.counts.now) c.args.counts.now ends c.unwrap-marks.result.items c.requires.few (λ i h. (c.requires.small i h).1) t (λ i h. sym (read i) ∙ c.all_are_set.ensures.0 z i h),
      λ m. c.all_are_set.ensures.1 (λ i h. read i ∙ met_set (length c.args.counts.now) c.args.counts.now ends c.unwrap-marks.result.items t m i h),
    )
