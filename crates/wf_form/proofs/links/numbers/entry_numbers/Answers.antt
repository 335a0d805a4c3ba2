use Rattle.std.proofs.lemmas.List.{take_all}
use Rattle.std.proofs.Common.{map, ◌∙◌, ap}
use Rattle.wf_model.specs.Meaning.{position_of}
use Rattle.wf_form.specs.Wiring.{entry_of, entry_link, IsEntryIn}
use Rattle.wf_spec.proofs.Listing.{made_more, all_take_more, read_in}
use Rattle.wf_form.proofs.Numbering.{all_read}
use Rattle.wf_form.proofs.links.numbers.entry_numbers.Goals as goal

pub returns-in_default-clause-unknown : goal.returns-in_default-clause-unknown
returns-in_default-clause-unknown c = λ all. c.in_default.ensures (all c.part-item.result (read_in c.args.parts.now c.loop-part.part-index c.part-item.result c.part-item.is c.loop-part-test.true))

pub loop-part-preserved : goal.loop-part-preserved
loop-part-preserved c = record {
  numbered = made_more entry_of (entry_link c.args.modules.now (map position_of c.args.body.now) c.args.head.now) c.loop-part.list.items c.push.new.self.items c.in-Some.entry
      c.args.parts.now c.loop-part.part-index c.part-item.result c.loop-part.invariant.numbered c.in-Some.ensures.0 c.part-item.is c.loop-part-test.true c.in_ok-push.ensures.items;
  all = all_take_more (IsEntryIn c.args.modules.now (map position_of c.args.body.now) c.args.head.now) c.args.parts.now c.loop-part.part-index c.part-item.result c.loop-part.invariant.all
      c.in-Some.ensures.1 c.part-item.is c.loop-part-test.true;
}

pub returns-clause-known : goal.returns-clause-known
returns-clause-known c =
    all_read (IsEntryIn c.args.modules.now (map position_of c.args.body.now) c.args.head.now) c.args.parts.now c.loop-part.part-index c.loop-part.invariant.all c.loop-part-test.false

pub returns-clause-unknown : goal.returns-clause-unknown
returns-clause-unknown c = tt

pub returns-clause-entries : goal.returns-clause-entries
returns-clause-entries c =
    c.loop-part.invariant.numbered ∙ ap (map (entry_link c.args.modules.now (map position_of c.args.body.now) c.args.head.now)) (take_all c.loop-part.part-index c.args.parts.now c.loop-part-test.false)
