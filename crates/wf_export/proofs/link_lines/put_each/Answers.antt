use Rattle.std.proofs.Common.{◌<◌, ◌≤◌, ap, sym, subst, length, get_or, refl}
use Rattle.std.proofs.lemmas.Result.{err_from_is_err_and}
use Rattle.wf_model.specs.declared.numbers.Side.TheVariants.{Input}
use Rattle.wf_model.proofs.Lists.{at_in, is_at}
use Rattle.wf_flat.specs.declared.graph.Link.{Link}
use Rattle.wf_export.specs.Shown.{held_link_line, held_links_text}
use Rattle.wf_export.proofs.Texts.{first_more, first_passed, first_whole}
use Rattle.wf_export.proofs.link_lines.put_each.Goals as goal

abbrev no_link : Link
no_link = record { from = record { instance = 0; side = Input; port = record { 0 = 0 } }; to = record { instance = 0; side = Input; port = record { 0 = 0 } } }

pub put_link-requires-clause-from : goal.put_link-requires-clause-from
put_link-requires-clause-from g c =
    let ls = c.args.links.now in
    let l = get_or ls c.loop-link.link-index no_link in
    (c.requires l (at_in l c.loop-link.link-index ls (is_at c.loop-link.link-index ls no_link c.loop-link-test.true))).0

pub put_link-requires-clause-to : goal.put_link-requires-clause-to
put_link-requires-clause-to g c =
    let ls = c.args.links.now in
    let l = get_or ls c.loop-link.link-index no_link in
    (c.requires l (at_in l c.loop-link.link-index ls (is_at c.loop-link.link-index ls no_link c.loop-link-test.true))).1

pub returns-in_err-put_link : goal.returns-in_err-put_link
returns-in_err-put_link g c =
    let h = c.args.g.now.core in
    let xs = c.args.instances.now in
    let ls = c.args.links.now in
    let l = get_or ls c.loop-link.link-index no_link in
    first_passed g.O.Sink.put_bytes g.O.Sink.faults g.O.Sink.at_last (held_link_line h xs) ls (held_links_text h xs ls) refl
    c.loop-link.link-index no_link (held_link_line h xs l) c.loop-link-test.true refl
    c.args.due.now c.loop-link.due c.put_link.new.due c.args.out.now c.loop-link.out c.put_link.new.out c.from_residual.result c.in_err-put_link.field-0.0 (err_from_is_err_and c.from_residual.result c.from_residual.ensures.1)
    c.loop-link.invariant c.in_err-put_link.ensures

pub loop-link-preserved : goal.loop-link-preserved
loop-link-preserved g c =
    let h = c.args.g.now.core in
    let xs = c.args.instances.now in
    let ls = c.args.links.now in
    let l = get_or ls c.loop-link.link-index no_link in
    first_more g.O.Sink.put_bytes g.O.Sink.faults g.O.Sink.at_last (held_link_line h xs) ls
    c.loop-link.link-index no_link (held_link_line h xs l) c.loop-link-test.true refl
    c.args.due.now c.loop-link.due c.put_link.new.due c.args.out.now c.loop-link.out c.put_link.new.out c.loop-link.invariant c.in_ok-put_link.ensures

pub returns : goal.returns
returns g c =
    let h = c.args.g.now.core in
    let xs = c.args.instances.now in
    let ls = c.args.links.now in
    first_whole g.O.Sink.put_bytes g.O.Sink.faults g.O.Sink.at_last (held_link_line h xs) ls (held_links_text h xs ls) refl
    c.loop-link.link-index c.loop-link-test.false
    c.args.due.now c.loop-link.due c.args.out.now c.loop-link.out c.loop-link.invariant
