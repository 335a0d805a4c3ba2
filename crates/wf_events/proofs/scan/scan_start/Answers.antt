use Rattle.std.proofs.Common.{◌∙◌}
use Rattle.wf_events.proofs.Cuts.{same_bytes, start_is}
use Rattle.wf_events.proofs.scan.scan_start.Goals as goal

pub returns : goal.returns
returns c =
    let end = same_bytes c.in-Some.rest.now c.as_slice.result.now c.ne.result c.ne.ensures c.if-ne.false ∙ c.as_slice.ensures in
    start_is c.args.bytes.now c.in-Some.name.now c.in-Some.rest.now c.in_ok-name.name c.in-Some.ensures.whole end c.in_ok-name.ensures c.in-Some.ensures.plain
