use Rattle.std.proofs.Common.{◌∙◌}
use Rattle.wf_events.proofs.Cuts.{same_bytes, expand_is}
use Rattle.wf_events.proofs.scan.scan_expand.Goals as goal

pub returns : goal.returns
returns c =
    let front = c.in-Some.front in
    let end = same_bytes c.in_ok-names.rest.now c.as_slice.result.now c.ne.result c.ne.ensures c.if-ne.false ∙ c.as_slice.ensures in
    expand_is c.args.bytes.now front.instance.now front.rest.now c.in_ok-names.rest.now c.in_ok-instance.instance front.production c.in_ok-names.names.items c.from_vec.result
    c.in-Some.ensures.whole c.in_ok-names.ensures.whole end c.in_ok-instance.ensures c.from_vec.ensures c.in-Some.ensures.plain c.in_ok-names.ensures.plain c.in-Some.ensures.fits
