use Rattle.wf_view.proofs.KnownViews.{held}
use Rattle.wf_safe.proofs.SeenBelow.{seen_below}
use Rattle.wf_package.proofs.ShownFound.{shown_are}
use Rattle.wf_package.proofs.shown.shown_parts.Goals as goal

pub returns : goal.returns
returns c =
    let g = c.args.v.grammar.now.core in
    let v = c.args.v.view.now in
    let formed = c.start-formed.ensures.formed in
    shown_are g v (held g v c.args.v.held) (λ m s. seen_below g v.core m formed s) _ _ formed.heads c.in_ok-modules.ensures c.in_ok-productions.ensures
