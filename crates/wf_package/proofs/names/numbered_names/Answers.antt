use Rattle.package_model.specs.Packages.{numbered}
use Rattle.wf_package.proofs.FlaggedPlaces.{value_added}
use Rattle.wf_package.proofs.names.numbered_names.Goals as goal

pub loop-k-preserved : goal.loop-k-preserved
loop-k-preserved c = value_added (numbered c.args.letter) c.loop-k.k _ _ _ c.loop-k.invariant c.in_ok-name.ensures c.in_ok-push.ensures.items
