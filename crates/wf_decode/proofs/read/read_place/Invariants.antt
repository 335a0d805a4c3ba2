use Rattle.std.proofs.Common.{◌≡◌, false, [], length, take}
use Rattle.wf_model.specs.View.{View}
use Rattle.label_model.specs.Labels.{Label}
use Rattle.wf_vlabel.specs.Seen.{IsLabelOfView}
use Rattle.wf_decode.specs.Marking.{IsReadAt}
use Rattle.wf_decode.proofs.read.read_place.Given as goal

abbrev pub invariant-loop-here : goal.invariant-loop-here
invariant-loop-here over l = record {
  room : length l.legs ≡ length l.initial.legs;
  read : (u : View) (x : Label) → IsLabelOfView l.vl u → IsReadAt l.vl u x [] l.vl.grammar.start false (over.R.Codes.reading l.initial.bits).left →
      IsReadAt l.vl u x (take l.to.held l.legs) l.to.module.0 false (over.R.Codes.reading l.bits).left;
}

abbrev pub decreases-loop-here : goal.decreases-loop-here
decreases-loop-here over l = length (over.R.Codes.reading l.bits).left
