use Rattle.std.proofs.Common.{◌≡◌, [], sym, subst}
use Rattle.label_model.specs.Labels.{Label, IsLabel, label_bits}
use Rattle.wf_label.specs.Marks.{marks_of, BeginLabel, IsFrontRead}
use Rattle.wf_label.specs.declared.place.Front.{Front}
use Rattle.wf_label.specs.declared.place.Front.TheVariants.{Input as InputFront, Output as OutputFront, OfEdge as EdgeFront}
use Rattle.wf_label.proofs.LabelBegun.{label_begun}
use Rattle.wf_decode.specs.Marking.{IsReading}
use Rattle.wf_decode.proofs.LabelsRead.{input_told, output_told}
use Rattle.wf_decode.proofs.MarkNumbers.{reading_starts}
use Rattle.wf_decode.proofs.read.read_bits.Given.{Over}
use Rattle.wf_decode.proofs.read.read_bits.Goals as goal
use Rattle.wf_decode.proofs.read.read_bits.Goals.{After-grammar, After-read_front}

-- the bits begin with those of the label
begun : (over : Over) (c : After-grammar over) (x : Label) → IsLabel c.args.vl.now.grammar x → c.args.label.now ≡ label_bits x → BeginLabel c.args.vl.now.grammar (over.R.Codes.reading c.args.reader).left (marks_of c.args.vl.now.grammar x)
begun over c x is e = label_begun c.args.vl.now.grammar c.args.label.now (over.R.Codes.reading c.args.reader).left x c.requires.begun is e

-- what the front tells of them
front : (over : Over) (c : After-read_front over) (f : Front) → IsFrontRead c.grammar.result.now.core (over.R.Codes.reading c.args.reader).left f (over.R.Codes.reading c.read_front.new.bits).left →
    IsFrontRead c.args.vl.now.grammar (over.R.Codes.reading c.args.reader).left f (over.R.Codes.reading c.read_front.new.bits).left
front over c f read = subst (λ g. IsFrontRead g (over.R.Codes.reading c.args.reader).left f (over.R.Codes.reading c.read_front.new.bits).left) c.grammar.ensures.grammar read

pub read_front-requires : goal.read_front-requires
read_front-requires over c =
    let x = c.requires.label in
    let a = (goal.at.read_front-requires over c).After-grammar in
    (marks_of c.args.vl.now.grammar x.0, subst (λ g. BeginLabel g (over.R.Codes.reading c.args.reader).left (marks_of c.args.vl.now.grammar x.0)) (sym c.grammar.ensures.grammar) (begun over a x.0 x.1 x.2))

pub returns-in-Input-clause-told : goal.returns-in-Input-clause-told
returns-in-Input-clause-told over c = λ u x of_view is e.
    let a = goal.at.returns-in-Input-clause-told over c in
    let l = c.args.vl.now in
    let label = c.grammar.ensures.label in
    let only = front over a.After-read_front (InputFront c.in-Input.port) c.in-Input.ensures.read (marks_of l.grammar x) (begun over a.After-grammar x is e) in
    input_told l u label of_view x [] l.grammar.start [] c.in-Input.port.0 (subst (IsReading l u x [] l.grammar.start) only (reading_starts l u label x is))

pub returns-in-Output-clause-told : goal.returns-in-Output-clause-told
returns-in-Output-clause-told over c = λ u x of_view is e.
    let a = goal.at.returns-in-Output-clause-told over c in
    let l = c.args.vl.now in
    let label = c.grammar.ensures.label in
    let only = front over a.After-read_front (OutputFront c.in-Output.port) c.in-Output.ensures.read (marks_of l.grammar x) (begun over a.After-grammar x is e) in
    output_told l u label of_view x [] l.grammar.start [] c.in-Output.port.0 (subst (IsReading l u x [] l.grammar.start) only (reading_starts l u label x is))

pub read_place-requires-clause-place : goal.read_place-requires-clause-place
read_place-requires-clause-place over c =
    let a = goal.at.read_place-requires-clause-place over c in
    let l = c.args.vl.now in
    let label = c.grammar.ensures.label in
    let x = c.requires.label in
    let left = front over a.After-read_front EdgeFront c.in-OfEdge.ensures.read (marks_of l.grammar x.0) (begun over a.After-grammar x.0 x.1 x.2) in
    (label.of_view.0, x.0, label.of_view.1, (marks_of l.grammar x.0, left, reading_starts l label.of_view.0 label x.0 x.1))

pub returns-clause-told : goal.returns-clause-told
returns-clause-told over c = λ u x of_view is e.
    let a = goal.at.returns-clause-told over c in
    let l = c.args.vl.now in
    let label = c.grammar.ensures.label in
    let left = front over a.After-read_front EdgeFront c.in-OfEdge.ensures.read (marks_of l.grammar x) (begun over a.After-grammar x is e) in
    c.read_place.ensures.told u x of_view (marks_of l.grammar x, left, reading_starts l u label x is)
