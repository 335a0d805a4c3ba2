-- What is known of what answers from labels.
use Rattle.std.specs.Prelude.{ℕ, List}
use Rattle.wf_model.specs.View.{View}
use Rattle.label_model.specs.Files.{Entry}
use Rattle.label_file.specs.Stored.{EntryHeld, AreHeldOf}
use Rattle.wf_vlabel.specs.Seen.{ViewLabelSeen, IsLabelOfView}
use Rattle.wf_query.specs.Answers.{IsAnswerText}

-- the label of a view and what a store holds; a view and the entries of a label file; and which room for decisions is used, and how large it is
pub record LabelsKnown : Type 0 where
  pub label : ViewLabelSeen
  pub held : List EntryHeld
  pub view : View
  pub entries : List Entry
  pub place : ℕ
  pub room : ℕ

-- the label is that of the view, and the store holds the entries
abbrev pub AreOfView : LabelsKnown → Type 0
AreOfView k = IsLabelOfView k.label k.view × AreHeldOf k.label.grammar k.entries k.held

-- then a word answers two names if it is that of the answer to them
abbrev pub IsWordOfLabels : LabelsKnown → List ℕ → List ℕ → List ℕ → Type 0
IsWordOfLabels k first second word = AreOfView k → IsAnswerText k.label.grammar k.view k.entries first second word
