-- A query on a run is answered by one word at most.
use Rattle.std.proofs.Common.{◌≡◌, ℕ, Bool, true, false, List, ◌++◌, Option, Some, None, sym, ◌∙◌, inl, inr}
use Rattle.wf_model.specs.declared.event.Event.{Event}
use Rattle.wf_model.specs.Grammar.{Grammar}
use Rattle.wf_model.specs.View.{View}
use Rattle.wf_model.specs.Proper.{IsProper}
use Rattle.wf_model.specs.Run.{IsRun}
use Rattle.wf_model.specs.Items.{Item}
use Rattle.wf_model.specs.Finishing.{ExpandsComposites}
use Rattle.wf_laws.proofs.Growth.{finishing_law}
use Rattle.wf_query.specs.Lines.{IsOneWord}
use Rattle.wf_flat.specs.Shown.{are_visible}
use Rattle.cmd_ask.specs.Answers.{IsShown, IsAnswerFor, IsAnswerOfRun}
use Rattle.cmd_ask.specs.Prepared.{PreparedSeen}
use Rattle.cmd_ask.specs.Told.{IsReady, IsToldBy}

one_shown : (t : Bool) (g : Grammar) (u : View) (f : List Event) (a b : Item) (x y : List ℕ) → IsShown t g u f a b x → IsShown t g u f a b y → x ≡ y
one_shown false g u f a b x y p q = p ∙ sym q
one_shown true g u f a b x y (inl p) (inl q) = p.0 ∙ sym q.0
one_shown true g u f a b x y (inl p) (inr q) = absurd (q.1 p.1)
one_shown true g u f a b x y (inr p) (inl q) = absurd (p.1 q.1)
one_shown true g u f a b x y (inr p) (inr q) = p.0 ∙ sym q.0

one_for : (g : Grammar) (u : View) (e f : List Event) (a b : Option Item) (x y : List ℕ) → IsAnswerFor g u e f a b x → IsAnswerFor g u e f a b y → x ≡ y
one_for g u e f None b x y p q = p ∙ sym q
one_for g u e f (Some a) None x y p q = p ∙ sym q
one_for g u e f (Some a) (Some b) x y p q = one_shown (are_visible g u e a b) g u f a b x y p q

-- since the run has a finishing, in which the query has one
pub one_run_word : (g : Grammar) (u : View) (e : List Event) → IsProper g → ExpandsComposites g u → IsRun g g.start e → IsOneWord (IsAnswerOfRun g u e)
one_run_word g u e proper composites run first second x y p q =
    let f = finishing_law g u proper composites g.start e run in
    one_for g u e (e ++ f.0) _ _ x y (p f.0 f.1) (q f.0 f.1)

-- so by what is prepared
pub one_prepared_word : (p : PreparedSeen) → IsReady p → IsOneWord (IsToldBy p)
one_prepared_word p ready = one_run_word _ _ _ ready.proper ready.composites ready.run.accepted.0
