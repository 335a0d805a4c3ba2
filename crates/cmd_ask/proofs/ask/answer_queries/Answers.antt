use Rattle.std.proofs.Common.{◌≡◌, ℕ, List, Option, [], sym, ap, ◌∙◌, subst}
use Rattle.wf_model.specs.Grammar.{Grammar}
use Rattle.wf_model.specs.View.{View}
use Rattle.label_model.specs.Files.{Entry}
use Rattle.label_file.specs.Stored.{EntryHeld, AreHeldOf, IsStoreFor}
use Rattle.wf_vlabel.specs.Seen.{ViewLabelSeen, IsLabelOfView}
use Rattle.wf_io.specs.Lines.{FileLines}
use Rattle.wf_query.specs.Answers.{IsAnswerText}
use Rattle.wf_query.specs.Lines.{Ended, ArePut}
use Rattle.wf_message.specs.Endings.{end_after}
use Rattle.wf_stage.proofs.Ends.{begins_nothing}
use Rattle.wf_stage.proofs.Obeying.{obeys_wanting}
use Rattle.wf_asking.proofs.AnsweredLines.{queries_put}
use Rattle.wf_asking.proofs.NoMemoryOfLines.{untouched_so}
use Rattle.cmd_ask.proofs.ask.answer_queries.Goals as goal

pub returns-in_default-clause-obeys : goal.returns-in_default-clause-obeys
returns-in_default-clause-obeys g c = λ entries held. obeys_wanting [] _ (λ f. begins_nothing _) _ _

pub returns-in_default-for_view-clause-obeys : goal.returns-in_default-for_view-clause-obeys
returns-in_default-for_view-clause-obeys g c = λ entries held. obeys_wanting [] _ (λ f. begins_nothing _) _ _

-- the label of the view is of the same grammar
pub batch-requires-clause-store : goal.batch-requires-clause-store
batch-requires-clause-store g c =
    let same = c.in-Ok.ensures.grammar in
    subst (λ (x : Grammar). IsStoreFor x c.args.store.now) (sym same) c.requires.store

-- so what is put by the label of a view is put by the grammar and the view
put_under : (g : Grammar) (u : View) (label : ViewLabelSeen) (entries : List Entry) (held : List EntryHeld) (file : FileLines) (e : Option Ended) (Failed : Type 0) (old new : Option (List ℕ)) → label.grammar ≡ g → IsLabelOfView label u → AreHeldOf g entries held →
    ((v : View) (es : List Entry) → IsLabelOfView label v → AreHeldOf label.grammar es held → ArePut (IsAnswerText label.grammar v es) file e Failed old new) → ArePut (IsAnswerText g u entries) file e Failed old new
put_under g u label entries held file e Failed old new same of are put =
    subst (λ (x : Grammar). ArePut (IsAnswerText x u entries) file e Failed old new) same
    (put u entries of (subst (λ (x : Grammar). AreHeldOf x entries held) (sym same) are))

pub returns-clause-obeys : goal.returns-clause-obeys
returns-clause-obeys g c = λ entries held.
    let b = c.batch.ensures in
    let same = c.in-Ok.ensures.grammar in
    queries_put _ _ _ _ _ _ _ _ _ _ _ _ _ c.batch.result (λ f told. put_under _ _ _ entries _ _ _ _ _ _ same c.in-Ok.ensures.label held (b.put f told)) b.same b.put_same b.cause b.files b.once b.later b.put_later _ c.queries_end.ensures

pub returns-clause-untouched : goal.returns-clause-untouched
returns-clause-untouched g c = λ wants. untouched_so _ _ _ _ _ _ c.batch.result (end_after c.queries_end.result) c.queries_end.ensures wants c.batch.ensures.untouched c.batch.ensures.cause
