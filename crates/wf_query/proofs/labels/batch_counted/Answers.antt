use Rattle.std.proofs.Common.{◌≡◌, ℕ, List, [], refl, sym, subst, rules}
use Rattle.wf_model.specs.Lists.{AllDiffer}
use Rattle.wf_model.specs.Grammar.{Grammar}
use Rattle.wf_model.specs.View.{View}
use Rattle.label_model.specs.Files.{Entry}
use Rattle.label_file.specs.Stored.{EntryHeld, AreHeldOf, IsStoreFor}
use Rattle.label_file.proofs.ReadSoFar.{names_same}
use Rattle.wf_query.specs.Answers.{IsAnswerText}
use Rattle.wf_query.specs.Known.{LabelsKnown, AreOfView, IsWordOfLabels}
use Rattle.wf_query.specs.Lines.{IsOneWord}
use Rattle.wf_query.proofs.Entries.{one_word}
use Rattle.wf_query.proofs.Lent.{given_back}
use Rattle.wf_query.proofs.PutAnswers.{put_alike}
use Rattle.wf_query.proofs.labels.batch_counted.Goals as goal

-- a query has one word by the entries that a store holds
one_of_store : (g : Grammar) (u : View) (entries : List Entry) (hs : List EntryHeld) → IsStoreFor g hs → AreHeldOf g entries hs → IsOneWord (IsAnswerText g u entries)
one_of_store g u entries hs store held = one_word g u entries (subst (λ (l : List (List ℕ)). AllDiffer l) (names_same g entries hs held) store.differ)

-- so by what is known, where the label is that of the view
one_of_known : (k : LabelsKnown) → IsStoreFor k.label.grammar k.held → AreOfView k → IsOneWord (IsWordOfLabels k)
one_of_known k store of first second x y p q = one_of_store k.label.grammar k.view k.entries k.held store of.1 first second x y (p of) (q of)

pub returns-clause-put : goal.returns-clause-put
returns-clause-put g c f told stands u entries of held =
    let k : LabelsKnown = record { label = c.args.vl.now; held = c.args.store.now; view = u; entries = entries; place = _; room = c.args.scratch.now } in
    put_alike (IsWordOfLabels k) (IsAnswerText c.args.vl.now.grammar u entries) (λ first second word h. h (of, held)) (λ first second word h is. h) _ _ _ _ _
    (c.answer_left-answered.ensures.put f told stands k (refl, refl, refl, refl) (one_of_known k c.requires.store (of, held)))

-- the room is as it was, whatever the view and the entries are
pub returns-clause-room : goal.returns-clause-room
returns-clause-room g c =
    let known = c.answer_left-answered.ensures.known (record { label = c.args.vl.now; held = c.args.store.now; view = record { expanded = []; shown = [] }; entries = []; place = _; room = c.args.scratch.now }) (refl, refl, refl, refl) in
    given_back (λ room. room ≡ c.args.scratch.now) _ _ _ _ (sym known.2) (search rules) known.3
