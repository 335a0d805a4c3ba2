-- A run whose items are labelled event by event.
use Rattle.std.proofs.Common.{◌≡◌, ℕ, List, [], ◌∷◌, ◌++◌, length, None, refl, sym, ap, ◌∙◌, subst, append_assoc, append-nil}
use Rattle.std.proofs.lemmas.List.{length-map, map-append}
use Rattle.wf_model.specs.declared.event.Event.{Event}
use Rattle.wf_model.specs.Faults.{fault_of}
use Rattle.wf_model.specs.Grammar.{Grammar}
use Rattle.wf_model.specs.Items.{Item}
use Rattle.wf_model.specs.Run.{Instance, made, IsRun, IsAccepted}
use Rattle.wf_spec.specs.Held.{HeldGrammar}
use Rattle.label_model.specs.Labels.{Label, label_bits}
use Rattle.label_model.specs.RunLabels.{labelled, labelled_by}
use Rattle.label_model.proofs.FileGrowth.{labelled-append}
use Rattle.wf_run.specs.Runs.{RunSeen, Node, IsRunOf}
use Rattle.wf_labeller.specs.Groups.{Labelled, bits_of_items}
use Rattle.wf_gen.proofs.GeneratedRuns.{beginning_accepted}
use Rattle.wf_model.proofs.Taking.{taking_law}

-- a run that is accepted took each of its events
takes : (g : Grammar) (limit : ℕ) (before : List Event) (e : Event) (es : List Event) → IsAccepted g limit (before ++ e ∷ es) → fault_of g limit before e ≡ None
takes g limit before e es acc =
    (taking_law g limit before e (beginning_accepted g limit before (e ∷ es) acc)).1
    (beginning_accepted g limit (before ++ e ∷ []) es (subst (IsAccepted g limit) (sym (append_assoc before (e ∷ []) es)) acc))

-- the items of an event more are those that were there, and those that it makes
labelled-push : (g : Grammar) (before : List Event) (e : Event) → IsRun g g.start (before ++ e ∷ []) → labelled g (before ++ e ∷ []) ≡ labelled g before ++ labelled_by g (before ++ e ∷ []) e
labelled-push g before e run = labelled-append g before (e ∷ []) run ∙ ap (λ z. labelled g before ++ z) (append-nil (labelled_by g (before ++ e ∷ []) e))

bits-append : (a b : List (Item × Label)) → bits_of_items (a ++ b) ≡ bits_of_items a ++ bits_of_items b
bits-append a b = map-append (λ t. label_bits t.1) a b

-- some events were taken, and the labels are those of their items; these events and those that are left are all
pub record IsLabelledSoFar (g : HeldGrammar) (most : ℕ) (all left : List Event) (l : Labelled) : Type 0 where
  pub done : List Event
  pub split : done ++ left ≡ all
  pub run : IsRunOf l.run done
  pub grammar : l.run.grammar ≡ g
  pub most_is : l.run.most ≡ most
  pub labels : l.labels ≡ bits_of_items (labelled g.core done)

-- none was taken
pub none_labelled : (l : Labelled) (all : List Event) → IsRunOf l.run [] → l.labels ≡ [] → IsLabelledSoFar l.run.grammar l.run.most all all l
none_labelled l all run none = record { done = []; split = refl; run = run; grammar = refl; most_is = refl; labels = none }

module _ (g : HeldGrammar) (most : ℕ) (all left : List Event) (l : Labelled) (so_far : IsLabelledSoFar g most all left l) where
  -- the next event extends the run
  pub next_extends : (e : Event) (rest : List Event) → left ≡ e ∷ rest → IsAccepted g.core most all → (before : List Event) × IsRunOf l.run before × (fault_of l.run.grammar.core l.run.most before e ≡ None)
  next_extends e rest next accepted =
      let acc = subst (IsAccepted g.core most) (sym so_far.split ∙ ap (λ l. so_far.done ++ l) next) accepted in
      let fault = takes g.core most so_far.done e rest acc in (
        so_far.done,
        so_far.run,
        subst (λ (h : HeldGrammar). fault_of h.core l.run.most so_far.done e ≡ None) (sym so_far.grammar) (subst (λ m. fault_of g.core m so_far.done e ≡ None) (sym so_far.most_is) fault),
      )

  -- it was taken, and its items labelled
  pub one_labelled : (e : Event) (rest : List Event) (s : Labelled) → left ≡ e ∷ rest → ((before : List Event) → IsRunOf l.run before → IsRunOf s.run (before ++ e ∷ [])) →
      ((before : List Event) → IsRunOf l.run before → s.labels ≡ l.labels ++ bits_of_items (labelled_by l.run.grammar.core (before ++ e ∷ []) e)) → s.run.grammar ≡ l.run.grammar → s.run.most ≡ l.run.most → IsLabelledSoFar g most all rest s
  one_labelled e rest s next taken labels grammar most_is =
      let run = taken so_far.done so_far.run in
      let same : s.run.grammar ≡ g = grammar ∙ so_far.grammar in
      let made_run : IsRun g.core g.core.start (so_far.done ++ e ∷ []) = subst (λ (h : HeldGrammar). IsRun h.core h.core.start (so_far.done ++ e ∷ [])) same run.accepted.0 in
      let by = labelled_by g.core (so_far.done ++ e ∷ []) e in
      record {
        done = so_far.done ++ e ∷ [];
        split = append_assoc so_far.done (e ∷ []) rest ∙ (ap (λ l. so_far.done ++ l) (sym next) ∙ so_far.split);
        run = run;
        grammar = same;
        most_is = most_is ∙ so_far.most_is;
        labels =
            labels so_far.done so_far.run ∙
            (ap (λ (h : HeldGrammar). l.labels ++ bits_of_items (labelled_by h.core (so_far.done ++ e ∷ []) e)) so_far.grammar ∙
            (ap (λ z. z ++ bits_of_items by) so_far.labels ∙
            (sym (bits-append (labelled g.core so_far.done) by) ∙ ap bits_of_items (sym (labelled-push g.core so_far.done e made_run)))));
      }

  -- none is left
  done_is : left ≡ [] → so_far.done ≡ all
  done_is none = sym (append-nil so_far.done) ∙ (ap (λ l. so_far.done ++ l) (sym none) ∙ so_far.split)

  pub all_run : left ≡ [] → IsRunOf l.run all
  all_run none = subst (IsRunOf l.run) (done_is none) so_far.run

  pub all_labels : left ≡ [] → l.labels ≡ bits_of_items (labelled g.core all)
  all_labels none = so_far.labels ∙ ap (λ es. bits_of_items (labelled g.core es)) (done_is none)

-- a run has the instances that its events made
pub instances_made : (g : HeldGrammar) (r : RunSeen) (events : List Event) → IsRunOf r events → r.grammar ≡ g → length r.nodes ≡ length (made g.core g.core.start events)
instances_made g r events run same =
    sym (length-map r.nodes (λ (n : Node). n.module_no)) ∙
    (ap (λ (l : List ℕ). length l) run.modules ∙
    (length-map (made r.grammar.core r.grammar.core.start events) (λ (i : Instance). i.module_no) ∙
    ap (λ (h : HeldGrammar). length (made h.core h.core.start events)) same))

-- a labeller of a run is of its grammar, and has its limit
pub accepted_by : (g : HeldGrammar) (r l : RunSeen) (most : ℕ) (events : List Event) → l ≡ r → r.grammar ≡ g → r.most ≡ most → IsAccepted g.core most events → IsAccepted l.grammar.core l.most events
accepted_by g r l most events is grammar most_is accepted =
    subst (λ (z : RunSeen). IsAccepted z.grammar.core z.most events) (sym is) (subst (λ m. IsAccepted r.grammar.core m events) (sym most_is) (subst (λ (h : HeldGrammar). IsAccepted h.core most events) (sym grammar) accepted))
