-- The labels of the entries of an event are within the bound.
use Rattle.std.proofs.Common.{◌≡◌, ℕ, ◌^◌, ◌≤◌, List, [], ◌∷◌, ◌++◌, map, zip, sym, subst, ◌∙◌, inl, inr, arith, ap}
use Rattle.wf_model.specs.declared.event.Event.{Event}
use Rattle.wf_model.specs.Lists.{IsIn}
use Rattle.wf_model.specs.Grammar.{Grammar}
use Rattle.wf_model.specs.WellFormed.{IsWellFormed}
use Rattle.wf_model.specs.Linear.{IsLinear}
use Rattle.wf_model.specs.Run.{IsAccepted}
use Rattle.wf_model.specs.Items.{items_by}
use Rattle.wf_model.proofs.Lists.{in_map_from}
use Rattle.label_model.specs.RunLabels.{labels_by, labelled_by}
use Rattle.label_model.specs.Files.{Entry, entry_of}
use Rattle.label_model.specs.Bound.{expand_events}
use Rattle.label_model.proofs.RunBounds.{bound_law}
use Rattle.wf_spec.specs.Held.{HeldGrammar}
use Rattle.wf_run.specs.Runs.{RunSeen, IsRunOf, GoesOn}
use Rattle.wf_labeller.specs.Entries.{HaveLabelsWithin}
use Rattle.wf_labeller.specs.Groups.{AreLabelsWithin}

-- the second part of a pair of two lists
pub in_zip : {A B : Type 0} (t : A × B) (xs : List A) (ys : List B) → IsIn t (zip xs ys) → IsIn t.1 ys
in_zip t [] ys h = absurd h
in_zip t (x ∷ xs) [] h = absurd h
in_zip t (x ∷ xs) (y ∷ ys) (inl e) = inl (ap (λ z. z.1) e)
in_zip t (x ∷ xs) (y ∷ ys) (inr h) = inr (in_zip t xs ys h)

-- the labels of the items of an event are within the bound
labels_within : (g : Grammar) → IsWellFormed g → IsLinear g → (most : ℕ) → most ≤ 2 ^ 24 → (events : List Event) (e : Event) → IsAccepted g most (events ++ e ∷ []) → AreLabelsWithin g (events ++ e ∷ []) e (expand_events (events ++ e ∷ []))
labels_within g wf lin most few events e acc t h =
    let few_made = acc.1 in
    bound_law g wf lin events e (acc.0, omega arith, acc.2) t.1 (in_zip t (items_by g g.start e) (labels_by g (events ++ e ∷ []) e) h)

pub within_bound : (g : Grammar) → IsWellFormed g → IsLinear g → (most : ℕ) → most ≤ 2 ^ 24 → (events : List Event) (e : Event) → IsAccepted g most (events ++ e ∷ []) →
    HaveLabelsWithin g (events ++ e ∷ []) e (expand_events (events ++ e ∷ [])) (map entry_of (labelled_by g (events ++ e ∷ []) e))
within_bound g wf lin most few events e acc x h =
    let all = events ++ e ∷ [] in
    let t = in_map_from entry_of x (labelled_by g all e) h in
    record {
      labelled = t.0;
      made = t.1;
      is = t.2;
      few = labels_within g wf lin most few events e acc t.0 t.1;
    }

-- the same in the run after the event
pub made_within : (old inside new : RunSeen) (h : HeldGrammar) → inside ≡ old → h ≡ inside.grammar → IsWellFormed h.core → IsLinear inside.grammar.core → inside.most ≤ 2 ^ 24 → GoesOn old new →
    (events : List Event) (e : Event) → IsRunOf new (events ++ e ∷ []) → (entries : List Entry) → entries ≡ map entry_of (labelled_by old.grammar.core (events ++ e ∷ []) e) → HaveLabelsWithin new.grammar.core (events ++ e ∷ []) e new.expands entries
made_within old inside new h is read wf lin few goes events e run entries q =
    let same : inside.grammar ≡ new.grammar = ap (λ (r : RunSeen). r.grammar) is ∙ sym goes.grammar in
    let limit : new.most ≤ 2 ^ 24 = subst (λ n. n ≤ 2 ^ 24) (ap (λ (r : RunSeen). r.most) is ∙ sym goes.most) few in
    let formed : IsWellFormed new.grammar.core = subst (λ (g : HeldGrammar). IsWellFormed g.core) (read ∙ same) wf in
    let linear : IsLinear new.grammar.core = subst (λ (g : HeldGrammar). IsLinear g.core) same lin in
    let all = within_bound new.grammar.core formed linear new.most limit events e run.accepted in
    subst (λ n. HaveLabelsWithin new.grammar.core (events ++ e ∷ []) e n entries) (sym run.expands)
    (subst (HaveLabelsWithin new.grammar.core (events ++ e ∷ []) e (expand_events (events ++ e ∷ []))) (sym (q ∙ ap (λ (g : HeldGrammar). map entry_of (labelled_by g.core (events ++ e ∷ []) e)) (sym goes.grammar))) all)

-- so are those of the items alone
pub items_within : (old inside new : RunSeen) (h : HeldGrammar) → inside ≡ old → h ≡ inside.grammar → IsWellFormed h.core → IsLinear inside.grammar.core → inside.most ≤ 2 ^ 24 → GoesOn old new →
    (events : List Event) (e : Event) → IsRunOf new (events ++ e ∷ []) → AreLabelsWithin new.grammar.core (events ++ e ∷ []) e new.expands
items_within old inside new h is read wf lin few goes events e run =
    let same : inside.grammar ≡ new.grammar = ap (λ (r : RunSeen). r.grammar) is ∙ sym goes.grammar in
    let limit : new.most ≤ 2 ^ 24 = subst (λ n. n ≤ 2 ^ 24) (ap (λ (r : RunSeen). r.most) is ∙ sym goes.most) few in
    let formed : IsWellFormed new.grammar.core = subst (λ (g : HeldGrammar). IsWellFormed g.core) (read ∙ same) wf in
    let linear : IsLinear new.grammar.core = subst (λ (g : HeldGrammar). IsLinear g.core) same lin in
    subst (AreLabelsWithin new.grammar.core (events ++ e ∷ []) e) (sym run.expands) (labels_within new.grammar.core formed linear new.most limit events e run.accepted)
