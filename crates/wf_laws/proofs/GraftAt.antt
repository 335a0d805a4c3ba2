-- A run goes on with a run of an instance that is not expanded.
use Rattle.std.proofs.Common.{◌≡◌, ℕ, Bool, true, false, cond, List, [], ◌∷◌, ◌++◌, bytes_eq, Option, Some, None, refl, sym, ap, ◌∙◌, subst, inl, inr, ⊎_elim, true≢false}
use Rattle.std.proofs.lemmas.Bool.{cases_Bool}
use Rattle.wf_model.specs.Lists.{IsIn}
use Rattle.wf_model.specs.Grammar.{Grammar}
use Rattle.wf_model.specs.declared.event.Event.{Event}
use Rattle.wf_model.specs.declared.event.Event.TheVariants.{Start, Expand}
use Rattle.wf_model.specs.Run.{Instance, Expanded, made, names_of, expanded_by, AllExtend, IsRun, below, family, sub_run}
use Rattle.wf_model.proofs.Lists.{same_bytes, bytes_same}
use Rattle.wf_laws.specs.Graft.{after_start, CanGraftAt, GraftAtLaw}
use Rattle.wf_laws.proofs.Growth.{extended}
use Rattle.wf_laws.proofs.HeldRuns.{run_shut, Holds, goes_in}
use Rattle.wf_laws.proofs.Below.{all_below, below-append, ExpandsNone, passed_by}
use Rattle.wf_laws.proofs.GraftedRuns.{begins}

-- no event expands what is not expanded
unexpanded : (n : List ℕ) (events : List Event) → expanded_by events n ≡ None → ExpandsNone (n ∷ []) events
unexpanded n [] h i p new at q = at
unexpanded n (Start r ∷ events) h i p new (inl e) q = absurd (cc)
unexpanded n (Start r ∷ events) h i p new (inr at) q = unexpanded n events h i p new at q
unexpanded n (Expand j s names ∷ events) h i p new at q = go (λ w. unexpanded n events w i p new) (bytes_eq j n) refl h at
  where
    go : (expanded_by events n ≡ None → IsIn (Expand i p new) events → IsIn i (n ∷ []) → ⊥) → (b : Bool) → bytes_eq j n ≡ b → cond {A = Option Expanded} b (Some (record { production = s; names = names })) (expanded_by events n) ≡ None → IsIn (Expand i p new) (Expand j s names ∷ events) → ⊥
    go ih true e w at = absurd (cc)
    go ih false e w (inl d) =
        let same : i ≡ j = cc in
        let named : i ≡ n = ⊎_elim (λ a. a) (λ a. absurd a) q in
        true≢false (sym (bytes_same j n (sym same ∙ named)) ∙ e)
    go ih false e w (inr at) = ih w at q

module _ (g : Grammar) (m : ℕ) (events : List Event) (i : Instance) (own : List Event) (run : IsRun g m events) (can : CanGraftAt g m events i own) where
  -- the other names of the run
  abbrev Others : List ℕ → Type 0
  Others n = IsIn n (names_of (made g m events)) × (n ≡ i.name → ⊥)

  begun : own ≡ Start i.name ∷ after_start own
  begun = begins g i.module_no own can.run can.started ∙ ap (λ n. Start n ∷ after_start own) can.root

  extends : AllExtend g i.module_no (Start i.name ∷ []) (after_start own)
  extends = (subst (IsRun g i.module_no) begun can.run).1

  -- the instance is the root of its run
  root_held : Holds g m i.module_no Others events (Start i.name ∷ [])
  root_held = record {
    part = λ j q. ⊎_elim (λ e. subst (λ z. IsIn z (made g m events)) (sym e) can.stands) (λ a. absurd a) q;
    within = λ n q. ⊎_elim (λ e. ap (expanded_by events) e ∙ can.unexpanded) (λ a. absurd a) q;
    names = λ n q. ⊎_elim
        (λ e. inr (inl (same_bytes n i.name e)))
        (λ e. inl (q, λ same. true≢false (sym (bytes_same n i.name same) ∙ e)))
        (cases_Bool (bytes_eq n i.name));
    outer_shut = run_shut g m events run;
    inner_shut = λ n q. refl;
    begun = (i.name, inl refl);
  }

  goes_on : IsRun g m (events ++ after_start own)
  goes_on = extended g m events (after_start own) [] run
      (goes_in g m i.module_no Others (after_start own) events (Start i.name ∷ []) root_held extends
      (λ n q other. other.1 (can.new n (subst (λ e. IsIn n (names_of (made g i.module_no e))) (sym begun) q) other.0))).0

  own_run : sub_run i.name (events ++ after_start own) ≡ own
  own_run =
      let f = i.name ∷ [] in
      let passed = passed_by f events (unexpanded i.name events can.unexpanded) in
      ap (λ z. Start i.name ∷ z)
      (below-append f events (after_start own) ∙
      (ap (λ l. l ++ below (family f events) (after_start own)) passed.0 ∙
      (ap (λ z. below z (after_start own)) passed.1 ∙
      all_below g i.module_no (after_start own) (Start i.name ∷ []) f i.name (inl refl) (λ j q. q) extends))) ∙
      sym begun

pub graft_at_law : GraftAtLaw
graft_at_law g m events i own run can = record { run = goes_on g m events i own run can; own_run = own_run g m events i own run can }
