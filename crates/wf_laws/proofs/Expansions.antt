-- Expansions: how one begins whose root is open, and those of the instances that are seen in it.
use Rattle.std.proofs.Common.{◌≡◌, ℕ, suc, ◌<◌, ◌≤◌, Bool, true, false, cond, IsTrue, List, [], ◌∷◌, ◌++◌, length, bytes_eq, Option, Some, refl, sym, ap, ◌∙◌, subst, inl, ⊎_elim, arith}
use Rattle.wf_model.specs.Lists.{IsIn, some}
use Rattle.wf_model.specs.Grammar.{Grammar, head_of}
use Rattle.wf_model.specs.View.{View, expands}
use Rattle.wf_model.specs.declared.event.Event.{Event}
use Rattle.wf_model.specs.declared.event.Event.TheVariants.{Start, Expand}
use Rattle.wf_model.specs.Run.{Instance, Expanded, expanded_by, IsRun, seen_in, below, family, sub_run}
use Rattle.wf_model.specs.SubRun.{is_among}
use Rattle.wf_model.specs.Safe.{IsExpansion, IsBy}
use Rattle.wf_model.proofs.Lists.{bytes_same, among_gives, in_filter_from, is_at, at_in}
use Rattle.wf_laws.proofs.OwnRun.{follows, sub_run_law, skipped}
use Rattle.wf_laws.proofs.Parts.{child, opened_run, root_not_child}
use Rattle.wf_laws.proofs.Root.{kid_run}

-- the root of an opened run is expanded as the run says
pub root_told : (r : List ℕ) (p : ℕ) (names : List (List ℕ)) (rest : List Event) → expanded_by (opened_run r p names rest) r ≡ Some (record { production = p; names = names })
root_told r p names rest = ap (λ b. cond {A = Option Expanded} b (Some (record { production = p; names = names })) (expanded_by rest r)) (bytes_same r r refl)

-- what holds of each expansion whose root is opened holds of each expansion of a module that the view expands
pub when_open : (g : Grammar) (u : View) (P : ℕ → List Event → Type 0) →
    ((r : List ℕ) (p : ℕ) (names : List (List ℕ)) (rest : List Event) → IsExpansion g u (head_of g p) (opened_run r p names rest) → expands u (head_of g p) ≡ true → P (head_of g p) (opened_run r p names rest)) →
    (m : ℕ) (e : List Event) → IsExpansion g u m e → expands u m ≡ true → P m e
when_open g u P h m [] x ex = absurd (x.started refl)
when_open g u P h m (Expand i p names ∷ rest) x ex = absurd x.run.0.stands
when_open g u P h m (Start r ∷ []) x ex = absurd (x.finished (record { name = r; module_no = m }) (inl refl, ex, refl))
when_open g u P h m (Start r ∷ Start s ∷ rest) x ex = let e = x.run.1.0.0 in absurd (cc)
when_open g u P h m (Start r ∷ Expand i p names ∷ rest) x ex =
    subst (λ z. P m (Start r ∷ Expand z p names ∷ rest)) (sym at_r)
    (subst (λ z. P z (opened_run r p names rest)) at_m (h r p names rest opened (ap (expands u) at_m ∙ ex)))
  where
    stands : ◌≡◌ {A = Instance} (record { name = i; module_no = head_of g p }) (record { name = r; module_no = m })
    stands = ⊎_elim (λ a. a) (λ a. absurd a) x.run.1.0.stands

    at_r : i ≡ r
    at_r = ap (λ (z : Instance). z.name) stands

    at_m : head_of g p ≡ m
    at_m = ap (λ (z : Instance). z.module_no) stands

    opened : IsExpansion g u (head_of g p) (opened_run r p names rest)
    opened = subst (λ z. IsExpansion g u z (opened_run r p names rest)) (sym at_m) (subst (λ z. IsExpansion g u m (Start r ∷ Expand z p names ∷ rest)) at_r x)

below_shorter : (names : List (List ℕ)) (events : List Event) → length (below names events) ≤ length events
below_shorter names [] = omega arith
below_shorter names (Start r ∷ events) = let h = below_shorter names events in omega arith
below_shorter names (Expand i p new ∷ events) = go (some (bytes_eq i) names) (below_shorter (names ++ new) events) (below_shorter names events)
  where
    go : (b : Bool) → length (below (names ++ new) events) ≤ length events → length (below names events) ≤ length events → length (cond b (Expand i p new ∷ []) [] ++ below (cond b (names ++ new) names) events) ≤ suc (length events)
    go true h k = omega arith
    go false h k = omega arith

-- a child's run is shorter than the whole
pub kid_shorter : (g : Grammar) (m : ℕ) (r : List ℕ) (p : ℕ) (names : List (List ℕ)) (rest : List Event) → IsRun g m (opened_run r p names rest) → (k : ℕ) → k < length names → length (kid_run names (opened_run r p names rest) k) ≤ suc (length rest)
kid_shorter g m r p names rest run k hk =
    let apart : r ≡ child names k → ⊥ = λ e. root_not_child g m r p names rest run (subst (λ z. IsIn z names) (sym e) (at_in _ k names (is_at k names [] hk))) in
    let same : below (child names k ∷ []) (opened_run r p names rest) ≡ below (child names k ∷ []) rest = (skipped (child names k) (opened_run r p names []) rest (apart, tt)).0 in
    let short = below_shorter (child names k ∷ []) rest in
    omega (arith, ap length same)

module _ (g : Grammar) (u : View) (m : ℕ) (e : List Event) (i : Instance) where
  -- the run of a seen instance of an expansion is an expansion of its module
  pub own_expansion : IsExpansion g u m e → IsIn i (seen_in g u m e) → IsExpansion g u i.module_no (sub_run i.name e)
  own_expansion x seen =
      let law = sub_run_law g u m e i x.run seen in
      record { run = law.run; started = λ q. (cc); finished = law.finished x.finished }

  -- it is expanded by chosen productions where the instances of its family are
  pub own_by : (Chosen : ℕ → ℕ → Type 0) → IsRun g m e → IsIn i (seen_in g u m e) →
      ((j : Instance) → IsIn j (seen_in g u m e) → IsIn j.name (family (i.name ∷ []) e) → IsTrue (expands u j.module_no) → (x : Expanded) → expanded_by e j.name ≡ Some x → Chosen j.module_no x.production) →
      IsBy g u i.module_no Chosen (sub_run i.name e)
  own_by Chosen run seen by j s ex x h =
      let tr = (follows g u m e i run seen).tracks in
      let q = in_filter_from (is_among (family (i.name ∷ []) e)) j (seen_in g u m e) (subst (IsIn j) tr.seen s) in
      let n = among_gives j.name (family (i.name ∷ []) e) q.1 in
      by j q.0 n ex x (sym (tr.within j.name n) ∙ h)
