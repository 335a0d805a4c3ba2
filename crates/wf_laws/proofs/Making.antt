-- Expansions of settled modules are made: by chosen productions alone, or with another production at the root.
use Rattle.std.proofs.Common.{◌≡◌, ℕ, ◌+◌, ◌<◌, ◌⊎◌, true, List, [], ◌∷◌, length, Option, Some, None, refl, sym, ap, ◌∙◌, subst, inl, inr, ⊎_elim, arith, add-one}
use Rattle.wf_model.specs.Lists.{IsIn, AllDiffer}
use Rattle.wf_model.specs.Grammar.{Grammar, head_of, body_of, IsProductionOf}
use Rattle.wf_model.specs.View.{View, expands}
use Rattle.wf_model.specs.declared.event.Event.{Event}
use Rattle.wf_model.specs.declared.event.Event.TheVariants.{Start, Expand}
use Rattle.wf_model.specs.Run.{Instance, Expanded, IsName, named, made, expanded_by, IsRun, seen_in}
use Rattle.wf_model.specs.Safe.{IsExpansion, IsBy, Ends}
use Rattle.wf_model.proofs.Lists.{in_append_left, in_append_cases, at_in}
use Rattle.wf_model.proofs.Runs.{named_names, names-named, run_state, expansion_other, at_named}
use Rattle.wf_laws.specs.Chosen.{IsByOther}
use Rattle.wf_laws.specs.Settled.{IsSettled, IsSettledBody}
use Rattle.wf_laws.proofs.Parts.{opened_run}
use Rattle.wf_laws.proofs.Growth.{fresh, length-fresh, fresh_long, fresh_differ, fresh_good, IsDone, Settles, settle, settle_list, ends_bound, extended}

-- the name of the root of the expansions that are made here
abbrev pub first_name : List ℕ
first_name = 97 ∷ []

pub first_is_name : IsName first_name
first_is_name = (omega arith, λ b h. inl (⊎_elim (λ e. (omega arith, omega arith)) (λ e. absurd e) h))

module _ (g : Grammar) (u : View) (Chosen : ℕ → ℕ → Type 0) where
  -- a module is settled where its chosen production has a settled body
  pub settled_from : (m p : ℕ) → Chosen m p → IsProductionOf g p m → IsSettledBody g u Chosen p → IsSettled g u Chosen m
  settled_from m p ch of body = let b = ends_bound g u Chosen (body_of g p) body in (b.0 + 1, subst (λ n. Ends g u Chosen n m) (sym (add-one b.0)) (inr (p, ch, of, b.1)))

  -- what is done is as chosen, and not pending
  done_by : (events : List Event) (j : Instance) → IsDone g u Chosen events j → expands u j.module_no ≡ true → (x : Expanded) → expanded_by events j.name ≡ Some x → Chosen j.module_no x.production
  done_by events j s ex x h =
      let q = s ex in
      let e : Some (record { production = q.0; names = q.1 }) ≡ Some x = sym q.2 ∙ h in
      let e' : ◌≡◌ {A = Expanded} (record { production = q.0; names = q.1 }) x = cc in
      subst (λ (z : Expanded). Chosen j.module_no z.production) e' q.3

  done_ends : (events : List Event) (j : Instance) → IsDone g u Chosen events j → expands u j.module_no ≡ true → expanded_by events j.name ≡ None → ⊥
  done_ends events j s ex h =
      let q = s ex in
      let e : ◌≡◌ {A = Option Expanded} (Some (record { production = q.0; names = q.1 })) None = sym q.2 ∙ h in (cc)

  -- a settled module has an expansion by chosen productions
  pub chosen_run : (m : ℕ) → IsSettled g u Chosen m → (e : List Event) × IsExpansion g u m e × IsBy g u m Chosen e
  chosen_run m h =
      let i : Instance = record { name = first_name; module_no = m } in
      let start : IsRun g m (Start first_name ∷ []) = ((refl, first_is_name), tt) in
      let r = settle g u Chosen h.0 m (Start first_name ∷ []) i start (inl refl, refl, h.1) in
      let run : IsRun g m (Start first_name ∷ r.0) = extended g m (Start first_name ∷ []) r.0 [] start r.1.extend in
      let each : (j : Instance) → IsIn j (seen_in g u m (Start first_name ∷ r.0)) → IsDone g u Chosen (Start first_name ∷ r.0) j =
      λ j q. r.1.settled j (⊎_elim (λ e. inl (inl e)) (λ e. inr e) ((run_state g u m (Start first_name ∷ r.0) run).seen_made j q)) in (
        Start first_name ∷ r.0,
        record { run = run; started = λ e. (cc); finished = λ j pd. done_ends (Start first_name ∷ r.0) j (each j pd.0) pd.1 pd.2 },
        λ j q ex x e. done_by (Start first_name ∷ r.0) j (each j q) ex x e,
      )

  -- a production with a settled body begins an expansion that goes on by chosen productions
  pub other_run : (p : ℕ) → p < length g.productions → IsSettledBody g u Chosen p → (e : List Event) × IsExpansion g u (head_of g p) e × IsByOther g u (head_of g p) Chosen p e
  other_run p hp body = made_run (settle_list g u Chosen all.0 (head_of g p) (settle g u Chosen all.0 (head_of g p)) (named new (body_of g p)) (Start first_name ∷ Expand first_name p new ∷ []) begun
      (subst AllDiffer (sym (names-named new (body_of g p) one_each)) (fresh_differ 2 (length (body_of g p))))
      (λ j h. let nj = named_names j new (body_of g p) h in
      let q = at_named j new (body_of g p) h in
      (inr (in_append_left j (named new (body_of g p)) [] h), shut j nj, all.1 j.module_no (at_in _ q.0 (body_of g p) q.2))))
    where
      new : List (List ℕ)
      new = fresh 2 (length (body_of g p))

      one_each : length new ≡ length (body_of g p)
      one_each = length-fresh 2 (length (body_of g p))

      not_first : (x : List ℕ) → IsIn x new → x ≡ first_name → ⊥
      not_first x h e = let a = fresh_long 2 (length (body_of g p)) x h in absurd (omega (arith, ap length e))

      begun : IsRun g (head_of g p) (Start first_name ∷ Expand first_name p new ∷ [])
      begun = (
        (refl, first_is_name),
        (
          record {
            in_range = hp;
            stands = inl refl;
            open_end = refl;
            one_each = one_each;
            good = λ x h. fresh_good 2 (length (body_of g p)) x (omega arith) h;
            differ = fresh_differ 2 (length (body_of g p));
            new = λ x h q. ⊎_elim (λ e. not_first x h e) (λ e. e) q;
          },
          tt,
        ),
      )

      all : (n : ℕ) × ((k : ℕ) → IsIn k (body_of g p) → Ends g u Chosen n k)
      all = ends_bound g u Chosen (body_of g p) body

      shut : (j : Instance) → IsIn j.name new → expanded_by (Start first_name ∷ Expand first_name p new ∷ []) j.name ≡ None
      shut j h = expansion_other (Start first_name ∷ []) first_name p new j.name (λ e. not_first j.name h (sym e))

      made_run : ((more : List Event) × Settles g u Chosen (head_of g p) (Start first_name ∷ Expand first_name p new ∷ []) (named new (body_of g p)) more) → (e : List Event) × IsExpansion g u (head_of g p) e × IsByOther g u (head_of g p) Chosen p e
      made_run r =
          let run : IsRun g (head_of g p) (opened_run first_name p new r.0) = extended g (head_of g p) (Start first_name ∷ Expand first_name p new ∷ []) r.0 [] begun r.1.extend in
          let told : expanded_by (opened_run first_name p new r.0) first_name ≡ Some (record { production = p; names = new }) = refl in
          let below : (j : Instance) → IsIn j (seen_in g u (head_of g p) (opened_run first_name p new r.0)) → (j ≡ record { name = first_name; module_no = head_of g p }) ⊎ IsDone g u Chosen (opened_run first_name p new r.0) j =
          λ j q. ⊎_elim (λ e. inl e) (λ e. inr (r.1.settled j (in_append_cases j (named new (body_of g p)) (made g (head_of g p) r.0) e))) ((run_state g u (head_of g p) (opened_run first_name p new r.0) run).seen_made j q) in (
            opened_run first_name p new r.0,
            record {
              run = run;
              started = λ e. (cc);
              finished = λ j pd. ⊎_elim
                  (λ e. let z : ◌≡◌ {A = Option Expanded} (Some (record { production = p; names = new })) None = sym told ∙ (ap (λ (k : Instance). expanded_by (opened_run first_name p new r.0) k.name) (sym e) ∙ pd.2) in absurd (cc))
                  (λ s. done_ends (opened_run first_name p new r.0) j s pd.1 pd.2) (below j pd.0);
            },
            record {
              root = λ x h. let z : Some (record { production = p; names = new }) ≡ Some x = sym told ∙ h in
                  let e : ◌≡◌ {A = Expanded} (record { production = p; names = new }) x = cc in ap (λ (y : Expanded). y.production) (sym e);
              others = λ j q other e x h. ⊎_elim (λ z. absurd (other (ap (λ (k : Instance). k.name) z))) (λ st. done_by (opened_run first_name p new r.0) j st e x h) (below j q);
            },
          )
