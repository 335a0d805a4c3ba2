-- A run within another: an event of the other that is ready is taken, and where one is missing, the first such one is ready.
use Rattle.std.proofs.Common.{◌≡◌, ◌⊎◌, ℕ, ◌≤◌, true, List, [], ◌∷◌, ◌++◌, flat_map, length, Option, Some, None, refl, sym, ap, subst, inl, inr, ⊎_elim, arith}
use Rattle.std.proofs.lemmas.List.{length-map}
use Rattle.wf_model.specs.Lists.{IsIn}
use Rattle.wf_model.specs.Grammar.{Grammar, head_of, body_of}
use Rattle.wf_model.specs.declared.event.Event.{Event}
use Rattle.wf_model.specs.declared.event.Event.TheVariants.{Start, Expand}
use Rattle.wf_model.specs.Run.{Instance, Expanded, named, made, made_by, names_of, expanded_by, CanExpand, Extends, AllExtend, IsRun, IsAccepted}
use Rattle.wf_model.specs.Faults.{is_nil}
use Rattle.wf_model.proofs.Lists.{in_flat_map, in_flat_map_from, among_gives, among_from}
use Rattle.wf_model.proofs.Runs.{names-named, name_in, name_from}
use Rattle.wf_model.proofs.Differ.{one_of_name}
use Rattle.wf_model.proofs.Taking.{run_differs, extended, nil_gives}
use Rattle.wf_model.proofs.Expanding.{expanded_from, one_expansion}
use Rattle.wf_model.proofs.ItemNames.{made_once}
use Rattle.label_model.proofs.Differing.{no_more}
use Rattle.label_model.proofs.TakenEvents.{taken, expansion_of}
use Rattle.report_model.specs.Intake.{is_ready}
use Rattle.report_model.proofs.Events.{is_there, one_start}
use Rattle.report_model.proofs.FirstOnes.{more_cases}

-- what elements give, more elements give too
in_more : {A B : Type 0} (f : A → List B) (xs ys : List A) → ((x : A) → IsIn x xs → IsIn x ys) → (y : B) → IsIn y (flat_map f xs) → IsIn y (flat_map f ys)
in_more f xs ys h y q = let r = in_flat_map_from f y xs q in in_flat_map f r.0 y ys (h r.0 r.1) r.2

pub names_within : (g : Grammar) (m : ℕ) (f e : List Event) → ((x : Event) → IsIn x f → IsIn x e) → (n : List ℕ) → IsIn n (names_of (made g m f)) → IsIn n (names_of (made g m e))
names_within g m f e h n q = let r = name_from n (made g m f) q in subst (λ z. IsIn z (names_of (made g m e))) (sym r.2) (name_in r.0 (made g m e) (in_more (made_by g m) f e h r.0 r.1))

within_more : (f e : List Event) (x : Event) → ((y : Event) → IsIn y f → IsIn y e) → IsIn x e → (y : Event) → IsIn y (f ++ x ∷ []) → IsIn y e
within_more f e x h k y q = ⊎_elim (λ a. h y a) (λ d. subst (λ w. IsIn w e) (sym d) k) (more_cases y x f q)

module _ (g : Grammar) (e : List Event) (run : IsRun g g.start e) (f : List Event) (run_f : IsRun g g.start f) (sub : (x : Event) → IsIn x f → IsIn x e) where
  -- an event of the larger run that is ready in the smaller one extends it
  extends_when_ready : (x : Event) → IsIn x e → (IsIn x f → ⊥) → is_ready g f x ≡ true → Extends g g.start f x
  extends_when_ready (Start r) here new ready =
      let q = taken g g.start e [] (Start r) run here in
      (nil_gives f ready, q.extends.1)
  extends_when_ready (Expand i p names) here new ready =
      let q = taken g g.start e [] (Expand i p names) run here in
      let can : CanExpand g g.start q.before i p names = q.extends in
      let whole : IsIn (record { name = i; module_no = head_of g p }) (made g g.start e) = (expansion_of g g.start e run i p names here).stands in
      let j = name_from i (made g g.start f) (among_gives i (names_of (made g g.start f)) ready) in
      let same : j.0 ≡ record { name = i; module_no = head_of g p } = one_of_name (made g g.start e) (run_differs g g.start e run) j.0 (record { name = i; module_no = head_of g p }) (in_more (made_by g g.start) f e sub j.0 j.1) whole (sym j.2) in
      record {
        in_range = can.in_range;
        stands = subst (λ z. IsIn z (made g g.start f)) same j.1;
        open_end = shut (expanded_by f i) refl;
        one_each = can.one_each;
        good = can.good;
        differ = can.differ;
        new = λ n h k. twice can.one_each n h k;
      }
    where
      shut : (o : Option Expanded) → expanded_by f i ≡ o → expanded_by f i ≡ None
      shut None h = h
      shut (Some y) h =
          let there = expanded_from f i y h in
          let same = one_expansion (expanded_by e i) y (record { production = p; names = names }) (expansion_of g g.start e run i y.production y.names (sub _ there)).told (expansion_of g g.start e run i p names here).told in
          absurd (new (subst (λ (z : Expanded). IsIn (Expand i z.production z.names) f) same there))

      twice : length names ≡ length (body_of g p) → (n : List ℕ) → IsIn n names → IsIn n (names_of (made g g.start f)) → ⊥
      twice each n h k =
          let r = name_from n (made g g.start f) k in
          let w = in_flat_map_from (made_by g g.start) r.0 f r.1 in
          let mine : IsIn n (names_of (named names (body_of g p))) = subst (IsIn n) (sym (names-named names (body_of g p) each)) h in
          let other : IsIn n (names_of (made_by g g.start w.0)) = subst (λ z. IsIn z (names_of (made_by g g.start w.0))) (sym r.2) (name_in r.0 (made_by g g.start w.0) w.2) in
          let s : w.0 ≡ Expand i p names = made_once g g.start n e (run_differs g g.start e run) w.0 (Expand i p names) (sub w.0 w.1) here other mine in
          new (subst (λ z. IsIn z f) s w.1)

  -- and where the larger run is accepted, the smaller one is with it
  pub accepted_when_ready : (most : ℕ) → IsAccepted g most e → (x : Event) → IsIn x e → (IsIn x f → ⊥) → is_ready g f x ≡ true → IsAccepted g most (f ++ x ∷ [])
  accepted_when_ready most acc x here new ready =
      let after : IsRun g g.start (f ++ x ∷ []) = extended g g.start [] f x run_f (extends_when_ready x here new ready) in
      let names : (n : List ℕ) → IsIn n (names_of (made g g.start (f ++ x ∷ []))) → IsIn n (names_of (made g g.start e)) = names_within g g.start (f ++ x ∷ []) e (within_more f e x sub here) in
      let few = no_more (names_of (made g g.start (f ++ x ∷ []))) (names_of (made g g.start e)) (run_differs g g.start (f ++ x ∷ []) after) names in
      let a : length (names_of (made g g.start (f ++ x ∷ []))) ≡ length (made g g.start (f ++ x ∷ [])) = length-map (made g g.start (f ++ x ∷ [])) (λ (i : Instance). i.name) in
      let b : length (names_of (made g g.start e)) ≡ length (made g g.start e) = length-map (made g g.start e) (λ (i : Instance). i.name) in
      let c : length (made g g.start e) ≤ most = acc.1 in
      (after, omega (arith, few, a, b, c), λ n h. acc.2 n (names n h))

  -- an event that is missing, though it is ready
  abbrev pub IsMissing : Event → Type 0
  IsMissing x = IsIn x e × (IsIn x f → ⊥) × (is_ready g f x ≡ true)

  ready_here : (b : List Event) (x : Event) → Extends g g.start b x → ((y : Event) → IsIn y b → IsIn y f) → IsIn x e → (IsIn x f → ⊥) → is_ready g f x ≡ true
  ready_here b (Expand i p names) s h here new = among_from i (names_of (made g g.start f)) (names_within g g.start b f h i (name_in _ (made g g.start b) s.stands))
  ready_here b (Start r) s h here new = empty f run_f sub new
    where
      empty : (f : List Event) → IsRun g g.start f → ((x : Event) → IsIn x f → IsIn x e) → (IsIn (Start r) f → ⊥) → is_nil f ≡ true
      empty [] k sub new = refl
      empty (Expand i p names ∷ f) k sub new = absurd k.0.stands
      empty (Start t ∷ f) k sub new = absurd (new (inl (ap (λ z. Start z) (one_start g g.start e run r t here (sub (Start t) (inl refl))))))

  missing_from : (b a : List Event) → AllExtend g g.start b a → ((y : Event) → IsIn y b → IsIn y f) → ((y : Event) → IsIn y a → IsIn y e) → ((y : Event) → IsIn y a → IsIn y f) ⊎ ((x : Event) × IsMissing x)
  missing_from b [] x h k = inl (λ y q. absurd q)
  missing_from b (c ∷ a) x h k = go (missing_from (b ++ c ∷ []) a x.1) (is_there c f)
    where
      go : (((y : Event) → IsIn y (b ++ c ∷ []) → IsIn y f) → ((y : Event) → IsIn y a → IsIn y e) → ((y : Event) → IsIn y a → IsIn y f) ⊎ ((x : Event) × IsMissing x)) → IsIn c f ⊎ (IsIn c f → ⊥) → ((y : Event) → IsIn y (c ∷ a) → IsIn y f) ⊎ ((x : Event) × IsMissing x)
      go ih (inl q) =
          ⊎_elim (λ r. inl (λ y z. ⊎_elim (λ w. subst (λ v. IsIn v f) (sym w) q) (λ w. r y w) z)) (λ r. inr r)
          (ih (λ y z. ⊎_elim (λ w. h y w) (λ w. subst (λ t. IsIn t f) (sym w) q) (more_cases y c b z)) (λ y z. k y (inr z)))
      go ih (inr q) = inr (c, (k c (inl refl), q, ready_here b c x.0 h (k c (inl refl)) q))

  -- the smaller run has all events of the larger one, or one is missing though it is ready
  pub all_or_missing : ((y : Event) → IsIn y e → IsIn y f) ⊎ ((x : Event) × IsMissing x)
  all_or_missing = missing_from [] e run (λ y q. absurd q) (λ y q. q)
