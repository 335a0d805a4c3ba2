-- Seen instances and the addresses that lead to them.
use Rattle.std.proofs.Common.{◌≡◌, ℕ, ◌<◌, ◌⊎◌, ◌≢◌, Bool, true, false, cond, ◌&&◌, List, [], ◌∷◌, ◌++◌, length, get_or, bytes_eq, Option, Some, None, refl, sym, ap, ◌∙◌, subst, inl, inr, ⊎_elim, arith, true≢false, append_assoc, append-nil}
use Rattle.std.proofs.lemmas.Bool.{and_parts, and_from}
use Rattle.wf_model.specs.Lists.{IsIn}
use Rattle.wf_model.specs.Grammar.{Grammar, head_of, body_of}
use Rattle.wf_model.specs.View.{View, expands}
use Rattle.wf_model.specs.declared.event.Event.{Event}
use Rattle.wf_model.specs.declared.event.Event.TheVariants.{Start, Expand}
use Rattle.wf_model.specs.Run.{Instance, Expanded, named, made, names_of, expanded_by, CanExpand, Extends, AllExtend, IsRun, opens, newly_seen, see_all, seen_in, root_of}
use Rattle.wf_model.specs.Reach.{Step, target_of, module_along, IsAlong}
use Rattle.wf_model.specs.Address.{SeenLaw}
use Rattle.wf_model.proofs.Lists.{in_append_left, in_append_right, in_append_cases, some_gives, some_from, same_bytes, bytes_same, at_below, at_is, is_at}
use Rattle.wf_model.proofs.Runs.{named_names, name_in, expansion_later, expansion_other, IsState, state_more, run_state, at_named, named_at}
use Rattle.wf_model.proofs.Differ.{made_differ, one_of_name}
use Rattle.wf_model.proofs.Level.{opening}
use Rattle.wf_laws.proofs.Reach.{along_kept, same_root}

pub along_more : (g : Grammar) (u : View) (events : List Event) (a : List Step) (n c : List ℕ) (s : Step) (names : List (List ℕ)) → IsAlong g u events n a c → expanded_by events c ≡ Some (record { production = s.production; names = names }) → s.position < length names → expands u (head_of g s.production) ≡ true → IsAlong g u events n (a ++ s ∷ []) (get_or names s.position [])
along_more g u events [] n c s names h e l x = (names, ap (expanded_by events) h ∙ e, l, x, refl)
along_more g u events (t ∷ a) n c s names h e l x = (h.0, h.1, h.2, h.3, along_more g u events a (get_or h.0 t.position []) c s names h.4 e l x)

pub module_along_more : (g : Grammar) (m : ℕ) (a : List Step) (s : Step) → module_along g m (a ++ s ∷ []) ≡ target_of g s
module_along_more g m [] s = refl
module_along_more g m (t ∷ a) s = module_along_more g (target_of g t) a s

module _ (g : Grammar) (u : View) (m : ℕ) where
  abbrev HasAddress : List Event → Instance → Type 0
  HasAddress b j = (a : List Step) × IsAlong g u b (root_of b) a j.name × (module_along g m a ≡ j.module_no)

  -- the children of a seen, expanded instance whose module the view expands
  abbrev ChildrenSeen : List Event → List Instance → Type 0
  ChildrenSeen b s = (j : Instance) → IsIn j s → expands u j.module_no ≡ true → (x : Expanded) → expanded_by b j.name ≡ Some x → (c : Instance) → IsIn c (named x.names (body_of g x.production)) → IsIn c s

  record Sees (b : List Event) (s : List Instance) : Type 0 where
    state : IsState g m b s
    run : IsRun g m b
    addressed : (j : Instance) → IsIn j s → HasAddress b j
    children : ChildrenSeen b s
    rooted : (b ≡ []) ⊎ IsIn (record { name = root_of b; module_no = m }) s

  run_more : (b : List Event) (e : Event) → IsRun g m b → Extends g m b e → IsRun g m (b ++ e ∷ [])
  run_more b e h x = go b [] h x
    where
      go : (b a : List Event) → AllExtend g m a b → Extends g m (a ++ b) e → AllExtend g m a (b ++ e ∷ [])
      go [] a h x = (subst (λ l. Extends g m l e) (append-nil a) x, tt)
      go (c ∷ b) a h x = (h.0, go b (a ++ c ∷ []) h.1 (subst (λ l. Extends g m l e) (sym (append_assoc a (c ∷ []) b)) x))

  sees_start : (r : List ℕ) → Extends g m [] (Start r) → Sees (Start r ∷ []) (record { name = r; module_no = m } ∷ [])
  sees_start r x = record {
    state = run_state g u m (Start r ∷ []) (x, tt);
    run = (x, tt);
    addressed = λ j h. ⊎_elim (λ e. ([], ap (λ (z : Instance). z.name) (sym e), ap (λ (z : Instance). z.module_no) (sym e))) (λ e. absurd e) h;
    children = λ j h ex y e c k. absurd (cc);
    rooted = inr (inl refl);
  }

  sees_more : (b : List Event) (s : List Instance) (i : List ℕ) (p : ℕ) (new : List (List ℕ)) → Sees b s → CanExpand g m b i p new → Sees (b ++ Expand i p new ∷ []) (s ++ newly_seen g u m s (Expand i p new))
  sees_more b s i p new sb can = record {
    state = state_more g u m b s (Expand i p new) sb.state can;
    run = run_more b (Expand i p new) sb.run can;
    addressed = λ j h. ⊎_elim
        (λ a. let q = sb.addressed j a in (q.0, subst (λ z. IsAlong g u (b ++ Expand i p new ∷ []) z q.0 j.name) (sym rt) (along_kept g u b (Expand i p new ∷ []) q.0 (root_of b) j.name q.1), q.2))
        (λ a. from_parent j (opens u s i) refl a)
        (in_append_cases j s (newly_seen g u m s (Expand i p new)) h);
    children = λ j h ex x e c k. kids j ex x e c k (bytes_eq i j.name) refl (in_append_cases j s (newly_seen g u m s (Expand i p new)) h);
    rooted = ⊎_elim (λ e. absurd (started e)) (λ h. inr (in_append_left _ s (newly_seen g u m s (Expand i p new)) (subst (λ z. IsIn (record { name = z; module_no = m }) s) (sym rt) h))) sb.rooted;
  }
    where
      started : b ≡ [] → ⊥
      started e = subst (λ l. IsIn (record { name = i; module_no = head_of g p }) (made g m l)) e can.stands

      rt : root_of (b ++ Expand i p new ∷ []) ≡ root_of b
      rt = same_root g m b (Expand i p new ∷ []) started sb.run

      told : expanded_by (b ++ Expand i p new ∷ []) i ≡ Some (record { production = p; names = new })
      told = expansion_later b (Expand i p new ∷ []) i can.open_end ∙ ap (λ t. cond {A = Option Expanded} t (Some (record { production = p; names = new })) None) (bytes_same i i refl)

      from_parent : (j : Instance) (o : Bool) → opens u s i ≡ o → IsIn j (cond o (named new (body_of g p)) []) → HasAddress (b ++ Expand i p new ∷ []) j
      from_parent j false e h = absurd h
      from_parent j true e h =
          let q = some_gives (λ (z : Instance). bytes_eq z.name i && expands u z.module_no) s e in
          let parts = and_parts (bytes_eq q.0.name i) (expands u q.0.module_no) q.2 in
          let n : q.0.name ≡ i = same_bytes q.0.name i parts.0 in
          let same : q.0 ≡ record { name = i; module_no = head_of g p } = one_of_name (made g m b) (made_differ g m [] b tt sb.run) q.0 (record { name = i; module_no = head_of g p }) (sb.state.seen_made q.0 q.1) can.stands n in
          let ex : expands u (head_of g p) ≡ true = ap (λ (z : Instance). expands u z.module_no) (sym same) ∙ parts.1 in
          let a = sb.addressed q.0 q.1 in
          let k = at_named j new (body_of g p) h in
          let al = along_more g u (b ++ Expand i p new ∷ []) a.0 (root_of b) i (record { production = p; position = k.0 }) new
          (subst (λ z. IsAlong g u (b ++ Expand i p new ∷ []) (root_of b) a.0 z) n (along_kept g u b (Expand i p new ∷ []) a.0 (root_of b) q.0.name a.1)) told (at_below j.name k.0 new k.1) ex in (
            a.0 ++ record { production = p; position = k.0 } ∷ [],
            subst (λ z. IsAlong g u (b ++ Expand i p new ∷ []) z (a.0 ++ record { production = p; position = k.0 } ∷ []) j.name) (sym rt)
                (subst (λ z. IsAlong g u (b ++ Expand i p new ∷ []) (root_of b) (a.0 ++ record { production = p; position = k.0 } ∷ []) z) (at_is j.name k.0 new [] k.1) al),
            module_along_more g m a.0 (record { production = p; position = k.0 }) ∙ at_is j.module_no k.0 (body_of g p) 0 k.2,
          )

      newly_new : (j : Instance) → IsIn j (newly_seen g u m s (Expand i p new)) → IsIn j.name new
      newly_new j h = go (opens u s i) h
        where
          go : (o : Bool) → IsIn j (cond o (named new (body_of g p)) []) → IsIn j.name new
          go true a = named_names j new (body_of g p) a
          go false a = absurd a

      kids : (j : Instance) → expands u j.module_no ≡ true → (x : Expanded) → expanded_by (b ++ Expand i p new ∷ []) j.name ≡ Some x → (c : Instance) → IsIn c (named x.names (body_of g x.production)) → (t : Bool) → bytes_eq i j.name ≡ t → IsIn j s ⊎ IsIn j (newly_seen g u m s (Expand i p new)) → IsIn c (s ++ newly_seen g u m s (Expand i p new))
      kids j ex x e c k true t (inl h) =
          let n : i ≡ j.name = same_bytes i j.name t in
          let q : Some (record { production = p; names = new }) ≡ Some x = sym told ∙ (ap (expanded_by (b ++ Expand i p new ∷ [])) n ∙ e) in
          let q' : ◌≡◌ {A = Expanded} (record { production = p; names = new }) x = cc in
          let open' : opens u s i ≡ true = some_from (λ (z : Instance). bytes_eq z.name i && expands u z.module_no) j s h (and_from (bytes_eq j.name i) (expands u j.module_no) (bytes_same j.name i (sym n)) ex) in
          in_append_right c s (newly_seen g u m s (Expand i p new))
          (subst (λ o. IsIn c (cond o (named new (body_of g p)) [])) (sym open') (subst (λ (z : Expanded). IsIn c (named z.names (body_of g z.production))) (sym q') k))
      kids j ex x e c k true t (inr h) = absurd (can.new j.name (newly_new j h) (subst (λ z. IsIn z (names_of (made g m b))) (same_bytes i j.name t) (name_in _ _ can.stands)))
      kids j ex x e c k false t (inl h) =
          in_append_left c s (newly_seen g u m s (Expand i p new))
          (sb.children j h ex x (sym (expansion_other b i p new j.name (λ z. true≢false (sym (bytes_same i j.name z) ∙ t))) ∙ e) c k)
      kids j ex x e c k false t (inr h) =
          absurd (can.new j.name (newly_new j h) (sb.state.expanded_made j.name x (sym (expansion_other b i p new j.name (λ z. true≢false (sym (bytes_same i j.name z) ∙ t))) ∙ e)))

  sees_all : (a b : List Event) (s : List Instance) → b ≢ [] → Sees b s → AllExtend g m b a → Sees (b ++ a) (see_all g u m s a)
  sees_all [] b s ne sb x = subst (λ l. Sees l s) (sym (append-nil b)) sb
  sees_all (Start r ∷ a) b s ne sb x = absurd (ne x.0.0)
  sees_all (Expand i p new ∷ a) b s ne sb x =
      subst (λ l. Sees l (see_all g u m (s ++ newly_seen g u m s (Expand i p new)) a)) (append_assoc b (Expand i p new ∷ []) a)
      (sees_all a (b ++ Expand i p new ∷ []) (s ++ newly_seen g u m s (Expand i p new)) (longer b) (sees_more b s i p new sb x.0) x.1)
    where
      longer : (b : List Event) → b ++ Expand i p new ∷ [] ≢ []
      longer [] e = cc
      longer (c ∷ b) e = cc

  sees_run : (e : List Event) → IsRun g m e → e ≢ [] → Sees e (seen_in g u m e)
  sees_run [] x ne = absurd (ne refl)
  sees_run (Expand i p new ∷ e) x ne = absurd x.0.stands
  sees_run (Start r ∷ e) x ne = sees_all e (Start r ∷ []) (record { name = r; module_no = m } ∷ []) (λ q. (cc)) (sees_start r x.0) x.1

  -- whoever is reached by an address from a seen instance is seen
  along_seen : (e : List Event) → Sees e (seen_in g u m e) → (a : List Step) (n x : List ℕ) (k : ℕ) → IsIn (record { name = n; module_no = k }) (seen_in g u m e) → IsAlong g u e n a x → IsIn (record { name = x; module_no = module_along g k a }) (seen_in g u m e)
  along_seen e se [] n x k h al = subst (λ z. IsIn (record { name = z; module_no = k }) (seen_in g u m e)) al h
  along_seen e se (s ∷ a) n x k h al =
      let o = opening g m [] e n (record { production = s.production; names = al.0 }) se.run al.1 in
      let same : ◌≡◌ {A = Instance} (record { name = n; module_no = head_of g s.production }) (record { name = n; module_no = k }) = one_of_name (made g m e) (made_differ g m [] e tt se.run) _ _ o.stands (se.state.seen_made _ h) refl in
      let ex : expands u k ≡ true = ap (λ (z : Instance). expands u z.module_no) (sym same) ∙ al.3 in
      let below : s.position < length (body_of g s.production) = omega (arith, o.one_each, al.2) in
      let c = se.children (record { name = n; module_no = k }) h ex (record { production = s.production; names = al.0 }) al.1 (record { name = get_or al.0 s.position []; module_no = target_of g s })
      (named_at (get_or al.0 s.position []) (target_of g s) s.position al.0 (body_of g s.production) (is_at s.position al.0 [] al.2) (is_at s.position (body_of g s.production) 0 below)) in
      along_seen e se a (get_or al.0 s.position []) x (target_of g s) c al.4

pub seen_law : SeenLaw
seen_law g u m e i run ne =
    let se = sees_run g u m e run ne in (
      (λ h. se.addressed i h),
      (λ q. subst (λ z. IsIn (record { name = i.name; module_no = z }) (seen_in g u m e)) q.2
          (⊎_elim (λ z. absurd (ne z)) (λ h. along_seen g u m e se q.0 (root_of e) i.name m h q.1) se.rooted)),
    )
