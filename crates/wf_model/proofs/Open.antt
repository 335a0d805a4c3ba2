-- What is seen, open and visible, in words: the root and the children of open instances are seen, and what open instances made is visible.
use Rattle.std.proofs.Common.{◌≡◌, ◌≢◌, ℕ, ◌⊎◌, ◌↔◌, ◌&&◌, Bool, true, false, cond, IsTrue, List, [], ◌∷◌, ◌++◌, bytes_eq, Option, Some, None, refl, sym, ap, ◌∙◌, subst, inl, inr, ⊎_elim, true≢false, append_assoc, append-nil}
use Rattle.std.proofs.lemmas.Bool.{and_parts, and_from}
use Rattle.wf_model.specs.Lists.{IsIn}
use Rattle.wf_model.specs.Grammar.{Grammar, body_of, production_at, module_at}
use Rattle.wf_model.specs.View.{View, expands}
use Rattle.wf_model.specs.declared.event.Event.{Event}
use Rattle.wf_model.specs.declared.event.Event.TheVariants.{Start, Expand}
use Rattle.wf_model.specs.Run.{Instance, Expanded, named, made, names_of, expanded_by, Extends, AllExtend, IsRun, opens, newly_seen, see_all, seen_in, IsOpen, root_of}
use Rattle.wf_model.specs.Items.{Item, items_by, items, edge_item, input_items, output_items, IsMadeOpen}
use Rattle.wf_model.specs.Open.{IsRoot, IsChild, OpenLaw, VisibleLaw}
use Rattle.wf_model.proofs.Lists.{in_append_left, in_append_right, in_append_cases, in_map_from, in_flat_map_from, some_gives, some_from, same_bytes, bytes_same}
use Rattle.wf_model.proofs.Runs.{named_names, name_in, expansion_kept, expansion_later, expansion_other, expansion_start, IsState, state_more, run_state}
use Rattle.wf_model.proofs.ItemNames.{in_input_items, in_output_items}

pub root_kept : (b a : List Event) → b ≢ [] → root_of (b ++ a) ≡ root_of b
root_kept [] a n = absurd (n refl)
root_kept (Start r ∷ b) a n = refl
root_kept (Expand i p names ∷ b) a n = refl

not_nil : (b : List Event) (e : Event) → b ++ e ∷ [] ≢ []
not_nil [] e q = absurd (cc)
not_nil (x ∷ b) e q = absurd (cc)

-- an expand event tells how its instance is expanded
told : (b : List Event) (i n : List ℕ) (p : ℕ) (names : List (List ℕ)) → expanded_by b i ≡ None → n ≡ i → expanded_by (b ++ Expand i p names ∷ []) n ≡ Some (record { production = p; names = names })
told b i n p names h e =
    subst (λ z. expanded_by (b ++ Expand i p names ∷ []) z ≡ Some (record { production = p; names = names })) (sym e)
    (expansion_later b (Expand i p names ∷ []) i h ∙ ap (λ t. cond {A = Option Expanded} t (Some (record { production = p; names = names })) None) (bytes_same i i refl))

module _ (g : Grammar) (u : View) (m : ℕ) where
  abbrev IsBelow : List Event → List Instance → Instance → Type 0
  IsBelow b s j = (i : Instance) × IsIn i s × IsTrue (expands u i.module_no) × IsChild g b i j

  -- the instances s that are seen of the events b
  record IsTold (b : List Event) (s : List Instance) : Type 0 where
    state : IsState g m b s
    root : (j : Instance) → IsRoot m b j → IsIn j s
    below : (j : Instance) → IsBelow b s j → IsIn j s
    from : (j : Instance) → IsIn j s → IsRoot m b j ⊎ IsBelow b s j

  empty_told : IsTold [] []
  empty_told = record { state = record { seen_made = λ i h. absurd h; expanded_made = λ n y h. absurd (cc) }; root = λ j h. absurd (h.0 refl); below = λ j h. absurd h.1; from = λ j h. absurd h }

  module _ (b : List Event) (s : List Instance) (st : IsTold b s) where
    nothing_before : b ≡ [] → (j : Instance) → IsIn j s → ⊥
    nothing_before e j h = ⊎_elim (λ r. r.0 e) (λ q. let z : expanded_by [] q.0.name ≡ Some q.3.0 = subst (λ l. expanded_by l q.0.name ≡ Some q.3.0) e q.3.1 in absurd (cc)) (st.from j h)

    start_told : (r : List ℕ) → Extends g m b (Start r) → IsTold (b ++ Start r ∷ []) (s ++ newly_seen g u m s (Start r))
    start_told r x = record {
      state = state_more g u m b s (Start r) st.state x;
      root = λ j h. in_append_right j s _ (inl (h.1 ∙ named_root));
      below = λ j h. absurd (unexpanded h.0.name h.3.0 h.3.1);
      from = λ j h. ⊎_elim (λ a. absurd (nothing_before x.0 j a)) (λ a. ⊎_elim (λ e. inl (not_nil b (Start r), e ∙ sym named_root)) (λ q. absurd q) a) (in_append_cases j s _ h);
    }
      where
        named_root : ◌≡◌ {A = Instance} (record { name = root_of (b ++ Start r ∷ []); module_no = m }) (record { name = r; module_no = m })
        named_root = ap (λ (l : List Event). record { name = root_of (l ++ Start r ∷ []); module_no = m }) x.0

        unexpanded : (n : List ℕ) (y : Expanded) → expanded_by (b ++ Start r ∷ []) n ≡ Some y → ⊥
        unexpanded n y h = let z : expanded_by [] n ≡ Some y = subst (λ l. expanded_by l n ≡ Some y) x.0 (sym (expansion_start b r n) ∙ h) in absurd (cc)

    expand_told : (k : List ℕ) (p : ℕ) (new : List (List ℕ)) → Extends g m b (Expand k p new) → IsTold (b ++ Expand k p new ∷ []) (s ++ newly_seen g u m s (Expand k p new))
    expand_told k p new can = record {
      state = state_more g u m b s (Expand k p new) st.state can;
      root = λ j h. in_append_left j s _ (st.root j (started, h.1 ∙ ap (λ (n : List ℕ). record { name = n; module_no = m }) (root_kept b (Expand k p new ∷ []) started)));
      below = λ j h. ⊎_elim (λ a. old j h.0 a h.2 h.3 (bytes_eq k h.0.name) refl) (λ a. absurd (newest j h.0 a h.3)) (in_append_cases h.0 s (newly_seen g u m s (Expand k p new)) h.1);
      from = λ j h. ⊎_elim (λ a. ⊎_elim (λ r. inl (kept_root j r)) (λ q. inr (kept j q)) (st.from j a)) (λ a. inr (fresh j (opens u s k) refl a)) (in_append_cases j s (newly_seen g u m s (Expand k p new)) h);
    }
      where
        after : List Event
        after = b ++ Expand k p new ∷ []

        started : b ≢ []
        started e = subst (λ l. IsIn (record { name = k; module_no = Rattle.wf_model.specs.Grammar.head_of g p }) (made g m l)) e can.stands

        -- an instance that stood before: opened now, or as before
        old : (j i : Instance) → IsIn i s → IsTrue (expands u i.module_no) → IsChild g (b ++ Expand k p new ∷ []) i j → (t : Bool) → bytes_eq k i.name ≡ t → IsIn j (s ++ newly_seen g u m s (Expand k p new))
        old j i h ex c true e =
            let same = sym (same_bytes k i.name e) in
            let opened : opens u s k ≡ true = some_from (λ (z : Instance). bytes_eq z.name k && expands u z.module_no) i s h (and_from (bytes_eq i.name k) (expands u i.module_no) (bytes_same i.name k same) ex) in
            let q : Some c.0 ≡ Some (record { production = p; names = new }) = sym c.1 ∙ told b k i.name p new can.open_end same in
            let y : ◌≡◌ {A = Expanded} c.0 (record { production = p; names = new }) = cc in
            in_append_right j s _ (subst (λ t. IsIn j (cond t (named new (body_of g p)) [])) (sym opened) (subst (λ (z : Expanded). IsIn j (named z.names (body_of g z.production))) y c.2))
        old j i h ex c false e =
            in_append_left j s _ (st.below j (i, h, ex, (c.0, sym (expansion_other b k p new i.name (λ z. true≢false (sym (bytes_same k i.name z) ∙ e))) ∙ c.1, c.2)))

        -- a new instance is not expanded yet
        newest : (j i : Instance) → IsIn i (newly_seen g u m s (Expand k p new)) → IsChild g (b ++ Expand k p new ∷ []) i j → ⊥
        newest j i h c = go (opens u s k) h
          where
            go : (t : Bool) → IsIn i (cond t (named new (body_of g p)) []) → ⊥
            go false q = q
            go true q =
                let n = named_names i new (body_of g p) q in
                let other : k ≡ i.name → ⊥ = λ z. can.new i.name n (subst (λ l. IsIn l (names_of (made g m b))) z (name_in _ (made g m b) can.stands)) in
                can.new i.name n (st.state.expanded_made i.name c.0 (sym (expansion_other b k p new i.name other) ∙ c.1))

        kept_root : (j : Instance) → IsRoot m b j → IsRoot m (b ++ Expand k p new ∷ []) j
        kept_root j r = (not_nil b (Expand k p new), r.1 ∙ ap (λ (n : List ℕ). record { name = n; module_no = m }) (sym (root_kept b (Expand k p new ∷ []) started)))

        kept : (j : Instance) → IsBelow b s j → IsBelow (b ++ Expand k p new ∷ []) (s ++ newly_seen g u m s (Expand k p new)) j
        kept j q = (q.0, in_append_left q.0 s _ q.1, q.2, (q.3.0, expansion_kept b (Expand k p new ∷ []) q.0.name q.3.0 q.3.1, q.3.2))

        fresh : (j : Instance) (t : Bool) → opens u s k ≡ t → IsIn j (cond (opens u s k) (named new (body_of g p)) []) → IsBelow (b ++ Expand k p new ∷ []) (s ++ newly_seen g u m s (Expand k p new)) j
        fresh j false e h = absurd (subst (λ t. IsIn j (cond t (named new (body_of g p)) [])) e h)
        fresh j true e h =
            let r = some_gives (λ (z : Instance). bytes_eq z.name k && expands u z.module_no) s e in
            let both = and_parts (bytes_eq r.0.name k) (expands u r.0.module_no) r.2 in
            (r.0, in_append_left r.0 s _ r.1, both.1, (record { production = p; names = new }, told b k r.0.name p new can.open_end (same_bytes r.0.name k both.0), subst (λ t. IsIn j (cond t (named new (body_of g p)) [])) e h))

  more_told : (b : List Event) (s : List Instance) (e : Event) → IsTold b s → Extends g m b e → IsTold (b ++ e ∷ []) (s ++ newly_seen g u m s e)
  more_told b s (Start r) st x = start_told b s st r x
  more_told b s (Expand k p new) st x = expand_told b s st k p new x

  all_told : (b : List Event) (s : List Instance) (a : List Event) → IsTold b s → AllExtend g m b a → IsTold (b ++ a) (see_all g u m s a)
  all_told b s [] st x = subst (λ l. IsTold l s) (sym (append-nil b)) st
  all_told b s (e ∷ a) st x =
      subst (λ l. IsTold l (see_all g u m (s ++ newly_seen g u m s e) a)) (append_assoc b (e ∷ []) a)
      (all_told (b ++ e ∷ []) (s ++ newly_seen g u m s e) a (more_told b s e st x.0) x.1)

pub open_law : OpenLaw
open_law g u m events run j =
    let t = all_told g u m [] [] events (empty_told g u m) run in (
      (λ h. ⊎_elim (λ r. inl r) (λ q. inr (q.0, (q.1, q.2, (q.3.0, q.3.1)), q.3)) (t.from j h)),
      (λ h. ⊎_elim (λ r. t.root j r) (λ q. t.below j (q.0, q.1.0, q.1.1, q.2)) h),
    )

-- an instance that an event expands is expanded
expanded_in : (events : List Event) (i : List ℕ) (p : ℕ) (names : List (List ℕ)) → IsIn (Expand i p names) events → (x : Expanded) × (expanded_by events i ≡ Some x)
expanded_in [] i p names h = absurd h
expanded_in (e ∷ events) i p names (inl q) = subst (λ z. (x : Expanded) × (expanded_by (z ∷ events) i ≡ Some x)) q (record { production = p; names = names }, ap (λ t. cond {A = Option Expanded} t (Some (record { production = p; names = names })) (expanded_by events i)) (bytes_same i i refl))
expanded_in (Start r ∷ events) i p names (inr h) = expanded_in events i p names h
expanded_in (Expand j q others ∷ events) i p names (inr h) = go (expanded_in events i p names h) (bytes_eq j i)
  where
    go : (x : Expanded) × (expanded_by events i ≡ Some x) → (t : Bool) → (x : Expanded) × (cond {A = Option Expanded} t (Some (record { production = q; names = others })) (expanded_by events i) ≡ Some x)
    go r true = (record { production = q; names = others }, refl)
    go r false = r

-- the maker of an item is expanded
maker_expanded : (g : Grammar) (m : ℕ) (events : List Event) (t : Item) → IsIn t (items g m events) → (k : List ℕ) → t.maker ≡ Some k → (x : Expanded) × (expanded_by events k ≡ Some x)
maker_expanded g m events t h k e = let r = in_flat_map_from (items_by g m) t events h in by r.0 r.1 r.2
  where
    by : (d : Event) → IsIn d events → IsIn t (items_by g m d) → (x : Expanded) × (expanded_by events k ≡ Some x)
    by (Start r) i q =
        let none : t.maker ≡ None = ⊎_elim (λ a. ap (λ (z : Item). z.maker) (in_input_items t r 0 _ a).3) (λ a. ap (λ (z : Item). z.maker) (in_output_items t r 0 _ a).3) (in_append_cases t (input_items r 0 (module_at g m).inputs) (output_items r 0 (module_at g m).outputs) q) in
        let z : None ≡ Some k = sym none ∙ e in absurd (cc)
    by (Expand n p names) i q =
        let r = in_map_from (edge_item g n p names) t (production_at g p).edges q in
        let s : Some n ≡ Some k = sym (ap (λ (z : Item). z.maker) r.2) ∙ e in
        let same : n ≡ k = cc in
        subst (λ z. (x : Expanded) × (expanded_by events z ≡ Some x)) same (expanded_in events n p names i)

-- the maker of an item is there
pub maker_made : (g : Grammar) (m : ℕ) (events : List Event) (t : Item) → IsRun g m events → IsIn t (items g m events) → (k : List ℕ) → t.maker ≡ Some k → IsIn k (names_of (made g m events))
maker_made g m events t run h k e =
    let x = maker_expanded g m events t h k e in (run_state g (record { expanded = []; shown = [] }) m events run).expanded_made k x.0 x.1

pub visible_law : VisibleLaw
visible_law g u m events t h = go (t.maker) refl
  where
    go : (o : Option (List ℕ)) → t.maker ≡ o → IsMadeOpen g u m events t.maker ↔ ((t.maker ≡ None) ⊎ ((i : Instance) × IsOpen g u m events i × (t.maker ≡ Some i.name)))
    go None e = ((λ v. inl e), (λ v. subst (IsMadeOpen g u m events) (sym e) tt))
    go (Some k) e = (
      (λ v. let open' : IsTrue (opens u (seen_in g u m events) k) = subst (IsMadeOpen g u m events) e v in
          let r = some_gives (λ (z : Instance). bytes_eq z.name k && expands u z.module_no) (seen_in g u m events) open' in
          let both = and_parts (bytes_eq r.0.name k) (expands u r.0.module_no) r.2 in
          let same = same_bytes r.0.name k both.0 in
          let x = maker_expanded g m events t h k e in
          inr (r.0, (r.1, both.1, (x.0, ap (expanded_by events) same ∙ x.1)), e ∙ ap Some (sym same))),
      (λ v. ⊎_elim
          (λ (n : t.maker ≡ None). let z : None ≡ Some k = sym n ∙ e in absurd (cc))
          (λ q. subst (IsMadeOpen g u m events) (sym q.2)
          (some_from (λ (z : Instance). bytes_eq z.name q.0.name && expands u z.module_no) q.0 (seen_in g u m events) q.1.0 (and_from (bytes_eq q.0.name q.0.name) (expands u q.0.module_no) (bytes_same q.0.name q.0.name refl) q.1.1)))
          v),
    )
