-- A run with other names of instances is a run, and is the same but for the names.
use Rattle.std.proofs.Common.{◌≡◌, ℕ, ◌<◌, ◌↔◌, ◌&&◌, ◌||◌, Bool, true, false, cond, List, [], ◌∷◌, ◌++◌, map, length, flat_map, bytes_eq, Option, Some, None, refl, sym, ap, ◌∙◌, subst, inl, inr, arith}
use Rattle.std.proofs.lemmas.List.{map-append, length-map, get_or-map}
use Rattle.wf_model.specs.Lists.{IsIn, AllDiffer, numbers_from}
use Rattle.wf_model.specs.Grammar.{Grammar, Assignment, inputs_of, outputs_of, body_of}
use Rattle.wf_model.specs.WellFormed.{IsWellFormed}
use Rattle.wf_model.specs.View.{View, expands}
use Rattle.wf_model.specs.declared.event.Event.{Event}
use Rattle.wf_model.specs.declared.event.Event.TheVariants.{Start, Expand}
use Rattle.wf_model.specs.Run.{Instance, Expanded, IsName, named, made_by, made, names_of, expanded_by, Extends, AllExtend, IsRun, opens, newly_seen, see_all, seen_in, IsPending}
use Rattle.wf_model.specs.Links.{Port, Link, input, output, wiring, pair_links, instance_at, move_link, opened_links, links_of, links_with}
use Rattle.wf_model.proofs.Lists.{in_map, in_map_from, same_bytes, bytes_same, at_below}
use Rattle.wf_model.proofs.Level.{opening, wiring_from, wiring_to, IsSource, IsTarget}
use Rattle.wf_laws.specs.Rename.{rename_event, rename_instance, IsRenaming, RenameLaw}
use Rattle.std.specs.Cmp.Derive.{one_truth}
use Rattle.std.proofs.lemmas.Simd.{map-map}
use Rattle.std.proofs.lemmas.List.Folds.{flat_map-map}
use Rattle.wf_model.proofs.Mapping.{map_same, flat_map_same, map-flat_map}

-- the link of a pair, if the pair is there
abbrev pair : List ℕ → ℕ → ℕ → Bool → List (Link (List ℕ))
pair n i o b = cond b (record { from = input n i; to = output n o } ∷ []) []

module _ (f : List ℕ → List ℕ) (renaming : IsRenaming f) where
  abbrev re : List Event → List Event
  re events = map (rename_event f) events

  abbrev ri : List Instance → List Instance
  ri is = map (rename_instance f) is

  names_same : (a b : List ℕ) → bytes_eq (f a) (f b) ≡ bytes_eq a b
  names_same a b = one_truth (bytes_eq (f a) (f b)) (bytes_eq a b) (λ e. bytes_same a b (renaming.differ a b (same_bytes (f a) (f b) e))) (λ e. bytes_same (f a) (f b) (ap f (same_bytes a b e)))

  renamed_named : (ns : List (List ℕ)) (ms : List ℕ) → named (map f ns) ms ≡ ri (named ns ms)
  renamed_named [] ms = refl
  renamed_named (n ∷ ns) [] = refl
  renamed_named (n ∷ ns) (m ∷ ms) = ap (λ l. record { name = f n; module_no = m } ∷ l) (renamed_named ns ms)

  pub renamed_names : (is : List Instance) → names_of (ri is) ≡ map f (names_of is)
  renamed_names [] = refl
  renamed_names (i ∷ is) = ap (λ l. f i.name ∷ l) (renamed_names is)

  abbrev rx : Option Expanded → Option Expanded
  rx None = None
  rx (Some x) = Some (record { production = x.production; names = map f x.names })

  renamed_expansion : (events : List Event) (n : List ℕ) → expanded_by (re events) (f n) ≡ rx (expanded_by events n)
  renamed_expansion [] n = refl
  renamed_expansion (Start r ∷ events) n = renamed_expansion events n
  renamed_expansion (Expand i p names ∷ events) n =
      ap (λ t. cond {A = Option Expanded} t (Some (record { production = p; names = map f names })) (expanded_by (re events) (f n))) (names_same i n) ∙ go (bytes_eq i n) (renamed_expansion events n)
    where
      go : (t : Bool) → expanded_by (re events) (f n) ≡ rx (expanded_by events n) → cond {A = Option Expanded} t (Some (record { production = p; names = map f names })) (expanded_by (re events) (f n)) ≡ rx (cond t (Some (record { production = p; names = names })) (expanded_by events n))
      go true ih = refl
      go false ih = ih

  module _ (g : Grammar) (u : View) (m : ℕ) where
    renamed_made_by : (e : Event) → made_by g m (rename_event f e) ≡ ri (made_by g m e)
    renamed_made_by (Start r) = refl
    renamed_made_by (Expand i p names) = renamed_named names (body_of g p)

    renamed_made : (events : List Event) → made g m (re events) ≡ ri (made g m events)
    renamed_made [] = refl
    renamed_made (e ∷ events) =
        ap (λ l. l ++ made g m (re events)) (renamed_made_by e) ∙ (ap (λ l. ri (made_by g m e) ++ l) (renamed_made events) ∙ sym (map-append (rename_instance f) (made_by g m e) (made g m events)))

    differ : (ns : List (List ℕ)) → AllDiffer ns → AllDiffer (map f ns)
    differ [] d = tt
    differ (n ∷ ns) d = ((λ h. let r = in_map_from f (f n) ns h in d.0 (subst (λ z. IsIn z ns) (sym (renaming.differ n r.0 r.2)) r.1)), differ ns d.1)

    extends : (before : List Event) (e : Event) → Extends g m before e → Extends g m (re before) (rename_event f e)
    extends before (Start r) x = (ap re x.0, renaming.names r x.1)
    extends before (Expand i p names) can = record {
      in_range = can.in_range;
      stands = subst (IsIn _) (sym (renamed_made before)) (in_map (rename_instance f) _ (made g m before) can.stands);
      open_end = renamed_expansion before i ∙ ap rx can.open_end;
      one_each = length-map names f ∙ can.one_each;
      good = λ n h. let r = in_map_from f n names h in subst IsName (sym r.2) (renaming.names r.0 (can.good r.0 r.1));
      differ = differ names can.differ;
      new = λ n h k.
          let r = in_map_from f n names h in
          let s = in_map_from f n (names_of (made g m before)) (subst (IsIn n) (renamed_names (made g m before)) (subst (λ l. IsIn n (names_of l)) (renamed_made before) k)) in
          can.new r.0 r.1 (subst (λ z. IsIn z (names_of (made g m before))) (sym (renaming.differ r.0 s.0 (sym r.2 ∙ s.2))) s.1);
    }

    all_extend : (before events : List Event) → AllExtend g m before events → AllExtend g m (re before) (re events)
    all_extend before [] x = tt
    all_extend before (e ∷ events) x =
        (extends before e x.0, subst (λ l. AllExtend g m l (re events)) (map-append (rename_event f) before (e ∷ [])) (all_extend (before ++ e ∷ []) events x.1))

    renamed_opens : (s : List Instance) (n : List ℕ) → opens u (ri s) (f n) ≡ opens u s n
    renamed_opens [] n = refl
    renamed_opens (i ∷ s) n =
        ap (λ t. t && expands u i.module_no || opens u (ri s) (f n)) (names_same i.name n) ∙ ap (λ t. bytes_eq i.name n && expands u i.module_no || t) (renamed_opens s n)

    renamed_newly : (s : List Instance) (e : Event) → newly_seen g u m (ri s) (rename_event f e) ≡ ri (newly_seen g u m s e)
    renamed_newly s (Start r) = refl
    renamed_newly s (Expand i p names) =
        ap (λ t. cond {A = List Instance} t (named (map f names) (body_of g p)) []) (renamed_opens s i) ∙ go (opens u s i)
      where
        go : (t : Bool) → cond {A = List Instance} t (named (map f names) (body_of g p)) [] ≡ ri (cond t (named names (body_of g p)) [])
        go true = renamed_named names (body_of g p)
        go false = refl

    renamed_all : (s : List Instance) (events : List Event) → see_all g u m (ri s) (re events) ≡ ri (see_all g u m s events)
    renamed_all s [] = refl
    renamed_all s (e ∷ events) =
        ap (λ l. see_all g u m l (re events)) (ap (λ l. ri s ++ l) (renamed_newly s e) ∙ sym (map-append (rename_instance f) s (newly_seen g u m s e))) ∙ renamed_all (s ++ newly_seen g u m s e) events

    renamed_seen : (events : List Event) → seen_in g u m (re events) ≡ ri (seen_in g u m events)
    renamed_seen events = renamed_all [] events

    renamed_pairs : (leaf : Assignment) (k : ℕ) (n : List ℕ) → pair_links g leaf k (f n) ≡ map (move_link f) (pair_links g leaf k n)
    renamed_pairs leaf k n =
        flat_map_same _ (λ i. map (move_link f) (flat_map (λ o. pair n i o (leaf k i o)) (numbers_from 0 (outputs_of g k)))) (numbers_from 0 (inputs_of g k))
        (λ i hi. flat_map_same _ (λ o. map (move_link f) (pair n i o (leaf k i o))) (numbers_from 0 (outputs_of g k)) (λ o ho. one i o (leaf k i o)) ∙ sym (map-flat_map (move_link f) (λ o. pair n i o (leaf k i o)) (numbers_from 0 (outputs_of g k)))) ∙
        sym (map-flat_map (move_link f) (λ i. flat_map (λ o. pair n i o (leaf k i o)) (numbers_from 0 (outputs_of g k))) (numbers_from 0 (inputs_of g k)))
      where
        one : (i o : ℕ) (b : Bool) → pair (f n) i o b ≡ map (move_link f) (pair n i o b)
        one i o true = refl
        one i o false = refl

    module _ (events : List Event) (wf : IsWellFormed g) (run : IsRun g m events) where
      -- the owners of a body's links are places that have names
      renamed_place : (n : List ℕ) (names : List (List ℕ)) (k : Option ℕ) → ((i : ℕ) → k ≡ Some i → i < length names) → instance_at (f n) (map f names) k ≡ f (instance_at n names k)
      renamed_place n names None h = refl
      renamed_place n names (Some k) h = get_or-map f names k [] [] (h k refl)

      renamed_wiring : (n : List ℕ) (x : Expanded) → expanded_by events n ≡ Some x → map (move_link (instance_at (f n) (map f x.names))) (wiring g x.production) ≡ map (move_link f) (map (move_link (instance_at n x.names)) (wiring g x.production))
      renamed_wiring n x e =
          map_same (move_link (instance_at (f n) (map f x.names))) (λ l. move_link f (move_link (instance_at n x.names) l)) (wiring g x.production) moved ∙
          sym (map-map (move_link f) (move_link (instance_at n x.names)) (wiring g x.production))
        where
          below : (k : ℕ) (c q : ℕ) → Rattle.wf_model.specs.Lists.IsAt q c (body_of g x.production) → c ≡ k → k < length x.names
          below k c q a e' = let l = at_below q c (body_of g x.production) a in let o = (opening g m [] events n x run e).one_each in omega arith

          from_below : (l : Link (Option ℕ)) → IsSource g x.production l.from → (i : ℕ) → l.from.owner ≡ Some i → i < length x.names
          from_below l (inl c) i d = let s : Some c.0 ≡ Some i = ap (λ (z : Port (Option ℕ)). z.owner) (sym c.3) ∙ d in below i c.0 c.2 c.4 (cc)
          from_below l (inr c) i d = let s : None ≡ Some i = ap (λ (z : Port (Option ℕ)). z.owner) (sym c.1) ∙ d in absurd (cc)

          to_below : (l : Link (Option ℕ)) → IsTarget g x.production l.to → (i : ℕ) → l.to.owner ≡ Some i → i < length x.names
          to_below l (inl c) i d = let s : Some c.0 ≡ Some i = ap (λ (z : Port (Option ℕ)). z.owner) (sym c.3) ∙ d in below i c.0 c.2 c.4 (cc)
          to_below l (inr c) i d = let s : None ≡ Some i = ap (λ (z : Port (Option ℕ)). z.owner) (sym c.1) ∙ d in absurd (cc)

          moved : (l : Link (Option ℕ)) → IsIn l (wiring g x.production) → move_link (instance_at (f n) (map f x.names)) l ≡ move_link f (move_link (instance_at n x.names) l)
          moved l h =
              let body = wf.bodies x.production (opening g m [] events n x run e).in_range in
              let a = renamed_place n x.names l.from.owner (from_below l (wiring_from g x.production body l h)) in
              let b = renamed_place n x.names l.to.owner (to_below l (wiring_to g x.production body l h)) in
              λ t. record { from = record { owner = a t; side = l.from.side; number = l.from.number }; to = record { owner = b t; side = l.to.side; number = l.to.number } }

      renamed_links_of : (leaf : Assignment) (i : Instance) → links_of g u leaf (re events) (rename_instance f i) ≡ map (move_link f) (links_of g u leaf events i)
      renamed_links_of leaf i =
          ap (λ o. cond {A = List (Link (List ℕ))} (expands u i.module_no) (opened_links g leaf (rename_instance f i) o) (pair_links g leaf i.module_no (f i.name))) (renamed_expansion events i.name) ∙
          go (expands u i.module_no) (expanded_by events i.name) refl
        where
          go : (t : Bool) (o : Option Expanded) → expanded_by events i.name ≡ o →
              cond {A = List (Link (List ℕ))} t (opened_links g leaf (rename_instance f i) (rx (expanded_by events i.name))) (pair_links g leaf i.module_no (f i.name)) ≡ map (move_link f) (cond t (opened_links g leaf i (expanded_by events i.name)) (pair_links g leaf i.module_no i.name))
          go false o e = renamed_pairs leaf i.module_no i.name
          go true None e = subst (λ z. opened_links g leaf (rename_instance f i) (rx z) ≡ map (move_link f) (opened_links g leaf i z)) (sym e) (renamed_pairs leaf i.module_no i.name)
          go true (Some x) e = subst (λ z. opened_links g leaf (rename_instance f i) (rx z) ≡ map (move_link f) (opened_links g leaf i z)) (sym e) (renamed_wiring i.name x e)

      renamed_links : (leaf : Assignment) → links_with g u leaf m (re events) ≡ map (move_link f) (links_with g u leaf m events)
      renamed_links leaf =
          ap (flat_map (links_of g u leaf (re events))) (renamed_seen events) ∙
          (flat_map-map (links_of g u leaf (re events)) (rename_instance f) (seen_in g u m events) ∙
          (flat_map_same (λ i. links_of g u leaf (re events) (rename_instance f i)) (λ i. map (move_link f) (links_of g u leaf events i)) (seen_in g u m events) (λ i h. renamed_links_of leaf i) ∙
          sym (map-flat_map (move_link f) (links_of g u leaf events) (seen_in g u m events))))

      none_from : (o : Option Expanded) → rx o ≡ None → o ≡ None
      none_from None e = refl
      none_from (Some x) e = absurd (cc)

      renamed_pending : (i : Instance) → IsPending g u m events i ↔ IsPending g u m (re events) (rename_instance f i)
      renamed_pending i = (
        (λ h. (subst (IsIn (rename_instance f i)) (sym (renamed_seen events)) (in_map (rename_instance f) i (seen_in g u m events) h.0), h.1, renamed_expansion events i.name ∙ ap rx h.2)),
        (λ h.
            let r = in_map_from (rename_instance f) (rename_instance f i) (seen_in g u m events) (subst (IsIn (rename_instance f i)) (renamed_seen events) h.0) in
            let n = renaming.differ i.name r.0.name (ap (λ (z : Instance). z.name) r.2) in
            let k : i.module_no ≡ r.0.module_no = ap (λ (z : Instance). z.module_no) r.2 in
            let e : i ≡ r.0 = λ t. record { name = n t; module_no = k t } in
            (subst (λ z. IsIn z (seen_in g u m events)) (sym e) r.1, h.1, none_from (expanded_by events i.name) (sym (renamed_expansion events i.name) ∙ h.2))),
      )

pub rename_law : RenameLaw
rename_law f renaming g u m events wf run = record {
  run = all_extend f renaming g u m [] events run;
  instances = renamed_made f renaming g u m events;
  seen = renamed_seen f renaming g u m events;
  links = λ leaf. renamed_links f renaming g u m events wf run leaf;
  pending = λ i. renamed_pending f renaming g u m events wf run i;
}
