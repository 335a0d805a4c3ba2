-- The level of an open root: the wiring of its body, and below it the runs of its children.
use Rattle.wf_laws.specs.Graft.{place_module}
use Rattle.std.proofs.Common.{◌≡◌, ℕ, ◌<◌, true, false, cond, ◌||◌, ◌&&◌, List, [], ◌∷◌, ◌++◌, map, length, get_or, flat_map, filter, Option, Some, None, refl, sym, ap, ◌∙◌, subst, inl, inr, ⊎_elim, arith}
use Rattle.wf_model.specs.Lists.{IsIn, IsAt}
use Rattle.wf_model.specs.Grammar.{Grammar, Assignment, inputs_of, outputs_of, head_of, body_of}
use Rattle.wf_model.specs.WellFormed.{IsWellFormed, IsWellFormedBody}
use Rattle.wf_model.specs.View.{View, expands}
use Rattle.wf_model.specs.declared.event.Event.{Event}
use Rattle.wf_model.specs.Run.{Instance, named, made, names_of, expanded_by, IsRun, opens, newly_seen, see_all, seen_in, family, sub_run}
use Rattle.wf_model.specs.Links.{Port, Link, input, output, wiring, pair_links, instance_at, move_port, move_link, opened_links, links_of, links_with, IsLinked}
use Rattle.wf_model.specs.Reach.{Step, IsAlong}
use Rattle.wf_model.specs.SubRun.{is_among, IsOwnRun}
use Rattle.wf_model.proofs.Lists.{in_append_left, in_map, in_map_from, in_flat_map, in_flat_map_from, bytes_same, among_from, in_filter, in_filter_from, at_below, at_is, is_at, at_in, differ_at}
use Rattle.wf_model.proofs.Walks.{IsLevel, Whole}
use Rattle.wf_model.proofs.Runs.{name_from, run_state, named_at}
use Rattle.wf_laws.proofs.OwnRun.{Follows, follows, sub_run_law, skipped}
use Rattle.wf_laws.proofs.Parts.{IsParted, parts, child, opened_run, in_family, root_not_child}
use Rattle.wf_model.proofs.Level.{IsSource, IsTarget, wiring_from, wiring_to, links_between, opening}

-- the run of the k-th child
abbrev pub kid_run : List (List ℕ) → List Event → ℕ → List Event
kid_run names e k = sub_run (child names k) e

abbrev pub kid : Grammar → ℕ → List (List ℕ) → ℕ → Instance
kid g p names k = record { name = child names k; module_no = place_module g p k }

-- a link of the wiring; a place of the body as a port of the run
abbrev pub Wired : Grammar → ℕ → Port (Option ℕ) → Port (Option ℕ) → Type 0
Wired g p = IsLinked (wiring g p)

abbrev pub put : List ℕ → List (List ℕ) → Port (Option ℕ) → Port (List ℕ)
put r names = move_port (instance_at r names)

-- a link of the k-th child's run
abbrev pub Inner : Grammar → View → Assignment → ℕ → List (List ℕ) → List Event → ℕ → Port (List ℕ) → Port (List ℕ) → Type 0
Inner g u leaf p names e k x y = (k < length names) × IsLinked (links_with g u leaf (place_module g p k) (kid_run names e k)) x y

-- a port of the k-th child or of an instance below it
abbrev pub Own : List (List ℕ) → List Event → ℕ → Port (List ℕ) → Type 0
Own names e k x = (k < length names) × IsIn x.owner (family (child names k ∷ []) e)

abbrev pub In : Grammar → ℕ → ℕ → Port (Option ℕ) → Type 0
In g p k v = (i : ℕ) × (v ≡ input (Some k) i) × (k < length (body_of g p)) × (i < inputs_of g (place_module g p k))

abbrev pub Out : Grammar → ℕ → ℕ → Port (Option ℕ) → Type 0
Out g p k v = (i : ℕ) × (v ≡ output (Some k) i) × (k < length (body_of g p)) × (i < outputs_of g (place_module g p k))

-- the head, or a position of the body
abbrev pub IsPlace : ℕ → Option ℕ → Type 0
IsPlace n None = Unit {0}
IsPlace n (Some k) = k < n

abbrev pub Point : Grammar → ℕ → Port (Option ℕ) → Type 0
Point g p v = IsPlace (length (body_of g p)) v.owner

pub seen_kept : (g : Grammar) (u : View) (m : ℕ) (i : Instance) (s : List Instance) (events : List Event) → IsIn i s → IsIn i (see_all g u m s events)
seen_kept g u m i s [] h = h
seen_kept g u m i s (e ∷ events) h = seen_kept g u m i (s ++ newly_seen g u m s e) events (in_append_left i s (newly_seen g u m s e) h)

-- the root of an opened run is seen
pub root_seen : (g : Grammar) (u : View) (r : List ℕ) (p : ℕ) (names : List (List ℕ)) (rest : List Event) → IsIn (record { name = r; module_no = head_of g p }) (seen_in g u (head_of g p) (opened_run r p names rest))
root_seen g u r p names rest = seen_kept g u (head_of g p) (record { name = r; module_no = head_of g p }) _ rest (inl refl)

module _ (g : Grammar) (u : View) (leaf : Assignment) (r : List ℕ) (p : ℕ) (names : List (List ℕ)) (rest : List Event) (wf : IsWellFormed g) (run : IsRun g (head_of g p) (opened_run r p names rest)) (ex : expands u (head_of g p) ≡ true) where
  body : IsWellFormedBody g p
  body = wf.bodies p run.1.0.in_range

  parted : IsParted g (head_of g p) r (record { production = p; names = names }) (length names) (opened_run r p names rest) (λ k. family (child names k ∷ []) rest)
  parted = parts g (head_of g p) r p names rest run

  pub fam : (k : ℕ) → k < length names → family (child names k ∷ []) (opened_run r p names rest) ≡ family (child names k ∷ []) rest
  fam k hk = (skipped (child names k) (opened_run r p names []) rest ((λ e. root_not_child g (head_of g p) r p names rest run (subst (λ z. IsIn z names) (sym e) (at_in _ k names (is_at k names [] hk)))), tt)).1

  fam_apart : (j k : ℕ) (c : List ℕ) → j < length names → k < length names → IsIn c (family (child names j ∷ []) (opened_run r p names rest)) → IsIn c (family (child names k ∷ []) (opened_run r p names rest)) → j ≡ k
  fam_apart j k c hj hk a b = parted.apart j k c hj hk (subst (IsIn c) (fam j hj) a) (subst (IsIn c) (fam k hk) b)

  pub root_apart : (k : ℕ) → k < length names → IsIn r (family (child names k ∷ []) (opened_run r p names rest)) → ⊥
  root_apart k hk a = parted.not_root k hk (subst (IsIn r) (fam k hk) a)

  pub child_own : (k : ℕ) → IsIn (child names k) (family (child names k ∷ []) (opened_run r p names rest))
  child_own k = in_family (child names k ∷ []) (opened_run r p names rest) (child names k) (inl refl)

  root_opens : opens u (record { name = r; module_no = head_of g p } ∷ []) r ≡ true
  root_opens = ap (λ b. (b && expands u (head_of g p)) || false) (bytes_same r r refl) ∙ ap (λ b. b || false) ex

  pub kid_seen : (k : ℕ) → k < length names → IsIn (kid g p names k) (seen_in g u (head_of g p) (opened_run r p names rest))
  kid_seen k hk =
      seen_kept g u (head_of g p) (kid g p names k) _ rest
      (inr (subst (λ b. IsIn (kid g p names k) (cond b (named names (body_of g p)) [])) (sym root_opens)
      (named_at (child names k) (place_module g p k) k names (body_of g p) (is_at k names [] hk) (let h : k < length (body_of g p) = omega (arith, run.1.0.one_each) in is_at k (body_of g p) 0 h))))

  pub kid_law : (k : ℕ) → k < length names → IsOwnRun g u (head_of g p) (opened_run r p names rest) (kid g p names k)
  kid_law k hk = sub_run_law g u (head_of g p) (opened_run r p names rest) (kid g p names k) run (kid_seen k hk)

  pub kid_follows : (k : ℕ) → k < length names → Follows g u (head_of g p) (opened_run r p names rest) (kid g p names k)
  kid_follows k hk = follows g u (head_of g p) (opened_run r p names rest) (kid g p names k) run (kid_seen k hk)

  pub kid_made : (k : ℕ) (c : List ℕ) → k < length names → IsIn c (names_of (made g (place_module g p k) (kid_run names (opened_run r p names rest) k))) → IsIn c (family (child names k ∷ []) (opened_run r p names rest))
  kid_made k c hk h =
      let e = name_from c (made g (place_module g p k) (kid_run names (opened_run r p names rest) k)) h in
      subst (λ z. IsIn z (family (child names k ∷ []) (opened_run r p names rest))) (sym e.2) ((kid_follows k hk).tracks.part e.0 e.1).1

  same_place : (a b : Option ℕ) → IsPlace (length (body_of g p)) a → IsPlace (length (body_of g p)) b → instance_at r names a ≡ instance_at r names b → a ≡ b
  same_place None None ha hb e = refl
  same_place None (Some k) ha hb e = absurd (root_not_child g (head_of g p) r p names rest run (subst (λ z. IsIn z names) (sym e) (at_in _ k names (is_at k names [] (omega (arith, run.1.0.one_each))))))
  same_place (Some k) None ha hb e = absurd (root_not_child g (head_of g p) r p names rest run (subst (λ z. IsIn z names) e (at_in _ k names (is_at k names [] (omega (arith, run.1.0.one_each))))))
  same_place (Some j) (Some k) ha hb e =
      ap Some (differ_at (child names k) j k names run.1.0.differ (subst (λ z. IsAt z j names) e (is_at j names [] (omega (arith, run.1.0.one_each)))) (is_at k names [] (omega (arith, run.1.0.one_each))))

  target_place : (v : Port (Option ℕ)) → IsTarget g p v → Point g p v
  target_place v (inl c) = subst (Point g p) (sym c.3) (at_below c.2 c.0 (body_of g p) c.4)
  target_place v (inr c) = subst (Point g p) (sym c.1) tt

  source_place : (v : Port (Option ℕ)) → IsSource g p v → Point g p v
  source_place v (inl c) = subst (Point g p) (sym c.3) (at_below c.2 c.0 (body_of g p) c.4)
  source_place v (inr c) = subst (Point g p) (sym c.1) tt

  enters_at : (k : ℕ) (v : Port (Option ℕ)) → IsTarget g p v → Own names (opened_run r p names rest) k (put r names v) → In g p k v
  enters_at k v (inl c) o =
      let below = at_below c.2 c.0 (body_of g p) c.4 in
      let hc : c.0 < length names = omega (arith, run.1.0.one_each) in
      let q : IsIn (child names c.0) (family (child names k ∷ []) (opened_run r p names rest)) = subst (λ (z : Port (Option ℕ)). IsIn (put r names z).owner (family (child names k ∷ []) (opened_run r p names rest))) c.3 o.1 in
      let e : c.0 ≡ k = fam_apart c.0 k (child names c.0) hc o.0 (child_own c.0) q in
      let m : place_module g p c.0 ≡ c.2 = at_is c.2 c.0 (body_of g p) 0 c.4 in
      subst (λ z. In g p z v) e (c.1, c.3, below, subst (λ z. c.1 < inputs_of g z) (sym m) c.5)
  enters_at k v (inr c) o = absurd (root_apart k o.0 (subst (λ (z : Port (Option ℕ)). IsIn (put r names z).owner (family (child names k ∷ []) (opened_run r p names rest))) c.1 o.1))

  leaves_at : (k : ℕ) (v : Port (Option ℕ)) → IsSource g p v → Own names (opened_run r p names rest) k (put r names v) → Out g p k v
  leaves_at k v (inl c) o =
      let below = at_below c.2 c.0 (body_of g p) c.4 in
      let hc : c.0 < length names = omega (arith, run.1.0.one_each) in
      let q : IsIn (child names c.0) (family (child names k ∷ []) (opened_run r p names rest)) = subst (λ (z : Port (Option ℕ)). IsIn (put r names z).owner (family (child names k ∷ []) (opened_run r p names rest))) c.3 o.1 in
      let e : c.0 ≡ k = fam_apart c.0 k (child names c.0) hc o.0 (child_own c.0) q in
      let m : place_module g p c.0 ≡ c.2 = at_is c.2 c.0 (body_of g p) 0 c.4 in
      subst (λ z. Out g p z v) e (c.1, c.3, below, subst (λ z. c.1 < outputs_of g z) (sym m) c.5)
  leaves_at k v (inr c) o = absurd (root_apart k o.0 (subst (λ (z : Port (Option ℕ)). IsIn (put r names z).owner (family (child names k ∷ []) (opened_run r p names rest))) c.1 o.1))

  pub level : IsLevel (Wired g p) (put r names) (Inner g u leaf p names (opened_run r p names rest)) (Point g p) (Own names (opened_run r p names rest)) (In g p) (Out g p)
  level = record {
    same = λ a b pa pb e.
        let d = same_place a.owner b.owner pa pb (ap (λ (z : Port (List ℕ)). z.owner) e) in
        λ t. record { owner = d t; side = (e t).side; number = (e t).number };
    begins = λ a b w. source_place a (wiring_from g p body (record { from = a; to = b }) w);
    ends = λ a b w. target_place b (wiring_to g p body (record { from = a; to = b }) w);
    apart = λ k j x a b. fam_apart k j x.owner a.0 b.0 a.1 b.1;
    from_own = λ k x y c. (c.0, kid_made k x.owner c.0 (links_between g u leaf (place_module g p k) (kid_run names (opened_run r p names rest) k) wf (kid_law k c.0).run (record { from = x; to = y }) c.1).from);
    to_own = λ k x y c. (c.0, kid_made k y.owner c.0 (links_between g u leaf (place_module g p k) (kid_run names (opened_run r p names rest) k) wf (kid_law k c.0).run (record { from = x; to = y }) c.1).to);
    enters = λ k a b w o. enters_at k b (wiring_to g p body (record { from = a; to = b }) w) o;
    leaves = λ k a b w o. leaves_at k a (wiring_from g p body (record { from = a; to = b }) w) o;
  }

  root_links : links_of g u leaf (opened_run r p names rest) (record { name = r; module_no = head_of g p }) ≡ map (move_link (instance_at r names)) (wiring g p)
  root_links =
      ap (λ b. cond b (opened_links g leaf (record { name = r; module_no = head_of g p }) (expanded_by (opened_run r p names rest) r)) (pair_links g leaf (head_of g p) r)) ex ∙
      ap (opened_links g leaf (record { name = r; module_no = head_of g p })) parted.root_open

  -- each link of the run is one of the level
  pub to_level : (x y : Port (List ℕ)) → IsLinked (links_with g u leaf (head_of g p) (opened_run r p names rest)) x y → Whole (Wired g p) (put r names) (Inner g u leaf p names (opened_run r p names rest)) x y
  to_level x y h =
      let q = in_flat_map_from (links_of g u leaf (opened_run r p names rest)) (record { from = x; to = y }) (seen_in g u (head_of g p) (opened_run r p names rest)) h in
      ⊎_elim (at_root q.0 q.2) (below_root q.0 q.1 q.2)
      (parted.parted q.0 ((run_state g u (head_of g p) (opened_run r p names rest) run).seen_made q.0 q.1))
    where
      at_root : (j : Instance) → IsIn (record { from = x; to = y }) (links_of g u leaf (opened_run r p names rest) j) → j ≡ record { name = r; module_no = head_of g p } → Whole (Wired g p) (put r names) (Inner g u leaf p names (opened_run r p names rest)) x y
      at_root j l e =
          let a : IsIn (record { from = x; to = y }) (map (move_link (instance_at r names)) (wiring g p)) = subst (IsIn (record { from = x; to = y })) (ap (links_of g u leaf (opened_run r p names rest)) e ∙ root_links) l in
          let w = in_map_from (move_link (instance_at r names)) (record { from = x; to = y }) (wiring g p) a in
          inl (w.0.from, w.0.to, ap (λ (z : Link (List ℕ)). z.from) (sym w.2), ap (λ (z : Link (List ℕ)). z.to) (sym w.2), w.1)

      below_root : (j : Instance) → IsIn j (seen_in g u (head_of g p) (opened_run r p names rest)) → IsIn (record { from = x; to = y }) (links_of g u leaf (opened_run r p names rest) j) → ((k : ℕ) × (k < length names) × IsIn j.name (family (child names k ∷ []) rest)) → Whole (Wired g p) (put r names) (Inner g u leaf p names (opened_run r p names rest)) x y
      below_root j s l c =
          let n : IsIn j.name (family (child names c.0 ∷ []) (opened_run r p names rest)) = subst (IsIn j.name) (sym (fam c.0 c.1)) c.2 in
          let f = in_filter (is_among (family (child names c.0 ∷ []) (opened_run r p names rest))) j (seen_in g u (head_of g p) (opened_run r p names rest)) s (among_from j.name _ n) in
          inr (
            c.0,
            (
              c.1,
              subst (IsIn (record { from = x; to = y })) (sym ((kid_law c.0 c.1).same_links leaf))
                  (in_flat_map (links_of g u leaf (opened_run r p names rest)) j (record { from = x; to = y }) (filter (is_among (family (child names c.0 ∷ []) (opened_run r p names rest))) (seen_in g u (head_of g p) (opened_run r p names rest))) f l),
            ),
          )

  -- and each of the level is one of the run
  pub from_level : (x y : Port (List ℕ)) → Whole (Wired g p) (put r names) (Inner g u leaf p names (opened_run r p names rest)) x y → IsLinked (links_with g u leaf (head_of g p) (opened_run r p names rest)) x y
  from_level x y (inl w) =
      let a : IsLinked (map (move_link (instance_at r names)) (wiring g p)) (put r names w.0) (put r names w.1) = in_map (move_link (instance_at r names)) (record { from = w.0; to = w.1 }) (wiring g p) w.4 in
      let b : IsLinked (links_of g u leaf (opened_run r p names rest) (record { name = r; module_no = head_of g p })) x y =
      subst (IsIn (record { from = x; to = y })) (sym root_links) (subst (λ z. IsLinked (map (move_link (instance_at r names)) (wiring g p)) z y) w.2 (subst (λ z. IsLinked (map (move_link (instance_at r names)) (wiring g p)) (put r names w.0) z) w.3 a)) in
      in_flat_map (links_of g u leaf (opened_run r p names rest)) (record { name = r; module_no = head_of g p }) (record { from = x; to = y }) (seen_in g u (head_of g p) (opened_run r p names rest)) (root_seen g u r p names rest) b
  from_level x y (inr c) =
      let a : IsIn (record { from = x; to = y }) (flat_map (links_of g u leaf (opened_run r p names rest)) (filter (is_among (family (child names c.0 ∷ []) (opened_run r p names rest))) (seen_in g u (head_of g p) (opened_run r p names rest)))) = subst (IsIn (record { from = x; to = y })) ((kid_law c.0 c.1.0).same_links leaf) c.1.1 in
      let q = in_flat_map_from (links_of g u leaf (opened_run r p names rest)) (record { from = x; to = y }) (filter (is_among (family (child names c.0 ∷ []) (opened_run r p names rest))) (seen_in g u (head_of g p) (opened_run r p names rest))) a in
      in_flat_map (links_of g u leaf (opened_run r p names rest)) q.0 (record { from = x; to = y }) (seen_in g u (head_of g p) (opened_run r p names rest)) (in_filter_from (is_among (family (child names c.0 ∷ []) (opened_run r p names rest))) q.0 (seen_in g u (head_of g p) (opened_run r p names rest)) q.1).0 q.2

  -- steps from a child lead through its family, in the whole run as in its own
  pub along_own : (k : ℕ) → k < length names → (a : List Step) (n c : List ℕ) → IsIn n (family (child names k ∷ []) (opened_run r p names rest)) → IsAlong g u (opened_run r p names rest) n a c → IsAlong g u (kid_run names (opened_run r p names rest) k) n a c × IsIn c (family (child names k ∷ []) (opened_run r p names rest))
  along_own k hk [] n c h e = (e, subst (λ z. IsIn z (family (child names k ∷ []) (opened_run r p names rest))) e h)
  along_own k hk (s ∷ a) n c h e =
      let same = (kid_follows k hk).tracks.within n h ∙ e.1 in
      let o = opening g (place_module g p k) [] (kid_run names (opened_run r p names rest) k) n (record { production = s.production; names = e.0 }) (kid_law k hk).run same in
      let made = o.names_made (get_or e.0 s.position []) (at_in _ s.position e.0 (is_at s.position e.0 [] e.2)) in
      let own = kid_made k (get_or e.0 s.position []) hk made in
      let q = along_own k hk a (get_or e.0 s.position []) c own e.4 in
      ((e.0, same, e.2, e.3, q.0), q.1)
