-- The run of one seen instance: it is a run, with the same links in the same order.
use Rattle.std.proofs.Common.{◌≡◌, ℕ, ◌⊎◌, Bool, true, false, cond, List, [], ◌∷◌, ◌++◌, flat_map, filter, bytes_eq, Option, Some, None, refl, sym, ap, ◌∙◌, subst, inl, inr, ⊎_elim, append_assoc, append-nil}
use Rattle.std.proofs.lemmas.List.Elements.{filter-append}
use Rattle.wf_model.specs.Lists.{IsIn, AllDiffer, some}
use Rattle.wf_model.specs.Grammar.{Grammar, head_of, body_of}
use Rattle.wf_model.specs.View.{View, expands}
use Rattle.wf_model.specs.declared.event.Event.{Event}
use Rattle.wf_model.specs.declared.event.Event.TheVariants.{Start, Expand}
use Rattle.wf_model.specs.Run.{Instance, Expanded, IsName, named, made_by, made, names_of, expanded_by, Extends, AllExtend, IsRun, opens, newly_seen, see_all, seen_in, below, family, sub_run}
use Rattle.wf_model.specs.Links.{opened_links, links_of, pair_links}
use Rattle.wf_model.specs.SubRun.{is_among, SubRunLaw}
use Rattle.wf_model.proofs.Lists.{in_append_left, in_append_cases, among_gives, among_from, among_none, filter_none, in_filter_from}
use Rattle.wf_model.proofs.Runs.{named_names, expansion_other, expansion_start, name_in, made_new, made_cases, see_all-append, IsState, state_more, run_state, AllExtend-append, made-append}
use Rattle.wf_laws.proofs.Track.{Tracks, track}
use Rattle.wf_model.proofs.Mapping.{flat_map_same}

-- of the instances that get these names, the one that has its own name
pub the_one : (i : Instance) (ns : List (List ℕ)) (ms : List ℕ) → AllDiffer ns → IsIn i (named ns ms) → filter (is_among (i.name ∷ [])) (named ns ms) ≡ i ∷ []
the_one i [] ms d h = absurd h
the_one i (n ∷ ns) [] d h = absurd h
the_one i (n ∷ ns) (k ∷ ms) d (inl e) =
    let same : n ≡ i.name = ap (λ (j : Instance). j.name) (sym e) in
    let t : is_among (i.name ∷ []) (record { name = n; module_no = k }) ≡ true = among_from n (i.name ∷ []) (inl same) in
    ap (λ b. cond b (record { name = n; module_no = k } ∷ filter (is_among (i.name ∷ [])) (named ns ms)) (filter (is_among (i.name ∷ [])) (named ns ms))) t ∙
    (ap (λ l. record { name = n; module_no = k } ∷ l) (filter_none (is_among (i.name ∷ [])) (named ns ms) none) ∙ ap (λ j. j ∷ []) (sym e))
  where
    none : (j : Instance) → IsIn j (named ns ms) → is_among (i.name ∷ []) j ≡ false
    none j q = go (is_among (i.name ∷ []) j) refl
      where
        go : (o : Bool) → is_among (i.name ∷ []) j ≡ o → is_among (i.name ∷ []) j ≡ false
        go false r = r
        go true r =
            let s : j.name ≡ i.name = ⊎_elim (λ a. a) (λ a. absurd a) (among_gives j.name (i.name ∷ []) r) in
            absurd (d.0 (subst (λ l. IsIn l ns) (s ∙ ap (λ (z : Instance). z.name) e) (named_names j ns ms q)))
the_one i (n ∷ ns) (k ∷ ms) d (inr h) =
    ap (λ b. cond b (record { name = n; module_no = k } ∷ filter (is_among (i.name ∷ [])) (named ns ms)) (filter (is_among (i.name ∷ [])) (named ns ms))) (other (is_among (i.name ∷ []) (record { name = n; module_no = k })) refl) ∙ the_one i ns ms d.1 h
  where
    other : (o : Bool) → is_among (i.name ∷ []) (record { name = n; module_no = k }) ≡ o → is_among (i.name ∷ []) (record { name = n; module_no = k }) ≡ false
    other false r = r
    other true r =
        let s : n ≡ i.name = ⊎_elim (λ a. a) (λ a. absurd a) (among_gives n (i.name ∷ []) r) in
        absurd (d.0 (subst (λ l. IsIn l ns) (sym s) (named_names i ns ms h)))

-- no event of the list expands n
abbrev pub NoneExpands : List ℕ → List Event → Type 0
NoneExpands n [] = Unit {0}
NoneExpands n (Start r ∷ events) = NoneExpands n events
NoneExpands n (Expand i p new ∷ events) = (i ≡ n → ⊥) × NoneExpands n events

not_alone : (i n : List ℕ) → (i ≡ n → ⊥) → some (bytes_eq i) (n ∷ []) ≡ false
not_alone i n h = among_none i (n ∷ []) (λ q. ⊎_elim h (λ a. absurd a) q)

pub skipped : (n : List ℕ) (a r : List Event) → NoneExpands n a → (below (n ∷ []) (a ++ r) ≡ below (n ∷ []) r) × (family (n ∷ []) (a ++ r) ≡ family (n ∷ []) r)
skipped n [] r h = (refl, refl)
skipped n (Start s ∷ a) r h = skipped n a r h
skipped n (Expand i p new ∷ a) r h =
    let e = not_alone i n h.0 in
    let ih = skipped n a r h.1 in (
      ap (λ o. cond o (Expand i p new ∷ []) [] ++ below (cond o (n ∷ new) (n ∷ [])) (a ++ r)) e ∙ ih.0,
      ap (λ o. family (cond o (n ∷ new) (n ∷ [])) (a ++ r)) e ∙ ih.1,
    )

none_expands : (g : Grammar) (m : ℕ) (n : List ℕ) (b a : List Event) (e : Event) → AllExtend g m b (a ++ e ∷ []) → (IsIn n (names_of (made g m (b ++ a))) → ⊥) → NoneExpands n (a ++ e ∷ [])
none_expands g m n b [] (Start r) x h = tt
none_expands g m n b [] (Expand i p new) x h =
    ((λ q. h (subst (λ l. IsIn l (names_of (made g m (b ++ [])))) q (subst (λ l. IsIn i (names_of (made g m l))) (sym (append-nil b)) (name_in _ _ x.0.stands)))), tt)
none_expands g m n b (Start r ∷ a) e x h = none_expands g m n (b ++ Start r ∷ []) a e x.1 (λ q. h (subst (λ l. IsIn n (names_of (made g m l))) (append_assoc b (Start r ∷ []) a) q))
none_expands g m n b (Expand i p new ∷ a) e x h = (
  (λ q. h (subst (λ l. IsIn l (names_of (made g m (b ++ Expand i p new ∷ a)))) q
      (let j = x.0.stands in name_in _ _ (subst (λ l. IsIn (record { name = i; module_no = head_of g p }) l) (sym (made-append g m b (Expand i p new ∷ a))) (in_append_left _ (made g m b) _ j))))),
  none_expands g m n (b ++ Expand i p new ∷ []) a e x.1 (λ q. h (subst (λ l. IsIn n (names_of (made g m l))) (append_assoc b (Expand i p new ∷ []) a) q)),
)

-- the event that brought an instance into sight
brought_by : (g : Grammar) (u : View) (m : ℕ) (i : Instance) (s : List Instance) (events : List Event) → IsIn i (see_all g u m s events) → IsIn i s ⊎ ((a : List Event) × (e : Event) × (r : List Event) × (events ≡ a ++ e ∷ r) × IsIn i (newly_seen g u m (see_all g u m s a) e))
brought_by g u m i s [] h = inl h
brought_by g u m i s (e ∷ events) h =
    ⊎_elim
    (λ q. ⊎_elim (λ a. inl a) (λ a. inr ([], e, events, refl, a)) (in_append_cases i s (newly_seen g u m s e) q))
    (λ q. inr (e ∷ q.0, q.1, q.2, ap (λ l. e ∷ l) q.3, q.4))
    (brought_by g u m i (s ++ newly_seen g u m s e) events h)

-- what is known when the instance has just come into sight
record IsJust (g : Grammar) (u : View) (m : ℕ) (b : List Event) (s : List Instance) (e : Event) (i : Instance) : Type 0 where
  fresh : IsIn i.name (names_of (made g m b)) → ⊥
  alone : filter (is_among (i.name ∷ [])) (newly_seen g u m s e) ≡ i ∷ []
  good : IsName i.name
  by_it : (j : Instance) → IsIn j (made_by g m e) → j.name ≡ i.name → j ≡ i
  made : IsIn i (made_by g m e)

same_of_names : (ns : List (List ℕ)) (ms : List ℕ) → AllDiffer ns → (i j : Instance) → IsIn i (named ns ms) → IsIn j (named ns ms) → j.name ≡ i.name → j ≡ i
same_of_names [] ms d i j h q e = absurd h
same_of_names (n ∷ ns) [] d i j h q e = absurd h
same_of_names (n ∷ ns) (k ∷ ms) d i j (inl h) (inl q) e = q ∙ sym h
same_of_names (n ∷ ns) (k ∷ ms) d i j (inl h) (inr q) e = absurd (d.0 (subst (λ l. IsIn l ns) (e ∙ ap (λ (z : Instance). z.name) h) (named_names j ns ms q)))
same_of_names (n ∷ ns) (k ∷ ms) d i j (inr h) (inl q) e = absurd (d.0 (subst (λ l. IsIn l ns) (sym e ∙ ap (λ (z : Instance). z.name) q) (named_names i ns ms h)))
same_of_names (n ∷ ns) (k ∷ ms) d i j (inr h) (inr q) e = same_of_names ns ms d.1 i j h q e

just : (g : Grammar) (u : View) (m : ℕ) (b : List Event) (s : List Instance) (e : Event) (i : Instance) → Extends g m b e → IsIn i (newly_seen g u m s e) → IsJust g u m b s e i
just g u m b s (Start r) i x (inr h) = absurd h
just g u m b s (Start r) i x (inl h) =
    let n : i.name ≡ r = ap (λ (z : Instance). z.name) h in
    record {
      fresh = λ q. subst (λ l. IsIn i.name (names_of (made g m l))) x.0 q;
      alone = ap (λ o. cond o (record { name = r; module_no = m } ∷ []) []) (among_from r (i.name ∷ []) (inl (sym n))) ∙ ap (λ j. j ∷ []) (sym h);
      good = subst IsName (sym n) x.1;
      by_it = λ j q d. ⊎_elim (λ a. a ∙ sym h) (λ a. absurd a) q;
      made = inl h;
    }
just g u m b s (Expand p q new) i x h = go (opens u s p) refl h
  where
    go : (o : Bool) → opens u s p ≡ o → IsIn i (cond o (named new (body_of g q)) []) → IsJust g u m b s (Expand p q new) i
    go false e a = absurd a
    go true e a =
        let n = named_names i new (body_of g q) a in
        record {
          fresh = λ z. x.new i.name n z;
          alone = ap (λ o. filter (is_among (i.name ∷ [])) (cond o (named new (body_of g q)) [])) e ∙ the_one i new (body_of g q) x.differ a;
          good = x.good i.name n;
          by_it = λ j z d. same_of_names new (body_of g q) x.differ i j a z d;
          made = a;
        }

-- following begins where the instance comes into sight
begins : (g : Grammar) (u : View) (m : ℕ) (b : List Event) (s : List Instance) (e : Event) (i : Instance) → IsState g m b s → Extends g m b e → IsIn i (newly_seen g u m s e) → Tracks g u m i.module_no (b ++ e ∷ []) (s ++ newly_seen g u m s e) (i.name ∷ []) (Start i.name ∷ []) (i ∷ [])
begins g u m b s e i st x h =
    let j = just g u m b s e i x h in
    record {
      seen = sym (filter-append (is_among (i.name ∷ [])) s (newly_seen g u m s e) ∙
          (ap (λ l. l ++ filter (is_among (i.name ∷ [])) (newly_seen g u m s e)) (filter_none (is_among (i.name ∷ [])) s (λ k q. not_alone k.name i.name (λ d. j.fresh (subst (λ l. IsIn l (names_of (made g m b))) d (name_in k _ (st.seen_made k q)))))) ∙ j.alone));
      state = state_more g u m b s e st x;
      family_made = λ n q. ⊎_elim (λ d. subst (λ l. IsIn l (names_of (made g m (b ++ e ∷ [])))) (sym d) (name_in i _ (made_new g m b e i j.made))) (λ d. absurd d) q;
      within = λ n q. sym (shut n (⊎_elim (λ d. d) (λ d. absurd d) q) j.fresh);
      without = λ n q. refl;
      part = λ k q. ⊎_elim (λ d. (subst (λ l. IsIn l (made g m (b ++ e ∷ []))) (sym d) (made_new g m b e i j.made), inl (ap (λ (z : Instance). z.name) d))) (λ d. absurd d) q;
      whole = λ k q r. let d : k.name ≡ i.name = ⊎_elim (λ a. a) (λ a. absurd a) r in
          inl (⊎_elim (λ a. absurd (j.fresh (subst (λ l. IsIn l (names_of (made g m b))) d (name_in k _ a)))) (λ a. j.by_it k a d) (made_cases g m b e k q));
      begun = (i.name, inl refl);
    }
  where
    before : (o : Option Expanded) → expanded_by b i.name ≡ o → (IsIn i.name (names_of (made g m b)) → ⊥) → expanded_by b i.name ≡ None
    before None q f = q
    before (Some y) q f = absurd (f (st.expanded_made i.name y q))

    after : (e : Event) → Extends g m b e → (IsIn i.name (names_of (made g m b)) → ⊥) → expanded_by (b ++ e ∷ []) i.name ≡ expanded_by b i.name
    after (Start r) x f = expansion_start b r i.name
    after (Expand p q new) x f = expansion_other b p q new i.name (λ d. f (subst (λ l. IsIn l (names_of (made g m b))) d (name_in _ _ x.stands)))

    shut : (n : List ℕ) → n ≡ i.name → (IsIn i.name (names_of (made g m b)) → ⊥) → expanded_by (b ++ e ∷ []) n ≡ None
    shut n d f = ap (expanded_by (b ++ e ∷ [])) d ∙ (after e x f ∙ before (expanded_by b i.name) refl f)

-- the run of a seen instance follows the whole run to its end
pub record Follows (g : Grammar) (u : View) (m : ℕ) (events : List Event) (i : Instance) : Type 0 where
  pub good : IsName i.name
  pub extend : AllExtend g i.module_no (Start i.name ∷ []) (below (i.name ∷ []) events)
  pub tracks : Tracks g u m i.module_no events (seen_in g u m events) (family (i.name ∷ []) events) (sub_run i.name events) (seen_in g u i.module_no (sub_run i.name events))

pub follows : (g : Grammar) (u : View) (m : ℕ) (events : List Event) (i : Instance) → IsRun g m events → IsIn i (seen_in g u m events) → Follows g u m events i
follows g u m events i run h = ⊎_elim (λ a. absurd a) found (brought_by g u m i [] events h)
  where
    found : ((a : List Event) × (e : Event) × (r : List Event) × (events ≡ a ++ e ∷ r) × IsIn i (newly_seen g u m (see_all g u m [] a) e)) → Follows g u m events i
    found c =
        let a = c.0 in
        let e = c.1 in
        let r = c.2 in
        let whole = subst (IsRun g m) c.3 run in
        let x = AllExtend-append g m [] a (e ∷ r) whole in
        let upto = AllExtend-append g m [] (a ++ e ∷ []) r (subst (IsRun g m) (c.3 ∙ sym (append_assoc a (e ∷ []) r)) run) in
        let j = just g u m a (see_all g u m [] a) e i x.1.0 c.4 in
        let st = run_state g u m a x.0 in
        let tr = begins g u m a (see_all g u m [] a) e i st x.1.0 c.4 in
        let fo = track g u m i.module_no r (a ++ e ∷ []) (see_all g u m [] a ++ newly_seen g u m (see_all g u m [] a) e) (i.name ∷ []) (Start i.name ∷ []) (i ∷ []) tr x.1.1 in
        let sk = skipped i.name (a ++ e ∷ []) r (none_expands g m i.name [] a e upto.0 j.fresh) in
        let e1 : (a ++ e ∷ []) ++ r ≡ events = append_assoc a (e ∷ []) r ∙ sym c.3 in
        let e2 : see_all g u m (see_all g u m [] a ++ newly_seen g u m (see_all g u m [] a) e) r ≡ seen_in g u m events = sym (see_all-append g u m [] a (e ∷ r)) ∙ ap (see_all g u m []) (sym c.3) in
        let e3 : family (i.name ∷ []) r ≡ family (i.name ∷ []) events = sym sk.1 ∙ ap (family (i.name ∷ [])) e1 in
        let e4 : below (i.name ∷ []) r ≡ below (i.name ∷ []) events = sym sk.0 ∙ ap (below (i.name ∷ [])) e1 in
        record {
          good = j.good;
          extend = subst (AllExtend g i.module_no (Start i.name ∷ [])) e4 fo.extend;
          tracks =
              subst (λ l. Tracks g u m i.module_no l (seen_in g u m events) (family (i.name ∷ []) events) (sub_run i.name events) (seen_in g u i.module_no (sub_run i.name events))) e1
              (subst (λ l. Tracks g u m i.module_no ((a ++ e ∷ []) ++ r) l (family (i.name ∷ []) events) (sub_run i.name events) (seen_in g u i.module_no (sub_run i.name events))) e2
              (subst (λ l. Tracks g u m i.module_no ((a ++ e ∷ []) ++ r) (see_all g u m (see_all g u m [] a ++ newly_seen g u m (see_all g u m [] a) e) r) l (sub_run i.name events) (seen_in g u i.module_no (sub_run i.name events))) e3
              (subst (λ l. Tracks g u m i.module_no ((a ++ e ∷ []) ++ r) (see_all g u m (see_all g u m [] a ++ newly_seen g u m (see_all g u m [] a) e) r) (family (i.name ∷ []) r) (Start i.name ∷ l) (seen_in g u i.module_no (Start i.name ∷ l))) e4
              fo.tracks)));
        }

pub sub_run_law : SubRunLaw
sub_run_law g u m events i run h =
    let fo = follows g u m events i run h in
    let tr = fo.tracks in
    record {
      run = ((refl, fo.good), fo.extend);
      same_links =
          λ leaf. ap (flat_map (links_of g u leaf (sub_run i.name events))) tr.seen ∙
          flat_map_same (links_of g u leaf (sub_run i.name events)) (links_of g u leaf events) (filter (is_among (family (i.name ∷ []) events)) (seen_in g u m events))
          (λ j q. let r = in_filter_from (is_among (family (i.name ∷ []) events)) j (seen_in g u m events) q in
          ap (λ o. cond (expands u j.module_no) (opened_links g leaf j o) (pair_links g leaf j.module_no j.name)) (tr.within j.name (among_gives j.name (family (i.name ∷ []) events) r.1)));
      finished = λ fin j p.
          let q = in_filter_from (is_among (family (i.name ∷ []) events)) j (seen_in g u m events) (subst (λ l. IsIn j l) tr.seen p.0) in
          fin j (q.0, p.1, sym (tr.within j.name (among_gives j.name (family (i.name ∷ []) events) q.1)) ∙ p.2);
    }
