-- Facts on runs: what is made, seen and expanded as events follow.
use Rattle.std.proofs.Common.{◌≡◌, ℕ, zero, suc, ◌⊎◌, Bool, true, false, cond, List, [], ◌∷◌, ◌++◌, length, bytes_eq, Option, Some, None, refl, sym, ap, ◌∙◌, subst, inl, inr, ⊎_elim, arith, true≢false, append_assoc, append-nil}
use Rattle.std.proofs.lemmas.List.Concat.{flat_map-append}
use Rattle.wf_model.specs.Lists.{IsIn, IsAt}
use Rattle.wf_model.specs.Grammar.{Grammar, body_of}
use Rattle.wf_model.specs.View.{View}
use Rattle.wf_model.specs.declared.event.Event.{Event}
use Rattle.wf_model.specs.declared.event.Event.TheVariants.{Start, Expand}
use Rattle.wf_model.specs.Run.{Instance, Expanded, named, made_by, made, names_of, expanded_by, Extends, AllExtend, IsRun, opens, newly_seen, see_all, seen_in}
use Rattle.wf_model.proofs.Lists.{in_append_left, in_append_right, in_append_cases, in_map, in_map_from, same_bytes, bytes_same}

pub made-append : (g : Grammar) (m : ℕ) (a b : List Event) → made g m (a ++ b) ≡ made g m a ++ made g m b
made-append g m a b = flat_map-append (made_by g m) a b

pub made_more : (g : Grammar) (m : ℕ) (a : List Event) (e : Event) → made g m (a ++ e ∷ []) ≡ made g m a ++ made_by g m e
made_more g m a e = made-append g m a (e ∷ []) ∙ ap (λ l. made g m a ++ l) (append-nil (made_by g m e))

-- what the names that an event gives are
pub named_names : (i : Instance) (names : List (List ℕ)) (ms : List ℕ) → IsIn i (named names ms) → IsIn i.name names
named_names i [] ms h = absurd h
named_names i (n ∷ ns) [] h = absurd h
named_names i (n ∷ ns) (k ∷ ms) (inl e) = inl (ap (λ (j : Instance). j.name) e)
named_names i (n ∷ ns) (k ∷ ms) (inr h) = inr (named_names i ns ms h)

pub names-named : (names : List (List ℕ)) (ms : List ℕ) → length names ≡ length ms → names_of (named names ms) ≡ names
names-named [] ms e = refl
names-named (n ∷ ns) [] e = absurd (omega arith)
names-named (n ∷ ns) (k ∷ ms) e = let d : length ns ≡ length ms = omega arith in ap (λ l. n ∷ l) (names-named ns ms d)

pub expansion_kept : (a b : List Event) (n : List ℕ) (x : Expanded) → expanded_by a n ≡ Some x → expanded_by (a ++ b) n ≡ Some x
expansion_kept [] b n x h = absurd (cc)
expansion_kept (Start r ∷ a) b n x h = expansion_kept a b n x h
expansion_kept (Expand i p names ∷ a) b n x h = go (expansion_kept a b n x) (bytes_eq i n) h
  where
    go : (expanded_by a n ≡ Some x → expanded_by (a ++ b) n ≡ Some x) → (t : Bool) → cond t (Some (record { production = p; names = names })) (expanded_by a n) ≡ Some x → cond t (Some (record { production = p; names = names })) (expanded_by (a ++ b) n) ≡ Some x
    go ih true e = e
    go ih false e = ih e

pub expansion_later : (a b : List Event) (n : List ℕ) → expanded_by a n ≡ None → expanded_by (a ++ b) n ≡ expanded_by b n
expansion_later [] b n h = refl
expansion_later (Start r ∷ a) b n h = expansion_later a b n h
expansion_later (Expand i p names ∷ a) b n h = go (expansion_later a b n) (bytes_eq i n) h
  where
    go : (expanded_by a n ≡ None → expanded_by (a ++ b) n ≡ expanded_by b n) → (t : Bool) → cond t (Some (record { production = p; names = names })) (expanded_by a n) ≡ None → cond t (Some (record { production = p; names = names })) (expanded_by (a ++ b) n) ≡ expanded_by b n
    go ih true e = absurd (cc)
    go ih false e = ih e

-- one expand event more: it tells of its own instance alone
pub expansion_other : (a : List Event) (i : List ℕ) (p : ℕ) (names : List (List ℕ)) (n : List ℕ) → (i ≡ n → ⊥) → expanded_by (a ++ Expand i p names ∷ []) n ≡ expanded_by a n
expansion_other [] i p names n h = go (bytes_eq i n) refl
  where
    go : (t : Bool) → bytes_eq i n ≡ t → cond {A = Option Expanded} (bytes_eq i n) (Some (record { production = p; names = names })) None ≡ None
    go true e = absurd (h (same_bytes i n e))
    go false e = ap (λ t. cond {A = Option Expanded} t (Some (record { production = p; names = names })) None) e
expansion_other (Start r ∷ a) i p names n h = expansion_other a i p names n h
expansion_other (Expand j q others ∷ a) i p names n h =
    ap (λ o. cond {A = Option Expanded} (bytes_eq j n) (Some (record { production = q; names = others })) o) (expansion_other a i p names n h)

pub see_all-append : (g : Grammar) (u : View) (m : ℕ) (s : List Instance) (a b : List Event) → see_all g u m s (a ++ b) ≡ see_all g u m (see_all g u m s a) b
see_all-append g u m s [] b = refl
see_all-append g u m s (e ∷ a) b = see_all-append g u m (s ++ newly_seen g u m s e) a b

pub AllExtend-append : (g : Grammar) (m : ℕ) (before a b : List Event) → AllExtend g m before (a ++ b) → AllExtend g m before a × AllExtend g m (before ++ a) b
AllExtend-append g m before [] b h = (tt, subst (λ l. AllExtend g m l b) (sym (append-nil before)) h)
AllExtend-append g m before (e ∷ a) b h =
    let r = AllExtend-append g m (before ++ e ∷ []) a b h.1 in
    ((h.0, r.0), subst (λ l. AllExtend g m l b) (append_assoc before (e ∷ []) a) r.1)

pub expansion_along : (a b c : List Event) (n : List ℕ) → expanded_by a n ≡ expanded_by b n → expanded_by (a ++ c) n ≡ expanded_by (b ++ c) n
expansion_along a b c n h = go (expanded_by a n) refl
  where
    go : (o : Option Expanded) → expanded_by a n ≡ o → expanded_by (a ++ c) n ≡ expanded_by (b ++ c) n
    go None e = expansion_later a c n e ∙ sym (expansion_later b c n (sym h ∙ e))
    go (Some x) e = expansion_kept a c n x e ∙ sym (expansion_kept b c n x (sym h ∙ e))

pub name_in : (i : Instance) (is : List Instance) → IsIn i is → IsIn i.name (names_of is)
name_in i is h = in_map (λ (j : Instance). j.name) i is h

pub name_from : (n : List ℕ) (is : List Instance) → IsIn n (names_of is) → (i : Instance) × IsIn i is × (n ≡ i.name)
name_from n is h = in_map_from (λ (j : Instance). j.name) n is h

module _ (g : Grammar) (m : ℕ) (b : List Event) where
  pub made_kept : (e : Event) (i : Instance) → IsIn i (made g m b) → IsIn i (made g m (b ++ e ∷ []))
  made_kept e i h = subst (λ l. IsIn i l) (sym (made_more g m b e)) (in_append_left i (made g m b) (made_by g m e) h)

  pub made_new : (e : Event) (i : Instance) → IsIn i (made_by g m e) → IsIn i (made g m (b ++ e ∷ []))
  made_new e i h = subst (λ l. IsIn i l) (sym (made_more g m b e)) (in_append_right i (made g m b) (made_by g m e) h)

  pub made_cases : (e : Event) (i : Instance) → IsIn i (made g m (b ++ e ∷ [])) → IsIn i (made g m b) ⊎ IsIn i (made_by g m e)
  made_cases e i h = in_append_cases i (made g m b) (made_by g m e) (subst (λ l. IsIn i l) (made_more g m b e) h)

  pub name_kept : (e : Event) (n : List ℕ) → IsIn n (names_of (made g m b)) → IsIn n (names_of (made g m (b ++ e ∷ [])))
  name_kept e n h = let r = name_from n (made g m b) h in subst (λ k. IsIn k (names_of (made g m (b ++ e ∷ [])))) (sym r.2) (name_in r.0 _ (made_kept e r.0 r.1))

  pub name_new : (i : List ℕ) (p : ℕ) (new : List (List ℕ)) (n : List ℕ) → length new ≡ length (body_of g p) → IsIn n new → IsIn n (names_of (made g m (b ++ Expand i p new ∷ [])))
  name_new i p new n e h =
      let k : IsIn n (names_of (named new (body_of g p))) = subst (λ l. IsIn n l) (sym (names-named new (body_of g p) e)) h in
      let r = name_from n (named new (body_of g p)) k in
      subst (λ l. IsIn l (names_of (made g m (b ++ Expand i p new ∷ [])))) (sym r.2) (name_in r.0 _ (made_new (Expand i p new) r.0 r.1))

  pub name_cases : (i : List ℕ) (p : ℕ) (new : List (List ℕ)) (n : List ℕ) → IsIn n (names_of (made g m (b ++ Expand i p new ∷ []))) → IsIn n (names_of (made g m b)) ⊎ IsIn n new
  name_cases i p new n h =
      let r = name_from n (made g m (b ++ Expand i p new ∷ [])) h in
      ⊎_elim
      (λ a. inl (subst (λ l. IsIn l (names_of (made g m b))) (sym r.2) (name_in r.0 _ a)))
      (λ c. inr (subst (λ l. IsIn l new) (sym r.2) (named_names r.0 new (body_of g p) c)))
      (made_cases (Expand i p new) r.0 r.1)

pub expansion_start : (a : List Event) (r : List ℕ) (n : List ℕ) → expanded_by (a ++ Start r ∷ []) n ≡ expanded_by a n
expansion_start a r n = go (expanded_by a n) refl
  where
    go : (o : Option Expanded) → expanded_by a n ≡ o → expanded_by (a ++ Start r ∷ []) n ≡ expanded_by a n
    go None e = expansion_later a (Start r ∷ []) n e ∙ sym e
    go (Some x) e = expansion_kept a (Start r ∷ []) n x e ∙ sym e

-- what is seen is made, and what is expanded is made
pub record IsState (g : Grammar) (m : ℕ) (b : List Event) (s : List Instance) : Type 0 where
  pub seen_made : (i : Instance) → IsIn i s → IsIn i (made g m b)
  pub expanded_made : (n : List ℕ) (x : Expanded) → expanded_by b n ≡ Some x → IsIn n (names_of (made g m b))

module _ (g : Grammar) (u : View) (m : ℕ) where
  pub newly-made : (s : List Instance) (e : Event) (j : Instance) → IsIn j (newly_seen g u m s e) → IsIn j (made_by g m e)
  newly-made s (Start r) j h = h
  newly-made s (Expand i p new) j h = go (opens u s i) h
    where
      go : (o : Bool) → IsIn j (cond o (named new (body_of g p)) []) → IsIn j (named new (body_of g p))
      go true a = a
      go false a = absurd a

  pub state_more : (b : List Event) (s : List Instance) (e : Event) → IsState g m b s → Extends g m b e → IsState g m (b ++ e ∷ []) (s ++ newly_seen g u m s e)
  state_more b s e st x = record { seen_made = sees; expanded_made = shuts e x }
    where
      sees : (j : Instance) → IsIn j (s ++ newly_seen g u m s e) → IsIn j (made g m (b ++ e ∷ []))
      sees j h = ⊎_elim (λ a. made_kept g m b e j (st.seen_made j a)) (λ a. made_new g m b e j (newly-made s e j a)) (in_append_cases j s (newly_seen g u m s e) h)

      shuts : (e : Event) → Extends g m b e → (n : List ℕ) (y : Expanded) → expanded_by (b ++ e ∷ []) n ≡ Some y → IsIn n (names_of (made g m (b ++ e ∷ [])))
      shuts (Start r) x n y h = name_kept g m b (Start r) n (st.expanded_made n y (sym (expansion_start b r n) ∙ h))
      shuts (Expand i p new) can n y h = go (bytes_eq i n) refl
        where
          go : (t : Bool) → bytes_eq i n ≡ t → IsIn n (names_of (made g m (b ++ Expand i p new ∷ [])))
          go true q = subst (λ l. IsIn l (names_of (made g m (b ++ Expand i p new ∷ [])))) (same_bytes i n q) (name_in _ _ (made_kept g m b (Expand i p new) _ can.stands))
          go false q = name_kept g m b (Expand i p new) n (st.expanded_made n y (sym (expansion_other b i p new n (λ z. true≢false (sym (bytes_same i n z) ∙ q))) ∙ h))

  pub state_all : (b : List Event) (s : List Instance) (a : List Event) → IsState g m b s → AllExtend g m b a → IsState g m (b ++ a) (see_all g u m s a)
  state_all b s [] st x = subst (λ l. IsState g m l s) (sym (append-nil b)) st
  state_all b s (e ∷ a) st x =
      subst (λ l. IsState g m l (see_all g u m (s ++ newly_seen g u m s e) a)) (append_assoc b (e ∷ []) a)
      (state_all (b ++ e ∷ []) (s ++ newly_seen g u m s e) a (state_more b s e st x.0) x.1)

  pub run_state : (a : List Event) → IsRun g m a → IsState g m a (seen_in g u m a)
  run_state a x = state_all [] [] a (record { seen_made = λ i h. absurd h; expanded_made = λ n y h. absurd (cc) }) x

pub named_at : (n : List ℕ) (m k : ℕ) (ns : List (List ℕ)) (ms : List ℕ) → IsAt n k ns → IsAt m k ms → IsIn (record { name = n; module_no = m }) (named ns ms)
named_at n m k [] ms h i = absurd h
named_at n m k (a ∷ ns) [] h i = absurd i
named_at n m zero (a ∷ ns) (b ∷ ms) h i = inl (λ t. record { name = h t; module_no = i t })
named_at n m (suc k) (a ∷ ns) (b ∷ ms) h i = inr (named_at n m k ns ms h i)

pub at_named : (j : Instance) (ns : List (List ℕ)) (ms : List ℕ) → IsIn j (named ns ms) → (k : ℕ) × IsAt j.name k ns × IsAt j.module_no k ms
at_named j [] ms h = absurd h
at_named j (a ∷ ns) [] h = absurd h
at_named j (a ∷ ns) (b ∷ ms) (inl e) = (0, ap (λ (i : Instance). i.name) e, ap (λ (i : Instance). i.module_no) e)
at_named j (a ∷ ns) (b ∷ ms) (inr h) = let r = at_named j ns ms h in (suc r.0, r.1, r.2)
